-- Words on a line of their own: behind them an LF, where they are some. That they are none is seen by the pen, which stays where it is; at the size limit it stays too, but then an LF is not put either. Assumes nothing.
use mathlib.Core.Path.{◌≡◌, refl, sym, ap, ◌∙◌}
use mathlib.Core.List.{[], ◌∷◌, ◌++◌}
use mathlib.Core.Bool.{Bool, true, false}
use Prim.Native.Nat.{ℕ, suc, ◌+◌, ◌≤◌, ◌<◌}
use native.Mathlib.Omega.{arith}
use borrow.Author.Tests.{ltb-true, ltb-false, ne_eqb}
use lib.ListN.{length, set}
use lib.Dec.{ltb}
use Rattle.terms.specs.Ascii.{Bytes, ascii}
use Rattle.terms.specs.Words.{pick}
use Rattle.output.specs.Pen.{Pen, pen, step, put, Wrote}
use Rattle.output.proofs.Writing.{same, ◌then◌, put-past}
use Rattle.expected.specs.Words.{line_of}

-- ## The pen does not go back
stays : (l x : Bytes) → (put (pen l 16777216) x).at ≡ 16777216
unfolding put step
stays l [] = refl
stays l (b ∷ x) = stays l x

onward : (l : Bytes) (at : ℕ) (x : Bytes) → at ≤ 16777216 → at ≤ (put (pen l at) x).at
unfolding put step
onward l at [] h = omega arith
onward l at (b ∷ x) h = go (ltb at 16777215) refl (λ (g : at < 16777215). onward (set l at b) (at + 1) x (omega arith))
  where
    go : (t : Bool) → ltb at 16777215 ≡ t → (at < 16777215 → at + 1 ≤ (put (pen (set l at b) (at + 1)) x).at) → at ≤ (put (pick t (pen (set l at b) (at + 1)) (pen l 16777216)) x).at
    go true e i = let k = i (ltb-true at 16777215 e) in omega (arith, k)
    go false e i = let s = stays l x in omega (arith, h, s)

-- where some bytes do not move it, it is past the limit
unmoved : (l : Bytes) (at b : ℕ) (x : Bytes) → (put (pen l at) (b ∷ x)).at ≡ at → at ≡ 16777216
unfolding put step
unmoved l at b x e = go (ltb at 16777215) refl e
  where
    go : (t : Bool) → ltb at 16777215 ≡ t → (put (pick t (pen (set l at b) (at + 1)) (pen l 16777216)) x).at ≡ at → at ≡ 16777216
    go true f e = let g = ltb-true at 16777215 f in let k = onward (set l at b) (at + 1) x (omega arith) in absurd (omega (arith, e, k))
    go false f e = let s = stays l x in omega (arith, e, s)

-- ## The two ends of `put_expected_line`
pub no_line : {l m : Bytes} {at to : ℕ} (words : Bytes) → Wrote (pen l at) words (pen m to) → to ≡ at → Wrote (pen l at) (line_of words) (pen m to)
unfolding line_of ascii
no_line [] w e = w
no_line {l} {m} {at} {to} (b ∷ x) w e =
    let far : at ≡ 16777216 = unmoved l at b x (ap (λ (p : Pen). p.at) w.is ∙ e) in
    let f : 16777216 ≡ to = sym far ∙ sym e in
    let past : Wrote (pen m to) (10 ∷ []) (pen m 16777216) = put-past m to 10 (omega arith) in
    w then (rw f at past)

pub own_line : {l m k : Bytes} {at to next : ℕ} (words : Bytes) → Wrote (pen l at) words (pen m to) → (to ≡ at → ⊥) → Wrote (pen m to) (ascii "\n") (pen k next) → Wrote (pen l at) (line_of words) (pen k next)
unfolding line_of put
own_line [] w d u = absurd (d (sym (ap (λ (p : Pen). p.at) w.is)))
own_line (b ∷ x) w d u = w then u
