-- How puts are composed: every writer ensures `Wrote`, and a run of them is `none`, `_then_` and `same`. Assumes nothing.
use mathlib.Core.Path.{◌≡◌, refl, sym, ap, ◌∙◌}
use mathlib.Core.List.{[], ◌∷◌, ◌++◌}
use mathlib.Core.Bool.{Bool, true, false}
use Prim.Native.Nat.{ℕ, ◌+◌, ◌≤◌, ◌<◌}
use borrow.Author.Tests.{lt-ltb, le-ltb}
use lib.ListN.{length, set, length-set}
use lib.Dec.{ltb}
use Rattle.terms.specs.Ascii.{Bytes}
use Rattle.terms.specs.Words.{pick}
use Rattle.output.specs.Pen.{Pen, pen, step, put, Wrote}

put_append : (p : Pen) (x y : Bytes) → put p (x ++ y) ≡ put (put p x) y
unfolding put
put_append p [] y = refl
put_append p (b ∷ x) y = put_append (step p b) x y

-- ## THE LAWS of a run of puts
-- nothing was put
pub none : {p : Pen} → Wrote p [] p
unfolding put
none = record { is = refl }

-- one writing behind the other
infixl 20 ◌then◌
pub ◌then◌ : {p q s : Pen} {x y : Bytes} → Wrote p x q → Wrote q y s → Wrote p (x ++ y) s
◌then◌ {p} {q} {s} {x} {y} u v = record { is = put_append p x y ∙ ap (λ (t : Pen). put t y) u.is ∙ v.is }

-- the same bytes, said otherwise
pub same : {p q : Pen} {x y : Bytes} → x ≡ y → Wrote p x q → Wrote p y q
same e u = rw e at u

-- two pens never come of one writing
pub wrote_one : {p q s : Pen} {x : Bytes} → Wrote p x q → Wrote p x s → q ≡ s
wrote_one u v = sym u.is ∙ v.is

-- ## One byte, by its cases
pub put-inside : (l : Bytes) (at b : ℕ) → at < 16777215 → Wrote (pen l at) (b ∷ []) (pen (set l at b) (at + 1))
unfolding put step
put-inside l at b h = record { is = rw (lt-ltb at 16777215 h) }

pub put-past : (l : Bytes) (at b : ℕ) → 16777215 ≤ at → Wrote (pen l at) (b ∷ []) (pen l 16777216)
unfolding put step
put-past l at b h = record { is = rw (le-ltb at 16777215 h) }

-- ## An output keeps its length
step-length : (p : Pen) (b : ℕ) → length (step p b).out ≡ length p.out
unfolding step
step-length p b = go (ltb p.at 16777215)
  where
    go : (x : Bool) → length (pick x (pen (set p.out p.at b) (p.at + 1)) (pen p.out 16777216)).out ≡ length p.out
    go true = length-set p.out p.at b
    go false = refl

put-length : (p : Pen) (x : Bytes) → length (put p x).out ≡ length p.out
unfolding put
put-length p [] = refl
put-length p (b ∷ x) = put-length (step p b) x ∙ step-length p b

pub kept : {p q : Pen} {x : Bytes} → Wrote p x q → length q.out ≡ length p.out
kept {p} {q} {x} u = ap (λ (s : Pen). length s.out) (sym u.is) ∙ put-length p x
