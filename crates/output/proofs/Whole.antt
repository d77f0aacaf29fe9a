-- The law of a whole writer: clear, any run of puts, finish. Assumes nothing.
use Rattle.std.specs.Prelude.{Some, None, Option}
use mathlib.Core.Path.{◌≡◌, refl, sym, ap, ◌∙◌}
use mathlib.Core.List.{[], ◌∷◌, ◌++◌, append_assoc, append-nil}
use mathlib.Core.Bool.{Bool, true, false, ◌&&◌}
use Prim.Native.Nat.{ℕ, zero, suc, ◌+◌, ◌-◌, ◌≤◌, ◌<◌}
use native.Mathlib.Omega.{arith}
use native.Mathlib.Nat.{sub-zero, zero-add}
use borrow.Author.Tests.{lt-ltb, ltb-true, ltb-false, leb-true, le-leb, lt-leb}
use lib.ListN.{length, set, take, length-append, length-replicate}
use lib.Seq.{set-append_seam, take_at}
use lib.Dec.{ltb, leb}
use Rattle.terms.specs.Ascii.{Bytes}
use Rattle.terms.specs.Words.{pick}
use Rattle.output.specs.Ended.{Output}
use Rattle.output.specs.Output.{zero_bytes, padded, Fits}
use Rattle.output.specs.Pen.{Pen, pen, step, put, Wrote, within, finished_of, Finishes, output_of, answer_of}
use Rattle.output.proofs.Writing.{kept}

-- ## Where the pen ends
-- a count that stops one past the size limit
abbrev counted : ℕ → ℕ
counted n = pick (leb n 16777215) n 16777216

stays : (l x : Bytes) → (put (pen l 16777216) x).at ≡ 16777216
unfolding put step
stays l [] = refl
stays l (b ∷ x) = stays l x

ends : (l : Bytes) (at : ℕ) (x : Bytes) → at ≤ 16777215 → (put (pen l at) x).at ≡ counted (at + length x)
unfolding put step
ends l at [] h = let e : at + 0 ≡ at = omega arith in rw (e, le-leb at 16777215 h)
ends l at (b ∷ x) h = go (ltb at 16777215) refl (λ (g : at < 16777215). ends (set l at b) (at + 1) x (omega arith))
  where
    go : (t : Bool) → ltb at 16777215 ≡ t → (at < 16777215 → (put (pen (set l at b) (at + 1)) x).at ≡ counted (at + 1 + length x)) → (put (pick t (pen (set l at b) (at + 1)) (pen l 16777216)) x).at ≡ counted (at + suc (length x))
    go true e i =
        let q : at + suc (length x) ≡ at + 1 + length x = omega arith in
        rw q (i (ltb-true at 16777215 e))
    go false e i =
        let g = ltb-false at 16777215 e in
        rw (lt-leb (at + suc (length x)) 16777215 (omega arith)) (stays l x)

-- ## What stands there: the writing, and zeros behind it
step_in : (l : Bytes) (at b : ℕ) → at < 16777215 → step (pen l at) b ≡ pen (set l at b) (at + 1)
unfolding step
step_in l at b h = rw (lt-ltb at 16777215 h)

-- behind what was put already, p, with k places left
lies : (p : Bytes) (k : ℕ) (x : Bytes) → length p + length x ≤ 16777215 → length x ≤ k → (put (pen (p ++ zero_bytes k) (length p)) x).out ≡ (p ++ x) ++ zero_bytes (k - length x)
unfolding put
lies p k [] h g = rw (sub-zero, append-nil)
lies p zero (b ∷ x) h g = absurd (omega arith)
lies p (suc k) (b ∷ x) h g =
    let p' = p ++ (b ∷ []) in
    let e : length p + 1 ≡ length p' = sym (length-append p (b ∷ [])) in
    let o : set (p ++ (0 ∷ zero_bytes k)) (length p) b ≡ p' ++ zero_bytes k = set-append_seam p 0 (zero_bytes k) b ∙ sym (append_assoc p (b ∷ []) (zero_bytes k)) in
    let s : suc k - suc (length x) ≡ k - length x = omega arith in
    let g' : length p' + length x ≤ 16777215 = omega arith in
    let f : step (pen (p ++ (0 ∷ zero_bytes k)) (length p)) b ≡ pen (p' ++ zero_bytes k) (length p') = step_in (p ++ (0 ∷ zero_bytes k)) (length p) b (omega arith) ∙ ap (λ (l : Bytes). pen l (length p + 1)) o ∙ ap (pen (p' ++ zero_bytes k)) e in
    ap (λ (q : Pen). (put q x).out) f
    ∙ lies p' k x g' (omega arith)
    ∙ ap (λ (l : Bytes). l ++ zero_bytes (k - length x)) (append_assoc p (b ∷ []) x)
    ∙ ap (λ (n : ℕ). (p ++ (b ∷ x)) ++ zero_bytes n) (sym s)

-- ## What `finish` tests
within-fits : (lent : ℕ) (x : Bytes) → within lent (length x) ≡ true → Fits lent x
within-fits lent x e = go (leb (length x) 16777215) refl e
  where
    go : (t : Bool) → leb (length x) 16777215 ≡ t → (t && leb (length x) lent) ≡ true → Fits lent x
    go true s e = record { size = leb-true (length x) 16777215 s; room = leb-true (length x) lent e }
    go false s e = absurd (let z : ◌≡◌ {A = ℕ} 0 1 = cc in omega arith)

fits-within : (lent : ℕ) (x : Bytes) → Fits lent x → within lent (length x) ≡ true
fits-within lent x f = rw (le-leb (length x) 16777215 f.size, le-leb (length x) lent f.room)

within-no : (lent : ℕ) (x : Bytes) → within lent (length x) ≡ false → Fits lent x → ⊥
within-no lent x e f = let c : true ≡ false = sym (fits-within lent x f) ∙ e in let z : ◌≡◌ {A = ℕ} 0 1 = cc in omega arith

no_within : (lent : ℕ) (x : Bytes) → (Fits lent x → ⊥) → within lent (length x) ≡ false
no_within lent x f = go (within lent (length x)) refl
  where
    go : (t : Bool) → within lent (length x) ≡ t → t ≡ false
    go true e = absurd (f (within-fits lent x e))
    go false e = refl

-- by its two ends
module _ (l : Bytes) (at : ℕ) where
  pub finishes-kept : within (length l) at ≡ true → Finishes l at l (Some at)
  unfolding finished_of
  finishes-kept e = record { bytes = rw e; answers = rw e }

  pub finishes_zero : within (length l) at ≡ false → {left : Bytes} → left ≡ zero_bytes (length l) → Finishes l at left None
  unfolding finished_of
  finishes_zero e z = record { bytes = rw e z; answers = rw e }

-- what it leaves and answers is settled
pub finishes-one : {l left left' : Bytes} {at : ℕ} {answer answer' : Option ℕ} → Finishes l at left answer → Finishes l at left' answer' → (left ≡ left') × (answer ≡ answer')
finishes-one f g = (f.bytes ∙ sym g.bytes, f.answers ∙ sym g.answers)

-- ## From zeros, at the front: the two ends that `finish` tells apart
module _ (lent : ℕ) (x l : Bytes) (at : ℕ) (u : Wrote (pen (zero_bytes lent) 0) x (pen l at)) where
  -- the place is the count of the bytes
  place_is : at ≡ counted (length x)
  place_is = ap (λ (p : Pen). p.at) (sym u.is) ∙ ends (zero_bytes lent) 0 x (omega arith) ∙ ap counted (zero-add (length x))

  lent_is : length l ≡ lent
  lent_is = kept u ∙ length-replicate lent 0

  -- so its test is that of the whole writing
  within_same : within (length l) at ≡ within lent (length x)
  within_same = rw (lent_is, place_is) (go (leb (length x) 16777215) refl)
    where
      go : (t : Bool) → leb (length x) 16777215 ≡ t → within lent (counted (length x)) ≡ within lent (length x)
      go true e = rw (e, e)
      go false e = rw e

  -- a place that passes it is the writing's length, and what stands there is the writing
  the_place_of : within lent (length x) ≡ true → at ≡ length x
  the_place_of e = place_is ∙ go (leb (length x) 16777215) e
    where
      go : (t : Bool) → (t && leb (length x) lent) ≡ true → pick t (length x) 16777216 ≡ length x
      go true e = refl
      go false e = absurd (let z : ◌≡◌ {A = ℕ} 0 1 = cc in omega arith)

  stands : within lent (length x) ≡ true → l ≡ padded lent x
  stands e =
      let f = within-fits lent x e in
      ap (λ (p : Pen). p.out) (sym u.is) ∙ lies [] lent x (omega (arith, f.size)) f.room

  -- so what `finish` leaves and answers is the whole writer's
  ends-whole : {left : Bytes} {answer : Option ℕ} → Finishes l at left answer → (left ≡ output_of lent x) × (answer ≡ answer_of lent x)
  unfolding output_of finished_of
  ends-whole {left} {answer} f = go (within lent (length x)) refl
    where
      go : (t : Bool) → within lent (length x) ≡ t → (left ≡ pick (within lent (length x)) (padded lent x) (zero_bytes lent)) × (answer ≡ pick (within lent (length x)) (Some (length x)) None)
      go true e =
          let w = within_same ∙ e in
          (f.bytes ∙ rw w (rw e (stands e)), f.answers ∙ rw w (rw e (ap Some (the_place_of e))))
      go false e =
          let w = within_same ∙ e in
          (f.bytes ∙ rw w (rw e (ap zero_bytes lent_is)), f.answers ∙ rw w (rw e))

-- ## THE LAWS of a whole writer
-- what it leaves and answers is an output of the writing
pub output-is : (lent : ℕ) (x : Bytes) → Output lent x (output_of lent x) (answer_of lent x)
unfolding output_of finished_of
output-is lent x = record {
  good = λ h. let e = fits-within lent x h in rw e (refl, refl);
  refused = λ h. let e = no_within lent x h in rw e (refl, refl);
}

-- no other is: the outcome is settled
pub output-only : {lent : ℕ} {x out : Bytes} {answer : Option ℕ} → Output lent x out answer → (out ≡ output_of lent x) × (answer ≡ answer_of lent x)
unfolding output_of finished_of
output-only {lent} {x} {out} {answer} o = go (within lent (length x)) refl
  where
    go : (t : Bool) → within lent (length x) ≡ t → (out ≡ pick (within lent (length x)) (padded lent x) (zero_bytes lent)) × (answer ≡ pick (within lent (length x)) (Some (length x)) None)
    go true e = rw e (o.good (within-fits lent x e))
    go false e = rw e (o.refused (within-no lent x e))

-- no two outcomes are outputs of one writing
pub output-one : {lent : ℕ} {x out out' : Bytes} {answer answer' : Option ℕ} → Output lent x out answer → Output lent x out' answer' → (out ≡ out') × (answer ≡ answer')
output-one o o' =
    let a = output-only o in
    let b = output-only o' in
    (a.0 ∙ sym b.0, a.1 ∙ sym b.1)

-- THE THEOREM that a writer's proof ends with. An output of `lent` bytes was cleared, the bytes x were put from its front on by any run of
-- puts, and `finish` ended it: the outcome is the output of x
pub written : {lent : ℕ} {cleared x full left : Bytes} {at : ℕ} {answer : Option ℕ} → cleared ≡ zero_bytes lent → Wrote (pen cleared 0) x (pen full at) → Finishes full at left answer → Output lent x left answer
written {lent} {cleared} {x} {full} {left} {at} {answer} z u f =
    let w = ends-whole lent x full at (rw z at u) f in
    rw (w.0, w.1) (output-is lent x)

-- ## By what the program answered
module _ {lent : ℕ} {x out : Bytes} where
  -- `Some n`: it fits, n bytes are its length, and the output holds it
  pub answered-written : {n : ℕ} → Output lent x out (Some n) → Fits lent x × (n ≡ length x) × (out ≡ padded lent x)
  answered-written {n} o = go (within lent (length x)) refl
    where
      go : (t : Bool) → within lent (length x) ≡ t → Fits lent x × (n ≡ length x) × (out ≡ padded lent x)
      go true e = let f = within-fits lent x e in let w = o.good f in (f, (let q = w.1 in cc), w.0)
      go false e = absurd (let w = (o.refused (within-no lent x e)).1 in let z : ◌≡◌ {A = ℕ} 0 1 = cc in omega arith)

  -- so its first n bytes are the writing
  pub written-reads : {n : ℕ} → Output lent x out (Some n) → take n out ≡ x
  written-reads {n} o =
      let w = answered-written o in
      rw w.2 (take_at x (zero_bytes (lent - length x)) n (sym w.1))

  -- `None`: it does not fit, and the output is zero
  pub answered_too-long : Output lent x out None → (Fits lent x → ⊥) × (out ≡ zero_bytes lent)
  answered_too-long o =
      let no : Fits lent x → ⊥ = λ f. (let w = (o.good f).1 in let z : ◌≡◌ {A = ℕ} 0 1 = cc in omega arith) in
      (no, (o.refused no).0)
