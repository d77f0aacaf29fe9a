-- What `fields_of` answers stands for the fields of the line. Assumes nothing.
use mathlib.Core.Path.{◌≡◌, refl, sym, ap, ◌∙◌}
use mathlib.Core.List.{List, [], ◌∷◌}
use mathlib.Core.Bool.{Bool, true, false, not}
use Prim.Native.Nat.{ℕ, zero, suc, ◌+◌, ◌≤◌, ◌<◌}
use native.Mathlib.Omega.{arith}
use native.Mathlib.Nat.{add-sub_cancel_left, add-zero}
use borrow.Author.Tests.{ltb-true, ltb-false}
use lib.ListN.{length, take, drop}
use lib.Seq.{drop-drop}
use Rattle.terms.specs.Ascii.{Bytes}
use Rattle.terms.specs.Words.{pick}
use Rattle.scan.specs.Allowed.{separates}
use Rattle.scan.specs.Reach.{up_to, reach, begins, fails, stops_by}
use Rattle.scan.specs.declared.Until.TheVariants.{Separator, NotSeparator}
use Rattle.scan.proofs.Reach.{reach_le}
use Rattle.line.specs.Content.{Field, at, parted, parted-by}
use Rattle.line.specs.Forms.{glue, fields_at, span_at_of, filled, count_of, fields_in_of, field_in, listed, SpanWithin, FieldsWithin}
use Rattle.line.specs.declared.Span.{Span}
use Rattle.line.specs.declared.Fields.{Fields}

abbrev skips : Bytes → Bool
skips = stops_by NotSeparator

abbrev parts : Bytes → Bool
parts = stops_by Separator

-- separators are nothing
skip : (n : ℕ) (l : Bytes) → fields_at (n + up_to skips l) (drop (up_to skips l) l) ≡ fields_at n l
unfolding up_to stops_by fails fields_at
skip n [] = refl
skip n (b ∷ t) = go (separates b) refl (skip (suc n) t)
  where
    go : (x : Bool) → separates b ≡ x → fields_at (suc n + up_to skips t) (drop (up_to skips t) t) ≡ fields_at (suc n) t
        → fields_at (n + pick (not x) 0 (suc (up_to skips t))) (drop (pick (not x) 0 (suc (up_to skips t))) (b ∷ t)) ≡ fields_at n (b ∷ t)
    go true e h =
        let q : n + suc (up_to skips t) ≡ suc n + up_to skips t = omega arith in
        rw (q, e) h
    go false e h = ap (λ (k : ℕ). fields_at k (b ∷ t)) (add-zero n)

-- behind them no separator stands
none_left : (l : Bytes) → begins separates (drop (up_to skips l) l) ≡ false
unfolding up_to stops_by fails begins
none_left [] = refl
none_left (b ∷ t) = go (separates b) refl (none_left t)
  where
    go : (x : Bool) → separates b ≡ x → begins separates (drop (up_to skips t) t) ≡ false → begins separates (drop (pick (not x) 0 (suc (up_to skips t))) (b ∷ t)) ≡ false
    go true e h = h
    go false e h = e

alone : (n b : ℕ) (t : Bytes) → separates b ≡ false → fields_at n (b ∷ t) ≡ glue (parted t) n b (fields_at (suc n) t)
unfolding fields_at
alone n b t e = rw e

-- a field is taken whole
whole : (n b : ℕ) (t : Bytes) → separates b ≡ false → fields_at n (b ∷ t) ≡ at n (b ∷ take (up_to parts t) t) ∷ fields_at (n + suc (up_to parts t)) (drop (up_to parts t) t)
unfolding up_to stops_by parted-by begins
whole n b [] e = alone n b [] e ∙ (unfold fields_at in refl)
whole n b (d ∷ t) e = alone n b (d ∷ t) e ∙ go (separates d) (whole (suc n) d t)
  where
    u : ℕ
    u = up_to parts t

    go : (x : Bool) → (x ≡ false → fields_at (suc n) (d ∷ t) ≡ at (suc n) (d ∷ take u t) ∷ fields_at (suc n + suc u) (drop u t))
        → glue x n b (fields_at (suc n) (d ∷ t)) ≡ at n (b ∷ take (pick x 0 (suc u)) (d ∷ t)) ∷ fields_at (n + suc (pick x 0 (suc u))) (drop (pick x 0 (suc u)) (d ∷ t))
    go true h =
        let q : suc n ≡ n + 1 = omega arith in
        ap (λ (k : ℕ). at n (b ∷ []) ∷ fields_at k (d ∷ t)) q
    go false h =
        let q : suc n + suc u ≡ n + suc (suc u) = omega arith in
        ap (glue false n b) (h refl) ∙ ap (λ (k : ℕ). at n (b ∷ d ∷ take u t) ∷ fields_at k (drop u t)) q

some_field : (n : ℕ) (l : Bytes) → begins separates l ≡ false → 0 < up_to parts l → fields_at n l ≡ at n (take (up_to parts l) l) ∷ fields_at (n + up_to parts l) (drop (up_to parts l) l)
unfolding up_to stops_by begins
some_field n [] e h = absurd (omega arith)
some_field n (b ∷ t) e h = rw e (whole n b t e)

no_field : (n : ℕ) (l : Bytes) → begins separates l ≡ false → up_to parts l ≡ 0 → fields_at n l ≡ []
unfolding up_to stops_by begins
no_field n [] e h = unfold fields_at in refl
no_field n (b ∷ t) e h = absurd (let q : suc (up_to parts t) ≡ 0 = rw e at h in omega arith)

-- `span_at_of` takes the first field off, or finds that there is none
module _ (n : ℕ) (s : Bytes) (from : ℕ) where
  skipped : fields_at (n + (span_at_of s from).start) (drop (span_at_of s from).start s) ≡ fields_at (n + from) (drop from s)
  unfolding span_at_of
  skipped =
      let u = up_to skips (drop from s) in
      let q : n + (from + u) ≡ n + from + u = omega arith in
      rw (← drop-drop u from s, q) (skip (n + from) (drop from s))

  clear : begins separates (drop (span_at_of s from).start s) ≡ false
  unfolding span_at_of
  clear = ap (begins separates) (sym (drop-drop (up_to skips (drop from s)) from s)) ∙ none_left (drop from s)

  span-some : filled (span_at_of s from) ≡ true → fields_at (n + from) (drop from s) ≡ field_in n s (span_at_of s from) ∷ fields_at (n + (span_at_of s from).stop) (drop (span_at_of s from).stop s)
  unfolding span_at_of
  span-some e =
      let a = reach skips s from in
      let u = up_to parts (drop a s) in
      let h : a < a + u = ltb-true a (a + u) e in
      let z : 0 < u = omega arith in
      let q : n + a + u ≡ n + (a + u) = omega arith in
      sym skipped ∙ some_field (n + a) (drop a s) clear z ∙ rw (add-sub_cancel_left, drop-drop u a s, q)

  span_none : filled (span_at_of s from) ≡ false → fields_at (n + from) (drop from s) ≡ []
  unfolding span_at_of
  span_none e =
      let a = reach skips s from in
      let u = up_to parts (drop a s) in
      let h : a + u ≤ a = ltb-false a (a + u) e in
      sym skipped ∙ no_field (n + a) (drop a s) clear (omega arith)

span-within : (s : Bytes) (from : ℕ) → from ≤ length s → SpanWithin s (span_at_of s from)
unfolding span_at_of
span-within s from h = record { order = omega arith; inside = reach_le parts s (reach skips s from) (reach_le skips s from h) }

-- the stretches lie within the line
pub fields_within : (s : Bytes) → FieldsWithin s (fields_in_of s)
unfolding fields_in_of
fields_within s =
    let a = span-within s 0 (omega arith) in
    let b = span-within s (span_at_of s 0).stop a.inside in
    let c = span-within s (span_at_of s (span_at_of s 0).stop).stop b.inside in
    record { first = a; second = b; third = c }

-- the first four spans
abbrev span-one : Bytes → Span
span-one s = span_at_of s 0

abbrev span-two : Bytes → Span
span-two s = span_at_of s (span-one s).stop

abbrev span-three : Bytes → Span
span-three s = span_at_of s (span-two s).stop

abbrev span_four : Bytes → Span
span_four s = span_at_of s (span-three s).stop

-- the answer stands for the line's fields
pub fields-listed : (n : ℕ) (s : Bytes) → fields_at n s ≡ listed n s (fields_in_of s) (fields_in_of s).count
unfolding fields_in_of count_of
fields-listed n s =
    ap (λ (k : ℕ). fields_at k s) (sym (add-zero n)) ∙ go (filled (span-one s)) (filled (span-two s)) (filled (span-three s)) (filled (span_four s)) refl refl refl refl
  where
    r : Fields
    r = fields_in_of s

    go : (x y z w : Bool) → filled (span-one s) ≡ x → filled (span-two s) ≡ y → filled (span-three s) ≡ z → filled (span_four s) ≡ w → fields_at (n + 0) s ≡ listed n s r (pick x (pick y (pick z (pick w 4 3) 2) 1) 0)
    go false y z w e f g h = span_none n s 0 e
    go true false z w e f g h = span-some n s 0 e ∙ ap (◌∷◌ (field_in n s (span-one s))) (span_none n s (span-one s).stop f)
    go true true false w e f g h = span-some n s 0 e ∙ ap (◌∷◌ (field_in n s (span-one s))) (span-some n s (span-one s).stop f ∙ ap (◌∷◌ (field_in n s (span-two s))) (span_none n s (span-two s).stop g))
    go true true true false e f g h = span-some n s 0 e ∙ ap (◌∷◌ (field_in n s (span-one s))) (span-some n s (span-one s).stop f ∙ ap (◌∷◌ (field_in n s (span-two s))) (span-some n s (span-two s).stop g ∙ ap (◌∷◌ (field_in n s (span-three s))) (span_none n s (span-three s).stop h)))
    go true true true true e f g h = span-some n s 0 e ∙ ap (◌∷◌ (field_in n s (span-one s))) (span-some n s (span-one s).stop f ∙ ap (◌∷◌ (field_in n s (span-two s))) (span-some n s (span-two s).stop g))

-- the count is 4 at most
pub count-le : (s : Bytes) → (fields_in_of s).count ≤ 4
unfolding fields_in_of count_of
count-le s = go (filled (span-one s)) (filled (span-two s)) (filled (span-three s)) (filled (span_four s))
  where
    go : (x y z w : Bool) → pick x (pick y (pick z (pick w 4 3) 2) 1) 0 ≤ 4
    go false y z w = omega arith
    go true false z w = omega arith
    go true true false w = omega arith
    go true true true false = omega arith
    go true true true true = omega arith

behind : (n : ℕ) (s : Bytes) → (fields_in_of s).count ≡ 4 → (g : Field) × (gs : List Field) × (fields_at (n + (fields_in_of s).c.stop) (drop (fields_in_of s).c.stop s) ≡ g ∷ gs)
unfolding fields_in_of count_of
behind n s h = go (filled (span-one s)) (filled (span-two s)) (filled (span-three s)) (filled (span_four s)) refl h
  where
    go : (x y z w : Bool) → filled (span_four s) ≡ w → ◌≡◌ {A = ℕ} (pick x (pick y (pick z (pick w 4 3) 2) 1) 0) 4 → (g : Field) × (gs : List Field) × (fields_at (n + (span-three s).stop) (drop (span-three s).stop s) ≡ g ∷ gs)
    go true true true true e h = (field_in n s (span_four s), fields_at (n + (span_four s).stop) (drop (span_four s).stop s), span-some n s (span-three s).stop e)
    go true true true false e h = absurd (omega arith)
    go true true false w e h = absurd (omega arith)
    go true false z w e h = absurd (omega arith)
    go false y z w e h = absurd (omega arith)

-- 4 says that there is a fourth field behind the three
pub a-fourth : (n : ℕ) (s : Bytes) → (fields_in_of s).count ≡ 4 → (g : Field) × (gs : List Field) × (fields_at n s ≡ field_in n s (fields_in_of s).a ∷ field_in n s (fields_in_of s).b ∷ field_in n s (fields_in_of s).c ∷ g ∷ gs)
a-fourth n s h =
    let x = behind n s h in
    let all : fields_at n s ≡ listed n s (fields_in_of s) 4 = fields-listed n s ∙ ap (listed n s (fields_in_of s)) h in
    (x.0, x.1, all ∙ ap (λ (fs : List Field). field_in n s (fields_in_of s).a ∷ field_in n s (fields_in_of s).b ∷ field_in n s (fields_in_of s).c ∷ fs) x.2)

-- so up to 3 the count is the number of fields, and 4 says at least four
pub count_exact : (n : ℕ) (s : Bytes) → (fields_in_of s).count ≤ 3 → length (fields_at n s) ≡ (fields_in_of s).count
count_exact n s h = ap length (fields-listed n s) ∙ go (fields_in_of s).count h
  where
    go : (k : ℕ) → k ≤ 3 → length (listed n s (fields_in_of s) k) ≡ k
    go zero h = refl
    go (suc zero) h = refl
    go (suc (suc zero)) h = refl
    go (suc (suc (suc zero))) h = refl
    go (suc (suc (suc (suc k)))) h = absurd (omega arith)

pub count-more : (n : ℕ) (s : Bytes) → (fields_in_of s).count ≡ 4 → 4 ≤ length (fields_at n s)
count-more n s h = let x = a-fourth n s h in omega (arith, ap length x.2)
