-- The kind of a line of an MDF, by what it says: in each edition. Assumes nothing.
use mathlib.Core.Path.{◌≡◌, refl, sym, ap, ◌∙◌}
use mathlib.Core.List.{List, [], ◌∷◌, nil≢cons, cons≢nil, tail-eq_of_cons-eq}
use mathlib.Core.Bool.{Bool, true, false}
use Prim.Native.Nat.{ℕ, zero, suc, ◌≤◌}
use native.Mathlib.Omega.{arith}
use lib.Dec.{eqb, ltb}
use borrow.Author.Tests.{ltb-true, ne_eqb}
use Rattle.terms.specs.Ascii.{Bytes, ascii}
use Rattle.terms.specs.Words.{pick}
use Rattle.scan.specs.Reach.{begins, same_bytes_of}
use Rattle.word.specs.Keywords.{mdf_keywords}
use Rattle.word.specs.Number.{index_of, digit_first}
use Rattle.line.specs.Line.{Field}
use Rattle.line.specs.Forms.{fields_at, fields_in_of, span_at_of, filled, count_of, listed}
use Rattle.line.proofs.Spans.{fields-listed}
use Rattle.law.specs.Network.{Edition, Said, Line, word, numbers, SpellFields, reading, Says}
use Rattle.find_line.specs.FoundLines.{first_of, first_order_of, digit_kind_of, mdf_line_kind_of}
use Rattle.find_line.proofs.FirstFields.{first-is, no-first}
use Rattle.expected_references.specs.Named.{body_of, field_on_of}
use Rattle.expected_named.proofs.LineFields.{numbers-first, body-fields, on-first}

-- ## How many fields there are
module _ (n : ℕ) (s : Bytes) where
  abbrev stop : ℕ
  stop = (span_at_of s 0).stop

  abbrev behind_it_lem : ℕ
  behind_it_lem = (span_at_of s stop).stop

  none-count : fields_at n s ≡ [] → (fields_in_of s).count ≡ 0
  none-count e = go (fields_in_of s).count (fields-listed n s)
    where
      go : (k : ℕ) → fields_at n s ≡ listed n s (fields_in_of s) k → k ≡ 0
      go zero q = refl
      go (suc zero) q = absurd (cons≢nil (sym q ∙ e))
      go (suc (suc zero)) q = absurd (cons≢nil (sym q ∙ e))
      go (suc (suc (suc zero))) q = absurd (cons≢nil (sym q ∙ e))
      go (suc (suc (suc (suc k)))) q = absurd (cons≢nil (sym q ∙ e))

  one-count : (f : Field) → fields_at n s ≡ f ∷ [] → (fields_in_of s).count ≡ 1
  one-count f e = go (fields_in_of s).count (fields-listed n s)
    where
      go : (k : ℕ) → fields_at n s ≡ listed n s (fields_in_of s) k → k ≡ 1
      go zero q = absurd (nil≢cons (sym q ∙ e))
      go (suc zero) q = refl
      go (suc (suc zero)) q = absurd (cons≢nil (tail-eq_of_cons-eq (sym q ∙ e)))
      go (suc (suc (suc zero))) q = absurd (cons≢nil (tail-eq_of_cons-eq (sym q ∙ e)))
      go (suc (suc (suc (suc k)))) q = absurd (cons≢nil (tail-eq_of_cons-eq (sym q ∙ e)))

  more-count : (f g : Field) (fs : List Field) → fields_at n s ≡ f ∷ g ∷ fs → 2 ≤ (fields_in_of s).count
  more-count f g fs e = go (fields_in_of s).count (fields-listed n s)
    where
      go : (k : ℕ) → fields_at n s ≡ listed n s (fields_in_of s) k → 2 ≤ k
      go zero q = absurd (nil≢cons (sym q ∙ e))
      go (suc zero) q = absurd (nil≢cons (tail-eq_of_cons-eq (sym q ∙ e)))
      go (suc (suc k)) q = omega arith

  -- a first field that begins with a digit is a goal's where it is alone, a limit's where there are more
  alone : (f : Field) → fields_at n s ≡ f ∷ [] → digit_kind_of s stop ≡ 11
  unfolding digit_kind_of fields_in_of count_of
  alone f e = go (filled (span_at_of s 0)) (filled (span_at_of s stop)) (filled (span_at_of s behind_it_lem)) (filled (span_at_of s (span_at_of s behind_it_lem).stop)) (one-count f e)
    where
      go : (x y z w : Bool) → ◌≡◌ {A = ℕ} (pick x (pick y (pick z (pick w 4 3) 2) 1) 0) 1 → ◌≡◌ {A = ℕ} (pick y 12 11) 11
      go x false z w q = refl
      go true true true true q = absurd (omega arith)
      go true true true false q = absurd (omega arith)
      go true true false w q = absurd (omega arith)
      go false true z w q = absurd (omega arith)

  among-more : (f g : Field) (fs : List Field) → fields_at n s ≡ f ∷ g ∷ fs → digit_kind_of s stop ≡ 12
  unfolding digit_kind_of fields_in_of count_of
  among-more f g fs e = go (filled (span_at_of s 0)) (filled (span_at_of s stop)) (filled (span_at_of s behind_it_lem)) (filled (span_at_of s (span_at_of s behind_it_lem).stop)) (more-count f g fs e)
    where
      go : (x y z w : Bool) → 2 ≤ pick x (pick y (pick z (pick w 4 3) 2) 1) 0 → ◌≡◌ {A = ℕ} (pick y 12 11) 12
      go x true z w q = refl
      go true false z w q = absurd (omega arith)
      go false false z w q = absurd (omega arith)

-- ## The kind by the first field
no-order : (s : Bytes) → first_of s ≡ [] → first_order_of s ≡ 13
unfolding first_order_of begins index_of mdf_keywords same_bytes_of ascii
no-order s e = rw e refl

digit-order : (s : Bytes) → digit_first (first_of s) ≡ true → first_order_of s ≡ digit_kind_of s (span_at_of s 0).stop
unfolding first_order_of
digit-order s e = rw e refl

other-order : (s : Bytes) → digit_first (first_of s) ≡ false → eqb (first_order_of s) 12 ≡ false
unfolding first_order_of
other-order s e = rw e (go (index_of (first_of s) mdf_keywords) (ltb (index_of (first_of s) mdf_keywords) 11) refl)
  where
    go : (k : ℕ) (t : Bool) → ltb k 11 ≡ t → eqb (pick t k 13) 12 ≡ false
    go k true q = let h = ltb-true k 11 q in ne_eqb k 12 (λ (e : k ≡ 12). omega arith)
    go k false q = refl

-- ## By what is said
module _ (d : Edition) {start : ℕ} {l : Bytes} where
  pub blank-order : Says (reading d) start l [] → mdf_line_kind_of l ≡ 13
  unfolding mdf_line_kind_of
  blank-order h = go h.fields refl h.spelled
    where
      go : (fs : List Field) → h.fields ≡ fs → SpellFields d fs [] → first_order_of (body_of l) ≡ 13
      go [] e s = no-order (body_of l) (no-first (body_of l) (none-count start (body_of l) (body-fields d h ∙ e)))
      go (f ∷ fs) e s = absurd s

  first_on : {said : Line} (h : Says (reading d) start l said) (f : Field) (fs : List Field) → h.fields ≡ f ∷ fs → first_of (body_of l) ≡ f.bytes
  unfolding field_on_of
  first_on h f fs e = first-is (body_of l) ∙ on-first d h f fs e

  -- a word is not a limit's first field
  pub word-order : (w : Bytes) (others : Line) → digit_first w ≡ false → Says (reading d) start l (word w ∷ others) → eqb (mdf_line_kind_of l) 12 ≡ false
  unfolding mdf_line_kind_of
  word-order w others e h = go h.fields refl h.spelled
    where
      go : (fs : List Field) → h.fields ≡ fs → SpellFields d fs (word w ∷ others) → eqb (first_order_of (body_of l)) 12 ≡ false
      go [] q s = absurd s
      go (f ∷ fs) q s = other-order (body_of l) (ap digit_first (first_on h f fs q ∙ s.0) ∙ e)

  pub goal-order : (n : ℕ) (i : List ℕ) → Says (reading d) start l (numbers (n ∷ i) ∷ []) → mdf_line_kind_of l ≡ 11
  unfolding mdf_line_kind_of
  goal-order n i h = go h.fields refl h.spelled
    where
      go : (fs : List Field) → h.fields ≡ fs → SpellFields d fs (numbers (n ∷ i) ∷ []) → first_order_of (body_of l) ≡ 11
      go [] q s = absurd s
      go (f ∷ []) q s = digit-order (body_of l) (ap digit_first (first_on h f [] q ∙ s.0.0) ∙ numbers-first n i) ∙ alone start (body_of l) f (body-fields d h ∙ q)
      go (f ∷ g ∷ fs) q s = absurd s.1

  pub limit_order : (n : ℕ) (i : List ℕ) (a : Said) (others : Line) → Says (reading d) start l (numbers (n ∷ i) ∷ a ∷ others) → mdf_line_kind_of l ≡ 12
  unfolding mdf_line_kind_of
  limit_order n i a others h = go h.fields refl h.spelled
    where
      go : (fs : List Field) → h.fields ≡ fs → SpellFields d fs (numbers (n ∷ i) ∷ a ∷ others) → first_order_of (body_of l) ≡ 12
      go [] q s = absurd s
      go (f ∷ []) q s = absurd s.1
      go (f ∷ g ∷ fs) q s = digit-order (body_of l) (ap digit_first (first_on h f (g ∷ fs) q ∙ s.0.0) ∙ numbers-first n i) ∙ among-more start (body_of l) f g fs (body-fields d h ∙ q)
