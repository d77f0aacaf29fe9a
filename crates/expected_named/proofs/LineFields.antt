-- The kind and the fields of a line, by what it says: in each edition. Assumes nothing.
use Rattle.std.specs.Prelude.{Some}
use mathlib.Core.Path.{◌≡◌, refl, sym, ap, ◌∙◌}
use mathlib.Core.List.{List, [], ◌∷◌, ◌++◌, head-eq_of_cons-eq, tail-eq_of_cons-eq, nil≢cons, cons≢nil}
use mathlib.Core.Bool.{true}
use Prim.Native.Nat.{ℕ, zero, suc, ◌≤◌}
use native.Mathlib.Omega.{arith}
use lib.ListN.{take}
use lib.Seq.{take-take, length-take-le}
use Rattle.terms.specs.Ascii.{Bytes, ascii}
use Rattle.terms.proofs.Tests.{clash}
use Rattle.scan.specs.Allowed.{digit}
use Rattle.scan.specs.Reach.{up_to, begins, same_bytes_of}
use Rattle.scan.proofs.Reach.{up_to_le}
use Rattle.word.specs.Keywords.{rndf_keywords, mdf_keywords}
use Rattle.word.specs.Number.{index_of, digit_first}
use Rattle.line.specs.Line.{Field}
use Rattle.line.specs.Lines.{trim_of}
use Rattle.line.specs.Forms.{opens, outer_of, fields_at, fields_in_of, listed, part}
use Rattle.line.proofs.Ends.{trim_le, trim-take, ended_is}
use Rattle.line.proofs.Comments.{outer-at}
use Rattle.line.proofs.Contents.{content-fields}
use Rattle.line.proofs.Spans.{fields-listed}
use Rattle.number.specs.Decimal.{decimal}
use Rattle.number.specs.House.{house_integer, house_triple}
use Rattle.number.specs.Executable.{the_integer_of, triple_of}
use Rattle.number.proofs.House.{house-integer-first}
use Rattle.number.proofs.Integers.{integer-only}
use Rattle.number.proofs.Identifiers.{triple-only}
use Rattle.law.specs.Network.{Edition, Said, Line, word, name, numbers, dotted, SpellFields, reading, Says}
use Rattle.judge.specs.RndfLine.{rndf_kind}
use Rattle.find_line.specs.FoundLines.{fields_end_of, first_of, rndf_line_kind_of, first_order_of}
use Rattle.find_line.proofs.FirstFields.{first-is, no-first}
use Rattle.expected_references.specs.Named.{body_of, field_on_of, number_on_of, number_in}
use Rattle.expected_references.proofs.Listed.{in_dots}

-- ## Fields by their number
module _ (n : ℕ) (s : Bytes) where
  first_field : (f : Field) (fs : List Field) → fields_at n s ≡ f ∷ fs → part s (fields_in_of s).a ≡ f.bytes
  first_field f fs e = go (fields_in_of s).count (fields-listed n s)
    where
      go : (k : ℕ) → fields_at n s ≡ listed n s (fields_in_of s) k → part s (fields_in_of s).a ≡ f.bytes
      go zero q = absurd (nil≢cons (sym q ∙ e))
      go (suc zero) q = ap (λ (x : Field). x.bytes) (head-eq_of_cons-eq (sym q ∙ e))
      go (suc (suc zero)) q = ap (λ (x : Field). x.bytes) (head-eq_of_cons-eq (sym q ∙ e))
      go (suc (suc (suc zero))) q = ap (λ (x : Field). x.bytes) (head-eq_of_cons-eq (sym q ∙ e))
      go (suc (suc (suc (suc k)))) q = ap (λ (x : Field). x.bytes) (head-eq_of_cons-eq (sym q ∙ e))

  second-field : (f g : Field) (fs : List Field) → fields_at n s ≡ f ∷ g ∷ fs → part s (fields_in_of s).b ≡ g.bytes
  second-field f g fs e = go (fields_in_of s).count (fields-listed n s)
    where
      go : (k : ℕ) → fields_at n s ≡ listed n s (fields_in_of s) k → part s (fields_in_of s).b ≡ g.bytes
      go zero q = absurd (nil≢cons (sym q ∙ e))
      go (suc zero) q = absurd (nil≢cons (tail-eq_of_cons-eq (sym q ∙ e)))
      go (suc (suc zero)) q = ap (λ (x : Field). x.bytes) (head-eq_of_cons-eq (tail-eq_of_cons-eq (sym q ∙ e)))
      go (suc (suc (suc zero))) q = ap (λ (x : Field). x.bytes) (head-eq_of_cons-eq (tail-eq_of_cons-eq (sym q ∙ e)))
      go (suc (suc (suc (suc k)))) q = ap (λ (x : Field). x.bytes) (head-eq_of_cons-eq (tail-eq_of_cons-eq (sym q ∙ e)))

  third-field : (f g h : Field) (fs : List Field) → fields_at n s ≡ f ∷ g ∷ h ∷ fs → part s (fields_in_of s).c ≡ h.bytes
  third-field f g h fs e = go (fields_in_of s).count (fields-listed n s)
    where
      go : (k : ℕ) → fields_at n s ≡ listed n s (fields_in_of s) k → part s (fields_in_of s).c ≡ h.bytes
      go zero q = absurd (nil≢cons (sym q ∙ e))
      go (suc zero) q = absurd (nil≢cons (tail-eq_of_cons-eq (sym q ∙ e)))
      go (suc (suc zero)) q = absurd (nil≢cons (tail-eq_of_cons-eq (tail-eq_of_cons-eq (sym q ∙ e))))
      go (suc (suc (suc zero))) q = ap (λ (x : Field). x.bytes) (head-eq_of_cons-eq (tail-eq_of_cons-eq (tail-eq_of_cons-eq (sym q ∙ e))))
      go (suc (suc (suc (suc k)))) q = ap (λ (x : Field). x.bytes) (head-eq_of_cons-eq (tail-eq_of_cons-eq (tail-eq_of_cons-eq (sym q ∙ e))))

  no_field : fields_at n s ≡ [] → (fields_in_of s).count ≡ 0
  no_field e = go (fields_in_of s).count (fields-listed n s)
    where
      go : (k : ℕ) → fields_at n s ≡ listed n s (fields_in_of s) k → k ≡ 0
      go zero q = refl
      go (suc zero) q = absurd (cons≢nil (sym q ∙ e))
      go (suc (suc zero)) q = absurd (cons≢nil (sym q ∙ e))
      go (suc (suc (suc zero))) q = absurd (cons≢nil (sym q ∙ e))
      go (suc (suc (suc (suc k)))) q = absurd (cons≢nil (sym q ∙ e))

-- ## Numbers begin with a digit
begins-longer : (a r : Bytes) → begins digit a ≡ true → begins digit (a ++ r) ≡ true
unfolding begins
begins-longer [] r e = clash (sym e)
begins-longer (b ∷ a) r e = e

decimal-first : (n : ℕ) → digit_first (decimal n) ≡ true
unfolding house_integer
decimal-first n = house-integer-first n

pub numbers-first : (n : ℕ) (i : List ℕ) → digit_first (dotted (n ∷ i)) ≡ true
numbers-first n [] = decimal-first n
numbers-first n (m ∷ i) = begins-longer (decimal n) (ascii "." ++ dotted (m ∷ i)) (decimal-first n)

digit-kind : (w : Bytes) → digit_first w ≡ true → rndf_kind w ≡ 29
unfolding rndf_kind
digit-kind w e = rw e refl

no_kind : rndf_kind [] ≡ 30
unfolding rndf_kind begins index_of rndf_keywords same_bytes_of ascii
no_kind = refl

no-order : (s : Bytes) → first_of s ≡ [] → first_order_of s ≡ 13
unfolding first_order_of begins index_of mdf_keywords same_bytes_of ascii
no-order s e = rw e refl

-- ## A line that says something
module _ (d : Edition) {start : ℕ} {l : Bytes} {said : Line} (h : Says (reading d) start l said) where
  body_outer : body_of l ≡ outer_of h.content
  unfolding fields_end_of
  body_outer =
      let c = take (trim_of l) l in
      let short : up_to opens c ≤ trim_of l = omega (arith, up_to_le opens c, length-take-le (trim_of l) l (trim_le l)) in
      sym (take-take (up_to opens c) (trim_of l) l short) ∙ sym (outer-at c) ∙ ap outer_of (trim-take l ∙ ended_is h.ended)

  pub body-fields : fields_at start (body_of l) ≡ h.fields
  body-fields = ap (fields_at start) body_outer ∙ content-fields h.fielded

  pub on-first : (f : Field) (fs : List Field) → h.fields ≡ f ∷ fs → field_on_of 0 l ≡ f.bytes
  unfolding field_on_of
  on-first f fs e = first_field start (body_of l) f fs (body-fields ∙ e)

  pub on-second : (f g : Field) (fs : List Field) → h.fields ≡ f ∷ g ∷ fs → field_on_of 1 l ≡ g.bytes
  unfolding field_on_of
  on-second f g fs e = second-field start (body_of l) f g fs (body-fields ∙ e)

  pub on-third : (f g k : Field) (fs : List Field) → h.fields ≡ f ∷ g ∷ k ∷ fs → field_on_of 2 l ≡ k.bytes
  unfolding field_on_of
  on-third f g k fs e = third-field start (body_of l) f g k fs (body-fields ∙ e)

  pub kind-first : rndf_line_kind_of l ≡ rndf_kind (first_of (body_of l))
  unfolding rndf_line_kind_of
  kind-first = refl

  first_on : (f : Field) (fs : List Field) → h.fields ≡ f ∷ fs → first_of (body_of l) ≡ f.bytes
  first_on f fs e = first-is (body_of l) ∙ first_field start (body_of l) f fs (body-fields ∙ e)

-- ## By what is said
module _ (d : Edition) {start : ℕ} {l : Bytes} where
  -- blank
  pub blank-kind : Says (reading d) start l [] → rndf_line_kind_of l ≡ 30
  blank-kind h = go h.fields refl h.spelled
    where
      go : (fs : List Field) → h.fields ≡ fs → SpellFields d fs [] → rndf_line_kind_of l ≡ 30
      go [] e s = kind-first d h ∙ ap rndf_kind (no-first (body_of l) (no_field start (body_of l) (body-fields d h ∙ e))) ∙ no_kind
      go (f ∷ fs) e s = absurd s

  -- a keyword
  pub word-kind : (w : Bytes) (others : Line) → Says (reading d) start l (word w ∷ others) → rndf_line_kind_of l ≡ rndf_kind w
  word-kind w others h = go h.fields refl h.spelled
    where
      go : (fs : List Field) → h.fields ≡ fs → SpellFields d fs (word w ∷ others) → rndf_line_kind_of l ≡ rndf_kind w
      go [] e s = absurd s
      go (f ∷ fs) e s = kind-first d h ∙ ap rndf_kind (first_on d h f fs e ∙ s.0)

  -- a point
  pub point-kind : (n : ℕ) (i : List ℕ) (others : Line) → Says (reading d) start l (numbers (n ∷ i) ∷ others) → rndf_line_kind_of l ≡ 29
  point-kind n i others h = go h.fields refl h.spelled
    where
      go : (fs : List Field) → h.fields ≡ fs → SpellFields d fs (numbers (n ∷ i) ∷ others) → rndf_line_kind_of l ≡ 29
      go [] e s = absurd s
      go (f ∷ fs) e s = kind-first d h ∙ digit-kind (first_of (body_of l)) (ap digit_first (first_on d h f fs e ∙ s.0.0) ∙ numbers-first n i)

  pub point-is : (x y z : ℕ) (others : Line) → Says (reading d) start l (numbers (x ∷ y ∷ z ∷ []) ∷ others) → triple_of (field_on_of 0 l) ≡ Some (record { x = x; y = y; z = z })
  unfolding house_triple
  point-is x y z others h = go h.fields refl h.spelled
    where
      go : (fs : List Field) → h.fields ≡ fs → SpellFields d fs (numbers (x ∷ y ∷ z ∷ []) ∷ others) → triple_of (field_on_of 0 l) ≡ Some (record { x = x; y = y; z = z })
      go [] e s = absurd s
      go (f ∷ fs) e s = triple-only (field_on_of 0 l) x y z (record { spelled = on-first d h f fs e ∙ s.0.0 ∙ sym (in_dots x y z); x_five_digits = s.0.1.0; y_five_digits = s.0.1.1.0; z_five_digits = s.0.1.1.1.0 })

  -- the number in the third field, as a checkpoint has it
  pub third-number : (a b : Said) (n : ℕ) (others : Line) → Says (reading d) start l (a ∷ b ∷ numbers (n ∷ []) ∷ others) → number_on_of 2 l ≡ n
  unfolding number_on_of
  third-number a b n others h = go h.fields refl h.spelled
    where
      go : (fs : List Field) → h.fields ≡ fs → SpellFields d fs (a ∷ b ∷ numbers (n ∷ []) ∷ others) → number_in (the_integer_of (field_on_of 2 l)) ≡ n
      go [] e s = absurd s
      go (f ∷ []) e s = absurd s.1
      go (f ∷ g ∷ []) e s = absurd s.1.1
      go (f ∷ g ∷ k ∷ fs) e s = ap number_in (integer-only (field_on_of 2 l) n (record { spelled = on-third d h f g k fs e ∙ s.1.1.0.0; five_digits = s.1.1.0.1.0 }))

  -- the number in the first
  pub first-number : (n : ℕ) (others : Line) → Says (reading d) start l (numbers (n ∷ []) ∷ others) → number_on_of 0 l ≡ n
  unfolding number_on_of
  first-number n others h = go h.fields refl h.spelled
    where
      go : (fs : List Field) → h.fields ≡ fs → SpellFields d fs (numbers (n ∷ []) ∷ others) → number_in (the_integer_of (field_on_of 0 l)) ≡ n
      go [] e s = absurd s
      go (f ∷ fs) e s = ap number_in (integer-only (field_on_of 0 l) n (record { spelled = on-first d h f fs e ∙ s.0.0; five_digits = s.0.1.0 }))

  -- the name in the second field
  pub second-name : (a : Said) (v : Field) (others : Line) → Says (reading d) start l (a ∷ name v ∷ others) → field_on_of 1 l ≡ v.bytes
  second-name a v others h = go h.fields refl h.spelled
    where
      go : (fs : List Field) → h.fields ≡ fs → SpellFields d fs (a ∷ name v ∷ others) → field_on_of 1 l ≡ v.bytes
      go [] e s = absurd s
      go (f ∷ []) e s = absurd s.1
      go (f ∷ g ∷ fs) e s = on-second d h f g fs e ∙ ap (λ (x : Field). x.bytes) s.1.0.0

  -- the identifier in the second
  pub second-point : (a : Said) (x y z : ℕ) (others : Line) → Says (reading d) start l (a ∷ numbers (x ∷ y ∷ z ∷ []) ∷ others) → triple_of (field_on_of 1 l) ≡ Some (record { x = x; y = y; z = z })
  unfolding house_triple
  second-point a x y z others h = go h.fields refl h.spelled
    where
      go : (fs : List Field) → h.fields ≡ fs → SpellFields d fs (a ∷ numbers (x ∷ y ∷ z ∷ []) ∷ others) → triple_of (field_on_of 1 l) ≡ Some (record { x = x; y = y; z = z })
      go [] e s = absurd s
      go (f ∷ []) e s = absurd s.1
      go (f ∷ g ∷ fs) e s = triple-only (field_on_of 1 l) x y z (record { spelled = on-second d h f g fs e ∙ s.1.0.0 ∙ sym (in_dots x y z); x_five_digits = s.1.0.1.0; y_five_digits = s.1.0.1.1.0; z_five_digits = s.1.0.1.1.1.0 })
