-- THE THEOREM of the forward walk: what becomes of a line is what the law says (`change-is`), where what the lines before have left is kept (`Keeps`); and it is kept behind each line (`step_keeps`), so going forward over all lines gives the law's list of changes (`all-forward`). Assumes nothing.
use Rattle.std.specs.Prelude.{Some, None, Option}
use mathlib.Core.Path.{◌≡◌, refl, sym, ap, ap₂, subst, ◌∙◌}
use mathlib.Core.Bool.{Bool, true, false, not, ◌&&◌}
use Prim.Native.Nat.{ℕ, zero, suc, ◌+◌, ◌-◌, ◌≤◌, ◌<◌}
use native.Mathlib.Omega.{arith}
use lib.ListN.{length, take, drop, get_or, length-drop}
use lib.Seq.{length-take-le}
use lib.Dec.{eqb, leb}
use borrow.Author.Tests.{eqb-true, eqb-false, ne_eqb, ltb-true}
use Rattle.terms.specs.Words.{List, [], ◌∷◌, map, Bytes, String, ascii, pick}
use Rattle.terms.proofs.Tests.{clash}
use Rattle.scan.specs.Allowed.{digit}
use Rattle.scan.specs.Reach.{begins, same_bytes_of}
use Rattle.scan.proofs.Equal.{same_false}
use Rattle.line.specs.Line.{Field}
use Rattle.line.specs.Lines.{lines_of, drop_cr}
use Rattle.line.specs.Content.{at}
use Rattle.line.specs.Forms.{outer_of, fields_at, span_at_of, filled, count_of, fields_in_of, part, field_in, listed}
use Rattle.line.specs.declared.Fields.{Fields}
use Rattle.line.proofs.Spans.{fields_within, fields-listed, count-le}
use Rattle.number.specs.Executable.{the_integer_of}
use Rattle.word.specs.Keywords.{rndf_keywords}
use Rattle.judge.specs.RndfLine.{rndf_kind}
use Rattle.law.specs.Network.{largest}
use Rattle.find_line.specs.FoundLines.{fields_end_of, first_of, rndf_line_kind_of}
use Rattle.find_line.proofs.FirstFields.{first-is, no-first}
use Rattle.mend_law.specs.Mend.{fields, first_field, is, one_of, count_lines, items, Change, stays, goes, recount, disagrees, corrected, recounted, the_count_change_of, since, given_again, change, LineChange, changes_from, changes}
use Rattle.mend_law.proofs.Ties.{outer-take, two-found, second-stands}
use Rattle.mend_lines.specs.declared.Before.{Before}
use Rattle.mend_lines.specs.declared.Becomes as DM
use Rattle.mend_lines.specs.declared.Becomes.TheVariants.{Stays, Goes, Recount}
use Rattle.mend_lines.specs.Forward.{none_before_of, after_of, again_of, counted_of, items_of, numbered_of, second_number_of, number_on_of, corrected_of, behind_of, counted_by, change_of}
use Rattle.mend_lines.proofs.WordKinds.{kind-is, point-is}
use Rattle.mend_lines.proofs.Steps.{Keeps, none-keeps, after-keeps, again-is}

-- the program's answer as the law has it
abbrev pub change-of : (line : Bytes) → DM.Becomes → Change
change-of line Stays = stays
change-of line (Goes k) = goes k
change-of line (Recount start stop n) = recount (at start (take (stop - start) (drop start line))) n

-- ## The first field
abbrev first-of : List Field → Bytes
first-of fs = get_or (map (λ f. f.bytes) fs) 0 []

first_found : (s : Bytes) → first-of (fields_at 0 s) ≡ first_of s
first_found s = ap first-of (fields-listed 0 s) ∙ go (fields_in_of s).count refl
  where
    go : (k : ℕ) → (fields_in_of s).count ≡ k → first-of (listed 0 s (fields_in_of s) k) ≡ first_of s
    go zero e = sym (no-first s e)
    go (suc zero) e = sym (first-is s)
    go (suc (suc zero)) e = sym (first-is s)
    go (suc (suc (suc zero))) e = sym (first-is s)
    go (suc (suc (suc (suc k)))) e = sym (first-is s)

nothing-word : ascii "" ≡ []
unfolding ascii
nothing-word = refl

nothing_is : is "" [] ≡ true
unfolding ascii same_bytes_of
nothing_is = refl

module _ (l : Bytes) where
  abbrev body : Bytes
  body = take (fields_end_of l) l

  fields-body : fields l ≡ fields_at 0 body
  fields-body = ap (fields_at 0) (outer-take l)

  first_body : first_field l ≡ first_of body
  unfolding first_field
  first_body = ap first-of fields-body ∙ first_found body

  pub kind-first : rndf_line_kind_of l ≡ rndf_kind (first_field l)
  unfolding rndf_line_kind_of
  kind-first = ap rndf_kind (sym first_body)

  -- no field, or some
  some_bytes : ((fields_in_of body).count ≡ 0 → ⊥) → 0 < length (part body (fields_in_of body).a)
  unfolding fields_in_of count_of
  some_bytes n = on (filled (span_at_of body 0)) refl
    where
      on : (x : Bool) → filled (span_at_of body 0) ≡ x → 0 < length (part body (fields_in_of body).a)
      on true e =
          let i = (fields_within body).first in
          let h = ltb-true (span_at_of body 0).start (span_at_of body 0).stop e in
          let q : length (take ((span_at_of body 0).stop - (span_at_of body 0).start) (drop (span_at_of body 0).start body)) ≡ (span_at_of body 0).stop - (span_at_of body 0).start = length-take-le ((span_at_of body 0).stop - (span_at_of body 0).start) (drop (span_at_of body 0).start body) (omega (arith, length-drop (span_at_of body 0).start body, i.inside, i.order)) in
          omega (arith, h, q)
      on false e = absurd (n (rw e refl))

  blank-is : eqb (fields_in_of body).count 0 ≡ is "" (first_field l)
  blank-is = go (eqb (fields_in_of body).count 0) refl
    where
      go : (x : Bool) → eqb (fields_in_of body).count 0 ≡ x → x ≡ is "" (first_field l)
      go true e = sym (ap (is "") (first_body ∙ no-first body (eqb-true (fields_in_of body).count 0 e)) ∙ nothing_is)
      go false e = sym (same_false (first_field l) (ascii "") (λ q. let h = some_bytes (eqb-false (fields_in_of body).count 0 e) in omega (arith, h, ap length (sym (first-is body) ∙ sym first_body ∙ q ∙ nothing-word))))

  behind-is : change-of l (behind_of l) ≡ pick (is "" (first_field l)) stays (goes 3)
  unfolding behind_of
  behind-is = through (eqb (fields_in_of body).count 0) ∙ ap (λ (x : Bool). pick x stays (goes 3)) blank-is
    where
      through : (x : Bool) → change-of l (pick x Stays (Goes 3)) ≡ pick x stays (goes 3)
      through true = refl
      through false = refl

-- ## Items
items-are : (i e : ℕ) (item : Bytes → Bool) (end : String) → ((w : Bytes) → item w ≡ eqb (rndf_kind w) i) → ((w : Bytes) → is end w ≡ eqb (rndf_kind w) e) → (ls : List Bytes) → items_of i e ls ≡ items item end (map first_field ls)
unfolding items_of items
items-are i e item end p q [] = refl
items-are i e item end p q (l ∷ ls) =
    let k = kind-first l in
    let a = ap (λ (n : ℕ). eqb n e) k ∙ sym (q (first_field l)) in
    let b = ap (λ (n : ℕ). eqb n i) k ∙ sym (p (first_field l)) in
    let r = items-are i e item end p q ls in
    λ j. pick (a j) 0 (pick (b j) (suc (r j)) (r j))

-- ## The number of a count line
module _ (l : Bytes) (w f : Field) (two : fields l ≡ w ∷ f ∷ []) where
  found : ((fields_in_of (body l)).count ≡ 2) × (w ≡ field_in 0 (body l) (fields_in_of (body l)).a) × (f ≡ field_in 0 (body l) (fields_in_of (body l)).b)
  found = two-found (body l) w f (sym (fields-body l) ∙ two)

  second-long : length f.bytes ≡ (fields_in_of (body l)).b.stop - (fields_in_of (body l)).b.start
  second-long =
      let b = (fields_in_of (body l)).b in
      let i = (fields_within (body l)).second in
      ap (λ (g : Field). length g.bytes) found.2 ∙ length-take-le (b.stop - b.start) (drop b.start (body l)) (omega (arith, length-drop b.start (body l), i.inside, i.order))

  starts : f.start ≡ (fields_in_of (body l)).b.start
  starts = ap (λ (g : Field). g.start) found.2 ∙ (let z : 0 + (fields_in_of (body l)).b.start ≡ (fields_in_of (body l)).b.start = omega arith in z)

  -- the field where the program says it stands
  field_is : at (fields_in_of (body l)).b.start (take ((fields_in_of (body l)).b.stop - (fields_in_of (body l)).b.start) (drop (fields_in_of (body l)).b.start l)) ≡ f
  field_is =
      let s = sym starts in
      let n = sym second-long in
      let b : take ((fields_in_of (body l)).b.stop - (fields_in_of (body l)).b.start) (drop (fields_in_of (body l)).b.start l) ≡ f.bytes = (λ i. take (n i) (drop (s i) l)) ∙ (second-stands l w f two).is in
      λ i. at (s i) (b i)

  number_is : (n : ℕ) → change-of l (corrected_of (number_on_of l) n) ≡ corrected f n
  unfolding number_on_of second_number_of corrected_of
  number_is n =
      (let c = found.0 in let b = ap (λ (g : Field). the_integer_of g.bytes) (sym found.2) in λ i. change-of l (corrected_of (pick (eqb (c i) 2) (numbered_of (fields_in_of (body l)).b (b i)) None) n))
      ∙ go (the_integer_of f.bytes)
    where
      on : (m : ℕ) (x y z : Bool) → change-of l (corrected_of (pick x (Some ((fields_in_of (body l)).b.start, (fields_in_of (body l)).b.stop, m)) None) n) ≡ change-of l (pick x (pick (leb n 32768) (pick (eqb m n) Stays (Recount (fields_in_of (body l)).b.start (fields_in_of (body l)).b.stop n)) Stays) Stays)
      on m true y z = refl
      on m false y z = refl

      last : (x y z : Bool) → change-of l (pick x (pick y (pick z Stays (Recount (fields_in_of (body l)).b.start (fields_in_of (body l)).b.stop n)) Stays) Stays) ≡ pick (x && (y && not z)) (recount f n) stays
      last true true true = refl
      last true true false = ap (λ (g : Field). recount g n) field_is
      last true false z = refl
      last false y z = refl

      go : (x : Option ℕ) → change-of l (corrected_of (numbered_of (fields_in_of (body l)).b x) n) ≡ pick (disagrees x n) (recount f n) stays
      go (Some m) = on m (leb m 32768) true true ∙ last (leb m 32768) (leb n 32768) (eqb m n)
      go None = refl

  -- of the six count lines
  module _ (rest : List Bytes) where
    abbrev Q : Option (ℕ × ℕ) → Change
    Q x = change-of l (counted_by x l rest)

    step : (x y : Bool) (a b : Option (ℕ × ℕ)) (c d : Change) → y ≡ x → Q a ≡ c → Q b ≡ d → Q (pick x a b) ≡ pick y c d
    step x y a b c d e p q = through x ∙ (λ i. pick (sym e i) (p i) (q i))
      where
        through : (x : Bool) → Q (pick x a b) ≡ pick x (Q a) (Q b)
        through true = refl
        through false = refl

    one : (i e : ℕ) (item : Bytes → Bool) (end : String) → ((v : Bytes) → item v ≡ eqb (rndf_kind v) i) → ((v : Bytes) → is end v ≡ eqb (rndf_kind v) e) → Q (Some (i, e)) ≡ corrected f (items item end (map first_field rest))
    one i e item end p q = number_is (items_of i e rest) ∙ ap (corrected f) (items-are i e item end p q rest)

    six : (v : Bytes) → Q (counted_of (rndf_kind v)) ≡ recounted count_lines v f (map first_field rest)
    unfolding counted_of rndf_keywords
    six v =
        step _ _ _ _ _ _ (kind-is v 1 (omega arith)) (one 5 28 (is "segment") "end_file" (λ u. kind-is u 5 (omega arith)) (λ u. kind-is u 28 (omega arith)))
        (step _ _ _ _ _ _ (kind-is v 2 (omega arith)) (one 18 28 (is "zone") "end_file" (λ u. kind-is u 18 (omega arith)) (λ u. kind-is u 28 (omega arith)))
        (step _ _ _ _ _ _ (kind-is v 6 (omega arith)) (one 9 8 (is "lane") "end_segment" (λ u. kind-is u 9 (omega arith)) (λ u. kind-is u 8 (omega arith)))
        (step _ _ _ _ _ _ (kind-is v 10 (omega arith)) (one 29 17 (begins digit) "end_lane" point-is (λ u. kind-is u 17 (omega arith)))
        (step _ _ _ _ _ _ (kind-is v 19 (omega arith)) (one 25 21 (is "spot") "end_zone" (λ u. kind-is u 25 (omega arith)) (λ u. kind-is u 21 (omega arith)))
        (step _ _ _ _ _ _ (kind-is v 23 (omega arith)) (one 29 24 (begins digit) "end_perimeter" point-is (λ u. kind-is u 24 (omega arith))) refl)))))

    word-is : first_field l ≡ w.bytes
    unfolding first_field
    word-is = ap first-of two

    counted-two : change-of l (counted_by (counted_of (rndf_line_kind_of l)) l rest) ≡ the_count_change_of (fields l) (map first_field rest)
    counted-two = ap (λ (k : ℕ). Q (counted_of k)) (kind-first l) ∙ six (first_field l) ∙ ap (λ (v : Bytes). recounted count_lines v f (map first_field rest)) word-is ∙ ap (λ (fs : List Field). the_count_change_of fs (map first_field rest)) (sym two)

-- ## The change
-- a line of another number of fields has no number
other-number : (l : Bytes) → ((fields_in_of (body l)).count ≡ 2 → ⊥) → number_on_of l ≡ None
unfolding number_on_of second_number_of
other-number l n = rw (ne_eqb (fields_in_of (body l)).count 2 n) refl

counted_none : (l : Bytes) (rest : List Bytes) → number_on_of l ≡ None → (x : Option (ℕ × ℕ)) → change-of l (counted_by x l rest) ≡ stays
unfolding corrected_of
counted_none l rest e (Some (i, k)) = ap (λ (x : Option (ℕ × ℕ × ℕ)). change-of l (corrected_of x (items_of i k rest))) e
counted_none l rest e None = refl

counted_is : (l : Bytes) (rest : List Bytes) → change-of l (counted_by (counted_of (rndf_line_kind_of l)) l rest) ≡ the_count_change_of (fields l) (map first_field rest)
counted_is l rest = go (fields l) refl
  where
    count-of : (fs : List Field) → fields l ≡ fs → (length fs ≡ 2 → ⊥) → (fields_in_of (body l)).count ≡ 2 → ⊥
    count-of fs e n c = n (ap length (sym e ∙ fields-body l ∙ fields-listed 0 (body l) ∙ ap (listed 0 (body l) (fields_in_of (body l))) c))

    none_of : (fs : List Field) → fields l ≡ fs → (length fs ≡ 2 → ⊥) → change-of l (counted_by (counted_of (rndf_line_kind_of l)) l rest) ≡ stays
    none_of fs e n = counted_none l rest (other-number l (count-of fs e n)) (counted_of (rndf_line_kind_of l))

    go : (fs : List Field) → fields l ≡ fs → change-of l (counted_by (counted_of (rndf_line_kind_of l)) l rest) ≡ the_count_change_of fs (map first_field rest)
    go [] e = none_of [] e (λ (q : ◌≡◌ {A = ℕ} 0 2). omega arith)
    go (w ∷ []) e = none_of (w ∷ []) e (λ (q : ◌≡◌ {A = ℕ} 1 2). omega arith)
    go (w ∷ f ∷ []) e = counted-two l w f e rest ∙ ap (λ (fs : List Field). the_count_change_of fs (map first_field rest)) e
    go (w ∷ f ∷ g ∷ more) e = none_of (w ∷ f ∷ g ∷ more) e (λ (q : suc (suc (suc (length more))) ≡ 2). omega arith)

module _ (before : List Bytes) (b : Before) (l : Bytes) (rest : List Bytes) (h : Keeps before b) where
  pub change-is : change-of l (change_of b l rest) ≡ change before l (map first_field rest)
  unfolding change_of change
  change-is = through b.over (again_of b (rndf_line_kind_of l)) ∙ (
      let o = h.end in
      let p = behind-is l in
      let a = ap (again_of b) (kind-first l) ∙ sym (again-is before b (first_field l) h) in
      let c = counted_is l rest in
      λ i. pick (o i) (p i) (pick (a i) (goes 2) (c i)))
    where
      through : (x y : Bool) → change-of l (pick x (behind_of l) (pick y (Goes 2) (counted_by (counted_of (rndf_line_kind_of l)) l rest))) ≡ pick x (change-of l (behind_of l)) (pick y (goes 2) (change-of l (counted_by (counted_of (rndf_line_kind_of l)) l rest)))
      through true y = refl
      through false true = refl
      through false false = refl

  pub step_keeps : Keeps (first_field l ∷ before) (after_of b (rndf_line_kind_of l))
  step_keeps = subst (λ (k : ℕ). Keeps (first_field l ∷ before) (after_of b k)) (sym (kind-first l)) (after-keeps before b (first_field l) h)

-- ## All lines
-- going forward: each line's change, and what it leaves to the next
unfoldable pub forward : Before → List Bytes → List Change
forward b [] = []
forward b (l ∷ rest) = change-of l (change_of b l rest) ∷ forward (after_of b (rndf_line_kind_of l)) rest

-- these are the changes that the law lists
pub forward-is : (i : ℕ) (before : List Bytes) (b : Before) (text : Bytes) (lines : List Bytes) → Keeps before b → forward b lines ≡ map (λ c. c.change) (changes_from i before text lines)
unfolding forward changes_from
forward-is i before b text [] h = refl
forward-is i before b text (l ∷ rest) h =
    let c = change-is before b l rest h in
    let r = forward-is (suc i) (first_field l ∷ before) (after_of b (rndf_line_kind_of l)) (drop (suc (length l)) text) rest (step_keeps before b l rest h) in
    λ j. c j ∷ r j

pub all-forward : (text : Bytes) → forward none_before_of (lines_of text) ≡ map (λ c. c.change) (changes text)
all-forward text = forward-is 1 [] none_before_of text (lines_of text) none-keeps
