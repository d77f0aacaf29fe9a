-- The judge says of a line of an MDF an order of the kind of its first field; where it begins with a digit, of the kind that has as many fields. Assumes nothing.
use mathlib.Core.Path.{◌≡◌, refl, sym, ap, ◌∙◌}
use mathlib.Core.Option.{Option, none, some}
use mathlib.Core.Bool.{Bool, true, false}
use Prim.Native.Nat.{ℕ, suc, ◌<◌}
use native.Mathlib.Omega.{arith}
use lib.ListN.{get_or}
use lib.Dec.{eqb, ltb}
use borrow.Author.Tests.{eqb-true, ltb-true}
use Rattle.terms.specs.Ascii.{Bytes, ascii}
use Rattle.terms.specs.Words.{pick}
use Rattle.terms.proofs.Computed.{below}
use Rattle.terms.proofs.Tests.{clash, nothing}
use Rattle.scan.specs.Reach.{begins, same_bytes_of}
use Rattle.word.specs.Number.{index_of, digit_first}
use Rattle.word.specs.Keywords.{mdf_keywords}
use Rattle.line.specs.Forms.{span_at_of, filled, count_of, fields_in_of, listed, part}
use Rattle.line.specs.declared.Fields.{Fields}
use Rattle.grammar.specs.MissionStatements.{Kind, limit}
use Rattle.grammar.specs.MissionStatements as G
use Rattle.grammar.specs.PlaceRows.{mission_kinds, mission_kind_row}
use Rattle.grammar.specs.Renamed.{orders_named}
use Rattle.text.specs.Judge.{read_all}
use Rattle.text.specs.MdfWords.{word_at, mdf_sorts, mdf_make}
use Rattle.statement.specs.declared.Order.{Order}
use Rattle.statement.specs.Meaning.{Stretch}
use Rattle.statement.specs.MissionMeaning.{meant}
use Rattle.statement.specs.MissionKinds.{order_of}
use Rattle.made_out.specs.Names.{the_the_stretch_of, behind, told_as}
use Rattle.made_out.specs.MadeOrders.{order_shapes, order_needs, order_made_of, order_from}
use Rattle.mission_place.specs.declared.MissionPlace.{MissionPlace}
use Rattle.place_table.specs.MdfRows as rows
use Rattle.mission_place.specs.Step as Place
use Rattle.mission_place.specs.Step.{number_kind_of}
use Rattle.judge.specs.Judging.{line}
use Rattle.mission_judge.specs.MdfLine as Judged
use Rattle.mission_judge.specs.MdfLine.{mdf_judging}
use Rattle.mission_judge.proofs.MdfTies.{statement-is}
use Rattle.find_line.specs.FoundLines.{digit_kind_of, first_order_of, mdf_line_kind_of}
use Rattle.find_line.proofs.FirstFields.{first-is, no-first, HasKind, line-has}

row_back : (i : ℕ) → i < 13 → mission_kind_row (get_or mission_kinds i limit) ≡ i
row_back i h = eqb-true (mission_kind_row (get_or mission_kinds i limit)) i (below (λ j. eqb (mission_kind_row (get_or mission_kinds j limit)) j) 13 refl i h)

-- the order that the fields of a kind make is of that kind
of_kind_of : {A : Type 0} (k : Kind) (t : Order) (f : A → G.Says Stretch k) (o : Option A) → some (meant t) ≡ told_as (λ v. G.say k (f v)) o → (meant t).kind ≡ k
of_kind_of k t f none e = nothing (sym e)
of_kind_of k t f (some v) e = let q : meant t ≡ G.say k (f v) = cc in ap (λ (m : G.Statement Stretch). m.kind) q

made-of-kind : (s : Bytes) (base : ℕ) (f : Fields) (i : ℕ) → i < 13 → (t : Order) → order_from (order_made_of s base f i) ≡ some t → i ≡ order_of t
made-of-kind s base f i h t e =
    let k = get_or mission_kinds i limit in
    let b = row_back i h in
    let read = read_all (mdf_sorts k) (behind (word_at (mission_kind_row k)) (listed base s f (order_needs (get_or order_shapes (mission_kind_row k) 0)))) in
    sym b
    ∙ ap mission_kind_row (sym (of_kind_of k t (λ v. orders_named the_the_stretch_of k (mdf_make k v)) read (sym (ap (told_as meant) e) ∙ ap (λ (j : ℕ). told_as meant (order_from (order_made_of s base f j))) (sym b) ∙ statement-is k base s f)))

-- ## One field or three
one : (y z w : Bool) → ◌≡◌ {A = ℕ} (pick y (pick z (pick w 4 3) 2) 1) 1 → y ≡ false
one true true true e = absurd (omega arith)
one true true false e = absurd (omega arith)
one true false w e = absurd (omega arith)
one false z w e = refl

three : (y z w : Bool) → ◌≡◌ {A = ℕ} (pick y (pick z (pick w 4 3) 2) 1) 3 → y ≡ true
three true z w e = refl
three false z w e = absurd (omega arith)

-- a field behind the first is told by the count
module _ (s : Bytes) where
  abbrev stop : ℕ
  stop = (span_at_of s 0).stop

  abbrev behind_it_lem : ℕ
  behind_it_lem = (span_at_of s stop).stop

  abbrev more : Bool
  more = filled (span_at_of s stop)

  -- how many fields there are, where there is one
  abbrev some-fields : ℕ
  some-fields = pick more (pick (filled (span_at_of s behind_it_lem)) (pick (filled (span_at_of s (span_at_of s behind_it_lem).stop)) 4 3) 2) 1

  count-is : (x : Bool) (n : ℕ) → pick x some-fields 0 ≡ suc n → some-fields ≡ suc n
  count-is true n e = e
  count-is false n e = absurd (omega arith)

  digit-goal : (fields_in_of s).count ≡ 1 → digit_kind_of s stop ≡ 11
  unfolding digit_kind_of fields_in_of count_of
  digit-goal e = rw (one more (filled (span_at_of s behind_it_lem)) (filled (span_at_of s (span_at_of s behind_it_lem).stop)) (count-is (filled (span_at_of s 0)) 0 e)) refl

  digit-limit : (fields_in_of s).count ≡ 3 → digit_kind_of s stop ≡ 12
  unfolding digit_kind_of fields_in_of count_of
  digit-limit e = rw (three more (filled (span_at_of s behind_it_lem)) (filled (span_at_of s (span_at_of s behind_it_lem).stop)) (count-is (filled (span_at_of s 0)) 2 e)) refl

key-none : (s : Bytes) → (fields_in_of s).count ≡ 0 → first_order_of s ≡ 13
unfolding first_order_of begins index_of mdf_keywords same_bytes_of ascii
key-none s e = rw (no-first s e) refl

-- where the judge gets so far that it makes the order, the count tells what the place tells
by_place : (p : MissionPlace) (s : Bytes) → ltb (Judged.mdf_kind p (part s (fields_in_of s).a)) 13 ≡ true → (fields_in_of s).count ≡ order_needs (get_or order_shapes (Judged.mdf_kind p (part s (fields_in_of s).a)) 0) → first_order_of s ≡ Judged.mdf_kind p (part s (fields_in_of s).a)
unfolding first_order_of Judged.mdf_kind number_kind_of
by_place p s l c = rw (first-is s) (go (digit_first (part s (fields_in_of s).a)) l c)
  where
    w : ℕ
    w = index_of (part s (fields_in_of s).a) mdf_keywords

    due : (g h : Bool) → ltb (pick g 11 (pick h 12 255)) 13 ≡ true → (fields_in_of s).count ≡ order_needs (get_or order_shapes (pick g 11 (pick h 12 255)) 0) → digit_kind_of s (span_at_of s 0).stop ≡ pick g 11 (pick h 12 255)
    due true h l c = digit-goal s c
    due false true l c = digit-limit s c
    due false false l c = clash (sym l)

    go : (b : Bool) → ltb (pick b (number_kind_of p) (pick (ltb w 11) w 13)) 13 ≡ true → (fields_in_of s).count ≡ order_needs (get_or order_shapes (pick b (number_kind_of p) (pick (ltb w 11) w 13)) 0)
        → pick b (digit_kind_of s (span_at_of s 0).stop) (pick (ltb w 11) w 13) ≡ pick b (number_kind_of p) (pick (ltb w 11) w 13)
    go true l c = due (eqb (Place.index_of p) rows.goal_due) (eqb (Place.index_of p) rows.limit_due) l c
    go false l c = refl

pub mdf-line-has : (l : Bytes) (base : ℕ) (p : MissionPlace) → HasKind mdf_judging order_of (mdf_line_kind_of l) (line mdf_judging l base p)
unfolding mdf_line_kind_of
mdf-line-has = line-has mdf_judging order_of first_order_of key-none key-made
  where
    key-made : (s : Bytes) (base : ℕ) (p : MissionPlace) (t : Order) → ltb (Judged.mdf_kind p (part s (fields_in_of s).a)) 13 ≡ true → (fields_in_of s).count ≡ order_needs (get_or order_shapes (Judged.mdf_kind p (part s (fields_in_of s).a)) 0)
        → order_from (order_made_of s base (fields_in_of s) (Judged.mdf_kind p (part s (fields_in_of s).a))) ≡ some t → first_order_of s ≡ order_of t
    key-made s base p t l c e = by_place p s l c ∙ made-of-kind s base (fields_in_of s) (Judged.mdf_kind p (part s (fields_in_of s).a)) (ltb-true _ 13 l) t e
