-- The field at fault is the same where no option has to be given, and in every edition. Assumes nothing.
use mathlib.Core.Path.{◌≡◌, refl, sym, ap, ◌∙◌}
use mathlib.Core.List.{List}
use mathlib.Core.Option.{Option, none, some}
use mathlib.Core.Bool.{true, ◌||◌}
use Prim.Native.Nat.{ℕ}
use native.Mathlib.Omega.{arith}
use lib.ListN.{length}
use lib.Dec.{eqb}
use Rattle.terms.specs.Words.{pick}
use Rattle.line.specs.Content.{Field}
use Rattle.word.specs.Number.{digit_first}
use Rattle.grammar.specs.Editions.{Edition, march}
use Rattle.grammar.specs.Language.{Lang}
use Rattle.grammar.specs.Language as Any
use Rattle.grammar.specs.Statements.{Kind, Statement, say, RNDF_name_of, num_segments, num_zones, format_version_of, creation_date_of, segment, num_lanes, segment_name_of, end_segment, lane, num_waypoints, lane_width_of, left_boundary_of, right_boundary_of, checkpoint, stop, exit, end_lane_of, zone, num_spots, zone_name_of, end_zone, perimeter, num_perimeterpoints, end_perimeter, spot, spot_width_of, end_spot, end_file_of, point}
use Rattle.grammar.specs.Machine.{Machine, lenient, Place, step}
use Rattle.grammar.specs.Places.{rndf}
use Rattle.grammar.specs.PlaceRows.{kind_row}
use Rattle.grammar.proofs.StandLaws.{stands-lenient}
use Rattle.text.specs.Judge.{Vals, Lexis, kind_at, args}
use Rattle.text.specs.RndfWords.{word_at, rndf_sorts_in, rndf_sorts, rndf_make_in, rndf_lexis_in, rndf_lexis}
use Rattle.text.proofs.Theorems.{places}
use Rattle.law_faults.proofs.Unmarked.{kind-same}
use Rattle.law_columns.specs.Finding.{taken?, listed_at, behind_word, wrong_at, tests, unless_refused, kind_field_of, field_at}
use Rattle.law_columns.specs.Files.{rndf_low_in, rndf_low}
use Rattle.law_columns.proofs.Lenient.{taken-same}
use Rattle.editions.proofs.Steps.{stands_same, numbered-same, step_same}

module _ {L : Lang} (A : Machine L) (X : Lexis L) (low : (k : L.Kind) → Vals (X.sorts k)) where
  tests_same : (p : Place A) (k : L.Kind) (n : ℕ) → tests A X low p k n ≡ tests (lenient A) X low p k n
  tests_same p k n = λ i u. pick (eqb n 8) true (taken-same A p (Any.say L k (X.make k u)) i)

  of_kind_of : (p : Place A) (n : ℕ) (o : Option L.Kind) (f : Field) (fs : List Field) → kind_field_of A X low p n o f fs ≡ kind_field_of (lenient A) X low p n o f fs
  of_kind_of p n none f fs = refl
  of_kind_of p n (some k) f fs = λ i.
      let values = args A X (X.keyword k) f fs in
      unless_refused A X low (sym (stands-lenient A p k) i) (pick (eqb (length values) (length (X.sorts k))) (behind_word (X.keyword k) (wrong_at (X.sorts k) (tests_same p k n i) (low k) values)) 0)

  pub field-lenient : (p : Place A) (n : ℕ) (f : Field) (fs : List Field) → field_at A X low p n f fs ≡ field_at (lenient A) X low p n f fs
  unfolding field_at
  field-lenient p n f fs =
      ap (λ (x : ℕ). pick (eqb n 8 || eqb n 9) x (listed_at n))
      (of_kind_of p n (kind_at A X p f) f fs ∙ ap (λ (o : Option L.Kind). kind_field_of (lenient A) X low p n o f fs) (sym (kind-same A X p f)))

module _ (e : Edition) where
  other : (k : Kind) → (kind_row k ≡ 19 → ⊥) → k ≡ num_spots → ⊥
  other k n q = n (ap kind_row q)

  takes_same : (p : Place (rndf Field)) (s : Statement Field) → (s.kind ≡ num_spots → ⊥) → taken? (step (places e) p s) ≡ taken? (step (rndf Field) p s)
  takes_same p s n = ap taken? (step_same e p s n)

  -- of each kind there are as many fields, and the same one is wrong: the last is not tried
  abbrev SameWrong : (p : Place (rndf Field)) (n : ℕ) (fs : List Field) → Kind → Type 0
  SameWrong p n fs k = (length (rndf_sorts_in e k) ≡ length (rndf_sorts k))
      × (wrong_at (rndf_sorts_in e k) (tests (places e) (rndf_lexis_in e) (rndf_low_in e) p k n) (rndf_low_in e k) fs ≡ wrong_at (rndf_sorts k) (tests (rndf Field) rndf_lexis rndf_low p k n) (rndf_low k) fs)

  same-wrong : (p : Place (rndf Field)) (n : ℕ) (fs : List Field) (k : Kind) → SameWrong p n fs k
  unfolding wrong_at
  same-wrong p n fs RNDF_name_of = (refl, refl)
  same-wrong p n fs num_segments = (refl, refl)
  same-wrong p n fs num_zones = (refl, refl)
  same-wrong p n fs format_version_of = (refl, refl)
  same-wrong p n fs creation_date_of = (refl, refl)
  same-wrong p n fs segment = (refl, refl)
  same-wrong p n fs num_lanes = (refl, refl)
  same-wrong p n fs segment_name_of = (refl, refl)
  same-wrong p n fs end_segment = (refl, refl)
  same-wrong p n fs lane = (refl, refl)
  same-wrong p n fs num_waypoints = (refl, refl)
  same-wrong p n fs lane_width_of = (refl, refl)
  same-wrong p n fs left_boundary_of = (refl, refl)
  same-wrong p n fs right_boundary_of = (refl, refl)
  same-wrong p n fs checkpoint = (refl, λ i. wrong_at (rndf_sorts checkpoint) (λ u. pick (eqb n 8) true (takes_same p (say checkpoint (rndf_make_in march checkpoint u)) (other checkpoint (λ z. omega arith)) i)) (rndf_low checkpoint) fs)
  same-wrong p n fs stop = (refl, refl)
  same-wrong p n fs exit = (refl, λ i. wrong_at (rndf_sorts exit) (λ u. pick (eqb n 8) true (takes_same p (say exit (rndf_make_in march exit u)) (other exit (λ z. omega arith)) i)) (rndf_low exit) fs)
  same-wrong p n fs end_lane_of = (refl, refl)
  same-wrong p n fs zone = (refl, refl)
  same-wrong p n fs num_spots = (refl, refl)
  same-wrong p n fs zone_name_of = (refl, refl)
  same-wrong p n fs end_zone = (refl, refl)
  same-wrong p n fs perimeter = (refl, refl)
  same-wrong p n fs num_perimeterpoints = (refl, refl)
  same-wrong p n fs end_perimeter = (refl, refl)
  same-wrong p n fs spot = (refl, refl)
  same-wrong p n fs spot_width_of = (refl, refl)
  same-wrong p n fs end_spot = (refl, refl)
  same-wrong p n fs end_file_of = (refl, refl)
  same-wrong p n fs point = (refl, λ i. wrong_at (rndf_sorts point) (λ u. pick (eqb n 8) true (takes_same p (say point (rndf_make_in march point u)) (other point (λ z. omega arith)) i)) (rndf_low point) fs)

  of-edition : (p : Place (rndf Field)) (n : ℕ) (o : Option Kind) (f : Field) (fs : List Field) → kind_field_of (places e) (rndf_lexis_in e) (rndf_low_in e) p n o f fs ≡ kind_field_of (rndf Field) rndf_lexis rndf_low p n o f fs
  of-edition p n none f fs = refl
  of-edition p n (some k) f fs = λ i.
      let values = args (rndf Field) rndf_lexis (word_at (kind_row k)) f fs in
      let same = same-wrong p n values k in
      unless_refused (rndf Field) rndf_lexis rndf_low (stands_same e p k i) (pick (eqb (length values) (same.0 i)) (behind_word (word_at (kind_row k)) (same.1 i)) 0)

  pub kind-edition : (p : Place (rndf Field)) (f : Field) → kind_at (places e) (rndf_lexis_in e) p f ≡ kind_at (rndf Field) rndf_lexis p f
  kind-edition p f = ap (λ (o : Option Kind). pick (digit_first f.bytes) o (rndf_lexis.lookup f.bytes)) (numbered-same e p)

  pub field-edition : (p : Place (rndf Field)) (n : ℕ) (f : Field) (fs : List Field) → field_at (places e) (rndf_lexis_in e) (rndf_low_in e) p n f fs ≡ field_at (rndf Field) rndf_lexis rndf_low p n f fs
  unfolding field_at
  field-edition p n f fs =
      ap (λ (x : ℕ). pick (eqb n 8 || eqb n 9) x (listed_at n))
      (of-edition p n (kind_at (places e) (rndf_lexis_in e) p f) f fs ∙ ap (λ (o : Option Kind). kind_field_of (rndf Field) rndf_lexis rndf_low p n o f fs) (kind-edition p f))
