-- The column of a line is the same in every edition: of each kind the last field is not tried, and the fields before it are read alike. Assumes nothing.
use mathlib.Core.Path.{◌≡◌, refl, sym, ap, ◌∙◌}
use mathlib.Core.List.{List, [], ◌∷◌, ◌++◌}
use mathlib.Core.Option.{Option, none, some}
use mathlib.Core.Bool.{Bool, true, false, ◌||◌}
use Prim.Native.Nat.{ℕ, suc, ◌+◌}
use native.Mathlib.Omega.{arith}
use lib.ListN.{length}
use lib.Dec.{eqb}
use Rattle.terms.specs.Ascii.{Bytes}
use Rattle.terms.specs.Words.{pick}
use Rattle.scan.specs.Reach.{up_to}
use Rattle.line.specs.Content.{Field}
use Rattle.line.specs.Lines.{drop_cr, lines_of}
use Rattle.line.specs.Forms.{opens, outer_of, fields_at}
use Rattle.line.specs.Text.{Cut}
use Rattle.line.proofs.Cuts.{cut-is}
use Rattle.word.specs.Number.{digit_first}
use Rattle.grammar.specs.Editions.{Edition, march}
use Rattle.grammar.specs.Network.{under, SpellsNetworkBy, SpellsNetwork}
use Rattle.grammar.specs.Statements.{Kind, Statement, say, RNDF_name_of, num_segments, num_zones, format_version_of, creation_date_of, segment, num_lanes, segment_name_of, end_segment, lane, num_waypoints, lane_width_of, left_boundary_of, right_boundary_of, checkpoint, stop, exit, end_lane_of, zone, num_spots, zone_name_of, end_zone, perimeter, num_perimeterpoints, end_perimeter, spot, spot_width_of, end_spot, end_file_of, point}
use Rattle.grammar.specs.Machine.{next, Place, at, step, run}
use Rattle.grammar.specs.Places.{rndf, name_due}
use Rattle.grammar.specs.PlaceRows.{kind_row}
use Rattle.grammar.specs.Stands.{stands}
use Rattle.text.specs.Judge.{Vals, kind_at, args}
use Rattle.text.specs.Spelling.{SpellsLines}
use Rattle.text.specs.RndfLines.{rndf_line_in_of, the_rndf_line_of}
use Rattle.text.specs.RndfWords.{word_at, rndf_sorts_in, rndf_sorts, rndf_make_in, rndf_lexis_in, rndf_lexis}
use Rattle.text.proofs.Theorems.{places}
use Rattle.law.specs.Network as Law
use Rattle.law_faults.proofs.Rndf.{rndf-needs_in, rndf-lenient-needs_in}
use Rattle.law_columns.specs.Finding.{bad_at_of, wrong_at, taken?, takes, listed_at, start_of, behind_word, tests, unless_refused, kind_field_of, field_at, fields_column_of, column_of, column_from, column_in}
use Rattle.law_columns.specs.Files.{rndf_low_in, rndf_low, rndf_column_in_of, rndf_column_of}
use Rattle.law_columns.proofs.Rndf.{rndf-lows}
use Rattle.law_columns.proofs.TextColumns.{walked}
use Rattle.editions.proofs.Steps.{stands_same, numbered-same, step_same, run-later}
use Rattle.editions.proofs.Later.{lines-later}

module _ (e : Edition) where
  -- as many fields
  count_same : (k : Kind) → length (rndf_sorts_in e k) ≡ length (rndf_sorts k)
  count_same RNDF_name_of = refl
  count_same num_segments = refl
  count_same num_zones = refl
  count_same format_version_of = refl
  count_same creation_date_of = refl
  count_same segment = refl
  count_same num_lanes = refl
  count_same segment_name_of = refl
  count_same end_segment = refl
  count_same lane = refl
  count_same num_waypoints = refl
  count_same lane_width_of = refl
  count_same left_boundary_of = refl
  count_same right_boundary_of = refl
  count_same checkpoint = refl
  count_same stop = refl
  count_same exit = refl
  count_same end_lane_of = refl
  count_same zone = refl
  count_same num_spots = refl
  count_same zone_name_of = refl
  count_same end_zone = refl
  count_same perimeter = refl
  count_same num_perimeterpoints = refl
  count_same end_perimeter = refl
  count_same spot = refl
  count_same spot_width_of = refl
  count_same end_spot = refl
  count_same end_file_of = refl
  count_same point = refl

  other : (k : Kind) → (kind_row k ≡ 19 → ⊥) → k ≡ num_spots → ⊥
  other k n q = n (ap kind_row q)

  takes_same : (p : Place (rndf Field)) (s : Statement Field) → (s.kind ≡ num_spots → ⊥) → taken? (step (places e) p s) ≡ taken? (step (rndf Field) p s)
  takes_same p s n = ap taken? (step_same e p s n)

  wrong-same : (p : Place (rndf Field)) (k : Kind) (n : ℕ) (fs : List Field) → wrong_at (rndf_sorts_in e k) (tests (places e) (rndf_lexis_in e) (rndf_low_in e) p k n) (rndf_low_in e k) fs ≡ wrong_at (rndf_sorts k) (tests (rndf Field) rndf_lexis rndf_low p k n) (rndf_low k) fs
  unfolding wrong_at
  wrong-same p RNDF_name_of n fs = refl
  wrong-same p num_segments n fs = refl
  wrong-same p num_zones n fs = refl
  wrong-same p format_version_of n fs = refl
  wrong-same p creation_date_of n fs = refl
  wrong-same p segment n fs = refl
  wrong-same p num_lanes n fs = refl
  wrong-same p segment_name_of n fs = refl
  wrong-same p end_segment n fs = refl
  wrong-same p lane n fs = refl
  wrong-same p num_waypoints n fs = refl
  wrong-same p lane_width_of n fs = refl
  wrong-same p left_boundary_of n fs = refl
  wrong-same p right_boundary_of n fs = refl
  wrong-same p checkpoint n fs = λ i. wrong_at (rndf_sorts checkpoint) (λ u. pick (eqb n 8) true (takes_same p (say checkpoint (rndf_make_in march checkpoint u)) (other checkpoint (λ z. omega arith)) i)) (rndf_low checkpoint) fs
  wrong-same p stop n fs = refl
  wrong-same p exit n fs = λ i. wrong_at (rndf_sorts exit) (λ u. pick (eqb n 8) true (takes_same p (say exit (rndf_make_in march exit u)) (other exit (λ z. omega arith)) i)) (rndf_low exit) fs
  wrong-same p end_lane_of n fs = refl
  wrong-same p zone n fs = refl
  wrong-same p num_spots n fs = refl
  wrong-same p zone_name_of n fs = refl
  wrong-same p end_zone n fs = refl
  wrong-same p perimeter n fs = refl
  wrong-same p num_perimeterpoints n fs = refl
  wrong-same p end_perimeter n fs = refl
  wrong-same p spot n fs = refl
  wrong-same p spot_width_of n fs = refl
  wrong-same p end_spot n fs = refl
  wrong-same p end_file_of n fs = refl
  wrong-same p point n fs = λ i. wrong_at (rndf_sorts point) (λ u. pick (eqb n 8) true (takes_same p (say point (rndf_make_in march point u)) (other point (λ z. omega arith)) i)) (rndf_low point) fs

  kind-field-same : (p : Place (rndf Field)) (n : ℕ) (o : Option Kind) (f : Field) (fs : List Field) → kind_field_of (places e) (rndf_lexis_in e) (rndf_low_in e) p n o f fs ≡ kind_field_of (rndf Field) rndf_lexis rndf_low p n o f fs
  kind-field-same p n none f fs = refl
  kind-field-same p n (some k) f fs = λ i.
      let values = args (rndf Field) rndf_lexis (word_at (kind_row k)) f fs in
      unless_refused (rndf Field) rndf_lexis rndf_low (stands_same e p k i) (pick (eqb (length values) (count_same k i)) (behind_word (word_at (kind_row k)) (wrong-same p k n values i)) 0)

  field-same : (p : Place (rndf Field)) (n : ℕ) (f : Field) (fs : List Field) → field_at (places e) (rndf_lexis_in e) (rndf_low_in e) p n f fs ≡ field_at (rndf Field) rndf_lexis rndf_low p n f fs
  unfolding field_at
  field-same p n f fs =
      ap (λ (x : ℕ). pick (eqb n 8 || eqb n 9) x (listed_at n))
      (kind-field-same p n (kind_at (places e) (rndf_lexis_in e) p f) f fs ∙ ap (λ (o : Option Kind). kind_field_of (rndf Field) rndf_lexis rndf_low p n (pick (digit_first f.bytes) o (rndf_lexis.lookup f.bytes)) f fs) (numbered-same e p))

  fields-same : (p : Place (rndf Field)) (n : ℕ) (fs : List Field) → fields_column_of (places e) (rndf_lexis_in e) (rndf_low_in e) p n fs ≡ fields_column_of (rndf Field) rndf_lexis rndf_low p n fs
  fields-same p n [] = refl
  fields-same p n (f ∷ fs) = ap (λ (i : ℕ). suc (start_of i (f ∷ fs))) (field-same p n f fs)

  pub column-same : (p : Place (rndf Field)) (n : ℕ) (line : Bytes) → column_of (places e) (rndf_lexis_in e) (rndf_low_in e) p n line ≡ column_of (rndf Field) rndf_lexis rndf_low p n line
  unfolding column_of
  column-same p n line = ap (λ (x : ℕ). pick (eqb n 2) 513 (pick (eqb n 3) (suc (up_to opens (drop_cr line))) (pick (eqb n 4) (suc (bad_at_of (drop_cr line))) x))) (fields-same p n (fields_at 0 (outer_of (drop_cr line))))

  -- ## Line i of a text, behind lines that the edition takes
  pub column_in-same : (text : Bytes) (i n : ℕ) (before : List Bytes) (this : Bytes) (rest : List Bytes) → Cut text (before ++ (this ∷ rest)) → i ≡ suc (length before)
      → (said : List (Statement Field)) (p : Place (rndf Field)) → SpellsLines (rndf_line_in_of e) 0 before said → run (places e) (at (places e) name_due) said ≡ next p → rndf_column_in_of e text i n ≡ rndf_column_of text i n
  unfolding column_in
  column_in-same text i n before this rest c q said p h r =
      ap (column_from (places e) (rndf_lexis_in e) (rndf_low_in e) (at (places e) name_due) 0 1 i n) (cut-is c)
      ∙ walked (places e) (rndf_lexis_in e) (rndf_line_in_of e) (SpellsNetworkBy (under e true)) (SpellsNetworkBy (under e false)) Law.SpellsNetwork name_due (rndf-needs_in e) (rndf-lenient-needs_in e) (rndf_low_in e) (rndf-lows e) h (at (places e) name_due) p r 1 i n this rest (omega (arith, q))
      ∙ column-same p n this
      ∙ sym (ap (column_from (rndf Field) rndf_lexis rndf_low (at (rndf Field) name_due) 0 1 i n) (cut-is c)
      ∙ walked (rndf Field) rndf_lexis the_rndf_line_of SpellsNetwork (SpellsNetworkBy (under march false)) Law.SpellsNetwork name_due (rndf-needs_in march) (rndf-lenient-needs_in march) rndf_low (rndf-lows march) (lines-later e h) (at (rndf Field) name_due) p (run-later e (at (rndf Field) name_due) p said r) 1 i n this rest (omega (arith, q)))
