-- At a place of the program that stands for one of the machine: the form of each statement that may stand is the machine's, the lists have the same forms, and as many points are owed. Assumes nothing.
use mathlib.Core.Path.{◌≡◌, refl, sym, ap, ap₂, subst, ◌∙◌}
use mathlib.Core.List.{List, [], ◌∷◌, map}
use mathlib.Core.Bool.{Bool, true, false, ◌&&◌}
use mathlib.Core.Logic.{inl, inr}
use Prim.Native.Nat.{ℕ, zero, suc, ◌*◌, ◌+◌, ◌-◌, ◌%◌, ◌≤◌, ◌<◌}
use native.Mathlib.Omega.{arith}
use borrow.Author.Tests.{ltb-false}
use lib.Arith.{digits_mod}
use lib.Dec.{ltb}
use Rattle.terms.specs.Ascii.{Bytes, ascii}
use Rattle.terms.specs.Words.{pick, Each, Among}
use Rattle.line.specs.Content.{Field}
use Rattle.law.specs.Network.{largest}
use Rattle.law.specs.Network as Law
use Rattle.edition.specs.declared.Edition as DE
use Rattle.edition.specs.declared.Edition.TheVariants as Ed
use Rattle.edition.specs.Editions.{inner}
use Rattle.grammar.specs.Machine.{Machine, Stand, over, inside}
use Rattle.grammar.specs.Network.{under}
use Rattle.grammar.specs.PlaceRows.{kind_row}
use Rattle.grammar.specs.PlaceTable.{rndf_table_of}
use Rattle.grammar.specs.Places.{rndf_by, opts, due_in, Base, name_due, num_segments_due, num_zones_due, first_segment_due, part_due, num_lanes_due, first_lane_due, lane_due, num_waypoints_due, first_waypoint_due, waypoint_due, num_spots_due, perimeter_due, num_perimeterpoints_due, first_perimeterpoint_due, perimeterpoint_due, spot_due, first_of_spot_due, second_of_spot_due, end_spot_due}
use Rattle.grammar.specs.Statements.{Kind, point, lines}
use Rattle.grammar.proofs.Follows.{Fit}
use Rattle.grammar.proofs.Keeping.{GoodPlace}
use Rattle.text.proofs.RndfText.{Bounded}
use Rattle.place_table.specs.Cells.{cell_in}
use Rattle.place.specs.declared.Place.{Place}
use Rattle.place.specs.Step.{index_of, cell_of, refuses_by}
use Rattle.place.specs.Abstract.{place_of, flags, abs_of}
use Rattle.place.proofs.Theorems.{Sound}
use Rattle.place.proofs.Cells.{program, cells}
use Rattle.expected_law.specs.Expected.{Item, this, a_name, numbers, Form}
use Rattle.expected_law.specs.Items.{from_to, counted, the_the_part_of, own, an_entry, point_form, boundaries}
use Rattle.expected_words.specs.Items.{law_form}
use Rattle.expected_forms.specs.Forms.{rest_of, the_fewest_of, lowest_entry_of, first_item_of, second_item_of, third_item_of, rndf_form_of, is_due_of, is_open, kinds_from, kinds_at, forms_at, the_owed_of}
use Rattle.expected_exact.specs.Listed.{rndf_options, rndf_due, if_open, if_ready, open_options, listed, rndf_listed}
use Rattle.expected_owed.specs.Owed.{owed_points, owed_at}
use Rattle.expected_places.proofs.SameForms.{Exactly, exactly, SameForms, same-list, swapped, ◌thence◌}
use Rattle.expected_places.proofs.Keywords.{word_0, word_1, word_2, word_3, word_4, word_5, word_6, word_7, word_8, word_9, word_10, word_11, word_12, word_13, word_14, word_15, word_16, word_17, word_18, word_19, word_20, word_21, word_22, word_23, word_24, word_25, word_26, word_27, word_28}

-- ## Numbers
-- a number that is reached fits into 32 bits
small : (n : ℕ) → n ≤ 32769 → n % 4294967296 ≡ n
small n h =
    let z : 0 * 4294967296 + n ≡ n = omega arith in
    sym (ap (λ (k : ℕ). k % 4294967296) z) ∙ digits_mod 0 {m = 4294967296} {r = n} (omega arith)

rest-is : (o : ℕ) → rest_of o ≡ largest - o
unfolding rest_of
rest-is o = go (ltb o largest) refl
  where
    go : (x : Bool) → ltb o largest ≡ x → pick x (largest - o) 0 ≡ largest - o
    go true q = refl
    go false q = let h : largest ≤ o = ltb-false o largest q in let z : 0 ≡ largest - o = omega arith in z

fewest-is : (e : DE.Edition) → the_fewest_of e ≡ Law.fewest_spots (inner e)
unfolding the_fewest_of
fewest-is Ed.March2007 = refl
fewest-is Ed.December2006 = refl

-- ## Forms
-- a keyword's line, by its word
keyed_as : {w v : Bytes} → w ≡ v → (is : Form) → this w ∷ is ≡ this v ∷ is
keyed_as e is = ap (λ (x : Bytes). this x ∷ is) e

-- with a number that is due
numbered_as : {w v : Bytes} → w ≡ v → (n : ℕ) → n ≤ 32769 → this w ∷ from_to (n % 4294967296) (n % 4294967296) ∷ [] ≡ this v ∷ from_to n n ∷ []
numbered_as {v = v} e n h = keyed_as e (from_to (n % 4294967296) (n % 4294967296) ∷ []) ∙ ap (λ (k : ℕ). this v ∷ from_to k k ∷ []) (small n h)

part_as : {w v : Bytes} → w ≡ v → (m n : ℕ) → n ≤ 32769 → this w ∷ the_the_part_of m (n % 4294967296) ∷ [] ≡ this v ∷ the_the_part_of m n ∷ []
part_as {v = v} e m n h = keyed_as e (the_the_part_of m (n % 4294967296) ∷ []) ∙ ap (λ (k : ℕ). this v ∷ the_the_part_of m k ∷ []) (small n h)

point_as : (m n k : ℕ) → k ≤ 32769 → point_form m n (k % 4294967296) ≡ point_form m n k
point_as m n k h = ap (λ (i : ℕ). point_form m n i) (small k h)

◌also◌ : {a b : Form} {l m : List Form} → a ≡ b → l ≡ m → a ∷ l ≡ b ∷ m
◌also◌ = ap₂ ◌∷◌

infixr 20 ◌also◌
module _ (e : DE.Edition) where
  abbrev places : Machine (lines Field)
  places = rndf_by Field (under (inner e) true)

  -- the form of a kind at a place of the program
  abbrev pub kind-form : Place → Kind → Form
  kind-form p k = law_form (rndf_form_of e p (kind_row k))

  -- the due statement's is the machine's
  pub due-form : (b : Base) (g : List Bool) → Bounded b → kind-form (place_of (inside b g)) (due_in Field (inner e) b).on ≡ rndf_due (inner e) b
  unfolding rndf_form_of first_item_of second_item_of third_item_of
  due-form name_due g y = keyed_as word_0 (a_name ∷ [])
  due-form num_segments_due g y = keyed_as word_1 (counted ∷ [])
  due-form (num_zones_due o) g y = keyed_as word_2 (from_to 0 (rest_of o) ∷ []) ∙ ap (λ (k : ℕ). this (ascii "num_zones") ∷ from_to 0 k ∷ []) (rest-is o)
  due-form (first_segment_due o z) g y = keyed_as word_5 (from_to 1 1 ∷ [])
  due-form (part_due m (suc o) z) g y = numbered_as word_5 m (omega arith)
  due-form (part_due m zero (suc z)) g y = numbered_as word_18 m (omega arith)
  due-form (part_due m zero zero) g y = keyed_as word_28 []
  due-form (num_lanes_due m o z) g y = keyed_as word_6 (counted ∷ [])
  due-form (first_lane_due m o z l) g y = keyed_as word_9 (the_the_part_of m 1 ∷ [])
  due-form (lane_due m o z n zero) g y = keyed_as word_8 []
  due-form (lane_due m o z n (suc l)) g y = part_as word_9 m n (omega arith)
  due-form (num_waypoints_due m o z n l) g y = keyed_as word_10 (counted ∷ [])
  due-form (first_waypoint_due m o z n l w) g y = refl
  due-form (waypoint_due m o z n l k zero) g y = keyed_as word_17 []
  due-form (waypoint_due m o z n l k (suc w)) g y = point_as m n k (omega arith)
  due-form (num_spots_due m z) g y = keyed_as word_19 (from_to (the_fewest_of e) largest ∷ []) ∙ ap (λ (k : ℕ). this (ascii "num_spots") ∷ from_to k largest ∷ []) (fewest-is e)
  due-form (perimeter_due m z s) g y = keyed_as word_22 (the_the_part_of m 0 ∷ [])
  due-form (num_perimeterpoints_due m z s) g y = keyed_as word_23 (counted ∷ [])
  due-form (first_perimeterpoint_due m z s p) g y = refl
  due-form (perimeterpoint_due m z s k zero) g y = keyed_as word_24 []
  due-form (perimeterpoint_due m z s k (suc p)) g y = point_as m 0 k (omega arith)
  due-form (spot_due m z n zero) g y = keyed_as word_21 []
  due-form (spot_due m z n (suc s)) g y = part_as word_25 m n (omega arith)
  due-form (first_of_spot_due m z n s) g y = refl
  due-form (second_of_spot_due m z n s) g y = refl
  due-form (end_spot_due m z n s) g y = keyed_as word_27 []

  -- and each option's
  pub option_forms : (b : Base) (g : List Bool) → map (λ o. kind-form (place_of (inside b g)) o.on) (opts Field b) ≡ rndf_options (inner e) b
  unfolding rndf_form_of first_item_of second_item_of third_item_of lowest_entry_of
  option_forms name_due g = refl
  option_forms num_segments_due g = refl
  option_forms (num_zones_due o) g = refl
  option_forms (first_segment_due o z) g = keyed_as word_3 (a_name ∷ []) also keyed_as word_4 (a_name ∷ []) also refl
  option_forms (part_due m o z) g = refl
  option_forms (num_lanes_due m o z) g = refl
  option_forms (first_lane_due m o z l) g = keyed_as word_7 (a_name ∷ []) also refl
  option_forms (lane_due m o z n l) g = refl
  option_forms (num_waypoints_due m o z n l) g = refl
  option_forms (first_waypoint_due m o z n l w) g =
      keyed_as word_11 (from_to 0 largest ∷ []) also keyed_as word_12 (boundaries (inner e) ∷ []) also keyed_as word_13 (boundaries (inner e) ∷ [])
      also keyed_as word_14 (own m n 1 w ∷ counted ∷ []) also keyed_as word_15 (own m n 1 w ∷ []) also keyed_as word_16 (own m n 1 w ∷ an_entry 0 ∷ []) also refl
  option_forms (waypoint_due m o z n l k w) g = refl
  option_forms (num_spots_due m z) g = refl
  option_forms (perimeter_due m z s) g = keyed_as word_20 (a_name ∷ []) also refl
  option_forms (num_perimeterpoints_due m z s) g = refl
  option_forms (first_perimeterpoint_due m z s p) g = keyed_as word_16 (own m 0 1 p ∷ an_entry 1 ∷ []) also refl
  option_forms (perimeterpoint_due m z s k p) g = refl
  option_forms (spot_due m z n s) g = refl
  option_forms (first_of_spot_due m z n s) g = keyed_as word_26 (counted ∷ []) also keyed_as word_14 (own m n 2 2 ∷ counted ∷ []) also refl
  option_forms (second_of_spot_due m z n s) g = refl
  option_forms (end_spot_due m z n s) g = refl

  -- ## The lists
  -- the forms of the program in the machine's order
  abbrev by-kinds : (b : Base) (g : List Bool) → List Form
  by-kinds b g = if_ready (places.ready b g) (kind-form (place_of (inside b g)) (due_in Field (inner e) b).on) (open_options (lines Field) (opts Field b) g (map (λ o. kind-form (place_of (inside b g)) o.on) (opts Field b)))

  machine-lists : (b : Base) (g : List Bool) → Bounded b → by-kinds b g ≡ rndf_listed (under (inner e) true) (inside b g)
  unfolding listed
  machine-lists b g y = ap₂ (λ (d : Form) (os : List Form). if_ready (places.ready b g) d (open_options (lines Field) (opts Field b) g os)) (due-form b g y) (option_forms b g)

  -- by kinds a spot's checkpoint comes before its width
  alike-by : (b : Base) (x y u : Bool) → SameForms (forms_at e rndf_table_of (place_of (inside b (flags b x y u)))) (by-kinds b (flags b x y u))
  unfolding forms_at kinds_at kinds_from is_due_of is_open cell_of cell_in index_of refuses_by rndf_table_of
  alike-by name_due x y u = same-list refl
  alike-by num_segments_due x y u = same-list refl
  alike-by (num_zones_due o) x y u = same-list refl
  alike-by (first_segment_due o z) true true u = same-list refl
  alike-by (first_segment_due o z) true false u = same-list refl
  alike-by (first_segment_due o z) false true u = same-list refl
  alike-by (first_segment_due o z) false false u = same-list refl
  alike-by (part_due m (suc o) z) x y u = same-list refl
  alike-by (part_due m zero (suc z)) x y u = same-list refl
  alike-by (part_due m zero zero) x y u = same-list refl
  alike-by (num_lanes_due m o z) x y u = same-list refl
  alike-by (first_lane_due m o z l) true y u = same-list refl
  alike-by (first_lane_due m o z l) false y u = same-list refl
  alike-by (lane_due m o z n zero) x y u = same-list refl
  alike-by (lane_due m o z n (suc l)) x y u = same-list refl
  alike-by (num_waypoints_due m o z n l) x y u = same-list refl
  alike-by (first_waypoint_due m o z n l w) true true true = same-list refl
  alike-by (first_waypoint_due m o z n l w) true true false = same-list refl
  alike-by (first_waypoint_due m o z n l w) true false true = same-list refl
  alike-by (first_waypoint_due m o z n l w) true false false = same-list refl
  alike-by (first_waypoint_due m o z n l w) false true true = same-list refl
  alike-by (first_waypoint_due m o z n l w) false true false = same-list refl
  alike-by (first_waypoint_due m o z n l w) false false true = same-list refl
  alike-by (first_waypoint_due m o z n l w) false false false = same-list refl
  alike-by (waypoint_due m o z n l k zero) x y u = same-list refl
  alike-by (waypoint_due m o z n l k (suc w)) x y u = same-list refl
  alike-by (num_spots_due m z) x y u = same-list refl
  alike-by (perimeter_due m z s) true y u = same-list refl
  alike-by (perimeter_due m z s) false y u = same-list refl
  alike-by (num_perimeterpoints_due m z s) x y u = same-list refl
  alike-by (first_perimeterpoint_due m z s p) x y u = same-list refl
  alike-by (perimeterpoint_due m z s k zero) x y u = same-list refl
  alike-by (perimeterpoint_due m z s k (suc p)) x y u = same-list refl
  alike-by (spot_due m z n zero) x y u = same-list refl
  alike-by (spot_due m z n (suc s)) x y u = same-list refl
  alike-by (first_of_spot_due m z n s) true true u = same-list refl
  alike-by (first_of_spot_due m z n s) true false u = same-list refl
  alike-by (first_of_spot_due m z n s) false true u = same-list refl
  alike-by (first_of_spot_due m z n s) false false u = swapped
  alike-by (second_of_spot_due m z n s) x y u = same-list refl
  alike-by (end_spot_due m z n s) x y u = same-list refl

  at_place : (q : Stand Base) → Fit program q → GoodPlace places Bounded q → SameForms (forms_at e rndf_table_of (place_of q)) (rndf_listed (under (inner e) true) q)
  unfolding listed forms_at kinds_at kinds_from is_due_of is_open cell_of cell_in index_of refuses_by rndf_table_of
  at_place over f h = same-list refl
  at_place (inside b g) (x, y, u, i) h = subst (λ (g : List Bool). SameForms (forms_at e rndf_table_of (place_of (inside b g))) (rndf_listed (under (inner e) true) (inside b g))) (sym i) (alike-by b x y u thence same-list (machine-lists b (flags b x y u) h))

  -- at every place that is sound, the machine's list has the same forms
  pub rndf-alike : (p : Place) → Sound p → GoodPlace places Bounded (abs_of p) → SameForms (forms_at e rndf_table_of p) (rndf_listed (under (inner e) true) (abs_of p))
  rndf-alike p s h = subst (λ (r : Place). SameForms (forms_at e rndf_table_of r) (rndf_listed (under (inner e) true) (abs_of p))) s (at_place (abs_of p) (cells.fit-abs p) h)

  -- ## How many points are owed
  owed-by : (b : Base) (x y u : Bool) → the_owed_of (place_of (inside b (flags b x y u))) ≡ owed_points b (flags b x y u)
  unfolding the_owed_of
  owed-by name_due x y u = refl
  owed-by num_segments_due x y u = refl
  owed-by (num_zones_due o) x y u = refl
  owed-by (first_segment_due o z) x y u = refl
  owed-by (part_due m o z) x y u = refl
  owed-by (num_lanes_due m o z) x y u = refl
  owed-by (first_lane_due m o z l) x y u = refl
  owed-by (lane_due m o z n l) x y u = refl
  owed-by (num_waypoints_due m o z n l) x y u = refl
  owed-by (first_waypoint_due m o z n l w) x y u = refl
  owed-by (waypoint_due m o z n l k w) x y u = refl
  owed-by (num_spots_due m z) x y u = refl
  owed-by (perimeter_due m z s) x y u = refl
  owed-by (num_perimeterpoints_due m z s) x y u = refl
  owed-by (first_perimeterpoint_due m z s p) x y u = refl
  owed-by (perimeterpoint_due m z s k p) x y u = refl
  owed-by (spot_due m z n s) x y u = refl
  owed-by (first_of_spot_due m z n s) true true u = refl
  owed-by (first_of_spot_due m z n s) true false u = refl
  owed-by (first_of_spot_due m z n s) false true u = refl
  owed-by (first_of_spot_due m z n s) false false u = refl
  owed-by (second_of_spot_due m z n s) x y u = refl
  owed-by (end_spot_due m z n s) x y u = refl

  owed-at : (q : Stand Base) → Fit program q → the_owed_of (place_of q) ≡ owed_at q
  unfolding the_owed_of
  owed-at over f = refl
  owed-at (inside b g) (x, y, u, i) = subst (λ (g : List Bool). the_owed_of (place_of (inside b g)) ≡ owed_points b g) (sym i) (owed-by b x y u)

  pub rndf-owed-is : (p : Place) → Sound p → the_owed_of p ≡ owed_at (abs_of p)
  rndf-owed-is p s = ap the_owed_of (sym s) ∙ owed-at (abs_of p) (cells.fit-abs p)

  -- where some are, nothing but a point is listed
  list-by : (b : Base) (x y u : Bool) → 0 < owed_points b (flags b x y u) → Exactly (forms_at e rndf_table_of (place_of (inside b (flags b x y u)))) (by-kinds b (flags b x y u))
  unfolding forms_at kinds_at kinds_from is_due_of is_open cell_of cell_in index_of refuses_by rndf_table_of
  list-by name_due x y u h = absurd (omega arith)
  list-by num_segments_due x y u h = absurd (omega arith)
  list-by (num_zones_due o) x y u h = absurd (omega arith)
  list-by (first_segment_due o z) x y u h = absurd (omega arith)
  list-by (part_due m o z) x y u h = absurd (omega arith)
  list-by (num_lanes_due m o z) x y u h = absurd (omega arith)
  list-by (first_lane_due m o z l) x y u h = absurd (omega arith)
  list-by (lane_due m o z n l) x y u h = absurd (omega arith)
  list-by (num_waypoints_due m o z n l) x y u h = absurd (omega arith)
  list-by (first_waypoint_due m o z n l w) x y u h = absurd (omega arith)
  list-by (waypoint_due m o z n l k zero) x y u h = absurd (omega arith)
  list-by (waypoint_due m o z n l k (suc w)) x y u h = exactly refl
  list-by (num_spots_due m z) x y u h = absurd (omega arith)
  list-by (perimeter_due m z s) x y u h = absurd (omega arith)
  list-by (num_perimeterpoints_due m z s) x y u h = absurd (omega arith)
  list-by (first_perimeterpoint_due m z s p) x y u h = absurd (omega arith)
  list-by (perimeterpoint_due m z s k zero) x y u h = absurd (omega arith)
  list-by (perimeterpoint_due m z s k (suc p)) x y u h = exactly refl
  list-by (spot_due m z n s) x y u h = absurd (omega arith)
  list-by (first_of_spot_due m z n s) true true u h = exactly refl
  list-by (first_of_spot_due m z n s) true false u h = absurd (omega arith)
  list-by (first_of_spot_due m z n s) false true u h = absurd (omega arith)
  list-by (first_of_spot_due m z n s) false false u h = absurd (omega arith)
  list-by (second_of_spot_due m z n s) x y u h = exactly refl
  list-by (end_spot_due m z n s) x y u h = absurd (omega arith)

  due-alone : (b : Base) (x y u : Bool) → 0 < owed_points b (flags b x y u) → by-kinds b (flags b x y u) ≡ kind-form (place_of (inside b (flags b x y u))) (due_in Field (inner e) b).on ∷ []
  due-alone name_due x y u h = absurd (omega arith)
  due-alone num_segments_due x y u h = absurd (omega arith)
  due-alone (num_zones_due o) x y u h = absurd (omega arith)
  due-alone (first_segment_due o z) x y u h = absurd (omega arith)
  due-alone (part_due m o z) x y u h = absurd (omega arith)
  due-alone (num_lanes_due m o z) x y u h = absurd (omega arith)
  due-alone (first_lane_due m o z l) x y u h = absurd (omega arith)
  due-alone (lane_due m o z n l) x y u h = absurd (omega arith)
  due-alone (num_waypoints_due m o z n l) x y u h = absurd (omega arith)
  due-alone (first_waypoint_due m o z n l w) x y u h = absurd (omega arith)
  due-alone (waypoint_due m o z n l k zero) x y u h = absurd (omega arith)
  due-alone (waypoint_due m o z n l k (suc w)) x y u h = refl
  due-alone (num_spots_due m z) x y u h = absurd (omega arith)
  due-alone (perimeter_due m z s) x y u h = absurd (omega arith)
  due-alone (num_perimeterpoints_due m z s) x y u h = absurd (omega arith)
  due-alone (first_perimeterpoint_due m z s p) x y u h = absurd (omega arith)
  due-alone (perimeterpoint_due m z s k zero) x y u h = absurd (omega arith)
  due-alone (perimeterpoint_due m z s k (suc p)) x y u h = refl
  due-alone (spot_due m z n s) x y u h = absurd (omega arith)
  due-alone (first_of_spot_due m z n s) true true u h = refl
  due-alone (first_of_spot_due m z n s) true false u h = absurd (omega arith)
  due-alone (first_of_spot_due m z n s) false true u h = absurd (omega arith)
  due-alone (first_of_spot_due m z n s) false false u h = absurd (omega arith)
  due-alone (second_of_spot_due m z n s) x y u h = refl
  due-alone (end_spot_due m z n s) x y u h = absurd (omega arith)

  one-by : (b : Base) (x y u : Bool) → 0 < owed_points b (flags b x y u) → (form : Form) × (forms_at e rndf_table_of (place_of (inside b (flags b x y u))) ≡ form ∷ [])
  one-by b x y u h = (kind-form (place_of (inside b (flags b x y u))) (due_in Field (inner e) b).on, (list-by b x y u h).is ∙ due-alone b x y u h)

  one_at : (q : Stand Base) → Fit program q → 0 < owed_at q → (form : Form) × (forms_at e rndf_table_of (place_of q) ≡ form ∷ [])
  one_at over f h = absurd (omega arith)
  one_at (inside b g) (x, y, u, i) h = subst (λ (g : List Bool). 0 < owed_points b g → (form : Form) × (forms_at e rndf_table_of (place_of (inside b g)) ≡ form ∷ [])) (sym i) (one-by b x y u) h

  pub rndf-one-form : (p : Place) → Sound p → 0 < the_owed_of p → (form : Form) × (forms_at e rndf_table_of p ≡ form ∷ [])
  rndf-one-form p s h = subst (λ (r : Place). (form : Form) × (forms_at e rndf_table_of r ≡ form ∷ [])) s (one_at (abs_of p) (cells.fit-abs p) (subst (λ (k : ℕ). 0 < k) (rndf-owed-is p s) h))
