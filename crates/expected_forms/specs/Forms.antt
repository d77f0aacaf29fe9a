-- Executable: the form of each statement at a place of the program, and the forms of those that may stand there: first the due one, then the options that are still open, by their kinds. Assumes nothing.
use Rattle.std.specs.Prelude.{List, [], ◌∷◌, ◌++◌, map, Bool, not, ◌&&◌, ◌||◌, ℕ, zero, suc, ◌-◌, ◌%◌, eqb, ltb}
use Rattle.terms.specs.Words.{pick}
use Rattle.law.specs.Network.{largest}
use Rattle.edition.specs.declared.Edition as DE
use Rattle.edition.specs.declared.Edition.TheVariants as Ed
use Rattle.made_out.specs.Made.{fields_needed_of}
use Rattle.made_out.specs.MadeOrders.{order_fields_needed_of}
use Rattle.place.specs.declared.Open as DO
use Rattle.place.specs.declared.Open.TheVariants as op
use Rattle.place.specs.declared.Place.{Place}
use Rattle.place.specs.Step.{major_of, minor_of, first_marked_of, cell_of, refuses_by, ready_of}
use Rattle.place_table.specs.RndfRows as rows
use Rattle.place_table.specs.MdfRows as mission-rows
use Rattle.mission_place.specs.declared.MissionPlace.{MissionPlace}
use Rattle.mission_place.specs.Step as Mission
use Rattle.expected_law.specs.Expected as Law
use Rattle.expected_words.specs.declared.Item as DI
use Rattle.expected_words.specs.declared.Item.TheVariants as Item
use Rattle.expected_words.specs.declared.Form as DF
use Rattle.expected_words.specs.Items.{law_form}

-- ## RNDF
unfoldable pub rest_of : ℕ → ℕ
rest_of segments = pick (ltb segments largest) (largest - segments) 0

unfoldable pub the_fewest_of : DE.Edition → ℕ
the_fewest_of Ed.March2007 = 0
the_fewest_of Ed.December2006 = 1

unfoldable pub lowest_entry_of : DO.Open → ℕ
lowest_entry_of op.File = 0
lowest_entry_of (op.Segment m) = 0
lowest_entry_of (op.Lane m n) = 0
lowest_entry_of (op.Zone m) = 0
lowest_entry_of (op.Perimeter m) = 1
lowest_entry_of (op.Spot m n) = 0

-- the due number, in 32 bits
abbrev pub due_number_of : Place → ℕ
due_number_of p = p.due % 4294967296

unfoldable pub first_item_of : Place → ℕ → DI.Item
first_item_of p k = pick (eqb k 29) (Item.Point (major_of p.part) (minor_of p.part) (due_number_of p) (due_number_of p)) (Item.Word k)

unfoldable pub second_item_of : DE.Edition → Place → ℕ → DI.Item
second_item_of e p k =
    pick (eqb k 1) (Item.Number 1 largest)
    (pick (eqb k 2) (Item.Number 0 (rest_of p.segments))
    (pick (eqb k 5) (Item.Number (due_number_of p) (due_number_of p))
    (pick (eqb k 6) (Item.Number 1 largest)
    (pick (eqb k 9) (Item.Part (major_of p.part) (due_number_of p))
    (pick (eqb k 10) (Item.Number 1 largest)
    (pick (eqb k 11) (Item.Number 0 largest)
    (pick (eqb k 12) (Item.Boundary e)
    (pick (eqb k 13) (Item.Boundary e)
    (pick (eqb k 14) (Item.Point (major_of p.part) (minor_of p.part) (first_marked_of p.part) p.points)
    (pick (eqb k 15) (Item.Point (major_of p.part) (minor_of p.part) 1 p.points)
    (pick (eqb k 16) (Item.Point (major_of p.part) (minor_of p.part) 1 p.points)
    (pick (eqb k 18) (Item.Number (due_number_of p) (due_number_of p))
    (pick (eqb k 19) (Item.Number (the_fewest_of e) largest)
    (pick (eqb k 22) (Item.Part (major_of p.part) 0)
    (pick (eqb k 23) (Item.Number 1 largest)
    (pick (eqb k 25) (Item.Part (major_of p.part) (due_number_of p))
    (pick (eqb k 26) (Item.Number 1 largest)
    (pick (eqb k 29) Item.Latitude Item.Name))))))))))))))))))

unfoldable pub third_item_of : Place → ℕ → DI.Item
third_item_of p k = pick (eqb k 14) (Item.Number 1 largest) (pick (eqb k 16) (Item.Entry (lowest_entry_of p.part)) (pick (eqb k 29) Item.Longitude Item.Name))

unfoldable pub rndf_form_of : DE.Edition → Place → (kind : ℕ) → DF.Form
rndf_form_of e p k = record { count = fields_needed_of k; a = first_item_of p k; b = second_item_of e p k; c = third_item_of p k }

-- ## What may stand at a place, by the table
unfoldable pub is_due_of : (table : List (List ℕ)) → Place → (kind : ℕ) → Bool
is_due_of table p k = ltb (cell_of table p k) 128 && ready_of p

unfoldable pub is_open : (table : List (List ℕ)) → Place → (kind : ℕ) → Bool
is_open table p k = not (ltb (cell_of table p k) 128) && eqb (refuses_by p.given (cell_of table p k)) 0

-- the kinds from k on, so many, for which this holds
unfoldable pub kinds_from : (ℕ → Bool) → (k many : ℕ) → List ℕ
kinds_from holds k zero = []
kinds_from holds k (suc many) = pick (holds k) (k ∷ kinds_from holds (suc k) many) (kinds_from holds (suc k) many)

unfoldable pub kinds_at : (table : List (List ℕ)) → Place → List ℕ
kinds_at table p = kinds_from (is_due_of table p) 0 30 ++ kinds_from (is_open table p) 0 30

-- the forms of these kinds
abbrev pub forms_of : DE.Edition → Place → (kinds : List ℕ) → List Law.Form
forms_of e p = map (λ k. law_form (rndf_form_of e p k))

unfoldable pub forms_at : DE.Edition → (table : List (List ℕ)) → Place → List Law.Form
forms_at e table p = forms_of e p (kinds_at table p)

-- how many points are still owed, where nothing but a point may stand
unfoldable pub the_owed_of : Place → ℕ
the_owed_of p = pick (eqb p.row rows.waypoint_due || (eqb p.row rows.perimeterpoint_due || eqb p.row rows.second_of_spot_due)) p.points
    (pick (eqb p.row rows.first_of_spot_due && (p.given.first && p.given.second)) p.points 0)

-- ## MDF
unfoldable pub order_first_of : ℕ → DI.Item
order_first_of k = pick (eqb k 11) (Item.Number 1 largest) (pick (eqb k 12) Item.Id (Item.Order k))

unfoldable pub order_second_of : ℕ → DI.Item
order_second_of k = pick (eqb k 5) (Item.Number 1 largest) (pick (eqb k 8) (Item.Number 1 largest) (pick (eqb k 12) Item.Minimum Item.Name))

unfoldable pub order_form_of : (kind : ℕ) → DF.Form
order_form_of k = record { count = order_fields_needed_of k; a = order_first_of k; b = order_second_of k; c = Item.Maximum }

unfoldable pub is_due_order_of : (table : List (List ℕ)) → MissionPlace → (kind : ℕ) → Bool
is_due_order_of table p k = ltb (Mission.cell_of table p k) 128

unfoldable pub is_open_order_of : (table : List (List ℕ)) → MissionPlace → (kind : ℕ) → Bool
is_open_order_of table p k = not (ltb (Mission.cell_of table p k) 128) && eqb (Mission.refuses_by p (Mission.cell_of table p k)) 0

abbrev pub order_forms : (kinds : List ℕ) → List Law.Form
order_forms = map (λ k. law_form (order_form_of k))

unfoldable pub order_forms_at : (table : List (List ℕ)) → MissionPlace → List Law.Form
order_forms_at table p = order_forms (kinds_from (is_due_order_of table p) 0 13 ++ kinds_from (is_open_order_of table p) 0 13)

unfoldable pub owed_orders_of : MissionPlace → ℕ
owed_orders_of p = pick (eqb p.row mission-rows.goal_due || eqb p.row mission-rows.limit_due) p.owed 0
