-- At a place of the program that stands for one of the machine of an MDF: the form of each statement that may stand is the machine's and its first field opens it, the lists are the same, and as many goals or limits are owed. Assumes nothing.
use mathlib.Core.Path.{◌≡◌, refl, sym, ap, ap₂, subst, ◌∙◌}
use mathlib.Core.List.{List, [], ◌∷◌, map}
use mathlib.Core.Option.{none}
use mathlib.Core.Bool.{Bool, true, false}
use Prim.Native.Nat.{ℕ, zero, suc, ◌<◌}
use native.Mathlib.Omega.{arith}
use Rattle.terms.specs.Ascii.{Bytes}
use Rattle.terms.specs.Words.{Among}
use Rattle.terms.proofs.Tests.{nothing}
use Rattle.line.specs.Content.{Field}
use Rattle.law.specs.Network.{Line, numbers}
use Rattle.law.specs.Faults.{Opens, digit}
use Rattle.law_spelling.specs.LineOf.{law_line}
use Rattle.law_faults.proofs.Opening.{opens-word}
use Rattle.grammar.specs.Machine.{Machine, lenient, Stand, over, inside}
use Rattle.grammar.specs.MissionPlaces.{mdf, opts, due, Base, name_due, RNDF_due, checkpoints_due, num_checkpoints_due, goal_due, speed_limits_due, num_speed_limits_due, limit_due, end_file_due}
use Rattle.grammar.specs.MissionStatements.{Kind, Says, say, orders, MDF_name_of, RNDF, format_version_of, creation_date_of, checkpoints, num_checkpoints, end_checkpoints, speed_limits, num_speed_limits, end_speed_limits, end_file_of, goal, limit}
use Rattle.grammar.specs.PlaceRows.{mission_kind_row}
use Rattle.grammar.specs.PlaceTable.{mdf_table_of}
use Rattle.grammar.specs.Stands.{stands}
use Rattle.grammar.proofs.Follows.{Fit}
use Rattle.text.specs.MdfLines.{the_mdf_line_of}
use Rattle.place_table.specs.Cells.{cell_in}
use Rattle.mission_place.specs.declared.MissionPlace.{MissionPlace}
use Rattle.mission_place.specs.Step.{index_of, cell_of, refuses_by}
use Rattle.mission_place.specs.Abstract.{place_of, flags, abs_of}
use Rattle.mission_place.proofs.Theorems.{Sound}
use Rattle.mission_place.proofs.Cells.{program, cells}
use Rattle.expected_law.specs.Expected.{this, a_name, Form, OpensForm, keyword}
use Rattle.expected_law.specs.Short.{Digit}
use Rattle.expected_law.specs.Expected as Told
use Rattle.expected_law.specs.Items.{counted}
use Rattle.expected_words.specs.Items.{law_form}
use Rattle.expected_forms.specs.Forms.{order_first_of, order_second_of, order_form_of, is_due_order_of, is_open_order_of, kinds_from, order_forms_at, owed_orders_of}
use Rattle.expected_exact.specs.Listed.{mdf_options, mdf_due, open_options, listed, mdf_listed}
use Rattle.expected_owed.specs.Owed.{owed_numbers, owed_orders_at}
use Rattle.expected_places.proofs.SameForms.{Exactly, exactly}
use Rattle.expected_places.proofs.Keywords.{order_0, order_1, order_2, order_3, order_4, order_5, order_6, order_7, order_8, order_9, order_10}
use Rattle.expected_places.proofs.KindListed.{among-listed}

-- ## Forms
-- the form of a kind, at every place
abbrev pub order-of : Kind → Form
order-of k = law_form (order_form_of (mission_kind_row k))

-- a keyword's line, by its word
worded_as : {w v : Bytes} → w ≡ v → (is : Form) → this w ∷ is ≡ this v ∷ is
worded_as e is = ap (λ (x : Bytes). this x ∷ is) e

-- the due statement's is the machine's
pub due-order : (b : Base) → order-of (due Field b).on ≡ mdf_due b
unfolding order_form_of order_first_of order_second_of
due-order name_due = worded_as order_0 (a_name ∷ [])
due-order RNDF_due = worded_as order_1 (a_name ∷ [])
due-order checkpoints_due = worded_as order_4 []
due-order num_checkpoints_due = worded_as order_5 (counted ∷ [])
due-order (goal_due zero) = worded_as order_6 []
due-order (goal_due (suc n)) = refl
due-order speed_limits_due = worded_as order_7 []
due-order num_speed_limits_due = worded_as order_8 (counted ∷ [])
due-order (limit_due zero) = worded_as order_9 []
due-order (limit_due (suc n)) = refl
due-order end_file_due = worded_as order_10 []

-- and each option's
pub option-orders : (b : Base) → map (λ o. order-of o.on) (opts Field b) ≡ mdf_options b
unfolding order_form_of order_first_of order_second_of
option-orders name_due = refl
option-orders RNDF_due = refl
option-orders checkpoints_due = ap₂ ◌∷◌ (worded_as order_2 (a_name ∷ [])) (ap₂ ◌∷◌ (worded_as order_3 (a_name ∷ [])) refl)
option-orders num_checkpoints_due = refl
option-orders (goal_due n) = refl
option-orders speed_limits_due = refl
option-orders num_speed_limits_due = refl
option-orders (limit_due n) = refl
option-orders end_file_due = refl

-- ## The lists
abbrev by-orders : (b : Base) (g : List Bool) → List Form
by-orders b g = order-of (due Field b).on ∷ open_options (orders Field) (opts Field b) g (map (λ o. order-of o.on) (opts Field b))

machine-orders : (b : Base) (g : List Bool) → by-orders b g ≡ mdf_listed (inside b g)
unfolding listed
machine-orders b g = ap₂ (λ (d : Form) (os : List Form). d ∷ open_options (orders Field) (opts Field b) g os) (due-order b) (option-orders b)

orders-by : (b : Base) (x y u : Bool) → Exactly (order_forms_at mdf_table_of (place_of (inside b (flags b x y u)))) (by-orders b (flags b x y u))
unfolding order_forms_at kinds_from is_due_order_of is_open_order_of cell_of cell_in index_of refuses_by mdf_table_of
orders-by name_due x y u = exactly refl
orders-by RNDF_due x y u = exactly refl
orders-by checkpoints_due true true u = exactly refl
orders-by checkpoints_due true false u = exactly refl
orders-by checkpoints_due false true u = exactly refl
orders-by checkpoints_due false false u = exactly refl
orders-by num_checkpoints_due x y u = exactly refl
orders-by (goal_due zero) x y u = exactly refl
orders-by (goal_due (suc n)) x y u = exactly refl
orders-by speed_limits_due x y u = exactly refl
orders-by num_speed_limits_due x y u = exactly refl
orders-by (limit_due zero) x y u = exactly refl
orders-by (limit_due (suc n)) x y u = exactly refl
orders-by end_file_due x y u = exactly refl

orders-at : (q : Stand Base) → Fit program q → order_forms_at mdf_table_of (place_of q) ≡ mdf_listed q
unfolding listed order_forms_at kinds_from is_due_order_of is_open_order_of cell_of cell_in index_of refuses_by mdf_table_of
orders-at over f = refl
orders-at (inside b g) (x, y, u, i) = subst (λ (g : List Bool). order_forms_at mdf_table_of (place_of (inside b g)) ≡ mdf_listed (inside b g)) (sym i) ((orders-by b x y u).is ∙ machine-orders b (flags b x y u))

-- at every place that is sound, the machine's list
pub mdf-same-list : (p : MissionPlace) → Sound p → order_forms_at mdf_table_of p ≡ mdf_listed (abs_of p)
mdf-same-list p s = ap (order_forms_at mdf_table_of) (sym s) ∙ orders-at (abs_of p) (cells.fit-abs p)

-- ## How many goals or limits are owed
owed-by : (b : Base) (g : List Bool) → owed_orders_of (place_of (inside b g)) ≡ owed_numbers b
unfolding owed_orders_of
owed-by name_due g = refl
owed-by RNDF_due g = refl
owed-by checkpoints_due g = refl
owed-by num_checkpoints_due g = refl
owed-by (goal_due n) g = refl
owed-by speed_limits_due g = refl
owed-by num_speed_limits_due g = refl
owed-by (limit_due n) g = refl
owed-by end_file_due g = refl

owed-at : (q : Stand Base) → owed_orders_of (place_of q) ≡ owed_orders_at q
unfolding owed_orders_of
owed-at over = refl
owed-at (inside b g) = owed-by b g

pub mdf-owed-is : (p : MissionPlace) → Sound p → owed_orders_of p ≡ owed_orders_at (abs_of p)
mdf-owed-is p s = ap owed_orders_of (sym s) ∙ owed-at (abs_of p)

-- where some are, nothing but a goal or a limit is listed
one-order : (q : Stand Base) → 0 < owed_orders_at q → (form : Form) × (mdf_listed q ≡ form ∷ [])
unfolding listed
one-order over h = absurd (omega arith)
one-order (inside name_due g) h = absurd (omega arith)
one-order (inside RNDF_due g) h = absurd (omega arith)
one-order (inside checkpoints_due g) h = absurd (omega arith)
one-order (inside num_checkpoints_due g) h = absurd (omega arith)
one-order (inside (goal_due n) g) h = (mdf_due (goal_due n), refl)
one-order (inside speed_limits_due g) h = absurd (omega arith)
one-order (inside num_speed_limits_due g) h = absurd (omega arith)
one-order (inside (limit_due n) g) h = (mdf_due (limit_due n), refl)
one-order (inside end_file_due g) h = absurd (omega arith)

pub mdf-one-form : (p : MissionPlace) → Sound p → 0 < owed_orders_of p → (form : Form) × (order_forms_at mdf_table_of p ≡ form ∷ [])
mdf-one-form p s h = let x = one-order (abs_of p) (subst (λ (k : ℕ). 0 < k) (mdf-owed-is p s) h) in (x.0, mdf-same-list p s ∙ x.1)

-- ## Of a kind that may stand
abbrev loose : Machine (orders Field)
loose = lenient (mdf Field)

loose-orders : (b : Base) (g : List Bool) → by-orders b g ≡ listed loose mdf_options mdf_due (inside b g)
unfolding listed
loose-orders b g = ap₂ (λ (d : Form) (os : List Form). d ∷ open_options (orders Field) (opts Field b) g os) (due-order b) (option-orders b)

-- its form is listed
pub mdf-form-listed : (q : Stand Base) (k : Kind) → stands loose q k ≡ none → Among (order-of k) (listed loose mdf_options mdf_due q)
unfolding stands
mdf-form-listed over k s = nothing (sym s)
mdf-form-listed (inside b g) k s = subst (Among (order-of k)) (loose-orders b g) (among-listed (orders Field) order-of loose b g k s)

-- and opened
digit-of : {f : Field} {i : List ℕ} {l : Line} → Opens f (numbers i ∷ l) → Digit f
digit-of (digit q d) = digit q d

pub mdf-form-opens : (f : Field) (k : Kind) (v : Says Field k) → Opens f (law_line the_mdf_line_of (say k v)) → OpensForm f (order-of k)
unfolding the_mdf_line_of order_form_of order_first_of
mdf-form-opens f MDF_name_of v o = keyword (opens-word o ∙ sym order_0)
mdf-form-opens f RNDF v o = keyword (opens-word o ∙ sym order_1)
mdf-form-opens f format_version_of v o = keyword (opens-word o ∙ sym order_2)
mdf-form-opens f creation_date_of v o = keyword (opens-word o ∙ sym order_3)
mdf-form-opens f checkpoints v o = keyword (opens-word o ∙ sym order_4)
mdf-form-opens f num_checkpoints v o = keyword (opens-word o ∙ sym order_5)
mdf-form-opens f end_checkpoints v o = keyword (opens-word o ∙ sym order_6)
mdf-form-opens f speed_limits v o = keyword (opens-word o ∙ sym order_7)
mdf-form-opens f num_speed_limits v o = keyword (opens-word o ∙ sym order_8)
mdf-form-opens f end_speed_limits v o = keyword (opens-word o ∙ sym order_9)
mdf-form-opens f end_file_of v o = keyword (opens-word o ∙ sym order_10)
mdf-form-opens f goal v o = Told.digit (digit-of o)
mdf-form-opens f limit v o = Told.digit (digit-of o)
