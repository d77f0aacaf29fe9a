-- THE THEOREMS of the places of an MDF: the program's step is the step of the grammar's machine. For every place that is sound, and every order. Assumes nothing.
use Rattle.std.specs.Prelude.{Ok, Err}
use mathlib.Core.Path.{◌≡◌, refl, sym, ap, subst, ◌∙◌}
use mathlib.Core.List.{List, map}
use mathlib.Core.Bool.{true}
use Prim.Native.Nat.{ℕ, zero, suc, ◌-◌}
use lib.Dec.{ltb}
use mathlib.Core.Logic.{◌⊎◌, inl, inr}
use Rattle.grammar.specs.MissionStatements.{Kind}
use Rattle.grammar.specs.Machine.{Out, next, refuse, Stand, over, inside, at, step, run}
use Rattle.grammar.specs.MissionPlaces.{mdf, Base, name_due, RNDF_due, checkpoints_due, num_checkpoints_due, goal_due, speed_limits_due, num_speed_limits_due, limit_due, end_file_due}
use Rattle.grammar.specs.PlaceTable.{cell, mdf_table_of}
use Rattle.grammar.specs.PlaceRows.{mission_kind_row}
use Rattle.grammar.specs.Mission.{Mission, SpellsMission}
use Rattle.grammar.specs.Stands.{stands}
use Rattle.grammar.proofs.StandLaws.{number_of}
use Rattle.grammar.proofs.Theorems.{mission-sound, mission-complete}
use Rattle.grammar.proofs.Follows.{map_out}
use Rattle.grammar.proofs.Follows as F
use Rattle.statement.specs.declared.Order.{Order}
use Rattle.statement.specs.Meaning.{Stretch}
use Rattle.statement.specs.MissionMeaning.{meant}
use Rattle.statement.specs.MissionKinds.{order_of}
use Rattle.place_table.proofs.Laws.{mdf-cell-is}
use Rattle.mission_place.specs.declared.MissionPlace.{MissionPlace}
use Rattle.mission_place.specs.Step.{has_of, permits_of, after_of, opted_of, first_place, index_of, due_of, option_of, cell_of, by_cell, step_of, refuses_by, refuses_of, over_of, number_kind_of}
use Rattle.mission_place.specs.Abstract.{seen, place_of, abs_of, due_digit}
use Rattle.mission_place.proofs.Cells.{program, cells}

-- a place that stands for a place of the machine, in full
abbrev pub Sound : MissionPlace → Type 0
Sound p = place_of (abs_of p) ≡ p

-- where the reader starts, it is sound, and stands for the machine's first place
pub start-sound : Sound first_place
start-sound = F.starts-sound program cells name_due

pub start_is : abs_of first_place ≡ at (mdf Stretch) name_due
start_is = F.starts program cells name_due

-- a step from a sound place leads to a sound one
pub next-sound : (p : MissionPlace) (s : Order) (q : MissionPlace) → Sound p → step_of p s ≡ Ok q → Sound q
next-sound = F.next-sound program cells

-- the step is the machine's, next place and refusal number
pub the_step : (p : MissionPlace) (s : Order) → Sound p → map_out abs_of (seen (step_of p s)) ≡ step (mdf Stretch) (abs_of p) (meant s)
the_step = F.the_step program cells

pub next-is : (p : MissionPlace) (s : Order) (q : MissionPlace) → Sound p → step_of p s ≡ Ok q → step (mdf Stretch) (abs_of p) (meant s) ≡ next (abs_of q)
next-is = F.next-is program cells

pub next_of : (p : MissionPlace) (s : Order) (b : Stand Base) → Sound p → step (mdf Stretch) (abs_of p) (meant s) ≡ next b → step_of p s ≡ Ok (place_of b)
next_of = F.next_of program cells

pub refused-is : (p : MissionPlace) (s : Order) (c : ℕ) → Sound p → step_of p s ≡ Err c → step (mdf Stretch) (abs_of p) (meant s) ≡ refuse c
refused-is = F.refused-is program cells

pub refused-of : (p : MissionPlace) (s : Order) (c : ℕ) → Sound p → step (mdf Stretch) (abs_of p) (meant s) ≡ refuse c → step_of p s ≡ Err c
refused-of = F.refused-of program cells

-- by the kind alone: 5 or 6 as the machine would say of any statement of that kind, or 0
pub refuses-is : (p : MissionPlace) (k : Kind) → Sound p → refuses_of p (mission_kind_row k) ≡ number_of (stands (mdf Stretch) (abs_of p) k)
refuses-is = F.by-kind-alone program cells

-- 5 and 6 come first: what the kind decides is the answer, at every place, sound or not; where it decides nothing, the answer is the next place or 9
pub answered : (p : MissionPlace) (s : Order) → F.Answers program (step_of p s) (refuses_of p (order_of s))
unfolding step_of by_cell due_of option_of refuses_of refuses_by
answered p s =
    let c = cell mdf_table_of (index_of p) (order_of s) in
    F.by_number program (ltb c 128) (ltb c 255) (has_of p (c - 128)) (permits_of s) true (after_of p s c) (opted_of p (c - 128))

-- ## By the cell
-- what the program does with a cell that it looked up in the right table is what the place does
pub the_cell_of : (p : MissionPlace) (kind : ℕ) → cell_of mdf_table_of p kind ≡ cell mdf_table_of (index_of p) kind
unfolding cell_of
the_cell_of p kind = mdf-cell-is (index_of p) kind

pub step_by : (p : MissionPlace) (s : Order) → by_cell p s (cell_of mdf_table_of p (order_of s)) ≡ step_of p s
unfolding step_of
step_by p s = ap (by_cell p s) (the_cell_of p (order_of s))

pub refuses-by : (p : MissionPlace) (kind : ℕ) → refuses_by p (cell_of mdf_table_of p kind) ≡ refuses_of p kind
unfolding refuses_of
refuses-by p kind = ap (refuses_by p) (the_cell_of p kind)

-- it is over where the machine is
pub over-is : (p : MissionPlace) → Sound p → over_of p ≡ true → abs_of p ≡ over
over-is = F.over-is-over program cells

pub over-of : (p : MissionPlace) → Sound p → abs_of p ≡ over → over_of p ≡ true
over-of = F.over-of-over program cells

-- ## Runs
-- statements one by one: the place behind them, or the first refusal's number
abbrev pub run_of : MissionPlace → List Order → Out MissionPlace
run_of = F.run_of program

pub the-run : (p : MissionPlace) (l : List Order) → Sound p → map_out abs_of (run_of p l) ≡ run (mdf Stretch) (abs_of p) (map meant l)
the-run = F.the-run program cells

-- what is taken to the end spells a mission, and what spells one is taken to the end
pub accepted : (l : List Order) (q : MissionPlace) → run_of first_place l ≡ next q → over_of q ≡ true → (n : Mission Stretch) × SpellsMission n (map meant l)
accepted l q e o = mission-sound (map meant l) (rw start_is at (sym (the-run first_place l start-sound) ∙ ap (map_out abs_of) e ∙ ap next (over-is q sound o)))
  where
    sound : Sound q
    sound = rw e at (F.run_sound program cells first_place l start-sound)

pub accepts : (l : List Order) (n : Mission Stretch) → SpellsMission n (map meant l) → run_of first_place l ≡ next (place_of over)
accepts l n s = F.run-of program cells first_place l over start-sound (rw start_is (mission-complete n (map meant l) s))

-- ## A line that begins with a digit
-- is what the machine has due, if that is a goal or a limit
digit-here : (q : Stand Base) → number_kind_of (place_of q) ≡ due_digit q
unfolding number_kind_of index_of
digit-here over = refl
digit-here (inside name_due g) = refl
digit-here (inside RNDF_due g) = refl
digit-here (inside checkpoints_due g) = refl
digit-here (inside num_checkpoints_due g) = refl
digit-here (inside (goal_due zero) g) = refl
digit-here (inside (goal_due (suc n)) g) = refl
digit-here (inside speed_limits_due g) = refl
digit-here (inside num_speed_limits_due g) = refl
digit-here (inside (limit_due zero) g) = refl
digit-here (inside (limit_due (suc n)) g) = refl
digit-here (inside end_file_due g) = refl

pub number-kind-is : (p : MissionPlace) → Sound p → number_kind_of p ≡ due_digit (abs_of p)
number-kind-is p i = ap number_kind_of (sym i) ∙ digit-here (abs_of p)

-- by its number: 255, and neither a goal nor a limit may stand; or the column of the one that may
abbrev pub DigitLine : MissionPlace → ℕ → Type 0
DigitLine p n = ((n ≡ 255) × (refuses_of p 11 ≡ 5) × (refuses_of p 12 ≡ 5)) ⊎ (((n ≡ 11) × (refuses_of p 11 ≡ 0)) ⊎ ((n ≡ 12) × (refuses_of p 12 ≡ 0)))

digit-line-here : (q : Stand Base) → DigitLine (place_of q) (number_kind_of (place_of q))
unfolding number_kind_of index_of refuses_of refuses_by mdf_table_of
digit-line-here over = inl (refl, refl, refl)
digit-line-here (inside name_due g) = inl (refl, refl, refl)
digit-line-here (inside RNDF_due g) = inl (refl, refl, refl)
digit-line-here (inside checkpoints_due g) = inl (refl, refl, refl)
digit-line-here (inside num_checkpoints_due g) = inl (refl, refl, refl)
digit-line-here (inside (goal_due zero) g) = inl (refl, refl, refl)
digit-line-here (inside (goal_due (suc n)) g) = inr (inl (refl, refl))
digit-line-here (inside speed_limits_due g) = inl (refl, refl, refl)
digit-line-here (inside num_speed_limits_due g) = inl (refl, refl, refl)
digit-line-here (inside (limit_due zero) g) = inl (refl, refl, refl)
digit-line-here (inside (limit_due (suc n)) g) = inr (inr (refl, refl))
digit-line-here (inside end_file_due g) = inl (refl, refl, refl)

pub digit-line : (p : MissionPlace) → Sound p → DigitLine p (number_kind_of p)
digit-line p i = subst (λ (p : MissionPlace). DigitLine p (number_kind_of p)) i (digit-line-here (abs_of p))
