-- THE THEOREMS of places: the program's step is the step of the grammar's machine. For every place that is sound, and every statement. Assumes nothing.
use mathlib.Core.Path.{◌≡◌, sym, ap, ◌∙◌}
use mathlib.Core.List.{List, map}
use mathlib.Core.Bool.{true}
use Prim.Native.Nat.{ℕ, ◌-◌}
use lib.Dec.{ltb}
use Rattle.grammar.specs.Statements.{Kind}
use Rattle.grammar.specs.Machine.{Out, next, refuse, Stand, over, at, step, run}
use Rattle.grammar.specs.Places.{rndf, Base, name_due}
use Rattle.grammar.specs.PlaceTable.{cell, rndf_table_of}
use Rattle.grammar.specs.PlaceRows.{kind_row}
use Rattle.grammar.specs.Network.{Network, SpellsNetwork}
use Rattle.grammar.specs.Stands.{stands}
use Rattle.grammar.proofs.StandLaws.{number_of}
use Rattle.grammar.proofs.Theorems.{network-sound, network-complete}
use Rattle.grammar.proofs.Follows.{map_out}
use Rattle.grammar.proofs.Follows as F
use Rattle.statement.specs.declared.Statement.{Statement}
use Rattle.statement.specs.Meaning.{Stretch, meant}
use Rattle.statement.specs.Kinds.{kind_of}
use Rattle.place_table.proofs.Laws.{rndf-cell-is}
use Rattle.place.specs.declared.Place.{Place}
use Rattle.place.specs.Step.{has_of, permits_of, ready_of, after_of, opted_of, first_place, index_of, due_of, option_of, cell_of, by_cell, step_of, refuses_by, refuses_of, over_of, Next, Refused}
use Rattle.place.specs.Abstract.{seen, place_of, abs_of}
use Rattle.place.proofs.Cells.{program, cells}

-- a place that stands for a place of the machine, in full
abbrev pub Sound : Place → Type 0
Sound p = place_of (abs_of p) ≡ p

-- where the reader starts, it is sound, and stands for the machine's first place
pub start-sound : Sound first_place
start-sound = F.starts-sound program cells name_due

pub start_is : abs_of first_place ≡ at (rndf Stretch) name_due
start_is = F.starts program cells name_due

-- a step from a sound place leads to a sound one
pub next-sound : (p : Place) (s : Statement) (q : Place) → Sound p → step_of p s ≡ Next q → Sound q
next-sound = F.next-sound program cells

-- the step is the machine's, next place and refusal number
pub the_step : (p : Place) (s : Statement) → Sound p → map_out abs_of (seen (step_of p s)) ≡ step (rndf Stretch) (abs_of p) (meant s)
the_step = F.the_step program cells

pub next-is : (p : Place) (s : Statement) (q : Place) → Sound p → step_of p s ≡ Next q → step (rndf Stretch) (abs_of p) (meant s) ≡ next (abs_of q)
next-is = F.next-is program cells

pub next_of : (p : Place) (s : Statement) (b : Stand Base) → Sound p → step (rndf Stretch) (abs_of p) (meant s) ≡ next b → step_of p s ≡ Next (place_of b)
next_of = F.next_of program cells

pub refused-is : (p : Place) (s : Statement) (c : ℕ) → Sound p → step_of p s ≡ Refused c → step (rndf Stretch) (abs_of p) (meant s) ≡ refuse c
refused-is = F.refused-is program cells

pub refused-of : (p : Place) (s : Statement) (c : ℕ) → Sound p → step (rndf Stretch) (abs_of p) (meant s) ≡ refuse c → step_of p s ≡ Refused c
refused-of = F.refused-of program cells

-- by the kind alone: 5 or 6 as the machine would say of any statement of that kind, or 0
pub refuses-is : (p : Place) (k : Kind) → Sound p → refuses_of p (kind_row k) ≡ number_of (stands (rndf Stretch) (abs_of p) k)
refuses-is = F.by-kind-alone program cells

-- 5 and 6 come first: what the kind decides is the answer, at every place, sound or not; where it decides nothing, the answer is the next place, 9 or 25
pub answered : (p : Place) (s : Statement) → F.Answers program (step_of p s) (refuses_of p (kind_of s))
unfolding step_of by_cell due_of option_of refuses_of refuses_by
answered p s =
    let c = cell rndf_table_of (index_of p) (kind_of s) in
    F.by_number program (ltb c 128) (ltb c 255) (has_of p.given (c - 128)) (permits_of p s) (ready_of p) (after_of p s c) (opted_of p (c - 128))

-- ## By the cell
-- what the program does with a cell that it looked up in the right table is what the place does
pub the_cell_of : (p : Place) (kind : ℕ) → cell_of rndf_table_of p kind ≡ cell rndf_table_of (index_of p) kind
unfolding cell_of
the_cell_of p kind = rndf-cell-is (index_of p) kind

pub step_by : (p : Place) (s : Statement) → by_cell p s (cell_of rndf_table_of p (kind_of s)) ≡ step_of p s
unfolding step_of
step_by p s = ap (by_cell p s) (the_cell_of p (kind_of s))

pub refuses-by : (p : Place) (kind : ℕ) → refuses_by p.given (cell_of rndf_table_of p kind) ≡ refuses_of p kind
unfolding refuses_of
refuses-by p kind = ap (refuses_by p.given) (the_cell_of p kind)

-- it is over where the machine is
pub over-is : (p : Place) → Sound p → over_of p ≡ true → abs_of p ≡ over
over-is = F.over-is-over program cells

pub over-of : (p : Place) → Sound p → abs_of p ≡ over → over_of p ≡ true
over-of = F.over-of-over program cells

-- ## Runs
-- statements one by one: the place behind them, or the first refusal's number
abbrev pub run_of : Place → List Statement → Out Place
run_of = F.run_of program

pub the-run : (p : Place) (l : List Statement) → Sound p → map_out abs_of (run_of p l) ≡ run (rndf Stretch) (abs_of p) (map meant l)
the-run = F.the-run program cells

-- what is taken to the end spells a network, and what spells one is taken to the end
pub accepted : (l : List Statement) (q : Place) → run_of first_place l ≡ next q → over_of q ≡ true → (n : Network Stretch) × SpellsNetwork n (map meant l)
accepted l q e o = network-sound (map meant l) (rw start_is at (sym (the-run first_place l start-sound) ∙ ap (map_out abs_of) e ∙ ap next (over-is q sound o)))
  where
    sound : Sound q
    sound = rw e at (F.run_sound program cells first_place l start-sound)

pub accepts : (l : List Statement) (n : Network Stretch) → SpellsNetwork n (map meant l) → run_of first_place l ≡ next (place_of over)
accepts l n s = F.run-of program cells first_place l over start-sound (rw start_is (network-complete n (map meant l) s))
