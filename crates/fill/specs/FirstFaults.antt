-- Executable: the first row at fault, and its number; 12 and 13 over the tables of a network, 15 to 18 over those of a network and a mission.
use Rattle.std.specs.Prelude.{List, [], ◌∷◌, ◌++◌, map, Bool, true, false, not, ℕ, zero, suc, ◌+◌, eqb, leb, length}
use Rattle.std.proofs.Math.Option.{Option, none, some}
use Rattle.terms.specs.Words.{pick}
use Rattle.grammar.specs.Statements.{PointId}
use Rattle.grammar.specs.Tables.{Tables, MissionTables}
use Rattle.fill.specs.Resolve.{resolve_in}

pub record Fault : Type 0 where
  pub row : ℕ
  pub number : ℕ

abbrev pub fault : ℕ → ℕ → Fault
fault row number = record { row = row; number = number }

-- ## The first of a list that is at fault
-- a row's own fault, if it has one, or what the rows behind it have
abbrev pub or_behind : (row : ℕ) → Option ℕ → Option Fault → Option Fault
or_behind row (some k) o = some (fault row k)
or_behind row none o = o

-- `test front a`: the number of a row that says a, behind rows that say `front`
unfoldable pub first_fault : {A : Type 0} → (List A → A → Option ℕ) → (front l : List A) → Option Fault
first_fault test front [] = none
first_fault test front (a ∷ l) = or_behind (length front) (test front a) (first_fault test (front ++ (a ∷ [])) l)

abbrev pub fault_if : Bool → ℕ → Option ℕ
fault_if true k = some k
fault_if false k = none

-- the first of two tests that gives a number
abbrev pub or_else : Option ℕ → Option ℕ → Option ℕ
or_else (some k) o = some k
or_else none o = o

unfoldable pub is_among : ℕ → List ℕ → Bool
is_among a [] = false
is_among a (b ∷ l) = pick (eqb a b) true (is_among a l)

-- ## A network
-- 12: the entry has no row
abbrev pub unless_found : Option ℕ → Option ℕ
unless_found none = some 12
unless_found (some i) = none

abbrev pub entry_fault_of : {N E : Type 0} → Tables N E → List PointId → PointId → Option ℕ
entry_fault_of t front e = unless_found (resolve_in t e)

abbrev pub first_undeclared : {N : Type 0} → Tables N PointId → Option Fault
first_undeclared t = first_fault (entry_fault_of t) [] (map (λ a. a.entry) t.exits)

-- 13: the number stood before
abbrev pub number_fault : List ℕ → ℕ → Option ℕ
number_fault front a = fault_if (is_among a front) 13

abbrev pub the_first_repeat_of : List ℕ → Option Fault
the_first_repeat_of = first_fault number_fault []

-- the checkpoints' numbers, in file order
abbrev pub numbers_of : {N E : Type 0} → Tables N E → List ℕ
numbers_of t = map (λ a. a.number) t.checkpoints

-- ## A mission of a network
-- 15: no checkpoint has the number
abbrev pub goal_fault : List ℕ → List ℕ → ℕ → Option ℕ
goal_fault numbers front a = fault_if (not (is_among a numbers)) 15

abbrev pub the_first_foreign_goal_of : (numbers goals : List ℕ) → Option Fault
the_first_foreign_goal_of numbers = first_fault (goal_fault numbers) []

-- the ids of the RNDF are 1 to this number
abbrev pub the_parts_of : {N E : Type 0} → Tables N E → ℕ
the_parts_of t = length t.segments + length t.zones

-- the limits' ids, in file order
abbrev pub ids_of : {N : Type 0} → MissionTables N → List ℕ
ids_of t = map (λ a. a.id) t.limits

abbrev pub in_parts : ℕ → ℕ → Bool
in_parts parts i = pick (leb 1 i) (leb i parts) false

-- 16: the RNDF has no such id; else 17: it stood before
abbrev pub limit_fault : ℕ → List ℕ → ℕ → Option ℕ
limit_fault parts front i = or_else (fault_if (not (in_parts parts i)) 16) (fault_if (is_among i front) 17)

abbrev pub the_first_bad_limit_of : (parts : ℕ) (ids : List ℕ) → Option Fault
the_first_bad_limit_of parts = first_fault (limit_fault parts) []

-- 18: one of the ids 1 to `parts` has no limit
unfoldable pub some_missing : (parts : ℕ) → List ℕ → Bool
some_missing zero ids = false
some_missing (suc i) ids = pick (is_among (suc i) ids) (some_missing i ids) true
