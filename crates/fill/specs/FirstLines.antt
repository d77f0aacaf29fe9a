-- Executable: the first statement at fault, with 12 or 13 in an RNDF, with 14 to 18 in an MDF.
use Rattle.std.specs.Prelude.{List, [], ◌∷◌, map, Bool, not, ℕ, zero, suc, leb}
use Rattle.std.proofs.Math.Option.{Option, none, some}
use Rattle.terms.specs.Words.{pick}
use Rattle.grammar.specs.Language.{Lang, S, as_kind, all_of}
use Rattle.grammar.specs.Statements.{Statement, lines, checkpoint, exit}
use Rattle.grammar.specs.MissionStatements as M
use Rattle.grammar.specs.Tables.{Tables}
use Rattle.fill.specs.FirstFaults.{Fault, fault, fault_if, or_else, first_fault, entry_fault_of, number_fault, goal_fault, limit_fault, some_missing}

abbrev pub on : {A : Type 0} → (A → Option ℕ) → Option A → Option ℕ
on f none = none
on f (some a) = f a

module _ (L : Lang) where
  open L use {Kind, Pay}

  -- a test of the statements of one kind, by what g tells of them; no other statement is at fault
  abbrev pub said : (k : Kind) {A : Type 0} → (Pay k → A) → (List A → A → Option ℕ) → List (S L) → S L → Option ℕ
  said k g test front x = on (λ v. test (map g (all_of L k front)) (g v)) (as_kind L k x)

  abbrev pub here_or_behind : {A : Type 0} → Option A → ℕ → (ℕ → ℕ) → ℕ
  here_or_behind none j behind = suc (behind j)
  here_or_behind (some v) zero behind = 0
  here_or_behind (some v) (suc j) behind = suc (behind j)

  -- where the j-th statement of this kind stands, both counted from 0
  unfoldable pub the_place_of : Kind → List (S L) → ℕ → ℕ
  the_place_of k [] j = 0
  the_place_of k (x ∷ l) j = here_or_behind (as_kind L k x) j (the_place_of k l)

  -- the statement of a row
  abbrev pub placed : Kind → List (S L) → Option Fault → Option Fault
  placed k l none = none
  placed k l (some f) = some (fault (the_place_of k l f.row) f.number)

-- the one that comes first
abbrev pub earlier : Option Fault → Option Fault → Option Fault
earlier none b = b
earlier (some a) none = some a
earlier (some a) (some b) = some (pick (leb a.row b.row) a b)

-- 12, 13
abbrev pub reference_fault : {N E : Type 0} → Tables N E → List (Statement N) → Statement N → Option ℕ
reference_fault {N} t front x = or_else (said (lines N) exit (λ v. v.entry) (entry_fault_of t) front x) (said (lines N) checkpoint (λ v. v.number) number_fault front x)

abbrev pub first_reference : {N E : Type 0} → Tables N E → List (Statement N) → Option Fault
first_reference t = first_fault (reference_fault t) []

-- 14: it is not the RNDF's name, as `named` tells
abbrev pub name_fault : {N : Type 0} → (N → Bool) → List N → N → Option ℕ
name_fault named front v = fault_if (not (named v)) 14

-- 18: at `end_speed_limits`, by the limits in front of it
abbrev pub end_fault : {N : Type 0} → ℕ → List (M.Statement N) → M.Statement N → Option ℕ
end_fault {N} parts front x = on (λ v. fault_if (some_missing parts (map (λ a. a.id) (M.of_kind M.limit front))) 18) (as_kind (M.orders N) M.end_speed_limits x)

-- 14 to 18
abbrev pub mission_fault : {N : Type 0} → (N → Bool) → (numbers : List ℕ) (parts : ℕ) → List (M.Statement N) → M.Statement N → Option ℕ
mission_fault {N} named numbers parts front x = or_else (said (M.orders N) M.RNDF (λ v. v) (name_fault named) front x)
    (or_else (said (M.orders N) M.goal (λ v. v) (goal_fault numbers) front x)
    (or_else (said (M.orders N) M.limit (λ a. a.id) (limit_fault parts) front x)
    (end_fault parts front x)))

abbrev pub first_mission_fault : {N : Type 0} → (N → Bool) → (numbers : List ℕ) (parts : ℕ) → List (M.Statement N) → Option Fault
first_mission_fault named numbers parts = first_fault (mission_fault named numbers parts) []
