-- Executable: the walk over an RNDF's lines up to where it stands at their end: the first fault with its line; or the place behind them, what they gathered, and the number of the line
-- behind them. Assumes nothing.
use Rattle.std.specs.Prelude.{List, [], ◌∷◌, ℕ, suc, ◌+◌, length, drop, eqb, Ok, Err, Result}
use Rattle.terms.specs.Ascii.{Bytes}
use Rattle.terms.specs.Words.{pick}
use Rattle.line.specs.Lines.{lines_of}
use Rattle.grammar.specs.Editions.{Edition}
use Rattle.statement.specs.declared.Statement.{Statement}
use Rattle.place.specs.declared.Place.{Place}
use Rattle.place.specs.Step.{first_place, over_of, refuses_by, tested_of}
use Rattle.progress.specs.declared.Progress.{Progress}
use Rattle.judge.specs.Judging.{Got, bad, blank, said, line}
use Rattle.walk.specs.Standing.{Where, place}
use Rattle.walk.specs.Walking.{Found, fault, gathered}
use Rattle.edition_judge.specs.EditionLine.{bars_of, judging_in}
use Rattle.refusal.specs.Size.{if_too_long}
use Rattle.network.specs.Storing.{Memory}
use Rattle.network.specs.Reading.{put}
use Rattle.refusal.specs.declared.Fault.{Fault}

-- ## One statement
-- 01: "lowest number first": 5 and 6 by the kind, then 9 and 25 by the values; L10: what the edition does not have
abbrev pub first-of : ℕ → ℕ → ℕ
first-of n m = pick (eqb n 0) m n

unfoldable pub the_refusal_of : Edition → Place → (cell : ℕ) → Statement → ℕ
the_refusal_of e p c s = first-of (refuses_by p.given c) (first-of (tested_of p s c) (bars_of e s))

-- ## All lines
pub data WalkEnd : Type 0 where
  stopped : (line number : ℕ) → WalkEnd
  reached : Place → Memory → (line : ℕ) → WalkEnd

abbrev pub goes : Where → Place → Memory → Got Statement Place → (Place → Memory → WalkEnd) → WalkEnd
goes w p m (bad n) k = stopped w.line n
goes w p m blank k = k p m
goes w p m (said s q) k = k q (put w s m)

-- lines from a place on, the first of which starts at `start` and has the number i
unfoldable pub reaching : Edition → Place → Memory → (start i : ℕ) → List Bytes → WalkEnd
reaching e p m start i [] = reached p m i
reaching e p m start i (l ∷ ls) = goes (place start i l) p m (line (judging_in e) l start p) (λ q d. reaching e q d (start + suc (length l)) (suc i) ls)

-- those of a text from a place of it on
abbrev pub onwards : Edition → Bytes → Place → Memory → (from i : ℕ) → WalkEnd
onwards e s p m from i = reaching e p m from i (lines_of (drop from s))

-- 1 of a text that is too long; else the walk
unfoldable pub reached_in : Edition → Bytes → Memory → WalkEnd
reached_in e text m = if_too_long text (stopped 0 1) (reaching e first_place m 0 1 (lines_of text))

-- what was answered, and what the tables then hold, where there is no fault
abbrev pub stood : Result (Place × Progress × ℕ) Fault → (Progress → Memory) → WalkEnd
stood (Err f) tables = stopped f.line f.number
stood (Ok (p, g, i)) tables = reached p (tables g) i

-- ## 10 where the text ends before `end_file`
unfoldable pub ended_of : Result (Place × Progress × ℕ) Fault → Result Progress Fault
ended_of (Err f) = Err f
ended_of (Ok (p, g, i)) = pick (over_of p) (Ok g) (Err (record { line = i; number = 10 }))

-- the same of what they stand for
abbrev pub ending : WalkEnd → Found Memory
ending (stopped i n) = fault i n
ending (reached p m i) = pick (over_of p) (gathered m) (fault i 10)
