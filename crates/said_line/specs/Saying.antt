-- What an answer stands for at a place: what the judge gives the line there. Assumes nothing.
use Rattle.said_line.specs.Types.{Said}
use Rattle.std.specs.Prelude.{◌≡◌, List, ℕ, ◌≤◌, eqb, Ok, Err}
use Rattle.std.proofs.Math.Option.{Option, none, some}
use Rattle.terms.specs.Ascii.{Bytes}
use Rattle.terms.specs.Words.{pick}
use Rattle.scan.specs.Reach.{reach, stops_by}
use Rattle.scan.specs.declared.Until.TheVariants.{Byte}
use Rattle.line.specs.declared.Fields.{Fields}
use Rattle.line_fields.specs.LineFields.{line_fields_of, last_start_of}
use Rattle.statement.specs.declared.Statement.{Statement}
use Rattle.place.specs.declared.Place.{Place}
use Rattle.judge.specs.Judging.{Got, bad, blank, line}
use Rattle.judge.specs.RndfLine.{judging}
use Rattle.plain_parts.specs.Stands.{stretch}
use Rattle.plain_fields.specs.LineStands.{stated}
use Rattle.said_line.specs.declared.Cut as DC
use Rattle.said_line.specs.declared.Cut.TheVariants as Cut
use Rattle.said_line.specs.declared.Line as DL
use Rattle.said_line.specs.declared.Line.TheVariants as Line

-- 01: 8 "field not of its kind"
abbrev pub made_cut : (kind last : ℕ) → Option Statement → DC.Cut
made_cut k last (some s) = Cut.Said k s last
made_cut k last none = Cut.Bad 8

-- what comes of an answer at a place
abbrev pub got_of : List (List ℕ) → Place → DC.Cut → Got Statement Place
got_of table p Cut.Blank = blank
got_of table p (Cut.Said k s last) = stated (judging table) k s p
got_of table p (Cut.Bad n) = bad n

-- ## Where the last field starts
-- of one to three
abbrev pub last_in : Fields → ℕ
last_in f = pick (eqb f.count 1) f.a.start (pick (eqb f.count 2) f.b.start f.c.start)

-- with a statement it is told
abbrev pub LastTold : ℕ → DC.Cut → Type 0
LastTold n Cut.Blank = Unit {0}
LastTold n (Cut.Said k s last) = last ≡ n
LastTold n (Cut.Bad m) = Unit {0}

-- and no statement has more than three fields
abbrev pub LastOfFew : (count n : ℕ) → DC.Cut → Type 0
LastOfFew count n Cut.Blank = Unit {0}
LastOfFew count n (Cut.Said k s last) = (last ≡ n) × (count ≤ 3)
LastOfFew count n (Cut.Bad m) = Unit {0}

-- ## The line
-- the line that starts there gets this at the place, ends where it is said to, and its last field starts there
abbrev pub Says : List (List ℕ) → Bytes → ℕ → Place → Said → Type 0
Says table s from p (Ok (k, st, e, last)) = (e ≡ reach (stops_by (Byte 10)) s from) × (line (judging table) (stretch s from e) from p ≡ stated (judging table) k st p) × (last ≡ last_start_of (line_fields_of from (stretch s from e)))
Says table s from p (Err n) = line (judging table) (stretch s from (reach (stops_by (Byte 10)) s from)) from p ≡ bad n

-- the same of a blank one
abbrev pub LineSays : List (List ℕ) → Bytes → ℕ → Place → DL.Line → Type 0
LineSays table s from p (Line.Blank e) = (e ≡ reach (stops_by (Byte 10)) s from) × (line (judging table) (stretch s from e) from p ≡ blank)
LineSays table s from p (Line.Filled x) = Says table s from p x
