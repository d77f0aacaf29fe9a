-- Executable: what the reader of an RNDF answers, and what the lent tables then hold. Assumes nothing.
use Rattle.network_reader.specs.Types.{NetworkReply}
use Rattle.std.specs.Prelude.{List, [], Bool, true, false, ◌&&◌, ℕ, ◌+◌, length, ltb, ⊤, Some, None, Ok, Err, Option, Result}
use Rattle.terms.specs.Ascii.{Bytes}
use Rattle.terms.specs.Words.{pick}
use Rattle.room.specs.Room.{fitted, parts_fit_of, marks_fit_of}
use Rattle.rows.specs.declared.FileRow.{FileRow}
use Rattle.law.specs.Tables.{Lent, lent, zeros}
use Rattle.grammar.specs.Editions.{Edition}
use Rattle.progress.specs.declared.Progress.{Progress}
use Rattle.progress.specs.After.{no_progress}
use Rattle.walk.specs.Walking.{Found, fault, gathered}
use Rattle.network.specs.Storing.{Memory, memory}
use Rattle.network.specs.Reading.{filled_in}
use Rattle.references.specs.Finding.{look_in}
use Rattle.references.specs.Exits.{Outcome, done, at, resolved_from}
use Rattle.marks.specs.Tests.{first_repeat_of}
use Rattle.find_line.specs.FoundLines.{rndf_line_in}
use Rattle.counts.specs.declared.Counts.{Counts}
use Rattle.refusal.specs.Shapes as Shape
pub use Rattle.refusal.specs.Size.{most}
use Rattle.refusal.specs.declared.Fault.{Fault}

-- ## Room
unfoldable pub the_counts_of : Progress → Counts
the_counts_of p = record { segments = p.segments; lanes = p.lanes; zones = p.zones; spots = p.spots; points = fitted (p.first + p.within); checkpoints = p.checkpoints; stops = p.stops; exits = p.exits }

abbrev pub room : Counts → Lent → Bool
room c t = pick (parts_fit_of c (length t.segments) (length t.lanes) (length t.zones) (length t.spots)) (marks_fit_of c (length t.points) (length t.checkpoints) (length t.stops) (length t.exits)) false

-- ## References
-- 12 at the line of an exit, 13 at the line of a checkpoint: the earlier of the two
abbrev pub exit_line : Bytes → ℕ → ℕ
exit_line text row = rndf_line_in text 16 row

abbrev pub checkpoint_line_of : Bytes → ℕ → ℕ
checkpoint_line_of text row = rndf_line_in text 14 row

unfoldable pub fault_line_of : Bytes → Option ℕ → Option ℕ → Result ⊤ Fault
fault_line_of text (Some e) (Some k) = pick (ltb (exit_line text e) (checkpoint_line_of text k)) (Err (Shape.fault (exit_line text e) 12)) (Err (Shape.fault (checkpoint_line_of text k) 13))
fault_line_of text (Some e) None = Err (Shape.fault (exit_line text e) 12)
fault_line_of text None (Some k) = Err (Shape.fault (checkpoint_line_of text k) 13)
fault_line_of text None None = Ok tt

-- the exits with their entries looked up; or line and number
pub data Referred : Type 0 where
  right : List ℕ → Referred
  wrong : (line number : ℕ) → Referred

abbrev pub referred : Result ⊤ Fault → List ℕ → Referred
referred (Ok _) exits = right exits
referred (Err f) exits = wrong f.line f.number

abbrev pub joined : Bytes → Outcome → Option ℕ → Referred
joined text (done exits) repeated = referred (fault_line_of text None repeated) exits
joined text (at row) repeated = referred (fault_line_of text (Some row) repeated) []

unfoldable pub refer_of : Bytes → (segments lanes zones checkpoints exits : List ℕ) → Progress → Referred
refer_of text sg ln zn ck ex p = joined text (resolved_from text (look_in sg ln zn) p.segments ex 0 p.exits) (first_repeat_of ck p.checkpoints)

abbrev pub answered_of : Result ⊤ Fault → Counts → FileRow → NetworkReply
answered_of (Ok _) c file = Ok (c, file)
answered_of (Err f) c file = Err f

-- ## The whole
pub data Read : Type 0 where
  refused : (line number : ℕ) → Read
  accepted : Counts → FileRow → Lent → Read

abbrev pub outcome : NetworkReply → Lent → Read
outcome (Ok (c, f)) tables = accepted c f tables
outcome (Err f) tables = refused f.line f.number

abbrev pub tables_of : Memory → Lent
tables_of m = lent m.segments m.lanes m.zones m.spots m.points m.checkpoints m.stops m.exits

abbrev pub from_referred : Memory → Referred → Read
from_referred m (right exits) = accepted (the_counts_of m.so_far) m.so_far.file (lent m.segments m.lanes m.zones m.spots m.points m.checkpoints m.stops exits)
from_referred m (wrong line number) = refused line number

-- filled tables: 11, then 12 and 13
unfoldable pub judged_of : Bytes → Memory → Read
judged_of text m = pick (room (the_counts_of m.so_far) (tables_of m)) (from_referred m (refer_of text m.segments m.lanes m.zones m.checkpoints m.exits m.so_far)) (refused 0 11)

abbrev pub from_filled : Bytes → Found Memory → Read
from_filled text (fault line number) = refused line number
from_filled text (gathered m) = judged_of text m

abbrev pub empty : Lent → Memory
empty t = memory no_progress (zeros t).segments (zeros t).lanes (zeros t).zones (zeros t).spots (zeros t).points (zeros t).checkpoints (zeros t).stops (zeros t).exits

-- by an edition
unfoldable pub read_of : Edition → Bytes → Lent → Read
read_of e text t = from_filled text (filled_in e text (empty t))
