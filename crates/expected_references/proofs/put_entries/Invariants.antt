use mathlib.Core.Path.{◌≡◌}
use mathlib.Core.List.{map}
use Prim.Native.Nat.{◌+◌, ◌-◌, ◌≤◌}
use lib.ListN.{length, drop}
use Rattle.terms.specs.Ascii.{ascii}
use Rattle.line.specs.Lines.{lines_of}
use Rattle.refusal.specs.Size.{most}
use Rattle.output.specs.Pen.{pen, put}
use Rattle.expected_law.specs.Expected.{entries}
use Rattle.expected_law.specs.Telling.{points_words, told}
use Rattle.expected_references.specs.Listing.{listing}
use Rattle.expected_references.specs.Named.{parts_from, entries_in}
use Rattle.expected_references.proofs.put_entries.Given as goal

abbrev pub invariant-loop-from : goal.invariant-loop-from
invariant-loop-from l = (length l.out ≡ length l.initial.out) × (l.count ≤ l.from) × (l.from ≤ length l.rndf + 1) × (length l.rndf ≤ most) × (put (pen l.out l.to) (listing (ascii "may stand here: ") (ascii "may stand here: ") l.count (map points_words (parts_from l.low l.last (lines_of (drop l.from l.rndf))))) ≡ put (pen l.initial.out l.at) (told (entries (entries_in l.rndf l.line))))

abbrev pub decreases-loop-from : goal.decreases-loop-from
decreases-loop-from l = length l.rndf + 1 - l.from
