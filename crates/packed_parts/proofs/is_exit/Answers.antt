-- `packed_parts::is_exit` meets its contract. Assumes nothing.
use borrow.Author.Rules.{rules}
use mathlib.Core.Path.{sym, ap, ◌∙◌}
use Rattle.packed_rows.proofs.FixedLaws.{here-inside}
use Rattle.packed_parts.specs.Parts.{cell_at}
use Rattle.packed_parts.specs.Entries.{entry_right}
use Rattle.packed_parts.proofs.EntryLaws.{no_record, is-entry}
use Rattle.packed_parts.proofs.is_exit.Goals as goal

pub overflow_add-at : goal.overflow_add-at
overflow_add-at c = search (rules, here-inside c.args.bytes.now c.args.at 8 (sym c.is_record.ensures ∙ c.if-is_record.true))

pub returns-then-is_record : goal.returns-then-is_record
returns-then-is_record c = c.is_entry.ensures ∙ ap (entry_right (cell_at c.args.bytes.now c.args.spots.from 8 2) c.args.spots.count c.args.points c.args.end) c.four_at-entry.ensures ∙ is-entry c.args.bytes.now c.args.at (cell_at c.args.bytes.now c.args.spots.from 8 2) c.args.spots.count c.args.points c.args.end (sym c.is_record.ensures ∙ c.if-is_record.true)

pub returns-else-is_record : goal.returns-else-is_record
returns-else-is_record c = no_record c.args.bytes.now c.args.at (cell_at c.args.bytes.now c.args.spots.from 8 2) c.args.spots.count c.args.points c.args.end (sym c.is_record.ensures ∙ c.if-is_record.false)
