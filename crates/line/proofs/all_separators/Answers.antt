-- `line::all_separators` meets its contract. Assumes nothing.
use Rattle.scan.specs.Allowed.{separates}
use Rattle.scan.specs.Reach.{stops_by}
use Rattle.scan.specs.declared.Until.TheVariants.{NotSeparator}
use Rattle.scan.proofs.Reach.{from_start, all_scan, not-separator}
use Rattle.line.proofs.all_separators.Goals as goal

pub returns : goal.returns
returns c = let s = c.args.s.now in rw (c.not_separator_from.ensures, from_start (stops_by NotSeparator) s) (all_scan (stops_by NotSeparator) separates not-separator s)
