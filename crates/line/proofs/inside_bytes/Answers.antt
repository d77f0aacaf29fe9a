-- `line::inside_bytes` meets its contract. Assumes nothing.
use Rattle.scan.specs.Allowed.{inside}
use Rattle.scan.specs.Reach.{stops_by}
use Rattle.scan.specs.declared.Until.TheVariants.{NotInside}
use Rattle.scan.proofs.Reach.{from_start, all_scan, not-inside}
use Rattle.line.proofs.inside_bytes.Goals as goal

pub returns : goal.returns
returns c = let s = c.args.s.now in rw (c.not_inside_from.ensures, from_start (stops_by NotInside) s) (all_scan (stops_by NotInside) inside not-inside s)
