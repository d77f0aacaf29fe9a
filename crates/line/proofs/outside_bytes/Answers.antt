-- `line::outside_bytes` meets its contract. Assumes nothing.
use Rattle.scan.specs.Allowed.{outside}
use Rattle.scan.specs.Reach.{stops_by}
use Rattle.scan.specs.declared.Until.TheVariants.{NotOutside}
use Rattle.scan.proofs.Reach.{from_start, all_scan, not-outside}
use Rattle.line.proofs.outside_bytes.Goals as goal

pub returns : goal.returns
returns c = let s = c.args.s.now in rw (c.not_outside_from.ensures, from_start (stops_by NotOutside) s) (all_scan (stops_by NotOutside) outside not-outside s)
