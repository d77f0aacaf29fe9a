-- `packed_parts::are_parts` meets its contract. Assumes nothing.
use native.Mathlib.Omega.{arith}
use mathlib.Core.Path.{sym, ◌∙◌}
use Rattle.packed_parts.proofs.PartLaws.{stops-left, checkpoints-wrong, exits-last}
use Rattle.packed_parts.proofs.are_parts.Goals as goal

pub returns-then-taken-stops : goal.returns-then-taken-stops
returns-then-taken-stops c = stops-left c.args.bytes.now c.args.lanes c.args.zones c.args.checkpoints c.args.stops c.args.exits c.args.end (omega (arith, c.taken.ensures))

pub returns-then-are_zone_checkpoints : goal.returns-then-are_zone_checkpoints
returns-then-are_zone_checkpoints c = c.are_zone_exits.ensures ∙ exits-last c.args.bytes.now c.args.lanes c.args.zones c.args.checkpoints c.args.stops c.args.exits c.args.end (omega (arith, c.taken.ensures)) c.taken-checkpoint.result c.taken-checkpoint.ensures (sym c.are_zone_checkpoints.ensures ∙ c.if-are_zone_checkpoints.true) c.taken-exit.result c.taken-exit.ensures

pub returns-else-are_zone_checkpoints : goal.returns-else-are_zone_checkpoints
returns-else-are_zone_checkpoints c = checkpoints-wrong c.args.bytes.now c.args.lanes c.args.zones c.args.checkpoints c.args.stops c.args.exits c.args.end (omega (arith, c.taken.ensures)) c.taken-checkpoint.result c.taken-checkpoint.ensures (sym c.are_zone_checkpoints.ensures ∙ c.if-are_zone_checkpoints.false)
