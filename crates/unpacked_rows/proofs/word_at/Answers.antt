-- `unpacked_rows::word_at` meets its contract. Assumes nothing.
use Rattle.packed_rows.proofs.PointLaws.{four-none}
use Prim.Native.Nat.{◌+◌}
use native.Mathlib.Omega.{arith}
use Rattle.unpacked_rows.proofs.word_at.Goals as goal

pub returns-then-bytes-skip : goal.returns-then-bytes-skip
returns-then-bytes-skip c = four-none c.args.bytes.now (c.args.at + c.args.skip) (omega arith)

pub returns-then-bytes-skip-2 : goal.returns-then-bytes-skip-2
returns-then-bytes-skip-2 c = four-none c.args.bytes.now (c.args.at + c.args.skip) (omega arith)
