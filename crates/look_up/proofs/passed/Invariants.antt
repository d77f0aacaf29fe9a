use Prim.Native.Nat.{◌*◌}
use Rattle.look_up.specs.LookUp.{NoneBefore}
use Rattle.look_up.proofs.passed.Given as goal

abbrev pub invariant-loop-eight : goal.invariant-loop-eight
invariant-loop-eight l = NoneBefore l.checkpoints (8 * l.eight) l.wanted
