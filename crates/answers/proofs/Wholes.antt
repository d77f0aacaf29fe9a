-- A sentence alone in an output: cleared, put and finished it is there whole, or not at all. Assumes nothing.
use Rattle.std.specs.Prelude.{Some, None}
use mathlib.Core.Path.{refl}
use Prim.Native.Nat.{ℕ}
use mir.Syntax.{w32}
use mir.Val.{Fits}
use native.Mathlib.Omega.{arith}
use Rattle.terms.specs.Ascii.{Bytes}
use Rattle.output.specs.Ended.{Output}
use Rattle.output.proofs.Whole.{answered-written, answered_too-long}
use Rattle.answers.specs.Sentences.{WholeOrNone, whole, too_long}

module _ {lent : ℕ} {said out : Bytes} where
  pub told-whole : {n : ℕ} → Output lent said out (Some n) → WholeOrNone said lent n out
  told-whole o = let w = answered-written o in whole w.0 w.1 w.2

  pub told_none : Output lent said out None → WholeOrNone said lent 0 out
  told_none o = let w = answered_too-long o in too_long w.0 refl w.1

  -- its length is a u32
  pub fits_word : {n : ℕ} → Output lent said out (Some n) → Fits w32 n
  fits_word o = let w = answered-written o in let s = w.0.size in let e = w.1 in record { fits = omega arith }
