-- What the constructor of a kind takes is what the places permit of its numbers. Assumes nothing.
use Rattle.std.specs.Prelude.{Some, None}
use Rattle.std.specs.Option.{is_some}
use mathlib.Core.Path.{◌≡◌, refl, sym, ◌∙◌}
use mathlib.Core.Bool.{Bool, true, false, ◌&&◌}
use Prim.Native.Nat.{ℕ}
use native.Mathlib.Omega.{arith}
use lib.Dec.{leb}
use borrow.Author.Tests.{le-leb}
use Rattle.terms.specs.Words.{pick}
use Rattle.units.specs.Range.{largest}
use Rattle.units.specs.Made.{within, feet, mph, checkpoint_number_of, segment_id_of, feet_of, mph_of, the_checkpoint_number_of, the_segment_id_of}
use Rattle.permitted.specs.Tests.{is_counted, is_at_most}
use Rattle.permitted.proofs.Computes.{counted_is, at-most-is}

-- from 0 on, and from 1 on
from_0 : (n : ℕ) → within 0 n ≡ is_at_most n
from_0 n = rw (le-leb 0 n (omega arith)) (sym (at-most-is n))

from_1 : (n : ℕ) → within 1 n ≡ is_counted n
from_1 n = go (leb 1 n) ∙ sym (counted_is n)
  where
    go : (t : Bool) → pick t (leb n largest) false ≡ (t && leb n largest)
    go true = refl
    go false = refl

-- was it taken?
taken : {T : Type 0} (t : Bool) (x : T) → is_some (pick t (Some x) None) ≡ t
taken true x = refl
taken false x = refl

-- ## The laws
pub width-taken : (n : ℕ) → is_some (feet_of n) ≡ is_at_most n
unfolding feet_of
width-taken n = taken (within 0 n) (feet n) ∙ from_0 n

pub speed_taken : (n : ℕ) → is_some (mph_of n) ≡ is_at_most n
unfolding mph_of
speed_taken n = taken (within 0 n) (mph n) ∙ from_0 n

pub number-taken : (n : ℕ) → is_some (the_checkpoint_number_of n) ≡ is_counted n
unfolding the_checkpoint_number_of
number-taken n = taken (within 1 n) (checkpoint_number_of n) ∙ from_1 n

pub identifier-taken : (n : ℕ) → is_some (the_segment_id_of n) ≡ is_counted n
unfolding the_segment_id_of
identifier-taken n = taken (within 1 n) (segment_id_of n) ∙ from_1 n
