-- A line whose number is replaced: it has bytes, and no LF. Assumes nothing.
use mathlib.Core.Path.{refl}
use mathlib.Core.List.{◌++◌}
use Prim.Native.Nat.{ℕ, zero, suc, ◌<◌}
use native.Mathlib.Omega.{arith}
use lib.ListN.{length, take, drop, length-append}
use Rattle.terms.specs.Words.{Bytes}
use Rattle.scan.specs.Allowed.{digit}
use Rattle.scan.proofs.Reach.{begins-some}
use Rattle.line.specs.Line.{lf, Lacks, none, more}
use Rattle.line.proofs.Contents.{all-lacks}
use Rattle.number.specs.House.{number_byte, house_integer}
use Rattle.number.proofs.House.{house-integer-first, house-integer-bytes}
use Rattle.room.specs.Room.{fitted}
use Rattle.mend_lines.specs.declared.Becomes.TheVariants.{Recount}
use Rattle.mend_pieces.specs.Pieces.{piece_of}

-- ## Bytes without one
lacks-take : {x : ℕ} (n : ℕ) {l : Bytes} → Lacks x l → Lacks x (take n l)
lacks-take zero k = none
lacks-take (suc n) none = none
lacks-take (suc n) (more d k) = more d (lacks-take n k)

lacks_drop : {x : ℕ} (n : ℕ) {l : Bytes} → Lacks x l → Lacks x (drop n l)
lacks_drop zero k = k
lacks_drop (suc n) none = none
lacks_drop (suc n) (more d k) = lacks_drop n k

lacks_both : {x : ℕ} {l r : Bytes} → Lacks x l → Lacks x r → Lacks x (l ++ r)
lacks_both none k = k
lacks_both (more d h) k = more d (lacks_both h k)

integer-lacks : (n : ℕ) → Lacks lf (house_integer n)
integer-lacks n = all-lacks number_byte lf refl (house_integer n) (house-integer-bytes n)

-- ## The line
module _ (l : Bytes) (start stop n : ℕ) where
  pub recounted-some : 0 < length (piece_of (Recount start stop n) l)
  recounted-some = simp length-append (omega (arith, begins-some digit (house_integer (fitted n)) (house-integer-first (fitted n))))

  pub recounted-lacks : Lacks lf l → Lacks lf (piece_of (Recount start stop n) l)
  recounted-lacks h = lacks_both (lacks-take start h) (lacks_both (integer-lacks (fitted n)) (lacks_drop stop h))
