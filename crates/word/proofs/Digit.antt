-- The test of a first digit says just that. Assumes nothing.
use mathlib.Core.Path.{◌≡◌, sym}
use mathlib.Core.List.{[], ◌∷◌}
use mathlib.Core.Bool.{true, false}
use borrow.Author.Tests.{le-leb}
use Rattle.terms.specs.Ascii.{Bytes}
use Rattle.terms.proofs.Tests.{clash, refused, and}
use Rattle.scan.specs.Reach.{begins}
use Rattle.scan.proofs.Bytes.{within-is}
use Rattle.word.specs.Keywords.{BeginsWithDigit}
use Rattle.word.specs.Number.{digit_first}

pub digit-only : (s : Bytes) → digit_first s ≡ true → BeginsWithDigit s
unfolding begins
digit-only [] e = clash (sym e)
digit-only (b ∷ rest) e = let w = within-is 48 57 b e in record { low = w.0; high = w.1 }

pub digit-all : (s : Bytes) → BeginsWithDigit s → digit_first s ≡ true
unfolding begins
digit-all [] d = absurd d
digit-all (b ∷ rest) d = and (le-leb 48 b d.low) (le-leb b 57 d.high)

pub digit_not : (s : Bytes) → digit_first s ≡ false → BeginsWithDigit s → ⊥
digit_not s e d = refused (digit-all s) e d
