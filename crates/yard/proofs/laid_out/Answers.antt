-- `yard::laid_out` meets its contract: each name by what `named` answers, all else as it stands. Assumes nothing.
use mathlib.Core.Path.{refl}
use Rattle.yard.proofs.laid_out.Goals as goal

pub returns : goal.returns
returns c = rw (c.named-7.ensures, c.named-6.ensures, c.named-5.ensures, c.named-4.ensures, c.named-3.ensures, c.named-2.ensures, c.named.ensures) refl
