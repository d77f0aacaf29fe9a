-- `yard::kastepuhm_expected` meets its contract: that of `write_expected`, in the edition of this number. Assumes nothing.
use Rattle.yard.proofs.kastepuhm_expected.Goals as goal

pub returns : goal.returns
returns c = rw c.edition_of.ensures at c.write_expected.ensures
