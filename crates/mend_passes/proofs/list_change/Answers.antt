-- `mend_passes::list_change` meets its contract. Assumes nothing.
use mathlib.Core.Path.{refl}
use native.Mathlib.Omega.{arith}
use Rattle.rows.specs.Table.{put_rows}
use Rattle.mend_passes.proofs.list_change.Goals as goal

pub returns-in-Stays : goal.returns-in-Stays
unfolding put_rows
returns-in-Stays c = record { list_after = rw c.in-Stays.is refl; value = rw c.in-Stays.is (omega arith) }

pub returns-in-Goes : goal.returns-in-Goes
unfolding put_rows
returns-in-Goes c = record { list_after = rw c.in-Goes.is c.store_change.ensures; value = rw c.in-Goes.is (omega arith) }

pub returns-in-Recount : goal.returns-in-Recount
unfolding put_rows
returns-in-Recount c = record { list_after = rw c.in-Recount.is c.store_change-in-Recount.ensures; value = rw c.in-Recount.is (omega arith) }
