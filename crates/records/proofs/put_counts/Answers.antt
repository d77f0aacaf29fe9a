-- `records::put_counts` meets its contract. Assumes nothing.
use Rattle.output.proofs.Writing.{◌then◌}
use Rattle.records.specs.Put.{counts_put}
use Rattle.records.proofs.put_counts.Goals as goal

pub returns : goal.returns
unfolding counts_put
returns c = c.put_u32_be-s.ensures then c.put_u32_be-l.ensures then c.put_u32_be-z.ensures then c.put_u32_be-p.ensures then c.put_u32_be-q.ensures then c.put_u32_be-m.ensures then c.put_u32_be-t.ensures then c.put_u32_be.ensures
