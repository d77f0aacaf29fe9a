use lib.ListN.{length}
use Rattle.output.proofs.Whole.{written}
use Rattle.writer.proofs.put_whole.Goals as goal

pub returns : goal.returns
returns c = written {lent = length c.args.out.now} c.clear_output.ensures c.put_house-at.ensures c.finish.ensures
