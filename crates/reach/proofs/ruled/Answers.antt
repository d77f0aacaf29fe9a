-- `reach::ruled` meets its contract. Assumes nothing.
use Rattle.std.specs.Prelude.{Ok, Err}
use lib.ListN.{length}
use Rattle.reach.proofs.Parts.{ruled-accepted, ruled-refused}
use Rattle.reach.proofs.ruled.Goals as goal

pub returns-in-Ok-found : goal.returns-in-Ok-found
returns-in-Ok-found c =
    let a = c.args in
    record { value = ruled-accepted a.lanes.now a.zones.now a.checkpoints.now a.exits.now a.goals.now a.start (length a.work.now) a.reply c.in-Ok.c c.in-Ok.file c.in-Ok.m c.in-Ok.own c.in-Ok.is c.judged-found.result (Ok tt) c.judged-found.ensures.value c.in-Ok-found.is; work_after = c.judged-found.ensures.work_after }

pub returns-in-Err-found : goal.returns-in-Err-found
returns-in-Err-found c =
    let a = c.args in
    record { value = ruled-accepted a.lanes.now a.zones.now a.checkpoints.now a.exits.now a.goals.now a.start (length a.work.now) a.reply c.in-Ok.c c.in-Ok.file c.in-Ok.m c.in-Ok.own c.in-Ok.is c.judged-found.result (Err (c.in-Err-found.line, c.in-Err-found.number)) c.judged-found.ensures.value c.in-Err-found.is; work_after = c.judged-found.ensures.work_after }

pub returns-in-Err : goal.returns-in-Err
returns-in-Err c =
    let a = c.args in
    record { value = ruled-refused a.lanes.now a.zones.now a.checkpoints.now a.exits.now a.goals.now a.start (length a.work.now) a.reply c.in-Err.why c.in-Err.is; work_after = c.clear.ensures }
