-- `route::ruled` meets its contract. Assumes nothing.
use Rattle.std.specs.Prelude.{Ok}
use mathlib.Core.Path.{sym, ap, ◌∙◌}
use Rattle.route.specs.Judged.{replied, ruled}
use Rattle.route.proofs.ruled.Goals as goal

pub returns-in-Ok-found : goal.returns-in-Ok-found
unfolding ruled
returns-in-Ok-found c =
    let a = c.args in
    let good = sym c.judged-found.ensures ∙ c.in-Ok-found.is in
    sym (ap (ruled a.lanes.now a.zones.now a.checkpoints.now a.exits.now a.goals.now a.start a.route.now) c.in-Ok.is ∙ ap (replied (Ok (c.in-Ok.c, c.in-Ok.file, c.in-Ok.m, c.in-Ok.own))) good)

pub returns-in-Err-found : goal.returns-in-Err-found
unfolding ruled
returns-in-Err-found c =
    let a = c.args in
    let wrong = sym c.judged-found.ensures ∙ c.in-Err-found.is in
    sym (ap (ruled a.lanes.now a.zones.now a.checkpoints.now a.exits.now a.goals.now a.start a.route.now) c.in-Ok.is ∙ ap (replied (Ok (c.in-Ok.c, c.in-Ok.file, c.in-Ok.m, c.in-Ok.own))) wrong)

pub returns-in-Err : goal.returns-in-Err
unfolding ruled
returns-in-Err c =
    let a = c.args in
    sym (ap (ruled a.lanes.now a.zones.now a.checkpoints.now a.exits.now a.goals.now a.start a.route.now) c.in-Err.is)
