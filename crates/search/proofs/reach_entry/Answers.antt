-- `search::reach_entry` meets its contract. Assumes nothing.
use mathlib.Core.Path.{ap, ◌∙◌}
use Prim.Native.Nat.{◌+◌, ◌*◌}
use lib.ListN.{get_or}
use Rattle.rows.specs.Strides.{exit_stride}
use Rattle.search.specs.Search.{marks, reached, spread}
use Rattle.search.proofs.Steps.{too-early, too-late, this-entry}
use Rattle.search.proofs.reach_entry.Goals as goal

-- src/lib.rt:99:9
pub returns-then-source-least : goal.returns-then-source-least
returns-then-source-least c =
    let a = c.args in
    too-early (spread a.lanes.now a.zones.now a.c) a.least a.last a.source (get_or a.exits.now (a.row * exit_stride + 1) 0) (marks a.work.now a.top) c.if-source-least.true

-- src/lib.rt:102:9
pub returns-then-last-source : goal.returns-then-last-source
returns-then-last-source c =
    let a = c.args in
    too-late (spread a.lanes.now a.zones.now a.c) a.least a.last a.source (get_or a.exits.now (a.row * exit_stride + 1) 0) (marks a.work.now a.top) c.if-source-least.false c.if-last-source.true

-- src/lib.rt:83:1
pub returns : goal.returns
returns c =
    let a = c.args in
    c.reach.ensures
    ∙ ap (reached (spread a.lanes.now a.zones.now a.c) (marks a.work.now a.top)) c.word-entry.ensures
    ∙ this-entry (spread a.lanes.now a.zones.now a.c) a.least a.last a.source (get_or a.exits.now (a.row * exit_stride + 1) 0) (marks a.work.now a.top) c.if-source-least.false c.if-last-source.false
