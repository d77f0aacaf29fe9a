-- `search::leads_to` meets its contract. Assumes nothing.
use mathlib.Core.Path.{ap, ◌∙◌}
use Prim.Native.Nat.{ℕ}
use lib.ListN.{length, replicate}
use Rattle.search.proofs.Steps.{leads-is}
use Rattle.search.proofs.leads_to.Goals as goal

pub returns : goal.returns
returns c =
    let a = c.args in record {
      value = leads-is a.lanes.now a.zones.now a.exits.now a.c (length a.work.now) a.from a.to c.search_from.new.work c.word-there.result c.search_from.ensures c.word-there.ensures;
      work_after = c.clear.ensures ∙ ap (λ (x : ℕ). replicate x 0) c.search_from.auto.work;
    }
