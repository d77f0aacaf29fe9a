-- `packed_parts::lead_to_lanes` meets its contract. Assumes nothing.
use Rattle.std.proofs.Common.{◌-◌, ltb, refl, ◌∙◌, rules, tests}
use Rattle.std.proofs.lemmas.Iterator.{YieldsList-from_range}
use Rattle.std.proofs.lemmas.Iterator.Search.{all_from_yields_List}
use Rattle.packed_parts.specs.Parts.{cell_at}
use Rattle.packed_parts.proofs.PartLaws.{each-below}
use Rattle.packed_parts.proofs.lead_to_lanes.Goals as goal

pub returns : goal.returns
returns c =
    let a = c.args in
    let key = cell_at a.bytes.now a.exits.from 10 6 in
    all_from_yields_List (λ i. ltb (key i) a.end) _ _ _ c.all.ensures.ran (YieldsList-from_range a.row a.until (a.until - a.row) refl refl) (λ x b q k. search (rules, tests))
    ∙ each-below key a.end (a.until - a.row) a.row
