use Rattle.std.specs.Prelude.{ℕ, ⊤, Option, Result}
use mathlib.Core.Path.{ap, ap₂, ◌∙◌}
use Rattle.references.specs.Exits.{Outcome}
use Rattle.network_reader.specs.Reading.{referred, joined, refer_of}
use Rattle.network_reader.proofs.Steps.{joined-told}
use Rattle.network_reader.proofs.refer.Goals as goal
use Rattle.refusal.specs.declared.Fault.{Fault}

pub returns : goal.returns
unfolding refer_of
returns c =
    let text = c.args.text.now in
    ap (λ (x : Result ⊤ Fault). referred x c.resolve_exits-undeclared.new.exits) c.fault_line.ensures ∙ joined-told text c.resolve_exits-undeclared.result c.first_repeat-repeated.result c.resolve_exits-undeclared.new.exits
    ∙ ap₂ (λ (x : Outcome) (y : Option ℕ). joined text x y) c.resolve_exits-undeclared.ensures.exits_after c.first_repeat-repeated.ensures
