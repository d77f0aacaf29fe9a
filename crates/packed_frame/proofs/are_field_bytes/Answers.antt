-- `packed_frame::are_field_bytes` meets its contract. Assumes nothing.
use Rattle.std.proofs.Common.{ℕ, Bool, ◌&&◌, refl, ◌∙◌, rules, tests}
use Rattle.std.specs.List.{list_all}
use Rattle.std.proofs.lemmas.Iterator.{YieldsList-from_slice}
use Rattle.std.proofs.lemmas.Iterator.Search.{all_from_yields_List}
use Rattle.std.proofs.lemmas.List.Recursion.{same_from_clauses}
use Rattle.scan.specs.Allowed.{field_byte, all}
use Rattle.packed_frame.proofs.are_field_bytes.Goals as goal

pub returns : goal.returns
unfolding all
returns c =
    let xs = c.args.bytes.now in
    all_from_yields_List field_byte _ _ _ c.all.ensures.ran (YieldsList-from_slice xs cc) (λ x b q k. search (rules, tests))
    ∙ same_from_clauses (list_all field_byte) (all field_byte) (λ (x : ℕ) (t : Bool). field_byte x && t) refl (λ _ _. refl) (λ _ _. refl) xs
