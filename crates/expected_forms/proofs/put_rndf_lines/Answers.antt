-- `expected_forms::put_rndf_lines` meets its contract: the words before the list, the list in two runs, and what stands behind it. Assumes nothing.
use mathlib.Core.Path.{ap, ◌∙◌}
use Rattle.terms.specs.Ascii.{ascii}
use Rattle.output.proofs.Writing.{same}
use Rattle.expected_forms.specs.Listing.{list_end}
use Rattle.expected_forms.proofs.PutLists.{all_forms, whole}
use Rattle.expected_forms.proofs.put_rndf_lines.Goals as goal

pub shape_of-out : goal.shape_of-out
shape_of-out c =
    c.put_list_end.auto.out ∙ c.put_open-all.auto.out ∙ c.put_due-due.auto.out ∙ c.put_bytes-a.auto.out

pub returns : goal.returns
unfolding ascii
returns c =
    whole _ c.put_bytes-a.ensures (all_forms _ _ _ c.put_due-due.ensures c.put_open-all.ensures) (same (ap (list_end _) c.owed_of.ensures) c.put_list_end.ensures)
