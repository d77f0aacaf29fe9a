-- `expected_forms::put_due` meets its contract, kind by kind. Assumes nothing.
use mathlib.Core.Path.{◌≡◌, refl, ap, ◌∙◌}
use native.Mathlib.Omega.{arith}
use Rattle.expected_words.specs.Items.{law_form}
use Rattle.expected_forms.specs.Forms.{kinds_from}
use Rattle.expected_forms.proofs.PutLists.{no-form, next-kind}
use Rattle.expected_forms.proofs.put_due.Goals as goal

pub loop-kind-init : goal.loop-kind-init
unfolding kinds_from
loop-kind-init c = (omega arith, refl, no-form)

pub loop-kind-preserved : goal.loop-kind-preserved
loop-kind-preserved c =
    let l = c.loop-kind in
    (omega arith, c.put_also-to.auto.out ∙ l.invariant.1, next-kind _ _ l.kind l.invariant.2 c.is_due_kind.ensures (ap law_form c.rndf_form.ensures) c.put_also-to.ensures)

pub shape_of-out : goal.shape_of-out
shape_of-out c = c.loop-kind.invariant.1

pub returns : goal.returns
returns c = let e : c.loop-kind.kind ≡ 30 = omega arith in rw e at c.loop-kind.invariant.2
