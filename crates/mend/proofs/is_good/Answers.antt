-- `mend::is_good` meets its contract. Assumes nothing.
use mathlib.Core.Path.{sym, subst, ◌∙◌}
use Prim.Native.Nat.{ℕ}
use lib.ListN.{length}
use Rattle.edition.specs.Editions.{inner}
use Rattle.mend_law.specs.Mend.{mended_text}
use Rattle.mend_good.proofs.Deciding.{long-past}
use Rattle.mend.proofs.Deciding.{form-past, repeat_past, entries-past, all-good}
use Rattle.mend.proofs.Leaving.{counted-length, counted-long}
use Rattle.mend.specs.Mending.{EntriesTold}
use Rattle.mend.proofs.Steps.{past_told, good-told}
use Rattle.mend.proofs.is_good.Goals as goal

pub returns-in_default : goal.returns-in_default
returns-in_default c =
    let A = c.args in
    past_told A.edition A.text.now (form-past (inner A.edition) A.text.now _ _ (rw c.in_default.is at c.form_of.ensures))

pub returns-then-mended_length-gt-MOST : goal.returns-then-mended_length-gt-MOST
returns-then-mended_length-gt-MOST c =
    let A = c.args in
    past_told A.edition A.text.now (long-past (inner A.edition) (mended_text A.text.now) (counted-long A.text.now _ c.mended_length.ensures c.if-mended_length-gt-MOST.true))

pub returns-in-Some-repeated : goal.returns-in-Some-repeated
returns-in-Some-repeated c =
    let A = c.args in
    let f = rw (c.clear.ensures, c.in-Some.is) at c.form_of.ensures in
    let size = counted-length A.text.now _ c.mended_length.ensures c.if-mended_length-gt-MOST.false in
    past_told A.edition A.text.now (repeat_past (inner A.edition) A.text.now (length A.list.now) c.requires.text_in_bounds _ _ f size _ (sym c.first_repeat-repeated.ensures ∙ c.in-Some-repeated.is))

pub returns-in-None : goal.returns-in-None
returns-in-None c =
    let A = c.args in
    let f = rw (c.clear.ensures, c.in-Some.is) at c.form_of.ensures in
    let size = counted-length A.text.now _ c.mended_length.ensures c.if-mended_length-gt-MOST.false in
    let r = sym c.first_repeat-repeated.ensures ∙ c.in-None.is in
    good-told A.edition A.text.now (length A.list.now) _ _ (subst (λ (k : ℕ). EntriesTold (inner A.edition) A.text.now k c.in-Some.gained c.are_entries_right.result) (c.form_of.auto.list ∙ c.clear.auto.t) c.are_entries_right.ensures)
    (all-good (inner A.edition) A.text.now (length A.list.now) c.requires.text_in_bounds _ _ f size r) (entries-past (inner A.edition) A.text.now (length A.list.now) c.requires.text_in_bounds _ _ f size)
