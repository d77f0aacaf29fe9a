-- `expected_references::kept_id` meets its contract. Assumes nothing.
use mathlib.Core.Path.{refl}
use borrow.Author.Tests.{eq-eqb, ne_eqb}
use Rattle.expected_references.specs.Named.{kept_id_of}
use Rattle.expected_references.proofs.kept_id.Goals as goal

pub returns-then-rndf_line_kind-eq-POINT : goal.returns-then-rndf_line_kind-eq-POINT
unfolding kept_id_of
returns-then-rndf_line_kind-eq-POINT c = rw (← c.rndf_line_kind.ensures, eq-eqb _ _ c.if-rndf_line_kind-eq-POINT.true, ← c.field_on.ensures, ← c.triple_of.ensures) c.id_of.ensures

pub returns : goal.returns
unfolding kept_id_of
returns c = rw (← c.rndf_line_kind.ensures, ne_eqb _ _ c.if-rndf_line_kind-eq-POINT.false) refl
