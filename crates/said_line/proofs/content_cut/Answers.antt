-- `said_line::content_cut` meets its contract. Assumes nothing.
use Rattle.line.proofs.Faults.{body-within}
use Rattle.judge.specs.Judging.{content}
use lib.Seq.{length-take-le}
use native.Mathlib.Omega.{arith}
use mathlib.Core.Path.{sym, ◌∙◌}
use Rattle.said_line.proofs.content_cut.Goals as goal

pub slice_bounds-fields_cut-end : goal.slice_bounds-fields_cut-end
slice_bounds-fields_cut-end c = let s = c.args.s.now in sym (length-take-le c.in-Ok.e s (body-within s c.in-Ok.e (sym c.form_of.ensures ∙ c.in-Ok.is)))

pub fields_cut-requires : goal.fields_cut-requires
fields_cut-requires c = let s = c.args.s.now in let h = body-within s c.in-Ok.e (sym c.form_of.ensures ∙ c.in-Ok.is) in let p = c.requires in omega (arith, length-take-le c.in-Ok.e s h)

pub returns-in-Err : goal.returns-in-Err
unfolding content
returns-in-Err c = (rw (← c.form_of.ensures, c.in-Err.is), tt)

pub returns-in-Ok : goal.returns-in-Ok
unfolding content
returns-in-Ok c = rw (← c.form_of.ensures, c.in-Ok.is) c.fields_cut.ensures
