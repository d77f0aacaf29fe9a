use Rattle.line.proofs.Faults.{body-within}
use Rattle.judge.specs.Judging.{content}
use lib.Seq.{length-take-le}
use native.Mathlib.Omega.{arith}
use mathlib.Core.Path.{sym, ◌∙◌}
use Rattle.mission_judge.proofs.content_told.Goals as goal

pub slice_bounds-fields_told-end : goal.slice_bounds-fields_told-end
slice_bounds-fields_told-end c = let s = c.args.s.now in sym (length-take-le c.in-Ok.e s (body-within s c.in-Ok.e (sym c.form_of.ensures ∙ c.in-Ok.is)))

pub fields_told-requires : goal.fields_told-requires
fields_told-requires c = let s = c.args.s.now in let h = body-within s c.in-Ok.e (sym c.form_of.ensures ∙ c.in-Ok.is) in let p = c.requires in omega (arith, length-take-le c.in-Ok.e s h)

pub returns-in-Err : goal.returns-in-Err
unfolding content
returns-in-Err c = rw (← c.form_of.ensures, c.in-Err.is)

pub returns-in-Ok : goal.returns-in-Ok
unfolding content
returns-in-Ok c = rw (← c.form_of.ensures, c.in-Ok.is) c.fields_told.ensures
