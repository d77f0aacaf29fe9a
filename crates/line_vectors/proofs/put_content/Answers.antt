-- A body ends within the line.
use Rattle.std.proofs.Common.{sym, ◌∙◌}
use lib.Seq.{length-take-le}
use Rattle.line.proofs.Faults.{body-within}
use Rattle.line_vectors.proofs.put_content.Goals as goal

pub slice_bounds-put_fields-end : goal.slice_bounds-put_fields-end
slice_bounds-put_fields-end g c =
    let s = c.args.s.now in
    let e = c.in-Ok.e in
    sym (length-take-le e s (body-within s e (sym c.form_of-f.ensures ∙ c.in-Ok.is)))
