-- `yard_mend::say_next` is safe, and goes on: as `put_next` does. Assumes nothing.
use Rattle.yard_mend.proofs.say_next.Goals as goal

pub returns : goal.returns
returns g c =
    let told = c.put_next-next.ensures c.requires.from_in_bounds c.requires.line_bound in
    record { from_lt_from = told.onward; line_bound_2 = told.few }
