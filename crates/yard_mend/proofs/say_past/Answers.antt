-- `yard_mend::say_past` is safe: the mended text's room is lent as it was made, and keeps its length. Assumes nothing.
use Rattle.std.proofs.Common.{ℕ, sym, ◌∙◌}
use lib.ListN.{length-replicate}
use Rattle.yard_mend.proofs.say_past.Goals as goal

pub slice_bounds-put_mended-end : goal.slice_bounds-put_mended-end
slice_bounds-put_mended-end g c = sym (length-replicate {0} {A = ℕ} 699051 0)

pub slice_bounds-first-end : goal.slice_bounds-first-end
slice_bounds-first-end g c = sym (c.put_mended-n.auto.out ∙ length-replicate {0} {A = ℕ} 699051 0)
