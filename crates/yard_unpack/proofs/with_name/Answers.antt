-- `yard_unpack::with_name` is safe: the file's room is lent as it was made, and keeps its length. Assumes nothing.
use Rattle.std.proofs.Common.{ℕ, sym, ◌∙◌}
use lib.ListN.{length-replicate}
use Rattle.yard_unpack.proofs.with_name.Goals as goal

pub slice_bounds-load-end : goal.slice_bounds-load-end
slice_bounds-load-end g c = sym (length-replicate {0} {A = ℕ} 1048576 0)

pub slice_bounds-first-end : goal.slice_bounds-first-end
slice_bounds-first-end g c = sym (c.load-loaded.auto.text ∙ length-replicate {0} {A = ℕ} 1048576 0)
