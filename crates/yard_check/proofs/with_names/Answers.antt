-- `yard_check::with_names` is safe: the file's room is lent as it was made, and keeps its length. Assumes nothing.
use Rattle.std.proofs.Common.{ℕ, sym, ◌∙◌}
use lib.ListN.{length-replicate}
use Rattle.yard_check.proofs.with_names.Goals as goal

pub slice_bounds-load_rndf-end : goal.slice_bounds-load_rndf-end
slice_bounds-load_rndf-end g c = sym (length-replicate {0} {A = ℕ} 1048576 0)

pub slice_bounds-first-end : goal.slice_bounds-first-end
slice_bounds-first-end g c = sym (c.load_rndf-loaded.auto.text ∙ length-replicate {0} {A = ℕ} 1048576 0)
