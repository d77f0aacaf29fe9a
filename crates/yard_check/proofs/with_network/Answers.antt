-- `yard_check::with_network` is safe: the file's room is lent as it was made, and keeps its length. Assumes nothing.
use Rattle.std.proofs.Common.{ℕ, sym, ◌∙◌}
use lib.ListN.{length-replicate}
use Rattle.yard_check.proofs.with_network.Goals as goal

pub slice_bounds-load_asked-end : goal.slice_bounds-load_asked-end
slice_bounds-load_asked-end g c = sym (length-replicate {0} {A = ℕ} 1048576 0)

pub slice_bounds-with_mission-end : goal.slice_bounds-with_mission-end
slice_bounds-with_mission-end g c = sym (c.load_asked-loaded.auto.text ∙ length-replicate {0} {A = ℕ} 1048576 0)
