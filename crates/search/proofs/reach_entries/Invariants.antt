use mathlib.Core.Path.{◌≡◌}
use Prim.Native.Nat.{◌-◌, ◌≤◌}
use lib.ListN.{length}
use Rattle.search.specs.Search.{marks, spread, reach_all, entries, own_entries}
use Rattle.search.proofs.reach_entries.Given as goal

abbrev pub invariant-loop-row : goal.invariant-loop-row
invariant-loop-row l =
    (reach_all (spread l.lanes l.zones l.c) (marks l.work l.head) (entries l.exits l.behind l.least l.last l.row (l.rows - l.row)) ≡ reach_all (spread l.lanes l.zones l.c) (marks l.initial.work l.top) (own_entries l.exits l.c.exits l.fn.part l.least l.last))
    × (l.head ≤ length l.work)
