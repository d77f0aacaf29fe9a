use mathlib.Core.Path.{◌≡◌}
use Prim.Native.Nat.{◌-◌, ◌≤◌}
use lib.ListN.{length}
use Rattle.search.specs.Search.{marks, spread, targets, searched, search}
use Rattle.search.proofs.search.Given as goal

abbrev pub invariant-loop : goal.invariant-loop
invariant-loop l = ((searched (spread l.lanes l.zones l.c) (targets l.lanes l.zones l.exits l.c) (l.end - l.counter) (marks l.work l.top)).words ≡ search l.lanes l.zones l.exits l.c l.fn.work l.from) × (l.top ≤ length l.work)
