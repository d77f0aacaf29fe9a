-- What the law permits of lanes and perimeters, and what the places test, is the same. Assumes nothing.
use Prim.Native.Nat.{zero-le}
use lib.ListN.{length}
use Rattle.terms.proofs.Lists.{each_map}
use Rattle.law.specs.Network as Law
use Rattle.law.specs.Network.{Lane, Perimeter}
use Rattle.grammar.specs.Network.{GoodExit, GoodPerimeterExit, GoodLane, GoodPerimeter}

pub lane-good-to : (a : Lane) → GoodLane a → Law.GoodLane a
lane-good-to a g = record { count = g.count; points = g.points; width = g.width; checkpoints = g.checkpoints; stops = g.stops; exits = each_map (GoodExit (length a.points)) (Law.GoodExit 0 (length a.points)) (λ e h. record { waypoint = h.waypoint; x = h.entry.x; y = record { low = zero-le; high = h.entry.y }; z = h.entry.z }) a.exits g.exits }

pub lane-good-back : (a : Lane) → Law.GoodLane a → GoodLane a
lane-good-back a g = record { count = g.count; points = g.points; width = g.width; checkpoints = g.checkpoints; stops = g.stops; exits = each_map (Law.GoodExit 0 (length a.points)) (GoodExit (length a.points)) (λ e h. record { waypoint = h.waypoint; entry = record { x = h.x; y = h.y.high; z = h.z } }) a.exits g.exits }

pub perimeter-good-to : (a : Perimeter) → GoodPerimeter a → Law.GoodPerimeter a
perimeter-good-to a g = record { count = g.count; points = g.points; exits = each_map (GoodPerimeterExit (length a.points)) (Law.GoodExit 1 (length a.points)) (λ e h. record { waypoint = h.waypoint; x = h.x; y = h.y; z = h.z }) a.exits g.exits }

pub perimeter-good-back : (a : Perimeter) → Law.GoodPerimeter a → GoodPerimeter a
perimeter-good-back a g = record { count = g.count; points = g.points; exits = each_map (Law.GoodExit 1 (length a.points)) (GoodPerimeterExit (length a.points)) (λ e h. record { waypoint = h.waypoint; x = h.x; y = h.y; z = h.z }) a.exits g.exits }
