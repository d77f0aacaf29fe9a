-- WHAT A READER MUST BELIEVE. The row of the point that the start names, x.y.z, in filled tables. Assumes nothing.
use Rattle.replies.specs.Types.{PairReply}
use Rattle.std.specs.Prelude.{List, ℕ, pred, ◌+◌, ◌-◌, eqb, ltb, leb, Ok, Err}
use Rattle.std.proofs.Math.Option.{Option, none, some}
use Rattle.terms.specs.Words.{pick}
use Rattle.room.specs.Room.{fitted}
use Rattle.rows.specs.Read.{zone_at_of, spot_at_of}
use Rattle.grammar.specs.Statements.{PointId}
use Rattle.fill.specs.Resolve.{in_part_of, only_if, resolve}
use Rattle.references.specs.Finding.{look_in}
use Rattle.yard_reach.specs.declared.Start.{Start}
use Rattle.yard_reach.specs.declared.Start.TheVariants as S

-- 01: "Spot: .. two waypoints": the z-th, where the first has this row
abbrev pub spot_point_of : (first z : ℕ) → Option ℕ
spot_point_of first z = in_part_of first 2 z

-- spot y of zone x; zones are numbered behind the segments, of which there are m
abbrev pub spot-at : (zones spots : List ℕ) (m x y z : ℕ) → Option ℕ
spot-at zones spots m x y z =
    let zone = zone_at_of zones (pred (x - m)) in
    only_if (ltb m x) (only_if (leb y zone.spots) (spot_point_of (spot_at_of spots (zone.first_spot + pred y)).first_point z))

-- a lane's waypoint and a perimeter's point as an entry names them; behind the segments, y > 0 names a spot
unfoldable pub start-row : (segments lanes zones spots : List ℕ) (m : ℕ) → PointId → Option ℕ
start-row segments lanes zones spots m e =
    pick (eqb e.y 0) (resolve m (look_in segments lanes zones) e) (pick (leb e.x m) (resolve m (look_in segments lanes zones) e) (spot-at zones spots m e.x e.y e.z))

unfoldable pub named : Option ℕ → Start
named (some row) = S.At (fitted row)
named none = S.Nothing

-- by the reader's reply
unfoldable pub start_of : (segments lanes zones spots : List ℕ) → PointId → PairReply → Start
start_of segments lanes zones spots e (Ok (c, file, m, own)) = named (start-row segments lanes zones spots c.segments e)
start_of segments lanes zones spots e (Err why) = S.Refused why
