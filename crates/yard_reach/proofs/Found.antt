-- What is read of the rows on the way to a spot's point. Assumes nothing.
use mathlib.Core.Path.{◌≡◌, ap, ap₂, ◌∙◌}
use mathlib.Core.List.{List}
use mathlib.Core.Option.{none}
use Prim.Native.Nat.{ℕ, pred, ◌+◌, ◌-◌, ◌<◌, ◌≤◌}
use borrow.Author.Tests.{lt-ltb, le-leb, lt-leb}
use Rattle.rows.specs.Read.{zone_at_of, spot_at_of}
use Rattle.rows.specs.declared.ZoneRow.{ZoneRow}
use Rattle.rows.specs.declared.SpotRow.{SpotRow}
use Rattle.yard_reach.specs.Starts.{spot_point_of, spot-at}

-- x is behind the segments: zone x
module _ (Z P : List ℕ) (m x y z i : ℕ) (zone : ZoneRow) (is : i ≡ pred (x - m)) (read : zone ≡ zone_at_of Z i) (behind : m < x) where
  here : zone ≡ zone_at_of Z (pred (x - m))
  here = read ∙ ap (zone_at_of Z) is

  pub spot-there : (j : ℕ) (spot : SpotRow) → j ≡ pred y → spot ≡ spot_at_of P (zone.first_spot + j) → y ≤ zone.spots → spot_point_of spot.first_point z ≡ spot-at Z P m x y z
  spot-there j spot js read-spot h =
      let e : spot ≡ spot_at_of P ((zone_at_of Z (pred (x - m))).first_spot + pred y) = read-spot ∙ ap₂ (λ (s : ZoneRow) (j : ℕ). spot_at_of P (s.first_spot + j)) here js in
      let k : y ≤ (zone_at_of Z (pred (x - m))).spots = rw here at h in
      rw (lt-ltb m x behind, le-leb y (zone_at_of Z (pred (x - m))).spots k) (ap (λ (s : SpotRow). spot_point_of s.first_point z) e)

  pub no-spot-there : zone.spots < y → none ≡ spot-at Z P m x y z
  no-spot-there h =
      let k : (zone_at_of Z (pred (x - m))).spots < y = rw here at h in
      rw (lt-ltb m x behind, lt-leb y (zone_at_of Z (pred (x - m))).spots k)
