-- The passes over exits and parts, of the rows told: what `packed_parts::are_exits` and `are_parts` say of `Consistent`. Assumes nothing.
use mathlib.Core.Path.{◌≡◌, refl, sym, ap, subst, ◌∙◌}
use mathlib.Core.List.{List, [], map}
use mathlib.Core.Bool.{Bool, true, false}
use Prim.Native.Nat.{ℕ, ◌+◌, ◌-◌, ◌*◌, ◌≤◌}
use native.Mathlib.Omega.{arith}
use lib.Dec.{ltb}
use lib.ListN.{length, drop}
use borrow.Author.Tests.{leb-true, le-leb, ltb-false, le-ltb}
use Rattle.terms.specs.Ascii.{Bytes}
use Rattle.terms.proofs.Tests.{clash}
use Rattle.terms.specs.Words.{Each, pick}
use Rattle.line.specs.Content.{Field}
use Rattle.law.specs.Tables.{total}
use Rattle.grammar.specs.Tables.{LaneRow, ZoneRow, SpotRow, CheckpointRow, ExitRow}
use Rattle.row_network.specs.Consistent.{Running, zone_span, SpotsRunning, IsEntry, behind, ZoneParts}
use Rattle.unpackings.proofs.Rows.{at, spot_back}
use Rattle.packed_rows.specs.Points.{four_at_of}
use Rattle.packed_parts.specs.declared.Table.{Table}
use Rattle.packed_parts.specs.Entries.{exits_right}
use Rattle.packed_parts.specs.Parts.{cell_at, lanes_take, zone_exits, zone_checkpoints, parts_right}
use Rattle.packed_tables.proofs.Records.{Small, all_here, records-read}
use Rattle.packed_tables.proofs.Whole.{lane-kinds, zone-kinds, spot-kinds, checkpoint-kinds, stop-kinds, exit-kinds}
use Rattle.part_tables.proofs.Listed.{listed}
use Rattle.part_tables.proofs.Fields.{spot_told_of, checkpoint_told_of, exit_told_of, spots-listed, checkpoints-listed, stops-listed, exits-listed}
use Rattle.part_tables.proofs.Lanes.{both-picked, picked_both, lane-rows-told}
use Rattle.part_tables.proofs.Checkpoints.{checkpoint-rows-told}
use Rattle.part_tables.proofs.Exits.{Rising, running-rises, exit-rows-told, exits-so, exits-all}
use Rattle.part_tables.proofs.Turns.{behind-listed}
use Rattle.part_tables.proofs.Zones.{zone-rows-told, parts_join, parts-split, left_so, left-all, spot-parts-so, spot-parts-all, exit-parts-so, exit-parts-all}

abbrev pub spot-rows-told : ℕ → ℕ → Bytes → List SpotRow
spot-rows-told place k b = map spot_back (records-read place k spot-kinds b)

abbrev pub stop-rows-told : ℕ → ℕ → Bytes → List ℕ
stop-rows-told place k b = map (at 0) (records-read place k stop-kinds b)

-- ## Entries. The table of spots; its zones
module _ (b : Bytes) (s : Small b) (spots : Table) (spot-place : ℕ) (spots-here : all_here spots.count spot-kinds (drop spots.from b) ≡ true) {N : Type 0} (p : ℕ) (zones : List (ZoneRow N)) (running : SpotsRunning p zones (spot-rows-told spot-place spots.count (drop spots.from b))) (counted : total (λ (z : ZoneRow N). z.spots) zones ≡ length (spot-rows-told spot-place spots.count (drop spots.from b))) (points end : ℕ) where
  abbrev spots-told : List SpotRow
  spots-told = spot-rows-told spot-place spots.count (drop spots.from b)

  abbrev by_number : ℕ → SpotRow
  by_number j = spot_told_of b (spots.from + 8 * j)

  spot-list : spots-told ≡ listed by_number 0 spots.count
  spot-list = spots-listed b s spot-place spots.count spots.from spots-here

  rising : Rising p (listed by_number 0 spots.count)
  rising = subst (Rising p) spot-list (running-rises p zones spots-told running counted)

  abbrev Entries : List SpotRow → List (ExitRow ℕ) → Type 0
  Entries l = Each (λ (r : ExitRow ℕ). IsEntry end points l r.entry)

  -- THE LAW of packed_parts::are_exits
  pub entries-so : (place k from : ℕ) → exits_right k b from (cell_at b spots.from 8 2) spots.count points end ≡ true → (all_here k exit-kinds (drop from b) ≡ true) × Each (λ (r : ExitRow ℕ). IsEntry end points spots-told r.entry) (exit-rows-told place k (drop from b))
  entries-so place k from e =
      let x = exits-so b s by_number spots.count p rising points end place k from e in
      (x.0, subst (λ (l : List SpotRow). Entries l (exit-rows-told place k (drop from b))) (sym spot-list) x.1)

  pub entries-all : (place k from : ℕ) → all_here k exit-kinds (drop from b) ≡ true → Each (λ (r : ExitRow ℕ). IsEntry end points spots-told r.entry) (exit-rows-told place k (drop from b)) → exits_right k b from (cell_at b spots.from 8 2) spots.count points end ≡ true
  entries-all place k from h e = exits-all b s by_number spots.count p rising points end place k from h (subst (λ (l : List SpotRow). Entries l (exit-rows-told place k (drop from b))) spot-list e)

-- ## Parts
-- what the passes before have found: every record has its length, and lanes and zones begin where those before them ended. The places are those of the tables' first records
pub record Found (b : Bytes) (lanes zones checkpoints stops exits : Table) (end lane_place zone-place : ℕ) : Type 0 where
  pub small : Small b
  pub lanes_here : all_here lanes.count lane-kinds (drop lanes.from b) ≡ true
  pub zones_here : all_here zones.count zone-kinds (drop zones.from b) ≡ true
  pub checkpoints_here : all_here checkpoints.count checkpoint-kinds (drop checkpoints.from b) ≡ true
  pub stops_here : all_here stops.count stop-kinds (drop stops.from b) ≡ true
  pub exits_here : all_here exits.count exit-kinds (drop exits.from b) ≡ true
  pub lanes_running : Running (λ (r : LaneRow). r.first_point_of) (λ r. r.points) 0 (lane-rows-told lane_place lanes.count (drop lanes.from b))
  pub zones_running : Running (λ (r : ZoneRow Field). r.first_point_of) zone_span end (zone-rows-told zone-place zones.count (drop zones.from b))

module _ (b : Bytes) (lanes zones checkpoints stops exits : Table) (end lane_place zone-place checkpoint-place stop-place exit-place : ℕ) (found : Found b lanes zones checkpoints stops exits end lane_place zone-place) where
  abbrev lane-list : List LaneRow
  lane-list = lane-rows-told lane_place lanes.count (drop lanes.from b)

  abbrev zone-list : List (ZoneRow Field)
  zone-list = zone-rows-told zone-place zones.count (drop zones.from b)

  -- what lanes leave of a table
  module _ {B : Type 0} (key : B → ℕ) (f : ℕ → B) (n : ℕ) where
    abbrev end_of : ℕ
    end_of = lanes_take (λ j. key (f j)) n lanes.count b lanes.from 0

    lanes_leave : (rows : List B) → rows ≡ listed f 0 n → (behind key 0 lane-list rows ≡ listed f end_of (n - end_of)) × (end_of ≤ n)
    lanes_leave rows e =
        let z : n ≡ n - 0 = omega arith in
        let x = behind-listed key f n b found.small lane_place lanes.count lanes.from 0 0 (omega arith) found.lanes_here found.lanes_running in
        (ap (behind key 0 lane-list) (e ∙ ap (listed f 0) z) ∙ x.0, x.1)

  abbrev stop-of : ℕ → ℕ
  stop-of j = four_at_of b (stops.from + 6 * j + 2)

  abbrev the_checkpoint_of : ℕ → CheckpointRow
  the_checkpoint_of j = checkpoint_told_of b (checkpoints.from + 8 * j)

  abbrev the_exit_of : ℕ → ExitRow ℕ
  the_exit_of j = exit_told_of b (exits.from + 10 * j)

  abbrev stop-end : ℕ
  stop-end = lanes_take (cell_at b stops.from 6 2) stops.count lanes.count b lanes.from 0

  abbrev checkpoint-end : ℕ
  checkpoint-end = lanes_take (cell_at b checkpoints.from 8 4) checkpoints.count lanes.count b lanes.from 0

  abbrev exit-end : ℕ
  exit-end = lanes_take (cell_at b exits.from 10 2) exits.count lanes.count b lanes.from 0

  abbrev stop-list : List ℕ
  stop-list = stop-rows-told stop-place stops.count (drop stops.from b)

  abbrev checkpoint-list : List CheckpointRow
  checkpoint-list = checkpoint-rows-told checkpoint-place checkpoints.count (drop checkpoints.from b)

  abbrev exit-list : List (ExitRow ℕ)
  exit-list = exit-rows-told exit-place exits.count (drop exits.from b)

  stops-left : (behind (λ (q : ℕ). q) 0 lane-list stop-list ≡ listed stop-of stop-end (stops.count - stop-end)) × (stop-end ≤ stops.count)
  stops-left = lanes_leave (λ (q : ℕ). q) stop-of stops.count stop-list (stops-listed b found.small stop-place stops.count stops.from found.stops_here)

  checkpoints-left : (behind (λ (r : CheckpointRow). r.point) 0 lane-list checkpoint-list ≡ listed the_checkpoint_of checkpoint-end (checkpoints.count - checkpoint-end)) × (checkpoint-end ≤ checkpoints.count)
  checkpoints-left = lanes_leave (λ (r : CheckpointRow). r.point) the_checkpoint_of checkpoints.count checkpoint-list (checkpoints-listed b found.small checkpoint-place checkpoints.count checkpoints.from found.checkpoints_here)

  exits-left : (behind (λ (r : ExitRow ℕ). r.point) 0 lane-list exit-list ≡ listed the_exit_of exit-end (exits.count - exit-end)) × (exit-end ≤ exits.count)
  exits-left = lanes_leave (λ (r : ExitRow ℕ). r.point) the_exit_of exits.count exit-list (exits-listed b found.small exit-place exits.count exits.from found.exits_here)

  abbrev checkpoints-fit : Bool
  checkpoints-fit = zone_checkpoints (cell_at b checkpoints.from 8 4) checkpoints.count zones.count b zones.from checkpoint-end

  abbrev exits-fit : Bool
  exits-fit = zone_exits (cell_at b exits.from 10 2) (cell_at b exits.from 10 6) exits.count end zones.count b zones.from exit-end

  parts_are : parts_right b lanes zones checkpoints stops exits end ≡ pick (ltb stop-end stops.count) false (pick checkpoints-fit exits-fit false)
  unfolding parts_right
  parts_are = refl

  -- THE LAW of packed_parts::are_parts
  pub parts-so : parts_right b lanes zones checkpoints stops exits end ≡ true → (behind (λ (q : ℕ). q) 0 lane-list stop-list ≡ []) × ZoneParts end end zone-list (behind (λ (r : CheckpointRow). r.point) 0 lane-list checkpoint-list) (behind (λ (r : ExitRow ℕ). r.point) 0 lane-list exit-list)
  parts-so e = go (ltb stop-end stops.count) refl (sym parts_are ∙ e)
    where
      go : (x : Bool) → ltb stop-end stops.count ≡ x → pick x false (pick checkpoints-fit exits-fit false) ≡ true → (behind (λ (q : ℕ). q) 0 lane-list stop-list ≡ []) × ZoneParts end end zone-list (behind (λ (r : CheckpointRow). r.point) 0 lane-list checkpoint-list) (behind (λ (r : ExitRow ℕ). r.point) 0 lane-list exit-list)
      go true a h = clash (sym h)
      go false a h =
          let u = both-picked checkpoints-fit exits-fit h in
          let c = spot-parts-so the_checkpoint_of checkpoints.count b found.small zone-place zones.count zones.from end checkpoint-end checkpoints-left.1 found.zones_here found.zones_running u.0 in
          let x = exit-parts-so the_exit_of exits.count end b found.small zone-place zones.count zones.from end exit-end exits-left.1 found.zones_here found.zones_running u.1 in (
            stops-left.0 ∙ left_so stop-of stops.count stop-end (le-leb stops.count stop-end (ltb-false stop-end stops.count a)),
            subst (λ (l : List CheckpointRow). ZoneParts end end zone-list l (behind (λ (r : ExitRow ℕ). r.point) 0 lane-list exit-list)) (sym checkpoints-left.0)
                (subst (ZoneParts end end zone-list (listed the_checkpoint_of checkpoint-end (checkpoints.count - checkpoint-end))) (sym exits-left.0)
                (parts_join end end zone-list (listed the_checkpoint_of checkpoint-end (checkpoints.count - checkpoint-end)) (listed the_exit_of exit-end (exits.count - exit-end)) c x)),
          )

  pub parts_all : behind (λ (q : ℕ). q) 0 lane-list stop-list ≡ [] → ZoneParts end end zone-list (behind (λ (r : CheckpointRow). r.point) 0 lane-list checkpoint-list) (behind (λ (r : ExitRow ℕ). r.point) 0 lane-list exit-list) → parts_right b lanes zones checkpoints stops exits end ≡ true
  parts_all none parts =
      let left = left-all stop-of stops.count stop-end (sym stops-left.0 ∙ none) in
      let halves = parts-split end end zone-list (listed the_checkpoint_of checkpoint-end (checkpoints.count - checkpoint-end)) (listed the_exit_of exit-end (exits.count - exit-end))
      (subst (λ (l : List CheckpointRow). ZoneParts end end zone-list l (listed the_exit_of exit-end (exits.count - exit-end))) checkpoints-left.0
      (subst (ZoneParts end end zone-list (behind (λ (r : CheckpointRow). r.point) 0 lane-list checkpoint-list)) exits-left.0 parts)) in
      parts_are
      ∙ ap (λ (t : Bool). pick t false (pick checkpoints-fit exits-fit false)) (le-ltb stop-end stops.count (leb-true stops.count stop-end left))
      ∙ picked_both checkpoints-fit exits-fit
      (spot-parts-all the_checkpoint_of checkpoints.count b found.small zone-place zones.count zones.from end checkpoint-end checkpoints-left.1 found.zones_here found.zones_running halves.0)
      (exit-parts-all the_exit_of exits.count end b found.small zone-place zones.count zones.from end exit-end exits-left.1 found.zones_here found.zones_running halves.1)
