-- THE THEOREMS: at a place that is reached, as many lines as it owes are still owed (StillOwed), of an RNDF and of an MDF, in each edition. Assumes nothing.
use mathlib.Core.Path.{◌≡◌, refl}
use mathlib.Core.List.{List, [], ◌∷◌}
use mathlib.Core.Bool.{Bool, true, false}
use Prim.Native.Nat.{ℕ, zero, suc, ◌<◌}
use native.Mathlib.Omega.{arith}
use lib.Dec.{T}
use Rattle.terms.specs.Ascii.{ascii}
use Rattle.terms.specs.Words.{pick}
use Rattle.line.specs.Content.{Field}
use Rattle.grammar.specs.Editions.{Edition, law_of}
use Rattle.grammar.specs.Language.{S}
use Rattle.grammar.specs.Statements as Rndf
use Rattle.grammar.specs.MissionStatements as Mdf
use Rattle.grammar.specs.Network.{under, SpellsNetworkBy}
use Rattle.grammar.specs.Mission.{SpellsMission}
use Rattle.grammar.specs.Machine.{Machine, over, inside, Place}
use Rattle.grammar.specs.Places.{rndf_by, Base, name_due, num_segments_due, num_zones_due, first_segment_due, part_due, num_lanes_due, first_lane_due, lane_due, num_waypoints_due, first_waypoint_due, waypoint_due, num_spots_due, perimeter_due, num_perimeterpoints_due, first_perimeterpoint_due, perimeterpoint_due, spot_due, first_of_spot_due, second_of_spot_due, end_spot_due}
use Rattle.grammar.specs.MissionPlaces.{mdf}
use Rattle.grammar.specs.MissionPlaces as M-at
use Rattle.text.specs.RndfLines.{rndf_line_in_of}
use Rattle.text.specs.MdfLines.{the_mdf_line_of}
use Rattle.text.specs.RndfWords.{rndf_lexis_in}
use Rattle.text.specs.MdfWords.{mdf_lexis}
use Rattle.law.specs.Network.{reading}
use Rattle.law.specs.Network as Law
use Rattle.law_faults.proofs.Reached.{laws, Came}
use Rattle.law_faults.proofs.Rndf.{rndf-needs_in}
use Rattle.law_faults.proofs.Mdf.{mdf-needs_in}
use Rattle.expected_law.specs.Expected.{StillOwed}
use Rattle.expected_owed.specs.Owed.{flags_all, owed_at, owed_orders_at}
use Rattle.expected_owed.proofs.Owing.{spent, ByNumbers, Owes, owes-none, owes_more, still-owed}

module _ (e : Edition) where
  -- ## RNDF
  abbrev places : Machine (Rndf.lines Field)
  places = rndf_by Field (under e true)

  abbrev Owing : ℕ → Place places → Type 0
  Owing = Owes places (rndf_line_in_of e)

  a_point : (v : Rndf.PointLine) → ByNumbers places (rndf_line_in_of e) (Rndf.say Rndf.point v)
  unfolding rndf_line_in_of
  a_point v = (v.id.x ∷ v.id.y ∷ v.id.z ∷ [], Law.coordinate v.position.latitude ∷ Law.coordinate v.position.longitude ∷ [], refl)

  waypoints : (m o z n l k w : ℕ) (g : List Bool) → Owing w (inside (waypoint_due m o z n l k w) g)
  unfolding rndf_line_in_of
  waypoints m o z n l k zero g = owes-none places (rndf_line_in_of e) (waypoint_due m o z n l k zero) g tt (λ v. (ascii "end_lane", [], refl))
  waypoints m o z n l k (suc w) g = owes_more places (rndf_line_in_of e) w (waypoint_due m o z n l k (suc w)) g tt (λ v. (a_point v, waypoints m o z n l (suc k) w []))

  perimeterpoints : (m z s k p : ℕ) (g : List Bool) → Owing p (inside (perimeterpoint_due m z s k p) g)
  unfolding rndf_line_in_of
  perimeterpoints m z s k zero g = owes-none places (rndf_line_in_of e) (perimeterpoint_due m z s k zero) g tt (λ v. (ascii "end_perimeter", [], refl))
  perimeterpoints m z s k (suc p) g = owes_more places (rndf_line_in_of e) p (perimeterpoint_due m z s k (suc p)) g tt (λ v. (a_point v, perimeterpoints m z s (suc k) p []))

  end-of-spot : (m z n s : ℕ) (g : List Bool) → Owing 0 (inside (end_spot_due m z n s) g)
  unfolding rndf_line_in_of
  end-of-spot m z n s g = owes-none places (rndf_line_in_of e) (end_spot_due m z n s) g tt (λ v. (ascii "end_spot", [], refl))

  second-of-spot : (m z n s : ℕ) (g : List Bool) → Owing 1 (inside (second_of_spot_due m z n s) g)
  second-of-spot m z n s g = owes_more places (rndf_line_in_of e) 0 (second_of_spot_due m z n s) g tt (λ v. (a_point v, end-of-spot m z n s []))

  -- both options of a spot may come once only
  both-given : (m z n s : ℕ) (g : List Bool) → T (flags_all g) → T (spent (Rndf.lines Field) (places.opts (first_of_spot_due m z n s)) g)
  both-given m z n s [] t = tt
  both-given m z n s (true ∷ []) t = tt
  both-given m z n s (false ∷ []) t = absurd t
  both-given m z n s (true ∷ true ∷ g) t = tt
  both-given m z n s (true ∷ false ∷ g) t = absurd t
  both-given m z n s (false ∷ c ∷ g) t = absurd t

  first-of-spot : (m z n s : ℕ) (g : List Bool) → 0 < pick (flags_all g) 2 0 → Owing (pick (flags_all g) 2 0) (inside (first_of_spot_due m z n s) g)
  first-of-spot m z n s g = go (flags_all g) (both-given m z n s g)
    where
      go : (x : Bool) → (T x → T (spent (Rndf.lines Field) (places.opts (first_of_spot_due m z n s)) g)) → 0 < pick x 2 0 → Owing (pick x 2 0) (inside (first_of_spot_due m z n s) g)
      go true t h = owes_more places (rndf_line_in_of e) 1 (first_of_spot_due m z n s) g (t tt) (λ v. (a_point v, second-of-spot m z n s []))
      go false t h = absurd (omega arith)

  rndf_owes : (p : Place places) → 0 < owed_at p → Owing (owed_at p) p
  rndf_owes over h = absurd (omega arith)
  rndf_owes (inside name_due g) h = absurd (omega arith)
  rndf_owes (inside num_segments_due g) h = absurd (omega arith)
  rndf_owes (inside (num_zones_due o) g) h = absurd (omega arith)
  rndf_owes (inside (first_segment_due o z) g) h = absurd (omega arith)
  rndf_owes (inside (part_due m o z) g) h = absurd (omega arith)
  rndf_owes (inside (num_lanes_due m o z) g) h = absurd (omega arith)
  rndf_owes (inside (first_lane_due m o z l) g) h = absurd (omega arith)
  rndf_owes (inside (lane_due m o z n l) g) h = absurd (omega arith)
  rndf_owes (inside (num_waypoints_due m o z n l) g) h = absurd (omega arith)
  rndf_owes (inside (first_waypoint_due m o z n l w) g) h = absurd (omega arith)
  rndf_owes (inside (waypoint_due m o z n l k w) g) h = waypoints m o z n l k w g
  rndf_owes (inside (num_spots_due m z) g) h = absurd (omega arith)
  rndf_owes (inside (perimeter_due m z s) g) h = absurd (omega arith)
  rndf_owes (inside (num_perimeterpoints_due m z s) g) h = absurd (omega arith)
  rndf_owes (inside (first_perimeterpoint_due m z s p) g) h = absurd (omega arith)
  rndf_owes (inside (perimeterpoint_due m z s k p) g) h = perimeterpoints m z s k p g
  rndf_owes (inside (spot_due m z n s) g) h = absurd (omega arith)
  rndf_owes (inside (first_of_spot_due m z n s) g) h = first-of-spot m z n s g h
  rndf_owes (inside (second_of_spot_due m z n s) g) h = second-of-spot m z n s g
  rndf_owes (inside (end_spot_due m z n s) g) h = absurd (omega arith)

  pub rndf-owed : (said : List (S (Rndf.lines Field))) (p : Place places) → Came places (rndf_lexis_in e) (rndf_line_in_of e) (SpellsNetworkBy (under e true)) Law.SpellsNetwork name_due (rndf-needs_in e) said p
      → 0 < owed_at p → StillOwed (reading (law_of e)) Law.SpellsNetwork (laws (rndf_line_in_of e) said) (owed_at p)
  rndf-owed said p came h = still-owed places (rndf_lexis_in e) (rndf_line_in_of e) (SpellsNetworkBy (under e true)) Law.SpellsNetwork name_due (rndf-needs_in e) said p came (owed_at p) (rndf_owes p h)

  -- ## MDF
  goals : (n : ℕ) (g : List Bool) → Owes (mdf Field) the_mdf_line_of n (inside (M-at.goal_due n) g)
  unfolding the_mdf_line_of
  goals zero g = owes-none (mdf Field) the_mdf_line_of (M-at.goal_due zero) g tt (λ v. (ascii "end_checkpoints", [], refl))
  goals (suc n) g = owes_more (mdf Field) the_mdf_line_of n (M-at.goal_due (suc n)) g tt (λ v. ((v ∷ [], [], refl), goals n []))

  limits : (n : ℕ) (g : List Bool) → Owes (mdf Field) the_mdf_line_of n (inside (M-at.limit_due n) g)
  unfolding the_mdf_line_of
  limits zero g = owes-none (mdf Field) the_mdf_line_of (M-at.limit_due zero) g tt (λ v. (ascii "end_speed_limits", [], refl))
  limits (suc n) g = owes_more (mdf Field) the_mdf_line_of n (M-at.limit_due (suc n)) g tt (λ v. ((v.id ∷ [], Law.numbers (v.minimum ∷ []) ∷ Law.numbers (v.maximum ∷ []) ∷ [], refl), limits n []))

  mdf_owes : (p : Place (mdf Field)) → 0 < owed_orders_at p → Owes (mdf Field) the_mdf_line_of (owed_orders_at p) p
  mdf_owes over h = absurd (omega arith)
  mdf_owes (inside M-at.name_due g) h = absurd (omega arith)
  mdf_owes (inside M-at.RNDF_due g) h = absurd (omega arith)
  mdf_owes (inside M-at.checkpoints_due g) h = absurd (omega arith)
  mdf_owes (inside M-at.num_checkpoints_due g) h = absurd (omega arith)
  mdf_owes (inside M-at.speed_limits_due g) h = absurd (omega arith)
  mdf_owes (inside M-at.num_speed_limits_due g) h = absurd (omega arith)
  mdf_owes (inside M-at.end_file_due g) h = absurd (omega arith)
  mdf_owes (inside (M-at.goal_due n) g) h = goals n g
  mdf_owes (inside (M-at.limit_due n) g) h = limits n g

  pub mdf-owed : (said : List (S (Mdf.orders Field))) (p : Place (mdf Field)) → Came (mdf Field) mdf_lexis the_mdf_line_of SpellsMission Law.SpellsMission M-at.name_due (mdf-needs_in e) said p
      → 0 < owed_orders_at p → StillOwed (reading (law_of e)) Law.SpellsMission (laws the_mdf_line_of said) (owed_orders_at p)
  mdf-owed said p came h = still-owed (mdf Field) mdf_lexis the_mdf_line_of SpellsMission Law.SpellsMission M-at.name_due (mdf-needs_in e) said p came (owed_orders_at p) (mdf_owes p h)
