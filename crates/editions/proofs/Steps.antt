-- The places of an edition and those of the present one: the same, but for the test of a zone's number of spots. Assumes nothing.
use mathlib.Core.Path.{◌≡◌, refl, sym, ap, subst, ◌∙◌}
use mathlib.Core.List.{List, [], ◌∷◌}
use mathlib.Core.Option.{Option, none, some}
use mathlib.Core.Bool.{Bool, true, false}
use mathlib.Core.Logic.{◌⊎◌, inl, inr}
use Prim.Native.Nat.{ℕ, zero, suc}
use native.Mathlib.Omega.{arith}
use lib.Dec.{T}
use Rattle.line.specs.Content.{Field}
use Rattle.grammar.specs.Editions.{Edition, march, december}
use Rattle.grammar.specs.Network.{under}
use Rattle.grammar.specs.Forms.{tested}
use Rattle.grammar.specs.Language.{as_kind}
use Rattle.grammar.specs.Statements.{Kind, Kind-discrete, Says, Statement, lines, say, RNDF_name_of, num_segments, num_zones, segment, zone, end_file_of, num_lanes, lane, end_segment, num_waypoints, point, end_lane_of, num_spots, perimeter, num_perimeterpoints, end_perimeter, end_zone, spot, end_spot}
use Rattle.grammar.specs.Machine.{Out, next, refuse, Verdict, other, bad, good, opt_at, settle, Machine, guard, and_then, over, inside, Place, enter, at, hit, step, run}
use Rattle.grammar.specs.Permitted.{spots_of}
use Rattle.grammar.specs.Places.{rndf_by, rndf, Base, opts, due_in, due, name_due, num_segments_due, num_zones_due, first_segment_due, part_due, num_lanes_due, first_lane_due, lane_due, num_waypoints_due, first_waypoint_due, waypoint_due, num_spots_due, perimeter_due, num_perimeterpoints_due, first_perimeterpoint_due, perimeterpoint_due, spot_due, first_of_spot_due, second_of_spot_due, end_spot_due}
use Rattle.grammar.specs.PlaceRows.{kind_row}
use Rattle.grammar.specs.Stands.{given, as_due, of_row_of, stands}
use Rattle.grammar.proofs.MachineLaws.{none_of, refused}
use Rattle.grammar.proofs.FormLaws as Form
use Rattle.text.specs.Judge.{due_at, numbered}
use Rattle.text.specs.RndfWords.{word_at, rndf_lexis_in, rndf_lexis}
use Rattle.text.proofs.Theorems.{places}

-- the same is due
pub on_same : (e : Edition) (b : Base) → (due_in Field e b).on ≡ (due Field b).on
on_same e name_due = refl
on_same e num_segments_due = refl
on_same e (num_zones_due o) = refl
on_same e (first_segment_due o z) = refl
on_same e (part_due m (suc o) z) = refl
on_same e (part_due m zero (suc z)) = refl
on_same e (part_due m zero zero) = refl
on_same e (num_lanes_due m o z) = refl
on_same e (first_lane_due m o z l) = refl
on_same e (lane_due m o z n zero) = refl
on_same e (lane_due m o z n (suc l)) = refl
on_same e (num_waypoints_due m o z n l) = refl
on_same e (first_waypoint_due m o z n l w) = refl
on_same e (waypoint_due m o z n l k zero) = refl
on_same e (waypoint_due m o z n l k (suc w)) = refl
on_same e (num_spots_due m z) = refl
on_same e (perimeter_due m z s) = refl
on_same e (num_perimeterpoints_due m z s) = refl
on_same e (first_perimeterpoint_due m z s p) = refl
on_same e (perimeterpoint_due m z s k zero) = refl
on_same e (perimeterpoint_due m z s k (suc p)) = refl
on_same e (spot_due m z n zero) = refl
on_same e (spot_due m z n (suc s)) = refl
on_same e (first_of_spot_due m z n s) = refl
on_same e (second_of_spot_due m z n s) = refl
on_same e (end_spot_due m z n s) = refl

pub stands_same : (e : Edition) (p : Place (rndf Field)) (k : Kind) → stands (places e) p k ≡ stands (rndf Field) p k
unfolding stands
stands_same e over k = refl
stands_same e (inside b g) k = ap (λ (j : Kind). of_row_of (given (lines Field) (opts Field b) g k) (as_due (Kind-discrete k j))) (on_same e b)

pub numbered-same : (e : Edition) (p : Place (rndf Field)) → numbered (places e) (rndf_lexis_in e) p ≡ numbered (rndf Field) rndf_lexis p
unfolding numbered
numbered-same e over = refl
numbered-same e (inside b g) = ap (λ (j : Kind). due_at (word_at (kind_row j)) j) (on_same e b)

-- ## One step
abbrev R : Machine (lines Field)
R = rndf Field

-- what is due is hit alike, but for a number of spots
hits : (e : Edition) (b : Base) (g : List Bool) (s : Statement Field) → (hit (places e) b g (as_kind (lines Field) (due_in Field e b).on s) ≡ hit R b g (as_kind (lines Field) (due Field b).on s)) ⊎ ((m : ℕ) × (z : ℕ) × (b ≡ num_spots_due m z))
hits e name_due g s = inl (go (as_kind (lines Field) RNDF_name_of s))
  where
    go : (x : Option (Says Field RNDF_name_of)) → hit (places e) name_due g x ≡ hit R name_due g x
    go none = refl
    go (some v) = refl
hits e num_segments_due g s = inl (go (as_kind (lines Field) num_segments s))
  where
    go : (x : Option (Says Field num_segments)) → hit (places e) num_segments_due g x ≡ hit R num_segments_due g x
    go none = refl
    go (some v) = refl
hits e (num_zones_due o) g s = inl (go (as_kind (lines Field) num_zones s))
  where
    go : (x : Option (Says Field num_zones)) → hit (places e) (num_zones_due o) g x ≡ hit R (num_zones_due o) g x
    go none = refl
    go (some v) = refl
hits e (first_segment_due o z) g s = inl (go (as_kind (lines Field) segment s))
  where
    go : (x : Option (Says Field segment)) → hit (places e) (first_segment_due o z) g x ≡ hit R (first_segment_due o z) g x
    go none = refl
    go (some v) = refl
hits e (part_due m (suc o) z) g s = inl (go (as_kind (lines Field) segment s))
  where
    go : (x : Option (Says Field segment)) → hit (places e) (part_due m (suc o) z) g x ≡ hit R (part_due m (suc o) z) g x
    go none = refl
    go (some v) = refl
hits e (part_due m zero (suc z)) g s = inl (go (as_kind (lines Field) zone s))
  where
    go : (x : Option (Says Field zone)) → hit (places e) (part_due m zero (suc z)) g x ≡ hit R (part_due m zero (suc z)) g x
    go none = refl
    go (some v) = refl
hits e (part_due m zero zero) g s = inl (go (as_kind (lines Field) end_file_of s))
  where
    go : (x : Option (Says Field end_file_of)) → hit (places e) (part_due m zero zero) g x ≡ hit R (part_due m zero zero) g x
    go none = refl
    go (some v) = refl
hits e (num_lanes_due m o z) g s = inl (go (as_kind (lines Field) num_lanes s))
  where
    go : (x : Option (Says Field num_lanes)) → hit (places e) (num_lanes_due m o z) g x ≡ hit R (num_lanes_due m o z) g x
    go none = refl
    go (some v) = refl
hits e (first_lane_due m o z l) g s = inl (go (as_kind (lines Field) lane s))
  where
    go : (x : Option (Says Field lane)) → hit (places e) (first_lane_due m o z l) g x ≡ hit R (first_lane_due m o z l) g x
    go none = refl
    go (some v) = refl
hits e (lane_due m o z n zero) g s = inl (go (as_kind (lines Field) end_segment s))
  where
    go : (x : Option (Says Field end_segment)) → hit (places e) (lane_due m o z n zero) g x ≡ hit R (lane_due m o z n zero) g x
    go none = refl
    go (some v) = refl
hits e (lane_due m o z n (suc l)) g s = inl (go (as_kind (lines Field) lane s))
  where
    go : (x : Option (Says Field lane)) → hit (places e) (lane_due m o z n (suc l)) g x ≡ hit R (lane_due m o z n (suc l)) g x
    go none = refl
    go (some v) = refl
hits e (num_waypoints_due m o z n l) g s = inl (go (as_kind (lines Field) num_waypoints s))
  where
    go : (x : Option (Says Field num_waypoints)) → hit (places e) (num_waypoints_due m o z n l) g x ≡ hit R (num_waypoints_due m o z n l) g x
    go none = refl
    go (some v) = refl
hits e (first_waypoint_due m o z n l w) g s = inl (go (as_kind (lines Field) point s))
  where
    go : (x : Option (Says Field point)) → hit (places e) (first_waypoint_due m o z n l w) g x ≡ hit R (first_waypoint_due m o z n l w) g x
    go none = refl
    go (some v) = refl
hits e (waypoint_due m o z n l j zero) g s = inl (go (as_kind (lines Field) end_lane_of s))
  where
    go : (x : Option (Says Field end_lane_of)) → hit (places e) (waypoint_due m o z n l j zero) g x ≡ hit R (waypoint_due m o z n l j zero) g x
    go none = refl
    go (some v) = refl
hits e (waypoint_due m o z n l j (suc w)) g s = inl (go (as_kind (lines Field) point s))
  where
    go : (x : Option (Says Field point)) → hit (places e) (waypoint_due m o z n l j (suc w)) g x ≡ hit R (waypoint_due m o z n l j (suc w)) g x
    go none = refl
    go (some v) = refl
hits e (num_spots_due m z) g s = inr (m, z, refl)
hits e (perimeter_due m z i) g s = inl (go (as_kind (lines Field) perimeter s))
  where
    go : (x : Option (Says Field perimeter)) → hit (places e) (perimeter_due m z i) g x ≡ hit R (perimeter_due m z i) g x
    go none = refl
    go (some v) = refl
hits e (num_perimeterpoints_due m z i) g s = inl (go (as_kind (lines Field) num_perimeterpoints s))
  where
    go : (x : Option (Says Field num_perimeterpoints)) → hit (places e) (num_perimeterpoints_due m z i) g x ≡ hit R (num_perimeterpoints_due m z i) g x
    go none = refl
    go (some v) = refl
hits e (first_perimeterpoint_due m z i a) g s = inl (go (as_kind (lines Field) point s))
  where
    go : (x : Option (Says Field point)) → hit (places e) (first_perimeterpoint_due m z i a) g x ≡ hit R (first_perimeterpoint_due m z i a) g x
    go none = refl
    go (some v) = refl
hits e (perimeterpoint_due m z i j zero) g s = inl (go (as_kind (lines Field) end_perimeter s))
  where
    go : (x : Option (Says Field end_perimeter)) → hit (places e) (perimeterpoint_due m z i j zero) g x ≡ hit R (perimeterpoint_due m z i j zero) g x
    go none = refl
    go (some v) = refl
hits e (perimeterpoint_due m z i j (suc a)) g s = inl (go (as_kind (lines Field) point s))
  where
    go : (x : Option (Says Field point)) → hit (places e) (perimeterpoint_due m z i j (suc a)) g x ≡ hit R (perimeterpoint_due m z i j (suc a)) g x
    go none = refl
    go (some v) = refl
hits e (spot_due m z n zero) g s = inl (go (as_kind (lines Field) end_zone s))
  where
    go : (x : Option (Says Field end_zone)) → hit (places e) (spot_due m z n zero) g x ≡ hit R (spot_due m z n zero) g x
    go none = refl
    go (some v) = refl
hits e (spot_due m z n (suc i)) g s = inl (go (as_kind (lines Field) spot s))
  where
    go : (x : Option (Says Field spot)) → hit (places e) (spot_due m z n (suc i)) g x ≡ hit R (spot_due m z n (suc i)) g x
    go none = refl
    go (some v) = refl
hits e (first_of_spot_due m z n i) g s = inl (go (as_kind (lines Field) point s))
  where
    go : (x : Option (Says Field point)) → hit (places e) (first_of_spot_due m z n i) g x ≡ hit R (first_of_spot_due m z n i) g x
    go none = refl
    go (some v) = refl
hits e (second_of_spot_due m z n i) g s = inl (go (as_kind (lines Field) point s))
  where
    go : (x : Option (Says Field point)) → hit (places e) (second_of_spot_due m z n i) g x ≡ hit R (second_of_spot_due m z n i) g x
    go none = refl
    go (some v) = refl
hits e (end_spot_due m z n i) g s = inl (go (as_kind (lines Field) end_spot s))
  where
    go : (x : Option (Says Field end_spot)) → hit (places e) (end_spot_due m z n i) g x ≡ hit R (end_spot_due m z n i) g x
    go none = refl
    go (some v) = refl

settled : (e : Edition) (b : Base) (g : List Bool) (s : Statement Field) → hit (places e) b g (as_kind (lines Field) (due_in Field e b).on s) ≡ hit R b g (as_kind (lines Field) (due Field b).on s) → (v : Verdict) → settle (places e) b g v s ≡ settle R b g v s
settled e b g s h other = h
settled e b g s h (bad c) = refl
settled e b g s h (good g') = refl

same-or-spots : (e : Edition) (b : Base) (g : List Bool) (s : Statement Field) → (step (places e) (inside b g) s ≡ step R (inside b g) s) ⊎ ((m : ℕ) × (z : ℕ) × (b ≡ num_spots_due m z))
unfolding step
same-or-spots e b g s = go (hits e b g s)
  where
    go : (hit (places e) b g (as_kind (lines Field) (due_in Field e b).on s) ≡ hit R b g (as_kind (lines Field) (due Field b).on s)) ⊎ ((m : ℕ) × (z : ℕ) × (b ≡ num_spots_due m z))
        → (settle (places e) b g (opt_at (lines Field) (opts Field b) g s) s ≡ settle R b g (opt_at (lines Field) (opts Field b) g s) s) ⊎ ((m : ℕ) × (z : ℕ) × (b ≡ num_spots_due m z))
    go (inl h) = inl (settled e b g s h (opt_at (lines Field) (opts Field b) g s))
    go (inr x) = inr x

-- a statement of another kind
pub step_same : (e : Edition) (p : Place (rndf Field)) (s : Statement Field) → (s.kind ≡ num_spots → ⊥) → step (places e) p s ≡ step (rndf Field) p s
unfolding step
step_same e over s n = refl
step_same e (inside b g) s n = go (same-or-spots e b g s)
  where
    there : (m z : ℕ) → step (places e) (inside (num_spots_due m z) g) s ≡ step R (inside (num_spots_due m z) g) s
    there m z = rw (none_of (lines Field) num_spots s n)

    go : (step (places e) (inside b g) s ≡ step R (inside b g) s) ⊎ ((m : ℕ) × (z : ℕ) × (b ≡ num_spots_due m z)) → step (places e) (inside b g) s ≡ step R (inside b g) s
    go (inl h) = h
    go (inr (m, z, q)) = subst (λ (b : Base). step (places e) (inside b g) s ≡ step R (inside b g) s) (sym q) (there m z)

-- what is enough is not too many
enough-later : (e : Edition) (v : ℕ) → T (tested (spots_of e) v) → T (tested (spots_of march) v)
enough-later march v t = t
enough-later december v t = Form.pass (spots_of march) v (Form.pick (spots_of december) v t).1.high

guarded : (a b : Bool) → (T a → T b) → (c : ℕ) (o : Out (Place (rndf Field))) (q : Place (rndf Field)) → guard a c o ≡ next q → guard b c o ≡ next q
unfolding guard
guarded true true h c o q e = e
guarded true false h c o q e = absurd (h tt)
guarded false b h c o q e = refused e

-- what an edition takes, the present one takes
pub step-later : (e : Edition) (p q : Place (rndf Field)) (s : Statement Field) → step (places e) p s ≡ next q → step (rndf Field) p s ≡ next q
unfolding step
step-later e over q s h = h
step-later e (inside b g) q s h = go (same-or-spots e b g s)
  where
    here : (m z : ℕ) (x : Option ℕ) → hit (places e) (num_spots_due m z) g x ≡ next q → hit R (num_spots_due m z) g x ≡ next q
    here m z none h = h
    here m z (some v) h = guarded (tested (spots_of e) v) (tested (spots_of march) v) (enough-later e v) 9 (guard true 25 (next (at R (perimeter_due m z v)))) q h

    there : (m z : ℕ) → step (places e) (inside (num_spots_due m z) g) s ≡ next q → step R (inside (num_spots_due m z) g) s ≡ next q
    there m z h = here m z (as_kind (lines Field) num_spots s) h

    go : (step (places e) (inside b g) s ≡ step R (inside b g) s) ⊎ ((m : ℕ) × (z : ℕ) × (b ≡ num_spots_due m z)) → step R (inside b g) s ≡ next q
    go (inl t) = sym t ∙ h
    go (inr (m, z, t)) = subst (λ (b : Base). step (places e) (inside b g) s ≡ next q → step R (inside b g) s ≡ next q) (sym t) (there m z) h

pub run-later : (e : Edition) (p q : Place (rndf Field)) (l : List (Statement Field)) → run (places e) p l ≡ next q → run (rndf Field) p l ≡ next q
unfolding run
run-later e p q [] h = h
run-later e p q (s ∷ l) h = go (step (places e) p s) refl h (λ m. run-later e m q l)
  where
    go : (o : Out (Place (rndf Field))) → step (places e) p s ≡ o → and_then o (λ m. run (places e) m l) ≡ next q → ((m : Place (rndf Field)) → run (places e) m l ≡ next q → run (rndf Field) m l ≡ next q) → and_then (step (rndf Field) p s) (λ m. run (rndf Field) m l) ≡ next q
    go (next m) t h ih = rw (step-later e p m s t) (ih m h)
    go (refuse c) t h ih = refused h
