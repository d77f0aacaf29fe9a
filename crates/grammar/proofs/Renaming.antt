-- The places do not look into names: a step is the same whatever names are. Proved once, for two machines that differ only in what their statements say; and what statements of a kind say moves along with the names. Assumes nothing.
use mathlib.Core.Path.{◌≡◌, refl, sym, ap, ap₂, subst, subst_refl, ◌∙◌, path_j}
use mathlib.Core.List.{List, [], ◌∷◌, map}
use mathlib.Core.Option.{Option, none, some}
use mathlib.Core.Bool.{Bool, true, false, ◌&&◌}
use Rattle.terms.specs.Words.{pick}
use Prim.Native.Nat.{ℕ, zero, suc}
use lib.Dec.{T}
use Rattle.terms.specs.Words.{Among}
use Rattle.grammar.specs.Language.{Lang, S, say, as_dec, as_kind, all_of, Only}
use Rattle.grammar.specs.Machine.{Out, next, refuse, Opt, Due, Verdict, other, bad, good, judge, lacks, distinct, take, opt_at, clear, Machine, Stand, over, inside, guard, enter, hit, settle, step}
use Rattle.grammar.specs.Forms.{tested}
use Rattle.grammar.specs.Network.{GoodExit, GoodPerimeterExit}
use Rattle.grammar.specs.Editions.{Edition, march}
use Rattle.grammar.specs.Network.{Under, under}
use Rattle.grammar.specs.Permitted.{counted, at_most, own_checkpoint_of, own_stop_of, own_exit_of, exit?, perimeter_exit?}
use Rattle.grammar.specs.Statements.{Kind, Kind-discrete, Says, Statement, RNDF_name_of, num_segments, num_zones, format_version_of, creation_date_of, segment, num_lanes, segment_name_of, end_segment, lane, num_waypoints, lane_width_of, left_boundary_of, right_boundary_of, checkpoint, stop, exit, end_lane_of, zone, num_spots, zone_name_of, end_zone, perimeter, num_perimeterpoints, end_perimeter, spot, spot_width_of, end_spot, end_file_of, point}
use Rattle.grammar.specs.MissionStatements as M
use Rattle.grammar.specs.Places.{rndf_by, rndf, marked, Base, opts, due_in, due, apart, name_due, num_segments_due, num_zones_due, first_segment_due, part_due, num_lanes_due, first_lane_due, lane_due, num_waypoints_due, first_waypoint_due, waypoint_due, num_spots_due, perimeter_due, num_perimeterpoints_due, first_perimeterpoint_due, perimeterpoint_due, spot_due, first_of_spot_due, second_of_spot_due, end_spot_due}
use Rattle.grammar.specs.MissionPlaces as Ma
use Rattle.grammar.specs.Stands.{as_due, of_row_of, stands}
use Rattle.grammar.specs.Stands as Stands
use Rattle.grammar.specs.Renamed.{says_named, statement_named, orders_named, order_named}
use Rattle.grammar.proofs.Rows.{each-of_map}
use Rattle.grammar.proofs.LanguageLaws.{all-some, all_none}

-- ## Options and due statements of both machines
pub record Both {K : Type 0} (P Q : K → Type 0) (m : (k : K) → P k → Q k) : Type 0 where
  pub on : K
  pub once : Bool
  pub test : P on → Bool
  pub test' : Q on → Bool
  pub agree : (v : P on) → test' (m on v) ≡ test v

pub record BothDue {K : Type 0} (P Q : K → Type 0) (m : (k : K) → P k → Q k) (B : Type 0) : Type 0 where
  pub on : K
  pub test : P on → Bool
  pub test' : Q on → Bool
  pub then : P on → Option B
  pub then' : Q on → Option B
  pub agree : (v : P on) → test' (m on v) ≡ test v
  pub after : (v : P on) → then' (m on v) ≡ then v

module _ {K : Type 0} (d : Discrete K) (P Q : K → Type 0) (m : (k : K) → P k → Q k) where
  abbrev L : Lang
  L = record { Kind = K; Pay = P; disc = d }

  abbrev L' : Lang
  L' = record { Kind = K; Pay = Q; disc = d }

  abbrev left : Both P Q m → Opt K P
  left o = record { on = o.on; once = o.once; test = o.test }

  abbrev right : Both P Q m → Opt K Q
  right o = record { on = o.on; once = o.once; test = o.test' }

  abbrev pub moved : S L → S L'
  moved s = say L' s.kind (m s.kind s.val)

  abbrev given : (j : K) → Option (P j) → Option (Q j)
  given j none = none
  given j (some v) = some (m j v)

  -- what a statement says of a kind moves along
  as_moved : (k : K) (s : S L) → as_kind L' k (moved s) ≡ given k (as_kind L k s)
  as_moved k s = go (d s.kind k)
    where
      along : (j : K) (e : s.kind ≡ j) → subst Q e (m s.kind s.val) ≡ m j (subst P e s.val)
      along j e = path_j (λ j e. subst Q e (m s.kind s.val) ≡ m j (subst P e s.val)) (subst_refl Q (m s.kind s.val) ∙ ap (m s.kind) (sym (subst_refl P s.val))) e

      go : (x : Dec (s.kind ≡ k)) → as_dec L' k s.kind x (m s.kind s.val) ≡ given k (as_dec L k s.kind x s.val)
      go (yes e) = ap some (along k e)
      go (no n) = refl

  -- what the statements of a kind say moves along
  pub all_moved : (k : K) (os : List (S L)) → all_of L' k (map moved os) ≡ map (m k) (all_of L k os)
  all_moved k [] = refl
  all_moved k (s ∷ os) = go (as_kind L k s) refl (all_moved k os)
    where
      go : (x : Option (P k)) → as_kind L k s ≡ x → all_of L' k (map moved os) ≡ map (m k) (all_of L k os) → all_of L' k (map moved (s ∷ os)) ≡ map (m k) (all_of L k (s ∷ os))
      go (some v) e h = all-some L' k (moved s) (map moved os) (m k v) (as_moved k s ∙ ap (given k) e) ∙ ap (◌∷◌ (m k v)) h ∙ sym (ap (map (m k)) (all-some L k s os v e))
      go none e h = all_none L' k (moved s) (map moved os) (as_moved k s ∙ ap (given k) e) ∙ h ∙ sym (ap (map (m k)) (all_none L k s os e))

  -- and so do the kinds that there are
  pub only-moved : (ks : List K) (os : List (S L)) → Only L ks os → Only L' ks (map moved os)
  only-moved ks os e = each-of_map (λ s. Among s.kind ks) moved os e

  opt-moved : (row : List (Both P Q m)) (g : List Bool) (s : S L) → opt_at L' (map right row) g (moved s) ≡ opt_at L (map left row) g s
  opt-moved [] g s = refl
  opt-moved (o ∷ row) [] s = refl
  opt-moved (o ∷ row) (f ∷ g) s = ap₂ (λ (x : Option (Q o.on)) (v : Verdict). take L' (right o) f g x v) (as_moved o.on s) (opt-moved row g s) ∙ go (as_kind L o.on s)
    where
      go : (x : Option (P o.on)) → take L' (right o) f g (given o.on x) (opt_at L (map left row) g s) ≡ take L (left o) f g x (opt_at L (map left row) g s)
      go none = refl
      go (some v) = ap (λ (t : Bool). judge (o.once && f) t (o.once ∷ g)) (o.agree v)

  clear-moved : (row : List (Both P Q m)) → clear L' (map right row) ≡ clear L (map left row)
  clear-moved [] = refl
  clear-moved (o ∷ row) = ap (◌∷◌ false) (clear-moved row)

  module _ {B : Type 0} (rows : B → List (Both P Q m)) (dues : B → BothDue P Q m B) where
    -- a step by rows and a due statement
    abbrev enter-by : (LR : Lang) → (B → List (Opt LR.Kind LR.Pay)) → Option B → Stand B
    enter-by LR os none = over
    enter-by LR os (some b) = inside b (clear LR (os b))

    abbrev hit-by : (LR : Lang) → (B → List (Opt LR.Kind LR.Pay)) → (u : Due LR.Kind LR.Pay B) → Bool → Option (LR.Pay u.on) → Out (Stand B)
    hit-by LR os u r (some v) = guard (u.test v) 9 (guard r 25 (next (enter-by LR os (u.then v))))
    hit-by LR os u r none = refuse 5

    abbrev settle-by : (LR : Lang) → (B → List (Opt LR.Kind LR.Pay)) → Due LR.Kind LR.Pay B → B → Bool → Verdict → S LR → Out (Stand B)
    settle-by LR os u b r other s = hit-by LR os u r (as_kind LR u.on s)
    settle-by LR os u b r (bad c) s = refuse c
    settle-by LR os u b r (good g) s = next (inside b g)

    abbrev left-due : B → Due K P B
    left-due b = record { on = (dues b).on; test = (dues b).test; then = (dues b).then }

    abbrev right-due : B → Due K Q B
    right-due b = record { on = (dues b).on; test = (dues b).test'; then = (dues b).then' }

    enter-moved : (o : Option B) → enter-by L' (λ b. map right (rows b)) o ≡ enter-by L (λ b. map left (rows b)) o
    enter-moved none = refl
    enter-moved (some b) = ap (inside b) (clear-moved (rows b))

    settled : (b : B) (r : Bool) (v : Verdict) (s : S L) → settle-by L' (λ b. map right (rows b)) (right-due b) b r v (moved s) ≡ settle-by L (λ b. map left (rows b)) (left-due b) b r v s
    settled b r (bad c) s = refl
    settled b r (good g) s = refl
    settled b r other s = ap (hit-by L' (λ b. map right (rows b)) (right-due b) r) (as_moved (dues b).on s) ∙ go (as_kind L (dues b).on s)
      where
        go : (x : Option (P (dues b).on)) → hit-by L' (λ b. map right (rows b)) (right-due b) r (given (dues b).on x) ≡ hit-by L (λ b. map left (rows b)) (left-due b) r x
        go none = refl
        go (some v) = ap₂ (λ (t : Bool) (p : Stand B). guard t 9 (guard r 25 (next p))) ((dues b).agree v) (ap (enter-by L' (λ b. map right (rows b))) ((dues b).after v) ∙ enter-moved ((dues b).then v))

    -- two machines with these rows and due statements, which are ready alike
    module _ (e : B → List Bool → Bool) (o : B → List (Opt K P)) (u : B → Due K P B) (a : (b : B) → T (lacks L (u b).on (o b) && distinct L (o b))) (o' : B → List (Opt K Q)) (u' : B → Due K Q B) (a' : (b : B) → T (lacks L' (u' b).on (o' b) && distinct L' (o' b)))
        (is-o : (b : B) → o b ≡ map left (rows b)) (is-u : (b : B) → u b ≡ left-due b) (is_o' : (b : B) → o' b ≡ map right (rows b)) (is_u' : (b : B) → u' b ≡ right-due b) where
      abbrev A : Machine L
      A = record { Base = B; opts = o; due = u; ready = e; apart = a }

      abbrev A' : Machine L'
      A' = record { Base = B; opts = o'; due = u'; ready = e; apart = a' }

      enter-is : (LR : Lang) (os : B → List (Opt LR.Kind LR.Pay)) (qs : B → List (Opt LR.Kind LR.Pay)) → ((b : B) → os b ≡ qs b) → (x : Option B) → enter-by LR os x ≡ enter-by LR qs x
      enter-is LR os qs e none = refl
      enter-is LR os qs e (some b) = ap (λ (r : List (Opt LR.Kind LR.Pay)). inside b (clear LR r)) (e b)

      settle_is : (LR : Lang) (os qs : B → List (Opt LR.Kind LR.Pay)) → ((b : B) → os b ≡ qs b) → (w w' : Due LR.Kind LR.Pay B) → w ≡ w' → (b : B) (r : Bool) (v : Verdict) (s : S LR) → settle-by LR os w b r v s ≡ settle-by LR qs w' b r v s
      settle_is LR os qs e w w' f b r (bad c) s = refl
      settle_is LR os qs e w w' f b r (good g) s = refl
      settle_is LR os qs e w w' f b r other s = go (as_kind LR w.on s) ∙ ap (λ (w : Due LR.Kind LR.Pay B). hit-by LR qs w r (as_kind LR w.on s)) f
        where
          go : (x : Option (LR.Pay w.on)) → hit-by LR os w r x ≡ hit-by LR qs w r x
          go none = refl
          go (some v) = ap (λ (p : Stand B). guard (w.test v) 9 (guard r 25 (next p))) (enter-is LR os qs e (w.then v))

      enter-own : (x : Option B) → enter A x ≡ enter-by L o x
      enter-own none = refl
      enter-own (some b) = refl

      enter-own' : (x : Option B) → enter A' x ≡ enter-by L' o' x
      enter-own' none = refl
      enter-own' (some b) = refl

      settle-own : (b : B) (g : List Bool) (v : Verdict) (s : S L) → settle A b g v s ≡ settle-by L o (u b) b (e b g) v s
      settle-own b g (bad c) s = refl
      settle-own b g (good g') s = refl
      settle-own b g other s = go (as_kind L (u b).on s)
        where
          go : (x : Option (P (u b).on)) → hit A b g x ≡ hit-by L o (u b) (e b g) x
          go none = refl
          go (some v) = ap (λ (p : Stand B). guard ((u b).test v) 9 (guard (e b g) 25 (next p))) (enter-own ((u b).then v))

      settle-own' : (b : B) (g : List Bool) (v : Verdict) (s : S L') → settle A' b g v s ≡ settle-by L' o' (u' b) b (e b g) v s
      settle-own' b g (bad c) s = refl
      settle-own' b g (good g') s = refl
      settle-own' b g other s = go (as_kind L' (u' b).on s)
        where
          go : (x : Option (Q (u' b).on)) → hit A' b g x ≡ hit-by L' o' (u' b) (e b g) x
          go none = refl
          go (some v) = ap (λ (p : Stand B). guard ((u' b).test v) 9 (guard (e b g) 25 (next p))) (enter-own' ((u' b).then v))

      pub step-moved : (p : Stand B) (s : S L) → step A' p (moved s) ≡ step A p s
      unfolding step
      step-moved over s = refl
      step-moved (inside b g) s =
          settle-own' b g (opt_at L' (o' b) g (moved s)) (moved s)
          ∙ settle_is L' o' (λ b. map right (rows b)) is_o' (u' b) (right-due b) (is_u' b) b (e b g) (opt_at L' (o' b) g (moved s)) (moved s)
          ∙ ap (λ (v : Verdict). settle-by L' (λ b. map right (rows b)) (right-due b) b (e b g) v (moved s)) (ap (λ (r : List (Opt K Q)). opt_at L' r g (moved s)) (is_o' b) ∙ opt-moved (rows b) g s ∙ sym (ap (λ (r : List (Opt K P)). opt_at L r g s) (is-o b)))
          ∙ settled b (e b g) (opt_at L (o b) g s) s
          ∙ sym (settle_is L o (λ b. map left (rows b)) is-o (u b) (left-due b) (is-u b) b (e b g) (opt_at L (o b) g s) s)
          ∙ sym (settle-own b g (opt_at L (o b) g s) s)

      -- what may stand by its kind alone
      given-moved : (r : List (Both P Q m)) (g : List Bool) (k : K) → Stands.given L' (map right r) g k ≡ Stands.given L (map left r) g k
      given-moved [] g k = refl
      given-moved (w ∷ r) [] k = refl
      given-moved (w ∷ r) (x ∷ g) k = go (d k w.on) (given-moved r g k)
        where
          go : (q : Dec (k ≡ w.on)) → Stands.given L' (map right r) g k ≡ Stands.given L (map left r) g k
              → ◌≡◌ {A = Option Bool} (elim q as (λ y. Option Bool) [ yes e ↦ some (w.once && x) | no n ↦ Stands.given L' (map right r) g k ]) (elim q as (λ y. Option Bool) [ yes e ↦ some (w.once && x) | no n ↦ Stands.given L (map left r) g k ])
          go (yes e) h = refl
          go (no n) h = h

      pub stands-moved : (p : Stand B) (k : K) → stands A' p k ≡ stands A p k
      unfolding stands
      stands-moved over k = refl
      stands-moved (inside b g) k =
          ap (λ (r : List (Opt K Q)). of_row_of (Stands.given L' r g k) (as_due (d k (u' b).on))) (is_o' b)
          ∙ ap (λ (r : Option Bool). of_row_of r (as_due (d k (u' b).on))) (given-moved (rows b) g k)
          ∙ ap (λ (r : List (Opt K P)). of_row_of (Stands.given L r g k) (as_due (d k (u' b).on))) (sym (is-o b))
          ∙ ap (λ (j : K). of_row_of (Stands.given L (o b) g k) (as_due (d k j))) (ap (λ (w : Due K Q B). w.on) (is_u' b) ∙ sym (ap (λ (w : Due K P B). w.on) (is-u b)))

-- ## RNDF and MDF
module _ {N N' : Type 0} (f : N → N') where
  abbrev R : Type 0
  R = Both (Says N) (Says N') (says_named f)

  abbrev D : Type 0
  D = BothDue (Says N) (Says N') (says_named f) Base

  abbrev both : (k : Kind) → Bool → (t : Says N k → Bool) (t' : Says N' k → Bool) → ((v : Says N k) → t' (says_named f k v) ≡ t v) → R
  both k b t t' e = record { on = k; once = b; test = t; test' = t'; agree = e }

  -- a single option whose value is not tested
  abbrev any : Kind → R
  any k = both k true (λ v. true) (λ v. true) (λ v. refl)

  abbrev both-due : (k : Kind) (t : Says N k → Bool) (t' : Says N' k → Bool) (n : Says N k → Option Base) (n' : Says N' k → Option Base) → ((v : Says N k) → t' (says_named f k v) ≡ t v) → ((v : Says N k) → n' (says_named f k v) ≡ n v) → D
  both-due k t t' n n' e a = record { on = k; test = t; test' = t'; then = n; then' = n'; agree = e; after = a }

  rows : Base → List R
  rows name_due = []
  rows num_segments_due = []
  rows (num_zones_due o) = []
  rows (first_segment_due o z) = any format_version_of ∷ any creation_date_of ∷ []
  rows (part_due m o z) = []
  rows (num_lanes_due m o z) = []
  rows (first_lane_due m o z l) = any segment_name_of ∷ []
  rows (lane_due m o z n l) = []
  rows (num_waypoints_due m o z n l) = []
  rows (first_waypoint_due m o z n l w) = both lane_width_of true (tested at_most) (tested at_most) (λ v. refl) ∷ any left_boundary_of ∷ any right_boundary_of ∷ both checkpoint false (tested (own_checkpoint_of m n 1 w)) (tested (own_checkpoint_of m n 1 w)) (λ v. refl) ∷ both stop false (tested (own_stop_of m n w)) (tested (own_stop_of m n w)) (λ v. refl) ∷ both exit false (tested (own_exit_of m n (GoodExit w) (exit? w))) (tested (own_exit_of m n (GoodExit w) (exit? w))) (λ v. refl) ∷ []
  rows (waypoint_due m o z n l k w) = []
  rows (num_spots_due m z) = []
  rows (perimeter_due m z s) = any zone_name_of ∷ []
  rows (num_perimeterpoints_due m z s) = []
  rows (first_perimeterpoint_due m z s p) = both exit false (tested (own_exit_of m 0 (GoodPerimeterExit p) (perimeter_exit? p))) (tested (own_exit_of m 0 (GoodPerimeterExit p) (perimeter_exit? p))) (λ v. refl) ∷ []
  rows (perimeterpoint_due m z s k p) = []
  rows (spot_due m z n s) = []
  rows (first_of_spot_due m z n s) = both spot_width_of true (tested counted) (tested counted) (λ v. refl) ∷ both checkpoint true (tested (own_checkpoint_of m n 2 2)) (tested (own_checkpoint_of m n 2 2)) (λ v. refl) ∷ []
  rows (second_of_spot_due m z n s) = []
  rows (end_spot_due m z n s) = []

  dues : Edition → Base → D
  dues e name_due = both-due RNDF_name_of (due_in N e name_due).test (due_in N' e name_due).test (due_in N e name_due).then (due_in N' e name_due).then (λ v. refl) (λ v. refl)
  dues e num_segments_due = both-due num_segments (due_in N e num_segments_due).test (due_in N' e num_segments_due).test (due_in N e num_segments_due).then (due_in N' e num_segments_due).then (λ v. refl) (λ v. refl)
  dues e (num_zones_due o) = both-due num_zones (due_in N e (num_zones_due o)).test (due_in N' e (num_zones_due o)).test (due_in N e (num_zones_due o)).then (due_in N' e (num_zones_due o)).then (λ v. refl) (λ v. refl)
  dues e (first_segment_due o z) = both-due segment (due_in N e (first_segment_due o z)).test (due_in N' e (first_segment_due o z)).test (due_in N e (first_segment_due o z)).then (due_in N' e (first_segment_due o z)).then (λ v. refl) (λ v. refl)
  dues e (part_due m (suc o) z) = both-due segment (due_in N e (part_due m (suc o) z)).test (due_in N' e (part_due m (suc o) z)).test (due_in N e (part_due m (suc o) z)).then (due_in N' e (part_due m (suc o) z)).then (λ v. refl) (λ v. refl)
  dues e (part_due m zero (suc z)) = both-due zone (due_in N e (part_due m zero (suc z))).test (due_in N' e (part_due m zero (suc z))).test (due_in N e (part_due m zero (suc z))).then (due_in N' e (part_due m zero (suc z))).then (λ v. refl) (λ v. refl)
  dues e (part_due m zero zero) = both-due end_file_of (due_in N e (part_due m zero zero)).test (due_in N' e (part_due m zero zero)).test (due_in N e (part_due m zero zero)).then (due_in N' e (part_due m zero zero)).then (λ v. refl) (λ v. refl)
  dues e (num_lanes_due m o z) = both-due num_lanes (due_in N e (num_lanes_due m o z)).test (due_in N' e (num_lanes_due m o z)).test (due_in N e (num_lanes_due m o z)).then (due_in N' e (num_lanes_due m o z)).then (λ v. refl) (λ v. refl)
  dues e (first_lane_due m o z l) = both-due lane (due_in N e (first_lane_due m o z l)).test (due_in N' e (first_lane_due m o z l)).test (due_in N e (first_lane_due m o z l)).then (due_in N' e (first_lane_due m o z l)).then (λ v. refl) (λ v. refl)
  dues e (lane_due m o z n (suc l)) = both-due lane (due_in N e (lane_due m o z n (suc l))).test (due_in N' e (lane_due m o z n (suc l))).test (due_in N e (lane_due m o z n (suc l))).then (due_in N' e (lane_due m o z n (suc l))).then (λ v. refl) (λ v. refl)
  dues e (lane_due m o z n zero) = both-due end_segment (due_in N e (lane_due m o z n zero)).test (due_in N' e (lane_due m o z n zero)).test (due_in N e (lane_due m o z n zero)).then (due_in N' e (lane_due m o z n zero)).then (λ v. refl) (λ v. refl)
  dues e (num_waypoints_due m o z n l) = both-due num_waypoints (due_in N e (num_waypoints_due m o z n l)).test (due_in N' e (num_waypoints_due m o z n l)).test (due_in N e (num_waypoints_due m o z n l)).then (due_in N' e (num_waypoints_due m o z n l)).then (λ v. refl) (λ v. refl)
  dues e (first_waypoint_due m o z n l w) = both-due point (due_in N e (first_waypoint_due m o z n l w)).test (due_in N' e (first_waypoint_due m o z n l w)).test (due_in N e (first_waypoint_due m o z n l w)).then (due_in N' e (first_waypoint_due m o z n l w)).then (λ v. refl) (λ v. refl)
  dues e (waypoint_due m o z n l k (suc w)) = both-due point (due_in N e (waypoint_due m o z n l k (suc w))).test (due_in N' e (waypoint_due m o z n l k (suc w))).test (due_in N e (waypoint_due m o z n l k (suc w))).then (due_in N' e (waypoint_due m o z n l k (suc w))).then (λ v. refl) (λ v. refl)
  dues e (waypoint_due m o z n l k zero) = both-due end_lane_of (due_in N e (waypoint_due m o z n l k zero)).test (due_in N' e (waypoint_due m o z n l k zero)).test (due_in N e (waypoint_due m o z n l k zero)).then (due_in N' e (waypoint_due m o z n l k zero)).then (λ v. refl) (λ v. refl)
  dues e (num_spots_due m z) = both-due num_spots (due_in N e (num_spots_due m z)).test (due_in N' e (num_spots_due m z)).test (due_in N e (num_spots_due m z)).then (due_in N' e (num_spots_due m z)).then (λ v. refl) (λ v. refl)
  dues e (perimeter_due m z s) = both-due perimeter (due_in N e (perimeter_due m z s)).test (due_in N' e (perimeter_due m z s)).test (due_in N e (perimeter_due m z s)).then (due_in N' e (perimeter_due m z s)).then (λ v. refl) (λ v. refl)
  dues e (num_perimeterpoints_due m z s) = both-due num_perimeterpoints (due_in N e (num_perimeterpoints_due m z s)).test (due_in N' e (num_perimeterpoints_due m z s)).test (due_in N e (num_perimeterpoints_due m z s)).then (due_in N' e (num_perimeterpoints_due m z s)).then (λ v. refl) (λ v. refl)
  dues e (first_perimeterpoint_due m z s p) = both-due point (due_in N e (first_perimeterpoint_due m z s p)).test (due_in N' e (first_perimeterpoint_due m z s p)).test (due_in N e (first_perimeterpoint_due m z s p)).then (due_in N' e (first_perimeterpoint_due m z s p)).then (λ v. refl) (λ v. refl)
  dues e (perimeterpoint_due m z s k (suc p)) = both-due point (due_in N e (perimeterpoint_due m z s k (suc p))).test (due_in N' e (perimeterpoint_due m z s k (suc p))).test (due_in N e (perimeterpoint_due m z s k (suc p))).then (due_in N' e (perimeterpoint_due m z s k (suc p))).then (λ v. refl) (λ v. refl)
  dues e (perimeterpoint_due m z s k zero) = both-due end_perimeter (due_in N e (perimeterpoint_due m z s k zero)).test (due_in N' e (perimeterpoint_due m z s k zero)).test (due_in N e (perimeterpoint_due m z s k zero)).then (due_in N' e (perimeterpoint_due m z s k zero)).then (λ v. refl) (λ v. refl)
  dues e (spot_due m z n (suc s)) = both-due spot (due_in N e (spot_due m z n (suc s))).test (due_in N' e (spot_due m z n (suc s))).test (due_in N e (spot_due m z n (suc s))).then (due_in N' e (spot_due m z n (suc s))).then (λ v. refl) (λ v. refl)
  dues e (spot_due m z n zero) = both-due end_zone (due_in N e (spot_due m z n zero)).test (due_in N' e (spot_due m z n zero)).test (due_in N e (spot_due m z n zero)).then (due_in N' e (spot_due m z n zero)).then (λ v. refl) (λ v. refl)
  dues e (first_of_spot_due m z n s) = both-due point (due_in N e (first_of_spot_due m z n s)).test (due_in N' e (first_of_spot_due m z n s)).test (due_in N e (first_of_spot_due m z n s)).then (due_in N' e (first_of_spot_due m z n s)).then (λ v. refl) (λ v. refl)
  dues e (second_of_spot_due m z n s) = both-due point (due_in N e (second_of_spot_due m z n s)).test (due_in N' e (second_of_spot_due m z n s)).test (due_in N e (second_of_spot_due m z n s)).then (due_in N' e (second_of_spot_due m z n s)).then (λ v. refl) (λ v. refl)
  dues e (end_spot_due m z n s) = both-due end_spot (due_in N e (end_spot_due m z n s)).test (due_in N' e (end_spot_due m z n s)).test (due_in N e (end_spot_due m z n s)).then (due_in N' e (end_spot_due m z n s)).then (λ v. refl) (λ v. refl)

  is-o : (b : Base) → opts N b ≡ map (left Kind-discrete (Says N) (Says N') (says_named f)) (rows b)
  unfolding rows
  is-o name_due = refl
  is-o num_segments_due = refl
  is-o (num_zones_due o) = refl
  is-o (first_segment_due o z) = refl
  is-o (part_due m o z) = refl
  is-o (num_lanes_due m o z) = refl
  is-o (first_lane_due m o z l) = refl
  is-o (lane_due m o z n l) = refl
  is-o (num_waypoints_due m o z n l) = refl
  is-o (first_waypoint_due m o z n l w) = refl
  is-o (waypoint_due m o z n l k w) = refl
  is-o (num_spots_due m z) = refl
  is-o (perimeter_due m z s) = refl
  is-o (num_perimeterpoints_due m z s) = refl
  is-o (first_perimeterpoint_due m z s p) = refl
  is-o (perimeterpoint_due m z s k p) = refl
  is-o (spot_due m z n s) = refl
  is-o (first_of_spot_due m z n s) = refl
  is-o (second_of_spot_due m z n s) = refl
  is-o (end_spot_due m z n s) = refl

  is_o' : (b : Base) → opts N' b ≡ map (right Kind-discrete (Says N) (Says N') (says_named f)) (rows b)
  unfolding rows
  is_o' name_due = refl
  is_o' num_segments_due = refl
  is_o' (num_zones_due o) = refl
  is_o' (first_segment_due o z) = refl
  is_o' (part_due m o z) = refl
  is_o' (num_lanes_due m o z) = refl
  is_o' (first_lane_due m o z l) = refl
  is_o' (lane_due m o z n l) = refl
  is_o' (num_waypoints_due m o z n l) = refl
  is_o' (first_waypoint_due m o z n l w) = refl
  is_o' (waypoint_due m o z n l k w) = refl
  is_o' (num_spots_due m z) = refl
  is_o' (perimeter_due m z s) = refl
  is_o' (num_perimeterpoints_due m z s) = refl
  is_o' (first_perimeterpoint_due m z s p) = refl
  is_o' (perimeterpoint_due m z s k p) = refl
  is_o' (spot_due m z n s) = refl
  is_o' (first_of_spot_due m z n s) = refl
  is_o' (second_of_spot_due m z n s) = refl
  is_o' (end_spot_due m z n s) = refl

  is-u : (e : Edition) (b : Base) → due_in N e b ≡ left-due Kind-discrete (Says N) (Says N') (says_named f) rows (dues e) b
  unfolding dues
  is-u e name_due = refl
  is-u e num_segments_due = refl
  is-u e (num_zones_due o) = refl
  is-u e (first_segment_due o z) = refl
  is-u e (part_due m (suc o) z) = refl
  is-u e (part_due m zero (suc z)) = refl
  is-u e (part_due m zero zero) = refl
  is-u e (num_lanes_due m o z) = refl
  is-u e (first_lane_due m o z l) = refl
  is-u e (lane_due m o z n (suc l)) = refl
  is-u e (lane_due m o z n zero) = refl
  is-u e (num_waypoints_due m o z n l) = refl
  is-u e (first_waypoint_due m o z n l w) = refl
  is-u e (waypoint_due m o z n l k (suc w)) = refl
  is-u e (waypoint_due m o z n l k zero) = refl
  is-u e (num_spots_due m z) = refl
  is-u e (perimeter_due m z s) = refl
  is-u e (num_perimeterpoints_due m z s) = refl
  is-u e (first_perimeterpoint_due m z s p) = refl
  is-u e (perimeterpoint_due m z s k (suc p)) = refl
  is-u e (perimeterpoint_due m z s k zero) = refl
  is-u e (spot_due m z n (suc s)) = refl
  is-u e (spot_due m z n zero) = refl
  is-u e (first_of_spot_due m z n s) = refl
  is-u e (second_of_spot_due m z n s) = refl
  is-u e (end_spot_due m z n s) = refl

  is_u' : (e : Edition) (b : Base) → due_in N' e b ≡ right-due Kind-discrete (Says N) (Says N') (says_named f) rows (dues e) b
  unfolding dues
  is_u' e name_due = refl
  is_u' e num_segments_due = refl
  is_u' e (num_zones_due o) = refl
  is_u' e (first_segment_due o z) = refl
  is_u' e (part_due m (suc o) z) = refl
  is_u' e (part_due m zero (suc z)) = refl
  is_u' e (part_due m zero zero) = refl
  is_u' e (num_lanes_due m o z) = refl
  is_u' e (first_lane_due m o z l) = refl
  is_u' e (lane_due m o z n (suc l)) = refl
  is_u' e (lane_due m o z n zero) = refl
  is_u' e (num_waypoints_due m o z n l) = refl
  is_u' e (first_waypoint_due m o z n l w) = refl
  is_u' e (waypoint_due m o z n l k (suc w)) = refl
  is_u' e (waypoint_due m o z n l k zero) = refl
  is_u' e (num_spots_due m z) = refl
  is_u' e (perimeter_due m z s) = refl
  is_u' e (num_perimeterpoints_due m z s) = refl
  is_u' e (first_perimeterpoint_due m z s p) = refl
  is_u' e (perimeterpoint_due m z s k (suc p)) = refl
  is_u' e (perimeterpoint_due m z s k zero) = refl
  is_u' e (spot_due m z n (suc s)) = refl
  is_u' e (spot_due m z n zero) = refl
  is_u' e (first_of_spot_due m z n s) = refl
  is_u' e (second_of_spot_due m z n s) = refl
  is_u' e (end_spot_due m z n s) = refl

  -- the step of an RNDF is the same whatever names are
  pub rndf-renamed-by : (by : Under) (p : Stand Base) (s : Statement N) → step (rndf_by N' by) p (statement_named f s) ≡ step (rndf_by N by) p s
  rndf-renamed-by by =
      let e = by.edition in
      step-moved Kind-discrete (Says N) (Says N') (says_named f) rows (dues e) (λ b g. pick by.strict (marked b g) true) (opts N) (due_in N e) (apart N e) (opts N') (due_in N' e) (apart N' e) is-o (is-u e) is_o' (is_u' e)

  pub rndf-renamed : (p : Stand Base) (s : Statement N) → step (rndf N') p (statement_named f s) ≡ step (rndf N) p s
  rndf-renamed = rndf-renamed-by (under march true)

  pub rndf-stands : (p : Stand Base) (k : Kind) → stands (rndf N') p k ≡ stands (rndf N) p k
  rndf-stands = stands-moved Kind-discrete (Says N) (Says N') (says_named f) rows (dues march) (λ b g. pick true (marked b g) true) (opts N) (due N) (apart N march) (opts N') (due N') (apart N' march) is-o (is-u march) is_o' (is_u' march)

  abbrev R-m : Type 0
  R-m = Both (M.Says N) (M.Says N') (orders_named f)

  abbrev any-m : M.Kind → R-m
  any-m k = record { on = k; once = true; test = λ v. true; test' = λ v. true; agree = λ v. refl }

  abbrev both-due-m : (k : M.Kind) (t : M.Says N k → Bool) (t' : M.Says N' k → Bool) (n : M.Says N k → Option Ma.Base) (n' : M.Says N' k → Option Ma.Base) → ((v : M.Says N k) → t' (orders_named f k v) ≡ t v) → ((v : M.Says N k) → n' (orders_named f k v) ≡ n v)
      → BothDue (M.Says N) (M.Says N') (orders_named f) Ma.Base
  both-due-m k t t' n n' e a = record { on = k; test = t; test' = t'; then = n; then' = n'; agree = e; after = a }

  rows-m : Ma.Base → List R-m
  rows-m Ma.name_due = []
  rows-m Ma.RNDF_due = []
  rows-m Ma.checkpoints_due = any-m M.format_version_of ∷ any-m M.creation_date_of ∷ []
  rows-m Ma.num_checkpoints_due = []
  rows-m (Ma.goal_due g) = []
  rows-m Ma.speed_limits_due = []
  rows-m Ma.num_speed_limits_due = []
  rows-m (Ma.limit_due l) = []
  rows-m Ma.end_file_due = []

  dues-m : Ma.Base → BothDue (M.Says N) (M.Says N') (orders_named f) Ma.Base
  dues-m Ma.name_due = both-due-m M.MDF_name_of (Ma.due N Ma.name_due).test (Ma.due N' Ma.name_due).test (Ma.due N Ma.name_due).then (Ma.due N' Ma.name_due).then (λ v. refl) (λ v. refl)
  dues-m Ma.RNDF_due = both-due-m M.RNDF (Ma.due N Ma.RNDF_due).test (Ma.due N' Ma.RNDF_due).test (Ma.due N Ma.RNDF_due).then (Ma.due N' Ma.RNDF_due).then (λ v. refl) (λ v. refl)
  dues-m Ma.checkpoints_due = both-due-m M.checkpoints (Ma.due N Ma.checkpoints_due).test (Ma.due N' Ma.checkpoints_due).test (Ma.due N Ma.checkpoints_due).then (Ma.due N' Ma.checkpoints_due).then (λ v. refl) (λ v. refl)
  dues-m Ma.num_checkpoints_due = both-due-m M.num_checkpoints (Ma.due N Ma.num_checkpoints_due).test (Ma.due N' Ma.num_checkpoints_due).test (Ma.due N Ma.num_checkpoints_due).then (Ma.due N' Ma.num_checkpoints_due).then (λ v. refl) (λ v. refl)
  dues-m (Ma.goal_due (suc g)) = both-due-m M.goal (Ma.due N (Ma.goal_due (suc g))).test (Ma.due N' (Ma.goal_due (suc g))).test (Ma.due N (Ma.goal_due (suc g))).then (Ma.due N' (Ma.goal_due (suc g))).then (λ v. refl) (λ v. refl)
  dues-m (Ma.goal_due zero) = both-due-m M.end_checkpoints (Ma.due N (Ma.goal_due zero)).test (Ma.due N' (Ma.goal_due zero)).test (Ma.due N (Ma.goal_due zero)).then (Ma.due N' (Ma.goal_due zero)).then (λ v. refl) (λ v. refl)
  dues-m Ma.speed_limits_due = both-due-m M.speed_limits (Ma.due N Ma.speed_limits_due).test (Ma.due N' Ma.speed_limits_due).test (Ma.due N Ma.speed_limits_due).then (Ma.due N' Ma.speed_limits_due).then (λ v. refl) (λ v. refl)
  dues-m Ma.num_speed_limits_due = both-due-m M.num_speed_limits (Ma.due N Ma.num_speed_limits_due).test (Ma.due N' Ma.num_speed_limits_due).test (Ma.due N Ma.num_speed_limits_due).then (Ma.due N' Ma.num_speed_limits_due).then (λ v. refl) (λ v. refl)
  dues-m (Ma.limit_due (suc l)) = both-due-m M.limit (Ma.due N (Ma.limit_due (suc l))).test (Ma.due N' (Ma.limit_due (suc l))).test (Ma.due N (Ma.limit_due (suc l))).then (Ma.due N' (Ma.limit_due (suc l))).then (λ v. refl) (λ v. refl)
  dues-m (Ma.limit_due zero) = both-due-m M.end_speed_limits (Ma.due N (Ma.limit_due zero)).test (Ma.due N' (Ma.limit_due zero)).test (Ma.due N (Ma.limit_due zero)).then (Ma.due N' (Ma.limit_due zero)).then (λ v. refl) (λ v. refl)
  dues-m Ma.end_file_due = both-due-m M.end_file_of (Ma.due N Ma.end_file_due).test (Ma.due N' Ma.end_file_due).test (Ma.due N Ma.end_file_due).then (Ma.due N' Ma.end_file_due).then (λ v. refl) (λ v. refl)

  is-o-m : (b : Ma.Base) → Ma.opts N b ≡ map (left M.Kind-discrete (M.Says N) (M.Says N') (orders_named f)) (rows-m b)
  unfolding rows-m
  is-o-m Ma.name_due = refl
  is-o-m Ma.RNDF_due = refl
  is-o-m Ma.checkpoints_due = refl
  is-o-m Ma.num_checkpoints_due = refl
  is-o-m (Ma.goal_due g) = refl
  is-o-m Ma.speed_limits_due = refl
  is-o-m Ma.num_speed_limits_due = refl
  is-o-m (Ma.limit_due l) = refl
  is-o-m Ma.end_file_due = refl

  is-o_m' : (b : Ma.Base) → Ma.opts N' b ≡ map (right M.Kind-discrete (M.Says N) (M.Says N') (orders_named f)) (rows-m b)
  unfolding rows-m
  is-o_m' Ma.name_due = refl
  is-o_m' Ma.RNDF_due = refl
  is-o_m' Ma.checkpoints_due = refl
  is-o_m' Ma.num_checkpoints_due = refl
  is-o_m' (Ma.goal_due g) = refl
  is-o_m' Ma.speed_limits_due = refl
  is-o_m' Ma.num_speed_limits_due = refl
  is-o_m' (Ma.limit_due l) = refl
  is-o_m' Ma.end_file_due = refl

  is-u-m : (b : Ma.Base) → Ma.due N b ≡ left-due M.Kind-discrete (M.Says N) (M.Says N') (orders_named f) rows-m dues-m b
  unfolding dues-m
  is-u-m Ma.name_due = refl
  is-u-m Ma.RNDF_due = refl
  is-u-m Ma.checkpoints_due = refl
  is-u-m Ma.num_checkpoints_due = refl
  is-u-m (Ma.goal_due (suc g)) = refl
  is-u-m (Ma.goal_due zero) = refl
  is-u-m Ma.speed_limits_due = refl
  is-u-m Ma.num_speed_limits_due = refl
  is-u-m (Ma.limit_due (suc l)) = refl
  is-u-m (Ma.limit_due zero) = refl
  is-u-m Ma.end_file_due = refl

  is-u_m' : (b : Ma.Base) → Ma.due N' b ≡ right-due M.Kind-discrete (M.Says N) (M.Says N') (orders_named f) rows-m dues-m b
  unfolding dues-m
  is-u_m' Ma.name_due = refl
  is-u_m' Ma.RNDF_due = refl
  is-u_m' Ma.checkpoints_due = refl
  is-u_m' Ma.num_checkpoints_due = refl
  is-u_m' (Ma.goal_due (suc g)) = refl
  is-u_m' (Ma.goal_due zero) = refl
  is-u_m' Ma.speed_limits_due = refl
  is-u_m' Ma.num_speed_limits_due = refl
  is-u_m' (Ma.limit_due (suc l)) = refl
  is-u_m' (Ma.limit_due zero) = refl
  is-u_m' Ma.end_file_due = refl

  -- the step of an MDF is the same whatever names are
  pub mdf-renamed : (p : Stand Ma.Base) (s : M.Statement N) → step (Ma.mdf N') p (order_named f s) ≡ step (Ma.mdf N) p s
  mdf-renamed = step-moved M.Kind-discrete (M.Says N) (M.Says N') (orders_named f) rows-m dues-m (λ b g. true) (Ma.opts N) (Ma.due N) (Ma.apart N) (Ma.opts N') (Ma.due N') (Ma.apart N') is-o-m is-u-m is-o_m' is-u_m'

  pub mdf-stands : (p : Stand Ma.Base) (k : M.Kind) → stands (Ma.mdf N') p k ≡ stands (Ma.mdf N) p k
  mdf-stands = stands-moved M.Kind-discrete (M.Says N) (M.Says N') (orders_named f) rows-m dues-m (λ b g. true) (Ma.opts N) (Ma.due N) (Ma.apart N) (Ma.opts N') (Ma.due N') (Ma.apart N') is-o-m is-u-m is-o_m' is-u_m'
