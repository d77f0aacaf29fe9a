-- Executable: which values a statement may have at its place, decided from the ranges of Network, and the options of each part. Assumes nothing.
use Rattle.std.specs.Prelude.{◌≡◌, refl, List, [], ◌∷◌, Bool, true, false, ℕ, ◌+◌, ◌≤◌, nat_abs}
use Rattle.std.proofs.Common.{ap}
use Rattle.terms.specs.Words.{Between}
use Rattle.grammar.specs.Forms.{via, and?, le?, eq?, Form, free, within, only}
use Rattle.grammar.specs.Choices.{Choice}
use Rattle.grammar.specs.Editions.{Edition, march, december, Enough}
use Rattle.grammar.specs.Statements.{Boundary, PartId, PointId, Position, CheckpointLine, ExitLine, PointLine, Kind, Says, part_id, point_id, format_version_of, creation_date_of, segment_name_of, lane_width_of, left_boundary_of, right_boundary_of, checkpoint, stop, exit, zone_name_of, spot_width_of}
use Rattle.grammar.specs.Network.{largest, Checkpoint, Exit, OnEarth, GoodCheckpoint, GoodEntry, GoodExit, GoodPerimeterExit, the_checkpoint_of, the_exit_of}

-- ## Decisions
abbrev pub between? : (a b n : ℕ) → Dec (Between a b n)
between? a b n = via (λ x. record { low = x.0; high = x.1 }) (λ x. (x.low, x.high)) (and? (le? a n) (le? n b))

abbrev pub part? : Discrete PartId
part? a b = via (λ x i. record { m = x.0 i; n = x.1 i }) (λ e. (ap (λ (p : PartId). p.m) e, ap (λ (p : PartId). p.n) e)) (and? (eq? a.m b.m) (eq? a.n b.n))

abbrev pub point? : Discrete PointId
point? a b = via (λ x i. record { x = x.0 i; y = x.1.0 i; z = x.1.1 i }) (λ e. (ap (λ (p : PointId). p.x) e, (ap (λ (p : PointId). p.y) e, ap (λ (p : PointId). p.z) e)))
    (and? (eq? a.x b.x) (and? (eq? a.y b.y) (eq? a.z b.z)))

abbrev pub on_earth? : (p : Position) → Dec (OnEarth p)
on_earth? p = via (λ x. record { latitude = x.0; longitude = x.1 }) (λ x. (x.latitude, x.longitude)) (and? (le? (nat_abs p.latitude) 90000000) (le? (nat_abs p.longitude) 180000000))

abbrev pub checkpoint? : (first last : ℕ) (c : Checkpoint) → Dec (GoodCheckpoint first last c)
checkpoint? first last c = via (λ x. record { waypoint = x.0; number = x.1 }) (λ x. (x.waypoint, x.number)) (and? (between? first last c.waypoint) (between? 1 largest c.number))

abbrev pub entry? : (e : PointId) → Dec (GoodEntry e)
entry? e = via (λ x. record { x = x.0; y = x.1.0; z = x.1.1 }) (λ x. (x.x, (x.y, x.z))) (and? (between? 1 largest e.x) (and? (le? e.y largest) (between? 1 largest e.z)))

abbrev pub exit? : (w : ℕ) (e : Exit) → Dec (GoodExit w e)
exit? w e = via (λ x. record { waypoint = x.0; entry = x.1 }) (λ x. (x.waypoint, x.entry)) (and? (between? 1 w e.waypoint) (entry? e.entry))

abbrev pub perimeter_exit? : (w : ℕ) (e : Exit) → Dec (GoodPerimeterExit w e)
perimeter_exit? w e = via (λ x. record { waypoint = x.0; x = x.1.0; y = x.1.1.0; z = x.1.1.1 }) (λ x. (x.waypoint, (x.x, (x.y, x.z))))
    (and? (between? 1 w e.waypoint) (and? (between? 1 largest e.entry.x) (and? (between? 1 largest e.entry.y) (between? 1 largest e.entry.z))))

-- ## Forms
abbrev pub counted : Form ℕ
counted = within (Between 1 largest) (between? 1 largest)

abbrev pub upto : ℕ → Form ℕ
upto c = within (λ n. c + n ≤ largest) (λ n. le? (c + n) largest)

abbrev pub at_most : Form ℕ
at_most = within (λ n. n ≤ largest) (λ n. le? n largest)

-- how many spots: in an edition
abbrev pub enough? : (e : Edition) (n : ℕ) → Dec (Enough e n)
enough? march n = le? n largest
enough? december n = between? 1 largest n

abbrev pub spots_of : Edition → Form ℕ
spots_of e = within (Enough e) (enough? e)

abbrev pub the_number_of : ℕ → Form ℕ
the_number_of = only eq?

abbrev pub the_part_of : ℕ → ℕ → Form PartId
the_part_of m n = only part? (part_id m n)

abbrev pub the_point_of : ℕ → ℕ → ℕ → Form PointLine
the_point_of m n i = record {
  C = Position;
  line = λ p. record { id = point_id m n i; position = p };
  back = λ v. v.position;
  same = λ p. refl;
  Good = OnEarth;
  fits = λ v. and? (via (λ e j. record { id = e j; position = v.position }) (λ e. ap (λ (l : PointLine). l.id) e) (point? (point_id m n i) v.id)) (on_earth? v.position);
}

-- a point_id of part_id m.n by its number, permitted by a test of the number
abbrev pub own_stop_of : ℕ → ℕ → ℕ → Form PointId
own_stop_of m n w = record { C = ℕ; line = point_id m n; back = λ v. v.z; same = λ i. refl; Good = Between 1 w; fits = λ v. and? (point? (point_id m n v.z) v) (between? 1 w v.z) }

abbrev pub own_checkpoint_of : ℕ → ℕ → ℕ → ℕ → Form CheckpointLine
own_checkpoint_of m n first last = record {
  C = Checkpoint;
  line = the_checkpoint_of m n;
  back = λ v. record { waypoint = v.waypoint.z; number = v.number };
  same = λ c. refl;
  Good = GoodCheckpoint first last;
  fits = λ v. and? (via (λ e j. record { waypoint = e j; number = v.number }) (λ e. ap (λ (l : CheckpointLine). l.waypoint) e) (point? (point_id m n v.waypoint.z) v.waypoint)) (checkpoint? first last (record { waypoint = v.waypoint.z; number = v.number }));
}

abbrev pub own_exit_of : (ℕ → ℕ → (Good : Exit → Type 0) → ((e : Exit) → Dec (Good e)) → Form ExitLine)
own_exit_of m n Good d = record {
  C = Exit;
  line = the_exit_of m n;
  back = λ v. record { waypoint = v.waypoint.z; entry = v.entry };
  same = λ c. refl;
  Good = Good;
  fits = λ v. and? (via (λ e j. record { waypoint = e j; entry = v.entry }) (λ e. ap (λ (l : ExitLine). l.waypoint) e) (point? (point_id m n v.waypoint.z) v.waypoint)) (d (record { waypoint = v.waypoint.z; entry = v.entry }));
}

-- ## The options of each part. N: what a name is
module _ (N : Type 0) where
  -- ## The options of each part_id
  abbrev pub Row : Type 1
  Row = List (Choice Kind (Says N))

  abbrev pub single : (k : Kind) → Form (Says N k) → Choice Kind (Says N)
  single k F = record { on = k; once = true; form = F }

  abbrev pub repeated : (k : Kind) → Form (Says N k) → Choice Kind (Says N)
  repeated k F = record { on = k; once = false; form = F }

  abbrev pub file_row_of : Row
  file_row_of = single format_version_of (free N) ∷ single creation_date_of (free N) ∷ []

  abbrev pub segment_row_of : Row
  segment_row_of = single segment_name_of (free N) ∷ []

  abbrev pub zone_row_of : Row
  zone_row_of = single zone_name_of (free N) ∷ []

  abbrev pub lane_row : ℕ → ℕ → ℕ → Row
  lane_row m n w =
      single lane_width_of at_most ∷ single left_boundary_of (free Boundary) ∷ single right_boundary_of (free Boundary)
      ∷ repeated checkpoint (own_checkpoint_of m n 1 w) ∷ repeated stop (own_stop_of m n w) ∷ repeated exit (own_exit_of m n (GoodExit w) (exit? w)) ∷ []

  abbrev pub perimeter_row : ℕ → ℕ → Row
  perimeter_row m p = repeated exit (own_exit_of m 0 (GoodPerimeterExit p) (perimeter_exit? p)) ∷ []

  abbrev pub spot_row_of : ℕ → ℕ → Row
  spot_row_of m n = single spot_width_of counted ∷ single checkpoint (own_checkpoint_of m n 2 2) ∷ []
