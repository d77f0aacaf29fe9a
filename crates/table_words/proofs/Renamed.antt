-- Names told in another way: the tables of a network, or of a mission, are its tables with the names so told, and have the same words where start and length are the same. Assumes nothing.
use mathlib.Core.Path.{◌≡◌, refl, sym, ap, ap₂, subst, ◌∙◌, fun_ext}
use mathlib.Core.List.{List, [], ◌∷◌, ◌++◌, map}
use mathlib.Core.Option.{Option, none, some}
use Prim.Native.Nat.{ℕ, zero, suc, pred, ◌+◌, ◌-◌}
use lib.ListN.{length, length-map, get_or}
use Rattle.grammar.specs.Statements.{PointId, Position}
use Rattle.grammar.specs.Network.{Lane, Segment, Zone, Network}
use Rattle.grammar.specs.Mission.{Mission}
use Rattle.grammar.specs.Names.{perhaps_name, segment_named_of, zone_named_of, network_named, mission_named}
use Rattle.grammar.specs.Tables.{SegmentRow, LaneRow, ZoneRow, CheckpointRow, ExitRow, FileRow, Tables, MissionTables, gather, along, lane_size, lane_row, the_spot_row_of, checkpoint_row, spot_checkpoint, exit_row, the_row_of, the_no_lane_of, the_no_segment_of, the_no_zone_of, all_lanes, zone_points, zone_size, first_zone_point, the_file_row_of, the_segment_row_of, segment_rows, lane_rows_of, the_zone_row_of, zone_rows_from, zone_rows, over_spots, part_row_of, point_row_of, tables_with, tables, mission_tables}
use Rattle.fill.specs.Counts.{Counts, sizes}
use Rattle.fill.proofs.RowLaws.{gather-moved}
use Rattle.fill.proofs.NameLaws.{lanes-same}
use Rattle.line.specs.Content.{Field}
use Rattle.statement.specs.Meaning.{Stretch}
use Rattle.made_out.specs.Names.{the_the_stretch_of}
use Rattle.table_words.specs.Words.{Lent, MissionLent, HasRoom, name_words, the_segment_words_of, the_zone_words_of, filled, mission_filled, network_filled}
use Rattle.table_words.specs.Named.{file_row_named, segment_row_named, zone_row_named, tables_named, mission_tables_named}
use Rattle.table_words.specs.FileRows.{shown_name, shown_file, shown_mission_file, network_file, mission_file_of}
use Rattle.table_words.proofs.Shown.{table-shown}
use Rattle.table_words.proofs.Filled.{stored, stored-filled}

-- ## Lists
get_d_map : {A B : Type 0} (g : A → B) (l : List A) (i : ℕ) (d : A) → get_or (map g l) i (g d) ≡ g (get_or l i d)
get_d_map g [] i d = refl
get_d_map g (a ∷ l) zero d = refl
get_d_map g (a ∷ l) (suc i) d = get_d_map g l i d

along-moved : {A A' B : Type 0} (g : A → A') (size : A → ℕ) (size' : A' → ℕ) (F : ℕ → A → List B) (F' : ℕ → A' → List B) → ((a : A) → size' (g a) ≡ size a) → ((p : ℕ) (a : A) → F' p (g a) ≡ F p a)
    → (p : ℕ) (l : List A) → along size' F' p (map g l) ≡ along size F p l
along-moved g size size' F F' s e p [] = refl
along-moved {B = B} g size size' F F' s e p (a ∷ l) = ap₂ (λ (x y : List B). x ++ y) (e p a) (ap (λ (k : ℕ). along size' F' (p + k) (map g l)) (s a) ∙ along-moved g size size' F F' s e (p + size a) l)

module _ {N M : Type 0} (f : N → M) where
  -- ## The tables of a network
  segments-moved : (p : ℕ) (l : List (Segment N)) → along (λ s. length s.lanes) (λ first s. the_segment_row_of first s ∷ []) p (map (segment_named_of f) l) ≡ map (segment_row_named f) (along (λ s. length s.lanes) (λ first s. the_segment_row_of first s ∷ []) p l)
  segments-moved p [] = refl
  segments-moved p (s ∷ l) = ap (◌∷◌ (segment_row_named f (the_segment_row_of p s))) (segments-moved (p + length s.lanes) l)

  zones-moved : (p q : ℕ) (l : List (Zone N)) → zone_rows_from p q (map (zone_named_of f) l) ≡ map (zone_row_named f) (zone_rows_from p q l)
  zones-moved p q [] = refl
  zones-moved p q (z ∷ l) = ap (◌∷◌ (zone_row_named f (the_zone_row_of p q z))) (zones-moved (p + zone_size z) (q + length z.spots) l)

  module _ (n : Network N) where
    first-same : first_zone_point (network_named f n) ≡ first_zone_point n
    first-same = ap (λ (l : List Lane). length (gather (λ a. a.points) l)) (lanes-same f n)

    segments-named : segment_rows (network_named f n) ≡ map (segment_row_named f) (segment_rows n)
    unfolding network_named
    segments-named = segments-moved 0 n.segments

    lanes-named : lane_rows_of (network_named f n) ≡ lane_rows_of n
    lanes-named = ap (λ (l : List Lane). along lane_size (λ first a. lane_row first a ∷ []) 0 l) (lanes-same f n)

    zones-named : zone_rows (network_named f n) ≡ map (zone_row_named f) (zone_rows n)
    unfolding network_named
    zones-named = ap (λ (p : ℕ). zone_rows_from p 0 (map (zone_named_of f) n.zones)) first-same ∙ zones-moved (first_zone_point n) 0 n.zones

    -- what the zones give
    over-zones : {B : Type 0} (F : ℕ → Zone N → List B) (F' : ℕ → Zone M → List B) → ((p : ℕ) (z : Zone N) → F' p (zone_named_of f z) ≡ F p z)
        → along zone_size F' (first_zone_point (network_named f n)) (network_named f n).zones ≡ along zone_size F (first_zone_point n) n.zones
    unfolding network_named
    over-zones F F' e = ap (λ (p : ℕ). along zone_size F' p (map (zone_named_of f) n.zones)) first-same ∙ along-moved (zone_named_of f) zone_size zone_size F F' (λ z. refl) e (first_zone_point n) n.zones

    -- and the lanes
    over-lanes : {B : Type 0} (F : ℕ → Lane → List B) → along lane_size F 0 (all_lanes (network_named f n)) ≡ along lane_size F 0 (all_lanes n)
    over-lanes F = ap (λ (l : List Lane). along lane_size F 0 l) (lanes-same f n)

    pub tables-with-named : {E : Type 0} (g : PointId → E) → tables_with g (network_named f n) ≡ tables_named f (tables_with g n)
    unfolding tables_with network_named
    tables-with-named {E} g =
        let spots = over-zones (over_spots (λ first s. the_spot_row_of first s ∷ [])) (over_spots (λ first s. the_spot_row_of first s ∷ [])) (λ p z. refl) in
        let points = ap₂ (λ (x y : List Position). x ++ y) (ap (λ (l : List Lane). gather (λ a. a.points) l) (lanes-same f n)) (gather-moved (zone_named_of f) zone_points zone_points (λ z. refl) n.zones) in
        let checkpoints = ap₂ (λ (x y : List CheckpointRow). x ++ y) (over-lanes (λ first a. map (checkpoint_row first) a.checkpoints))
        (over-zones (over_spots (λ first s. spot_checkpoint first s.checkpoint)) (over_spots (λ first s. spot_checkpoint first s.checkpoint)) (λ p z. refl)) in
        let stops = over-lanes (λ first a. map (the_row_of first) a.stops) in
        let exits = ap₂ (λ (x y : List (ExitRow E)). x ++ y) (over-lanes (λ first a. map (exit_row g first) a.exits))
        (over-zones (λ first z. map (exit_row g first) z.border.exits) (λ first z. map (exit_row g first) z.border.exits) (λ p z. refl)) in
        λ i. record {
          file = file_row_named f (the_file_row_of n);
          segments = segments-named i;
          lanes = lanes-named i;
          zones = zones-named i;
          spots = spots i;
          points = points i;
          checkpoints = checkpoints i;
          stops = stops i;
          exits = exits i;
        }

    -- an entry is the same point
    part_same : (x y : ℕ) → part_row_of (network_named f n) x y ≡ part_row_of n x y
    unfolding network_named
    part_same x zero =
        ap₂ (λ (zs : List (ZoneRow M)) (k : ℕ). (get_or zs (pred (x - k)) the_no_zone_of).first_point_of) zones-named (length-map n.segments (segment_named_of f))
        ∙ ap (λ (r : ZoneRow M). r.first_point_of) (get_d_map (zone_row_named f) (zone_rows n) (pred (x - length n.segments)) the_no_zone_of)
    part_same x (suc y) =
        ap₂ (λ (ls : List LaneRow) (ss : List (SegmentRow M)). (get_or ls ((get_or ss (pred x) the_no_segment_of).first_lane + y) the_no_lane_of).first_point_of) lanes-named segments-named
        ∙ ap (λ (r : SegmentRow M). (get_or (lane_rows_of n) (r.first_lane + y) the_no_lane_of).first_point_of) (get_d_map (segment_row_named f) (segment_rows n) (pred x) the_no_segment_of)

    pub point-same : (e : PointId) → point_row_of (network_named f n) e ≡ point_row_of n e
    point-same e = ap (λ (p : ℕ). the_row_of p e.z) (part_same e.x e.y)

    -- THE LAW
    pub tables-renamed : tables (network_named f n) ≡ tables_named f (tables n)
    tables-renamed = ap (λ (g : PointId → ℕ). tables_with g (network_named f n)) (fun_ext point-same) ∙ tables-with-named (point_row_of n)

  pub mission-tables-renamed : (m : Mission N) → mission_tables (mission_named f m) ≡ mission_tables_named f (mission_tables m)
  unfolding mission_named
  mission-tables-renamed m = refl

  -- as many rows
  pub sizes-named : {E : Type 0} (t : Tables N E) → sizes (tables_named f t) ≡ sizes t
  sizes-named t =
      let segments = length-map t.segments (segment_row_named f) in
      let zones = length-map t.zones (zone_row_named f) in
      let c = sizes t in
      λ i. record { segments = segments i; lanes = c.lanes; zones = zones i; spots = c.spots; points = c.points; checkpoints = c.checkpoints; stops = c.stops; exits = c.exits }

  -- ## Words: the start and the length of a name are those of the name as it is told
  module _ (start len : M → ℕ) where
    name-kept : (name : Option N) → name_words start len (perhaps_name f name) ≡ name_words (λ a. start (f a)) (λ a. len (f a)) name
    name-kept none = refl
    name-kept (some a) = refl

    pub filled-named : (t : Tables N ℕ) (lent : Lent) → filled start len (tables_named f t) lent ≡ filled (λ a. start (f a)) (λ a. len (f a)) t lent
    filled-named t lent =
        let w = filled (λ a. start (f a)) (λ a. len (f a)) t lent in
        let segments = table-shown (segment_row_named f) (the_segment_words_of start len) (the_segment_words_of (λ a. start (f a)) (λ a. len (f a)))
        (λ r. ap (λ (name : List ℕ). r.first_lane ∷ r.lanes ∷ name) (name-kept r.name)) 0 (length lent.segments) t.segments in
        let zones = table-shown (zone_row_named f) (the_zone_words_of start len) (the_zone_words_of (λ a. start (f a)) (λ a. len (f a)))
        (λ r. ap (λ (name : List ℕ). r.first_point_of ∷ r.points ∷ r.first_spot_of ∷ r.spots ∷ name) (name-kept r.name)) 0 (length lent.zones) t.zones in
        λ i. record { segments = segments i; lanes = w.lanes; zones = zones i; spots = w.spots; points = w.points; checkpoints = w.checkpoints; stops = w.stops; exits = w.exits }

    -- the file's own row
    shown-kept : (name : Option N) → shown_name start len (perhaps_name f name) ≡ shown_name (λ a. start (f a)) (λ a. len (f a)) name
    shown-kept none = refl
    shown-kept (some a) = refl

    pub file-kept : (r : FileRow N) → shown_file start len (file_row_named f r) ≡ shown_file (λ a. start (f a)) (λ a. len (f a)) r
    file-kept r = let a = shown-kept r.version in let b = shown-kept r.date in λ i. record { name = (shown_file start len (file_row_named f r)).name; version = a i; date = b i }

    pub mission-file-kept : (m : MissionTables N) → shown_mission_file start len (mission_tables_named f m).file ≡ shown_mission_file (λ a. start (f a)) (λ a. len (f a)) m.file
    mission-file-kept m =
        let w = shown_mission_file start len (mission_tables_named f m).file in
        let a = shown-kept m.file.version in
        let b = shown-kept m.file.date in
        λ i. record { name = w.name; rndf = w.rndf; version = a i; date = b i }

-- ## Fields of a text, and their stretches
-- THE LAW: the words of what was read by start and length are the words of the network whose names are fields of the text
pub stretches-filled : (n : Network Field) (lent : Lent) → filled (λ s. s.start) (λ s. s.length) (tables (network_named the_the_stretch_of n)) lent ≡ network_filled n lent
stretches-filled n lent = ap (λ (t : Tables Stretch ℕ). filled (λ s. s.start) (λ s. s.length) t lent) (tables-renamed the_the_stretch_of n) ∙ filled-named the_the_stretch_of (λ s. s.start) (λ s. s.length) (tables n) lent

-- so rows stored one by one by start and length leave these words, where there is room for the network's rows
pub stretches-sizes : (n : Network Field) → sizes (tables (network_named the_the_stretch_of n)) ≡ sizes (tables n)
stretches-sizes n = ap (λ (t : Tables Stretch ℕ). sizes t) (tables-renamed the_the_stretch_of n) ∙ sizes-named the_the_stretch_of (tables n)

pub stretches-stored : (n : Network Field) (lent : Lent) → HasRoom (sizes (tables n)) lent → stored (λ s. s.start) (λ s. s.length) (tables (network_named the_the_stretch_of n)) lent ≡ network_filled n lent
stretches-stored n lent room =
    stored-filled (λ s. s.start) (λ s. s.length) (tables (network_named the_the_stretch_of n)) lent (subst (λ (c : Counts). HasRoom c lent) (sym (stretches-sizes n)) room) ∙ stretches-filled n lent

pub stretches-mission-filled : (m : Mission Field) (lent : MissionLent) → mission_filled (mission_tables (mission_named the_the_stretch_of m)) lent ≡ mission_filled (mission_tables m) lent
stretches-mission-filled m lent = ap (λ (t : MissionTables Stretch). mission_filled t lent) (mission-tables-renamed the_the_stretch_of m)

-- so is the file's own row
pub stretches-file : (n : Network Field) → shown_file (λ s. s.start) (λ s. s.length) (the_file_row_of (network_named the_the_stretch_of n)) ≡ network_file n
unfolding network_named
stretches-file n = file-kept the_the_stretch_of (λ s. s.start) (λ s. s.length) (the_file_row_of n)

pub stretches-mission-file : (m : Mission Field) → shown_mission_file (λ s. s.start) (λ s. s.length) (mission_tables (mission_named the_the_stretch_of m)).file ≡ mission_file_of m
unfolding mission_named
stretches-mission-file m = mission-file-kept the_the_stretch_of (λ s. s.start) (λ s. s.length) (mission_tables m)
