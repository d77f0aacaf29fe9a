-- WHAT A READER MUST BELIEVE. What an RNDF and an MDF say, which values are permitted, and how they are spelled: the lines of each part, and what a text spells. Document 01, "Lines, comments, fields", "The order of an RNDF", "The order of an MDF"; document 02, L10: the editions. Assumes nothing.
use Rattle.std.specs.Prelude.{◌≡◌, ◌∷◌, ◌++◌, ◌+◌, ◌≤◌, ◌<◌}
use Rattle.terms.specs.Words.{List, [], map, Option, Bool, ℕ, suc, String, length, ℤ, nat_abs, Bytes, ascii, Each, Among, perhaps, Between, InTurn}
use Rattle.scan.specs.Allowed.{separates}
use Rattle.line.specs.Line.{Cut, Ended, Field, Content}
use Rattle.number.specs.Decimal.{decimal}
use Rattle.coordinate.specs.Spelling.{SpellsCoordinate}

-- 01: "each of `double_yellow`, `solid_yellow`, `solid_white`, `broken_white`"
pub data Boundary : Type 0 where
  double_yellow_of solid_yellow_of solid_white_of broken_white_of : Boundary

-- ## Editions. L10: "State the common grammar once over the edition". The present one, 01: ""Source 004" is the RNDF and MDF format document of March 14, 2007"; the older one, L10: "as it stood on December 6, 2006 .. the rest we read by the present rules"
pub data Edition : Type 0 where
  march_2007 december_2006 : Edition

-- which boundaries there are. 01: "each of `double_yellow`, `solid_yellow`, `solid_white`, `broken_white`"; L10: "`solid_yellow` was not yet a boundary"
abbrev pub boundaries : Edition → List Boundary
boundaries march_2007 = double_yellow_of ∷ solid_yellow_of ∷ solid_white_of ∷ broken_white_of ∷ []
boundaries december_2006 = double_yellow_of ∷ solid_white_of ∷ broken_white_of ∷ []

-- how few spots a zone may have. 01: "`num_spots` ≥ 0"; L10: "the note of February 20 is what allowed a zone without spots"
abbrev pub fewest_spots : Edition → ℕ
fewest_spots march_2007 = 0
fewest_spots december_2006 = 1

-- ## What is said
-- 01: "**Identifiers**: integers joined by dots": x.y.z
pub record PointId : Type 0 where
  pub x : ℕ
  pub y : ℕ
  pub z : ℕ

-- 01: "Its value is a signed count of millionths of a degree"
pub record Position : Type 0 where
  pub latitude : ℤ
  pub longitude : ℤ

-- 01: "**Integer**: 1 to 5 digits ..; at most 32,768."
abbrev pub largest : ℕ
largest = 32768

-- 01: "`checkpoint` waypoint number": the waypoint is the i-th of its lane or spot
pub record Checkpoint : Type 0 where
  pub waypoint : ℕ
  pub number : ℕ

-- 01: "`exit` waypoint entry": the waypoint is the i-th of its lane or perimeter
pub record Exit : Type 0 where
  pub waypoint : ℕ
  pub entry : PointId

pub record Lane : Type 0 where
  pub width : Option ℕ
  pub left : Option Boundary
  pub right : Option Boundary
  pub checkpoints : List Checkpoint
  pub stops : List ℕ
  pub exits : List Exit
  pub points : List Position

-- N: what stands for a name: its field, with its place, while a text is read; its bytes in a network (Same). 01: "A network or mission is its tables with each name's bytes in place of start and length."
pub record Segment (N : Type 0) : Type 0 where
  pub name : Option N
  pub lanes : List Lane

pub record Spot : Type 0 where
  pub width : Option ℕ
  pub checkpoint : Option Checkpoint
  pub first : Position
  pub second : Position

pub record Perimeter : Type 0 where
  pub exits : List Exit
  pub points : List Position

pub record Zone (N : Type 0) : Type 0 where
  pub name : Option N
  pub border : Perimeter
  pub spots : List Spot

pub record Network (N : Type 0) : Type 0 where
  pub name : N
  pub version : Option N
  pub date : Option N
  pub segments : List (Segment N)
  pub zones : List (Zone N)

-- ## What is permitted
-- 01: "latitude -90,000,000 to 90,000,000, longitude -180,000,000 to 180,000,000"
pub record OnEarth (p : Position) : Type 0 where
  pub latitude : nat_abs p.latitude ≤ 90000000
  pub longitude : nat_abs p.longitude ≤ 180000000

-- 01: "The waypoint named by a checkpoint or stop .. is one of this lane", or of a spot those from `first` to `last`; "Checkpoint numbers are > 0"
pub record GoodCheckpoint (first last : ℕ) (c : Checkpoint) : Type 0 where
  pub waypoint : Between first last c.waypoint
  pub number : Between 1 largest c.number

-- 01: "the first of an exit, is one of this lane", which has w; "The entry is any point identifier x.y.z with x, z > 0"; a perimeter's "with all three > 0": y from `low` on
pub record GoodExit (low w : ℕ) (e : Exit) : Type 0 where
  pub waypoint : Between 1 w e.waypoint
  pub x : Between 1 largest e.entry.x
  pub y : Between low largest e.entry.y
  pub z : Between 1 largest e.entry.z

-- 01: "`num_waypoints` > 0"; "`lane_width` ≥ 0 (feet)"
pub record GoodLane (a : Lane) : Type 0 where
  pub count : Between 1 largest (length a.points)
  pub points : Each OnEarth a.points
  pub width : Each (λ w. w ≤ largest) (perhaps a.width)
  pub checkpoints : Each (GoodCheckpoint 1 (length a.points)) a.checkpoints
  pub stops : Each (Between 1 (length a.points)) a.stops
  pub exits : Each (GoodExit 0 (length a.points)) a.exits

-- 01: "`spot_width` > 0 (feet) and one `checkpoint`"; L8: "9 for a spot's checkpoint on waypoint 1": it is on waypoint 2
pub record GoodSpot (a : Spot) : Type 0 where
  pub width : Each (Between 1 largest) (perhaps a.width)
  pub checkpoint : Each (GoodCheckpoint 2 2) (perhaps a.checkpoint)
  pub first : OnEarth a.first
  pub second : OnEarth a.second

-- 01: "`num_perimeterpoints` > 0"
pub record GoodPerimeter (a : Perimeter) : Type 0 where
  pub count : Between 1 largest (length a.points)
  pub points : Each OnEarth a.points
  pub exits : Each (GoodExit 1 (length a.points)) a.exits

-- 01: "lines id > 0, minimum, maximum (miles per hour)"
pub record Limit : Type 0 where
  pub id : ℕ
  pub minimum : ℕ
  pub maximum : ℕ

pub record Mission (N : Type 0) : Type 0 where
  pub name : N
  pub rndf : N
  pub version : Option N
  pub date : Option N
  pub goals : List ℕ
  pub limits : List Limit

-- 01: "id > 0, minimum, maximum (miles per hour)"; L1: "0 means undefined, for either figure, so minimum above maximum is a fault only where the maximum is not 0"
pub record GoodLimit (a : Limit) : Type 0 where
  pub id : Between 1 largest a.id
  pub minimum : a.minimum ≤ largest
  pub maximum : a.maximum ≤ largest
  pub in_order : 0 < a.maximum → a.minimum ≤ a.maximum

-- 01: "`num_checkpoints` > 0; so many numbers > 0"; "`num_speed_limits` > 0; so many lines"; "A goal may come again."
pub record GoodMission {N : Type 0} (a : Mission N) : Type 0 where
  pub some_goals : Between 1 largest (length a.goals)
  pub goals : Each (Between 1 largest) a.goals
  pub some_limits : Between 1 largest (length a.limits)
  pub limits : Each GoodLimit a.limits

-- ## Fields
-- a keyword; a name, with its place; a number, or numbers joined by dots; a latitude or longitude; a boundary
pub data Said : Type 0 where
  word : Bytes → Said
  name : Field → Said
  numbers : List ℕ → Said
  coordinate : ℤ → Said
  boundary : Boundary → Said

abbrev pub Line : Type 0
Line = List Said

-- 01: "each of `double_yellow`, `solid_yellow`, `solid_white`, `broken_white`"
abbrev pub boundary_word_of : Boundary → Bytes
boundary_word_of double_yellow_of = ascii "double_yellow"
boundary_word_of solid_yellow_of = ascii "solid_yellow"
boundary_word_of solid_white_of = ascii "solid_white"
boundary_word_of broken_white_of = ascii "broken_white"

-- 01: "**Identifiers**: integers joined by dots"
abbrev pub dotted : List ℕ → Bytes
dotted [] = []
dotted (n ∷ []) = decimal n
dotted (m ∷ n ∷ l) = decimal m ++ (ascii "." ++ dotted (n ∷ l))

module _ (edition : Edition) where
  -- 01: "a keyword of that file, byte for byte"; "**Name**: 1 to 128 bytes"; "**Integer**: 1 to 5 digits, no leading zero but `0` itself"; L10: "in the older edition 8 for `solid_yellow`"
  abbrev pub SpellsField : Field → Said → Type 0
  SpellsField f (word w) = f.bytes ≡ w
  SpellsField f (name g) = (f ≡ g) × Between 1 128 (length f.bytes)
  SpellsField f (numbers l) = (f.bytes ≡ dotted l) × Each (λ n. n ≤ 99999) l
  SpellsField f (coordinate z) = SpellsCoordinate f.bytes z
  SpellsField f (boundary b) = (f.bytes ≡ boundary_word_of b) × Among b (boundaries edition)

  -- fields, one for one
  abbrev pub SpellFields : List Field → Line → Type 0
  SpellFields [] [] = Unit {0}
  SpellFields [] (s ∷ said) = ⊥
  SpellFields (f ∷ fields) [] = ⊥
  SpellFields (f ∷ fields) (s ∷ said) = SpellsField f s × SpellFields fields said

-- ## Options. Each list: all that a part has of one option, in file order
-- two lists mixed, each in its own order
pub data Mixed {A : Type 0} : (l r both : List A) → Type 0 where
  none : Mixed [] [] []
  left : {a : A} {l r both : List A} → Mixed l r both → Mixed (a ∷ l) r (a ∷ both)
  right : {a : A} {l r both : List A} → Mixed l r both → Mixed l (a ∷ r) (a ∷ both)

-- 01: "Options come in any order before the first point (or lane, segment, perimeter)."
abbrev pub AnyOrder : {A : Type 0} → List (List A) → List A → Type 0
AnyOrder [] options = options ≡ []
AnyOrder {A} (l ∷ ls) options = (rest : List A) × AnyOrder ls rest × Mixed l rest options

-- ## Rules: all that may differ from one reading of this law to another
pub record Rules : Type 1 where
  -- which bytes separate fields
  pub separates : ℕ → Bool
  -- how the options of a part may stand: in any order, or, in the house writing, as listed
  pub Options : List (List Line) → List Line → Type 0
  -- how many checkpoints a spot has at least. L8: "From now on it is a rule": 1
  pub spot_checkpoints : ℕ
  -- L10: "The caller says which edition."
  pub edition : Edition

-- the rules of document 01, as the requests have it, in an edition. L10: "the rest we read by the present rules, L8 included"
abbrev pub reading : Edition → Rules
reading edition = record { separates = separates; Options = AnyOrder; spot_checkpoints = 1; edition = edition }

-- in the present edition, that of March 14, 2007
abbrev pub present : Rules
present = reading march_2007

-- the same but for L8: 2 to 9 are told as if a spot could be without its checkpoint
abbrev pub lenient : Rules → Rules
lenient rules = record { separates = rules.separates; Options = rules.Options; spot_checkpoints = 0; edition = rules.edition }

-- ## Lines of an RNDF
-- a keyword and what stands behind it
abbrev pub line : String → Line → Line
line w fields = word (ascii w) ∷ fields

-- 01: "`checkpoint` waypoint number", "`exit` waypoint entry" of the part m.n
abbrev pub checkpoint_line_of : (m n : ℕ) → Checkpoint → Line
checkpoint_line_of m n c = line "checkpoint" (numbers (m ∷ n ∷ c.waypoint ∷ []) ∷ numbers (c.number ∷ []) ∷ [])

abbrev pub exit_line : (m n : ℕ) → Exit → Line
exit_line m n e = line "exit" (numbers (m ∷ n ∷ e.waypoint ∷ []) ∷ numbers (e.entry.x ∷ e.entry.y ∷ e.entry.z ∷ []) ∷ [])

-- 01: "waypoints m.n.1, m.n.2, .. each with latitude and longitude": from the i-th on
unfoldable pub points : (m n i : ℕ) → List Position → List Line
points m n i [] = []
points m n i (p ∷ ps) = (numbers (m ∷ n ∷ i ∷ []) ∷ coordinate p.latitude ∷ coordinate p.longitude ∷ []) ∷ points m n (suc i) ps

-- ## Options of lanes, spots and files, in the order in which document 01 lists them. 01: "Only `checkpoint` and `stop` in a lane, and `exit` in a lane or perimeter, may repeat there; equal repeats of `stop` and `exit` are kept."; "one waypoint may have several"
abbrev pub lane_options : (m n : ℕ) → Lane → List (List Line)
lane_options m n a =
    map (λ w. line "lane_width" (numbers (w ∷ []) ∷ [])) (perhaps a.width) ∷ map (λ b. line "left_boundary" (boundary b ∷ [])) (perhaps a.left) ∷ map (λ b. line "right_boundary" (boundary b ∷ [])) (perhaps a.right)
    ∷ map (checkpoint_line_of m n) a.checkpoints ∷ map (λ i. line "stop" (numbers (m ∷ n ∷ i ∷ []) ∷ [])) a.stops ∷ map (exit_line m n) a.exits ∷ []

abbrev pub spot_options : (m n : ℕ) → Spot → List (List Line)
spot_options m n a = map (λ w. line "spot_width" (numbers (w ∷ []) ∷ [])) (perhaps a.width) ∷ map (checkpoint_line_of m n) (perhaps a.checkpoint) ∷ []

abbrev pub file_options : (version date : Option Field) → List (List Line)
file_options version date = map (λ v. line "format_version" (name v ∷ [])) (perhaps version) ∷ map (λ v. line "creation_date" (name v ∷ [])) (perhaps date) ∷ []

-- ## The parts of an RNDF
module _ (rules : Rules) where
  -- 01: "Lane: `lane` m.n; `num_waypoints` > 0; options; waypoints m.n.1, m.n.2, ..; `end_lane`"
  pub record SpellsLane (m n : ℕ) (a : Lane) (l : List Line) : Type 0 where
    pub options : List Line
    pub given : rules.Options (lane_options m n a) options
    pub good : GoodLane a
    pub spelled : l ≡ line "lane" (numbers (m ∷ n ∷ []) ∷ []) ∷ line "num_waypoints" (numbers (length a.points ∷ []) ∷ []) ∷ options ++ (points m n 1 a.points ++ (line "end_lane" [] ∷ []))

  -- 01: "Segment: `segment` id; `num_lanes` > 0; option `segment_name`; lanes 1, 2, ..; `end_segment`"
  pub record SpellsSegment (m : ℕ) (a : Segment Field) (l : List Line) : Type 0 where
    pub lanes : List Line
    pub count : Between 1 largest (length a.lanes)
    pub each : InTurn (SpellsLane m) 1 a.lanes lanes
    pub spelled : l ≡ line "segment" (numbers (m ∷ []) ∷ []) ∷ line "num_lanes" (numbers (length a.lanes ∷ []) ∷ []) ∷ map (λ v. line "segment_name" (name v ∷ [])) (perhaps a.name) ++ (lanes ++ (line "end_segment" [] ∷ []))

  -- 01: "Perimeter: `perimeter` m.0; `num_perimeterpoints` > 0; any number of `exit` ..; points m.0.1, ..; `end_perimeter`"
  pub record SpellsPerimeter (m : ℕ) (a : Perimeter) (l : List Line) : Type 0 where
    pub good : GoodPerimeter a
    pub spelled : l ≡ line "perimeter" (numbers (m ∷ 0 ∷ []) ∷ []) ∷ line "num_perimeterpoints" (numbers (length a.points ∷ []) ∷ []) ∷ map (exit_line m 0) a.exits ++ (points m 0 1 a.points ++ (line "end_perimeter" [] ∷ []))

  -- 01: "Spot: `spot` m.n; options ..; two waypoints; `end_spot`"; L8: "A spot must have its checkpoint."
  pub record SpellsSpot (m n : ℕ) (a : Spot) (l : List Line) : Type 0 where
    pub options : List Line
    pub given : rules.Options (spot_options m n a) options
    pub good : GoodSpot a
    pub marked : rules.spot_checkpoints ≤ length (perhaps a.checkpoint)
    pub spelled : l ≡ line "spot" (numbers (m ∷ n ∷ []) ∷ []) ∷ options ++ (points m n 1 (a.first ∷ a.second ∷ []) ++ (line "end_spot" [] ∷ []))

  -- 01: "Zone: `zone` id; `num_spots` ≥ 0" (L10: "9 for 0 spots" in the older edition); "option `zone_name`; the perimeter; spots 1, 2, ..; `end_zone`"
  pub record SpellsZone (m : ℕ) (a : Zone Field) (l : List Line) : Type 0 where
    pub border : List Line
    pub spots : List Line
    pub count : Between (fewest_spots rules.edition) largest (length a.spots)
    pub bordered : SpellsPerimeter m a.border border
    pub each : InTurn (SpellsSpot m) 1 a.spots spots
    pub spelled : l ≡ line "zone" (numbers (m ∷ []) ∷ []) ∷ line "num_spots" (numbers (length a.spots ∷ []) ∷ []) ∷ map (λ v. line "zone_name" (name v ∷ [])) (perhaps a.name) ++ (border ++ (spots ++ (line "end_zone" [] ∷ [])))

  -- 01: "`RNDF_name` name; `num_segments` M > 0; `num_zones` N ≥ 0, with M + N ≤ 32,768; options ..; segments 1 to M; zones M+1 to M+N; `end_file`"
  pub record SpellsNetwork (a : Network Field) (l : List Line) : Type 0 where
    pub options : List Line
    pub segments : List Line
    pub zones : List Line
    pub given : rules.Options (file_options a.version a.date) options
    pub some-segment : 1 ≤ length a.segments
    pub count : length a.segments + length a.zones ≤ largest
    pub each_segment : InTurn SpellsSegment 1 a.segments segments
    pub each_zone : InTurn SpellsZone (suc (length a.segments)) a.zones zones
    pub spelled : l ≡ line "RNDF_name" (name a.name ∷ []) ∷ line "num_segments" (numbers (length a.segments ∷ []) ∷ []) ∷ line "num_zones" (numbers (length a.zones ∷ []) ∷ []) ∷ options ++ (segments ++ (zones ++ (line "end_file" [] ∷ [])))

-- ## Lines of an MDF
-- 01: "so many numbers > 0"; "so many lines id > 0, minimum, maximum"
abbrev pub goal_line_of : ℕ → Line
goal_line_of number = numbers (number ∷ []) ∷ []

abbrev pub limit_line : Limit → Line
limit_line a = numbers (a.id ∷ []) ∷ numbers (a.minimum ∷ []) ∷ numbers (a.maximum ∷ []) ∷ []

-- 01: "`MDF_name`; `RNDF` name; options ..; `checkpoints`; `num_checkpoints` > 0; so many numbers > 0; `end_checkpoints`; `speed_limits`; `num_speed_limits` > 0; so many lines ..; `end_speed_limits`; `end_file`"
pub record SpellsMission (rules : Rules) (a : Mission Field) (l : List Line) : Type 0 where
  pub options : List Line
  pub given : rules.Options (file_options a.version a.date) options
  pub good : GoodMission a
  pub spelled : l ≡ line "MDF_name" (name a.name ∷ []) ∷ line "RNDF" (name a.rndf ∷ []) ∷ options
      ++ (line "checkpoints" [] ∷ line "num_checkpoints" (numbers (length a.goals ∷ []) ∷ []) ∷ map goal_line_of a.goals
      ++ (line "end_checkpoints" [] ∷ line "speed_limits" [] ∷ line "num_speed_limits" (numbers (length a.limits ∷ []) ∷ []) ∷ map limit_line a.limits
      ++ (line "end_speed_limits" [] ∷ line "end_file" [] ∷ [])))

-- ## Texts
module _ (rules : Rules) where
  -- a line of a text, which starts at this place of it, and what its fields say
  pub record Says (start : ℕ) (line : Bytes) (said : Line) : Type 0 where
    pub content : Bytes
    pub fields : List Field
    pub ended : Ended line content
    pub fielded : Content rules.separates start content fields
    pub spelled : SpellFields rules.edition fields said

  -- lines one behind the other, the first of which starts at this place, and what they say. 01: "A line without fields is blank and may stand anywhere"
  pub data SayLines : ℕ → List Bytes → List Line → Type 0 where
    done : {start : ℕ} → SayLines start [] []
    blank : {start : ℕ} {line : Bytes} {lines : List Bytes} {l : List Line} → Says start line [] → SayLines (start + suc (length line)) lines l → SayLines start (line ∷ lines) l
    statement : {start : ℕ} {line : Bytes} {lines : List Bytes} {s : Said} {said : Line} {l : List Line} → Says start line (s ∷ said) → SayLines (start + suc (length line)) lines l → SayLines start (line ∷ lines) ((s ∷ said) ∷ l)

  -- a text whose lines spell this. 01: ""Well-formed" means spelled by the grammar, entries still as identifiers and 12 to 18 left aside"
  pub record SpellsText {Net : Type 0} (Spells : Rules → Net → List Line → Type 0) (n : Net) (text : Bytes) : Type 0 where
    pub lines : List Bytes
    pub said : List Line
    pub cut : Cut text lines
    pub each : SayLines 0 lines said
    pub net : Spells rules n said
