-- WHAT A READER MUST BELIEVE. What is wrong with a text: one definition for each number 2 to 10, 12 to 18 and 25. Document 01, "Refusal numbers". Assumes nothing.
use Rattle.std.specs.Prelude.{◌≡◌, ◌∷◌, ◌++◌, ◌+◌, ◌<◌}
use Rattle.terms.specs.Words.{List, [], map, ℕ, suc, code, length, Bytes, ascii, Each, Among, perhaps, Between}
use Rattle.line.specs.Line.{Cut, Ended, Field, Content, FormFault}
use Rattle.law.specs.Network.{Edition, PointId, Checkpoint, Exit, Lane, Segment, Zone, Limit, Network, Mission, Rules, lenient, Said, Line, word, name, numbers, coordinate, boundary, SpellsField, SpellFields, checkpoint_line_of, exit_line, goal_line_of, limit_line, SayLines, SpellsText}
use Rattle.law.specs.Network as Law
use Rattle.law.specs.Tables.{gather, all_lanes}

-- ## 2 to 9 and 25: what is wrong with a line behind others. None of these holds where a lower number does
-- 01: "field not of its kind": the kinds of fields. Each keyword is one, and so many numbers joined by dots. Yard A's line 8, `checkpoint>1.1.2>7`: that keyword, three numbers, one number
pub data FieldKind : Type 0 where
  this_word : Bytes → FieldKind
  some_numbers : ℕ → FieldKind
  a_name a_coordinate a_boundary : FieldKind

abbrev pub kind_of_field : Said → FieldKind
kind_of_field (word w) = this_word w
kind_of_field (name v) = a_name
kind_of_field (numbers l) = some_numbers (length l)
kind_of_field (coordinate z) = a_coordinate
kind_of_field (boundary b) = a_boundary

-- g is the first field that is not of its kind, where fields of these kinds are due: `1.1`, if yard A's line 8 is `checkpoint>1.1>seven`
pub data FirstMisspelt (edition : Edition) : (fields : List Field) (due : List FieldKind) (g : Field) → Type 0 where
  here : {g : Field} {fs : List Field} {k : FieldKind} {ks : List FieldKind} → ((s : Said) → kind_of_field s ≡ k → SpellsField edition g s → ⊥) → FirstMisspelt edition (g ∷ fs) (k ∷ ks) g
  further : {f g : Field} {fs : List Field} {k : FieldKind} {ks : List FieldKind} (s : Said) → kind_of_field s ≡ k → SpellsField edition f s → FirstMisspelt edition fs ks g → FirstMisspelt edition (f ∷ fs) (k ∷ ks) g

-- 01: "A first field that begins with a digit makes a point line in an RNDF and, by its place, a goal or limit line in an MDF"; "Any other first field is a keyword of that file, byte for byte"
pub data Opens (f : Field) : Line → Type 0 where
  keyword : {w : Bytes} {l : Line} → f.bytes ≡ w → Opens f (word w ∷ l)
  digit : {b : ℕ} {rest : Bytes} {i : List ℕ} {l : Line} → f.bytes ≡ b ∷ rest → Between (code "0") (code "9") b → Opens f (numbers i ∷ l)

-- 01, "The order of an RNDF", "The order of an MDF": the options (as in lane-options, spot-options, file-options; `segment_name`, `zone_name`); a line that gives one
abbrev pub options : List Bytes
options = ascii "format_version" ∷ ascii "creation_date" ∷ ascii "segment_name" ∷ ascii "lane_width" ∷ ascii "left_boundary" ∷ ascii "right_boundary" ∷ ascii "checkpoint" ∷ ascii "stop" ∷ ascii "exit" ∷ ascii "zone_name" ∷ ascii "spot_width" ∷ []

abbrev pub IsOption : Line → Type 0
IsOption line = (option : Bytes) × (others : Line) × (line ≡ word option ∷ others) × Among option options

-- the field opens an option that was given before, with only options since
abbrev pub GivenBefore : (before : List Line) (f : Field) → Type 0
GivenBefore before f = (earlier : List Line) × (given : Line) × (since : List Line) × (before ≡ earlier ++ (given ∷ since)) × Opens f given × Each IsOption (given ∷ since)

-- line i of a text, behind lines that say `front`
pub record LineAt (rules : Rules) (text : Bytes) (i : ℕ) (front : List Line) (this : Bytes) : Type 0 where
  pub before : List Bytes
  pub rest : List Bytes
  pub cut : Cut text (before ++ (this ∷ rest))
  -- 01: "Lines count from 1."
  pub number : i ≡ suc (length before)
  pub said : SayLines rules 0 before front

-- lines that spell a network, or a mission, begin with these. What those to come say need not fit into a field (a name may be too long, a boundary of another edition): that bytes can go on, too, is promised (promises/specs/Refusals.Begin)
pub record Begins (rules : Rules) {Net : Type 0} (Spells : Rules → Net → List Line → Type 0) (lines : List Line) : Type 0 where
  pub rest : List Line
  pub net : Net
  pub spelled : Spells rules net (lines ++ rest)

-- for the lines that spell a network, or a mission
module _ (rules : Rules) {Net : Type 0} (Spells : Rules → Net → List Line → Type 0) where
  -- the line may stand behind those: strictly, by every rule; leniently, as if a spot could be without its checkpoint (L8 has 25 only where a line "has no fault of 2 to 9", so 5 to 9 are told leniently)
  abbrev pub FollowsStrictly : (before : List Line) (line : Line) → Type 0
  FollowsStrictly before line = Begins rules Spells (before ++ (line ∷ []))

  abbrev pub FollowsLeniently : (before : List Line) (line : Line) → Type 0
  FollowsLeniently before line = Begins (lenient rules) Spells (before ++ (line ∷ []))

  -- the field opens this line, which may stand behind those; and there is no such line
  abbrev pub MayStand : (before : List Line) (f : Field) (line : Line) → Type 0
  MayStand before f line = Opens f line × FollowsLeniently before line

  abbrev pub NothingMayStand : (before : List Line) (f : Field) → Type 0
  NothingMayStand before f = (line : Line) → MayStand before f line → ⊥

  -- the fault of a line with the fields f ∷ fs behind these lines. Examples: what stands in the place of yard A's line 8, `checkpoint>1.1.2>7`. Where a name stands does not matter here: the start 0 of `Content` below counts from the line's start
  pub data FieldFault (before : List Line) (f : Field) (fs : List Field) : ℕ → Type 0 where
    -- 01: 5 "statement unknown, or not at this place (also a wrong count of items)": `end_lane`
    misplaced : NothingMayStand before f → (GivenBefore before f → ⊥) → FieldFault before f fs 5
    -- 01: 6 "single option given again": `lane_width>12` behind another
    given_again : NothingMayStand before f → GivenBefore before f → FieldFault before f fs 6
    -- 01: 7 "wrong number of fields": `checkpoint>1.1.2`
    miscounted : (line : Line) → MayStand before f line → (length (f ∷ fs) ≡ length line → ⊥) → FieldFault before f fs 7
    -- 01: 8 "field not of its kind (spelling, name length, boundary word)": `checkpoint>1.1>seven`
    misspelt : (line : Line) (g : Field) → MayStand before f line → length (f ∷ fs) ≡ length line → FirstMisspelt rules.edition (f ∷ fs) (map kind_of_field line) g → FieldFault before f fs 8
    -- 01: 9 "value not permitted here (range, not the due identifier, point not of this part, minimum above maximum)": `checkpoint>1.1.3>7`
    forbidden : (line l : Line) → MayStand before f line → map kind_of_field l ≡ map kind_of_field line → SpellFields rules.edition (f ∷ fs) l → (FollowsLeniently before l → ⊥) → FieldFault before f fs 9
    -- L8: 25 "at a first waypoint that has no fault of 2 to 9", in "a spot whose options give no checkpoint": the line may stand there but for the missing checkpoint
    unmarked : (l : Line) → SpellFields rules.edition (f ∷ fs) l → FollowsLeniently before l → (FollowsStrictly before l → ⊥) → FieldFault before f fs 25

  pub data Fault (before : List Line) (line : Bytes) (number : ℕ) : Type 0 where
    -- 01: 2 "line over 512 bytes"; 3 "comment not closed, or followed by more than tabs"; 4 "byte not allowed"
    form : {content : Bytes} → Ended line content → FormFault rules.separates content number → Fault before line number
    fields : {content : Bytes} {f : Field} {fs : List Field} → Ended line content → Content rules.separates 0 content (f ∷ fs) → FieldFault before f fs number → Fault before line number

  -- 01: "the first line with a fault of 2 to 9"; L8: 25 "stands with 2 to 9 in the order of lines": it is line i, and the lines before it begin a well-formed file
  pub record BadLine (text : Bytes) (i number : ℕ) : Type 0 where
    pub front : List Line
    pub this : Bytes
    pub at : LineAt rules text i front this
    pub begins : Begins rules Spells front
    pub fault : Fault front this number

  -- 01: 10 "text ends before `end_file`", at "lines + 1"; "10 is given only if every line is good, so the text begins some well-formed file"
  pub record Unended (text : Bytes) (i : ℕ) : Type 0 where
    pub lines : List Bytes
    pub cut : Cut text lines
    pub line : i ≡ suc (length lines)
    pub said : List Line
    pub spelled : SayLines rules 0 lines said
    pub begins : Begins rules Spells said
    pub incomplete : (net : Net) → SpellsText rules Spells net text → ⊥

  -- line i says this, behind lines that say `front`; lines that spell a network, or a mission, begin so
  pub record SaysAt (text : Bytes) (i : ℕ) (front : List Line) (line : Line) : Type 0 where
    pub this : Bytes
    pub at : LineAt rules text i front this
    pub says : SayLines rules 0 (at.before ++ (this ∷ [])) (front ++ (line ∷ []))
    pub begins : FollowsStrictly front line

  -- 01: "the first line with 12 or 13"; "14 to 18 by first line". F: RndfFault n, MdfFault n
  pub record FirstFault (F : List Line → Line → ℕ → Type 0) (text : Bytes) (i k : ℕ) : Type 0 where
    pub front : List Line
    pub line : Line
    pub at : SaysAt text i front line
    pub fault : F front line k
    pub first : (j m : ℕ) (f : List Line) (l : Line) → j < i → SaysAt text j f l → F f l m → ⊥

-- ## 12 to 18: references
-- a is the i-th of a list, counted from 1
pub data Nth {A : Type 0} : ℕ → A → List A → Type 0 where
  first : {a : A} {l : List A} → Nth 1 a (a ∷ l)
  later : {i : ℕ} {a b : A} {l : List A} → Nth i a l → Nth (suc i) a (b ∷ l)

-- no number stands twice
abbrev pub Different : List ℕ → Type 0
Different [] = Unit {0}
Different (a ∷ l) = (Among a l → ⊥) × Different l

module _ {N : Type 0} where
  -- 01: "entry is no declared lane waypoint or perimeter point"; "y = 0 names a perimeter point"; "An entry with y > 0 must be a lane's waypoint; a spot's is not an entry"
  pub data Declared (n : Network N) (e : PointId) : Type 0 where
    waypoint : (s : Segment N) (a : Lane) → Nth e.x s n.segments → Nth e.y a s.lanes → Between 1 (length a.points) e.z → Declared n e
    border : (i : ℕ) (z : Zone N) → e.y ≡ 0 → e.x ≡ length n.segments + i → Nth i z n.zones → Between 1 (length z.border.points) e.z → Declared n e

  -- in file order
  abbrev pub all_numbers : Network N → List ℕ
  all_numbers n = gather (λ a. map (λ c. c.number) a.checkpoints) (all_lanes n)
      ++ gather (λ z. gather (λ s. map (λ c. c.number) (perhaps s.checkpoint)) z.spots) n.zones

  -- 01: "An entry with y > 0 must be ..", refusal 12; "Checkpoint numbers .. differ over the whole RNDF", refusal 13
  pub record Sound (n : Network N) : Type 0 where
    pub entries : Each (λ e. Declared n e.entry) (gather (λ a. a.exits) (all_lanes n) ++ gather (λ z. z.border.exits) n.zones)
    pub numbers : Different (all_numbers n)

  -- the identifiers of segments and zones are 1 to this number
  abbrev pub parts : Network N → ℕ
  parts n = length n.segments + length n.zones

-- a line of the RNDF of n, behind lines that say `front`
pub data RndfFault (n : Network Field) (front : List Line) (line : Line) : ℕ → Type 0 where
  -- 01: 12 "entry is no declared lane waypoint or perimeter point"
  undeclared : (x y : ℕ) (e : Exit) → line ≡ exit_line x y e → (Declared n e.entry → ⊥) → RndfFault n front line 12
  -- 01: 13 "checkpoint number already declared"
  repeated : (x y x' y' : ℕ) (c c' : Checkpoint) → line ≡ checkpoint_line_of x y c → Among (checkpoint_line_of x' y' c') front → c'.number ≡ c.number → RndfFault n front line 13

-- a line of an MDF for n, behind lines that say `front`
pub data MdfFault (n : Network Field) (front : List Line) (line : Line) : ℕ → Type 0 where
  -- 01: 14 "MDF's RNDF name is not this RNDF's"
  other_name : (v : Field) → line ≡ Law.line "RNDF" (name v ∷ []) → (v.bytes ≡ n.name.bytes → ⊥) → MdfFault n front line 14
  -- 01: 15 "goal not a checkpoint of the RNDF"
  foreign_goal : (g : ℕ) → line ≡ goal_line_of g → (Among g (all_numbers n) → ⊥) → MdfFault n front line 15
  -- 01: 16 "limit's id not in the RNDF"
  unknown_id : (a : Limit) → line ≡ limit_line a → (Between 1 (parts n) a.id → ⊥) → MdfFault n front line 16
  -- 01: 17 "limit's id already given"; "16 before 17"
  limited_again : (a b : Limit) → line ≡ limit_line a → Between 1 (parts n) a.id → Among (limit_line b) front → b.id ≡ a.id → MdfFault n front line 17
  -- 01: 18 "some id has no limit", at `end_speed_limits`
  unlimited : (id : ℕ) → line ≡ Law.line "end_speed_limits" [] → Between 1 (parts n) id → ((a : Limit) → Among (limit_line a) front → a.id ≡ id → ⊥) → MdfFault n front line 18

-- none of 14 to 18
pub record MissionFits (n : Network Field) (m : Mission Field) : Type 0 where
  pub name : m.rndf.bytes ≡ n.name.bytes
  pub goals : Each (λ g. Among g (all_numbers n)) m.goals
  pub known : Each (λ a. Between 1 (parts n) a.id) m.limits
  -- 01: "Every segment and zone has exactly one limit."
  pub once : Different (map (λ a. a.id) m.limits)
  pub all : (i : ℕ) → Between 1 (parts n) i → Among i (map (λ a. a.id) m.limits)
