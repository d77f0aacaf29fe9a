-- WHAT A READER MUST BELIEVE. What may stand where a line is refused: from the grammar alone (5 to 10 and 25), or from the network (12 to 18); never from what the broken line may have meant. Assumes nothing.
use Rattle.std.specs.Prelude.{◌≡◌, ◌∷◌, ◌++◌, ◌≤◌, ◌<◌}
use Rattle.terms.specs.Words.{List, [], map, ℕ, suc, length, ℤ, nat_abs, Bytes, Each, Among, Between}
use Rattle.line.specs.Line.{Field}
use Rattle.number.specs.Decimal.{decimal}
use Rattle.coordinate.specs.Spelling.{SpellsCoordinate}
use Rattle.law.specs.Network.{Boundary, boundary_word_of, dotted, largest, PointId, Exit, GoodExit, Limit, Network, Rules, lenient, Said, Line, SpellsField, SpellFields, exit_line, limit_line}
use Rattle.law.specs.Network as Law
use Rattle.law.specs.Faults.{kind_of_field, Nth, Opens, FollowsStrictly, FollowsLeniently, MayStand, Declared, all_numbers, parts}
use Rattle.law_columns.specs.Columns.{MayGoOn, AtFault}

-- ## What a field may be
pub data Item : Type 0 where
  -- this keyword
  this : Bytes → Item
  -- 01: "**Name**: 1 to 128 bytes"
  a_name : Item
  -- so many numbers joined by dots, each from its lowest to its highest; a due one where the two are the same. In a line's form the capitals stand for it: POINT
  numbers : (capitals : Bytes) → List (ℕ × ℕ) → Item
  -- a limit's maximum, behind its minimum. L1: "0 means undefined": 0, or from the minimum on
  ceiling : Item
  -- a latitude or longitude, at most so many millionths of a degree from 0
  degrees : ℕ → Item
  -- L10: one of the edition's boundaries
  one_of : List Boundary → Item

abbrev pub InRanges : List (ℕ × ℕ) → List ℕ → Type 0
InRanges [] [] = Unit {0}
InRanges [] (n ∷ l) = ⊥
InRanges (r ∷ rs) [] = ⊥
InRanges (r ∷ rs) (n ∷ l) = Between r.0 r.1 n × InRanges rs l

-- these bytes are an instance of it, behind a field of those bytes
abbrev pub Allows : (before : Bytes) → Item → Bytes → Type 0
Allows before (this w) b = b ≡ w
Allows before a_name b = Between 1 128 (length b)
Allows before (numbers w rs) b = (l : List ℕ) × (b ≡ dotted l) × InRanges rs l
Allows before ceiling b = (m : ℕ) × (n : ℕ) × (before ≡ decimal m) × (b ≡ decimal n) × (n ≤ largest) × (0 < n → m ≤ n)
Allows before (degrees d) b = (z : ℤ) × SpellsCoordinate b z × (nat_abs z ≤ d)
Allows before (one_of bs) b = (w : Boundary) × (b ≡ boundary_word_of w) × Among w bs

-- ## What a line may be: its items, the keyword first where it has one; what a place may have: some of these forms
abbrev pub Form : Type 0
Form = List Item

-- these fields are an instance of it, one for one
abbrev pub AllowsFields : (before : Bytes) → Form → List Field → Type 0
AllowsFields before [] [] = Unit {0}
AllowsFields before [] (f ∷ fs) = ⊥
AllowsFields before (i ∷ is) [] = ⊥
AllowsFields before (i ∷ is) (f ∷ fs) = Allows before i f.bytes × AllowsFields f.bytes is fs

-- the field opens lines of this form
pub data OpensForm (f : Field) : Form → Type 0 where
  keyword : {w : Bytes} {form : Form} → f.bytes ≡ w → OpensForm f (this w ∷ form)
  digit : {w : Bytes} {rs : List (ℕ × ℕ)} {form : Form} → Opens f (Law.numbers [] ∷ []) → OpensForm f (numbers w rs ∷ form)

abbrev pub last_bytes : List Field → Bytes
last_bytes [] = []
last_bytes (f ∷ []) = f.bytes
last_bytes (f ∷ g ∷ fs) = last_bytes (g ∷ fs)

-- with g behind these, the statement is the same one: as a first field g begins with a digit, for a keyword makes another statement
abbrev pub OneStatement : List Field → Field → Type 0
OneStatement [] g = Opens g (Law.numbers [] ∷ [])
OneStatement (f ∷ fs) g = Unit {0}

-- ## Exactly: the one where the other, and the other where the one
abbrev pub Iff : Type 0 → Type 0 → Type 0
Iff A B = (A → B) × (B → A)

-- for the lines that spell a network, or a mission, behind lines that say `before`
module _ (rules : Rules) {Net : Type 0} (Spells : Rules → Net → List Line → Type 0) (before : List Line) where
  -- exactly the instances of the forms are lines that may follow, and no form is idle
  abbrev pub ListsLines : List Form → Type 0
  ListsLines forms = ((fields : List Field) → Iff ((form : Form) × Among form forms × AllowsFields [] form fields) ((l : Line) × SpellFields rules.edition fields l × FollowsStrictly rules Spells before l)) × Each (λ form. (fields : List Field) × AllowsFields [] form fields) forms

  -- behind fields with which some line that may stand begins: exactly these are the next field of such lines
  abbrev pub ListsField : List Field → Item → Type 0
  ListsField fs item = MayGoOn rules Spells before fs × ((g : Field) → Iff (Allows (last_bytes fs) item g.bytes) (OneStatement fs g × MayGoOn rules Spells before (fs ++ (g ∷ []))))

  -- exactly these are the i-th field, counted from 1, of some line that may stand, with fields of the kinds of `line`, whatever stands before it
  abbrev pub ListsApart : (line : Line) (i : ℕ) → Item → Type 0
  ListsApart line i item = (g : Field) → Iff (Allows [] item g.bytes) ((l : Line) × (s : Said) × FollowsLeniently rules Spells before l × (map kind_of_field l ≡ map kind_of_field line) × Nth i s l × SpellsField rules.edition g s)

  -- in every whole file that begins with these lines, exactly so many lines that begin with numbers (points, goals or limits) come next
  abbrev pub StillOwed : ℕ → Type 0
  StillOwed k = (net : Net) (rest : List Line) → Spells rules net (before ++ rest) → (come : List Line) × (w : Bytes) × (l : Line) × (behind : List Line)
      × (rest ≡ come ++ ((Law.word w ∷ l) ∷ behind)) × (length come ≡ k) × Each (λ line. (i : List ℕ) × (others : Line) × (line ≡ Law.numbers i ∷ others)) come

-- ## What is told: of 5, 6, 10 and 25 lines, of 7 the fields of a line, of 8 and 9 a field, behind one of these bytes
pub data Expectation : Type 0 where
  -- one of these, of which so many are still owed (0: that is not told); none behind `end_file`
  lines : (owed : ℕ) → List Form → Expectation
  fields : Form → Expectation
  field : (before : Bytes) → Item → Expectation
  -- of 12: a point of one of these parts, each told by its last point; of 13: a number that no line before declares; of 14: this name
  entries : List PointId → Expectation
  new_number : Expectation
  the_name : Bytes → Expectation
  -- of 15: one of these goals; of 16 and 17: one of these ids; of 18: for each of these ids a limit is missing
  goals ids missing : List ℕ → Expectation

module _ (rules : Rules) {Net : Type 0} (Spells : Rules → Net → List Line → Type 0) (before : List Line) where
  -- what would be taken behind these lines, with L8: so behind a spot's options without a checkpoint no waypoint is listed. How many are owed is told of one form at most
  pub data ExpectedBehind : Expectation → Type 0 where
    without_count : {forms : List Form} → ListsLines rules Spells before forms → ExpectedBehind (lines 0 forms)
    with_count : {k : ℕ} {form : Form} → ListsLines rules Spells before (form ∷ []) → StillOwed rules Spells before k → ExpectedBehind (lines k (form ∷ []))

  -- of a line f ∷ fs with a fault of 5 to 9 or 25, behind these lines
  pub data Expected (f : Field) (fs : List Field) : (number : ℕ) → Expectation → Type 0 where
    unknown : {x : Expectation} {number : ℕ} → Among number (5 ∷ 6 ∷ 25 ∷ []) → ExpectedBehind x → Expected f fs number x
    -- the one form of those that may stand here, L8 aside (as 7 itself is told), which the first field opens
    miscounted : (forms : List Form) {form : Form} → ListsLines (lenient rules) Spells before forms → Among form forms → OpensForm f form → Expected f fs 7 (fields form)
    -- leading: the fields before the one at fault; lines that may stand begin with them
    placed : (leading behind : List Field) (g : Field) {item : Item} {number : ℕ} → Among number (8 ∷ 9 ∷ []) → AtFault rules Spells before f fs number g → f ∷ fs ≡ leading ++ (g ∷ behind) → ListsField rules Spells before leading item → Expected f fs number (field (last_bytes leading) item)
    -- of 8 alone: one of them has a value that is not permitted, so this field is told by itself. line: one that may stand here
    apart : (leading behind : List Field) (g : Field) {item : Item} (line : Line) → AtFault rules Spells before f fs 8 g → f ∷ fs ≡ leading ++ (g ∷ behind) → (MayGoOn rules Spells before leading → ⊥) → MayStand rules Spells before f line → ListsApart rules Spells before line (suc (length leading)) item → Expected f fs 8 (field [] item)

-- ## References. n: what the RNDF says; front: what the lines before say. Of 12: exactly the points of these parts are declared and may be the entry of an exit of a lane (y from 0 on), or of a perimeter (from 1 on)
abbrev pub ListsEntries : Network Field → (low : ℕ) → List PointId → Type 0
ListsEntries n low l = (e : PointId) → Iff ((a : PointId) × Among a l × (e.x ≡ a.x) × (e.y ≡ a.y) × Between 1 a.z e.z) (Declared n e × GoodExit low 1 (record { waypoint = 1; entry = e }))

-- of 16 to 18: exactly the ids of the RNDF to which no line before gives a limit
abbrev pub ListsIds : Network Field → (front : List Line) → List ℕ → Type 0
ListsIds n front l = (i : ℕ) → Iff (Among i l) (Between 1 (parts n) i × ((a : Limit) → Among (limit_line a) front → a.id ≡ i → ⊥))

-- of a line with a fault of 12 to 18
pub data ExpectedOf (n : Network Field) (front : List Line) (line : Line) : (number : ℕ) → Expectation → Type 0 where
  lane_entry : (x y : ℕ) (e : Exit) {l : List PointId} → line ≡ exit_line x (suc y) e → ListsEntries n 0 l → ExpectedOf n front line 12 (entries l)
  border_entry : (x : ℕ) (e : Exit) {l : List PointId} → line ≡ exit_line x 0 e → ListsEntries n 1 l → ExpectedOf n front line 12 (entries l)
  number : ExpectedOf n front line 13 new_number
  name : ExpectedOf n front line 14 (the_name n.name.bytes)
  -- all of them, in file order
  goal : ExpectedOf n front line 15 (goals (all_numbers n))
  id : {l : List ℕ} {number : ℕ} → Among number (16 ∷ 17 ∷ []) → ListsIds n front l → ExpectedOf n front line number (ids l)
  owed : {l : List ℕ} → ListsIds n front l → ExpectedOf n front line 18 (missing l)
