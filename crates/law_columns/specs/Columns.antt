-- WHAT A READER MUST BELIEVE. Where in its line a fault is: the column of a refusal that has a line. Document 02, L7: "Add a column to the refusal record, counted in bytes from 1." Assumes nothing.
use Rattle.std.specs.Prelude.{◌≡◌, ◌∷◌, ◌++◌}
use Rattle.terms.specs.Words.{List, [], map, ℕ, suc, length, Bytes, Among}
use Rattle.line.specs.Line.{Ended, Field, Opened, Content, BadByte}
use Rattle.law.specs.Network.{Rules, Line, SpellFields}
use Rattle.law.specs.Faults.{kind_of_field, FirstMisspelt, Nth, FollowsLeniently, MayStand}

-- L7: "for 5, 6, 7 and 18 the first field; for .. 12 to 17 the field at fault": of 12 the entry, of 13 the checkpoint's number, of 14 the RNDF's name, of 15 the goal, of 16 and 17 the limit's id. L8, of 25: "Its column is the first field." Each pair: a refusal's number, and which field of its line, counted from 1, the keyword too
abbrev pub which_field : List (ℕ × ℕ)
which_field = (5, 1) ∷ (6, 1) ∷ (7, 1) ∷ (12, 3) ∷ (13, 3) ∷ (14, 2) ∷ (15, 1) ∷ (16, 1) ∷ (17, 1) ∷ (18, 1) ∷ (25, 1) ∷ []

-- for the lines that spell a network, or a mission
module _ (rules : Rules) {Net : Type 0} (Spells : Rules → Net → List Line → Type 0) where
  -- some line that may stand behind those begins with what these fields say
  abbrev pub MayGoOn : (before : List Line) (fields : List Field) → Type 0
  MayGoOn before fields = (said : Line) × (rest : Line) × SpellFields rules.edition fields said × FollowsLeniently rules Spells before (said ++ rest)

  -- g is the first of the fields with which no line goes on that may stand there. L7: "the maximum where it is below the minimum": if yard A's MDF has `1>10>5` in line 9, it is `5`, at column 6, since `1>10>15` may stand
  abbrev pub FirstForbidden : (before : List Line) (fields : List Field) (g : Field) → Type 0
  FirstForbidden before fields g = (left : List Field) × (right : List Field) × (fields ≡ left ++ (g ∷ right)) × MayGoOn before left × (MayGoOn before (left ++ (g ∷ [])) → ⊥)

  -- the field at fault of a line with the fields f ∷ fs behind these lines, by the refusal's number. L7: "for 8, 9 .. the field at fault, leftmost first"
  pub data AtFault (before : List Line) (f : Field) (fs : List Field) : ℕ → Field → Type 0 where
    listed : {number i : ℕ} {g : Field} → Among (number, i) which_field → Nth i g (f ∷ fs) → AtFault before f fs number g
    -- if yard A has `checkpoint>1.1>seven` in line 8, it is `1.1`, at column 12
    misspelt : {g : Field} (line : Line) → MayStand rules Spells before f line → FirstMisspelt rules.edition (f ∷ fs) (map kind_of_field line) g → AtFault before f fs 8 g
    forbidden : {g : Field} → FirstForbidden before (f ∷ fs) g → AtFault before f fs 9 g

  -- the column of a line with this fault, behind lines that say `before`
  pub data Column (before : List Line) (line : Bytes) : (number column : ℕ) → Type 0 where
    -- L7: "For 2 it is 513"
    long : Column before line 2 513
    -- L7: "for 3 the place of `/*`"
    comment : {content outer rest : Bytes} → Ended line content → Opened content outer rest → Column before line 3 (suc (length outer))
    -- L7: "for 4 the first such byte": the line up to it has a byte that is not allowed, and before it has none
    byte : (good behind : Bytes) (b : ℕ) → Ended line (good ++ (b ∷ behind)) → (BadByte rules.separates good → ⊥) → BadByte rules.separates (good ++ (b ∷ [])) → Column before line 4 (suc (length good))
    -- a field stands where it begins, counted from the line's first byte: tabs and spaces in front of it count
    field : {content : Bytes} {f g : Field} {fs : List Field} {number : ℕ} → Ended line content → Content rules.separates 0 content (f ∷ fs) → AtFault before f fs number g → Column before line number (suc g.start)
