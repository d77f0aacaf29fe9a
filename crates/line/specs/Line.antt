-- WHAT A READER MUST BELIEVE. A text and its lines; a line's content: fields, what separates them, and a comment; and refusals 2, 3 and 4. Document 01, "Lines, comments, fields". Assumes nothing.
use Rattle.std.specs.Prelude.{◌≡◌, ◌∷◌, ◌++◌, ◌⊎◌, ◌+◌, ◌≤◌, ◌<◌}
use Rattle.terms.specs.Words.{List, [], Bool, true, false, ℕ, suc, code, length, Bytes, ascii}
use Rattle.scan.specs.Allowed.{field_byte, allowed_outside, inside, all}

abbrev pub lf : ℕ
lf = code "\n"

abbrev pub cr : ℕ
cr = code "\r"

-- no x in it
pub data Lacks (x : ℕ) : Bytes → Type 0 where
  none : Lacks x []
  more : {b : ℕ} {l : Bytes} → (b ≡ x → ⊥) → Lacks x l → Lacks x (b ∷ l)

-- 01: "A text is cut at each LF. An unfinished last line counts; after a final LF there is no further line."
pub data Cut : Bytes → List Bytes → Type 0 where
  nothing : Cut [] []
  unfinished : {b : ℕ} {l : Bytes} → Lacks lf (b ∷ l) → Cut (b ∷ l) ((b ∷ l) ∷ [])
  line : {l text : Bytes} {lines : List Bytes} → Lacks lf l → Cut text lines → Cut (l ++ (lf ∷ text)) (l ∷ lines)

-- 01: "One CR as a line's last byte is dropped." What is left is the line's content.
pub data Ended : Bytes → Bytes → Type 0 where
  dropped : {content : Bytes} → Ended (content ++ (cr ∷ [])) content
  bare : {content : Bytes} → ((c : Bytes) → content ≡ c ++ (cr ∷ []) → ⊥) → Ended content content

-- the word does not stand in it
abbrev pub Without : Bytes → Bytes → Type 0
Without word bytes = (before behind : Bytes) → bytes ≡ before ++ (word ++ behind) → ⊥

-- a field, and the place in the text at which it starts
pub record Field : Type 0 where
  pub start : ℕ
  pub bytes : Bytes

-- 01: "Outside comments the bytes are 33 to 126 and tab, but no backslash and no `*`." A field has at least one, and none that separates.
pub record IsField (bytes : Bytes) : Type 0 where
  pub some : 0 < length bytes
  pub allowed : all field_byte bytes ≡ true

-- 01: "A comment begins at the first `/*`": what stands before it, and what behind those two bytes
pub record Opened (content outer rest : Bytes) : Type 0 where
  pub spelled : content ≡ outer ++ (ascii "/*" ++ rest)
  pub first : Without (ascii "/*") outer

-- ## What stands on a line. `separates`: which bytes separate fields
module _ (separates : ℕ → Bool) where
  -- 01: "A comment begins at the first `/*` and must close with the first `*/` after those two bytes, with only tabs behind it" (L3: and spaces); "Inside, 32 to 126 and tab."; "`/*/` is not closed": its `*` belongs to the opening
  pub record Comment (bytes : Bytes) : Type 0 where
    pub text : Bytes
    pub behind : Bytes
    pub spelled : bytes ≡ ascii "/*" ++ (text ++ (ascii "*/" ++ behind))
    pub first : Without (ascii "*/") text
    pub allowed : all inside text ≡ true
    pub only_separators : all separates behind ≡ true

  -- what may stand behind a field: nothing, or what separates it from the next
  unfoldable pub parted : Bytes → Bool
  parted [] = true
  parted (b ∷ rest) = separates b

  -- L3: "a separator shall be any run of tabs and spaces, and such a run is nothing at a line's start and end, also before and behind a comment"
  -- The bytes, the first of which stands at the place `start` of the text, and the fields in them.
  pub data SpellsFields : ℕ → Bytes → List Field → Type 0 where
    nothing : {start : ℕ} → SpellsFields start [] []
    separator : {start b : ℕ} {rest : Bytes} {fields : List Field} → separates b ≡ true → SpellsFields (suc start) rest fields → SpellsFields start (b ∷ rest) fields
    field : {start : ℕ} {bytes rest : Bytes} {fields : List Field} → IsField bytes → parted rest ≡ true → SpellsFields (start + length bytes) rest fields → SpellsFields start (bytes ++ rest) (record { start = start; bytes = bytes } ∷ fields)

  -- 01: "What is left is at most 512 bytes."
  -- a line's content that starts at a place of the text: fields, and perhaps a comment directly behind
  pub record Content (start : ℕ) (content : Bytes) (fields : List Field) : Type 0 where
    pub outer : Bytes
    pub note : Bytes
    pub spelled : content ≡ outer ++ note
    pub short : length content ≤ 512
    pub fielded : SpellsFields start outer fields
    pub comment : (note ≡ []) ⊎ Comment note

  -- ## 2, 3 and 4
  -- 01: "comment not closed, or followed by more than tabs" (L3: and spaces), of what stands behind the opening
  pub data Unclosed (rest : Bytes) : Type 0 where
    never : Without (ascii "*/") rest → Unclosed rest
    more : (text behind : Bytes) → rest ≡ text ++ (ascii "*/" ++ behind) → Without (ascii "*/") text → all separates behind ≡ false → Unclosed rest

  pub record BadComment (content : Bytes) : Type 0 where
    pub outer : Bytes
    pub rest : Bytes
    pub opened : Opened content outer rest
    pub unclosed : Unclosed rest

  -- 01: "byte not allowed", of a content without comment, and of one with a comment: before it, or in it
  pub data BadByte (content : Bytes) : Type 0 where
    plain : Without (ascii "/*") content → all (allowed_outside separates) content ≡ false → BadByte content
    before : (outer rest : Bytes) → Opened content outer rest → all (allowed_outside separates) outer ≡ false → BadByte content
    in_comment : (outer rest : Bytes) → Opened content outer rest → all inside rest ≡ false → BadByte content

  -- 01: "lowest number first"
  pub data FormFault (content : Bytes) : ℕ → Type 0 where
    long : 512 < length content → FormFault content 2
    comment : length content ≤ 512 → BadComment content → FormFault content 3
    byte : length content ≤ 512 → (BadComment content → ⊥) → BadByte content → FormFault content 4
