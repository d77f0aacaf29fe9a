-- WHAT A READER MUST BELIEVE. What the mending tool changes in an RNDF, line by line; what comes out, and what is listed. Request L9, "Mend what can be mended, and say so." Assumes nothing.
use Rattle.terms.specs.Words.{List, [], map, Bool, false, not, ℕ, suc, String, length, take, drop, eqb, leb, Bytes, ascii, pick}
use Rattle.std.specs.Prelude.{get_or, ◌∷◌, ◌++◌, ◌&&◌, ◌||◌, ◌+◌, Some, None, Option}
use Rattle.scan.specs.Allowed.{digit}
use Rattle.scan.specs.Begins.{begins, same_bytes_of}
use Rattle.line.specs.Line.{Field}
use Rattle.line.specs.Cutting.{lines_of, drop_cr, outer_of, fields_at}
use Rattle.number.specs.Decimal.{decimal}
use Rattle.number.specs.Integer.{the_integer_of}
use Rattle.law.specs.Network.{largest}
use Rattle.law.specs.Tables.{gather}
use Rattle.law.specs.Faults.{options}

-- ## A line, as document 01 cuts it: without its LF. "Fields are those before the first `/*`, whatever the bytes." 01: "One CR as a line's last byte is dropped." L3: tabs and spaces separate them, in every edition. A field's place counts from the line's start. (proofs/Ties: lines and, of a good line, fields are document 01's)
abbrev pub fields : Bytes → List Field
fields line = fields_at 0 (outer_of (drop_cr line))

-- the first of them; nothing where there is none
unfoldable pub first_field : Bytes → Bytes
first_field line = get_or (map (λ f. f.bytes) (fields line)) 0 []

-- byte for byte
abbrev pub is : String → Bytes → Bool
is w word = same_bytes_of word (ascii w)

abbrev pub one_of : List Bytes → Bytes → Bool
one_of [] word = false
one_of (w ∷ words) word = same_bytes_of word w || one_of words word

-- what becomes of a line: it stays; it goes, by which of the three (2 or 3); by 1, this field becomes this number
pub data Change : Type 0 where
  stays : Change
  goes : ℕ → Change
  recount : Field → ℕ → Change

-- ## 1: "A count line with one good integer whose number disagrees with the items up to the next line that begins with its part's end word (`end_file` for segments and zones): only the number is replaced."
-- "Items are lines whose first field is the item's keyword or, for points, begins with a digit."
-- a kind of count line: its keyword, which first fields are its items', its part's end word
pub data Count : Type 0 where
  count : (word : String) (item : Bytes → Bool) (end : String) → Count

abbrev pub count_lines : List Count
count_lines = count "num_segments" (is "segment") "end_file" ∷ count "num_zones" (is "zone") "end_file" ∷ count "num_lanes" (is "lane") "end_segment" ∷ count "num_waypoints" (begins digit) "end_lane"
    ∷ count "num_spots" (is "spot") "end_zone" ∷ count "num_perimeterpoints" (begins digit) "end_perimeter" ∷ []

-- how many items stand before the end word. `behind`: the first fields of the lines behind the count line. Where no end word stands there all are counted, and the text gets 26 whatever the number
unfoldable pub items : (item : Bytes → Bool) (end : String) (behind : List Bytes) → ℕ
items item end [] = 0
items item end (word ∷ behind) = pick (is end word) 0 (pick (item word) (suc (items item end behind)) (items item end behind))

-- 01: "**Integer**: 1 to 5 digits, no leading zero but `0` itself; at most 32,768." m: the number on the line; n: the items. "With over 32,768 items the count stays.": such a text gets 26 either way, since no count line may say more than 32,768
abbrev pub disagrees : Option ℕ → ℕ → Bool
disagrees (Some m) n = leb m largest && (leb n largest && not (eqb m n))
disagrees None n = false

abbrev pub corrected : Field → ℕ → Change
corrected f n = pick (disagrees (the_integer_of f.bytes) n) (recount f n) stays

abbrev pub recounted : List Count → (word : Bytes) (f : Field) (behind : List Bytes) → Change
recounted [] word f behind = stays
recounted (count w item end ∷ cs) word f behind = pick (is w word) (corrected f (items item end behind)) (recounted cs word f behind)

-- "with one good integer": a keyword and one field more
abbrev pub the_count_change_of : List Field → (behind : List Bytes) → Change
the_count_change_of [] behind = stays
the_count_change_of (w ∷ []) behind = stays
the_count_change_of (w ∷ f ∷ []) behind = recounted count_lines w.bytes f behind
the_count_change_of (w ∷ f ∷ g ∷ more) behind = stays

-- ## 2: "A single option that was already given since the last line that opens a part, or since the file's start: the later line goes."
abbrev pub opens_part_of : Bytes → Bool
opens_part_of = one_of (ascii "segment" ∷ ascii "lane" ∷ ascii "zone" ∷ ascii "perimeter" ∷ ascii "spot" ∷ [])

-- the first fields since that line, its own too. `before`: those of all lines before, the nearest first
unfoldable pub since : (before : List Bytes) → List Bytes
since [] = []
since (word ∷ before) = word ∷ pick (opens_part_of word) [] (since before)

-- 01: "Only `checkpoint` and `stop` in a lane, and `exit` in a lane or perimeter, may repeat there". given: as `since` has it, with the word that opened the part, so this asks which part was opened last. An option of another part counts as single; its first line stays, so the text gets 26
abbrev pub may_repeat : (given : List Bytes) → Bytes → Bool
may_repeat given word = (one_of given (ascii "lane") && one_of (ascii "checkpoint" ∷ ascii "stop" ∷ ascii "exit" ∷ []) word) || (one_of given (ascii "perimeter") && is "exit" word)

abbrev pub given_again : (given : List Bytes) → Bytes → Bool
given_again given word = one_of options word && (one_of given word && not (may_repeat given word))

-- ## 3: "A line with fields behind the first `end_file`: it goes."; "only 3 behind `end_file`". No line is both a count line and an option, so 1 and 2 never meet. A first field without bytes: a line without fields
unfoldable pub change : (before : List Bytes) (line : Bytes) (behind : List Bytes) → Change
change before line behind = pick (one_of before (ascii "end_file")) (pick (is "" (first_field line)) stays (goes 3)) (pick (given_again (since before) (first_field line)) (goes 2) (the_count_change_of (fields line) behind))

-- ## What comes out, and what is listed. `whole`: the line with its LF if it has one. "only the number is replaced"; "the later line goes"; "it goes"; "Lines not listed come out byte for byte"
abbrev pub piece : Change → (whole : Bytes) → Bytes
piece stays whole = whole
piece (goes which) whole = []
piece (recount f n) whole = take f.start whole ++ (decimal n ++ drop (f.start + length f.bytes) whole)

-- "with its number in the given text and which of the three (1, 2, 3; only 3 behind `end_file`)": a row of two words
abbrev pub row : ℕ → Change → List (List ℕ)
row i stays = []
row i (goes which) = (i ∷ which ∷ []) ∷ []
row i (recount f n) = (i ∷ 1 ∷ []) ∷ []

-- a line: its number (`line`), its bytes with its LF if it has one, and what becomes of it
pub record LineChange : Type 0 where
  pub line : ℕ
  pub whole : Bytes
  pub change : Change

-- the lines from the i-th on; `text`: what is left of the text there; `before`: first fields, the nearest first. All are judged by the given text
unfoldable pub changes_from : (i : ℕ) (before : List Bytes) (text : Bytes) (lines : List Bytes) → List LineChange
changes_from i before text [] = []
changes_from i before text (line ∷ rest) = record { line = i; whole = take (suc (length line)) text; change = change before line (map first_field rest) } ∷ changes_from (suc i) (first_field line ∷ before) (drop (suc (length line)) text) rest

-- 01: "A text is cut at each LF."; "Lines count from 1."
abbrev pub changes : Bytes → List LineChange
changes text = changes_from 1 [] text (lines_of text)

-- "the text with those three changes"
unfoldable pub mended_text : Bytes → Bytes
mended_text text = gather (λ c. piece c.change c.whole) (changes text)

-- "It lists each changed line in order"
unfoldable pub listed_rows : Bytes → List (List ℕ)
listed_rows text = gather (λ c. row c.line c.change) (changes text)
