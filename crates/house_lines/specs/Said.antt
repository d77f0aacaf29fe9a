-- Executable: what is known of a line (its rank and its fields), what of it is written, and what a loop over lines keeps. Assumes nothing.
use Rattle.std.specs.Prelude.{List, [], ◌∷◌, ◌++◌, Bool, true, false, ℕ, take, drop, get_or, eqb, ltb}
use Rattle.terms.specs.Ascii.{Bytes, ascii}
use Rattle.terms.specs.Words.{pick}
use Rattle.scan.specs.Reach.{up_to, same_bytes_of}
use Rattle.line.specs.Lines.{lines_of, trim_of}
use Rattle.line.specs.Forms.{opens, fields_in_of, part}
use Rattle.line.specs.declared.Fields.{Fields}
use Rattle.word.specs.Keywords.{rndf_keywords}
use Rattle.word.specs.Number.{index_of}
use Rattle.house_lines.specs.Arranged.{ranks, spoken, arranged, staying}
use Rattle.house_lines.specs.declared.Said.{Said}

-- ## What is known of a line
-- the rank of a word, by its number among the keywords
unfoldable pub rank_word : Bytes → ℕ
rank_word w = get_or ranks (index_of w rndf_keywords) 0

-- the same by comparison with the options
unfoldable pub first_of : Bytes → Bool
first_of w =
    pick (same_bytes_of w (ascii "lane_width")) true (pick (same_bytes_of w (ascii "spot_width")) true (pick (same_bytes_of w (ascii "segment_name")) true (pick (same_bytes_of w (ascii "zone_name")) true (same_bytes_of w (ascii "format_version")))))

unfoldable pub rank_by_same : Bytes → ℕ
rank_by_same w =
    pick (same_bytes_of w (ascii "exit")) 6 (pick (same_bytes_of w (ascii "stop")) 5 (pick (same_bytes_of w (ascii "checkpoint")) 4 (pick (same_bytes_of w (ascii "right_boundary")) 3 (pick (same_bytes_of w (ascii "left_boundary")) 2 (pick (same_bytes_of w (ascii "creation_date")) 7 (pick (first_of w) 1 0))))))

unfoldable pub body_end_of : Bytes → ℕ
body_end_of line = up_to opens (take (trim_of line) line)

-- the rank of a line without fields
abbrev pub blank : ℕ
blank = 8

unfoldable pub said_in_of : Bytes → Said
said_in_of body = record { rank = pick (eqb (fields_in_of body).count 0) blank (rank_word (part body (fields_in_of body).a)); fields = fields_in_of body }

unfoldable pub said_on_of : Bytes → Said
said_on_of line = said_in_of (take (body_end_of line) line)

-- ## What is written of it
-- a field, of a point line or not, is mended
unfoldable pub mends : Bool → Bytes → Bool
mends point f = pick point (same_bytes_of f (ascii "-0.000000")) false

unfoldable pub mend_if : Bool → Bytes → Bytes
mend_if point f = pick (mends point f) (ascii "0.000000") f

-- a field and the tab before it, where it is there
unfoldable pub behind_tab : Bool → Bool → Bytes → Bytes
behind_tab there point f = pick there (ascii "\t" ++ mend_if point f) []

-- the fields of a line that has one
unfoldable pub parts_of : Bytes → Fields → List Bytes
parts_of s f = part s f.a ∷ pick (ltb 1 f.count) (part s f.b ∷ pick (ltb 2 f.count) (part s f.c ∷ []) []) []

-- ## What a loop keeps
-- the lines that have fields, from a place of the text on
unfoldable pub spoken_from : Bytes → ℕ → List (List Bytes)
spoken_from text from = spoken (lines_of (drop from text))

-- what is left to put: `fresh` says that no option was put since the last line that stays
unfoldable pub left_over_of : Bool → List (List Bytes) → List (List Bytes)
left_over_of true l = arranged l
left_over_of false l = staying l

-- a line of this rank is the first option of a run
unfoldable pub due : ℕ → Bool → Bool
due rank fresh = pick (eqb rank 0) false (pick (eqb rank blank) false fresh)

unfoldable pub fresh_after_of : ℕ → Bool → Bool
fresh_after_of rank fresh = pick (eqb rank 0) true (pick (eqb rank blank) fresh false)
