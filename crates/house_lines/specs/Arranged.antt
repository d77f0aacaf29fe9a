-- Executable: a text's own lines in house order. Every field of a text that a reader accepts has one spelling, but for the coordinate `-0.000000`;
-- so the house writing of such a text is its own lines: the fields with one tab between them, no comments, options by rank. Assumes nothing.
use Rattle.std.specs.Prelude.{List, [], ◌∷◌, ◌++◌, map, ℕ, take, get_or, eqb}
use Rattle.terms.specs.Ascii.{Bytes, ascii}
use Rattle.terms.specs.Words.{pick}
use Rattle.scan.specs.Reach.{same_bytes_of}
use Rattle.line.specs.Content.{Field}
use Rattle.line.specs.Lines.{lines_of, drop_cr}
use Rattle.line.specs.Forms.{outer_of, fields_at}
use Rattle.word.specs.Keywords.{rndf_keywords}
use Rattle.word.specs.Number.{index_of, digit_first}
use Rattle.grammar.specs.Tables.{gather}
use Rattle.text.specs.HouseLine.{tabbed}

-- ## Lines
-- the first three fields of a line (no statement has more): without its CR, before its comment
unfoldable pub fields_on_of : Bytes → List Bytes
fields_on_of line = take 3 (map (λ (f : Field). f.bytes) (fields_at 0 (outer_of (drop_cr line))))

-- a line's fields in front of other lines; a line without fields is dropped
abbrev pub onto_spoken : List Bytes → List (List Bytes) → List (List Bytes)
onto_spoken [] l = l
onto_spoken (f ∷ fs) l = (f ∷ fs) ∷ l

-- the lines that have fields
unfoldable pub spoken : List Bytes → List (List Bytes)
spoken [] = []
spoken (line ∷ lines) = onto_spoken (fields_on_of line) (spoken lines)

-- ## House order
-- where a statement stands among the options of its part, by the number of its keyword in an RNDF; 0: it is no option, and stays where it is; 7: it is left out (L12: "the house writing and the packed form leave it out", the creation date).
-- The options of an MDF are words of an RNDF too.
unfoldable pub ranks : List ℕ
ranks =
    0 ∷ 0 ∷ 0 ∷ 1 ∷ 7 ∷  -- format_version, creation_date
    0 ∷ 0 ∷ 1 ∷ 0 ∷  -- segment_name
    0 ∷ 0 ∷ 1 ∷ 2 ∷ 3 ∷ 4 ∷ 5 ∷ 6 ∷ 0 ∷  -- lane_width, left_boundary, right_boundary, checkpoint, stop, exit
    0 ∷ 0 ∷ 1 ∷ 0 ∷  -- zone_name
    0 ∷ 0 ∷ 0 ∷  -- an exit of a perimeter has the rank that it has in a lane
    0 ∷ 1 ∷ 0 ∷  -- spot_width; a checkpoint of a spot has the rank that it has in a lane
    0 ∷ 0 ∷ []  -- end_file, and no keyword

unfoldable pub rank_of : List Bytes → ℕ
rank_of [] = 0
rank_of (f ∷ fs) = get_or ranks (index_of f rndf_keywords) 0

-- the lines of rank k before the first line that stays
unfoldable pub pass : ℕ → List (List Bytes) → List (List Bytes)
pass k [] = []
pass k (x ∷ l) = pick (eqb (rank_of x) 0) [] (pick (eqb (rank_of x) k) (x ∷ pass k l) (pass k l))

-- the options before the first line that stays, rank by rank
unfoldable pub passes : List (List Bytes) → List (List Bytes)
passes l = pass 1 l ++ (pass 2 l ++ (pass 3 l ++ (pass 4 l ++ (pass 5 l ++ pass 6 l))))

-- each line that stays, and behind it the options that follow it, rank by rank
unfoldable pub staying : List (List Bytes) → List (List Bytes)
staying [] = []
staying (x ∷ l) = pick (eqb (rank_of x) 0) (x ∷ (passes l ++ staying l)) (staying l)

unfoldable pub arranged : List (List Bytes) → List (List Bytes)
arranged l = passes l ++ staying l

-- ## As written
-- a coordinate; `-0.000000` is written without its sign
unfoldable pub mend : Bytes → Bytes
mend f = pick (same_bytes_of f (ascii "-0.000000")) (ascii "0.000000") f

-- on a line that begins with a digit: a point line
unfoldable pub mended : List Bytes → List Bytes
mended [] = []
mended (f ∷ fs) = pick (digit_first f) (map mend (f ∷ fs)) (f ∷ fs)

unfoldable pub line_of : List Bytes → Bytes
line_of fields = tabbed (mended fields) ++ ascii "\n"

unfoldable pub arranged_text : Bytes → Bytes
arranged_text text = gather line_of (arranged (spoken (lines_of text)))
