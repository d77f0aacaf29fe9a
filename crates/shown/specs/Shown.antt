-- WHAT A READER MUST BELIEVE. A line of a text as planners see it, with a caret under one byte; a byte that is not allowed in words; a text's first word. Assumes nothing.
use Rattle.std.specs.Prelude.{get_or, ◌∷◌, ◌++◌, ◌||◌, ◌+◌, ◌-◌, ◌/◌, ◌%◌}
use Rattle.terms.specs.Words.{List, [], Bool, ℕ, length, take, eqb, ltb, Bytes, ascii, pick}
use Rattle.scan.specs.Allowed.{inside}
use Rattle.scan.specs.Begins.{same_bytes_of}
use Rattle.line.specs.Line.{Field}
use Rattle.line.specs.Cutting.{lines_of, drop_cr, outer_of, fields_at}

-- ## A line
-- the last digit of a number in base 16, in small letters
unfoldable pub hex : ℕ → ℕ
hex n = pick (ltb (n % 16) 10) (n % 16 + 48) (n % 16 + 87)

-- tabs and 32 to 126 as they are, any other byte as `\xNN`
unfoldable pub shown_byte : ℕ → Bytes
shown_byte b = pick (inside b) (b ∷ []) (ascii "\\x" ++ (hex (b / 16) ∷ []) ++ (hex b ∷ []))

-- what stands below it: a tab for a tab, else as many spaces as it is wide
unfoldable pub blank : ℕ → Bytes
blank b = pick (eqb b 9) (ascii "\t") (pick (inside b) (ascii " ") (ascii "    "))

unfoldable pub shown : Bytes → Bytes
shown [] = []
shown (b ∷ line) = shown_byte b ++ shown line

unfoldable pub blanks : Bytes → Bytes
blanks [] = []
blanks (b ∷ line) = blank b ++ blanks line

-- the line, and below it a caret under its byte at this column; nothing without a column
unfoldable pub picture : Bytes → ℕ → Bytes
picture line column = pick (eqb column 0) [] (shown line ++ ascii "\n" ++ blanks (take (column - 1) line) ++ ascii "^\n")

-- ## The line of a text with this number, without its CR; of a longer one the first 513 bytes
unfoldable pub line_in : Bytes → ℕ → Bytes
line_in text i = take 513 (drop_cr (get_or (lines_of text) (i - 1) []))

-- ## A byte in words
-- the marks that editors put before a text: those of UTF-8 and of UTF-16
abbrev pub order_mark : Bytes → Bool
order_mark s = same_bytes_of (take 3 s) (239 ∷ 187 ∷ 191 ∷ []) || (same_bytes_of (take 2 s) (255 ∷ 254 ∷ []) || same_bytes_of (take 2 s) (254 ∷ 255 ∷ []))

unfoldable pub byte_from_42 : ℕ → Bytes
byte_from_42 b = pick (eqb b 42) (ascii "an asterisk") (pick (eqb b 92) (ascii "a backslash") (pick (ltb 127 b) (ascii "a letter outside ASCII") (ascii "a control character")))

unfoldable pub byte_alone : ℕ → Bytes
byte_alone b = pick (eqb b 0) (ascii "a NUL") (pick (eqb b 13) (ascii "a carriage return") (byte_from_42 b))

-- the first of these bytes, if there is one
unfoldable pub byte_words : Bytes → Bytes
byte_words s = pick (order_mark s) (ascii "a byte order mark") (pick (ltb 0 (length s)) (byte_alone (get_or s 0 0)) [])

-- ## The first word of a text
abbrev pub first_bytes : List Field → Bytes
first_bytes [] = []
first_bytes (f ∷ fields) = f.bytes

-- of a line: its first field, which stands before any comment
unfoldable pub word_in : Bytes → Bytes
word_in line = first_bytes (fields_at 0 (outer_of (drop_cr line)))

-- of the first of these lines that has one
unfoldable pub first_word : List Bytes → Bytes
first_word [] = []
first_word (l ∷ lines) = pick (ltb 0 (length (word_in l))) (word_in l) (first_word lines)

-- 01: an MDF begins with `MDF_name`; no RNDF does
abbrev pub mission_first : Bytes → Bool
mission_first text = same_bytes_of (first_word (lines_of text)) (ascii "MDF_name")
