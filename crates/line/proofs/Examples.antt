-- Contents that document 01 names, through the definitions by computation. Assumes nothing.
use Rattle.std.specs.Prelude.{Ok, Err}
use mathlib.Core.Path.{◌≡◌, refl}
use mathlib.Core.List.{[], ◌∷◌}
use Rattle.terms.specs.Ascii.{ascii}
use Rattle.scan.specs.Allowed.{separates, all}
use Rattle.scan.specs.Reach.{up_to, first, two, stops_by}
use Rattle.line.specs.Content.{at, parted-by}
use Rattle.line.specs.Lines.{lines_of, drop_cr}
use Rattle.line.specs.Forms.{outer_of, note_of, closes, form_of, fields_at}

-- 01: "`/*/` is not closed"
not-closed : form_of (ascii "/*/") ≡ Err 3
unfolding ascii separates all up_to first two stops_by outer_of note_of closes form_of
not-closed = refl

closed : form_of (ascii "/**/") ≡ Ok 0
unfolding ascii separates all up_to first two stops_by outer_of note_of closes form_of
closed = refl

-- a comment directly behind a field that ends in `/`
behind-a_slash : form_of (ascii "abc//* x */") ≡ Ok 4
unfolding ascii separates all up_to first two stops_by outer_of note_of closes form_of
behind-a_slash = refl

-- 01: "must close with the first `*/` after those two bytes"
two_closings : form_of (ascii "/* a */ b */") ≡ Err 3
unfolding ascii separates all up_to first two stops_by outer_of note_of closes form_of
two_closings = refl

backslash : form_of (ascii "a\\b") ≡ Err 4
unfolding ascii separates all up_to first two stops_by outer_of note_of closes form_of
backslash = refl

-- L3: "a separator shall be any run of tabs and spaces, and such a run is nothing at a line's start and end, also before and behind a comment"
spaces : form_of (ascii " a\t b /* x */ \t ") ≡ Ok 6
unfolding ascii separates all up_to first two stops_by outer_of note_of closes form_of
spaces = refl

spaced : fields_at 0 (ascii " a\t b ") ≡ at 1 (ascii "a") ∷ at 4 (ascii "b") ∷ []
unfolding ascii separates parted-by fields_at
spaced = refl

fields : fields_at 7 (ascii "\tab\t\tc") ≡ at 8 (ascii "ab") ∷ at 12 (ascii "c") ∷ []
unfolding ascii separates parted-by fields_at
fields = refl

-- 01: "An unfinished last line counts; after a final LF there is no further line."
lines : lines_of (ascii "a\n\nb") ≡ ascii "a" ∷ [] ∷ ascii "b" ∷ []
unfolding ascii lines_of
lines = refl

final-lf : lines_of (ascii "a\n") ≡ ascii "a" ∷ []
unfolding ascii lines_of
final-lf = refl

one-cr : drop_cr (ascii "a\r\r") ≡ ascii "a\r"
unfolding ascii drop_cr
one-cr = refl
