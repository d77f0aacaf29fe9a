-- WHAT A READER MUST BELIEVE. The words in which planners are told what may stand where a line is refused. Small letters, digits and points are typed as they stand; capitals stand for a field. Assumes nothing.
use Rattle.std.specs.Prelude.{◌∷◌, ◌++◌, ◌&&◌, ◌-◌}
use Rattle.terms.specs.Words.{List, [], map, Bool, true, ℕ, zero, suc, length, eqb, Bytes, ascii, pick, take}
use Rattle.number.specs.Decimal.{decimal}
use Rattle.law.specs.Network.{PointId, boundary_word_of, dotted}
use Rattle.expected_law.specs.Expected.{Item, this, a_name, numbers, ceiling, degrees, one_of, Form, Expectation, lines, fields, field, entries, new_number, the_name, goals, ids, missing}

-- one behind the other, with this between
unfoldable pub joined : Bytes → List Bytes → Bytes
joined between [] = []
joined between (a ∷ []) = a
joined between (a ∷ b ∷ l) = a ++ (between ++ joined between (b ∷ l))

abbrev pub and_more : ℕ → Bytes
and_more zero = []
and_more (suc n) = ascii " and " ++ (decimal (suc n) ++ ascii " more")

-- the first six, and how many more there are
unfoldable pub some_of : List Bytes → Bytes
some_of l = joined (ascii ", ") (take 6 l) ++ and_more (length l - 6)

-- ## A field by its shape: as it is typed where it has one value, else the capitals that stand for it
unfoldable pub all_due : List (ℕ × ℕ) → Bool
all_due [] = true
all_due (r ∷ rs) = eqb r.0 r.1 && all_due rs

unfoldable pub shape : Item → Bytes
shape (this w) = w
shape a_name = ascii "NAME"
shape (numbers w rs) = pick (all_due rs) (dotted (map (λ r. r.0) rs)) w
shape ceiling = ascii "MAXIMUM"
shape (degrees d) = pick (eqb d 90000000) (ascii "LATITUDE") (ascii "LONGITUDE")
shape (one_of bs) = ascii "BOUNDARY"

unfoldable pub form_words : Form → Bytes
form_words form = joined (ascii " ") (map shape form)

-- ## A field by its range
abbrev pub range : ℕ × ℕ → Bytes
range r = ascii "from " ++ (decimal r.0 ++ (ascii " to " ++ decimal r.1))

-- a number, or a point of one part, or any point
unfoldable pub ranges_words : List (ℕ × ℕ) → Bytes
ranges_words [] = []
ranges_words (r ∷ []) = ascii "a number " ++ range r
ranges_words (r ∷ s ∷ []) = ascii "M.N with M " ++ (range r ++ (ascii ", N " ++ range s))
ranges_words (r ∷ s ∷ t ∷ rs) = pick (all_due (r ∷ s ∷ [])) (dotted (r.0 ∷ s.0 ∷ t.0 ∷ []) ++ (ascii " to " ++ dotted (r.0 ∷ s.0 ∷ t.1 ∷ []))) (ascii "X.Y.Z with X " ++ (range r ++ (ascii ", Y " ++ (range s ++ (ascii ", Z " ++ range t)))))

-- behind a field of these bytes
unfoldable pub item_words : (before : Bytes) → Item → Bytes
item_words before (this w) = w
item_words before a_name = ascii "a name of 1 to 128 bytes"
item_words before (numbers w rs) = pick (all_due rs) (dotted (map (λ r. r.0) rs)) (ranges_words rs)
item_words before ceiling = ascii "0, or a number from " ++ (before ++ ascii " to 32768")
item_words before (degrees d) = pick (eqb d 90000000) (ascii "a latitude from -90.000000 to 90.000000, six digits behind the point") (ascii "a longitude from -180.000000 to 180.000000, six digits behind the point")
item_words before (one_of bs) = joined (ascii ", ") (map boundary_word_of bs)

-- a part, told by its last point, by all its points: 1.1.1 to 1.1.3, or 2.1.1
unfoldable pub points_words : PointId → Bytes
points_words a = item_words [] (numbers [] ((a.x, a.x) ∷ (a.y, a.y) ∷ (1, a.z) ∷ []))

-- ## What is told
unfoldable pub owed_words : ℕ → Bytes
owed_words zero = []
owed_words (suc zero) = ascii " (1 such line is still owed)"
owed_words (suc (suc n)) = ascii " (" ++ (decimal (suc (suc n)) ++ ascii " such lines are still owed)")

abbrev pub here : Bytes → Bytes
here what = ascii "may stand here: " ++ what

unfoldable pub told : Expectation → Bytes
told (lines owed []) = here (ascii "nothing but blank lines and comments, for the file has ended")
told (lines owed (form ∷ forms)) = here (joined (ascii ", ") (map form_words (form ∷ forms)) ++ owed_words owed)
told (fields form) = here (form_words form ++ (ascii " (" ++ (decimal (length form) ++ pick (eqb (length form) 1) (ascii " field)") (ascii " fields)"))))
told (field before item) = here (item_words before item)
told (entries l) = here (some_of (map points_words l))
told new_number = here (ascii "a number from 1 to 32768 that no line before declares")
told (the_name bytes) = here bytes
told (goals []) = here (ascii "nothing, for the RNDF has no checkpoint")
told (goals (n ∷ l)) = here (ascii "a checkpoint of the RNDF: " ++ some_of (map decimal (n ∷ l)))
told (ids []) = here (ascii "nothing, for every segment and zone has its limit")
told (ids (n ∷ l)) = here (ascii "an id that has no limit yet: " ++ some_of (map decimal (n ∷ l)))
told (missing l) = ascii "without a limit: " ++ some_of (map decimal l)
