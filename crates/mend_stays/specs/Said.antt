-- What the three changes of the mending tool hang on, over what lines say in place of their bytes: a line's first field, items up to an end word, the part opened last, options given since, the file's end. Assumes nothing.
use Rattle.std.specs.Prelude.{◌≡◌, ◌∷◌, ◌&&◌, ◌||◌}
use Rattle.terms.specs.Words.{List, [], Bool, false, not, ℕ, suc, Bytes, ascii, pick}
use Rattle.scan.specs.Reach.{same_bytes_of}
use Rattle.law.specs.Network.{Said, Line, word, name, numbers, coordinate, boundary}
use Rattle.law.specs.Faults.{options}
use Rattle.mend_law.specs.Mend.{Count, count, count_lines, opens_part_of, is, one_of}

-- a line's first field: its keyword; `0` for all numbers, which begin with a digit; nothing where no line of a network begins so
abbrev pub key : Line → Bytes
key [] = []
key (word w ∷ l) = w
key (name f ∷ l) = []
key (numbers [] ∷ l) = []
key (numbers (n ∷ i) ∷ l) = ascii "0"
key (coordinate z ∷ l) = []
key (boundary b ∷ l) = []

-- a count's word, the test of its items, and the end word
abbrev pub word_of : Count → Bytes
word_of (count w item end) = ascii w

abbrev pub item_of : Count → Bytes → Bool
item_of (count w item end) = item

abbrev pub end_of : Count → Bytes
end_of (count w item end) = ascii end

-- ## As in mend_law/specs/Mend, by these; `since` in two parts, the part opened last and what was given since
unfoldable pub items_of : Count → List Line → ℕ
items_of c [] = 0
items_of c (l ∷ rest) = pick (same_bytes_of (key l) (end_of c)) 0 (pick (item_of c (key l)) (suc (items_of c rest)) (items_of c rest))

unfoldable pub opened_of : List Line → Bytes
opened_of [] = []
opened_of (l ∷ before) = pick (opens_part_of (key l)) (key l) (opened_of before)

unfoldable pub given_of : Bytes → List Line → Bool
given_of w [] = false
given_of w (l ∷ before) = pick (opens_part_of (key l)) false (same_bytes_of (key l) w || given_of w before)

abbrev pub may_repeat_in : (part option : Bytes) → Bool
may_repeat_in part option = (is "lane" part && one_of (ascii "checkpoint" ∷ ascii "stop" ∷ ascii "exit" ∷ []) option) || (is "perimeter" part && is "exit" option)

-- an option that may not repeat in its part
abbrev pub single : (part option : Bytes) → Bool
single part option = one_of options option && not (may_repeat_in part option)

unfoldable pub ended_of : List Line → Bool
ended_of [] = false
ended_of (l ∷ before) = is "end_file" (key l) || ended_of before

-- ## Nothing to mend
-- the number on a count line is that of the items behind it
pub record Right (c : Count) (rest : List Line) (l : Line) : Type 0 where
  pub head : Said
  pub is : l ≡ head ∷ numbers (items_of c rest ∷ []) ∷ []

abbrev pub CountRight : List Count → Line → List Line → Type 0
CountRight [] l rest = Unit {0}
CountRight (c ∷ cs) l rest = pick (same_bytes_of (key l) (word_of c)) (Right c rest l) (CountRight cs l rest)

-- every count line is right
unfoldable pub Counted : List Line → Type 0
Counted [] = Unit {0}
Counted (l ∷ rest) = CountRight count_lines l rest × Counted rest

-- no single option is given again; `before`, the nearest first
unfoldable pub Once : (before rest : List Line) → Type 0
Once before [] = Unit {0}
Once before (l ∷ rest) = ((single (opened_of before) (key l) && given_of (key l) before) ≡ false) × Once (l ∷ before) rest

-- no line stands behind the file's end
unfoldable pub Within : (before rest : List Line) → Type 0
Within before [] = Unit {0}
Within before (l ∷ rest) = (ended_of before ≡ false) × Within (l ∷ before) rest
