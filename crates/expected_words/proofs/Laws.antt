-- Laws of the words for callers. Assumes nothing.
use mathlib.Core.Path.{◌≡◌, refl, ap, ◌∙◌}
use mathlib.Core.List.{List, [], ◌∷◌, map}
use Prim.Native.Nat.{ℕ, zero, suc, ◌-◌}
use native.Mathlib.Omega.{arith}
use lib.ListN.{take, get_or}
use Rattle.terms.specs.Ascii.{Bytes, ascii}
use Rattle.line.specs.Lines.{lines_of, drop_cr}
use Rattle.word.specs.Keywords.{rndf_keywords, mdf_keywords}
use Rattle.law.specs.Network.{PointId}
use Rattle.shown.specs.Shown.{line_in}
use Rattle.expected_law.specs.Expected.{Item, this, a_name, numbers, ceiling, degrees, one_of}
use Rattle.expected_law.specs.Telling.{item_words, points_words}
use Rattle.expected_words.specs.Items.{rndf_words_of, rndf_word, mdf_words_of, mdf_word, the_point_words_of}
use Rattle.expected_words.proofs.Cases.{points-told}

-- an item that is no maximum is told in the same words whatever stands before it
pub before_idle : (before : Bytes) (i : Item) → (i ≡ ceiling → ⊥) → item_words before i ≡ item_words [] i
unfolding item_words
before_idle before (this w) d = refl
before_idle before a_name d = refl
before_idle before (numbers w rs) d = refl
before_idle before ceiling d = absurd (d refl)
before_idle before (degrees z) d = refl
before_idle before (one_of bs) d = refl

-- what `put_point_words` puts of a part, told by its last point
pub all-points : (a : PointId) → the_point_words_of a.x a.y 1 a.z ≡ points_words a
unfolding points_words item_words
all-points a = points-told 1 a.z a.x a.y []

-- ## Keywords: by their kinds they are those of the tables in `word`
abbrev cut : Bytes → Bytes
cut l = take 513 (drop_cr l)

cut-one : (ls : List Bytes) (k : ℕ) → cut (get_or ls k []) ≡ get_or (map cut ls) k []
unfolding drop_cr
cut-one [] zero = refl
cut-one [] (suc k) = refl
cut-one (l ∷ ls) zero = refl
cut-one (l ∷ ls) (suc k) = cut-one ls k

by_kind : (words : Bytes) (keywords : List Bytes) → map cut (lines_of words) ≡ keywords → (kind : ℕ) → line_in words (suc kind) ≡ get_or keywords kind []
unfolding line_in
by_kind words keywords h kind = let e : suc kind - 1 ≡ kind = omega arith in rw e (cut-one (lines_of words) kind ∙ ap (λ (ls : List Bytes). get_or ls kind []) h)

pub rndf-word-by-kind : (kind : ℕ) → rndf_word kind ≡ get_or rndf_keywords kind []
unfolding ascii lines_of drop_cr rndf_word rndf_keywords
rndf-word-by-kind kind = by_kind rndf_words_of rndf_keywords refl kind

pub mdf-word-by-kind : (kind : ℕ) → mdf_word kind ≡ get_or mdf_keywords kind []
unfolding ascii lines_of drop_cr mdf_word mdf_keywords
mdf-word-by-kind kind = by_kind mdf_words_of mdf_keywords refl kind
