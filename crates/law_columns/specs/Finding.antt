-- Executable: the column of a line at a place, by the refusal's number, and of line i of a text. For every file. Assumes nothing.
use Rattle.std.specs.Prelude.{List, [], ◌∷◌, Bool, true, false, ◌||◌, ℕ, zero, suc, ◌+◌, length, eqb}
use Rattle.std.proofs.Math.Option.{Option, none, some}
use Prim.Native.Char.{code}
use Rattle.terms.specs.Ascii.{Bytes}
use Rattle.terms.specs.Words.{pick}
use Rattle.scan.specs.Allowed.{outside, inside}
use Rattle.scan.specs.Reach.{two, up_to, fails}
use Rattle.line.specs.Content.{Field}
use Rattle.line.specs.Lines.{lines_of, drop_cr}
use Rattle.line.specs.Forms.{opens, outer_of, fields_at}
use Rattle.grammar.specs.Language.{Lang, S, say}
use Rattle.grammar.specs.Machine.{Out, next, refuse, Machine, Place, at, step}
use Rattle.grammar.specs.Stands.{stands}
use Rattle.text.specs.Judge.{Sort, read, Vals, Verdict, fault, good, Lexis, kind_at, args, judge}

-- ## 4
-- how many bytes stand before the first that is not allowed
unfoldable pub bad_at_of : Bytes → ℕ
bad_at_of [] = 0
bad_at_of (b ∷ rest) = pick (two (code "/") (code "*") (b ∷ rest)) (up_to (fails inside) (b ∷ rest)) (pick (outside b) (suc (bad_at_of rest)) 0)

-- ## 8 and 9: how many of some fields stand before the first wrong one. The last is not tried: it is wrong where none before it is
abbrev pub on_read : {A : Type 0} → Option A → (A → ℕ) → ℕ
on_read none k = 0
on_read (some v) k = k v

-- a field that is not of its sort is wrong, and one behind which the test refuses what goes on with low values
unfoldable pub wrong_at : (ss : List Sort) → (Vals ss → Bool) → (low : Vals ss) → List Field → ℕ
wrong_at [] test low fs = 0
wrong_at (s ∷ []) test low fs = 0
wrong_at (s ∷ t ∷ ss) test low [] = 0
wrong_at (s ∷ t ∷ ss) test low (f ∷ fs) = on_read (read s f) (λ v. pick (test (v, low.1)) (suc (wrong_at (t ∷ ss) (λ u. test (v, u)) low.1 fs)) 0)

-- what lacks nothing but a spot's checkpoint (25) counts as taken: 9 is decided without it
abbrev pub taken? : {P : Type 0} → Out P → Bool
taken? (next q) = true
taken? (refuse n) = eqb n 25

-- ## The other numbers: the field, counted from 0
abbrev pub listed_at : ℕ → ℕ
listed_at n = pick (eqb n 12 || eqb n 13) 2 (pick (eqb n 14) 1 0)

-- where a field starts
abbrev pub start_of : ℕ → List Field → ℕ
start_of i [] = 0
start_of zero (f ∷ fs) = f.start
start_of (suc i) (f ∷ fs) = start_of i fs

-- the keyword counts too
abbrev pub behind_word : Option Bytes → ℕ → ℕ
behind_word none i = i
behind_word (some w) i = suc i

module _ {L : Lang} (A : Machine L) (X : Lexis L) (low : (k : L.Kind) → Vals (X.sorts k)) where
  open L use {Kind}
  open X use {keyword, sorts, make}

  -- the place takes the statement of these values
  abbrev pub takes : Place A → (k : Kind) → Vals (sorts k) → Bool
  takes p k w = taken? (step A p (say L k (make k w)))

  -- for 8 the sorts alone count
  abbrev pub tests : Place A → (k : Kind) → ℕ → Vals (sorts k) → Bool
  tests p k n w = pick (eqb n 8) true (takes p k w)

  -- of a kind that may stand here, with as many fields as it has; else the first field
  abbrev pub unless_refused : Option ℕ → ℕ → ℕ
  unless_refused none i = i
  unless_refused (some c) i = 0

  abbrev pub kind_field_of : Place A → ℕ → Option Kind → Field → List Field → ℕ
  kind_field_of p n none f fs = 0
  kind_field_of p n (some k) f fs = unless_refused (stands A p k) (pick (eqb (length (args A X (keyword k) f fs)) (length (sorts k))) (behind_word (keyword k) (wrong_at (sorts k) (tests p k n) (low k) (args A X (keyword k) f fs))) 0)

  -- the field at fault, counted from 0
  unfoldable pub field_at : Place A → ℕ → Field → List Field → ℕ
  field_at p n f fs = pick (eqb n 8 || eqb n 9) (kind_field_of p n (kind_at A X p f) f fs) (listed_at n)

  abbrev pub fields_column_of : Place A → ℕ → List Field → ℕ
  fields_column_of p n [] = 0
  fields_column_of p n (f ∷ fs) = suc (start_of (field_at p n f fs) (f ∷ fs))

  -- of a line at a place
  unfoldable pub column_of : Place A → ℕ → Bytes → ℕ
  column_of p n line = pick (eqb n 2) 513 (pick (eqb n 3) (suc (up_to opens (drop_cr line))) (pick (eqb n 4) (suc (bad_at_of (drop_cr line))) (fields_column_of p n (fields_at 0 (outer_of (drop_cr line))))))

  -- ## Line i of lines, the first of which starts at a place of the text and has the number j
  abbrev pub onward : Verdict (S L) (Place A) → (Place A → ℕ) → ℕ
  onward (fault c) k = 0
  onward (good o q) k = k q

  unfoldable pub column_from : Place A → (start j i n : ℕ) → List Bytes → ℕ
  column_from p start j i n [] = 0
  column_from p start j i n (l ∷ ls) = pick (eqb j i) (column_of p n l) (onward (judge A X p start l) (λ q. column_from q (start + suc (length l)) (suc j) i n ls))

  -- of line i of a text with the refusal n; 0 where there is no such line
  unfoldable pub column_in : A.Base → Bytes → (i n : ℕ) → ℕ
  column_in first text i n = column_from (at A first) 0 1 i n (lines_of text)
