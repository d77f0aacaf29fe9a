-- Whether a keyword is one of the law's options, by a test that computes. Assumes nothing.
use mathlib.Core.List.{List, [], ◌∷◌}
use mathlib.Core.Option.{Option, none, some}
use mathlib.Core.Bool.{Bool, true, false, not, ◌&&◌}
use lib.ListN.{length}
use lib.Dec.{T, ltb, ltb→lt, lt→ltb}
use lib.Ieee.Fits.{and_l, and_r}
use Rattle.terms.specs.Ascii.{Bytes}
use Rattle.terms.specs.Words.{Each}
use Rattle.word.specs.Number.{index_of}
use Rattle.word.proofs.Index.{index-among, among_index}
use Rattle.grammar.specs.Language.{Lang}
use Rattle.grammar.specs.Machine.{Opt}
use Rattle.law.specs.Faults.{options}
use Rattle.law_faults.proofs.Needs.{Listed}

abbrev pub listed? : Option Bytes → Bool
listed? none = false
listed? (some w) = ltb (index_of w options) (length options)

pub listed-so : (o : Option Bytes) → T (listed? o) → Listed o
listed-so none t = t
listed-so (some w) t = index-among w options (ltb→lt (index_of w options) (length options) t)

unlisted-at : (b : Bool) → T (not b) → T b → ⊥
unlisted-at true t u = t
unlisted-at false t u = u

pub unlisted-so : (o : Option Bytes) → T (not (listed? o)) → Listed o → ⊥
unlisted-so none t h = h
unlisted-so (some w) t h = unlisted-at (ltb (index_of w options) (length options)) t (lt→ltb (index_of w options) (length options) (among_index w options h))

-- so is every option of a row
abbrev pub all-listed? : (L : Lang) → (L.Kind → Option Bytes) → List (Opt L.Kind L.Pay) → Bool
all-listed? L keyword [] = true
all-listed? L keyword (o ∷ row) = listed? (keyword o.on) && all-listed? L keyword row

pub all-listed-so : (L : Lang) (keyword : L.Kind → Option Bytes) (row : List (Opt L.Kind L.Pay)) → T (all-listed? L keyword row) → Each (λ o. Listed (keyword o.on)) row
all-listed-so L keyword [] t = tt
all-listed-so L keyword (o ∷ row) t = (
  listed-so (keyword o.on) (and_l (listed? (keyword o.on)) (all-listed? L keyword row) t),
  all-listed-so L keyword row (and_r (listed? (keyword o.on)) (all-listed? L keyword row) t),
)
