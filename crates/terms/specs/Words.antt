-- WHAT A READER MUST BELIEVE. The words that the definitions use: those of the logic (lists, numbers, equality), bytes, and every one, among, perhaps, between, one behind the other. Assumes nothing.
pub use Rattle.std.specs.Prelude.{◌≡◌, List, [], ◌∷◌, ◌++◌, map, Bool, true, false, not, ◌&&◌, ◌||◌, ◌⊎◌, ℕ, zero, suc, pred, ◌+◌, ◌-◌, ◌*◌, ◌/◌, ◌%◌, ◌≤◌, ◌<◌, length, take, drop, replicate, eqb, ltb, leb, ℤ, pos, neg_ℤ, nat_abs}
pub use Rattle.std.proofs.Math.Option.{Option, none, some}
pub use Prim.Native.Char.{code}
pub use Prim.Native.String.{String}
use Prim.Native.String as S

-- a text, a line, a field: the numbers of its bytes
abbrev pub Bytes : Type 0
Bytes = List ℕ

-- the bytes of a quoted word: `ascii "lane"` is 108, 97, 110, 101
unfoldable pub ascii : String → Bytes
ascii S.[] = []
ascii (S.◌∷◌ c s) = code c ∷ ascii s

-- the first if the test holds, else the second
abbrev pub pick {ℓ} : {A : Type ℓ} → Bool → A → A → A
pick true a b = a
pick false a b = b

-- every one of a list is so
abbrev pub Each : {A : Type 0} → (A → Type 0) → List A → Type 0
Each P [] = Unit {0}
Each P (a ∷ l) = P a × Each P l

-- it is one of these
abbrev pub Among : {A : Type 0} → A → List A → Type 0
Among a [] = ⊥
Among a (b ∷ l) = (a ≡ b) ⊎ Among a l

-- the list of at most one
abbrev pub perhaps : {A : Type 0} → Option A → List A
perhaps none = []
perhaps (some a) = a ∷ []

-- n is not below a and not above b
pub record Between (a b n : ℕ) : Type 0 where
  pub low : a ≤ n
  pub high : n ≤ b

-- parts numbered i, i + 1, .., each spelled in its way, one behind the other
pub data InTurn {A X : Type 0} (Spells : ℕ → A → List X → Type 0) : ℕ → List A → List X → Type 0 where
  nothing : {i : ℕ} → InTurn Spells i [] []
  then : {i : ℕ} {a : A} {rest : List A} {u v : List X} → Spells i a u → InTurn Spells (suc i) rest v → InTurn Spells i (a ∷ rest) (u ++ v)
