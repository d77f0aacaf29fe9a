-- WHAT A READER MUST BELIEVE. The rules of the house writing: the order of options, and what stands between fields. Document 01, "House writing". Assumes nothing.
use Rattle.std.specs.Prelude.{◌≡◌, ◌∷◌, ◌++◌}
use Rattle.terms.specs.Words.{List, [], Bytes, ascii}
use Rattle.scan.specs.Allowed.{tab}
use Rattle.law.specs.Network.{Rules, march_2007}

-- 01: "options in the order listed above, repeats in file order within their kind"
abbrev pub AsListed : {A : Type 0} → List (List A) → List A → Type 0
AsListed [] options = options ≡ []
AsListed {A} (l ∷ ls) options = (rest : List A) × AsListed ls rest × (options ≡ l ++ rest)

-- L3: "The house writing keeps its single tab." One for both editions (L10): whatever the older one accepts, the present rules spell too
abbrev pub house : Rules
house = record { separates = tab; Options = AsListed; spot_checkpoints = 1; edition = march_2007 }

-- 01: "one tab between fields"
unfoldable pub tabbed : List Bytes → Bytes
tabbed [] = []
tabbed (f ∷ []) = f
tabbed (f ∷ g ∷ fields) = f ++ (ascii "\t" ++ tabbed (g ∷ fields))
