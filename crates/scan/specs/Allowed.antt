-- WHAT A READER MUST BELIEVE. Which bytes separate fields, which are allowed outside and inside comments. Assumes nothing.
use Rattle.std.specs.Prelude.{◌∷◌, ◌&&◌, ◌||◌}
use Rattle.terms.specs.Words.{[], Bool, true, not, ℕ, code, eqb, leb, Bytes}

-- the numbers from m to n
abbrev pub within : ℕ → ℕ → ℕ → Bool
within m n b = leb m b && leb b n

abbrev pub digit : ℕ → Bool
digit b = within (code "0") (code "9") b

-- 01: "Fields are separated by one or more tabs": the rule before L3
abbrev pub tab : ℕ → Bool
tab b = eqb b (code "\t")

-- L3: "a separator shall be any run of tabs and spaces"
-- The one place that says which bytes these are; where 01 says "only tabs", it is these bytes too.
unfoldable pub separates : ℕ → Bool
separates b = tab b || eqb b (code " ")

-- a byte of a field, see `outside`
abbrev pub field_byte : ℕ → Bool
field_byte b = within 33 126 b && (not (eqb b (code "\\")) && not (eqb b (code "*")))

-- 01: "Outside comments the bytes are 33 to 126 and tab, but no backslash and no `*`.": those of fields, and those that separate them. L3: "4 is no longer given for a space"
abbrev pub allowed_outside : (separates : ℕ → Bool) → ℕ → Bool
allowed_outside separates b = separates b || field_byte b

abbrev pub outside : ℕ → Bool
outside = allowed_outside separates

-- 01: "Inside, 32 to 126 and tab."
abbrev pub inside : ℕ → Bool
inside b = tab b || within 32 126 b

-- every byte passes a test
unfoldable pub all : (ℕ → Bool) → Bytes → Bool
all test [] = true
all test (b ∷ rest) = test b && all test rest
