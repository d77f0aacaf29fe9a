-- Laws of the integer field. Assumes nothing.
use Rattle.std.specs.Prelude.{Some, None, Option}
use mathlib.Core.Path.{◌≡◌, refl, sym, ap, ◌∙◌}
use mathlib.Core.Bool.{Bool, true, false}
use Prim.Native.Nat.{ℕ, ◌≤◌, ◌<◌}
use native.Mathlib.Omega.{arith}
use borrow.Author.Tests.{le-leb, leb-true}
use lib.ListN.{length}
use lib.Dec.{leb}
use Rattle.terms.specs.Ascii.{Bytes}
use Rattle.terms.specs.Words.{pick}
use Rattle.number.specs.Decimal.{decimal}
use Rattle.number.specs.Spelling.{SpellsInteger}
use Rattle.number.specs.Meaning.{IntegerMeans}
use Rattle.number.specs.Executable.{worth, digits, plain, plain_of, the_integer_of}
use Rattle.number.proofs.Digits.{came, digits-small, plain-digits}
use Rattle.number.proofs.Decimals.{plain-decimal, decimal-worth, decimal-digits, decimal-plain, decimal-short}

-- the answer is right
pub integer-right : (s : Bytes) (n : ℕ) → the_integer_of s ≡ Some n → SpellsInteger s n
unfolding the_integer_of plain_of
integer-right s n e = go (leb (length s) 5) refl e
  where
    go : (x : Bool) → leb (length s) 5 ≡ x → pick x (pick (plain s) (Some (worth 0 s)) None) None ≡ Some n → SpellsInteger s n
    go true q e =
        let p = came (plain s) (worth 0 s) n e in
        let l : worth 0 s < 100000 = digits-small 5 s (plain-digits s p.0) (leb-true (length s) 5 q) in
        record { spelled = rw (← p.1) (plain-decimal s p.0); five_digits = omega (arith, p.1) }
    go false q e = absurd (let z : ◌≡◌ {A = ℕ} 0 1 = cc in omega arith)

-- only this answer is right
pub integer-only : (s : Bytes) (n : ℕ) → SpellsInteger s n → the_integer_of s ≡ Some n
unfolding the_integer_of plain_of
integer-only s n h =
    let l : n ≤ 99999 = h.five_digits in
    rw (h.spelled, le-leb (length (decimal n)) 5 (decimal-short 4 n (omega arith)), decimal-plain n, decimal-worth n)

-- `None` exactly if no value is spelled
pub integer-no : (s : Bytes) → the_integer_of s ≡ None → (n : ℕ) → SpellsInteger s n → ⊥
integer-no s e n h = let q : Some n ≡ None = sym (integer-only s n h) ∙ e in let w : ◌≡◌ {A = ℕ} 0 1 = cc in omega arith

pub integer-none : (s : Bytes) → ((n : ℕ) → SpellsInteger s n → ⊥) → the_integer_of s ≡ None
integer-none s f = go (the_integer_of s) refl
  where
    go : (r : Option ℕ) → the_integer_of s ≡ r → r ≡ None
    go (Some n) e = absurd (f n (integer-right s n e))
    go None e = refl

-- two values never share a spelling
pub integer-same : (s : Bytes) (m n : ℕ) → SpellsInteger s m → SpellsInteger s n → m ≡ n
integer-same s m n g h = let q : Some m ≡ Some n = sym (integer-only s m g) ∙ integer-only s n h in cc

-- the answer means what it says, and no other answer does
pub integer-means : (s : Bytes) → IntegerMeans s (the_integer_of s)
unfolding IntegerMeans
integer-means s = go (the_integer_of s) refl
  where
    go : (r : Option ℕ) → the_integer_of s ≡ r → IntegerMeans s r
    go (Some n) e = integer-right s n e
    go None e = integer-no s e

pub integer-meant : (s : Bytes) (r : Option ℕ) → IntegerMeans s r → r ≡ the_integer_of s
unfolding IntegerMeans
integer-meant s (Some n) h = sym (integer-only s n h)
integer-meant s None h = sym (integer-none s h)

-- a raw integer has at most five digits
pub integer-bound : (s : Bytes) (n : ℕ) → the_integer_of s ≡ Some n → n ≤ 99999
integer-bound s n e = (integer-right s n e).five_digits

-- what spells an integer is made of digits
pub integer-digits : (s : Bytes) (n : ℕ) → SpellsInteger s n → digits s ≡ true
integer-digits s n h = ap digits h.spelled ∙ decimal-digits n
