-- Laws of the length of a name: the test says what its definition says. Assumes nothing.
use mathlib.Core.Path.{◌≡◌}
use mathlib.Core.Bool.{true, false}
use Prim.Native.Nat.{ℕ}
use borrow.Author.Tests.{le-leb, leb-true}
use lib.Dec.{leb}
use Rattle.terms.proofs.Tests.{refused, both, and}
use Rattle.number.specs.Spelling.{NameLength}
use Rattle.number.specs.Executable.{is_name_length_of}

pub name-right : (n : ℕ) → is_name_length_of n ≡ true → NameLength n
name-right n e =
    let p = both (leb 1 n) (leb n 128) e in
    record { low = leb-true 1 n p.0; high = leb-true n 128 p.1 }

pub name-only : (n : ℕ) → NameLength n → is_name_length_of n ≡ true
name-only n h = and (le-leb 1 n h.low) (le-leb n 128 h.high)

pub name-no : (n : ℕ) → is_name_length_of n ≡ false → NameLength n → ⊥
name-no n e h = refused (name-only n) e h
