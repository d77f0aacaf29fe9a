-- `word::row_at` meets its contract: each arm is what is known of the word whose place it is. Assumes nothing.
use mathlib.Core.Path.{sym, ap}
use Prim.Native.Nat.{ℕ}
use borrow.Author.Rules.{rules}
use Rattle.terms.specs.Ascii.{ascii}
use Rattle.scan.specs.Reach.{same_bytes_of}
use Rattle.word.specs.Keywords.{rndf_keywords, mdf_keywords, boundary_words}
use Rattle.word.specs.Number.{index_of}
use Rattle.word.specs.Packed.{packed}
use Rattle.word.specs.Table.{words, known_of, row_of, places, place_at_of}
use Rattle.word.proofs.Places.{elsewhere}
use Rattle.word.proofs.row_at.Goals as goal

pub returns-in-0 : goal.returns-in-0
unfolding places words rndf_keywords mdf_keywords boundary_words ascii index_of same_bytes_of packed known_of
returns-in-0 c = sym (ap (λ (h : ℕ). row_of (known_of (place_at_of h))) c.in-0.is)

pub returns-in-1 : goal.returns-in-1
unfolding places words rndf_keywords mdf_keywords boundary_words ascii index_of same_bytes_of packed known_of
returns-in-1 c = sym (ap (λ (h : ℕ). row_of (known_of (place_at_of h))) c.in-1.is)

pub returns-in-2 : goal.returns-in-2
unfolding places words rndf_keywords mdf_keywords boundary_words ascii index_of same_bytes_of packed known_of
returns-in-2 c = sym (ap (λ (h : ℕ). row_of (known_of (place_at_of h))) c.in-2.is)

pub returns-in-3 : goal.returns-in-3
unfolding places words rndf_keywords mdf_keywords boundary_words ascii index_of same_bytes_of packed known_of
returns-in-3 c = sym (ap (λ (h : ℕ). row_of (known_of (place_at_of h))) c.in-3.is)

pub returns-in-4 : goal.returns-in-4
unfolding places words rndf_keywords mdf_keywords boundary_words ascii index_of same_bytes_of packed known_of
returns-in-4 c = sym (ap (λ (h : ℕ). row_of (known_of (place_at_of h))) c.in-4.is)

pub returns-in-5 : goal.returns-in-5
unfolding places words rndf_keywords mdf_keywords boundary_words ascii index_of same_bytes_of packed known_of
returns-in-5 c = sym (ap (λ (h : ℕ). row_of (known_of (place_at_of h))) c.in-5.is)

pub returns-in-6 : goal.returns-in-6
unfolding places words rndf_keywords mdf_keywords boundary_words ascii index_of same_bytes_of packed known_of
returns-in-6 c = sym (ap (λ (h : ℕ). row_of (known_of (place_at_of h))) c.in-6.is)

pub returns-in-9 : goal.returns-in-9
unfolding places words rndf_keywords mdf_keywords boundary_words ascii index_of same_bytes_of packed known_of
returns-in-9 c = sym (ap (λ (h : ℕ). row_of (known_of (place_at_of h))) c.in-9.is)

pub returns-in-13 : goal.returns-in-13
unfolding places words rndf_keywords mdf_keywords boundary_words ascii index_of same_bytes_of packed known_of
returns-in-13 c = sym (ap (λ (h : ℕ). row_of (known_of (place_at_of h))) c.in-13.is)

pub returns-in-14 : goal.returns-in-14
unfolding places words rndf_keywords mdf_keywords boundary_words ascii index_of same_bytes_of packed known_of
returns-in-14 c = sym (ap (λ (h : ℕ). row_of (known_of (place_at_of h))) c.in-14.is)

pub returns-in-18 : goal.returns-in-18
unfolding places words rndf_keywords mdf_keywords boundary_words ascii index_of same_bytes_of packed known_of
returns-in-18 c = sym (ap (λ (h : ℕ). row_of (known_of (place_at_of h))) c.in-18.is)

pub returns-in-19 : goal.returns-in-19
unfolding places words rndf_keywords mdf_keywords boundary_words ascii index_of same_bytes_of packed known_of
returns-in-19 c = sym (ap (λ (h : ℕ). row_of (known_of (place_at_of h))) c.in-19.is)

pub returns-in-20 : goal.returns-in-20
unfolding places words rndf_keywords mdf_keywords boundary_words ascii index_of same_bytes_of packed known_of
returns-in-20 c = sym (ap (λ (h : ℕ). row_of (known_of (place_at_of h))) c.in-20.is)

pub returns-in-21 : goal.returns-in-21
unfolding places words rndf_keywords mdf_keywords boundary_words ascii index_of same_bytes_of packed known_of
returns-in-21 c = sym (ap (λ (h : ℕ). row_of (known_of (place_at_of h))) c.in-21.is)

pub returns-in-22 : goal.returns-in-22
unfolding places words rndf_keywords mdf_keywords boundary_words ascii index_of same_bytes_of packed known_of
returns-in-22 c = sym (ap (λ (h : ℕ). row_of (known_of (place_at_of h))) c.in-22.is)

pub returns-in-23 : goal.returns-in-23
unfolding places words rndf_keywords mdf_keywords boundary_words ascii index_of same_bytes_of packed known_of
returns-in-23 c = sym (ap (λ (h : ℕ). row_of (known_of (place_at_of h))) c.in-23.is)

pub returns-in-25 : goal.returns-in-25
unfolding places words rndf_keywords mdf_keywords boundary_words ascii index_of same_bytes_of packed known_of
returns-in-25 c = sym (ap (λ (h : ℕ). row_of (known_of (place_at_of h))) c.in-25.is)

pub returns-in-26 : goal.returns-in-26
unfolding places words rndf_keywords mdf_keywords boundary_words ascii index_of same_bytes_of packed known_of
returns-in-26 c = sym (ap (λ (h : ℕ). row_of (known_of (place_at_of h))) c.in-26.is)

pub returns-in-30 : goal.returns-in-30
unfolding places words rndf_keywords mdf_keywords boundary_words ascii index_of same_bytes_of packed known_of
returns-in-30 c = sym (ap (λ (h : ℕ). row_of (known_of (place_at_of h))) c.in-30.is)

pub returns-in-34 : goal.returns-in-34
unfolding places words rndf_keywords mdf_keywords boundary_words ascii index_of same_bytes_of packed known_of
returns-in-34 c = sym (ap (λ (h : ℕ). row_of (known_of (place_at_of h))) c.in-34.is)

pub returns-in-35 : goal.returns-in-35
unfolding places words rndf_keywords mdf_keywords boundary_words ascii index_of same_bytes_of packed known_of
returns-in-35 c = sym (ap (λ (h : ℕ). row_of (known_of (place_at_of h))) c.in-35.is)

pub returns-in-36 : goal.returns-in-36
unfolding places words rndf_keywords mdf_keywords boundary_words ascii index_of same_bytes_of packed known_of
returns-in-36 c = sym (ap (λ (h : ℕ). row_of (known_of (place_at_of h))) c.in-36.is)

pub returns-in-38 : goal.returns-in-38
unfolding places words rndf_keywords mdf_keywords boundary_words ascii index_of same_bytes_of packed known_of
returns-in-38 c = sym (ap (λ (h : ℕ). row_of (known_of (place_at_of h))) c.in-38.is)

pub returns-in-39 : goal.returns-in-39
unfolding places words rndf_keywords mdf_keywords boundary_words ascii index_of same_bytes_of packed known_of
returns-in-39 c = sym (ap (λ (h : ℕ). row_of (known_of (place_at_of h))) c.in-39.is)

pub returns-in-40 : goal.returns-in-40
unfolding places words rndf_keywords mdf_keywords boundary_words ascii index_of same_bytes_of packed known_of
returns-in-40 c = sym (ap (λ (h : ℕ). row_of (known_of (place_at_of h))) c.in-40.is)

pub returns-in-42 : goal.returns-in-42
unfolding places words rndf_keywords mdf_keywords boundary_words ascii index_of same_bytes_of packed known_of
returns-in-42 c = sym (ap (λ (h : ℕ). row_of (known_of (place_at_of h))) c.in-42.is)

pub returns-in-46 : goal.returns-in-46
unfolding places words rndf_keywords mdf_keywords boundary_words ascii index_of same_bytes_of packed known_of
returns-in-46 c = sym (ap (λ (h : ℕ). row_of (known_of (place_at_of h))) c.in-46.is)

pub returns-in-47 : goal.returns-in-47
unfolding places words rndf_keywords mdf_keywords boundary_words ascii index_of same_bytes_of packed known_of
returns-in-47 c = sym (ap (λ (h : ℕ). row_of (known_of (place_at_of h))) c.in-47.is)

pub returns-in-48 : goal.returns-in-48
unfolding places words rndf_keywords mdf_keywords boundary_words ascii index_of same_bytes_of packed known_of
returns-in-48 c = sym (ap (λ (h : ℕ). row_of (known_of (place_at_of h))) c.in-48.is)

pub returns-in-53 : goal.returns-in-53
unfolding places words rndf_keywords mdf_keywords boundary_words ascii index_of same_bytes_of packed known_of
returns-in-53 c = sym (ap (λ (h : ℕ). row_of (known_of (place_at_of h))) c.in-53.is)

pub returns-in-54 : goal.returns-in-54
unfolding places words rndf_keywords mdf_keywords boundary_words ascii index_of same_bytes_of packed known_of
returns-in-54 c = sym (ap (λ (h : ℕ). row_of (known_of (place_at_of h))) c.in-54.is)

pub returns-in-55 : goal.returns-in-55
unfolding places words rndf_keywords mdf_keywords boundary_words ascii index_of same_bytes_of packed known_of
returns-in-55 c = sym (ap (λ (h : ℕ). row_of (known_of (place_at_of h))) c.in-55.is)

pub returns-in-56 : goal.returns-in-56
unfolding places words rndf_keywords mdf_keywords boundary_words ascii index_of same_bytes_of packed known_of
returns-in-56 c = sym (ap (λ (h : ℕ). row_of (known_of (place_at_of h))) c.in-56.is)

pub returns-in-57 : goal.returns-in-57
unfolding places words rndf_keywords mdf_keywords boundary_words ascii index_of same_bytes_of packed known_of
returns-in-57 c = sym (ap (λ (h : ℕ). row_of (known_of (place_at_of h))) c.in-57.is)

pub returns-in-58 : goal.returns-in-58
unfolding places words rndf_keywords mdf_keywords boundary_words ascii index_of same_bytes_of packed known_of
returns-in-58 c = sym (ap (λ (h : ℕ). row_of (known_of (place_at_of h))) c.in-58.is)

pub returns-in-59 : goal.returns-in-59
unfolding places words rndf_keywords mdf_keywords boundary_words ascii index_of same_bytes_of packed known_of
returns-in-59 c = sym (ap (λ (h : ℕ). row_of (known_of (place_at_of h))) c.in-59.is)

pub returns-in-60 : goal.returns-in-60
unfolding places words rndf_keywords mdf_keywords boundary_words ascii index_of same_bytes_of packed known_of
returns-in-60 c = sym (ap (λ (h : ℕ). row_of (known_of (place_at_of h))) c.in-60.is)

pub returns-in-61 : goal.returns-in-61
unfolding places words rndf_keywords mdf_keywords boundary_words ascii index_of same_bytes_of packed known_of
returns-in-61 c = sym (ap (λ (h : ℕ). row_of (known_of (place_at_of h))) c.in-61.is)

pub returns-in-62 : goal.returns-in-62
unfolding places words rndf_keywords mdf_keywords boundary_words ascii index_of same_bytes_of packed known_of
returns-in-62 c = sym (ap (λ (h : ℕ). row_of (known_of (place_at_of h))) c.in-62.is)

pub returns-in-63 : goal.returns-in-63
unfolding places words rndf_keywords mdf_keywords boundary_words ascii index_of same_bytes_of packed known_of
returns-in-63 c = sym (ap (λ (h : ℕ). row_of (known_of (place_at_of h))) c.in-63.is)

pub returns-in_default : goal.returns-in_default
unfolding words rndf_keywords mdf_keywords boundary_words ascii index_of same_bytes_of packed known_of
returns-in_default c = sym (ap (λ (k : ℕ). row_of (known_of k)) (elsewhere c.args.place (search rules) c.in_default.in_default-own.rest))
