-- In each edition the walk finds the first fault of 2 to 10 that `text` finds, and none where `text` finds none. Assumes nothing.
use mathlib.Core.Path.{◌≡◌, refl, sym, ap, ap₂, ◌∙◌}
use mathlib.Core.List.{List}
use mathlib.Core.Logic.{◌⊎◌, inl, inr}
use Prim.Native.Nat.{ℕ}
use native.Mathlib.Omega.{arith}
use Rattle.terms.specs.Ascii.{Bytes}
use Rattle.line.specs.Content.{Field}
use Rattle.line.specs.Lines.{lines_of}
use Rattle.grammar.specs.Editions.{Edition, march}
use Rattle.grammar.specs.Statements as G
use Rattle.text.specs.Answers.{Answer, faulty, short, read}
use Rattle.text.proofs.Theorems.{read-rndf_in}
use Rattle.statement.specs.declared.Statement.{Statement}
use Rattle.statement.specs.Meaning.{meant}
use Rattle.statement.specs.Kinds.{written}
use Rattle.place.specs.Step.{first_place}
use Rattle.progress.specs.declared.Progress.{Progress}
use Rattle.progress.specs.declared.Row.{Row}
use Rattle.progress.proofs.ByMeaning.{after-by_meaning, row-by_meaning}
use Rattle.walk.specs.Standing.{Where, places_in, over}
use Rattle.walk.specs.Walking.{Found, fault, gathered}
use Rattle.walk.proofs.RndfWalk as R
use Rattle.edition_judge.proofs.EditionWalk as E
use Rattle.network.specs.Storing.{Memory, stored}
use Rattle.network.specs.Reading.{with_progress, put, filled_of}

-- what is put goes by what a statement means
pub by_meaning : (w : Where) (s : Statement) (m : Memory) → put w s m ≡ put w (written (meant s)) m
unfolding put
by_meaning w s m = ap₂ (λ (p : Progress) (a : Row). with_progress p (stored a m)) (after-by_meaning s m.so_far) (row-by_meaning s w.last m.so_far)

pub filled-faulty : (ε : Edition) (text : Bytes) (m : Memory) (i n : ℕ) → read-rndf_in ε text ≡ faulty i n → filled_of ε text m ≡ fault i n
unfolding filled_of
filled-faulty ε text m i n e = E.walk-faulty ε put by_meaning m text i n e

pub filled-short : (ε : Edition) (text : Bytes) (m : Memory) (i : ℕ) → read-rndf_in ε text ≡ short i → filled_of ε text m ≡ fault i 10
unfolding filled_of
filled-short ε text m i e = E.walk-short ε put by_meaning m text i e

-- all statements, each put where it stands
pub filled-over : (ε : Edition) (text : Bytes) (m : Memory) (ts : List (G.Statement Field)) → read-rndf_in ε text ≡ read ts → filled_of ε text m ≡ gathered (over (λ w t. put w (R.told_as t)) (places_in text) ts m)
unfolding filled_of
filled-over ε text m ts e = E.walk-read ε put by_meaning m text ts e

-- ## The other way: what was found tells what `text` answers
abbrev line_of : Found Memory → ℕ
line_of (fault i n) = i
line_of (gathered m) = 0

abbrev number-of : Found Memory → ℕ
number-of (fault i n) = n
number-of (gathered m) = 0

abbrev is-fault : Found Memory → ℕ
is-fault (fault i n) = 1
is-fault (gathered m) = 0

pub no-fault : {m : Memory} {i n : ℕ} → ◌≡◌ {A = Found Memory} (gathered m) (fault i n) → ⊥
no-fault e = let z : ◌≡◌ {A = ℕ} 0 1 = ap is-fault e in omega arith

pub found-fault : (ε : Edition) (text : Bytes) (m : Memory) (i n : ℕ) → filled_of ε text m ≡ fault i n → (read-rndf_in ε text ≡ faulty i n) ⊎ ((read-rndf_in ε text ≡ short i) × (n ≡ 10))
found-fault ε text m i n e = go (read-rndf_in ε text) refl
  where
    go : (a : Answer (G.Statement Field)) → read-rndf_in ε text ≡ a → (read-rndf_in ε text ≡ faulty i n) ⊎ ((read-rndf_in ε text ≡ short i) × (n ≡ 10))
    go (faulty j k) r =
        let q = sym (filled-faulty ε text m j k r) ∙ e in
        inl (r ∙ ap₂ (λ (a b : ℕ). faulty a b) (ap line_of q) (ap number-of q))
    go (short j) r =
        let q = sym (filled-short ε text m j r) ∙ e in
        inr (r ∙ ap (λ (a : ℕ). short a) (ap line_of q), sym (ap number-of q))
    go (read ts) r = absurd (no-fault (sym (filled-over ε text m ts r) ∙ e))

pub found_rows : (ε : Edition) (text : Bytes) (m l : Memory) → filled_of ε text m ≡ gathered l → (ts : List (G.Statement Field)) × (read-rndf_in ε text ≡ read ts)
found_rows ε text m l e = go (read-rndf_in ε text) refl
  where
    go : (a : Answer (G.Statement Field)) → read-rndf_in ε text ≡ a → (ts : List (G.Statement Field)) × (read-rndf_in ε text ≡ read ts)
    go (faulty j k) r = absurd (no-fault (sym e ∙ filled-faulty ε text m j k r))
    go (short j) r = absurd (no-fault (sym e ∙ filled-short ε text m j r))
    go (read ts) r = (ts, r)

-- what is filled in an edition is filled in the present one
pub filled-later : (ε : Edition) (text : Bytes) (m l : Memory) → filled_of ε text m ≡ gathered l → filled_of march text m ≡ gathered l
unfolding filled_of
filled-later ε text m l e = E.walk-later ε put (lines_of text) first_place m 0 1 l e
