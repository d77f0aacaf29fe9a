-- Tables whose records have no name: the walk that code makes over records of one size (packed_rows::are_records_of) says what `all_here` says. Assumes nothing.
use mathlib.Core.Path.{◌≡◌, refl, sym, ap, ap₂, subst, ◌∙◌}
use mathlib.Core.List.{List, [], ◌∷◌}
use mathlib.Core.Bool.{Bool, true, false, ◌&&◌}
use mathlib.Core.Logic.{◌⊎◌, inl, inr, ⊎_elim}
use Prim.Native.Nat.{ℕ, zero, suc, ◌+◌, ◌-◌, ◌*◌, ◌≤◌, ◌<◌}
use native.Mathlib.Omega.{arith}
use lib.Dec.{leb, eqb}
use lib.ListN.{length, take, drop, get_or, length-drop}
use borrow.Author.Tests.{leb-true, leb-false, le-leb, lt-leb}
use Rattle.terms.specs.Ascii.{Bytes}
use Rattle.terms.specs.Words.{pick}
use Rattle.unpackings.proofs.Cutting.{Kind, of_size, of-coordinate, of-name}
use Rattle.packed_rows.specs.Walk.{two}
use Rattle.packed_rows.specs.Fixed.{record_here, records_here}
use Rattle.packed_tables.proofs.Numbers.{value, value-from}
use Rattle.packed_tables.proofs.Reading.{size-here}
use Rattle.packed_tables.proofs.Records.{sizes, there, here, whole-size, all_here, after}
use Rattle.packed_tables.proofs.Whole.{lane-kinds, spot-kinds, point-kinds, checkpoint-kinds, stop-kinds, exit-kinds}

-- the size of fields without names
abbrev pub NoNames : List Kind → Type 0
NoNames [] = Unit {0}
NoNames (of_size k ∷ ks) = NoNames ks
NoNames (of-coordinate ∷ ks) = NoNames ks
NoNames (of-name ∷ ks) = ⊥

abbrev pub size_of : List Kind → ℕ
size_of [] = 0
size_of (of_size k ∷ ks) = k + size_of ks
size_of (of-coordinate ∷ ks) = 4 + size_of ks
size_of (of-name ∷ ks) = 0

pub sizes-so : (ks : List Kind) (b : Bytes) → NoNames ks → sizes ks b ≡ size_of ks
unfolding sizes
sizes-so [] b h = refl
sizes-so (of_size k ∷ ks) b h = ap (λ (m : ℕ). k + m) (sizes-so ks (drop k b) h)
sizes-so (of-coordinate ∷ ks) b h = ap (λ (m : ℕ). 4 + m) (sizes-so ks (drop 4 b) h)
sizes-so (of-name ∷ ks) b h = absurd h

pub both_leb : (k m : ℕ) (b : Bytes) → (leb k (length b) && leb m (length (drop k b))) ≡ leb (k + m) (length b)
both_leb k m b = go (leb k (length b)) refl
  where
    go : (x : Bool) → leb k (length b) ≡ x → (x && leb m (length (drop k b))) ≡ leb (k + m) (length b)
    go false e = let h = leb-false k (length b) e in sym (lt-leb (k + m) (length b) (omega arith))
    go true e = let h = leb-true k (length b) e in let d = length-drop k b in rest (leb m (length (drop k b))) refl
      where
        rest : (y : Bool) → leb m (length (drop k b)) ≡ y → y ≡ leb (k + m) (length b)
        rest true f = let g = leb-true m (length (drop k b)) f in let d = length-drop k b in let h = leb-true k (length b) e in sym (le-leb (k + m) (length b) (omega arith))
        rest false f = let g = leb-false m (length (drop k b)) f in let d = length-drop k b in let h = leb-true k (length b) e in sym (lt-leb (k + m) (length b) (omega arith))

there-so : (ks : List Kind) (b : Bytes) → NoNames ks → there ks b ≡ leb (size_of ks) (length b)
unfolding there
there-so [] b h = sym (le-leb 0 (length b) (omega arith))
there-so (of_size k ∷ ks) b h = ap (λ (x : Bool). leb k (length b) && x) (there-so ks (drop k b) h) ∙ both_leb k (size_of ks) b
there-so (of-coordinate ∷ ks) b h = ap (λ (x : Bool). leb 4 (length b) && x) (there-so ks (drop 4 b) h) ∙ both_leb 4 (size_of ks) b
there-so (of-name ∷ ks) b h = absurd h

two-so : (b : Bytes) → 2 ≤ length b → value (take 2 b) ≡ two (get_or b 0 0) (get_or b 1 0)
unfolding value-from
two-so [] h = absurd (omega arith)
two-so (x ∷ []) h = absurd (omega arith)
two-so (x ∷ (y ∷ b)) h = omega arith

same_test : (b : Bytes) (m : ℕ) → (leb (2 + m) (length b) && eqb (value (take 2 b)) m) ≡ (leb (2 + m) (length b) && eqb (two (get_or b 0 0) (get_or b 1 0)) m)
same_test b m = go (leb (2 + m) (length b)) refl
  where
    go : (x : Bool) → leb (2 + m) (length b) ≡ x → (x && eqb (value (take 2 b)) m) ≡ (x && eqb (two (get_or b 0 0) (get_or b 1 0)) m)
    go true e = let h = leb-true (2 + m) (length b) e in ap (λ (k : ℕ). eqb k m) (two-so b (omega arith))
    go false e = refl

pub and-and : (a b c : Bool) → (a && (b && c)) ≡ ((a && b) && c)
and-and true b c = refl
and-and false b c = refl

pub here_so : (ks : List Kind) (b : Bytes) → NoNames ks → here ks b ≡ record_here (size_of ks) b
unfolding here record_here
here_so ks b h =
    ap₂ (λ (x : Bool) (m : ℕ). leb 2 (length b) && (x && eqb (value (take 2 b)) m)) (there-so ks (drop 2 b) h) (sizes-so ks (drop 2 b) h)
    ∙ and-and (leb 2 (length b)) (leb (size_of ks) (length (drop 2 b))) (eqb (value (take 2 b)) (size_of ks))
    ∙ ap (λ (x : Bool). x && eqb (value (take 2 b)) (size_of ks)) (both_leb 2 (size_of ks) b) ∙ same_test b (size_of ks)

and-pick : (a b : Bool) → (a && b) ≡ pick a b false
and-pick true b = refl
and-pick false b = refl

-- THE LAW
pub all-here-so : (k : ℕ) (ks : List Kind) (b : Bytes) → NoNames ks → all_here k ks b ≡ records_here k (size_of ks) b
unfolding all_here records_here
all-here-so zero ks b h = refl
all-here-so (suc k) ks b h =
    and-pick (here ks b) (all_here k ks (drop (whole-size ks b) b))
    ∙ ap₂ (λ (x y : Bool). pick x y false) (here_so ks b h) (all-here-so k ks (drop (whole-size ks b) b) h ∙ ap (λ (m : ℕ). records_here k (size_of ks) (drop (2 + m) b)) (sizes-so ks (drop 2 b) h))

-- what is left stands so many bytes on
pub after-so : (k : ℕ) (ks : List Kind) (b : Bytes) → NoNames ks → after (suc k) ks b ≡ after k ks (drop (2 + size_of ks) b)
unfolding after
after-so k ks b h = ap (λ (m : ℕ). after k ks (drop (2 + m) b)) (sizes-so ks (drop 2 b) h)

-- each table
pub lanes-walked : (k : ℕ) (b : Bytes) → all_here k lane-kinds b ≡ records_here k 10 b
lanes-walked k b = all-here-so k lane-kinds b tt

pub spots-walked : (k : ℕ) (b : Bytes) → all_here k spot-kinds b ≡ records_here k 6 b
spots-walked k b = all-here-so k spot-kinds b tt

pub points-walked : (k : ℕ) (b : Bytes) → all_here k point-kinds b ≡ records_here k 8 b
points-walked k b = all-here-so k point-kinds b tt

pub checkpoints-walked : (k : ℕ) (b : Bytes) → all_here k checkpoint-kinds b ≡ records_here k 6 b
checkpoints-walked k b = all-here-so k checkpoint-kinds b tt

pub stops-walked : (k : ℕ) (b : Bytes) → all_here k stop-kinds b ≡ records_here k 4 b
stops-walked k b = all-here-so k stop-kinds b tt

pub exits-walked : (k : ℕ) (b : Bytes) → all_here k exit-kinds b ≡ records_here k 8 b
exits-walked k b = all-here-so k exit-kinds b tt
