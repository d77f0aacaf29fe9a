-- Rows by their numbers: so many from a row on. Assumes nothing.
use mathlib.Core.Path.{◌≡◌, refl, sym, ap, ap₂, subst, ◌∙◌}
use mathlib.Core.List.{List, [], ◌∷◌, map}
use mathlib.Core.Bool.{true, ◌&&◌}
use Prim.Native.Nat.{ℕ, zero, suc, ◌+◌, ◌-◌, ◌*◌, ◌≤◌, ◌<◌}
use native.Mathlib.Omega.{arith}
use native.Mathlib.Nat.{mul-suc}
use native.Mathlib.Numerals.{add-one}
use lib.ListN.{length, drop}
use lib.Seq.{drop-drop}
use Rattle.terms.specs.Ascii.{Bytes}
use Rattle.terms.specs.Words.{Each}
use Rattle.packed_law.specs.Packed.{Slot}
use Rattle.unpackings.proofs.Cutting.{Kind}
use Rattle.packed_tables.proofs.Reading.{read}
use Rattle.packed_tables.proofs.Records.{here, whole-size, all_here, records-read, both_true}

-- so many rows, from row i on
abbrev pub listed : {R : Type 0} → (ℕ → R) → (i k : ℕ) → List R
listed f i zero = []
listed f i (suc k) = f i ∷ listed f (i + 1) k

pub listed-long : {R : Type 0} (f : ℕ → R) (i k : ℕ) → length (listed f i k) ≡ k
listed-long f i zero = refl
listed-long f i (suc k) = ap suc (listed-long f (i + 1) k)

-- what is said of each of them
pub listed-each : {R : Type 0} (P : R → Type 0) (f : ℕ → R) (i k : ℕ) → ((j : ℕ) → i ≤ j → j < i + k → P (f j)) → Each P (listed f i k)
listed-each P f i zero h = tt
listed-each P f i (suc k) h = (h i (omega arith) (omega arith), listed-each P f (i + 1) k (λ j l m. h j (omega arith) (omega arith)))

pub each-listed : {R : Type 0} (P : R → Type 0) (f : ℕ → R) (i k : ℕ) → Each P (listed f i k) → (j : ℕ) → i ≤ j → j < i + k → P (f j)
each-listed P f i zero h j l m = absurd (omega arith)
each-listed P f i (suc k) h j l m = go (j - i) refl (λ l m. each-listed P f (i + 1) k h.1 j l m)
  where
    go : (d : ℕ) → j - i ≡ d → (i + 1 ≤ j → j < i + 1 + k → P (f j)) → P (f j)
    go zero e more = let q : i ≡ j = omega arith in subst (λ (x : ℕ). P (f x)) q h.0
    go (suc d) e more = more (omega arith) (omega arith)

-- without the first of them
pub drop-listed : {R : Type 0} (f : ℕ → R) (m i k : ℕ) → drop m (listed f i k) ≡ listed f (i + m) (k - m)
drop-listed f zero i k = let a : i ≡ i + 0 = omega arith in let b : k ≡ k - 0 = omega arith in λ x. listed f (a x) (b x)
drop-listed f (suc m) i zero = let b : 0 ≡ 0 - suc m = omega arith in ap (listed f (i + suc m)) b
drop-listed f (suc m) i (suc k) =
    let a : i + 1 + m ≡ i + suc m = omega arith in
    let b : k - m ≡ suc k - suc m = omega arith in
    drop-listed f m (i + 1) k ∙ (λ x. listed f (a x) (b x))

-- none of them
pub none-listed : {R : Type 0} (f : ℕ → R) (i k : ℕ) → k ≡ 0 → listed f i k ≡ []
none-listed f i zero h = refl
none-listed f i (suc k) h = absurd (omega arith)

pub listed-none : {R : Type 0} (f : ℕ → R) (i k : ℕ) → listed f i k ≡ [] → k ≡ 0
listed-none f i k h = sym (listed-long f i k) ∙ ap length h

-- ## Tables of records of one size
module _ {R : Type 0} (ks : List Kind) (back : List Slot → R) (size : ℕ) (s : (b : Bytes) → whole-size ks b ≡ size) (b : Bytes) where
  -- the first of them, and those behind it
  pub rows-cons : (place k at : ℕ) → map back (records-read place (suc k) ks (drop at b)) ≡ back (read (place + 2) ks (drop 2 (drop at b))) ∷ map back (records-read (place + size) k ks (drop (at + size) b))
  unfolding records-read
  rows-cons place k at =
      ap₂ (λ (m : ℕ) (l : Bytes). back (read (place + 2) ks (drop 2 (drop at b))) ∷ map back (records-read (place + m) k ks l)) (s (drop at b))
      (ap (λ (j : ℕ). drop j (drop at b)) (s (drop at b)) ∙ drop-drop size at b)

  pub rows-here : (k at : ℕ) → all_here (suc k) ks (drop at b) ≡ (here ks (drop at b) && all_here k ks (drop (at + size) b))
  unfolding all_here
  rows-here k at = ap (λ (l : Bytes). here ks (drop at b) && all_here k ks l) (ap (λ (j : ℕ). drop j (drop at b)) (s (drop at b)) ∙ drop-drop size at b)

  pub no-rows-here : (at : ℕ) → all_here 0 ks (drop at b) ≡ true
  unfolding all_here
  no-rows-here at = refl

  pub no-rows-told : (place at : ℕ) → map back (records-read place 0 ks (drop at b)) ≡ []
  unfolding records-read
  no-rows-told place at = refl

  -- rows by their numbers. told: the row of a record that stands at a place
  module _ (frame : (at : ℕ) → here ks (drop at b) ≡ true → at + size ≤ length b) (told : ℕ → R) (is : (place at : ℕ) → at + size ≤ length b → back (read place ks (drop 2 (drop at b))) ≡ told at) where
    table-from : (place k at i : ℕ) → all_here k ks (drop (at + size * i) b) ≡ true → map back (records-read place k ks (drop (at + size * i) b)) ≡ listed (λ j. told (at + size * j)) i k
    table-from place zero at i h = no-rows-told place (at + size * i)
    table-from place (suc k) at i h =
        let here-at = at + size * i in
        let u = both_true (here ks (drop here-at b)) (all_here k ks (drop (here-at + size) b)) (sym (rows-here k here-at) ∙ h) in
        let m : size * (i + 1) ≡ size * i + size = ap (λ (j : ℕ). size * j) (add-one i) ∙ mul-suc size i in
        let p : at + size * i + size ≡ at + size * (i + 1) = omega arith in
        rows-cons place k here-at
        ∙ ap₂ (λ (y : R) (l : List R). y ∷ l) (is (place + 2) here-at (frame here-at u.0))
        (ap (λ (j : ℕ). map back (records-read (place + size) k ks (drop j b))) p ∙ table-from (place + size) k at (i + 1) (ap (λ (j : ℕ). all_here k ks (drop j b)) (sym p) ∙ u.1))

    pub table-listed : (place k at : ℕ) → all_here k ks (drop at b) ≡ true → map back (records-read place k ks (drop at b)) ≡ listed (λ j. told (at + size * j)) 0 k
    table-listed place k at h = let z : at ≡ at + size * 0 = omega arith in ap (λ (j : ℕ). map back (records-read place k ks (drop j b))) z ∙ table-from place k at 0 (ap (λ (j : ℕ). all_here k ks (drop j b)) (sym z) ∙ h)
