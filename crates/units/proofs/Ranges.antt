-- A constructor accepts exactly the numbers of its kind, and keeps them. One law over the lowest number, and each kind's two sentences. Assumes nothing.
use Rattle.std.specs.Prelude.{Option, Some, None, MatchOption, IsSomeAnd}
use mathlib.Core.Path.{◌≡◌, refl, sym, ap, ◌∙◌}
use mathlib.Core.Bool.{Bool, true, false}
use Prim.Native.Nat.{ℕ, ◌≤◌, ◌<◌}
use native.Mathlib.Omega.{arith}
use lib.Dec.{leb}
use borrow.Author.Tests.{le-leb, lt-leb, leb-true}
use Rattle.terms.specs.Words.{pick, Between}
use Rattle.terms.proofs.Tests.{clash}
use Rattle.units.specs.Range.{largest, missing, Width, Speed, Numbered, Identified}
use Rattle.units.specs.Made.{within, in_range_of, feet, mph, checkpoint_number_of, segment_id_of, feet_of, mph_of, the_checkpoint_number_of, the_segment_id_of}
use Rattle.units.specs.declared.Feet.{Feet}
use Rattle.units.specs.declared.Mph.{Mph}
use Rattle.units.specs.declared.CheckpointNumber.{CheckpointNumber}
use Rattle.units.specs.declared.SegmentId.{SegmentId}

-- the test says yes inside the range, and no below it and above it
pub inside : {low n : ℕ} → Between low largest n → within low n ≡ true
inside {low} {n} b = rw (le-leb low n b.low, le-leb n largest b.high)

pub below : (low n : ℕ) → n < low → within low n ≡ false
below low n h = rw (lt-leb low n h)

pub above : (low n : ℕ) → largest < n → within low n ≡ false
above low n h = go (leb low n)
  where
    go : (t : Bool) → pick t (leb n largest) false ≡ false
    go true = rw (lt-leb n largest h)
    go false = refl

-- and it says yes nowhere else
pub only-inside : (low n : ℕ) → within low n ≡ true → Between low largest n
only-inside low n = go (leb low n) refl
  where
    go : (t : Bool) → leb low n ≡ t → pick t (leb n largest) false ≡ true → Between low largest n
    go true e h = record { low = leb-true low n e; high = leb-true n largest h }
    go false e h = clash (sym h)

-- an answer by such a test: if it is an accepted value, the test said yes and the value is the one that it stands for
picked : {A K : Type 0} (is : K → A) (refused : A) (k v : K) → ((u : K) → refused ≡ is u → ⊥) → ((u w : K) → is u ≡ is w → u ≡ w) → (t : Bool) → pick t (is k) refused ≡ is v → (t ≡ true) × (v ≡ k)
picked is refused k v apart same true e = (refl, sym (same k v e))
picked is refused k v apart same false e = absurd (apart v e)

-- what `Option::map` makes of a number in the range, by a kind's own constructor
pub mapped : {K : Type 0} (is : ℕ → K) (number : K → ℕ) → ((v : K) → v ≡ is (number v)) → (low n : ℕ) (r : Option K)
    → MatchOption (in_range_of low largest n) (r ≡ None) (λ x. IsSomeAnd r (λ v. number v ≡ x)) → r ≡ pick (within low n) (Some (is n)) None
unfolding in_range_of
mapped {K} is number whole low n r m = go (within low n) m
  where
    made : (o : Option K) → IsSomeAnd o (λ v. number v ≡ n) → o ≡ Some (is n)
    made None e = elim e [ ]
    made (Some v) e = ap Some (whole v ∙ ap is e)

    go : (t : Bool) → MatchOption (pick t (Some n) None) (r ≡ None) (λ x. IsSomeAnd r (λ v. number v ≡ x)) → r ≡ pick t (Some (is n)) None
    go true e = made r e
    go false e = e

-- 01: "`lane_width` ≥ 0 (feet)", at most 32,768
pub feet-is : {n : ℕ} → Width n → feet_of n ≡ Some (feet n)
unfolding feet_of
feet-is b = rw (inside b)

pub feet-only : (n : ℕ) (v : Feet) → feet_of n ≡ Some v → Width n × (v ≡ feet n)
unfolding feet_of
feet-only n v e =
    let p = picked Some None (feet n) v (λ u q. let z : ◌≡◌ {A = ℕ} 0 1 = cc in omega arith) (λ u w q. cc) (within 0 n) e in
    (only-inside 0 n p.0, p.1)

-- no width that the constructor makes is the missing width
pub never-missing : (n : ℕ) → feet_of n ≡ Some (feet missing) → ⊥
never-missing n e =
    let p = feet-only n (feet missing) e in
    let w : n ≤ largest = p.0.high in
    let q : missing ≡ n = ap (λ (f : Feet). f.0) p.1 in
    omega arith

-- 01: "A speed of 0 means undefined and is kept as 0."
pub mph-is : {n : ℕ} → Speed n → mph_of n ≡ Some (mph n)
unfolding mph_of
mph-is b = rw (inside b)

pub mph-only : (n : ℕ) (v : Mph) → mph_of n ≡ Some v → Speed n × (v ≡ mph n)
unfolding mph_of
mph-only n v e =
    let p = picked Some None (mph n) v (λ u q. let z : ◌≡◌ {A = ℕ} 0 1 = cc in omega arith) (λ u w q. cc) (within 0 n) e in
    (only-inside 0 n p.0, p.1)

-- 01: "Checkpoint numbers are > 0"
pub checkpoint-number-is : {n : ℕ} → Numbered n → the_checkpoint_number_of n ≡ Some (checkpoint_number_of n)
unfolding the_checkpoint_number_of
checkpoint-number-is b = rw (inside b)

pub checkpoint-number-only : (n : ℕ) (v : CheckpointNumber) → the_checkpoint_number_of n ≡ Some v → Numbered n × (v ≡ checkpoint_number_of n)
unfolding the_checkpoint_number_of
checkpoint-number-only n v e =
    let p = picked Some None (checkpoint_number_of n) v (λ u q. let z : ◌≡◌ {A = ℕ} 0 1 = cc in omega arith) (λ u w q. cc) (within 1 n) e in
    (only-inside 1 n p.0, p.1)

-- 01: "segments 1 to M; zones M+1 to M+N"
pub segment-id-is : {n : ℕ} → Identified n → the_segment_id_of n ≡ Some (segment_id_of n)
unfolding the_segment_id_of
segment-id-is b = rw (inside b)

pub segment-id-only : (n : ℕ) (v : SegmentId) → the_segment_id_of n ≡ Some v → Identified n × (v ≡ segment_id_of n)
unfolding the_segment_id_of
segment-id-only n v e =
    let p = picked Some None (segment_id_of n) v (λ u q. let z : ◌≡◌ {A = ℕ} 0 1 = cc in omega arith) (λ u w q. cc) (within 1 n) e in
    (only-inside 1 n p.0, p.1)
