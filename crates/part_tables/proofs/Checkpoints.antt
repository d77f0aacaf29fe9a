-- The pass over checkpoints (packed_parts::are_checkpoints): every record has its length, every number is one, and no two are the same. Assumes nothing.
use mathlib.Core.Path.{◌≡◌, refl, sym, ap, subst, ◌∙◌}
use mathlib.Core.List.{List, [], ◌∷◌, ◌++◌, map}
use mathlib.Core.Bool.{Bool, true, false, not, ◌&&◌}
use Prim.Native.Nat.{ℕ, zero, suc, ◌+◌}
use native.Mathlib.Omega.{arith}
use lib.ListN.{drop}
use borrow.Author.Tests.{not-true}
use Rattle.terms.specs.Ascii.{Bytes}
use Rattle.terms.specs.Words.{Each, Among, Between, pick}
use Rattle.units.specs.Made.{within}
use Rattle.units.proofs.Ranges.{inside, only-inside}
use Rattle.grammar.specs.Network.{largest}
use Rattle.grammar.specs.Tables.{CheckpointRow}
use Rattle.grammar.specs.References.{Different}
use Rattle.fill.specs.Faults.{Faultless, Repeated}
use Rattle.fill.specs.FirstFaults.{is_among}
use Rattle.fill.proofs.AmongLaws.{is-among_false, not-among, among-each}
use Rattle.fill.proofs.ReferenceLaws.{fresh-different, different-fresh}
use Rattle.unpackings.proofs.Rows.{checkpoint-back}
use Rattle.packed_rows.specs.Fixed.{record_here}
use Rattle.packed_rows.proofs.FixedLaws.{here-inside}
use Rattle.packed_parts.specs.Numbers.{number_at, number_right, numbers_right}
use Rattle.packed_tables.proofs.Reading.{read}
use Rattle.packed_tables.proofs.Records.{Small, sizes, all_here, records-read, both_true, true-both}
use Rattle.packed_tables.proofs.Whole.{checkpoint-kinds}
use Rattle.packed_tables.proofs.Fixed.{here_so}
use Rattle.part_tables.proofs.Listed.{rows-cons, rows-here, no-rows-here, no-rows-told}
use Rattle.part_tables.proofs.Fields.{checkpoint_told_of, checkpoint-is}
use Rattle.part_tables.proofs.Lanes.{both-picked, picked_both}

-- ## One
abbrev New : Bytes → ℕ → List ℕ → Type 0
New b at front = (record_here 6 (drop at b) ≡ true) × (Between 1 largest (number_at b at) × (is_among (number_at b at) front ≡ false))

one-so : (b : Bytes) (at : ℕ) (front : List ℕ) → number_right b at (λ a. is_among a front) ≡ true → New b at front
unfolding number_right
one-so b at front e =
    let t = both-picked (record_here 6 (drop at b)) _ e in
    let u = both-picked (within 1 (number_at b at)) _ t.1 in
    (t.0, (only-inside 1 (number_at b at) u.0, not-true (is_among (number_at b at) front) u.1))

one-all : (b : Bytes) (at : ℕ) (front : List ℕ) → New b at front → number_right b at (λ a. is_among a front) ≡ true
unfolding number_right
one-all b at front n = picked_both (record_here 6 (drop at b)) _ n.0 (picked_both (within 1 (number_at b at)) _ (inside n.1.0) (ap not n.1.1))

-- ## All of them
abbrev pub checkpoint-rows-told : ℕ → ℕ → Bytes → List CheckpointRow
checkpoint-rows-told place k b = map checkpoint-back (records-read place k checkpoint-kinds b)

record NumbersRight (front : List ℕ) (rows : List CheckpointRow) : Type 0 where
  each : Each (λ r. Between 1 largest r.number) rows
  fresh : Faultless Repeated front (map (λ r. r.number) rows)

more_numbers : (k : ℕ) (b : Bytes) (at : ℕ) (front : List ℕ) → numbers_right (suc k) b at front ≡ pick (number_right b at (λ a. is_among a front)) (numbers_right k b (at + 8) (front ++ (number_at b at ∷ []))) false
unfolding numbers_right
more_numbers k b at front = refl

no-numbers : (b : Bytes) (at : ℕ) (front : List ℕ) → numbers_right 0 b at front ≡ true
unfolding numbers_right
no-numbers b at front = refl

module _ (b : Bytes) (s : Small b) where
  rest-cons : (place k at : ℕ) → checkpoint-rows-told place (suc k) (drop at b) ≡ checkpoint-back (read (place + 2) checkpoint-kinds (drop 2 (drop at b))) ∷ checkpoint-rows-told (place + 8) k (drop (at + 8) b)
  unfolding sizes
  rest-cons place k at = rows-cons checkpoint-kinds checkpoint-back 8 (λ b. refl) b place k at

  rest-here : (k at : ℕ) → all_here (suc k) checkpoint-kinds (drop at b) ≡ (record_here 6 (drop at b) && all_here k checkpoint-kinds (drop (at + 8) b))
  unfolding sizes
  rest-here k at = rows-here checkpoint-kinds checkpoint-back 8 (λ b. refl) b k at ∙ ap (λ (t : Bool). t && all_here k checkpoint-kinds (drop (at + 8) b)) (here_so checkpoint-kinds (drop at b) tt)

  none_here : (at : ℕ) → all_here 0 checkpoint-kinds (drop at b) ≡ true
  unfolding sizes
  none_here at = no-rows-here checkpoint-kinds checkpoint-back 8 (λ b. refl) b at

  none_told : (place at : ℕ) → checkpoint-rows-told place 0 (drop at b) ≡ []
  unfolding sizes
  none_told place at = no-rows-told checkpoint-kinds checkpoint-back 8 (λ b. refl) b place at

  numbers-so : (place k at : ℕ) (front : List ℕ) → numbers_right k b at front ≡ true → (all_here k checkpoint-kinds (drop at b) ≡ true) × NumbersRight front (checkpoint-rows-told place k (drop at b))
  numbers-so place zero at front e = (none_here at, subst (NumbersRight front) (sym (none_told place at)) (record { each = tt; fresh = tt }))
  numbers-so place (suc k) at front e =
      let t = both-picked (number_right b at (λ a. is_among a front)) (numbers_right k b (at + 8) (front ++ (number_at b at ∷ []))) (sym (more_numbers k b at front) ∙ e) in
      let o = one-so b at front t.0 in
      let m = numbers-so (place + 8) k (at + 8) (front ++ (number_at b at ∷ [])) t.1 in
      let i = here-inside b at 6 o.0 in
      let is = checkpoint-is b s (place + 2) at (omega arith) in
      let whole : NumbersRight front (checkpoint_told_of b at ∷ checkpoint-rows-told (place + 8) k (drop (at + 8) b)) = record { each = (o.1.0, m.1.each); fresh = (λ j f. is-among_false (number_at b at) front o.1.1 f.again, m.1.fresh) } in (
        rest-here k at ∙ true-both (record_here 6 (drop at b)) (all_here k checkpoint-kinds (drop (at + 8) b)) o.0 m.0,
        subst (NumbersRight front) (ap (λ (r : CheckpointRow). r ∷ checkpoint-rows-told (place + 8) k (drop (at + 8) b)) (sym is) ∙ sym (rest-cons place k at)) whole,
      )

  numbers-all : (place k at : ℕ) (front : List ℕ) → all_here k checkpoint-kinds (drop at b) ≡ true → NumbersRight front (checkpoint-rows-told place k (drop at b)) → numbers_right k b at front ≡ true
  numbers-all place zero at front e o = no-numbers b at front
  numbers-all place (suc k) at front e o =
      let u = both_true (record_here 6 (drop at b)) (all_here k checkpoint-kinds (drop (at + 8) b)) (sym (rest-here k at) ∙ e) in
      let i = here-inside b at 6 u.0 in
      let is = checkpoint-is b s (place + 2) at (omega arith) in
      let whole = subst (NumbersRight front) (rest-cons place k at ∙ ap (λ (r : CheckpointRow). r ∷ checkpoint-rows-told (place + 8) k (drop (at + 8) b)) is) o in
      let new = not-among (number_at b at) front (λ m. whole.fresh.0 13 (record { again = m; number = refl })) in
      more_numbers k b at front ∙ picked_both (number_right b at (λ a. is_among a front)) (numbers_right k b (at + 8) (front ++ (number_at b at ∷ []))) (one-all b at front (u.0, (whole.each.0, new)))
      (numbers-all (place + 8) k (at + 8) (front ++ (number_at b at ∷ [])) u.1 (record { each = whole.each.1; fresh = whole.fresh.1 }))

  -- THE LAW
  pub checkpoints-so : (place k at : ℕ) → numbers_right k b at [] ≡ true
      → (all_here k checkpoint-kinds (drop at b) ≡ true) × (Each (λ r. Between 1 largest r.number) (checkpoint-rows-told place k (drop at b)) × Different (map (λ (r : CheckpointRow). r.number) (checkpoint-rows-told place k (drop at b))))
  checkpoints-so place k at e = let n = numbers-so place k at [] e in (n.0, (n.1.each, (fresh-different [] (map (λ (r : CheckpointRow). r.number) (checkpoint-rows-told place k (drop at b))) n.1.fresh).0))

  pub checkpoints-all : (place k at : ℕ) → all_here k checkpoint-kinds (drop at b) ≡ true → Each (λ r. Between 1 largest r.number) (checkpoint-rows-told place k (drop at b)) → Different (map (λ (r : CheckpointRow). r.number) (checkpoint-rows-told place k (drop at b))) → numbers_right k b at [] ≡ true
  checkpoints-all place k at e each d =
      let numbers = map (λ (r : CheckpointRow). r.number) (checkpoint-rows-told place k (drop at b)) in
      numbers-all place k at [] e (record { each = each; fresh = different-fresh [] numbers d (among-each (λ a. Among a [] → ⊥) numbers (λ a m n. n)) })
