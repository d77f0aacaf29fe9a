-- What is known of a number that is replaced: it is the second of a count line's two fields (`recount-counts`), so it stands in its line, and the new one fits into a word (`recount-inside`). Assumes nothing.
use Rattle.std.proofs.lemmas.Option.{same_Some}
use Rattle.std.specs.Prelude.{Some, None, Option}
use mathlib.Core.Path.{◌≡◌, refl, sym, ap}
use mathlib.Core.List.{List}
use mathlib.Core.Bool.{Bool, true, false}
use Prim.Native.Nat.{ℕ, ◌≤◌}
use native.Mathlib.Omega.{arith}
use lib.ListN.{length, take}
use lib.Seq.{length-take-le}
use lib.Dec.{eqb, leb}
use borrow.Author.Tests.{eqb-true, leb-true}
use Rattle.terms.specs.Words.{Bytes, pick}
use Rattle.line.specs.Forms.{fields_in_of, part}
use Rattle.line.proofs.Spans.{fields_within}
use Rattle.number.specs.Executable.{the_integer_of}
use Rattle.find_line.specs.FoundLines.{fields_end_of, rndf_line_kind_of}
use Rattle.find_line.proofs.FirstFields.{fields-end_le}
use Rattle.mend_lines.specs.declared.Before.{Before}
use Rattle.mend_lines.specs.declared.Becomes.TheVariants.{Stays, Goes, Recount}
use Rattle.mend_lines.specs.Forward.{again_of, counted_of, items_of, numbered_of, second_number_of, number_on_of, corrected_of, behind_of, counted_by, change_of}

pub record Inside (l : Bytes) (start stop n : ℕ) : Type 0 where
  pub order : start ≤ stop
  pub inside : stop ≤ length l
  pub small : n ≤ 32768

-- what stands on a line before its CR and before a comment
abbrev pub body_of : Bytes → Bytes
body_of l = take (fields_end_of l) l

-- the second of two fields stands there
pub record Second (s : Bytes) (start stop : ℕ) : Type 0 where
  pub two : (fields_in_of s).count ≡ 2
  pub starts : start ≡ (fields_in_of s).b.start
  pub stops : stop ≡ (fields_in_of s).b.stop

-- a count line, whose number, there, becomes n
pub record Counts (l : Bytes) (start stop n : ℕ) : Type 0 where
  pub counts : counted_of (rndf_line_kind_of l) ≡ None → ⊥
  pub second : Second (body_of l) start stop
  pub small : n ≤ 32768

second_at : (s : Bytes) (start stop m : ℕ) → second_number_of s ≡ Some (start, stop, m) → Second s start stop
unfolding second_number_of
second_at s start stop m e = go (eqb (fields_in_of s).count 2) (the_integer_of (part s (fields_in_of s).b)) refl e
  where
    good : (x : Bool) (k : ℕ) → (fields_in_of s).count ≡ 2 → ◌≡◌ {A = Option (ℕ × ℕ × ℕ)} (pick x (Some ((fields_in_of s).b.start, (fields_in_of s).b.stop, k)) None) (Some (start, stop, m)) → Second s start stop
    good true k c e = let p = same_Some ((fields_in_of s).b.start, (fields_in_of s).b.stop, k) (start, stop, m) e in record { two = c; starts = sym (ap (λ x. x.0) p); stops = sym (ap (λ x. x.1) p) }
    good false k c e = absurd (let z : ◌≡◌ {A = ℕ} 0 1 = cc in omega arith)

    go : (x : Bool) (o : Option ℕ) → eqb (fields_in_of s).count 2 ≡ x → pick x (numbered_of (fields_in_of s).b o) None ≡ Some (start, stop, m) → Second s start stop
    go true (Some k) c e = good (leb k 32768) k (eqb-true (fields_in_of s).count 2 c) e
    go true None c e = absurd (let z : ◌≡◌ {A = ℕ} 0 1 = cc in omega arith)
    go false o c e = absurd (let z : ◌≡◌ {A = ℕ} 0 1 = cc in omega arith)

module _ (start stop n : ℕ) where
  corrected-at : (o : Option (ℕ × ℕ × ℕ)) (k : ℕ) → corrected_of o k ≡ Recount start stop n → (m : ℕ) × (o ≡ Some (start, stop, m)) × (n ≤ 32768)
  unfolding corrected_of
  corrected-at (Some (a, b, m)) k e = go (leb k 32768) (eqb m k) refl e
    where
      go : (x y : Bool) → leb k 32768 ≡ x → pick x (pick y Stays (Recount a b k)) Stays ≡ Recount start stop n → (i : ℕ) × (◌≡◌ {A = Option (ℕ × ℕ × ℕ)} (Some (a, b, m)) (Some (start, stop, i))) × (n ≤ 32768)
      go true true q e = absurd (let z : ◌≡◌ {A = ℕ} 0 1 = cc in omega arith)
      go true false q e =
          let p : k ≡ n = cc in
          (m, cc, omega (arith, leb-true k 32768 q))
      go false y q e = absurd (let z : ◌≡◌ {A = ℕ} 0 1 = cc in omega arith)
  corrected-at None k e = absurd (let z : ◌≡◌ {A = ℕ} 0 1 = cc in omega arith)

  behind-never : (l : Bytes) → behind_of l ≡ Recount start stop n → ⊥
  unfolding behind_of
  behind-never l e = go (eqb (fields_in_of (body_of l)).count 0) e
    where
      go : (x : Bool) → pick x Stays (Goes 3) ≡ Recount start stop n → ⊥
      go true e = let z : ◌≡◌ {A = ℕ} 0 1 = cc in omega arith
      go false e = let z : ◌≡◌ {A = ℕ} 0 1 = cc in omega arith

  pub recount-counts : (b : Before) (l : Bytes) (ls : List Bytes) → change_of b l ls ≡ Recount start stop n → Counts l start stop n
  unfolding change_of number_on_of
  recount-counts b l ls e = go b.over (again_of b (rndf_line_kind_of l)) (counted_of (rndf_line_kind_of l)) refl e
    where
      go : (x y : Bool) (c : Option (ℕ × ℕ)) → counted_of (rndf_line_kind_of l) ≡ c → pick x (behind_of l) (pick y (Goes 2) (counted_by c l ls)) ≡ Recount start stop n → Counts l start stop n
      go true y c q e = absurd (behind-never l e)
      go false true c q e = absurd (let z : ◌≡◌ {A = ℕ} 0 1 = cc in omega arith)
      go false false (Some (item, end)) q e =
          let r = corrected-at (number_on_of l) (items_of item end ls) e in
          record {
            counts = λ p. let z : ◌≡◌ {A = ℕ} 0 1 = cc in omega arith;
            second = second_at (body_of l) start stop r.0 r.1;
            small = r.2;
          }
      go false false None q e = absurd (let z : ◌≡◌ {A = ℕ} 0 1 = cc in omega arith)

pub recount-inside : (b : Before) (l : Bytes) (ls : List Bytes) (start stop n : ℕ) → change_of b l ls ≡ Recount start stop n → Inside l start stop n
recount-inside b l ls start stop n e =
    let c = recount-counts start stop n b l ls e in
    let s = c.second in
    let w = (fields_within (body_of l)).second in
    record {
      order = omega (arith, s.starts, s.stops, w.order);
      inside = omega (arith, s.stops, w.inside, length-take-le (fields_end_of l) l (fields-end_le l), fields-end_le l);
      small = c.small;
    }
