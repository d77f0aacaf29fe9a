-- The count of lines by their kinds: a line of it, for a loop over a text; and it finds what a walk finds of a text without a fault. For every file. Assumes nothing.
use mathlib.Core.Path.{◌≡◌, refl, ap, ◌∙◌}
use mathlib.Core.List.{List, [], ◌∷◌}
use mathlib.Core.Bool.{Bool, true, false}
use Prim.Native.Nat.{ℕ, suc, ◌+◌, ◌-◌, ◌≤◌, ◌<◌}
use native.Mathlib.Omega.{arith}
use lib.ListN.{length, take, drop}
use lib.Dec.{eqb}
use borrow.Author.Tests.{ne_eqb}
use Rattle.terms.specs.Ascii.{Bytes}
use Rattle.terms.specs.Words.{pick}
use Rattle.scan.specs.Reach.{reach, stops_by}
use Rattle.scan.specs.declared.Until.TheVariants.{Byte}
use Rattle.line.specs.Lines.{lines_of}
use Rattle.line.proofs.Cuts.{lines_at, lines_end}
use Rattle.judge.specs.Judging.{Got, bad, blank, said, Judging, line}
use Rattle.walk.specs.declared.Seen.{Seen}
use Rattle.walk.specs.Standing.{place}
use Rattle.walk.specs.Walking.{Found, fault, gathered, onward, walked}
use Rattle.walk.specs.Seeing.{seen_more, more_seen, see}
use Rattle.walk.proofs.SeenLaws.{counts, one_more}
use Rattle.find_line.specs.FoundLines.{counted}
use Rattle.find_line.proofs.FirstFields.{HasKind}

module _ (kind-of : Bytes → ℕ) (kind row : ℕ) where
  -- ## The lines from a place of a text on
  abbrev pub rest : Bytes → Seen → ℕ → ℕ → Seen
  rest s c from i = counted kind-of kind row c i (lines_of (drop from s))

  pub one_line : (s : Bytes) (from e : ℕ) → from < length s → e ≡ reach (stops_by (Byte 10)) s from → (c : Seen) (i : ℕ)
      → rest s c from i ≡ rest s (seen_more (eqb (kind-of (take (e - from) (drop from s))) kind) row i c) (e + 1) (i + 1)
  unfolding counted
  one_line s from e h q c i =
      let n : suc i ≡ i + 1 = omega arith in
      rw (lines_at s from e h q) (ap (λ (k : ℕ). rest s (seen_more (eqb (kind-of (take (e - from) (drop from s))) kind) row i c) (e + 1) k) n)

  -- as the program counts it, while there is room for one more
  pub a-line : (s : Bytes) (from e : ℕ) → from < length s → e ≡ reach (stops_by (Byte 10)) s from → (c : Seen) (i n : ℕ) → n ≡ kind-of (take (e - from) (drop from s))
      → (d : Seen) → d ≡ more_seen (eqb n kind) row i c → c.count < 4294967295 → (d.count ≤ c.count + 1) × (rest s c from i ≡ rest s d (e + 1) (i + 1))
  a-line s from e h q c i n k d m r =
      let p : d ≡ seen_more (eqb n kind) row i c = m ∙ counts (eqb n kind) row i c r in
      (rw p (one_more (eqb n kind) row i c), rw (p, k) (one_line s from e h q c i))

  pub at-end : (s : Bytes) (from : ℕ) → length s ≤ from → (c : Seen) (i : ℕ) → rest s c from i ≡ c
  unfolding counted
  at-end s from h c i = rw (lines_end s from h) refl

  -- once it is met, the line stays
  past : (b : Bool) (line : ℕ) (c : Seen) → row < c.count → (row < (seen_more b row line c).count) × ((seen_more b row line c).line ≡ c.line)
  unfolding seen_more
  past true line c h = (omega arith, rw (ne_eqb c.count row (λ (e : c.count ≡ row). omega arith)) refl)
  past false line c h = (h, refl)

  pub stays : (ls : List Bytes) (c : Seen) (i : ℕ) → row < c.count → (counted kind-of kind row c i ls).line ≡ c.line
  unfolding counted
  stays [] c i h = refl
  stays (l ∷ ls) c i h = let p = past (eqb (kind-of l) kind) i c h in stays ls (seen_more (eqb (kind-of l) kind) row i c) (suc i) p.0 ∙ p.1

-- ## It counts what a walk without a fault counts
walk-kind : Found Seen → ℕ
walk-kind (fault i n) = 0
walk-kind (gathered c) = 1

what-gathered : Seen → Found Seen → Seen
what-gathered d (fault i n) = d
what-gathered d (gathered c) = c

module _ (J : Judging) (ended : J.Pl → Bool) (stated : J.St → ℕ) (kind-of : Bytes → ℕ) (has : (l : Bytes) (base : ℕ) (p : J.Pl) → HasKind J stated (kind-of l) (line J l base p))
    (kind : ℕ) (a-kind : eqb J.kinds kind ≡ false) (row : ℕ) where
  pub as-walked : (ls : List Bytes) (p : J.Pl) (c : Seen) (start i : ℕ) (d : Seen) → walked J (see stated kind row) ended p c start i ls ≡ gathered d → counted kind-of kind row c i ls ≡ d
  unfolding walked counted seen_more walk-kind what-gathered
  as-walked [] p c start i d e = end (ended p) e
    where
      end : (b : Bool) → pick b (gathered c) (fault i 10) ≡ gathered d → c ≡ d
      end true e = ap (what-gathered d) e
      end false e = absurd (let z : ◌≡◌ {A = ℕ} 0 1 = ap walk-kind e in omega arith)
  as-walked (l ∷ ls) p c start i d e = go (line J l start p) (has l start p) e (λ q x y. as-walked ls q x (start + suc (length l)) (suc i) d y)
    where
      go : (g : Got J.St J.Pl) → HasKind J stated (kind-of l) g → onward J (see stated kind row) ended (place start i l) p c g (λ q x. walked J (see stated kind row) ended q x (start + suc (length l)) (suc i) ls) ≡ gathered d
          → ((q : J.Pl) (x : Seen) → walked J (see stated kind row) ended q x (start + suc (length l)) (suc i) ls ≡ gathered d → counted kind-of kind row x (suc i) ls ≡ d)
          → counted kind-of kind row (seen_more (eqb (kind-of l) kind) row i c) (suc i) ls ≡ d
      go (bad n) h e f = absurd (let z : ◌≡◌ {A = ℕ} 0 1 = ap walk-kind e in omega arith)
      go blank h e f = rw (h, a-kind) (f p c e)
      go (said s q) h e f = rw h (f q (seen_more (eqb (stated s) kind) row i c) e)
