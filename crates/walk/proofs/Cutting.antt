-- A walk from a place of the text on: one line, or the end. For a loop over the lines. Assumes nothing.
use mathlib.Core.Path.{◌≡◌, refl, sym, ap, subst, ◌∙◌}
use mathlib.Core.List.{List, [], ◌∷◌}
use mathlib.Core.Bool.{Bool, true, false}
use Prim.Native.Nat.{ℕ, suc, ◌+◌, ◌-◌, ◌≤◌, ◌<◌}
use native.Mathlib.Omega.{arith}
use lib.Seq.{length-take-le}
use lib.ListN.{length, take, drop, length-drop}
use Rattle.terms.specs.Ascii.{Bytes}
use Rattle.terms.specs.Words.{pick}
use Rattle.scan.specs.Reach.{reach, stops_by}
use Rattle.scan.specs.declared.Until.TheVariants.{Byte}
use Rattle.scan.proofs.Reach.{reach_le}
use Rattle.line.specs.Lines.{lines_of}
use Rattle.line.proofs.Cuts.{lines_at, next_start, lines_end}
use Rattle.judge.specs.Judging.{Got, bad, blank, said, Judging, line}
use Rattle.walk.specs.Standing.{Where, place}
use Rattle.walk.specs.Walking.{Found, fault, gathered, onward, walked}

-- a line ends within its text
pub line-ends : (s : Bytes) (from e : ℕ) → length s < 4294967296 → from < length s → e ≡ reach (stops_by (Byte 10)) s from → from + length (take (e - from) (drop from s)) < 4294967296
line-ends s from e z h q =
    let k : e ≤ length s = omega (arith, q, reach_le (stops_by (Byte 10)) s from (omega arith)) in
    omega (arith, length-take-le (e - from) (drop from s) (omega (arith, length-drop from s)), length-drop from s, z)

module _ (J : Judging) {G : Type 0} (put : Where → J.St → G → G) (ended : J.Pl → Bool) where
  -- the lines from a place of the text on
  abbrev pub from_on : Bytes → J.Pl → G → ℕ → ℕ → Found G
  from_on s p c from i = walked J put ended p c from i (lines_of (drop from s))

  pub one_line : (s : Bytes) (from e : ℕ) → from < length s → e ≡ reach (stops_by (Byte 10)) s from → (p : J.Pl) (c : G) (i : ℕ)
      → from_on s p c from i ≡ onward J put ended (place from i (take (e - from) (drop from s))) p c (line J (take (e - from) (drop from s)) from p) (λ q d. from_on s q d (e + 1) (i + 1))
  unfolding walked
  one_line s from e h q p c i =
      let n : suc i ≡ i + 1 = omega arith in
      rw (lines_at s from e h q, next_start s from e h q, n) refl

  pub at-end : (s : Bytes) (from : ℕ) → length s ≤ from → (p : J.Pl) (c : G) (i : ℕ) → from_on s p c from i ≡ pick (ended p) (gathered c) (fault i 10)
  unfolding walked
  at-end s from h p c i = rw (lines_end s from h) refl

  -- what every statement keeps, a walk keeps
  walk-kind : Found G → ℕ
  walk-kind (fault i n) = 0
  walk-kind (gathered c) = 1

  what-gathered : G → Found G → G
  what-gathered d (fault i n) = d
  what-gathered d (gathered c) = c

  pub walk-keeps : (P : G → Type 0) → ((w : Where) (s : J.St) (c : G) → P c → P (put w s c)) → (ls : List Bytes) (p : J.Pl) (c : G) (start i : ℕ) (d : G) → P c → walked J put ended p c start i ls ≡ gathered d → P d
  unfolding walked walk-kind what-gathered
  walk-keeps P k [] p c start i d h e = end (ended p) e
    where
      end : (b : Bool) → pick b (gathered c) (fault i 10) ≡ gathered d → P d
      end true e = subst P (ap (what-gathered d) e) h
      end false e = absurd (let z : ◌≡◌ {A = ℕ} 0 1 = ap walk-kind e in omega arith)
  walk-keeps P k (l ∷ ls) p c start i d h e = go (line J l start p) e (λ q x y z. walk-keeps P k ls q x (start + suc (length l)) (suc i) d y z)
    where
      go : (g : Got J.St J.Pl) → onward J put ended (place start i l) p c g (λ q x. walked J put ended q x (start + suc (length l)) (suc i) ls) ≡ gathered d
          → ((q : J.Pl) (x : G) → P x → walked J put ended q x (start + suc (length l)) (suc i) ls ≡ gathered d → P d) → P d
      go (bad n) e f = absurd (let z : ◌≡◌ {A = ℕ} 0 1 = ap walk-kind e in omega arith)
      go blank e f = f p c h e
      go (said s q) e f = f q (put (place start i l) s c) (k (place start i l) s c h) e
