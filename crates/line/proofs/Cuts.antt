-- Laws of `Cut`: every text has lines, and one cut only; lines written back; the line at a place and the next place. Assumes nothing.
use mathlib.Core.Path.{◌≡◌, refl, sym, ap, subst, ◌∙◌}
use mathlib.Core.List.{List, [], ◌∷◌, ◌++◌, append_assoc, append-nil, head-eq_of_cons-eq, tail-eq_of_cons-eq, nil≢cons}
use mathlib.Core.Bool.{Bool, true, false}
use mathlib.Core.Logic.{◌⊎◌, inl, inr}
use Prim.Native.Nat.{ℕ, suc, ◌+◌, ◌-◌, ◌≤◌, ◌<◌}
use native.Mathlib.Omega.{arith}
use borrow.Author.Tests.{ne_eqb, eqb-true, eqb-false}
use lib.ListN.{length, take, drop, get_or, drop_of_length-le}
use lib.Seq.{drop-drop, drop-cons, length-take-le}
use lib.Dec.{eqb}
use Rattle.terms.specs.Ascii.{Bytes}
use Rattle.terms.specs.Words.{pick, Each}
use Rattle.scan.specs.Reach.{up_to, reach, stops_by}
use Rattle.scan.specs.Reach as R
use Rattle.scan.specs.declared.Until.TheVariants.{Byte}
use Rattle.scan.proofs.Reach.{up_to_le}
use Rattle.line.specs.Text.{lf, Lacks, Cut, none, more, nothing, unfinished, line}
use Rattle.line.specs.Lines.{onto, lines_of, write_lines}

-- ## There is one cut
longer : {b : ℕ} {t : Bytes} {ls : List Bytes} → (b ≡ lf → ⊥) → Cut t ls → Cut (b ∷ t) (onto b ls)
longer n nothing = unfinished (more n none)
longer n (unfinished h) = unfinished (more n h)
longer n (line h c) = line (more n h) c

-- the lines of a text cut it
pub cut : (t : Bytes) → Cut t (lines_of t)
unfolding lines_of
cut [] = nothing
cut (b ∷ t) = go (eqb b lf) refl (cut t)
  where
    go : (x : Bool) → eqb b lf ≡ x → Cut t (lines_of t) → Cut (b ∷ t) (pick x ([] ∷ lines_of t) (onto b (lines_of t)))
    go true e c = rw (eqb-true b lf e) (line none c)
    go false e c = longer (eqb-false b lf e) c

-- and nothing else does
pub cut-is : {t : Bytes} {ls : List Bytes} → Cut t ls → lines_of t ≡ ls
unfolding lines_of
cut-is nothing = refl
cut-is (unfinished (more {b = b} n none)) = rw (ne_eqb b lf n)
cut-is (unfinished (more {b = b} n (more n' r))) = rw (ne_eqb b lf n) (ap (onto b) (cut-is (unfinished (more n' r))))
cut-is (line {text = t} h c) = go h (cut-is c)
  where
    go : {l : Bytes} {ls : List Bytes} → Lacks lf l → lines_of t ≡ ls → lines_of (l ++ (lf ∷ t)) ≡ l ∷ ls
    go none e = ap (◌∷◌ []) e
    go (more {b = b} n r) e = rw (ne_eqb b lf n, go r e)

pub cut-one : {t : Bytes} {ls ms : List Bytes} → Cut t ls → Cut t ms → ls ≡ ms
cut-one c d = sym (cut-is c) ∙ cut-is d

-- no line has an LF
pub cut-lacks : {t : Bytes} {ls : List Bytes} → Cut t ls → Each (Lacks lf) ls
cut-lacks nothing = tt
cut-lacks (unfinished h) = (h, tt)
cut-lacks (line h c) = (h, cut-lacks c)

-- ## Written back
-- the lines, each with an LF behind it, are the text, or the text and the LF that its last line lacks
pub written_back : {t : Bytes} {ls : List Bytes} → Cut t ls → (write_lines ls ≡ t) ⊎ (write_lines ls ≡ t ++ (lf ∷ []))
unfolding write_lines
written_back nothing = inl refl
written_back (unfinished h) = inr refl
written_back (line {l = l} {text = t} {lines = ls} h c) = go (written_back c)
  where
    go : (write_lines ls ≡ t) ⊎ (write_lines ls ≡ t ++ (lf ∷ [])) → (l ++ (lf ∷ write_lines ls) ≡ l ++ (lf ∷ t)) ⊎ (l ++ (lf ∷ write_lines ls) ≡ (l ++ (lf ∷ t)) ++ (lf ∷ []))
    go (inl e) = inl (ap (λ (t : Bytes). l ++ (lf ∷ t)) e)
    go (inr e) = inr (ap (λ (t : Bytes). l ++ (lf ∷ t)) e ∙ sym (append_assoc l (lf ∷ t) (lf ∷ [])))

-- what is written is cut into what was written
pub cut-written : (ls : List Bytes) → Each (Lacks lf) ls → Cut (write_lines ls) ls
unfolding write_lines
cut-written [] h = nothing
cut-written (l ∷ ls) h = line h.0 (cut-written ls h.1)

pub lines-written : (ls : List Bytes) → Each (Lacks lf) ls → lines_of (write_lines ls) ≡ ls
lines-written ls h = cut-is (cut-written ls h)

-- ## Beginning and going on
-- the lines that come first are the lines of what comes first
pub first : {t : Bytes} {ms : List Bytes} → Cut t ms → (ls rs : List Bytes) → ms ≡ ls ++ rs → (a b : Bytes) × (t ≡ a ++ b) × Cut a ls
first {t} c [] rs e = ([], t, refl, nothing)
first nothing (l ∷ ls) rs e = absurd (nil≢cons e)
first (unfinished {b = b} {l = k} h) (l ∷ []) rs e = (b ∷ k, [], sym (append-nil (b ∷ k)), rw (← head-eq_of_cons-eq e) (unfinished h))
first (unfinished h) (l ∷ m ∷ ls) rs e = absurd (nil≢cons (tail-eq_of_cons-eq e))
first (line {l = k} {text = t} h c) (l ∷ ls) rs e = go (head-eq_of_cons-eq e) (first c ls rs (tail-eq_of_cons-eq e))
  where
    go : k ≡ l → (a b : Bytes) × (t ≡ a ++ b) × Cut a ls → (a b : Bytes) × (k ++ (lf ∷ t) ≡ a ++ b) × Cut a (l ∷ ls)
    go q x = (k ++ (lf ∷ x.0), x.1, ap (λ (t : Bytes). k ++ (lf ∷ t)) x.2 ∙ sym (append_assoc k (lf ∷ x.0) x.1), subst (λ (l : Bytes). Cut (k ++ (lf ∷ x.0)) (l ∷ ls)) q (line h x.3))

-- a text goes on with further lines
pub extend : {t : Bytes} {ls : List Bytes} → Cut t ls → (rs : List Bytes) → Each (Lacks lf) rs → (r : Bytes) × Cut (t ++ r) (ls ++ rs)
extend nothing rs h = (write_lines rs, cut-written rs h)
extend (unfinished n) rs h = (lf ∷ write_lines rs, line n (cut-written rs h))
extend (line {l = l} {text = t} n c) rs h = let x = extend c rs h in (x.0, rw append_assoc (line n x.1))

-- ## The line at a place, and the next place
abbrev at_lf : Bytes → Bool
at_lf = stops_by (Byte lf)

first_line : (b : ℕ) (t : Bytes) → lines_of (b ∷ t) ≡ take (up_to at_lf (b ∷ t)) (b ∷ t) ∷ lines_of (drop (suc (up_to at_lf (b ∷ t))) (b ∷ t))
unfolding lines_of up_to stops_by R.first
first_line b [] = go (eqb b lf)
  where
    go : (x : Bool) → pick x ([] ∷ []) ((b ∷ []) ∷ []) ≡ take (pick x 0 1) (b ∷ []) ∷ lines_of (drop (suc (pick x 0 1)) (b ∷ []))
    go true = refl
    go false = refl
first_line b (a ∷ t) = go (eqb b lf) (first_line a t)
  where
    n : ℕ
    n = up_to at_lf (a ∷ t)

    go : (x : Bool) → lines_of (a ∷ t) ≡ take n (a ∷ t) ∷ lines_of (drop (suc n) (a ∷ t))
        → pick x ([] ∷ lines_of (a ∷ t)) (onto b (lines_of (a ∷ t))) ≡ take (pick x 0 (suc n)) (b ∷ a ∷ t) ∷ lines_of (drop (suc (pick x 0 (suc n))) (b ∷ a ∷ t))
    go true e = refl
    go false e = ap (onto b) e

module _ (s : Bytes) (from e : ℕ) (h : from < length s) (q : e ≡ reach (stops_by (Byte lf)) s from) where
  -- the lines from a place on are what stands up to the next LF, or the end, and the lines from behind it on: an unfinished last line is no special case
  pub lines_at : lines_of (drop from s) ≡ take (e - from) (drop from s) ∷ lines_of (drop (e + 1) s)
  lines_at =
      let u = up_to at_lf (drop from s) in
      let k : e - from ≡ u = omega arith in
      let m : from + suc u ≡ e + 1 = omega arith in
      let step : lines_of (drop from s) ≡ take u (drop from s) ∷ lines_of (drop (suc u) (drop from s)) = rw (drop-cons s from 0 h) (first_line (get_or s from 0) (drop (suc from) s)) in
      rw k (step ∙ ap (λ (t : Bytes). take u (drop from s) ∷ lines_of t) (drop-drop (suc u) from s ∙ ap (λ (k : ℕ). drop k s) m))

  -- and that line has so many bytes
  pub line-long : from + length (take (e - from) (drop from s)) ≡ e
  line-long =
      let u = up_to at_lf (drop from s) in
      let l : length (take (e - from) (drop from s)) ≡ e - from = length-take-le (e - from) (drop from s) (omega (arith, up_to_le at_lf (drop from s))) in
      omega arith

  -- so the next line starts behind it
  pub next_start : from + suc (length (take (e - from) (drop from s))) ≡ e + 1
  next_start = omega (arith, line-long)

  -- and it has no LF
  pub line-lacks : Lacks lf (take (e - from) (drop from s))
  line-lacks = (subst (Each (Lacks lf)) lines_at (cut-lacks (cut (drop from s)))).0

-- behind the end there is no line
pub lines_end : (s : Bytes) (from : ℕ) → length s ≤ from → lines_of (drop from s) ≡ []
unfolding lines_of
lines_end s from h = rw (drop_of_length-le s h)
