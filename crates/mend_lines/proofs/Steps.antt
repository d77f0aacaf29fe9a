-- What the lines before have left says what the law asks of them: which words stand there since the last line that opens a part, and whether the file has ended (`Keeps`). It holds before the first line, and behind each one. Assumes nothing.
use mathlib.Core.Path.{◌≡◌, refl, sym, ap, ap₂, subst, ◌∙◌}
use mathlib.Core.Bool.{Bool, true, false, not, ◌&&◌, ◌||◌}
use Prim.Native.Nat.{ℕ, ◌<◌, ◌≤◌}
use native.Mathlib.Omega.{arith}
use lib.ListN.{length, get_or, set, replicate, length-set, length-replicate, get_or-replicate}
use lib.Seq.{get_or-set_same, get_or-set_other}
use lib.Dec.{eqb, ltb}
use borrow.Author.Tests.{eqb-true, eqb-false, ne_eqb, lt-ltb, ltb-true, ltb-false}
use Rattle.terms.specs.Words.{List, [], ◌∷◌, Bytes, ascii, pick}
use Rattle.terms.proofs.Tests.{clash, both}
use Rattle.scan.specs.Reach.{same_bytes_of}
use Rattle.scan.proofs.Equal.{same-equal, equal-same, same_false, false-differ}
use Rattle.word.specs.Keywords.{rndf_keywords}
use Rattle.judge.specs.RndfLine.{rndf_kind}
use Rattle.law.specs.Faults.{options}
use Rattle.mend_law.specs.Mend.{is, one_of, opens_part_of, since, may_repeat, given_again}
use Rattle.mend_lines.specs.declared.Before.{Before}
use Rattle.mend_lines.specs.Forward.{no_kinds, opens_of, option_of, with_kind_of, has_of, none_before_of, after_of, repeats_of, again_of}
use Rattle.mend_lines.proofs.WordKinds.{keyword, kind-word, kind-is, opens-is, repeats-is, option_is}

-- before: the first fields of the lines before, the nearest first, as in mend_law/specs/Mend
pub record Keeps (before : List Bytes) (b : Before) : Type 0 where
  pub long : length b.since ≡ 31
  pub each : (k : ℕ) → k < 29 → has_of b k ≡ one_of (since before) (keyword k)
  pub end : b.over ≡ one_of before (ascii "end_file")

pub none-keeps : Keeps [] none_before_of
unfolding none_before_of has_of since
none-keeps = record { long = length-replicate 31 false; each = λ k h. rw (lt-ltb k 31 (omega arith)) (get_or-replicate 31 k false false (omega arith)); end = refl }

-- ## Behind a line
turned : (a b : Bytes) → same_bytes_of a b ≡ same_bytes_of b a
turned a b = go (same_bytes_of b a) refl
  where
    go : (x : Bool) → same_bytes_of b a ≡ x → same_bytes_of a b ≡ x
    go true e = equal-same a b (sym (same-equal b a e))
    go false e = same_false a b (λ q. false-differ b a e (sym q))

kind-turned : (w : Bytes) (k : ℕ) → k < 29 → same_bytes_of (keyword k) w ≡ eqb (rndf_kind w) k
kind-turned w k h = turned (keyword k) w ∙ kind-is w k h

-- one more kind among those that are kept
with-one : (s : List Bool) (m k : ℕ) → length s ≡ 31 → k < 29 → get_or (with_kind_of s m) k false ≡ (eqb m k || get_or s k false)
unfolding with_kind_of
with-one s m k l h = in_time (ltb m 31) refl
  where
    go : (x : Bool) → eqb m k ≡ x → get_or (set s m true) k false ≡ (x || get_or s k false)
    go true e = let q = eqb-true m k e in ap (λ (j : ℕ). get_or (set s j true) k false) q ∙ get_or-set_same s k true false (omega arith)
    go false e = let n = eqb-false m k e in get_or-set_other s m k true false (λ q. n (sym q))

    in_time : (x : Bool) → ltb m 31 ≡ x → get_or (pick x (set s m true) s) k false ≡ (eqb m k || get_or s k false)
    in_time true e = go (eqb m k) refl
    in_time false e = let f = ltb-false m 31 e in sym (ap (λ (x : Bool). x || get_or s k false) (ne_eqb m k (λ (q : m ≡ k). omega arith)))

with-long : (s : List Bool) (m : ℕ) → length (with_kind_of s m) ≡ length s
unfolding with_kind_of
with-long s m = go (ltb m 31)
  where
    go : (x : Bool) → length (pick x (set s m true) s) ≡ length s
    go true = length-set s m true
    go false = refl

-- a kind below 29 has its place
the_place_of : (b : Before) (k : ℕ) → k < 29 → has_of b k ≡ get_or b.since k false
unfolding has_of
the_place_of b k h = rw (lt-ltb k 31 (omega arith)) refl

kept-long : (s : List Bool) (x : Bool) → length s ≡ 31 → length (pick x no_kinds s) ≡ 31
kept-long s true h = length-replicate 31 false
kept-long s false h = h

kept-has : (ws : List Bytes) (s : List Bool) (x : Bool) (k : ℕ) → k < 29 → get_or s k false ≡ one_of ws (keyword k) → get_or (pick x no_kinds s) k false ≡ one_of (pick x [] ws) (keyword k)
kept-has ws s true k h e = get_or-replicate 31 k false false (omega arith)
kept-has ws s false k h e = e

or_turned : (x y : Bool) → (x || y) ≡ (y || x)
or_turned true true = refl
or_turned true false = refl
or_turned false true = refl
or_turned false false = refl

module _ (before : List Bytes) (b : Before) (w : Bytes) (h : Keeps before b) where
  pub after-keeps : Keeps (w ∷ before) (after_of b (rndf_kind w))
  unfolding after_of since rndf_keywords
  after-keeps = record {
    long = with-long (pick (opens_of (rndf_kind w)) no_kinds b.since) (rndf_kind w) ∙ kept-long b.since (opens_of (rndf_kind w)) h.long;
    each = λ k l. the_place_of (after_of b (rndf_kind w)) k l ∙ with-one (pick (opens_of (rndf_kind w)) no_kinds b.since) (rndf_kind w) k (kept-long b.since (opens_of (rndf_kind w)) h.long) l ∙ (
        let p = sym (kind-turned w k l) in
        let q = kept-has (since before) b.since (opens_of (rndf_kind w)) k l (sym (the_place_of b k l) ∙ h.each k l) in
        let o = opens-is w in
        (λ i. p i || q i) ∙ (λ i. same_bytes_of (keyword k) w || one_of (pick (sym o i) [] (since before)) (keyword k)));
    end = or_turned b.over (eqb (rndf_kind w) 28) ∙ (
        let p = sym (kind-turned w 28 (omega arith)) in
        let q = h.end in
        λ i. p i || q i);
  }

-- ## What the law asks
-- an option is a keyword
option-low : (k : ℕ) → option_of k ≡ true → k < 29
unfolding option_of
option-low k e = go (ltb k 29) refl
  where
    far : (n : ℕ) → n < 29 → 29 ≤ k → eqb k n ≡ false
    far n l h = ne_eqb k n (λ (q : k ≡ n). omega arith)

    none-far : 29 ≤ k → option_of k ≡ false
    none-far h =
        let a = far 3 (omega arith) h in
        let b = far 4 (omega arith) h in
        let c = far 7 (omega arith) h in
        let d = far 11 (omega arith) h in
        let f = far 12 (omega arith) h in
        let g = far 13 (omega arith) h in
        let m = far 14 (omega arith) h in
        let n = far 15 (omega arith) h in
        let o = far 16 (omega arith) h in
        let p = far 20 (omega arith) h in
        let q = far 26 (omega arith) h in
        λ i. (a i || b i) || ((d i || (f i || g i)) || ((m i || (n i || o i)) || (c i || (p i || q i))))

    go : (x : Bool) → ltb k 29 ≡ x → k < 29
    go true l = ltb-true k 29 l
    go false l = clash (sym e ∙ none-far (ltb-false k 29 l))

module _ (before : List Bytes) (b : Before) (w : Bytes) (h : Keeps before b) where
  repeat-is : may_repeat (since before) w ≡ repeats_of b (rndf_kind w)
  unfolding repeats_of rndf_keywords
  repeat-is =
      let l = sym (h.each 9 (omega arith)) in
      let r = repeats-is w in
      let p = sym (h.each 22 (omega arith)) in
      let x = kind-is w 16 (omega arith) in
      λ i. (l i && r i) || (p i && x i)

  pub again-is : given_again (since before) w ≡ again_of b (rndf_kind w)
  unfolding again_of
  again-is = go (option_of (rndf_kind w)) refl
    where
      go : (x : Bool) → option_of (rndf_kind w) ≡ x → given_again (since before) w ≡ (option_of (rndf_kind w) && (has_of b (rndf_kind w) && not (repeats_of b (rndf_kind w))))
      go true e =
          let l = option-low (rndf_kind w) e in
          let o = option_is w in
          let g : one_of (since before) w ≡ has_of b (rndf_kind w) = ap (one_of (since before)) (kind-word w (rndf_kind w) l refl) ∙ sym (h.each (rndf_kind w) l) in
          let m = repeat-is in
          λ i. o i && (g i && not (m i))
      go false e = (let o = option_is w ∙ e in λ i. o i && (one_of (since before) w && not (may_repeat (since before) w))) ∙ sym (λ i. e i && (has_of b (rndf_kind w) && not (repeats_of b (rndf_kind w))))
