-- A first field's kind says which word it is (`kind-is`), and whether it begins with a digit (`point-is`); so the program's tests of kinds are the law's tests of words. Assumes nothing.
use mathlib.Core.Path.{◌≡◌, refl, sym, ap, ◌∙◌}
use mathlib.Core.Bool.{Bool, true, false, not, ◌&&◌, ◌||◌}
use Prim.Native.Nat.{ℕ, suc, ◌<◌}
use native.Mathlib.Omega.{arith}
use lib.ListN.{length, get_or}
use lib.Dec.{eqb, ltb}
use borrow.Author.Tests.{eqb-true, eq-eqb, ne_eqb, lt-ltb, ltb-true, ltb-false}
use Rattle.terms.specs.Words.{List, [], ◌∷◌, Bytes, ascii, pick}
use Rattle.terms.proofs.Tests.{clash}
use Rattle.terms.proofs.Computed.{all_below, below}
use Rattle.scan.specs.Allowed.{digit}
use Rattle.scan.specs.Reach.{begins, same_bytes_of}
use Rattle.scan.proofs.Equal.{same-equal, same_false, equal-same}
use Rattle.word.specs.Keywords.{rndf_keywords}
use Rattle.word.specs.Number.{index_of}
use Rattle.word.proofs.Index.{index_word}
use Rattle.word.proofs.Keywords.{rndf-length, rndf-differ}
use Rattle.judge.specs.RndfLine.{rndf_kind}
use Rattle.law.specs.Faults.{options}
use Rattle.mend_law.specs.Mend.{is, one_of, opens_part_of}
use Rattle.mend_lines.specs.Forward.{opens_of, option_of}

abbrev pub keyword : ℕ → Bytes
keyword k = get_or rndf_keywords k []

-- no keyword begins with a digit, and each stands at its own place
wordy : (k : ℕ) → k < 29 → begins digit (keyword k) ≡ false
wordy k h = not_so (begins digit (keyword k)) (below (λ j. not (begins digit (keyword j))) 29 (unfold rndf_keywords ascii begins in refl) k h)
  where
    not_so : (x : Bool) → not x ≡ true → x ≡ false
    not_so true e = clash (sym e)
    not_so false e = refl

own-place : (k : ℕ) → k < 29 → index_of (keyword k) rndf_keywords ≡ k
own-place k h = eqb-true (index_of (keyword k) rndf_keywords) k (below (λ j. eqb (index_of (keyword j) rndf_keywords) j) (length rndf_keywords) rndf-differ k (omega (arith, rndf-length)))

kind-of-keyword : (k : ℕ) → k < 29 → rndf_kind (keyword k) ≡ k
unfolding rndf_kind
kind-of-keyword k h = rw (wordy k h, own-place k h, lt-ltb k 29 h)

-- a kind below 29 is the keyword's
pub kind-word : (w : Bytes) (k : ℕ) → k < 29 → rndf_kind w ≡ k → w ≡ keyword k
unfolding rndf_kind
kind-word w k h e = go (begins digit w) (ltb (index_of w rndf_keywords) 29) refl e
  where
    go : (x y : Bool) → ltb (index_of w rndf_keywords) 29 ≡ y → pick x 29 (pick y (index_of w rndf_keywords) 30) ≡ k → w ≡ keyword k
    go true y q e = absurd (omega arith)
    go false true q e = index_word w rndf_keywords (omega (arith, rndf-length, ltb-true (index_of w rndf_keywords) 29 q)) ∙ ap keyword e
    go false false q e = absurd (omega arith)

pub kind-is : (w : Bytes) (k : ℕ) → k < 29 → same_bytes_of w (keyword k) ≡ eqb (rndf_kind w) k
kind-is w k h = go (eqb (rndf_kind w) k) refl
  where
    go : (x : Bool) → eqb (rndf_kind w) k ≡ x → same_bytes_of w (keyword k) ≡ x
    go true e = equal-same w (keyword k) (kind-word w k h (eqb-true (rndf_kind w) k e))
    go false e = same_false w (keyword k) (λ q. clash (sym (eq-eqb (rndf_kind w) k (ap rndf_kind q ∙ kind-of-keyword k h)) ∙ e))

pub point-is : (w : Bytes) → begins digit w ≡ eqb (rndf_kind w) 29
unfolding rndf_kind
point-is w = go (begins digit w) (ltb (index_of w rndf_keywords) 29) refl
  where
    go : (x y : Bool) → ltb (index_of w rndf_keywords) 29 ≡ y → x ≡ eqb (pick x 29 (pick y (index_of w rndf_keywords) 30)) 29
    go true y q = refl
    go false true q = let h = ltb-true (index_of w rndf_keywords) 29 q in sym (ne_eqb (index_of w rndf_keywords) 29 (λ (e : index_of w rndf_keywords ≡ 29). omega arith))
    go false false q = refl

-- nothing has no kind
pub nothing-kind : rndf_kind [] ≡ 30
unfolding rndf_kind rndf_keywords index_of begins same_bytes_of ascii
nothing-kind = refl

-- ## The tests
or_off : (x : Bool) → (x || false) ≡ x
or_off true = refl
or_off false = refl

module _ (w : Bytes) where
  -- the word of this number, as the law spells it
  abbrev says : ℕ → Bool
  says k = eqb (rndf_kind w) k

  pub opens-is : opens_part_of w ≡ opens_of (rndf_kind w)
  unfolding rndf_keywords opens_of
  opens-is =
      let a = kind-is w 5 (omega arith) in
      let b = kind-is w 9 (omega arith) in
      let c = kind-is w 18 (omega arith) in
      let d = kind-is w 22 (omega arith) in
      let e = or_off (same_bytes_of w (ascii "spot")) ∙ kind-is w 25 (omega arith) in
      λ i. a i || (b i || (c i || (d i || e i)))

  pub repeats-is : one_of (ascii "checkpoint" ∷ ascii "stop" ∷ ascii "exit" ∷ []) w ≡ (says 14 || (says 15 || says 16))
  unfolding rndf_keywords
  repeats-is =
      let a = kind-is w 14 (omega arith) in
      let b = kind-is w 15 (omega arith) in
      let c = or_off (same_bytes_of w (ascii "exit")) ∙ kind-is w 16 (omega arith) in
      λ i. a i || (b i || c i)

  -- the law's list of options, in its order; the program groups them
  grouped : (a b c d e f g h i j k : Bool) → (a || (b || (c || (d || (e || (f || (g || (h || (i || (j || k)))))))))) ≡ ((a || b) || ((d || (e || f)) || ((g || (h || i)) || (c || (j || k)))))
  grouped true b c d e f g h i j k = refl
  grouped false true c d e f g h i j k = refl
  grouped false false c true e f g h i j k = all_true c
    where
      all_true : (x : Bool) → (x || true) ≡ true
      all_true true = refl
      all_true false = refl
  grouped false false c false e f g h i j k = rest c e f g h i j k
    where
      rest : (c e f g h i j k : Bool) → (c || (e || (f || (g || (h || (i || (j || k))))))) ≡ ((e || f) || ((g || (h || i)) || (c || (j || k))))
      rest false true f g h i j k = refl
      rest false false true g h i j k = refl
      rest false false false true h i j k = refl
      rest false false false false true i j k = refl
      rest false false false false false true j k = refl
      rest false false false false false false j k = refl
      rest true true f g h i j k = refl
      rest true false true g h i j k = refl
      rest true false false true h i j k = refl
      rest true false false false true i j k = refl
      rest true false false false false true j k = refl
      rest true false false false false false j k = refl

  pub option_is : one_of options w ≡ option_of (rndf_kind w)
  unfolding rndf_keywords option_of
  option_is =
      let a = kind-is w 3 (omega arith) in
      let b = kind-is w 4 (omega arith) in
      let c = kind-is w 7 (omega arith) in
      let d = kind-is w 11 (omega arith) in
      let e = kind-is w 12 (omega arith) in
      let f = kind-is w 13 (omega arith) in
      let g = kind-is w 14 (omega arith) in
      let h = kind-is w 15 (omega arith) in
      let k = kind-is w 16 (omega arith) in
      let l = kind-is w 20 (omega arith) in
      let m = or_off (same_bytes_of w (ascii "spot_width")) ∙ kind-is w 26 (omega arith) in
      (λ i. a i || (b i || (c i || (d i || (e i || (f i || (g i || (h i || (k i || (l i || m i)))))))))) ∙ grouped (says 3) (says 4) (says 7) (says 11) (says 12) (says 13) (says 14) (says 15) (says 16) (says 20) (says 26)
