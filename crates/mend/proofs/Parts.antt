-- The list that holds three tables, one behind the other: each was lent as a part that was zero, and each part is what its walk left. Assumes nothing.
use mathlib.Core.Path.{◌≡◌, refl, sym, ap, ◌∙◌}
use mathlib.Core.List.{List, [], ◌++◌, append-nil}
use mathlib.Core.Bool.{Bool, false}
use Prim.Native.Nat.{ℕ, ◌+◌, ◌-◌, ◌≤◌, ◌<◌}
use native.Mathlib.Omega.{arith}
use lib.ListN.{length, take, drop, length-append, length-drop, length-replicate}
use lib.Seq.{length-take-le, take_all, take_at, drop_at, take-take, take-append-le, drop-append-le, drop-drop, drop-length, take-add}
use borrow.Rule.Slice.PartMut.{mid_of, put_mid, same_len_mid, take_put, drop_put}
use Rattle.terms.specs.Words.{Bytes}
use Rattle.line.specs.Lines.{lines_of}
use Rattle.rows.proofs.Tables.{drop-replicate, take-replicate}
use Rattle.grammar.specs.Editions.{Edition}
use Rattle.progress.specs.declared.Progress.{Progress}
use Rattle.references.specs.Finding.{look_in}
use Rattle.mend_lines.specs.Forward.{none_before_of}
use Rattle.mend_passes.specs.Passes.{are_exits_right_of}
use Rattle.mend_tests.specs.Tests.{nought}
use Rattle.mend.specs.Mending.{walk_with, SegmentsIn, LanesIn, ZonesIn, segment_words_of, lane_words_of, row_words_of, EntriesTold}

-- ## Lists
-- a stretch of the front
front-part : (a b : ℕ) (l : List ℕ) → a ≤ b → b ≤ length l → drop a (take b l) ≡ take (b - a) (drop a l)
front-part a b l h k =
    let n : length (take a l) ≡ a = length-take-le a l (omega arith) in
    let e : b ≡ a + (b - a) = omega arith in
    ap (λ (i : ℕ). drop a (take i l)) e ∙ ap (drop a) (take-add a (b - a) l) ∙ drop_at (take a l) (take (b - a) (drop a l)) a n

module _ (words a b : ℕ) (none S N Z : List ℕ) (low : a ≤ b) (high : b ≤ words) (cleared : none ≡ nought words) (ls : length S ≡ a) (ln : length N ≡ b - a) where
  -- the list behind each walk
  abbrev one : List ℕ
  one = S ++ drop a none

  abbrev two : List ℕ
  two = put_mid a (b - a) one N

  abbrev three : List ℕ
  three = put_mid b (length two - b) two Z

  long-none : length none ≡ words
  long-none = ap length cleared ∙ length-replicate words 0

  long-one : length one ≡ words
  long-one = omega (arith, length-append S (drop a none), length-drop a none, long-none)

  mid-long : length (mid_of a (b - a) one) ≡ b - a
  mid-long = length-take-le (b - a) (drop a one) (omega (arith, length-drop a one, long-one))

  long-two : length two ≡ words
  long-two = same_len_mid a (b - a) one N (ln ∙ sym mid-long) ∙ long-one

  -- ## What was lent was zero
  pub segments-lent : take a none ≡ nought a
  segments-lent = ap (take a) cleared ∙ take-replicate a words 0 (omega arith)

  behind : drop a one ≡ nought (words - a)
  behind = drop_at S (drop a none) a ls ∙ ap (drop a) cleared ∙ drop-replicate a words 0

  pub lanes-lent : mid_of a (b - a) one ≡ nought (b - a)
  lanes-lent = ap (take (b - a)) behind ∙ take-replicate (b - a) (words - a) 0 (omega arith)

  rest : drop b two ≡ nought (words - b)
  rest =
      let e : a + (b - a) ≡ b = omega arith in
      let k : words - a - (b - a) ≡ words - b = omega arith in
      drop_put a b one N low (omega (arith, long-one)) ln ∙ ap (λ (i : ℕ). drop i one) (sym e) ∙ sym (drop-drop (b - a) a one) ∙ ap (drop (b - a)) behind ∙ drop-replicate (b - a) (words - a) 0 ∙ ap nought k

  pub zones-lent : mid_of b (length two - b) two ≡ nought (words - b)
  zones-lent = take_all (length two - b) (drop b two) (omega (arith, length-drop b two)) ∙ rest

  -- ## What is left
  pub segments-left : take a three ≡ S
  segments-left =
      let n : length (take b two) ≡ b = length-take-le b two (omega (arith, long-two)) in
      take-append-le a (take b two) (Z ++ drop (length two - b) (drop b two)) (omega arith) ∙ take-take a b two low ∙ take_put a (b - a) one N (omega (arith, long-one)) ∙ take_at S (drop a none) a ls

  pub lanes-left : take (b - a) (drop a three) ≡ N
  lanes-left =
      let n : length (take b two) ≡ b = length-take-le b two (omega (arith, long-two)) in
      let m : length (take a one) ≡ a = length-take-le a one (omega (arith, long-one)) in
      let k : length (drop a (take b two)) ≡ b - a = omega (arith, length-drop a (take b two)) in
      ap (take (b - a)) (drop-append-le a (take b two) (Z ++ drop (length two - b) (drop b two)) (omega arith))
      ∙ take_at (drop a (take b two)) (Z ++ drop (length two - b) (drop b two)) (b - a) k
      ∙ front-part a b two low (omega (arith, long-two))
      ∙ ap (take (b - a)) (drop_at (take a one) (N ++ drop (b - a) (drop a one)) a m)
      ∙ take_at N (drop (b - a) (drop a one)) (b - a) ln

  pub zones-left : drop b three ≡ Z
  zones-left =
      let n : length (take b two) ≡ b = length-take-le b two (omega (arith, long-two)) in
      let k : length two - b ≡ length (drop b two) = omega (arith, length-drop b two) in
      drop_at (take b two) (Z ++ drop (length two - b) (drop b two)) b n ∙ ap (λ (i : ℕ). Z ++ drop i (drop b two)) k ∙ ap (λ (l : List ℕ). Z ++ l) (drop-length (drop b two)) ∙ append-nil Z

-- ## The entries
module _ (e : Edition) (text : Bytes) (words : ℕ) (g : Progress) where
  -- without room for all rows
  pub entries-short : words < row_words_of g → EntriesTold e text words g false
  entries-short h = record { short = λ k. refl; told = λ k p q s sm lm zm i j l es el n z ez w. absurd (omega (arith, h, k)) }

  module _ (none S N Z : List ℕ) (fits : row_words_of g ≤ words) (cleared : none ≡ nought words) where
    abbrev a : ℕ
    a = segment_words_of g

    abbrev b : ℕ
    b = segment_words_of g + lane_words_of g

    low : a ≤ b
    low = omega arith

    high : b ≤ words
    high = omega arith

    parted : b - a ≡ lane_words_of g
    parted = omega arith

    -- the list behind each walk
    abbrev first : List ℕ
    first = S ++ drop a none

    abbrev second : List ℕ
    second = put_mid a (b - a) first N

    abbrev last : List ℕ
    last = put_mid b (length second - b) second Z

    pub entries-told : (r : Bool) → SegmentsIn e text (take a none) S → length S ≡ length (take a none) → LanesIn e text (mid_of a (b - a) first) N → length N ≡ length (mid_of a (b - a) first) → ZonesIn e text (mid_of b (length second - b) second) Z
        → r ≡ are_exits_right_of (look_in (take a last) (take (b - a) (drop a last)) (drop b last)) g.segments none_before_of (lines_of text) → EntriesTold e text words g r
    entries-told r s ks l kl z t =
        let long-none : length none ≡ words = ap length cleared ∙ length-replicate words 0 in
        let ls : length S ≡ a = ks ∙ length-take-le a none (omega (arith, long-none)) in
        let long-first : length first ≡ words = omega (arith, length-append S (drop a none), length-drop a none, long-none) in
        let ln : length N ≡ b - a = kl ∙ length-take-le (b - a) (drop a first) (omega (arith, length-drop a first, long-first)) in
        record {
          short = λ k. absurd (omega (arith, fits, k));
          told = λ k p q u sm lm zm i j v es el n h ez w.
              let m : words - b ≡ n = omega arith in
              let x : S ≡ sm.segments = s p sm i (ap (λ (y : List ℕ). walk_with e text y [] [] []) (segments-lent words a b none S N Z low high cleared ls ln) ∙ es) in
              let y : N ≡ lm.lanes = l q lm j (ap (λ (y : List ℕ). walk_with e text [] y [] []) (lanes-lent words a b none S N Z low high cleared ls ln ∙ ap nought parted) ∙ el) in
              let o : Z ≡ zm.zones = z u zm v (ap (λ (y : List ℕ). walk_with e text [] [] y []) (zones-lent words a b none S N Z low high cleared ls ln ∙ ap nought m) ∙ ez) in
              let c = segments-left words a b none S N Z low high cleared ls ln ∙ x in
              let d = lanes-left words a b none S N Z low high cleared ls ln ∙ y in
              let f = zones-left words a b none S N Z low high cleared ls ln ∙ o in
              t ∙ (λ k. are_exits_right_of (look_in (c k) (d k) (f k)) g.segments none_before_of (lines_of text));
        }
