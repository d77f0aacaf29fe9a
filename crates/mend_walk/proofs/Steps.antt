-- What each function finds at its calls is what the walk over the lines that come out does t(line_at text from). Assumes nothing.
use Rattle.std.specs.Prelude.{Result}
use mathlib.Core.Path.{◌≡◌, refl, sym, ap, subst, ◌∙◌}
use mathlib.Core.List.{List, [], ◌∷◌}
use mathlib.Core.Bool.{Bool, true, false, and-false}
use Prim.Native.Nat.{ℕ, ◌+◌, ◌-◌, ◌≤◌, ◌<◌}
use native.Mathlib.Omega.{arith}
use borrow.Author.Tests.{leb-true, leb-false, le-leb, lt-leb}
use lib.ListN.{length, take, drop, length-replicate}
use lib.Seq.{length-take-le}
use lib.Dec.{leb}
use lib.IntN.{ℤ}
use Rattle.terms.specs.Words.{Bytes}
use Rattle.line.specs.Lines.{lines_of}
use Rattle.line.proofs.Cuts.{lines_at, next_start, lines_end}
use Rattle.output.specs.Output.{zero_bytes}
use Rattle.output.specs.Pen.{pen, Wrote, within}
use Rattle.output.proofs.Writing.{kept}
use Rattle.output.proofs.Whole.{finishes-kept, finishes_zero, written, written-reads, answered_too-long}
use Rattle.grammar.specs.Editions.{Edition}
use Rattle.place.specs.declared.Place.{Place}
use Rattle.progress.specs.After.{total}
use Rattle.network.specs.Storing.{Memory, memory}
use Rattle.network.specs.Reaching.{WalkEnd, stopped, reached, reaching, onwards, stood}
use Rattle.network.proofs.Onward as O
use Rattle.mend_lines.specs.declared.Before.{Before}
use Rattle.mend_lines.specs.declared.Becomes.{Becomes}
use Rattle.mend_lines.specs.declared.Becomes.TheVariants.{Stays, Goes, Recount}
use Rattle.mend_lines.specs.Forward.{change_of}
use Rattle.mend_pieces.specs.Pieces.{lf_from, stop_of, piece_of, behind_line}
use Rattle.mend_tests.specs.Tests.{few}
use Rattle.mend_walk.specs.Walking.{plain_line_of, OneLine, walked_line, then_on, mended_walk}
use Rattle.mend_walk.proofs.Alone.{line-alone, recounted-alone}
use Rattle.mend_walk.proofs.Counted.{line-counted}
use Rattle.refusal.specs.declared.Fault.{Fault}
use Rattle.progress.specs.declared.Progress.{Progress}

-- ## The tables that are not lent
no_rows : {A : Type 0} (l : List A) → length l ≡ 0 → l ≡ []
no_rows [] h = refl
no_rows (a ∷ l) h = absurd (omega arith)

-- they have no rows behind the walk either
pub few-stood : (w : Result (Place × Progress × ℕ) Fault) (sg ln zn ck sp st ex : List ℕ) (pt : List ℤ) → length sp ≡ 0 → length pt ≡ 0 → length st ≡ 0 → length ex ≡ 0 → {end : WalkEnd} → stood w (λ p. memory p sg ln zn sp pt ck st ex) ≡ end → stood w (λ p. few p sg ln zn ck) ≡ end
few-stood w sg ln zn ck sp st ex pt a b c d h = sym (λ i. stood w (λ p. memory p sg ln zn (no_rows sp a i) (no_rows pt b i) ck (no_rows st c i) (no_rows ex d i))) ∙ h

-- ## The buffer of so many bytes: x was put t(line_at text from)
module _ (lent : ℕ) (x l : Bytes) (at : ℕ) (u : Wrote (pen (zero_bytes lent) 0) x (pen l at)) where
  buffer-long : length l ≡ lent
  buffer-long = kept u ∙ length-replicate lent 0

  -- so many bytes of it are lent
  pub buffer_lent : at ≤ lent → at ≡ length (take at l)
  buffer_lent h = sym (length-take-le at l (omega (arith, buffer-long)))

  -- they are x
  pub buffer-holds : lent ≤ 16777215 → at ≤ lent → take at l ≡ x
  buffer-holds small h =
      let long = buffer-long in
      let inside : within (length l) at ≡ true = rw (le-leb at 16777215 (omega arith), le-leb at (length l) (omega arith)) refl in
      written-reads {lent = lent} (written {lent = lent} refl u (finishes-kept l at inside))

  -- it was too short
  pub buffer-short : lent ≤ 16777215 → lent < at → lent < length x
  buffer-short small h = go (leb (length x) lent) refl
    where
      outside : within (length l) at ≡ false
      outside = let long = buffer-long in rw (lt-leb at (length l) (omega arith)) (and-false (leb at 16777215))

      go : (b : Bool) → leb (length x) lent ≡ b → lent < length x
      go true e = let room = leb-true (length x) lent e in absurd ((answered_too-long {lent = lent} (written {lent = lent} refl u (finishes_zero l at outside refl))).0 (record { size = omega arith; room = room }))
      go false e = leb-false (length x) lent e

-- ## One line that comes out
-- the line at a place
abbrev line_at : Bytes → ℕ → Bytes
line_at text from = take (lf_from text from - from) (drop from text)

-- whatever becomes of it, it stays one line
pub still_one : (c : Becomes) (text : Bytes) (from : ℕ) → from < length text → OneLine c (line_at text from)
still_one Stays text from h = tt
still_one (Goes k) text from h = tt
still_one (Recount start stop n) text from h = recounted-alone text from start stop n h

module _ (e : Edition) (p : Place) (m : Memory) (i : ℕ) {end : WalkEnd} where
  -- from the buffer
  pub piece-walked : (s x : Bytes) → s ≡ x → plain_line_of x → end ≡ onwards e s p m 0 i → end ≡ reaching e p m 0 i (x ∷ [])
  piece-walked s x is plain h = h ∙ ap (λ (t : Bytes). reaching e p m 0 i (lines_of t)) is ∙ ap (reaching e p m 0 i) plain

  module _ (text : Bytes) (from : ℕ) (c : Becomes) where
    -- as it stands in the text
    pub stays-walked : (stop : ℕ) → from < length text → c ≡ Stays → stop ≡ stop_of text from → end ≡ onwards e (take stop text) p m from i → end ≡ walked_line e p m from i c (line_at text from)
    stays-walked stop h told is k = k ∙ ap (λ (n : ℕ). onwards e (take n text) p m from i) is ∙ ap (reaching e p m from i) (line-alone text from h) ∙ ap (λ (c : Becomes). walked_line e p m from i c (line_at text from)) (sym told)

    -- with its number replaced
    pub recounted-walked : (start stop n to : ℕ) → c ≡ Recount start stop n → to ≡ lf_from text from → OneLine c (line_at text from)
        → (plain_line_of (piece_of (Recount start stop n) (take (to - from) (drop from text))) → end ≡ reaching e p m 0 i (piece_of (Recount start stop n) (take (to - from) (drop from text)) ∷ []))
        → end ≡ walked_line e p m from i c (line_at text from)
    recounted-walked start stop n to told is one k =
        let same : take (to - from) (drop from text) ≡ line_at text from = ap (λ (n : ℕ). take (n - from) (drop from text)) is in
        let plain : plain_line_of (piece_of (Recount start stop n) (line_at text from)) = subst (λ (c : Becomes). OneLine c (line_at text from)) told one in
        k (subst (λ (l : Bytes). plain_line_of (piece_of (Recount start stop n) l)) (sym same) plain) ∙ ap (λ (l : Bytes). reaching e p m 0 i (piece_of (Recount start stop n) l ∷ [])) same ∙ ap (λ (c : Becomes). walked_line e p m from i c (line_at text from)) (sym told)

-- ## All lines
-- the walk behind the line at a place
abbrev behind_it : Edition → Bytes → (from : ℕ) → Before → Place → Memory → ℕ → WalkEnd
behind_it e s from b q d j = mended_walk e (behind_line b (line_at s from)) q d (lf_from s from + 1) j (lines_of (drop (lf_from s from + 1) s))

module _ (e : Edition) (s : Bytes) (from : ℕ) (h : from < length s) (b : Before) (p : Place) (m : Memory) (i : ℕ) where
  -- the line at a place, then those behind it
  goes-there : mended_walk e b p m from i (lines_of (drop from s)) ≡ then_on (walked_line e p m from i (change_of b (line_at s from) (lines_of (drop (lf_from s from + 1) s))) (line_at s from)) (behind_it e s from b)
  unfolding mended_walk
  goes-there =
      let lines = lines_of (drop (lf_from s from + 1) s) in
      let cut = lines_at s from (lf_from s from) h refl in
      let next = next_start s from (lf_from s from) h refl in
      ap (mended_walk e b p m from i) cut ∙ (λ k. then_on (walked_line e p m from i (change_of b (line_at s from) lines) (line_at s from)) (λ q d j. mended_walk e (behind_line b (line_at s from)) q d (next k) j lines))

  -- stop: its LF or the text's end; c: what becomes of it
  module _ (stop : ℕ) (far : stop ≡ lf_from s from) (c : Becomes) (is : c ≡ change_of b (take (stop - from) (drop from s)) (lines_of (drop (stop + 1) s))) {end : WalkEnd} (walked : end ≡ walked_line e p m from i c (line_at s from)) where
    so-changed : c ≡ change_of b (line_at s from) (lines_of (drop (lf_from s from + 1) s))
    so-changed = is ∙ (λ k. change_of b (take (far k - from) (drop from s)) (lines_of (drop (far k + 1) s)))

    -- behind a line that is walked so
    behind : mended_walk e b p m from i (lines_of (drop from s)) ≡ then_on end (behind_it e s from b)
    behind = goes-there ∙ ap (λ (c : Becomes). then_on (walked_line e p m from i c (line_at s from)) (behind_it e s from b)) (sym so-changed) ∙ ap (λ (w : WalkEnd). then_on w (behind_it e s from b)) (sym walked)

    pub ends_there : (n k : ℕ) → end ≡ stopped n k → stopped n k ≡ mended_walk e b p m from i (lines_of (drop from s))
    ends_there n k told = sym (behind ∙ ap (λ (w : WalkEnd). then_on w (behind_it e s from b)) told)

    module _ (q : Place) (d : Memory) (j at : ℕ) (f : Before) (told : end ≡ reached q d j) (so : f ≡ behind_line b (take (stop - from) (drop from s))) (next : at ≡ stop + 1) where
      pub goes_on : mended_walk e f q d at j (lines_of (drop at s)) ≡ mended_walk e b p m from i (lines_of (drop from s))
      goes_on =
          let left : f ≡ behind_line b (line_at s from) = so ∙ ap (λ (n : ℕ). behind_line b (take (n - from) (drop from s))) far in
          let on : at ≡ lf_from s from + 1 = next ∙ ap (λ (n : ℕ). n + 1) far in
          (λ k. mended_walk e (left k) q d (on k) j (lines_of (drop (on k) s))) ∙ sym (behind ∙ ap (λ (w : WalkEnd). then_on w (behind_it e s from b)) told)

      -- the next line's number and the rows so far stay below the place of the text
      pub counts-on : i ≤ from + 1 → total m.so_far ≤ from → (j ≤ at + 1) × (total d.so_far ≤ at)
      counts-on few-lines few-rows =
          let more = line-counted e p q m d from i j c (line_at s from) (sym walked ∙ told) in
          let inside = O.within s from stop h far in
          (omega arith, omega arith)

pub all-walked : (e : Edition) (s : Bytes) (from : ℕ) (b : Before) (p : Place) (m : Memory) (i : ℕ) → length s ≤ from → reached p m i ≡ mended_walk e b p m from i (lines_of (drop from s))
unfolding mended_walk
all-walked e s from b p m i h = rw (lines_end s from h) refl

-- ## Numbers of the walk
pub few-rows : (n from rows : ℕ) → n ≤ 16777215 → from < n → rows ≤ from → rows ≤ 16777216
few-rows n from rows h k l = omega arith

pub few-lines : (n from i : ℕ) → n ≤ 16777215 → from < n → i ≤ from + 1 → i ≤ 16777216
few-lines n from i h k l = omega arith
