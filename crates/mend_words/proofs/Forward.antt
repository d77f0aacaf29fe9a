-- THE LAW of what is told: going forward, the sentences are those of the law's changes (`all_told`). Assumes nothing.
use mathlib.Core.Path.{◌≡◌, refl, sym, ap, ◌∙◌}
use mathlib.Core.List.{List, [], ◌∷◌, ◌++◌}
use mathlib.Core.Bool.{Bool, true, false}
use Prim.Native.Nat.{ℕ, zero, suc, ◌+◌, ◌-◌, ◌≤◌, ◌<◌}
use native.Mathlib.Omega.{arith}
use native.Mathlib.Numerals.{add-one}
use lib.ListN.{length, take, drop, length-drop}
use lib.Seq.{take_all}
use lib.Dec.{eqb}
use borrow.Author.Tests.{ne_eqb}
use Rattle.terms.specs.Ascii.{Bytes, ascii}
use Rattle.terms.specs.Words.{pick}
use Rattle.scan.proofs.Reach.{reach_le}
use Rattle.scan.specs.Reach.{stops_by}
use Rattle.scan.specs.declared.Until.TheVariants.{Byte}
use Rattle.number.specs.Decimal.{decimal}
use Rattle.number.specs.House.{house_integer}
use Rattle.room.specs.Room.{fitted}
use Rattle.room.proofs.Fitted.{fitted-kept}
use Rattle.line.specs.Lines.{lines_of}
use Rattle.line.proofs.Cuts.{lines_at, lines_end}
use Rattle.law.specs.Tables.{gather}
use Rattle.mend_law.specs.Mend.{first_field, Change, changes_from, changes}
use Rattle.mend_lines.specs.declared.Before.{Before}
use Rattle.mend_lines.specs.declared.Becomes.{Becomes}
use Rattle.mend_lines.specs.declared.Becomes.TheVariants.{Stays, Goes, Recount}
use Rattle.mend_lines.specs.Forward.{none_before_of, change_of}
use Rattle.mend_lines.proofs.Steps.{Keeps, none-keeps}
use Rattle.mend_lines.proofs.Changes.{change-of, change-is, step_keeps}
use Rattle.mend_pieces.specs.Pieces.{lf_from, behind_line}
use Rattle.mend_pieces.proofs.Steps.{drop_past}
use Rattle.mend_told.proofs.Bounds.{Inside, recount-inside}
use Rattle.mend_words.specs.Told.{at_line, gone_words, change_told, changes_told, count_told, the_told_of, told_from}

-- ## Words
pub gone-again : (which : ℕ) → which ≡ 2 → ascii "option given again, taken out\n" ≡ gone_words which
unfolding gone_words
gone-again which e = rw e refl

pub gone-behind : (which : ℕ) → (which ≡ 2 → ⊥) → ascii "behind end_file, taken out\n" ≡ gone_words which
unfolding gone_words
gone-behind which n = rw (ne_eqb which 2 n) refl

-- ## A part of a line, by where it starts and stops or by its length
drop-none : (n : ℕ) → ◌≡◌ {A = Bytes} (drop n []) []
drop-none zero = refl
drop-none (suc n) = refl

take_none : (n : ℕ) → ◌≡◌ {A = Bytes} (take n []) []
take_none zero = refl
take_none (suc n) = refl

take_drop : (start stop : ℕ) (l : Bytes) → drop start (take stop l) ≡ take (stop - start) (drop start l)
take_drop start zero l = drop-none start ∙ sym (ap (λ (n : ℕ). take n (drop start l)) (let e : 0 - start ≡ 0 = omega arith in e))
take_drop zero (suc stop) l = sym (ap (λ (n : ℕ). take n l) (let e : suc stop - 0 ≡ suc stop = omega arith in e))
take_drop (suc start) (suc stop) [] = sym (take_none (suc stop - suc start))
take_drop (suc start) (suc stop) (b ∷ l) = take_drop start stop l ∙ sym (ap (λ (n : ℕ). take n (drop start l)) (let e : suc stop - suc start ≡ stop - start = omega arith in e))

-- what stands behind the front's start: to its end, or nothing
pub whole-rest : (start stop : ℕ) (front l : Bytes) → front ≡ take stop l → take (length front - start) (drop start front) ≡ drop start (take stop l)
whole-rest start stop front l e = take_all (length front - start) (drop start front) (omega (arith, length-drop start front)) ∙ ap (drop start) e

pub no-rest : (start stop : ℕ) (front l : Bytes) → front ≡ take stop l → length front < start → take 0 front ≡ drop start (take stop l)
no-rest start stop front l e h = sym (ap (drop start) (sym e) ∙ drop_past start front (omega arith))

-- ## One line
same-told : (name : Bytes) (i : ℕ) (l : Bytes) (c : Becomes) → ((start stop n : ℕ) → c ≡ Recount start stop n → Inside l start stop n) → the_told_of name i c l ≡ change_told name i (change-of l c)
unfolding the_told_of count_told house_integer
same-told name i l Stays h = refl
same-told name i l (Goes k) h = refl
same-told name i l (Recount start stop n) h =
    let d : decimal (fitted n) ≡ decimal n = ap decimal (fitted-kept n (omega (arith, (h start stop n refl).small))) in
    let b = take_drop start stop l in
    λ j. at_line name i ++ (ascii "the count is " ++ d j ++ ascii ", not " ++ b j ++ ascii "\n")

-- ## All lines
told-from : (name : Bytes) (i : ℕ) (before : List Bytes) (b : Before) (text : Bytes) (ls : List Bytes) → Keeps before b → told_from name i b ls ≡ gather (λ c. change_told name c.line c.change) (changes_from i before text ls)
unfolding told_from changes_from
told-from name i before b text [] h = refl
told-from name i before b text (l ∷ ls) h =
    let p = same-told name i l (change_of b l ls) (recount-inside b l ls) ∙ ap (change_told name i) (change-is before b l ls h) in
    let r = told-from name (suc i) (first_field l ∷ before) (behind_line b l) (drop (suc (length l)) text) ls (step_keeps before b l ls h) in
    λ j. p j ++ r j

-- from the first line on, all that is told is the law's
pub all_told : (name text : Bytes) → told_from name 1 none_before_of (lines_of text) ≡ changes_told name text
unfolding changes_told
all_told name text = told-from name 1 [] none_before_of text (lines_of text) none-keeps

-- behind the last line there is nothing left to tell
pub none_left : (name text : Bytes) (from i : ℕ) (b : Before) → length text ≤ from → told_from name i b (lines_of (drop from text)) ≡ []
unfolding told_from
none_left name text from i b h = rw (lines_end text from h)

-- ## At the line that starts at a place, up to e, its LF or the text's end
module _ (s : Bytes) (from e : ℕ) (h : from < length s) (q : e ≡ lf_from s from) where
  pub line-inside : (from ≤ e) × (e ≤ length s)
  line-inside = (omega arith, rw q (reach_le (stops_by (Byte 10)) s from (omega arith)))

  pub told_at : (name : Bytes) (i : ℕ) (b d : Before) (m : Becomes) → m ≡ change_of b (take (e - from) (drop from s)) (lines_of (drop (e + 1) s)) → d ≡ behind_line b (take (e - from) (drop from s)) → told_from name i b (lines_of (drop from s)) ≡ the_told_of name i m (take (e - from) (drop from s)) ++ told_from name (i + 1) d (lines_of (drop (e + 1) s))
  unfolding told_from
  told_at name i b d m u w = rw (u, w, lines_at s from e h q, add-one i)
