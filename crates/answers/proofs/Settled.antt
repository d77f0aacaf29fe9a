-- THE THEOREM of document 01's "Prove that no second reply or memory would satisfy it", for the sentences: the contract of each public function settles every byte of the lent output and the place that is returned,
-- for every output, place, name and reply; and some output and place satisfy it. Assumes nothing.
use Rattle.std.specs.Prelude.{Some, None, Option}
use Rattle.replies.specs.Types.{PairReply, RndfReply}
use mathlib.Core.Path.{◌≡◌, refl, sym, ap, ◌∙◌}
use mathlib.Core.List.{List, ◌++◌}
use Prim.Native.Nat.{ℕ, ◌<◌}
use native.Mathlib.Omega.{arith}
use lib.ListN.{length, length-append}
use Rattle.terms.specs.Ascii.{Bytes, ascii}
use Rattle.output.specs.Output.{Fits}
use Rattle.output.specs.Ended.{Output}
use Rattle.output.specs.Pen.{Pen, pen, put, Wrote, output_of, answer_of}
use Rattle.output.proofs.Writing.{wrote_one}
use Rattle.output.proofs.Whole.{output-is}
use Rattle.shown.specs.Shown.{line_in}
use Rattle.reasons.specs.Reasons.{reason, reason_of}
use Rattle.answers.specs.Sentences.{place, why_of, WholeOrNone, whole, too_long}
use Rattle.answers.specs.Answers.{sentence, rndf_answer_of, pair_answer_of, no_start, mission_answer}
use Rattle.answers.proofs.Wholes.{told-whole, told_none}

-- these bytes were put into the output `before` from this place on, which left `after` and the next place. The shape of all these contracts
abbrev pub Puts : Bytes → (before : Bytes) (at : ℕ) (after : Bytes) (then : ℕ) → Type 0
Puts bytes before at after then = Wrote (pen before at) bytes (pen after then)

-- no second output, and no second place
abbrev pub OnlyOne : Bytes → Type 0
OnlyOne bytes = (before : Bytes) (at : ℕ) (after after' : Bytes) (then then' : ℕ) → Puts bytes before at after then → Puts bytes before at after' then' → (after ≡ after') × (then ≡ then')

-- one there is
abbrev pub SomeOne : Bytes → Type 0
SomeOne bytes = (before : Bytes) (at : ℕ) → (after : Bytes) × (then : ℕ) × Puts bytes before at after then

pub record SettledBy (bytes : Bytes) : Type 0 where
  pub only_one : OnlyOne bytes
  pub some_one : SomeOne bytes

-- whatever the bytes are
settled : (bytes : Bytes) → SettledBy bytes
settled bytes = record {
  only_one = λ before at after after' then then' x y. let e = wrote_one x y in (ap (λ (p : Pen). p.out) e, ap (λ (p : Pen). p.at) e);
  some_one = λ before at. let p = put (pen before at) bytes in (p.out, p.at, record { is = refl });
}

-- ## The public functions, each with the bytes of its contract
-- `put_reason`
pub reason-settled : (number : ℕ) → SettledBy (reason number)
reason-settled number = settled (reason number)

-- `put_reason_of`
pub reason-of-settled : (file number : ℕ) → SettledBy (reason_of file number)
reason-of-settled file number = settled (reason_of file number)

-- `put_sentence`
pub sentence-settled : (name text : Bytes) (line number column : ℕ) → SettledBy (sentence name text line number column)
sentence-settled name text line number column = settled (sentence name text line number column)

-- `put_rndf_answer`
pub rndf-answer-settled : (name text trouble : Bytes) (reply : RndfReply) → SettledBy (rndf_answer_of name text trouble reply)
rndf-answer-settled name text trouble reply = settled (rndf_answer_of name text trouble reply)

-- `put_pair_answer`
pub pair-answer-settled : (rndf mdf rndf-text mdf-text : Bytes) (reply : PairReply) → SettledBy (pair_answer_of rndf mdf rndf-text mdf-text reply)
pair-answer-settled rndf mdf rndf-text mdf-text reply = settled (pair_answer_of rndf mdf rndf-text mdf-text reply)

-- `put_no_start`
pub no-start-settled : (rndf start : Bytes) → SettledBy (no_start rndf start)
no-start-settled rndf start = settled (no_start rndf start)

-- `put_mission_answer`
pub mission-answer-settled : (rndf mdf rndf-text mdf-text start : Bytes) (goals : List ℕ) (reply : PairReply) → SettledBy (mission_answer rndf mdf rndf-text mdf-text start goals reply)
mission-answer-settled rndf mdf rndf-text mdf-text start goals reply = settled (mission_answer rndf mdf rndf-text mdf-text start goals reply)

-- ## `write_sentence`, and the library's `kastepuhm_sentence`
module _ (said : Bytes) (lent : ℕ) where
  -- no second number, and no second output
  pub whole-or-none-one : {told told' : ℕ} {out out' : Bytes} → WholeOrNone said lent told out → WholeOrNone said lent told' out' → (told ≡ told') × (out ≡ out')
  whole-or-none-one (whole f t o) (whole f' t' o') = (t ∙ sym t', o ∙ sym o')
  whole-or-none-one (whole f t o) (too_long never t' o') = absurd (never f)
  whole-or-none-one (too_long never t o) (whole f' t' o') = absurd (never f')
  whole-or-none-one (too_long never t o) (too_long never' t' o') = (t ∙ sym t', o ∙ sym o')

  ended : (out : Bytes) (answer : Option ℕ) → Output lent said out answer → (told : ℕ) × (out : Bytes) × WholeOrNone said lent told out
  ended out (Some n) o = (n, out, told-whole o)
  ended out None o = (0, out, told_none o)

  -- one there is
  pub whole-or-none-some : (told : ℕ) × (out : Bytes) × WholeOrNone said lent told out
  whole-or-none-some = ended (output_of lent said) (answer_of lent said) (output-is lent said)

-- no sentence is empty: 0 is told of none that fits
module _ (name text : Bytes) (line number column : ℕ) where
  some_byte : 0 < length (sentence name text line number column)
  unfolding sentence ascii
  some_byte =
      let front = name ++ place line ++ place column in
      omega (arith, length-append (front ++ ascii ": ") (why_of (line_in text line) number column), length-append front (ascii ": "))

  pub none-never-fits : (lent : ℕ) (out : Bytes) → WholeOrNone (sentence name text line number column) lent 0 out → Fits lent (sentence name text line number column) → ⊥
  none-never-fits lent out (whole f t o) g = omega (arith, t, some_byte)
  none-never-fits lent out (too_long never t o) g = never g
