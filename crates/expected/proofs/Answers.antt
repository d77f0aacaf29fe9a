-- The words alone in an output: cleared, put and finished they are there whole, or not at all, and the answer says which. Assumes nothing.
use Rattle.std.specs.Prelude.{Some, None}
use mathlib.Core.Path.{◌≡◌, ap, ◌∙◌}
use Prim.Native.Nat.{ℕ}
use mir.Syntax.{w32}
use mir.Val.{Fits}
use native.Mathlib.Omega.{arith}
use Rattle.terms.specs.Ascii.{Bytes}
use Rattle.edition.specs.declared.Edition.{Edition}
use Rattle.output.specs.Ended.{Output}
use Rattle.output.proofs.Whole.{answered-written, answered_too-long}
use Rattle.expected_law.specs.declared.ExpectedAnswer.{ExpectedAnswer}
use Rattle.expected_law.specs.Tells.{AnswersExpected}
use Rattle.expected.specs.Words.{expected_words_of, answer_of, too_short_of}
use Rattle.expected.proofs.Right.{right}

-- a length is a u32
pub fits_word : {lent n : ℕ} {words out : Bytes} → Output lent words out (Some n) → Fits w32 n
fits_word o = let w = answered-written o in let s = w.0.size in let e = w.1 in record { fits = omega arith }

module _ {e : Edition} {rndf mdf : Bytes} {file line number lent : ℕ} {answer : ExpectedAnswer} {out : Bytes} where
  pub answers-whole : {n : ℕ} → answer ≡ answer_of n → Output lent (expected_words_of e rndf mdf file line number) out (Some n) → AnswersExpected expected_words_of e rndf mdf file line number lent answer out
  answers-whole a o =
      let w = answered-written o in
      record {
        right = right e rndf mdf file line number;
        whole = λ f. (a ∙ ap answer_of w.1, w.2);
        too_long = λ never. absurd (never w.0);
      }

  pub answers-none : answer ≡ too_short_of → Output lent (expected_words_of e rndf mdf file line number) out None → AnswersExpected expected_words_of e rndf mdf file line number lent answer out
  answers-none a o =
      let w = answered_too-long o in
      record {
        right = right e rndf mdf file line number;
        whole = λ f. absurd (w.0 f);
        too_long = λ never. (a, w.1);
      }
