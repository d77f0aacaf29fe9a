-- THE THEOREM of "no second reply or memory" for `write_expected` and the library's `kastepuhm_expected`: its contract settles the answer and every byte of the lent output, whatever is chosen where the law leaves room; and with
-- the words that are told some answer and output satisfy it. Assumes nothing.
use Rattle.std.specs.Prelude.{Some, None, Option}
use mathlib.Core.Path.{◌≡◌, refl, sym, ◌∙◌}
use Prim.Native.Nat.{ℕ}
use Rattle.terms.specs.Ascii.{Bytes}
use Rattle.edition.specs.declared.Edition.{Edition}
use Rattle.output.specs.Ended.{Output}
use Rattle.output.specs.Pen.{output_of, answer_of}
use Rattle.output.proofs.Whole.{output-is, answered-written, answered_too-long}
use Rattle.expected_law.specs.declared.ExpectedAnswer.{ExpectedAnswer}
use Rattle.expected_law.specs.Tells.{AnswersExpected}
use Rattle.expected.specs.Words.{expected_words_of, too_short_of}
use Rattle.expected.specs.Words as Words
use Rattle.expected.proofs.Answers.{answers-whole, answers-none}

module _ (e : Edition) (rndf mdf : Bytes) (file line number lent : ℕ) where
  -- no second answer and no second output
  pub expected-one : {chosen : Edition → (rndf mdf : Bytes) → (file line number : ℕ) → Bytes} {a b : ExpectedAnswer} {out left : Bytes} → AnswersExpected chosen e rndf mdf file line number lent a out → AnswersExpected chosen e rndf mdf file line number lent b left → (a ≡ b) × (out ≡ left)
  expected-one {chosen} {a} {b} {out} {left} x y = go (answer_of lent words) (output-is lent words)
    where
      words : Bytes
      words = chosen e rndf mdf file line number

      go : (finished : Option ℕ) → Output lent words (output_of lent words) finished → (a ≡ b) × (out ≡ left)
      go (Some n) o =
          let f = (answered-written o).0 in
          ((x.whole f).0 ∙ sym (y.whole f).0, (x.whole f).1 ∙ sym (y.whole f).1)
      go None o =
          let f = (answered_too-long o).0 in
          ((x.too_long f).0 ∙ sym (y.too_long f).0, (x.too_long f).1 ∙ sym (y.too_long f).1)

  some : {out : Bytes} (answer : Option ℕ) → Output lent (expected_words_of e rndf mdf file line number) out answer → (a : ExpectedAnswer) × (out : Bytes) × AnswersExpected expected_words_of e rndf mdf file line number lent a out
  some {out} (Some n) o = (Words.answer_of n, out, answers-whole refl o)
  some {out} None o = (too_short_of, out, answers-none refl o)

  -- one there is
  pub expected-some : (a : ExpectedAnswer) × (out : Bytes) × AnswersExpected expected_words_of e rndf mdf file line number lent a out
  expected-some = some (answer_of lent (expected_words_of e rndf mdf file line number)) (output-is lent (expected_words_of e rndf mdf file line number))
