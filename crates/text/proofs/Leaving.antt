-- A line that leads on from a place: the house line of a sample that the grammar has for it. For every file. Assumes nothing.
use mathlib.Core.Path.{◌≡◌, refl, sym, ap, subst, ◌∙◌}
use mathlib.Core.List.{List, [], ◌∷◌}
use Prim.Native.Nat.{ℕ, suc, ◌+◌, ◌≤◌}
use native.Mathlib.Omega.{arith}
use lib.ListN.{length}
use lib.Dec.{T}
use Rattle.terms.specs.Ascii.{Bytes, ascii}
use Rattle.terms.specs.Words.{Each}
use Rattle.scan.specs.Allowed.{all}
use Rattle.line.specs.Content.{Field, at, IsField}
use Rattle.grammar.specs.Language.{Lang}
use Rattle.grammar.specs.Machine.{Machine}
use Rattle.grammar.proofs.MachineLaws.{Cheaper, Goes_on}
use Rattle.text.specs.Said.{Said, word, name}
use Rattle.text.specs.HouseLine.{house_field, house_line}
use Rattle.text.proofs.TextReading.{Leaves}
use Rattle.text.proofs.HouseLines.{Writable, placed, house-says}

-- a name of one byte
abbrev pub x : Bytes
x = ascii "x"

x-field : IsField (ascii "x")
unfolding ascii all
x-field = record { some = omega arith; allowed = refl }

x-short : length (ascii "x") ≤ 128
unfolding ascii
x-short = omega arith

module _ {L : Lang} (A : Machine L) (Line-of : (k : L.Kind) → L.Pay k → List Said) (Good : A.Base → Type 0) (cost : A.Base → ℕ) where
  -- a line of a keyword and a name, which is known by its place
  pub by_name : (b : A.Base) (w : Bytes) (v : Field → L.Pay (A.due b).on) → ((f : Field) → Line-of (A.due b).on (v f) ≡ word w ∷ name f ∷ []) → IsField w × (length w ≤ 20)
      → ((f : Field) → T ((A.due b).test (v f))) → ((f : Field) → Cheaper cost (cost b) ((A.due b).then (v f))) → Leaves A Line-of cost b
  unfolding house_field
  by_name b w v is k ok less =
      let k' = (A.due b).on in
      let here = at 0 x in
      record {
        v = λ a. v (at (suc (a + length w)) x);
        line = house_line (Line-of k' (v here));
        said = λ a. house-says Line-of a k' (v here) (v (at (suc (a + length w)) x)) (subst (Each Writable) (sym (is here)) (k, ((x-field, x-short), tt))) (subst (λ (l : List Said). length l ≤ 3) (sym (is here)) (omega arith))
            (is (at (suc (a + length w)) x) ∙ ap (placed a) (sym (is here)));
        ok = λ a. ok (at (suc (a + length w)) x);
        less = λ a. less (at (suc (a + length w)) x);
      }

  module _ (sample : (b : A.Base) → Good b → Goes_on A Good cost b) where
    -- a line whose house writing says the same wherever it stands
    abbrev pub By : (b : A.Base) → Good b → Type 0
    By b g =
        let l = Line-of (A.due b).on (sample b g).v in
        Each Writable l → length l ≤ 3 → ((a : ℕ) → l ≡ placed a l) → Leaves A Line-of cost b

    pub by : (b : A.Base) (g : Good b) → By b g
    by b g h n e =
        let s = sample b g in
        record { v = λ a. s.v; line = house_line (Line-of (A.due b).on s.v); said = λ a. house-says Line-of a (A.due b).on s.v s.v h n (e a); ok = λ a. s.ok; less = λ a. s.less }
