-- THE THEOREM of document 01's "Prove that no second reply or memory would satisfy it", for the mending tool: the contract settles the reply, every lent word of the list and every byte of the lent output (`mend-settled`); and in each edition
-- some reply, list and output satisfy it (`mend-some`). Assumes nothing.
use Rattle.std.specs.Prelude.{Ok, Err}
use Rattle.mend_law.specs.Types.{MendReply}
use mathlib.Core.Path.{◌≡◌, refl, sym, ap, ap₂, ◌∙◌}
use mathlib.Core.Logic.{◌⊎◌, inl, inr}
use mathlib.Core.Bool.{Bool, true, false}
use lib.Dec.{ltb}
use borrow.Author.Tests.{ltb-true, ltb-false}
use Rattle.terms.specs.Words.{List, ℕ, ◌/◌, ◌≤◌, ◌<◌, length, replicate, Bytes}
use Rattle.grammar.specs.Editions.{Edition, law_of}
use Rattle.law.specs.Network.{Rules, reading}
use Rattle.law.specs.Tables.{holding}
use Rattle.output.specs.Output.{zero_bytes, Fits, padded}
use native.Mathlib.Omega.{arith}
use Rattle.replies.specs.Replies.{longest, refusal}
use Rattle.line.specs.Lines.{lines_of}
use Rattle.mend_law.specs.Mend.{mended_text, listed_rows}
use Rattle.mend_law.proofs.Room.{accepted-told}
use Rattle.mend_law.specs.Mends.{AcceptedWithRoom, MendRefuses, Mends, too_long, no_room, past_mending, no_output, refused, done}

module _ (rules : Rules) (text : Bytes) (list : List ℕ) (lent : ℕ) where
  one-refusal : (f f' n n' : ℕ) → MendRefuses rules text list lent f n → MendRefuses rules text list lent f' n' → (f ≡ f') × (n ≡ n')
  one-refusal f f' n n' (too_long a) (too_long b) = (refl, refl)
  one-refusal f f' n n' (too_long a) (no_room b c) = absurd (omega (arith, a, b))
  one-refusal f f' n n' (too_long a) (past_mending b c d) = absurd (omega (arith, a, b))
  one-refusal f f' n n' (too_long a) (no_output b c d e) = absurd (omega (arith, a, b))
  one-refusal f f' n n' (no_room a h) (too_long b) = absurd (omega (arith, a, b))
  one-refusal f f' n n' (no_room a h) (no_room b c) = (refl, refl)
  one-refusal f f' n n' (no_room a h) (past_mending b c d) = absurd (h c)
  one-refusal f f' n n' (no_room a h) (no_output b c d e) = absurd (h c)
  one-refusal f f' n n' (past_mending a h k) (too_long b) = absurd (omega (arith, a, b))
  one-refusal f f' n n' (past_mending a h k) (no_room b c) = absurd (c h)
  one-refusal f f' n n' (past_mending a h k) (past_mending b c d) = (refl, refl)
  one-refusal f f' n n' (past_mending a h k) (no_output b c d e) = absurd (k d)
  one-refusal f f' n n' (no_output a h k j) (too_long b) = absurd (omega (arith, a, b))
  one-refusal f f' n n' (no_output a h k j) (no_room b c) = absurd (c h)
  one-refusal f f' n n' (no_output a h k j) (past_mending b c d) = absurd (d k)
  one-refusal f f' n n' (no_output a h k j) (no_output b c d e) = (refl, refl)

  never_both : (f n : ℕ) → MendRefuses rules text list lent f n → length text ≤ longest → length (lines_of text) ≤ length list / 2 → AcceptedWithRoom rules (mended_text text) → Fits lent (mended_text text) → ⊥
  never_both f n (too_long a) s r g o = omega (arith, a, s)
  never_both f n (no_room a h) s r g o = h r
  never_both f n (past_mending a h k) s r g o = k g
  never_both f n (no_output a h k j) s r g o = j o

  pub mend-settled : (r r' : MendReply) (l l' : List ℕ) (o o' : Bytes) → Mends rules text list lent r l o → Mends rules text list lent r' l' o' → (r ≡ r') × (l ≡ l') × (o ≡ o')
  mend-settled r r' l l' o o' (refused f n x p q s) (refused f' n' y p' q' s') =
      let e = one-refusal f f' n n' x y in
      (p ∙ ap₂ (λ (a b : ℕ). Err (refusal a 0 b 0)) e.0 e.1 ∙ sym p', q ∙ sym q', s ∙ sym s')
  mend-settled r r' l l' o o' (refused f n x p q s) (done a b c d p' q' s') = absurd (never_both f n x a b c d)
  mend-settled r r' l l' o o' (done a b c d p q s) (refused f' n' y p' q' s') = absurd (never_both f' n' y a b c d)
  mend-settled r r' l l' o o' (done a b c d p q s) (done a' b' c' d' p' q' s') = (p ∙ sym p', q ∙ sym q', s ∙ sym s')

-- ## One there is
at_most : (a b : ℕ) → (a ≤ b) ⊎ (a ≤ b → ⊥)
at_most a b = go (ltb b a) refl
  where
    go : (x : Bool) → ltb b a ≡ x → (a ≤ b) ⊎ (a ≤ b → ⊥)
    go true e = inr (λ h. let l = ltb-true b a e in omega arith)
    go false e = inl (ltb-false b a e)

module _ (d : Edition) (text : Bytes) (list : List ℕ) (lent : ℕ) where
  pub record Some : Type 0 where
    pub reply : MendReply
    pub left : List ℕ
    pub out : Bytes
    pub mends : Mends (reading (law_of d)) text list lent reply left out

  refusing : (file number : ℕ) → MendRefuses (reading (law_of d)) text list lent file number → Some
  refusing file number h = record { reply = Err (refusal file 0 number 0); left = replicate (length list) 0; out = zero_bytes lent; mends = refused file number h refl refl refl }

  pub mend-some : Some
  mend-some = sized (at_most (length text) longest)
    where
      sized : (length text ≤ longest) ⊎ (length text ≤ longest → ⊥) → Some
      sized (inr h) = refusing 1 1 (too_long (let x : (length text ≤ longest → ⊥) = h in over x))
        where
          over : (length text ≤ longest → ⊥) → longest < length text
          over x = go (ltb longest (length text)) refl
            where
              go : (b : Bool) → ltb longest (length text) ≡ b → longest < length text
              go true e = ltb-true longest (length text) e
              go false e = absurd (x (ltb-false longest (length text) e))
      sized (inl size) = roomy (at_most (length (lines_of text)) (length list / 2))
        where
          roomy : (length (lines_of text) ≤ length list / 2) ⊎ (length (lines_of text) ≤ length list / 2 → ⊥) → Some
          roomy (inr h) = refusing 1 11 (no_room size h)
          roomy (inl room) = judged (accepted-told d (mended_text text))
            where
              judged : AcceptedWithRoom (reading (law_of d)) (mended_text text) ⊎ (AcceptedWithRoom (reading (law_of d)) (mended_text text) → ⊥) → Some
              judged (inr h) = refusing 0 26 (past_mending size room h)
              judged (inl good) = fitting (at_most (length (mended_text text)) 16777215) (at_most (length (mended_text text)) lent)
                where
                  fitting : (length (mended_text text) ≤ 16777215) ⊎ (length (mended_text text) ≤ 16777215 → ⊥) → (length (mended_text text) ≤ lent) ⊎ (length (mended_text text) ≤ lent → ⊥) → Some
                  fitting (inr h) y = refusing 1 19 (no_output size room good (λ f. h f.size))
                  fitting (inl h) (inr y) = refusing 1 19 (no_output size room good (λ f. y f.room))
                  fitting (inl h) (inl y) = record {
                    reply = Ok (length (listed_rows text), length (mended_text text));
                    left = holding 0 (listed_rows text) list;
                    out = padded lent (mended_text text);
                    mends = done size room good (record { size = h; room = y }) refl refl refl;
                  }
