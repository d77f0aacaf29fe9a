-- THE THEOREM of L9's "An accepted text comes out the same with an empty list" (`accepted-stays`), by the tool's contract and in every edition: an accepted text spells a network, and a network's lines have nothing to mend; 26 is never told of it (`never-past`).
-- So what was mended, which a reader with room enough accepts (`mended-once`), needs no second mending (`mended-again`). Assumes nothing.
use Rattle.std.specs.Prelude.{Ok}
use Rattle.mend_law.specs.Types.{MendReply}
use mathlib.Core.Path.{◌≡◌, sym, ap, ap₂, subst, ◌∙◌}
use native.Mathlib.Omega.{arith}
use lib.Seq.{take-append_seam}
use Rattle.terms.specs.Words.{List, [], ◌++◌, ℕ, ◌-◌, length, take, replicate, Bytes}
use Rattle.line.specs.Line.{Field}
use Rattle.law.specs.Network.{Edition, Network, reading, SpellsNetwork, SpellsText}
use Rattle.law.specs.Tables.{gather, holding}
use Rattle.output.specs.Output.{zero_bytes, Fits, padded}
use Rattle.replies.specs.Replies.{refusal}
use Rattle.mend_stays.specs.Again.{MendedOnce, MendedAgain}
use Rattle.mend_law.specs.Mend.{LineChange, row, changes, mended_text, listed_rows}
use Rattle.mend_law.specs.Mends.{AcceptedWithRoom, ListRoom, MendRefuses, Mends, too_long, no_room, past_mending, no_output, refused, done}
use Rattle.mend_law.specs.Kept.{AcceptedStays}
use Rattle.mend_law.proofs.Ties.{lines_cut}
use Rattle.mend_law.proofs.Kept.{Unchanged, unlisted-same}
use Rattle.mend_stays.proofs.Told as Told
use Rattle.mend_stays.proofs.Unlisted.{nothing_listed}
use Rattle.mend_stays.proofs.Lines.{told-by}
use Rattle.mend_stays.proofs.Networks.{network-within, network-counted, network-once, network-some}

-- what a mending replies of its bytes
second-same : (a b c d : ℕ) → ◌≡◌ {A = MendReply} (Ok (a, b)) (Ok (c, d)) → b ≡ d
second-same a b c d e = grind arith

module _ (d : Edition) where
  -- a well-formed text has nothing to mend, whatever its references
  pub unlisted : (text : Bytes) (n : Network Field) → SpellsText (reading d) SpellsNetwork n text → listed_rows text ≡ []
  unfolding listed_rows
  unlisted text n s = ap (gather (λ (c : LineChange). row c.line c.change)) (lines_cut s.cut) ∙ nothing_listed 1 text Told.done (told-by d s.each (network-some d n s.said s.net))
      (network-within d n s.said s.net) (network-once d n s.said s.net) (network-counted d n s.said s.net)

  pub spelled_stays : (text : Bytes) (n : Network Field) → SpellsText (reading d) SpellsNetwork n text → Unchanged text
  spelled_stays text n s = unlisted-same text (unlisted text n s)

  -- an accepted one, too
  stays-so : (text : Bytes) → AcceptedWithRoom (reading d) text → Unchanged text
  stays-so text a = spelled_stays text a.1 a.2.spelled

  -- 26 is not told of an accepted text
  pub never-past : (text : Bytes) (list : List ℕ) (lent file number : ℕ) → AcceptedWithRoom (reading d) text → MendRefuses (reading d) text list lent file number → number ≡ 26 → ⊥
  never-past text list lent file number good (too_long h) e = omega arith
  never-past text list lent file number good (no_room h r) e = omega arith
  never-past text list lent file number good (past_mending h r n) e = n (subst (AcceptedWithRoom (reading d)) (sym (stays-so text good).same) good)
  never-past text list lent file number good (no_output h r g n) e = omega arith

  -- with room for the list and for the text, none is
  never-refused : (text : Bytes) (list : List ℕ) (lent file number : ℕ) → AcceptedWithRoom (reading d) text → ListRoom text list → Fits lent text → MendRefuses (reading d) text list lent file number → ⊥
  never-refused text list lent file number good r f (too_long h) = let s = good.2.size in omega arith
  never-refused text list lent file number good r f (no_room h n) = n r
  never-refused text list lent file number good r f (past_mending h q n) = n (subst (AcceptedWithRoom (reading d)) (sym (stays-so text good).same) good)
  never-refused text list lent file number good r f (no_output h q g n) = n (subst (Fits lent) (sym (stays-so text good).same) f)

  pub accepted-stays : AcceptedStays d
  accepted-stays text list lent reply left out good r f (refused file number h e l o) = absurd (never-refused text list lent file number good r f h)
  accepted-stays text list lent reply left out good r f (done a b c g e l o) =
      let s = stays-so text good in
      let z : length list - 0 ≡ length list = omega arith in (
        e ∙ (λ i. Ok (length (s.nothing_listed i), length (s.same i))),
        l ∙ ap (λ (rows : List (List ℕ)). holding 0 rows list) s.nothing_listed ∙ ap (λ (n : ℕ). replicate n 0) z,
        o ∙ ap (padded lent) s.same,
      )

  -- what came out is accepted by a reader with room enough
  pub mended-once : MendedOnce d
  mended-once text list lent rows bytes left out (refused file number h e l o) = absurd (let z : ◌≡◌ {A = ℕ} 0 1 = cc in omega arith)
  mended-once text list lent rows bytes left out (done a b c g e l o) =
      let n : bytes ≡ length (mended_text text) = second-same rows bytes _ _ e in
      let same : take bytes out ≡ mended_text text = ap₂ take n o ∙ take-append_seam (mended_text text) (zero_bytes (lent - length (mended_text text))) in
      subst (AcceptedWithRoom (reading d)) (sym same) c

  -- so mending it again changes nothing
  pub mended-again : MendedAgain d
  mended-again text list lent rows bytes left out m list' lent' reply left' out' r f = accepted-stays (take bytes out) list' lent' reply left' out' (mended-once text list lent rows bytes left out m) r f
