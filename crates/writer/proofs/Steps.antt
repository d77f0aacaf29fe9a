-- What the program does, said as the contracts say it: from the reader's contract and what was answered then. Assumes nothing.
use Rattle.std.specs.Prelude.{Some, None, Ok, Err}
use Rattle.writings.specs.Types.{WriteReply}
use Rattle.replies.specs.Types.{PairReply, RndfReply}
use mathlib.Core.Path.{◌≡◌, refl, sym, ap, subst, ◌∙◌}
use Prim.Native.Nat.{ℕ, ◌≤◌}
use native.Mathlib.Omega.{arith}
use lib.ListN.{length}
use Rattle.terms.specs.Ascii.{Bytes}
use Rattle.edition.specs.declared.Edition.{Edition}
use Rattle.edition.specs.Editions.{inner, rules_of}
use Rattle.editions.proofs.Later.{later}
use Rattle.rows.specs.declared.FileRow.{FileRow}
use Rattle.rows.specs.declared.MissionFileRow.{MissionFileRow}
use Rattle.table_words.specs.Words.{Lent, MissionLent, zeros, mission_zeros}
use Rattle.counts.specs.declared.Counts.{Counts}
use Rattle.counts.specs.declared.MissionCounts.{MissionCounts}
use Rattle.refusal.specs.declared.Refusal.{Refusal}
use Rattle.replies.specs.Replies.{refusal, ReadsRndf, ReadsPair}
use Rattle.output.specs.Ended.{Output}
use Rattle.output.specs.Output.{Fits}
use Rattle.output.specs.Output as O
use Rattle.output.proofs.Whole.{answered-written, answered_too-long}
use Rattle.house_lines.specs.Arranged.{arranged_text}
use Rattle.house_arranged.proofs.Theorems.{arranged-rndf, arranged-mdf}
use Rattle.writer.specs.Answers.{Answers, AnswersMdf}
use Rattle.writer.specs.Answers as A
use Rattle.writings.specs.Writes.{WritesRndf, WritesMdf}
use Rattle.writings.proofs.Said.{wrote-or-not, mdf-wrote-or-not}
use Rattle.writer.specs.ByStatements as W
use Rattle.writer.proofs.Lawful.{rndf-writes-to, mdf-writes-to}
use Rattle.writer.proofs.Replied.{accepted_spells, refused_zero, pair_spells, pair-refused_zero}

-- ## An RNDF
module _ (ed : Edition) (text : Bytes) (t left : Lent) (read : RndfReply) (lent : ℕ) (out : Bytes) (h : ReadsRndf (rules_of ed) text t read left) where
  abbrev so : WriteReply → Lent → Type 0
  so answer held = WritesRndf (rules_of ed) text t lent answer held out

  -- written: the tables hold what the reader left
  pub written-so : (c : Counts) (file : FileRow) (k : ℕ) → Answers read lent (arranged_text text) out (Ok (c, file, k)) → so (Ok (c, file, k)) left
  written-so c file k (A.as_read why e a o) = absurd (wrote-or-not a)
  written-so c file k (A.over c' file' e unfit a o) = absurd (wrote-or-not a)
  written-so c file k (A.put c' file' e fits a o) =
      let x = accepted_spells text t left (inner ed) c' file' (subst (λ (y : RndfReply). ReadsRndf (rules_of ed) text t y left) e h) in
      let w = arranged-rndf x.0 text (later (inner ed) x.0 text x.1) in
      rndf-writes-to (inner ed) text t lent (Ok (c, file, k)) left out (W.written x.0 c' file' (subst (λ (y : RndfReply). ReadsRndf (rules_of ed) text t y left) e h) x.1 (subst (Fits lent) w fits) (a ∙ ap (λ (y : Bytes). Ok (c', file', length y)) w) (o ∙ ap (O.padded lent) w))

  -- refused: the tables that the reader left are cleared
  pub refused-so : (why : Refusal) (cleared : Lent) → Answers read lent (arranged_text text) out (Err why) → cleared ≡ zeros left → zeros left ≡ zeros t → so (Err why) cleared
  refused-so why cleared (A.as_read why' e a o) z k =
      let y = subst (λ (y : RndfReply). ReadsRndf (rules_of ed) text t y left) e h in
      rndf-writes-to (inner ed) text t lent (Err why) cleared out (W.refused why' (subst (λ (l : Lent). ReadsRndf (rules_of ed) text t (Err why') l) (refused_zero text t left why' y ∙ sym (z ∙ k)) y) a o)
  refused-so why cleared (A.over c file e unfit a o) z k =
      let y = subst (λ (y : RndfReply). ReadsRndf (rules_of ed) text t y left) e h in
      let x = accepted_spells text t left (inner ed) c file y in
      let w = arranged-rndf x.0 text (later (inner ed) x.0 text x.1) in
      rndf-writes-to (inner ed) text t lent (Err why) cleared out (W.too_long x.0 c file left y x.1 (λ f. unfit (subst (Fits lent) (sym w) f)) a (z ∙ k) o)
  refused-so why cleared (A.put c file e fits a o) z k = absurd (wrote-or-not (sym a))

-- ## The MDF of a pair
module _ (ed : Edition) (rndf mdf : Bytes) (t left : Lent) (u mission_left : MissionLent) (read : PairReply) (lent : ℕ) (out : Bytes) (h : ReadsPair (rules_of ed) rndf mdf t u read left mission_left) where
  pair-told : (r : PairReply) → read ≡ r → ReadsPair (rules_of ed) rndf mdf t u r left mission_left
  pair-told r e = subst (λ (y : PairReply). ReadsPair (rules_of ed) rndf mdf t u y left mission_left) e h

  pub mdf-written-so : (c : Counts) (file : FileRow) (d : MissionCounts) (row : MissionFileRow) (k : ℕ) → AnswersMdf read lent (arranged_text mdf) out (Ok (c, file, d, row, k)) → WritesMdf (rules_of ed) rndf mdf t u lent (Ok (c, file, d, row, k)) left mission_left out
  mdf-written-so c file d row k (A.as_read why e a o) = absurd (mdf-wrote-or-not a)
  mdf-written-so c file d row k (A.over c' file' d' row' e unfit a o) = absurd (mdf-wrote-or-not a)
  mdf-written-so c file d row k (A.put c' file' d' row' e fits a o) =
      let y = pair-told (Ok (c', file', d', row')) e in
      let x = pair_spells rndf mdf t left u mission_left (inner ed) c' file' d' row' y in
      let w = arranged-mdf x.0 mdf x.1 in
      mdf-writes-to (inner ed) rndf mdf t u lent (Ok (c, file, d, row, k)) left mission_left out (W.written x.0 c' file' d' row' y x.1 (subst (Fits lent) w fits) (a ∙ ap (λ (y : Bytes). Ok (c', file', d', row', length y)) w) (o ∙ ap (O.padded lent) w))

  pub mdf-refused-so : (why : Refusal) (cleared : Lent) (mission-cleared : MissionLent) → AnswersMdf read lent (arranged_text mdf) out (Err why) → cleared ≡ zeros left → zeros left ≡ zeros t
      → mission-cleared ≡ mission_zeros mission_left → mission_zeros mission_left ≡ mission_zeros u → WritesMdf (rules_of ed) rndf mdf t u lent (Err why) cleared mission-cleared out
  mdf-refused-so why cleared mission-cleared (A.as_read why' e a o) z k y j =
      let p = pair-told (Err why') e in
      let q = pair-refused_zero rndf mdf t left u mission_left why' p in
      let one = subst (λ (l : Lent). ReadsPair (rules_of ed) rndf mdf t u (Err why') l mission_left) (q.0 ∙ sym (z ∙ k)) p in
      mdf-writes-to (inner ed) rndf mdf t u lent (Err why) cleared mission-cleared out (W.refused why' (subst (λ (l : MissionLent). ReadsPair (rules_of ed) rndf mdf t u (Err why') cleared l) (q.1 ∙ sym (y ∙ j)) one) a o)
  mdf-refused-so why cleared mission-cleared (A.over c file d row e unfit a o) z k y j =
      let p = pair-told (Ok (c, file, d, row)) e in
      let x = pair_spells rndf mdf t left u mission_left (inner ed) c file d row p in
      let w = arranged-mdf x.0 mdf x.1 in
      mdf-writes-to (inner ed) rndf mdf t u lent (Err why) cleared mission-cleared out (W.too_long x.0 c file d row left mission_left p x.1 (λ f. unfit (subst (Fits lent) (sym w) f)) a (z ∙ k) (y ∙ j) o)
  mdf-refused-so why cleared mission-cleared (A.put c file d row e fits a o) z k y j = absurd (mdf-wrote-or-not (sym a))

-- ## By how the writing ended
module _ (lent : ℕ) (x out : Bytes) where
  -- its length fits into the reply
  pub few : (k : ℕ) → Output lent x out (Some k) → k ≤ 16777215
  few k o = let w = answered-written o in let f = w.0.size in omega (arith, w.1)

  module _ (c : Counts) (file : FileRow) where
    pub put-so : (k : ℕ) → Output lent x out (Some k) → Answers (Ok (c, file)) lent x out (Ok (c, file, k))
    put-so k o = let w = answered-written o in A.put c file refl w.0 (ap ((λ z. Ok (c, file, z))) w.1) w.2

    pub over-so : Output lent x out None → Answers (Ok (c, file)) lent x out (Err (refusal 1 0 19 0))
    over-so o = let w = answered_too-long o in A.over c file refl w.0 refl w.1

    module _ (d : MissionCounts) (row : MissionFileRow) where
      pub mdf-put-so : (k : ℕ) → Output lent x out (Some k) → AnswersMdf (Ok (c, file, d, row)) lent x out (Ok (c, file, d, row, k))
      mdf-put-so k o = let w = answered-written o in A.put c file d row refl w.0 (ap ((λ z. Ok (c, file, d, row, z))) w.1) w.2

      pub mdf-over-so : Output lent x out None → AnswersMdf (Ok (c, file, d, row)) lent x out (Err (refusal 2 0 19 0))
      mdf-over-so o = let w = answered_too-long o in A.over c file d row refl w.0 refl w.1
