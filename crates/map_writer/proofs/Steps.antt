-- What the program does, said as the contract says it: from the reader's contract, from what was answered then, and from `map_tables`: what is put of an accepted network's rows is its map. Assumes nothing.
use Rattle.std.specs.Prelude.{Some, None, Ok, Err, Option}
use Rattle.writings.specs.Types.{WriteReply}
use Rattle.replies.specs.Types.{RndfReply}
use mathlib.Core.Path.{◌≡◌, refl, sym, ap, subst, ◌∙◌}
use mathlib.Core.Bool.{Bool, true, false, ◌&&◌}
use Prim.Native.Nat.{ℕ, ◌≤◌}
use native.Mathlib.Omega.{arith}
use borrow.Author.Tests.{leb-true}
use lib.ListN.{length}
use lib.Dec.{leb}
use Rattle.terms.specs.Ascii.{Bytes}
use Rattle.terms.specs.Words.{pick}
use Rattle.line.specs.Content.{Field}
use Rattle.law.specs.Network.{Network}
use Rattle.edition.specs.declared.Edition.{Edition}
use Rattle.edition.specs.Editions.{inner, rules_of}
use Rattle.law.specs.Tables.{Lent, filled, zeros}
use Rattle.rows.specs.declared.FileRow.{FileRow}
use Rattle.counts.specs.declared.Counts.{Counts}
use Rattle.refusal.specs.declared.Refusal.{Refusal}
use Rattle.replies.specs.Replies.{an_rndf, refusal, rows_used_of, ReadsRndf}
use Rattle.replies.specs.Short.{AcceptsRndf}
use Rattle.replies.specs.Replies as R
use Rattle.replies.proofs.Later.{accepts-later}
use Rattle.replies.proofs.Said.{never_both, refused_zero}
use Rattle.output.specs.Ended.{Output}
use Rattle.output.specs.Output as O
use Rattle.output.specs.Pen.{Pen, pen, put, finished_of, Finishes}
use Rattle.output.proofs.Whole.{written, answered-written, answered_too-long}
use Rattle.map_law.specs.Map.{geojson}
use Rattle.map_tables.proofs.Theorem.{map-drawn}
use Rattle.writings.specs.Writes.{AcceptedText, MapOf, WritesMap}
use Rattle.writings.specs.Writes as W
use Rattle.writings.proofs.Told as Told
use Rattle.map_writer.specs.Answers.{whole, Answers}
use Rattle.map_writer.specs.Answers as A

-- no answer is both
wrote-or-not : {c : Counts} {file : FileRow} {k : ℕ} {why : Refusal} → ◌≡◌ {A = WriteReply} (Ok (c, file, k)) (Err why) → ⊥
wrote-or-not e = let z : ◌≡◌ {A = ℕ} 0 1 = cc in omega arith

-- the counts of a reply; a refusal has those that are given
abbrev counts_of : Counts → RndfReply → Counts
counts_of none (Ok (c, file)) = c
counts_of none (Err why) = none

-- ## How the writing ended
-- cleared, put by any puts f from the front on, and finished
pub whole-so : (f : Pen → Pen) (lent : ℕ) {cleared full : Bytes} {at : ℕ} {left : Bytes} {answer : Option ℕ} → cleared ≡ O.zero_bytes lent → pen full at ≡ f (pen cleared 0) → Finishes full at left answer
    → Finishes (f (pen (O.zero_bytes lent) 0)).out (f (pen (O.zero_bytes lent) 0)).at left answer
whole-so f lent {cleared} {full} {at} {left} {answer} z p g = subst (λ (q : Pen). Finishes q.out q.at left answer) (p ∙ ap (λ (l : Bytes). f (pen l 0)) z) g

-- its length fits into the reply
pub few : {l left : Bytes} {at k : ℕ} → Finishes l at left (Some k) → k ≤ 16777215
unfolding finished_of
few {l} {left} {at} {k} f = go (leb at 16777215) (leb at (length l)) refl f.answers
  where
    go : (s t : Bool) → leb at 16777215 ≡ s → Some k ≡ pick (s && t) (Some at) None → k ≤ 16777215
    go true true e w = let h = leb-true at 16777215 e in let q : k ≡ at = cc in omega arith
    go true false e w = absurd (let z : ◌≡◌ {A = ℕ} 0 1 = cc in omega arith)
    go false t e w = absurd (let z : ◌≡◌ {A = ℕ} 0 1 = cc in omega arith)

-- ## The map of what the reader left
-- the pen behind it, by the tables
abbrev pub behind : Bytes → Lent → (lent : ℕ) → Counts → Pen
behind text left lent = whole text left.segments left.lanes left.zones left.spots left.points left.checkpoints lent

-- the network that was accepted, and that the pen stands behind its map
record Drawn (ed : Edition) (text : Bytes) (t left : Lent) (lent : ℕ) (c : Counts) : Type 0 where
  net : Network Field
  accepts : AcceptsRndf (rules_of ed) text t net
  is : put (pen (O.zero_bytes lent) 0) (geojson net) ≡ behind text left lent c

drawn-so : (ed : Edition) (text : Bytes) (t left : Lent) (lent : ℕ) (c : Counts) (file : FileRow) → ReadsRndf (rules_of ed) text t (Ok (c, file)) left → Drawn ed text t left lent c
drawn-so ed text t left lent c file (R.accepted n a e k) = record {
  net = n;
  accepts = a;
  is = sym (ap (λ (l : Lent). behind text l lent c) k ∙ ap (behind text (filled n t) lent) (ap (counts_of c) e) ∙ map-drawn text t n (accepts-later (inner ed) text t n a) (pen (O.zero_bytes lent) 0));
}
drawn-so ed text t left lent c file (R.refused line number column a e k) = absurd (never_both e)

-- so an output in which it was ended is an output of that map
ended_so : {ed : Edition} {text : Bytes} {t left : Lent} {lent : ℕ} {c : Counts} → (d : Drawn ed text t left lent c) → {out : Bytes} {answer : Option ℕ} → Finishes (behind text left lent c).out (behind text left lent c).at out answer → Output lent (geojson d.net) out answer
ended_so d f = written refl (record { is = d.is }) f

-- ## The answers
module _ (ed : Edition) (text : Bytes) (t left : Lent) (read : RndfReply) (lent : ℕ) (out : Bytes) (h : ReadsRndf (rules_of ed) text t read left) where
  told : (r : RndfReply) → read ≡ r → ReadsRndf (rules_of ed) text t r left
  told r e = subst (λ (y : RndfReply). ReadsRndf (rules_of ed) text t y left) e h

  abbrev yard : (n : Network Field) → AcceptsRndf (rules_of ed) text t n → AcceptedText (rules_of ed) (an_rndf t) MapOf text
  yard n a = record { meant = n; accepted = a; writing = geojson n; wrote = refl }

  -- written: the tables hold what the reader left
  pub written-so : (c : Counts) (file : FileRow) (k : ℕ) → Answers read lent (behind text left lent) out (Ok (c, file, k)) → WritesMap (rules_of ed) text t lent (Ok (c, file, k)) left out
  written-so c file k (A.as_read why e a o) = absurd (wrote-or-not a)
  written-so c file k (A.over c' file' e f a) = absurd (wrote-or-not a)
  written-so c file k (A.put c' file' k' e f a) =
      let y = told (Ok (c', file')) e in
      let d = drawn-so ed text t left lent c' file' y in
      let w = answered-written (ended_so d f) in
      Told.written-so (inner ed) text t c' file' left y MapOf (yard d.net d.accepts) lent (Ok (c, file, k)) out w.0 (a ∙ ap ((λ z. Ok (c', file', z))) w.1) w.2

  -- refused: the tables that the reader left are cleared
  pub refused-so : (why : Refusal) (cleared : Lent) → Answers read lent (behind text left lent) out (Err why) → cleared ≡ zeros left → zeros left ≡ zeros t → WritesMap (rules_of ed) text t lent (Err why) cleared out
  refused-so why cleared (A.as_read why' e a o) z k =
      let y = told (Err why') e in
      W.refused why' (subst (λ (l : Lent). ReadsRndf (rules_of ed) text t (Err why') l) (refused_zero text t left why' y ∙ sym (z ∙ k)) y) a o
  refused-so why cleared (A.over c file e f a) z k =
      let y = told (Ok (c, file)) e in
      let d = drawn-so ed text t left lent c file y in
      let w = answered_too-long (ended_so d f) in
      W.too_long (yard d.net d.accepts) w.0 a (z ∙ k) w.1
  refused-so why cleared (A.put c file k' e f a) z k = absurd (wrote-or-not (sym a))
