-- What the program does, said as the contract says it: from the reader's contract, from what was answered then, and from `record_tables`: what is put of an accepted network's rows is its packed form. Assumes nothing.
use Rattle.std.specs.Prelude.{Some, None, Ok, Err, Option}
use Rattle.writings.specs.Types.{WriteReply}
use Rattle.replies.specs.Types.{RndfReply}
use mathlib.Core.Path.{◌≡◌, refl, sym, ap, subst, ◌∙◌}
use mathlib.Core.Bool.{Bool, true, false, ◌&&◌}
use Prim.Native.Nat.{ℕ, suc, ◌+◌, ◌≤◌, min}
use mathlib.Core.List.{[], ◌∷◌, ◌++◌}
use native.Mathlib.Omega.{arith}
use borrow.Author.Tests.{leb-true}
use lib.ListN.{length, length-append}
use lib.Dec.{leb}
use Rattle.terms.specs.Ascii.{Bytes}
use Rattle.terms.specs.Words.{pick}
use Rattle.line.specs.Content.{Field}
use Rattle.law.specs.Network.{Network}
use Rattle.edition.specs.declared.Edition.{Edition}
use Rattle.edition.specs.Editions.{inner, rules_of}
use Rattle.law.specs.Tables.{Lent, zeros}
use Rattle.rows.specs.declared.FileRow.{FileRow}
use Rattle.counts.specs.declared.Counts.{Counts}
use Rattle.refusal.specs.declared.Refusal.{Refusal}
use Rattle.replies.specs.Replies.{an_rndf, refusal, rows_used_of, ReadsRndf}
use Rattle.replies.specs.Short.{AcceptsRndf}
use Rattle.replies.specs.Replies as R
use Rattle.replies.proofs.Later.{accepts-later}
use Rattle.replies.proofs.Said.{never_both, refused_zero}
use Rattle.output.specs.Ended.{Output}
use Rattle.output.specs.Output as O
use Rattle.output.specs.Pen.{Pen, pen, put, finished_of, Finishes}
use Rattle.output.proofs.Whole.{written, answered-written, answered_too-long}
use Rattle.output.specs.Packed.{big_endian}
use Rattle.output.proofs.Packed.{packed-long}
use Rattle.packed_law.specs.Packed.{laid, all_slots, this_version, packed_form}
use Rattle.records.specs.Put.{all_put, form_put}
use Rattle.record_tables.proofs.Theorem.{form-packed}
use Rattle.writings.specs.Writes.{AcceptedText, PackedOf, WritesPacked}
use Rattle.writings.specs.Writes as W
use Rattle.writings.proofs.Told as Told
use Rattle.packer.specs.Answers.{whole, Answers}
use Rattle.packer.specs.Answers as A

-- no answer is both
wrote-or-not : {c : Counts} {file : FileRow} {k : ℕ} {why : Refusal} → ◌≡◌ {A = WriteReply} (Ok (c, file, k)) (Err why) → ⊥
wrote-or-not e = let z : ◌≡◌ {A = ℕ} 0 1 = cc in omega arith

-- the counts and the file's row of a reply; a refusal has those that are given
abbrev counts_of : Counts → RndfReply → Counts
counts_of none (Ok (c, file)) = c
counts_of none (Err why) = none

abbrev file-of : FileRow → RndfReply → FileRow
file-of none (Ok (c, file)) = file
file-of none (Err why) = none

-- ## How the writing ended
-- cleared, put by any puts f from the front on, and finished
pub whole-so : (f : Pen → Pen) (lent : ℕ) {cleared full : Bytes} {at : ℕ} {left : Bytes} {answer : Option ℕ} → cleared ≡ O.zero_bytes lent → pen full at ≡ f (pen cleared 0) → Finishes full at left answer
    → Finishes (f (pen (O.zero_bytes lent) 0)).out (f (pen (O.zero_bytes lent) 0)).at left answer
whole-so f lent {cleared} {full} {at} {left} {answer} z p g = subst (λ (q : Pen). Finishes q.out q.at left answer) (p ∙ ap (λ (l : Bytes). f (pen l 0)) z) g

-- its length fits into the reply
pub few : {l left : Bytes} {at k : ℕ} → Finishes l at left (Some k) → k ≤ 16777215
unfolding finished_of
few {l} {left} {at} {k} f = go (leb at 16777215) (leb at (length l)) refl f.answers
  where
    go : (s t : Bool) → leb at 16777215 ≡ s → Some k ≡ pick (s && t) (Some at) None → k ≤ 16777215
    go true true e w = let h = leb-true at 16777215 e in let q : k ≡ at = cc in omega arith
    go true false e w = absurd (let z : ◌≡◌ {A = ℕ} 0 1 = cc in omega arith)
    go false t e w = absurd (let z : ◌≡◌ {A = ℕ} 0 1 = cc in omega arith)

-- ## The packed form of what the reader left
abbrev put_of : Bytes → Lent → Counts → FileRow → Bytes
put_of text left c file = form_put text left.segments left.lanes left.zones left.spots left.points left.checkpoints left.stops left.exits c file

-- the pen behind it, by the tables
abbrev pub behind : Bytes → Lent → (lent : ℕ) → Counts → FileRow → Pen
behind text left lent = whole text left.segments left.lanes left.zones left.spots left.points left.checkpoints left.stops left.exits lent

-- the network that was accepted, and that what was put is its packed form, if that is not too long; it is as long in any case
record Packing (ed : Edition) (text : Bytes) (t left : Lent) (c : Counts) (file : FileRow) : Type 0 where
  net : Network Field
  accepts : AcceptsRndf (rules_of ed) text t net
  long : length (put_of text left c file) ≡ length (packed_form net)
  is : length (packed_form net) ≤ 16777215 → put_of text left c file ≡ packed_form net

-- a form by its records b, with the count in front
form-long : (k : ℕ) (b : Bytes) → length (((this_version ∷ []) ++ big_endian 4 k) ++ b) ≡ 5 + length b
form-long k b = length-append ((this_version ∷ []) ++ big_endian 4 k) b ∙ ap (λ (j : ℕ). suc j + length b) (packed-long 4 k)

packing-so : (ed : Edition) (text : Bytes) (t left : Lent) (c : Counts) (file : FileRow) → ReadsRndf (rules_of ed) text t (Ok (c, file)) left → Packing ed text t left c file
unfolding form_put packed_form
packing-so ed text t left c file (R.accepted n a e k) =
    let b = laid (all_slots n) in
    let p : all_put text left.segments left.lanes left.zones left.spots left.points left.checkpoints left.stops left.exits c file ≡ b =
    (λ i. all_put text (k i).segments (k i).lanes (k i).zones (k i).spots (k i).points (k i).checkpoints (k i).stops (k i).exits (counts_of c (e i)) (file-of file (e i))) ∙ form-packed text t n (accepts-later (inner ed) text t n a) in
    let q : put_of text left c file ≡ ((this_version ∷ []) ++ big_endian 4 (min (length b) 16777216)) ++ b = ap (λ (x : Bytes). ((this_version ∷ []) ++ big_endian 4 (min (length x) 16777216)) ++ x) p in
    record {
      net = n;
      accepts = a;
      long = ap length q ∙ form-long (min (length b) 16777216) b ∙ sym (form-long (length b) b);
      is = λ h. q ∙ ap (λ (j : ℕ). ((this_version ∷ []) ++ big_endian 4 j) ++ b) (let f = form-long (length b) b in let g : min (length b) 16777216 ≡ length b = omega arith in g);
    }
packing-so ed text t left c file (R.refused line number column a e k) = absurd (never_both e)

-- an output of what is as long, and the same where it is not too long, is the output of both
output_as : (lent : ℕ) (x y out : Bytes) (answer : Option ℕ) → length x ≡ length y → (length y ≤ 16777215 → x ≡ y) → Output lent x out answer → Output lent y out answer
output_as lent x y out answer e s o = record {
  good = λ f.
      let g = o.good (record { size = subst (λ (j : ℕ). j ≤ 16777215) (sym e) f.size; room = subst (λ (j : ℕ). j ≤ lent) (sym e) f.room }) in
      (g.0 ∙ ap (O.padded lent) (s f.size), g.1 ∙ ap Some e);
  refused = λ no. o.refused (λ f. no (record { size = subst (λ (j : ℕ). j ≤ 16777215) e f.size; room = subst (λ (j : ℕ). j ≤ lent) e f.room }));
}

-- so an output in which it was ended is an output of that form
ended_so : {ed : Edition} {text : Bytes} {t left : Lent} {c : Counts} {file : FileRow} (lent : ℕ) → (d : Packing ed text t left c file) → {out : Bytes} {answer : Option ℕ} → Finishes (behind text left lent c file).out (behind text left lent c file).at out answer → Output lent (packed_form d.net) out answer
ended_so {ed} {text} {t} {left} {c} {file} lent d {out} {answer} f = output_as lent (put_of text left c file) (packed_form d.net) out answer d.long d.is (written refl (record { is = refl }) f)

-- ## The answers
module _ (ed : Edition) (text : Bytes) (t left : Lent) (read : RndfReply) (lent : ℕ) (out : Bytes) (h : ReadsRndf (rules_of ed) text t read left) where
  told : (r : RndfReply) → read ≡ r → ReadsRndf (rules_of ed) text t r left
  told r e = subst (λ (y : RndfReply). ReadsRndf (rules_of ed) text t y left) e h

  abbrev yard : (n : Network Field) → AcceptsRndf (rules_of ed) text t n → AcceptedText (rules_of ed) (an_rndf t) PackedOf text
  yard n a = record { meant = n; accepted = a; writing = packed_form n; wrote = refl }

  -- written: the tables hold what the reader left
  pub written-so : (c : Counts) (file : FileRow) (k : ℕ) → Answers read lent (behind text left lent) out (Ok (c, file, k)) → WritesPacked (rules_of ed) text t lent (Ok (c, file, k)) left out
  written-so c file k (A.as_read why e a o) = absurd (wrote-or-not a)
  written-so c file k (A.over c' file' e f a) = absurd (wrote-or-not a)
  written-so c file k (A.wrote c' file' k' e f a) =
      let y = told (Ok (c', file')) e in
      let d = packing-so ed text t left c' file' y in
      let w = answered-written (ended_so lent d f) in
      Told.written-so (inner ed) text t c' file' left y PackedOf (yard d.net d.accepts) lent (Ok (c, file, k)) out w.0 (a ∙ ap ((λ z. Ok (c', file', z))) w.1) w.2

  -- refused: the tables that the reader left are cleared
  pub refused-so : (why : Refusal) (cleared : Lent) → Answers read lent (behind text left lent) out (Err why) → cleared ≡ zeros left → zeros left ≡ zeros t → WritesPacked (rules_of ed) text t lent (Err why) cleared out
  refused-so why cleared (A.as_read why' e a o) z k =
      let y = told (Err why') e in
      W.refused why' (subst (λ (l : Lent). ReadsRndf (rules_of ed) text t (Err why') l) (refused_zero text t left why' y ∙ sym (z ∙ k)) y) a o
  refused-so why cleared (A.over c file e f a) z k =
      let y = told (Ok (c, file)) e in
      let d = packing-so ed text t left c file y in
      let w = answered_too-long (ended_so lent d f) in
      W.too_long (yard d.net d.accepts) w.0 a (z ∙ k) w.1
  refused-so why cleared (A.wrote c file k' e f a) z k = absurd (wrote-or-not (sym a))
