-- SHUT OUT, as document 01 asks ("The contracts have to shut out: .."): each reader of an RNDF that it names does not meet the contract in any edition, already on the one or two texts that are named here. Assumes nothing.
use Rattle.std.specs.Prelude.{Ok, Err}
use Rattle.replies.specs.Types.{RndfReply}
use mathlib.Core.Path.{◌≡◌, sym, ap, subst, ◌∙◌}
use mathlib.Core.List.{List, [], ◌∷◌}
use Prim.Native.Nat.{ℕ}
use native.Mathlib.Omega.{arith}
use Rattle.terms.specs.Ascii.{Bytes}
use Rattle.line.specs.Content.{Field}
use Rattle.law.specs.Network.{Network, SpellsNetwork, SpellsText}
use Rattle.law.specs.Tables.{Lent, zeros}
use Rattle.rows.specs.declared.FileRow.{FileRow}
use Rattle.counts.specs.declared.Counts.{Counts}
use Rattle.refusal.specs.declared.Refusal.{Refusal}
use Rattle.replies.specs.Replies.{rows_used_of, ReadsRndf}
use Rattle.replies.specs.Short.{RefusesRndf}
use Rattle.replies.proofs.Settled.{rndf-some}
use Rattle.edition.specs.declared.Edition.{Edition}
use Rattle.edition.specs.Editions.{inner, rules_of}
use Rattle.promises.specs.Accepted.{IsAccepted, Acceptable}
use Rattle.promises.specs.Readers.{Reader, Meets}
use Rattle.promises.specs.Yards.{yard, second_line, second_lane, second_segment, network, counts, yard_file, used, yard_words}
use Rattle.promises.proofs.Promises.{not-both, accepted-exactly, tables-are, refusal-only}
use Rattle.promises.proofs.YardTexts.{spelled}
use Rattle.promises.proofs.YardA.{replied, yard-read, seconds}

-- there is one that meets it everywhere
pub some_reader : (edition : Edition) → (f : Reader) × ((text : Bytes) (t : Lent) → Meets edition f text t)
some_reader edition = (λ text t. ((rndf-some (inner edition) text t).0, (rndf-some (inner edition) text t).1), λ text t. (rndf-some (inner edition) text t).2)

-- what the lane table says of its first lane's points
abbrev pub second-of : List ℕ → ℕ
second-of [] = 0
second-of (a ∷ []) = 0
second-of (a ∷ b ∷ l) = b

abbrev line_in : RndfReply → ℕ
line_in (Ok (c, file)) = 0
line_in (Err x) = x.line

module _ (edition : Edition) (f : Reader) where
  on-yard : Meets edition f yard used → ((f yard used).0 ≡ Ok (counts, yard_file)) × ((f yard used).1 ≡ yard_words)
  on-yard m = yard-read edition (f yard used).0 (f yard used).1 m

  -- 01: "a reader that refuses all": it would refuse yard A
  pub refuses-all : Meets edition f yard used → (x : Refusal) → (f yard used).0 ≡ Err x → ⊥
  refuses-all m x e = not-both (sym (on-yard m).0 ∙ e)

  -- 01: "one with a single fixed reply": it would reply the same to yard A and to a text with a wrong second line
  pub fixed-reply : Meets edition f yard used → Meets edition f second_line used → (f yard used).0 ≡ (f second_line used).0 → ⊥
  fixed-reply m b e = not-both (sym (on-yard m).0 ∙ e ∙ (refusal-only edition second_line used (f second_line used).0 (f second_line used).1 2 5 _ b (seconds edition used).line).0)

  -- .. also one with a fixed refusal of all that it refuses
  pub fixed-refusal : Meets edition f second_line used → Meets edition f second_lane used → (f second_line used).0 ≡ (f second_lane used).0 → ⊥
  fixed-refusal a b e =
      let p = (refusal-only edition second_line used (f second_line used).0 (f second_line used).1 2 5 _ a (seconds edition used).line).0 in
      let q = (refusal-only edition second_lane used (f second_lane used).0 (f second_lane used).1 12 9 _ b (seconds edition used).lane).0 in
      let z : ◌≡◌ {A = ℕ} 2 12 = ap line_in (sym p ∙ e ∙ q) in
      omega arith

  -- 01: "or that writes nothing": it leaves what it was lent ..
  pub writes_nothing : Meets edition f yard used → (f yard used).1 ≡ used → ⊥
  writes_nothing m e = let z : ◌≡◌ {A = ℕ} 9 2 = ap (λ (l : Lent). second-of l.lanes) (sym e ∙ (on-yard m).1) in omega arith

  -- .. or only ever clears it
  pub writes-zeros : Meets edition f yard used → (f yard used).1 ≡ zeros used → ⊥
  writes-zeros m e = let z : ◌≡◌ {A = ℕ} 0 2 = ap (λ (l : Lent). second-of l.lanes) (sym e ∙ (on-yard m).1) in omega arith

  -- 01: "one that invents row counts": of any text they are those of the network that it spells, and of yard A 1 segment, 1 lane, 2 points, 1 checkpoint and 1 exit, whatever is lent
  pub invents-counts : (text : Bytes) (t : Lent) → Meets edition f text t → (c : Counts) (file : FileRow) (n : Network Field) → SpellsText (rules_of edition) SpellsNetwork n text → (f text t).0 ≡ Ok (c, file) → (c ≡ rows_used_of n → ⊥) → ⊥
  invents-counts text t m c file n h e not = not (tables-are edition text t c file (f text t).1 (subst (λ (r : RndfReply). ReadsRndf (rules_of edition) text t r (f text t).1) e m) n h).0

  pub invents-yard-counts : (t : Lent) → Meets edition f yard t → (c : Counts) (file : FileRow) → (f yard t).0 ≡ Ok (c, file) → (c ≡ counts → ⊥) → ⊥
  invents-yard-counts t m c file e not = invents-counts yard t m c file network (spelled edition).yard e (λ q. not (q ∙ replied.0))

  -- 01: "one that judges only the first line, lane or segment and nods the rest through": it would accept a text whose first line, lane or segment is good, and whose second is not
  never : (text : Bytes) (line number column : ℕ) → RefusesRndf (rules_of edition) text used line number column → Meets edition f text used → IsAccepted (f text used).0 → ⊥
  never text line number column h m a = subst IsAccepted (refusal-only edition text used (f text used).0 (f text used).1 line number column m h).0 a

  pub first-line-only : Meets edition f second_line used → IsAccepted (f second_line used).0 → ⊥
  first-line-only = never second_line 2 5 _ (seconds edition used).line

  pub first-lane-only : Meets edition f second_lane used → IsAccepted (f second_lane used).0 → ⊥
  first-lane-only = never second_lane 12 9 _ (seconds edition used).lane

  pub first-segment-only : Meets edition f second_segment used → IsAccepted (f second_segment used).0 → ⊥
  first-segment-only = never second_segment 15 9 _ (seconds edition used).segment

  -- and in general: what it accepts spells a network to the last line
  pub all-judged : (text : Bytes) (t : Lent) → Meets edition f text t → IsAccepted (f text t).0 → Acceptable (rules_of edition) text t
  all-judged text t m = (accepted-exactly edition text t (f text t).0 (f text t).1 m).0
