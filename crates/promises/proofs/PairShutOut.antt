-- SHUT OUT, as document 01 asks ("The contracts have to shut out: .."): each reader of an RNDF with its MDF that it names does not meet the contract in any edition, already on the one or two pairs that are named here. Assumes nothing.
use Rattle.std.specs.Prelude.{Ok, Err}
use Rattle.replies.specs.Types.{PairReply}
use mathlib.Core.Path.{◌≡◌, sym, ap, subst, ◌∙◌}
use mathlib.Core.List.{List, [], ◌∷◌}
use mathlib.Core.Logic.{◌⊎◌, inl, inr}
use Prim.Native.Nat.{ℕ}
use native.Mathlib.Omega.{arith}
use Rattle.terms.specs.Ascii.{Bytes}
use Rattle.line.specs.Content.{Field}
use Rattle.law.specs.Network.{Network, Mission, SpellsNetwork, SpellsMission, SpellsText}
use Rattle.law.specs.Tables.{Lent, MissionLent, zeros, mission_zeros}
use Rattle.rows.specs.declared.FileRow.{FileRow}
use Rattle.rows.specs.declared.MissionFileRow.{MissionFileRow}
use Rattle.counts.specs.declared.Counts.{Counts}
use Rattle.counts.specs.declared.MissionCounts.{MissionCounts}
use Rattle.refusal.specs.declared.Refusal.{Refusal}
use Rattle.replies.specs.Replies.{rows_used_of, ReadsPair}
use Rattle.replies.proofs.Settled.{pair-some}
use Rattle.law_columns.specs.Files.{rndf_column_in_of}
use Rattle.edition.specs.declared.Edition.{Edition}
use Rattle.edition.specs.Editions.{inner, rules_of}
use Rattle.promises.specs.Accepted.{IsPairAccepted, PairAcceptable, mission_rows_used}
use Rattle.promises.specs.Cases.{PairRefused}
use Rattle.promises.specs.Readers.{PairReader, PairMeets, done, On}
use Rattle.promises.specs.Yards.{yard, round, limit_10_5, second_line, second_lane, second_segment, counts, yard_file, mission_counts, round_file, used, mission_used, yard_words, round_words}
use Rattle.promises.proofs.PairPromises.{pair-not-both, pair-accepted-exactly, pair-tables-are}
use Rattle.promises.proofs.YardA.{room_in-used, seconds}
use Rattle.promises.proofs.NineCases.{rndf-refused-so, limit-refused, yard-a-read}
use Rattle.promises.proofs.ShutOut.{second-of}

-- there is one that meets it everywhere
pub some-pair_reader : (edition : Edition) → (f : PairReader) × ((rndf mdf : Bytes) (t : Lent) (u : MissionLent) → PairMeets edition f rndf mdf t u)
some-pair_reader edition = (
  λ rndf mdf t u. let s = pair-some (inner edition) rndf mdf t u in record { reply = s.reply; left = s.left; mission_left = s.mission_left },
  λ rndf mdf t u. (pair-some (inner edition) rndf mdf t u).reads,
)

abbrev first-of : List ℕ → ℕ
first-of [] = 0
first-of (a ∷ l) = a

abbrev file_in : PairReply → ℕ
file_in (Ok (c, file, d, own)) = 0
file_in (Err x) = x.file

module _ (edition : Edition) (f : PairReader) where
  on-yard : On edition f yard round → ((done f yard round).reply ≡ Ok (counts, yard_file, mission_counts, round_file)) × ((done f yard round).left ≡ yard_words) × ((done f yard round).mission_left ≡ round_words)
  on-yard m = yard-a-read edition (done f yard round).reply (done f yard round).left (done f yard round).mission_left m

  -- a wrong second line of the RNDF, and a wrong limit of the MDF
  line_refused : PairRefused edition second_line round used mission_used 1 2 5 (rndf_column_in_of (inner edition) second_line 2 5)
  line_refused = rndf-refused-so edition second_line round used mission_used 2 5 _ (seconds edition used).line

  wrong-limit : PairRefused edition yard limit_10_5 used mission_used 2 9 9 6
  wrong-limit = limit-refused edition used mission_used room_in-used

  -- 01: "a reader that refuses all": it would refuse yard A
  pub refuses-all : On edition f yard round → (x : Refusal) → (done f yard round).reply ≡ Err x → ⊥
  refuses-all m x e = pair-not-both (sym (on-yard m).0 ∙ e)

  -- 01: "one with a single fixed reply": it would reply the same to yard A and with a wrong limit in its MDF
  pub fixed-reply : On edition f yard round → On edition f yard limit_10_5 → (done f yard round).reply ≡ (done f yard limit_10_5).reply → ⊥
  fixed-reply m b e = pair-not-both (sym (on-yard m).0 ∙ e ∙ (wrong-limit (done f yard limit_10_5).reply (done f yard limit_10_5).left (done f yard limit_10_5).mission_left b).0)

  -- .. also one with a fixed refusal of all that it refuses
  pub fixed-refusal : On edition f second_line round → On edition f yard limit_10_5 → (done f second_line round).reply ≡ (done f yard limit_10_5).reply → ⊥
  fixed-refusal a b e =
      let p = (line_refused (done f second_line round).reply (done f second_line round).left (done f second_line round).mission_left a).0 in
      let q = (wrong-limit (done f yard limit_10_5).reply (done f yard limit_10_5).left (done f yard limit_10_5).mission_left b).0 in
      let z : ◌≡◌ {A = ℕ} 1 2 = ap file_in (sym p ∙ e ∙ q) in
      omega arith

  -- 01: "or that writes nothing": it leaves the network's tables, or the mission's, as they were lent ..
  pub writes_nothing : On edition f yard round → ((done f yard round).left ≡ used) ⊎ ((done f yard round).mission_left ≡ mission_used) → ⊥
  writes_nothing m (inl e) = let z : ◌≡◌ {A = ℕ} 9 2 = ap (λ (l : Lent). second-of l.lanes) (sym e ∙ (on-yard m).1) in omega arith
  writes_nothing m (inr e) = let z : ◌≡◌ {A = ℕ} 9 0 = ap (λ (k : MissionLent). second-of k.goals) (sym e ∙ (on-yard m).2) in omega arith

  -- .. or only ever clears it
  pub writes-zeros : On edition f yard round → (done f yard round).left ≡ zeros used → ⊥
  writes-zeros m e = let z : ◌≡◌ {A = ℕ} 0 2 = ap (λ (l : Lent). second-of l.lanes) (sym e ∙ (on-yard m).1) in omega arith

  pub writes-mission-zeros : On edition f yard round → (done f yard round).mission_left ≡ mission_zeros mission_used → ⊥
  writes-mission-zeros m e = let z : ◌≡◌ {A = ℕ} 0 7 = ap (λ (k : MissionLent). first-of k.goals) (sym e ∙ (on-yard m).2) in omega arith

  -- 01: "one that invents row counts": of any pair they are those of the network and the mission that it spells
  pub invents-counts : (rndf mdf : Bytes) (t : Lent) (u : MissionLent) → PairMeets edition f rndf mdf t u → (c : Counts) (file : FileRow) (d : MissionCounts) (own : MissionFileRow) (n : Network Field) (m : Mission Field) → SpellsText (rules_of edition) SpellsNetwork n rndf → SpellsText (rules_of edition) SpellsMission m mdf
      → (f rndf mdf t u).reply ≡ Ok (c, file, d, own) → ((c ≡ rows_used_of n) × (d ≡ mission_rows_used m) → ⊥) → ⊥
  invents-counts rndf mdf t u x c file d own n m h g e not =
      let s = pair-tables-are edition rndf mdf t u c file d own (f rndf mdf t u).left (f rndf mdf t u).mission_left (subst (λ (r : PairReply). ReadsPair (rules_of edition) rndf mdf t u r (f rndf mdf t u).left (f rndf mdf t u).mission_left) e x) n m h g in
      not (s.counted, s.mission_counted)

  -- 01: "one that judges only the first line, lane or segment and nods the rest through": of the RNDF; or that nods the MDF through
  never : (rndf mdf : Bytes) (file line number column : ℕ) → PairRefused edition rndf mdf used mission_used file line number column → On edition f rndf mdf → IsPairAccepted (done f rndf mdf).reply → ⊥
  never rndf mdf file line number column h m a = subst IsPairAccepted (h (done f rndf mdf).reply (done f rndf mdf).left (done f rndf mdf).mission_left m).0 a

  pub first-line-only : On edition f second_line round → IsPairAccepted (done f second_line round).reply → ⊥
  first-line-only = never second_line round 1 2 5 _ line_refused

  pub first-lane-only : On edition f second_lane round → IsPairAccepted (done f second_lane round).reply → ⊥
  first-lane-only = never second_lane round 1 12 9 _ (rndf-refused-so edition second_lane round used mission_used 12 9 _ (seconds edition used).lane)

  pub first-segment-only : On edition f second_segment round → IsPairAccepted (done f second_segment round).reply → ⊥
  first-segment-only = never second_segment round 1 15 9 _ (rndf-refused-so edition second_segment round used mission_used 15 9 _ (seconds edition used).segment)

  pub rndf-only : On edition f yard limit_10_5 → IsPairAccepted (done f yard limit_10_5).reply → ⊥
  rndf-only = never yard limit_10_5 2 9 9 6 wrong-limit

  -- and in general: what it accepts spells a network and a mission to the last line
  pub all-judged : (rndf mdf : Bytes) (t : Lent) (u : MissionLent) → PairMeets edition f rndf mdf t u → IsPairAccepted (f rndf mdf t u).reply → PairAcceptable (rules_of edition) rndf mdf t u
  all-judged rndf mdf t u m = (pair-accepted-exactly edition rndf mdf t u (f rndf mdf t u).reply (f rndf mdf t u).left (f rndf mdf t u).mission_left m).0
