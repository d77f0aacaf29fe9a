-- THE THEOREM of pairs: what both readers answer together is what document 01 says: the RNDF's refusal, else the MDF's, else the network and the mission. Assumes nothing.
use Rattle.std.specs.Prelude.{Ok, Err}
use Rattle.replies.specs.Types.{PairReply}
use Rattle.mission_reader.specs.Types.{MissionReply}
use mathlib.Core.Path.{◌≡◌, refl, sym, ap, ap₂, subst, ◌∙◌}
use mathlib.Core.List.{List}
use mathlib.Core.Logic.{◌⊎◌, inl, inr}
use Prim.Native.Nat.{ℕ, ◌+◌, ◌≤◌}
use native.Mathlib.Omega.{arith}
use lib.ListN.{length}
use Rattle.terms.specs.Ascii.{Bytes}
use Rattle.line.specs.Content.{Field}
use Rattle.law.specs.Network.{reading}
use Rattle.grammar.specs.Editions.{Edition, law_of}
use Rattle.grammar.specs.Network.{Network}
use Rattle.grammar.specs.Mission.{Mission}
use Rattle.grammar.specs.Tables.{point_row_of, tables, mission_tables}
use Rattle.fill.specs.Counts.{sizes}
use Rattle.fill.specs.FirstFaults.{the_parts_of}
use Rattle.fill.proofs.ReferenceLaws.{parts_are}
use Rattle.rows.specs.declared.FileRow.{FileRow}
use Rattle.rows.specs.declared.MissionFileRow.{MissionFileRow}
use Rattle.table_words.specs.Words.{Lent, MissionLent, zeros, mission_zeros, network_filled, mission_filled}
use Rattle.table_words.specs.FileRows.{network_file, mission_file_of}
use Rattle.table_words.proofs.RowsAtMost.{rows-at-most}
use Rattle.editions.proofs.Later.{later}
use Rattle.room.specs.Room.{fitted}
use Rattle.room.proofs.Fitted.{fitted-kept}
use Rattle.counts.specs.declared.Counts.{Counts}
use Rattle.network_reader.specs.Replies.{rows_used_of, AcceptsRndfIn, RefusesRndfIn}
use Rattle.network_reader.specs.Reading as N
use Rattle.network_reader.specs.Reading.{read_of}
use Rattle.network_reader.proofs.Theorems as NT
use Rattle.counts.specs.declared.MissionCounts.{MissionCounts}
use Rattle.mission_reader.specs.MissionReplies.{AcceptsMdf, RefusesMdf, Takes}
use Rattle.mission_reader.specs.MissionReplies as MR
use Rattle.mission_reader.specs.MissionReading as M
use Rattle.mission_reader.specs.MissionReading.{rndf_of, mission_of}
use Rattle.mission_reader.proofs.References.{accepted-rndf}
use Rattle.mission_reader.proofs.Theorems as MT
use Rattle.refusal.specs.declared.Refusal.{Refusal}
use Rattle.reader.specs.Columns.{rndf_refusal, mdf_refusal}
use Rattle.reader.specs.ByStatements.{mission_lent, accepted, rndf_refused_of, mdf_refused_of}
use Rattle.replies.specs.Replies.{ReadsPair}
use Rattle.reader.proofs.Lawful.{pair-reads-to_in}
use Rattle.reader.specs.Pairs.{joined_of, Read, outcome, from_mission, from_network, the_pair_of}
use Rattle.reader.specs.Pairs as P

-- ## What the program does
joined-told : (mdf : Bytes) (c : Counts) (file : FileRow) (left : Lent) (reply : MissionReply) (g l : List ℕ) → outcome (joined_of mdf c file reply) left (mission_lent g l) ≡ from_mission mdf c file left (M.outcome reply g l)
joined-told mdf c file left (Ok (m, f)) g l = refl
joined-told mdf c file left (Err f) g l = refl

pub both-accepted : (ε : Edition) (rndf mdf : Bytes) (t left : Lent) (u : MissionLent) (c : Counts) (file : FileRow) (k : ℕ) (reply : MissionReply) (g l : List ℕ) (r : PairReply) → N.accepted c file left ≡ read_of ε rndf t → k ≡ fitted (c.segments + c.zones)
    → M.outcome reply g l ≡ mission_of (rndf_of rndf file.name left.checkpoints c.checkpoints k) mdf u.goals u.limits → r ≡ joined_of mdf c file reply → outcome r left (mission_lent g l) ≡ the_pair_of ε rndf mdf t u
unfolding the_pair_of
both-accepted ε rndf mdf t left u c file k reply g l r e p m j =
    ap (λ (x : PairReply). outcome x left (mission_lent g l)) j
    ∙ joined-told mdf c file left reply g l
    ∙ ap (from_mission mdf c file left) (m ∙ ap (λ (x : ℕ). mission_of (rndf_of rndf file.name left.checkpoints c.checkpoints x) mdf u.goals u.limits) p)
    ∙ ap (from_network rndf mdf u) e

pub both-refused : (ε : Edition) (rndf mdf : Bytes) (t left : Lent) (u mission_left : MissionLent) (line number : ℕ) → N.refused line number ≡ read_of ε rndf t → outcome (Err (rndf_refusal rndf line number)) left mission_left ≡ the_pair_of ε rndf mdf t u
unfolding the_pair_of
both-refused ε rndf mdf t left u mission_left line number e = ap (from_network rndf mdf u) e

-- ## What it means
pub record Accepted (ε : Edition) (rndf mdf : Bytes) (t : Lent) (u : MissionLent) (c : Counts) (file : FileRow) (m : MissionCounts) (mission_row : MissionFileRow) (left : Lent) (mission_left : MissionLent) : Type 0 where
  pub net : Network Field
  pub mission : Mission Field
  pub accepts : AcceptsRndfIn ε rndf t net
  pub takes : AcceptsMdf net mdf u mission
  pub reply : ◌≡◌ {A = PairReply} (Ok (c, file, m, mission_row)) (Ok (rows_used_of (sizes (tables net)), network_file net, MR.rows_used_of mission, mission_file_of mission))
  pub holds : left ≡ network_filled net t
  pub mission_holds : mission_left ≡ mission_filled (mission_tables mission) u

pub data Refused (ε : Edition) (rndf mdf : Bytes) (t : Lent) (u : MissionLent) (why : Refusal) : Type 0 where
  by-rndf : (line number : ℕ) → RefusesRndfIn ε rndf t line number → why ≡ rndf_refusal rndf line number → Refused ε rndf mdf t u why
  by-mdf : (n : Network Field) (line number : ℕ) → AcceptsRndfIn ε rndf t n → RefusesMdf n mdf u line number → why ≡ mdf_refusal mdf line number → Refused ε rndf mdf t u why

abbrev pub Meant : Edition → (rndf mdf : Bytes) → Lent → MissionLent → Read → Type 0
Meant ε rndf mdf t u (P.refused why) = Refused ε rndf mdf t u why
Meant ε rndf mdf t u (P.accepted c f m g left mission_left) = Accepted ε rndf mdf t u c f m g left mission_left

-- what the MDF's reader is told of the RNDF is the network's
told-so : (ε : Edition) (rndf : Bytes) (t : Lent) (n : Network Field) → AcceptsRndfIn ε rndf t n → (c : Counts) (file : FileRow) (left : Lent) → c ≡ rows_used_of (sizes (tables n)) → file ≡ network_file n → left ≡ network_filled n t
    → rndf_of rndf file.name left.checkpoints c.checkpoints (fitted (c.segments + c.zones)) ≡ accepted-rndf n rndf t
told-so ε rndf t n a c file left p q r =
    let few = rows-at-most n rndf (later ε n rndf a.spelled) in
    let size = a.size in
    let parts : fitted ((sizes (tables n)).segments + (sizes (tables n)).zones) ≡ length n.segments + length n.zones = fitted-kept ((sizes (tables n)).segments + (sizes (tables n)).zones) (let x = few.segments in let y = few.zones in omega arith) ∙ parts_are (point_row_of n) n in
    rw (p, q, r, parts) refl

module _ (ε : Edition) (rndf mdf : Bytes) (t : Lent) (u : MissionLent) (n : Network Field) (a : AcceptsRndfIn ε rndf t n) (c : Counts) (file : FileRow) (left : Lent) (p : c ≡ rows_used_of (sizes (tables n))) (q : file ≡ network_file n) (r : left ≡ network_filled n t) where
  mission-so : (x : M.Read) → MT.Replies n mdf u x → Meant ε rndf mdf t u (from_mission mdf c file left x)
  mission-so (M.refused line number) h = by-mdf n line number a h refl
  mission-so (M.accepted m g goals limits) h = record {
    net = n;
    mission = h.mission;
    accepts = a;
    takes = h.accepts;
    reply = λ i. Ok (p i, q i, h.delivers.counted i, h.delivers.own_row i);
    holds = r;
    mission_holds = λ i. mission_lent (h.delivers.goals_hold i) (h.delivers.limits_hold i);
  }

  pub network-so : Meant ε rndf mdf t u (from_network rndf mdf u (N.accepted c file left))
  network-so = mission-so (mission_of (rndf_of rndf file.name left.checkpoints c.checkpoints (fitted (c.segments + c.zones))) mdf u.goals u.limits)
      (rw (told-so ε rndf t n a c file left p q r) (MT.replies-right n rndf (later ε n rndf a.spelled) t a.room mdf u))

pub meant : (ε : Edition) (rndf mdf : Bytes) (t : Lent) (u : MissionLent) → Meant ε rndf mdf t u (the_pair_of ε rndf mdf t u)
unfolding the_pair_of
meant ε rndf mdf t u = go (read_of ε rndf t) (NT.meant ε rndf t)
  where
    go : (x : N.Read) → NT.Meant ε rndf t x → Meant ε rndf mdf t u (from_network rndf mdf u x)
    go (N.refused line number) h = by-rndf line number h refl
    go (N.accepted c file left) h = network-so ε rndf mdf t u h.net h.accepts c file left h.rows h.row h.holds

-- ## The contract
pub pair-accepted : (ε : Edition) (rndf mdf : Bytes) (t left : Lent) (u mission_left : MissionLent) (c : Counts) (file : FileRow) (m : MissionCounts) (g : MissionFileRow) → P.accepted c file m g left mission_left ≡ the_pair_of ε rndf mdf t u
    → ReadsPair (reading (law_of ε)) rndf mdf t u (Ok (c, file, m, g)) left mission_left
pair-accepted ε rndf mdf t left u mission_left c file m g e =
    let h = subst (Meant ε rndf mdf t u) (sym e) (meant ε rndf mdf t u) in
    pair-reads-to_in rndf mdf t u ε (Ok (c, file, m, g)) left mission_left (accepted h.net h.mission h.accepts h.takes h.reply h.holds h.mission_holds)

pub pair-refused : (ε : Edition) (rndf mdf : Bytes) (t behind left : Lent) (u mission-behind mission_left : MissionLent) (why : Refusal) → P.refused why ≡ the_pair_of ε rndf mdf t u
    → left ≡ zeros behind → zeros behind ≡ zeros t → mission_left ≡ mission_zeros mission-behind → mission_zeros mission-behind ≡ mission_zeros u → ReadsPair (reading (law_of ε)) rndf mdf t u (Err why) left mission_left
pair-refused ε rndf mdf t behind left u mission-behind mission_left why e z k y j = go (subst (Meant ε rndf mdf t u) (sym e) (meant ε rndf mdf t u))
  where
    go : Refused ε rndf mdf t u why → ReadsPair (reading (law_of ε)) rndf mdf t u (Err why) left mission_left
    go (by-rndf line number h f) = pair-reads-to_in rndf mdf t u ε (Err why) left mission_left (rndf_refused_of line number h (ap Err f) (z ∙ k) (y ∙ j))
    go (by-mdf n line number a h f) = pair-reads-to_in rndf mdf t u ε (Err why) left mission_left (mdf_refused_of n line number a h (ap Err f) (z ∙ k) (y ∙ j))
