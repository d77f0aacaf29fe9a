-- SAME WRITING, SAME YARD, from the contracts of the writers alone, in each edition. Assumes nothing.
use Rattle.std.specs.Prelude.{None, Ok, Err}
use Rattle.writings.specs.Types.{WriteMdfReply, WriteReply}
use mathlib.Core.Path.{◌≡◌, refl, sym, ap, subst, ◌∙◌}
use mathlib.Core.Logic.{◌↔◌}
use Prim.Native.Nat.{ℕ, ◌≤◌, ◌-◌}
use lib.ListN.{length, take}
use lib.Seq.{take_at}
use Rattle.terms.specs.Ascii.{Bytes}
use Rattle.line.specs.Content.{Field}
use Rattle.law.specs.Network.{Network, Mission, SpellsNetwork, SpellsMission, SpellsText}
use Rattle.law.specs.Tables.{Lent, MissionLent, HasRoom, MissionHasRoom}
use Rattle.law.specs.Tables as Tables
use Rattle.law_tables.proofs.SameTables.{mission-room-back}
use Rattle.law_spelling.proofs.Texts.{rndf-back, mdf-back_in}
use Rattle.text.specs.Spelling.{SpellsRndf, SpellsMdf}
use Rattle.house_text.specs.House.{HouseRndf, HouseMdf}
use Rattle.house_text.specs.HouseText.{house_rndf, house_mdf}
use Rattle.house_text.proofs.Lawful.{house-rndf-only, house-mdf-only}
use Rattle.house_text.proofs.Theorems.{rndf-one-writing, rndf-again, rndf-told, mdf-one-writing, mdf-again, mdf-told}
use Rattle.edition.specs.declared.Edition.{Edition}
use Rattle.edition.specs.Editions.{inner, rules_of}
use Rattle.output.specs.Output.{zero_bytes, Fits, padded}
use Rattle.rows.specs.declared.FileRow.{FileRow}
use Rattle.rows.specs.declared.MissionFileRow.{MissionFileRow}
use Rattle.counts.specs.declared.Counts.{Counts}
use Rattle.counts.specs.declared.MissionCounts.{MissionCounts}
use Rattle.replies.specs.Replies.{rows_used_of, network_file, mission_file_of}
use Rattle.replies.specs.Short.{AcceptsRndf, AcceptsMdf}
use Rattle.replies.proofs.Said.{never_both, pair-never-both}
use Rattle.writings.specs.Writes.{WritesRndf, WritesMdf}
use Rattle.writings.specs.Writes as W
use Rattle.writings.proofs.Said.{wrote-or-not, mdf-wrote-or-not}
use Rattle.promises.specs.Accepted.{mission_rows_used}
use Rattle.promises.proofs.Forms.{one-spelled, one-mission}
use Rattle.promises.proofs.Keeping.{rndf-later}
use Rattle.promises.proofs.Promises.{spelled-accepted}
use Rattle.promises.proofs.PairPromises.{spelled-pair-accepted}
use Rattle.return_trip.specs.ReadBack.{RoomFor, MissionRoomFor}
use Rattle.return_trip.proofs.Written.{RndfWritten, rndf-written, MdfWritten, mdf-written}
use Rattle.return_trip.proofs.Writings.{rndf-written-again, mdf-written-again}
use Rattle.compared.specs.Compared.{first_difference_of}
use Rattle.compared.proofs.Means.{nowhere-equal}
use Rattle.filed.specs.Filed.{Alike, Again, Filed, SameYard, WrittenIfFits, WrittenAgain, MdfFiled, SameOrders, MissionWrittenIfFits, MissionWrittenAgain}

-- ## What was written
-- the house writing of what the text spells
record Told (edition : Edition) (text writing : Bytes) : Type 0 where
  net : Network Field
  spelled : SpellsText (rules_of edition) SpellsNetwork net text
  present : SpellsRndf net text
  is : writing ≡ house_rndf net

told : (edition : Edition) (text writing : Bytes) → Filed (rules_of edition) text writing → Told edition text writing
told edition text writing w =
    let x = rndf-written edition text w.tables w.left w.lent w.counts w.file (length writing) w.out w.writes in
    record {
      net = x.net;
      spelled = x.accepts.spelled;
      present = rndf-back x.net text (rndf-later edition x.net text x.accepts.spelled);
      is = w.is ∙ x.first ∙ house-rndf-only x.net x.writing x.house;
    }

record MdfTold (edition : Edition) (mdf writing : Bytes) : Type 0 where
  mission : Mission Field
  spelled : SpellsText (rules_of edition) SpellsMission mission mdf
  present : SpellsMdf mission mdf
  is : writing ≡ house_mdf mission

mdf-told-so : (edition : Edition) (mdf writing : Bytes) → MdfFiled (rules_of edition) mdf writing → MdfTold edition mdf writing
mdf-told-so edition mdf writing w =
    let x = mdf-written edition w.rndf mdf w.tables w.left w.mission_tables w.mission_left w.lent w.counts w.file w.mission_counts w.mission_file_of (length writing) w.out w.writes in
    record {
      mission = x.mission;
      spelled = x.takes.spelled;
      present = mdf-back_in (inner edition) x.mission mdf x.takes.spelled;
      is = w.is ∙ x.first ∙ house-mdf-only x.mission x.writing x.house;
    }

-- ## RNDFs: equal writings, the same yard
pub filed_alike : (edition edition' : Edition) → Alike Filed SameYard (rules_of edition) (rules_of edition')
filed_alike edition edition' text text' writing writing' w w' =
    let x = told edition text writing w in
    let y = told edition' text' writing' w' in (
      λ e. (x.net, y.net, x.spelled, y.spelled, rndf-told x.net y.net text text' x.present y.present (sym x.is ∙ e ∙ y.is)),
      λ s.
          let p = one-spelled edition text x.net s.0 x.spelled s.2 in
          let q = one-spelled edition' text' s.1 y.net s.3 y.spelled in
          x.is ∙ ap house_rndf p ∙ rndf-one-writing s.0 s.1 s.4 ∙ ap house_rndf q ∙ sym y.is,
    )

pub again_anywhere : (edition edition' : Edition) → Again Filed SameYard (rules_of edition) (rules_of edition')
again_anywhere edition edition' text writing again w w' =
    let x = told edition text writing w in
    let y = told edition' writing again w' in
    y.is ∙ rndf-again x.net y.net text x.present (subst (SpellsRndf y.net) x.is y.present) ∙ sym x.is

-- ## Missions
pub missions_filed_alike : (edition edition' : Edition) → Alike MdfFiled SameOrders (rules_of edition) (rules_of edition')
missions_filed_alike edition edition' mdf mdf' writing writing' w w' =
    let x = mdf-told-so edition mdf writing w in
    let y = mdf-told-so edition' mdf' writing' w' in (
      λ e. (x.mission, y.mission, x.spelled, y.spelled, mdf-told x.mission y.mission mdf mdf' x.present y.present (sym x.is ∙ e ∙ y.is)),
      λ s.
          let p = one-mission edition mdf x.mission s.0 x.spelled s.2 in
          let q = one-mission edition' mdf' s.1 y.mission s.3 y.spelled in
          x.is ∙ ap house_mdf p ∙ mdf-one-writing s.0 s.1 s.4 ∙ ap house_mdf q ∙ sym y.is,
    )

pub mission-again_anywhere : (edition edition' : Edition) → Again MdfFiled SameOrders (rules_of edition) (rules_of edition')
mission-again_anywhere edition edition' mdf writing again w w' =
    let x = mdf-told-so edition mdf writing w in
    let y = mdf-told-so edition' writing again w' in
    y.is ∙ mdf-again x.mission y.mission mdf x.present (subst (SpellsMdf y.mission) x.is y.present) ∙ sym x.is

-- ## The premise: what was written is a writing that fits
abbrev long_in : WriteReply → ℕ
long_in (Ok (c, file, k)) = k
long_in (Err why) = 0

abbrev mdf-long_in : WriteMdfReply → ℕ
mdf-long_in (Ok (c, file, d, own, k)) = k
mdf-long_in (Err why) = 0

-- an output holds one writing of a length
one-held : (lent : ℕ) (x y out : Bytes) → length x ≡ length y → out ≡ padded lent x → out ≡ padded lent y → x ≡ y
one-held lent x y out e p q = sym (take_at x (zero_bytes (lent - length x)) (length x) refl) ∙ ap (take (length x)) (sym p ∙ q) ∙ take_at y (zero_bytes (lent - length y)) (length x) (sym e)

module _ (edition : Edition) (text : Bytes) (t : Lent) (lent : ℕ) where
  fits-written : (reply : WriteReply) (left : Lent) (out writing : Bytes) → WritesRndf (rules_of edition) text t lent reply left out → (n : Network Field) × AcceptsRndf (rules_of edition) text t n × HouseRndf n writing × Fits lent writing
      → (c : Counts) × (file : FileRow) × (reply ≡ Ok (c, file, length writing)) × (out ≡ padded lent writing)
  fits-written reply left out writing (W.refused why r e z) (n, a, g, f) = absurd (never_both (sym (spelled-accepted edition text t (Err why) left r n a).0))
  fits-written reply left out writing (W.too_long y f' e p z) (n, a, g, f) =
      let q : writing ≡ y.writing = house-rndf-only n writing g ∙ ap house_rndf (one-spelled edition text n y.meant a.spelled y.accepted.spelled) ∙ sym (house-rndf-only y.meant y.writing y.wrote) in
      absurd (f' (subst (Fits lent) q f))
  fits-written reply left out writing (W.written y f' e p z) (n, a, g, f) =
      let q : y.writing ≡ writing = house-rndf-only y.meant y.writing y.wrote ∙ ap house_rndf (one-spelled edition text y.meant n y.accepted.spelled a.spelled) ∙ sym (house-rndf-only n writing g) in
      (rows_used_of y.meant, network_file y.meant, e ∙ ap (λ (x : Bytes). Ok (rows_used_of y.meant, network_file y.meant, length x)) q, z ∙ ap (padded lent) q)

  written-fits : (reply : WriteReply) (left : Lent) (out writing : Bytes) → WritesRndf (rules_of edition) text t lent reply left out → (c : Counts) × (file : FileRow) × (reply ≡ Ok (c, file, length writing)) × (out ≡ padded lent writing)
      → (n : Network Field) × AcceptsRndf (rules_of edition) text t n × HouseRndf n writing × Fits lent writing
  written-fits reply left out writing (W.refused why r e z) (c, file, p, q) = absurd (wrote-or-not (sym p ∙ e))
  written-fits reply left out writing (W.too_long y f e o z) (c, file, p, q) = absurd (wrote-or-not (sym p ∙ e))
  written-fits reply left out writing (W.written y f e o z) (c, file, p, q) = let k = one-held lent y.writing writing out (ap long_in (sym e ∙ p)) z q in (y.meant, y.accepted, subst (HouseRndf y.meant) k y.wrote, subst (Fits lent) k f)

-- so that such a text is filed
pub is_filed : (edition : Edition) (text : Bytes) (t : Lent) (n : Network Field) (lent : ℕ) (writing : Bytes) → AcceptsRndf (rules_of edition) text t n → HouseRndf n writing → Fits lent writing → Filed (rules_of edition) text writing
is_filed edition text t n lent writing a g f = record {
  tables = t;
  lent = lent;
  counts = rows_used_of n;
  file = network_file n;
  left = Tables.filled n t;
  out = padded lent writing;
  writes = W.written (record { meant = n; accepted = a; writing = writing; wrote = g }) f refl refl refl;
  is = sym (take_at writing (zero_bytes (lent - length writing)) (length writing) refl);
}

pub written_if-fits : (edition : Edition) → WrittenIfFits (rules_of edition)
written_if-fits edition text t lent reply left out h writing = (fits-written edition text t lent reply left out writing h, written-fits edition text t lent reply left out writing h)

module _ (edition : Edition) (rndf mdf : Bytes) (t : Lent) (u : MissionLent) (lent : ℕ) where
  mission-fits-written : (reply : WriteMdfReply) (left : Lent) (mission_left : MissionLent) (out writing : Bytes) → WritesMdf (rules_of edition) rndf mdf t u lent reply left mission_left out
      → (n : Network Field) × (m : Mission Field) × AcceptsRndf (rules_of edition) rndf t n × AcceptsMdf (rules_of edition) n mdf u m × HouseMdf m writing × Fits lent writing
      → (c : Counts) × (file : FileRow) × (d : MissionCounts) × (own : MissionFileRow) × (reply ≡ Ok (c, file, d, own, length writing)) × (out ≡ padded lent writing)
  mission-fits-written reply left mission_left out writing (W.refused why r e z) (n, m, a, b, g, f) = absurd (pair-never-both (sym (spelled-pair-accepted edition rndf mdf t u (Err why) left mission_left r n m a b).0))
  mission-fits-written reply left mission_left out writing (W.too_long n' a' y f' e p p' z) (n, m, a, b, g, f) =
      let q : writing ≡ y.writing = house-mdf-only m writing g ∙ ap house_mdf (one-mission edition mdf m y.meant b.spelled y.accepted.spelled) ∙ sym (house-mdf-only y.meant y.writing y.wrote) in
      absurd (f' (subst (Fits lent) q f))
  mission-fits-written reply left mission_left out writing (W.written n' a' y f' e p p' z) (n, m, a, b, g, f) =
      let m' = y.meant in
      let q : y.writing ≡ writing = house-mdf-only m' y.writing y.wrote ∙ ap house_mdf (one-mission edition mdf m' m y.accepted.spelled b.spelled) ∙ sym (house-mdf-only m writing g) in
      (rows_used_of n', network_file n', mission_rows_used m', mission_file_of m', e ∙ ap (λ (x : Bytes). Ok (rows_used_of n', network_file n', mission_rows_used m', mission_file_of m', length x)) q, z ∙ ap (padded lent) q)

  mission-written-fits : (reply : WriteMdfReply) (left : Lent) (mission_left : MissionLent) (out writing : Bytes) → WritesMdf (rules_of edition) rndf mdf t u lent reply left mission_left out
      → (c : Counts) × (file : FileRow) × (d : MissionCounts) × (own : MissionFileRow) × (reply ≡ Ok (c, file, d, own, length writing)) × (out ≡ padded lent writing)
      → (n : Network Field) × (m : Mission Field) × AcceptsRndf (rules_of edition) rndf t n × AcceptsMdf (rules_of edition) n mdf u m × HouseMdf m writing × Fits lent writing
  mission-written-fits reply left mission_left out writing (W.refused why r e z) (c, file, d, own, p, q) = absurd (mdf-wrote-or-not (sym p ∙ e))
  mission-written-fits reply left mission_left out writing (W.too_long n a y f e o o' z) (c, file, d, own, p, q) = absurd (mdf-wrote-or-not (sym p ∙ e))
  mission-written-fits reply left mission_left out writing (W.written n a y f e o o' z) (c, file, d, own, p, q) =
      let k = one-held lent y.writing writing out (ap mdf-long_in (sym e ∙ p)) z q in
      (n, y.meant, a, y.accepted, subst (HouseMdf y.meant) k y.wrote, subst (Fits lent) k f)

pub mission-written_if-fits : (edition : Edition) → MissionWrittenIfFits (rules_of edition)
mission-written_if-fits edition rndf mdf t u lent reply left mission_left out h writing = (mission-fits-written edition rndf mdf t u lent reply left mission_left out writing h, mission-written-fits edition rndf mdf t u lent reply left mission_left out writing h)

-- ## Written again, in the same tables and output
-- there was room
room_for : (n : Network Field) (t : Lent) (c : Counts) → c ≡ rows_used_of n → HasRoom n t → RoomFor c t
room_for n t c e h = subst (λ (x : Counts). RoomFor x t) (sym e) (record { segments = h.segments; lanes = h.lanes; zones = h.zones; spots = h.spots; points = h.points; checkpoints = h.checkpoints; stops = h.stops; exits = h.exits })

mission-room_for : (m : Mission Field) (u : MissionLent) (d : MissionCounts) → d ≡ mission_rows_used m → MissionHasRoom m u → MissionRoomFor d u
mission-room_for m u d e h = let r = mission-room-back m u h in subst (λ (x : MissionCounts). MissionRoomFor x u) (sym e) (record { goals = r.goals; limits = r.limits })

-- the output was long enough, and holds the writing and zeros behind it
so : (lent k : ℕ) (w out : Bytes) → k ≡ length w → length w ≤ lent → out ≡ padded lent w → (k ≤ lent) × (out ≡ padded lent (take k out))
so lent k w out e h z = (subst (λ (j : ℕ). j ≤ lent) (sym e) h, z ∙ ap (padded lent) (sym (ap (take k) z ∙ take_at w (zero_bytes (lent - length w)) k (sym e))))

fits-so : (edition : Edition) (text : Bytes) (t left : Lent) (lent : ℕ) (c : Counts) (file : FileRow) (k : ℕ) (out : Bytes) → WritesRndf (rules_of edition) text t lent (Ok (c, file, k)) left out → (k ≤ lent) × (out ≡ padded lent (take k out))
fits-so edition text t left lent c file k out (W.refused why h e z) = absurd (wrote-or-not e)
fits-so edition text t left lent c file k out (W.too_long y f e p z) = absurd (wrote-or-not e)
fits-so edition text t left lent c file k out (W.written y f e p z) = so lent k y.writing out (ap long_in e) f.room z

mdf-fits-so : (edition : Edition) (rndf mdf : Bytes) (t left : Lent) (u mission_left : MissionLent) (lent : ℕ) (c : Counts) (file : FileRow) (d : MissionCounts) (own : MissionFileRow) (k : ℕ) (out : Bytes)
    → WritesMdf (rules_of edition) rndf mdf t u lent (Ok (c, file, d, own, k)) left mission_left out → (k ≤ lent) × (out ≡ padded lent (take k out))
mdf-fits-so edition rndf mdf t left u mission_left lent c file d own k out (W.refused why h e z) = absurd (mdf-wrote-or-not e)
mdf-fits-so edition rndf mdf t left u mission_left lent c file d own k out (W.too_long n a y f e p q z) = absurd (mdf-wrote-or-not e)
mdf-fits-so edition rndf mdf t left u mission_left lent c file d own k out (W.written n a y f e p q z) = so lent k y.writing out (ap mdf-long_in e) f.room z

pub written-again : (edition : Edition) → WrittenAgain (rules_of edition)
written-again edition text writing w reply left' out' v =
    let k = length writing in
    let x = rndf-written edition text w.tables w.left w.lent w.counts w.file k w.out w.writes in
    let p = fits-so edition text w.tables w.left w.lent w.counts w.file k w.out w.writes in
    let r = rndf-written-again edition text w.tables w.left w.lent w.counts w.file k w.out w.writes w.tables left' w.lent reply out' (room_for x.net w.tables w.counts x.counted x.accepts.room) p.0
    (subst (λ (b : Bytes). WritesRndf (rules_of edition) b w.tables w.lent reply left' out') w.is v) in
    (r.0, r.1 ∙ sym p.1)

pub mission-written-again : (edition : Edition) → MissionWrittenAgain (rules_of edition)
mission-written-again edition mdf writing w reply left' mission-left' out' v =
    let k = length writing in
    let x = mdf-written edition w.rndf mdf w.tables w.left w.mission_tables w.mission_left w.lent w.counts w.file w.mission_counts w.mission_file_of k w.out w.writes in
    let p = mdf-fits-so edition w.rndf mdf w.tables w.left w.mission_tables w.mission_left w.lent w.counts w.file w.mission_counts w.mission_file_of k w.out w.writes in
    let r = mdf-written-again edition w.rndf mdf w.tables w.left w.mission_tables w.mission_left w.lent w.counts w.file w.mission_counts w.mission_file_of k w.out w.writes w.tables left' w.mission_tables mission-left' w.lent reply out'
    (room_for x.net w.tables w.counts x.meant.counted x.accepts.room) (mission-room_for x.mission w.mission_tables w.mission_counts x.meant.mission_counted x.takes.room) p.0
    (subst (λ (b : Bytes). WritesMdf (rules_of edition) w.rndf b w.tables w.mission_tables w.lent reply left' mission-left' out') w.is v) in
    (r.0, r.1 ∙ sym p.1)

-- ## What `run-same` goes by: nothing differs exactly where it is the same yard
pub same-exactly : (edition edition' : Edition) (text text' writing writing' : Bytes) → Filed (rules_of edition) text writing → Filed (rules_of edition') text' writing' → (first_difference_of writing writing' ≡ None) ↔ SameYard (rules_of edition) (rules_of edition') text text'
same-exactly edition edition' text text' writing writing' w w' =
    let p = nowhere-equal writing writing' in
    let q = filed_alike edition edition' text text' writing writing' w w' in
    (λ e. q.0 (p.0 e), λ s. p.1 (q.1 s))
