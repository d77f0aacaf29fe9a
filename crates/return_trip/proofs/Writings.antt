-- THE RETURN TRIP, from the contracts alone: what was written is read again by its edition as the same network, or mission, with as many rows, in any tables with room for them; and what is written of it again are the same bytes. Assumes nothing.
use Rattle.std.specs.Prelude.{Ok, Err}
use Rattle.writings.specs.Types.{WriteMdfReply, WriteReply}
use Rattle.replies.specs.Types.{PairReply, RndfReply}
use mathlib.Core.Path.{◌≡◌, refl, sym, ap, ap₂, subst, ◌∙◌}
use Prim.Native.Nat.{ℕ, ◌≤◌}
use lib.ListN.{length, take}
use Rattle.terms.specs.Ascii.{Bytes}
use Rattle.line.specs.Content.{Field}
use Rattle.law.specs.Network.{Network, Mission, SpellsNetwork, SpellsMission, SpellsText}
use Rattle.law.specs.Tables.{Lent, MissionLent, HasRoom, MissionHasRoom}
use Rattle.grammar.specs.Names.{network_named}
use Rattle.text.specs.Spelling.{SpellsRndf, SpellsMdf, bytes_of}
use Rattle.rows.specs.declared.FileRow.{FileRow}
use Rattle.rows.specs.declared.MissionFileRow.{MissionFileRow}
use Rattle.counts.specs.declared.Counts.{Counts}
use Rattle.counts.specs.declared.MissionCounts.{MissionCounts}
use Rattle.edition.specs.declared.Edition.{Edition}
use Rattle.edition.specs.Editions.{inner, rules_of}
use Rattle.replies.specs.Replies.{stretch, rows_used_of, network_file, mission_file_of, ReadsRndf, ReadsPair, accepted}
use Rattle.replies.specs.Short.{AcceptsRndf}
use Rattle.replies.proofs.Said.{never_both, pair-never-both, counts_of, pair-counts-of, mission-counts-of}
use Rattle.output.specs.Output.{Fits, padded}
use Rattle.house_text.specs.House.{undated, mission_undated, HouseRndf, HouseMdf}
use Rattle.house_text.proofs.Undated.{undated-same, mission-undated-same, no-date, no-mission-date}
use Rattle.house_text.proofs.Lawful.{house-rndf-only, house-mdf-only}
use Rattle.house_text.proofs.Theorems.{rndf-again, mdf-again}
use Rattle.law_spelling.proofs.Texts.{rndf-back, mdf-back_in}
use Rattle.law_tables.proofs.SameTables.{mission-room-to}
use Rattle.same.specs.Same.{SameNetwork}
use Rattle.writings.specs.Writes.{WritesRndf, WritesMdf}
use Rattle.writings.specs.Writes as W
use Rattle.writings.proofs.Read.{pair-reply}
use Rattle.promises.specs.Accepted.{mission_rows_used}
use Rattle.promises.proofs.Keeping.{rndf-later}
use Rattle.promises.proofs.Forms.{one-spelled}
use Rattle.promises.proofs.Promises.{spelled-accepted}
use Rattle.promises.proofs.PairPromises.{spelled-pair-accepted}
use Rattle.return_trip.specs.Returns.{RndfReturns}
use Rattle.return_trip.specs.ReadBack.{RoomFor, MissionRoomFor, RndfReadBack, PairReadBack}
use Rattle.return_trip.proofs.Returns.{counts-alike, mission-counts-alike, undated-used, rndf-returns_in, mdf-returns_in}
use Rattle.return_trip.proofs.Written.{RndfWritten, rndf-written, MdfWritten, mdf-written}

-- room for the rows that were replied is room for the network's, and the mission's
room_as : (n : Network Field) (t : Lent) (c : Counts) → c ≡ rows_used_of n → RoomFor c t → HasRoom n t
room_as n t c e room =
    let r = subst (λ (x : Counts). RoomFor x t) e room in
    record { segments = r.segments; lanes = r.lanes; zones = r.zones; spots = r.spots; points = r.points; checkpoints = r.checkpoints; stops = r.stops; exits = r.exits }

mission-room_as : (m : Mission Field) (u : MissionLent) (c : MissionCounts) → c ≡ mission_rows_used m → MissionRoomFor c u → MissionHasRoom m u
mission-room_as m u c e room =
    let r = subst (λ (x : MissionCounts). MissionRoomFor x u) e room in
    mission-room-to m u (record { goals = r.goals; limits = r.limits })

module _ (edition : Edition) where
  -- ## What a house writing spells has no other house writing
  same-writing : (n n' : Network Field) (text writing writing' : Bytes) → SpellsText (rules_of edition) SpellsNetwork n text → HouseRndf n writing → SpellsText (rules_of edition) SpellsNetwork n' writing → HouseRndf n' writing' → writing' ≡ writing
  same-writing n n' text writing writing' s h s' h' =
      let e = house-rndf-only n writing h in
      house-rndf-only n' writing' h' ∙ rndf-again n n' text (rndf-back n text (rndf-later edition n text s)) (subst (SpellsRndf n') e (rndf-back n' writing (rndf-later edition n' writing s'))) ∙ sym e

  same-mdf-writing : (m m' : Mission Field) (text writing writing' : Bytes) → SpellsText (rules_of edition) SpellsMission m text → HouseMdf m writing → SpellsText (rules_of edition) SpellsMission m' writing → HouseMdf m' writing' → writing' ≡ writing
  same-mdf-writing m m' text writing writing' s h s' h' =
      let e = house-mdf-only m writing h in
      house-mdf-only m' writing' h' ∙ mdf-again m m' text (mdf-back_in (inner edition) m text s) (subst (SpellsMdf m') e (mdf-back_in (inner edition) m' writing s')) ∙ sym e

  -- ## An RNDF
  module _ (text : Bytes) (t left : Lent) (lent : ℕ) (c : Counts) (file : FileRow) (k : ℕ) (out : Bytes) (w : WritesRndf (rules_of edition) text t lent (Ok (c, file, k)) left out) where
    abbrev What : RndfWritten edition text t left c file k out
    What = rndf-written edition text t left lent c file k out w

    -- it is accepted again
    came-back : (t' : Lent) → RoomFor c t' → RndfReturns (rules_of edition) What.net What.writing t'
    came-back t' room = rndf-returns_in edition text t t' What.net What.accepts What.writing What.house What.size (room_as What.net t' c What.counted room)

    -- THE RETURN TRIP
    pub rndf-comes-back : (t' left' : Lent) (reply : RndfReply) → RoomFor c t' → ReadsRndf (rules_of edition) (take k out) t' reply left' → RndfReadBack (rules_of edition) text (take k out) c reply
    rndf-comes-back t' left' reply room h =
        let y = came-back t' room in
        let n' = y.again in
        let s = spelled-accepted edition What.writing t' reply left' (subst (λ (b : Bytes). ReadsRndf (rules_of edition) b t' reply left') What.first h) n' y.accepts in
        record {
          file = network_file n';
          replied = s.0 ∙ ap (λ (x : Counts). Ok (x, network_file n')) (counts-alike n' (undated What.net) y.same ∙ undated-used What.net ∙ sym What.counted);
          dateless = ap stretch (no-date n' What.net y.same);
          network = record { one = What.net; other = n'; spells_one = What.accepts.spelled; spells_other = subst (SpellsText (rules_of edition) SpellsNetwork n') (sym What.first) y.accepts.spelled; same = undated-same n' (undated What.net) y.same };
        }

    -- and what is written of it again, into any output that is long enough, are the same bytes
    pub rndf-written-again : (t' left' : Lent) (lent' : ℕ) (reply : WriteReply) (out' : Bytes) → RoomFor c t' → k ≤ lent' → WritesRndf (rules_of edition) (take k out) t' lent' reply left' out'
        → ((row : FileRow) × (reply ≡ Ok (c, row, k))) × (out' ≡ padded lent' (take k out))
    rndf-written-again t' left' lent' reply out' room long v = go v
      where
        same : (n' : Network Field) (writing' : Bytes) → SpellsText (rules_of edition) SpellsNetwork n' (take k out) → HouseRndf n' writing' → writing' ≡ What.writing
        same n' writing' s g = same-writing What.net n' text What.writing writing' What.accepts.spelled What.house (subst (SpellsText (rules_of edition) SpellsNetwork n') What.first s) g

        go : WritesRndf (rules_of edition) (take k out) t' lent' reply left' out' → ((row : FileRow) × (reply ≡ Ok (c, row, k))) × (out' ≡ padded lent' (take k out))
        go (W.refused why h e z) = absurd (never_both (sym (rndf-comes-back t' left' (Err why) room h).replied))
        go (W.too_long y f e p z) = absurd (f (subst (Fits lent') (sym (same y.meant y.writing y.accepted.spelled y.wrote)) (record { size = What.size; room = subst (λ (y : ℕ). y ≤ lent') What.long long })))
        go (W.written y f e p z) =
            let n' = y.meant in
            let q = same n' y.writing y.accepted.spelled y.wrote in
            let b = rndf-comes-back t' left' (Ok (rows_used_of n', network_file n')) room (accepted n' y.accepted refl p) in
            ((network_file n', e ∙ ap₂ (λ (x : Counts) (k' : ℕ). Ok (x, network_file n', k')) (ap (counts_of c) b.replied) (ap length q ∙ sym What.long)), z ∙ ap (padded lent') (q ∙ sym What.first))

  -- ## The MDF of a pair
  module _ (rndf mdf : Bytes) (t left : Lent) (u mission_left : MissionLent) (lent : ℕ) (c : Counts) (file : FileRow) (d : MissionCounts) (row : MissionFileRow) (k : ℕ) (out : Bytes)
      (w : WritesMdf (rules_of edition) rndf mdf t u lent (Ok (c, file, d, row, k)) left mission_left out) where
    abbrev Whole : MdfWritten edition rndf mdf t left u mission_left c file d row k out
    Whole = mdf-written edition rndf mdf t left u mission_left lent c file d row k out w

    -- with any RNDF that is accepted as the same network
    came-back-with : (rndf' : Bytes) (t' left' : Lent) (u' mission-left' : MissionLent) (n' : Network Field) (reply : PairReply) → AcceptsRndf (rules_of edition) rndf' t' n' → SameNetwork (undated n') (undated Whole.net) → MissionRoomFor d u'
        → ReadsPair (rules_of edition) rndf' (take k out) t' u' reply left' mission-left' → PairReadBack (rules_of edition) rndf mdf rndf' (take k out) c d reply
    came-back-with rndf' t' left' u' mission-left' n' reply a e room h =
        let n = Whole.net in
        let m = Whole.mission in
        let y = mdf-returns_in edition mdf u u' n n' m Whole.takes e Whole.writing Whole.house Whole.size (mission-room_as m u' d Whole.meant.mission_counted room) in
        let m' = y.again in
        let s = spelled-pair-accepted edition rndf' Whole.writing t' u' reply left' mission-left' (subst (λ (b : Bytes). ReadsPair (rules_of edition) rndf' b t' u' reply left' mission-left') Whole.first h) n' m' a y.accepts in
        let one = sym (undated-used n') ∙ counts-alike (undated n') (undated n) e ∙ undated-used n ∙ sym Whole.meant.counted in
        let two = mission-counts-alike m' (mission_undated m) y.same ∙ sym Whole.meant.mission_counted in
        record {
          file = network_file n';
          mission_file_of = mission_file_of m';
          replied = s.0 ∙ ap₂ (λ (x : Counts) (z : MissionCounts). Ok (x, network_file n', z, mission_file_of m')) one two;
          dateless = ap stretch (no-mission-date m' m y.same);
          network = record { one = n; other = n'; spells_one = Whole.accepts.spelled; spells_other = a.spelled; same = e };
          mission = record { one = m; other = m'; spells_one = Whole.takes.spelled; spells_other = subst (SpellsText (rules_of edition) SpellsMission m') (sym Whole.first) y.accepts.spelled; same = mission-undated-same m' (mission_undated m) y.same };
        }

    -- THE RETURN TRIP: with the RNDF that was read then
    pub mdf-comes-back : (t' left' : Lent) (u' mission-left' : MissionLent) (reply : PairReply) → RoomFor c t' → MissionRoomFor d u' → ReadsPair (rules_of edition) rndf (take k out) t' u' reply left' mission-left' → PairReadBack (rules_of edition) rndf mdf rndf (take k out) c d reply
    mdf-comes-back t' left' u' mission-left' reply room mission-room h =
        let a = Whole.accepts in
        came-back-with rndf t' left' u' mission-left' Whole.net reply (record { size = a.size; spelled = a.spelled; room = room_as Whole.net t' c Whole.meant.counted room; right = a.right }) refl mission-room h

    -- with what was written of that RNDF
    pub pair-comes-back : (s held : Lent) (room-lent : ℕ) (c₁ : Counts) (file₁ : FileRow) (k₁ : ℕ) (out₁ : Bytes) → WritesRndf (rules_of edition) rndf s room-lent (Ok (c₁, file₁, k₁)) held out₁
        → (t' left' : Lent) (u' mission-left' : MissionLent) (reply : PairReply) → RoomFor c t' → MissionRoomFor d u' → ReadsPair (rules_of edition) (take k₁ out₁) (take k out) t' u' reply left' mission-left'
        → PairReadBack (rules_of edition) rndf mdf (take k₁ out₁) (take k out) c d reply
    pair-comes-back s held room-lent c₁ file₁ k₁ out₁ v t' left' u' mission-left' reply room mission-room h =
        let y = rndf-written edition rndf s held room-lent c₁ file₁ k₁ out₁ v in
        let q = one-spelled edition rndf y.net Whole.net y.accepts.spelled Whole.accepts.spelled in
        let one : c₁ ≡ c = y.counted ∙ ap (λ (x : Network Field). rows_used_of x) q ∙ sym Whole.meant.counted in
        let b = came-back rndf s held room-lent c₁ file₁ k₁ out₁ v t' (subst (λ (x : Counts). RoomFor x t') (sym one) room) in
        came-back-with (take k₁ out₁) t' left' u' mission-left' b.again reply (subst (λ (x : Bytes). AcceptsRndf (rules_of edition) x t' b.again) (sym y.first) b.accepts) (undated-same b.again (undated y.net) b.same ∙ ap (λ (x : Network Field). network_named bytes_of (undated x)) q) mission-room h

    -- what is written of it again, into any output that is long enough, are the same bytes
    pub mdf-written-again : (t' left' : Lent) (u' mission-left' : MissionLent) (lent' : ℕ) (reply : WriteMdfReply) (out' : Bytes) → RoomFor c t' → MissionRoomFor d u' → k ≤ lent' → WritesMdf (rules_of edition) rndf (take k out) t' u' lent' reply left' mission-left' out'
        → ((file' : FileRow) × (row' : MissionFileRow) × (reply ≡ Ok (c, file', d, row', k))) × (out' ≡ padded lent' (take k out))
    mdf-written-again t' left' u' mission-left' lent' reply out' room mission-room long v = go v
      where
        same : (m' : Mission Field) (writing' : Bytes) → SpellsText (rules_of edition) SpellsMission m' (take k out) → HouseMdf m' writing' → writing' ≡ Whole.writing
        same m' writing' s g = same-mdf-writing Whole.mission m' mdf Whole.writing writing' Whole.takes.spelled Whole.house (subst (SpellsText (rules_of edition) SpellsMission m') Whole.first s) g

        go : WritesMdf (rules_of edition) rndf (take k out) t' u' lent' reply left' mission-left' out' → ((file' : FileRow) × (row' : MissionFileRow) × (reply ≡ Ok (c, file', d, row', k))) × (out' ≡ padded lent' (take k out))
        go (W.refused why h e z) = absurd (pair-never-both (sym (mdf-comes-back t' left' u' mission-left' (Err why) room mission-room h).replied))
        go (W.too_long n' a' y f e p q z) = absurd (f (subst (Fits lent') (sym (same y.meant y.writing y.accepted.spelled y.wrote)) (record { size = Whole.size; room = subst (λ (y : ℕ). y ≤ lent') Whole.long long })))
        go (W.written n' a' y f e p p' z) =
            let q = same y.meant y.writing y.accepted.spelled y.wrote in
            let b = mdf-comes-back t' left' u' mission-left' (pair-reply n' y.meant) room mission-room (accepted n' y.meant a' y.accepted refl p p') in
            let j = ap length q ∙ sym Whole.long in
            ((network_file n', mission_file_of y.meant, e ∙ (λ i. Ok (pair-counts-of c (b.replied i), network_file n', mission-counts-of d (b.replied i), mission_file_of y.meant, j i))), z ∙ ap (padded lent') (q ∙ sym Whole.first))
