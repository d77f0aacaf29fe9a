-- THE RETURN TRIP of an accepted RNDF, and of an accepted RNDF with its MDF, within the edition by which they were accepted (L10). Assumes nothing.
use Rattle.std.specs.Prelude.{Ok}
use Rattle.replies.specs.Types.{PairReply, RndfReply}
use mathlib.Core.Path.{◌≡◌, sym, ap, subst, ◌∙◌}
use Prim.Native.Nat.{ℕ, ◌/◌, ◌≤◌}
use lib.ListN.{length}
use Rattle.terms.specs.Ascii.{Bytes}
use Rattle.line.specs.Content.{Field}
use Rattle.law.specs.Network.{PointId, Network, Mission}
use Rattle.law.specs.Tables as Law
use Rattle.law.specs.Tables.{Lent, MissionLent}
use Rattle.law.specs.Faults.{Declared, waypoint, border, Sound}
use Rattle.terms.proofs.Lists.{each_map}
use Rattle.law.specs.Tables.{gather, all_lanes}
use mathlib.Core.List.{List, ◌++◌}
use Rattle.grammar.specs.Names.{network_named, mission_named}
use Rattle.grammar.specs.Tables.{mission_tables}
use Rattle.grammar.specs.References.{MissionFits}
use Rattle.grammar.proofs.Theorems.{network_ranges, mission_ranges}
use Rattle.text.specs.Spelling.{Name, bytes_of}
use Rattle.fill.specs.Counts.{Counts, MissionCounts, mission_sizes}
use Rattle.table_words.specs.Words.{HasRoom, MissionHasRoom}
use Rattle.edition.specs.declared.Edition.{Edition}
use Rattle.edition.specs.Editions.{inner, rules_of}
use Rattle.law_spelling.proofs.Texts.{rndf-to, mdf-to_in}
use Rattle.law_spelling.proofs.Texts as Texts
use Rattle.law_tables.proofs.SameTables.{room-to, room_back, mission-room-to, mission-room-back, mission-counts-same, mission-filled-same}
use Rattle.law_tables.proofs.SameFits.{fits-to, fits-back}
use Rattle.counts.specs.declared.Counts as Declared
use Rattle.law_tables.specs.Used as N
use Rattle.replies.specs.Replies.{longest, rows_used_of, network_file, mission_file_of, ReadsRndf, ReadsPair}
use Rattle.replies.specs.Short.{AcceptsRndf, AcceptsMdf}
use Rattle.replies.proofs.Counted.{counts_are}
use Rattle.promises.specs.Accepted.{mission_rows_used}
use Rattle.promises.proofs.Keeping.{rndf-later}
use Rattle.promises.proofs.Promises.{spelled-accepted}
use Rattle.promises.proofs.PairPromises.{spelled-pair-accepted}
use Rattle.house_text.specs.House.{undated, mission_undated, HouseRndf, HouseMdf}
use Rattle.house_text.proofs.Undated.{undated-same, undated-named, mission-undated-named, undated-exits}
use Rattle.house_text.specs.HouseText.{house_rndf, house_mdf}
use Rattle.house_text.proofs.Lawful.{house-rndf-only, house-mdf-only, house-rndf-is, house-mdf-is}
use Rattle.house_text.proofs.References.{sound-alike, sizes-alike, mission-sizes-alike, mission-words-alike}
use Rattle.house_text.proofs.Theorems.{rndf-back, mdf-back}
use Rattle.same.specs.Same.{SameNetwork, SameMission}
use Rattle.return_trip.specs.Returns.{RndfReturns, MdfReturns, PairReturns}
use Rattle.return_trip.proofs.Within.{rndf-within}

-- ## Without its date a network needs the same room, has the same references, and fits the same missions
undated-room : (n : Network Field) (t : Lent) → Law.HasRoom n t → Law.HasRoom (undated n) t
undated-room n t h = record { segments = h.segments; lanes = h.lanes; zones = h.zones; spots = h.spots; points = h.points; checkpoints = h.checkpoints; stops = h.stops; exits = subst (λ (rows : List (List ℕ)). length rows ≤ length t.exits / 2) (sym (undated-exits n)) h.exits }

-- as many rows
pub undated-used : (n : Network Field) → rows_used_of (undated n) ≡ rows_used_of n
undated-used n = λ i. record { segments = (rows_used_of n).segments; lanes = (rows_used_of n).lanes; zones = (rows_used_of n).zones; spots = (rows_used_of n).spots; points = (rows_used_of n).points; checkpoints = (rows_used_of n).checkpoints; stops = (rows_used_of n).stops; exits = length (undated-exits n i) }

undated-declared : (n : Network Field) (e : PointId) → Declared n e → Declared (undated n) e
undated-declared n e (waypoint s a p q r) = waypoint s a p q r
undated-declared n e (border i z p q r b) = border i z p q r b

pub undated-sound : (n : Network Field) → Sound n → Sound (undated n)
undated-sound n s = record { entries = each_map (λ e. Declared n e.entry) (λ e. Declared (undated n) e.entry) (λ e. undated-declared n e.entry) (gather (λ a. a.exits) (all_lanes n) ++ gather (λ z. z.border.exits) n.zones) s.entries; numbers = s.numbers }

undated-fits : {N : Type 0} (n : Network N) (m : Mission N) → MissionFits n m → MissionFits (undated n) (mission_undated m)
undated-fits n m f = record { name = f.name; goals = f.goals; known = f.known; once = f.once; all = f.all }

dated-fits : {N : Type 0} (n : Network N) (m : Mission N) → MissionFits (undated n) m → MissionFits n m
dated-fits n m f = record { name = f.name; goals = f.goals; known = f.known; once = f.once; all = f.all }

-- ## There is only one house writing, and what is the same has as many rows
pub one-rndf-house : (n : Network Field) (house house' : Bytes) → HouseRndf n house → HouseRndf n house' → house ≡ house'
one-rndf-house n house house' h h' = house-rndf-only n house h ∙ sym (house-rndf-only n house' h')

pub one-mdf-house : (m : Mission Field) (house house' : Bytes) → HouseMdf m house → HouseMdf m house' → house ≡ house'
one-mdf-house m house house' h h' = house-mdf-only m house h ∙ sym (house-mdf-only m house' h')

pub counts-alike : (n n' : Network Field) → SameNetwork n n' → rows_used_of n ≡ rows_used_of n'
counts-alike n n' e = sym (counts_are n) ∙ ap (λ (c : Counts). N.rows_used_of c) (sizes-alike bytes_of n n' e) ∙ counts_are n'

pub mission-counts-alike : (m m' : Mission Field) → SameMission m m' → mission_rows_used m ≡ mission_rows_used m'
mission-counts-alike m m' e =
    let q : mission_sizes (mission_tables m) ≡ mission_sizes (mission_tables m') = mission-sizes-alike bytes_of m m' e in
    ap (λ (c : MissionCounts). record { goals = c.goals; limits = c.limits }) (sym (mission-counts-same m) ∙ q ∙ mission-counts-same m')

module _ (edition : Edition) where
  -- ## The house writing of what was accepted
  pub rndf-house : (text : Bytes) (t : Lent) (n : Network Field) → AcceptsRndf (rules_of edition) text t n → (house : Bytes) × HouseRndf n house
  rndf-house text t n a = let s = Texts.rndf-back n text (rndf-later edition n text a.spelled) in (house_rndf n, house-rndf-is n (network_ranges n s.said s.net))

  pub mdf-house : (mdf : Bytes) (u : MissionLent) (n : Network Field) (m : Mission Field) → AcceptsMdf (rules_of edition) n mdf u m → (house : Bytes) × HouseMdf m house
  mdf-house mdf u n m a = let s = Texts.mdf-back_in (inner edition) m mdf a.spelled in (house_mdf m, house-mdf-is m (mission_ranges m s.said s.net))

  -- ## Accepted again
  -- in any tables that have room for its rows
  pub rndf-returns_in : (text : Bytes) (t t' : Lent) (n : Network Field) → AcceptsRndf (rules_of edition) text t n → (house : Bytes) → HouseRndf n house → length house ≤ longest → Law.HasRoom n t' → RndfReturns (rules_of edition) n house t'
  rndf-returns_in text t t' n a house h size room =
      let e = house-rndf-only n house h in
      let b = rndf-back n text (Texts.rndf-back n text (rndf-later edition n text a.spelled)) in
      subst (λ (w : Bytes). RndfReturns (rules_of edition) n w t') (sym e)
      (record {
        again = b.0;
        accepts = record {
          size = subst (λ (w : Bytes). length w ≤ longest) e size;
          spelled = rndf-within edition n b.0 text (house_rndf n) a.spelled (rndf-to b.0 (house_rndf n) b.1) b.2;
          room = room-to b.0 t' (subst (λ (c : Counts). HasRoom c t') (sizes-alike bytes_of (undated n) b.0 (sym b.2)) (room_back (undated n) t' (undated-room n t' room)));
          right = sound-alike bytes_of (undated n) b.0 (sym b.2) (undated-sound n a.right);
        };
        same = b.2;
      })

  -- so in the same tables: as many rows are needed
  pub rndf-returns : (text : Bytes) (t : Lent) (n : Network Field) → AcceptsRndf (rules_of edition) text t n → (house : Bytes) → HouseRndf n house → length house ≤ longest → RndfReturns (rules_of edition) n house t
  rndf-returns text t n a house h size = rndf-returns_in text t t n a house h size a.room

  -- for every network that is the same, apart from its date, as the one that the MDF was accepted for: that one, or what its house writing spells
  pub mdf-returns_in : (mdf : Bytes) (u u' : MissionLent) (n n' : Network Field) (m : Mission Field) → AcceptsMdf (rules_of edition) n mdf u m → SameNetwork (undated n') (undated n) → (house : Bytes) → HouseMdf m house → length house ≤ longest → Law.MissionHasRoom m u' → MdfReturns (rules_of edition) n' m house u'
  mdf-returns_in mdf u u' n n' m a e house h size room =
      let q = house-mdf-only m house h in
      let b = mdf-back m mdf (Texts.mdf-back_in (inner edition) m mdf a.spelled) in
      subst (λ (w : Bytes). MdfReturns (rules_of edition) n' m w u') (sym q)
      (record {
        again = b.0;
        accepts = record {
          size = subst (λ (w : Bytes). length w ≤ longest) q size;
          spelled = mdf-to_in (inner edition) b.0 (house_mdf m) b.1;
          room = mission-room-to b.0 u' (subst (λ (c : MissionCounts). MissionHasRoom c u') (mission-sizes-alike bytes_of (mission_undated m) b.0 (sym b.2)) (mission-room-back m u' room));
          right = fits-to n' b.0 (dated-fits (network_named bytes_of n') (mission_named bytes_of b.0) (subst (λ (x : Network Name). MissionFits x (mission_named bytes_of b.0)) (sym (undated-named n) ∙ sym e ∙ undated-named n') (subst (λ (x : Mission Name). MissionFits (undated (network_named bytes_of n)) x) (sym (mission-undated-named m) ∙ sym b.2) (undated-fits (network_named bytes_of n) (mission_named bytes_of m) (fits-back n m a.right)))));
        };
        same = b.2;
      })

  pub mdf-returns : (mdf : Bytes) (u : MissionLent) (n n' : Network Field) (m : Mission Field) → AcceptsMdf (rules_of edition) n mdf u m → SameNetwork (undated n') (undated n) → (house : Bytes) → HouseMdf m house → length house ≤ longest → MdfReturns (rules_of edition) n' m house u
  mdf-returns mdf u n n' m a e house h size = mdf-returns_in mdf u u n n' m a e house h size a.room

  -- THE RETURN TRIP
  pub pair-returns : (rndf mdf : Bytes) (t : Lent) (u : MissionLent) (n : Network Field) (m : Mission Field) → AcceptsRndf (rules_of edition) rndf t n → AcceptsMdf (rules_of edition) n mdf u m
      → (rndf-house mdf-house : Bytes) → HouseRndf n rndf-house → HouseMdf m mdf-house → length rndf-house ≤ longest → length mdf-house ≤ longest → PairReturns (rules_of edition) n m rndf-house mdf-house t u
  pair-returns rndf mdf t u n m a b v w h g size mission-size =
      let x = rndf-returns rndf t n a v h size in
      record { network = x; mission = mdf-returns mdf u n x.again m b (undated-same x.again (undated n) x.same) w g mission-size }

  -- ## What a reader replies: the same rows used; the file's own row and the tables are those of what came back
  pub rndf-read-again : (text : Bytes) (t : Lent) (n : Network Field) → AcceptsRndf (rules_of edition) text t n → (house : Bytes) → HouseRndf n house → length house ≤ longest → (reply : RndfReply) (left : Lent) → ReadsRndf (rules_of edition) house t reply left
      → (x : RndfReturns (rules_of edition) n house t) × (reply ≡ Ok (rows_used_of n, network_file x.again)) × (left ≡ Law.filled x.again t)
  rndf-read-again text t n a house g size reply left h =
      let x = rndf-returns text t n a house g size in
      let s = spelled-accepted edition house t reply left h x.again x.accepts in
      (x, s.0 ∙ ap (λ (c : Declared.Counts). Ok (c, network_file x.again)) (counts-alike x.again (undated n) x.same ∙ undated-used n), s.1)

  -- and the goals and limits are the same words
  pub pair-read-again : (rndf mdf : Bytes) (t : Lent) (u : MissionLent) (n : Network Field) (m : Mission Field) → AcceptsRndf (rules_of edition) rndf t n → AcceptsMdf (rules_of edition) n mdf u m
      → (rndf-house mdf-house : Bytes) → HouseRndf n rndf-house → HouseMdf m mdf-house → length rndf-house ≤ longest → length mdf-house ≤ longest
      → (reply : PairReply) (left : Lent) (mission_left : MissionLent) → ReadsPair (rules_of edition) rndf-house mdf-house t u reply left mission_left
      → (x : PairReturns (rules_of edition) n m rndf-house mdf-house t u) × (reply ≡ Ok (rows_used_of n, network_file x.network.again, mission_rows_used m, mission_file_of x.mission.again))
      × (left ≡ Law.filled x.network.again t) × (mission_left ≡ Law.mission_filled m u)
  pair-read-again rndf mdf t u n m a b v w g f size mission-size reply left mission_left h =
      let x = pair-returns rndf mdf t u n m a b v w g f size mission-size in
      let n' = x.network.again in
      let m' = x.mission.again in
      let s = spelled-pair-accepted edition v w t u reply left mission_left h n' m' x.network.accepts x.mission.accepts in
      let c = counts-alike n' (undated n) x.network.same ∙ undated-used n in
      let d = mission-counts-alike m' (mission_undated m) x.mission.same in
      (x, s.0 ∙ (λ i. Ok (c i, network_file n', d i, mission_file_of m')), s.1, s.2 ∙ sym (mission-filled-same m' u) ∙ mission-words-alike m' (mission_undated m) x.mission.same u ∙ mission-filled-same m u)
