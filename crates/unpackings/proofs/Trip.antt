-- Unpacking gives the network back, and takes no other bytes; THERE AND BACK, from the contracts of packing and unpacking alone: what was packed of a text is unpacked as the network that the text spells. Assumes nothing.
use Rattle.std.specs.Prelude.{Ok, Err}
use Rattle.writings.specs.Types.{WriteReply}
use Rattle.replies.specs.Types.{RndfReply}
use mathlib.Core.Path.{◌≡◌, refl, sym, ap, ap₂, subst, ◌∙◌}
use mathlib.Core.List.{List, [], ◌∷◌, ◌++◌, map}
use mathlib.Core.Option.{Option, none, some}
use Prim.Native.Nat.{ℕ, suc, ◌+◌, ◌-◌, ◌≤◌, ◌/◌}
use native.Mathlib.Omega.{arith}
use lib.ListN.{length, length-append, take}
use lib.Seq.{take_at}
use Rattle.terms.specs.Ascii.{Bytes}
use Rattle.terms.specs.Words.{Each}
use Rattle.terms.proofs.Lists.{each_map}
use Rattle.line.specs.Content.{Field}
use Rattle.law.specs.Network.{Network, Segment, Zone, SpellsNetwork, SpellsText}
use Rattle.law.specs.Tables.{Lent, HasRoom, filled, gather, lane_size, zone_size, first_zone_point, first_spot_of}
use Rattle.law.specs.Along.{along}
use Rattle.law.specs.Faults.{Declared, waypoint, border, Sound}
use Rattle.law.specs.Network.{PointId}
use Rattle.law.specs.Tables.{all_lanes}
use Rattle.edition.specs.declared.Edition.{Edition}
use Rattle.edition.specs.Editions.{rules_of}
use Rattle.grammar.proofs.Rows.{each-front, each-behind}
use Rattle.text.specs.Spelling.{bytes_of}
use Rattle.house_text.specs.House.{undated}
use Rattle.house_text.specs.HouseText.{house_rndf}
use Rattle.house_text.proofs.Undated.{undated-same, undated-exits}
use Rattle.house_text.proofs.Theorems.{rndf-back}
use Rattle.law_spelling.proofs.Texts as Texts
use Rattle.house_text.proofs.References.{sound-alike}
use Rattle.output.specs.Packed.{big_endian}
use Rattle.output.proofs.Packed.{packed-long}
use Rattle.output.specs.Output as Output
use Rattle.rows.specs.declared.FileRow.{FileRow}
use Rattle.counts.specs.declared.Counts.{Counts}
use Rattle.refusal.specs.declared.Refusal.{Refusal}
use Rattle.rows.specs.Name.{name_of}
use Rattle.replies.specs.Replies.{longest, stretch, rows_used_of, network_file, ReadsRndf}
use Rattle.replies.specs.Short.{AcceptsRndf}
use Rattle.promises.specs.Accepted.{NamesAsked}
use Rattle.promises.specs.Accepted as A
use Rattle.promises.proofs.Keeping.{rndf-later}
use Rattle.promises.proofs.Forms.{one-spelled}
use Rattle.promises.proofs.Promises.{accepted-spelled, tables-are}
use Rattle.same.specs.Same.{SameNetwork}
use Rattle.writings.specs.Writes.{WritesPacked}
use Rattle.writings.specs.Writes as W
use Rattle.writings.proofs.Said.{wrote-or-not}
use Rattle.packed_law.specs.Packed.{Slot, figure, angle, title, laid, with_length, all_slots, this_version, packed_form, NamesLie}
use Rattle.packed_law.proofs.Told.{file_record, segment-records, lane-records, zone-records-from, zone-records, spot-records, point-records, checkpoint-records, stop-records, exit-records, records, all_told}
use Rattle.unpackings.specs.Unpacks.{IsNetwork, IsPackedFormOf, Unpacks, UnpackRefuses, too_long, other_version, cut_short, no_network, no_room, refused, unpacked}
use Rattle.unpackings.specs.Trip.{Back, GivesBack, ThereAndBack, NoOthers}
use Rattle.unpackings.proofs.Framing.{bytes_in, gather_append, form-framed}
use Rattle.unpackings.proofs.OneForm.{counts-alike, one_form}
use Rattle.unpackings.proofs.OneNetwork.{one-network}
use Rattle.unpackings.proofs.Placing.{placed, placed_same, in_place, Asked, all_asked, nothing-asked}
use Rattle.unpackings.proofs.Settled.{unpack-settled}

-- ## Names asked of the form of a network whose names lie in it
each-framed : (P : Slot → Type 0) (rs : List (List Slot)) → Each P (gather with_length rs) → Each (λ r. Each P r) rs
each-framed P [] h = tt
each-framed P (r ∷ rs) h = ((each-front P (with_length r) (gather with_length rs) h).1, each-framed P rs (each-behind P (with_length r) (gather with_length rs) h))

segments-asked : (form : Bytes) (p : ℕ) (l : List (Segment Field)) → Each (λ r. Each (Asked form) r) (along (λ s. length s.lanes) (λ first s. (figure 4 first ∷ figure 2 (length s.lanes) ∷ title s.name ∷ []) ∷ []) p l) → Each (λ s. Asked form (title s.name)) l
segments-asked form p [] h = tt
segments-asked form p (s ∷ l) h = (h.0.1.1.0, segments-asked form (p + length s.lanes) l h.1)

zones-asked : (form : Bytes) (p q : ℕ) (l : List (Zone Field)) → Each (λ r. Each (Asked form) r) (zone-records-from p q l) → Each (λ z. Asked form (title z.name)) l
zones-asked form p q [] h = tt
zones-asked form p q (z ∷ l) h = (h.0.1.1.1.1.0, zones-asked form (p + zone_size z) (q + length z.spots) l h.1)

record AllAsked (form : Bytes) (n : Network Field) : Type 0 where
  own : Asked form (title (some n.name))
  version : Asked form (title n.version)
  segments : Each (λ s. Asked form (title s.name)) n.segments
  zones : Each (λ z. Asked form (title z.name)) n.zones

asked-so : (form : Bytes) (n : Network Field) → Each (Asked form) (all_slots n) → AllAsked form n
unfolding records
asked-so form n h =
    let r = each-framed (Asked form) (file_record n ∷ segment-records n ++ (lane-records n ++ (zone-records n ++ (spot-records n ++ (point-records n ++ (checkpoint-records n ++ (stop-records n ++ exit-records n))))))) (subst (Each (Asked form)) (all_told n) h) in
    let f = r.0.1.1.1.1.1.1.1.1 in
    let s = each-front (λ r. Each (Asked form) r) (segment-records n) (lane-records n ++ (zone-records n ++ (spot-records n ++ (point-records n ++ (checkpoint-records n ++ (stop-records n ++ exit-records n)))))) r.1 in
    let b = each-behind (λ r. Each (Asked form) r) (lane-records n) (zone-records n ++ (spot-records n ++ (point-records n ++ (checkpoint-records n ++ (stop-records n ++ exit-records n))))) (each-behind (λ r. Each (Asked form) r) (segment-records n) (lane-records n ++ (zone-records n ++ (spot-records n ++ (point-records n ++ (checkpoint-records n ++ (stop-records n ++ exit-records n)))))) r.1) in
    let z = each-front (λ r. Each (Asked form) r) (zone-records n) (spot-records n ++ (point-records n ++ (checkpoint-records n ++ (stop-records n ++ exit-records n)))) b in
    record { own = f.0; version = f.1.0; segments = segments-asked form 0 n.segments s; zones = zones-asked form (first_zone_point n) 0 n.zones z }

in_bytes : (v : Option Field) → bytes_in v ≡ A.name_bytes v
in_bytes none = refl
in_bytes (some v) = refl

names-so : (form : Bytes) (n : Network Field) → form ≡ packed_form n → NamesLie 5 (all_slots n) → n.date ≡ none → NamesAsked form (network_file n) n
unfolding packed_form
names-so form n e p dateless =
    let front : Bytes = this_version ∷ big_endian 4 (length (laid (all_slots n))) in
    let five : length front ≡ 5 = ap suc (packed-long 4 (length (laid (all_slots n)))) in
    let all = subst (λ (x : Bytes). Each (Asked x) (all_slots n)) (sym e) (all_asked front (all_slots n) (subst (λ (k : ℕ). NamesLie k (all_slots n)) (sym five) p)) in
    let a = asked-so form n all in
    record {
      name = a.own;
      version = a.version ∙ in_bytes n.version;
      date = subst (λ (v : Option Field). name_of form (stretch v) ≡ A.name_bytes v) (sym dateless) (nothing-asked form);
      segments = each_map (λ s. Asked form (title s.name)) (λ s. A.Asked form s.name) (λ s h. h ∙ in_bytes s.name) n.segments a.segments;
      zones = each_map (λ z. Asked form (title z.name)) (λ z. A.Asked form z.name) (λ z h. h ∙ in_bytes z.name) n.zones a.zones;
    }

-- ## Room goes by counts
room-so : (n m : Network Field) (t : Lent) → rows_used_of n ≡ rows_used_of m → HasRoom n t → HasRoom m t
room-so n m t e h = record {
  segments = subst (λ (k : ℕ). k ≤ length t.segments / 4) (ap (λ (c : Counts). c.segments) e) h.segments;
  lanes = subst (λ (k : ℕ). k ≤ length t.lanes / 5) (ap (λ (c : Counts). c.lanes) e) h.lanes;
  zones = subst (λ (k : ℕ). k ≤ length t.zones / 6) (ap (λ (c : Counts). c.zones) e) h.zones;
  spots = subst (λ (k : ℕ). k ≤ length t.spots / 2) (ap (λ (c : Counts). c.spots) e) h.spots;
  points = subst (λ (k : ℕ). k ≤ length t.points / 2) (ap (λ (c : Counts). c.points) e) h.points;
  checkpoints = subst (λ (k : ℕ). k ≤ length t.checkpoints / 2) (ap (λ (c : Counts). c.checkpoints) e) h.checkpoints;
  stops = subst (λ (k : ℕ). k ≤ length t.stops / 1) (ap (λ (c : Counts). c.stops) e) h.stops;
  exits = subst (λ (k : ℕ). k ≤ length t.exits / 2) (ap (λ (c : Counts). c.exits) e) h.exits;
}

-- ## What is unpacked
accepted-refused : {c : Counts} {file : FileRow} {why : Refusal} → ◌≡◌ {A = RndfReply} (Ok (c, file)) (Err why) → ⊥
accepted-refused e = let z : ◌≡◌ {A = ℕ} 0 1 = cc in omega arith

pub no-others : NoOthers
no-others bytes t c file left (refused f k h e z) = absurd (accepted-refused e)
no-others bytes t c file left (unpacked n h x r e z) = (n, x)

-- ## Without its date a network has the same references and as many rows; and what was placed has none
undated-declared : (n : Network Field) (e : PointId) → Declared n e → Declared (undated n) e
undated-declared n e (waypoint s a p q r) = waypoint s a p q r
undated-declared n e (border i z p q r b) = border i z p q r b

undated-sound : (n : Network Field) → Sound n → Sound (undated n)
undated-sound n s = record { entries = each_map (λ e. Declared n e.entry) (λ e. Declared (undated n) e.entry) (λ e. undated-declared n e.entry) (gather (λ a. a.exits) (all_lanes n) ++ gather (λ z. z.border.exits) n.zones) s.entries; numbers = s.numbers }

undated-used : (n : Network Field) → rows_used_of (undated n) ≡ rows_used_of n
undated-used n = λ i. record { segments = (rows_used_of n).segments; lanes = (rows_used_of n).lanes; zones = (rows_used_of n).zones; spots = (rows_used_of n).spots; points = (rows_used_of n).points; checkpoints = (rows_used_of n).checkpoints; stops = (rows_used_of n).stops; exits = length (undated-exits n i) }

placed-dateless : (n : Network Field) → (placed n).date ≡ none
unfolding placed
placed-dateless n = refl

-- "unpacking gives the network back but for the date"; the text that spells it is the house writing, since the other may have a date
pub gives_back : GivesBack
gives_back n h size t room reply left u =
    let m = placed n in
    let same = placed_same n in
    let form : packed_form n ≡ packed_form m = one_form n m (undated-same (undated n) m (sym same)) in
    let house = rndf-back h.written h.text (Texts.rndf-back h.written h.text h.spelled) in
    let is : IsPackedFormOf m (packed_form n) = record { network = record { text = house_rndf h.written; written = house.0; spelled = Texts.rndf-to house.0 (house_rndf h.written) house.1; same = house.2 ∙ undated-same h.written n h.same ∙ sym same; sound = sound-alike bytes_of (undated n) m (sym same) (undated-sound n h.sound) }; form = form; names = in_place n; dateless = placed-dateless n } in
    let counts = counts-alike m (undated n) same ∙ undated-used n in
    let settled = unpack-settled (packed_form n) t reply (Ok (rows_used_of m, network_file m)) left (filled m t) u (unpacked m size is (room-so n m t (sym counts) room) refl refl) in
    record {
      again = m;
      same = same;
      is_form = is;
      replied = settled.0 ∙ ap (λ (d : Counts). Ok (d, network_file m)) counts;
      holds = settled.1;
      names = names-so (packed_form n) m form (in_place n) (placed-dateless n);
    }

-- ## What was packed
abbrev counts_in : Counts → WriteReply → Counts
counts_in d (Ok (c, file, k)) = c
counts_in d (Err why) = d

abbrev long_in : WriteReply → ℕ
long_in (Ok (c, file, k)) = k
long_in (Err why) = 0

-- the bytes may be told as this form, and the counts as these
back_as : (n : Network Field) (x y : Bytes) (t : Lent) (c d : Counts) (reply : RndfReply) (left : Lent) → x ≡ y → c ≡ d → (Unpacks x t reply left → Back n x t c reply left) → Unpacks y t reply left → Back n y t d reply left
back_as n x y t c d reply left e k h u = subst (λ (z : Counts). Back n y t z reply left) k (subst (λ (z : Bytes). Unpacks z t reply left → Back n z t c reply left) e h u)

-- THE THEOREM
pub there_and_back : (edition : Edition) → ThereAndBack (rules_of edition)
there_and_back edition text t lent c file k left out (W.refused why h e z) n s t' room reply left' u = absurd (wrote-or-not e)
there_and_back edition text t lent c file k left out (W.too_long y f e p z) n s t' room reply left' u = absurd (wrote-or-not e)
there_and_back edition text t lent c file k left out (W.written y f e p z) n s t' room reply left' u =
    let x = y.writing in
    let same = one-spelled edition text y.meant n y.accepted.spelled s in
    let accepts = subst (AcceptsRndf (rules_of edition) text t) same y.accepted in
    let is : IsNetwork n = record { text = text; written = n; spelled = rndf-later edition n text s; same = refl; sound = accepts.right } in
    let form : x ≡ packed_form n = y.wrote ∙ ap packed_form same in
    let first : take k out ≡ x = ap (take k) z ∙ take_at x (Output.zero_bytes (lent - length x)) k (sym (ap long_in e)) in
    let size : length (packed_form n) ≤ longest = subst (λ (b : Bytes). length b ≤ longest) form f.size in
    back_as n (packed_form n) (take k out) t' (rows_used_of n) c reply left' (sym (first ∙ form)) (sym (ap (counts_in c) e ∙ ap (λ (m : Network Field). rows_used_of m) same)) (gives_back n is size t' room reply left') u
