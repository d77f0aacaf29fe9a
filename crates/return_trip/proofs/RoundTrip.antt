-- THE RETURN TRIP, from the contracts of writers and readers alone: what was written of an accepted text, read into the same tables, is accepted by its edition with the same rows used and the same names, and leaves the same tables but for where names start. Assumes nothing.
use Rattle.std.specs.Prelude.{Ok}
use Rattle.replies.specs.Types.{PairReply, RndfReply}
use mathlib.Core.Path.{◌≡◌, refl, sym, ap, ap₂, subst, ◌∙◌}
use mathlib.Core.List.{List, [], ◌∷◌, ◌++◌, map, append_assoc, head-eq_of_cons-eq, tail-eq_of_cons-eq}
use mathlib.Core.Option.{Option, none, some}
use Prim.Native.Nat.{ℕ, ◌+◌, ◌-◌}
use native.Mathlib.Omega.{arith}
use lib.ListN.{length, take, replicate, length-append, length-replicate}
use Rattle.terms.specs.Ascii.{Bytes}
use Rattle.terms.specs.Words.{Each}
use Rattle.line.specs.Content.{Field}
use Rattle.law.specs.Network.{Network, Mission, Lane, Segment, Perimeter, Spot, Zone, SpellsNetwork, SpellsMission, SpellsText}
use Rattle.law.specs.Tables.{Lent, MissionLent, gather, name_words, first_spot_of, spot_points, first_zone_point, zone_size, zone_rows, holding, filled}
use Rattle.law.specs.Along.{along, zone_rows_from}
use Rattle.law.specs.Faults.{Sound}
use Rattle.edition.specs.declared.Edition.{Edition}
use Rattle.edition.specs.Editions.{rules_of}
use Rattle.grammar.specs.Names.{perhaps_name, segment_named_of, zone_named_of, network_named, mission_named}
use Rattle.text.specs.Spelling.{Name, bytes, bytes_of}
use Rattle.house_text.specs.House.{undated, mission_undated, HouseRndf}
use Rattle.house_text.proofs.Undated.{undated-same, mission-undated-same, no-date, no-mission-date, undated-filled}
use Rattle.return_trip.proofs.Returns.{undated-sound}
use Rattle.house_text.proofs.References.{words-alike}
use Rattle.law_tables.proofs.SameTables.{filled-same}
use Rattle.rows.specs.declared.FileRow.{FileRow}
use Rattle.rows.specs.declared.MissionFileRow.{MissionFileRow}
use Rattle.rows.specs.Name.{name_of}
use Rattle.counts.specs.declared.Counts.{Counts}
use Rattle.counts.specs.declared.MissionCounts.{MissionCounts}
use Rattle.replies.specs.Replies.{stretch, network_file, mission_file_of, ReadsRndf, ReadsPair}
use Rattle.writings.specs.Writes.{WritesRndf, WritesMdf}
use Rattle.promises.specs.Accepted.{name_bytes, Asked}
use Rattle.promises.proofs.Forms.{one-spelled}
use Rattle.promises.proofs.Names.{names-asked, mission-names-asked}
use Rattle.same.specs.Same.{SameNetwork, SameMission}
use Rattle.return_trip.specs.RoundTrip.{SameRows, rest, row, SameTables, SameFile, SameMissionFile, RndfRoundTrip, PairRoundTrip}
use Rattle.return_trip.proofs.Returns.{rndf-read-again, pair-read-again}
use Rattle.return_trip.proofs.Written.{rndf-written, mdf-written}

-- ## Names that are the same
bytes_in : Option Name → Bytes
bytes_in none = []
bytes_in (some (bytes b)) = b

of-name : (v : Option Field) → name_bytes v ≡ bytes_in (perhaps_name bytes_of v)
unfolding bytes_in
of-name none = refl
of-name (some v) = refl

same_bytes : (v v' : Option Field) → perhaps_name bytes_of v ≡ perhaps_name bytes_of v' → name_bytes v ≡ name_bytes v'
same_bytes v v' e = of-name v ∙ ap bytes_in e ∙ sym (of-name v')

module _ (text text' : Bytes) where
  -- where both texts are asked for them
  asked-both : (v v' : Option Field) → perhaps_name bytes_of v ≡ perhaps_name bytes_of v' → Asked text v → Asked text' v' → name_of text (stretch v) ≡ name_of text' (stretch v')
  asked-both v v' e a a' = a ∙ same_bytes v v' e ∙ sym a'

  -- ## Rows with a name
  grouped : (same : List ℕ) (x n : ℕ) (l z : List ℕ) → same ++ (x ∷ n ∷ (l ++ z)) ≡ ((same ++ (x ∷ n ∷ [])) ++ l) ++ z
  grouped same x n l z = simp append_assoc

  -- the words of the name behind the others
  one-row : (words : ℕ) (same : List ℕ) (x x' n n' : ℕ) (l l' z : List ℕ) → length same ≡ words → n ≡ n' → name_of text (record { start = x; length = n }) ≡ name_of text' (record { start = x'; length = n' }) → SameRows text text' words (l ++ z) (l' ++ z)
      → SameRows text text' words (((same ++ (x ∷ n ∷ [])) ++ l) ++ z) (((same ++ (x' ∷ n' ∷ [])) ++ l') ++ z)
  one-row words same x x' n n' l l' z h e a r =
      subst (λ (w : List ℕ). SameRows text text' words (((same ++ (x ∷ n ∷ [])) ++ l) ++ z) w) (grouped same x' n l' z ∙ ap (λ (k : ℕ). ((same ++ (x' ∷ k ∷ [])) ++ l') ++ z) e)
      (subst (λ (w : List ℕ). SameRows text text' words w (same ++ (x' ∷ n ∷ (l' ++ z)))) (grouped same x n l z) (row same x x' n h (a ∙ ap (λ (k : ℕ). name_of text' (record { start = x'; length = k })) (sym e)) r))

  named-row : (words : ℕ) (same : List ℕ) (v v' : Option Field) (l l' z : List ℕ) → length same ≡ words → perhaps_name bytes_of v ≡ perhaps_name bytes_of v' → Asked text v → Asked text' v' → SameRows text text' words (l ++ z) (l' ++ z)
      → SameRows text text' words (((same ++ name_words v) ++ l) ++ z) (((same ++ name_words v') ++ l') ++ z)
  named-row words same none none l l' z h e a a' r = one-row words same 0 0 0 0 l l' z h refl (asked-both none none e a a') r
  named-row words same none (some v') l l' z h e a a' r = absurd (let q : ◌≡◌ {A = ℕ} 0 1 = cc in omega arith)
  named-row words same (some v) none l l' z h e a a' r = absurd (let q : ◌≡◌ {A = ℕ} 0 1 = cc in omega arith)
  named-row words same (some v) (some v') l l' z h e a a' r = one-row words same v.start v'.start (length v.bytes) (length v'.bytes) l l' z h (ap length (same_bytes (some v) (some v') e)) (asked-both (some v) (some v') e a a') r

  rows_long : {words : ℕ} {l l' : List ℕ} → SameRows text text' words l l' → length l ≡ length l'
  rows_long (rest z) = refl
  rows_long (row same x y n {l} {l'} h e r) = let a = length-append same (x ∷ n ∷ l) in let b = length-append same (y ∷ n ∷ l') in let c = rows_long r in omega arith

  abbrev Zeros : List ℕ → Type 0
  Zeros z = z ≡ replicate (length z) 0

  zeros-are : (n : ℕ) → Zeros (replicate n 0)
  zeros-are n = ap (λ (k : ℕ). replicate k 0) (sym (length-replicate n 0))

  -- a table of such rows, and zeros behind them
  padded : (words : ℕ) (g g' : List ℕ) (k : ℕ) → ((z : List ℕ) → Zeros z → SameRows text text' words (g ++ z) (g' ++ z)) → SameRows text text' words (g ++ replicate (k - length g) 0) (g' ++ replicate (k - length g') 0)
  padded words g g' k r =
      let a = length-append g [] in
      let b = length-append g' [] in
      let c = rows_long (r [] refl) in
      let e : length g ≡ length g' = omega arith in
      subst (λ (m : ℕ). SameRows text text' words (g ++ replicate (k - length g) 0) (g' ++ replicate (k - m) 0)) e (r (replicate (k - length g) 0) (zeros-are (k - length g)))

  -- ## Segments and zones
  abbrev Segments : List (Segment Field) → List (Segment Field) → Type 0
  Segments ss ss' = map (segment_named_of bytes_of) ss ≡ map (segment_named_of bytes_of) ss'

  abbrev Zones : List (Zone Field) → List (Zone Field) → Type 0
  Zones zs zs' = map (zone_named_of bytes_of) zs ≡ map (zone_named_of bytes_of) zs'

  abbrev the_segment_words_of : ℕ → List (Segment Field) → List ℕ
  the_segment_words_of i ss = gather (λ row. row) (along (λ s. length s.lanes) (λ first s. (first ∷ length s.lanes ∷ name_words s.name) ∷ []) i ss)

  segments-alike : (i : ℕ) (ss ss' : List (Segment Field)) → Segments ss ss' → Each (λ s. Asked text s.name) ss → Each (λ s. Asked text' s.name) ss' → (z : List ℕ) → Zeros z → SameRows text text' 2 (the_segment_words_of i ss ++ z) (the_segment_words_of i ss' ++ z)
  segments-alike i [] [] e a a' z o = rest o
  segments-alike i [] (s' ∷ ss') e a a' z o = absurd (let q : ◌≡◌ {A = ℕ} 0 1 = cc in omega arith)
  segments-alike i (s ∷ ss) [] e a a' z o = absurd (let q : ◌≡◌ {A = ℕ} 0 1 = cc in omega arith)
  segments-alike i (s ∷ ss) (s' ∷ ss') e a a' z o =
      let h = head-eq_of_cons-eq e in
      let k : length s.lanes ≡ length s'.lanes = ap (λ (x : Segment Name). length x.lanes) h in
      subst (λ (m : ℕ). SameRows text text' 2 (((i ∷ length s.lanes ∷ name_words s.name) ++ the_segment_words_of (i + length s.lanes) ss) ++ z) (((i ∷ m ∷ name_words s'.name) ++ the_segment_words_of (i + m) ss') ++ z)) k
      (named-row 2 (i ∷ length s.lanes ∷ []) s.name s'.name (the_segment_words_of (i + length s.lanes) ss) (the_segment_words_of (i + length s.lanes) ss') z refl (ap (λ (x : Segment Name). x.name) h) a.0 a'.0
      (segments-alike (i + length s.lanes) ss ss' (tail-eq_of_cons-eq e) a.1 a'.1 z o))

  lanes-alike : (ss ss' : List (Segment Field)) → Segments ss ss' → gather (λ s. s.lanes) ss ≡ gather (λ s. s.lanes) ss'
  lanes-alike [] [] e = refl
  lanes-alike [] (s' ∷ ss') e = absurd (let q : ◌≡◌ {A = ℕ} 0 1 = cc in omega arith)
  lanes-alike (s ∷ ss) [] e = absurd (let q : ◌≡◌ {A = ℕ} 0 1 = cc in omega arith)
  lanes-alike (s ∷ ss) (s' ∷ ss') e = ap₂ (λ (x y : List Lane). x ++ y) (ap (λ (x : Segment Name). x.lanes) (head-eq_of_cons-eq e)) (lanes-alike ss ss' (tail-eq_of_cons-eq e))

  abbrev the_zone_words_of : (p q : ℕ) → List (Zone Field) → List ℕ
  the_zone_words_of p q zs = gather (λ row. row) (zone_rows_from p q zs)

  -- the words of a zone with this perimeter and these spots, of those behind it and of what follows
  abbrev zone-first : (p q : ℕ) → Perimeter → List Spot → Option Field → List (Zone Field) → List ℕ → List ℕ
  zone-first p q b s v zs z = ((p ∷ length b.points ∷ first_spot_of q (length s) ∷ length s ∷ name_words v) ++ the_zone_words_of (p + length (b.points ++ gather spot_points s)) (q + length s) zs) ++ z

  zones-alike : (p q : ℕ) (zs zs' : List (Zone Field)) → Zones zs zs' → Each (λ s. Asked text s.name) zs → Each (λ s. Asked text' s.name) zs' → (z : List ℕ) → Zeros z → SameRows text text' 4 (the_zone_words_of p q zs ++ z) (the_zone_words_of p q zs' ++ z)
  zones-alike p q [] [] e a a' z o = rest o
  zones-alike p q [] (s' ∷ ss') e a a' z o = absurd (let q : ◌≡◌ {A = ℕ} 0 1 = cc in omega arith)
  zones-alike p q (s ∷ ss) [] e a a' z o = absurd (let q : ◌≡◌ {A = ℕ} 0 1 = cc in omega arith)
  zones-alike p q (s ∷ ss) (s' ∷ ss') e a a' z o =
      let h = head-eq_of_cons-eq e in
      let b : s.border ≡ s'.border = ap (λ (x : Zone Name). x.border) h in
      let d : s.spots ≡ s'.spots = ap (λ (x : Zone Name). x.spots) h in
      subst (λ (w : List ℕ). SameRows text text' 4 (zone-first p q s.border s.spots s.name ss z) w) (λ i. zone-first p q (b i) (d i) s'.name ss' z)
      (named-row 4 (p ∷ length s.border.points ∷ first_spot_of q (length s.spots) ∷ length s.spots ∷ []) s.name s'.name (the_zone_words_of (p + zone_size s) (q + length s.spots) ss) (the_zone_words_of (p + zone_size s) (q + length s.spots) ss') z refl (ap (λ (x : Zone Name). x.name) h) a.0 a'.0
      (zones-alike (p + zone_size s) (q + length s.spots) ss ss' (tail-eq_of_cons-eq e) a.1 a'.1 z o))

  -- ## Networks that are the same
  module _ (edition : Edition) (n n' : Network Field) (e : SameNetwork n' (undated n)) (spelled : SpellsText (rules_of edition) SpellsNetwork n text) (spelled' : SpellsText (rules_of edition) SpellsNetwork n' text') where
    same-segments : Segments n.segments n'.segments
    unfolding network_named
    same-segments = sym (ap (λ (x : Network Name). x.segments) e)

    same-zones : Zones n.zones n'.zones
    unfolding network_named
    same-zones = sym (ap (λ (x : Network Name). x.zones) e)

    pub same-file : SameFile text text' (network_file n) (network_file n')
    unfolding network_named
    same-file =
        let a = names-asked text edition n spelled in
        let a' = names-asked text' edition n' spelled' in
        record {
          name = asked-both (some n.name) (some n'.name) (sym (ap (λ (x : Network Name). some x.name) e)) a.name a'.name;
          version = asked-both n.version n'.version (sym (ap (λ (x : Network Name). x.version) e)) a.version a'.version;
          date = ap stretch (no-date n' n e);
        }

    pub same_tables : Sound n → Sound n' → (t : Lent) → SameTables text text' (filled n t) (filled n' t)
    same_tables sound sound' t =
        let a = names-asked text edition n spelled in
        let a' = names-asked text' edition n' spelled' in
        let p = filled-same (undated n) (undated-sound n sound) t ∙ undated-filled n t in
        let p' = filled-same n' sound' t in
        let w = words-alike (undated n) n' (sym e) t in
        let first : first_zone_point n ≡ first_zone_point n' = ap (λ (l : List Lane). length (gather (λ a. a.points) l)) (lanes-alike n.segments n'.segments same-segments) in
        record {
          segments = padded 2 (the_segment_words_of 0 n.segments) (the_segment_words_of 0 n'.segments) (length t.segments) (segments-alike 0 n.segments n'.segments same-segments a.segments a'.segments);
          lanes = sym (ap (λ (l : Lent). l.lanes) p) ∙ ap (λ (l : Lent). l.lanes) w ∙ ap (λ (l : Lent). l.lanes) p';
          zones = subst (λ (k : ℕ). SameRows text text' 4 (holding 0 (zone_rows n) t.zones) (holding 0 (zone_rows_from k 0 n'.zones) t.zones)) first
              (padded 4 (the_zone_words_of (first_zone_point n) 0 n.zones) (the_zone_words_of (first_zone_point n) 0 n'.zones) (length t.zones) (zones-alike (first_zone_point n) 0 n.zones n'.zones same-zones a.zones a'.zones));
          spots = sym (ap (λ (l : Lent). l.spots) p) ∙ ap (λ (l : Lent). l.spots) w ∙ ap (λ (l : Lent). l.spots) p';
          points = sym (ap (λ (l : Lent). l.points) p) ∙ ap (λ (l : Lent). l.points) w ∙ ap (λ (l : Lent). l.points) p';
          checkpoints = sym (ap (λ (l : Lent). l.checkpoints) p) ∙ ap (λ (l : Lent). l.checkpoints) w ∙ ap (λ (l : Lent). l.checkpoints) p';
          stops = sym (ap (λ (l : Lent). l.stops) p) ∙ ap (λ (l : Lent). l.stops) w ∙ ap (λ (l : Lent). l.stops) p';
          exits = sym (ap (λ (l : Lent). l.exits) p) ∙ ap (λ (l : Lent). l.exits) w ∙ ap (λ (l : Lent). l.exits) p';
        }

  pub same-mission-file : (edition : Edition) (m m' : Mission Field) → SameMission m' (mission_undated m) → SpellsText (rules_of edition) SpellsMission m text → SpellsText (rules_of edition) SpellsMission m' text' → SameMissionFile text text' (mission_file_of m) (mission_file_of m')
  unfolding mission_named
  same-mission-file edition m m' e spelled spelled' =
      let a = mission-names-asked text edition m spelled in
      let a' = mission-names-asked text' edition m' spelled' in
      record {
        name = asked-both (some m.name) (some m'.name) (sym (ap (λ (x : Mission Name). some x.name) e)) a.name a'.name;
        rndf = asked-both (some m.rndf) (some m'.rndf) (sym (ap (λ (x : Mission Name). some x.rndf) e)) a.rndf a'.rndf;
        version = asked-both m.version m'.version (sym (ap (λ (x : Mission Name). x.version) e)) a.version a'.version;
        date = ap stretch (no-mission-date m' m e);
      }

-- ## THE THEOREMS, in each edition
-- of an RNDF
pub rndf-round_trip : (edition : Edition) (text : Bytes) (t left : Lent) (lent : ℕ) (c : Counts) (file : FileRow) (k : ℕ) (out : Bytes) → WritesRndf (rules_of edition) text t lent (Ok (c, file, k)) left out
    → (reply : RndfReply) (left' : Lent) → ReadsRndf (rules_of edition) (take k out) t reply left' → RndfRoundTrip (rules_of edition) text (take k out) c file left reply left'
rndf-round_trip edition text t left lent c file k out w reply left' h =
    let x = rndf-written edition text t left lent c file k out w in
    let n = x.net in
    let r = rndf-read-again edition text t n x.accepts x.writing x.house x.size reply left' (subst (λ (b : Bytes). ReadsRndf (rules_of edition) b t reply left') x.first h) in
    let y = r.0 in
    let n' = y.again in
    let spelled' = subst (SpellsText (rules_of edition) SpellsNetwork n') (sym x.first) y.accepts.spelled in
    record {
      file' = network_file n';
      replied = r.1 ∙ ap (λ (d : Counts). Ok (d, network_file n')) (sym x.counted);
      names = subst (λ (f : FileRow). SameFile text (take k out) f (network_file n')) (sym x.row) (same-file text (take k out) edition n n' y.same x.accepts.spelled spelled');
      tables = subst (λ (l : Lent). SameTables text (take k out) l left') (sym x.holds) (subst (λ (l : Lent). SameTables text (take k out) (filled n t) l) (sym r.2) (same_tables text (take k out) edition n n' y.same x.accepts.spelled spelled' x.accepts.right y.accepts.right t));
      network = record { one = n; other = n'; spells_one = x.accepts.spelled; spells_other = spelled'; same = undated-same y.again (undated n) y.same };
    }

-- of a pair: what was written of the RNDF, with what was written of the MDF
pub pair-round_trip : (edition : Edition) (rndf mdf : Bytes) (t left₁ left : Lent) (u mission_left : MissionLent) (lent₁ lent : ℕ) (c₁ : Counts) (file₁ : FileRow) (k₁ : ℕ) (out₁ : Bytes) (c : Counts) (file : FileRow) (d : MissionCounts) (own : MissionFileRow) (k : ℕ) (out : Bytes)
    → WritesRndf (rules_of edition) rndf t lent₁ (Ok (c₁, file₁, k₁)) left₁ out₁ → WritesMdf (rules_of edition) rndf mdf t u lent (Ok (c, file, d, own, k)) left mission_left out
    → (reply : PairReply) (left' : Lent) (mission-left' : MissionLent) → ReadsPair (rules_of edition) (take k₁ out₁) (take k out) t u reply left' mission-left' → PairRoundTrip (rules_of edition) rndf mdf (take k₁ out₁) (take k out) c file d own left mission_left reply left' mission-left'
pair-round_trip edition rndf mdf t left₁ left u mission_left lent₁ lent c₁ file₁ k₁ out₁ c file d own k out w₁ w reply left' mission-left' h =
    let x₁ = rndf-written edition rndf t left₁ lent₁ c₁ file₁ k₁ out₁ w₁ in
    let x = mdf-written edition rndf mdf t left u mission_left lent c file d own k out w in
    let n = x.net in
    let m = x.mission in
    let house = subst (λ (y : Network Field). HouseRndf y x₁.writing) (one-spelled edition rndf x₁.net n x₁.accepts.spelled x.accepts.spelled) x₁.house in
    let h' = subst (λ (b : Bytes). ReadsPair (rules_of edition) b x.writing t u reply left' mission-left') x₁.first (subst (λ (b : Bytes). ReadsPair (rules_of edition) (take k₁ out₁) b t u reply left' mission-left') x.first h) in
    let r = pair-read-again edition rndf mdf t u n m x.accepts x.takes x₁.writing x.writing house x.house x₁.size x.size reply left' mission-left' h' in
    let y = r.0.network in
    let z = r.0.mission in
    let spelled' = subst (SpellsText (rules_of edition) SpellsNetwork y.again) (sym x₁.first) y.accepts.spelled in
    let counted = sym x.meant.counted in
    let mission_counted = sym x.meant.mission_counted in
    let mission-spelled' = subst (SpellsText (rules_of edition) SpellsMission z.again) (sym x.first) z.accepts.spelled in
    record {
      file' = network_file y.again;
      own' = mission_file_of z.again;
      replied = r.1 ∙ (λ i. Ok (counted i, network_file y.again, mission_counted i, mission_file_of z.again));
      names = subst (λ (f : FileRow). SameFile rndf (take k₁ out₁) f (network_file y.again)) (sym x.meant.row) (same-file rndf (take k₁ out₁) edition n y.again y.same x.accepts.spelled spelled');
      mission_names = subst (λ (f : MissionFileRow). SameMissionFile mdf (take k out) f (mission_file_of z.again)) (sym x.meant.mission_row) (same-mission-file mdf (take k out) edition m z.again z.same x.takes.spelled mission-spelled');
      tables = subst (λ (l : Lent). SameTables rndf (take k₁ out₁) l left') (sym x.meant.holds)
          (subst (λ (l : Lent). SameTables rndf (take k₁ out₁) (filled n t) l) (sym r.2) (same_tables rndf (take k₁ out₁) edition n y.again y.same x.accepts.spelled spelled' x.accepts.right y.accepts.right t));
      mission_tables = x.meant.mission_holds ∙ sym r.3;
      network = record { one = n; other = y.again; spells_one = x.accepts.spelled; spells_other = spelled'; same = undated-same y.again (undated n) y.same };
      mission = record { one = m; other = z.again; spells_one = x.takes.spelled; spells_other = mission-spelled'; same = mission-undated-same z.again (mission_undated m) z.same };
    }
