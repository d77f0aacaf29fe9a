-- WITHIN AN EDITION: a text of the present edition that spells the same network as some text of an earlier one has only the boundaries of that edition, and spots enough: it spells it in that edition too. Assumes nothing.
use mathlib.Core.Path.{sym, subst}
use mathlib.Core.List.{List, [], ◌∷◌, ◌++◌, map}
use mathlib.Core.Option.{Option, none, some}
use Prim.Native.Nat.{ℕ, suc, ◌≤◌}
use Prim.Native.String.{String}
use lib.ListN.{length}
use Rattle.terms.specs.Ascii.{Bytes}
use Rattle.terms.specs.Words.{Each, Among, InTurn, nothing, then, perhaps}
use Rattle.terms.proofs.Lists.{each-any, each_append}
use Rattle.line.specs.Content.{Field}
use Rattle.law.specs.Network.{Boundary, Edition, march_2007, boundaries, fewest_spots, Network, Lane, Segment, Perimeter, Position, Spot, Zone, Said, word, name, numbers, coordinate, boundary, Line, SpellFields, Mixed, left, right, AnyOrder, line, points, checkpoint_line_of, exit_line, lane_options, spot_options, file_options, reading, present, Says, SayLines, done, blank, statement, SpellsText, SpellsLane, SpellsSegment, SpellsPerimeter, SpellsSpot, SpellsZone, SpellsNetwork}
use Rattle.law.specs.Network as Law
use Rattle.grammar.specs.Editions.{law_of}
use Rattle.grammar.specs.Names.{segment_named_of, zone_named_of, network_named}
use Rattle.grammar.proofs.Rows.{each-front, each-behind}
use Rattle.text.specs.Spelling.{Name, bytes_of}
use Rattle.law_tables.proofs.NamesStand.{unmixed}
use Rattle.edition.specs.declared.Edition as Asked
use Rattle.edition.specs.Editions.{inner, rules_of}
use Rattle.same.specs.Same.{SameNetwork}
use Rattle.house_text.specs.House.{undated}

-- ## Every one of a list: of mixed lists, and of a list told in another way
mixed : {A : Type 0} (P : A → Type 0) {l r both : List A} → Mixed l r both → Each P l → Each P r → Each P both
mixed P Law.none h k = tt
mixed P (left m) h k = (h.0, mixed P m h.1 k)
mixed P (right m) h k = (k.0, mixed P m h k.1)

any_order : {A : Type 0} (P : A → Type 0) (ls : List (List A)) (l : List A) → AnyOrder ls l → Each (Each P) ls → Each P l
any_order P [] l o h = subst (Each P) (sym o) tt
any_order P (k ∷ ls) l o h = mixed P o.2 h.0 (any_order P ls o.0 o.1 h.1)

each-order : {A : Type 0} (P : A → Type 0) (ls : List (List A)) (l : List A) → AnyOrder ls l → Each P l → Each (Each P) ls
each-order P [] l o h = tt
each-order P (k ∷ ls) l o h = let x = unmixed P o.2 h in (x.0, each-order P ls o.0 o.1 x.1)

told : {A B : Type 0} (f : A → B) (P : B → Type 0) (l : List A) → Each (λ a. P (f a)) l → Each P (map f l)
told f P [] h = tt
told f P (a ∷ l) h = (h.0, told f P l h.1)

untold : {A B : Type 0} (f : A → B) (P : B → Type 0) (l : List A) → Each P (map f l) → Each (λ a. P (f a)) l
untold f P [] h = tt
untold f P (a ∷ l) h = (h.0, untold f P l h.1)

module _ (e : Edition) where
  -- ## Lines: all that they say is of the edition
  abbrev SaidIn : Said → Type 0
  SaidIn (word w) = Unit {0}
  SaidIn (name f) = Unit {0}
  SaidIn (numbers l) = Unit {0}
  SaidIn (coordinate z) = Unit {0}
  SaidIn (boundary b) = Among b (boundaries e)

  abbrev LineIn : Line → Type 0
  LineIn = Each SaidIn

  fields_in : (fs : List Field) (l : Line) → SpellFields e fs l → LineIn l
  fields_in [] [] h = tt
  fields_in [] (s ∷ l) h = absurd h
  fields_in (f ∷ fs) [] h = absurd h
  fields_in (f ∷ fs) (word w ∷ l) h = (tt, fields_in fs l h.1)
  fields_in (f ∷ fs) (name g ∷ l) h = (tt, fields_in fs l h.1)
  fields_in (f ∷ fs) (numbers n ∷ l) h = (tt, fields_in fs l h.1)
  fields_in (f ∷ fs) (coordinate z ∷ l) h = (tt, fields_in fs l h.1)
  fields_in (f ∷ fs) (boundary b ∷ l) h = (h.0.1, fields_in fs l h.1)

  fields-from : (fs : List Field) (l : Line) → SpellFields march_2007 fs l → LineIn l → SpellFields e fs l
  fields-from [] [] h k = h
  fields-from [] (s ∷ l) h k = h
  fields-from (f ∷ fs) [] h k = h
  fields-from (f ∷ fs) (word w ∷ l) h k = (h.0, fields-from fs l h.1 k.1)
  fields-from (f ∷ fs) (name g ∷ l) h k = (h.0, fields-from fs l h.1 k.1)
  fields-from (f ∷ fs) (numbers n ∷ l) h k = (h.0, fields-from fs l h.1 k.1)
  fields-from (f ∷ fs) (coordinate z ∷ l) h k = (h.0, fields-from fs l h.1 k.1)
  fields-from (f ∷ fs) (boundary b ∷ l) h k = ((h.0.0, k.0), fields-from fs l h.1 k.1)

  lines_in_lem : {start : ℕ} {lines : List Bytes} {l : List Line} → SayLines (reading e) start lines l → Each LineIn l
  lines_in_lem done = tt
  lines_in_lem (blank s r) = lines_in_lem r
  lines_in_lem (statement {s = s} {said = said} x r) = (fields_in x.fields (s ∷ said) x.spelled, lines_in_lem r)

  says-from : {start : ℕ} {bytes : Bytes} {said : Line} → Says present start bytes said → LineIn said → Says (reading e) start bytes said
  says-from {said = said} s k = record { content = s.content; fields = s.fields; ended = s.ended; fielded = s.fielded; spelled = fields-from s.fields said s.spelled k }

  lines-from : {start : ℕ} {lines : List Bytes} {l : List Line} → SayLines present start lines l → Each LineIn l → SayLines (reading e) start lines l
  lines-from done k = done
  lines-from (blank s r) k = blank (says-from s tt) (lines-from r k)
  lines-from (statement s r) k = statement (says-from s k.0) (lines-from r k.1)

  -- ## Networks: boundaries of the edition, and spots enough
  abbrev SideIn : Option Boundary → Type 0
  SideIn b = Each (λ x. Among x (boundaries e)) (perhaps b)

  abbrev LaneIn : Lane → Type 0
  LaneIn a = SideIn a.left × SideIn a.right

  abbrev SegmentIn : {N : Type 0} → Segment N → Type 0
  SegmentIn a = Each LaneIn a.lanes

  abbrev ZoneIn : {N : Type 0} → Zone N → Type 0
  ZoneIn a = fewest_spots e ≤ length a.spots

  record NetworkIn {N : Type 0} (n : Network N) : Type 0 where
    pub segments : Each SegmentIn n.segments
    pub zones : Each ZoneIn n.zones

  -- whatever stands for names
  named_in : (n : Network Field) → NetworkIn n → NetworkIn (network_named bytes_of n)
  unfolding network_named
  named_in n h = record { segments = told (segment_named_of bytes_of) SegmentIn n.segments h.segments; zones = told (zone_named_of bytes_of) ZoneIn n.zones h.zones }

  unnamed_in : (n : Network Field) → NetworkIn (network_named bytes_of n) → NetworkIn n
  unfolding network_named
  unnamed_in n h = record { segments = untold (segment_named_of bytes_of) SegmentIn n.segments h.segments; zones = untold (zone_named_of bytes_of) ZoneIn n.zones h.zones }

  -- ## A network whose lines are of the edition is
  side_in : (w : String) (b : Option Boundary) → Each LineIn (map (λ x. line w (boundary x ∷ [])) (perhaps b)) → SideIn b
  side_in w none h = tt
  side_in w (some b) h = (h.0.1.0, tt)

  each_in : {A : Type 0} {P : ℕ → A → List Line → Type 0} (Q : A → Type 0) → ((i : ℕ) (a : A) (l : List Line) → P i a l → Each LineIn l → Q a) → {i : ℕ} {parts : List A} {l : List Line} → InTurn P i parts l → Each LineIn l → Each Q parts
  each_in Q f nothing h = tt
  each_in Q f (then {i = i} {a = a} {u = u} {v = v} s r) h = (f i a u s (each-front LineIn u v h), each_in Q f r (each-behind LineIn u v h))

  lane_in : (m i : ℕ) (a : Lane) (l : List Line) → SpellsLane (reading e) m i a l → Each LineIn l → LaneIn a
  lane_in m i a l s h =
      let k = subst (Each LineIn) s.spelled h in
      let o = each-order LineIn (lane_options m i a) s.options s.given (each-front LineIn s.options _ k.1.1) in
      (side_in "left_boundary" a.left o.1.0, side_in "right_boundary" a.right o.1.1.0)

  segment_in : (m : ℕ) (a : Segment Field) (l : List Line) → SpellsSegment (reading e) m a l → Each LineIn l → SegmentIn a
  segment_in m a l s h =
      let k = subst (Each LineIn) s.spelled h in
      each_in LaneIn (lane_in m) s.each (each-front LineIn s.lanes _ (each-behind LineIn (map (λ v. line "segment_name" (name v ∷ [])) (perhaps a.name)) _ k.1.1))

  network_in : (n : Network Field) (l : List Line) → SpellsNetwork (reading e) n l → Each LineIn l → NetworkIn n
  network_in n l s h =
      let k = subst (Each LineIn) s.spelled h in
      let b = each-behind LineIn s.options (s.segments ++ (s.zones ++ (line "end_file" [] ∷ []))) k.1.1.1 in
      let c = each-behind LineIn s.segments (s.zones ++ (line "end_file" [] ∷ [])) b in
      record { segments = each_in SegmentIn segment_in s.each_segment (each-front LineIn s.segments _ b); zones = each_in ZoneIn (λ m a l s h. s.count.low) s.each_zone (each-front LineIn s.zones _ c) }

  -- ## The lines of a network of the edition are
  side-said : (w : String) (b : Option Boundary) → SideIn b → Each LineIn (map (λ x. line w (boundary x ∷ [])) (perhaps b))
  side-said w none h = tt
  side-said w (some b) h = ((tt, (h.0, tt)), tt)

  all_said : {A : Type 0} (f : A → Line) → ((a : A) → LineIn (f a)) → (l : List A) → Each LineIn (map f l)
  all_said f h [] = tt
  all_said f h (a ∷ l) = (h a, all_said f h l)

  points-said : (m n i : ℕ) (ps : List Position) → Each LineIn (points m n i ps)
  unfolding points
  points-said m n i [] = tt
  points-said m n i (p ∷ ps) = ((tt, (tt, (tt, tt))), points-said m n (suc i) ps)

  each-said : {A : Type 0} {P : ℕ → A → List Line → Type 0} (Q : A → Type 0) → ((i : ℕ) (a : A) (l : List Line) → P i a l → Q a → Each LineIn l) → {i : ℕ} {parts : List A} {l : List Line} → InTurn P i parts l → Each Q parts → Each LineIn l
  each-said Q f nothing h = tt
  each-said Q f (then {i = i} {a = a} {u = u} {v = v} s r) h = each_append LineIn u v (f i a u s h.0) (each-said Q f r h.1)

  lane-said : (m i : ℕ) (a : Lane) (l : List Line) → SpellsLane present m i a l → LaneIn a → Each LineIn l
  lane-said m i a l s h =
      let o = any_order LineIn (lane_options m i a) s.options s.given (all_said _ (λ w. (tt, (tt, tt))) (perhaps a.width), (side-said "left_boundary" a.left h.0, (side-said "right_boundary" a.right h.1, (all_said (checkpoint_line_of m i) (λ c. (tt, (tt, (tt, tt)))) a.checkpoints, (all_said _ (λ z. (tt, (tt, tt))) a.stops, (all_said (exit_line m i) (λ x. (tt, (tt, (tt, tt)))) a.exits, tt)))))) in
      subst (Each LineIn) (sym s.spelled) ((tt, (tt, tt)), ((tt, (tt, tt)), each_append LineIn s.options _ o (each_append LineIn (points m i 1 a.points) _ (points-said m i 1 a.points) ((tt, tt), tt))))

  segment-said : (m : ℕ) (a : Segment Field) (l : List Line) → SpellsSegment present m a l → SegmentIn a → Each LineIn l
  segment-said m a l s h =
      subst (Each LineIn) (sym s.spelled) ((tt, (tt, tt)), ((tt, (tt, tt)), each_append LineIn (map (λ v. line "segment_name" (name v ∷ [])) (perhaps a.name)) _ (all_said _ (λ v. (tt, (tt, tt))) (perhaps a.name)) (each_append LineIn s.lanes _ (each-said LaneIn (lane-said m) s.each h) ((tt, tt), tt))))

  spot-said : (m i : ℕ) (a : Spot) (l : List Line) → SpellsSpot present m i a l → Unit {0} → Each LineIn l
  spot-said m i a l s h =
      let o = any_order LineIn (spot_options m i a) s.options s.given (all_said _ (λ w. (tt, (tt, tt))) (perhaps a.width), (all_said (checkpoint_line_of m i) (λ c. (tt, (tt, (tt, tt)))) (perhaps a.checkpoint), tt)) in
      subst (Each LineIn) (sym s.spelled) ((tt, (tt, tt)), each_append LineIn s.options _ o (each_append LineIn (points m i 1 (a.first ∷ a.second ∷ [])) _ (points-said m i 1 (a.first ∷ a.second ∷ [])) ((tt, tt), tt)))

  border-said : (m : ℕ) (a : Perimeter) (l : List Line) → SpellsPerimeter present m a l → Each LineIn l
  border-said m a l s =
      subst (Each LineIn) (sym s.spelled) ((tt, (tt, tt)), ((tt, (tt, tt)), each_append LineIn (map (exit_line m 0) a.exits) _ (all_said (exit_line m 0) (λ x. (tt, (tt, (tt, tt)))) a.exits) (each_append LineIn (points m 0 1 a.points) _ (points-said m 0 1 a.points) ((tt, tt), tt))))

  zone-said : (m : ℕ) (a : Zone Field) (l : List Line) → SpellsZone present m a l → ZoneIn a → Each LineIn l
  zone-said m a l s h =
      subst (Each LineIn) (sym s.spelled) (
        (tt, (tt, tt)),
        (
          (tt, (tt, tt)),
          each_append LineIn (map (λ v. line "zone_name" (name v ∷ [])) (perhaps a.name)) _ (all_said _ (λ v. (tt, (tt, tt))) (perhaps a.name))
              (each_append LineIn s.border _ (border-said m a.border s.border s.bordered) (each_append LineIn s.spots _ (each-said (λ a. Unit {0}) (spot-said m) s.each (each-any a.spots)) ((tt, tt), tt))),
        ),
      )

  network-said : (n : Network Field) (l : List Line) → SpellsNetwork present n l → NetworkIn n → Each LineIn l
  network-said n l s h =
      let o = any_order LineIn (file_options n.version n.date) s.options s.given (all_said _ (λ v. (tt, (tt, tt))) (perhaps n.version), (all_said _ (λ v. (tt, (tt, tt))) (perhaps n.date), tt)) in
      subst (Each LineIn) (sym s.spelled) ((tt, (tt, tt)), ((tt, (tt, tt)), ((tt, (tt, tt)), each_append LineIn s.options _ o (each_append LineIn s.segments _ (each-said SegmentIn segment-said s.each_segment h.segments) (each_append LineIn s.zones _ (each-said ZoneIn zone-said s.each_zone h.zones) ((tt, tt), tt))))))

  -- ## and they spell it
  each_from : {A : Type 0} {P R : ℕ → A → List Line → Type 0} (Q : A → Type 0) → ((i : ℕ) (a : A) (l : List Line) → P i a l → Q a → R i a l) → {i : ℕ} {parts : List A} {l : List Line} → InTurn P i parts l → Each Q parts → InTurn R i parts l
  each_from Q f nothing h = nothing
  each_from Q f (then s r) h = then (f _ _ _ s h.0) (each_from Q f r h.1)

  lane_from : (m i : ℕ) (a : Lane) (l : List Line) → SpellsLane present m i a l → Unit {0} → SpellsLane (reading e) m i a l
  lane_from m i a l s h = record { options = s.options; given = s.given; good = s.good; spelled = s.spelled }

  segment_from : (m : ℕ) (a : Segment Field) (l : List Line) → SpellsSegment present m a l → Unit {0} → SpellsSegment (reading e) m a l
  segment_from m a l s h = record { lanes = s.lanes; count = s.count; each = each_from (λ a. Unit {0}) (lane_from m) s.each (each-any a.lanes); spelled = s.spelled }

  spot_from : (m i : ℕ) (a : Spot) (l : List Line) → SpellsSpot present m i a l → Unit {0} → SpellsSpot (reading e) m i a l
  spot_from m i a l s h = record { options = s.options; given = s.given; good = s.good; marked = s.marked; spelled = s.spelled }

  zone_from : (m : ℕ) (a : Zone Field) (l : List Line) → SpellsZone present m a l → ZoneIn a → SpellsZone (reading e) m a l
  zone_from m a l s h = record {
    border = s.border;
    spots = s.spots;
    count = record { low = h; high = s.count.high };
    bordered = record { good = s.bordered.good; spelled = s.bordered.spelled };
    each = each_from (λ a. Unit {0}) (spot_from m) s.each (each-any a.spots);
    spelled = s.spelled;
  }

  network-from : (n : Network Field) (l : List Line) → SpellsNetwork present n l → NetworkIn n → SpellsNetwork (reading e) n l
  network-from n l s h = record {
    options = s.options;
    segments = s.segments;
    zones = s.zones;
    given = s.given;
    some-segment = s.some-segment;
    count = s.count;
    each_segment = each_from (λ a. Unit {0}) segment_from s.each_segment (each-any n.segments);
    each_zone = each_from ZoneIn zone_from s.each_zone h.zones;
    spelled = s.spelled;
  }

  -- ## Texts
  text_in : (n : Network Field) (text : Bytes) → SpellsText (reading e) SpellsNetwork n text → NetworkIn n
  text_in n text h = network_in n h.said h.net (lines_in_lem h.each)

  text-from : (n : Network Field) (text : Bytes) → SpellsText present SpellsNetwork n text → NetworkIn n → SpellsText (reading e) SpellsNetwork n text
  text-from n text h k = record { lines = h.lines; said = h.said; cut = h.cut; each = lines-from h.each (network-said n h.said h.net k); net = network-from n h.said h.net k }

-- the date says nothing of it
undated_in : (e : Edition) (n : Network Field) → NetworkIn e n → NetworkIn e (undated n)
undated_in e n h = record { segments = h.segments; zones = h.zones }

-- THE LAW, of networks that are the same, names by their bytes
pub rndf-within : (edition : Asked.Edition) (n n' : Network Field) (text text' : Bytes) → SpellsText (rules_of edition) SpellsNetwork n text → SpellsText present SpellsNetwork n' text' → SameNetwork n' (undated n) → SpellsText (rules_of edition) SpellsNetwork n' text'
rndf-within edition n n' text text' h h' same =
    let e = law_of (inner edition) in
    text-from e n' text' h' (unnamed_in e n' (subst (λ (x : Network Name). NetworkIn e x) (sym same) (named_in e (undated n) (undated_in e n (text_in e n text h)))))
