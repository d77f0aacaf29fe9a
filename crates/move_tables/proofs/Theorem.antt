-- THE THEOREM: over the filled tables of an accepted network, `moves` says true exactly of the law's moves. Assumes nothing.
use mathlib.Core.Path.{◌≡◌, refl, sym, ap, subst, ◌∙◌}
use mathlib.Core.Logic.{◌⊎◌, ◌↔◌, inl, inr}
use mathlib.Core.Bool.{Bool, true, false}
use mathlib.Core.List.{List, [], ◌∷◌, ◌++◌, map, append_assoc}
use Prim.Native.Nat.{ℕ, suc, ◌+◌, ◌≤◌, ◌<◌}
use native.Mathlib.Omega.{arith}
use lib.Dec.{eqb}
use lib.ListN.{length}
use borrow.Author.Tests.{eq-eqb, ne_eqb, eqb-true, eqb-false}
use Rattle.terms.specs.Words.{Bytes, Each, Among, pick}
use Rattle.terms.proofs.Lists.{each_map, each_append}
use Rattle.terms.proofs.Tests.{clash}
use Rattle.line.specs.Line.{Field}
use Rattle.law.specs.Network.{Network, Lane, Zone, Exit, present}
use Rattle.law.specs.Tables.{Lent, lane_size, zone_size, all_lanes, first_zone_point, exit_row, exit_rows, filled}
use Rattle.law.specs.Along.{along}
use Rattle.grammar.proofs.Rows.{total, length-gather, Within, Own, along-own, Names, names-own}
use Rattle.grammar.proofs.RowsInside.{NamesOwn, names-own-points}
use Rattle.grammar.proofs.Theorems.{network_ranges}
use Rattle.law_spelling.proofs.Texts.{rndf-back}
use Rattle.rows.specs.Lay.{rows_of}
use Rattle.rows.specs.Strides.{lane_stride, zone_stride, exit_stride}
use Rattle.counts.specs.declared.Counts.{Counts}
use Rattle.replies.specs.Replies.{rows_used_of}
use Rattle.replies.specs.Short.{AcceptsRndf}
use Rattle.moves.specs.declared.Part.{Part}
use Rattle.moves.specs.Halving.{first_word}
use Rattle.moves.specs.Moves.{inside, lane_part_of, zone_part_of, lane_of, the_the_zone_of, leads, next_in_of, across, lane_move_of, zone_move_of, is_move}
use Rattle.route_law.specs.Moves.{Span, Inside, lane_spans, zone_spans, Move, next, exit}
use Rattle.route_law.specs.Moves as Law
use Rattle.move_tables.specs.Reads.{span_part, Reads}
use Rattle.move_tables.proofs.Found.{first-word-is}
use Rattle.move_tables.proofs.Spans.{stands}
use Rattle.move_tables.proofs.Groups.{Grouped, either-part, spans-from, of-each, grouped}
use Rattle.move_tables.proofs.Filled.{lanes-counted, zones-counted, filled-reads}
use Rattle.move_tables.proofs.Parts.{inside-yes, inside_is, part-found, only_parts}
use Rattle.move_tables.proofs.Leads.{source, leads-found, leads-only}

or-true : (x y : Bool) → y ≡ true → pick x true y ≡ true
or-true true y e = refl
or-true false y e = e

-- ## The exits of all parts
module _ (n : Network Field) (o : NamesOwn n) where
  abbrev pub lane-exits : List (List ℕ)
  lane-exits = along lane_size (λ first a. map (exit_row n first) a.exits) 0 (all_lanes n)

  abbrev pub zone_exits : List (List ℕ)
  zone_exits = along zone_size (λ first z. map (exit_row n first) z.border.exits) (first_zone_point n) n.zones

  lanes-own : Each (Own lane_size source (λ first a. map (exit_row n first) a.exits)) (all_lanes n)
  lanes-own = each_map (Names lane_size (λ e. e.waypoint) (λ a. a.exits)) (Own lane_size source (λ first a. map (exit_row n first) a.exits)) (names-own lane_size source (exit_row n) (λ e. e.waypoint) (λ a. a.exits) (λ p e. refl)) (all_lanes n) o.lane-exits

  zones-own : Each (Own zone_size source (λ first z. map (exit_row n first) z.border.exits)) n.zones
  zones-own = each_map (Names zone_size (λ e. e.waypoint) (λ z. z.border.exits)) (Own zone_size source (λ first z. map (exit_row n first) z.border.exits)) (names-own zone_size source (exit_row n) (λ e. e.waypoint) (λ z. z.border.exits) (λ p e. refl)) n.zones o.border-exits

  -- the zones begin where the lanes end
  pub lanes_end : first_zone_point n ≡ total lane_size (all_lanes n)
  lanes_end = length-gather (λ (a : Lane). a.points) (all_lanes n)

  pub lane-grouped : (r : List ℕ) → Among r lane-exits → Grouped source (lane_spans n) (exit_rows n) r
  lane-grouped r h =
      let g = grouped lane_size source (λ first a. map (exit_row n first) a.exits) 0 (all_lanes n) lanes-own r h in
      let ends = (of-each (λ s. (0 ≤ s.first) × (s.first + s.size ≤ 0 + total lane_size (all_lanes n))) g.span (lane_spans n) (spans-from lane_size 0 (all_lanes n)) g.part).1 in
      let e = lanes_end in
      record {
        span = g.span;
        part = g.part;
        front = g.front;
        own = g.own;
        back = g.back ++ zone_exits;
        is = ap (λ (l : List (List ℕ)). l ++ zone_exits) g.is ∙ append_assoc g.front (g.own ++ g.back) zone_exits ∙ ap (λ (l : List (List ℕ)). g.front ++ l) (append_assoc g.own g.back zone_exits);
        before = g.before;
        within = g.within;
        behind = each_append (λ w. g.span.first + g.span.size ≤ source w) g.back zone_exits g.behind
            (each_map (λ w. Within (first_zone_point n) (total zone_size n.zones) (source w)) (λ w. g.span.first + g.span.size ≤ source w) (λ w h. let low = h.low in omega arith) zone_exits (along-own zone_size source (λ first z. map (exit_row n first) z.border.exits) (first_zone_point n) n.zones zones-own));
        there = g.there;
      }

  pub zone-grouped : (r : List ℕ) → Among r zone_exits → Grouped source (zone_spans n) (exit_rows n) r
  zone-grouped r h =
      let g = grouped zone_size source (λ first z. map (exit_row n first) z.border.exits) (first_zone_point n) n.zones zones-own r h in
      let begins = (of-each (λ s. (first_zone_point n ≤ s.first) × (s.first + s.size ≤ first_zone_point n + total zone_size n.zones)) g.span (zone_spans n) (spans-from zone_size (first_zone_point n) n.zones) g.part).0 in
      let e = lanes_end in
      record {
        span = g.span;
        part = g.part;
        front = lane-exits ++ g.front;
        own = g.own;
        back = g.back;
        is = ap (λ (l : List (List ℕ)). lane-exits ++ l) g.is ∙ sym (append_assoc lane-exits g.front (g.own ++ g.back));
        before = each_append (λ w. source w < g.span.first) lane-exits g.front
            (each_map (λ w. Within 0 (total lane_size (all_lanes n)) (source w)) (λ w. source w < g.span.first) (λ w h. let high = h.high in omega arith) lane-exits (along-own lane_size source (λ first a. map (exit_row n first) a.exits) 0 (all_lanes n) lanes-own)) g.before;
        within = g.within;
        behind = g.behind;
        there = g.there;
      }

-- ## Over tables that read as the network's parts and exits
module _ (n : Network Field) (o : NamesOwn n) (lanes zones exits : List ℕ) (r : Reads n lanes zones exits) (a b : ℕ) where
  lane-words-are : (i : ℕ) → i < length (lane_spans n) → first_word lanes lane_stride i ≡ (lane_part_of lanes i).first
  unfolding lane_part_of
  lane-words-are i h = let room = r.lane_room in first-word-is lanes lane_stride i (omega arith) (omega arith)

  zone-words-are : (i : ℕ) → i < length (zone_spans n) → first_word zones zone_stride i ≡ (zone_part_of zones i).first
  unfolding zone_part_of
  zone-words-are i h = let room = r.zone_room in first-word-is zones zone_stride i (omega arith) (omega arith)

  pub lane-found : (s : Span) → Among s (lane_spans n) → Inside s a → lane_of lanes (length (lane_spans n)) a ≡ span_part s
  unfolding lane_of
  lane-found s h i = part-found lanes lane_stride (lane_part_of lanes) (lane_spans n) r.lane_room r.lanes_read lane-words-are 0 (0 + total lane_size (all_lanes n)) s a (stands lane_size 0 (all_lanes n) s h) i

  pub zone-found : (s : Span) → Among s (zone_spans n) → Inside s a → the_the_zone_of zones (length (zone_spans n)) a ≡ span_part s
  unfolding the_the_zone_of
  zone-found s h i = part-found zones zone_stride (zone_part_of zones) (zone_spans n) r.zone_room r.zones_read zone-words-are (first_zone_point n) (first_zone_point n + total zone_size n.zones) s a (stands zone_size (first_zone_point n) n.zones s h) i

  pub lane-only : inside (lane_of lanes (length (lane_spans n)) a) a ≡ true → (s : Span) × Among s (lane_spans n) × (lane_of lanes (length (lane_spans n)) a ≡ span_part s)
  unfolding lane_of
  lane-only e = only_parts lanes lane_stride (lane_part_of lanes) (lane_spans n) r.lane_room r.lanes_read lane-words-are a (a + 1) e

  pub zone-only : inside (the_the_zone_of zones (length (zone_spans n)) a) a ≡ true → (s : Span) × Among s (zone_spans n) × (the_the_zone_of zones (length (zone_spans n)) a ≡ span_part s)
  unfolding the_the_zone_of
  zone-only e = only_parts zones zone_stride (zone_part_of zones) (zone_spans n) r.zone_room r.zones_read zone-words-are a (a + 1) e

  abbrev counted : Counts → Type 0
  counted c = (c.lanes ≡ length (lane_spans n)) × (c.zones ≡ length (zone_spans n)) × (c.exits ≡ length (exit_rows n))

  -- what is said, with the counts told
  abbrev said : Bool
  said = pick (inside (lane_of lanes (length (lane_spans n)) a) a)
      (lane_move_of exits (length (exit_rows n)) (lane_of lanes (length (lane_spans n)) a) a b)
      (pick (inside (the_the_zone_of zones (length (zone_spans n)) a) a) (zone_move_of exits (length (exit_rows n)) (the_the_zone_of zones (length (zone_spans n)) a) a b) false)

  said-is : (c : Counts) → counted c → is_move lanes zones exits c a b ≡ said
  unfolding is_move
  said-is c k = λ i. pick (inside (lane_of lanes (k.0 i) a) a) (lane_move_of exits (k.2 i) (lane_of lanes (k.0 i) a) a b) (pick (inside (the_the_zone_of zones (k.1 i) a) a) (zone_move_of exits (k.2 i) (the_the_zone_of zones (k.1 i) a) a b) false)

  -- ## What is said is so
  led : (p : Part) → leads exits (length (exit_rows n)) p a b ≡ true → Move n a b
  led p e = exit (leads-only exits (exit_rows n) r.exit_room r.exits_read a b p e)

  lane-so : (s : Span) → Among s (lane_spans n) → Inside s a → lane_move_of exits (length (exit_rows n)) (span_part s) a b ≡ true → Move n a b
  unfolding lane_move_of next_in_of
  lane-so s h i = go (eqb b (a + 1)) (inside (span_part s) b) refl refl
    where
      go : (x y : Bool) → eqb b (a + 1) ≡ x → inside (span_part s) b ≡ y → pick (pick x y false) true (leads exits (length (exit_rows n)) (span_part s) a b) ≡ true → Move n a b
      go true true e f t = next s h i (inside_is s b f) (let g = eqb-true b (a + 1) e in omega arith)
      go true false e f t = led (span_part s) t
      go false y e f t = led (span_part s) t

  zone-so : (s : Span) → Among s (zone_spans n) → Inside s a → zone_move_of exits (length (exit_rows n)) (span_part s) a b ≡ true → Move n a b
  unfolding zone_move_of across
  zone-so s h i = go (eqb a b) (inside (span_part s) b) refl refl
    where
      go : (x y : Bool) → eqb a b ≡ x → inside (span_part s) b ≡ y → pick (pick x false y) true (leads exits (length (exit_rows n)) (span_part s) a b) ≡ true → Move n a b
      go false true e f t = Law.across s h i (inside_is s b f) (eqb-false a b e)
      go false false e f t = led (span_part s) t
      go true y e f t = led (span_part s) t

  to : said ≡ true → Move n a b
  to t = by-lane (inside (lane_of lanes (length (lane_spans n)) a) a) refl t
    where
      by-zone : (y : Bool) → inside (the_the_zone_of zones (length (zone_spans n)) a) a ≡ y → pick y (zone_move_of exits (length (exit_rows n)) (the_the_zone_of zones (length (zone_spans n)) a) a b) false ≡ true → Move n a b
      by-zone false f t = clash (sym t)
      by-zone true f t =
          let s = zone-only f in
          zone-so s.0 s.1 (inside_is s.0 a (ap (λ (p : Part). inside p a) (sym s.2) ∙ f)) (ap (λ (p : Part). zone_move_of exits (length (exit_rows n)) p a b) (sym s.2) ∙ t)

      by-lane : (x : Bool) → inside (lane_of lanes (length (lane_spans n)) a) a ≡ x
          → pick x (lane_move_of exits (length (exit_rows n)) (lane_of lanes (length (lane_spans n)) a) a b) (pick (inside (the_the_zone_of zones (length (zone_spans n)) a) a) (zone_move_of exits (length (exit_rows n)) (the_the_zone_of zones (length (zone_spans n)) a) a b) false) ≡ true → Move n a b
      by-lane true e t =
          let s = lane-only e in
          lane-so s.0 s.1 (inside_is s.0 a (ap (λ (p : Part). inside p a) (sym s.2) ∙ e)) (ap (λ (p : Part). lane_move_of exits (length (exit_rows n)) p a b) (sym s.2) ∙ t)
      by-lane false e t = by-zone (inside (the_the_zone_of zones (length (zone_spans n)) a) a) refl t

  -- ## What is so is said
  from-lane : (s : Span) → Among s (lane_spans n) → Inside s a → lane_move_of exits (length (exit_rows n)) (span_part s) a b ≡ true → said ≡ true
  from-lane s h i t =
      let f = lane-found s h i in
      rw (ap (λ (p : Part). inside p a) f ∙ inside-yes s a i) (ap (λ (p : Part). lane_move_of exits (length (exit_rows n)) p a b) f ∙ t)

  -- no lane has a point of a zone
  pub the_no_lane_of : (s : Span) → Among s (zone_spans n) → Inside s a → inside (lane_of lanes (length (lane_spans n)) a) a ≡ false
  the_no_lane_of s h i = go (inside (lane_of lanes (length (lane_spans n)) a) a) refl
    where
      go : (x : Bool) → inside (lane_of lanes (length (lane_spans n)) a) a ≡ x → x ≡ false
      go false e = refl
      go true e =
          let l = lane-only e in
          let within = inside_is l.0 a (ap (λ (p : Part). inside p a) (sym l.2) ∙ e) in
          let below = within.below in
          let ends = (of-each (λ s. (0 ≤ s.first) × (s.first + s.size ≤ 0 + total lane_size (all_lanes n))) l.0 (lane_spans n) (spans-from lane_size 0 (all_lanes n)) l.1).1 in
          let begins = (of-each (λ s. (first_zone_point n ≤ s.first) × (s.first + s.size ≤ first_zone_point n + total zone_size n.zones)) s (zone_spans n) (spans-from zone_size (first_zone_point n) n.zones) h).0 in
          let from = i.from in
          let end = lanes_end n o in
          absurd (omega arith)

  from-zone : (s : Span) → Among s (zone_spans n) → Inside s a → zone_move_of exits (length (exit_rows n)) (span_part s) a b ≡ true → said ≡ true
  from-zone s h i t =
      let f = zone-found s h i in
      rw (the_no_lane_of s h i, ap (λ (p : Part). inside p a) f ∙ inside-yes s a i) (ap (λ (p : Part). zone_move_of exits (length (exit_rows n)) p a b) f ∙ t)

  -- the part whose own an exit is has the point that it leaves
  pub leaves : (parts : List Span) (g : Grouped source parts (exit_rows n) (a ∷ b ∷ [])) → Inside g.span a
  leaves parts g = let w = of-each (λ w. Within g.span.first g.span.size (source w)) (a ∷ b ∷ []) g.own g.within g.there in record { from = w.low; below = w.high }

  back : Move n a b → said ≡ true
  unfolding lane_move_of next_in_of zone_move_of across
  back (next s h i j e) = from-lane s h i (rw (eq-eqb b (a + 1) (omega arith), inside-yes s b j))
  back (Law.across s h i j e) = from-zone s h i (rw (ne_eqb a b e, inside-yes s b j))
  back (exit h) = go (either-part (a ∷ b ∷ []) (lane-exits n o) (zone_exits n o) h)
    where
      go : Among (a ∷ b ∷ []) (lane-exits n o) ⊎ Among (a ∷ b ∷ []) (zone_exits n o) → said ≡ true
      go (inl h) =
          let g = lane-grouped n o (a ∷ b ∷ []) h in
          from-lane g.span g.part (leaves (lane_spans n) g) (or-true (next_in_of (span_part g.span) a b) (leads exits (length (exit_rows n)) (span_part g.span) a b) (leads-found exits (exit_rows n) r.exit_room r.exits_read a b (lane_spans n) g))
      go (inr h) =
          let g = zone-grouped n o (a ∷ b ∷ []) h in
          from-zone g.span g.part (leaves (zone_spans n) g) (or-true (across (span_part g.span) a b) (leads exits (length (exit_rows n)) (span_part g.span) a b) (leads-found exits (exit_rows n) r.exit_room r.exits_read a b (zone_spans n) g))

-- THE THEOREM. text: the RNDF; t: the tables as they were lent
pub moves-are : (text : Bytes) (t : Lent) (n : Network Field) → AcceptsRndf present text t n → (a b : ℕ) → (is_move (filled n t).lanes (filled n t).zones (filled n t).exits (rows_used_of n) a b ≡ true) ↔ Move n a b
moves-are text t n h a b =
    let spelled = rndf-back n text h.spelled in
    let o = names-own-points n (network_ranges n spelled.said spelled.net) in
    let r = filled-reads text t n h in
    let e = said-is n o (filled n t).lanes (filled n t).zones (filled n t).exits r a b (rows_used_of n) (lanes-counted n, zones-counted n, refl) in
    ((λ s. to n o (filled n t).lanes (filled n t).zones (filled n t).exits r a b (sym e ∙ s)), (λ m. e ∙ back n o (filled n t).lanes (filled n t).zones (filled n t).exits r a b m))
