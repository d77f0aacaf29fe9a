-- THE LAWS of 12 and 13: no fault over the rows is the same as right references in the network, and the first fault is the network's. Assumes nothing.
use mathlib.Core.Path.{◌≡◌, refl, sym, ap, ap₂, subst, ◌∙◌}
use mathlib.Core.List.{List, [], ◌∷◌, ◌++◌, map, map-append, map-map}
use mathlib.Core.Option.{Option, none, some}
use mathlib.Core.Bool.{Bool, true, false}
use mathlib.Core.Logic.{◌⊎◌, inl, inr}
use Prim.Native.Nat.{ℕ, ◌+◌}
use native.Mathlib.Omega.{arith}
use lib.ListN.{length, length-map}
use Rattle.terms.specs.Words.{Each, Among, perhaps}
use Rattle.terms.proofs.Lists.{each_map}
use Rattle.grammar.specs.Statements.{Statement, PointId}
use Rattle.grammar.specs.Network.{Checkpoint, Exit, Network, SpellsNetwork}
use Rattle.grammar.specs.Tables.{ExitRow, Tables, gather, along, lane_size, zone_size, checkpoint_row, spot_checkpoint, exit_row, over_spots, all_lanes, first_zone_point, the_segment_row_of, point_row_of, tables_with, tables_unresolved, tables}
use Rattle.grammar.specs.References.{Declared, Different, all_exits, all_numbers, parts, Sound}
use Rattle.grammar.proofs.Rows.{each-of_map}
use Rattle.grammar.proofs.PointRows.{lanes_in}
use Rattle.fill.specs.NetworkRows.{fill}
use Rattle.fill.specs.Counts.{sizes, declared}
use Rattle.fill.specs.Resolve.{resolve_in, with_entry, or-zero, resolved}
use Rattle.fill.specs.Faults.{Faultless, First, Undeclared, Repeated}
use Rattle.fill.specs.FirstFaults.{Fault, fault, fault_if, is_among, unless_found, entry_fault_of, first_undeclared, number_fault, the_first_repeat_of, numbers_of, the_parts_of}
use Rattle.fill.proofs.RowLaws.{along-gather, each-by_map, map-along, map_each, map-gather, one_each}
use Rattle.fill.proofs.AmongLaws.{is-among_true, among-is, among-front, among-last, among-more, each-among, among-each}
use Rattle.fill.proofs.FaultLaws.{Decides, first-right, first-only, none_right, none_only}
use Rattle.fill.proofs.NetworkFills.{network_fills}
use Rattle.fill.proofs.SizeLaws.{zone-each, sizes-declared}
use Rattle.fill.proofs.ResolveLaws.{found, found_declared, not_found, not-declared}

-- a number from a test
pub fault_if-told : (t : Bool) (n k : ℕ) → fault_if t n ≡ some k → (t ≡ true) × (k ≡ n)
fault_if-told true n k h = (refl, cc)
fault_if-told false n k h = absurd (let z : ◌≡◌ {A = ℕ} 0 1 = cc in omega arith)

-- ## 13: numbers that stood before
pub repeat_decides : Decides number_fault Repeated
repeat_decides = record {
  told = λ front a k h. let t = fault_if-told (is_among a front) 13 k h in record { again = is-among_true a front t.0; number = t.1 };
  tells = λ front a k f. rw (among-is a front f.again, f.number);
}

-- none stood before: they differ, and none is among those in front
pub fresh-different : (front l : List ℕ) → Faultless Repeated front l → Different l × Each (λ a. Among a front → ⊥) l
fresh-different front [] h = (tt, tt)
fresh-different front (a ∷ l) h =
    let r = fresh-different (front ++ (a ∷ [])) l h.1 in (
      (λ m. each-among (λ b. Among b (front ++ (a ∷ [])) → ⊥) l a r.1 m (among-last a a front refl), r.0),
      (λ m. h.0 13 (record { again = m; number = refl }), each_map (λ b. Among b (front ++ (a ∷ [])) → ⊥) (λ b. Among b front → ⊥) (λ b n m. n (among-front b front (a ∷ []) m)) l r.1),
    )

pub different-fresh : (front l : List ℕ) → Different l → Each (λ a. Among a front → ⊥) l → Faultless Repeated front l
different-fresh front [] d e = tt
different-fresh front (a ∷ l) d e = (λ k f. e.0 f.again, different-fresh (front ++ (a ∷ [])) l d.1 (among-each (λ b. Among b (front ++ (a ∷ [])) → ⊥) l (λ b m n. go b m (among-more b a front n))))
  where
    go : (b : ℕ) → Among b l → Among b front ⊎ (b ≡ a) → ⊥
    go b m (inl n) = each-among (λ b. Among b front → ⊥) l b e.1 m n
    go b m (inr q) = d.0 (subst (λ (c : ℕ). Among c l) q m)

pub first_repeat-right : (l : List ℕ) (x : Fault) → the_first_repeat_of l ≡ some x → First Repeated [] l x.row x.number
first_repeat-right = first-right repeat_decides []

pub first_repeat-only : (l : List ℕ) (i k : ℕ) → First Repeated [] l i k → the_first_repeat_of l ≡ some (fault i k)
first_repeat-only = first-only repeat_decides []

pub no_repeat : (l : List ℕ) → the_first_repeat_of l ≡ none → Different l
no_repeat l h = (fresh-different [] l (none_right repeat_decides [] l h)).0

pub different-no_repeat : (l : List ℕ) → Different l → the_first_repeat_of l ≡ none
different-no_repeat l d = none_only repeat_decides [] l (different-fresh [] l d (among-each (λ a. Among a [] → ⊥) l (λ a m n. n)))

-- ## What the rows say is what the network says
on-exits : {E : Type 0} (f : PointId → E) (p : ℕ) (es : List Exit) → map (with_entry f) (map (exit_row (λ e. e) p) es) ≡ map (exit_row f p) es
on-exits f p es = map-map (with_entry f) (exit_row (λ e. e) p) es

spot-number : (p : ℕ) (c : Option Checkpoint) → map (λ a. a.number) (spot_checkpoint p c) ≡ map (λ c. c.number) (perhaps c)
spot-number p none = refl
spot-number p (some c) = refl

module _ {N : Type 0} where
  -- the rows' entries by any f
  pub exits-with : {E : Type 0} (f : PointId → E) (n : Network N) → map (with_entry f) (tables_unresolved n).exits ≡ (tables_with f n).exits
  unfolding tables_with
  exits-with {E} f n =
      map-append (with_entry f) (along lane_size (λ first a. map (exit_row (λ e. e) first) a.exits) 0 (all_lanes n)) (along zone_size (λ first z. map (exit_row (λ e. e) first) z.border.exits) (first_zone_point n) n.zones)
      ∙ ap₂ (λ (x y : List (ExitRow E)). x ++ y)
      (map-along (with_entry f) lane_size (λ first a. map (exit_row (λ e. e) first) a.exits) (λ first a. map (exit_row f first) a.exits) (λ p a. on-exits f p a.exits) 0 (all_lanes n))
      (map-along (with_entry f) zone_size (λ first z. map (exit_row (λ e. e) first) z.border.exits) (λ first z. map (exit_row f first) z.border.exits) (λ p z. on-exits f p z.border.exits) (first_zone_point n) n.zones)

  -- row i of the exits is exit line i, whatever is done with its entry
  pub entries_in-order : {E : Type 0} (f : PointId → E) (n : Network N) → map (λ a. a.entry) (tables_with f n).exits ≡ map (λ e. f e.entry) (all_exits n)
  unfolding tables_with
  entries_in-order {E} f n =
      map-append (λ a. a.entry) (along lane_size (λ first a. map (exit_row f first) a.exits) 0 (all_lanes n)) (along zone_size (λ first z. map (exit_row f first) z.border.exits) (first_zone_point n) n.zones)
      ∙ ap₂ (λ (x y : List E). x ++ y)
      (along-gather (λ a. a.entry) lane_size (λ first a. map (exit_row f first) a.exits) (λ a. map (λ e. f e.entry) a.exits) (λ p a. map-map (λ r. r.entry) (exit_row f p) a.exits) 0 (all_lanes n) ∙ sym (map-gather (λ e. f e.entry) (λ a. a.exits) (all_lanes n)))
      (along-gather (λ a. a.entry) zone_size (λ first z. map (exit_row f first) z.border.exits) (λ z. map (λ e. f e.entry) z.border.exits) (λ p z. map-map (λ r. r.entry) (exit_row f p) z.border.exits) (first_zone_point n) n.zones ∙ sym (map-gather (λ e. f e.entry) (λ z. z.border.exits) n.zones))
      ∙ sym (map-append (λ e. f e.entry) (gather (λ a. a.exits) (all_lanes n)) (gather (λ z. z.border.exits) n.zones))

  -- row i of the checkpoints is checkpoint line i
  pub numbers_in-order : {E : Type 0} (f : PointId → E) (n : Network N) → numbers_of (tables_with f n) ≡ all_numbers n
  unfolding tables_with
  numbers_in-order f n =
      map-append (λ a. a.number) (along lane_size (λ first a. map (checkpoint_row first) a.checkpoints) 0 (all_lanes n)) (along zone_size (over_spots (λ first s. spot_checkpoint first s.checkpoint)) (first_zone_point n) n.zones)
      ∙ ap₂ (λ (x y : List ℕ). x ++ y)
      (along-gather (λ a. a.number) lane_size (λ first a. map (checkpoint_row first) a.checkpoints) (λ a. map (λ c. c.number) a.checkpoints) (λ p a. map-map (λ r. r.number) (checkpoint_row p) a.checkpoints) 0 (all_lanes n))
      (along-gather (λ a. a.number) zone_size (over_spots (λ first s. spot_checkpoint first s.checkpoint)) (λ z. gather (λ s. map (λ c. c.number) (perhaps s.checkpoint)) z.spots)
      (λ p z. along-gather (λ a. a.number) (λ s. 2) (λ first s. spot_checkpoint first s.checkpoint) (λ s. map (λ c. c.number) (perhaps s.checkpoint)) (λ p s. spot-number p s.checkpoint) (p + length z.border.points) z.spots)
      (first_zone_point n) n.zones)

  -- as many segments and zones
  pub parts_are : {E : Type 0} (f : PointId → E) (n : Network N) → the_parts_of (tables_with f n) ≡ parts n
  unfolding tables_with
  parts_are f n = ap₂ (λ (x y : ℕ). x + y) (one_each lanes_in the_segment_row_of 0 n.segments) (zone-each (first_zone_point n) 0 n.zones)

  -- ## 12: entries that are not declared
  -- the entries, in file order
  abbrev pub all-entries : Network N → List PointId
  all-entries n = map (λ e. e.entry) (all_exits n)

  pub undeclared_decides : (n : Network N) → Decides (entry_fault_of (tables_unresolved n)) (Undeclared n)
  undeclared_decides n = record {
    told = λ front e k h. go (resolve_in (tables_unresolved n) e) refl h;
    tells = λ front e k f. rw (not_found n e f.not, f.number);
  }
    where
      go : {e : PointId} {k : ℕ} {front : List PointId} (o : Option ℕ) → resolve_in (tables_unresolved n) e ≡ o → unless_found o ≡ some k → Undeclared n front e k
      go {e} none q h = record { not = not-declared n e q; number = cc }
      go (some i) q h = absurd (let z : ◌≡◌ {A = ℕ} 0 1 = cc in omega arith)

  -- the first row that resolve fails for is the first exit line whose entry is not declared
  pub first-undeclared-right : (n : Network N) (x : Fault) → first_undeclared (tables_unresolved n) ≡ some x → First (Undeclared n) [] (all-entries n) x.row x.number
  first-undeclared-right n x h = subst (λ (l : List PointId). First (Undeclared n) [] l x.row x.number) (entries_in-order (λ e. e) n) (first-right (undeclared_decides n) [] (map (λ a. a.entry) (tables_unresolved n).exits) x h)

  pub first-undeclared-only : (n : Network N) (i k : ℕ) → First (Undeclared n) [] (all-entries n) i k → first_undeclared (tables_unresolved n) ≡ some (fault i k)
  first-undeclared-only n i k f = first-only (undeclared_decides n) [] (map (λ a. a.entry) (tables_unresolved n).exits) i k (subst (λ (l : List PointId). First (Undeclared n) [] l i k) (sym (entries_in-order (λ e. e) n)) f)

  -- no entry undeclared is every entry declared
  faultless_declared : (n : Network N) (front l : List PointId) → Faultless (Undeclared n) front l → Each (λ e. resolve_in (tables_unresolved n) e ≡ some (point_row_of n e)) l
  faultless_declared n front [] h = tt
  faultless_declared n front (e ∷ l) h = (go (resolve_in (tables_unresolved n) e) refl, faultless_declared n (front ++ (e ∷ [])) l h.1)
    where
      go : (o : Option ℕ) → resolve_in (tables_unresolved n) e ≡ o → resolve_in (tables_unresolved n) e ≡ some (point_row_of n e)
      go none q = absurd (h.0 12 (record { not = not-declared n e q; number = refl }))
      go (some i) q = found n e (found_declared n e i q)

  declared_faultless : (n : Network N) (front l : List PointId) → Each (Declared n) l → Faultless (Undeclared n) front l
  declared_faultless n front [] d = tt
  declared_faultless n front (e ∷ l) d = (λ k f. f.not d.0, declared_faultless n (front ++ (e ∷ [])) l d.1)

  pub no-undeclared : (n : Network N) → first_undeclared (tables_unresolved n) ≡ none → Each (λ e. Declared n e.entry) (all_exits n)
  no-undeclared n h =
      let a = none_right (undeclared_decides n) [] (map (λ a. a.entry) (tables_unresolved n).exits) h in
      let b = faultless_declared n [] (map (λ a. a.entry) (tables_unresolved n).exits) a in
      let c = each_map (λ e. resolve_in (tables_unresolved n) e ≡ some (point_row_of n e)) (Declared n) (λ e q. found_declared n e (point_row_of n e) q) (map (λ a. a.entry) (tables_unresolved n).exits) b in
      each-by_map (Declared n) (λ e. e.entry) (all_exits n) (subst (Each (Declared n)) (entries_in-order (λ e. e) n) c)

  pub declared-none : (n : Network N) → Each (λ e. Declared n e.entry) (all_exits n) → first_undeclared (tables_unresolved n) ≡ none
  declared-none n d = none_only (undeclared_decides n) [] (map (λ a. a.entry) (tables_unresolved n).exits)
      (subst (Faultless (Undeclared n) []) (sym (entries_in-order (λ e. e) n)) (declared_faultless n [] (all-entries n) (each-of_map (Declared n) (λ e. e.entry) (all_exits n) d)))

  -- ## Both
  pub sound-by : (n : Network N) → first_undeclared (tables_unresolved n) ≡ none → the_first_repeat_of (numbers_of (tables_unresolved n)) ≡ none → Sound n
  sound-by n e h = record { entries = no-undeclared n e; numbers = subst Different (numbers_in-order (λ e. e) n) (no_repeat (numbers_of (tables_unresolved n)) h) }

  pub sound-only : (n : Network N) → Sound n → (first_undeclared (tables_unresolved n) ≡ none) × (the_first_repeat_of (numbers_of (tables_unresolved n)) ≡ none)
  sound-only n s = (declared-none n s.entries, different-no_repeat (numbers_of (tables_unresolved n)) (subst Different (sym (numbers_in-order (λ e. e) n)) s.numbers))

  -- ## The tables with the entries resolved
  same-others : (n : Network N) (es : List (ExitRow ℕ)) → es ≡ (tables n).exits
      → ◌≡◌ {A = Tables N ℕ} (record { file = (tables_unresolved n).file; segments = (tables_unresolved n).segments; lanes = (tables_unresolved n).lanes; zones = (tables_unresolved n).zones; spots = (tables_unresolved n).spots; points = (tables_unresolved n).points; checkpoints = (tables_unresolved n).checkpoints; stops = (tables_unresolved n).stops; exits = es }) (tables n)
  unfolding tables_with
  same-others n es e = λ i. record { file = (tables n).file; segments = (tables n).segments; lanes = (tables n).lanes; zones = (tables n).zones; spots = (tables n).spots; points = (tables n).points; checkpoints = (tables n).checkpoints; stops = (tables n).stops; exits = e i }

  pub exits-resolved : (n : Network N) → Each (λ e. Declared n e.entry) (all_exits n) → resolved (tables_unresolved n) ≡ tables n
  unfolding resolved
  exits-resolved n d =
      let a = each-of_map (Declared n) (λ (e : Exit). e.entry) (all_exits n) d in
      let b = each-by_map (Declared n) (λ (a : ExitRow PointId). a.entry) (tables_unresolved n).exits (subst (Each (Declared n)) (sym (entries_in-order (λ e. e) n)) a) in
      same-others n (resolved (tables_unresolved n)).exits
      (map_each (with_entry (λ e. or-zero (resolve_in (tables_unresolved n) e))) (with_entry (point_row_of n)) (tables_unresolved n).exits
      (each_map (λ a. Declared n a.entry) (λ a. with_entry (λ e. or-zero (resolve_in (tables_unresolved n) e)) a ≡ with_entry (point_row_of n) a)
      (λ a d. ap (λ (o : Option ℕ). record { point = a.point; entry = or-zero o }) (found n a.entry d)) (tables_unresolved n).exits b)
      ∙ exits-with (point_row_of n) n)

  -- the whole: statements that spell a network with right references fill document 01's tables
  pub fill-resolved : (blank : N) (n : Network N) (u : List (Statement N)) → SpellsNetwork n u → Each (λ e. Declared n e.entry) (all_exits n) → resolved (fill blank u) ≡ tables n
  fill-resolved blank n u s d = ap resolved (network_fills blank n u s) ∙ exits-resolved n d

  -- resolving changes no count
  pub sizes-with : {E : Type 0} (f : PointId → E) (n : Network N) → sizes (tables_with f n) ≡ sizes (tables_unresolved n)
  unfolding tables_with
  sizes-with {E} f n =
      let e = sym (ap (λ (l : List (ExitRow E)). length l) (exits-with f n)) ∙ length-map (tables_unresolved n).exits (with_entry f) in
      let c = sizes (tables_unresolved n) in
      λ i. record { segments = c.segments; lanes = c.lanes; zones = c.zones; spots = c.spots; points = c.points; checkpoints = c.checkpoints; stops = c.stops; exits = e i }

  pub tables-declared : (n : Network N) (u : List (Statement N)) → SpellsNetwork n u → sizes (tables n) ≡ declared u
  tables-declared n u s = sizes-with (point_row_of n) n ∙ sizes-declared n u s
