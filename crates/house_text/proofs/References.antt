-- Rows and references do not look into names: networks that differ only in what names are told as have as many rows, the same rows but for names, and are right together. Assumes nothing.
use mathlib.Core.Path.{◌≡◌, refl, sym, ap, ap₂, subst, ◌∙◌}
use mathlib.Core.List.{List, ◌∷◌, ◌++◌, map}
use Prim.Native.Nat.{ℕ, ◌+◌}
use lib.ListN.{length, length-map}
use Rattle.terms.specs.Words.{Each, Between}
use Rattle.terms.proofs.Lists.{each_map}
use Rattle.grammar.specs.Statements.{PointId}
use Rattle.grammar.specs.Network.{Exit, Lane, Segment, Zone, Network}
use Rattle.grammar.specs.Mission.{Mission}
use Rattle.grammar.specs.Names.{segment_named_of, zone_named_of, network_named, mission_named}
use Rattle.grammar.specs.Tables.{Tables, gather, tables, mission_tables}
use Rattle.grammar.specs.References.{Nth, first, later, Different, Declared, waypoint, border, all_exits, Sound}
use Rattle.line.specs.Content.{Field}
use Rattle.text.specs.Spelling.{Name, bytes, bytes_of}
use Rattle.fill.specs.Counts.{sizes, mission_sizes}
use Rattle.fill.proofs.RowLaws.{gather-moved}
use Rattle.fill.proofs.NameLaws.{lanes-same, numbers-same}
use Rattle.table_words.specs.Words.{Lent, MissionLent, filled, mission_filled}
use Rattle.table_words.specs.Named.{tables_named}
use Rattle.table_words.proofs.Renamed.{tables-renamed, sizes-named, filled-named}

-- ## Lists
nth_map : {A B : Type 0} (g : A → B) {i : ℕ} {a : A} {l : List A} → Nth i a l → Nth i (g a) (map g l)
nth_map g first = first
nth_map g (later t) = later (nth_map g t)

nth-from : {A B : Type 0} (g : A → B) {i : ℕ} {b : B} (l : List A) → Nth i b (map g l) → (a : A) × Nth i a l × (g a ≡ b)
nth-from g (a ∷ l) first = (a, first, refl)
nth-from g (a ∷ l) (later t) = let x = nth-from g l t in (x.0, later x.1, x.2)
nth-from {A = A} {B = B} g {i = i} {b = b} mathlib.Core.List.[] x' = elim x' [ ]

module _ {N N' : Type 0} (f : N → N') where
  -- ## Names told in another way
  module _ (n : Network N) where
    exits-same : all_exits (network_named f n) ≡ all_exits n
    unfolding network_named
    exits-same = ap₂ (λ (x y : List Exit). x ++ y) (ap (λ (l : List Lane). gather (λ a. a.exits) l) (lanes-same f n)) (gather-moved (zone_named_of f) (λ z. z.border.exits) (λ z. z.border.exits) (λ z. refl) n.zones)

    declared-told : (e : PointId) → Declared n e → Declared (network_named f n) e
    unfolding network_named
    declared-told e (waypoint s a p q b) = waypoint (segment_named_of f s) a (nth_map (segment_named_of f) p) q b
    declared-told e (border i z y x p b) = border i (zone_named_of f z) y (x ∙ ap (λ (k : ℕ). k + i) (sym (length-map n.segments (segment_named_of f)))) (nth_map (zone_named_of f) p) b

    declared_as : (e : PointId) → Declared (network_named f n) e → Declared n e
    unfolding network_named
    declared_as e (waypoint s a p q b) =
        let t = nth-from (segment_named_of f) n.segments p in
        waypoint t.0 a t.1 (subst (λ (s : Segment N'). Nth e.y a s.lanes) (sym t.2) q) b
    declared_as e (border i z y x p b) =
        let t = nth-from (zone_named_of f) n.zones p in
        border i t.0 y (x ∙ ap (λ (k : ℕ). k + i) (length-map n.segments (segment_named_of f))) t.1 (subst (λ (z : Zone N'). Between 1 (length z.border.points) e.z) (sym t.2) b)

    sound-told : Sound n → Sound (network_named f n)
    sound-told s = record {
      entries = subst (Each (λ e. Declared (network_named f n) e.entry)) (sym exits-same) (each_map (λ e. Declared n e.entry) (λ e. Declared (network_named f n) e.entry) (λ e. declared-told e.entry) (all_exits n) s.entries);
      numbers = subst Different (sym (numbers-same f n)) s.numbers;
    }

    sound_as : Sound (network_named f n) → Sound n
    sound_as s = record {
      entries = each_map (λ e. Declared (network_named f n) e.entry) (λ e. Declared n e.entry) (λ e. declared_as e.entry) (all_exits n) (subst (Each (λ e. Declared (network_named f n) e.entry)) exits-same s.entries);
      numbers = subst Different (numbers-same f n) s.numbers;
    }

  -- ## Networks that are one, with their names so told
  module _ (n n' : Network N) (e : network_named f n ≡ network_named f n') where
    pub sound-alike : Sound n → Sound n'
    sound-alike s = sound_as n' (subst Sound e (sound-told n s))

    -- the same rows, with their names so told
    pub tables-alike : tables_named f (tables n) ≡ tables_named f (tables n')
    tables-alike = sym (tables-renamed f n) ∙ ap tables e ∙ tables-renamed f n'

    pub sizes-alike : sizes (tables n) ≡ sizes (tables n')
    sizes-alike = sym (sizes-named f (tables n)) ∙ ap (λ (t : Tables N' ℕ). sizes t) tables-alike ∙ sizes-named f (tables n')

  pub mission-sizes-alike : (m m' : Mission N) → mission_named f m ≡ mission_named f m' → mission_sizes (mission_tables m) ≡ mission_sizes (mission_tables m')
  unfolding mission_named
  mission-sizes-alike m m' e = ap (λ (m : Mission N'). mission_sizes (mission_tables m)) e

-- ## Names as bytes: every word of the tables is the same, but for where names start
abbrev name-length : Name → ℕ
name-length (bytes b) = length b

pub words-alike : (n n' : Network Field) → network_named bytes_of n ≡ network_named bytes_of n' → (lent : Lent) → filled (λ f. 0) (λ f. length f.bytes) (tables n) lent ≡ filled (λ f. 0) (λ f. length f.bytes) (tables n') lent
words-alike n n' e lent =
    sym (filled-named bytes_of (λ a. 0) name-length (tables n) lent) ∙ ap (λ (t : Tables Name ℕ). filled (λ a. 0) name-length t lent) (tables-alike bytes_of n n' e) ∙ filled-named bytes_of (λ a. 0) name-length (tables n') lent

pub mission-words-alike : (m m' : Mission Field) → mission_named bytes_of m ≡ mission_named bytes_of m' → (lent : MissionLent) → mission_filled (mission_tables m) lent ≡ mission_filled (mission_tables m') lent
unfolding mission_named
mission-words-alike m m' e lent = ap (λ (m : Mission Name). mission_filled (mission_tables m) lent) e
