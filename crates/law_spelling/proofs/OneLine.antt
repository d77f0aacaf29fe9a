-- A line is said by one statement: its keyword tells its kind, and without one the number of its fields does. For every file, then for the two. Assumes nothing.
use mathlib.Core.Path.{◌≡◌, refl, sym, ap, subst, ◌∙◌, path_j}
use mathlib.Core.List.{List, [], ◌∷◌, ◌++◌, map, head-eq_of_cons-eq, tail-eq_of_cons-eq}
use mathlib.Core.Option.{Option, none, some, some-injective}
use mathlib.Core.Bool.{true}
use Prim.Native.Nat.{ℕ, zero, suc}
use lib.ListN.{length}
use Rattle.terms.specs.Ascii.{Bytes}
use Rattle.terms.proofs.Tests.{nothing}
use Rattle.line.specs.Content.{Field}
use Rattle.law.specs.Network.{Said, word, name, numbers, coordinate, boundary}
use Rattle.grammar.specs.Language.{Lang, S, say}
use Rattle.grammar.specs.Machine.{Machine}
use Rattle.grammar.specs.Statements as Rndf
use Rattle.grammar.specs.Statements.{RNDF_name_of, num_segments, num_zones, format_version_of, creation_date_of, segment, num_lanes, segment_name_of, end_segment, lane, num_waypoints, lane_width_of, left_boundary_of, right_boundary_of, checkpoint, stop, exit, end_lane_of, zone, num_spots, zone_name_of, end_zone, perimeter, num_perimeterpoints, end_perimeter, spot, spot_width_of, end_spot, end_file_of, point}
use Rattle.grammar.specs.MissionStatements as Mdf
use Rattle.grammar.specs.Editions.{Edition, march}
use Rattle.grammar.specs.Network.{under}
use Rattle.grammar.specs.Places.{rndf_by}
use Rattle.grammar.specs.MissionPlaces.{mdf}
use Rattle.text.specs.Said as Old
use Rattle.text.specs.Judge.{Sort, a_name, an_integer, a_pair, a_triple, a_coordinate, a_boundary, Val, Vals, Lexis}
use Rattle.text.specs.RndfLines.{rndf_line_in_of, the_rndf_line_of}
use Rattle.text.specs.MdfLines.{the_mdf_line_of}
use Rattle.text.specs.RndfWords.{rndf_lexis_in}
use Rattle.text.specs.MdfWords.{mdf_lexis}
use Rattle.text.proofs.FieldReading.{says, said}
use Rattle.text.proofs.Telling.{Lawful, in-front, line-is}
use Rattle.text.proofs.RndfText.{rndf-lawful}
use Rattle.text.proofs.MdfText.{mdf-lawful}
use Rattle.law_spelling.specs.LineOf.{said_of, AllOf, law_line, rndf_law_line_in, rndf_law_line, mdf_law_line}
use Rattle.law_spelling.proofs.Lines.{Begins, nothing_else}

-- ## Values
value-one : (s : Sort) (v w : Val s) → said_of (says s v) ≡ said_of (says s w) → v ≡ w
value-one a_name v w e = cc
value-one an_integer v w e = cc
value-one a_pair v w e =
    let i : v.m ≡ w.m = cc in
    let j : v.n ≡ w.n = cc in
    λ k. record { m = i k; n = j k }
value-one a_triple v w e =
    let i : v.x ≡ w.x = cc in
    let j : v.y ≡ w.y = cc in
    let l : v.z ≡ w.z = cc in
    λ k. record { x = i k; y = j k; z = l k }
value-one a_coordinate v w e = cc
value-one (a_boundary d) v w e = cc

values_one : (ss : List Sort) (v w : Vals ss) → map said_of (said ss v) ≡ map said_of (said ss w) → v ≡ w
values_one [] v w e = refl
values_one (s ∷ ss) v w e =
    let i = value-one s v.0 w.0 (head-eq_of_cons-eq e) in
    let j = values_one ss v.1 w.1 (tail-eq_of_cons-eq e) in
    λ k. (i k, j k)

-- a value is no keyword
abbrev IsWord : Said → Type 0
IsWord (word w) = Unit {0}
IsWord (name f) = ⊥
IsWord (numbers l) = ⊥
IsWord (coordinate z) = ⊥
IsWord (boundary b) = ⊥

no_word : (s : Sort) (v : Val s) → IsWord (said_of (says s v)) → ⊥
no_word a_name v h = h
no_word an_integer v h = h
no_word a_pair v h = h
no_word a_triple v h = h
no_word a_coordinate v h = h
no_word (a_boundary d) v h = h

not-values : (w : Bytes) (l : List Said) (ss : List Sort) (v : Vals ss) → word w ∷ l ≡ map said_of (said ss v) → ⊥
not-values w l [] v e = nothing_else (word w) l (sym e)
not-values w l (s ∷ ss) v e = no_word s v.0 (subst IsWord (head-eq_of_cons-eq e) tt)

so-many : (ss : List Sort) (v : Vals ss) → length (map said_of (said ss v)) ≡ length ss
so-many [] v = refl
so-many (s ∷ ss) v = ap suc (so-many ss v.1)

behind-front : (o : Option Bytes) (a b : List Old.Said) → map said_of (in-front o ++ a) ≡ map said_of (in-front o ++ b) → map said_of a ≡ map said_of b
behind-front none a b e = e
behind-front (some w) a b e = tail-eq_of_cons-eq e

-- ## Every file
module _ {L : Lang} (A : Machine L) (X : Lexis L) (Line-of : (k : L.Kind) → L.Pay k → List Old.Said) (W : Lawful A X Line-of) where
  open L use {Kind, Pay}
  open X use {keyword, sorts, make, lookup}

  -- a statement without a keyword has a field, and their number tells its kind
  abbrev pub Plain : (ℕ → Kind) → Type 0
  Plain kind-of = (k : Kind) → keyword k ≡ none → (kind-of (length (sorts k)) ≡ k) × Begins (sorts k)

  abbrev ll : S L → List Said
  ll = law_line Line-of

  same-values : (k : Kind) (v w : Pay k) → ll (say L k v) ≡ ll (say L k w) → v ≡ w
  same-values k v w e =
      let q = ap (map said_of) (sym (line-is A X Line-of W k v)) ∙ e ∙ ap (map said_of) (line-is A X Line-of W k w) in
      let i = values_one (sorts k) (W.parts k v) (W.parts k w) (behind-front (keyword k) (said (sorts k) (W.parts k v)) (said (sorts k) (W.parts k w)) q) in
      sym (W.made k v) ∙ ap (make k) i ∙ W.made k w

  same_kind : (j k : Kind) → j ≡ k → (v : Pay j) (w : Pay k) → ll (say L j v) ≡ ll (say L k w) → say L j v ≡ say L k w
  same_kind j k q = path_j (λ k q. (v : Pay j) (w : Pay k) → ll (say L j v) ≡ ll (say L k w) → say L j v ≡ say L k w) (λ v w e. ap (say L j) (same-values j v w e)) q

  module _ (kind-of : ℕ → Kind) (plain : Plain kind-of) where
    kinds-one : (j k : Kind) (v : Vals (sorts j)) (w : Vals (sorts k)) → map said_of (in-front (keyword j) ++ said (sorts j) v) ≡ map said_of (in-front (keyword k) ++ said (sorts k) w) → j ≡ k
    kinds-one j k v w e = go (keyword j) refl (keyword k) refl e
      where
        go : (a : Option Bytes) → keyword j ≡ a → (b : Option Bytes) → keyword k ≡ b → map said_of (in-front a ++ said (sorts j) v) ≡ map said_of (in-front b ++ said (sorts k) w) → j ≡ k
        go (some a) p (some b) q e = let i : a ≡ b = (let z = head-eq_of_cons-eq e in cc) in some-injective j k (sym (W.lookup_only a j p) ∙ ap lookup i ∙ W.lookup_only b k q)
        go (some a) p none q e = absurd (not-values a (map said_of (said (sorts j) v)) (sorts k) w e)
        go none p (some b) q e = absurd (not-values b (map said_of (said (sorts k) w)) (sorts j) v (sym e))
        go none p none q e = sym (plain j p).0 ∙ ap kind-of (sym (so-many (sorts j) v) ∙ ap length e ∙ so-many (sorts k) w) ∙ (plain k q).0

    pub line_one : (s t : S L) → ll s ≡ ll t → s ≡ t
    line_one s t e =
        let q = ap (map said_of) (sym (line-is A X Line-of W s.kind s.val)) ∙ e ∙ ap (map said_of) (line-is A X Line-of W t.kind t.val) in
        same_kind s.kind t.kind (kinds-one s.kind t.kind (W.parts s.kind s.val) (W.parts t.kind t.val) q) s.val t.val e

    pub said-one : (a b : List (S L)) → map ll a ≡ map ll b → a ≡ b
    said-one [] [] e = refl
    said-one [] (t ∷ b) e = nothing_else (ll t) (map ll b) e
    said-one (s ∷ a) [] e = nothing_else (ll s) (map ll a) (sym e)
    said-one (s ∷ a) (t ∷ b) e =
        let i = line_one s t (head-eq_of_cons-eq e) in
        let j = said-one a b (tail-eq_of_cons-eq e) in
        λ k. i k ∷ j k

    pub line-begins : (k : Kind) (v : Pay k) → Begins (Line-of k v)
    line-begins k v = subst Begins (sym (line-is A X Line-of W k v)) (go (keyword k) refl)
      where
        values : (ss : List Sort) (v : Vals ss) → Begins ss → Begins (said ss v)
        values [] v b = absurd b
        values (s ∷ ss) v b = tt

        go : (o : Option Bytes) → keyword k ≡ o → Begins (in-front o ++ said (sorts k) (W.parts k v))
        go none q = values (sorts k) (W.parts k v) (plain k q).1
        go (some w) q = tt

-- ## The RNDF: only a point has no keyword
rndf-plain : (d : Edition) → Plain (rndf_by Field (under d true)) (rndf_lexis_in d) (rndf_line_in_of d) (rndf-lawful d) (λ n. point)
rndf-plain d RNDF_name_of e = nothing (sym e)
rndf-plain d num_segments e = nothing (sym e)
rndf-plain d num_zones e = nothing (sym e)
rndf-plain d format_version_of e = nothing (sym e)
rndf-plain d creation_date_of e = nothing (sym e)
rndf-plain d segment e = nothing (sym e)
rndf-plain d num_lanes e = nothing (sym e)
rndf-plain d segment_name_of e = nothing (sym e)
rndf-plain d end_segment e = nothing (sym e)
rndf-plain d lane e = nothing (sym e)
rndf-plain d num_waypoints e = nothing (sym e)
rndf-plain d lane_width_of e = nothing (sym e)
rndf-plain d left_boundary_of e = nothing (sym e)
rndf-plain d right_boundary_of e = nothing (sym e)
rndf-plain d checkpoint e = nothing (sym e)
rndf-plain d stop e = nothing (sym e)
rndf-plain d exit e = nothing (sym e)
rndf-plain d end_lane_of e = nothing (sym e)
rndf-plain d zone e = nothing (sym e)
rndf-plain d num_spots e = nothing (sym e)
rndf-plain d zone_name_of e = nothing (sym e)
rndf-plain d end_zone e = nothing (sym e)
rndf-plain d perimeter e = nothing (sym e)
rndf-plain d num_perimeterpoints e = nothing (sym e)
rndf-plain d end_perimeter e = nothing (sym e)
rndf-plain d spot e = nothing (sym e)
rndf-plain d spot_width_of e = nothing (sym e)
rndf-plain d end_spot e = nothing (sym e)
rndf-plain d end_file_of e = nothing (sym e)
rndf-plain d point e = (refl, tt)

module _ (d : Edition) where
  abbrev places : Machine (Rndf.lines Field)
  places = rndf_by Field (under d true)

  pub rndf-line-one_in : (s t : Rndf.Statement Field) → rndf_law_line_in d s ≡ rndf_law_line_in d t → s ≡ t
  rndf-line-one_in = line_one places (rndf_lexis_in d) (rndf_line_in_of d) (rndf-lawful d) (λ n. point) (rndf-plain d)

  pub rndf-said-one_in : (a b : List (Rndf.Statement Field)) → map (rndf_law_line_in d) a ≡ map (rndf_law_line_in d) b → a ≡ b
  rndf-said-one_in = said-one places (rndf_lexis_in d) (rndf_line_in_of d) (rndf-lawful d) (λ n. point) (rndf-plain d)

  pub rndf-begins_in : (k : Rndf.Kind) (v : Rndf.Says Field k) → Begins (rndf_line_in_of d k v)
  rndf-begins_in = line-begins places (rndf_lexis_in d) (rndf_line_in_of d) (rndf-lawful d) (λ n. point) (rndf-plain d)

  -- the boundaries are those of the edition
  pub rndf-all : AllOf d (rndf_line_in_of d)
  unfolding rndf_line_in_of
  rndf-all RNDF_name_of v = (tt, (tt, tt))
  rndf-all num_segments v = (tt, (tt, tt))
  rndf-all num_zones v = (tt, (tt, tt))
  rndf-all format_version_of v = (tt, (tt, tt))
  rndf-all creation_date_of v = (tt, (tt, tt))
  rndf-all segment v = (tt, (tt, tt))
  rndf-all num_lanes v = (tt, (tt, tt))
  rndf-all segment_name_of v = (tt, (tt, tt))
  rndf-all end_segment v = (tt, tt)
  rndf-all lane v = (tt, (tt, tt))
  rndf-all num_waypoints v = (tt, (tt, tt))
  rndf-all lane_width_of v = (tt, (tt, tt))
  rndf-all left_boundary_of v = (tt, (refl, tt))
  rndf-all right_boundary_of v = (tt, (refl, tt))
  rndf-all checkpoint v = (tt, (tt, (tt, tt)))
  rndf-all stop v = (tt, (tt, tt))
  rndf-all exit v = (tt, (tt, (tt, tt)))
  rndf-all end_lane_of v = (tt, tt)
  rndf-all zone v = (tt, (tt, tt))
  rndf-all num_spots v = (tt, (tt, tt))
  rndf-all zone_name_of v = (tt, (tt, tt))
  rndf-all end_zone v = (tt, tt)
  rndf-all perimeter v = (tt, (tt, tt))
  rndf-all num_perimeterpoints v = (tt, (tt, tt))
  rndf-all end_perimeter v = (tt, tt)
  rndf-all spot v = (tt, (tt, tt))
  rndf-all spot_width_of v = (tt, (tt, tt))
  rndf-all end_spot v = (tt, tt)
  rndf-all end_file_of v = (tt, tt)
  rndf-all point v = (tt, (tt, (tt, tt)))

-- in the present edition
pub rndf-line-one : (s t : Rndf.Statement Field) → rndf_law_line s ≡ rndf_law_line t → s ≡ t
rndf-line-one = rndf-line-one_in march

pub rndf-said-one : (a b : List (Rndf.Statement Field)) → map rndf_law_line a ≡ map rndf_law_line b → a ≡ b
rndf-said-one = rndf-said-one_in march

pub rndf-begins : (k : Rndf.Kind) (v : Rndf.Says Field k) → Begins (the_rndf_line_of k v)
rndf-begins = rndf-begins_in march

-- ## The MDF: only a goal, with one field, and a limit, with more, have none
abbrev by-fields : ℕ → Mdf.Kind
by-fields zero = Mdf.goal
by-fields (suc zero) = Mdf.goal
by-fields (suc (suc n)) = Mdf.limit

mdf-plain : Plain (mdf Field) mdf_lexis the_mdf_line_of mdf-lawful by-fields
mdf-plain Mdf.MDF_name_of e = nothing (sym e)
mdf-plain Mdf.RNDF e = nothing (sym e)
mdf-plain Mdf.format_version_of e = nothing (sym e)
mdf-plain Mdf.creation_date_of e = nothing (sym e)
mdf-plain Mdf.checkpoints e = nothing (sym e)
mdf-plain Mdf.num_checkpoints e = nothing (sym e)
mdf-plain Mdf.end_checkpoints e = nothing (sym e)
mdf-plain Mdf.speed_limits e = nothing (sym e)
mdf-plain Mdf.num_speed_limits e = nothing (sym e)
mdf-plain Mdf.end_speed_limits e = nothing (sym e)
mdf-plain Mdf.end_file_of e = nothing (sym e)
mdf-plain Mdf.goal e = (refl, tt)
mdf-plain Mdf.limit e = (refl, tt)

pub mdf-line-one : (s t : Mdf.Statement Field) → mdf_law_line s ≡ mdf_law_line t → s ≡ t
mdf-line-one = line_one (mdf Field) mdf_lexis the_mdf_line_of mdf-lawful by-fields mdf-plain

pub mdf-said-one : (a b : List (Mdf.Statement Field)) → map mdf_law_line a ≡ map mdf_law_line b → a ≡ b
mdf-said-one = said-one (mdf Field) mdf_lexis the_mdf_line_of mdf-lawful by-fields mdf-plain

pub mdf-begins : (k : Mdf.Kind) (v : Mdf.Says Field k) → Begins (the_mdf_line_of k v)
mdf-begins = line-begins (mdf Field) mdf_lexis the_mdf_line_of mdf-lawful by-fields mdf-plain

-- an MDF has no boundaries
pub mdf-all : (d : Edition) → AllOf d the_mdf_line_of
unfolding the_mdf_line_of
mdf-all d Mdf.MDF_name_of v = (tt, (tt, tt))
mdf-all d Mdf.RNDF v = (tt, (tt, tt))
mdf-all d Mdf.format_version_of v = (tt, (tt, tt))
mdf-all d Mdf.creation_date_of v = (tt, (tt, tt))
mdf-all d Mdf.checkpoints v = (tt, tt)
mdf-all d Mdf.num_checkpoints v = (tt, (tt, tt))
mdf-all d Mdf.end_checkpoints v = (tt, tt)
mdf-all d Mdf.speed_limits v = (tt, tt)
mdf-all d Mdf.num_speed_limits v = (tt, (tt, tt))
mdf-all d Mdf.end_speed_limits v = (tt, tt)
mdf-all d Mdf.end_file_of v = (tt, tt)
mdf-all d Mdf.goal v = (tt, tt)
mdf-all d Mdf.limit v = (tt, (tt, (tt, tt)))
