-- The names of what a text spells are names: they stood in its fields. Assumes nothing.
use mathlib.Core.Path.{◌≡◌, refl, sym, subst}
use mathlib.Core.List.{List, [], ◌∷◌}
use mathlib.Core.Option.{Option, none, some}
use Prim.Native.Nat.{ℕ}
use Rattle.terms.specs.Ascii.{Bytes}
use Rattle.terms.specs.Words.{Each, perhaps, InTurn, nothing, then}
use Rattle.terms.proofs.Lists.{each_map}
use Rattle.line.specs.Content.{Field, IsField}
use Rattle.line.proofs.Spelled.{fields-each}
use Rattle.grammar.specs.Language.{Lang, Stmt, S, say, as_kind, all_of}
use Rattle.grammar.specs.Statements.{Statement, lines, format_version_of, creation_date_of, segment_name_of, zone_name_of}
use Rattle.grammar.specs.MissionStatements as M
use Rattle.grammar.specs.Network.{Segment, Zone, Network, SpellsSegment, SpellsZone, SpellsNetwork}
use Rattle.grammar.specs.Mission.{Mission, SpellsMission}
use Rattle.grammar.proofs.LanguageLaws.{as-inv, all-some, all_none}
use Rattle.grammar.proofs.Rows.{each-front, each-behind}
use Rattle.text.specs.Said.{Said, word, name, integer, pair, triple, coordinate, boundary, SpellsField, SpellFields}
use Rattle.text.specs.RndfLines.{rndf_line_in_of, the_rndf_line_of}
use Rattle.text.specs.MdfLines.{the_mdf_line_of}
use Rattle.text.specs.Spelling.{SpellsLine, says, SpellsLines, done, blank_line_of, statement, SpellsRndf, SpellsMdf}
use Rattle.house_text.specs.Names.{IsName, NetworkNames, MissionNames}

-- ## What a line says
abbrev Told : Said → Type 0
Told (word w) = Unit {0}
Told (name f) = IsName f
Told (integer n) = Unit {0}
Told (pair i) = Unit {0}
Told (triple i) = Unit {0}
Told (coordinate z) = Unit {0}
Told (boundary d b) = Unit {0}

told-by : (f : Field) (s : Said) → IsField f.bytes → SpellsField f s → Told s
told-by f (word w) i h = tt
told-by f (name g) i h = subst IsName h.0 (record { is_field = i; long = h.1 })
told-by f (integer n) i h = tt
told-by f (pair p) i h = tt
told-by f (triple p) i h = tt
told-by f (coordinate z) i h = tt
told-by f (boundary d b) i h = tt

told-all : (fs : List Field) (said : List Said) → Each (λ f. IsField f.bytes) fs → SpellFields fs said → Each Told said
told-all [] [] i h = tt
told-all [] (s ∷ said) i h = absurd h
told-all (f ∷ fs) [] i h = absurd h
told-all (f ∷ fs) (s ∷ said) i h = (told-by f s i.0 h.0, told-all fs said i.1 h.1)

module _ {Kind : Type 0} {Pay : Kind → Type 0} (Line-of : (k : Kind) → Pay k → List Said) where
  abbrev TellsNames : Stmt Kind Pay → Type 0
  TellsNames s = Each Told (Line-of s.kind s.val)

  line-names : (a : ℕ) (l : Bytes) (s : Stmt Kind Pay) → SpellsLine Line-of a l (some s) → TellsNames s
  line-names a l s (says {fields = fs} e c t) = told-all fs (Line-of s.kind s.val) (fields-each c.fielded) t

  lines-names : {a : ℕ} {ls : List Bytes} {said : List (Stmt Kind Pay)} → SpellsLines Line-of a ls said → Each TellsNames said
  lines-names done = tt
  lines-names (blank_line_of h r) = lines-names r
  lines-names (statement {start = a} {line = l} {s = s} h r) = (line-names a l s h, lines-names r)

-- ## Statements of one kind, and parts in turn
each-of-kind : (L : Lang) (Q : S L → Type 0) (k : L.Kind) (os : List (S L)) → Each Q os → Each (λ v. Q (say L k v)) (all_of L k os)
each-of-kind L Q k [] e = tt
each-of-kind L Q k (s ∷ os) e = go (as_kind L k s) refl (each-of-kind L Q k os e.1)
  where
    go : (x : Option (L.Pay k)) → as_kind L k s ≡ x → Each (λ v. Q (say L k v)) (all_of L k os) → Each (λ v. Q (say L k v)) (all_of L k (s ∷ os))
    go (some v) q ih = subst (Each (λ v. Q (say L k v))) (sym (all-some L k s os v q)) (subst Q (as-inv L k s v q) e.0, ih)
    go none q ih = subst (Each (λ v. Q (say L k v))) (sym (all_none L k s os q)) ih

-- what the options of one kind say
option-each : (L : Lang) (Q : S L → Type 0) (k : L.Kind) (P : L.Pay k → Type 0) → ((v : L.Pay k) → Q (say L k v) → P v) → (os : List (S L)) (l : List (L.Pay k)) → all_of L k os ≡ l → Each Q os → Each P l
option-each L Q k P h os l e q = each_map (λ v. Q (say L k v)) P h l (subst (Each (λ v. Q (say L k v))) e (each-of-kind L Q k os q))

turn-each : {A X : Type 0} (Sp : ℕ → A → List X → Type 0) (Q : X → Type 0) (R : A → Type 0) → ((i : ℕ) (a : A) (u : List X) → Sp i a u → Each Q u → R a) → {i : ℕ} {l : List A} {w : List X} → InTurn Sp i l w → Each Q w → Each R l
turn-each Sp Q R h nothing e = tt
turn-each Sp Q R h (then {i = i} {a = a} {u = u} {v = v} s t) e = (h i a u s (each-front Q u v e), turn-each Sp Q R h t (each-behind Q u v e))

-- ## RNDF
abbrev Q : Statement Field → Type 0
Q = TellsNames the_rndf_line_of

segment-names : (i : ℕ) (a : Segment Field) (l : List (Statement Field)) → SpellsSegment i a l → Each Q l → Each IsName (perhaps a.name)
unfolding rndf_line_in_of
segment-names i a l s h =
    let e = subst (Each Q) s.spelled h in
    option-each (lines Field) Q segment_name_of IsName (λ v q. q.1.0) s.options (perhaps a.name) s.given.name (each-front Q s.options _ e.1.1)

zone-names : (i : ℕ) (a : Zone Field) (l : List (Statement Field)) → SpellsZone i a l → Each Q l → Each IsName (perhaps a.name)
unfolding rndf_line_in_of
zone-names i a l s h =
    let e = subst (Each Q) s.spelled h in
    option-each (lines Field) Q zone_name_of IsName (λ v q. q.1.0) s.options (perhaps a.name) s.given.name (each-front Q s.options _ e.1.1)

network-names : (n : Network Field) (l : List (Statement Field)) → SpellsNetwork n l → Each Q l → NetworkNames n
unfolding rndf_line_in_of
network-names n l s h =
    let e = subst (Each Q) s.spelled h in
    let os = each-front Q s.options _ e.1.1.1 in
    let rest = each-behind Q s.options _ e.1.1.1 in
    record {
      name = e.0.1.0;
      version = option-each (lines Field) Q format_version_of IsName (λ v q. q.1.0) s.options (perhaps n.version) s.given.version os;
      date = option-each (lines Field) Q creation_date_of IsName (λ v q. q.1.0) s.options (perhaps n.date) s.given.date os;
      segments = turn-each SpellsSegment Q (λ a. Each IsName (perhaps a.name)) segment-names s.each_segment (each-front Q s.segments _ rest);
      zones = turn-each SpellsZone Q (λ a. Each IsName (perhaps a.name)) zone-names s.each_zone (each-front Q s.zones _ (each-behind Q s.segments _ rest));
    }

-- THE LAW
pub rndf-names : (n : Network Field) (text : Bytes) → SpellsRndf n text → NetworkNames n
rndf-names n text s = network-names n s.said s.net (lines-names the_rndf_line_of s.each)

-- ## MDF
abbrev Q-m : M.Statement Field → Type 0
Q-m = TellsNames the_mdf_line_of

mission_names : (m : Mission Field) (l : List (M.Statement Field)) → SpellsMission m l → Each Q-m l → MissionNames m
unfolding the_mdf_line_of
mission_names m l s h =
    let e = subst (Each Q-m) s.spelled h in
    let os = each-front Q-m s.options _ e.1.1 in
    record {
      name = e.0.1.0;
      rndf = e.1.0.1.0;
      version = option-each (M.orders Field) Q-m M.format_version_of IsName (λ v q. q.1.0) s.options (perhaps m.version) s.given.version os;
      date = option-each (M.orders Field) Q-m M.creation_date_of IsName (λ v q. q.1.0) s.options (perhaps m.date) s.given.date os;
    }

pub mdf-names : (m : Mission Field) (text : Bytes) → SpellsMdf m text → MissionNames m
mdf-names m text s = mission_names m s.said s.net (lines-names the_mdf_line_of s.each)
