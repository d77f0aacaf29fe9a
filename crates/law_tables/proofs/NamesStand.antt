-- THE NAMES of a spelled text: each stands in it, and has a byte at least. Document 01, "Tables": "A name is its start and length in the lent text". Assumes nothing.
use mathlib.Core.Path.{◌≡◌, subst}
use mathlib.Core.List.{List, [], ◌∷◌, ◌++◌, map}
use mathlib.Core.Option.{Option, none, some}
use Prim.Native.Nat.{ℕ, ◌≤◌}
use lib.ListN.{length}
use Rattle.terms.specs.Ascii.{Bytes}
use Rattle.terms.specs.Words.{Each, InTurn, nothing, then, perhaps}
use Rattle.line.specs.Content.{Field, Content}
use Rattle.line.specs.Text.{Ended}
use Rattle.line.specs.Located.{Within, EachLine}
use Rattle.line.proofs.Located.{cut-fields}
use Rattle.law.specs.Network.{Network, Mission, Segment, Zone, Said, Line, word, name, numbers, coordinate, boundary, march_2007, SpellFields, Mixed, left, right, AnyOrder, line, SpellsSegment, SpellsZone, SayLines, done, blank, statement, file_options, present}
use Rattle.law.specs.Network as Law
use Rattle.law.specs.Short.{SpellsRndf, SpellsMdf}
use Rattle.rows.specs.Read.{the_stretch_of}
use Rattle.rows.specs.Name.{name_of}
use Rattle.table_words.proofs.Named.{asked as within-asked}

-- ## What is said of every line of a list holds of every line of its parts
parted : {A : Type 0} (P : A → Type 0) (l r : List A) → Each P (l ++ r) → Each P l × Each P r
parted P [] r e = (tt, e)
parted P (a ∷ l) r e = let k = parted P l r e.1 in ((e.0, k.0), k.1)

pub unmixed : {A : Type 0} (P : A → Type 0) {l r both : List A} → Mixed l r both → Each P both → Each P l × Each P r
unmixed P Law.none e = (tt, tt)
unmixed P (left m) e = let k = unmixed P m e.1 in ((e.0, k.0), k.1)
unmixed P (right m) e = let k = unmixed P m e.1 in (k.0, (e.0, k.1))

module _ (text : Bytes) where
  pub record Stands (f : Field) : Type 0 where
    pub within : Within 0 text f
    pub some_byte : 1 ≤ length f.bytes

  -- asking for it gives its bytes
  pub asked : (f : Field) → Stands f → name_of text (the_stretch_of f.start (length f.bytes)) ≡ f.bytes
  asked f s = within-asked text f s.within

  -- ## Every name that a line says
  abbrev SaidStands : Said → Type 0
  SaidStands (word w) = Unit {0}
  SaidStands (name f) = Stands f
  SaidStands (numbers l) = Unit {0}
  SaidStands (coordinate z) = Unit {0}
  SaidStands (boundary b) = Unit {0}

  fields_stand : (fs : List Field) (ss : Line) → Each (Within 0 text) fs → SpellFields march_2007 fs ss → Each SaidStands ss
  fields_stand [] [] e h = tt
  fields_stand [] (s ∷ ss) e h = absurd h
  fields_stand (f ∷ fs) [] e h = absurd h
  fields_stand (f ∷ fs) (word w ∷ ss) e h = (tt, fields_stand fs ss e.1 h.1)
  fields_stand (f ∷ fs) (name g ∷ ss) e h = (subst Stands h.0.0 (record { within = e.0; some_byte = h.0.1.low }), fields_stand fs ss e.1 h.1)
  fields_stand (f ∷ fs) (numbers l ∷ ss) e h = (tt, fields_stand fs ss e.1 h.1)
  fields_stand (f ∷ fs) (coordinate z ∷ ss) e h = (tt, fields_stand fs ss e.1 h.1)
  fields_stand (f ∷ fs) (boundary b ∷ ss) e h = (tt, fields_stand fs ss e.1 h.1)

  abbrev FieldsStand : ℕ → Bytes → Type 0
  FieldsStand a l = (c : Bytes) (fs : List Field) → Ended l c → Content a c fs → Each (Within 0 text) fs

  abbrev LineStands : Line → Type 0
  LineStands = Each SaidStands

  lines_stand : {a : ℕ} {ls : List Bytes} {said : List Line} → EachLine FieldsStand a ls → SayLines present a ls said → Each LineStands said
  lines_stand h done = tt
  lines_stand h (blank s rest) = lines_stand h.1 rest
  lines_stand h (statement {s = s} {said = said} x rest) = (fields_stand x.fields (s ∷ said) (h.0 x.content x.fields x.ended x.fielded) x.spelled, lines_stand h.1 rest)

  -- ## Every name of a network or a mission
  -- a name that is given on a line of its own, or missing
  abbrev pub Given : Option Field → Type 0
  Given v = Each Stands (perhaps v)

  given : (Line-of : Field → Line) → ((v : Field) → LineStands (Line-of v) → Stands v) → (v : Option Field) → Each LineStands (map Line-of (perhaps v)) → Given v
  given Line-of at none e = tt
  given Line-of at (some v) e = (at v e.0, tt)

  file-given : (version date : Option Field) (options : List Line) → AnyOrder (file_options version date) options → Each LineStands options → Given version × Given date
  file-given version date options o e =
      let a = unmixed LineStands o.2 e in
      let b = unmixed LineStands o.1.2 a.1 in
      (given (λ v. line "format_version" (name v ∷ [])) (λ v k. k.1.0) version a.0, given (λ v. line "creation_date" (name v ∷ [])) (λ v k. k.1.0) date b.0)

  in-segments : {i : ℕ} {ss : List (Segment Field)} {said : List Line} → InTurn (SpellsSegment present) i ss said → Each LineStands said → Each (λ s. Given s.name) ss
  in-segments nothing e = tt
  in-segments (then {a = a} {u = u} {v = v} s rest) e =
      let k = parted LineStands u v e in
      let l = subst (Each LineStands) s.spelled k.0 in
      let p = parted LineStands (map (λ v. line "segment_name" (name v ∷ [])) (perhaps a.name)) (s.lanes ++ (line "end_segment" [] ∷ [])) l.1.1 in
      (given (λ v. line "segment_name" (name v ∷ [])) (λ v k. k.1.0) a.name p.0, in-segments rest k.1)

  in-zones : {i : ℕ} {zs : List (Zone Field)} {said : List Line} → InTurn (SpellsZone present) i zs said → Each LineStands said → Each (λ z. Given z.name) zs
  in-zones nothing e = tt
  in-zones (then {a = a} {u = u} {v = v} s rest) e =
      let k = parted LineStands u v e in
      let l = subst (Each LineStands) s.spelled k.0 in
      let p = parted LineStands (map (λ v. line "zone_name" (name v ∷ [])) (perhaps a.name)) (s.border ++ (s.spots ++ (line "end_zone" [] ∷ []))) l.1.1 in
      (given (λ v. line "zone_name" (name v ∷ [])) (λ v k. k.1.0) a.name p.0, in-zones rest k.1)

  pub record NamesStand (n : Network Field) : Type 0 where
    pub name : Stands n.name
    pub version : Given n.version
    pub date : Given n.date
    pub segments : Each (λ s. Given s.name) n.segments
    pub zones : Each (λ z. Given z.name) n.zones

  pub record MissionNamesStand (m : Mission Field) : Type 0 where
    pub name : Stands m.name
    pub rndf : Stands m.rndf
    pub version : Given m.version
    pub date : Given m.date

  -- THE LAWS
  pub names_stand : (n : Network Field) → SpellsRndf n text → NamesStand n
  names_stand n h =
      let x = h.net in
      let e = subst (Each LineStands) x.spelled (lines_stand (cut-fields h.cut) h.each) in
      let a = parted LineStands x.options (x.segments ++ (x.zones ++ (line "end_file" [] ∷ []))) e.1.1.1 in
      let b = parted LineStands x.segments (x.zones ++ (line "end_file" [] ∷ [])) a.1 in
      let c = parted LineStands x.zones (line "end_file" [] ∷ []) b.1 in
      let f = file-given n.version n.date x.options x.given a.0 in
      record { name = e.0.1.0; version = f.0; date = f.1; segments = in-segments x.each_segment b.0; zones = in-zones x.each_zone c.0 }

  pub mission-names_stand : (m : Mission Field) → SpellsMdf m text → MissionNamesStand m
  mission-names_stand m h =
      let x = h.net in
      let e = subst (Each LineStands) x.spelled (lines_stand (cut-fields h.cut) h.each) in
      let a = parted LineStands x.options _ e.1.1 in
      let f = file-given m.version m.date x.options x.given a.0 in
      record { name = e.0.1.0; rndf = e.1.0.1.0; version = f.0; date = f.1 }
