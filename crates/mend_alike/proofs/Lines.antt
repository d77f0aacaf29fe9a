-- THE LAW of a line: wherever it starts, it gets the same of the judge but for where its name starts (`line-alike`). Assumes nothing.
use Rattle.std.specs.Prelude.{Some, None, Ok, Err, Result}
use mathlib.Core.Path.{◌≡◌, refl, sym, ap, ◌∙◌}
use mathlib.Core.Bool.{Bool, true, false}
use mathlib.Core.Option.{Option, none, some}
use Prim.Native.Nat.{ℕ, ◌+◌}
use lib.ListN.{length, take, get_or}
use lib.Dec.{eqb, ltb}
use Rattle.terms.specs.Words.{Bytes, pick}
use Rattle.line.specs.Forms.{form_of, fields_in_of, part}
use Rattle.line.specs.Lines.{trim_of}
use Rattle.line.specs.declared.Fields.{Fields}
use Rattle.line.specs.declared.Span.{Span}
use Rattle.number.specs.Executable.{is_name_length_of}
use Rattle.grammar.specs.Editions.{Edition, march, december}
use Rattle.grammar.specs.Machine.{Out, next, refuse}
use Rattle.grammar.specs.PlaceTable.{rndf_table_of}
use Rattle.statement.specs.declared.Statement.{Statement}
use Rattle.statement.specs.declared.Statement.TheVariants as st
use Rattle.made_out.specs.Made.{shapes, needs_of, named_of, name_made_of, made_of, made_from}
use Rattle.place.specs.declared.Place.{Place}
use Rattle.place.specs.Step.{cell_of, refuses_by, due_of, option_of, by_cell, Outcome}
use Rattle.place.specs.Abstract.{seen}
use Rattle.judge.specs.Judging.{Got, bad, blank, said, taken, valued, of_kind, known, told, formed, content, line}
use Rattle.judge.specs.RndfLine.{rndf_kind}
use Rattle.edition_judge.specs.EditionLine.{bars_of, only_had, judging_in}
use Rattle.mend_alike.specs.Plain.{plain, plain_said}
use Rattle.std.specs.Prelude as Rust

-- ## A statement
plain-twice : (s : Statement) → plain (plain s) ≡ plain s
unfolding plain
plain-twice (st.RndfName a l) = refl
plain-twice (st.NumSegments n) = refl
plain-twice (st.NumZones n) = refl
plain-twice (st.FormatVersion a l) = refl
plain-twice (st.CreationDate a l) = refl
plain-twice (st.Segment n) = refl
plain-twice (st.NumLanes n) = refl
plain-twice (st.SegmentName a l) = refl
plain-twice st.EndSegment = refl
plain-twice (st.Lane m n) = refl
plain-twice (st.NumWaypoints n) = refl
plain-twice (st.LaneWidth n) = refl
plain-twice (st.LeftBoundary b) = refl
plain-twice (st.RightBoundary b) = refl
plain-twice (st.Checkpoint i n) = refl
plain-twice (st.Stop i) = refl
plain-twice (st.Exit i x) = refl
plain-twice st.EndLane = refl
plain-twice (st.Zone n) = refl
plain-twice (st.NumSpots n) = refl
plain-twice (st.ZoneName a l) = refl
plain-twice st.EndZone = refl
plain-twice (st.Perimeter m n) = refl
plain-twice (st.NumPerimeterpoints n) = refl
plain-twice st.EndPerimeter = refl
plain-twice (st.Spot m n) = refl
plain-twice (st.SpotWidth n) = refl
plain-twice st.EndSpot = refl
plain-twice st.EndFile = refl
plain-twice (st.Point i a o) = refl

-- no place asks for a name, and no edition does
cell-plain : (p : Place) (c : ℕ) (s : Statement) → by_cell p s c ≡ by_cell p (plain s) c
unfolding plain by_cell due_of option_of
cell-plain p c (st.RndfName a l) = refl
cell-plain p c (st.NumSegments n) = refl
cell-plain p c (st.NumZones n) = refl
cell-plain p c (st.FormatVersion a l) = refl
cell-plain p c (st.CreationDate a l) = refl
cell-plain p c (st.Segment n) = refl
cell-plain p c (st.NumLanes n) = refl
cell-plain p c (st.SegmentName a l) = refl
cell-plain p c st.EndSegment = refl
cell-plain p c (st.Lane m n) = refl
cell-plain p c (st.NumWaypoints n) = refl
cell-plain p c (st.LaneWidth n) = refl
cell-plain p c (st.LeftBoundary b) = refl
cell-plain p c (st.RightBoundary b) = refl
cell-plain p c (st.Checkpoint i n) = refl
cell-plain p c (st.Stop i) = refl
cell-plain p c (st.Exit i x) = refl
cell-plain p c st.EndLane = refl
cell-plain p c (st.Zone n) = refl
cell-plain p c (st.NumSpots n) = refl
cell-plain p c (st.ZoneName a l) = refl
cell-plain p c st.EndZone = refl
cell-plain p c (st.Perimeter m n) = refl
cell-plain p c (st.NumPerimeterpoints n) = refl
cell-plain p c st.EndPerimeter = refl
cell-plain p c (st.Spot m n) = refl
cell-plain p c (st.SpotWidth n) = refl
cell-plain p c st.EndSpot = refl
cell-plain p c st.EndFile = refl
cell-plain p c (st.Point i a o) = refl

bars-plain : (e : Edition) (s : Statement) → bars_of e s ≡ bars_of e (plain s)
unfolding plain bars_of
bars-plain march s = refl
bars-plain december (st.RndfName a l) = refl
bars-plain december (st.NumSegments n) = refl
bars-plain december (st.NumZones n) = refl
bars-plain december (st.FormatVersion a l) = refl
bars-plain december (st.CreationDate a l) = refl
bars-plain december (st.Segment n) = refl
bars-plain december (st.NumLanes n) = refl
bars-plain december (st.SegmentName a l) = refl
bars-plain december st.EndSegment = refl
bars-plain december (st.Lane m n) = refl
bars-plain december (st.NumWaypoints n) = refl
bars-plain december (st.LaneWidth n) = refl
bars-plain december (st.LeftBoundary b) = refl
bars-plain december (st.RightBoundary b) = refl
bars-plain december (st.Checkpoint i n) = refl
bars-plain december (st.Stop i) = refl
bars-plain december (st.Exit i x) = refl
bars-plain december st.EndLane = refl
bars-plain december (st.Zone n) = refl
bars-plain december (st.NumSpots n) = refl
bars-plain december (st.ZoneName a l) = refl
bars-plain december st.EndZone = refl
bars-plain december (st.Perimeter m n) = refl
bars-plain december (st.NumPerimeterpoints n) = refl
bars-plain december st.EndPerimeter = refl
bars-plain december (st.Spot m n) = refl
bars-plain december (st.SpotWidth n) = refl
bars-plain december st.EndSpot = refl
bars-plain december st.EndFile = refl
bars-plain december (st.Point i a o) = refl

step-plain : (e : Edition) (p : Place) (c : ℕ) (s : Statement) → only_had e s (seen (by_cell p s c)) ≡ only_had e (plain s) (seen (by_cell p (plain s) c))
step-plain e p c s = had (seen (by_cell p s c)) ∙ ap (λ (o : Outcome). only_had e (plain s) (seen o)) (cell-plain p c s)
  where
    had : (o : Out Place) → only_had e s o ≡ only_had e (plain s) o
    had (next q) = ap (λ (n : ℕ). pick (eqb n 0) (next q) (refuse n)) (bars-plain e s)
    had (refuse n) = refl

-- ## What fields make
abbrev plainly-told : Option Statement → Option Statement
plainly-told none = none
plainly-told (some s) = some (plain s)

abbrev plainly-made : Rust.Option Statement → Rust.Option Statement
plainly-made None = None
plainly-made (Some s) = Some (plain s)

named-alike : (k a b l : ℕ) → plain (named_of k a l) ≡ plain (named_of k b l)
unfolding named_of plain
named-alike k a b l = go (eqb k 0) (eqb k 3) (eqb k 4) (eqb k 7)
  where
    go : (x y z u : Bool) → plain (pick x (st.RndfName a l) (pick y (st.FormatVersion a l) (pick z (st.CreationDate a l) (pick u (st.SegmentName a l) (st.ZoneName a l)))))
        ≡ plain (pick x (st.RndfName b l) (pick y (st.FormatVersion b l) (pick z (st.CreationDate b l) (pick u (st.SegmentName b l) (st.ZoneName b l)))))
    go true y z u = refl
    go false true z u = refl
    go false false true u = refl
    go false false false true = refl
    go false false false false = refl

name-alike : (k a b : ℕ) (s : Bytes) (f : Span) → plainly-made (name_made_of k a s f) ≡ plainly-made (name_made_of k b s f)
unfolding name_made_of
name-alike k a b s f = go (is_name_length_of (length (part s f)))
  where
    go : (x : Bool) → plainly-made (pick x (Some (named_of k (a + f.start) (length (part s f)))) None) ≡ plainly-made (pick x (Some (named_of k (b + f.start) (length (part s f)))) None)
    go true = ap (λ (t : Statement). Some t) (named-alike k (a + f.start) (b + f.start) (length (part s f)))
    go false = refl

-- only a name knows where its line starts
shape-alike : (x y : Bool) (u v w r : Rust.Option Statement) → plainly-made v ≡ plainly-made w → plainly-made (pick x u (pick y v r)) ≡ plainly-made (pick x u (pick y w r))
shape-alike true y u v w r h = refl
shape-alike false true u v w r h = h
shape-alike false false u v w r h = refl

made_alike : (s : Bytes) (a b : ℕ) (f : Fields) (k : ℕ) → plainly-made (made_of s a f k) ≡ plainly-made (made_of s b f k)
unfolding made_of
made_alike s a b f k = shape-alike (eqb (get_or shapes k 0) 0) (eqb (get_or shapes k 0) 1) _ (name_made_of k a s f.b) (name_made_of k b s f.b) _ (name-alike k a b s f.b)

told-alike : (x y : Rust.Option Statement) → plainly-made x ≡ plainly-made y → plainly-told (made_from x) ≡ plainly-told (made_from y)
told-alike x y h = through x ∙ ap made_from h ∙ sym (through y)
  where
    through : (x : Rust.Option Statement) → plainly-told (made_from x) ≡ made_from (plainly-made x)
    through None = refl
    through (Some s) = refl

-- ## A line
module _ (e : Edition) (p : Place) where
  taken-plain : (c : ℕ) (s : Statement) → plain_said (taken (judging_in e) s (only_had e s (seen (by_cell p s c)))) ≡ plain_said (taken (judging_in e) (plain s) (only_had e (plain s) (seen (by_cell p (plain s) c))))
  taken-plain c s = ap (λ (o : Out Place). plain_said (taken (judging_in e) s o)) (step-plain e p c s) ∙ go (only_had e (plain s) (seen (by_cell p (plain s) c)))
    where
      go : (o : Out Place) → plain_said (taken (judging_in e) s o) ≡ plain_said (taken (judging_in e) (plain s) o)
      go (next q) = ap (λ (t : Statement). said t q) (sym (plain-twice s))
      go (refuse n) = refl

  valued-alike : (c : ℕ) (x y : Option Statement) → plainly-told x ≡ plainly-told y → plain_said (valued (judging_in e) p c x) ≡ plain_said (valued (judging_in e) p c y)
  valued-alike c x y h = through x ∙ ap (λ (o : Option Statement). plain_said (valued (judging_in e) p c o)) h ∙ sym (through y)
    where
      through : (x : Option Statement) → plain_said (valued (judging_in e) p c x) ≡ plain_said (valued (judging_in e) p c (plainly-told x))
      through none = refl
      through (some s) = taken-plain c s

  -- three tests before it
  three-alike : (x y z : Bool) (g h : Got Statement Place) (k m n : Got Statement Place) → plain_said g ≡ plain_said h → plain_said (pick x (pick y (pick z g k) m) n) ≡ plain_said (pick x (pick y (pick z h k) m) n)
  three-alike true true true g h k m n q = q
  three-alike true true false g h k m n q = refl
  three-alike true false z g h k m n q = refl
  three-alike false y z g h k m n q = refl

  known_alike : (s : Bytes) (a b : ℕ) (f : Fields) (k : ℕ) → plain_said (known (judging_in e) s a f p k) ≡ plain_said (known (judging_in e) s b f p k)
  unfolding known of_kind
  known_alike s a b f k =
      let c = cell_of rndf_table_of p k in
      three-alike (ltb k 30) (eqb (refuses_by p.given c) 0) (eqb f.count (needs_of (get_or shapes k 0))) (valued (judging_in e) p c (made_from (made_of s a f k))) (valued (judging_in e) p c (made_from (made_of s b f k)))
      (bad 7) (bad (refuses_by p.given c)) (bad 5) (valued-alike c (made_from (made_of s a f k)) (made_from (made_of s b f k)) (told-alike (made_of s a f k) (made_of s b f k) (made_alike s a b f k)))

  body_alike : (s : Bytes) (a b : ℕ) → plain_said (told (judging_in e) s a p) ≡ plain_said (told (judging_in e) s b p)
  unfolding told
  body_alike s a b = go (eqb (fields_in_of s).count 0)
    where
      go : (x : Bool) → plain_said (pick x blank (known (judging_in e) s a (fields_in_of s) p (rndf_kind (part s (fields_in_of s).a)))) ≡ plain_said (pick x blank (known (judging_in e) s b (fields_in_of s) p (rndf_kind (part s (fields_in_of s).a))))
      go true = refl
      go false = known_alike s a b (fields_in_of s) (rndf_kind (part s (fields_in_of s).a))

  formed-alike : (s : Bytes) (a b : ℕ) (o : Result ℕ ℕ) → plain_said (formed (judging_in e) s a p o) ≡ plain_said (formed (judging_in e) s b p o)
  formed-alike s a b (Err n) = refl
  formed-alike s a b (Ok k) = body_alike (take k s) a b

pub line-alike : (e : Edition) (l : Bytes) (a b : ℕ) (p : Place) → plain_said (line (judging_in e) l a p) ≡ plain_said (line (judging_in e) l b p)
unfolding line content
line-alike e l a b p = formed-alike e p (take (trim_of l) l) a b (form_of (take (trim_of l) l))
