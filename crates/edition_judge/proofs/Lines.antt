-- One line of an edition, as the program tells it: what the present edition says of it, but for what this one does not have. Assumes nothing.
use Rattle.std.specs.Prelude.{Ok, Err, Result}
use mathlib.Core.Path.{◌≡◌, refl}
use mathlib.Core.Option.{Option, none, some}
use mathlib.Core.Bool.{Bool, true, false}
use Prim.Native.Nat.{ℕ}
use lib.ListN.{take, get_or}
use lib.Dec.{eqb, ltb}
use Rattle.terms.specs.Ascii.{Bytes}
use Rattle.terms.specs.Words.{pick}
use Rattle.line.specs.Lines.{trim_of}
use Rattle.line.specs.Forms.{form_of, fields_in_of, part}
use Rattle.line.specs.declared.Fields.{Fields}
use Rattle.grammar.specs.Editions.{Edition}
use Rattle.grammar.specs.Machine.{Out, next, refuse}
use Rattle.grammar.specs.PlaceTable.{rndf_table_of}
use Rattle.statement.specs.declared.Statement.{Statement}
use Rattle.made_out.specs.Made.{shapes, needs_of, made_of, made_from}
use Rattle.place.specs.declared.Place.{Place}
use Rattle.place.specs.Step.{cell_of, refuses_by, by_cell}
use Rattle.place.specs.Abstract.{seen}
use Rattle.judge.specs.Judging.{Got, bad, blank, said, taken, valued, of_kind, known, told, formed, content, line}
use Rattle.judge.specs.RndfLine.{rndf_kind, rndf_judging}
use Rattle.edition_judge.specs.EditionLine.{bars_of, only_had, judging_in}

module _ (e : Edition) where
  abbrev pub bar_got : Got Statement Place → Got Statement Place
  bar_got (bad n) = bad n
  bar_got blank = blank
  bar_got (said s q) = pick (eqb (bars_of e s) 0) (said s q) (bad (bars_of e s))

  both : (b : Bool) (x y x' y' : Got Statement Place) → x' ≡ bar_got x → y' ≡ bar_got y → pick b x' y' ≡ bar_got (pick b x y)
  both true x y x' y' h k = h
  both false x y x' y' h k = k

  taken-so : (s : Statement) (o : Out Place) → taken (judging_in e) s (only_had e s o) ≡ bar_got (taken rndf_judging s o)
  taken-so s (refuse n) = refl
  taken-so s (next q) = go (eqb (bars_of e s) 0)
    where
      go : (b : Bool) → taken (judging_in e) s (pick b (next q) (refuse (bars_of e s))) ≡ pick b (said s q) (bad (bars_of e s))
      go true = refl
      go false = refl

  valued-so : (p : Place) (c : ℕ) (o : Option Statement) → valued (judging_in e) p c o ≡ bar_got (valued rndf_judging p c o)
  valued-so p c none = refl
  valued-so p c (some s) = taken-so s (seen (by_cell p s c))

  of-kind-so : (s : Bytes) (base : ℕ) (f : Fields) (p : Place) (k : ℕ) → of_kind (judging_in e) s base f p k ≡ bar_got (of_kind rndf_judging s base f p k)
  unfolding of_kind
  of-kind-so s base f p k =
      let c = cell_of rndf_table_of p k in
      let v = made_from (made_of s base f k) in
      both (eqb (refuses_by p.given c) 0) (pick (eqb f.count (needs_of (get_or shapes k 0))) (valued rndf_judging p c v) (bad 7)) (bad (refuses_by p.given c)) _ _
      (both (eqb f.count (needs_of (get_or shapes k 0))) (valued rndf_judging p c v) (bad 7) _ _ (valued-so p c v) refl) refl

  known_so : (s : Bytes) (base : ℕ) (f : Fields) (p : Place) (k : ℕ) → known (judging_in e) s base f p k ≡ bar_got (known rndf_judging s base f p k)
  unfolding known
  known_so s base f p k = both (ltb k 30) (of_kind rndf_judging s base f p k) (bad 5) _ _ (of-kind-so s base f p k) refl

  told-so : (s : Bytes) (base : ℕ) (p : Place) → told (judging_in e) s base p ≡ bar_got (told rndf_judging s base p)
  unfolding told
  told-so s base p =
      let k = rndf_kind (part s (fields_in_of s).a) in
      both (eqb (fields_in_of s).count 0) blank (known rndf_judging s base (fields_in_of s) p k) _ _ refl (known_so s base (fields_in_of s) p k)

  formed-so : (s : Bytes) (base : ℕ) (p : Place) (f : Result ℕ ℕ) → formed (judging_in e) s base p f ≡ bar_got (formed rndf_judging s base p f)
  formed-so s base p (Err n) = refl
  formed-so s base p (Ok n) = told-so (take n s) base p

  -- THE LINE
  pub line-so : (s : Bytes) (base : ℕ) (p : Place) → line (judging_in e) s base p ≡ bar_got (line rndf_judging s base p)
  unfolding line content
  line-so s base p = formed-so (take (trim_of s) s) base p (form_of (take (trim_of s) s))
