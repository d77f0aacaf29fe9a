-- A line that a file takes says a statement exactly if it has fields. Assumes nothing.
use Rattle.std.specs.Prelude.{Ok, Err, Result}
use mathlib.Core.Path.{◌≡◌, refl, sym, ap, ◌∙◌}
use mathlib.Core.List.{List, [], ◌∷◌}
use mathlib.Core.Option.{Option, none, some}
use mathlib.Core.Bool.{Bool, true, false}
use Prim.Native.Nat.{ℕ}
use native.Mathlib.Omega.{arith}
use lib.ListN.{length, take}
use lib.Dec.{eqb}
use Rattle.terms.specs.Ascii.{Bytes}
use Rattle.line.specs.Content.{Field}
use Rattle.line.specs.Lines.{drop_cr}
use Rattle.line.specs.Forms.{form_of, fields_at}
use Rattle.grammar.specs.Language.{Lang, S, say}
use Rattle.grammar.specs.Machine.{Out, next, refuse, Machine, Place, step}
use Rattle.grammar.specs.Stands.{stands}
use Rattle.text.specs.Judge.{Verdict, fault, good, Lexis, Vals, check, read_all, kind_at, args, taken, valued, standing, of_kind, known, tell, told, formed, judge}
use Rattle.line_fields.specs.LineFields.{fields_by, line_fields_of}
use Rattle.walk.specs.Standing.{some_field, speaks}

-- what a verdict says of a statement: that there is one, or nothing where it is a fault
abbrev pub is_some : {A : Type 0} → Option A → Bool
is_some none = false
is_some (some a) = true

module _ {L : Lang} (A : Machine L) (X : Lexis L) where
  open L use {Kind}

  -- a verdict that is a fault, or has a statement
  Speaks : Verdict (S L) (Place A) → Type 0
  Speaks v = (o : Option (S L)) (q : Place A) → v ≡ good o q → is_some o ≡ true

  is-good : Verdict (S L) (Place A) → ℕ
  is-good (fault n) = 0
  is-good (good o q) = 1

  said_of : Verdict (S L) (Place A) → Option (S L)
  said_of (fault n) = none
  said_of (good o q) = o

  fault-speaks : (n : ℕ) → Speaks (fault n)
  unfolding is-good Speaks
  fault-speaks n o q e = absurd (let z : ◌≡◌ {A = ℕ} 0 1 = ap is-good e in omega arith)

  good-speaks : (t : S L) (q : Place A) → Speaks (good (some t) q)
  unfolding said_of Speaks
  good-speaks t q o p e = ap is_some (sym (ap said_of e))

  taken-speaks : (t : S L) (o : Out (Place A)) → Speaks (taken A X t o)
  taken-speaks t (next q) = good-speaks t q
  taken-speaks t (refuse c) = fault-speaks c

  valued-speaks : (p : Place A) (k : Kind) (o : Option (Vals (X.sorts k))) → Speaks (valued A X p k o)
  valued-speaks p k none = fault-speaks 8
  valued-speaks p k (some v) = taken-speaks (say L k (X.make k v)) (step A p (say L k (X.make k v)))

  check-speaks : (b : Bool) (n : ℕ) (v : Verdict (S L) (Place A)) → Speaks v → Speaks (check b n v)
  check-speaks true n v h = h
  check-speaks false n v h = fault-speaks n

  standing-speaks : (o : Option ℕ) (v : Verdict (S L) (Place A)) → Speaks v → Speaks (standing A X o v)
  standing-speaks none v h = h
  standing-speaks (some n) v h = fault-speaks n

  known-speaks : (p : Place A) (o : Option Kind) (f : Field) (fs : List Field) → Speaks (known A X p o f fs)
  known-speaks p none f fs = fault-speaks 5
  known-speaks p (some k) f fs =
      let rest = args A X (X.keyword k) f fs in
      let v = valued A X p k (read_all (X.sorts k) rest) in
      standing-speaks (stands A p k) (check (eqb (length rest) (length (X.sorts k))) 7 v) (check-speaks (eqb (length rest) (length (X.sorts k))) 7 v (valued-speaks p k (read_all (X.sorts k) rest)))

  tell-speaks : (p : Place A) (f : Field) (fs : List Field) → Speaks (tell A X p f fs)
  unfolding tell
  tell-speaks p f fs = known-speaks p (kind_at A X p f) f fs

  told_is : (p q : Place A) (fs : List Field) (o : Option (S L)) → told A X p fs ≡ good o q → some_field fs ≡ is_some o
  unfolding said_of Speaks
  told_is p q [] o e = ap is_some (ap said_of e)
  told_is p q (f ∷ fs) o e = sym (tell-speaks p f fs o q e)

  formed-is : (p q : Place A) (start : ℕ) (content : Bytes) (f : Result ℕ ℕ) (o : Option (S L)) → formed A X p start content f ≡ good o q → some_field (fields_by start content f) ≡ is_some o
  unfolding is-good
  formed-is p q start content (Err n) o e = absurd (let z : ◌≡◌ {A = ℕ} 0 1 = ap is-good e in omega arith)
  formed-is p q start content (Ok b) o e = told_is p q (fields_at start (take b content)) o e

  pub speaks_is : (p q : Place A) (start : ℕ) (line : Bytes) (o : Option (S L)) → judge A X p start line ≡ good o q → speaks start line ≡ is_some o
  unfolding judge speaks line_fields_of
  speaks_is p q start line o e = formed-is p q start (drop_cr line) (form_of (drop_cr line)) o e
