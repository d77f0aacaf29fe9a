-- What the theorems ask of a file: its laws, that its statements spell as the law's lines do, and a few facts of its places that are seen by going through them. Assumes nothing.
use mathlib.Core.Path.{◌≡◌}
use mathlib.Core.List.{List, ◌∷◌, map}
use mathlib.Core.Option.{Option, none, some}
use Prim.Native.Nat.{ℕ}
use lib.Dec.{T}
use Rattle.terms.specs.Ascii.{Bytes}
use Rattle.terms.specs.Words.{Each, Among}
use Rattle.grammar.specs.Editions.{Edition}
use Rattle.grammar.specs.Language.{Lang, S, say}
use Rattle.grammar.specs.Machine.{Machine, Place, step}
use Rattle.grammar.proofs.Keeping.{GoodNext}
use Rattle.text.specs.Said as Old
use Rattle.text.specs.Judge.{Vals, Lexis}
use Rattle.text.proofs.TextReading.{File}
use Rattle.law.specs.Network.{Line, numbers, Rules}
use Rattle.law.specs.Faults.{options}
use Rattle.law_spelling.specs.LineOf.{AllOf, law_line}
use Rattle.law_spelling.proofs.Lines.{Begins}
use Rattle.law_faults.proofs.Sorts.{law-said}
use Rattle.law_faults.proofs.Moved.{Alike}

-- the keyword is one of an option
abbrev pub Listed : Option Bytes → Type 0
Listed none = ⊥
Listed (some w) = Among w options

-- each option of a base has a value that is permitted
abbrev pub Values : {L : Lang} (A : Machine L) → A.Base → Type 0
Values {L} A b = Each (λ o. (v : L.Pay o.on) × T (o.test v)) (A.opts b)

-- ed: the edition; Said: how statements spell; Spells: how lines do, by these rules
pub record Needs (ed : Edition) (rules : Rules) {L : Lang} (A : Machine L) (X : Lexis L) (Line-of : (k : L.Kind) → L.Pay k → List Old.Said) {Net : Type 0} (Said : Net → List (S L) → Type 0) (Spells : Rules → Net → List Line → Type 0) (first : A.Base) : Type 1 where
  pub file : File A X Line-of Said first
  -- statements and lines spell the same, and a line is one statement's
  pub to : (n : Net) (l : List (S L)) → Said n l → Spells rules n (map (law_line Line-of) l)
  pub back : (n : Net) (lines : List Line) → Spells rules n lines → (l : List (S L)) × (lines ≡ map (law_line Line-of) l) × Said n l
  pub one : (s t : S L) → law_line Line-of s ≡ law_line Line-of t → s ≡ t
  -- boundaries are of the edition
  pub all : AllOf ed Line-of
  pub begins : (k : L.Kind) (v : L.Pay k) → Begins (Line-of k v)
  -- where an option may stand, some value of it is permitted
  pub values_first : Values A first
  pub values_after : (b : A.Base) (v : L.Pay (A.due b).on) → T ((A.due b).test v) → GoodNext A (Values A) ((A.due b).then v)
  -- the options are those that the law lists, and no due statement is one of them
  pub listed : (b : A.Base) → Each (λ o. Listed (X.keyword o.on)) (A.opts b)
  pub unlisted : (b : A.Base) → Listed (X.keyword (A.due b).on) → ⊥
  -- a line without a keyword begins with numbers
  pub numeric : (k : L.Kind) → X.keyword k ≡ none → (w : Vals (X.sorts k)) → (i : List ℕ) × (l : Line) × (law-said (X.sorts k) w ≡ numbers i ∷ l)
  -- a line is taken or not whatever the places of its names are
  pub steady : (p : Place A) (k : L.Kind) (u w : Vals (X.sorts k)) → Alike (X.sorts k) u w → step A p (say L k (X.make k u)) ≡ step A p (say L k (X.make k w))
