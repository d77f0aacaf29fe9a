-- A line says a statement if and only if, for the law, it says the statement's fields; likewise lines one behind the other. For every file. Assumes nothing.
use mathlib.Core.Path.{◌≡◌, refl, sym, subst}
use mathlib.Core.List.{List, [], ◌∷◌, map, head-eq_of_cons-eq, tail-eq_of_cons-eq}
use mathlib.Core.Option.{none, some}
use Prim.Native.Nat.{ℕ, suc, ◌+◌}
use lib.ListN.{length}
use Rattle.terms.specs.Ascii.{Bytes}
use Rattle.line.specs.Content.{Field, Content}
use Rattle.law.specs.Network.{Line, Says, SayLines, reading}
use Rattle.law.specs.Network as Law
use Rattle.grammar.specs.Editions.{Edition, law_of}
use Rattle.grammar.specs.Language.{Stmt}
use Rattle.text.specs.Said as Old
use Rattle.text.specs.Spelling.{SpellsLine, SpellsLines}
use Rattle.text.specs.Spelling as Spelling
use Rattle.law_spelling.specs.LineOf.{said_of, AllOf, law_line}
use Rattle.law_spelling.proofs.Fields.{fields-to, fields_back}

-- a list with a first
abbrev pub Begins : {A : Type 0} → List A → Type 0
Begins [] = ⊥
Begins (a ∷ l) = Unit {0}

begins_map : {A B : Type 0} (f : A → B) (l : List A) → Begins l → Begins (map f l)
begins_map f [] b = absurd b
begins_map f (a ∷ l) b = tt

-- a line with a field, and the lines behind it
add : (e : Edition) {start : ℕ} {line : Bytes} {lines : List Bytes} {rest : List Line} (said : Line) → Begins said → Says (reading (law_of e)) start line said → SayLines (reading (law_of e)) (start + suc (length line)) lines rest → SayLines (reading (law_of e)) start (line ∷ lines) (said ∷ rest)
add e [] b h more = absurd b
add e (s ∷ said) b h more = Law.statement h more

no_field : (e : Edition) (fields : List Field) → Law.SpellFields (law_of e) fields [] → fields ≡ []
no_field e [] h = refl
no_field e (f ∷ fields) h = absurd h

-- a list with a first is not empty
pub nothing_else : {A : Type 0} {B : Type 0} (a : A) (l : List A) → [] ≡ a ∷ l → B
nothing_else a l e = absurd (subst Begins (sym e) tt)

-- for a file whose statements have these fields, in an edition
module _ (e : Edition) {Kind : Type 0} {Pay : Kind → Type 0} (Line-of : (k : Kind) → Pay k → List Old.Said) (all : AllOf e Line-of) where
  -- ## One line
  pub blank-to : {start : ℕ} {line : Bytes} → SpellsLine Line-of start line none → Says (reading (law_of e)) start line []
  blank-to (Spelling.blank {content = c} d f) = record { content = c; fields = []; ended = d; fielded = f; spelled = tt }

  pub blank-back : {start : ℕ} {line : Bytes} → Says (reading (law_of e)) start line [] → SpellsLine Line-of start line none
  blank-back {start} h = Spelling.blank h.ended (subst (Content start h.content) (no_field e h.fields h.spelled) h.fielded)

  pub line-to : {start : ℕ} {line : Bytes} {s : Stmt Kind Pay} → SpellsLine Line-of start line (some s) → Says (reading (law_of e)) start line (law_line Line-of s)
  line-to {s = s} (Spelling.says {content = c} {fields = fs} d f h) = record { content = c; fields = fs; ended = d; fielded = f; spelled = fields-to e fs (Line-of s.kind s.val) (all s.kind s.val) h }

  pub line-back : {start : ℕ} {line : Bytes} {s : Stmt Kind Pay} → Says (reading (law_of e)) start line (law_line Line-of s) → SpellsLine Line-of start line (some s)
  line-back {s = s} h = Spelling.says h.ended h.fielded (fields_back e h.fields (Line-of s.kind s.val) (all s.kind s.val) h.spelled)

  -- ## Lines
  -- every statement has a field
  pub lines-to : ((k : Kind) (v : Pay k) → Begins (Line-of k v)) → {start : ℕ} {lines : List Bytes} {said : List (Stmt Kind Pay)} → SpellsLines Line-of start lines said → SayLines (reading (law_of e)) start lines (map (law_line Line-of) said)
  lines-to b Spelling.done = Law.done
  lines-to b (Spelling.blank_line_of h more) = Law.blank (blank-to h) (lines-to b more)
  lines-to b (Spelling.statement {s = s} h more) = add e (law_line Line-of s) (begins_map said_of (Line-of s.kind s.val) (b s.kind s.val)) (line-to h) (lines-to b more)

  said-back : {start : ℕ} {lines : List Bytes} {l : List Line} (said : List (Stmt Kind Pay)) → l ≡ map (law_line Line-of) said → SayLines (reading (law_of e)) start lines l → SpellsLines Line-of start lines said
  said-back [] q Law.done = Spelling.done
  said-back (s ∷ said) q Law.done = nothing_else (law_line Line-of s) (map (law_line Line-of) said) q
  said-back said q (Law.blank h more) = Spelling.blank_line_of (blank-back h) (said-back said q more)
  said-back [] q (Law.statement {s = s} {said = fs} {l = l} h more) = nothing_else (s ∷ fs) l (sym q)
  said-back (t ∷ said) q (Law.statement {start = start} {line = line} h more) = Spelling.statement (line-back (subst (Says (reading (law_of e)) start line) (head-eq_of_cons-eq q) h)) (said-back said (tail-eq_of_cons-eq q) more)

  pub lines-back : {start : ℕ} {lines : List Bytes} (said : List (Stmt Kind Pay)) → SayLines (reading (law_of e)) start lines (map (law_line Line-of) said) → SpellsLines Line-of start lines said
  lines-back said h = said-back said refl h
