-- Executable: what a line gets at a place, in document 01's order of faults, over a program's own statements and places. For every file. Assumes nothing.
use Rattle.std.proofs.Math.Option.{Option, none, some}
use Rattle.std.specs.Prelude.{ℕ, take, eqb, ltb, Ok, Err, Result}
use Rattle.terms.specs.Ascii.{Bytes}
use Rattle.terms.specs.Words.{pick}
use Rattle.line.specs.Lines.{trim_of}
use Rattle.line.specs.Forms.{form_of, fields_in_of, part}
use Rattle.line.specs.declared.Fields.{Fields}
use Rattle.grammar.specs.Machine.{Out, next, refuse}

-- a refusal's number; nothing is said; a statement and the next place
pub data Got (St Pl : Type 0) : Type 0 where
  bad : ℕ → Got St Pl
  blank : Got St Pl
  said : St → Pl → Got St Pl

-- A program for a file: its statements and places; the kind of a line with a given first field, as a column; how many kinds there are; the cell of a place and a
-- kind, looked up once for a line; by that cell 5, 6 or 0; how many fields the line of a kind has; the statement that fields make (from where their text stands);
-- by the cell the place behind a statement, or the number that the place refuses it with.
pub record Judging : Type 1 where
  pub St : Type 0
  pub Pl : Type 0
  pub kinds : ℕ
  pub kind_of : Pl → Bytes → ℕ
  pub cell : Pl → ℕ → ℕ
  pub refuses : Pl → ℕ → ℕ
  pub needs : ℕ → ℕ
  pub made : Bytes → ℕ → Fields → ℕ → Option St
  pub steps : Pl → ℕ → St → Out Pl

module _ (J : Judging) where
  open J use {St, Pl, kinds, kind_of, cell, refuses, needs, made, steps}

  -- 01: 9 "value not permitted here", L8: 25: the place's own number
  abbrev pub taken : St → Out Pl → Got St Pl
  taken s (next q) = said s q
  taken s (refuse n) = bad n

  -- 01: 8 "field not of its kind"
  abbrev pub valued : Pl → ℕ → Option St → Got St Pl
  valued p c (some s) = taken s (steps p c s)
  valued p c none = bad 8

  -- 01: 5 and 6 by the kind alone, then 7 "wrong number of fields"
  unfoldable pub of_kind : Bytes → ℕ → Fields → Pl → ℕ → Got St Pl
  of_kind s base f p k = pick (eqb (refuses p (cell p k)) 0) (pick (eqb f.count (needs k)) (valued p (cell p k) (made s base f k)) (bad 7)) (bad (refuses p (cell p k)))

  -- 01: 5 also for a word that is no keyword of the file
  unfoldable pub known : Bytes → ℕ → Fields → Pl → ℕ → Got St Pl
  known s base f p k = pick (ltb k kinds) (of_kind s base f p k) (bad 5)

  -- what stands before a comment
  unfoldable pub told : Bytes → ℕ → Pl → Got St Pl
  told s base p = pick (eqb (fields_in_of s).count 0) blank (known s base (fields_in_of s) p (kind_of p (part s (fields_in_of s).a)))

  -- 01: 2, 3 and 4 by the line's form
  abbrev pub formed : Bytes → ℕ → Pl → Result ℕ ℕ → Got St Pl
  formed s base p (Err n) = bad n
  formed s base p (Ok e) = told (take e s) base p

  unfoldable pub content : Bytes → ℕ → Pl → Got St Pl
  content s base p = formed s base p (form_of s)

  -- a line that starts at `base` in the text
  unfoldable pub line : Bytes → ℕ → Pl → Got St Pl
  line s base p = content (take (trim_of s) s) base p
