-- What a field can say, and how it is spelled. Document 01, "Lines, comments, fields". Assumes nothing.
use Rattle.std.specs.Prelude.{◌≡◌, List, [], ◌∷◌, true, ℕ, length, ℤ}
use Prim.Native.String.{String}
use Rattle.terms.specs.Ascii.{Bytes, ascii}
use Rattle.line.specs.Content.{Field}
use Rattle.number.specs.Spelling.{SpellsInteger, SpellsPair, SpellsTriple, NameLength}
use Rattle.coordinate.specs.Spelling.{SpellsCoordinate}
use Rattle.word.specs.Keywords as Word
use Rattle.grammar.specs.Editions.{Edition, has_boundary}
use Rattle.grammar.specs.Statements.{Boundary, PartId, PointId}
use Rattle.grammar.specs.Tables.{colour}

-- a keyword; a name, with its place; a number; an identifier m.n or x.y.z; a latitude or longitude; a boundary, in an edition
pub data Said : Type 0 where
  word : Bytes → Said
  name : Field → Said
  integer : ℕ → Said
  pair : PartId → Said
  triple : PointId → Said
  coordinate : ℤ → Said
  boundary : Edition → Boundary → Said

abbrev pub keyword : String → Said
keyword s = word (ascii s)

-- 01: "Name: 1 to 128 bytes"; "a keyword of that file, byte for byte"; the boundary words; L10: those that the edition has
abbrev pub SpellsField : Field → Said → Type 0
SpellsField f (word w) = f.bytes ≡ w
SpellsField f (name g) = (f ≡ g) × NameLength (length f.bytes)
SpellsField f (integer n) = SpellsInteger f.bytes n
SpellsField f (pair i) = SpellsPair f.bytes i.m i.n
SpellsField f (triple i) = SpellsTriple f.bytes i.x i.y i.z
SpellsField f (coordinate z) = SpellsCoordinate f.bytes z
SpellsField f (boundary e b) = Word.Boundary (colour b) f.bytes × (has_boundary e b ≡ true)

-- fields, one for one
abbrev pub SpellFields : List Field → List Said → Type 0
SpellFields [] [] = Unit {0}
SpellFields [] (s ∷ said) = ⊥
SpellFields (f ∷ fields) [] = ⊥
SpellFields (f ∷ fields) (s ∷ said) = SpellsField f s × SpellFields fields said
