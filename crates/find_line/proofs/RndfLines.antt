-- The judge says of a line of an RNDF a statement of the kind of its first field. Assumes nothing.
use mathlib.Core.Path.{◌≡◌, refl, sym, ap, ◌∙◌}
use mathlib.Core.Option.{Option, none, some}
use mathlib.Core.Bool.{true}
use Prim.Native.Nat.{ℕ, ◌<◌}
use lib.ListN.{get_or}
use lib.Dec.{eqb, ltb}
use borrow.Author.Tests.{eqb-true, ltb-true}
use Rattle.terms.specs.Ascii.{Bytes, ascii}
use Rattle.terms.proofs.Computed.{below}
use Rattle.terms.proofs.Tests.{nothing}
use Rattle.scan.specs.Reach.{begins, same_bytes_of}
use Rattle.word.specs.Number.{index_of}
use Rattle.word.specs.Keywords.{rndf_keywords}
use Rattle.line.specs.Forms.{fields_in_of, listed, part}
use Rattle.line.specs.declared.Fields.{Fields}
use Rattle.grammar.specs.Statements.{Kind, point}
use Rattle.grammar.specs.Statements as G
use Rattle.grammar.specs.PlaceRows.{kinds, kind_row}
use Rattle.grammar.specs.Renamed.{says_named}
use Rattle.text.specs.Judge.{read_all}
use Rattle.text.specs.RndfWords.{word_at, rndf_sorts, rndf_make}
use Rattle.statement.specs.declared.Statement.{Statement}
use Rattle.statement.specs.Meaning.{Stretch, meant}
use Rattle.statement.specs.Kinds.{kind_of}
use Rattle.made_out.specs.Names.{the_the_stretch_of, behind, told_as}
use Rattle.made_out.specs.Made.{shapes, needs_of, made_of, made_from}
use Rattle.place.specs.declared.Place.{Place}
use Rattle.judge.specs.Judging.{line}
use Rattle.judge.specs.RndfLine.{rndf_kind, rndf_judging}
use Rattle.judge.proofs.RndfTies.{statement-is}
use Rattle.find_line.specs.FoundLines.{first_of, rndf_line_kind_of}
use Rattle.find_line.proofs.FirstFields.{first-is, no-first, HasKind, line-has}

row_back : (i : ℕ) → i < 30 → kind_row (get_or kinds i point) ≡ i
row_back i h = eqb-true (kind_row (get_or kinds i point)) i (below (λ j. eqb (kind_row (get_or kinds j point)) j) 30 refl i h)

-- the statement that the fields of a kind make is of that kind
of_kind_of : {A : Type 0} (k : Kind) (t : Statement) (f : A → G.Says Stretch k) (o : Option A) → some (meant t) ≡ told_as (λ v. G.say k (f v)) o → (meant t).kind ≡ k
of_kind_of k t f none e = nothing (sym e)
of_kind_of k t f (some v) e = let q : meant t ≡ G.say k (f v) = cc in ap (λ (m : G.Statement Stretch). m.kind) q

pub made-of-kind : (s : Bytes) (base : ℕ) (f : Fields) (i : ℕ) → i < 30 → (t : Statement) → made_from (made_of s base f i) ≡ some t → i ≡ kind_of t
made-of-kind s base f i h t e =
    let k = get_or kinds i point in
    let b = row_back i h in
    let read = read_all (rndf_sorts k) (behind (word_at (kind_row k)) (listed base s f (needs_of (get_or shapes (kind_row k) 0)))) in
    sym b ∙ ap kind_row (sym (of_kind_of k t (λ v. says_named the_the_stretch_of k (rndf_make k v)) read (sym (ap (told_as meant) e) ∙ ap (λ (j : ℕ). told_as meant (made_from (made_of s base f j))) (sym b) ∙ statement-is k base s f)))

key-none : (s : Bytes) → (fields_in_of s).count ≡ 0 → rndf_kind (first_of s) ≡ 30
unfolding rndf_kind begins index_of rndf_keywords same_bytes_of ascii
key-none s e = rw (no-first s e) refl

pub rndf-line-has : (l : Bytes) (base : ℕ) (p : Place) → HasKind rndf_judging kind_of (rndf_line_kind_of l) (line rndf_judging l base p)
unfolding rndf_line_kind_of
rndf-line-has = line-has rndf_judging kind_of (λ s. rndf_kind (first_of s)) key-none key-made
  where
    key-made : (s : Bytes) (base : ℕ) (p : Place) (t : Statement) → ltb (rndf_kind (part s (fields_in_of s).a)) 30 ≡ true → (fields_in_of s).count ≡ needs_of (get_or shapes (rndf_kind (part s (fields_in_of s).a)) 0) → made_from (made_of s base (fields_in_of s) (rndf_kind (part s (fields_in_of s).a))) ≡ some t → rndf_kind (first_of s) ≡ kind_of t
    key-made s base p t l c e = ap rndf_kind (first-is s) ∙ made-of-kind s base (fields_in_of s) (rndf_kind (part s (fields_in_of s).a)) (ltb-true _ 30 l) t e
