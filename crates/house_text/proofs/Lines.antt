-- The house writing of statements is cut into their house lines, and these say the statements, with each name at its new place. For every file. Assumes nothing.
use mathlib.Core.Path.{◌≡◌, refl, sym, ap, subst, ◌∙◌}
use mathlib.Core.List.{List, [], ◌∷◌, ◌++◌, map, append_assoc}
use Prim.Native.Nat.{ℕ, suc, ◌+◌, ◌≤◌}
use lib.ListN.{length}
use Rattle.terms.specs.Ascii.{Bytes, ascii}
use Rattle.terms.specs.Words.{Each}
use Rattle.line.specs.Text.{lf, Lacks, Cut}
use Rattle.line.specs.Lines.{write_lines}
use Rattle.line.proofs.Cuts.{cut-written}
use Rattle.line.proofs.Contents.{content-lacks-lf}
use Rattle.grammar.specs.Language.{Stmt}
use Rattle.text.specs.Said.{Said}
use Rattle.text.specs.HouseLine.{house_line}
use Rattle.text.specs.Spelling.{SpellsLines, done, statement, SpellsText}
use Rattle.text.proofs.HouseLines.{Writable, placed, house-content, house-says}
use Rattle.house_text.specs.HouseText.{ended_line, house_text_of}

module _ {Kind : Type 0} {Pay : Kind → Type 0} (Line-of : (k : Kind) → Pay k → List Said) where
  abbrev pub line : Stmt Kind Pay → Bytes
  line s = house_line (Line-of s.kind s.val)

  -- ## The lines
  pub text-lines : (said : List (Stmt Kind Pay)) → house_text_of Line-of said ≡ write_lines (map line said)
  unfolding house_text_of write_lines ascii
  text-lines [] = refl
  text-lines (s ∷ said) = append_assoc (line s) (ascii "\n") (house_text_of Line-of said) ∙ ap (λ (t : Bytes). line s ++ (lf ∷ t)) (text-lines said)

  -- the house writing of statements, one list behind the other
  pub text_append : (said more : List (Stmt Kind Pay)) → house_text_of Line-of (said ++ more) ≡ house_text_of Line-of said ++ house_text_of Line-of more
  unfolding house_text_of
  text_append [] more = refl
  text_append (s ∷ said) more = ap (λ (t : Bytes). ended_line Line-of s ++ t) (text_append said more) ∙ sym (append_assoc (ended_line Line-of s) (house_text_of Line-of said) (house_text_of Line-of more))

  -- ## What they say. A file whose statements have at most three fields, and how what one says moves to a new place
  pub record Movable : Type 0 where
    pub move : ℕ → (k : Kind) → Pay k → Pay k
    pub moves : (a : ℕ) (k : Kind) (v : Pay k) → Line-of k (move a k v) ≡ placed a (Line-of k v)
    pub few : (k : Kind) (v : Pay k) → length (Line-of k v) ≤ 3

  -- a statement that can be written
  abbrev pub CanWrite : Stmt Kind Pay → Type 0
  CanWrite s = Each Writable (Line-of s.kind s.val)

  module _ (M : Movable) where
    abbrev pub moved : ℕ → Stmt Kind Pay → Stmt Kind Pay
    moved a s = record { kind = s.kind; val = M.move a s.kind s.val }

    -- the statements where they are written, the first at a place of the text
    unfoldable pub relocated : ℕ → List (Stmt Kind Pay) → List (Stmt Kind Pay)
    relocated a [] = []
    relocated a (s ∷ said) = moved a s ∷ relocated (a + suc (length (line s))) said

    lines_lack : (said : List (Stmt Kind Pay)) → Each CanWrite said → Each (Lacks lf) (map line said)
    lines_lack [] h = tt
    lines_lack (s ∷ said) h = (content-lacks-lf (house-content 0 (Line-of s.kind s.val) h.0 (M.few s.kind s.val)), lines_lack said h.1)

    lines-say : (a : ℕ) (said : List (Stmt Kind Pay)) → Each CanWrite said → SpellsLines Line-of a (map line said) (relocated a said)
    unfolding relocated
    lines-say a [] h = done
    lines-say a (s ∷ said) h =
        let k = s.kind in
        let v = s.val in
        statement (house-says Line-of a k v (M.move a k v) h.0 (M.few k v) (M.moves a k v)) (lines-say (a + suc (length (line s))) said h.1)

    -- so a text that is written spells what its statements, where they are written, spell
    pub written_spells : {Net : Type 0} (Spells : Net → List (Stmt Kind Pay) → Type 0) (n : Net) (said : List (Stmt Kind Pay)) → Each CanWrite said → Spells n (relocated 0 said)
        → SpellsText Line-of Spells n (house_text_of Line-of said)
    written_spells Spells n said h s = record {
      lines = map line said;
      said = relocated 0 said;
      made = subst (λ (t : Bytes). Cut t (map line said)) (sym (text-lines said)) (cut-written (map line said) (lines_lack said h));
      each = lines-say 0 said h;
      net = s;
    }
