-- The lines of a text and the statements that they say, put in order alike. For every file whose statements look as in `Shape`. Assumes nothing.
use mathlib.Core.Path.{◌≡◌, refl, ap, ap₂}
use mathlib.Core.List.{List, [], ◌∷◌, ◌++◌}
use mathlib.Core.Bool.{Bool, true, false}
use mathlib.Core.Option.{none, some}
use Prim.Native.Nat.{ℕ}
use native.Mathlib.Omega.{arith}
use lib.Dec.{eqb}
use Rattle.terms.specs.Ascii.{Bytes, ascii}
use Rattle.terms.specs.Words.{pick}
use Rattle.line.specs.Text.{Cut}
use Rattle.line.proofs.Cuts.{cut-is}
use Rattle.grammar.specs.Language.{Stmt}
use Rattle.grammar.specs.Tables.{gather}
use Rattle.text.specs.Said.{Said}
use Rattle.text.specs.HouseLine.{tabbed}
use Rattle.text.specs.Spelling.{SpellsLine, blank, says, SpellsLines, done, blank_line_of, statement}
use Rattle.house_text.specs.HouseText.{ended_line, house_text_of}
use Rattle.house_lines.specs.Arranged as H
use Rattle.house_lines.specs.Arranged.{fields_on_of, onto_spoken, spoken, rank_of, line_of, arranged_text}
use Rattle.house_arranged.specs.Order as O
use Rattle.house_arranged.proofs.WrittenLines.{Shape, fields-on, says-short, says-reads}

module _ {Kind : Type 0} {Pay : Kind → Type 0} (Line-of : (k : Kind) → Pay k → List Said) (rank : Kind → ℕ) where
  abbrev of_stmt : Stmt Kind Pay → ℕ
  of_stmt s = rank s.kind

  -- lines' fields and statements, one for one: of the same rank, and written as its house line
  data Alike : List (List Bytes) → List (Stmt Kind Pay) → Type 0 where
    nothing : Alike [] []
    also : {x : List Bytes} {s : Stmt Kind Pay} {xs : List (List Bytes)} {ss : List (Stmt Kind Pay)} → rank_of x ≡ rank s.kind → line_of x ≡ ended_line Line-of s → Alike xs ss → Alike (x ∷ xs) (s ∷ ss)

  -- ## In order
  both : {xs ys : List (List Bytes)} {ss ts : List (Stmt Kind Pay)} → Alike xs ss → Alike ys ts → Alike (xs ++ ys) (ss ++ ts)
  both nothing b = b
  both (also e f a) b = also e f (both a b)

  pass-alike : (k : ℕ) {xs : List (List Bytes)} {ss : List (Stmt Kind Pay)} → Alike xs ss → Alike (H.pass k xs) (O.pass of_stmt k ss)
  unfolding H.pass O.pass
  pass-alike k nothing = nothing
  pass-alike k (also {x = x} {s = s} {xs = xs} {ss = ss} e f a) = rw e (go (eqb (rank s.kind) 0) (eqb (rank s.kind) k) (pass-alike k a))
    where
      go : (p q : Bool) → Alike (H.pass k xs) (O.pass of_stmt k ss) → Alike (pick p [] (pick q (x ∷ H.pass k xs) (H.pass k xs))) (pick p [] (pick q (s ∷ O.pass of_stmt k ss) (O.pass of_stmt k ss)))
      go true q b = nothing
      go false true b = also e f b
      go false false b = b

  passes-alike : {xs : List (List Bytes)} {ss : List (Stmt Kind Pay)} → Alike xs ss → Alike (H.passes xs) (O.passes of_stmt ss)
  unfolding H.passes O.passes
  passes-alike a = both (pass-alike 1 a) (both (pass-alike 2 a) (both (pass-alike 3 a) (both (pass-alike 4 a) (both (pass-alike 5 a) (pass-alike 6 a)))))

  staying-alike : {xs : List (List Bytes)} {ss : List (Stmt Kind Pay)} → Alike xs ss → Alike (H.staying xs) (O.staying of_stmt ss)
  unfolding H.staying O.staying
  staying-alike nothing = nothing
  staying-alike (also {x = x} {s = s} {xs = xs} {ss = ss} e f a) = rw e (go (eqb (rank s.kind) 0) (staying-alike a))
    where
      go : (p : Bool) → Alike (H.staying xs) (O.staying of_stmt ss) → Alike (pick p (x ∷ (H.passes xs ++ H.staying xs)) (H.staying xs)) (pick p (s ∷ (O.passes of_stmt ss ++ O.staying of_stmt ss)) (O.staying of_stmt ss))
      go true b = also e f (both (passes-alike a) b)
      go false b = b

  arranged-alike : {xs : List (List Bytes)} {ss : List (Stmt Kind Pay)} → Alike xs ss → Alike (H.arranged xs) (O.arranged of_stmt ss)
  unfolding H.arranged O.arranged
  arranged-alike a = both (passes-alike a) (staying-alike a)

  -- ## As written
  written-alike : {xs : List (List Bytes)} {ss : List (Stmt Kind Pay)} → Alike xs ss → gather line_of xs ≡ gather (ended_line Line-of) ss
  written-alike nothing = refl
  written-alike (also e f a) = ap₂ (λ (l m : Bytes). l ++ m) f (written-alike a)

  -- ## The lines of a text
  module _ (shapes : (k : Kind) (v : Pay k) → Shape (rank k) (Line-of k v)) where
    blank-on : (start : ℕ) {line : Bytes} → SpellsLine Line-of start line none → fields_on_of line ≡ []
    blank-on start (blank h c) = fields-on start h c (omega arith)

    said-on : (start : ℕ) {line : Bytes} {s : Stmt Kind Pay} → SpellsLine Line-of start line (some s) → {xs : List (List Bytes)} {ss : List (Stmt Kind Pay)} → Alike xs ss → Alike (onto_spoken (fields_on_of line) xs) (s ∷ ss)
    unfolding line_of
    said-on start (says {fields = fs} {s = s} h c w) {xs = xs} a =
        let said = Line-of s.kind s.val in
        let sh = shapes s.kind s.val in
        let m = says-reads (rank s.kind) fs said sh w in
        rw (fields-on start h c (says-short (rank s.kind) fs said sh w), m.some xs) (also m.ranked (ap (λ (l : List Bytes). tabbed l ++ ascii "\n") m.mends) a)

    lines-alike : {start : ℕ} {lines : List Bytes} {said : List (Stmt Kind Pay)} → SpellsLines Line-of start lines said → Alike (spoken lines) said
    unfolding spoken
    lines-alike done = nothing
    lines-alike (blank_line_of {start = start} h t) = rw (blank-on start h) (lines-alike t)
    lines-alike (statement {start = start} h t) = said-on start h (lines-alike t)

    -- the text's own lines in order are the house lines of what they say, in order
    pub text-arranged : (text : Bytes) (lines : List Bytes) (said : List (Stmt Kind Pay)) → Cut text lines → SpellsLines Line-of 0 lines said → arranged_text text ≡ house_text_of Line-of (O.arranged (λ s. rank s.kind) said)
    unfolding arranged_text house_text_of
    text-arranged text lines said c h = rw (cut-is c) (written-alike (arranged-alike (lines-alike h)))
