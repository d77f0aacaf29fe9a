-- The place of a program behind lines that are taken: it is sound, and stands for the machine's place behind what the lines say. For every file, and for every walk that goes from line to line. Assumes nothing.
use mathlib.Core.Path.{◌≡◌, refl, sym, ap, subst, ◌∙◌}
use mathlib.Core.List.{List, [], ◌∷◌, ◌++◌}
use mathlib.Core.Option.{Option, none, some}
use Prim.Native.Nat.{ℕ, suc, ◌+◌}
use native.Mathlib.Omega.{arith}
use lib.ListN.{length}
use Rattle.terms.specs.Ascii.{Bytes}
use Rattle.grammar.specs.Language.{Lang, S}
use Rattle.grammar.specs.Machine.{next, Machine, Place, run}
use Rattle.text.specs.Said.{Said}
use Rattle.text.specs.Spelling.{SpellsLine, SpellsLines, done, blank_line_of, statement}
use Rattle.text.specs.Judge.{Verdict, fault, good, Lexis, judge}
use Rattle.text.proofs.Telling.{Lawful}
use Rattle.text.proofs.LineJudging.{advance, good-only}
use Rattle.made_out.specs.Names.{told_as}
use Rattle.judge.specs.Judging.{Got, bad, blank, said, Judging, line}
use Rattle.judge.proofs.Judged.{Ties, view, renamed, line-is, SoundGot, line-sound}
use Rattle.law_faults.proofs.Reached.{run-one, nil-run}

-- a walk to line i, before lines `rest`: from a place, with where its first line starts, that line's number, and the lines. It stops at line i, and goes on from a line to the place behind it
pub record LineWalk (J : Judging) (i : ℕ) (rest : List Bytes) (End : Type 0) : Type 0 where
  pub walk : J.Pl → (start j : ℕ) → List Bytes → End
  pub stands : J.Pl → End
  pub stops : (p : J.Pl) (start : ℕ) → walk p start i rest ≡ stands p
  pub passes : (p : J.Pl) (start j : ℕ) (l : Bytes) (ls : List Bytes) → (j ≡ i → ⊥) → line J l start p ≡ blank → walk p start j (l ∷ ls) ≡ walk p (start + suc (length l)) (suc j) ls
  pub moves : (p : J.Pl) (start j : ℕ) (l : Bytes) (ls : List Bytes) → (j ≡ i → ⊥) → (s : J.St) (q : J.Pl) → line J l start p ≡ said s q → walk p start j (l ∷ ls) ≡ walk q (start + suc (length l)) (suc j) ls

module _ {L : Lang} (A : Machine L) (X : Lexis L) (Line-of : (k : L.Kind) → L.Pay k → List Said) (W : Lawful A X Line-of) (J : Judging) (C : Ties A X J) where
  open J use {St, Pl}
  open C use {abs, Sound}

  -- what a line gets leads to this place of the machine
  abbrev Onto : Pl → Got St Pl → Place A → Type 0
  Onto p (bad n) q = ⊥
  Onto p blank q = abs p ≡ q
  Onto p (said s r) q = Sound r × (abs r ≡ q)

  onto : (p : Pl) → Sound p → (a : ℕ) (l : Bytes) (o : Option (S L)) (q : Place A) → SpellsLine Line-of a l o → advance A X Line-of W (abs p) o ≡ next q → Onto p (line J l a p) q
  onto p i a l o q h e = go (line J l a p) (line-is A X J C p i a l ∙ ap (renamed A X J C) (good-only A X Line-of W (abs p) a l o q h e)) (line-sound A X J C p i a l)
    where
      go : (g : Got St Pl) → view A X J C p g ≡ good (told_as C.moved o) q → SoundGot A X J C g → Onto p g q
      go (bad n) e s = absurd (let z : ◌≡◌ {A = ℕ} 0 1 = cc in omega arith)
      go blank e s = let z : abs p ≡ q = cc in z
      go (said t r) e s = (s, let z : abs r ≡ q = cc in z)

  abbrev Reaches : {End : Type 0} → (Pl → End) → End → Place A → Type 0
  Reaches stands end q = (r : Pl) × (end ≡ stands r) × Sound r × (abs r ≡ q)

  module _ {i : ℕ} {rest : List Bytes} {End : Type 0} (K : LineWalk J i rest End) where
    on : (p : Pl) → Sound p → (start j : ℕ) (l : Bytes) (ls : List Bytes) → (j ≡ i → ⊥) → (m : Place A) → Onto p (line J l start p) m → {q : Place A}
        → ((r : Pl) → Sound r → abs r ≡ m → Reaches K.stands (K.walk r (start + suc (length l)) (suc j) ls) q) → Reaches K.stands (K.walk p start j (l ∷ ls)) q
    on p h start j l ls n m o {q} ih = go (line J l start p) refl o
      where
        go : (g : Got St Pl) → line J l start p ≡ g → Onto p g m → Reaches K.stands (K.walk p start j (l ∷ ls)) q
        go (bad c) e o = absurd o
        go blank e o = subst (λ (x : End). Reaches K.stands x q) (sym (K.passes p start j l ls n e)) (ih p h o)
        go (said s r) e o = subst (λ (x : End). Reaches K.stands x q) (sym (K.moves p start j l ls n s r e)) (ih r o.0 o.1)

    pub walked_to : {start : ℕ} {ls : List Bytes} {ss : List (S L)} → SpellsLines Line-of start ls ss → (p : Pl) → Sound p → (m q : Place A) → abs p ≡ m → run A m ss ≡ next q → (j : ℕ) → i ≡ j + length ls → Reaches K.stands (K.walk p start j (ls ++ rest)) q
    walked_to (done {start = a}) p h m q w c j e =
        let z : i ≡ j = omega (arith, e) in
        (p, ap (λ (k : ℕ). K.walk p a k rest) (sym z) ∙ K.stops p a, h, w ∙ nil-run A m q c)
    walked_to (blank_line_of {start = a} {line = l} {lines = ls} s more) p h m q w c j e =
        on p h a j l (ls ++ rest) (λ z. omega (arith, e, z)) (abs p) (onto p h a l none (abs p) s refl) (λ r k u. walked_to more r k m q (u ∙ w) c (suc j) (omega (arith, e)))
    walked_to (statement {start = a} {line = l} {lines = ls} {s = t} {said = ss} s more) p h m q w c j e =
        let x = run-one A m q t ss c in
        on p h a j l (ls ++ rest) (λ z. omega (arith, e, z)) x.0 (onto p h a l (some t) x.0 s (subst (λ (m : Place A). advance A X Line-of W m (some t) ≡ next x.0) (sym w) x.1)) (λ r k u. walked_to more r k x.0 q u x.2 (suc j) (omega (arith, e)))
