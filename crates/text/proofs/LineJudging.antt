-- A line is judged good exactly if it is blank, or spells a statement that the place takes. For every file. Assumes nothing.
use Rattle.std.specs.Prelude.{Ok, Err, Result}
use mathlib.Core.Path.{◌≡◌, refl, sym, ap, subst, ◌∙◌}
use mathlib.Core.List.{List, [], ◌∷◌}
use mathlib.Core.Option.{Option, none, some}
use Prim.Native.Nat.{ℕ}
use native.Mathlib.Omega.{arith}
use lib.ListN.{length, take}
use Rattle.terms.specs.Ascii.{Bytes}
use Rattle.line.specs.Text.{lf, Lacks, Ended}
use Rattle.line.specs.Content.{Field, Content}
use Rattle.line.specs.Lines.{drop_cr}
use Rattle.line.specs.Forms.{form_of, fields_at}
use Rattle.line.proofs.Ends.{ended, ended_is, ended-lacks}
use Rattle.line.proofs.Contents.{content-lacks-lf}
use Rattle.line.proofs.Faults.{body-content, content-form, content-body}
use Rattle.grammar.specs.Language.{Lang, S}
use Rattle.grammar.specs.Machine.{Out, next, Machine, Place, step}
use Rattle.text.specs.Said.{Said}
use Rattle.text.specs.Spelling.{SpellsLine, blank, says}
use Rattle.text.specs.Judge.{Verdict, fault, good, Lexis, told, formed, judge}
use Rattle.text.proofs.Telling.{Lawful, tell-right, tell-only}

module _ {L : Lang} (A : Machine L) (X : Lexis L) (Line-of : (k : L.Kind) → L.Pay k → List Said) (W : Lawful A X Line-of) where
  -- the place behind a line that says nothing, or a statement
  abbrev pub advance : Place A → Option (S L) → Out (Place A)
  advance p none = next p
  advance p (some s) = step A p s

  pub no-lf : (a : ℕ) (l : Bytes) (o : Option (S L)) → SpellsLine Line-of a l o → Lacks lf l
  no-lf a l none (blank e h) = ended-lacks e (content-lacks-lf h)
  no-lf a l (some s) (says e h t) = ended-lacks e (content-lacks-lf h)

  pub good_right : (p : Place A) (a : ℕ) (l : Bytes) (o : Option (S L)) (q : Place A) → judge A X p a l ≡ good o q → SpellsLine Line-of a l o × (advance p o ≡ next q)
  unfolding judge
  good_right p a l o q e = go (form_of (drop_cr l)) refl e
    where
      fielded : (fs : List Field) → Content a (drop_cr l) fs → told A X p fs ≡ good o q → SpellsLine Line-of a l o × (advance p o ≡ next q)
      fielded [] h e =
          let n : none ≡ o = cc in
          let m : p ≡ q = cc in
          subst (λ (o : Option (S L)). SpellsLine Line-of a l o × (advance p o ≡ next q)) n (blank (ended l) h, ap next m)
      fielded (f ∷ fs) h e =
          let x = tell-right A X Line-of W p f fs o q e in
          subst (λ (o : Option (S L)). SpellsLine Line-of a l o × (advance p o ≡ next q)) (sym x.1) (says (ended l) h x.2, x.3)

      go : (r : Result ℕ ℕ) → form_of (drop_cr l) ≡ r → formed A X p a (drop_cr l) r ≡ good o q → SpellsLine Line-of a l o × (advance p o ≡ next q)
      go (Err n) r e = absurd (let z : ◌≡◌ {A = ℕ} 0 1 = cc in omega arith)
      go (Ok b) r e = fielded (fields_at a (take b (drop_cr l))) (body-content (drop_cr l) b r a) e

  passes : {a : ℕ} {l c : Bytes} {fs : List Field} (p : Place A) → Ended l c → Content a c fs → judge A X p a l ≡ told A X p fs
  unfolding judge
  passes {a} {l} {c} {fs} p e h = ap (λ (c : Bytes). formed A X p a c (form_of c)) (ended_is e) ∙ ap (formed A X p a c) (content-form c h) ∙ ap (told A X p) (content-body c h (length h.outer) (content-form c h))

  pub good-only : (p : Place A) (a : ℕ) (l : Bytes) (o : Option (S L)) (q : Place A) → SpellsLine Line-of a l o → advance p o ≡ next q → judge A X p a l ≡ good o q
  good-only p a l none q (blank e h) f = passes p e h ∙ ap (good none) (let z : p ≡ q = cc in z)
  good-only p a l (some s) q (says {fields = fs} e h t) f =
      let x = tell-only A X Line-of W p fs s q t f in
      passes p e h ∙ ap (told A X p) x.2 ∙ x.3
