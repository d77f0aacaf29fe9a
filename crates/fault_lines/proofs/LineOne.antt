-- A line says one thing only, wherever it stands: nothing, or one statement. For every file. Assumes nothing.
use mathlib.Core.Path.{◌≡◌, refl, sym, ap, subst, path_j, ◌∙◌}
use mathlib.Core.List.{List, [], ◌∷◌, ◌++◌}
use mathlib.Core.Option.{Option, none, some}
use mathlib.Core.Bool.{true}
use Prim.Native.Nat.{ℕ}
use lib.ListN.{length}
use Rattle.terms.specs.Ascii.{Bytes}
use Rattle.terms.proofs.Tests.{clash}
use Rattle.line.specs.Text.{Ended}
use Rattle.line.specs.Content.{Field, Content}
use Rattle.line.proofs.Ends.{ended-one}
use Rattle.line.proofs.Contents.{content-one}
use Rattle.word.specs.Number.{digit_first}
use Rattle.line_fields.proofs.LastField.{fields-of-line}
use Rattle.grammar.specs.Language.{Lang, S, say}
use Rattle.grammar.specs.Machine.{Machine}
use Rattle.text.specs.Said.{Said, SpellFields}
use Rattle.text.specs.Spelling.{SpellsLine, blank, says}
use Rattle.text.specs.Judge.{Lexis}
use Rattle.text.proofs.FieldReading.{said, all-only}
use Rattle.text.proofs.Telling.{Lawful, in-front, Says, line-is}
use Rattle.walk.specs.Standing.{some_field, speaks}
use Rattle.walk.proofs.Speaking.{is_some}

-- what the proofs need of a file's lines
pub record Clear (L : Lang) (Line-of : (k : L.Kind) → L.Pay k → List Said) : Type 0 where
  pub line_one : (start : ℕ) (line : Bytes) (o o' : Option (S L)) → SpellsLine Line-of start line o → SpellsLine Line-of start line o' → o ≡ o'
  pub speaking : (start : ℕ) (line : Bytes) (o : Option (S L)) → SpellsLine Line-of start line o → speaks start line ≡ is_some o

module _ {L : Lang} (A : Machine L) (X : Lexis L) (Line-of : (k : L.Kind) → L.Pay k → List Said) (W : Lawful A X Line-of)
    (apart : (j k : L.Kind) → X.keyword j ≡ none → X.keyword k ≡ none → length (X.sorts j) ≡ length (X.sorts k) → j ≡ k) where
  open L use {Kind, Pay}
  open X use {keyword, sorts, make}

  abbrev Fit : List Field → (k : Kind) → Pay k → Option Bytes → Type 0
  Fit fs k v o = SpellFields fs (in-front o ++ said (sorts k) (W.parts k v))

  fit : (fs : List Field) (k : Kind) (v : Pay k) → SpellFields fs (Line-of k v) → Fit fs k v (keyword k)
  fit fs k v h = subst (SpellFields fs) (line-is A X Line-of W k v) h

  -- a keyword is no number
  not-both : {Y : Type 0} (fs : List Field) (j k : Kind) (v : Pay j) (w : Pay k) (b : Bytes) → keyword j ≡ some b → keyword k ≡ none → Fit fs j v (some b) → Fit fs k w none → Y
  not-both [] j k v w b q r h t = absurd h
  not-both (f ∷ fs) j k v w b q r h t =
      let x = W.digit k r (f ∷ fs) (W.parts k w) t in
      let same : x.0 ≡ f = cc x.2 in
      clash (sym x.3 ∙ ap (λ (g : Field). digit_first g.bytes) same ∙ ap digit_first h.0 ∙ W.no_digit b j q)

  same_kind : (fs : List Field) (j k : Kind) (v : Pay j) (w : Pay k) → SpellFields fs (Line-of j v) → SpellFields fs (Line-of k w) → j ≡ k
  same_kind fs j k v w h t = go fs (keyword j) (keyword k) refl refl (fit fs j v h) (fit fs k w t)
    where
      go : (fs : List Field) (o o' : Option Bytes) → keyword j ≡ o → keyword k ≡ o' → Fit fs j v o → Fit fs k w o' → j ≡ k
      go [] (some b) (some c) q r h t = absurd h
      go (f ∷ fs) (some b) (some c) q r h t =
          let e : some j ≡ some k = sym (W.lookup_only b j q) ∙ ap X.lookup (sym h.0 ∙ t.0) ∙ W.lookup_only c k r in
          cc
      go fs (some b) none q r h t = not-both fs j k v w b q r h t
      go fs none (some c) q r h t = not-both fs k j w v c r q t h
      go fs none none q r h t = apart j k q r (sym (all-only (sorts j) fs (W.parts j v) h).1 ∙ (all-only (sorts k) fs (W.parts k w) t).1)

  same-value : (fs : List Field) (k : Kind) (v w : Pay k) → SpellFields fs (Line-of k v) → SpellFields fs (Line-of k w) → v ≡ w
  same-value fs k v w h t = go fs (keyword k) (fit fs k v h) (fit fs k w t)
    where
      from : (fs : List Field) → SpellFields fs (said (sorts k) (W.parts k v)) → SpellFields fs (said (sorts k) (W.parts k w)) → v ≡ w
      from fs h t =
          let e : some (W.parts k v) ≡ some (W.parts k w) = sym (all-only (sorts k) fs (W.parts k v) h).0 ∙ (all-only (sorts k) fs (W.parts k w) t).0 in
          let p : W.parts k v ≡ W.parts k w = cc in
          sym (W.made k v) ∙ ap (make k) p ∙ W.made k w

      go : (fs : List Field) (o : Option Bytes) → Fit fs k v o → Fit fs k w o → v ≡ w
      go [] (some b) h t = absurd h
      go (f ∷ fs) (some b) h t = from fs h.1 t.1
      go fs none h t = from fs h t

  -- fields say one statement only
  pub said-one : (fs : List Field) (s t : S L) → Says A X Line-of W fs s → Says A X Line-of W fs t → s ≡ t
  said-one fs s t h g = along t.kind (same_kind fs s.kind t.kind s.val t.val h g) t.val g
    where
      along : (j : Kind) → s.kind ≡ j → (w : Pay j) → SpellFields fs (Line-of j w) → s ≡ say L j w
      along j e = path_j (λ j e. (w : Pay j) → SpellFields fs (Line-of j w) → s ≡ say L j w) (λ w g. ap (say L s.kind) (same-value fs s.kind s.val w h g)) e

  -- and it has fields
  pub said-some : (fs : List Field) (s : S L) → Says A X Line-of W fs s → some_field fs ≡ true
  said-some fs s h = go fs (keyword s.kind) refl (fit fs s.kind s.val h)
    where
      go : (fs : List Field) (o : Option Bytes) → keyword s.kind ≡ o → Fit fs s.kind s.val o → some_field fs ≡ true
      go [] (some b) q h = absurd h
      go (f ∷ fs) (some b) q h = refl
      go fs none q h = let x = W.digit s.kind q fs (W.parts s.kind s.val) h in ap some_field x.2

  -- ## A line
  fields_speak : {start : ℕ} {line content : Bytes} {fs : List Field} → Ended line content → Content start content fs → speaks start line ≡ some_field fs
  unfolding speaks
  fields_speak e h = ap some_field (fields-of-line e h)

  pub clear : Clear L Line-of
  clear = record { line_one = one; speaking = speaking }
    where
      speaking : (start : ℕ) (line : Bytes) (o : Option (S L)) → SpellsLine Line-of start line o → speaks start line ≡ is_some o
      speaking start line none (blank e h) = fields_speak e h
      speaking start line (some s) (says {fields = fs} e h t) = fields_speak e h ∙ said-some fs s t

      one : (start : ℕ) (line : Bytes) (o o' : Option (S L)) → SpellsLine Line-of start line o → SpellsLine Line-of start line o' → o ≡ o'
      one start line none none (blank e h) (blank f g) = refl
      one start line none (some t) (blank e h) (says {fields = gs} f g b) = clash (sym (sym (fields_speak e h) ∙ fields_speak f g ∙ said-some gs t b))
      one start line (some s) none (says {fields = fs} e h a) (blank f g) = clash (sym (said-some fs s a) ∙ sym (fields_speak e h) ∙ fields_speak f g)
      one start line (some s) (some t) (says {fields = fs} e h a) (says {fields = gs} f g b) =
          let same : fs ≡ gs = content-one (subst (λ (c : Bytes). Content start c fs) (ended-one e f) h) g in
          ap some (said-one gs s t (subst (λ (fs : List Field). SpellFields fs (Line-of s.kind s.val)) same a) b)
