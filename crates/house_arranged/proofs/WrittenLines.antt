-- A line that says a statement has that statement's rank, and is written as its house line. Assumes nothing.
use mathlib.Core.Path.{◌≡◌, refl, sym, ap, subst, ◌∙◌}
use mathlib.Core.List.{List, [], ◌∷◌, map}
use mathlib.Core.Bool.{Bool, true, false}
use Prim.Native.Nat.{ℕ, suc, ◌≤◌}
use native.Mathlib.Omega.{arith}
use borrow.Author.Tests.{ltb-true, ltb-false}
use lib.Dec.{ltb}
use lib.ListN.{length, take, get_or}
use lib.Seq.{take_all}
use Rattle.terms.specs.Ascii.{Bytes}
use Rattle.terms.specs.Words.{pick, Each}
use Rattle.terms.proofs.Tests.{clash}
use Rattle.scan.specs.Allowed.{digit, separates}
use Rattle.scan.specs.Reach.{begins}
use Rattle.line.specs.Text.{Ended}
use Rattle.line.specs.Content.{Field, parted, Content}
use Rattle.line.specs.Lines.{drop_cr}
use Rattle.line.specs.Forms.{glue, fields_at, outer_of}
use Rattle.line.proofs.Ends.{ended_is}
use Rattle.line.proofs.Contents.{content-fields}
use Rattle.word.specs.Keywords.{rndf_keywords}
use Rattle.word.specs.Number.{index_of, digit_first}
use Rattle.word.proofs.Index.{index-most}
use Rattle.word.proofs.Keywords.{rndf-length, rndf-no-digit}
use Rattle.text.specs.Said.{Said, word, name, integer, pair, triple, coordinate, boundary, SpellFields}
use Rattle.text.specs.HouseLine.{house_field}
use Rattle.house_lines.specs.Arranged.{fields_on_of, onto_spoken, ranks, rank_of, mended}
use Rattle.house_arranged.proofs.WrittenFields.{Plain, Digits, Number, plain-fields, mend-fields, digits-first}

abbrev pub bytes_of : List Field → List Bytes
bytes_of = map (λ (f : Field). f.bytes)

-- ## The fields of a line, wherever it starts
same-glue : (p : Bool) (a c b : ℕ) (fs gs : List Field) → bytes_of fs ≡ bytes_of gs → bytes_of (glue p a b fs) ≡ bytes_of (glue p c b gs)
same-glue true a c b fs gs e = ap (◌∷◌ (b ∷ [])) e
same-glue false a c b [] [] e = refl
same-glue false a c b [] (g ∷ gs) e = absurd (let z : ◌≡◌ {A = ℕ} 0 1 = cc in omega arith)
same-glue false a c b (f ∷ fs) [] e = absurd (let z : ◌≡◌ {A = ℕ} 0 1 = cc in omega arith)
same-glue false a c b (f ∷ fs) (g ∷ gs) e = let p : f.bytes ≡ g.bytes = cc in let q : bytes_of fs ≡ bytes_of gs = cc in rw (p, q)

same-fields : (a c : ℕ) (l : Bytes) → bytes_of (fields_at a l) ≡ bytes_of (fields_at c l)
unfolding fields_at
same-fields a c [] = refl
same-fields a c (b ∷ l) = go (separates b) (same-fields (suc a) (suc c) l)
  where
    go : (p : Bool) → bytes_of (fields_at (suc a) l) ≡ bytes_of (fields_at (suc c) l)
        → bytes_of (pick p (fields_at (suc a) l) (glue (parted l) a b (fields_at (suc a) l))) ≡ bytes_of (pick p (fields_at (suc c) l) (glue (parted l) c b (fields_at (suc c) l)))
    go true e = e
    go false e = same-glue (parted l) a c b (fields_at (suc a) l) (fields_at (suc c) l) e

pub fields-on : (start : ℕ) {line content : Bytes} {fields : List Field} → Ended line content → Content start content fields → length fields ≤ 3 → fields_on_of line ≡ bytes_of fields
unfolding fields_on_of
fields-on start {line} {content} {fields} h c n =
    let e : bytes_of (fields_at 0 (outer_of (drop_cr line))) ≡ bytes_of fields = ap (λ (l : Bytes). bytes_of (fields_at 0 (outer_of l))) (ended_is h) ∙ same-fields 0 start (outer_of content) ∙ ap bytes_of (content-fields c) in
    ap (take 3) e ∙ take_all 3 (bytes_of fields) (subst (λ (k : ℕ). k ≤ 3) (sym (length-bytes fields)) n)
  where
    length-bytes : (fs : List Field) → length (bytes_of fs) ≡ length fs
    length-bytes [] = refl
    length-bytes (f ∷ fs) = ap suc (length-bytes fs)

-- ## What statements look like
-- at most two, each of which is so
abbrev pub Few : (Said → Type 0) → List Said → Type 0
Few P [] = Unit {0}
Few P (s ∷ []) = P s
Few P (s ∷ t ∷ []) = P s × P t
Few P (s ∷ t ∷ u ∷ said) = ⊥

abbrev pub word-rank : Bytes → ℕ
word-rank w = get_or ranks (index_of w rndf_keywords) 0

-- a keyword that has this rank and fields of one spelling, or numbers, the first of which begins with a digit
abbrev pub Shape : ℕ → List Said → Type 0
Shape rank [] = ⊥
Shape rank (word w ∷ said) = (digit_first w ≡ false) × (word-rank w ≡ rank) × Few Plain said
Shape rank (name f ∷ said) = ⊥
Shape rank (integer n ∷ said) = (0 ≡ rank) × Few Number said
Shape rank (pair i ∷ said) = (0 ≡ rank) × Few Number said
Shape rank (triple i ∷ said) = (0 ≡ rank) × Few Number said
Shape rank (coordinate z ∷ said) = ⊥
Shape rank (boundary d b ∷ said) = ⊥

-- one of the two
data View (rank : ℕ) : List Said → Type 0 where
  worded : {w : Bytes} {said : List Said} → digit_first w ≡ false → word-rank w ≡ rank → Few Plain said → View rank (word w ∷ said)
  numbered : {s : Said} {said : List Said} → 0 ≡ rank → Digits s → Number s → Few Number said → View rank (s ∷ said)

view : (rank : ℕ) (said : List Said) → Shape rank said → View rank said
view rank [] h = absurd h
view rank (word w ∷ said) h = worded h.0 h.1 h.2
view rank (name f ∷ said) h = absurd h
view rank (integer n ∷ said) h = numbered h.0 tt tt h.1
view rank (pair i ∷ said) h = numbered h.0 tt tt h.1
view rank (triple i ∷ said) h = numbered h.0 tt tt h.1
view rank (coordinate z ∷ said) h = absurd h
view rank (boundary d b ∷ said) h = absurd h

-- ## A line that begins with a digit stays where it is
digit-rank : (f : Bytes) → digit_first f ≡ true → word-rank f ≡ 0
unfolding ranks
digit-rank f d = go (ltb (index_of f rndf_keywords) 29) refl
  where
    go : (x : Bool) → ltb (index_of f rndf_keywords) 29 ≡ x → word-rank f ≡ 0
    go true e = clash (sym d ∙ rndf-no-digit f (ltb-true (index_of f rndf_keywords) 29 e))
    go false e =
        let h = ltb-false (index_of f rndf_keywords) 29 e in
        let q : index_of f rndf_keywords ≡ 29 = omega (arith, index-most f rndf_keywords, rndf-length) in
        ap (λ (i : ℕ). get_or ranks i 0) q

-- ## A line that says a statement
as_many : (fs : List Field) (said : List Said) → SpellFields fs said → length fs ≡ length said
as_many [] [] h = refl
as_many [] (s ∷ said) h = absurd h
as_many (f ∷ fs) [] h = absurd h
as_many (f ∷ fs) (s ∷ said) h = ap suc (as_many fs said h.1)

module _ (P : Said → Type 0) where
  few-each : (said : List Said) → Few P said → Each P said
  few-each [] h = tt
  few-each (s ∷ []) h = (h, tt)
  few-each (s ∷ t ∷ []) h = (h.0, (h.1, tt))
  few-each (s ∷ t ∷ u ∷ said) h = absurd h

  few-short : (said : List Said) → Few P said → length said ≤ 2
  few-short [] h = omega arith
  few-short (s ∷ []) h = omega arith
  few-short (s ∷ t ∷ []) h = omega arith
  few-short (s ∷ t ∷ u ∷ said) h = absurd h

view-short : (rank : ℕ) {said : List Said} → View rank said → length said ≤ 3
view-short rank (worded {said = said} d e p) = let n = few-short Plain said p in omega arith
view-short rank (numbered {said = said} e d k p) = let n = few-short Number said p in omega arith

view-rank : (rank : ℕ) (f : Field) (fs : List Field) {said : List Said} → View rank said → SpellFields (f ∷ fs) said → word-rank f.bytes ≡ rank
view-rank rank f fs (worded d e p) h = ap word-rank h.0 ∙ e
view-rank rank f fs (numbered {s = s} e d k p) h = digit-rank f.bytes (digits-first f s d h.0) ∙ e

view-mended : (rank : ℕ) (f : Field) (fs : List Field) {said : List Said} → View rank said → SpellFields (f ∷ fs) said → mended (bytes_of (f ∷ fs)) ≡ map house_field said
unfolding mended
view-mended rank f fs (worded {w = w} {said = said} d e p) h = rw (ap (begins digit) h.0 ∙ d) (plain-fields (f ∷ fs) (word w ∷ said) (tt, few-each Plain said p) h)
view-mended rank f fs (numbered {s = s} {said = said} e d k p) h = rw (digits-first f s d h.0) (mend-fields (f ∷ fs) (s ∷ said) (k, few-each Number said p) h)

-- what a line with these fields, which say this, is
pub record Reads (rank : ℕ) (said : List Said) (line : List Bytes) : Type 0 where
  pub ranked : rank_of line ≡ rank
  pub mends : mended line ≡ map house_field said
  pub some : (l : List (List Bytes)) → onto_spoken line l ≡ line ∷ l

pub says-short : (rank : ℕ) (fs : List Field) (said : List Said) → Shape rank said → SpellFields fs said → length fs ≤ 3
says-short rank fs said h s = let e = as_many fs said s in let n = view-short rank (view rank said h) in omega arith

pub says-reads : (rank : ℕ) (fs : List Field) (said : List Said) → Shape rank said → SpellFields fs said → Reads rank said (bytes_of fs)
unfolding rank_of
says-reads rank [] [] h s = absurd h
says-reads rank [] (t ∷ said) h s = absurd s
says-reads rank (f ∷ fs) said h s = let v = view rank said h in record { ranked = view-rank rank f fs v s; mends = view-mended rank f fs v s; some = λ l. refl }
