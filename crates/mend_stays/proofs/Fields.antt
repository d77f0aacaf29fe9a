-- The tool finds a line's fields as the law spells them, at other places (`line-fields`): where a line starts makes no difference to the bytes of its fields. Assumes nothing.
use mathlib.Core.Path.{◌≡◌, refl, ap, ◌∙◌}
use mathlib.Core.List.{head-eq_of_cons-eq, tail-eq_of_cons-eq, nil≢cons, cons≢nil}
use Rattle.terms.specs.Words.{List, [], ◌∷◌, map, Bool, true, false, ℕ, suc, Bytes, pick}
use Rattle.scan.specs.Allowed.{separates}
use Rattle.line.specs.Line.{Ended, Field}
use Rattle.line.specs.Content.{parted, Content}
use Rattle.line.specs.Forms.{outer_of, glue, fields_at}
use Rattle.line.proofs.Ends.{ended_is}
use Rattle.line.proofs.Contents.{content-fields}
use Rattle.mend_law.specs.Mend.{fields}

abbrev pub bytes_of : List Field → List Bytes
bytes_of = map (λ f. f.bytes)

same_at : (a b : ℕ) (l : Bytes) → bytes_of (fields_at a l) ≡ bytes_of (fields_at b l)
unfolding fields_at
same_at a b [] = refl
same_at a b (x ∷ l) = go (separates x) (same_at (suc a) (suc b) l)
  where
    glued : (p : Bool) (fs gs : List Field) → bytes_of fs ≡ bytes_of gs → bytes_of (glue p a x fs) ≡ bytes_of (glue p b x gs)
    glued true fs gs e = ap (◌∷◌ (x ∷ [])) e
    glued false [] [] e = refl
    glued false [] (g ∷ gs) e = absurd (nil≢cons e)
    glued false (f ∷ fs) [] e = absurd (cons≢nil e)
    glued false (f ∷ fs) (g ∷ gs) e =
        let p = head-eq_of_cons-eq e in
        let q = tail-eq_of_cons-eq e in
        λ i. (x ∷ p i) ∷ q i

    go : (y : Bool) → bytes_of (fields_at (suc a) l) ≡ bytes_of (fields_at (suc b) l)
        → bytes_of (pick y (fields_at (suc a) l) (glue (parted l) a x (fields_at (suc a) l))) ≡ bytes_of (pick y (fields_at (suc b) l) (glue (parted l) b x (fields_at (suc b) l)))
    go true e = e
    go false e = glued (parted l) (fields_at (suc a) l) (fields_at (suc b) l) e

pub line-fields : {a : ℕ} {l c : Bytes} {fs : List Field} → Ended l c → Content a c fs → bytes_of (fields l) ≡ bytes_of fs
line-fields {a} {c = c} e h = ap (λ (x : Bytes). bytes_of (fields_at 0 (outer_of x))) (ended_is e) ∙ same_at 0 a (outer_of c) ∙ ap bytes_of (content-fields h)
