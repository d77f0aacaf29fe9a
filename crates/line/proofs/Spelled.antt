-- Fields: `fields_at` finds those that are spelled, and no others. Assumes nothing.
use mathlib.Core.Path.{◌≡◌, refl, sym, ap, subst, ◌∙◌}
use mathlib.Core.List.{List, [], ◌∷◌, ◌++◌}
use mathlib.Core.Bool.{Bool, true, false, ◌&&◌, ◌||◌}
use Prim.Native.Nat.{ℕ, suc, ◌+◌, ◌<◌}
use native.Mathlib.Omega.{arith}
use lib.ListN.{length}
use Rattle.terms.specs.Ascii.{Bytes}
use Rattle.terms.specs.Words.{pick, Each}
use Rattle.scan.specs.Allowed.{separates, field_byte, outside, all}
use Rattle.terms.proofs.Tests.{clash, both, and}
use Rattle.scan.proofs.Bytes.{field-no-separator, field-outside, separator-outside, all_imp, all_append}
use Rattle.line.specs.Content.{Field, at, IsField, parted, parted-by, SpellsFields, nothing, separator, field}
use Rattle.line.specs.Forms.{glue, fields_at}

-- every byte of spelled fields is allowed
pub fields-allowed : {a : ℕ} {l : Bytes} {fs : List Field} → SpellsFields a l fs → all outside l ≡ true
unfolding all
fields-allowed nothing = refl
fields-allowed (separator {b = b} h p) = and (separator-outside b h) (fields-allowed p)
fields-allowed (field {bytes = f} {rest = r} w e p) = all_append outside f r (all_imp field_byte outside field-outside f w.allowed) (fields-allowed p)

-- a field is taken whole
whole-field : (f : Bytes) (a : ℕ) (r : Bytes) → 0 < length f → all field_byte f ≡ true → parted r ≡ true → fields_at a (f ++ r) ≡ at a f ∷ fields_at (a + length f) r
unfolding fields_at all
whole-field [] a r s h e = absurd (omega arith)
whole-field (b ∷ []) a r s h e =
    let n : suc a ≡ a + 1 = omega arith in
    rw (field-no-separator b (both (field_byte b) true h).0, e, n)
whole-field (b ∷ d ∷ f) a r s h e =
    let n : suc a + suc (length f) ≡ a + suc (suc (length f)) = omega arith in
    let p = both (field_byte b) (field_byte d && all field_byte f) h in
    let q = both (field_byte d) (all field_byte f) p.1 in
    let i : parted (d ∷ (f ++ r)) ≡ false = unfold parted-by in field-no-separator d q.0 in
    let ih : fields_at (suc a) (d ∷ (f ++ r)) ≡ at (suc a) (d ∷ f) ∷ fields_at (suc a + suc (length f)) r = whole-field (d ∷ f) (suc a) r (omega arith) p.1 e in
    rw (field-no-separator b p.0) (glued i ih n)
  where
    glued : parted (d ∷ (f ++ r)) ≡ false → fields_at (suc a) (d ∷ (f ++ r)) ≡ at (suc a) (d ∷ f) ∷ fields_at (suc a + suc (length f)) r → suc a + suc (length f) ≡ a + suc (suc (length f))
        → glue (parted (d ∷ (f ++ r))) a b (fields_at (suc a) (d ∷ (f ++ r))) ≡ at a (b ∷ d ∷ f) ∷ fields_at (a + suc (suc (length f))) r
    glued i ih n = rw (i, ih, n)

-- what is spelled is what is found
pub fields-are : {a : ℕ} {l : Bytes} {fs : List Field} → SpellsFields a l fs → fields_at a l ≡ fs
unfolding fields_at
fields-are nothing = refl
fields-are (separator h p) = rw h (fields-are p)
fields-are (field {start = a} {bytes = f} {rest = r} w e p) = whole-field f a r w.some w.allowed e ∙ ap (◌∷◌ (at a f)) (fields-are p)

-- bytes that are allowed spell one list of fields only
pub fields-one : {a : ℕ} {l : Bytes} {fs gs : List Field} → SpellsFields a l fs → SpellsFields a l gs → fs ≡ gs
fields-one p q = sym (fields-are p) ∙ fields-are q

lengthen : {a b : ℕ} {l : Bytes} {fs : List Field} → field_byte b ≡ true → SpellsFields (suc a) l fs → parted l ≡ false → SpellsFields a (b ∷ l) (glue false a b fs)
unfolding parted-by
lengthen h nothing e = clash e
lengthen h (separator q p) e = clash (sym q ∙ e)
lengthen {a} {b} h (field {bytes = f} {rest = r} {fields = fs} w q p) e =
    let n : suc a + length f ≡ a + suc (length f) = omega arith in
    field {bytes = b ∷ f} (record { some = omega arith; allowed = unfold all in and h w.allowed }) q (subst (λ (k : ℕ). SpellsFields k r fs) n p)

-- what is found is spelled, where every byte is allowed
pub are-fields : (a : ℕ) (l : Bytes) → all outside l ≡ true → SpellsFields a l (fields_at a l)
unfolding all fields_at
are-fields a [] e = nothing
are-fields a (b ∷ t) e = let p = both (outside b) (all outside t) e in go (separates b) refl p.0 (are-fields (suc a) t p.1)
  where
    single : field_byte b ≡ true → IsField (b ∷ [])
    single h = record { some = omega arith; allowed = and h refl }

    glued : (x : Bool) → parted t ≡ x → field_byte b ≡ true → SpellsFields (suc a) t (fields_at (suc a) t) → SpellsFields a (b ∷ t) (glue x a b (fields_at (suc a) t))
    glued true e h i =
        let n : suc a ≡ a + 1 = omega arith in
        field (single h) e (subst (λ (k : ℕ). SpellsFields k t (fields_at (suc a) t)) n i)
    glued false e h i = lengthen h i e

    go : (x : Bool) → separates b ≡ x → (x || field_byte b) ≡ true → SpellsFields (suc a) t (fields_at (suc a) t) → SpellsFields a (b ∷ t) (pick x (fields_at (suc a) t) (glue (parted t) a b (fields_at (suc a) t)))
    go true e h i = separator e i
    go false e h i = glued (parted t) refl h i

-- each of them has at least one byte, and only bytes of fields
pub fields-each : {a : ℕ} {l : Bytes} {fs : List Field} → SpellsFields a l fs → Each (λ f. IsField f.bytes) fs
fields-each nothing = tt
fields-each (separator h p) = fields-each p
fields-each (field w e p) = (w, fields-each p)
