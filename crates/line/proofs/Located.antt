-- Every line of a text, and every field of a line, stands in the text at its start. Assumes nothing.
use mathlib.Core.Path.{◌≡◌, refl, sym, ap, subst, ◌∙◌}
use mathlib.Core.List.{List, [], ◌∷◌, ◌++◌, append_assoc, append-nil}
use Prim.Native.Nat.{ℕ, suc, ◌+◌, ◌≤◌}
use native.Mathlib.Omega.{arith}
use native.Mathlib.Nat.{zero-add}
use lib.ListN.{length, take, drop, length-append, take-append-drop}
use lib.Seq.{take-append_seam, drop-append_seam, length-take-le}
use Rattle.terms.specs.Ascii.{Bytes}
use Rattle.terms.specs.Words.{Each}
use Rattle.terms.proofs.Lists.{each_map}
use Rattle.line.specs.Text.{lf, cr, Cut, nothing, unfinished, line, Ended, dropped, bare}
use Rattle.line.specs.Content.{Field, at, SpellsFields, Content}
use Rattle.line.specs.Content as N
use Rattle.line.specs.Located.{Within, EachLine}

-- asking for it returns its bytes
pub stands : (t : Bytes) (f : Field) → Within 0 t f → take (length f.bytes) (drop f.start t) ≡ f.bytes
stands t f w = rw (w.starts, zero-add) (subst (λ (t : Bytes). take (length f.bytes) (drop (length w.before) t) ≡ f.bytes) (sym w.is) (rw (drop-append_seam, take-append_seam)))

-- what stands in a part stands in the whole
pub in_whole : (a : ℕ) (t : Bytes) (p f : Field) → Within a t p → Within p.start p.bytes f → Within a t f
in_whole a t p f v w =
    let k : f.start ≡ p.start + length w.before = w.starts in
    let m : p.start ≡ a + length v.before = v.starts in
    record {
      before = v.before ++ w.before;
      after = w.after ++ v.after;
      is = v.is ∙ ap (λ (l : Bytes). v.before ++ (l ++ v.after)) w.is ∙ simp append_assoc;
      starts = simp length-append (omega arith);
    }

-- ## Fields of a line
shift : (a : ℕ) (x t : Bytes) (f : Field) → Within (a + length x) t f → Within a (x ++ t) f
shift a x t f w = in_whole a (x ++ t) (at (a + length x) t) f (record { before = x; after = []; is = ap (◌++◌ x) (sym (append-nil t)); starts = refl }) w

grow : (a : ℕ) (t r : Bytes) (f : Field) → Within a t f → Within a (t ++ r) f
grow a t r f w = in_whole a (t ++ r) (at a t) f (record { before = []; after = r; is = refl; starts = omega arith }) w

spelled-within : {a : ℕ} {l : Bytes} {fs : List Field} → SpellsFields a l fs → Each (Within a l) fs
spelled-within N.nothing = tt
spelled-within (N.separator {start = a} {b = b} {rest = l} {fields = fs} h p) =
    let n : suc a ≡ a + 1 = omega arith in
    each_map _ _ (λ f w. shift a (b ∷ []) l f (subst (λ (k : ℕ). Within k l f) n w)) fs (spelled-within p)
spelled-within (N.field {start = a} {bytes = f} {rest = r} {fields = fs} w e p) =
    (record { before = []; after = r; is = refl; starts = omega arith }, each_map _ _ (λ g. shift a f r g) fs (spelled-within p))

content-within : {a : ℕ} {c : Bytes} {fs : List Field} → Content a c fs → Each (Within a c) fs
content-within {a} {c} {fs} h = subst (λ (c : Bytes). Each (Within a c) fs) (sym h.spelled) (each_map _ _ (grow a h.outer h.note) fs (spelled-within h.fielded))

-- in the line, with its CR or without
pub line-fields : {a : ℕ} {l c : Bytes} {fs : List Field} → Ended l c → Content a c fs → Each (Within a l) fs
line-fields (bare n) h = content-within h
line-fields {a} {fs = fs} (dropped {content = c}) h = each_map _ _ (grow a c (cr ∷ [])) fs (content-within h)

-- in the text, where the line is so many bytes from a place on
pub text-fields : (s : Bytes) (from n : ℕ) {c : Bytes} {fs : List Field} → from ≤ length s → Ended (take n (drop from s)) c → Content from c fs → Each (Within 0 s) fs
text-fields s from n {c} {fs} h e k = each_map _ _ (λ f w. in_whole 0 s (at from (take n (drop from s))) f here w) fs (line-fields e k)
  where
    here : Within 0 s (at from (take n (drop from s)))
    here =
        let m : length (take from s) ≡ from = length-take-le from s h in
        record { before = take from s; after = drop n (drop from s); is = sym (take-append-drop from s) ∙ ap (◌++◌ (take from s)) (sym (take-append-drop n (drop from s))); starts = omega arith }

-- asking for each of them returns its bytes
pub text-names : (s : Bytes) (from n : ℕ) {c : Bytes} {fs : List Field} → from ≤ length s → Ended (take n (drop from s)) c → Content from c fs → Each (λ f. take (length f.bytes) (drop f.start s) ≡ f.bytes) fs
text-names s from n {c} {fs} h e k = each_map _ _ (stands s) fs (text-fields s from n h e k)

-- ## Lines of a text
each_line : (P Q : ℕ → Bytes → Type 0) → ((a : ℕ) (l : Bytes) → P a l → Q a l) → (a : ℕ) (ls : List Bytes) → EachLine P a ls → EachLine Q a ls
each_line P Q h a [] e = tt
each_line P Q h a (l ∷ ls) e = (h a l e.0, each_line P Q h (a + suc (length l)) ls e.1)

-- every line stands at its start
pub cut-lines : {t : Bytes} {ls : List Bytes} (a : ℕ) → Cut t ls → EachLine (λ b l. Within a t (at b l)) a ls
cut-lines a nothing = tt
cut-lines a (unfinished {b = b} {l = l} h) = (record { before = []; after = []; is = sym (append-nil (b ∷ l)); starts = omega arith }, tt)
cut-lines a (line {l = l} {text = t} {lines = ls} h c) =
    (record { before = []; after = lf ∷ t; is = refl; starts = omega arith }, each_line _ _ (λ b k w. in_whole a (l ++ (lf ∷ t)) (at (a + suc (length l)) t) (at b k) rest w) (a + suc (length l)) ls (cut-lines (a + suc (length l)) c))
  where
    rest : Within a (l ++ (lf ∷ t)) (at (a + suc (length l)) t)
    rest = record { before = l ++ (lf ∷ []); after = []; is = ap (λ (t : Bytes). l ++ (lf ∷ t)) (sym (append-nil t)) ∙ sym (append_assoc l (lf ∷ []) (t ++ [])); starts = simp length-append (omega arith) }

-- and so does every field of every line
pub cut-fields : {t : Bytes} {ls : List Bytes} → Cut t ls → EachLine (λ a l. (c : Bytes) (fs : List Field) → Ended l c → Content a c fs → Each (Within 0 t) fs) 0 ls
cut-fields {t} {ls} k = each_line _ _ (λ a l v c fs e h. each_map _ _ (λ f w. in_whole 0 t (at a l) f v w) fs (line-fields e h)) 0 ls (cut-lines 0 k)
