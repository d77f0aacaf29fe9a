-- Laws of `Ended`: every line has a content, and one only; what `trimmed` answers. Assumes nothing.
use mathlib.Core.Path.{◌≡◌, refl, sym, ap, subst, ◌∙◌}
use mathlib.Core.List.{[], ◌∷◌, ◌++◌, head-eq_of_cons-eq, tail-eq_of_cons-eq, nil≢cons, cons≢nil}
use mathlib.Core.Bool.{Bool, true, false}
use Prim.Native.Nat.{ℕ, suc, ◌-◌, ◌≤◌}
use native.Mathlib.Omega.{arith}
use borrow.Author.Tests.{eqb-true, eqb-false, ne_eqb, lt-ltb}
use lib.ListN.{length, take, get_or}
use lib.Dec.{eqb, ltb}
use Rattle.terms.specs.Ascii.{Bytes}
use Rattle.terms.specs.Words.{pick}
use Rattle.line.specs.Text.{lf, cr, Lacks, none, more, Ended, dropped, bare}
use Rattle.line.specs.Lines.{drop_cr, trim_of}

longer : (b d : ℕ) (t c : Bytes) → Ended (d ∷ t) c → Ended (b ∷ d ∷ t) (b ∷ c)
longer b d t c h = go h refl
  where
    not_so : ((c : Bytes) → d ∷ t ≡ c ++ (cr ∷ []) → ⊥) → (c : Bytes) → b ∷ d ∷ t ≡ c ++ (cr ∷ []) → ⊥
    not_so n [] e = cons≢nil (tail-eq_of_cons-eq e)
    not_so n (x ∷ c) e = n c (tail-eq_of_cons-eq e)

    go : {l c : Bytes} → Ended l c → l ≡ d ∷ t → Ended (b ∷ l) (b ∷ c)
    go (dropped {content = c}) e = dropped {content = b ∷ c}
    go (bare {content = l} n) e = bare (subst (λ (l : Bytes). (c : Bytes) → b ∷ l ≡ c ++ (cr ∷ []) → ⊥) (sym e) (not_so (subst (λ (l : Bytes). (c : Bytes) → l ≡ c ++ (cr ∷ []) → ⊥) e n)))

-- what is left of a line is its content
pub ended : (l : Bytes) → Ended l (drop_cr l)
unfolding drop_cr
ended [] = bare nothing_left
  where
    nothing_left : (c : Bytes) → [] ≡ c ++ (cr ∷ []) → ⊥
    nothing_left [] e = nil≢cons e
    nothing_left (x ∷ c) e = nil≢cons e
ended (b ∷ []) = go (eqb b cr) refl
  where
    not-cr : eqb b cr ≡ false → (c : Bytes) → b ∷ [] ≡ c ++ (cr ∷ []) → ⊥
    not-cr q [] e = eqb-false b cr q (head-eq_of_cons-eq e)
    not-cr q (x ∷ []) e = nil≢cons (tail-eq_of_cons-eq e)
    not-cr q (x ∷ y ∷ c) e = nil≢cons (tail-eq_of_cons-eq e)

    go : (x : Bool) → eqb b cr ≡ x → Ended (b ∷ []) (pick x [] (b ∷ []))
    go true e = rw (eqb-true b cr e) (dropped {content = []})
    go false e = bare (not-cr e)
ended (b ∷ d ∷ t) = longer b d t (drop_cr (d ∷ t)) (ended (d ∷ t))

gone : (c : Bytes) → drop_cr (c ++ (cr ∷ [])) ≡ c
unfolding drop_cr
gone [] = refl
gone (b ∷ []) = refl
gone (b ∷ d ∷ t) = ap (◌∷◌ b) (gone (d ∷ t))

kept : (l : Bytes) → ((c : Bytes) → l ≡ c ++ (cr ∷ []) → ⊥) → drop_cr l ≡ l
unfolding drop_cr
kept [] n = refl
kept (b ∷ []) n = rw (ne_eqb b cr (λ e. n [] (ap (λ (b : ℕ). b ∷ []) e)))
kept (b ∷ d ∷ t) n = ap (◌∷◌ b) (kept (d ∷ t) (λ c e. n (b ∷ c) (ap (◌∷◌ b) e)))

-- and it has no other
pub ended_is : {l c : Bytes} → Ended l c → drop_cr l ≡ c
ended_is (dropped {content = c}) = gone c
ended_is (bare {content = l} n) = kept l n

pub ended-one : {l c d : Bytes} → Ended l c → Ended l d → c ≡ d
ended-one h k = sym (ended_is h) ∙ ended_is k

-- a content without CR is a line as it stands
pub bare-lacks : (c : Bytes) → Lacks cr c → Ended c c
bare-lacks c h = bare (λ d e. last d (subst (Lacks cr) e h))
  where
    last : (d : Bytes) → Lacks cr (d ++ (cr ∷ [])) → ⊥
    last [] (more n k) = n refl
    last (b ∷ d) (more n k) = last d k

-- a line without LF, from its content
pub ended-lacks : {l c : Bytes} → Ended l c → Lacks lf c → Lacks lf l
ended-lacks (bare n) h = h
ended-lacks (dropped {content = c}) h = go c h
  where
    go : (c : Bytes) → Lacks lf c → Lacks lf (c ++ (cr ∷ []))
    go [] none = more (λ (e : ◌≡◌ {A = ℕ} 13 10). omega arith) none
    go (b ∷ c) (more n h) = more n (go c h)

-- ## What `trimmed` answers
trim-more : (b d : ℕ) (t : Bytes) → trim_of (b ∷ d ∷ t) ≡ suc (trim_of (d ∷ t))
unfolding trim_of
trim-more b d t =
    let p : length (b ∷ d ∷ t) - 1 ≡ suc (length t) = omega arith in
    let q : length (d ∷ t) - 1 ≡ length t = omega arith in
    rw (lt-ltb 0 (length (b ∷ d ∷ t)) (omega arith), lt-ltb 0 (length (d ∷ t)) (omega arith), p, q) (go (eqb (get_or (d ∷ t) (length t) 0) cr))
  where
    go : (x : Bool) → pick x (suc (length t)) (suc (suc (length t))) ≡ suc (pick x (length t) (suc (length t)))
    go true = refl
    go false = refl

pub trim-take : (s : Bytes) → take (trim_of s) s ≡ drop_cr s
unfolding drop_cr
trim-take [] = unfold trim_of in refl
trim-take (b ∷ []) = unfold trim_of in go (eqb b cr)
  where
    go : (x : Bool) → take (pick x 0 1) (b ∷ []) ≡ pick x [] (b ∷ [])
    go true = refl
    go false = refl
trim-take (b ∷ d ∷ t) = rw (trim-more b d t) (ap (◌∷◌ b) (trim-take (d ∷ t)))

pub trim_le : (s : Bytes) → trim_of s ≤ length s
unfolding trim_of
trim_le s = go (ltb 0 (length s)) (eqb (get_or s (length s - 1) 0) cr)
  where
    go : (x y : Bool) → pick x (pick y (length s - 1) (length s)) 0 ≤ length s
    go true true = omega arith
    go true false = omega arith
    go false y = omega arith

-- what stands before `trimmed`'s answer is the line's content
pub trim-ended : (s : Bytes) → Ended s (take (trim_of s) s)
trim-ended s = subst (Ended s) (sym (trim-take s)) (ended s)
