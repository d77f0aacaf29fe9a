-- The first line in which two writings differ: what is found is it, nothing else is, and nothing is found exactly if the two are equal. Assumes nothing.
use Rattle.std.specs.Prelude.{Some, None, Option}
use mathlib.Core.Path.{◌≡◌, refl, sym, ap, subst, ◌∙◌}
use mathlib.Core.Logic.{◌↔◌}
use mathlib.Core.List.{List, [], ◌∷◌, ◌++◌, append_assoc, append-nil, head-eq_of_cons-eq, tail-eq_of_cons-eq, nil≢cons}
use mathlib.Core.Bool.{Bool, true, false}
use Prim.Native.Nat.{ℕ, suc, ◌+◌}
use native.Mathlib.Omega.{arith}
use borrow.Author.Tests.{eq-eqb, ne_eqb, eqb-true, eqb-false}
use lib.Dec.{eqb}
use lib.ListN.{length, length-append}
use Rattle.terms.specs.Ascii.{Bytes}
use Rattle.terms.specs.Words.{pick, Each}
use Rattle.line.specs.Text.{lf, Lacks, none, more}
use Rattle.line.specs.Lines.{write_lines}
use Rattle.compared.specs.Compared.{differ_from, first_difference_of, first_line, FirstDiffers, Means}

-- ## Bytes before the LF
cancel : (l : Bytes) {u v : Bytes} → l ++ u ≡ l ++ v → u ≡ v
cancel [] e = e
cancel (x ∷ l) e = cancel l (tail-eq_of_cons-eq e)

-- the first line goes on behind bytes without an LF
line_on : {l : Bytes} → Lacks lf l → (t : Bytes) → first_line (l ++ t) ≡ l ++ first_line t
unfolding first_line
line_on none t = refl
line_on (more {b = b} n r) t = rw (ne_eqb b lf n) (ap (◌∷◌ b) (line_on r t))

-- and ends with it
line-end : {l : Bytes} → Lacks lf l → (t : Bytes) → first_line (l ++ (lf ∷ t)) ≡ l ++ (lf ∷ [])
unfolding first_line
line-end h t = line_on h (lf ∷ t)

lacks-more : {l : Bytes} → Lacks lf l → (b : ℕ) → (b ≡ lf → ⊥) → Lacks lf (l ++ (b ∷ []))
lacks-more none b n = more n none
lacks-more (more m r) b n = more m (lacks-more r b n)

-- ## What is found means what it says
-- behind a line that starts there, so many lines before it
abbrev From : (start passed : ℕ) (a b : Bytes) → Option (ℕ × ℕ) → Type 0
From start passed a b None = a ≡ b
From start passed a b (Some (s, n)) = (s' : ℕ) × (n' : ℕ) × (s ≡ start + s') × (n ≡ passed + n') × FirstDiffers a b s' n'

here : (start passed : ℕ) (a b : Bytes) → (first_line a ≡ first_line b → ⊥) → From start passed a b (Some (start, passed))
unfolding write_lines
here start passed a b d = (0, 0, omega arith, omega arith, record { lines = []; one = a; other = b; whole = tt; first = refl; second = refl; starts = refl; counted = refl; differ = d })

later : (l : Bytes) → Lacks lf l → (start passed : ℕ) (a b : Bytes) (d : Option (ℕ × ℕ)) → From (start + suc (length l)) (suc passed) a b d → From start passed (l ++ (lf ∷ a)) (l ++ (lf ∷ b)) d
unfolding write_lines
later l h start passed a b None e = ap (λ (t : Bytes). l ++ (lf ∷ t)) e
later l h start passed a b (Some (s, n)) (s', n', p, q, f) = (
  suc (length l) + s',
  suc n',
  omega (arith, p),
  omega (arith, q),
  record {
    lines = l ∷ f.lines;
    one = f.one;
    other = f.other;
    whole = (h, f.whole);
    first = ap (λ (t : Bytes). l ++ (lf ∷ t)) f.first ∙ sym (append_assoc l (lf ∷ write_lines f.lines) f.one);
    second = ap (λ (t : Bytes). l ++ (lf ∷ t)) f.second ∙ sym (append_assoc l (lf ∷ write_lines f.lines) f.other);
    starts = let e : suc (length l) + s' ≡ length l + suc (length (write_lines f.lines)) = omega (arith, f.starts) in e ∙ sym (length-append l (lf ∷ write_lines f.lines));
    counted = ap suc f.counted;
    differ = f.differ;
  },
)

-- l: the line that is open
found : (l : Bytes) → Lacks lf l → (at start passed : ℕ) → at ≡ start + length l → (a b : Bytes) → From start passed (l ++ a) (l ++ b) (differ_from at start passed a b)
unfolding differ_from first_line
found l h at start passed e [] [] = refl
found l h at start passed e [] (y ∷ b) = here start passed (l ++ []) (l ++ (y ∷ b)) (λ q. nil≢cons (cancel l (sym (line_on h []) ∙ q ∙ line_on h (y ∷ b))))
found l h at start passed e (x ∷ a) [] = here start passed (l ++ (x ∷ a)) (l ++ []) (λ q. nil≢cons (cancel l (sym (line_on h []) ∙ sym q ∙ line_on h (x ∷ a))))
found l h at start passed e (x ∷ a) (y ∷ b) = go (eqb x y) refl (eqb x lf) refl (found [] none (suc at) (suc at) (suc passed) (omega arith) a b) (λ n. found (l ++ (x ∷ [])) (lacks-more h x n) (suc at) start passed (let z : suc at ≡ start + (length l + 1) = omega (arith, e) in z ∙ ap (◌+◌ start) (sym (length-append l (x ∷ [])))) a b)
  where
    go : (t : Bool) → eqb x y ≡ t → (u : Bool) → eqb x lf ≡ u → From (suc at) (suc passed) a b (differ_from (suc at) (suc at) (suc passed) a b)
        → ((x ≡ lf → ⊥) → From start passed ((l ++ (x ∷ [])) ++ a) ((l ++ (x ∷ [])) ++ b) (differ_from (suc at) start passed a b))
        → From start passed (l ++ (x ∷ a)) (l ++ (y ∷ b)) (pick t (pick u (differ_from (suc at) (suc at) (suc passed) a b) (differ_from (suc at) start passed a b)) (Some (start, passed)))
    go false p u q r s = here start passed (l ++ (x ∷ a)) (l ++ (y ∷ b)) (λ z. eqb-false x y p (head-eq_of_cons-eq (cancel l (sym (line_on h (x ∷ a)) ∙ z ∙ line_on h (y ∷ b)))))
    go true p true q r s =
        let d = differ_from (suc at) (suc at) (suc passed) a b in
        let z : suc at ≡ start + suc (length l) = omega (arith, e) in
        let w = later l h start passed a b d (subst (λ (k : ℕ). From k (suc passed) a b d) z r) in
        let x-lf = eqb-true x lf q in
        subst (λ (k : ℕ). From start passed (l ++ (x ∷ a)) (l ++ (k ∷ b)) d) (sym x-lf ∙ eqb-true x y p) (subst (λ (k : ℕ). From start passed (l ++ (k ∷ a)) (l ++ (lf ∷ b)) d) (sym x-lf) w)
    go true p false q r s =
        let d = differ_from (suc at) start passed a b in
        let w = subst (λ (t : Bytes). From start passed t ((l ++ (x ∷ [])) ++ b) d) (append_assoc l (x ∷ []) a) (s (eqb-false x lf q)) in
        subst (λ (k : ℕ). From start passed (l ++ (x ∷ a)) (l ++ (k ∷ b)) d) (eqb-true x y p) (subst (λ (t : Bytes). From start passed (l ++ (x ∷ a)) t d) (append_assoc l (x ∷ []) b) w)

pub means : (a b : Bytes) → Means a b (first_difference_of a b)
unfolding first_difference_of
means a b = go (differ_from 0 0 0 a b) (found [] none 0 0 0 (omega arith) a b)
  where
    go : (d : Option (ℕ × ℕ)) → From 0 0 a b d → Means a b d
    go None e = e
    go (Some (s, n)) (s', n', p, q, f) =
        let p' : s' ≡ s = omega (arith, p) in
        let q' : n' ≡ n = omega (arith, q) in
        subst (FirstDiffers a b s) q' (subst (λ (k : ℕ). FirstDiffers a b k n') p' f)

-- ## Nothing else does
never-equal : {a b : Bytes} {s n : ℕ} → FirstDiffers a b s n → a ≡ b → ⊥
never-equal f e = f.differ (ap first_line (cancel (write_lines f.lines) (sym f.first ∙ e ∙ f.second)))

-- bytes without an LF, and one behind them, are cut in one way
same_line : {l m : Bytes} → Lacks lf l → Lacks lf m → (t u : Bytes) → l ++ (lf ∷ t) ≡ m ++ (lf ∷ u) → (l ≡ m) × (t ≡ u)
same_line none none t u e = (refl, tail-eq_of_cons-eq e)
same_line none (more n r) t u e = absurd (n (sym (head-eq_of_cons-eq e)))
same_line (more n r) none t u e = absurd (n (head-eq_of_cons-eq e))
same_line (more {b = b} n r) (more n' r') t u e = let w = same_line r r' t u (tail-eq_of_cons-eq e) in (λ i. head-eq_of_cons-eq e i ∷ w.0 i, w.1)

same_lines : (ls ms : List Bytes) → Each (Lacks lf) ls → Each (Lacks lf) ms → (u v u' v' : Bytes) → write_lines ls ++ u ≡ write_lines ms ++ u' → write_lines ls ++ v ≡ write_lines ms ++ v'
    → (first_line u ≡ first_line v → ⊥) → (first_line u' ≡ first_line v' → ⊥) → ls ≡ ms
unfolding write_lines
same_lines [] [] h k u v u' v' e f d d' = refl
same_lines [] (m ∷ ms) h k u v u' v' e f d d' =
    let x = e ∙ append_assoc m (lf ∷ write_lines ms) u' in
    let y = f ∙ append_assoc m (lf ∷ write_lines ms) v' in
    absurd (d (ap first_line x ∙ line-end k.0 (write_lines ms ++ u') ∙ sym (line-end k.0 (write_lines ms ++ v')) ∙ sym (ap first_line y)))
same_lines (l ∷ ls) [] h k u v u' v' e f d d' =
    let x = sym e ∙ append_assoc l (lf ∷ write_lines ls) u in
    let y = sym f ∙ append_assoc l (lf ∷ write_lines ls) v in
    absurd (d' (ap first_line x ∙ line-end h.0 (write_lines ls ++ u) ∙ sym (line-end h.0 (write_lines ls ++ v)) ∙ sym (ap first_line y)))
same_lines (l ∷ ls) (m ∷ ms) h k u v u' v' e f d d' =
    let x = same_line h.0 k.0 (write_lines ls ++ u) (write_lines ms ++ u') (sym (append_assoc l (lf ∷ write_lines ls) u) ∙ e ∙ append_assoc m (lf ∷ write_lines ms) u') in
    let y = same_line h.0 k.0 (write_lines ls ++ v) (write_lines ms ++ v') (sym (append_assoc l (lf ∷ write_lines ls) v) ∙ f ∙ append_assoc m (lf ∷ write_lines ms) v') in
    let w = same_lines ls ms h.1 k.1 u v u' v' x.1 y.1 d d' in
    λ i. x.0 i ∷ w i

-- no second answer means what it says
pub means-one : (a b : Bytes) (d d' : Option (ℕ × ℕ)) → Means a b d → Means a b d' → d ≡ d'
means-one a b None None p q = refl
means-one a b None (Some (s, n)) p q = absurd (never-equal q p)
means-one a b (Some (s, n)) None p q = absurd (never-equal p q)
means-one a b (Some (s, n)) (Some (s', n')) p q =
    let e = same_lines p.lines q.lines p.whole q.whole p.one p.other q.one q.other (sym p.first ∙ q.first) (sym p.second ∙ q.second) p.differ q.differ in
    λ i. Some (((p.starts ∙ ap (λ (ls : List Bytes). length (write_lines ls)) e ∙ sym q.starts) i), (p.counted ∙ ap length e ∙ sym q.counted) i)

-- nowhere exactly if the two are equal
pub nowhere-equal : (a b : Bytes) → (first_difference_of a b ≡ None) ↔ (a ≡ b)
nowhere-equal a b = (λ e. subst (Means a b) e (means a b), λ e. means-one a b (first_difference_of a b) None (means a b) e)
