-- The laws of the loops: what is left to be put, one row further on, and when nothing is left. Assumes nothing.
use mathlib.Core.Path.{◌≡◌, refl, sym, ap, ◌∙◌}
use mathlib.Core.List.{[], ◌∷◌, ◌++◌}
use Prim.Native.Nat.{ℕ, zero, suc, ◌+◌, ◌-◌, ◌≤◌, ◌<◌}
use native.Mathlib.Omega.{arith}
use lib.ListN.{length, get_or, drop}
use lib.Seq.{drop-cons, drop-length}
use native.Mathlib.Numerals.{add-one}
use Rattle.terms.specs.Ascii.{Bytes, ascii}
use Rattle.output.specs.Pen.{Pen, put, Wrote}
use Rattle.output.proofs.Writing.{◌then◌}
use Rattle.map_json.specs.Json.{each, escaped, escapes, comma_from}

-- what follows a writing
pub behind : {p q : Pen} {x : Bytes} (y : Bytes) → Wrote p x q → put q y ≡ put p (x ++ y)
behind {p} {q} {x} y w = sym (w then rest).is
  where
    rest : Wrote q y (put q y)
    rest = record { is = refl }

-- ## `each`: what is left from row k on, of n rows
pub each_all : (f : ℕ → Bytes) (p : Pen) (n : ℕ) → put p (each f 0 (n - 0)) ≡ put p (each f 0 n)
each_all f p n = ap (λ (i : ℕ). put p (each f 0 i)) (let e : n - 0 ≡ n = omega arith in e)

again : (f : ℕ → Bytes) (p q : Pen) (k m : ℕ) → Wrote p (f k) q → put q (each f (suc k) m) ≡ put p (each f k (suc m))
unfolding each
again f p q k m w = behind (each f (suc k) m) w

pub each_again : (f : ℕ → Bytes) (p q : Pen) (k n : ℕ) → k < n → Wrote p (f k) q → put q (each f (k + 1) (n - (k + 1))) ≡ put p (each f k (n - k))
each_again f p q k n h w =
    let e : suc (n - (k + 1)) ≡ n - k = omega arith in
    ap (λ (i : ℕ). put q (each f i (n - (k + 1)))) (add-one k) ∙ again f p q k (n - (k + 1)) w ∙ ap (λ (i : ℕ). put p (each f k i)) e

nothing_left : (f : ℕ → Bytes) (p : Pen) (k : ℕ) → put p (each f k 0) ≡ p
unfolding each put
nothing_left f p k = refl

pub each-done : (f : ℕ → Bytes) (p : Pen) (k n : ℕ) → n ≤ k → put p (each f k (n - k)) ≡ p
each-done f p k n h = ap (λ (i : ℕ). put p (each f k i)) (let e : n - k ≡ 0 = omega arith in e) ∙ nothing_left f p k

-- ## `escapes`: what is left of a string behind its first i bytes
escapes-step : (p q : Pen) (b : ℕ) (s : Bytes) → Wrote p (escaped b) q → put q (escapes s) ≡ put p (escapes (b ∷ s))
unfolding escapes
escapes-step p q b s w = behind (escapes s) w

pub escapes-again : (p q : Pen) (s : Bytes) (i : ℕ) → i < length s → Wrote p (escaped (get_or s i 0)) q → put q (escapes (drop (i + 1) s)) ≡ put p (escapes (drop i s))
escapes-again p q s i h w = ap (λ (j : ℕ). put q (escapes (drop j s))) (add-one i) ∙ escapes-step p q (get_or s i 0) (drop (suc i) s) w ∙ ap (λ (l : Bytes). put p (escapes l)) (sym (drop-cons s i 0 h))

pub escapes-done : (p : Pen) (s : Bytes) (i : ℕ) → i ≡ length s → put p (escapes (drop i s)) ≡ p
unfolding escapes put
escapes-done p s i h = ap (λ (j : ℕ). put p (escapes (drop j s))) h ∙ ap (λ (l : Bytes). put p (escapes l)) (drop-length s)

-- ## Commas
pub no_comma : (k : ℕ) → k ≡ 0 → [] ≡ comma_from k
unfolding comma_from
no_comma zero e = refl
no_comma (suc k) e = absurd (omega arith)

pub some_comma : (k : ℕ) → (k ≡ 0 → ⊥) → ascii "," ≡ comma_from k
unfolding comma_from
some_comma zero h = absurd (h refl)
some_comma (suc k) h = refl
