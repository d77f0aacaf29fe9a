-- The laws of numbers of two bytes, of names, and of records that end with a name. Assumes nothing.
use mathlib.Core.Path.{◌≡◌, refl, sym, ap, ◌∙◌}
use mathlib.Core.Bool.{Bool, true, false}
use Prim.Native.Nat.{ℕ, ◌+◌, ◌-◌, ◌≤◌, ◌<◌}
use native.Mathlib.Omega.{arith}
use borrow.Author.Tests.{leb-true, le-leb, lt-leb, eqb-true, eqb-false, eq-eqb, ne_eqb}
use lib.ListN.{length, take, drop, get_or}
use lib.Dec.{leb, eqb}
use Rattle.terms.specs.Ascii.{Bytes}
use Rattle.terms.specs.Words.{pick}
use Rattle.scan.specs.Allowed.{field_byte, all}
use Rattle.packed_rows.specs.Walk.{two}
use Rattle.packed_frame.specs.Names.{two_at, name_size_of, with_name_of, named_end}

-- ## A number of two bytes
pub two_none : (b : Bytes) (at : ℕ) → length b < at + 2 → 0 ≡ two_at b at
unfolding two_at
two_none b at h = sym (ap (λ (t : Bool). pick t (two (get_or b at 0) (get_or b (at + 1) 0)) 0) (lt-leb (at + 2) (length b) h))

pub two-read : (b : Bytes) (at x : ℕ) → at + 2 ≤ length b → x ≡ two (get_or b at 0) (get_or b (at + 1) 0) → x ≡ two_at b at
unfolding two_at
two-read b at x h e = e ∙ sym (ap (λ (t : Bool). pick t (two (get_or b at 0) (get_or b (at + 1) 0)) 0) (le-leb (at + 2) (length b) h))

-- ## A name
module _ (b : Bytes) (at : ℕ) where
  abbrev inside : Bool
  inside = leb (at + 2) (length b)

  abbrev chain : (p q r t : Bool) (n : ℕ) → ℕ
  chain p q r t n = pick p (pick q (pick r (pick t n 129) 129) 129) 129

  -- n: the length that is told
  abbrev long : ℕ → Bool
  long n = leb (at + 2 + n) (length b)

  abbrev right : ℕ → Bool
  right n = all field_byte (take n (drop (at + 2) b))

  is-chain : name_size_of b at ≡ chain inside (leb (two_at b at) 128) (long (two_at b at)) (right (two_at b at)) (two_at b at)
  unfolding name_size_of
  is-chain = refl

  as-told : (n : ℕ) → n ≡ two_at b at → chain inside (leb n 128) (long n) (right n) n ≡ name_size_of b at
  as-told n e = (λ i. chain inside (leb (e i) 128) (long (e i)) (right (e i)) (e i)) ∙ sym is-chain

  pub name-cut : length b < at + 2 → 129 ≡ name_size_of b at
  name-cut h = sym (is-chain ∙ ap (λ (p : Bool). chain p (leb (two_at b at) 128) (long (two_at b at)) (right (two_at b at)) (two_at b at)) (lt-leb (at + 2) (length b) h))

  module _ (n : ℕ) (told : n ≡ two_at b at) (h : at + 2 ≤ length b) where
    pub name-long : 128 < n → 129 ≡ name_size_of b at
    name-long g = sym (λ i. chain (le-leb (at + 2) (length b) h i) (lt-leb n 128 g i) (long n) (right n) n) ∙ as-told n told

    pub name-past : n ≤ 128 → length b < at + 2 + n → 129 ≡ name_size_of b at
    name-past g l = sym (λ i. chain (le-leb (at + 2) (length b) h i) (le-leb n 128 g i) (lt-leb (at + 2 + n) (length b) l i) (right n) n) ∙ as-told n told

    pub name-read : n ≤ 128 → at + 2 + n ≤ length b → (x : Bool) → x ≡ right n → pick x n 129 ≡ name_size_of b at
    name-read g l x e = sym (λ i. chain (le-leb (at + 2) (length b) h i) (le-leb n 128 g i) (le-leb (at + 2 + n) (length b) l i) (sym e i) n) ∙ as-told n told

    -- as the slice of it was tested
    pub name-tested : n ≤ 128 → at + 2 + n ≤ length b → (x : Bool) → x ≡ all field_byte (take (at + 2 + n - (at + 2)) (drop (at + 2) b)) → pick x n 129 ≡ name_size_of b at
    name-tested g l x e = let d : at + 2 + n - (at + 2) ≡ n = omega arith in name-read g l x (e ∙ ap right d)

  -- what a name's size says
  pub record Name : Type 0 where
    pub inside-bytes : at + 2 + two_at b at ≤ length b
    pub few : two_at b at ≤ 128
    pub fields : right (two_at b at) ≡ true
    pub size : name_size_of b at ≡ two_at b at

  pub name_told : (name_size_of b at ≡ 129 → ⊥) → Name
  name_told h = go inside refl (leb (two_at b at) 128) refl (long (two_at b at)) refl (right (two_at b at)) refl (λ e. h (is-chain ∙ e)) is-chain
    where
      go : (p : Bool) → inside ≡ p → (q : Bool) → leb (two_at b at) 128 ≡ q → (r : Bool) → long (two_at b at) ≡ r → (t : Bool) → right (two_at b at) ≡ t → (chain p q r t (two_at b at) ≡ 129 → ⊥) → name_size_of b at ≡ chain p q r t (two_at b at) → Name
      go false ep q eq r er t et n c = absurd (n refl)
      go true ep false eq r er t et n c = absurd (n refl)
      go true ep true eq false er t et n c = absurd (n refl)
      go true ep true eq true er false et n c = absurd (n refl)
      go true ep true eq true er true et n c = record { inside-bytes = leb-true (at + 2 + two_at b at) (length b) er; few = leb-true (two_at b at) 128 eq; fields = et; size = c }

  pub name-short : name_size_of b at ≤ 129
  name-short = go (eqb (name_size_of b at) 129) refl
    where
      go : (x : Bool) → eqb (name_size_of b at) 129 ≡ x → name_size_of b at ≤ 129
      go true e = let d = eqb-true (name_size_of b at) 129 e in omega arith
      go false e = let t = name_told (eqb-false (name_size_of b at) 129 e) in let f = t.few in let s = t.size in omega arith

  pub name-inside : (name_size_of b at ≡ 129 → ⊥) → at + 2 + name_size_of b at ≤ length b
  name-inside h = let t = name_told h in let i = t.inside-bytes in let s = t.size in omega arith

-- ## A record that ends with a name
module _ (size : ℕ) (b : Bytes) (at : ℕ) where
  abbrev fixed : Bool
  fixed = leb (at + (size + 2)) (length b)

  abbrev place : ℕ
  place = at + (size + 2)

  is-named : named_end size b at ≡ pick fixed (with_name_of size b at (name_size_of b place)) 0
  unfolding named_end
  is-named = refl

  pub named-cut : length b < at + (size + 2) → 0 ≡ named_end size b at
  named-cut h = sym (is-named ∙ ap (λ (t : Bool). pick t (with_name_of size b at (name_size_of b place)) 0) (lt-leb place (length b) h))

  module _ (h : at + (size + 2) ≤ length b) (n : ℕ) (told : n ≡ name_size_of b (at + (size + 2))) where
    as-named : with_name_of size b at n ≡ named_end size b at
    as-named = ap (with_name_of size b at) told ∙ sym (is-named ∙ ap (λ (t : Bool). pick t (with_name_of size b at (name_size_of b place)) 0) (le-leb place (length b) h))

    pub named_none : n ≡ 129 → 0 ≡ named_end size b at
    named_none e = sym (ap (λ (t : Bool). pick t 0 (pick (eqb (two_at b at) (size + 2 + n)) (at + (size + 2) + 2 + n) 0)) (eq-eqb n 129 e)) ∙ as-named

    -- m: the length that is told
    pub named-read : (n ≡ 129 → ⊥) → (m : ℕ) → m ≡ two_at b at → pick (eqb m (size + 2 + n)) (at + (size + 2) + 2 + n) 0 ≡ named_end size b at
    named-read g m e = sym (λ i. pick (ne_eqb n 129 g i) 0 (pick (eqb (sym e i) (size + 2 + n)) (at + (size + 2) + 2 + n) 0)) ∙ as-named

    pub named-is : (n ≡ 129 → ⊥) → (m : ℕ) → m ≡ two_at b at → m ≡ size + 2 + n → at + (size + 2) + 2 + n ≡ named_end size b at
    named-is g m e f = sym (ap (λ (t : Bool). pick t (at + (size + 2) + 2 + n) 0) (eq-eqb m (size + 2 + n) f)) ∙ named-read g m e

    pub named-not : (n ≡ 129 → ⊥) → (m : ℕ) → m ≡ two_at b at → (m ≡ size + 2 + n → ⊥) → 0 ≡ named_end size b at
    named-not g m e f = sym (ap (λ (t : Bool). pick t (at + (size + 2) + 2 + n) 0) (ne_eqb m (size + 2 + n) f)) ∙ named-read g m e

  pub record Ends : Type 0 where
    pub there : at + (size + 2) ≤ length b
    pub named : name_size_of b (at + (size + 2)) ≡ 129 → ⊥
    pub length-told : two_at b at ≡ size + 2 + name_size_of b (at + (size + 2))
    pub end : named_end size b at ≡ at + (size + 2) + 2 + name_size_of b (at + (size + 2))

  pub ends-told : (named_end size b at ≡ 0 → ⊥) → Ends
  ends-told h = go fixed refl (eqb (name_size_of b place) 129) refl (eqb (two_at b at) (size + 2 + name_size_of b place)) refl (λ e. h (is-named ∙ e)) is-named
    where
      go : (p : Bool) → fixed ≡ p → (q : Bool) → eqb (name_size_of b place) 129 ≡ q → (r : Bool) → eqb (two_at b at) (size + 2 + name_size_of b place) ≡ r
          → (pick p (pick q 0 (pick r (at + (size + 2) + 2 + name_size_of b place) 0)) 0 ≡ 0 → ⊥) → named_end size b at ≡ pick p (pick q 0 (pick r (at + (size + 2) + 2 + name_size_of b place) 0)) 0 → Ends
      go false ep q eq r er n c = absurd (n refl)
      go true ep true eq r er n c = absurd (n refl)
      go true ep false eq false er n c = absurd (n refl)
      go true ep false eq true er n c = record { there = leb-true place (length b) ep; named = eqb-false (name_size_of b place) 129 eq; length-told = eqb-true (two_at b at) (size + 2 + name_size_of b place) er; end = c }

  pub named-inside : (named_end size b at ≡ 0 → ⊥) → at + (size + 2) + 2 ≤ length b
  named-inside h =
      let t = ends-told h in
      let i = name-inside b (at + (size + 2)) t.named in
      omega arith
