-- Laws of `decimal` and `padded`: the plain lists of digits are the decimals of the numbers, each of one. Assumes nothing.
use mathlib.Core.Path.{◌≡◌, refl, sym, ap, ◌∙◌}
use mathlib.Core.List.{[], ◌∷◌, ◌++◌, append_assoc, append-nil}
use mathlib.Core.Bool.{Bool, true, false}
use Prim.Native.Nat.{ℕ, zero, suc, ◌+◌, ◌-◌, ◌*◌, ◌^◌, ◌/◌, ◌%◌, ◌≤◌, ◌<◌}
use native.Mathlib.Omega.{arith}
use native.Mathlib.Nat.{pow-suc}
use borrow.Author.Tests.{eqb-true, eqb-false, lt-ltb, le-ltb, ltb-true, ltb-false}
use lib.ListN.{length, get_or, length-append}
use lib.Dec.{ltb, eqb}
use Rattle.terms.specs.Ascii.{Bytes}
use Rattle.terms.specs.Words.{pick}
use Rattle.scan.specs.Allowed.{digit, all}
use Rattle.terms.proofs.Tests.{clash, both}
use Rattle.number.specs.Decimal.{digit_of, spell, decimal, padded}
use Rattle.number.specs.Executable.{worth, digits, plain}
use Rattle.number.proofs.Digits.{digit_in, digit-range, worth_snoc, digits_snoc, plain_other}

-- ## Any number of steps above the number is enough
spell_one : (k n : ℕ) → n < 10 → spell (suc k) n ≡ digit_of n ∷ []
unfolding spell
spell_one k n h = rw (lt-ltb n 10 h)

spell-many : (k n : ℕ) → 10 ≤ n → spell (suc k) n ≡ spell k (n / 10) ++ (digit_of (n % 10) ∷ [])
unfolding spell
spell-many k n h = rw (le-ltb n 10 h)

enough : (k m n : ℕ) → n < k → n < m → spell k n ≡ spell m n
enough zero m n h l = absurd (omega arith)
enough (suc k) zero n h l = absurd (omega arith)
enough (suc k) (suc m) n h l = go (ltb n 10) refl (λ (g : 10 ≤ n). enough k m (n / 10) (omega arith) (omega arith))
  where
    go : (x : Bool) → ltb n 10 ≡ x → (10 ≤ n → spell k (n / 10) ≡ spell m (n / 10)) → spell (suc k) n ≡ spell (suc m) n
    go true e ih = spell_one k n (ltb-true n 10 e) ∙ sym (spell_one m n (ltb-true n 10 e))
    go false e ih =
        let g : 10 ≤ n = ltb-false n 10 e in
        spell-many k n g ∙ ap (λ (l : Bytes). l ++ (digit_of (n % 10) ∷ [])) (ih g) ∙ sym (spell-many m n g)

-- ## THE TWO LAWS that say what `decimal` is
pub decimal-one : (n : ℕ) → n < 10 → decimal n ≡ digit_of n ∷ []
unfolding decimal
decimal-one n h = spell_one n n h

pub decimal-more : (v d : ℕ) → 0 < v → d < 10 → decimal (v * 10 + d) ≡ decimal v ++ (digit_of d ∷ [])
unfolding decimal
decimal-more v d p h =
    let q : (v * 10 + d) / 10 ≡ v = omega arith in
    let r : (v * 10 + d) % 10 ≡ d = omega arith in
    spell-many (v * 10 + d) (v * 10 + d) (omega arith)
    ∙ rw (q, r) (ap (λ (x : Bytes). x ++ (digit_of d ∷ [])) (enough (v * 10 + d) (suc v) v (omega arith) (omega arith)))

-- the last digit, as a writer meets it
pub decimal-last : (n : ℕ) → 10 ≤ n → decimal n ≡ decimal (n / 10) ++ (digit_of (n % 10) ∷ [])
decimal-last n h =
    let e : n / 10 * 10 + n % 10 ≡ n = omega arith in
    ap decimal (sym e) ∙ decimal-more (n / 10) (n % 10) (omega arith) (omega arith)

-- ## From digits to the number
spelled : (v : ℕ) (t : Bytes) → 0 < v → digits t ≡ true → decimal (worth v t) ≡ decimal v ++ t
unfolding worth all
spelled v [] p e = sym (append-nil (decimal v))
spelled v (b ∷ t) p e =
    let q = both (digit b) (digits t) e in
    let r = digit-range b q.0 in
    let w = v * 10 + (b - 48) in
    let c : 48 + (b - 48) ≡ b = omega arith in
    spelled w t (omega arith) q.1 ∙ rw (decimal-more v (b - 48) p (omega arith), append_assoc, c)

-- a plain list of digits is the decimal of what it is worth
pub plain-decimal : (s : Bytes) → plain s ≡ true → s ≡ decimal (worth 0 s)
unfolding plain worth all
plain-decimal [] e = clash (sym e)
plain-decimal (b ∷ t) e = go (eqb b 48) refl t e
  where
    go : (x : Bool) → eqb b 48 ≡ x → (t : Bytes) → pick x (eqb (length t) 0) (digits (b ∷ t)) ≡ true → b ∷ t ≡ decimal (worth (0 * 10 + (b - 48)) t)
    go true q [] e = rw (eqb-true b 48 q) (sym (decimal-one 0 (omega arith)))
    go true q (a ∷ t) e = absurd (let h : suc (length t) ≡ 0 = eqb-true _ _ e in omega arith)
    go false q t e =
        let p = both (digit b) (digits t) e in
        let r = digit-range b p.0 in
        let n : b ≡ 48 → ⊥ = eqb-false b 48 q in
        let v = 0 * 10 + (b - 48) in
        let c : 48 + v ≡ b = omega arith in
        let f : 0 < v = omega arith in
        ap (λ (x : ℕ). x ∷ t) (sym c) ∙ ap (λ (x : Bytes). x ++ t) (sym (decimal-one v (omega arith))) ∙ sym (spelled v t f p.1)

-- ## From the number to its digits
record Spelled (n : ℕ) (l : Bytes) : Type 0 where
  value : worth 0 l ≡ n
  digs : digits l ≡ true
  lead : 0 < n → 48 < get_or l 0 0

lead_snoc : (l m : Bytes) → 48 < get_or l 0 0 → 48 < get_or (l ++ m) 0 0
lead_snoc [] m h = absurd (omega arith)
lead_snoc (b ∷ l) m h = h

spell-spelled : (k n : ℕ) → n < k → Spelled n (spell k n)
unfolding worth all spell
spell-spelled zero n h = absurd (omega arith)
spell-spelled (suc k) n h = go (ltb n 10) refl (λ (g : 10 ≤ n). spell-spelled k (n / 10) (omega arith))
  where
    go : (x : Bool) → ltb n 10 ≡ x → (10 ≤ n → Spelled (n / 10) (spell k (n / 10))) → Spelled n (pick x (digit_of n ∷ []) (spell k (n / 10) ++ (digit_of (n % 10) ∷ [])))
    go true e ih =
        let h : n < 10 = ltb-true n 10 e in
        record { value = omega arith; digs = rw (digit_in (48 + n) (omega arith) (omega arith)); lead = λ p. omega arith }
    go false e ih =
        let h : 10 ≤ n = ltb-false n 10 e in
        let i = ih h in
        record {
          value = worth_snoc 0 (spell k (n / 10)) (48 + n % 10) ∙ rw i.value (omega arith);
          digs = digits_snoc (spell k (n / 10)) (48 + n % 10) i.digs (digit_in (48 + n % 10) (omega arith) (omega arith));
          lead = λ p. lead_snoc (spell k (n / 10)) _ (i.lead (omega arith));
        }

plain-lead : (l : Bytes) → 48 < get_or l 0 0 → plain l ≡ digits l
plain-lead [] h = absurd (omega arith)
plain-lead (b ∷ t) h = plain_other (b ∷ t) (omega arith) (λ (e : b ≡ 48). omega arith)

-- the decimal of a number is plain, and is worth the number
pub decimal-worth : (n : ℕ) → worth 0 (decimal n) ≡ n
unfolding decimal
decimal-worth n = (spell-spelled (suc n) n (omega arith)).value

pub decimal-digits : (n : ℕ) → digits (decimal n) ≡ true
unfolding decimal
decimal-digits n = (spell-spelled (suc n) n (omega arith)).digs

decimal-plain_zero : plain (decimal 0) ≡ true
unfolding decimal spell plain
decimal-plain_zero = refl

pub decimal-plain : (n : ℕ) → plain (decimal n) ≡ true
unfolding decimal
decimal-plain zero = decimal-plain_zero
decimal-plain (suc n) =
    let i = spell-spelled (suc (suc n)) (suc n) (omega arith) in
    plain-lead (spell (suc (suc n)) (suc n)) (i.lead (omega arith)) ∙ i.digs

-- so no two numbers have one spelling
pub decimal-same : (m n : ℕ) → decimal m ≡ decimal n → m ≡ n
decimal-same m n e = sym (decimal-worth m) ∙ ap (worth 0) e ∙ decimal-worth n

short : (f k n : ℕ) → n < f → n < 10 ^ suc k → length (spell f n) ≤ suc k
short zero k n h l = absurd (omega arith)
short (suc f) zero n h l = rw (spell_one f n (omega arith)) (omega arith)
short (suc f) (suc k) n h l = go (ltb n 10) refl (λ (g : 10 ≤ n). short f k (n / 10) (omega arith) (omega (arith, pow-suc 10 (suc k))))
  where
    go : (x : Bool) → ltb n 10 ≡ x → (10 ≤ n → length (spell f (n / 10)) ≤ suc k) → length (spell (suc f) n) ≤ suc (suc k)
    go true e ih = rw (spell_one f n (ltb-true n 10 e)) (omega arith)
    go false e ih =
        let g = ltb-false n 10 e in
        rw (spell-many f n g) (simp length-append (omega (arith, ih g)))

-- a number below 10 ^ k has at most k digits, for k > 0
pub decimal-short : (k n : ℕ) → n < 10 ^ suc k → length (decimal n) ≤ suc k
unfolding decimal
decimal-short k n h = short (suc n) k n (omega arith) h

-- ## So many digits, zeros too
pub record Padded (k n : ℕ) (l : Bytes) : Type 0 where
  pub value : worth 0 l ≡ n
  pub digs : digits l ≡ true
  pub long : length l ≡ k

pub padded-is : (k n : ℕ) → n < 10 ^ k → Padded k n (padded k n)
unfolding padded worth all
padded-is zero n h = record { value = omega arith; digs = refl; long = refl }
padded-is (suc k) n h =
    let i = padded-is k (n / 10) (omega (arith, pow-suc 10 k)) in
    record {
      value = worth_snoc 0 (padded k (n / 10)) (48 + n % 10) ∙ rw i.value (omega arith);
      digs = digits_snoc (padded k (n / 10)) (48 + n % 10) i.digs (digit_in (48 + n % 10) (omega arith) (omega arith));
      long = simp length-append (omega (arith, i.long));
    }

padded-more : (k v d : ℕ) → d < 10 → padded (suc k) (v * 10 + d) ≡ padded k v ++ (digit_of d ∷ [])
unfolding padded
padded-more k v d h =
    let q : (v * 10 + d) / 10 ≡ v = omega arith in
    let r : (v * 10 + d) % 10 ≡ d = omega arith in
    rw (q, r)

-- digits behind digits: they are those of what they are worth
pub padded-back : (k m v : ℕ) (t : Bytes) → m ≡ k + length t → digits t ≡ true → padded m (worth v t) ≡ padded k v ++ t
unfolding worth all
padded-back k m v [] e g = let q : m ≡ k = omega arith in rw (q, append-nil)
padded-back k m v (b ∷ t) e g =
    let p = both (digit b) (digits t) g in
    let r = digit-range b p.0 in
    let c : 48 + (b - 48) ≡ b = omega arith in
    padded-back (suc k) m (v * 10 + (b - 48)) t (omega arith) p.1 ∙ rw (padded-more k v (b - 48) (omega arith), append_assoc, c)

-- ## As a writer meets them
pub padded-none : (k n : ℕ) → k ≡ 0 → padded k n ≡ []
unfolding padded
padded-none zero n e = refl
padded-none (suc k) n e = absurd (omega arith)

pub padded-last : (k n : ℕ) → (k ≡ 0 → ⊥) → padded k n ≡ padded (k - 1) (n / 10) ++ (digit_of (n % 10) ∷ [])
unfolding padded
padded-last zero n e = absurd (e refl)
padded-last (suc k) n e = let q : suc k - 1 ≡ k = omega arith in rw q
