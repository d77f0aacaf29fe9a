-- Laws of the identifiers m.n and x.y.z. Assumes nothing.
use Rattle.std.specs.Prelude.{Some, None, Option}
use Rattle.std.proofs.lemmas.Option.{some_pair_parts}
use mathlib.Core.Path.{◌≡◌, refl, sym, ap, ap₂, ◌∙◌}
use mathlib.Core.List.{[], ◌∷◌, ◌++◌, append_assoc}
use mathlib.Core.Bool.{Bool, true, false}
use Prim.Native.Nat.{ℕ, suc, ◌+◌, ◌≤◌, ◌<◌}
use native.Mathlib.Omega.{arith}
use native.Mathlib.Numerals.{add-one}
use borrow.Author.Tests.{ne_eqb, eqb-true, lt-ltb, ltb-true}
use lib.ListN.{length, get_or, take, drop, length-append}
use lib.Seq.{take-append_seam, drop-append-add, drop-cons, split_at}
use lib.Dec.{ltb}
use Rattle.terms.specs.Ascii.{Bytes, ascii}
use Rattle.terms.specs.Words.{pick}
use Rattle.scan.specs.Allowed.{digit, all}
use Rattle.scan.specs.Reach.{up_to, first, stops_by}
use Rattle.scan.specs.declared.Until.TheVariants.{Byte}
use Rattle.terms.proofs.Tests.{clash, both}
use Rattle.scan.proofs.Reach.{up_to_hit}
use Rattle.number.specs.Decimal.{decimal}
use Rattle.number.specs.Spelling.{SpellsPair, SpellsTriple}
use Rattle.number.specs.Meaning.{PairMeans, TripleMeans}
use Rattle.number.specs.Executable.{digits, the_integer_of, dot, both_of, the_pair_of, three_of, triple_of}
use Rattle.number.specs.declared.Id.{Id}
use Rattle.number.proofs.Digits.{digit-range}
use Rattle.number.proofs.Decimals.{decimal-digits}
use Rattle.number.proofs.Integers.{integer-right, integer-only}

-- ## The first dot
-- behind digits it stands where it is written
dot_at : (x y : Bytes) → digits x ≡ true → dot (x ++ (46 ∷ y)) ≡ length x
unfolding all up_to stops_by first
dot_at [] y e = refl
dot_at (b ∷ x) y e =
    let p = both (digit b) (all digit x) e in
    let r = digit-range b p.0 in
    rw (ne_eqb b 46 (λ (q : b ≡ 46). omega arith)) (ap suc (dot_at x y p.1))

-- a dot comes first
first-is : (x : ℕ) (l : Bytes) → first x l ≡ true → get_or l 0 0 ≡ x
unfolding first
first-is x [] e = clash (sym e)
first-is x (b ∷ l) e = eqb-true b x e

-- where there is one, the field is what stands before it, the dot, and what stands behind it
cut : (s : Bytes) → dot s < length s → s ≡ take (dot s) s ++ (46 ∷ drop (dot s + 1) s)
unfolding stops_by
cut s h =
    let k = dot s in
    let t : first 46 (drop k s) ≡ true = up_to_hit (stops_by (Byte 46)) s h in
    let g : get_or s k 0 ≡ 46 = first-is 46 (get_or s k 0 ∷ drop (suc k) s) (rw (drop-cons s k 0 h) at t) in
    split_at s k 0 h ∙ rw (g, add-one)

-- joined by a dot, as the definitions write it and as a cut leaves it
dotted : (x y : Bytes) → x ++ ascii "." ++ y ≡ x ++ (46 ∷ y)
unfolding ascii
dotted x y = append_assoc x (46 ∷ []) y

dotted-twice : (x y z : Bytes) → x ++ ascii "." ++ y ++ ascii "." ++ z ≡ x ++ (46 ∷ (y ++ ascii "." ++ z))
unfolding ascii
dotted-twice x y z = simp append_assoc

-- ## Pairs
-- what is cut there
pair-cut : (x y : Bytes) → digits x ≡ true → the_pair_of (x ++ (46 ∷ y)) ≡ both_of (the_integer_of x) (the_integer_of y)
unfolding the_pair_of
pair-cut x y e =
    let l : length x < length (x ++ (46 ∷ y)) = simp length-append (omega arith) in
    rw (dot_at x y e, lt-ltb (length x) (length (x ++ (46 ∷ y))) l, take-append_seam, drop-append-add)

both_is : (a b : Option ℕ) (m n : ℕ) → both_of a b ≡ Some (m, n) → (a ≡ Some m) × (b ≡ Some n)
both_is (Some x) (Some y) m n e = let q = some_pair_parts x m y n e in (ap Some q.0, ap Some q.1)
both_is (Some x) None m n e = absurd (let z : ◌≡◌ {A = ℕ} 0 1 = cc in omega arith)
both_is None b m n e = absurd (let z : ◌≡◌ {A = ℕ} 0 1 = cc in omega arith)

-- the answer is right
pub pair-right : (s : Bytes) (m n : ℕ) → the_pair_of s ≡ Some (m, n) → SpellsPair s m n
unfolding the_pair_of
pair-right s m n e = go (ltb (dot s) (length s)) refl e
  where
    A : Bytes
    A = take (dot s) s

    B : Bytes
    B = drop (dot s + 1) s

    go : (x : Bool) → ltb (dot s) (length s) ≡ x → pick x (both_of (the_integer_of A) (the_integer_of B)) None ≡ Some (m, n) → SpellsPair s m n
    go true q e =
        let p = both_is (the_integer_of A) (the_integer_of B) m n e in
        let a = integer-right A m p.0 in
        let b = integer-right B n p.1 in
        record {
          spelled = cut s (ltb-true (dot s) (length s) q) ∙ ap₂ (λ (x y : Bytes). x ++ (46 ∷ y)) a.spelled b.spelled ∙ sym (dotted (decimal m) (decimal n));
          m_five_digits = a.five_digits;
          n_five_digits = b.five_digits;
        }
    go false q e = absurd (let z : ◌≡◌ {A = ℕ} 0 1 = cc in omega arith)

-- only this answer is right
pub pair-only : (s : Bytes) (m n : ℕ) → SpellsPair s m n → the_pair_of s ≡ Some (m, n)
pair-only s m n h =
    let a = integer-only (decimal m) m (record { spelled = refl; five_digits = h.m_five_digits }) in
    let b = integer-only (decimal n) n (record { spelled = refl; five_digits = h.n_five_digits }) in
    ap the_pair_of (h.spelled ∙ dotted (decimal m) (decimal n)) ∙ pair-cut (decimal m) (decimal n) (decimal-digits m) ∙ ap₂ both_of a b

-- `None` exactly if no value is spelled
pub pair-no : (s : Bytes) → the_pair_of s ≡ None → (m n : ℕ) → SpellsPair s m n → ⊥
pair-no s e m n h = let q : ◌≡◌ {A = Option (ℕ × ℕ)} (Some (m, n)) None = sym (pair-only s m n h) ∙ e in let w : ◌≡◌ {A = ℕ} 0 1 = cc in omega arith

pub pair-none : (s : Bytes) → ((m n : ℕ) → SpellsPair s m n → ⊥) → the_pair_of s ≡ None
pair-none s f = go (the_pair_of s) refl
  where
    go : (r : Option (ℕ × ℕ)) → the_pair_of s ≡ r → r ≡ None
    go (Some (m, n)) e = absurd (f m n (pair-right s m n e))
    go None e = refl

-- two values never share a spelling
pub pair_same : (s : Bytes) (m n m' n' : ℕ) → SpellsPair s m n → SpellsPair s m' n' → (m ≡ m') × (n ≡ n')
pair_same s m n m' n' g h = some_pair_parts m m' n n' (sym (pair-only s m n g) ∙ pair-only s m' n' h)

-- the answer means what it says, and no other answer does
pub pair-means : (s : Bytes) → PairMeans s (the_pair_of s)
unfolding PairMeans
pair-means s = go (the_pair_of s) refl
  where
    go : (r : Option (ℕ × ℕ)) → the_pair_of s ≡ r → PairMeans s r
    go (Some (m, n)) e = pair-right s m n e
    go None e = pair-no s e

pub pair-meant : (s : Bytes) (r : Option (ℕ × ℕ)) → PairMeans s r → r ≡ the_pair_of s
unfolding PairMeans
pair-meant s (Some (m, n)) h = sym (pair-only s m n h)
pair-meant s None h = sym (pair-none s h)

-- raw parts have at most five digits
pub pair-bound : (s : Bytes) (m n : ℕ) → the_pair_of s ≡ Some (m, n) → (m ≤ 99999) × (n ≤ 99999)
pair-bound s m n e = let h = pair-right s m n e in (h.m_five_digits, h.n_five_digits)

-- ## Triples
triple-cut : (x y : Bytes) → digits x ≡ true → triple_of (x ++ (46 ∷ y)) ≡ three_of (the_integer_of x) (the_pair_of y)
unfolding triple_of
triple-cut x y e =
    let l : length x < length (x ++ (46 ∷ y)) = simp length-append (omega arith) in
    rw (dot_at x y e, lt-ltb (length x) (length (x ++ (46 ∷ y))) l, take-append_seam, drop-append-add)

three-is : (a : Option ℕ) (b : Option (ℕ × ℕ)) (i : Id) → three_of a b ≡ Some i → (a ≡ Some i.x) × (b ≡ Some (i.y, i.z))
three-is (Some x) (Some (y, z)) i e =
    let q : record { x = x; y = y; z = z } ≡ i = cc in
    (ap (λ (i : Id). Some i.x) q, ap (λ (i : Id). Some (i.y, i.z)) q)
three-is (Some x) None i e = absurd (let z : ◌≡◌ {A = ℕ} 0 1 = cc in omega arith)
three-is None b i e = absurd (let z : ◌≡◌ {A = ℕ} 0 1 = cc in omega arith)

-- the answer is right
pub triple-right : (s : Bytes) (i : Id) → triple_of s ≡ Some i → SpellsTriple s i.x i.y i.z
unfolding triple_of
triple-right s i e = go (ltb (dot s) (length s)) refl e
  where
    A : Bytes
    A = take (dot s) s

    B : Bytes
    B = drop (dot s + 1) s

    go : (x : Bool) → ltb (dot s) (length s) ≡ x → pick x (three_of (the_integer_of A) (the_pair_of B)) None ≡ Some i → SpellsTriple s i.x i.y i.z
    go true q e =
        let p = three-is (the_integer_of A) (the_pair_of B) i e in
        let a = integer-right A i.x p.0 in
        let b = pair-right B i.y i.z p.1 in
        record {
          spelled = cut s (ltb-true (dot s) (length s) q) ∙ ap₂ (λ (x y : Bytes). x ++ (46 ∷ y)) a.spelled b.spelled ∙ sym (dotted-twice (decimal i.x) (decimal i.y) (decimal i.z));
          x_five_digits = a.five_digits;
          y_five_digits = b.m_five_digits;
          z_five_digits = b.n_five_digits;
        }
    go false q e = absurd (let z : ◌≡◌ {A = ℕ} 0 1 = cc in omega arith)

-- only this answer is right
pub triple-only : (s : Bytes) (x y z : ℕ) → SpellsTriple s x y z → triple_of s ≡ Some (record { x = x; y = y; z = z })
triple-only s x y z h =
    let a = integer-only (decimal x) x (record { spelled = refl; five_digits = h.x_five_digits }) in
    let b = pair-only (decimal y ++ ascii "." ++ decimal z) y z (record { spelled = refl; m_five_digits = h.y_five_digits; n_five_digits = h.z_five_digits }) in
    ap triple_of (h.spelled ∙ dotted-twice (decimal x) (decimal y) (decimal z))
    ∙ triple-cut (decimal x) (decimal y ++ ascii "." ++ decimal z) (decimal-digits x)
    ∙ ap₂ three_of a b

-- `None` exactly if no value is spelled
pub triple-no : (s : Bytes) → triple_of s ≡ None → (x y z : ℕ) → SpellsTriple s x y z → ⊥
triple-no s e x y z h = let q : ◌≡◌ {A = Option Id} (Some (record { x = x; y = y; z = z })) None = sym (triple-only s x y z h) ∙ e in let w : ◌≡◌ {A = ℕ} 0 1 = cc in omega arith

pub triple-none : (s : Bytes) → ((x y z : ℕ) → SpellsTriple s x y z → ⊥) → triple_of s ≡ None
triple-none s f = go (triple_of s) refl
  where
    go : (r : Option Id) → triple_of s ≡ r → r ≡ None
    go (Some i) e = absurd (f i.x i.y i.z (triple-right s i e))
    go None e = refl

-- two values never share a spelling
pub triple-same : (s : Bytes) (i j : Id) → SpellsTriple s i.x i.y i.z → SpellsTriple s j.x j.y j.z → i ≡ j
triple-same s i j g h = let q : Some i ≡ Some j = sym (triple-only s i.x i.y i.z g) ∙ triple-only s j.x j.y j.z h in cc

-- the answer means what it says, and no other answer does
pub triple-means : (s : Bytes) → TripleMeans s (triple_of s)
unfolding TripleMeans
triple-means s = go (triple_of s) refl
  where
    go : (r : Option Id) → triple_of s ≡ r → TripleMeans s r
    go (Some i) e = triple-right s i e
    go None e = triple-no s e

pub triple-meant : (s : Bytes) (r : Option Id) → TripleMeans s r → r ≡ triple_of s
unfolding TripleMeans
triple-meant s (Some i) h = sym (triple-only s i.x i.y i.z h)
triple-meant s None h = sym (triple-none s h)

-- raw parts have at most five digits
pub triple-bound : (s : Bytes) (i : Id) → triple_of s ≡ Some i → (i.x ≤ 99999) × (i.y ≤ 99999) × (i.z ≤ 99999)
triple-bound s i e = let h = triple-right s i e in (h.x_five_digits, h.y_five_digits, h.z_five_digits)
