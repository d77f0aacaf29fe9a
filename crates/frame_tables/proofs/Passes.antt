-- A pass over so many records, each of which begins where the one before it ends: what holds of each record holds of the rows, and the other way round. Assumes nothing.
use mathlib.Core.Path.{◌≡◌, refl, sym, ap, subst, ◌∙◌}
use mathlib.Core.List.{List, [], ◌∷◌, ◌++◌, map}
use mathlib.Core.Option.{Option, none, some}
use mathlib.Core.Bool.{Bool, true, false, ◌&&◌}
use Prim.Native.Nat.{ℕ, zero, suc, ◌+◌, ◌*◌}
use native.Mathlib.Nat.{mul-suc}
use native.Mathlib.Omega.{arith}
use lib.Dec.{eqb}
use lib.ListN.{drop}
use lib.Seq.{drop-drop}
use borrow.Author.Tests.{eqb-false, ne_eqb}
use Rattle.terms.specs.Ascii.{Bytes}
use Rattle.terms.specs.Words.{pick}
use Rattle.packed_law.specs.Packed.{Slot}
use Rattle.unpackings.proofs.Cutting.{Kind}
use Rattle.packed_tables.proofs.Reading.{read}
use Rattle.packed_tables.proofs.Records.{here, whole-size, all_here, after, place_after, after-place, records-read, both_true, true-both}
use Rattle.packed_tables.proofs.Fixed.{NoNames, size_of, sizes-so, and-and}
use Rattle.packed_frame.specs.Named.{walk}
use Rattle.packed_frame.proofs.WalkLaws.{walk_more, walk-ended}

-- ## Rows in turn; what is known of those passed goes along
abbrev pub InRow : {S R : Type 0} → (S → R → Type 0) → (S → R → S) → S → List R → Type 0
InRow P step s [] = Unit {0}
InRow P step s (r ∷ l) = P s r × InRow P step (step s r) l

abbrev pub behind-rows : {S R : Type 0} → (S → R → S) → S → List R → S
behind-rows step s [] = s
behind-rows step s (r ∷ l) = behind-rows step (step s r) l

abbrev told-or : {A : Type 0} → A → Option A → A
told-or d none = d
told-or d (some a) = a

abbrev is_none : {A : Type 0} → Option A → Bool
is_none none = true
is_none (some a) = false

module _ {S R : Type 0} (ks : List Kind) (back : List Slot → R) (end : Bytes → ℕ → S → ℕ) (next : Bytes → ℕ → S → S) (P : S → R → Type 0) (step : S → R → S) where
  -- the row of the record at a place. place: where it is said to stand
  abbrev row : ℕ → Bytes → R
  row place x = back (read (place + 2) ks (drop 2 x))

  abbrev rows : ℕ → ℕ → Bytes → List R
  rows place k x = map back (records-read place k ks x)

  -- what the test of one record says
  pub record OneRow (place : ℕ) (b : Bytes) (at : ℕ) (s : S) : Type 0 where
    pub here_so : here ks (drop at b) ≡ true
    pub end-so : end b at s ≡ at + whole-size ks (drop at b)
    pub right : P s (back (read (place + 2) ks (drop 2 (drop at b))))
    pub next-so : next b at s ≡ step s (back (read (place + 2) ks (drop 2 (drop at b))))

  -- what a pass says. x: the place behind, and what is known there
  pub record Passed (place k : ℕ) (b : Bytes) (at : ℕ) (s : S) (x : ℕ × S) : Type 0 where
    pub all_so : all_here k ks (drop at b) ≡ true
    pub right : InRow P step s (map back (records-read place k ks (drop at b)))
    pub place_so : x.0 ≡ place_after at k ks (drop at b)
    pub left_so : drop x.0 b ≡ after k ks (drop at b)
    pub known : x.1 ≡ behind-rows step s (map back (records-read place k ks (drop at b)))

  module _ (one : (place : ℕ) (b : Bytes) (at : ℕ) (s : S) → (end b at s ≡ 0 → ⊥) → OneRow place b at s) where
    passed_none : (place : ℕ) (b : Bytes) (at : ℕ) (s : S) (x : ℕ × S) → (at, s) ≡ x → Passed place 0 b at s x
    unfolding all_here after place_after records-read
    passed_none place b at s x e = subst (Passed place 0 b at s) e (record { all_so = refl; right = tt; place_so = refl; left_so = refl; known = refl })

    passed-more : (place k : ℕ) (b : Bytes) (at : ℕ) (s : S) (x : ℕ × S) → OneRow place b at s → Passed (place + whole-size ks (drop at b)) k b (end b at s) (next b at s) x → Passed place (suc k) b at s x
    unfolding all_here after place_after records-read
    passed-more place k b at s x o more =
        let w = whole-size ks (drop at b) in
        let t = step s (back (read (place + 2) ks (drop 2 (drop at b)))) in
        let d = sym (drop-drop w at b) in
        let m₁ = subst (λ (e : ℕ). Passed (place + w) k b e (next b at s) x) o.end-so more in
        let m₂ = subst (λ (u : S). Passed (place + w) k b (at + w) u x) o.next-so m₁ in
        record {
          all_so = true-both (here ks (drop at b)) (all_here k ks (drop w (drop at b))) o.here_so (ap (all_here k ks) (sym d) ∙ m₂.all_so);
          right = (o.right, subst (λ (l : Bytes). InRow P step t (map back (records-read (place + w) k ks l))) d m₂.right);
          place_so = m₂.place_so ∙ ap (place_after (at + w) k ks) d;
          left_so = m₂.left_so ∙ ap (after k ks) d;
          known = m₂.known ∙ ap (λ (l : Bytes). behind-rows step t (map back (records-read (place + w) k ks l))) d;
        }

    -- THE LAW: what passes is so
    pub pass-so : (place k : ℕ) (b : Bytes) (at : ℕ) (s : S) (x : ℕ × S) → walk end next k b at s ≡ some x → Passed place k b at s x
    pass-so place zero b at s x h = passed_none place b at s x (ap (told-or (at, s)) (walk-ended end next b at s 0 (omega arith) ∙ h))
    pass-so place (suc k) b at s x h = go (eqb (end b at s) 0) refl (sym (walk_more end next k b at s) ∙ h) (λ e. pass-so (place + whole-size ks (drop at b)) k b (end b at s) (next b at s) x e)
      where
        go : (t : Bool) → eqb (end b at s) 0 ≡ t → pick t none (walk end next k b (end b at s) (next b at s)) ≡ some x → (walk end next k b (end b at s) (next b at s) ≡ some x → Passed (place + whole-size ks (drop at b)) k b (end b at s) (next b at s) x) → Passed place (suc k) b at s x
        go true d e more = absurd (subst (λ (t : Bool). pick t (Unit {0}) ⊥) (ap is_none e) tt)
        go false d e more = passed-more place k b at s x (one place b at s (eqb-false (end b at s) 0 d)) (more e)

  module _ (one : (place : ℕ) (b : Bytes) (at : ℕ) (s : S) → here ks (drop at b) ≡ true → P s (back (read (place + 2) ks (drop 2 (drop at b)))) → OneRow place b at s) where
    -- and all that is so passes
    pub pass_all : (place k : ℕ) (b : Bytes) (at : ℕ) (s : S) → all_here k ks (drop at b) ≡ true → InRow P step s (map back (records-read place k ks (drop at b)))
        → walk end next k b at s ≡ some (place_after at k ks (drop at b), behind-rows step s (map back (records-read place k ks (drop at b))))
    unfolding all_here place_after records-read
    pass_all place zero b at s h r = sym (walk-ended end next b at s 0 (omega arith))
    pass_all place (suc k) b at s h r =
        let w = whole-size ks (drop at b) in
        let u = both_true (here ks (drop at b)) (all_here k ks (drop w (drop at b))) h in
        let o = one place b at s u.0 r.0 in
        let t = step s (back (read (place + 2) ks (drop 2 (drop at b)))) in
        let d = drop-drop w at b in
        let far = o.end-so in
        let more = pass_all (place + w) k b (at + w) t (ap (all_here k ks) (sym d) ∙ u.1) (subst (λ (l : Bytes). InRow P step t (map back (records-read (place + w) k ks l))) d r.1) in
        walk_more end next k b at s ∙ ap (λ (x : Bool). pick x none (walk end next k b (end b at s) (next b at s))) (ne_eqb (end b at s) 0 (λ z. omega arith))
        ∙ (λ i. walk end next k b (o.end-so i) (o.next-so i)) ∙ more
        ∙ ap (λ (l : Bytes). some (place_after (at + w) k ks l, behind-rows step t (map back (records-read (place + w) k ks l)))) (sym d)

-- ## So many records, and then so many
pub all-here-both : (n k : ℕ) (ks : List Kind) (x : Bytes) → all_here (n + k) ks x ≡ (all_here n ks x && all_here k ks (after n ks x))
unfolding all_here after
all-here-both zero k ks x = let e : 0 + k ≡ k = omega arith in ap (λ (m : ℕ). all_here m ks x) e
all-here-both (suc n) k ks x =
    let e : suc n + k ≡ suc (n + k) = omega arith in
    let y = drop (whole-size ks x) x in
    ap (λ (m : ℕ). all_here m ks x) e ∙ ap (λ (t : Bool). here ks x && t) (all-here-both n k ks y) ∙ and-and (here ks x) (all_here n ks y) (all_here k ks (after n ks y))

pub records-both : (place n k : ℕ) (ks : List Kind) (x : Bytes) → records-read place (n + k) ks x ≡ records-read place n ks x ++ records-read (place_after place n ks x) k ks (after n ks x)
unfolding records-read after place_after
records-both place zero k ks x = let e : 0 + k ≡ k = omega arith in ap (λ (m : ℕ). records-read place m ks x) e
records-both place (suc n) k ks x =
    let e : suc n + k ≡ suc (n + k) = omega arith in
    ap (λ (m : ℕ). records-read place m ks x) e ∙ ap (λ (l : List (List Slot)). read (place + 2) ks (drop 2 x) ∷ l) (records-both (place + whole-size ks x) n k ks (drop (whole-size ks x) x))

-- records without names have one size
pub place-fixed : (ks : List Kind) → NoNames ks → (place k : ℕ) (x : Bytes) → place_after place k ks x ≡ place + (2 + size_of ks) * k
unfolding place_after
place-fixed ks h place zero x = let e : place ≡ place + (2 + size_of ks) * 0 = omega arith in e
place-fixed ks h place (suc k) x =
    let s = sizes-so ks (drop 2 x) h in
    let m = mul-suc (2 + size_of ks) k in
    let e : (place + (2 + size_of ks)) + (2 + size_of ks) * k ≡ place + (2 + size_of ks) * suc k = omega arith in
    ap (λ (n : ℕ). place_after (place + (2 + n)) k ks (drop (2 + n) x)) s ∙ place-fixed ks h (place + (2 + size_of ks)) k (drop (2 + size_of ks) x) ∙ e

pub after-fixed : (ks : List Kind) → NoNames ks → (k : ℕ) (b : Bytes) (p : ℕ) → after k ks (drop p b) ≡ drop (p + (2 + size_of ks) * k) b
after-fixed ks h k b p = after-place k ks b p ∙ ap (λ (j : ℕ). drop j b) (place-fixed ks h p k (drop p b))
