-- The first byte that is not allowed: the bytes before it are clean, and with it they are not; and nowhere else is that so. Assumes nothing.
use mathlib.Core.Path.{◌≡◌, refl, sym, ap, subst, ◌∙◌}
use mathlib.Core.List.{List, [], ◌∷◌, ◌++◌, head-eq_of_cons-eq}
use mathlib.Core.Bool.{Bool, true, false, not, ◌&&◌, and-false}
use Prim.Native.Nat.{ℕ, suc}
use borrow.Author.Tests.{eqb-true}
use lib.ListN.{length}
use lib.Dec.{eqb}
use Rattle.terms.specs.Ascii.{Bytes}
use Rattle.terms.specs.Words.{pick}
use Rattle.terms.proofs.Tests.{clash, both}
use Rattle.scan.specs.Allowed.{separates, outside, inside, all}
use Rattle.scan.specs.Reach.{two, first, up_to, fails}
use Rattle.line.specs.Forms.{outer_of, note_of, clean}
use Rattle.law_columns.specs.Finding.{bad_at_of}

and_assoc : (x y z : Bool) → ((x && y) && z) ≡ (x && (y && z))
and_assoc true y z = refl
and_assoc false y z = refl

-- the other one fails
second : (x y : Bool) → x ≡ true → (x && y) ≡ false → y ≡ false
second true y h e = e
second false y h e = clash (sym h)

-- ## Bytes that all pass a test
module _ (t : ℕ → Bool) where
  pub record Failing (l : Bytes) : Type 0 where
    pub good : Bytes
    pub b : ℕ
    pub behind : Bytes
    pub is : l ≡ good ++ (b ∷ behind)
    pub at : up_to (fails t) l ≡ length good
    pub passes : all t good ≡ true
    pub not-this : t b ≡ false

  failing : (l : Bytes) → all t l ≡ false → Failing l
  unfolding all up_to fails
  failing [] e = clash e
  failing (b ∷ l) e = go (t b) refl e (failing l)
    where
      go : (x : Bool) → t b ≡ x → (x && all t l) ≡ false → (all t l ≡ false → Failing l) → Failing (b ∷ l)
      go true q e ih =
          let r = ih e in
          record { good = b ∷ r.good; b = r.b; behind = r.behind; is = ap (◌∷◌ b) r.is; at = rw q (ap suc r.at); passes = rw q r.passes; not-this = r.not-this }
      go false q e ih = record { good = []; b = b; behind = l; is = refl; at = rw q; passes = refl; not-this = q }

  failed-at : (good behind : Bytes) (b : ℕ) → all t good ≡ true → all t (good ++ (b ∷ [])) ≡ false → up_to (fails t) (good ++ (b ∷ behind)) ≡ length good
  unfolding all up_to fails
  failed-at [] behind b g e = go (t b) refl e
    where
      go : (x : Bool) → t b ≡ x → (x && true) ≡ false → pick (not (t b)) 0 (suc (up_to (fails t) behind)) ≡ 0
      go true q e = clash e
      go false q e = rw q
  failed-at (a ∷ good) behind b g e = let x = both (t a) (all t good) g in rw x.0 (ap suc (failed-at good behind b x.1 (second (t a) (all t (good ++ (b ∷ []))) x.0 e)))

-- ## Clean, byte by byte
clean_step : (b : ℕ) (rest : Bytes) → clean (b ∷ rest) ≡ pick (two 47 42 (b ∷ rest)) (all inside (b ∷ rest)) (outside b && clean rest)
unfolding outer_of note_of all
clean_step b rest = go (two 47 42 (b ∷ rest))
  where
    go : (x : Bool) → (all outside (pick x [] (b ∷ outer_of rest)) && all inside (pick x (b ∷ rest) (note_of rest))) ≡ pick x (all inside (b ∷ rest)) (outside b && clean rest)
    go true = refl
    go false = and_assoc (outside b) (all outside (outer_of rest)) (all inside (note_of rest))

-- a comment opens here
opens-so : (b : ℕ) (rest : Bytes) → two 47 42 (b ∷ rest) ≡ true → (r : Bytes) × (b ≡ 47) × (rest ≡ 42 ∷ r)
unfolding two first
opens-so b [] e = clash (sym e ∙ and-false (eqb b 47))
opens-so b (d ∷ r) e =
    let x = both (eqb b 47) (eqb d 42) e in
    (r, eqb-true b 47 x.0, ap (λ (d : ℕ). d ∷ r) (eqb-true d 42 x.1))

-- no comment opens in less than in more
prefix-opens : (b : ℕ) (good behind : Bytes) → two 47 42 (b ∷ (good ++ behind)) ≡ false → two 47 42 (b ∷ good) ≡ false
unfolding two first
prefix-opens b [] behind e = and-false (eqb b 47)
prefix-opens b (d ∷ good) behind e = e

-- and the same in as much
same-opens : (b d : ℕ) (good behind : Bytes) → two 47 42 (b ∷ (good ++ (d ∷ behind))) ≡ two 47 42 (b ∷ (good ++ (d ∷ [])))
unfolding two first
same-opens b d [] behind = refl
same-opens b d (a ∷ good) behind = refl

one-opens : (b : ℕ) → two 47 42 (b ∷ []) ≡ false
unfolding two first
one-opens b = and-false (eqb b 47)

clean-none : clean [] ≡ true
unfolding outer_of note_of all
clean-none = refl

fails-last : (l : Bytes) (b : ℕ) → inside b ≡ false → all inside (l ++ (b ∷ [])) ≡ false
unfolding all
fails-last [] b e = rw e
fails-last (a ∷ l) b e = rw (fails-last l b e) (and-false (inside a))

-- ## The first byte
pub record FirstBad (c : Bytes) : Type 0 where
  pub good : Bytes
  pub b : ℕ
  pub behind : Bytes
  pub is : c ≡ good ++ (b ∷ behind)
  pub at : bad_at_of c ≡ length good
  pub before : clean good ≡ true
  pub with_it : clean (good ++ (b ∷ [])) ≡ false

in_note : (r : Bytes) → all inside (47 ∷ 42 ∷ r) ≡ false → FirstBad (47 ∷ 42 ∷ r)
unfolding bad_at_of all up_to fails two first outer_of note_of
in_note r e =
    let x = failing inside r e in
    record { good = 47 ∷ 42 ∷ x.good; b = x.b; behind = x.behind; is = ap (λ (l : Bytes). 47 ∷ 42 ∷ l) x.is; at = ap (λ (n : ℕ). suc (suc n)) x.at; before = x.passes; with_it = fails-last x.good x.b x.not-this }

pub first-bad : (c : Bytes) → clean c ≡ false → FirstBad c
unfolding bad_at_of
first-bad [] e = clash (sym clean-none ∙ e)
first-bad (b ∷ rest) e = go (two 47 42 (b ∷ rest)) refl (sym (clean_step b rest) ∙ e) (first-bad rest)
  where
    by : two 47 42 (b ∷ rest) ≡ false → (y : Bool) → outside b ≡ y → (y && clean rest) ≡ false → (clean rest ≡ false → FirstBad rest) → FirstBad (b ∷ rest)
    by q true o e ih =
        let r = ih e in
        let p : two 47 42 (b ∷ (r.good ++ (r.b ∷ r.behind))) ≡ false = ap (λ (l : Bytes). two 47 42 (b ∷ l)) (sym r.is) ∙ q in
        record {
          good = b ∷ r.good;
          b = r.b;
          behind = r.behind;
          is = ap (◌∷◌ b) r.is;
          at = rw (q, o) (ap suc r.at);
          before = clean_step b r.good ∙ rw (prefix-opens b r.good (r.b ∷ r.behind) p, o) r.before;
          with_it = clean_step b (r.good ++ (r.b ∷ [])) ∙ rw (sym (same-opens b r.b r.good r.behind) ∙ p, o) r.with_it;
        }
    by q false o e ih = record { good = []; b = b; behind = rest; is = refl; at = rw (q, o); before = clean-none; with_it = clean_step b [] ∙ rw (one-opens b, o) }

    go : (x : Bool) → two 47 42 (b ∷ rest) ≡ x → pick x (all inside (b ∷ rest)) (outside b && clean rest) ≡ false → (clean rest ≡ false → FirstBad rest) → FirstBad (b ∷ rest)
    go true q e ih =
        let o = opens-so b rest q in
        let s : b ∷ rest ≡ 47 ∷ 42 ∷ o.0 = ap (λ (b : ℕ). b ∷ rest) o.1 ∙ ap (◌∷◌ 47) o.2 in
        subst FirstBad (sym s) (in_note o.0 (ap (all inside) (sym s) ∙ e))
    go false q e ih = by q (outside b) refl e ih

-- ## and no other
both-inside : (d b : ℕ) → d ≡ 47 → b ≡ 42 → all inside (d ∷ b ∷ []) ≡ true
unfolding all
both-inside d b p q = rw (p, q)

same-two : (d a : ℕ) (good : Bytes) (b : ℕ) → two 47 42 (d ∷ a ∷ (good ++ (b ∷ []))) ≡ true → two 47 42 (d ∷ a ∷ good) ≡ true
unfolding two first
same-two d a good b e = e

-- in a comment, which opens with the bytes before it or with it
bad_in-note : (d b : ℕ) (good behind : Bytes) → two 47 42 (d ∷ (good ++ (b ∷ []))) ≡ true → clean (d ∷ good) ≡ true → all inside (d ∷ (good ++ (b ∷ []))) ≡ false → up_to (fails inside) (d ∷ (good ++ (b ∷ behind))) ≡ suc (length good)
bad_in-note d b [] behind q g e =
    let o = opens-so d (b ∷ []) q in
    clash (sym (both-inside d b o.1 (head-eq_of_cons-eq o.2)) ∙ e)
bad_in-note d b (a ∷ good) behind q g e = failed-at inside (d ∷ a ∷ good) behind b (sym (ap (λ (x : Bool). pick x (all inside (d ∷ a ∷ good)) (outside d && clean (a ∷ good))) (same-two d a good b q)) ∙ sym (clean_step d (a ∷ good)) ∙ g) e

pub bad-at : (good behind : Bytes) (b : ℕ) → clean good ≡ true → clean (good ++ (b ∷ [])) ≡ false → bad_at_of (good ++ (b ∷ behind)) ≡ length good
unfolding bad_at_of separates
bad-at [] behind b g e = go (two 47 42 (b ∷ behind)) refl (outside b) refl (rw (one-opens b) at (sym (clean_step b []) ∙ e))
  where
    go : (x : Bool) → two 47 42 (b ∷ behind) ≡ x → (y : Bool) → outside b ≡ y → (outside b && clean []) ≡ false → pick x (up_to (fails inside) (b ∷ behind)) (pick y (suc (bad_at_of behind)) 0) ≡ 0
    go x q true o e = clash (sym (rw (o, clean-none)) ∙ e)
    go true q false o e = clash (sym (ap outside (opens-so b behind q).1) ∙ o)
    go false q false o e = refl
bad-at (d ∷ good) behind b g e = go (two 47 42 (d ∷ (good ++ (b ∷ [])))) refl (sym (clean_step d (good ++ (b ∷ []))) ∙ e) (bad-at good behind b)
  where
    go : (x : Bool) → two 47 42 (d ∷ (good ++ (b ∷ []))) ≡ x → pick x (all inside (d ∷ (good ++ (b ∷ [])))) (outside d && clean (good ++ (b ∷ []))) ≡ false
        → (clean good ≡ true → clean (good ++ (b ∷ [])) ≡ false → bad_at_of (good ++ (b ∷ behind)) ≡ length good)
        → pick (two 47 42 (d ∷ (good ++ (b ∷ behind)))) (up_to (fails inside) (d ∷ (good ++ (b ∷ behind)))) (pick (outside d) (suc (bad_at_of (good ++ (b ∷ behind)))) 0) ≡ suc (length good)
    go true q e ih = rw (same-opens d b good behind ∙ q) (bad_in-note d b good behind q g e)
    go false q e ih =
        let h : (outside d && clean good) ≡ true = sym (ap (λ (x : Bool). pick x (all inside (d ∷ good)) (outside d && clean good)) (prefix-opens d good (b ∷ []) q)) ∙ sym (clean_step d good) ∙ g in
        let x = both (outside d) (clean good) h in
        rw (same-opens d b good behind ∙ q, x.0) (ap suc (ih x.1 (second (outside d) (clean (good ++ (b ∷ []))) x.0 e)))
