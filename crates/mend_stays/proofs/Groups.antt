-- Options in any order stand once at most where they are single (`groups-once`): each group has one keyword of its own, and a single one has one line at most. Assumes nothing.
use mathlib.Core.Path.{◌≡◌, refl, sym, ap, ◌∙◌}
use native.Mathlib.Omega.{arith}
use Rattle.terms.specs.Words.{List, [], ◌∷◌, ◌++◌, map, Bool, true, false, not, ◌&&◌, ◌||◌, ℕ, suc, ◌+◌, ◌≤◌, length, Bytes, pick, Option, none, some, perhaps}
use Rattle.terms.proofs.Tests.{clash, both}
use Rattle.scan.specs.Reach.{same_bytes_of}
use Rattle.scan.proofs.Equal.{same-equal, same_false, false-differ}
use Rattle.law.specs.Network.{Line, Mixed, AnyOrder}
use Rattle.law.specs.Network as Law
use Rattle.law.specs.Faults.{options}
use Rattle.mend_law.specs.Mend.{one_of}
use Rattle.mend_stays.specs.Said.{key, may_repeat_in, single}
use Rattle.mend_stays.proofs.Small.{not-true}
use Rattle.mend_stays.proofs.Passing.{Passes}
use Rattle.mend_stays.proofs.Giving.{often}

-- ## How often, in all
pub often-both : (w : Bytes) (a b : List Line) → often w (a ++ b) ≡ often w a + often w b
unfolding often
often-both w [] b = omega arith
often-both w (l ∷ a) b = rw (often-both w a b) (go (same_bytes_of (key l) w))
  where
    go : (x : Bool) → pick x (suc (often w a + often w b)) (often w a + often w b) ≡ pick x (suc (often w a)) (often w a) + often w b
    go true = omega arith
    go false = refl

pub often-most : (w : Bytes) (a : List Line) → often w a ≤ length a
unfolding often
often-most w [] = omega arith
often-most w (l ∷ a) = go (same_bytes_of (key l) w) (often-most w a)
  where
    go : (x : Bool) → often w a ≤ length a → pick x (suc (often w a)) (often w a) ≤ suc (length a)
    go true h = omega arith
    go false h = omega arith

-- ## Lines that are no options
abbrev pub no-option : Bytes → Bool
no-option k = not (one_of options k)

pub often-none : (w : Bytes) (a : List Line) → one_of options w ≡ true → Passes no-option a → often w a ≡ 0
unfolding often
often-none w [] e p = refl
often-none w (l ∷ a) e p = rw (same_false (key l) w (λ q. clash (sym e ∙ ap (one_of options) (sym q) ∙ not-true (one_of options (key l)) p.0))) (often-none w a e p.1)

-- options once at most, with other lines around them
pub part-once : (part : Bytes) (front os back : List Line) → Passes no-option front → Passes no-option back → ((w : Bytes) → single part w ≡ true → often w os ≤ 1) → (w : Bytes) → single part w ≡ true → often w (front ++ (os ++ back)) ≤ 1
part-once part front os back p q h w s =
    let o : one_of options w ≡ true = (both (one_of options w) (not (may_repeat_in part w)) s).0 in
    rw (often-both w front (os ++ back), often-both w os back, often-none w front o p, often-none w back o q) (sum (h w s))
  where
    sum : often w os ≤ 1 → 0 + (often w os + 0) ≤ 1
    sum h = omega arith

-- ## Options in any order
abbrev total : Bytes → List (List Line) → ℕ
total w [] = 0
total w (l ∷ ls) = often w l + total w ls

often-mixed : {l r os : List Line} (w : Bytes) → Mixed l r os → often w os ≡ often w l + often w r
unfolding often
often-mixed w Law.none = refl
often-mixed w (Law.left {a = a} {l = l} {r = r} m) = rw (often-mixed w m) (go (same_bytes_of (key a) w) (often w l) (often w r))
  where
    go : (x : Bool) (m n : ℕ) → pick x (suc (m + n)) (m + n) ≡ pick x (suc m) m + n
    go true m n = omega arith
    go false m n = refl
often-mixed w (Law.right {a = a} {l = l} {r = r} m) = rw (often-mixed w m) (go (same_bytes_of (key a) w) (often w l) (often w r))
  where
    go : (x : Bool) (m n : ℕ) → pick x (suc (m + n)) (m + n) ≡ m + pick x (suc n) n
    go true m n = omega arith
    go false m n = refl

often-any : (w : Bytes) (ls : List (List Line)) (os : List Line) → AnyOrder ls os → often w os ≡ total w ls
unfolding often
often-any w [] os h = rw h
often-any w (l ∷ ls) os h = often-mixed w h.2 ∙ ap (λ (n : ℕ). often w l + n) (often-any w ls h.0 h.1)

-- a keyword for each list, and of a single option one line at most
abbrev pub Groups : (part : Bytes) → List Bytes → List (List Line) → Type 0
Groups part [] [] = Unit {0}
Groups part [] (l ∷ ls) = ⊥
Groups part (w ∷ ws) [] = ⊥
Groups part (w ∷ ws) (l ∷ ls) = Passes (λ k. same_bytes_of k w) l × ((single part w ≡ true → length l ≤ 1) × Groups part ws ls)

abbrev pub differ : List Bytes → Bool
differ [] = true
differ (w ∷ ws) = not (one_of ws w) && differ ws

often-other : (v w : Bytes) (l : List Line) → same_bytes_of w v ≡ false → Passes (λ k. same_bytes_of k v) l → often w l ≡ 0
unfolding often
often-other v w [] e p = refl
often-other v w (k ∷ l) e p = rw (same_false (key k) w (λ q. false-differ w v e (sym q ∙ same-equal (key k) v p.0))) (often-other v w l e p.1)

module _ (part w : Bytes) where
  total-none : (ws : List Bytes) (ls : List (List Line)) → one_of ws w ≡ false → Groups part ws ls → total w ls ≡ 0
  total-none [] [] e g = refl
  total-none [] (l ∷ ls) e g = absurd g
  total-none (v ∷ ws) [] e g = absurd g
  total-none (v ∷ ws) (l ∷ ls) e g = go (same_bytes_of w v) refl e (λ q. total-none ws ls q g.1.1)
    where
      go : (x : Bool) → same_bytes_of w v ≡ x → (x || one_of ws w) ≡ false → (one_of ws w ≡ false → total w ls ≡ 0) → often w l + total w ls ≡ 0
      go true q e h = clash e
      go false q e h = rw (often-other v w l q g.0, h e)

  total-once : (ws : List Bytes) (ls : List (List Line)) → differ ws ≡ true → Groups part ws ls → single part w ≡ true → total w ls ≤ 1
  total-once [] [] d g s = omega arith
  total-once [] (l ∷ ls) d g s = absurd g
  total-once (v ∷ ws) [] d g s = absurd g
  total-once (v ∷ ws) (l ∷ ls) d g s = go (same_bytes_of w v) refl (total-once ws ls (both (not (one_of ws v)) (differ ws) d).1 g.1.1 s)
    where
      go : (x : Bool) → same_bytes_of w v ≡ x → total w ls ≤ 1 → often w l + total w ls ≤ 1
      go true q h =
          let e = same-equal w v q in
          let z : total w ls ≡ 0 = total-none ws ls (ap (one_of ws) e ∙ not-true (one_of ws v) (both (not (one_of ws v)) (differ ws) d).0) g.1.1 in
          let m : length l ≤ 1 = g.1.0 (ap (single part) (sym e) ∙ s) in
          let n : often w l ≤ length l = often-most w l in
          omega arith
      go false q h =
          let z : often w l ≡ 0 = often-other v w l q g.0 in
          omega arith

pub groups-once : (part : Bytes) (ws : List Bytes) (ls : List (List Line)) (os : List Line) → differ ws ≡ true → Groups part ws ls → AnyOrder ls os → (w : Bytes) → single part w ≡ true → often w os ≤ 1
groups-once part ws ls os d g a w s = rw (often-any w ls os a) (total-once part w ws ls d g s)

-- at most one line
pub perhaps-most : {A : Type 0} (f : A → Line) (a : Option A) → length (map f (perhaps a)) ≤ 1
perhaps-most f none = omega arith
perhaps-most f (some a) = omega arith

pub perhaps-once : {A : Type 0} (part : Bytes) (f : A → Line) (a : Option A) (w : Bytes) → single part w ≡ true → often w (map f (perhaps a)) ≤ 1
perhaps-once part f a w s =
    let m = often-most w (map f (perhaps a)) in
    let n = perhaps-most f a in
    omega arith
