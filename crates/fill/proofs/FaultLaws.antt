-- The first fault: the function's answer is right, and only that answer is. For any rows and any test. Assumes nothing.
use mathlib.Core.Path.{◌≡◌, refl, sym, ap, subst, ◌∙◌}
use mathlib.Core.List.{List, [], ◌∷◌, ◌++◌, append-nil, append_assoc}
use mathlib.Core.Option.{Option, none, some}
use Prim.Native.Nat.{ℕ, suc, ◌<◌, ◌≤◌}
use native.Mathlib.Omega.{arith}
use lib.ListN.{length, length-append, take, drop, get_or, drop_of_length-le}
use lib.Seq.{length-take-le, take-suc, drop-cons}
use Rattle.fill.specs.Faults.{Faultless, First}
use Rattle.fill.specs.FirstFaults.{Fault, fault, or_behind, first_fault}

-- the test gives the number of the fault, and nothing else
pub record Decides {A : Type 0} (test : List A → A → Option ℕ) (F : List A → A → ℕ → Type 0) : Type 0 where
  pub told : (front : List A) (a : A) (k : ℕ) → test front a ≡ some k → F front a k
  pub tells : (front : List A) (a : A) (k : ℕ) → F front a k → test front a ≡ some k

module _ {A : Type 0} {test : List A → A → Option ℕ} {F : List A → A → ℕ → Type 0} (D : Decides test F) where
  no-fault : (front : List A) (a : A) → test front a ≡ none → (k : ℕ) → F front a k → ⊥
  no-fault front a q k f = let e = D.tells front a k f in let z : ◌≡◌ {A = ℕ} 0 1 = cc in omega arith

  none_told : (front : List A) (a : A) → ((k : ℕ) → F front a k → ⊥) → test front a ≡ none
  none_told front a h = go (test front a) refl
    where
      go : (o : Option ℕ) → test front a ≡ o → test front a ≡ none
      go none q = q
      go (some k) q = absurd (h k (D.told front a k q))

  -- ## Right
  pub first-right : (front l : List A) (x : Fault) → first_fault test front l ≡ some x → First F front l x.row x.number
  unfolding first_fault
  first-right front [] x h = absurd (let z : ◌≡◌ {A = ℕ} 0 1 = cc in omega arith)
  first-right front (a ∷ l) x h = go (test front a) refl h (first-right (front ++ (a ∷ [])) l x)
    where
      go : (o : Option ℕ) → test front a ≡ o → or_behind (length front) o (first_fault test (front ++ (a ∷ [])) l) ≡ some x
          → (first_fault test (front ++ (a ∷ [])) l ≡ some x → First F (front ++ (a ∷ [])) l x.row x.number) → First F front (a ∷ l) x.row x.number
      go (some k) q h ih = let e : fault (length front) k ≡ x = cc in subst (λ (x : Fault). First F front (a ∷ l) x.row x.number) e (record {
        before = [];
        this = a;
        rest = l;
        made = refl;
        fine = tt;
        row = ap (λ (l : List A). length l) (sym (append-nil front));
        fault = rw append-nil (D.told front a k q);
      })
      go none q h ih = let f = ih h in let e = append_assoc front (a ∷ []) f.before in record {
        before = a ∷ f.before;
        this = f.this;
        rest = f.rest;
        made = ap (◌∷◌ a) f.made;
        fine = (no-fault front a q, f.fine);
        row = f.row ∙ ap (λ (l : List A). length l) e;
        fault = subst (λ (l : List A). F l f.this x.number) e f.fault;
      }

  -- ## And only that is right
  only-behind : (before : List A) (front : List A) (this : A) (rest : List A) (k : ℕ) → Faultless F front before → F (front ++ before) this k → first_fault test front (before ++ (this ∷ rest)) ≡ some (fault (length (front ++ before)) k)
  unfolding first_fault
  only-behind [] front this rest k fine f = rw append-nil (rw (D.tells front this k (rw append-nil at f)))
  only-behind (a ∷ before) front this rest k fine f =
      let e = append_assoc front (a ∷ []) before in
      rw (none_told front a fine.0) (only-behind before (front ++ (a ∷ [])) this rest k fine.1 (subst (λ (l : List A). F l this k) (sym e) f) ∙ ap (λ (l : List A). some (fault (length l) k)) e)

  pub first-only : (front l : List A) (i k : ℕ) → First F front l i k → first_fault test front l ≡ some (fault i k)
  first-only front l i k f = rw (f.made, f.row) (only-behind f.before front f.this f.rest k f.fine f.fault)

  -- ## No fault
  pub none_right : (front l : List A) → first_fault test front l ≡ none → Faultless F front l
  unfolding first_fault
  none_right front [] h = tt
  none_right front (a ∷ l) h = go (test front a) refl h (none_right (front ++ (a ∷ [])) l)
    where
      go : (o : Option ℕ) → test front a ≡ o → or_behind (length front) o (first_fault test (front ++ (a ∷ [])) l) ≡ none → (first_fault test (front ++ (a ∷ [])) l ≡ none → Faultless F (front ++ (a ∷ [])) l) → Faultless F front (a ∷ l)
      go (some k) q h ih = absurd (let z : ◌≡◌ {A = ℕ} 0 1 = cc in omega arith)
      go none q h ih = (no-fault front a q, ih h)

  pub none_only : (front l : List A) → Faultless F front l → first_fault test front l ≡ none
  unfolding first_fault
  none_only front [] h = refl
  none_only front (a ∷ l) h = rw (none_told front a h.0) (none_only (front ++ (a ∷ [])) l h.1)

-- the row is a row of the table
pub first-there : {A : Type 0} (F : List A → A → ℕ → Type 0) (l : List A) (i k : ℕ) → First F [] l i k → i < length l
first-there F l i k f = let r = f.row in let n = length-append f.before (f.this ∷ f.rest) in rw f.made (omega arith)

-- ## For a loop: row i is looked at, the rows before it had no fault
module _ {A : Type 0} (test : List A → A → Option ℕ) (l : List A) (i : ℕ) where
  pub first-end : length l ≤ i → first_fault test (take i l) (drop i l) ≡ none
  unfolding first_fault
  first-end h = rw (drop_of_length-le l h)

  pub first-hit : (d : A) (k : ℕ) → i < length l → test (take i l) (get_or l i d) ≡ some k → first_fault test (take i l) (drop i l) ≡ some (fault i k)
  unfolding first_fault
  first-hit d k h q = rw (drop-cons l i d h, q) (ap (λ (n : ℕ). some (fault n k)) (length-take-le i l (omega arith)))

  pub first_step : (d : A) → i < length l → test (take i l) (get_or l i d) ≡ none → first_fault test (take i l) (drop i l) ≡ first_fault test (take (suc i) l) (drop (suc i) l)
  unfolding first_fault
  first_step d h q = rw (drop-cons l i d h, q, take-suc l i d h)
