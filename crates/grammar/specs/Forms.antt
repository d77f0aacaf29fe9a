-- Executable: a form is the values that a statement may have at a place, how a value is written, and the test of what is written, decided from the ranges. Assumes nothing.
use Rattle.std.specs.Prelude.{◌≡◌, refl, Bool, true, false, ℕ, ◌≤◌, T, leb, eqb}
use Rattle.std.proofs.Common.{subst, leb→le, le→leb, eqb→eq}
use Rattle.std.proofs.Math.Dec.{eqb_refl}

abbrev pub yes? : {A : Type 0} → Dec A → Bool
yes? (yes a) = true
yes? (no n) = false

-- ## Decisions that compute: by a test, by another decision, both of two, the second where the first holds
abbrev pub by : {A : Type 0} (b : Bool) → (T b → A) → (A → T b) → Dec A
by true f g = yes (f tt)
by false f g = no g

abbrev pub via : {A B : Type 0} → (A → B) → (B → A) → Dec A → Dec B
via f g (yes a) = yes (f a)
via f g (no n) = no (λ b. n (g b))

abbrev pub and? : {A B : Type 0} → Dec A → Dec B → Dec (A × B)
and? (yes a) (yes b) = yes (a, b)
and? (yes a) (no n) = no (λ x. n x.1)
and? (no n) d = no (λ x. n x.0)

abbrev pub where? : {A B : Type 0} → Dec A → Dec B → Dec (A → B)
where? (yes a) (yes b) = yes (λ x. b)
where? (yes a) (no n) = no (λ f. n (f a))
where? (no n) d = yes (λ a. absurd (n a))

abbrev pub le? : (m n : ℕ) → Dec (m ≤ n)
le? m n = by (leb m n) (leb→le m n) (le→leb m n)

abbrev pub eq? : Discrete ℕ
eq? m n = by (eqb m n) (eqb→eq m n) (λ e. subst (λ (k : ℕ). T (eqb m k)) e (eqb_refl m))

-- a value is written as a payload, and read back from one; the good ones are permitted, and no other payload
pub record Form (P : Type 0) : Type 1 where
  pub C : Type 0
  pub line : C → P
  pub back : P → C
  pub same : (c : C) → back (line c) ≡ c
  pub Good : C → Type 0
  pub fits : (v : P) → Dec ((line (back v) ≡ v) × Good (back v))

-- what is written is permitted
abbrev pub tested : {P : Type 0} → Form P → P → Bool
tested F v = yes? (F.fits v)

-- any value; a value in a range; one due value
abbrev pub free : (A : Type 0) → Form A
free A = record { C = A; line = λ a. a; back = λ a. a; same = λ a. refl; Good = λ a. Unit {0}; fits = λ a. yes (refl, tt) }

abbrev pub within : {A : Type 0} (Good : A → Type 0) → ((a : A) → Dec (Good a)) → Form A
within {A} Good d = record { C = A; line = λ a. a; back = λ a. a; same = λ a. refl; Good = Good; fits = λ a. and? (yes refl) (d a) }

abbrev pub only : {A : Type 0} → Discrete A → A → Form A
only {A} d x = record { C = Unit {0}; line = λ c. x; back = λ v. tt; same = λ c. refl; Good = λ c. Unit {0}; fits = λ v. and? (d x v) (yes tt) }
