-- What is in order after `staying`: stretches of statements with their options behind them, one behind the other. Over anything that has a rank. Assumes nothing.
use mathlib.Core.Path.{◌≡◌, refl, sym, ap, subst, ◌∙◌}
use mathlib.Core.List.{List, [], ◌∷◌, ◌++◌, append_assoc, append-nil}
use Prim.Native.Nat.{ℕ}
use borrow.Author.Tests.{ne_eqb}
use Rattle.terms.specs.Words.{Each, InTurn, nothing, then}
use Rattle.grammar.specs.HouseOrder.{in_turn}
use Rattle.house_arranged.specs.Order as O

pub six : {X : Type 0} {a b c d e f a' b' c' d' e' f' : List X} → a ≡ a' → b ≡ b' → c ≡ c' → d ≡ d' → e ≡ e' → f ≡ f' → a ++ (b ++ (c ++ (d ++ (e ++ f)))) ≡ a' ++ (b' ++ (c' ++ (d' ++ (e' ++ f'))))
six p q r s t u = rw (p, q, r, s, t, u)

module _ {X : Type 0} (rank : X → ℕ) where
  -- it begins with one that stays, or is empty
  abbrev pub Stays : List X → Type 0
  Stays [] = Unit {0}
  Stays (x ∷ l) = rank x ≡ 0

  -- nothing but options
  abbrev pub Options : List X → Type 0
  Options = Each (λ x. rank x ≡ 0 → ⊥)

  pass-none : (k : ℕ) (l : List X) → Stays l → O.pass rank k l ≡ []
  unfolding O.pass
  pass-none k [] h = refl
  pass-none k (x ∷ l) h = rw h

  pass-options : (k : ℕ) (os rest : List X) → Options os → Stays rest → O.pass rank k (os ++ rest) ≡ O.ranked rank k os
  unfolding O.pass O.ranked
  pass-options k [] rest o h = pass-none k rest h
  pass-options k (x ∷ os) rest o h = rw (ne_eqb (rank x) 0 o.0, pass-options k os rest o.1 h)

  staying-options : (os rest : List X) → Options os → O.staying rank (os ++ rest) ≡ O.staying rank rest
  unfolding O.staying
  staying-options [] rest o = refl
  staying-options (x ∷ os) rest o = rw (ne_eqb (rank x) 0 o.0) (staying-options os rest o.1)

  passes-options : (os rest : List X) → Options os → Stays rest → O.passes rank (os ++ rest) ≡ O.by_rank rank os
  unfolding O.passes O.by_rank
  passes-options os rest o h = six (pass-options 1 os rest o h) (pass-options 2 os rest o h) (pass-options 3 os rest o h) (pass-options 4 os rest o h) (pass-options 5 os rest o h) (pass-options 6 os rest o h)

  -- ## A stretch that is put in order by itself, whatever that stays follows
  pub record Settles (l u : List X) : Type 0 where
    pub begins : (rest : List X) → Stays rest → Stays (l ++ rest)
    pub order : (rest : List X) → Stays rest → O.staying rank (l ++ rest) ≡ u ++ O.staying rank rest

  pub none : Settles [] []
  none = record { begins = λ rest h. h; order = λ rest h. refl }

  -- options, and in which order they are written
  pub record Sorted (os u : List X) : Type 0 where
    pub options : Options os
    pub order : O.by_rank rank os ≡ u

  -- one that stays, with its options
  pub with : (x : X) {os u : List X} → rank x ≡ 0 → Sorted os u → Settles (x ∷ os) (x ∷ u)
  unfolding O.staying
  with x {os} {u} z o = record {
    begins = λ rest h. z;
    order = λ rest h. rw (z, passes-options os rest o.options h, staying-options os rest o.options, o.order);
  }

  pub one : (x : X) → rank x ≡ 0 → Settles (x ∷ []) (x ∷ [])
  unfolding O.by_rank O.ranked
  one x z = with x z (record { options = tt; order = refl })

-- one stretch behind another
module _ {X : Type 0} {rank : X → ℕ} where
  infixr 6 ◌▸◌
  pub ◌▸◌ : {l u m v : List X} → Settles rank l u → Settles rank m v → Settles rank (l ++ m) (u ++ v)
  ◌▸◌ {l} {u} {m} {v} a b = record {
    begins = λ rest h. rw append_assoc (a.begins (m ++ rest) (b.begins rest h));
    order = λ rest h. ap (O.staying rank) (append_assoc l m rest) ∙ a.order (m ++ rest) (b.begins rest h) ∙ ap (◌++◌ u) (b.order rest h) ∙ sym (append_assoc u v (O.staying rank rest));
  }

module _ {X : Type 0} (rank : X → ℕ) where
  -- parts one behind the other
  pub in_turns : {A : Type 0} (Sp : ℕ → A → List X → Type 0) (f : ℕ → A → List X) → ((i : ℕ) (a : A) (l : List X) → Sp i a l → Settles rank l (f i a)) → {i : ℕ} {parts : List A} {l : List X} → InTurn Sp i parts l → Settles rank l (in_turn f i parts)
  in_turns Sp f h nothing = none rank
  in_turns Sp f h (then {i = i} {a = a} {u = u} s t) = h i a u s ▸ in_turns Sp f h t

  -- ## The whole
  pub settled : (l u : List X) → Settles rank l u → O.arranged rank l ≡ u
  unfolding O.arranged O.passes O.staying
  settled l u s =
      let b : Stays rank l = subst (Stays rank) (append-nil l) (s.begins [] tt) in
      let e : O.staying rank l ≡ u = ap (O.staying rank) (sym (append-nil l)) ∙ s.order [] tt ∙ append-nil u in
      rw (pass-none rank 1 l b, pass-none rank 2 l b, pass-none rank 3 l b, pass-none rank 4 l b, pass-none rank 5 l b, pass-none rank 6 l b) e
