-- Lists with the same forms, in whatever order: what one lists exactly the other does. Assumes nothing.
use mathlib.Core.Path.{◌≡◌, refl, sym, subst}
use mathlib.Core.List.{List, [], ◌∷◌}
use mathlib.Core.Logic.{◌⊎◌, inl, inr}
use Rattle.terms.specs.Words.{Each, Among}
use Rattle.line.specs.Content.{Field}
use Rattle.law.specs.Network.{Line, Rules}
use Rattle.expected_law.specs.Expected.{Form, AllowsFields, ListsLines}
use Rattle.expected_law.specs.Short.{AllowsSome}

-- the same list. As a record: lists are then compared step by step, not worked out whole
pub record Exactly (a b : List Form) : Type 0 where
  pub is : a ≡ b

pub exactly : {a b : List Form} → a ≡ b → Exactly a b
exactly e = record { is = e }

pub record SameForms (a b : List Form) : Type 0 where
  pub to : (form : Form) → Among form a → Among form b
  pub back : (form : Form) → Among form b → Among form a

pub same-list : {a b : List Form} → a ≡ b → SameForms a b
same-list e = record { to = λ form. subst (Among form) e; back = λ form. subst (Among form) (sym e) }

swap : {x y : Form} (form : Form) → Among form (x ∷ y ∷ []) → Among form (y ∷ x ∷ [])
swap form (inl i) = inr (inl i)
swap form (inr (inl i)) = inl i
swap form (inr (inr n)) = absurd n

pub swapped : {x y : Form} → SameForms (x ∷ y ∷ []) (y ∷ x ∷ [])
swapped = record { to = swap; back = swap }

infixr 20 ◌thence◌
pub ◌thence◌ : {a b c : List Form} → SameForms a b → SameForms b c → SameForms a c
x thence y = record { to = λ form m. y.to form (x.to form m); back = λ form m. x.back form (y.back form m) }

-- ## What holds of each of one list holds of each of the other
of-each : (P : Form → Type 0) (forms : List Form) → Each P forms → (form : Form) → Among form forms → P form
of-each P [] h form m = absurd m
of-each P (a ∷ forms) h form (inl i) = subst P (sym i) h.0
of-each P (a ∷ forms) h form (inr m) = of-each P forms h.1 form m

each_of : (P : Form → Type 0) (forms : List Form) → ((form : Form) → Among form forms → P form) → Each P forms
each_of P [] h = tt
each_of P (a ∷ forms) h = (h a (inl refl), each_of P forms (λ form m. h form (inr m)))

module _ (rules : Rules) {Net : Type 0} (Spells : Rules → Net → List Line → Type 0) (before : List Line) where
  pub lists-alike : {a b : List Form} → SameForms a b → ListsLines rules Spells before b → ListsLines rules Spells before a
  lists-alike {a} {b} x h = (
    (λ fields. ((λ s. (h.0 fields).0 (s.0, x.to s.0 s.1, s.2)), (λ t. let s = (h.0 fields).1 t in (s.0, x.back s.0 s.1, s.2)))),
    each_of (λ form. (fields : List Field) × AllowsFields [] form fields) a (λ form m. of-each (λ form. (fields : List Field) × AllowsFields [] form fields) b h.1 form (x.to form m)),
  )
