-- What passes the test of a form is a good value, written; and back. Assumes nothing.
use mathlib.Core.Path.{◌≡◌, ap, sym, subst, ◌∙◌}
use lib.Dec.{T}
use Rattle.grammar.specs.Forms.{yes?, Form, tested}

pub so : {A : Type 0} (d : Dec A) → T (yes? d) → A
so (yes a) t = a
so (no n) t = absurd t

pub thus : {A : Type 0} (d : Dec A) → A → T (yes? d)
thus (yes b) a = tt
thus (no n) a = n a

module _ {P : Type 0} (F : Form P) where
  open F use {C, line, back, same, Good, fits}

  pub pass : (c : C) → Good c → T (tested F (line c))
  pass c g = thus (fits (line c)) (ap line (same c), subst Good (sym (same c)) g)

  pub pick : (v : P) → T (tested F v) → (line (back v) ≡ v) × Good (back v)
  pick v t = so (fits v) t

  pub inj : (c d : C) → line c ≡ line d → c ≡ d
  inj c d e = sym (same c) ∙ ap back e ∙ same d
