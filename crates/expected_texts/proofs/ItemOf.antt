-- The item of a field of the program's form is the item of the law's form. Assumes nothing.
use mathlib.Core.Path.{◌≡◌, refl}
use mathlib.Core.List.{List, [], ◌∷◌}
use Prim.Native.Nat.{ℕ, zero, suc, ◌<◌}
use native.Mathlib.Omega.{arith}
use lib.ListN.{length, take}
use lib.Dec.{eqb}
use Rattle.terms.specs.Words.{pick}
use Rattle.expected_words.specs.declared.Item as DI
use Rattle.expected_words.specs.declared.Form as DF
use Rattle.expected_words.specs.Items.{law_item, law_form}
use Rattle.expected_fields.specs.AtFields.{item_at_of}
use Rattle.expected_lines.specs.Words.{item_at}

of_three : (n : ℕ) (a b c : DI.Item) (j : ℕ) → j < length (take n (law_item a ∷ law_item b ∷ law_item c ∷ [])) → item_at_of j (take n (law_item a ∷ law_item b ∷ law_item c ∷ [])) ≡ law_item (pick (eqb j 0) a (pick (eqb j 1) b c))
unfolding item_at_of
of_three zero a b c j h = absurd (omega arith)
of_three (suc n) a b c zero h = refl
of_three (suc zero) a b c (suc j) h = absurd (omega arith)
of_three (suc (suc n)) a b c (suc zero) h = refl
of_three (suc (suc zero)) a b c (suc (suc j)) h = absurd (omega arith)
of_three (suc (suc (suc n))) a b c (suc (suc zero)) h = refl
of_three (suc (suc (suc zero))) a b c (suc (suc (suc j))) h = absurd (omega arith)
of_three (suc (suc (suc (suc n)))) a b c (suc (suc (suc j))) h = absurd (omega arith)

pub item-is : (form : DF.Form) (j : ℕ) → j < length (law_form form) → item_at_of j (law_form form) ≡ law_item (item_at form j)
unfolding item_at
item-is form j h = of_three form.count form.a form.b form.c j h
