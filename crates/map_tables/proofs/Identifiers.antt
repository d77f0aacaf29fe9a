-- Identifiers between quotation marks: nothing of them is escaped. Assumes nothing.
use mathlib.Core.Path.{◌≡◌, refl, sym, ap, ◌∙◌}
use mathlib.Core.List.{List, [], ◌∷◌, ◌++◌, append_assoc}
use mathlib.Core.Bool.{Bool, true, false}
use Prim.Native.Nat.{ℕ, ◌≤◌}
use native.Mathlib.Omega.{arith}
use borrow.Author.Tests.{ne_eqb}
use Rattle.terms.specs.Ascii.{Bytes, ascii}
use Rattle.terms.proofs.Tests.{both}
use Rattle.scan.specs.Allowed.{digit, all}
use Rattle.number.specs.Decimal.{decimal}
use Rattle.number.specs.Executable.{digits}
use Rattle.number.specs.House.{house_pair, house_triple}
use Rattle.number.proofs.Decimals.{decimal-digits}
use Rattle.number.proofs.Digits.{digit-range}
use Rattle.law.specs.Network.{dotted}
use Rattle.law.specs.Tables.{gather}
use Rattle.map_law.specs.Map as Map

-- every byte as it is
plain-escapes : (s : Bytes) → digits s ≡ true → gather Map.escaped s ≡ s
unfolding all
plain-escapes [] h = refl
plain-escapes (b ∷ s) h =
    let k = both (digit b) (digits s) h in
    let r = digit-range b k.0 in
    rw (ne_eqb b 34 (λ (e : b ≡ 34). omega (arith, r.0))) (ap (◌∷◌ b) (plain-escapes s k.1))

pub gather_append : {A B : Type 0} (f : A → List B) (x y : List A) → gather f (x ++ y) ≡ gather f x ++ gather f y
gather_append f [] y = refl
gather_append f (a ∷ x) y = ap (λ l. f a ++ l) (gather_append f x y) ∙ sym (append_assoc (f a) (gather f x) (gather f y))

plain : (n : ℕ) → gather Map.escaped (decimal n) ≡ decimal n
plain n = plain-escapes (decimal n) (decimal-digits n)

pub pair-plain : (m n : ℕ) → gather Map.escaped (dotted (m ∷ n ∷ [])) ≡ house_pair m n
unfolding house_pair ascii
pair-plain m n =
    gather_append Map.escaped (decimal m) (ascii "." ++ decimal n)
    ∙ (λ i. plain m i ++ (ascii "." ++ plain n i))
    ∙ sym (append_assoc (decimal m) (ascii ".") (decimal n))

pub triple-plain : (x y z : ℕ) → gather Map.escaped (dotted (x ∷ y ∷ z ∷ [])) ≡ house_triple x y z
unfolding house_triple house_pair ascii
triple-plain x y z =
    gather_append Map.escaped (decimal x) (ascii "." ++ dotted (y ∷ z ∷ []))
    ∙ (λ i. plain x i ++ (ascii "." ++ pair-plain y z i))
    ∙ ap (λ (l : Bytes). decimal x ++ (ascii "." ++ l)) (append_assoc (decimal y) (ascii ".") (decimal z))
    ∙ sym (append_assoc (decimal x) (ascii ".") (decimal y ++ (ascii "." ++ decimal z)))
    ∙ sym (append_assoc (decimal x ++ ascii ".") (decimal y) (ascii "." ++ decimal z))
    ∙ sym (append_assoc (decimal x ++ ascii "." ++ decimal y) (ascii ".") (decimal z))
