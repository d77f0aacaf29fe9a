-- The contract of the look-up of a list settles the reply and every element: at most one (`settled`), and one there is (`some-answer`). And the law of its loop. Assumes nothing.
use Rattle.std.specs.Prelude.{Ok, Err}
use Rattle.look_up.specs.Types.{ListReply}
use mathlib.Core.Path.{◌≡◌, refl, sym, ◌∙◌}
use mathlib.Core.List.{List, [], ◌∷◌, ◌++◌}
use mathlib.Core.Bool.{Bool, true, false}
use Prim.Native.Nat.{ℕ, suc, ◌+◌, ◌<◌, ◌≤◌}
use native.Mathlib.Numerals.{add-one}
use native.Mathlib.Omega.{arith}
use lib.Dec.{eqb}
use lib.ListN.{length, replicate, get_or, take, set, length-set}
use lib.Seq.{take-suc, take-suc-set}
use borrow.Author.Tests.{eqb-true, eqb-false}
use Rattle.look_up.specs.LookUp.{PointOf}
use Rattle.look_up.specs.Listed.{Paired, PointsOf, refused, answered}
use Rattle.look_up.proofs.Answers.{point-one, point-some}

-- ## At most one
one_list : (t numbers l m : List ℕ) → Paired (PointOf t) numbers l → Paired (PointOf t) numbers m → l ≡ m
one_list t [] [] [] a b = refl
one_list t [] [] (y ∷ m) a b = absurd b
one_list t [] (x ∷ l) m a b = absurd a
one_list t (n ∷ ns) [] m a b = absurd a
one_list t (n ∷ ns) (x ∷ l) [] a b = absurd b
one_list t (n ∷ ns) (x ∷ l) (y ∷ m) a b = let p = point-one t n x y a.0 b.0 in let q = one_list t ns l m a.1 b.1 in cc

pub settled : (t numbers : List ℕ) (lent : ℕ) (r s : ListReply) (l m : List ℕ) → PointsOf t numbers lent r l → PointsOf t numbers lent s m → (r ≡ s) × (l ≡ m)
settled t numbers lent r s l m (refused d p z) (refused d' q y) = (p ∙ sym q, z ∙ sym y)
settled t numbers lent r s l m (refused d p z) (answered e q y) = absurd (d e)
settled t numbers lent r s l m (answered e p z) (refused d q y) = absurd (d e)
settled t numbers lent r s l m (answered e p z) (answered e' q y) = (p ∙ sym q, one_list t numbers l m z y)

-- ## One there is
record Points (t numbers : List ℕ) : Type 0 where
  pub points : List ℕ
  pub right : Paired (PointOf t) numbers points

all-points : (t numbers : List ℕ) → Points t numbers
all-points t [] = record { points = []; right = tt }
all-points t (n ∷ ns) = let a = point-some t n in let b = all-points t ns in record { points = a.answer ∷ b.points; right = (a.right, b.right) }

pub record Some (t numbers : List ℕ) (lent : ℕ) : Type 0 where
  pub reply : ListReply
  pub left : List ℕ
  pub right : PointsOf t numbers lent reply left

pub some-answer : (t numbers : List ℕ) (lent : ℕ) → Some t numbers lent
some-answer t numbers lent = go (eqb (length numbers) lent) refl
  where
    go : (b : Bool) → eqb (length numbers) lent ≡ b → Some t numbers lent
    go true e = let a = all-points t numbers in record { reply = (Ok tt); left = a.points; right = answered (eqb-true (length numbers) lent e) refl a.right }
    go false e = record { reply = Err (record { file = 0; line = 0; number = 20; column = 0 }); left = replicate lent 0; right = refused (eqb-false (length numbers) lent e) refl refl }

-- ## The loop: the first i numbers have their answers, and one more
paired-more : {A B : Type 0} (R : A → B → Type 0) (l : List A) (m : List B) (a : A) (b : B) → Paired R l m → R a b → Paired R (l ++ (a ∷ [])) (m ++ (b ∷ []))
paired-more R [] [] a b p r = (r, tt)
paired-more R [] (y ∷ m) a b p r = absurd p
paired-more R (x ∷ l) [] a b p r = absurd p
paired-more R (x ∷ l) (y ∷ m) a b p r = (p.0, paired-more R l m a b p.1 r)

pub one-more-answer : (t numbers points : List ℕ) (i answer : ℕ) → i < length numbers → i < length points → PointOf t (get_or numbers i 0) answer → Paired (PointOf t) (take i numbers) (take i points) → Paired (PointOf t) (take (i + 1) numbers) (take (i + 1) (set points i answer))
one-more-answer t numbers points i answer h l a p = rw (add-one, take-suc numbers i 0 h, take-suc-set points i answer l) (paired-more (PointOf t) (take i numbers) (take i points) (get_or numbers i 0) answer p a)
