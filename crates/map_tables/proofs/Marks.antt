-- A list whose things have commas by their places is JSON's list. Assumes nothing.
use mathlib.Core.Path.{◌≡◌, refl, sym, ap, ◌∙◌}
use mathlib.Core.List.{List, [], ◌∷◌, ◌++◌, append_assoc, append-nil}
use Prim.Native.Nat.{ℕ, suc, ◌+◌}
use native.Mathlib.Omega.{arith}
use lib.ListN.{length}
use Rattle.terms.specs.Ascii.{Bytes, ascii}
use Rattle.features.specs.Drawn.{comma_from}
use Rattle.map_law.specs.Map.{commas}
use Rattle.map_tables.specs.Marked.{marks}

pub marks_append : (i : ℕ) (x y : List Bytes) → marks i (x ++ y) ≡ marks i x ++ marks (i + length x) y
unfolding marks
marks_append i [] y = ap (λ (j : ℕ). marks j y) (let e : i ≡ i + 0 = omega arith in e)
marks_append i (b ∷ x) y =
    let e : suc i + length x ≡ i + suc (length x) = omega arith in
    let t = marks (suc i) x in
    let u = marks (i + suc (length x)) y in
    ap (λ (l : Bytes). comma_from i ++ (b ++ l)) (marks_append (suc i) x y ∙ ap (λ (j : ℕ). t ++ marks j y) e)
    ∙ ap (λ (l : Bytes). comma_from i ++ l) (sym (append_assoc b t u))
    ∙ sym (append_assoc (comma_from i) (b ++ t) u)

-- behind the first each has its comma
commas-cons : (i : ℕ) (a : Bytes) (l : List Bytes) → commas (a ∷ l) ≡ a ++ marks (suc i) l
unfolding commas marks comma_from
commas-cons i a [] = sym (append-nil a)
commas-cons i a (b ∷ l) = ap (λ (x : Bytes). a ++ (ascii "," ++ x)) (commas-cons (suc i) b l)

-- THE LAW: JSON's list
pub commas-is : (l : List Bytes) → commas l ≡ marks 0 l
unfolding marks comma_from commas
commas-is [] = refl
commas-is (a ∷ l) = commas-cons 0 a l

-- ## Behind the first it does not matter which they are
pub marks-later : (i : ℕ) (l : List Bytes) → marks (suc i) l ≡ marks 1 l
unfolding marks comma_from
marks-later i [] = refl
marks-later i (b ∷ l) = ap (λ (x : Bytes). ascii "," ++ (b ++ x)) (marks-later (suc i) l ∙ sym (marks-later 1 l))

pub later_append : (x y : List Bytes) → marks 1 (x ++ y) ≡ marks 1 x ++ marks 1 y
later_append x y =
    let e : 1 + length x ≡ suc (length x) = omega arith in
    marks_append 1 x y ∙ ap (λ (l : Bytes). marks 1 x ++ l) (ap (λ (j : ℕ). marks j y) e ∙ marks-later (length x) y)
