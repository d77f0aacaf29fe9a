-- A part of a table that was lent from some place on comes back in its place. Assumes nothing.
use mathlib.Core.Path.{◌≡◌, refl, sym, ap, ◌∙◌}
use mathlib.Core.List.{List, [], ◌++◌, append-nil}
use Prim.Native.Nat.{ℕ, ◌-◌}
use native.Mathlib.Omega.{arith}
use lib.ListN.{length, take, drop, length-drop}
use lib.Seq.{drop-length, take_all}
use Rattle.rows.specs.Lay.{put_row_of}
use borrow.Rule.Slice.PartMut.{put_mid, mid_of}

pub part-back : {X : Type 0} (a stride row : ℕ) (xs ys words : List X) → ys ≡ put_row_of stride (mid_of a (length xs - a) xs) row words → put_mid a (length xs - a) xs ys ≡ take a xs ++ put_row_of stride (drop a xs) row words
part-back a stride row xs ys words e =
    let all = take_all (length xs - a) (drop a xs) (omega (arith, length-drop a xs)) in
    let none : drop (length xs - a) (drop a xs) ≡ [] = ap (λ (n : ℕ). drop n (drop a xs)) (sym (length-drop a xs)) ∙ drop-length (drop a xs) in
    rw (e, all, none) (ap (λ (l : List _). take a xs ++ l) (append-nil (put_row_of stride (drop a xs) row words)))
