-- The first byte that is not allowed, by two scans; and that no column is far behind its line's end. Assumes nothing.
use mathlib.Core.Path.{◌≡◌, refl, sym, ap, ◌∙◌}
use mathlib.Core.List.{List, [], ◌∷◌}
use mathlib.Core.Bool.{Bool, true, false, not, ◌||◌}
use Prim.Native.Nat.{ℕ, zero, suc, ◌+◌, ◌≤◌, ◌<◌}
use native.Mathlib.Omega.{arith}
use borrow.Author.Tests.{lt-ltb, le-ltb, ltb-true, ltb-false}
use lib.ListN.{length, take, drop}
use lib.Seq.{length-take-le}
use lib.Dec.{eqb, ltb}
use Rattle.terms.specs.Ascii.{Bytes}
use Rattle.terms.specs.Words.{pick}
use Rattle.scan.specs.Allowed.{outside, inside}
use Rattle.scan.specs.Reach.{two, up_to, fails, reach, stops_by}
use Rattle.scan.specs.declared.Until.TheVariants.{NotOutside, NotInside}
use Rattle.scan.proofs.Reach.{up_to_le}
use Rattle.line.specs.Lines.{trim_of}
use Rattle.line.specs.Forms.{opens, fields_in_of, FieldsWithin}
use Rattle.line.specs.declared.Fields.{Fields}
use Rattle.line.proofs.Spans.{fields_within}
use Rattle.line.proofs.Ends.{trim_le}
use Rattle.judge.specs.Judging.{Judging}
use Rattle.law_columns.specs.Finding.{bad_at_of}
use Rattle.columns.specs.Locating.{span_start, field_of, fields_column_of, content_column_of, line_column_of}

-- ## The first byte that is not allowed
pick_suc : (b : Bool) (m n : ℕ) → suc (pick b m n) ≡ pick b (suc m) (suc n)
pick_suc true m n = refl
pick_suc false m n = refl

ltb_suc : (m n : ℕ) → ltb (suc m) (suc n) ≡ ltb m n
ltb_suc m n = go (ltb m n) refl
  where
    go : (b : Bool) → ltb m n ≡ b → ltb (suc m) (suc n) ≡ b
    go true e = lt-ltb (suc m) (suc n) (let h = ltb-true m n e in omega arith)
    go false e = le-ltb (suc m) (suc n) (let h = ltb-false m n e in omega arith)

abbrev by_scans : Bytes → ℕ
by_scans c = pick (ltb (up_to (fails outside) c) (up_to opens c)) (up_to (fails outside) c) (up_to opens c + up_to (fails inside) (drop (up_to opens c) c))

scanned : (c : Bytes) → by_scans c ≡ bad_at_of c
unfolding bad_at_of up_to stops_by fails
scanned [] = refl
scanned (b ∷ rest) = go (two 47 42 (b ∷ rest)) (outside b) (scanned rest)
  where
    go : (x o : Bool) → by_scans rest ≡ bad_at_of rest
        → pick (ltb (pick (not o) 0 (suc (up_to (fails outside) rest))) (pick x 0 (suc (up_to opens rest)))) (pick (not o) 0 (suc (up_to (fails outside) rest))) (pick x 0 (suc (up_to opens rest)) + up_to (fails inside) (drop (pick x 0 (suc (up_to opens rest))) (b ∷ rest)))
        ≡ pick x (up_to (fails inside) (b ∷ rest)) (pick o (suc (bad_at_of rest)) 0)
    go true o e = rw (le-ltb (pick (not o) 0 (suc (up_to (fails outside) rest))) 0 (omega arith)) (let z : 0 + up_to (fails inside) (b ∷ rest) ≡ up_to (fails inside) (b ∷ rest) = omega arith in z)
    go false true e = rw (ltb_suc (up_to (fails outside) rest) (up_to opens rest)) (more ∙ sym (pick_suc (ltb (up_to (fails outside) rest) (up_to opens rest)) (up_to (fails outside) rest) (up_to opens rest + up_to (fails inside) (drop (up_to opens rest) rest))) ∙ ap suc e)
      where
        more : pick (ltb (up_to (fails outside) rest) (up_to opens rest)) (suc (up_to (fails outside) rest)) (suc (up_to opens rest) + up_to (fails inside) (drop (up_to opens rest) rest))
            ≡ pick (ltb (up_to (fails outside) rest) (up_to opens rest)) (suc (up_to (fails outside) rest)) (suc (up_to opens rest + up_to (fails inside) (drop (up_to opens rest) rest)))
        more = let z : suc (up_to opens rest) + up_to (fails inside) (drop (up_to opens rest) rest) ≡ suc (up_to opens rest + up_to (fails inside) (drop (up_to opens rest) rest)) = omega arith in ap (pick (ltb (up_to (fails outside) rest) (up_to opens rest)) (suc (up_to (fails outside) rest))) z
    go false false e = rw (lt-ltb 0 (suc (up_to opens rest)) (omega arith))

-- as the scans answer
pub bad-scanned : (s : Bytes) (i mark : ℕ) → i ≡ reach (stops_by NotOutside) s 0 → mark ≡ reach opens s 0 → pick (ltb i mark) i (reach (stops_by NotInside) s mark) ≡ bad_at_of s
unfolding stops_by
bad-scanned s i mark p q =
    let a : i ≡ up_to (fails outside) s = p ∙ (let z : 0 + up_to (fails outside) s ≡ up_to (fails outside) s = omega arith in z) in
    let b : mark ≡ up_to opens s = q ∙ (let z : 0 + up_to opens s ≡ up_to opens s = omega arith in z) in
    rw (a, b) (scanned s)

-- ## Bounds
pub bad_le : (s : Bytes) → bad_at_of s ≤ length s
unfolding bad_at_of
bad_le [] = omega arith
bad_le (b ∷ rest) = go (two 47 42 (b ∷ rest)) (outside b) (bad_le rest)
  where
    go : (x o : Bool) → bad_at_of rest ≤ length rest → pick x (up_to (fails inside) (b ∷ rest)) (pick o (suc (bad_at_of rest)) 0) ≤ length (b ∷ rest)
    go true o h = up_to_le (fails inside) (b ∷ rest)
    go false true h = omega arith
    go false false h = omega arith

pick_le : (b : Bool) (m n k : ℕ) → m ≤ k → n ≤ k → pick b m n ≤ k
pick_le true m n k h l = h
pick_le false m n k h l = l

pub start_le : (s : Bytes) (i : ℕ) → span_start (fields_in_of s) i ≤ length s
unfolding span_start
start_le s i =
    let w = fields_within s in
    pick_le (ltb i (fields_in_of s).count) _ 0 (length s) (pick_le (eqb i 0) _ _ (length s) (omega (arith, w.first.order, w.first.inside)) (pick_le (eqb i 1) _ _ (length s) (omega (arith, w.second.order, w.second.inside)) (omega (arith, w.third.order, w.third.inside)))) (omega arith)

-- a column is not far behind its line
module _ (J : Judging) (wrong : J.Pl → (n : ℕ) → Bytes → Fields → (kind : ℕ) → ℕ) (p : J.Pl) (n : ℕ) where
  fields-small : (s : Bytes) → fields_column_of J wrong s p n ≤ length s + 1
  unfolding fields_column_of
  fields-small s = pick_le (eqb (fields_in_of s).count 0) 0 _ (length s + 1) (omega arith) (omega (arith, start_le s (field_of J wrong s (fields_in_of s) p n)))

  content-small : (s : Bytes) → content_column_of J wrong s p n ≤ length s + 513
  unfolding content_column_of
  content-small s =
      let m = up_to_le opens s in
      let f = fields-small (take (up_to opens s) s) in
      let t = length-take-le (up_to opens s) s m in
      pick_le (eqb n 2) 513 _ (length s + 513) (omega arith) (pick_le (eqb n 3) _ _ (length s + 513) (omega (arith, m)) (pick_le (eqb n 4) _ _ (length s + 513) (omega (arith, bad_le s)) (omega (arith, f, t, m))))

  pub column-small : (s : Bytes) → line_column_of J wrong s p n ≤ length s + 513
  unfolding line_column_of
  column-small s =
      let k = trim_le s in
      omega (arith, content-small (take (trim_of s) s), length-take-le (trim_of s) s k, k)
