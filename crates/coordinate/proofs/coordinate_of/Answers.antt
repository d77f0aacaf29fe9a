-- `coordinate::coordinate_of` meets its contract: a minus is taken off, and the rest is read as millionths. Assumes nothing.
use Rattle.std.specs.Prelude.{Some, None, Option, ℕ}
use mathlib.Core.Path.{◌≡◌, sym, ap, ◌∙◌}
use mathlib.Core.Bool.{true, false}
use mathlib.Core.List.{[]}
use Prim.Native.Nat.{◌-◌, ◌≤◌}
use native.Mathlib.Omega.{arith}
use borrow.Author.Rules.{rules}
use borrow.Author.Tests.{eq-eqb, ne_eqb, eqb-true}
use mir.Syntax.{w32}
use mir.Val.{to_z, of_z}
use lib.Dec.{eqb}
use lib.ListN.{length, get_or, take, drop, length-drop, drop_of_length-le}
use lib.Seq.{take_all}
use Rattle.terms.specs.Ascii.{Bytes}
use Rattle.coordinate.specs.Executable.{the_millionths_of, with_sign, the_coordinate_of, minus_first}
use Rattle.coordinate.proofs.Coordinates.{small}
use Rattle.coordinate.proofs.coordinate_of.Goals as goal
use Rattle.coordinate.proofs.coordinate_of.Goals.{else-not-is_empty-via-then-not-is_empty+else-s-eq45, else-not-is_empty-via-else-not-is_empty}

-- a minus comes first, or none does
module _ (s : Bytes) where
  with_minus : (n : Option ℕ) → get_or s 0 0 ≡ 45 → the_millionths_of (drop 1 s) ≡ n → the_coordinate_of s ≡ with_sign true n
  unfolding the_coordinate_of
  with_minus n e m = rw (eq-eqb (get_or s 0 0) 45 e, m)

  without : (n : Option ℕ) → minus_first s ≡ false → the_millionths_of s ≡ n → the_coordinate_of s ≡ with_sign false n
  unfolding the_coordinate_of
  without n e m = rw (e, m)

  none_first : eqb (length s) 0 ≡ true → minus_first s ≡ false
  none_first e =
      let h = eqb-true (length s) 0 e in
      let l : length s ≤ 0 = omega arith in
      let n : s ≡ [] = drop_of_length-le s l in
      rw n

  behind : (n : Option ℕ) → n ≡ the_millionths_of (take (length s - 1) (drop 1 s)) → the_millionths_of (drop 1 s) ≡ n
  behind n e = sym (e ∙ ap the_millionths_of (take_all (length s - 1) (drop 1 s) (omega (arith, length-drop 1 s))))

pub returns-in_err-below : goal.returns-in_err-below
returns-in_err-below c =
    let s = c.args.s.now in
    c.from_residual.ensures ∙ sym (with_minus s None c.if-s-eq45.true (behind s _ c.millionths_of.ensures ∙ c.in_err-below.was))

pub signed-requires : goal.signed-requires
signed-requires c =
    let s = c.args.s.now in
    small (drop 1 s) c.in_ok-below.below (behind s _ c.millionths_of.ensures ∙ c.in_ok-below.was)

pub returns-then-s-eq45 : goal.returns-then-s-eq45
returns-then-s-eq45 c =
    let s = c.args.s.now in
    let e : to_z w32 (of_z w32 c.signed.result) ≡ c.signed.result = search rules in
    ap Some (e ∙ c.signed.ensures) ∙ sym (with_minus s _ c.if-s-eq45.true (behind s _ c.millionths_of.ensures ∙ c.in_ok-below.was))

pub returns-in_err-above : goal.returns-in_err-above
returns-in_err-above c =
    let s = c.args.s.now in
    let e : minus_first s ≡ false = elim c.else-not-is_empty.branch [
      | else-not-is_empty-via-then-not-is_empty+else-s-eq45 w ↦ ne_eqb (get_or s 0 0) 45 w.if-s-eq45.false
      | else-not-is_empty-via-else-not-is_empty w ↦ none_first s (sym c.is_empty.ensures ∙ w.if-not-is_empty.false)
    ] in
    c.from_residual-in_err-above.ensures ∙ sym (without s None e (sym c.millionths_of-2.ensures ∙ c.in_err-above.was))

pub signed-requires-2 : goal.signed-requires-2
signed-requires-2 c = small c.args.s.now c.in_ok-above.above (sym c.millionths_of-2.ensures ∙ c.in_ok-above.was)

pub returns : goal.returns
returns c =
    let s = c.args.s.now in
    let e : minus_first s ≡ false = elim c.else-not-is_empty.branch [
      | else-not-is_empty-via-then-not-is_empty+else-s-eq45 w ↦ ne_eqb (get_or s 0 0) 45 w.if-s-eq45.false
      | else-not-is_empty-via-else-not-is_empty w ↦ none_first s (sym c.is_empty.ensures ∙ w.if-not-is_empty.false)
    ] in
    let k : to_z w32 (of_z w32 c.signed-2.result) ≡ c.signed-2.result = search rules in
    ap Some (k ∙ c.signed-2.ensures) ∙ sym (without s _ e (sym c.millionths_of-2.ensures ∙ c.in_ok-above.was))
