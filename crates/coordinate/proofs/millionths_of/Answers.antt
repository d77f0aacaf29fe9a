-- `coordinate::millionths_of` meets its contract.
-- Assumes nothing.
use Rattle.std.specs.Prelude.{Some, None, Option}
use mathlib.Core.Path.{◌≡◌, sym, ap, ◌∙◌}
use Prim.Native.Nat.{ℕ, ◌-◌, ◌+◌, ◌≤◌}
use native.Mathlib.Omega.{arith}
use borrow.Author.Tests.{eq-eqb, ne_eqb, le-leb, lt-leb}
use lib.ListN.{length, get_or, take, drop, length-take, length-drop}
use lib.Seq.{take_all, length-take-le}
use Rattle.coordinate.specs.Executable.{the_millionths_of}
use Rattle.number.proofs.Digits.{number_small, plain-small, few}
use Rattle.terms.specs.Ascii.{Bytes}
use Rattle.number.specs.Executable.{plain_of, number_of, if_few}
use Rattle.coordinate.proofs.millionths_of.Goals as goal

pub returns-then-s-lt8 : goal.returns-then-s-lt8
unfolding the_millionths_of
returns-then-s-lt8 c =
    rw (lt-leb 8 (length c.args.s.now) c.if-s-lt8.true)

pub returns-then-s-gt10 : goal.returns-then-s-gt10
unfolding the_millionths_of
returns-then-s-gt10 c =
    let n = length c.args.s.now in
    rw (lt-leb n 10 c.if-s-gt10.true, le-leb 8 n (omega arith))

-- both parts are short
few-in-front : (s : Bytes) → length s ≤ 10 → if_few (take (length s - 7) s) (plain_of (take (length s - 7) s)) ≡ plain_of (take (length s - 7) s)
few-in-front s h = few (take (length s - 7) s) (plain_of (take (length s - 7) s)) (omega (arith, length-take (length s - 7) s))

few-behind : (s : Bytes) → length s ≤ 10 → if_few (drop (length s - 7 + 1) s) (number_of (drop (length s - 7 + 1) s)) ≡ number_of (drop (length s - 7 + 1) s)
few-behind s h = few (drop (length s - 7 + 1) s) (number_of (drop (length s - 7 + 1) s)) (omega (arith, length-drop (length s - 7 + 1) s))

-- what the bytes behind the point are read as
behind : (s : Bytes) (n : Option ℕ) → length s ≤ 10 → n ≡ if_few (take (length s - (length s - 7 + 1)) (drop (length s - 7 + 1) s)) (number_of (take (length s - (length s - 7 + 1)) (drop (length s - 7 + 1) s))) → number_of (drop (length s - 7 + 1) s) ≡ n
behind s n h e =
    sym (e ∙ ap (λ (l : Bytes). if_few l (number_of l)) (take_all (length s - (length s - 7 + 1)) (drop (length s - 7 + 1) s) (omega (arith, length-drop (length s - 7 + 1) s))) ∙ few-behind s h)

pub returns-then-s-point-ne46 : goal.returns-then-s-point-ne46
unfolding the_millionths_of
returns-then-s-point-ne46 c =
    let s = c.args.s.now in
    rw (le-leb (length s) 10 (omega arith), le-leb 8 (length s) (omega arith), ne_eqb (get_or s (length s - 7) 0) 46 c.if-s-point-ne46.true)

pub returns-in_err-whole : goal.returns-in_err-whole
unfolding the_millionths_of
returns-in_err-whole c =
    let s = c.args.s.now in
    let e : plain_of (take (length s - 7) s) ≡ None = sym (few-in-front s (omega arith)) ∙ sym c.plain_of.ensures ∙ c.in_err-whole.was in
    rw (c.from_residual.ensures, le-leb (length s) 10 (omega arith), le-leb 8 (length s) (omega arith), eq-eqb (get_or s (length s - 7) 0) 46 c.if-s-point-ne46.false, e)

pub returns-in_err-part : goal.returns-in_err-part
unfolding the_millionths_of
returns-in_err-part c =
    let s = c.args.s.now in
    let w : plain_of (take (length s - 7) s) ≡ Some c.in_ok-whole.whole = sym (few-in-front s (omega arith)) ∙ sym c.plain_of.ensures ∙ c.in_ok-whole.was in
    let e : number_of (drop (length s - 7 + 1) s) ≡ None = behind s _ (omega arith) c.number_of.ensures ∙ c.in_err-part.was in
    rw (c.from_residual-in_err-part.ensures, le-leb (length s) 10 (omega arith), le-leb 8 (length s) (omega arith), eq-eqb (get_or s (length s - 7) 0) 46 c.if-s-point-ne46.false, w, e)

pub overflow_mul-result : goal.overflow_mul-result
overflow_mul-result c =
    let s = c.args.s.now in
    let w : plain_of (take (length s - 7) s) ≡ Some c.in_ok-whole.whole = sym (few-in-front s (omega arith)) ∙ sym c.plain_of.ensures ∙ c.in_ok-whole.was in
    omega (arith, plain-small 3 (take (length s - 7) s) c.in_ok-whole.whole (omega (arith, length-take-le (length s - 7) s (omega arith))) w)

pub overflow_add-result : goal.overflow_add-result
overflow_add-result c =
    let s = c.args.s.now in
    let w : plain_of (take (length s - 7) s) ≡ Some c.in_ok-whole.whole = sym (few-in-front s (omega arith)) ∙ sym c.plain_of.ensures ∙ c.in_ok-whole.was in
    let e : number_of (drop (length s - 7 + 1) s) ≡ Some c.in_ok-part.part = behind s _ (omega arith) c.number_of.ensures ∙ c.in_ok-part.was in
    omega (
      arith,
      plain-small 3 (take (length s - 7) s) c.in_ok-whole.whole (omega (arith, length-take-le (length s - 7) s (omega arith))) w,
      number_small 6 (drop (length s - 7 + 1) s) c.in_ok-part.part (omega (arith, length-drop (length s - 7 + 1) s)) e,
    )

pub returns : goal.returns
unfolding the_millionths_of
returns c =
    let s = c.args.s.now in
    let w : plain_of (take (length s - 7) s) ≡ Some c.in_ok-whole.whole = sym (few-in-front s (omega arith)) ∙ sym c.plain_of.ensures ∙ c.in_ok-whole.was in
    let e : number_of (drop (length s - 7 + 1) s) ≡ Some c.in_ok-part.part = behind s _ (omega arith) c.number_of.ensures ∙ c.in_ok-part.was in
    rw (le-leb (length s) 10 (omega arith), le-leb 8 (length s) (omega arith), eq-eqb (get_or s (length s - 7) 0) 46 c.if-s-point-ne46.false, w, e)
