-- 27 and 28, as code tests them: the version byte, the first length, and the walk over records. Assumes nothing.
use mathlib.Core.Path.{◌≡◌, refl, sym, ap, ap₂, subst, ◌∙◌}
use mathlib.Core.List.{[], ◌∷◌, ◌++◌, head-eq_of_cons-eq, nil≢cons}
use mathlib.Core.Bool.{Bool, true, false}
use Prim.Native.Nat.{◌-◌, ◌≤◌, ◌<◌}
use native.Mathlib.Omega.{arith}
use lib.Dec.{leb, eqb}
use lib.ListN.{length, take, drop, take-append-drop, length-append, length-drop}
use lib.Seq.{take_at, drop_at, length-take-le}
use borrow.Author.Tests.{leb-true, le-leb, eqb-true, eqb-false, eq-eqb}
use Rattle.terms.specs.Ascii.{Bytes}
use Rattle.terms.specs.Words.{pick}
use Rattle.terms.proofs.Tests.{clash}
use Rattle.grammar.proofs.Rows.{each-front, each-behind}
use Rattle.output.specs.Packed.{big_endian}
use Rattle.output.proofs.Packed.{packed-long}
use Rattle.replies.specs.Replies.{longest}
use Rattle.packed_law.specs.Packed.{OfThisVersion, LengthsRight}
use Rattle.packed_rows.specs.Walk.{walked}
use Rattle.packed_rows.specs.Points.{four_at_of}
use Rattle.packed_rows.proofs.Walked.{walk-right, walk-all}
use Rattle.packed_tables.proofs.Numbers.{value, value_there, value-back}
use Rattle.packed_tables.proofs.Records.{Small}
use Rattle.packed_tables.proofs.Points.{four-value}
use Rattle.unpacked_rows.specs.Front.{version_here, framed_here}

-- ## The version
pub version-so : (b : Bytes) → version_here b ≡ true → OfThisVersion b
unfolding version_here
version-so [] e = clash (sym e)
version-so (a ∷ l) e = let q = eqb-true a 2 e in record { behind = l; is = λ i. q i ∷ l }

pub no-version : (b : Bytes) → version_here b ≡ false → OfThisVersion b → ⊥
unfolding version_here
no-version [] e x = nil≢cons x.is
no-version (a ∷ l) e x = eqb-false a 2 e (head-eq_of_cons-eq x.is)

-- ## The first length and the records
record Tested (b : Bytes) : Type 0 where
  long : 5 ≤ length b
  counted : four_at_of b 1 ≡ length b - 5
  each : walked (drop 5 b) ≡ true

tested : (b : Bytes) → framed_here b ≡ true → Tested b
unfolding framed_here
tested b e = go (leb 5 (length b)) refl (eqb (four_at_of b 1) (length b - 5)) refl e
  where
    go : (x : Bool) → leb 5 (length b) ≡ x → (y : Bool) → eqb (four_at_of b 1) (length b - 5) ≡ y → pick x (pick y (walked (drop 5 b)) false) false ≡ true → Tested b
    go true p true q h = record { long = leb-true 5 (length b) p; counted = eqb-true (four_at_of b 1) (length b - 5) q; each = h }
    go true p false q h = clash (sym h)
    go false p y q h = clash (sym h)

pub framed-so : (b : Bytes) → Small b → framed_here b ≡ true → LengthsRight b
framed-so b s e = made b s (tested b e)
  where
    made : (b : Bytes) → Small b → Tested b → LengthsRight b
    made [] s t = absurd (let h = t.long in omega arith)
    made (v ∷ r) s t =
        let h = t.long in
        let d = length-drop 4 r in
        let c : value (take 4 r) ≡ length (drop 4 r) = sym (four-value (v ∷ r) 1 (omega arith)) ∙ t.counted ∙ (let q : length (v ∷ r) - 5 ≡ length (drop 4 r) = omega arith in q) in
        let whole = subst Small (sym (take-append-drop 4 r)) s.1 in
        let head : big_endian 4 (length (drop 4 r)) ≡ take 4 r = ap (big_endian 4) (sym c) ∙ value-back 4 (take 4 r) (length-take-le 4 r (omega arith)) (each-front (λ b. b < 256) (take 4 r) (drop 4 r) whole) in
        record {
          version = v;
          behind = drop 4 r;
          is = ap (λ (x : Bytes). v ∷ x) (sym (ap (λ (x : Bytes). x ++ drop 4 r) head ∙ take-append-drop 4 r));
          each = walk-right (length (drop 4 r)) (drop 4 r) (each-behind (λ b. b < 256) (take 4 r) (drop 4 r) whole) t.each;
        }

pub framed-all : (b : Bytes) → length b ≤ longest → LengthsRight b → framed_here b ≡ true
unfolding framed_here
framed-all b few f =
    let x = f.behind in
    let c = f.version ∷ big_endian 4 (length x) ++ x in
    let a = length-append (big_endian 4 (length x)) x in
    let p = packed-long 4 (length x) in
    let l : length b ≡ length c = ap (λ (y : Bytes). length y) f.is in
    let left : drop 5 c ≡ x = drop_at (big_endian 4 (length x)) x 4 p in
    let four : four_at_of c 1 ≡ length x = four-value c 1 (omega arith) ∙ ap value (take_at (big_endian 4 (length x)) x 4 p) ∙ value_there 4 (length x) (omega arith) in
    let rest : length c - 5 ≡ length x = omega arith in
    ap (λ (y : Bytes). pick (leb 5 (length y)) (pick (eqb (four_at_of y 1) (length y - 5)) (walked (drop 5 y)) false) false) f.is
    ∙ ap₂ (λ (t u : Bool). pick t (pick u (walked (drop 5 c)) false) false) (le-leb 5 (length c) (omega arith)) (eq-eqb (four_at_of c 1) (length c - 5) (four ∙ sym rest))
    ∙ ap walked left ∙ walk-all f.each (length x) (omega arith)

-- ## Both: the whole, from its records
pub whole_is : (b : Bytes) → OfThisVersion b → LengthsRight b → b ≡ 2 ∷ big_endian 4 (length (drop 5 b)) ++ drop 5 b
whole_is b v f =
    let x = f.behind in
    let one : f.version ≡ 2 = head-eq_of_cons-eq (sym f.is ∙ v.is) in
    let left : drop 5 b ≡ x = ap (drop 5) f.is ∙ drop_at (big_endian 4 (length x)) x 4 (packed-long 4 (length x)) in
    f.is ∙ (λ i. one i ∷ big_endian 4 (length (sym left i)) ++ sym left i)
