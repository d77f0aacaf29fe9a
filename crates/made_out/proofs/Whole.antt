-- The program's answers are those of `made_of` and `order_made_of` wherever a reader asks: of a known kind, on a line whose end fits into 32 bits.
-- And what the line has of a stretch is the stretch, cut at the line's end. Assumes nothing.
use mathlib.Core.Path.{◌≡◌, refl, sym, ◌∙◌}
use mathlib.Core.List.{[]}
use Prim.Native.Nat.{ℕ, ◌+◌, ◌-◌, ◌≤◌, ◌<◌}
use native.Mathlib.Omega.{arith}
use lib.ListN.{length, take, drop, get_or, length-take, length-drop, drop_of_length-le}
use lib.Seq.{take_all, take-nil}
use mathlib.Core.Bool.{Bool, true, false}
use lib.Dec.{ltb}
use borrow.Author.Tests.{ltb-true, ltb-false, lt-ltb, le-ltb}
use Rattle.terms.specs.Ascii.{Bytes}
use Rattle.line.specs.Forms.{part}
use Rattle.line.specs.declared.Span.{Span}
use Rattle.line.specs.declared.Fields.{Fields}
use Rattle.made_out.specs.Made.{shapes, needs_of, fields_needed_of, made_of, made_within}
use Rattle.made_out.specs.MadeOrders.{order_shapes, order_needs, order_fields_needed_of, order_made_of, order_made_within}

-- ## Of a known kind
pub needed : (k : ℕ) → k < 30 → fields_needed_of k ≡ needs_of (get_or shapes k 0)
needed k h = rw (lt-ltb k 30 h)

pub made : (s : Bytes) (base : ℕ) (f : Fields) (k : ℕ) → k < 30 → base + length s < 4294967296 → made_within s base f k ≡ made_of s base f k
unfolding made_within
made s base f k h e = rw (lt-ltb k 30 h, lt-ltb (base + length s) 4294967296 e)

pub order-needed : (k : ℕ) → k < 13 → order_fields_needed_of k ≡ order_needs (get_or order_shapes k 0)
order-needed k h = rw (lt-ltb k 13 h)

pub order-made : (s : Bytes) (base : ℕ) (f : Fields) (k : ℕ) → k < 13 → base + length s < 4294967296 → order_made_within s base f k ≡ order_made_of s base f k
unfolding order_made_within
order-made s base f k h e = rw (lt-ltb k 13 h, lt-ltb (base + length s) 4294967296 e)

-- ## What a line has of a stretch
pub to_end : (s : Bytes) (f : Span) → length s ≤ f.stop → take (length s - f.start) (drop f.start s) ≡ part s f
to_end s f h =
    let rest = drop f.start s in
    take_all (length s - f.start) rest (omega (arith, length-drop f.start s)) ∙ sym (take_all (f.stop - f.start) rest (omega (arith, length-drop f.start s)))

pub behind-end : (s : Bytes) (f : Span) → length s ≤ f.start → part s f ≡ []
behind-end s f h = rw (drop_of_length-le s h) (take-nil (f.stop - f.start))

pub empty-stretch : (s : Bytes) (f : Span) → f.stop ≤ f.start → part s f ≡ []
empty-stretch s f h = let z : f.stop - f.start ≡ 0 = omega arith in rw z refl

-- a stretch of which the line has something begins in it
pub begins_in : (s : Bytes) (f : Span) → 1 ≤ length (part s f) → f.start < length s
begins_in s f h = omega (arith, length-take (f.stop - f.start) (drop f.start s), length-drop f.start s)

-- that a sum fits, asked without making the sum
pub fits-same : (b n : ℕ) → n < 4294967296 → ltb b (4294967296 - n) ≡ ltb (b + n) 4294967296
fits-same b n h = go (ltb b (4294967296 - n)) refl
  where
    go : (x : Bool) → ltb b (4294967296 - n) ≡ x → x ≡ ltb (b + n) 4294967296
    go true e = sym (lt-ltb (b + n) 4294967296 (omega (arith, ltb-true b (4294967296 - n) e)))
    go false e = sym (le-ltb (b + n) 4294967296 (omega (arith, ltb-false b (4294967296 - n) e)))
