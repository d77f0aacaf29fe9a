-- What is known of a line is what its fields are. Assumes nothing.
use mathlib.Core.Path.{◌≡◌, refl, sym, ap, ◌∙◌}
use mathlib.Core.List.{List, [], ◌++◌, map}
use Prim.Native.Nat.{ℕ, zero, suc, ◌-◌, ◌≤◌, ◌<◌}
use native.Mathlib.Omega.{arith}
use mathlib.Core.Logic.{◌⊎◌, inl, inr}
use borrow.Author.Tests.{lt-ltb, eq-eqb, ne_eqb}
use lib.ListN.{length, take, drop, length-take, length-drop, take-append-drop}
use lib.Seq.{length-take-le, take-append-le, drop-append-le}
use Rattle.house_lines.proofs.Ranks.{rank-low}
use Rattle.terms.specs.Ascii.{Bytes}
use Rattle.scan.specs.Reach.{up_to}
use Rattle.scan.proofs.Reach.{up_to_le}
use Rattle.line.specs.Content.{Field}
use Rattle.line.specs.Lines.{drop_cr, trim_of}
use Rattle.line.specs.Forms.{opens, outer_of, fields_at, fields_in_of, part, listed, SpanWithin, FieldsWithin}
use Rattle.line.specs.declared.Span.{Span}
use Rattle.line.specs.declared.Fields.{Fields}
use Rattle.line.proofs.Ends.{trim_le, trim-take}
use Rattle.line.proofs.Comments.{outer-at}
use Rattle.line.proofs.Spans.{fields_within, fields-listed}
use Rattle.house_lines.specs.Arranged.{fields_on_of, rank_of}
use Rattle.house_lines.specs.Said.{rank_word, body_end_of, said_in_of, said_on_of, parts_of}

pub body_le : (l : Bytes) → body_end_of l ≤ length l
unfolding body_end_of
body_le l =
    let h = trim_le l in
    omega (arith, up_to_le opens (take (trim_of l) l), length-take-le (trim_of l) l h)

-- ## The body of a line
-- what stands before its comment, without its CR
pub body_is : (l : Bytes) → outer_of (drop_cr l) ≡ take (body_end_of l) l
unfolding body_end_of
body_is l =
    let t = take (trim_of l) l in
    let k = up_to opens t in
    let h : k ≤ trim_of l = omega (arith, up_to_le opens t, length-take-le (trim_of l) l (trim_le l)) in
    let f : t ++ drop (trim_of l) l ≡ l = take-append-drop (trim_of l) l in
    ap outer_of (sym (trim-take l)) ∙ outer-at t ∙ sym (take-append-le k t (drop (trim_of l) l) (up_to_le opens t)) ∙ ap (take k) f

-- ## A stretch of it
part-front : (xs ys : Bytes) (f : Span) → SpanWithin xs f → part (xs ++ ys) f ≡ part xs f
part-front xs ys f h =
    let k = f.stop - f.start in
    let q : f.start ≤ length xs = omega (arith, h.order, h.inside) in
    ap (take k) (drop-append-le f.start xs ys q) ∙ take-append-le k (drop f.start xs) ys (omega (arith, h.inside, length-drop f.start xs))

module _ (n : ℕ) (l : Bytes) where
  part_of : (f : Span) → SpanWithin (take n l) f → part (take n l) f ≡ part l f
  part_of f h = sym (part-front (take n l) (drop n l) f h) ∙ ap (λ (s : Bytes). part s f) (take-append-drop n l)

  longer : length (take n l) ≤ length l
  longer = omega (arith, length-take n l)

  span_of : (f : Span) → SpanWithin (take n l) f → SpanWithin l f
  span_of f h = record { order = h.order; inside = omega (arith, h.inside, longer) }

  fields-of : (f : Fields) → FieldsWithin (take n l) f → FieldsWithin l f
  fields-of f h = record { first = span_of f.a h.first; second = span_of f.b h.second; third = span_of f.c h.third }

  the_parts_of : (f : Fields) → FieldsWithin (take n l) f → parts_of (take n l) f ≡ parts_of l f
  unfolding parts_of
  the_parts_of f h = rw (part_of f.a h.first, part_of f.b h.second, part_of f.c h.third)

-- the stretches of what is known of a line lie within it
pub said-within : (l : Bytes) → FieldsWithin l (said_on_of l).fields
unfolding said_on_of said_in_of
said-within l = fields-of (body_end_of l) l (fields_in_of (take (body_end_of l) l)) (fields_within (take (body_end_of l) l))

-- ## Its fields
abbrev three : List Field → List Bytes
three fs = take 3 (map (λ (f : Field). f.bytes) fs)

none-or-parts : (s : Bytes) (f : Fields) (k : ℕ) → f.count ≡ k → ((three (listed 0 s f k) ≡ []) × (k ≡ 0)) ⊎ ((three (listed 0 s f k) ≡ parts_of s f) × (0 < k))
unfolding parts_of
none-or-parts s f zero e = inl (refl, refl)
none-or-parts s f (suc zero) e = inr (rw e refl, omega arith)
none-or-parts s f (suc (suc zero)) e = inr (rw e refl, omega arith)
none-or-parts s f (suc (suc (suc zero))) e = inr (rw e refl, omega arith)
none-or-parts s f (suc (suc (suc (suc k)))) e = inr (rw (e, lt-ltb 1 (suc (suc (suc (suc k)))) (omega arith), lt-ltb 2 (suc (suc (suc (suc k)))) (omega arith)) refl, omega arith)

rank-parts : (s : Bytes) (f : Fields) → rank_word (part s f.a) ≡ rank_of (parts_of s f)
unfolding rank_word rank_of parts_of
rank-parts s f = refl

-- THE LAW of what is known of a line: it is blank, or these are its fields and this is its rank
abbrev pub Blank : Bytes → Type 0
Blank l = (fields_on_of l ≡ []) × ((said_on_of l).rank ≡ 8)

abbrev pub Spoken : Bytes → Type 0
Spoken l = (fields_on_of l ≡ parts_of l (said_on_of l).fields) × ((said_on_of l).rank ≡ rank_of (parts_of l (said_on_of l).fields)) × ((said_on_of l).rank ≤ 7)

pub heard : (l : Bytes) → Blank l ⊎ Spoken l
unfolding fields_on_of said_on_of said_in_of
heard l = go (none-or-parts s f f.count refl)
  where
    s : Bytes
    s = take (body_end_of l) l

    f : Fields
    f = fields_in_of s

    all : fields_on_of l ≡ three (listed 0 s f f.count)
    all = ap (λ (s : Bytes). three (fields_at 0 s)) (body_is l) ∙ ap three (fields-listed 0 s)

    go : ((three (listed 0 s f f.count) ≡ []) × (f.count ≡ 0)) ⊎ ((three (listed 0 s f f.count) ≡ parts_of s f) × (0 < f.count)) → Blank l ⊎ Spoken l
    go (inl x) = inl (all ∙ x.0, rw (eq-eqb f.count 0 x.1) refl)
    go (inr x) =
        let n : f.count ≡ 0 → ⊥ = λ e. omega arith in
        let p : parts_of s f ≡ parts_of l f = the_parts_of (body_end_of l) l f (fields_within s) in
        inr (all ∙ x.0 ∙ p, rw (ne_eqb f.count 0 n) (rank-parts s f ∙ ap rank_of p), rw (ne_eqb f.count 0 n) (rank-low (part s f.a)))
