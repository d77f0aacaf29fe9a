-- A line whose number is replaced is a count line, also then: its first field stays. So it is no exit. Assumes nothing.
use mathlib.Core.Path.{◌≡◌, refl, sym, ap, ◌∙◌}
use mathlib.Core.List.{List, [], ◌∷◌, ◌++◌, nil≢cons, tail-eq_of_cons-eq}
use mathlib.Core.Bool.{Bool, true, false, ◌&&◌}
use Prim.Native.Nat.{ℕ, suc, ◌+◌, ◌-◌, ◌≤◌, ◌<◌}
use native.Mathlib.Omega.{arith}
use lib.ListN.{length, take, drop, length-append, length-drop, take-append-drop}
use lib.Seq.{length-take-le, take-append-le, drop-append-le, take-take}
use lib.Dec.{eqb}
use borrow.Author.Tests.{ne_eqb, ltb-true}
use Rattle.terms.specs.Words.{Bytes, pick}
use Rattle.terms.proofs.Tests.{clash}
use Rattle.scan.specs.Allowed.{digit}
use Rattle.scan.specs.Reach.{up_to, reach, begins, fails, first, two, stops_by}
use Rattle.scan.specs.declared.Until.TheVariants.{Separator, NotSeparator}
use Rattle.scan.proofs.Reach.{reach-hit, begins-some}
use Rattle.line.specs.Lines.{drop_cr}
use Rattle.line.specs.Forms.{outer_of, span_at_of, filled, count_of, fields_in_of, part}
use Rattle.line.specs.declared.Span.{Span}
use Rattle.line.proofs.Spans.{fields_within}
use Rattle.number.specs.House.{house_integer}
use Rattle.number.proofs.Digits.{digit-range}
use Rattle.number.proofs.House.{house-integer-first}
use Rattle.room.specs.Room.{fitted}
use Rattle.judge.specs.RndfLine.{rndf_kind}
use Rattle.find_line.specs.FoundLines.{fields_end_of, first_of, rndf_line_kind_of}
use Rattle.find_line.proofs.FirstFields.{fields-end_le}
use Rattle.mend_law.proofs.Ties.{outer-take}
use Rattle.mend_lines.specs.declared.Before.{Before}
use Rattle.mend_lines.specs.declared.Becomes.TheVariants.{Recount}
use Rattle.mend_lines.specs.Forward.{counted_of, change_of}
use Rattle.mend_pieces.specs.Pieces.{piece_of}
use Rattle.mend_told.proofs.Bounds.{body_of, recount-counts}

-- ## Bytes that begin alike: p, and then u or v
-- a scan that stops in p, by a test of the next byte, stops there in both
module _ (test : Bytes → Bool) (next-only : (b : ℕ) (x y : Bytes) → test (b ∷ x) ≡ test (b ∷ y)) (u v : Bytes) where
  up_to_alike : (p : Bytes) → up_to test (p ++ u) < length p → up_to test (p ++ v) ≡ up_to test (p ++ u)
  unfolding up_to
  up_to_alike [] h = absurd (omega arith)
  up_to_alike (b ∷ p) h = ap (λ (x : Bool). pick x 0 (suc (up_to test (p ++ v)))) (next-only b (p ++ v) (p ++ u)) ∙ go (test (b ∷ (p ++ u))) h (up_to_alike p)
    where
      go : (x : Bool) → pick x 0 (suc (up_to test (p ++ u))) < suc (length p) → (up_to test (p ++ u) < length p → up_to test (p ++ v) ≡ up_to test (p ++ u)) → pick x 0 (suc (up_to test (p ++ v))) ≡ pick x 0 (suc (up_to test (p ++ u)))
      go true h later = refl
      go false h later = ap suc (later (omega arith))

  reach-alike : (p : Bytes) (from : ℕ) → from ≤ length p → reach test (p ++ u) from < length p → reach test (p ++ v) from ≡ reach test (p ++ u) from
  reach-alike p from l h =
      let a = ap (up_to test) (drop-append-le from p u l) in
      let b = ap (up_to test) (drop-append-le from p v l) in
      let k : up_to test (drop from p ++ u) < length (drop from p) = omega (arith, length-drop from p) in
      ap (◌+◌ from) (b ∙ up_to_alike (drop from p) k ∙ sym a)

abbrev skips : Bytes → Bool
skips = stops_by NotSeparator

abbrev parts : Bytes → Bool
parts = stops_by Separator

skips-next : (b : ℕ) (x y : Bytes) → skips (b ∷ x) ≡ skips (b ∷ y)
unfolding stops_by fails
skips-next b x y = refl

parts_next : (b : ℕ) (x y : Bytes) → parts (b ∷ x) ≡ parts (b ∷ y)
unfolding stops_by begins
parts_next b x y = refl

part-alike : (p u : Bytes) (f : Span) → f.start ≤ f.stop → f.stop ≤ length p → part (p ++ u) f ≡ part p f
part-alike p u f h l = rw (drop-append-le f.start p u (omega arith)) (take-append-le (f.stop - f.start) (drop f.start p) u (omega (arith, length-drop f.start p)))

-- so the first field is the same, if it stops in p
module _ (p u v : Bytes) (h : (span_at_of (p ++ u) 0).stop < length p) where
  span-alike : span_at_of (p ++ v) 0 ≡ span_at_of (p ++ u) 0
  unfolding span_at_of
  span-alike =
      let a = reach skips (p ++ u) 0 in
      let s : reach skips (p ++ v) 0 ≡ a = reach-alike skips skips-next u v p 0 (omega arith) (omega arith) in
      let e : reach parts (p ++ v) (reach skips (p ++ v) 0) ≡ reach parts (p ++ u) a = ap (reach parts (p ++ v)) s ∙ reach-alike parts parts_next u v p a (omega arith) h in
      λ j. record { start = s j; stop = e j }

  order : (span_at_of (p ++ u) 0).start ≤ (span_at_of (p ++ u) 0).stop
  unfolding span_at_of
  order = omega arith

  first_alike : first_of (p ++ v) ≡ first_of (p ++ u)
  unfolding first_of
  first_alike =
      let f = span_at_of (p ++ u) 0 in
      ap (part (p ++ v)) span-alike ∙ part-alike p v f order (omega arith) ∙ sym (part-alike p u f order (omega arith))

-- ## The second of two fields stands behind the first
skips-some : (s : Bytes) → parts s ≡ true → 0 < up_to skips s
unfolding up_to stops_by fails begins
skips-some [] e = clash (sym e)
skips-some (b ∷ s) e = rw e (omega arith)

module _ (s : Bytes) (count : (fields_in_of s).count ≡ 2) where
  second-filled : (fields_in_of s).b.start < (fields_in_of s).b.stop
  unfolding fields_in_of count_of
  second-filled = go (filled (span_at_of s 0)) (filled b) (filled c) (filled (span_at_of s c.stop)) refl count
    where
      b : Span
      b = span_at_of s (span_at_of s 0).stop

      c : Span
      c = span_at_of s b.stop

      go : (x y z w : Bool) → filled b ≡ y → ◌≡◌ {A = ℕ} (pick x (pick y (pick z (pick w 4 3) 2) 1) 0) 2 → b.start < b.stop
      go x true z w q e = ltb-true b.start b.stop q
      go true false z w q e = absurd (omega arith)
      go false false z w q e = absurd (omega arith)

  second-behind : (span_at_of s 0).stop < (fields_in_of s).b.start
  unfolding fields_in_of span_at_of
  second-behind =
      let a = reach skips s 0 in
      let w = fields_within s in
      let f = second-filled in
      let h = reach-hit parts s a (omega (arith, w.first.order, w.first.inside)) (omega (arith, w.second.inside)) in
      omega (arith, skips-some (drop (reach parts s a) s) h)

-- ## What stands before a line's CR and its comment
dropped-behind : (p t : Bytes) → 0 < length t → drop_cr (p ++ t) ≡ p ++ drop_cr t
unfolding drop_cr
dropped-behind [] t h = refl
dropped-behind (b ∷ []) [] h = absurd (omega arith)
dropped-behind (b ∷ []) (c ∷ t) h = refl
dropped-behind (b ∷ d ∷ p) t h = ap (◌∷◌ b) (dropped-behind (d ∷ p) t h)

first-dropped : (x : ℕ) (s : Bytes) → first x s ≡ false → first x (drop_cr s) ≡ false
unfolding drop_cr first
first-dropped x [] h = refl
first-dropped x (b ∷ []) h = go (eqb b 13)
  where
    go : (y : Bool) → first x (pick y [] (b ∷ [])) ≡ false
    go true = refl
    go false = h
first-dropped x (b ∷ d ∷ s) h = h

-- no comment opens in p, nor at its end with what does not begin with `*`
opens-later : (b : ℕ) (p x y : Bytes) → first 42 y ≡ false → two 47 42 (b ∷ (p ++ x)) ≡ false → two 47 42 (b ∷ (p ++ y)) ≡ false
unfolding two first
opens-later b [] x y n h = rw n (off (eqb b 47))
  where
    off : (z : Bool) → (z && false) ≡ false
    off true = refl
    off false = refl
opens-later b (c ∷ p) x y n h = h

outer-alike : (p x y u : Bytes) → first 42 y ≡ false → outer_of (p ++ x) ≡ p ++ u → outer_of (p ++ y) ≡ p ++ outer_of y
unfolding outer_of
outer-alike [] x y u n e = refl
outer-alike (b ∷ p) x y u n e = go (two 47 42 (b ∷ (p ++ x))) refl e (outer-alike p x y u n)
  where
    go : (z : Bool) → two 47 42 (b ∷ (p ++ x)) ≡ z → pick z [] (b ∷ outer_of (p ++ x)) ≡ b ∷ (p ++ u) → (outer_of (p ++ x) ≡ p ++ u → outer_of (p ++ y) ≡ p ++ outer_of y) → outer_of (b ∷ (p ++ y)) ≡ b ∷ (p ++ outer_of y)
    go true q e later = absurd (nil≢cons e)
    go false q e later = rw (opens-later b p x y n q) (ap (◌∷◌ b) (later (tail-eq_of_cons-eq e)))

-- so what stands there begins with p also then
body_alike : (p t r u : Bytes) → 0 < length t → 0 < length r → first 42 r ≡ false → body_of (p ++ t) ≡ p ++ u → body_of (p ++ r) ≡ p ++ outer_of (drop_cr r)
body_alike p t r u some more n e =
    let old : outer_of (p ++ drop_cr t) ≡ p ++ u = ap outer_of (sym (dropped-behind p t some)) ∙ outer-take (p ++ t) ∙ e in
    sym (outer-take (p ++ r)) ∙ ap outer_of (dropped-behind p r more) ∙ outer-alike p (drop_cr t) (drop_cr r) u (first-dropped 42 r n) old

digit_first : (s r : Bytes) → begins digit s ≡ true → first 42 (s ++ r) ≡ false
unfolding begins first
digit_first [] r e = clash (sym e)
digit_first (b ∷ s) r e = let d = digit-range b e in ne_eqb b 42 (λ (q : b ≡ 42). omega arith)

-- ## The line
module _ (b : Before) (l : Bytes) (ls : List Bytes) (start stop n : ℕ) (e : change_of b l ls ≡ Recount start stop n) where
  pub kind-kept : rndf_line_kind_of (piece_of (Recount start stop n) l) ≡ rndf_line_kind_of l
  unfolding rndf_line_kind_of
  kind-kept =
      let second = (recount-counts start stop n b l ls e).second in
      let s = body_of l in
      let p = take start l in
      let t = drop start l in
      let u = drop start s in
      let r = house_integer (fitted n) ++ drop stop l in
      let w = (fields_within s).second in
      let long : length s ≡ fields_end_of l = length-take-le (fields_end_of l) l (fields-end_le l) in
      let most = fields-end_le l in
      let filled = second-filled s second.two in
      let start_in : start < fields_end_of l = omega (arith, second.starts, w.inside) in
      let p-long : length p ≡ start = length-take-le start l (omega arith) in
      let t_some : 0 < length t = omega (arith, length-drop start l) in
      let digit-there = house-integer-first (fitted n) in
      let r_some : 0 < length r = rw (length-append (house_integer (fitted n)) (drop stop l)) (omega (arith, begins-some digit (house_integer (fitted n)) digit-there)) in
      let body : s ≡ p ++ u = sym (take-append-drop start s) ∙ ap (λ (x : Bytes). x ++ u) (take-take start (fields_end_of l) l (omega arith)) in
      let old : body_of (p ++ t) ≡ p ++ u = ap body_of (take-append-drop start l) ∙ body in
      let new = body_alike p t r u t_some r_some (digit_first (house_integer (fitted n)) (drop stop l) digit-there) old in
      let stops : (span_at_of (p ++ u) 0).stop < length p = omega (arith, ap (λ (x : Bytes). (span_at_of x 0).stop) body, second-behind s second.two, second.starts) in
      ap rndf_kind (ap first_of new ∙ first_alike p u (outer_of (drop_cr r)) stops ∙ ap first_of (sym body))

  pub no-exit : rndf_line_kind_of l ≡ 16 → ⊥
  unfolding counted_of
  no-exit k = (recount-counts start stop n b l ls e).counts (ap counted_of k)
