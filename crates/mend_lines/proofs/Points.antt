-- A line that begins with a digit has the kind of a point, whatever stands behind: its fields begin with that byte, and so does its first field. Assumes nothing.
use mathlib.Core.Path.{◌≡◌, sym, ap, ◌∙◌}
use mathlib.Core.List.{[], ◌∷◌}
use mathlib.Core.Bool.{Bool, true, false, not, ◌&&◌, ◌||◌}
use Prim.Native.Nat.{ℕ, suc, ◌-◌, ◌≤◌}
use native.Mathlib.Omega.{arith}
use lib.ListN.{take, drop}
use lib.Dec.{eqb, leb}
use borrow.Author.Tests.{eqb-true, ne_eqb, leb-true}
use Rattle.terms.specs.Words.{Bytes, pick}
use Rattle.terms.proofs.Tests.{clash, both}
use Rattle.scan.specs.Allowed.{digit, separates}
use Rattle.scan.specs.Reach.{begins, fails, first, two, up_to, reach, stops_by}
use Rattle.scan.specs.declared.Until.TheVariants.{Separator, NotSeparator}
use Rattle.scan.proofs.Reach.{up_to_go, reach-stop, from_start}
use Rattle.line.specs.Text.{cr}
use Rattle.line.specs.Lines.{drop_cr, trim_of}
use Rattle.line.specs.Forms.{opens, span_at_of}
use Rattle.line.proofs.Ends.{trim-take}
use Rattle.judge.specs.RndfLine.{rndf_kind}
use Rattle.find_line.specs.FoundLines.{fields_end_of, first_of, rndf_line_kind_of}
use Rattle.mend_lines.proofs.WordKinds.{point-is}

module _ (b : ℕ) (h : digit b ≡ true) where
  no_less : 48 ≤ b
  no_less = leb-true 48 b (both (leb 48 b) (leb b 57) h).0

  -- it is no other byte that a reader looks for
  no-cr : eqb b cr ≡ false
  no-cr = ne_eqb b 13 (λ (e : b ≡ 13). omega (arith, no_less))

  no_slash : eqb b 47 ≡ false
  no_slash = ne_eqb b 47 (λ (e : b ≡ 47). omega (arith, no_less))

  no-separator : separates b ≡ false
  unfolding separates
  no-separator =
      let t = ne_eqb b 9 (λ (e : b ≡ 9). omega (arith, no_less)) in
      let s = ne_eqb b 32 (λ (e : b ≡ 32). omega (arith, no_less)) in
      λ i. t i || s i

  -- what stands before the CR begins with it
  content-begins : (t : Bytes) → (c : Bytes) × (take (trim_of (b ∷ t)) (b ∷ t) ≡ b ∷ c)
  unfolding drop_cr
  content-begins [] = ([], trim-take (b ∷ []) ∙ ap (λ (x : Bool). pick x [] (b ∷ [])) no-cr)
  content-begins (d ∷ t) = (drop_cr (d ∷ t), trim-take (b ∷ d ∷ t))

  -- what stands before a comment too
  body-begins : (t : Bytes) → (k : ℕ) × (fields_end_of (b ∷ t) ≡ suc k)
  unfolding fields_end_of stops_by two
  body-begins t =
      let c = content-begins t in
      (up_to opens c.0, ap (up_to opens) c.1 ∙ up_to_go opens b c.0 (ap (λ (x : Bool). x && first 42 c.0) no_slash))

  -- and the first field
  field-begins : (t : Bytes) (start stop k : ℕ) → start ≡ 0 → stop ≡ suc k → begins digit (take (stop - start) (drop start (b ∷ t))) ≡ true
  unfolding begins
  field-begins t start stop k p q = let e : suc k - 0 ≡ suc k = omega arith in rw (p, q, e) h

  first-begins : (t : Bytes) → begins digit (first_of (b ∷ t)) ≡ true
  unfolding first_of span_at_of stops_by fails begins
  first-begins t =
      let start = reach-stop (stops_by NotSeparator) (b ∷ t) 0 (ap not no-separator) in
      let stop = ap (reach (stops_by Separator) (b ∷ t)) start ∙ from_start (stops_by Separator) (b ∷ t) ∙ up_to_go (stops_by Separator) b t no-separator in
      field-begins t (reach (stops_by NotSeparator) (b ∷ t) 0) (reach (stops_by Separator) (b ∷ t) (reach (stops_by NotSeparator) (b ∷ t) 0)) (up_to (stops_by Separator) t) start stop

-- so says the kind
pub point_line_of : (l : Bytes) → begins digit l ≡ true → rndf_line_kind_of l ≡ 29
unfolding rndf_line_kind_of begins
point_line_of [] h = clash (sym h)
point_line_of (b ∷ t) h =
    let k = body-begins b h t in
    eqb-true (rndf_kind (first_of (take (fields_end_of (b ∷ t)) (b ∷ t)))) 29 (sym (point-is (first_of (take (fields_end_of (b ∷ t)) (b ∷ t)))) ∙ ap (λ (n : ℕ). begins digit (first_of (take n (b ∷ t)))) k.1 ∙ first-begins b h (take k.0 t))
