-- What holds of every row: its keyword's size, and that its letters are bytes. Assumes nothing.
use mathlib.Core.Path.{◌≡◌, refl, sym, ap, subst, ◌∙◌}
use mathlib.Core.List.{[]}
use mathlib.Core.Bool.{Bool, true, false, ◌&&◌}
use Prim.Native.Nat.{ℕ, ◌+◌, ◌-◌, ◌≤◌, ◌<◌}
use native.Mathlib.Omega.{arith}
use borrow.Author.Tests.{ltb-true, ltb-false, leb-true, lt-ltb, le-ltb, eqb-true}
use lib.Dec.{eqb, ltb, leb}
use lib.ListN.{length, get_or, take, drop, length-drop}
use lib.Seq.{drop-drop}
use Rattle.terms.specs.Ascii.{Bytes, ascii}
use Rattle.terms.specs.Words.{pick, Between}
use Rattle.terms.proofs.Tests.{both}
use Rattle.terms.proofs.Computed.{below}
use Rattle.scan.specs.Allowed.{all}
use Rattle.word.specs.Keywords.{rndf_keywords, boundary_words, boundary_of}
use Rattle.word.specs.Number.{index_of, boundary_number}
use Rattle.word.specs.Packed.{packed}
use Rattle.word.proofs.Keywords.{rndf-all}
use Rattle.word.proofs.Boundary.{boundary-all}
use Rattle.word.proofs.Packed.{Small, small_drop, small_all}
use Rattle.plain_word.specs.declared.Row.{Row}
use Rattle.plain_word.specs.Stands.{word_of, at_once, row_for, row_of, middle, KeywordAt, BoundaryAt, IsRow, MiddleStands, RowStands}
use Rattle.plain_word.proofs.Pieces.{short-word, long-word, longest-word}

pub word_size : (k : ℕ) → k < 33 → Between 4 20 (length (word_of k))
unfolding rndf_keywords boundary_of boundary_words ascii
word_size k h =
    let t = both (leb 4 (length (word_of k))) (leb (length (word_of k)) 20) (below (λ k. leb 4 (length (word_of k)) && leb (length (word_of k)) 20) 33 refl k h) in
    record { low = leb-true _ _ t.0; high = leb-true _ _ t.1 }

pub word_small : (k : ℕ) → k < 33 → Small (word_of k)
unfolding rndf_keywords boundary_of boundary_words ascii all
word_small k h = small_all (word_of k) (below (λ k. all (λ b. ltb b 256) (word_of k)) 33 refl k h)

-- only one is so long
pub word-middle : (k : ℕ) → k < 33 → 16 < length (word_of k) → packed (take 8 (drop 8 (word_of k))) ≡ middle
unfolding rndf_keywords boundary_of boundary_words ascii packed middle
word-middle k h l =
    let same : ℕ → Bool = λ k. eqb (packed (take 8 (drop 8 (word_of k)))) middle in
    eqb-true _ _ (ap (λ (x : Bool). pick x (same k) true) (sym (lt-ltb 16 (length (word_of k)) l)) ∙ below (λ k. pick (ltb 16 (length (word_of k))) (same k) true) 33 refl k h)

module _ {r : Row} (is : IsRow r) where
  pub row-size : length (word_of r.0) ≡ r.1
  unfolding row_of
  row-size = sym (ap (λ (x : Row). x.1) is.holds)

  pub row-between : Between 4 20 r.1
  row-between = rw (sym row-size) (word_size r.0 is.known)

-- ## The comparison
module _ (s : Bytes) (from : ℕ) (r : Row) (is : IsRow r) (room : from + r.1 ≤ length s) where
  abbrev w : Bytes
  w = word_of r.0

  abbrev t : Bytes
  t = drop from s

  as_row : (d : ℕ) → at_once w ≡ d → r ≡ row_for r.0 d w
  unfolding row_of
  as_row d e = is.holds ∙ ap (λ (d : ℕ). row_for r.0 d w) e

  enough : r.1 ≤ length t
  enough = omega (arith, length-drop from s)

  -- letters of the text that are the word's
  letters : (d i a : ℕ) → a ≡ packed (take d (drop (from + i) s)) → a ≡ packed (take d (drop i w)) → packed (take d (drop i t)) ≡ packed (take d (drop i w))
  letters d i a e f = ap (λ (l : Bytes). packed (take d l)) (drop-drop i from s) ∙ sym e ∙ f

  pub short_row : r.1 < 8 → (a z : ℕ) → a ≡ packed (take 4 (drop from s)) → z ≡ packed (take 4 (drop (from + (r.1 - 4)) s)) → RowStands s from r (eqb a r.2 && eqb z r.3)
  short_row h a z first last = go (eqb a r.2 && eqb z r.3) refl
    where
      go : (x : Bool) → (eqb a r.2 && eqb z r.3) ≡ x → RowStands s from r x
      go true e = λ p.
          let b = both (eqb a r.2) (eqb z r.3) e in
          let four = as_row 4 (ap (λ (x : Bool). pick x 4 8) (lt-ltb (length w) 8 (omega (arith, row-size is)))) in
          let size = row-between is in
          let end : z ≡ packed (take 4 (drop (r.1 - 4) w)) = eqb-true z r.3 b.1 ∙ ap (λ (x : Row). x.3) four ∙ ap (λ (n : ℕ). packed (take 4 (drop (n - 4) w))) (row-size is) in
          short-word t w r.1 (row-size is) enough (small_drop from s p) (word_small r.0 is.known) size.low (omega arith) (sym first ∙ eqb-true a r.2 b.0 ∙ ap (λ (x : Row). x.2) four) (letters 4 (r.1 - 4) z last end)
      go false e = tt

  -- with those between, where there are such
  long-letters : Small s → 8 ≤ r.1 → packed (take 8 t) ≡ packed (take 8 w) → packed (take 8 (drop (r.1 - 8) t)) ≡ packed (take 8 (drop (r.1 - 8) w)) → MiddleStands s from r.1 true → take r.1 t ≡ w
  long-letters p h first last between = go (ltb 16 r.1) refl
    where
      go : (x : Bool) → ltb 16 r.1 ≡ x → take r.1 t ≡ w
      go true e =
          let l = ltb-true 16 r.1 e in
          let most = (row-between is).high in
          let mid : packed (take 8 (drop 8 w)) ≡ middle = word-middle r.0 is.known (omega (arith, row-size is)) in
          longest-word t w r.1 (row-size is) enough (small_drop from s p) (word_small r.0 is.known) l (omega arith) first (letters 8 8 middle (sym (between l)) (sym mid)) last
      go false e = long-word t w r.1 (row-size is) enough (small_drop from s p) (word_small r.0 is.known) h (ltb-false 16 r.1 e) first last

  pub long-row : 8 ≤ r.1 → (a z : ℕ) (m : Bool) → a ≡ packed (take 8 (drop from s)) → z ≡ packed (take 8 (drop (from + (r.1 - 8)) s)) → MiddleStands s from r.1 m → RowStands s from r ((eqb a r.2 && eqb z r.3) && m)
  long-row h a z m first last middle = go ((eqb a r.2 && eqb z r.3) && m) refl
    where
      go : (x : Bool) → ((eqb a r.2 && eqb z r.3) && m) ≡ x → RowStands s from r x
      go true e = λ p.
          let c = both (eqb a r.2 && eqb z r.3) m e in
          let b = both (eqb a r.2) (eqb z r.3) c.0 in
          let eight = as_row 8 (ap (λ (x : Bool). pick x 4 8) (le-ltb (length w) 8 (omega (arith, row-size is)))) in
          let start : packed (take 8 t) ≡ packed (take 8 w) = sym first ∙ eqb-true a r.2 b.0 ∙ ap (λ (x : Row). x.2) eight in
          let end : z ≡ packed (take 8 (drop (r.1 - 8) w)) = eqb-true z r.3 b.1 ∙ ap (λ (x : Row). x.3) eight ∙ ap (λ (n : ℕ). packed (take 8 (drop (n - 8) w))) (row-size is) in
          long-letters p h start (letters 8 (r.1 - 8) z last end) (subst (MiddleStands s from r.1) c.1 middle)
      go false e = tt

-- those between, as they were asked
pub middle-here : (s : Bytes) (from size a : ℕ) → a ≡ packed (take 8 (drop (from + 8) s)) → MiddleStands s from size (eqb a 7597414733028025709)
unfolding rndf_keywords boundary_of boundary_words ascii packed middle
middle-here s from size a h = go (eqb a 7597414733028025709) refl
  where
    go : (x : Bool) → eqb a 7597414733028025709 ≡ x → MiddleStands s from size x
    go true e = λ l. sym h ∙ eqb-true a 7597414733028025709 e
    go false e = tt

-- ## A row that stands
module _ (s : Bytes) (from : ℕ) (r : Row) (is : IsRow r) (room : from + r.1 ≤ length s) (p : Small s) (stands : RowStands s from r true) where
  there : take (from + r.1 - from) (drop from s) ≡ word_of r.0
  there = let n : from + r.1 - from ≡ r.1 = omega arith in ap (λ (n : ℕ). take n (drop from s)) n ∙ stands p

  pub keyword-here : r.0 < 29 → KeywordAt s from (from + r.1) r.0
  keyword-here h =
      let low = (row-between is).low in
      let word : word_of r.0 ≡ get_or rndf_keywords r.0 [] = ap (λ (x : Bool). pick x (get_or rndf_keywords r.0 []) (boundary_of (r.0 - 28))) (lt-ltb r.0 29 h) in
      record { order = omega arith; inside = room; known = h; word = there ∙ word }

  pub boundary-here : 28 < r.0 → BoundaryAt s from (from + r.1) (r.0 - 28)
  boundary-here h =
      let low = (row-between is).low in
      let known = is.known in
      let word : word_of r.0 ≡ boundary_of (r.0 - 28) = ap (λ (x : Bool). pick x (get_or rndf_keywords r.0 []) (boundary_of (r.0 - 28))) (le-ltb r.0 29 h) in
      record { order = omega arith; inside = room; boundary = record { number = record { low = omega arith; high = omega arith }; word = there ∙ word } }

-- the number of a keyword, and of a boundary word, as `word` has it
pub keyword-number : {s : Bytes} {from stop k : ℕ} → KeywordAt s from stop k → index_of (take (stop - from) (drop from s)) rndf_keywords ≡ k
keyword-number {s} {from} {stop} {k} h = rndf-all k h.known (take (stop - from) (drop from s)) h.word

pub boundary-number-here : {s : Bytes} {from stop b : ℕ} → BoundaryAt s from stop b → boundary_number (take (stop - from) (drop from s)) ≡ b
boundary-number-here {s} {from} {stop} {b} h = boundary-all b (take (stop - from) (drop from s)) h.boundary
