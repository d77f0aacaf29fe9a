-- The part that is searched for: where a point lies in a part, that part is found; and nothing but a part is found that has the point. Assumes nothing.
use mathlib.Core.Path.{◌≡◌, refl, sym, ap, subst, ◌∙◌}
use mathlib.Core.Bool.{Bool, true, false}
use mathlib.Core.List.{List, [], ◌∷◌, ◌++◌, map, map-append, append_assoc}
use Prim.Native.Nat.{ℕ, zero, suc, ◌+◌, ◌≤◌, ◌<◌}
use native.Mathlib.Omega.{arith}
use lib.Dec.{ltb, leb}
use lib.ListN.{length, length-map, length-append}
use borrow.Author.Tests.{lt-ltb, le-leb, ltb-true, leb-true}
use Rattle.terms.specs.Words.{Each, Among, pick}
use Rattle.terms.proofs.Lists.{each_map, each_append}
use Rattle.terms.proofs.Tests.{clash}
use Rattle.grammar.proofs.Rows.{each-of_map}
use Rattle.law_tables.proofs.Among.{among-told}
use Rattle.rows.specs.Lay.{rows_of}
use Rattle.filled_rows.specs.From.{From}
use Rattle.filled_rows.proofs.From.{from_parts, from-among}
use Rattle.moves.specs.declared.Part.{Part}
use Rattle.moves.specs.Halving.{first_word, first_row_from_of}
use Rattle.moves.specs.Moves.{part, inside, part_before}
use Rattle.route_law.specs.Moves.{Span, Inside}
use Rattle.move_tables.specs.Reads.{span_part}
use Rattle.move_tables.proofs.Found.{found, found_inside}
use Rattle.move_tables.proofs.Spans.{Stands}

-- ## The test
pub inside-yes : (s : Span) (p : ℕ) → Inside s p → inside (span_part s) p ≡ true
unfolding inside
inside-yes s p i = rw (le-leb s.first p i.from, lt-ltb p (s.first + s.size) i.below)

pub inside_is : (s : Span) (p : ℕ) → inside (span_part s) p ≡ true → Inside s p
unfolding inside
inside_is s p = go (leb s.first p) (ltb p (s.first + s.size)) refl refl
  where
    go : (x y : Bool) → leb s.first p ≡ x → ltb p (s.first + s.size) ≡ y → pick x y false ≡ true → Inside s p
    go true true e f h = record { from = leb-true s.first p e; below = ltb-true p (s.first + s.size) f }
    go true false e f h = clash (sym h)
    go false y e f h = clash (sym h)

none_inside : (p : ℕ) → inside (part 0 0) p ≡ true → ⊥
none_inside p h = let i = inside_is (record { first = 0; size = 0 }) p h in let b = i.below in omega arith

-- ## The search in a table whose rows are these parts
module _ (table : List ℕ) (stride : ℕ) (part_at : ℕ → Part) (parts : List Span) (room : length parts ≤ rows_of (length table) stride) (rows : From part_at 0 (map span_part parts))
    (words : (i : ℕ) → i < length parts → first_word table stride i ≡ (part_at i).first) where
  pub part-found : (low high : ℕ) (s : Span) (p : ℕ) → Stands parts low high s → Inside s p → part_before part_at (first_row_from_of table stride (length parts) (p + 1)) ≡ span_part s
  part-found low high s p t i =
      let front = map span_part t.front in
      let back = map span_part t.back in
      let many : length (map span_part parts) ≡ length parts = length-map parts span_part in
      let from = i.from in
      let below = i.below in
      let all : map span_part parts ≡ front ++ (span_part s ∷ back) = ap (map span_part) t.is ∙ map-append span_part t.front (s ∷ t.back) in
      let split : map span_part parts ≡ (front ++ (span_part s ∷ [])) ++ back = all ∙ sym (append_assoc front (span_part s ∷ []) back) in
      let row : first_row_from_of table stride (length parts) (p + 1) ≡ suc (length front) =
      ap (λ (k : ℕ). first_row_from_of table stride k (p + 1)) (sym many)
      ∙ found part_at (λ q. q.first) table stride (p + 1) (map span_part parts) (front ++ (span_part s ∷ [])) back split (subst (λ (k : ℕ). k ≤ rows_of (length table) stride) (sym many) room) rows (λ j h. words j (omega arith))
      (each_append (λ q. q.first < p + 1) front (span_part s ∷ []) (each-of_map (λ q. q.first < p + 1) span_part t.front (each_map (λ q. q.first ≤ s.first) (λ q. q.first < p + 1) (λ q h. omega arith) t.front t.before)) (omega arith, tt))
      (each-of_map (λ q. p + 1 ≤ q.first) span_part t.back (each_map (λ q. s.first + s.size ≤ q.first) (λ q. p + 1 ≤ q.first) (λ q h. omega arith) t.back t.behind))
      ∙ length-append front (span_part s ∷ []) ∙ (let e : length front + 1 ≡ suc (length front) = omega arith in e) in
      ap (part_before part_at) row ∙ ap part_at (let e : length front ≡ 0 + length front = omega arith in e) ∙ (from_parts part_at 0 front (span_part s ∷ back) (subst (From part_at 0) all rows)).1.0

  pub only_parts : (p q : ℕ) → inside (part_before part_at (first_row_from_of table stride (length parts) q)) p ≡ true → (s : Span) × Among s parts × (part_before part_at (first_row_from_of table stride (length parts) q) ≡ span_part s)
  only_parts p q = go (first_row_from_of table stride (length parts) q) (found_inside table stride (length parts) q)
    where
      go : (k : ℕ) → k ≤ length parts → inside (part_before part_at k) p ≡ true → (s : Span) × Among s parts × (part_before part_at k ≡ span_part s)
      go zero h e = absurd (none_inside p e)
      go (suc k) h e = among-told span_part (part_at k) parts (subst (λ (j : ℕ). Among (part_at j) (map span_part parts)) (let z : 0 + k ≡ k = omega arith in z) (from-among part_at 0 (map span_part parts) k rows (let m = length-map parts span_part in omega arith)))
