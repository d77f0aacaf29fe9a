-- The exits of a part that are searched for: where one of its own goes from a to b, that is found; and nothing else is. Assumes nothing.
use mathlib.Core.Path.{◌≡◌, refl, sym, ap, subst, ◌∙◌}
use mathlib.Core.Logic.{inl, inr}
use mathlib.Core.Bool.{Bool, true, false}
use mathlib.Core.List.{List, [], ◌∷◌, ◌++◌}
use Prim.Native.Nat.{ℕ, zero, suc, ◌+◌, ◌-◌, ◌*◌, ◌≤◌, ◌<◌}
use native.Mathlib.Omega.{arith}
use lib.Dec.{ltb, eqb}
use lib.ListN.{length, get_or, length-append}
use borrow.Author.Tests.{lt-ltb, eq-eqb, eqb-true}
use Rattle.terms.specs.Words.{Each, Among, pick}
use Rattle.terms.proofs.Lists.{each_map, each_append}
use Rattle.terms.proofs.Tests.{clash}
use Rattle.grammar.proofs.Rows.{Within}
use Rattle.rows.specs.Lay.{rows_of, row_at}
use Rattle.rows.specs.Strides.{exit_stride}
use Rattle.rows.proofs.Lay.{row_inside, word-of-row}
use Rattle.filled_rows.specs.From.{From}
use Rattle.filled_rows.proofs.From.{from_parts, from-among}
use Rattle.look_up.proofs.Answers.{row_words}
use Rattle.moves.specs.declared.Part.{Part}
use Rattle.moves.specs.Halving.{first_word, rows_there_of, first_row_from_of}
use Rattle.moves.specs.Moves.{goes, leads_from, leads}
use Rattle.route_law.specs.Moves.{Span}
use Rattle.move_tables.specs.Reads.{span_part}
use Rattle.move_tables.proofs.Found.{first-word-is, all_there, found_inside, found}
use Rattle.move_tables.proofs.Groups.{Grouped}

-- the point that an exit leaves
abbrev pub source : List ℕ → ℕ
source w = get_or w 0 0

-- ## One row
module _ (exits : List ℕ) (a b : ℕ) where
  goes-yes : (i : ℕ) → i < rows_of (length exits) exit_stride → a ∷ b ∷ [] ≡ row_at exit_stride exits i → goes exits i a b ≡ true
  unfolding goes
  goes-yes i h e =
      let x : first_word exits exit_stride i ≡ a = first-word-is exits exit_stride i (omega arith) h ∙ ap source (sym e) in
      let y : get_or exits (i * exit_stride + 1) 0 ≡ b = sym (word-of-row exit_stride exits i 1 0 h (omega arith)) ∙ ap (λ (w : List ℕ). get_or w 1 0) (sym e) in
      rw (eq-eqb (first_word exits exit_stride i) a x, eq-eqb (get_or exits (i * exit_stride + 1) 0) b y)

  goes-is : (i : ℕ) → i < rows_of (length exits) exit_stride → goes exits i a b ≡ true → row_at exit_stride exits i ≡ a ∷ b ∷ []
  unfolding goes first_word
  goes-is i h = go (eqb (first_word exits exit_stride i) a) (eqb (get_or exits (i * exit_stride + 1) 0) b) refl refl
    where
      go : (x y : Bool) → eqb (first_word exits exit_stride i) a ≡ x → eqb (get_or exits (i * exit_stride + 1) 0) b ≡ y → pick x y false ≡ true → row_at exit_stride exits i ≡ a ∷ b ∷ []
      go true true e f t = row_inside exit_stride exits i h ∙ row_words exits i h ∙ (let p = eqb-true (get_or exits (i * exit_stride) 0) a e in let q = eqb-true (get_or exits (i * exit_stride + 1) 0) b f in λ j. p j ∷ q j ∷ [])
      go true false e f t = clash (sym t)
      go false y e f t = clash (sym t)

  -- ## Rows one behind the other
  found-own : (behind i : ℕ) (own back : List (List ℕ)) (left : ℕ) → From (row_at exit_stride exits) i (own ++ back) → i + length own ≤ rows_of (length exits) exit_stride → length own ≤ left → Each (λ w. source w < behind) own → Among (a ∷ b ∷ []) own
      → leads_from exits behind a b i left ≡ true
  unfolding leads_from
  found-own behind i [] back left rows there many low h = absurd h
  found-own behind i (w ∷ own) back zero rows there many low h = absurd (omega arith)
  found-own behind i (w ∷ own) back (suc left) rows there many low h =
      let at : i < rows_of (length exits) exit_stride = omega arith in
      let first : first_word exits exit_stride i ≡ source w = first-word-is exits exit_stride i (omega arith) at ∙ ap source rows.0 in
      rw (lt-ltb (first_word exits exit_stride i) behind (subst (λ (k : ℕ). k < behind) (sym first) low.0)) (either h (found-own behind (suc i) own back left rows.1 (omega arith) (omega arith) low.1))
    where
      or-true : (x y : Bool) → y ≡ true → pick x true y ≡ true
      or-true true y e = refl
      or-true false y e = e

      either : Among (a ∷ b ∷ []) (w ∷ own) → (Among (a ∷ b ∷ []) own → leads_from exits behind a b (suc i) left ≡ true) → pick (goes exits i a b) true (leads_from exits behind a b (suc i) left) ≡ true
      either (inl e) rest = ap (λ (x : Bool). pick x true (leads_from exits behind a b (suc i) left)) (goes-yes i (omega arith) (e ∙ sym rows.0))
      either (inr h) rest = or-true (goes exits i a b) (leads_from exits behind a b (suc i) left) (rest h)

  only_one : (behind i left : ℕ) → leads_from exits behind a b i left ≡ true → (k : ℕ) × (i ≤ k) × (k < i + left) × (goes exits k a b ≡ true)
  unfolding leads_from
  only_one behind i zero e = clash (sym e)
  only_one behind i (suc left) e = go (ltb (first_word exits exit_stride i) behind) (goes exits i a b) refl e (only_one behind (suc i) left)
    where
      go : (x y : Bool) → goes exits i a b ≡ y → pick x (pick y true (leads_from exits behind a b (suc i) left)) false ≡ true
          → (leads_from exits behind a b (suc i) left ≡ true → (k : ℕ) × (suc i ≤ k) × (k < suc i + left) × (goes exits k a b ≡ true))
          → (k : ℕ) × (i ≤ k) × (k < i + suc left) × (goes exits k a b ≡ true)
      go false y g e rest = clash (sym e)
      go true true g e rest = (i, omega arith, omega arith, g)
      go true false g e rest = let r = rest e in let x = r.1 in let y = r.2 in (r.0, omega arith, omega arith, r.3)

module _ (exits : List ℕ) (rows : List (List ℕ)) (room : length rows ≤ rows_of (length exits) exit_stride) (read : From (row_at exit_stride exits) 0 rows) (a b : ℕ) where
  pub leads-found : (parts : List Span) (g : Grouped source parts rows (a ∷ b ∷ [])) → leads exits (length rows) (span_part g.span) a b ≡ true
  unfolding leads
  leads-found parts g =
      let s = g.span in
      let rest = g.own ++ g.back in
      let n : length rows ≡ length g.front + length rest = ap (λ (l : List (List ℕ)). length l) g.is ∙ length-append g.front rest in
      let m = length-append g.own g.back in
      let row : first_row_from_of exits exit_stride (length rows) s.first ≡ length g.front =
      found (row_at exit_stride exits) source exits exit_stride s.first rows g.front rest g.is room read (λ i h. first-word-is exits exit_stride i (omega arith) (omega arith)) g.before
      (each_append (λ w. s.first ≤ source w) g.own g.back (each_map (λ w. Within s.first s.size (source w)) (λ w. s.first ≤ source w) (λ w h. h.low) g.own g.within) (each_map (λ w. s.first + s.size ≤ source w) (λ w. s.first ≤ source w) (λ w h. omega arith) g.back g.behind)) in
      let there = all_there exits exit_stride (length rows) room in
      (λ i. leads_from exits (s.first + s.size) a b (row i) (there i - row i))
      ∙ found-own exits a b (s.first + s.size) (length g.front) g.own g.back (length rows - length g.front) (subst (λ (k : ℕ). From (row_at exit_stride exits) k rest) (let z : 0 + length g.front ≡ length g.front = omega arith in z) (from_parts (row_at exit_stride exits) 0 g.front rest (subst (From (row_at exit_stride exits) 0) g.is read)).1) (omega arith) (omega arith)
      (each_map (λ w. Within s.first s.size (source w)) (λ w. source w < s.first + s.size) (λ w h. h.high) g.own g.within) g.there

  pub leads-only : (p : Part) → leads exits (length rows) p a b ≡ true → Among (a ∷ b ∷ []) rows
  unfolding leads
  leads-only p e =
      let first = first_row_from_of exits exit_stride (length rows) p.first in
      let inside = found_inside exits exit_stride (length rows) p.first in
      let there = all_there exits exit_stride (length rows) room in
      let k = only_one exits a b p.behind first (rows_there_of exits exit_stride (length rows) - first) e in
      let low = k.1 in
      let high = k.2 in
      let below : k.0 < length rows = omega arith in
      subst (λ (w : List ℕ). Among w rows) (ap (row_at exit_stride exits) (let z : 0 + k.0 ≡ k.0 = omega arith in z) ∙ goes-is exits a b k.0 (omega arith) k.3) (from-among (row_at exit_stride exits) 0 rows k.0 read below)
