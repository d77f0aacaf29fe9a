-- One row of the exits, and the rows that are left. Assumes nothing.
use mathlib.Core.Path.{◌≡◌, refl, sym, ap, ap₂, ◌∙◌}
use mathlib.Core.List.{List}
use mathlib.Core.Option.{Option, none, some}
use Prim.Native.Nat.{ℕ, zero, suc, ◌+◌, ◌-◌, ◌<◌, ◌≤◌}
use native.Mathlib.Numerals.{add-one}
use native.Mathlib.Omega.{arith}
use Rattle.terms.specs.Ascii.{Bytes}
use Rattle.room.specs.Room.{fitted}
use Rattle.rows.specs.Lay.{put_row_of}
use Rattle.rows.specs.Strides.{exit_stride}
use Rattle.rows.specs.Columns.{exit_words_of}
use Rattle.rows.specs.Read.{exit_at}
use Rattle.rows.specs.declared.ExitRow.{ExitRow}
use Rattle.fill.specs.Resolve.{Look}
use Rattle.references.specs.Finding.{found}
use Rattle.references.specs.Exits.{named_at, put_point_of, Outcome, done, at, onward, resolved_from, with_found, left_on, left_from}
use Rattle.std.specs.Prelude as Rust

-- the table with the point, as it is stored
pub stored : (t : List ℕ) (row i : ℕ) (e : ExitRow) (w : ℕ) (u : List ℕ) → e ≡ exit_at t row → w ≡ fitted i → u ≡ put_row_of exit_stride t row (exit_words_of (record { point = e.point; entry = w })) → u ≡ put_point_of t row i
stored t row i e w u read word put = put ∙ ap₂ (λ (e : ExitRow) (w : ℕ). put_row_of exit_stride t row (exit_words_of (record { point = e.point; entry = w }))) read word

module _ (text : Bytes) (look : Look) (m : ℕ) (t : List ℕ) (row : ℕ) where
  -- the point that the row's entry names
  abbrev named : Option ℕ
  named = named_at text look m (exit_at t row).entry

  pub row_named : (e : ExitRow) (f : Rust.Option ℕ) → e ≡ exit_at t row → found f ≡ named_at text look m e.entry → onward t row (found f) done ≡ onward t row named done
  row_named e f read is = ap (λ (o : Option ℕ). onward t row o done) (is ∙ ap (λ (e : ExitRow). named_at text look m e.entry) read)

  apart : (u : List ℕ) (j : ℕ) → done u ≡ at j → ⊥
  apart u j e = let z : ◌≡◌ {A = ℕ} 0 1 = cc in omega arith

  goes : (u : List ℕ) (o : Option ℕ) → done u ≡ onward t row o done → (rest : List ℕ → Outcome) → onward t row o rest ≡ rest u
  goes u none e rest = absurd (apart u row e)
  goes u (some i) e rest = let q : put_point_of t row i ≡ u = cc in ap rest q

  stays : (o : Option ℕ) → at row ≡ onward t row o done → (rest : List ℕ → Outcome) → onward t row o rest ≡ at row
  stays none e rest = refl
  stays (some i) e rest = absurd (apart (put_point_of t row i) row (sym e))

  -- a row that was stored, and the rest of the rows
  pub next_row : (u : List ℕ) (count : ℕ) → row < count → done u ≡ onward t row named done → resolved_from text look m t row (count - row) ≡ resolved_from text look m u (row + 1) (count - (row + 1))
  unfolding resolved_from
  next_row u count h e =
      let k : count - row ≡ suc (count - (row + 1)) = omega arith in
      rw (k, add-one row) (goes u named e (λ u. resolved_from text look m u (suc row) (count - suc row)))

  -- a row whose entry names no point
  pub bad-row : (count : ℕ) → row < count → at row ≡ onward t row named done → resolved_from text look m t row (count - row) ≡ at row
  unfolding resolved_from
  bad-row count h e =
      let k : count - row ≡ suc (count - (row + 1)) = omega arith in
      rw k (stays named e (λ u. resolved_from text look m u (suc row) (count - (row + 1))))

  pub no_row : (count : ℕ) → count ≤ row → resolved_from text look m t row (count - row) ≡ done t
  unfolding resolved_from
  no_row count h = let k : count - row ≡ zero = omega arith in rw k

  -- ## What the table holds
  pub row-left : (e : ExitRow) (f : Rust.Option ℕ) → e ≡ exit_at t row → found f ≡ named_at text look m e.entry → with_found t row (found f) ≡ with_found t row named
  row-left e f read is = ap (with_found t row) (is ∙ ap (λ (e : ExitRow). named_at text look m e.entry) read)

  left-goes : (u : List ℕ) (o : Option ℕ) → done u ≡ onward t row o done → (rest : List ℕ → List ℕ) → left_on t row o rest ≡ rest u
  left-goes u none e rest = absurd (apart u row e)
  left-goes u (some i) e rest = let q : put_point_of t row i ≡ u = cc in ap rest q

  left-stays : (o : Option ℕ) → at row ≡ onward t row o done → (rest : List ℕ → List ℕ) → left_on t row o rest ≡ with_found t row o
  left-stays none e rest = refl
  left-stays (some i) e rest = absurd (apart (put_point_of t row i) row (sym e))

  pub next-left : (u : List ℕ) (count : ℕ) → row < count → done u ≡ onward t row named done → left_from text look m t row (count - row) ≡ left_from text look m u (row + 1) (count - (row + 1))
  unfolding left_from
  next-left u count h e =
      let k : count - row ≡ suc (count - (row + 1)) = omega arith in
      rw (k, add-one row) (left-goes u named e (λ u. left_from text look m u (suc row) (count - suc row)))

  pub bad-left : (u : List ℕ) (count : ℕ) → row < count → at row ≡ onward t row named done → u ≡ with_found t row named → u ≡ left_from text look m t row (count - row)
  unfolding left_from
  bad-left u count h e is =
      let k : count - row ≡ suc (count - (row + 1)) = omega arith in
      rw k (is ∙ sym (left-stays named e (λ u. left_from text look m u (suc row) (count - (row + 1)))))

  pub no-left : (count : ℕ) → count ≤ row → left_from text look m t row (count - row) ≡ t
  unfolding left_from
  no-left count h = let k : count - row ≡ zero = omega arith in rw k
