-- What each pass does at the line that starts at a place of the text, and behind the last line; what is written and listed one line more. Assumes nothing.
use mathlib.Core.Path.{◌≡◌, refl, sym, ap, ◌∙◌}
use mathlib.Core.List.{List, [], ◌∷◌, ◌++◌}
use mathlib.Core.Bool.{Bool, true, false}
use Prim.Native.Nat.{ℕ, suc, ◌+◌, ◌-◌, ◌≤◌, ◌<◌}
use native.Mathlib.Omega.{arith}
use native.Mathlib.Numerals.{add-one}
use lib.ListN.{length, take, drop, length-drop, length-append}
use lib.Seq.{drop-drop, take_all}
use lib.Dec.{ltb}
use borrow.Author.Tests.{ltb-true, ltb-false}
use Rattle.terms.specs.Words.{Bytes, pick}
use Rattle.scan.proofs.Reach.{reach_le}
use Rattle.scan.specs.Reach.{stops_by}
use Rattle.scan.specs.declared.Until.TheVariants.{Byte}
use Rattle.line.specs.Lines.{lines_of}
use Rattle.line.proofs.Cuts.{lines_at, lines_end, line-long, next_start}
use Rattle.fill.specs.Resolve.{Look}
use Rattle.rows.specs.Lay.{put_row_of}
use Rattle.rows.specs.Table.{put_rows}
use Rattle.output.specs.Pen.{Pen, pen, put, Wrote}
use Rattle.output.proofs.Writing.{◌then◌, none, kept}
use Rattle.mend_lines.specs.declared.Before.{Before}
use Rattle.mend_lines.specs.declared.Becomes.{Becomes}
use Rattle.mend_lines.specs.declared.Becomes.TheVariants.{Stays, Goes, Recount}
use Rattle.mend_lines.specs.Forward.{change_of}
use Rattle.mend_pieces.specs.Pieces.{lf_from, stop_of, piece_of, row_for, behind_line, mended_bytes, changed_rows}
use Rattle.mend_passes.specs.Passes.{list_row, exit_right_at, are_exits_right_of}

-- ## What follows
-- a writing
behind : {p q : Pen} {x : Bytes} (y : Bytes) → Wrote p x q → put q y ≡ put p (x ++ y)
behind {p} {q} {x} y w = sym (w then rest).is
  where
    rest : Wrote q y (put q y)
    rest = record { is = refl }

-- an output of no bytes stays so
pub nothing-out : (l x : Bytes) (r : ℕ) → Wrote (pen [] 0) x (pen l r) → Wrote (pen [] 0) x (pen [] r)
nothing-out [] x r w = w
nothing-out (b ∷ l) x r w = absurd (omega (arith, kept w))

-- what is listed of a line
row-then-rest : (m : Becomes) (i rows : ℕ) (t : List ℕ) (rs : List (List ℕ)) → put_rows 2 list_row (put_rows 2 list_row t rows (row_for i m)) (rows + length (row_for i m)) rs ≡ put_rows 2 list_row t rows (row_for i m ++ rs)
unfolding put_rows
row-then-rest Stays i rows t rs = ap (λ (n : ℕ). put_rows 2 list_row t n rs) (let e : rows + 0 ≡ rows = omega arith in e)
row-then-rest (Goes k) i rows t rs = ap (λ (n : ℕ). put_rows 2 list_row (put_row_of 2 t rows (i ∷ k ∷ [])) n rs) (let e : rows + 1 ≡ suc rows = omega arith in e)
row-then-rest (Recount start stop n) i rows t rs = ap (λ (n : ℕ). put_rows 2 list_row (put_row_of 2 t rows (i ∷ 1 ∷ [])) n rs) (let e : rows + 1 ≡ suc rows = omega arith in e)

pub one-row-at-most : (m : Becomes) (i : ℕ) → length (row_for i m) ≤ 1
one-row-at-most Stays i = omega arith
one-row-at-most (Goes k) i = omega arith
one-row-at-most (Recount start stop n) i = omega arith

-- ## At the line that starts at a place, up to e, its LF or the text's end
module _ (s : Bytes) (from e : ℕ) (h : from < length s) (q : e ≡ lf_from s from) where
  -- it stops inside the text
  pub line-inside : (from ≤ e) × (e ≤ length s)
  line-inside = (omega arith, rw q (reach_le (stops_by (Byte 10)) s from (omega arith)))

  -- the line with its LF, if it has one
  whole-line : take (suc (length (take (e - from) (drop from s)))) (drop from s) ≡ take (stop_of s from - from) (drop from s)
  unfolding stop_of
  whole-line = rw (← q) (go (ltb e (length s)) refl)
    where
      go : (x : Bool) → ltb e (length s) ≡ x → take (suc (length (take (e - from) (drop from s)))) (drop from s) ≡ take (pick x (e + 1) e - from) (drop from s)
      go true p = ap (λ (n : ℕ). take n (drop from s)) (let k : suc (length (take (e - from) (drop from s))) ≡ e + 1 - from = omega (arith, next_start s from e h q) in k)
      go false p =
          let n = next_start s from e h q in
          let d = length-drop from s in
          let b = ltb-false e (length s) p in
          take_all (suc (length (take (e - from) (drop from s)))) (drop from s) (omega arith) ∙ sym (take_all (e - from) (drop from s) (omega arith))

  behind-whole-line : drop (suc (length (take (e - from) (drop from s)))) (drop from s) ≡ drop (e + 1) s
  behind-whole-line = drop-drop (suc (length (take (e - from) (drop from s)))) from s ∙ ap (λ (n : ℕ). drop n s) (next_start s from e h q)

  pub lines-one-more : length (lines_of (drop from s)) ≡ suc (length (lines_of (drop (e + 1) s)))
  lines-one-more = ap length (lines_at s from e h q)

  -- m: what becomes of it; b, d: what the lines before it, and up to it, have left
  module _ (b d : Before) (m : Becomes) (u : m ≡ change_of b (take (e - from) (drop from s)) (lines_of (drop (e + 1) s))) (w : d ≡ behind_line b (take (e - from) (drop from s))) where
    bytes-at : mended_bytes b (drop from s) (lines_of (drop from s)) ≡ piece_of m (take (stop_of s from - from) (drop from s)) ++ mended_bytes d (drop (e + 1) s) (lines_of (drop (e + 1) s))
    unfolding mended_bytes
    bytes-at = rw (u, w, lines_at s from e h q, whole-line, behind-whole-line)

    pub bytes-again : (stop : ℕ) (p r : Pen) → stop ≡ stop_of s from → Wrote p (piece_of m (take (stop - from) (drop from s))) r
        → put r (mended_bytes d (drop (e + 1) s) (lines_of (drop (e + 1) s))) ≡ put p (mended_bytes b (drop from s) (lines_of (drop from s)))
    bytes-again stop p r v x = rw (bytes-at, ← v) (behind (mended_bytes d (drop (e + 1) s) (lines_of (drop (e + 1) s))) x)

    rows_at : (i : ℕ) → changed_rows i b (lines_of (drop from s)) ≡ row_for i m ++ changed_rows (i + 1) d (lines_of (drop (e + 1) s))
    unfolding changed_rows
    rows_at i = rw (u, w, lines_at s from e h q, add-one i)

    pub rows-again : (i rows more : ℕ) (t left : List ℕ) → left ≡ put_rows 2 list_row t rows (row_for i m) → more ≡ rows + length (row_for i m)
        → put_rows 2 list_row left more (changed_rows (i + 1) d (lines_of (drop (e + 1) s))) ≡ put_rows 2 list_row t rows (changed_rows i b (lines_of (drop from s)))
    rows-again i rows more t left g n = rw (g, n) (row-then-rest m i rows t (changed_rows (i + 1) d (lines_of (drop (e + 1) s))) ∙ ap (put_rows 2 list_row t rows) (sym (rows_at i)))

    pub counted-again : (i rows more : ℕ) → more ≡ rows + length (row_for i m) → more + length (changed_rows (i + 1) d (lines_of (drop (e + 1) s))) ≡ rows + length (changed_rows i b (lines_of (drop from s)))
    counted-again i rows more n =
        let a = ap length (rows_at i) in
        let k = length-append (row_for i m) (changed_rows (i + 1) d (lines_of (drop (e + 1) s))) in
        omega arith

    -- x: whether its entry is declared, if it is an exit and stays
    pub exits-at : (look : Look) (n : ℕ) (x : Bool) → x ≡ exit_right_at look n m (take (e - from) (drop from s)) → are_exits_right_of look n b (lines_of (drop from s)) ≡ pick x (are_exits_right_of look n d (lines_of (drop (e + 1) s))) false
    unfolding are_exits_right_of
    exits-at look n x v = rw (v, u, w, lines_at s from e h q)

-- the line with its LF stops inside the text too
pub stop-within : (s : Bytes) (from : ℕ) → from < length s → (from ≤ stop_of s from) × (stop_of s from ≤ length s)
unfolding stop_of
stop-within s from h = go (ltb (lf_from s from) (length s)) refl
  where
    go : (x : Bool) → ltb (lf_from s from) (length s) ≡ x → (from ≤ pick x (lf_from s from + 1) (lf_from s from)) × (pick x (lf_from s from + 1) (lf_from s from) ≤ length s)
    go true p = (omega (arith, line-inside s from (lf_from s from) h refl), omega (arith, ltb-true (lf_from s from) (length s) p))
    go false p = line-inside s from (lf_from s from) h refl

-- ## Behind the last line
module _ (s : Bytes) (from : ℕ) (h : length s ≤ from) where
  no-bytes-left : (b : Before) → mended_bytes b (drop from s) (lines_of (drop from s)) ≡ []
  unfolding mended_bytes
  no-bytes-left b = rw (lines_end s from h)

  pub bytes-done : (p : Pen) (b : Before) → put p (mended_bytes b (drop from s) (lines_of (drop from s))) ≡ p
  bytes-done p b = rw (no-bytes-left b) none.is

  pub no-rows-left : (b : Before) (i : ℕ) → changed_rows i b (lines_of (drop from s)) ≡ []
  unfolding changed_rows
  no-rows-left b i = rw (lines_end s from h)

  pub rows-done : (t : List ℕ) (rows : ℕ) (b : Before) (i : ℕ) → put_rows 2 list_row t rows (changed_rows i b (lines_of (drop from s))) ≡ t
  unfolding put_rows
  rows-done t rows b i = rw (no-rows-left b i)

  pub no-exits-left : (b : Before) (look : Look) (m : ℕ) → are_exits_right_of look m b (lines_of (drop from s)) ≡ true
  unfolding are_exits_right_of
  no-exits-left b look m = rw (lines_end s from h)
