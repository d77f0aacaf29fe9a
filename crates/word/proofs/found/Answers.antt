-- `word::found` meets its contract: no two words have the same place, and one comparison decides. Assumes nothing.
use mathlib.Core.Path.{sym, ap, ◌∙◌}
use Prim.Native.Nat.{ℕ}
use native.Mathlib.Omega.{arith}
use Rattle.word.specs.Table.{known_of, place_of, place_at_of, same_known_of}
use Rattle.word.proofs.Packed.{Small}
use Rattle.word.proofs.Rows.{size-nowhere, same_row, row_here, row-nowhere}
use Rattle.word.proofs.Places.{place_row}
use Rattle.word.proofs.found.Goals as goal

pub returns-then-s-lt4 : goal.returns-then-s-lt4
returns-then-s-lt4 c = let s = c.args.s.now in c.no_word.ensures ∙ ap known_of (size-nowhere s (λ b. omega arith))

pub returns-then-s-gt20 : goal.returns-then-s-gt20
returns-then-s-gt20 c = let s = c.args.s.now in c.no_word-then-s-gt20.ensures ∙ ap known_of (size-nowhere s (λ b. omega arith))

pub returns-then-is_word : goal.returns-then-is_word
returns-then-is_word c =
    let s = c.args.s.now in
    let k = place_at_of (place_of s) in
    let o = place_row s in
    let w = c.word_at-w.ensures ∙ ap (λ (h : ℕ). known_of (place_at_of h)) c.place_of.ensures in
    let p : Small s = λ i. omega (arith, c.shared_slice_known-1.given i) in
    let e = sym (same_row s k p (omega arith) o.in_table) ∙ ap (same_known_of s) (sym w) ∙ sym c.is_word.ensures in
    w ∙ ap known_of (row_here s k o (e ∙ c.if-is_word.true))

pub returns-else-is_word : goal.returns-else-is_word
returns-else-is_word c =
    let s = c.args.s.now in
    let k = place_at_of (place_of s) in
    let o = place_row s in
    let w = c.word_at-w.ensures ∙ ap (λ (h : ℕ). known_of (place_at_of h)) c.place_of.ensures in
    let p : Small s = λ i. omega (arith, c.shared_slice_known-1.given i) in
    let e = sym (same_row s k p (omega arith) o.in_table) ∙ ap (same_known_of s) (sym w) ∙ sym c.is_word.ensures in
    c.no_word-else-is_word.ensures ∙ ap known_of (row-nowhere s k o (e ∙ c.if-is_word.false))
