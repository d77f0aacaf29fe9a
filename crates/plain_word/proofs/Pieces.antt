-- Words compared piece by piece: pieces of the same number are the same, and pieces that overlap make the whole. Assumes nothing.
use mathlib.Core.Path.{◌≡◌, sym, ap, ap₂, ◌∙◌}
use mathlib.Core.List.{◌++◌}
use Prim.Native.Nat.{ℕ, ◌+◌, ◌-◌, ◌≤◌, ◌<◌}
use native.Mathlib.Omega.{arith}
use lib.ListN.{length, take, drop, length-drop, take-append-drop}
use lib.Seq.{take-add, take_all, take-take, drop-drop, length-take-le}
use Rattle.terms.specs.Ascii.{Bytes}
use Rattle.word.specs.Packed.{packed}
use Rattle.word.proofs.Packed.{Small, small-take, small_drop, same-packed}

-- ## A text that begins with a word
module _ (t w : Bytes) (n : ℕ) (size : length w ≡ n) (room : n ≤ length t) (p : Small t) (q : Small w) where
  -- d letters from a place on are the word's
  piece : (d i : ℕ) → i + d ≤ n → packed (take d (drop i t)) ≡ packed (take d (drop i w)) → take d (drop i t) ≡ take d (drop i w)
  piece d i h e =
      let a : length (take d (drop i t)) ≡ d = length-take-le d (drop i t) (omega (arith, length-drop i t)) in
      let b : length (take d (drop i w)) ≡ d = length-take-le d (drop i w) (omega (arith, length-drop i w)) in
      same-packed (take d (drop i t)) (take d (drop i w)) (small-take d (drop i t) (small_drop i t p)) (small-take d (drop i w) (small_drop i w q)) (a ∙ sym b) e

  -- from a place on to the word's end all letters are the word's
  abbrev From : ℕ → Type 0
  From i = take (n - i) (drop i t) ≡ drop i w

  last : (d i : ℕ) → i + d ≡ n → packed (take d (drop i t)) ≡ packed (take d (drop i w)) → From i
  last d i h e =
      let m : n - i ≡ d = omega arith in
      rw m (piece d i (omega arith) e ∙ take_all d (drop i w) (omega (arith, length-drop i w)))

  -- d letters before, with no gap
  before : (d i k : ℕ) → k ≤ d → i + d ≤ n → packed (take d (drop i t)) ≡ packed (take d (drop i w)) → From (i + k) → From i
  before d i k h r e f =
      let m : n - i ≡ k + (n - (i + k)) = omega arith in
      let short : take k (drop i t) ≡ take k (drop i w) = sym (take-take k d (drop i t) h) ∙ ap (take k) (piece d i r e) ∙ take-take k d (drop i w) h in
      let rest : take (n - (i + k)) (drop k (drop i t)) ≡ drop k (drop i w) = ap (take (n - (i + k))) (drop-drop k i t) ∙ f ∙ sym (drop-drop k i w) in
      ap (λ (m : ℕ). take m (drop i t)) m ∙ take-add k (n - (i + k)) (drop i t) ∙ ap₂ ◌++◌ short rest ∙ take-append-drop k (drop i w)

  whole : From 0 → take n t ≡ w
  whole f = let z : n - 0 ≡ n = omega arith in ap (λ (m : ℕ). take m t) (sym z) ∙ f

  -- of 4 to 7 letters: the first four and the last
  pub short-word : 4 ≤ n → n ≤ 8 → packed (take 4 t) ≡ packed (take 4 w) → packed (take 4 (drop (n - 4) t)) ≡ packed (take 4 (drop (n - 4) w)) → take n t ≡ w
  short-word h k a z =
      let o : 0 + (n - 4) ≡ n - 4 = omega arith in
      whole (before 4 0 (n - 4) (omega arith) (omega arith) a (rw o (last 4 (n - 4) (omega arith) z)))

  -- of 8 to 16: the first eight and the last
  pub long-word : 8 ≤ n → n ≤ 16 → packed (take 8 t) ≡ packed (take 8 w) → packed (take 8 (drop (n - 8) t)) ≡ packed (take 8 (drop (n - 8) w)) → take n t ≡ w
  long-word h k a z =
      let o : 0 + (n - 8) ≡ n - 8 = omega arith in
      whole (before 8 0 (n - 8) (omega arith) (omega arith) a (rw o (last 8 (n - 8) (omega arith) z)))

  -- of 17 to 24: those, and eight between
  pub longest-word : 16 < n → n ≤ 24 → packed (take 8 t) ≡ packed (take 8 w) → packed (take 8 (drop 8 t)) ≡ packed (take 8 (drop 8 w)) → packed (take 8 (drop (n - 8) t)) ≡ packed (take 8 (drop (n - 8) w)) → take n t ≡ w
  longest-word h k a m z =
      let e : 8 + (n - 16) ≡ n - 8 = omega arith in
      let middle : From 8 = before 8 8 (n - 16) (omega arith) (omega arith) m (rw e (last 8 (n - 8) (omega arith) z)) in
      whole (before 8 0 8 (omega arith) (omega arith) a middle)
