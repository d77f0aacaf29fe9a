-- The bytes of a content up to the first that is not plain: no comment opens among them, and each is allowed there. Assumes nothing.
use Rattle.std.specs.Prelude.{Ok}
use mathlib.Core.Path.{◌≡◌, refl, sym, ap, ◌∙◌}
use mathlib.Core.List.{[]}
use mathlib.Core.Bool.{true, ◌&&◌}
use Prim.Native.Nat.{ℕ, ◌+◌, ◌-◌, ◌≤◌}
use native.Mathlib.Nat.{zero-add}
use native.Mathlib.Omega.{arith}
use borrow.Author.Tests.{le-leb}
use lib.ListN.{length, take, drop, drop_of_length-le}
use Rattle.terms.specs.Ascii.{Bytes}
use Rattle.terms.proofs.Tests.{both}
use Rattle.scan.specs.Allowed.{outside, all}
use Rattle.scan.specs.Reach.{up_to, reach, fails, other, plain}
use Rattle.scan.proofs.Bytes.{all_imp}
use Rattle.scan.proofs.Reach.{from_start, up_to_le, reach-end, reach-from, all-before}
use Rattle.scan.proofs.Eights.{all-joined, reach-over, two_none}
use Rattle.line.specs.Content.{longest}
use Rattle.line.specs.Forms.{opens, outer_of, note_of, form_of}
use Rattle.line.proofs.Comments.{outer-at, note-at}

module _ (s : Bytes) where
  plain-before : all plain (take (up_to (fails plain) s) s) ≡ true
  plain-before = all-before (fails plain) plain (λ l. refl) s

  -- a comment that is sought from there on is the one that is sought from the start
  pub opens-from : reach opens s (up_to (fails plain) s) ≡ up_to opens s
  opens-from =
      let n = reach-over plain opens (λ b l e. two_none 47 42 b l (both (outside b) (other 47 b) e).1) s (up_to (fails plain) s) 0 (omega (arith, up_to_le (fails plain) s)) plain-before in
      ap (reach opens s) (sym (zero-add (up_to (fails plain) s))) ∙ n ∙ from_start opens s

  pub stop-first : up_to (fails plain) s ≤ up_to opens s
  stop-first = omega (arith, opens-from, reach-from opens s (up_to (fails plain) s))

  outside-before : all outside (take (up_to (fails plain) s) s) ≡ true
  outside-before = all_imp plain outside (λ b e. (both (outside b) (other 47 b) e).0) (take (up_to (fails plain) s) s) plain-before

  -- whether the bytes before a comment are allowed is told by those from there on
  pub outer-from : all outside (take (up_to opens s - up_to (fails plain) s) (drop (up_to (fails plain) s) s)) ≡ all outside (outer_of s)
  outer-from =
      let p = up_to (fails plain) s in
      let m = up_to opens s in
      let e : p + (m - p) ≡ m = omega (arith, stop-first) in
      let j = all-joined outside s 0 p (m - p) in
      ap (λ x. x && all outside (take (m - p) (drop p s))) (sym outside-before) ∙ ap (λ (k : ℕ). all outside (take p s) && all outside (take (m - p) (drop k s))) (sym (zero-add p)) ∙ j ∙ ap (λ (k : ℕ). all outside (take k s)) e ∙ ap (all outside) (sym (outer-at s))

  -- a content that is plain throughout has no comment and no fault of 3 or 4
  pub plain_form : up_to (fails plain) s ≡ length s → length s ≤ longest → form_of s ≡ Ok (length s)
  unfolding form_of all
  plain_form e h =
      let m : up_to opens s ≡ length s = sym opens-from ∙ ap (reach opens s) e ∙ reach-end opens s (length s) (omega arith) in
      let n : note_of s ≡ [] = note-at s ∙ ap (λ (k : ℕ). drop k s) m ∙ drop_of_length-le s {i = length s} (omega arith) in
      let o : all outside (outer_of s) ≡ true = ap (all outside) (outer-at s ∙ ap (λ (k : ℕ). take k s) (m ∙ sym e)) ∙ outside-before in
      simp (le-leb (length s) longest h, n, o, m)
