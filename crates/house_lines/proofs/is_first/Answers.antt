-- `house_lines::is_first` meets its contract. Assumes nothing.
use mathlib.Core.Path.{◌≡◌, refl, sym, ◌∙◌}
use mathlib.Core.Bool.{Bool, true, false}
use Rattle.terms.specs.Ascii.{ascii}
use Rattle.terms.specs.Words.{pick}
use Rattle.scan.specs.Reach.{same_bytes_of}
use Rattle.house_lines.specs.Said.{first_of}
use Rattle.house_lines.proofs.is_first.Goals.{then-same, else-same, then-same-2, else-same-2, then-same-3, else-same-3}
use Rattle.house_lines.proofs.is_first.Goals as goal

-- five of them, taken from the left or from the right
regrouped : (a b c d e : Bool) → pick (pick (pick (pick a true b) true c) true d) true e ≡ pick a true (pick b true (pick c true (pick d true e)))
regrouped true b c d e = refl
regrouped false true c d e = refl
regrouped false false true d e = refl
regrouped false false false true e = refl
regrouped false false false false e = refl

chained : (a b c d e : Bool) {l m n : Bool} → l ≡ pick a true b → m ≡ pick l true c → n ≡ pick m true d → pick n true e ≡ pick a true (pick b true (pick c true (pick d true e)))
chained a b c d e h i j = rw (j, i, h) (regrouped a b c d e)

pub returns-then-same-4 : goal.returns-then-same-4
unfolding first_of ascii
returns-then-same-4 c =
    let w = c.args.word.now in
    let l : c.if-same.value ≡ pick (same_bytes_of w (ascii "lane_width")) true (same_bytes_of w (ascii "spot_width")) =
    elim c.if-same.branch [
      | then-same k ↦ k.value-is ∙ rw (sym c.same.ensures ∙ k.if-same.true) k.if-same.true
      | else-same k ↦ k.value-is ∙ rw (sym c.same.ensures ∙ k.if-same.false) k.same-else-same.ensures
    ] in
    let m : c.if-same-2.value ≡ pick c.if-same.value true (same_bytes_of w (ascii "segment_name")) =
    elim c.if-same-2.branch [
      | then-same-2 k ↦ k.value-is ∙ rw k.if-same-2.true refl
      | else-same-2 k ↦ k.value-is ∙ rw k.if-same-2.false k.same-else-same-2.ensures
    ] in
    let n : c.if-same-3.value ≡ pick c.if-same-2.value true (same_bytes_of w (ascii "zone_name")) =
    elim c.if-same-3.branch [
      | then-same-3 k ↦ k.value-is ∙ rw k.if-same-3.true refl
      | else-same-3 k ↦ k.value-is ∙ rw k.if-same-3.false k.same-else-same-3.ensures
    ] in
    let all = chained (same_bytes_of w (ascii "lane_width")) (same_bytes_of w (ascii "spot_width")) (same_bytes_of w (ascii "segment_name")) (same_bytes_of w (ascii "zone_name")) (same_bytes_of w (ascii "format_version")) l m n in
    c.if-same-4.true ∙ rw c.if-same-4.true at all

pub returns-else-same-4 : goal.returns-else-same-4
unfolding first_of ascii
returns-else-same-4 c =
    let w = c.args.word.now in
    let l : c.if-same.value ≡ pick (same_bytes_of w (ascii "lane_width")) true (same_bytes_of w (ascii "spot_width")) =
    elim c.if-same.branch [
      | then-same k ↦ k.value-is ∙ rw (sym c.same.ensures ∙ k.if-same.true) k.if-same.true
      | else-same k ↦ k.value-is ∙ rw (sym c.same.ensures ∙ k.if-same.false) k.same-else-same.ensures
    ] in
    let m : c.if-same-2.value ≡ pick c.if-same.value true (same_bytes_of w (ascii "segment_name")) =
    elim c.if-same-2.branch [
      | then-same-2 k ↦ k.value-is ∙ rw k.if-same-2.true refl
      | else-same-2 k ↦ k.value-is ∙ rw k.if-same-2.false k.same-else-same-2.ensures
    ] in
    let n : c.if-same-3.value ≡ pick c.if-same-2.value true (same_bytes_of w (ascii "zone_name")) =
    elim c.if-same-3.branch [
      | then-same-3 k ↦ k.value-is ∙ rw k.if-same-3.true refl
      | else-same-3 k ↦ k.value-is ∙ rw k.if-same-3.false k.same-else-same-3.ensures
    ] in
    let all = chained (same_bytes_of w (ascii "lane_width")) (same_bytes_of w (ascii "spot_width")) (same_bytes_of w (ascii "segment_name")) (same_bytes_of w (ascii "zone_name")) (same_bytes_of w (ascii "format_version")) l m n in
    c.same-else-same-4.ensures ∙ rw c.if-same-4.false at all
