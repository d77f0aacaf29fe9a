-- The rank of a word, by comparison with the options. Assumes nothing.
use mathlib.Core.Path.{◌≡◌, refl, sym, ap, ◌∙◌}
use mathlib.Core.List.{[]}
use mathlib.Core.Bool.{Bool, true, false}
use Prim.Native.Nat.{ℕ, ◌≤◌, ◌<◌}
use native.Mathlib.Omega.{arith}
use borrow.Author.Tests.{eqb-true, leb-true, ltb-true, ltb-false}
use lib.ListN.{length, get_or}
use lib.Dec.{eqb, leb, ltb}
use Rattle.terms.specs.Ascii.{Bytes, ascii}
use Rattle.terms.proofs.Computed.{below}
use Rattle.scan.specs.Reach.{same_bytes_of}
use Rattle.scan.proofs.Equal.{same_false}
use Rattle.word.specs.Keywords.{rndf_keywords}
use Rattle.word.specs.Number.{index_of}
use Rattle.word.proofs.Index.{index-most, index_word, word-index}
use Rattle.word.proofs.Keywords.{rndf-differ}
use Rattle.house_lines.specs.Arranged.{ranks}
use Rattle.house_lines.specs.Said.{rank_word, first_of, rank_by_same}

keywords-long : length rndf_keywords ≡ 29
unfolding rndf_keywords
keywords-long = refl

index_below : (s : Bytes) → index_of s rndf_keywords < 30
index_below s = omega (arith, index-most s rndf_keywords, keywords-long)

-- no rank is that of a blank line
pub rank-low : (s : Bytes) → rank_word s ≤ 7
unfolding rank_word
rank-low s = leb-true _ _ (below (λ i. leb (get_or ranks i 0) 7) 30 (unfold ranks in refl) (index_of s rndf_keywords) (index_below s))

-- of each keyword
keyword-rank : (i : ℕ) → i < 29 → rank_by_same (get_or rndf_keywords i []) ≡ get_or ranks i 0
keyword-rank i h =
    eqb-true _ _ (below (λ i. eqb (rank_by_same (get_or rndf_keywords i [])) (get_or ranks i 0)) 29 (unfold ranks rndf_keywords rank_by_same first_of same_bytes_of ascii in refl) i h)

-- and of any other word
unlike : (w v : Bytes) (k : ℕ) → k < 29 → v ≡ get_or rndf_keywords k [] → index_of w rndf_keywords ≡ 29 → same_bytes_of w v ≡ false
unlike w v k h q e = same_false w v (λ z. omega (arith, e, word-index rndf_keywords rndf-differ k (rw keywords-long h) w (z ∙ q)))

no-option : (w : Bytes) → index_of w rndf_keywords ≡ 29 → rank_by_same w ≡ 0
unfolding rank_by_same first_of
no-option w e =
    rw (
      unlike w (ascii "exit") 16 (omega arith) (unfold rndf_keywords in refl) e,
      unlike w (ascii "stop") 15 (omega arith) (unfold rndf_keywords in refl) e,
      unlike w (ascii "checkpoint") 14 (omega arith) (unfold rndf_keywords in refl) e,
      unlike w (ascii "right_boundary") 13 (omega arith) (unfold rndf_keywords in refl) e,
      unlike w (ascii "left_boundary") 12 (omega arith) (unfold rndf_keywords in refl) e,
      unlike w (ascii "creation_date") 4 (omega arith) (unfold rndf_keywords in refl) e,
      unlike w (ascii "lane_width") 11 (omega arith) (unfold rndf_keywords in refl) e,
      unlike w (ascii "spot_width") 26 (omega arith) (unfold rndf_keywords in refl) e,
      unlike w (ascii "segment_name") 7 (omega arith) (unfold rndf_keywords in refl) e,
      unlike w (ascii "zone_name") 20 (omega arith) (unfold rndf_keywords in refl) e,
      unlike w (ascii "format_version") 3 (omega arith) (unfold rndf_keywords in refl) e,
    )

-- so the comparisons give the rank
pub rank_same : (w : Bytes) → rank_by_same w ≡ rank_word w
unfolding rank_word
rank_same w = go (ltb i 29) refl
  where
    i : ℕ
    i = index_of w rndf_keywords

    go : (b : Bool) → ltb i 29 ≡ b → rank_by_same w ≡ get_or ranks i 0
    go true q =
        let h : i < 29 = ltb-true i 29 q in
        ap rank_by_same (index_word w rndf_keywords (rw keywords-long h)) ∙ keyword-rank i h
    go false q =
        let e : i ≡ 29 = omega (arith, ltb-false i 29 q, index_below w) in
        no-option w e ∙ sym (ap (λ (i : ℕ). get_or ranks i 0) e ∙ (unfold ranks in refl))
