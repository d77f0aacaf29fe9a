-- Laws of `index_of` for any list of words. Assumes nothing.
use mathlib.Core.Path.{◌≡◌, refl, ap, ◌∙◌}
use mathlib.Core.Logic.{inl, inr}
use mathlib.Core.List.{List, [], ◌∷◌}
use mathlib.Core.Bool.{Bool, true, false}
use Prim.Native.Nat.{ℕ, suc, ◌≤◌, ◌<◌}
use native.Mathlib.Omega.{arith}
use borrow.Author.Tests.{eqb-true}
use lib.ListN.{length, get_or}
use lib.Dec.{eqb}
use Rattle.terms.specs.Ascii.{Bytes}
use Rattle.terms.specs.Words.{pick, Among}
use Rattle.terms.proofs.Computed.{all_below, below}
use Rattle.scan.specs.Reach.{same_bytes_of}
use Rattle.scan.proofs.Equal.{same-equal, equal-same}
use Rattle.word.specs.Number.{index_of}

pub index-most : (s : Bytes) (ws : List Bytes) → index_of s ws ≤ length ws
unfolding index_of
index-most s [] = omega arith
index-most s (w ∷ ws) = go (same_bytes_of s w) (index-most s ws)
  where
    go : (x : Bool) → index_of s ws ≤ length ws → pick x 0 (suc (index_of s ws)) ≤ suc (length ws)
    go true ih = omega arith
    go false ih = omega arith

-- a number below the list's length is that of the word which s is
pub index_word : (s : Bytes) (ws : List Bytes) → index_of s ws < length ws → s ≡ get_or ws (index_of s ws) []
unfolding index_of
index_word s [] h = absurd (omega arith)
index_word s (w ∷ ws) h = go (same_bytes_of s w) refl h (index_word s ws)
  where
    go : (x : Bool) → same_bytes_of s w ≡ x → pick x 0 (suc (index_of s ws)) < suc (length ws) → (index_of s ws < length ws → s ≡ get_or ws (index_of s ws) [])
        → s ≡ get_or (w ∷ ws) (pick x 0 (suc (index_of s ws))) []
    go true e h ih = same-equal s w e
    go false e h ih = ih (omega arith)

-- so s is one of the words exactly where its number is below the list's length
pub index-among : (s : Bytes) (ws : List Bytes) → index_of s ws < length ws → Among s ws
unfolding index_of
index-among s [] h = absurd (omega arith)
index-among s (w ∷ ws) h = go (same_bytes_of s w) refl h (index-among s ws)
  where
    go : (x : Bool) → same_bytes_of s w ≡ x → pick x 0 (suc (index_of s ws)) < suc (length ws) → (index_of s ws < length ws → Among s ws) → Among s (w ∷ ws)
    go true e h ih = inl (same-equal s w e)
    go false e h ih = inr (ih (omega arith))

pub among_index : (s : Bytes) (ws : List Bytes) → Among s ws → index_of s ws < length ws
unfolding index_of
among_index s [] m = absurd m
among_index s (w ∷ ws) (inl e) = rw (equal-same s w e) (omega arith)
among_index s (w ∷ ws) (inr m) = go (same_bytes_of s w) (among_index s ws m)
  where
    go : (x : Bool) → index_of s ws < length ws → pick x 0 (suc (index_of s ws)) < suc (length ws)
    go true ih = omega arith
    go false ih = omega arith

-- no word stands twice: each is found at its own place
abbrev pub all_differ : List Bytes → Bool
all_differ ws = all_below (λ k. eqb (index_of (get_or ws k []) ws) k) (length ws)

module _ (ws : List Bytes) (d : all_differ ws ≡ true) (k : ℕ) (h : k < length ws) where
  pub own-place : index_of (get_or ws k []) ws ≡ k
  own-place = eqb-true (index_of (get_or ws k []) ws) k (below (λ k. eqb (index_of (get_or ws k []) ws) k) (length ws) d k h)

  pub word-index : (s : Bytes) → s ≡ get_or ws k [] → index_of s ws ≡ k
  word-index s e = ap (λ (w : Bytes). index_of w ws) e ∙ own-place
