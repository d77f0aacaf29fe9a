-- Where a scan for two bytes stops, said by `Without`. Assumes nothing.
use mathlib.Core.Path.{◌≡◌, refl, sym, ap, ◌∙◌}
use mathlib.Core.List.{[], ◌∷◌, ◌++◌, append_assoc}
use mathlib.Core.Bool.{Bool, true, false, ◌&&◌, and-false}
use Prim.Native.Nat.{ℕ, suc, ◌+◌, ◌≤◌, ◌<◌}
use native.Mathlib.Omega.{arith}
use borrow.Author.Tests.{eqb-true, eq-eqb, ne_eqb, ltb-true, ltb-false}
use lib.ListN.{length, take, drop, length-append, take-append-drop}
use lib.Seq.{drop-drop, drop-append_seam, length-take-le}
use lib.Dec.{eqb, ltb}
use Rattle.terms.specs.Ascii.{Bytes}
use Rattle.terms.specs.Words.{pick}
use Rattle.scan.specs.Reach.{up_to, first, two, stops_by}
use Rattle.scan.specs.declared.Until.TheVariants.{Two}
use Rattle.terms.proofs.Tests.{clash, both, and}
use Rattle.scan.proofs.Reach.{up_to_le, up_to_go, up_to_stop, up_to_hit, up_to_before}
use Rattle.line.specs.Content.{Without}

two_is : (x y : ℕ) (l : Bytes) → two x y l ≡ true → l ≡ x ∷ y ∷ drop 2 l
unfolding two first
two_is x y [] e = clash (sym e)
two_is x y (b ∷ []) e = clash (sym (both (eqb b x) false e).1)
two_is x y (b ∷ d ∷ r) e = let p = both (eqb b x) (eqb d y) e in rw (eqb-true b x p.0, eqb-true d y p.1)

two_here : (x y : ℕ) (l : Bytes) → two x y (x ∷ y ∷ l) ≡ true
unfolding two first
two_here x y l = and (eq-eqb x x refl) (eq-eqb y y refl)

module _ (x y : ℕ) where
  -- it stands nowhere before the stop
  nowhere-before : (l before behind : Bytes) → l ≡ before ++ (x ∷ y ∷ behind) → up_to (stops_by (Two x y)) l ≤ length before
  unfolding stops_by
  nowhere-before l before behind e = go (ltb (length before) (up_to (two x y) l)) refl
    where
      there : two x y (drop (length before) l) ≡ true
      there = ap (λ (l : Bytes). two x y (drop (length before) l)) e ∙ ap (two x y) (drop-append_seam before (x ∷ y ∷ behind)) ∙ two_here x y behind

      go : (z : Bool) → ltb (length before) (up_to (two x y) l) ≡ z → up_to (two x y) l ≤ length before
      go true q = clash (sym there ∙ up_to_before (two x y) l (length before) (ltb-true (length before) (up_to (two x y) l) q))
      go false q = ltb-false (length before) (up_to (two x y) l) q

  -- a scan that stops inside: there they stand, and not before
  pub find-here : (l : Bytes) → up_to (stops_by (Two x y)) l < length l → drop (up_to (stops_by (Two x y)) l) l ≡ x ∷ y ∷ drop (up_to (stops_by (Two x y)) l + 2) l
  unfolding stops_by
  find-here l h =
      let u = up_to (two x y) l in
      two_is x y (drop u l) (up_to_hit (two x y) l h) ∙ ap (λ (r : Bytes). x ∷ y ∷ r) (drop-drop 2 u l)

  pub find-is : (l : Bytes) → up_to (stops_by (Two x y)) l < length l → l ≡ take (up_to (stops_by (Two x y)) l) l ++ (x ∷ y ∷ drop (up_to (stops_by (Two x y)) l + 2) l)
  find-is l h =
      let u = up_to (stops_by (Two x y)) l in
      sym (take-append-drop u l) ∙ ap (◌++◌ (take u l)) (find-here l h)

  pub find_first : (l : Bytes) → Without (x ∷ y ∷ []) (take (up_to (stops_by (Two x y)) l) l)
  find_first l before behind e =
      let u = up_to (stops_by (Two x y)) l in
      let k : length (take u l) ≡ u = length-take-le u l (up_to_le (stops_by (Two x y)) l) in
      let n : length (take u l) ≡ length before + suc (suc (length behind)) = ap length e ∙ length-append before (x ∷ y ∷ behind) in
      let i : l ≡ before ++ (x ∷ y ∷ (behind ++ drop u l)) = sym (take-append-drop u l) ∙ ap (λ (a : Bytes). a ++ drop u l) e ∙ append_assoc before (x ∷ y ∷ behind) (drop u l) in
      let m : u ≤ length before = nowhere-before l before (behind ++ drop u l) i in
      omega arith

  -- one that reaches the end: they stand nowhere
  pub find_none : (l : Bytes) → length l ≤ up_to (stops_by (Two x y)) l → Without (x ∷ y ∷ []) l
  find_none l h before behind e =
      let n : length l ≡ length before + suc (suc (length behind)) = ap length e ∙ length-append before (x ∷ y ∷ behind) in
      let m : up_to (stops_by (Two x y)) l ≤ length before = nowhere-before l before behind e in
      omega arith

  -- where they stand nowhere it reaches the end
  pub lost : (l : Bytes) → Without (x ∷ y ∷ []) l → up_to (stops_by (Two x y)) l ≡ length l
  unfolding stops_by up_to
  lost [] w = refl
  lost (b ∷ t) w = go (two x y (b ∷ t)) refl (lost t (λ before behind e. w (b ∷ before) behind (ap (◌∷◌ b) e)))
    where
      go : (z : Bool) → two x y (b ∷ t) ≡ z → up_to (two x y) t ≡ length t → pick z 0 (suc (up_to (two x y) t)) ≡ length (b ∷ t)
      go true q ih = absurd (w [] (drop 2 (b ∷ t)) (two_is x y (b ∷ t) q))
      go false q ih = ap suc ih

  not_yet : (x ≡ y → ⊥) → (b : ℕ) (t behind : Bytes) → Without (x ∷ y ∷ []) (b ∷ t) → two x y (b ∷ (t ++ (x ∷ y ∷ behind))) ≡ false
  unfolding two first
  not_yet n b [] behind w = rw (ne_eqb x y n) (and-false (eqb b x))
  not_yet n b (d ∷ t) behind w = go (eqb b x && eqb d y) refl
    where
      go : (z : Bool) → (eqb b x && eqb d y) ≡ z → z ≡ false
      go true q = absurd (w [] t (two_is x y (b ∷ d ∷ t) q))
      go false q = refl

  -- and where they stand for the first time it stops there
  pub found : (x ≡ y → ⊥) → (before behind : Bytes) → Without (x ∷ y ∷ []) before → up_to (stops_by (Two x y)) (before ++ (x ∷ y ∷ behind)) ≡ length before
  unfolding stops_by
  found n [] behind w = up_to_stop (two x y) (x ∷ y ∷ behind) (two_here x y behind)
  found n (b ∷ t) behind w = up_to_go (two x y) b (t ++ (x ∷ y ∷ behind)) (not_yet n b t behind w) ∙ ap suc (found n t behind (λ p q e. w (b ∷ p) q (ap (◌∷◌ b) e)))
