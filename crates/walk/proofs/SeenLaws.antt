-- THE LAW: the line that is seen is where the row-th statement of the kind stands. For every file. Assumes nothing.
use mathlib.Core.Path.{◌≡◌, refl, sym, ap, ap₂, ◌∙◌}
use mathlib.Core.List.{List, [], ◌∷◌}
use mathlib.Core.Option.{Option, none, some}
use mathlib.Core.Bool.{Bool, true, false}
use Prim.Native.Nat.{ℕ, zero, suc, ◌+◌, ◌≤◌, ◌<◌}
use native.Mathlib.Omega.{arith}
use lib.ListN.{length, get_or}
use lib.Dec.{eqb}
use borrow.Author.Tests.{eq-eqb, ne_eqb}
use Rattle.terms.specs.Words.{pick}
use Rattle.grammar.specs.Language.{Lang, S, as_kind, all_of}
use Rattle.fill.specs.FirstLines.{here_or_behind, the_place_of}
use Rattle.walk.specs.declared.Seen.{Seen}
use Rattle.walk.specs.Standing.{Where, place, over}
use Rattle.walk.specs.Seeing.{seen_more, more_seen}
use Rattle.walk.proofs.Speaking.{is_some}

-- the line of the i-th place
abbrev pub line_at : List Where → ℕ → ℕ
line_at ws i = (get_or ws i (place 0 0 [])).line

module _ (L : Lang) (k : L.Kind) (wanted : S L → Bool) (wanted-is : (t : S L) → wanted t ≡ is_some (as_kind L k t)) (row : ℕ) where
  abbrev sees : Where → S L → Seen → Seen
  sees w t c = seen_more (wanted t) row w.line c

  -- once it is met, the line stays
  past : (b : Bool) (line : ℕ) (c : Seen) → row < c.count → (row < (seen_more b row line c).count) × ((seen_more b row line c).line ≡ c.line)
  unfolding seen_more
  past true line c h = (omega arith, rw (ne_eqb c.count row (λ (e : c.count ≡ row). omega arith)) refl)
  past false line c h = (h, refl)

  stays : (ws : List Where) (ts : List (S L)) (c : Seen) → row < c.count → (over sees ws ts c).line ≡ c.line
  unfolding over
  stays [] [] c h = refl
  stays [] (t ∷ ts) c h = refl
  stays (w ∷ ws) [] c h = refl
  stays (w ∷ ws) (t ∷ ts) c h = let p = past (wanted t) w.line c h in stays ws ts (sees w t c) p.0 ∙ p.1

  pub seen-there : (ws : List Where) (ts : List (S L)) → length ws ≡ length ts → (c : Seen) (j : ℕ) → row ≡ c.count + j → j < length (all_of L k ts) → (over sees ws ts c).line ≡ line_at ws (the_place_of L k ts j)
  unfolding over the_place_of seen_more
  seen-there [] [] e c j h l = absurd (omega arith)
  seen-there [] (t ∷ ts) e c j h l = absurd (omega arith)
  seen-there (w ∷ ws) [] e c j h l = absurd (omega arith)
  seen-there (w ∷ ws) (t ∷ ts) e c j h l = go (as_kind L k t) refl j h l (λ d i x y. seen-there ws ts (omega (arith, e)) d i x y)
    where
      go : (o : Option (L.Pay k)) → as_kind L k t ≡ o → (j : ℕ) → row ≡ c.count + j → j < length {A = L.Pay k} (elim o [ some v ↦ v ∷ all_of L k ts | none ↦ all_of L k ts ])
          → ((d : Seen) (i : ℕ) → row ≡ d.count + i → i < length (all_of L k ts) → (over sees ws ts d).line ≡ line_at ws (the_place_of L k ts i))
          → (over sees ws ts (sees w t c)).line ≡ line_at (w ∷ ws) (here_or_behind L o j (the_place_of L k ts))
      go none q j h l f = rw (wanted-is t, q) (f c j h l)
      go (some v) q zero h l f =
          let here : c.count ≡ row = omega arith in
          rw (wanted-is t, q) (stays ws ts (record { count = c.count + 1; line = pick (eqb c.count row) w.line c.line }) (omega arith) ∙ rw (eq-eqb c.count row here) refl)
      go (some v) q (suc j) h l f = rw (wanted-is t, q) (f (record { count = c.count + 1; line = pick (eqb c.count row) w.line c.line }) j (omega arith) (omega arith))

-- the program's count is the count as long as there is room for one more
pub counts : (b : Bool) (row line : ℕ) (c : Seen) → c.count < 4294967295 → more_seen b row line c ≡ seen_more b row line c
unfolding more_seen
counts b row line c h = rw (ne_eqb c.count 4294967295 (λ (e : c.count ≡ 4294967295). omega arith))

-- one more at most is counted
pub one_more : (b : Bool) (row line : ℕ) (c : Seen) → (seen_more b row line c).count ≤ c.count + 1
unfolding seen_more
one_more true row line c = omega arith
one_more false row line c = omega arith
