-- THE LAW: the walk over the lines that come out, each where it stands in the given text, ends as the walk over them where they stand in the mended text, but for where names start. Assumes nothing.
use mathlib.Core.Path.{sym, subst}
use mathlib.Core.List.{List, [], ◌∷◌, ◌++◌}
use Prim.Native.Nat.{ℕ, suc, ◌+◌}
use lib.ListN.{length}
use Rattle.terms.specs.Words.{Bytes}
use Rattle.line.specs.Lines.{lines_of}
use Rattle.grammar.specs.Editions.{Edition}
use Rattle.place.specs.declared.Place.{Place}
use Rattle.place.specs.Step.{first_place}
use Rattle.network.specs.Storing.{Memory}
use Rattle.network.specs.Reaching.{WalkEnd, reaching}
use Rattle.network.proofs.Onward.{going_on, width, one-behind-other}
use Rattle.mend_alike.proofs.Stored.{Alike, alike_same}
use Rattle.mend_alike.proofs.Walks.{EndAlike, stops, ends, one_alike}
use Rattle.mend_law.specs.Mend.{mended_text}
use Rattle.mend_lines.specs.declared.Before.{Before}
use Rattle.mend_lines.specs.declared.Becomes.{Becomes}
use Rattle.mend_lines.specs.declared.Becomes.TheVariants.{Stays, Goes, Recount}
use Rattle.mend_lines.specs.Forward.{none_before_of, change_of}
use Rattle.mend_pieces.specs.Pieces.{piece_of, lines_for, behind_line, mended_lines_of}
use Rattle.mend_told.proofs.Lines.{mended-lines}
use Rattle.mend_walk.specs.Walking.{walked_line, then_on, mended_walk}

-- what follows on walks that ended alike
then-alike : {x y : WalkEnd} → EndAlike x y → (k n : Place → Memory → ℕ → WalkEnd) → ((q : Place) (m d : Memory) (j : ℕ) → Alike m d → EndAlike (k q m j) (n q d j)) → EndAlike (then_on x k) (going_on y n)
then-alike stops k n f = stops
then-alike (ends {p = p} {m = m} {d = d} {i = i} h) k n f = f p m d i h

pub walks-alike : (e : Edition) (b : Before) (ls : List Bytes) (p : Place) (m d : Memory) (start at i : ℕ) → Alike m d → EndAlike (mended_walk e b p m start i ls) (reaching e p d at i (mended_lines_of b ls))
unfolding mended_walk mended_lines_of reaching
walks-alike e b [] p m d start at i h = ends h
walks-alike e b (l ∷ ls) p m d start at i h = go (change_of b l ls) (λ q x y s a j g. walks-alike e (behind_line b l) ls q x y s a j g)
  where
    -- the line comes out as `line`, which is walked at another place
    out : (line : Bytes) (from : ℕ) → ((q : Place) (x y : Memory) (s a j : ℕ) → Alike x y → EndAlike (mended_walk e (behind_line b l) q x s j ls) (reaching e q y a j (mended_lines_of (behind_line b l) ls)))
        → EndAlike (then_on (reaching e p m from i (line ∷ [])) (λ q x j. mended_walk e (behind_line b l) q x (start + suc (length l)) j ls)) (reaching e p d at i (line ∷ mended_lines_of (behind_line b l) ls))
    out line from f = subst (EndAlike _) (sym (one-behind-other e (line ∷ []) (mended_lines_of (behind_line b l) ls) p d at i))
        (then-alike (one_alike e line from at p m d i h) (λ q x j. mended_walk e (behind_line b l) q x (start + suc (length l)) j ls) (λ q y j. reaching e q y (at + width (line ∷ [])) j (mended_lines_of (behind_line b l) ls))
        (λ q x y j g. f q x y (start + suc (length l)) (at + width (line ∷ [])) j g))

    go : (c : Becomes) → ((q : Place) (x y : Memory) (s a j : ℕ) → Alike x y → EndAlike (mended_walk e (behind_line b l) q x s j ls) (reaching e q y a j (mended_lines_of (behind_line b l) ls)))
        → EndAlike (then_on (walked_line e p m start i c l) (λ q x j. mended_walk e (behind_line b l) q x (start + suc (length l)) j ls)) (reaching e p d at i (lines_for c l ++ mended_lines_of (behind_line b l) ls))
    go Stays f = out l start f
    go (Goes k) f = f p m d (start + suc (length l)) at i h
    go (Recount x y n) f = out (piece_of (Recount x y n) l) 0 f

pub mended-alike : (e : Edition) (text : Bytes) (m : Memory) → EndAlike (mended_walk e none_before_of first_place m 0 1 (lines_of text)) (reaching e first_place m 0 1 (lines_of (mended_text text)))
mended-alike e text m = subst (λ (ls : List Bytes). EndAlike (mended_walk e none_before_of first_place m 0 1 (lines_of text)) (reaching e first_place m 0 1 ls)) (sym (mended-lines text)) (walks-alike e none_before_of (lines_of text) first_place m m 0 0 1 (alike_same m))
