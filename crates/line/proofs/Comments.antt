-- A content's parts and its comment, by where scans stop. Assumes nothing.
use mathlib.Core.Path.{◌≡◌, refl, ap, ◌∙◌}
use mathlib.Core.List.{[], ◌∷◌, ◌++◌}
use mathlib.Core.Bool.{Bool, true, false}
use Prim.Native.Nat.{suc, ◌+◌, ◌≤◌, ◌<◌}
use native.Mathlib.Omega.{arith}
use lib.ListN.{length, take, drop, length-drop, drop_of_length-le}
use lib.Seq.{drop-drop}
use Rattle.terms.specs.Ascii.{Bytes}
use Rattle.terms.specs.Words.{pick}
use Rattle.scan.specs.Allowed.{separates, all}
use Rattle.scan.specs.Reach.{two, up_to, stops_by}
use Rattle.line.specs.Forms.{opens, shuts, outer_of, note_of, closes, closed_note, shut}

-- what stands before the mark, and from there on
pub outer-at : (l : Bytes) → outer_of l ≡ take (up_to opens l) l
unfolding up_to outer_of stops_by
outer-at [] = refl
outer-at (b ∷ t) = go (two 47 42 (b ∷ t)) (outer-at t)
  where
    go : (x : Bool) → outer_of t ≡ take (up_to opens t) t → pick x [] (b ∷ outer_of t) ≡ take (pick x 0 (suc (up_to opens t))) (b ∷ t)
    go true e = refl
    go false e = ap (◌∷◌ b) e

pub note-at : (l : Bytes) → note_of l ≡ drop (up_to opens l) l
unfolding up_to note_of stops_by
note-at [] = refl
note-at (b ∷ t) = go (two 47 42 (b ∷ t)) (note-at t)
  where
    go : (x : Bool) → note_of t ≡ drop (up_to opens t) t → pick x (b ∷ t) (note_of t) ≡ drop (pick x 0 (suc (up_to opens t))) (b ∷ t)
    go true e = refl
    go false e = e

pub parts : (c : Bytes) → outer_of c ++ note_of c ≡ c
unfolding outer_of note_of
parts [] = refl
parts (b ∷ t) = go (two 47 42 (b ∷ t)) (parts t)
  where
    go : (x : Bool) → outer_of t ++ note_of t ≡ t → pick x [] (b ∷ outer_of t) ++ pick x (b ∷ t) (note_of t) ≡ b ∷ t
    go true e = refl
    go false e = ap (◌∷◌ b) e

-- ## Closed
closes-hit : (l : Bytes) → up_to shuts l < length l → closes l ≡ all separates (drop 2 (drop (up_to shuts l) l))
unfolding up_to closes stops_by
closes-hit [] h = absurd (omega arith)
closes-hit (b ∷ t) h = go (two 42 47 (b ∷ t)) h (closes-hit t)
  where
    go : (x : Bool) → pick x 0 (suc (up_to shuts t)) < length (b ∷ t) → (up_to shuts t < length t → closes t ≡ all separates (drop 2 (drop (up_to shuts t) t))) → pick x (all separates (drop 1 t)) (closes t) ≡ all separates (drop 2 (drop (pick x 0 (suc (up_to shuts t))) (b ∷ t)))
    go true h ih = refl
    go false h ih = ih (omega arith)

pub closes-some : (l : Bytes) → up_to shuts l < length l → closes l ≡ all separates (drop (up_to shuts l + 2) l)
closes-some l h = closes-hit l h ∙ ap (all separates) (drop-drop 2 (up_to shuts l) l)

pub closes-none : (l : Bytes) → length l ≤ up_to shuts l → closes l ≡ false
unfolding up_to closes stops_by
closes-none [] h = refl
closes-none (b ∷ t) h = go (two 42 47 (b ∷ t)) h (closes-none t)
  where
    go : (x : Bool) → length (b ∷ t) ≤ pick x 0 (suc (up_to shuts t)) → (length t ≤ up_to shuts t → closes t ≡ false) → pick x (all separates (drop 1 t)) (closes t) ≡ false
    go true h ih = absurd (omega arith)
    go false h ih = ih (omega arith)

note-some : (n : Bytes) → 0 < length n → closed_note n ≡ closes (drop 2 n)
note-some [] h = absurd (omega arith)
note-some (b ∷ t) h = refl

pub shut-some : (l : Bytes) → up_to opens l < length l → shut l ≡ closes (drop (up_to opens l + 2) l)
shut-some l h =
    let u = up_to opens l in
    ap closed_note (note-at l) ∙ note-some (drop u l) (omega (arith, length-drop u l)) ∙ ap closes (drop-drop 2 u l)

pub shut_none : (l : Bytes) → length l ≤ up_to opens l → shut l ≡ true
shut_none l h = ap closed_note (note-at l ∙ drop_of_length-le l h)
