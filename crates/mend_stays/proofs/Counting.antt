-- Items over lines one behind the other add up until the end word stands there (`closes-both`), so a count line is right where its number is the sum; lines that begin with no count's word are right anyway (`counted-other`). Assumes nothing.
use mathlib.Core.Path.{◌≡◌, ◌∙◌}
use mathlib.Core.List.{append_assoc}
use native.Mathlib.Omega.{arith}
use Rattle.terms.specs.Words.{List, [], ◌∷◌, ◌++◌, map, Bool, true, false, not, ◌&&◌, ◌||◌, ℕ, suc, ◌+◌, length, Bytes, ascii, pick, InTurn, nothing, then}
use Rattle.terms.proofs.Tests.{clash, both}
use Rattle.scan.specs.Reach.{same_bytes_of}
use Rattle.law.specs.Network.{Line, Position, points}
use Rattle.mend_law.specs.Mend.{one_of, Count, count_lines}
use Rattle.mend_stays.specs.Said.{key, word_of, item_of, end_of, items_of, Right, CountRight, Counted}
use Rattle.mend_stays.proofs.Small.{not-true}
use Rattle.mend_stays.proofs.Passing.{Passes}

-- ## Lines that are no counts
abbrev pub count-words : List Count → List Bytes
count-words = map word_of

abbrev pub no-count : Bytes → Bool
no-count k = not (one_of (count-words count_lines) k)

count_none : (cs : List Count) (l : Line) (rest : List Line) → one_of (count-words cs) (key l) ≡ false → CountRight cs l rest
count_none [] l rest e = tt
count_none (c ∷ cs) l rest e = go (same_bytes_of (key l) (word_of c)) e (count_none cs l rest)
  where
    go : (x : Bool) → (x || one_of (count-words cs) (key l)) ≡ false → (one_of (count-words cs) (key l) ≡ false → CountRight cs l rest) → pick x (Right c rest l) (CountRight cs l rest)
    go true e h = clash e
    go false e h = h e

pub counted-other : (a rest : List Line) → Passes no-count a → Counted rest → Counted (a ++ rest)
unfolding Counted
counted-other [] rest p h = h
counted-other (l ∷ a) rest p h = (count_none count_lines l (a ++ rest) (not-true (one_of (count-words count_lines) (key l)) p.0), counted-other a rest p.1 h)

pub counted-turn : {A : Type 0} (Sp : ℕ → A → List Line → Type 0) → ((i : ℕ) (a : A) (u rest : List Line) → Sp i a u → Counted rest → Counted (u ++ rest)) → {i : ℕ} {xs : List A} {w : List Line} → InTurn Sp i xs w → (rest : List Line) → Counted rest → Counted (w ++ rest)
counted-turn Sp h nothing rest c = c
counted-turn Sp h (then {i = i} {a = a} {u = u} {v = v} s t) rest c = rw (append_assoc u v rest) (h i a u (v ++ rest) s (counted-turn Sp h t rest c))

-- ## Items
module _ (c : Count) where
  -- n items and no end word; n items before the end word
  abbrev pub Tally : ℕ → List Line → Type 0
  Tally n a = (rest : List Line) → items_of c (a ++ rest) ≡ n + items_of c rest

  abbrev pub Closes : ℕ → List Line → Type 0
  Closes n a = (rest : List Line) → items_of c (a ++ rest) ≡ n

  -- neither an item nor the end word
  abbrev pub other : Bytes → Bool
  other k = not (same_bytes_of k (end_of c)) && not (item_of c k)

  pub tally-other : (a : List Line) → Passes other a → Tally 0 a
  unfolding items_of
  tally-other [] p rest = omega arith
  tally-other (l ∷ a) p rest =
      let b = both (not (same_bytes_of (key l) (end_of c))) (not (item_of c (key l))) p.0 in
      rw (not-true (same_bytes_of (key l) (end_of c)) b.0, not-true (item_of c (key l)) b.1) (tally-other a p.1 rest)

  item-one : (l : Line) (rest : List Line) → same_bytes_of (key l) (end_of c) ≡ false → item_of c (key l) ≡ true → items_of c (l ∷ rest) ≡ 1 + items_of c rest
  unfolding items_of
  item-one l rest e h = rw (e, h) (omega arith)

  -- an item, and nothing else that counts
  pub tally-one : (l : Line) (a : List Line) → same_bytes_of (key l) (end_of c) ≡ false → item_of c (key l) ≡ true → Passes other a → Tally 1 (l ∷ a)
  tally-one l a e h p rest = rw (item-one l (a ++ rest) e h, tally-other a p rest) (omega arith)

  pub tally-points : (m n i : ℕ) (ps : List Position) → same_bytes_of (ascii "0") (end_of c) ≡ false → item_of c (ascii "0") ≡ true → Tally (length ps) (points m n i ps)
  unfolding points items_of
  tally-points m n i [] e h rest = omega arith
  tally-points m n i (p ∷ ps) e h rest = rw (e, h, tally-points m n (suc i) ps e h rest) (omega arith)

  -- parts that are an item each
  pub tally-turn : {A : Type 0} (Sp : ℕ → A → List Line → Type 0) → ((i : ℕ) (a : A) (u : List Line) → Sp i a u → Tally 1 u) → {i : ℕ} {xs : List A} {w : List Line} → InTurn Sp i xs w → Tally (length xs) w
  tally-turn Sp h nothing rest = omega arith
  tally-turn Sp h (then {i = i} {a = a} {u = u} {v = v} s t) rest = rw (append_assoc u v rest, h i a u s (v ++ rest), tally-turn Sp h t rest) (omega arith)

  pub closes-end : (l : Line) → same_bytes_of (key l) (end_of c) ≡ true → Closes 0 (l ∷ [])
  unfolding items_of
  closes-end l e rest = rw e

  pub closes-both : (m n : ℕ) (a b : List Line) → Tally m a → Closes n b → Closes (m + n) (a ++ b)
  closes-both m n a b p q rest = rw (append_assoc a b rest, p (b ++ rest), q rest)

  -- lines that do not count, items, lines that do not count, the end
  pub closes-part : {n : ℕ} (a b d : List Line) (l : Line) → Passes other a → Tally n b → Passes other d → same_bytes_of (key l) (end_of c) ≡ true → Closes n (a ++ (b ++ (d ++ (l ∷ []))))
  closes-part {n} a b d l p q r e rest = closes-both 0 (n + (0 + 0)) a (b ++ (d ++ (l ∷ []))) (tally-other a p) (closes-both n (0 + 0) b (d ++ (l ∷ [])) q (closes-both 0 0 d (l ∷ []) (tally-other d r) (closes-end l e))) rest ∙ sum
    where
      sum : 0 + (n + (0 + 0)) ≡ n
      sum = omega arith
