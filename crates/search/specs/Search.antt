-- Executable: the search that marks every point to which one move or more lead from a point, a word to each: 0 not reached; 1 reached beside another; else put on a stack when its top was so much less 2 (0: nothing, else a point + 1).
-- Every store goes to a word that is 0, so that a link once written never changes. Assumes nothing.
use Rattle.terms.specs.Words.{List, [], Bool, not, ℕ, zero, suc, pred, length, replicate, eqb, ltb, leb, pick}
use Rattle.std.specs.Prelude.{get_or, set, ◌∷◌, ◌++◌, ◌+◌, ◌-◌, ◌*◌}
use Rattle.rows.specs.Strides.{exit_stride}
use Rattle.counts.specs.declared.Counts.{Counts}
use Rattle.moves.specs.declared.Part.{Part}
use Rattle.moves.specs.Halving.{first_word, rows_there_of, first_row_from_of}
use Rattle.moves.specs.Moves.{inside, lane_of, the_the_zone_of}

-- the words, and the top of the stack
pub record Marks : Type 0 where
  pub words : List ℕ
  pub top : ℕ

abbrev pub marks : List ℕ → ℕ → Marks
marks words top = record { words = words; top = top }

-- from so many words on, those that are 0 become 1, up to the first that is not
unfoldable pub run : List ℕ → (from left : ℕ) → List ℕ
run w from zero = w
run w from (suc left) = pick (eqb (get_or w from 1) 0) (run (set w from 1) (suc from) left) w

-- the top when a point was put on the stack; 0 where no stack has such a word
unfoldable pub below : List ℕ → ℕ → ℕ
below w b = pick (leb (get_or w b 0 - 2) (length w)) (get_or w b 0 - 2) 0

-- spread: what is marked with a point, which is marked already: its lane from there on, or its zone
module _ (spread : List ℕ → ℕ → List ℕ) where
  -- a point is reached: where it is not yet, it is put on the stack
  unfoldable pub reached : Marks → ℕ → Marks
  reached s b = pick (eqb (get_or s.words b 1) 0) (marks (spread (set s.words b (s.top + 2)) b) (b + 1)) s

  -- what an exit leads to, where it leaves a point from `least` to `last`
  unfoldable pub entry_taken : (least last source entry : ℕ) → Marks → Marks
  entry_taken least last source entry s = pick (leb least source) (pick (leb source last) (reached s entry) s) s

  unfoldable pub reach_all : Marks → List ℕ → Marks
  reach_all s [] = s
  reach_all s (d ∷ ds) = reach_all (reached s d) ds

  -- the top is taken off, and what the exits of its own lead to is reached
  unfoldable pub popped : (targets : ℕ → List ℕ) → Marks → Marks
  popped targets s = reach_all (marks s.words (below s.words (pred s.top))) (targets (pred s.top))

  -- so many times, while there is one
  unfoldable pub searched : (targets : ℕ → List ℕ) → ℕ → Marks → Marks
  searched targets zero s = s
  searched targets (suc k) s = pick (eqb s.top 0) s (searched targets k (popped targets s))

-- ## Over tables
-- what is marked with a point: its lane from there on, or its zone
unfoldable pub spread : (lanes zones : List ℕ) → Counts → List ℕ → ℕ → List ℕ
spread lanes zones c w b = pick (inside (lane_of lanes c.lanes b) b)
    (run w (b + 1) ((lane_of lanes c.lanes b).behind - (b + 1)))
    (pick (inside (the_the_zone_of zones c.zones b) b) (run (run w (the_the_zone_of zones c.zones b).first (b - (the_the_zone_of zones c.zones b).first)) (b + 1) ((the_the_zone_of zones c.zones b).behind - (b + 1))) w)

-- of `left` exit rows from this one on, up to the first that does not leave a point before `behind`, the entries of those that leave one from `least` to `last`
unfoldable pub entries : (exits : List ℕ) → (behind least last row left : ℕ) → List ℕ
entries exits behind least last row zero = []
entries exits behind least last row (suc left) = pick (ltb (first_word exits exit_stride row) behind)
    (pick (leb least (first_word exits exit_stride row))
    (pick (leb (first_word exits exit_stride row) last) (get_or exits (row * exit_stride + 1) 0 ∷ entries exits behind least last (suc row) left) (entries exits behind least last (suc row) left))
    (entries exits behind least last (suc row) left))
    []

-- of a part
unfoldable pub own_entries : (exits : List ℕ) → (count : ℕ) → Part → (least last : ℕ) → List ℕ
own_entries exits count p least last = entries exits p.behind least last (first_row_from_of exits exit_stride count p.first) (rows_there_of exits exit_stride count - first_row_from_of exits exit_stride count p.first)

-- what the exits of a point's own lead to
unfoldable pub targets : (lanes zones exits : List ℕ) → Counts → ℕ → List ℕ
targets lanes zones exits c b = pick (inside (lane_of lanes c.lanes b) b)
    (own_entries exits c.exits (lane_of lanes c.lanes b) b (lane_of lanes c.lanes b).behind)
    (pick (inside (the_the_zone_of zones c.zones b) b) (own_entries exits c.exits (the_the_zone_of zones c.zones b) (the_the_zone_of zones c.zones b).first (the_the_zone_of zones c.zones b).behind) [])

-- where a search begins: the next point in the lane, or another one of the zone; and what the point's own exits lead to
abbrev pub next_of : Part → ℕ → List ℕ
next_of p a = pick (inside p (a + 1)) ((a + 1) ∷ []) []

abbrev pub other_of : Part → ℕ → List ℕ
other_of p a = pick (eqb a p.first) (next_of p a) (p.first ∷ [])

unfoldable pub firsts : (lanes zones exits : List ℕ) → Counts → ℕ → List ℕ
firsts lanes zones exits c a = pick (inside (lane_of lanes c.lanes a) a)
    (next_of (lane_of lanes c.lanes a) a ++ own_entries exits c.exits (lane_of lanes c.lanes a) a a)
    (pick (inside (the_the_zone_of zones c.zones a) a) (other_of (the_the_zone_of zones c.zones a) a ++ own_entries exits c.exits (the_the_zone_of zones c.zones a) a a) [])

-- the whole search, over words that are 0
unfoldable pub search : (lanes zones exits : List ℕ) → Counts → List ℕ → (from : ℕ) → List ℕ
search lanes zones exits c w from = (searched (spread lanes zones c) (targets lanes zones exits c) (length w) (reach_all (spread lanes zones c) (marks w 0) (firsts lanes zones exits c from))).words

-- what a search from a point leaves in so many words, those of the points: zeros where the point is not among them, or where a link would not fit a word
abbrev pub found_from : (lanes zones exits : List ℕ) → Counts → (len from : ℕ) → List ℕ
found_from lanes zones exits c len from = pick (ltb from len) (pick (ltb len 4294967294) (search lanes zones exits c (replicate len 0) from) (replicate len 0)) (replicate len 0)

-- whether one move or more lead from a point to another, by so many words
unfoldable pub leads_to_of : (lanes zones exits : List ℕ) → Counts → (len from to : ℕ) → Bool
leads_to_of lanes zones exits c len from to = not (eqb (get_or (found_from lanes zones exits c len from) to 0) 0)
