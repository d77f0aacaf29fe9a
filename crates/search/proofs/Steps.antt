-- The laws of the loops: what is left says what all says. Assumes nothing.
use mathlib.Core.Path.{◌≡◌, refl, sym, ap, subst, ◌∙◌}
use mathlib.Core.Bool.{Bool, true, false, not}
use mathlib.Core.List.{List, [], ◌∷◌, ◌++◌}
use Prim.Native.Nat.{ℕ, zero, suc, pred, ◌+◌, ◌-◌, ◌*◌, ◌≤◌, ◌<◌}
use native.Mathlib.Omega.{arith}
use lib.Dec.{eqb, leb, ltb}
use lib.ListN.{length, get_or, set, replicate, length-set}
use borrow.Author.Tests.{eq-eqb, ne_eqb, eqb-true, lt-leb, le-leb, leb-true, lt-ltb, le-ltb}
use Rattle.terms.specs.Words.{pick}
use Rattle.terms.proofs.Tests.{clash}
use Rattle.counts.specs.declared.Counts.{Counts}
use Rattle.moves.specs.declared.Part.{Part}
use Rattle.moves.specs.Moves.{inside, lane_of, the_the_zone_of}
use Rattle.rows.specs.Strides.{exit_stride}
use Rattle.moves.specs.Halving.{first_word, rows_there_of, first_row_from_of}
use Rattle.search.specs.Search.{Marks, marks, run, below, spread, reached, reach_all, popped, entry_taken, entries, own_entries, targets, next_of, other_of, firsts, searched, search, found_from, leads_to_of}
use Rattle.search.proofs.Words.{ran, there}

-- of a word that is there
pub any-default : (w : List ℕ) (i d e : ℕ) → i < length w → get_or w i d ≡ get_or w i e
any-default [] i d e h = absurd (omega arith)
any-default (x ∷ w) zero d e h = refl
any-default (x ∷ w) (suc i) d e h = any-default w i d e (omega arith)

pub past_end : (w : List ℕ) (i d : ℕ) → length w ≤ i → get_or w i d ≡ d
past_end [] i d h = refl
past_end (x ∷ w) zero d h = absurd (omega arith)
past_end (x ∷ w) (suc i) d h = past_end w i d (omega arith)

module _ (w : List ℕ) (i behind : ℕ) where
  pub run_end : behind ≤ i → run w i (behind - i) ≡ w
  unfolding run
  run_end h = let left : behind - i ≡ 0 = omega arith in rw left

  pub run_on : i < behind → get_or w i 1 ≡ 0 → run (set w i 1) (i + 1) (behind - (i + 1)) ≡ run w i (behind - i)
  unfolding run
  run_on h e =
      let left : behind - i ≡ suc (behind - (i + 1)) = omega arith in
      let next : i + 1 ≡ suc i = omega arith in
      ap (λ (k : ℕ). run (set w i 1) k (behind - (i + 1))) next ∙ rw (left, eq-eqb (get_or w i 1) 0 e)

  pub run-stop : i < behind → (get_or w i 1 ≡ 0 → ⊥) → run w i (behind - i) ≡ w
  unfolding run
  run-stop h n = let left : behind - i ≡ suc (behind - (i + 1)) = omega arith in rw (left, ne_eqb (get_or w i 1) 0 n)

-- ## What is marked with a point
module _ (lanes zones : List ℕ) (c : Counts) (w : List ℕ) (b : ℕ) where
  pub spread-lane : (lane : Part) (v : List ℕ) → lane ≡ lane_of lanes c.lanes b → inside lane b ≡ true → v ≡ run w (b + 1) (lane.behind - (b + 1)) → v ≡ spread lanes zones c w b
  unfolding spread
  spread-lane lane v e = subst (λ (p : Part). inside p b ≡ true → v ≡ run w (b + 1) (p.behind - (b + 1)) → v ≡ spread lanes zones c w b) (sym e) (λ t f. f ∙ rw t)

  pub spread-zone : (lane zone : Part) (u v : List ℕ) → lane ≡ lane_of lanes c.lanes b → inside lane b ≡ false → zone ≡ the_the_zone_of zones c.zones b → inside zone b ≡ true
      → u ≡ run w zone.first (b - zone.first) → v ≡ run u (b + 1) (zone.behind - (b + 1)) → v ≡ spread lanes zones c w b
  unfolding spread
  spread-zone lane zone u v e t f = subst
      (λ (p : Part). inside p b ≡ true → u ≡ run w p.first (b - p.first) → v ≡ run u (b + 1) (p.behind - (b + 1)) → v ≡ spread lanes zones c w b) (sym f)
      (λ s g h. h ∙ ap (λ (x : List ℕ). run x (b + 1) ((the_the_zone_of zones c.zones b).behind - (b + 1))) g ∙ (let n : inside (lane_of lanes c.lanes b) b ≡ false = ap (λ (p : Part). inside p b) (sym e) ∙ t in rw (n, s)))

  pub spread_none : (lane zone : Part) → lane ≡ lane_of lanes c.lanes b → inside lane b ≡ false → zone ≡ the_the_zone_of zones c.zones b → inside zone b ≡ false → w ≡ spread lanes zones c w b
  unfolding spread
  spread_none lane zone e t f s =
      let n : inside (lane_of lanes c.lanes b) b ≡ false = ap (λ (p : Part). inside p b) (sym e) ∙ t in
      let m : inside (the_the_zone_of zones c.zones b) b ≡ false = ap (λ (p : Part). inside p b) (sym f) ∙ s in
      rw (n, m)

  pub spread-long : length (spread lanes zones c w b) ≡ length w
  unfolding spread
  spread-long = go (inside (lane_of lanes c.lanes b) b) (inside (the_the_zone_of zones c.zones b) b)
    where
      l : Part
      l = lane_of lanes c.lanes b

      z : Part
      z = the_the_zone_of zones c.zones b

      go : (s t : Bool) → length (pick s (run w (b + 1) ((lane_of lanes c.lanes b).behind - (b + 1))) (pick t (run (run w (the_the_zone_of zones c.zones b).first (b - (the_the_zone_of zones c.zones b).first)) (b + 1) ((the_the_zone_of zones c.zones b).behind - (b + 1))) w)) ≡ length w
      go true t = (ran w (b + 1) ((lane_of lanes c.lanes b).behind - (b + 1))).long
      go false true = (ran (run w (the_the_zone_of zones c.zones b).first (b - (the_the_zone_of zones c.zones b).first)) (b + 1) ((the_the_zone_of zones c.zones b).behind - (b + 1))).long ∙ (ran w (the_the_zone_of zones c.zones b).first (b - (the_the_zone_of zones c.zones b).first)).long
      go false false = refl

-- ## A point is reached
module _ (lanes zones : List ℕ) (c : Counts) (w : List ℕ) (top b : ℕ) where
  pub reached_new : (v : List ℕ) → get_or w b 1 ≡ 0 → v ≡ spread lanes zones c (set w b (top + 2)) b → marks v (b + 1) ≡ reached (spread lanes zones c) (marks w top) b
  unfolding reached
  reached_new v e f = ap (λ (x : List ℕ). marks x (b + 1)) f ∙ rw (eq-eqb (get_or w b 1) 0 e)

  pub reached-old : (get_or w b 1 ≡ 0 → ⊥) → marks w top ≡ reached (spread lanes zones c) (marks w top) b
  unfolding reached
  reached-old n = rw (ne_eqb (get_or w b 1) 0 n)

  -- the words are as many, and the top stays within them
  pub reached-long : length (reached (spread lanes zones c) (marks w top) b).words ≡ length w
  unfolding reached
  reached-long = go (eqb (get_or w b 1) 0)
    where
      go : (x : Bool) → length (pick x (marks (spread lanes zones c (set w b (top + 2)) b) (b + 1)) (marks w top)).words ≡ length w
      go true = spread-long lanes zones c (set w b (top + 2)) b ∙ length-set w b (top + 2)
      go false = refl

  pub reached-top : top ≤ length w → (reached (spread lanes zones c) (marks w top) b).top ≤ length w
  unfolding reached
  reached-top h = go (eqb (get_or w b 1) 0) refl
    where
      go : (x : Bool) → eqb (get_or w b 1) 0 ≡ x → (pick x (marks (spread lanes zones c (set w b (top + 2)) b) (b + 1)) (marks w top)).top ≤ length w
      go true e = let l = there w b (eqb-true (get_or w b 1) 0 e) in omega arith
      go false e = h

-- ## The exits of a part
module _ (sp : List ℕ → ℕ → List ℕ) (least last source entry : ℕ) (s : Marks) where
  pub too-early : source < least → s ≡ entry_taken sp least last source entry s
  unfolding entry_taken
  too-early h = rw (lt-leb least source h)

  pub too-late : least ≤ source → last < source → s ≡ entry_taken sp least last source entry s
  unfolding entry_taken
  too-late h k = rw (le-leb least source h, lt-leb source last k)

  pub this-entry : least ≤ source → source ≤ last → reached sp s entry ≡ entry_taken sp least last source entry s
  unfolding entry_taken
  this-entry h k = rw (le-leb least source h, le-leb source last k)

module _ (sp : List ℕ → ℕ → List ℕ) (exits : List ℕ) (behind least last row rows : ℕ) (s : Marks) where
  pub entries-end : rows ≤ row → reach_all sp s (entries exits behind least last row (rows - row)) ≡ s
  unfolding entries reach_all
  entries-end h = let left : rows - row ≡ 0 = omega arith in rw left

  pub entries-past : row < rows → behind ≤ first_word exits exit_stride row → reach_all sp s (entries exits behind least last row (rows - row)) ≡ s
  unfolding entries reach_all
  entries-past h k = let left : rows - row ≡ suc (rows - (row + 1)) = omega arith in rw (left, le-ltb (first_word exits exit_stride row) behind k)

  pub entries-on : row < rows → first_word exits exit_stride row < behind
      → reach_all sp (entry_taken sp least last (first_word exits exit_stride row) (get_or exits (row * exit_stride + 1) 0) s) (entries exits behind least last (row + 1) (rows - (row + 1))) ≡ reach_all sp s (entries exits behind least last row (rows - row))
  unfolding entries reach_all entry_taken
  entries-on h k = go (leb least (first_word exits exit_stride row)) (leb (first_word exits exit_stride row) last) refl refl
    where
      left : rows - row ≡ suc (rows - (row + 1))
      left = omega arith

      next : row + 1 ≡ suc row
      next = omega arith

      go : (x y : Bool) → leb least (first_word exits exit_stride row) ≡ x → leb (first_word exits exit_stride row) last ≡ y
          → reach_all sp (pick (leb least (first_word exits exit_stride row)) (pick (leb (first_word exits exit_stride row) last) (reached sp s (get_or exits (row * exit_stride + 1) 0)) s) s) (entries exits behind least last (row + 1) (rows - (row + 1)))
          ≡ reach_all sp s (entries exits behind least last row (rows - row))
      go true true e f = ap (λ (k : ℕ). reach_all sp (pick (leb least (first_word exits exit_stride row)) (pick (leb (first_word exits exit_stride row) last) (reached sp s (get_or exits (row * exit_stride + 1) 0)) s) s) (entries exits behind least last k (rows - (row + 1)))) next ∙ rw (left, lt-ltb (first_word exits exit_stride row) behind k, e, f)
      go true false e f = ap (λ (k : ℕ). reach_all sp (pick (leb least (first_word exits exit_stride row)) (pick (leb (first_word exits exit_stride row) last) (reached sp s (get_or exits (row * exit_stride + 1) 0)) s) s) (entries exits behind least last k (rows - (row + 1)))) next ∙ rw (left, lt-ltb (first_word exits exit_stride row) behind k, e, f)
      go false y e f = ap (λ (k : ℕ). reach_all sp (pick (leb least (first_word exits exit_stride row)) (pick (leb (first_word exits exit_stride row) last) (reached sp s (get_or exits (row * exit_stride + 1) 0)) s) s) (entries exits behind least last k (rows - (row + 1)))) next ∙ rw (left, lt-ltb (first_word exits exit_stride row) behind k, e)

-- the words are as many, and the top stays within them
module _ (lanes zones : List ℕ) (c : Counts) (least last source entry : ℕ) (w : List ℕ) (top : ℕ) where
  pub taken-long : length (entry_taken (spread lanes zones c) least last source entry (marks w top)).words ≡ length w
  unfolding entry_taken
  taken-long = go (leb least source) (leb source last)
    where
      go : (x y : Bool) → length (pick x (pick y (reached (spread lanes zones c) (marks w top) entry) (marks w top)) (marks w top)).words ≡ length w
      go true true = reached-long lanes zones c w top entry
      go true false = refl
      go false y = refl

  pub taken-top : top ≤ length w → (entry_taken (spread lanes zones c) least last source entry (marks w top)).top ≤ length w
  unfolding entry_taken
  taken-top h = go (leb least source) (leb source last)
    where
      go : (x y : Bool) → (pick x (pick y (reached (spread lanes zones c) (marks w top) entry) (marks w top)) (marks w top)).top ≤ length w
      go true true = reached-top lanes zones c w top entry h
      go true false = h
      go false y = h

pub first-word-of : (exits : List ℕ) (row : ℕ) → first_word exits exit_stride row ≡ get_or exits (row * exit_stride) 0
unfolding first_word
first-word-of exits row = refl

pub own-are : (sp : List ℕ → ℕ → List ℕ) (exits : List ℕ) (count : ℕ) (p : Part) (least last rows row : ℕ) (s : Marks) → rows ≡ rows_there_of exits exit_stride count → row ≡ first_row_from_of exits exit_stride count p.first
    → reach_all sp s (entries exits p.behind least last row (rows - row)) ≡ reach_all sp s (own_entries exits count p least last)
unfolding own_entries
own-are sp exits count p least last rows row s e f = λ i. reach_all sp s (entries exits p.behind least last (f i) (e i - f i))

-- ## The top
pub below-some : (w : List ℕ) (at under : ℕ) → under ≡ get_or w at 0 - 2 → under ≤ length w → under ≡ below w at
unfolding below
below-some w at under e h = e ∙ (let k : get_or w at 0 - 2 ≤ length w = subst (λ (x : ℕ). x ≤ length w) e h in rw (le-leb (get_or w at 0 - 2) (length w) k))

pub below_none : (w : List ℕ) (at under : ℕ) → under ≡ get_or w at 0 - 2 → length w < under → 0 ≡ below w at
unfolding below
below_none w at under e h = let k : length w < get_or w at 0 - 2 = subst (λ (x : ℕ). length w < x) e h in rw (lt-leb (get_or w at 0 - 2) (length w) k)

pub below-most : (w : List ℕ) (at : ℕ) → below w at ≤ length w
unfolding below
below-most w at = go (leb (get_or w at 0 - 2) (length w)) refl
  where
    go : (x : Bool) → leb (get_or w at 0 - 2) (length w) ≡ x → pick x (get_or w at 0 - 2) 0 ≤ length w
    go true e = leb-true (get_or w at 0 - 2) (length w) e
    go false e = omega arith

-- what is reached from it
module _ (lanes zones exits : List ℕ) (c : Counts) (w v : List ℕ) (at r : ℕ) where
  abbrev sp : List ℕ → ℕ → List ℕ
  sp = spread lanes zones c

  abbrev went : ℕ → Type 0
  went top = marks v r ≡ popped sp (targets lanes zones exits c) (marks w top)

  pub popped-lane : (top under : ℕ) (lane : Part) → top - 1 ≡ at → 0 < top → under ≡ below w at → lane ≡ lane_of lanes c.lanes at → inside lane at ≡ true
      → marks v r ≡ reach_all sp (marks w under) (own_entries exits c.exits lane at lane.behind) → went top
  unfolding popped targets
  popped-lane top under lane e h u l i f =
      let is : top ≡ suc at = omega arith in
      let n : inside (lane_of lanes c.lanes at) at ≡ true = ap (λ (p : Part). inside p at) (sym l) ∙ i in
      f ∙ (λ k. reach_all sp (marks w (u k)) (own_entries exits c.exits (l k) at (l k).behind)) ∙ rw (is, n)

  pub popped-zone : (top under : ℕ) (lane zone : Part) → top - 1 ≡ at → 0 < top → under ≡ below w at → lane ≡ lane_of lanes c.lanes at → inside lane at ≡ false → zone ≡ the_the_zone_of zones c.zones at → inside zone at ≡ true
      → marks v r ≡ reach_all sp (marks w under) (own_entries exits c.exits zone zone.first zone.behind) → went top
  unfolding popped targets
  popped-zone top under lane zone e h u l i z j f =
      let is : top ≡ suc at = omega arith in
      let n : inside (lane_of lanes c.lanes at) at ≡ false = ap (λ (p : Part). inside p at) (sym l) ∙ i in
      let m : inside (the_the_zone_of zones c.zones at) at ≡ true = ap (λ (p : Part). inside p at) (sym z) ∙ j in
      f ∙ (λ k. reach_all sp (marks w (u k)) (own_entries exits c.exits (z k) (z k).first (z k).behind)) ∙ rw (is, n, m)

pub popped-none : (lanes zones exits : List ℕ) (c : Counts) (w : List ℕ) (at top under : ℕ) (lane zone : Part) → top - 1 ≡ at → 0 < top → under ≡ below w at → lane ≡ lane_of lanes c.lanes at → inside lane at ≡ false
    → zone ≡ the_the_zone_of zones c.zones at → inside zone at ≡ false → marks w under ≡ popped (spread lanes zones c) (targets lanes zones exits c) (marks w top)
unfolding popped targets reach_all
popped-none lanes zones exits c w at top under lane zone e h u l i z j =
    let is : top ≡ suc at = omega arith in
    let n : inside (lane_of lanes c.lanes at) at ≡ false = ap (λ (p : Part). inside p at) (sym l) ∙ i in
    let m : inside (the_the_zone_of zones c.zones at) at ≡ false = ap (λ (p : Part). inside p at) (sym z) ∙ j in
    ap (marks w) u ∙ rw (is, n, m)

-- ## Where a search begins
module _ (sp : List ℕ → ℕ → List ℕ) (p : Part) (a : ℕ) (w : List ℕ) where
  pub next-reached : (v : List ℕ) (r : ℕ) → inside p (a + 1) ≡ true → marks v r ≡ reached sp (marks w 0) (a + 1) → marks v r ≡ reach_all sp (marks w 0) (next_of p a)
  unfolding reach_all
  next-reached v r e f = f ∙ rw e

  pub next-none : inside p (a + 1) ≡ false → marks w 0 ≡ reach_all sp (marks w 0) (next_of p a)
  unfolding reach_all
  next-none e = rw e

  pub other-next : (v : List ℕ) (r : ℕ) → a ≡ p.first → marks v r ≡ reach_all sp (marks w 0) (next_of p a) → marks v r ≡ reach_all sp (marks w 0) (other_of p a)
  other-next v r e f = f ∙ rw (eq-eqb a p.first e)

  pub other-first : (v : List ℕ) (r : ℕ) → (a ≡ p.first → ⊥) → marks v r ≡ reached sp (marks w 0) p.first → marks v r ≡ reach_all sp (marks w 0) (other_of p a)
  unfolding reach_all
  other-first v r n f = f ∙ rw (ne_eqb a p.first n)

pub inside-first : (p : Part) (a : ℕ) → inside p a ≡ true → p.first ≤ a
unfolding inside
inside-first p a e = go (leb p.first a) refl e
  where
    go : (x : Bool) → leb p.first a ≡ x → pick x (ltb a p.behind) false ≡ true → p.first ≤ a
    go true f g = leb-true p.first a f
    go false f g = absurd (clash (sym g))

-- the words are as many, and the top stays within them
module _ (lanes zones : List ℕ) (c : Counts) where
  pub all-long : (ds w : List ℕ) (top : ℕ) → length (reach_all (spread lanes zones c) (marks w top) ds).words ≡ length w
  unfolding reach_all
  all-long [] w top = refl
  all-long (d ∷ ds) w top = all-long ds (reached (spread lanes zones c) (marks w top) d).words (reached (spread lanes zones c) (marks w top) d).top ∙ reached-long lanes zones c w top d

  pub all-top : (ds w : List ℕ) (top : ℕ) → top ≤ length w → (reach_all (spread lanes zones c) (marks w top) ds).top ≤ length w
  unfolding reach_all
  all-top [] w top h = h
  all-top (d ∷ ds) w top h =
      let l = reached-long lanes zones c w top d in
      let t = reached-top lanes zones c w top d h in
      let r = all-top ds (reached (spread lanes zones c) (marks w top) d).words (reached (spread lanes zones c) (marks w top) d).top (omega arith) in
      omega arith

pub all-behind : (sp : List ℕ → ℕ → List ℕ) (x y : List ℕ) (s : Marks) → reach_all sp (reach_all sp s x) y ≡ reach_all sp s (x ++ y)
unfolding reach_all
all-behind sp [] y s = refl
all-behind sp (d ∷ x) y s = all-behind sp x y (reached sp s d)

module _ (lanes zones exits : List ℕ) (c : Counts) (w u v : List ℕ) (a t r : ℕ) where
  abbrev begun : Type 0
  begun = marks v r ≡ reach_all (spread lanes zones c) (marks w 0) (firsts lanes zones exits c a)

  pub begun-lane : (lane : Part) → lane ≡ lane_of lanes c.lanes a → inside lane a ≡ true → marks u t ≡ reach_all (spread lanes zones c) (marks w 0) (next_of lane a)
      → marks v r ≡ reach_all (spread lanes zones c) (marks u t) (own_entries exits c.exits lane a a) → begun
  unfolding firsts
  begun-lane lane l i f g =
      let n : inside (lane_of lanes c.lanes a) a ≡ true = ap (λ (p : Part). inside p a) (sym l) ∙ i in
      g ∙ ap (λ (m : Marks). reach_all (spread lanes zones c) m (own_entries exits c.exits lane a a)) f
      ∙ all-behind (spread lanes zones c) (next_of lane a) (own_entries exits c.exits lane a a) (marks w 0)
      ∙ (λ k. reach_all (spread lanes zones c) (marks w 0) (next_of (l k) a ++ own_entries exits c.exits (l k) a a)) ∙ rw n

  pub begun-zone : (lane zone : Part) → lane ≡ lane_of lanes c.lanes a → inside lane a ≡ false → zone ≡ the_the_zone_of zones c.zones a → inside zone a ≡ true → marks u t ≡ reach_all (spread lanes zones c) (marks w 0) (other_of zone a)
      → marks v r ≡ reach_all (spread lanes zones c) (marks u t) (own_entries exits c.exits zone a a) → begun
  unfolding firsts
  begun-zone lane zone l i z j f g =
      let n : inside (lane_of lanes c.lanes a) a ≡ false = ap (λ (p : Part). inside p a) (sym l) ∙ i in
      let m : inside (the_the_zone_of zones c.zones a) a ≡ true = ap (λ (p : Part). inside p a) (sym z) ∙ j in
      g ∙ ap (λ (m : Marks). reach_all (spread lanes zones c) m (own_entries exits c.exits zone a a)) f
      ∙ all-behind (spread lanes zones c) (other_of zone a) (own_entries exits c.exits zone a a) (marks w 0)
      ∙ (λ k. reach_all (spread lanes zones c) (marks w 0) (other_of (z k) a ++ own_entries exits c.exits (z k) a a)) ∙ rw (n, m)

pub begun-none : (lanes zones exits : List ℕ) (c : Counts) (w : List ℕ) (a : ℕ) (lane zone : Part) → lane ≡ lane_of lanes c.lanes a → inside lane a ≡ false → zone ≡ the_the_zone_of zones c.zones a → inside zone a ≡ false
    → marks w 0 ≡ reach_all (spread lanes zones c) (marks w 0) (firsts lanes zones exits c a)
unfolding firsts reach_all
begun-none lanes zones exits c w a lane zone l i z j =
    let n : inside (lane_of lanes c.lanes a) a ≡ false = ap (λ (p : Part). inside p a) (sym l) ∙ i in
    let m : inside (the_the_zone_of zones c.zones a) a ≡ false = ap (λ (p : Part). inside p a) (sym z) ∙ j in
    rw (n, m)

-- ## The search
module _ (sp : List ℕ → ℕ → List ℕ) (tg : ℕ → List ℕ) (w : List ℕ) (top : ℕ) where
  pub search-over : (left : ℕ) → top ≡ 0 → (searched sp tg left (marks w top)).words ≡ w
  unfolding searched
  search-over zero e = refl
  search-over (suc left) e = rw (eq-eqb top 0 e)

  pub search-end : (left : ℕ) → left ≤ 0 → (searched sp tg left (marks w top)).words ≡ w
  unfolding searched
  search-end zero h = refl
  search-end (suc left) h = absurd (omega arith)

  pub search-on : (i n : ℕ) (v : List ℕ) (r : ℕ) → i < n → (top ≡ 0 → ⊥) → marks v r ≡ popped sp tg (marks w top) → (searched sp tg (n - (i + 1)) (marks v r)).words ≡ (searched sp tg (n - i) (marks w top)).words
  unfolding searched
  search-on i n v r h t e = let f : n - i ≡ suc (n - (i + 1)) = omega arith in (λ j. (searched sp tg (n - (i + 1)) (e j)).words) ∙ rw (f, ne_eqb top 0 t)

-- ## What is taken off the stack leaves the words as many, and the top within them
module _ (lanes zones exits : List ℕ) (c : Counts) (w : List ℕ) (top : ℕ) where
  pub popped-long : length (popped (spread lanes zones c) (targets lanes zones exits c) (marks w top)).words ≡ length w
  unfolding popped
  popped-long = all-long lanes zones c (targets lanes zones exits c (pred top)) w (below w (pred top))

  pub popped-top : (popped (spread lanes zones c) (targets lanes zones exits c) (marks w top)).top ≤ length w
  unfolding popped
  popped-top = all-top lanes zones c (targets lanes zones exits c (pred top)) w (below w (pred top)) (below-most w (pred top))

-- ## What a search from a point leaves
module _ (lanes zones exits : List ℕ) (c : Counts) (len from : ℕ) where
  pub found-far : len ≤ from → replicate len 0 ≡ found_from lanes zones exits c len from
  found-far h = rw (le-ltb from len h)

  pub found-many : from < len → 4294967294 ≤ len → replicate len 0 ≡ found_from lanes zones exits c len from
  found-many h k = rw (lt-ltb from len h, le-ltb len 4294967294 k)

  pub found-is : from < len → len < 4294967294 → search lanes zones exits c (replicate len 0) from ≡ found_from lanes zones exits c len from
  found-is h k = rw (lt-ltb from len h, lt-ltb len 4294967294 k)

  -- whether one move or more lead to a point, by these words
  pub leads-is : (to : ℕ) (w : List ℕ) (x : ℕ) → w ≡ found_from lanes zones exits c len from → x ≡ get_or w to 0 → not (eqb x 0) ≡ leads_to_of lanes zones exits c len from to
  unfolding leads_to_of
  leads-is to w x e f = λ i. not (eqb ((f ∙ ap (λ (v : List ℕ). get_or v to 0) e) i) 0)
