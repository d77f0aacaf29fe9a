-- The laws of the loops: what is left says what all says; and that the legs by numbers, a search for each, are the legs one after the other. Assumes nothing.
use mathlib.Core.Path.{◌≡◌, refl, sym, ap, ◌∙◌}
use mathlib.Core.Bool.{Bool, true, false, not}
use mathlib.Core.List.{List}
use Prim.Native.Nat.{ℕ, zero, suc, ◌+◌, ◌-◌, ◌*◌, ◌≤◌, ◌<◌, min}
use native.Mathlib.Omega.{arith}
use lib.Dec.{eqb, ltb}
use lib.ListN.{length, get_or}
use borrow.Author.Tests.{eq-eqb, ne_eqb, eqb-true, eqb-false, lt-ltb, le-ltb, ltb-true, ltb-false}
use Rattle.terms.specs.Words.{pick}
use Rattle.terms.proofs.Tests.{clash}
use Rattle.rows.specs.Lay.{row_at, rows_of}
use Rattle.rows.specs.Strides.{goal_stride}
use Rattle.rows.proofs.Lay.{word-of-row, row-outside}
use Rattle.look_up.proofs.Answers.{point-some}
use Rattle.goal_points.specs.Goals.{goal_point_of}
use Rattle.counts.specs.declared.Counts.{Counts}
use Rattle.search.specs.Search.{found_from, leads_to_of}
use Rattle.search.proofs.Steps.{past_end}
use Rattle.legs.specs.Legs.{later_stuck_of, first_stuck_of, stood, unmarked, first-of, stuck_from_of}

-- ## Numbers that stood before
module _ (goals : List ℕ) (number left : ℕ) where
  pub stood-here : 0 < left → get_or goals (left - 1) 0 ≡ number → stood goals number left ≡ true
  unfolding stood
  stood-here h e = let s : left ≡ suc (left - 1) = omega arith in rw s (rw (eq-eqb (get_or goals (left - 1) 0) number e))

  pub stood_on : 0 < left → (get_or goals (left - 1) 0 ≡ number → ⊥) → stood goals number (left - 1) ≡ stood goals number left
  unfolding stood
  stood_on h n =
      let s : left ≡ suc (left - 1) = omega arith in
      let e : stood goals number (suc (left - 1)) ≡ stood goals number (left - 1) = rw (ne_eqb (get_or goals (left - 1) 0) number n) in
      sym (ap (stood goals number) s ∙ e)

  pub stood-over : left ≤ 0 → stood goals number left ≡ false
  unfolding stood
  stood-over h = let s : left ≡ 0 = omega arith in rw s

-- where it stood
pub stood-at : (goals : List ℕ) (number many : ℕ) → stood goals number many ≡ true → (k : ℕ) × (k < many) × (get_or goals k 0 ≡ number)
unfolding stood
stood-at goals number zero e = absurd (clash (sym e))
stood-at goals number (suc many) e = go (eqb (get_or goals many 0) number) refl e (stood-at goals number many)
  where
    go : (x : Bool) → eqb (get_or goals many 0) number ≡ x → pick x true (stood goals number many) ≡ true → (stood goals number many ≡ true → (k : ℕ) × (k < many) × (get_or goals k 0 ≡ number)) → (k : ℕ) × (k < suc many) × (get_or goals k 0 ≡ number)
    go true f e more = (many, omega arith, eqb-true (get_or goals many 0) number f)
    go false f e more = let m = more e in (m.0, (let h = m.1 in omega arith), m.2)

-- ## The first leg of which a test is true
module _ (test : ℕ → Bool) (leg behind : ℕ) where
  pub first-here : leg < behind → test leg ≡ true → leg ≡ first-of test leg (behind - leg)
  unfolding first-of
  first-here h e = let left : behind - leg ≡ suc (behind - (leg + 1)) = omega arith in rw (left, e)

  pub first_on : leg < behind → test leg ≡ false → first-of test (leg + 1) (behind - (leg + 1)) ≡ first-of test leg (behind - leg)
  unfolding first-of
  first_on h e =
      let left : behind - leg ≡ suc (behind - (leg + 1)) = omega arith in
      let one : leg + 1 ≡ suc leg = omega arith in
      (λ i. first-of test (one i) (behind - (leg + 1))) ∙ rw (left, e)

  pub first-over : behind ≤ leg → leg ≡ first-of test leg (behind - leg)
  unfolding first-of
  first-over h = let left : behind - leg ≡ 0 = omega arith in rw left

module _ (test : ℕ → Bool) where
  -- what the first one is: of those before it the test is false, and it is the one behind all, or the test is true of it
  pub record First (leg behind r : ℕ) : Type 0 where
    pub least : leg ≤ r
    pub most : r ≤ behind
    pub none : (j : ℕ) → leg ≤ j → j < r → test j ≡ false
    pub here : r < behind → test r ≡ true

  pub first-is : (leg left : ℕ) → First leg (leg + left) (first-of test leg left)
  unfolding first-of
  first-is leg zero = record { least = omega arith; most = omega arith; none = λ j h k. absurd (omega arith); here = λ h. absurd (omega arith) }
  first-is leg (suc left) = go (test leg) refl (first-is (suc leg) left)
    where
      at : test leg ≡ false → First (suc leg) (suc leg + left) (first-of test (suc leg) left) → (j : ℕ) → leg ≤ j → j < first-of test (suc leg) left → (x : Bool) → eqb j leg ≡ x → test j ≡ false
      at e f j h k true d = ap test (eqb-true j leg d) ∙ e
      at e f j h k false d = let n = eqb-false j leg d in f.none j (omega arith) k

      go : (x : Bool) → test leg ≡ x → First (suc leg) (suc leg + left) (first-of test (suc leg) left) → First leg (leg + suc left) (pick x leg (first-of test (suc leg) left))
      go true e f = record { least = omega arith; most = omega arith; none = λ j h k. absurd (omega arith); here = λ h. e }
      go false e f =
          let l = f.least in
          let m = f.most in
          record { least = omega arith; most = omega arith; none = λ j h k. at e f j h k (eqb j leg) refl; here = λ h. f.here (omega arith) }

module _ (goals : List ℕ) (point : ℕ → ℕ) (found : List ℕ) (number leg : ℕ) where
  pub other-number : (get_or goals (leg - 1) 0 ≡ number → ⊥) → unmarked goals point found number leg ≡ false
  unfolding unmarked
  other-number n = rw (ne_eqb (get_or goals (leg - 1) 0) number n)

  pub this-number : get_or goals (leg - 1) 0 ≡ number → unmarked goals point found number leg ≡ eqb (get_or found (point leg) 0) 0
  unfolding unmarked
  this-number e = rw (eq-eqb (get_or goals (leg - 1) 0) number e)

  pub unmarked-so : unmarked goals point found number leg ≡ true → (get_or goals (leg - 1) 0 ≡ number) × (eqb (get_or found (point leg) 0) 0 ≡ true)
  unfolding unmarked
  unmarked-so e = go (eqb (get_or goals (leg - 1) 0) number) refl e
    where
      go : (x : Bool) → eqb (get_or goals (leg - 1) 0) number ≡ x → pick x (eqb (get_or found (point leg) 0) 0) false ≡ true → (get_or goals (leg - 1) 0 ≡ number) × (eqb (get_or found (point leg) 0) 0 ≡ true)
      go true f e = (eqb-true (get_or goals (leg - 1) 0) number f, e)
      go false f e = absurd (clash (sym e))

-- what a row brings, as the code says it
module _ (goals : List ℕ) (point : ℕ → ℕ) (found : ℕ → List ℕ) (row bad number : ℕ) (is : number ≡ get_or goals (row - 1) 0) where
  pub stuck-before : stood goals number (row - 1) ≡ true → bad ≡ stuck_from_of goals point found row bad
  unfolding stuck_from_of
  stuck-before e = let s : stood goals (get_or goals (row - 1) 0) (row - 1) ≡ true = ap (λ (x : ℕ). stood goals x (row - 1)) (sym is) ∙ e in rw s

  pub stuck-after : (from : ℕ) (w : List ℕ) → stood goals number (row - 1) ≡ false → from ≡ point (row - 1) → w ≡ found from → first-of (unmarked goals point w number) row (bad - row) ≡ stuck_from_of goals point found row bad
  unfolding stuck_from_of
  stuck-after from w e f g =
      let s : stood goals (get_or goals (row - 1) 0) (row - 1) ≡ false = ap (λ (x : ℕ). stood goals x (row - 1)) (sym is) ∙ e in
      (λ i. first-of (unmarked goals point ((g ∙ ap found f) i) (is i)) row (bad - row)) ∙ rw s

-- ## The legs by numbers
module _ (leads : ℕ → ℕ → Bool) (point : ℕ → ℕ) where
  -- the least leg without chain, or the row behind all, is what the legs one after the other say
  later-is : (k left bad : ℕ) → suc k ≤ bad → bad ≤ suc k + left → ((j : ℕ) → k ≤ j → suc j < bad → leads (point j) (point (suc j)) ≡ true)
      → ((j : ℕ) → suc j ≡ bad → bad < suc k + left → leads (point j) (point (suc j)) ≡ false) → bad ≡ later_stuck_of leads point (point k) (suc k) left
  unfolding later_stuck_of
  later-is k zero bad l m good stuck = omega arith
  later-is k (suc left) bad l m good stuck = go (leads (point k) (point (suc k))) refl (λ h. later-is (suc k) left bad h (omega arith) (λ j n t. good j (omega arith) t) (λ j e t. stuck j e (omega arith)))
    where
      go : (x : Bool) → leads (point k) (point (suc k)) ≡ x → (suc (suc k) ≤ bad → bad ≡ later_stuck_of leads point (point (suc k)) (suc (suc k)) left) → bad ≡ pick x (later_stuck_of leads point (point (suc k)) (suc (suc k)) left) (suc k)
      go true e more = on (eqb bad (suc k)) refl
        where
          on : (x : Bool) → eqb bad (suc k) ≡ x → bad ≡ later_stuck_of leads point (point (suc k)) (suc (suc k)) left
          on true d = let f = eqb-true bad (suc k) d in absurd (clash (sym e ∙ stuck k (sym f) (omega arith)))
          on false d = let n = eqb-false bad (suc k) d in more (omega arith)
      go false e more = at (eqb bad (suc k)) refl
        where
          at : (x : Bool) → eqb bad (suc k) ≡ x → bad ≡ suc k
          at true d = eqb-true bad (suc k) d
          at false d = let n = eqb-false bad (suc k) d in absurd (clash (sym (good k (omega arith) (omega arith)) ∙ e))

  module _ (goals : List ℕ) (count : ℕ) where
    -- what is known before a row is looked at: the legs before `bad` from the numbers of the rows passed have their chains; `bad` has none, where it is not behind all
    pub record Looked (row bad : ℕ) : Type 0 where
      pub some : 0 < bad
      pub within : bad ≤ count
      pub good : (i j : ℕ) → suc i < row → get_or goals i 0 ≡ get_or goals j 0 → suc j < bad → leads (point j) (point (suc j)) ≡ true
      pub stuck : (j : ℕ) → suc j ≡ bad → bad < count → leads (point j) (point (suc j)) ≡ false

    pub looked-first : 0 < count → Looked 1 count
    looked-first h = record { some = h; within = omega arith; good = λ i j l e t. absurd (omega arith); stuck = λ j e l. absurd (omega arith) }

    pub looked-over : (row bad : ℕ) → bad ≤ row → Looked row bad → bad ≡ later_stuck_of leads point (point 0) 1 (count - 1)
    looked-over row bad h l =
        let s = l.some in
        let w = l.within in
        later-is 0 (count - 1) bad (omega arith) (omega arith) (λ j n t. l.good j j (omega arith) refl t) (λ j e t. l.stuck j e (omega arith))

    module _ (row bad : ℕ) (some : 0 < row) (l : Looked row bad) where
      -- its number stood before
      looked-before : stood goals (get_or goals (row - 1) 0) (row - 1) ≡ true → Looked (row + 1) bad
      looked-before s =
          let k = stood-at goals (get_or goals (row - 1) 0) (row - 1) s in
          record { some = l.some; within = l.within; good = λ i j b e t. at k.0 k.1 k.2 i j b e t (eqb (suc i) row) refl; stuck = l.stuck }
        where
          at : (k : ℕ) → k < row - 1 → get_or goals k 0 ≡ get_or goals (row - 1) 0 → (i j : ℕ) → suc i < row + 1 → get_or goals i 0 ≡ get_or goals j 0 → suc j < bad → (x : Bool) → eqb (suc i) row ≡ x → leads (point j) (point (suc j)) ≡ true
          at k h f i j b e t true d =
              let here : row - 1 ≡ i = (let g = eqb-true (suc i) row d in omega arith) in
              l.good k j (omega arith) (f ∙ ap (λ (x : ℕ). get_or goals x 0) here ∙ e) t
          at k h f i j b e t false d = let n = eqb-false (suc i) row d in l.good i j (omega arith) e t

      -- or a search is made. Goals of one number stand at one point
      module _ (same : (i j : ℕ) → get_or goals i 0 ≡ get_or goals j 0 → point i ≡ point j) (found : List ℕ) (told : (b : ℕ) → leads (point (row - 1)) b ≡ not (eqb (get_or found b 0) 0)) (under : row < bad) where
        looked-all : (b : ℕ) → First (unmarked goals point found (get_or goals (row - 1) 0)) row (row + (bad - row)) b → Looked (row + 1) b
        looked-all b f =
            let least = f.least in
            let most = f.most in
            let w = l.within in
            record { some = omega arith; within = omega arith; good = λ i j h e t. at i j h e t (eqb (suc i) row) (ltb (suc j) row) refl refl; stuck = λ j e t. last j e t (eqb b bad) refl }
          where
            from : (j : ℕ) → get_or goals j 0 ≡ get_or goals (row - 1) 0 → (x : Bool) → eqb (get_or found (point (suc j)) 0) 0 ≡ x → leads (point j) (point (suc j)) ≡ not x
            from j e x d = ap (λ (p : ℕ). leads p (point (suc j))) (same j (row - 1) e) ∙ told (point (suc j)) ∙ ap not d

            at : (i j : ℕ) → suc i < row + 1 → get_or goals i 0 ≡ get_or goals j 0 → suc j < b → (x y : Bool) → eqb (suc i) row ≡ x → ltb (suc j) row ≡ y → leads (point j) (point (suc j)) ≡ true
            at i j h e t false y d g = let n = eqb-false (suc i) row d in let most = f.most in l.good i j (omega arith) e (omega arith)
            at i j h e t true true d g = let most = f.most in l.good j j (ltb-true (suc j) row g) refl (omega arith)
            at i j h e t true false d g =
                let here : i ≡ row - 1 = (let g = eqb-true (suc i) row d in omega arith) in
                let back : suc j - 1 ≡ j = omega arith in
                let number = sym e ∙ ap (λ (x : ℕ). get_or goals x 0) here in
                from j number false (sym (this-number goals point found (get_or goals (row - 1) 0) (suc j) (ap (λ (x : ℕ). get_or goals x 0) back ∙ number)) ∙ f.none (suc j) (ltb-false (suc j) row g) t)

            last : (j : ℕ) → suc j ≡ b → b < count → (x : Bool) → eqb b bad ≡ x → leads (point j) (point (suc j)) ≡ false
            last j e t true d = let g = eqb-true b bad d in l.stuck j (e ∙ g) (omega arith)
            last j e t false d =
                let n = eqb-false b bad d in
                let most = f.most in
                let u = unmarked-so goals point found (get_or goals (row - 1) 0) b (f.here (omega arith)) in
                let back : j ≡ b - 1 = omega arith in
                from j (ap (λ (x : ℕ). get_or goals x 0) back ∙ u.0) true (ap (λ (x : ℕ). eqb (get_or found (point x) 0) 0) e ∙ u.1)

    pub looked-on : (same : (i j : ℕ) → get_or goals i 0 ≡ get_or goals j 0 → point i ≡ point j) (found : ℕ → List ℕ) → ((a b : ℕ) → leads a b ≡ not (eqb (get_or (found a) b 0) 0))
        → (row bad : ℕ) → 0 < row → row < bad → Looked row bad → Looked (row + 1) (stuck_from_of goals point found row bad)
    unfolding stuck_from_of
    looked-on same found told row bad some under l = go (stood goals (get_or goals (row - 1) 0) (row - 1)) refl
      where
        go : (x : Bool) → stood goals (get_or goals (row - 1) 0) (row - 1) ≡ x → Looked (row + 1) (pick x bad (first-of (unmarked goals point (found (point (row - 1))) (get_or goals (row - 1) 0)) row (bad - row)))
        go true e = looked-before row bad some l e
        go false e = looked-all row bad some l same (found (point (row - 1))) (told (point (row - 1))) under _ (first-is (unmarked goals point (found (point (row - 1))) (get_or goals (row - 1) 0)) row (bad - row))

-- a goal's number is one word, and its point goes by its number
goal-word : (goals : List ℕ) (row : ℕ) → get_or (row_at goal_stride goals row) 0 0 ≡ get_or goals row 0
goal-word goals row = go (ltb row (rows_of (length goals) goal_stride)) refl
  where
    go : (x : Bool) → ltb row (rows_of (length goals) goal_stride) ≡ x → get_or (row_at goal_stride goals row) 0 0 ≡ get_or goals row 0
    go true e = let at : row * goal_stride + 0 ≡ row = omega arith in word-of-row goal_stride goals row 0 0 (ltb-true row (rows_of (length goals) goal_stride) e) (omega arith) ∙ ap (λ (x : ℕ). get_or goals x 0) at
    go false e =
        let out = ltb-false row (rows_of (length goals) goal_stride) e in
        ap (λ (w : List ℕ). get_or w 0 0) (row-outside goal_stride goals row out) ∙ sym (past_end goals row 0 (omega arith))

pub same_point : (checkpoints goals : List ℕ) (i j : ℕ) → get_or goals i 0 ≡ get_or goals j 0 → goal_point_of checkpoints goals i ≡ goal_point_of checkpoints goals j
unfolding goal_point_of
same_point checkpoints goals i j e = ap (λ (w : ℕ). (point-some checkpoints (min w 65535)).answer) (goal-word goals i ∙ e ∙ sym (goal-word goals j))

-- what a search marks tells whether one move or more lead to a point
pub by-search : (lanes zones exits : List ℕ) (c : Counts) (len a b : ℕ) → leads_to_of lanes zones exits c len a b ≡ not (eqb (get_or (found_from lanes zones exits c len a) b 0) 0)
unfolding leads_to_of
by-search lanes zones exits c len a b = refl

-- ## The first goal
module _ (leads : ℕ → ℕ → Bool) (point : ℕ → ℕ) (count start : ℕ) where
  pub no-goal : count ≡ 0 → 0 ≡ first_stuck_of leads point count start
  unfolding first_stuck_of
  no-goal e = rw (le-ltb 0 count (omega arith))

  pub at_once : (first r : ℕ) → 0 < count → first ≡ point 0 → start ≡ first → r ≡ later_stuck_of leads point (point 0) 1 (count - 1) → r ≡ first_stuck_of leads point count start
  unfolding first_stuck_of
  at_once first r h e f g = g ∙ rw (lt-ltb 0 count h, eq-eqb start (point 0) (f ∙ e))

  pub by-moves : (first r : ℕ) → 0 < count → first ≡ point 0 → (start ≡ first → ⊥) → leads start first ≡ true → r ≡ later_stuck_of leads point (point 0) 1 (count - 1) → r ≡ first_stuck_of leads point count start
  unfolding first_stuck_of
  by-moves first r h e f t g = let s : leads start (point 0) ≡ true = ap (leads start) (sym e) ∙ t in g ∙ rw (lt-ltb 0 count h, ne_eqb start (point 0) (λ z. f (z ∙ sym e)), s)

  pub not_first : (first : ℕ) → 0 < count → first ≡ point 0 → (start ≡ first → ⊥) → leads start first ≡ false → 0 ≡ first_stuck_of leads point count start
  unfolding first_stuck_of
  not_first first h e f t = let s : leads start (point 0) ≡ false = ap (leads start) (sym e) ∙ t in rw (lt-ltb 0 count h, ne_eqb start (point 0) (λ z. f (z ∙ sym e)), s)
