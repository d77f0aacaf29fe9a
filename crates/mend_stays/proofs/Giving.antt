-- No single option is given again where, since the last line that opens a part, each stands once at most (`stretch`); a line that opens a part forgets what stood before it, so parts are looked at one by one (`part_anyway`). Assumes nothing.
use mathlib.Core.Path.{◌≡◌, refl, sym, subst, ◌∙◌}
use native.Mathlib.Omega.{arith}
use Rattle.terms.specs.Words.{List, [], ◌∷◌, ◌++◌, Bool, true, false, not, ◌&&◌, ◌||◌, ℕ, suc, ◌+◌, ◌≤◌, Bytes, pick, InTurn, nothing, then}
use Rattle.scan.specs.Reach.{same_bytes_of}
use Rattle.scan.proofs.Equal.{same_itself}
use Rattle.law.specs.Network.{Line}
use Rattle.law.specs.Faults.{options}
use Rattle.mend_law.specs.Mend.{one_of, opens_part_of}
use Rattle.mend_stays.specs.Said.{key, single, opened_of, given_of, Once}
use Rattle.mend_stays.proofs.Small.{not-true, and-off}
use Rattle.mend_stays.proofs.Passing.{Passes}

-- ## Part by part
-- whatever stands before
abbrev pub Anyway : List Line → Type 0
Anyway a = (before : List Line) → Once before a

pub once-then : (before a b : List Line) → Once before a → Anyway b → Once before (a ++ b)
unfolding Once
once-then before [] b h k = k before
once-then before (l ∷ a) b h k = (h.0, once-then (l ∷ before) a b h.1 k)

pub anyway-both : (a b : List Line) → Anyway a → Anyway b → Anyway (a ++ b)
anyway-both a b h k before = once-then before a b (h before) k

none_anyway : Anyway []
unfolding Once
none_anyway before = tt

pub anyway-turn : {A : Type 0} (Sp : ℕ → A → List Line → Type 0) → ((i : ℕ) (a : A) (u : List Line) → Sp i a u → Anyway u) → {i : ℕ} {xs : List A} {w : List Line} → InTurn Sp i xs w → Anyway w
anyway-turn Sp h nothing = none_anyway
anyway-turn Sp h (then {i = i} {a = a} {u = u} {v = v} s t) = anyway-both u v (h i a u s) (anyway-turn Sp h t)

-- ## How often an option stands
unfoldable pub often : Bytes → List Line → ℕ
often w [] = 0
often w (l ∷ a) = pick (same_bytes_of (key l) w) (suc (often w a)) (often w a)

unfoldable pub since : Bytes → List Line → ℕ
since w [] = 0
since w (l ∷ before) = pick (opens_part_of (key l)) 0 (pick (same_bytes_of (key l) w) (suc (since w before)) (since w before))

never-given : (w : Bytes) (before : List Line) → since w before ≡ 0 → given_of w before ≡ false
unfolding since given_of
never-given w [] e = refl
never-given w (l ∷ before) e = go (opens_part_of (key l)) (same_bytes_of (key l) w) e (never-given w before)
  where
    go : (x y : Bool) → pick x 0 (pick y (suc (since w before)) (since w before)) ≡ 0 → (since w before ≡ 0 → given_of w before ≡ false) → pick x false (y || given_of w before) ≡ false
    go true y e h = refl
    go false true e h = absurd (omega arith)
    go false false e h = h e

abbrev pub no-opener : Bytes → Bool
no-opener k = not (opens_part_of k)

opened-next : (l : Line) (before : List Line) → opens_part_of (key l) ≡ false → opened_of (l ∷ before) ≡ opened_of before
unfolding opened_of
opened-next l before e = rw e

counted_next : (w : Bytes) (l : Line) (before a : List Line) → opens_part_of (key l) ≡ false → since w (l ∷ before) + often w a ≡ since w before + often w (l ∷ a)
unfolding since often
counted_next w l before a e = rw e (go (same_bytes_of (key l) w))
  where
    go : (x : Bool) → pick x (suc (since w before)) (since w before) + often w a ≡ since w before + pick x (suc (often w a)) (often w a)
    go true = omega arith
    go false = refl

since_none : (w : Bytes) (l : Line) (before a : List Line) → same_bytes_of (key l) w ≡ true → since w before + often w (l ∷ a) ≤ 1 → since w before ≡ 0
unfolding often
since_none w l before a e h = go (rw e at h)
  where
    go : since w before + suc (often w a) ≤ 1 → since w before ≡ 0
    go h = omega arith

pub stretch : (part : Bytes) (before a : List Line) → opened_of before ≡ part → Passes no-opener a → ((w : Bytes) → single part w ≡ true → since w before + often w a ≤ 1) → Once before a
unfolding Once
stretch part before [] o p h = tt
stretch part before (l ∷ a) o p h = (fine (single part (key l)) refl, stretch part (l ∷ before) a (opened-on ∙ o) p.1 (λ w s. subst (λ (n : ℕ). n ≤ 1) (sym (counted-on w)) (h w s)))
  where
    closed : opens_part_of (key l) ≡ false
    closed = not-true (opens_part_of (key l)) p.0

    opened-on : opened_of (l ∷ before) ≡ opened_of before
    opened-on = opened-next l before closed

    counted-on : (w : Bytes) → since w (l ∷ before) + often w a ≡ since w before + often w (l ∷ a)
    counted-on w = counted_next w l before a closed

    fine : (x : Bool) → single part (key l) ≡ x → (single (opened_of before) (key l) && given_of (key l) before) ≡ false
    fine true e = let n : since (key l) before ≡ 0 = since_none (key l) l before a (same_itself (key l)) (h (key l) e) in rw (never-given (key l) before n) (and-off (single (opened_of before) (key l)))
    fine false e = (λ i. single (o i) (key l) && given_of (key l) before) ∙ rw e

opened-here : (part : Bytes) (l : Line) (before : List Line) → key l ≡ part → opens_part_of part ≡ true → opened_of (l ∷ before) ≡ part
unfolding opened_of
opened-here part l before e o = rw (e, o)

since-here : (part w : Bytes) (l : Line) (before : List Line) → key l ≡ part → opens_part_of part ≡ true → since w (l ∷ before) ≡ 0
unfolding since
since-here part w l before e o = rw (e, o)

-- a part from the line that opens it up to the next that opens one
pub part_anyway : (part : Bytes) (l : Line) (a : List Line) → key l ≡ part → opens_part_of part ≡ true → one_of options part ≡ false → Passes no-opener a → ((w : Bytes) → single part w ≡ true → often w a ≤ 1) → Anyway (l ∷ a)
unfolding Once
part_anyway part l a e o n p h before = (rw (e, n), stretch part (l ∷ before) a (opened-here part l before e o) p (λ w s. rw (since-here part w l before e o) (sum w (h w s))))
  where
    sum : (w : Bytes) → often w a ≤ 1 → 0 + often w a ≤ 1
    sum w h = omega arith

-- a line that is no option
pub line_anyway : (l : Line) → one_of options (key l) ≡ false → Anyway (l ∷ [])
unfolding Once
line_anyway l e before = (rw e, tt)
