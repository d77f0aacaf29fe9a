-- THE LAWS of 15 to 18: no fault over the rows of a mission and of its network is the same as a mission that fits the network, but for 14. Assumes nothing.
use mathlib.Core.Path.{◌≡◌, refl, sym, subst, ◌∙◌}
use mathlib.Core.List.{List, [], ◌∷◌, ◌++◌, map}
use mathlib.Core.Option.{none, some}
use mathlib.Core.Bool.{Bool, true, false, not}
use Prim.Native.Nat.{ℕ, zero, suc}
use native.Mathlib.Omega.{arith}
use lib.Dec.{T, eqb, leb}
use borrow.Author.Tests.{leb-true, le-leb, eqb-true, eqb-false, not-true}
use Rattle.terms.specs.Words.{pick, Each, Among, Between}
use Rattle.grammar.specs.Network.{Network}
use Rattle.grammar.specs.MissionStatements.{Limit}
use Rattle.grammar.specs.Mission.{Mission}
use Rattle.grammar.specs.Tables.{Tables, MissionTables, mission_tables, point_row_of, tables}
use Rattle.grammar.specs.References.{Different, all_numbers, parts, MissionFits}
use Rattle.grammar.proofs.Rows.{each-of_map}
use Rattle.fill.specs.Faults.{Faultless, First, Repeated, ForeignGoal, LimitFault, not_there, given_again, SomeMissing}
use Rattle.fill.specs.FirstFaults.{Fault, fault, fault_if, is_among, goal_fault, the_first_foreign_goal_of, in_parts, or_else, limit_fault, the_first_bad_limit_of, some_missing, numbers_of, the_parts_of, ids_of}
use Rattle.fill.proofs.RowLaws.{each-by_map}
use Rattle.fill.proofs.AmongLaws.{is-among_true, among-is, is-among_false, not-among, among-each}
use Rattle.fill.proofs.FaultLaws.{Decides, first-right, first-only, none_right, none_only}
use Rattle.fill.proofs.ReferenceLaws.{fault_if-told, fresh-different, different-fresh, numbers_in-order, parts_are}

-- ## 15
pub goal_decides : (numbers : List ℕ) → Decides (goal_fault numbers) (ForeignGoal numbers)
goal_decides numbers = record {
  told = λ front a k h. let t = fault_if-told (not (is_among a numbers)) 15 k h in record { not = is-among_false a numbers (not-true (is_among a numbers) t.0); number = t.1 };
  tells = λ front a k f. rw (not-among a numbers f.not, f.number);
}

pub first-goal-right : (numbers goals : List ℕ) (x : Fault) → the_first_foreign_goal_of numbers goals ≡ some x → First (ForeignGoal numbers) [] goals x.row x.number
first-goal-right numbers = first-right (goal_decides numbers) []

pub first-goal-only : (numbers goals : List ℕ) (i k : ℕ) → First (ForeignGoal numbers) [] goals i k → the_first_foreign_goal_of numbers goals ≡ some (fault i k)
first-goal-only numbers = first-only (goal_decides numbers) []

no-foreign : (numbers front goals : List ℕ) → Faultless (ForeignGoal numbers) front goals → Each (λ g. Among g numbers) goals
no-foreign numbers front [] h = tt
no-foreign numbers front (g ∷ goals) h = (go (is_among g numbers) refl, no-foreign numbers (front ++ (g ∷ [])) goals h.1)
  where
    go : (t : Bool) → is_among g numbers ≡ t → Among g numbers
    go true q = is-among_true g numbers q
    go false q = absurd (h.0 15 (record { not = is-among_false g numbers q; number = refl }))

all_known : (numbers front goals : List ℕ) → Each (λ g. Among g numbers) goals → Faultless (ForeignGoal numbers) front goals
all_known numbers front [] e = tt
all_known numbers front (g ∷ goals) e = (λ k f. f.not e.0, all_known numbers (front ++ (g ∷ [])) goals e.1)

pub goals-known : (numbers goals : List ℕ) → the_first_foreign_goal_of numbers goals ≡ none → Each (λ g. Among g numbers) goals
goals-known numbers goals h = no-foreign numbers [] goals (none_right (goal_decides numbers) [] goals h)

pub known-goals : (numbers goals : List ℕ) → Each (λ g. Among g numbers) goals → the_first_foreign_goal_of numbers goals ≡ none
known-goals numbers goals e = none_only (goal_decides numbers) [] goals (all_known numbers [] goals e)

-- ## 16 and 17
in-parts_true : (p i : ℕ) → in_parts p i ≡ true → Between 1 p i
in-parts_true p i h = go (leb 1 i) refl h
  where
    go : (t : Bool) → leb 1 i ≡ t → pick t (leb i p) false ≡ true → Between 1 p i
    go true q h = record { low = leb-true 1 i q; high = leb-true i p h }
    go false q h = absurd (subst T (sym h) tt)

between_in : (p i : ℕ) → Between 1 p i → in_parts p i ≡ true
between_in p i b = rw (le-leb 1 i b.low) (le-leb i p b.high)

in-parts_false : (p i : ℕ) → in_parts p i ≡ false → Between 1 p i → ⊥
in-parts_false p i h b = subst T (sym (between_in p i b) ∙ h) tt

not-between : (p i : ℕ) → (Between 1 p i → ⊥) → in_parts p i ≡ false
not-between p i h = go (in_parts p i) refl
  where
    go : (t : Bool) → in_parts p i ≡ t → in_parts p i ≡ false
    go true q = absurd (h (in-parts_true p i q))
    go false q = q

pub limit_decides : (p : ℕ) → Decides (limit_fault p) (LimitFault p)
limit_decides p = record {
  told = λ front i k h. right front i k (in_parts p i) (is_among i front) refl refl h;
  tells = only;
}
  where
    right : (front : List ℕ) (i k : ℕ) (s t : Bool) → in_parts p i ≡ s → is_among i front ≡ t → or_else (fault_if (not s) 16) (fault_if t 17) ≡ some k → LimitFault p front i k
    right front i k true true q m h = given_again (in-parts_true p i q) (is-among_true i front m) (cc)
    right front i k true false q m h = absurd (let z : ◌≡◌ {A = ℕ} 0 1 = cc in omega arith)
    right front i k false t q m h = not_there (in-parts_false p i q) (cc)

    only : (front : List ℕ) (i k : ℕ) → LimitFault p front i k → limit_fault p front i ≡ some k
    only front i k (not_there n e) = rw (not-between p i n, e)
    only front i k (given_again b m e) = rw (between_in p i b, among-is i front m, e)

pub first-limit-right : (p : ℕ) (ids : List ℕ) (x : Fault) → the_first_bad_limit_of p ids ≡ some x → First (LimitFault p) [] ids x.row x.number
first-limit-right p = first-right (limit_decides p) []

pub first-limit-only : (p : ℕ) (ids : List ℕ) (i k : ℕ) → First (LimitFault p) [] ids i k → the_first_bad_limit_of p ids ≡ some (fault i k)
first-limit-only p = first-only (limit_decides p) []

-- no fault of either: each id is there, and none stood before
no-bad-limit : (p : ℕ) (front ids : List ℕ) → Faultless (LimitFault p) front ids → Each (Between 1 p) ids × Faultless Repeated front ids
no-bad-limit p front [] h = (tt, tt)
no-bad-limit p front (i ∷ ids) h = go (in_parts p i) refl (no-bad-limit p (front ++ (i ∷ [])) ids h.1)
  where
    go : (t : Bool) → in_parts p i ≡ t → Each (Between 1 p) ids × Faultless Repeated (front ++ (i ∷ [])) ids → Each (Between 1 p) (i ∷ ids) × Faultless Repeated front (i ∷ ids)
    go true q r = let b = in-parts_true p i q in ((b, r.0), (λ k f. h.0 17 (given_again b f.again refl), r.1))
    go false q r = absurd (h.0 16 (not_there (in-parts_false p i q) refl))

good-limits : (p : ℕ) (front ids : List ℕ) → Each (Between 1 p) ids → Faultless Repeated front ids → Faultless (LimitFault p) front ids
good-limits p front [] b r = tt
good-limits p front (i ∷ ids) b r = (go, good-limits p (front ++ (i ∷ [])) ids b.1 r.1)
  where
    go : (k : ℕ) → LimitFault p front i k → ⊥
    go k (not_there n e) = n b.0
    go k (given_again c m e) = r.0 13 (record { again = m; number = refl })

pub limits-good : (p : ℕ) (ids : List ℕ) → the_first_bad_limit_of p ids ≡ none → Each (Between 1 p) ids × Different ids
limits-good p ids h = let r = no-bad-limit p [] ids (none_right (limit_decides p) [] ids h) in (r.0, (fresh-different [] ids r.1).0)

pub good-limits-none : (p : ℕ) (ids : List ℕ) → Each (Between 1 p) ids → Different ids → the_first_bad_limit_of p ids ≡ none
good-limits-none p ids b d = none_only (limit_decides p) [] ids (good-limits p [] ids b (different-fresh [] ids d (among-each (λ a. Among a [] → ⊥) ids (λ a m n. n))))

-- ## 18
pub none-missing : (p : ℕ) (ids : List ℕ) → some_missing p ids ≡ false → (i : ℕ) → Between 1 p i → Among i ids
unfolding some_missing
none-missing zero ids h i b = absurd (let l = b.low in let r = b.high in omega arith)
none-missing (suc p) ids h i b = go (is_among (suc p) ids) refl h (λ h b. none-missing p ids h i b)
  where
    below : (t : Bool) → eqb i (suc p) ≡ t → Among (suc p) ids → (Between 1 p i → Among i ids) → Among i ids
    below true q m ih = subst (λ (j : ℕ). Among j ids) (sym (eqb-true i (suc p) q)) m
    below false q m ih = let n = eqb-false i (suc p) q in ih (record { low = b.low; high = let r = b.high in omega arith })

    go : (t : Bool) → is_among (suc p) ids ≡ t → pick t (some_missing p ids) true ≡ false → (some_missing p ids ≡ false → Between 1 p i → Among i ids) → Among i ids
    go true q h ih = below (eqb i (suc p)) refl (is-among_true (suc p) ids q) (ih h)
    go false q h ih = absurd (subst T h tt)

pub all-given : (p : ℕ) (ids : List ℕ) → ((i : ℕ) → Between 1 p i → Among i ids) → some_missing p ids ≡ false
unfolding some_missing
all-given zero ids h = refl
all-given (suc p) ids h = rw (among-is (suc p) ids (h (suc p) (omega arith))) (all-given p ids (λ i b. h i (record { low = b.low; high = let r = b.high in omega arith })))

pub missing-right : (p : ℕ) (ids : List ℕ) → some_missing p ids ≡ true → SomeMissing p ids
unfolding some_missing
missing-right zero ids h = absurd (subst T (sym h) tt)
missing-right (suc p) ids h = go (is_among (suc p) ids) refl h (missing-right p ids)
  where
    go : (t : Bool) → is_among (suc p) ids ≡ t → pick t (some_missing p ids) true ≡ true → (some_missing p ids ≡ true → SomeMissing p ids) → SomeMissing (suc p) ids
    go true q h ih = let m = ih h in record { id = m.id; there = record { low = m.there.low; high = let r = m.there.high in omega arith }; missing = m.missing }
    go false q h ih = record { id = suc p; there = omega arith; missing = is-among_false (suc p) ids q }

pub missing-only : (p : ℕ) (ids : List ℕ) → SomeMissing p ids → some_missing p ids ≡ true
missing-only p ids m = go (some_missing p ids) refl
  where
    go : (t : Bool) → some_missing p ids ≡ t → some_missing p ids ≡ true
    go true q = q
    go false q = absurd (m.missing (none-missing p ids q m.id m.there))

-- ## All of them, over the tables of a network and of a mission
module _ {N : Type 0} where
  pub record NoFault (t : Tables N ℕ) (m : MissionTables N) : Type 0 where
    pub goals : the_first_foreign_goal_of (numbers_of t) m.goals ≡ none
    pub limits : the_first_bad_limit_of (the_parts_of t) (ids_of m) ≡ none
    pub all : some_missing (the_parts_of t) (ids_of m) ≡ false

  pub fits_by : (n : Network N) (m : Mission N) → m.rndf ≡ n.name → NoFault (tables n) (mission_tables m) → MissionFits n m
  fits_by n m name f =
      let p = parts_are (point_row_of n) n in
      let l = limits-good (the_parts_of (tables n)) (map (λ a. a.id) m.limits) f.limits in
      record {
        name = name;
        goals = subst (λ (l : List ℕ). Each (λ g. Among g l) m.goals) (numbers_in-order (point_row_of n) n) (goals-known (numbers_of (tables n)) m.goals f.goals);
        known = each-by_map (Between 1 (parts n)) (λ a. a.id) m.limits (subst (λ (p : ℕ). Each (Between 1 p) (map (λ a. a.id) m.limits)) p l.0);
        once = l.1;
        all = subst (λ (p : ℕ). (i : ℕ) → Between 1 p i → Among i (map (λ a. a.id) m.limits)) p (none-missing (the_parts_of (tables n)) (map (λ a. a.id) m.limits) f.all);
      }

  pub fits-only : (n : Network N) (m : Mission N) → MissionFits n m → NoFault (tables n) (mission_tables m)
  fits-only n m f =
      let ids = map (λ (a : Limit). a.id) m.limits in
      record {
        goals = rw (numbers_in-order (point_row_of n) n) (known-goals (all_numbers n) m.goals f.goals);
        limits = rw (parts_are (point_row_of n) n) (good-limits-none (parts n) ids (each-of_map (Between 1 (parts n)) (λ a. a.id) m.limits f.known) f.once);
        all = rw (parts_are (point_row_of n) n) (all-given (parts n) ids f.all);
      }
