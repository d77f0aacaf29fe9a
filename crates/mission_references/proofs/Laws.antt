-- THE LAWS of 15, 16 and 17: over the tables that hold these rows, and have room for them, the answers are the first faults of `fill`, row and number. Assumes nothing.
use mathlib.Core.Path.{◌≡◌, refl, sym, ap, ◌∙◌}
use mathlib.Core.List.{List, [], ◌∷◌, ◌++◌, map, map-append}
use mathlib.Core.Option.{Option, none, some}
use mathlib.Core.Bool.{Bool, true, false, not}
use Prim.Native.Nat.{ℕ, ◌*◌, ◌≤◌}
use native.Mathlib.Omega.{arith}
use lib.Dec.{eqb, leb}
use lib.ListN.{length, length-map}
use borrow.Author.Tests.{eqb-true, eqb-false, eq-eqb, ne_eqb, leb-true, leb-false, le-leb, lt-leb}
use Rattle.terms.specs.Words.{pick, Each}
use Rattle.units.specs.Range.{largest, Numbered}
use Rattle.units.specs.Made.{within}
use Rattle.units.proofs.Ranges.{only-inside}
use Rattle.rows.specs.Strides.{checkpoint_stride, goal_stride, limit_stride}
use Rattle.rows.specs.Columns.{checkpoint_words_of, goal_words_of, limit_words_of}
use Rattle.rows.specs.Table.{table_of}
use Rattle.rows.specs.declared.CheckpointRow.{CheckpointRow}
use Rattle.rows.specs.declared.GoalRow.{GoalRow}
use Rattle.rows.specs.declared.LimitRow.{LimitRow}
use Rattle.fill.specs.Faults.{LimitFault, not_there, given_again}
use Rattle.fill.specs.FirstFaults.{Fault, fault, or_behind, fault_if, or_else, first_fault, is_among, in_parts, goal_fault, the_first_foreign_goal_of, limit_fault, the_first_bad_limit_of}
use Rattle.fill.proofs.AmongLaws.{not-among, each-among}
use Rattle.fill.proofs.MissionLaws.{first-goal-right, first-limit-right}
use Rattle.marks.specs.Tests.{seen, row_of, foreign, first_foreign_goal_of, ids_to, unfitting, bad_limit, first_bad_limit_of}
use Rattle.marks.proofs.Rows.{read, checkpoint-numbers, goal-numbers, limit-ids, checkpoints-say, goals-say, limits-say, seen_all}
use Rattle.mission_references.specs.Numbers.{goal_refusal, limit_refusal}

-- ## Reading changes no answer
read_first : (f g : List ℕ → ℕ → Option ℕ) → ((front : List ℕ) (a : ℕ) → f (map read front) (read a) ≡ g front a) → (front l : List ℕ) → first_fault f (map read front) (map read l) ≡ first_fault g front l
unfolding first_fault
read_first f g e front [] = refl
read_first f g e front (a ∷ l) =
    rw (e front a, length-map front read) (ap (or_behind (length front) (g front a)) (ap (λ (x : List ℕ). first_fault f x (map read l)) (sym (map-append read front (a ∷ []))) ∙ read_first f g e (front ++ (a ∷ [])) l))

-- a number below the largest of the field is the number that is read, and no other is read as it
read_eqb : (a b : ℕ) → a ≤ largest → eqb a (read b) ≡ eqb a b
read_eqb a b h = go (eqb a b) refl
  where
    go : (t : Bool) → eqb a b ≡ t → eqb a (read b) ≡ t
    go true q = let e = eqb-true a b q in eq-eqb a (read b) (omega arith)
    go false q = let n = eqb-false a b q in ne_eqb a (read b) (λ (e : a ≡ read b). n (omega arith))

read-among : (a : ℕ) (l : List ℕ) → a ≤ largest → is_among a (map read l) ≡ is_among a l
unfolding is_among
read-among a [] h = refl
read-among a (b ∷ l) h = rw (read_eqb a b h) (ap (pick (eqb a b) true) (read-among a l h))

-- ## 15
goal-read : (numbers : List ℕ) → Each Numbered numbers → (a : ℕ) → is_among (read a) numbers ≡ is_among a numbers
goal-read numbers e a = go (leb a 65535) refl
  where
    none_above : (b : ℕ) → 65535 ≤ b → is_among b numbers ≡ false
    none_above b h = not-among b numbers (λ m. let n = (each-among Numbered numbers b e m).high in omega arith)

    go : (t : Bool) → leb a 65535 ≡ t → is_among (read a) numbers ≡ is_among a numbers
    go true q = let l = leb-true a 65535 q in ap (λ (b : ℕ). is_among b numbers) (let r : read a ≡ a = omega arith in r)
    go false q = let l = leb-false a 65535 q in none_above (read a) (omega arith) ∙ sym (none_above a (omega arith))

-- the answer by its number again
goal_number_of : (numbers goals : List ℕ) → goal_refusal (row_of (the_first_foreign_goal_of numbers goals)) ≡ the_first_foreign_goal_of numbers goals
goal_number_of numbers goals = go (the_first_foreign_goal_of numbers goals) refl
  where
    go : (o : Option Fault) → the_first_foreign_goal_of numbers goals ≡ o → goal_refusal (row_of o) ≡ o
    go none q = refl
    go (some x) q = ap (λ (k : ℕ). some (fault x.row k)) (sym (first-goal-right numbers goals x q).fault.number)

module _ (n m : ℕ) (cs : List CheckpointRow) (gs : List GoalRow) (room : length cs * checkpoint_stride ≤ n) (room' : length gs * goal_stride ≤ m) (in-range : Each Numbered (checkpoint-numbers cs)) where
  pub goals-of-tables : first_foreign_goal_of (table_of 0 checkpoint_words_of n cs) (length cs) (table_of 0 goal_words_of m gs) (length gs) ≡ row_of (the_first_foreign_goal_of (checkpoint-numbers cs) (goal-numbers gs))
  unfolding first_foreign_goal_of
  goals-of-tables =
      let numbers = checkpoint-numbers cs in
      rw (checkpoints-say n cs room in-range, goals-say m gs room') (ap row_of (read_first (foreign numbers) (goal_fault numbers) (λ front a. ap (λ (t : Bool). fault_if (not t) 15) (seen_all numbers in-range (read a) ∙ goal-read numbers in-range a)) [] (goal-numbers gs)))

  -- THE LAW: the refusal is `fill`'s
  pub goals-refused : goal_refusal (first_foreign_goal_of (table_of 0 checkpoint_words_of n cs) (length cs) (table_of 0 goal_words_of m gs) (length gs)) ≡ the_first_foreign_goal_of (checkpoint-numbers cs) (goal-numbers gs)
  goals-refused = ap goal_refusal goals-of-tables ∙ goal_number_of (checkpoint-numbers cs) (goal-numbers gs)

-- ## 16 and 17
module _ (parts : ℕ) (few : parts ≤ largest) where
  in-parts-read : (i : ℕ) → in_parts parts (read i) ≡ in_parts parts i
  in-parts-read i = go (leb i 65535) refl
    where
      far : (j : ℕ) → 65535 ≤ j → in_parts parts j ≡ false
      far j h = rw (le-leb 1 j (omega arith)) (lt-leb j parts (omega arith))

      go : (t : Bool) → leb i 65535 ≡ t → in_parts parts (read i) ≡ in_parts parts i
      go true q = let l = leb-true i 65535 q in ap (in_parts parts) (let r : read i ≡ i = omega arith in r)
      go false q = let l = leb-false i 65535 q in far (read i) (omega arith) ∙ sym (far i (omega arith))

  -- an id that is there is a number of a part
  numbered : (i : ℕ) → in_parts parts i ≡ true → within 1 i ≡ true
  numbered i h = go (leb 1 i) h
    where
      go : (t : Bool) → pick t (leb i parts) false ≡ true → pick t (leb i largest) false ≡ true
      go true h = let l = leb-true i parts h in le-leb i largest (omega arith)
      go false h = h

  limit-read : (front : List ℕ) (i : ℕ) → unfitting parts (map read front) (read i) ≡ limit_fault parts front i
  limit-read front i = let p : ids_to parts ≡ parts = omega arith in rw (p, in-parts-read i) (go (in_parts parts i) refl)
    where
      go : (t : Bool) → in_parts parts i ≡ t → or_else (fault_if (not t) 16) (fault_if (seen (map read front) (read i)) 17) ≡ or_else (fault_if (not t) 16) (fault_if (is_among i front) 17)
      go true q =
          let b = (only-inside 1 i (numbered i q)).high in
          let r : read i ≡ i = omega arith in
          rw (r, numbered i q) (ap (λ (t : Bool). fault_if t 17) (read-among i front b))
      go false q = refl

-- the answer by its number again
limit-number : (parts : ℕ) (ids : List ℕ) → limit_refusal (bad_limit (the_first_bad_limit_of parts ids)) ≡ the_first_bad_limit_of parts ids
limit-number parts ids = go (the_first_bad_limit_of parts ids) refl
  where
    by_number : (front : List ℕ) (i row k : ℕ) → LimitFault parts front i k → limit_refusal (bad_limit (some (fault row k))) ≡ some (fault row k)
    by_number front i row k (not_there h e) = rw e
    by_number front i row k (given_again b m e) = rw e

    go : (o : Option Fault) → the_first_bad_limit_of parts ids ≡ o → limit_refusal (bad_limit o) ≡ o
    go none q = refl
    go (some x) q = let f = first-limit-right parts ids x q in by_number f.before f.this x.row x.number f.fault

module _ (n : ℕ) (ls : List LimitRow) (parts : ℕ) (room : length ls * limit_stride ≤ n) (few : parts ≤ largest) where
  pub limits-of-table : first_bad_limit_of (table_of 0 limit_words_of n ls) (length ls) parts ≡ bad_limit (the_first_bad_limit_of parts (limit-ids ls))
  unfolding first_bad_limit_of
  limits-of-table = rw (limits-say n ls room) (ap bad_limit (read_first (unfitting parts) (limit_fault parts) (limit-read parts few) [] (limit-ids ls)))

  -- THE LAW: the refusal is `fill`'s, its row and its number
  pub limits-refused : limit_refusal (first_bad_limit_of (table_of 0 limit_words_of n ls) (length ls) parts) ≡ the_first_bad_limit_of parts (limit-ids ls)
  limits-refused = ap limit_refusal limits-of-table ∙ limit-number parts (limit-ids ls)
