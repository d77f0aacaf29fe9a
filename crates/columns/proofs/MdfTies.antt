-- What the ties ask of an MDF. Assumes nothing.
use Rattle.std.specs.Prelude.{Some, None, Ok, Err}
use mathlib.Core.Path.{◌≡◌, refl, sym, ap, ◌∙◌}
use mathlib.Core.List.{List, [], ◌∷◌}
use mathlib.Core.Option.{Option, none, some}
use mathlib.Core.Bool.{Bool, true, false}
use Prim.Native.Nat.{ℕ, suc, ◌-◌, ◌≤◌}
use native.Mathlib.Omega.{arith}
use lib.ListN.{get_or}
use lib.Dec.{eqb, ltb}
use Rattle.terms.specs.Ascii.{Bytes}
use Rattle.terms.specs.Words.{pick}
use Rattle.line.specs.Content.{Field}
use Rattle.line.specs.Forms.{listed, part}
use Rattle.line.specs.declared.Fields.{Fields}
use Rattle.number.specs.Executable.{the_integer_of}
use Rattle.grammar.specs.Language.{say}
use Rattle.grammar.specs.MissionPlaces.{mdf}
use Rattle.grammar.specs.PlaceRows.{mission_kind_row}
use Rattle.grammar.specs.PlaceTable.{mdf_table_of}
use Rattle.grammar.specs.Renamed.{order_named}
use Rattle.grammar.specs.MissionStatements.{Kind, orders, MDF_name_of, RNDF, format_version_of, creation_date_of, checkpoints, num_checkpoints, end_checkpoints, speed_limits, num_speed_limits, end_speed_limits, end_file_of, goal, limit}
use Rattle.text.specs.Judge.{read, number, Vals}
use Rattle.text.specs.MdfWords.{word_at, mdf_sorts, mdf_make, mdf_lexis}
use Rattle.statement.specs.declared.Order.{Order}
use Rattle.statement.specs.declared.Order.TheVariants as or
use Rattle.statement.specs.MissionMeaning.{meant}
use Rattle.made_out.specs.Names.{the_the_stretch_of, behind}
use Rattle.made_out.specs.MadeOrders.{order_shapes, order_needs}
use Rattle.mission_place.specs.declared.MissionPlace.{MissionPlace}
use Rattle.mission_place.specs.Step.{permits_of, after_of, has_of, opted_of, due_of, option_of, cell_of, by_cell, refuses_by}
use Rattle.mission_place.specs.Abstract.{seen, abs_of}
use Rattle.mission_place.proofs.Theorems.{Sound}
use Rattle.mission_judge.specs.MdfLine.{mdf_judging}
use Rattle.mission_judge.proofs.MdfTies.{mdf_ties, step_is}
use Rattle.law_columns.specs.Finding.{taken?, on_read, wrong_at, tests, behind_word}
use Rattle.law_columns.specs.Files.{mdf_low}
use Rattle.columns.specs.Locating.{tried_of}
use Rattle.columns.specs.MdfColumns.{minimum_wrong_of, limit_wrong_of, mdf_wrong}
use Rattle.columns.proofs.Ties.{taken_mapped, pick-few, Locates}
use Rattle.std.specs.Prelude as Rust

-- where the kind may stand, the place takes what is permitted
taken-by : (p : MissionPlace) (s : Order) (c : ℕ) → refuses_by p c ≡ 0 → taken? (seen (by_cell p s c)) ≡ permits_of s
unfolding by_cell refuses_by due_of option_of
taken-by p s c h = go (ltb c 128) (ltb c 255) (has_of p (c - 128)) (permits_of s) (after_of p s c) (opted_of p (c - 128)) h
  where
    go : (due option given fine : Bool) (q r : MissionPlace) → ◌≡◌ {A = ℕ} (pick due 0 (pick option (pick given 6 0) 5)) 0
        → taken? (seen (pick due (pick fine (Ok q) (Err 9)) (pick option (pick given (Err 6) (pick fine (Ok r) (Err 9))) (Err 5)))) ≡ fine
    go true option given true q r e = refl
    go true option given false q r e = refl
    go false true true fine q r e = absurd (omega (arith, e))
    go false true false true q r e = refl
    go false true false false q r e = refl
    go false false given fine q r e = absurd (omega (arith, e))

-- a trial is the machine's
trial_is : (p : MissionPlace) → Sound p → (n : ℕ) (k : Kind) (s : Order) (v : Vals (mdf_sorts k)) → refuses_by p (cell_of mdf_table_of p (mission_kind_row k)) ≡ 0 → meant s ≡ order_named the_the_stretch_of (say (orders Field) k (mdf_make k v))
    → tried_of n (permits_of s) ≡ tests (mdf Field) mdf_lexis mdf_low (abs_of p) k n v
trial_is p i n k s v h m =
    ap (λ (b : Bool). pick (eqb n 8) true b)
    (sym (taken-by p s (cell_of mdf_table_of p (mission_kind_row k)) h) ∙ sym (taken_mapped abs_of (seen (by_cell p s (cell_of mdf_table_of p (mission_kind_row k))))) ∙ ap taken? (step_is p i s (say (orders Field) k (mdf_make k v)) m))

one_more : (b : Bool) → pick b 2 1 ≡ suc (pick b 1 0)
one_more true = refl
one_more false = refl

module _ (p : MissionPlace) (i : Sound p) (n : ℕ) where
  abbrev tried : (k : Kind) → Vals (mdf_sorts k) → Bool
  tried k = tests (mdf Field) mdf_lexis mdf_low (abs_of p) k n

  -- the kind may stand here
  abbrev may : Kind → Type 0
  may k = refuses_by p (cell_of mdf_table_of p (mission_kind_row k)) ≡ 0

  minimum-is : may limit → (id : ℕ) (t : Rust.Option ℕ) → minimum_wrong_of n id t ≡ suc (on_read (number t) (λ m. pick (tried limit (id, (m, (mdf_low limit).1.1))) 1 0))
  unfolding minimum_wrong_of
  minimum-is h id (Some m) = ap (λ (b : Bool). pick b 2 1) (trial_is p i n limit (or.Limit id m 0) (id, (m, (mdf_low limit).1.1)) h refl) ∙ one_more (tried limit (id, (m, (mdf_low limit).1.1)))
  minimum-is h id None = refl

  limit_is : may limit → (t m : Rust.Option ℕ) → limit_wrong_of n t m ≡ on_read (number t) (λ id. pick (tried limit (id, (mdf_low limit).1)) (suc (on_read (number m) (λ x. pick (tried limit (id, (x, (mdf_low limit).1.1))) 1 0))) 0)
  unfolding limit_wrong_of
  limit_is h (Some id) m =
      ap (λ (b : Bool). pick b (minimum_wrong_of n id m) 0) (trial_is p i n limit (or.Limit id 0 0) (id, (mdf_low limit).1) h refl)
      ∙ ap (λ (x : ℕ). pick (tried limit (id, (mdf_low limit).1)) x 0) (minimum-is h id m)
  limit_is h None m = refl

  wrong-is : (k : Kind) (s : Bytes) (f : Fields) → may k → mdf_wrong n s f (mission_kind_row k) ≡ behind_word (word_at (mission_kind_row k)) (wrong_at (mdf_sorts k) (tried k) (mdf_low k) (behind (word_at (mission_kind_row k)) (listed 0 s f (order_needs (get_or order_shapes (mission_kind_row k) 0)))))
  unfolding mdf_wrong wrong_at read
  wrong-is MDF_name_of s f h = refl
  wrong-is RNDF s f h = refl
  wrong-is format_version_of s f h = refl
  wrong-is creation_date_of s f h = refl
  wrong-is checkpoints s f h = refl
  wrong-is num_checkpoints s f h = refl
  wrong-is end_checkpoints s f h = refl
  wrong-is speed_limits s f h = refl
  wrong-is num_speed_limits s f h = refl
  wrong-is end_speed_limits s f h = refl
  wrong-is end_file_of s f h = refl
  wrong-is goal s f h = refl
  wrong-is limit s f h = limit_is h (the_integer_of (part s f.a)) (the_integer_of (part s f.b))

-- ## One of the first three
module _ (n : ℕ) where
  minimum-few : (id : ℕ) (t : Rust.Option ℕ) → minimum_wrong_of n id t ≤ 2
  unfolding minimum_wrong_of
  minimum-few id (Some m) = pick-few (tried_of n (permits_of (or.Limit id m 0))) 2 1 (omega arith) (omega arith)
  minimum-few id None = omega arith

  limit-few : (t m : Rust.Option ℕ) → limit_wrong_of n t m ≤ 2
  unfolding limit_wrong_of
  limit-few (Some id) m = pick-few (tried_of n (permits_of (or.Limit id 0 0))) _ 0 (minimum-few id m) (omega arith)
  limit-few None m = omega arith

  wrong-few : (s : Bytes) (f : Fields) (k : ℕ) → mdf_wrong n s f k ≤ 2
  unfolding mdf_wrong
  wrong-few s f k = pick-few (eqb k 12) _ _ (limit-few (the_integer_of (part s f.a)) (the_integer_of (part s f.b))) (pick-few (eqb k 11) 0 1 (omega arith) (omega arith))

pub mdf_locates : Locates (mdf Field) mdf_lexis mdf_judging mdf_ties mdf_low (λ p. mdf_wrong)
mdf_locates = record { wrong-is = λ p i k n s f. wrong-is p i n k s f; wrong-few = λ p. wrong-few }
