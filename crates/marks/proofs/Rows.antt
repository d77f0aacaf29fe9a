-- What rows say over the tables that hold given rows and have room for them: each row's number, as it is read in a field of 16 bits. Numbers that are checkpoints' are read as they are. Assumes nothing.
use mathlib.Core.Path.{◌≡◌, refl, sym, ap, ◌∙◌}
use mathlib.Core.List.{List, [], ◌∷◌, map, map-map}
use mathlib.Core.Bool.{Bool, true, false}
use Prim.Native.Nat.{ℕ, ◌*◌, ◌<◌, ◌≤◌}
use native.Mathlib.Omega.{arith}
use lib.Dec.{lit<}
use lib.ListN.{length, get_or, length-map, get_or-map}
use lib.Seq.{ext_get_or}
use Rattle.terms.specs.Words.{pick, Each}
use Rattle.terms.proofs.Tests.{clash}
use Rattle.units.specs.Range.{Numbered}
use Rattle.units.specs.Made.{within, mph, checkpoint_number_of, segment_id_of}
use Rattle.units.proofs.Ranges.{inside}
use Rattle.rows.specs.Strides.{checkpoint_stride, goal_stride, limit_stride}
use Rattle.rows.specs.Columns.{checkpoint_words_of, goal_words_of, limit_words_of}
use Rattle.rows.specs.Read.{saturated, short_word}
use Rattle.rows.specs.Table.{table_of}
use Rattle.rows.specs.declared.CheckpointRow.{CheckpointRow}
use Rattle.rows.specs.declared.GoalRow.{GoalRow}
use Rattle.rows.specs.declared.LimitRow.{LimitRow}
use Rattle.rows.proofs.Tables.{row-of-table}
use Rattle.fill.specs.FirstFaults.{is_among}
use Rattle.fill.proofs.AmongLaws.{not-among, each-among}
use Rattle.marks.specs.Rows.{checkpoint_says, goal_says, limit_says, said}
use Rattle.marks.specs.Tests.{seen}
use Rattle.marks.proofs.Walked.{length-said, said_at}

-- ## What the rows say
-- a word as it is read in a field of 16 bits
abbrev pub read : ℕ → ℕ
read = saturated 65535

said_all : {R : Type 0} (says : ℕ → ℕ) (f : R → ℕ) (rs : List R) (d : R) → ((i : ℕ) → i < length rs → says i ≡ f (get_or rs i d)) → said says (length rs) ≡ map f rs
said_all says f rs d h =
    let k = length-said says (length rs) in
    ext_get_or (f d) (said says (length rs)) (map f rs) (k ∙ sym (length-map rs f))
    (λ i l. let m : i < length rs = omega arith in said_at says (length rs) i (f d) m ∙ h i m ∙ sym (get_or-map f rs i d))

numbers-read : {R : Type 0} (says : ℕ → ℕ) (f : R → ℕ) (rs : List R) (d : R) → ((i : ℕ) → i < length rs → says i ≡ read (f (get_or rs i d))) → said says (length rs) ≡ map read (map f rs)
numbers-read says f rs d h = said_all says (λ v. read (f v)) rs d h ∙ sym (map-map read f rs)

-- the numbers of checkpoints and of goals, the ids of limits
abbrev pub checkpoint-numbers : List CheckpointRow → List ℕ
checkpoint-numbers = map (λ c. c.number.0)

abbrev pub goal-numbers : List GoalRow → List ℕ
goal-numbers = map (λ g. g.number.0)

abbrev pub limit-ids : List LimitRow → List ℕ
limit-ids = map (λ l. l.id.0)

checkpoints-read : (n : ℕ) (cs : List CheckpointRow) → length cs * checkpoint_stride ≤ n → said (checkpoint_says (table_of 0 checkpoint_words_of n cs)) (length cs) ≡ map read (checkpoint-numbers cs)
checkpoints-read n cs h =
    let d : CheckpointRow = record { number = checkpoint_number_of 0; point = 0 } in
    numbers-read (checkpoint_says (table_of 0 checkpoint_words_of n cs)) (λ c. c.number.0) cs d
    (λ i l. ap (λ (w : List ℕ). short_word w 0) (row-of-table checkpoint_stride checkpoint_words_of (lit< tt) (λ v. refl) 0 n cs i d h l))

pub goals-say : (n : ℕ) (gs : List GoalRow) → length gs * goal_stride ≤ n → said (goal_says (table_of 0 goal_words_of n gs)) (length gs) ≡ map read (goal-numbers gs)
goals-say n gs h =
    let d : GoalRow = record { number = checkpoint_number_of 0 } in
    numbers-read (goal_says (table_of 0 goal_words_of n gs)) (λ g. g.number.0) gs d
    (λ i l. ap (λ (w : List ℕ). short_word w 0) (row-of-table goal_stride goal_words_of (lit< tt) (λ v. refl) 0 n gs i d h l))

pub limits-say : (n : ℕ) (ls : List LimitRow) → length ls * limit_stride ≤ n → said (limit_says (table_of 0 limit_words_of n ls)) (length ls) ≡ map read (limit-ids ls)
limits-say n ls h =
    let d : LimitRow = record { id = segment_id_of 0; minimum = mph 0; maximum = mph 0 } in
    numbers-read (limit_says (table_of 0 limit_words_of n ls)) (λ l. l.id.0) ls d
    (λ i l. ap (λ (w : List ℕ). short_word w 0) (row-of-table limit_stride limit_words_of (lit< tt) (λ v. refl) 0 n ls i d h l))

-- ## Numbers that are checkpoints'
all_read : (numbers : List ℕ) → Each Numbered numbers → map read numbers ≡ numbers
all_read [] e = refl
all_read (a ∷ l) e = let h = e.0.high in let r : read a ≡ a = omega arith in rw r (ap (◌∷◌ a) (all_read l e.1))

pub checkpoints-say : (n : ℕ) (cs : List CheckpointRow) → length cs * checkpoint_stride ≤ n → Each Numbered (checkpoint-numbers cs) → said (checkpoint_says (table_of 0 checkpoint_words_of n cs)) (length cs) ≡ checkpoint-numbers cs
checkpoints-say n cs h e = checkpoints-read n cs h ∙ all_read (checkpoint-numbers cs) e

-- among them every number is seen that is there
pub seen_all : (numbers : List ℕ) → Each Numbered numbers → (a : ℕ) → seen numbers a ≡ is_among a numbers
seen_all numbers e a = go (within 1 a) refl
  where
    go : (t : Bool) → within 1 a ≡ t → pick t (is_among a numbers) false ≡ is_among a numbers
    go true q = refl
    go false q = sym (not-among a numbers (λ m. clash (sym (inside (each-among Numbered numbers a e m)) ∙ q)))
