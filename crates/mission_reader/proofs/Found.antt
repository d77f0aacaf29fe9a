-- What the walk found tells what `text` answers: a fault is the first of 2 to 10; where rows are gathered the text spells a mission, and they are counted. Assumes nothing.
use mathlib.Core.Path.{◌≡◌, refl, sym, ap, ap₂, ◌∙◌}
use mathlib.Core.List.{List, map}
use mathlib.Core.Logic.{◌⊎◌, inl, inr}
use Prim.Native.Nat.{ℕ, zero, suc, ◌*◌, ◌<◌, ◌≤◌}
use native.Mathlib.Nat.{suc-mul}
use native.Mathlib.Omega.{arith}
use lib.ListN.{length, replicate, length-replicate}
use lib.Dec.{lit<}
use Rattle.terms.specs.Ascii.{Bytes}
use Rattle.line.specs.Content.{Field}
use Rattle.grammar.specs.MissionStatements.{Statement}
use Rattle.grammar.specs.Mission.{Mission, SpellsMission}
use Rattle.grammar.specs.MissionPlaces.{mdf, name_due}
use Rattle.text.specs.MdfLines.{the_mdf_line_of}
use Rattle.text.specs.MdfWords.{mdf_lexis}
use Rattle.text.specs.Spelling.{SpellsMdf}
use Rattle.text.specs.Answers.{Answer, faulty, short, read}
use Rattle.text.proofs.TextReading.{spelled-read}
use Rattle.text.proofs.Theorems.{read-mdf, mdf-file, mdf-well-formed}
use Rattle.form_faults.specs.FormFaults.{MdfBadLine, MdfUnended}
use Rattle.form_faults.proofs.FormFaults.{mdf-bad-line-right, mdf-unended-right}
use Rattle.rows.specs.Strides.{goal_stride, limit_stride}
use Rattle.rows.specs.Columns.{goal_words_of, limit_words_of}
use Rattle.rows.specs.Lay.{rows_of}
use Rattle.rows.proofs.Lay.{fits-row}
use Rattle.rows.proofs.Tables.{length-put-rows}
use Rattle.table_words.specs.Words.{MissionLent, mission_zeros}
use Rattle.mission_progress.specs.Progress.{none_read_of}
use Rattle.mission_progress.proofs.Shown as P
use Rattle.walk.specs.Walking.{Found, fault, gathered}
use Rattle.mission.specs.Storing.{MissionMemory, memory}
use Rattle.mission.specs.Reading.{filled_of}
use Rattle.mission.proofs.Gathered.{goals-put, limits-put, tables_of, counts_of}
use Rattle.mission.proofs.Filled.{filled-faulty, filled-short, filled-over, filled-read, numbers_fit, filled-spelled, all_read, mission-memory}
use Rattle.mission_reader.specs.MissionReplies.{RoomFor}

abbrev line_of : Found MissionMemory → ℕ
line_of (fault i n) = i
line_of (gathered m) = 0

abbrev number-of : Found MissionMemory → ℕ
number-of (fault i n) = n
number-of (gathered m) = 0

abbrev is-fault : Found MissionMemory → ℕ
is-fault (fault i n) = 1
is-fault (gathered m) = 0

abbrev left_in : MissionMemory → Found MissionMemory → MissionMemory
left_in m (fault i n) = m
left_in m (gathered l) = l

no-fault : {X : Type 0} {m : MissionMemory} {i n : ℕ} → ◌≡◌ {A = Found MissionMemory} (gathered m) (fault i n) → X
no-fault e = absurd (let z : ◌≡◌ {A = ℕ} 0 1 = ap is-fault e in omega arith)

-- ## A fault
pub found-fault : (mdf : Bytes) (g l : List ℕ) (i k : ℕ) → filled_of mdf (memory none_read_of g l) ≡ fault i k → MdfBadLine mdf i k ⊎ (MdfUnended mdf i × (k ≡ 10))
found-fault mdf g l i k e = go (read-mdf mdf) refl
  where
    go : (a : Answer (Statement Field)) → read-mdf mdf ≡ a → MdfBadLine mdf i k ⊎ (MdfUnended mdf i × (k ≡ 10))
    go (faulty j c) r =
        let q = sym (filled-faulty mdf (memory none_read_of g l) j c r) ∙ e in
        inl (mdf-bad-line-right mdf i k (r ∙ ap₂ (λ (a b : ℕ). faulty a b) (ap line_of q) (ap number-of q)))
    go (short j) r =
        let q = sym (filled-short mdf (memory none_read_of g l) j r) ∙ e in
        inr (mdf-unended-right mdf i (r ∙ ap (λ (a : ℕ). short a) (ap line_of q)), sym (ap number-of q))
    go (read ts) r = no-fault (sym (filled-over mdf (memory none_read_of g l) ts r) ∙ e)

-- ## Rows
pub found-mission : (mdf : Bytes) (g l : List ℕ) (w : MissionMemory) → filled_of mdf (memory none_read_of g l) ≡ gathered w → (m : Mission Field) × SpellsMdf m mdf
found-mission mdf g l w e = (mdf-well-formed mdf).0 (go (read-mdf mdf) refl)
  where
    go : (a : Answer (Statement Field)) → read-mdf mdf ≡ a → (ts : List (Statement Field)) × (read-mdf mdf ≡ read ts)
    go (faulty j c) r = no-fault (sym e ∙ filled-faulty mdf (memory none_read_of g l) j c r)
    go (short j) r = no-fault (sym e ∙ filled-short mdf (memory none_read_of g l) j r)
    go (read ts) r = (ts, r)

-- so many rows fit into a table of so many rows
rows-held : (c stride : ℕ) → 0 < stride → c ≤ rows_of (c * stride) stride
rows-held zero stride h = omega arith
rows-held (suc c) stride h = let e = suc-mul c stride in fits-row (suc c * stride) stride c h (omega arith)

module _ (m : Mission Field) (text : Bytes) (s : SpellsMdf m text) where
  statements-read : read-mdf text ≡ read s.said
  statements-read = spelled-read (mdf Field) mdf_lexis the_mdf_line_of SpellsMission name_due mdf-file m text s

  -- tables with room for the mission
  abbrev ample : MissionLent
  ample = record { goals = replicate (length m.goals * goal_stride) 0; limits = replicate (length m.limits * limit_stride) 0 }

  ample-room : RoomFor m ample
  ample-room = record {
    goals = rw (length-replicate {A = ℕ} (length m.goals * goal_stride) 0) (rows-held (length m.goals) goal_stride (lit< tt));
    limits = rw (length-replicate {A = ℕ} (length m.limits * limit_stride) 0) (rows-held (length m.limits) limit_stride (lit< tt));
  }

  module _ (g l : List ℕ) (w : MissionMemory) (e : filled_of text (memory none_read_of g l) ≡ gathered w) where
    -- what is left, by rows stored
    abbrev held : (goals limits : List ℕ) → MissionMemory
    held goals limits = memory (P.shown (tables_of s.said).file (counts_of s.said)) (goals-put goals 0 (tables_of s.said).goals) (limits-put limits 0 (tables_of s.said).limits)

    left_is : w ≡ held g l
    left_is = ap (left_in w) (sym e ∙ filled-read text s.said statements-read (numbers_fit m text s) g l)

    -- THE LAWS: whatever room there is, the rows are counted and the file's own row is known; for what is known does not depend on what the tables hold
    pub known_behind : w.so_far ≡ all_read m
    known_behind =
        let zg = (mission_zeros ample).goals in
        let zl = (mission_zeros ample).limits in
        ap (λ (x : MissionMemory). x.so_far) left_is
        ∙ ap (λ (x : Found MissionMemory). (left_in w x).so_far) (sym (filled-read text s.said statements-read (numbers_fit m text s) zg zl) ∙ filled-spelled m text s ample ample-room)

    -- and each table is as long as it was
    pub goals-long : length w.goals ≡ length g
    goals-long = ap (λ (x : MissionMemory). length x.goals) left_is ∙ length-put-rows goal_stride goal_words_of (lit< tt) (λ v. refl) g 0 (map P.shown_goal (tables_of s.said).goals)

    pub limits-long : length w.limits ≡ length l
    limits-long = ap (λ (x : MissionMemory). length x.limits) left_is ∙ length-put-rows limit_stride limit_words_of (lit< tt) (λ v. refl) l 0 (map P.shown_limit (tables_of s.said).limits)

  -- where cleared tables have room for the mission, they hold it
  pub filled-behind : (u : MissionLent) (w : MissionMemory) → filled_of text (memory none_read_of (mission_zeros u).goals (mission_zeros u).limits) ≡ gathered w → RoomFor m u → w ≡ mission-memory m u
  filled-behind u w e room = ap (left_in w) (sym e ∙ filled-spelled m text s u room)
