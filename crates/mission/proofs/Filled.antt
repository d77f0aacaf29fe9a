-- THE LAWS: the walk finds what `text` answers of an MDF, and its tables hold what `fill` gives; of a text that spells a mission, the tables of the mission. Assumes nothing.
use mathlib.Core.Path.{◌≡◌, refl, sym, ap, ap₂, subst, ◌∙◌}
use mathlib.Core.List.{List, map}
use mathlib.Core.Option.{Option, none, some}
use Prim.Native.Nat.{ℕ}
use native.Mathlib.Omega.{arith}
use lib.ListN.{length}
use Rattle.terms.specs.Ascii.{Bytes}
use Rattle.terms.specs.Words.{Between}
use Rattle.terms.proofs.Lists.{each_map}
use Rattle.line.specs.Content.{Field}
use Rattle.units.specs.Range.{largest, Numbered}
use Rattle.grammar.specs.MissionStatements.{Statement, Limit}
use Rattle.grammar.specs.Mission.{Mission, GoodLimit, SpellsMission}
use Rattle.grammar.specs.MissionPlaces.{mdf, name_due}
use Rattle.grammar.specs.Names.{mission_named}
use Rattle.grammar.specs.Renamed.{order_named}
use Rattle.grammar.specs.Tables.{MissionTables, mission_tables}
use Rattle.grammar.specs.Tables as G
use Rattle.text.specs.MdfLines.{the_mdf_line_of}
use Rattle.text.specs.MdfWords.{mdf_lexis}
use Rattle.text.specs.Spelling.{SpellsMdf}
use Rattle.text.specs.Answers.{read, faulty, short}
use Rattle.text.proofs.TextReading.{spelled-read}
use Rattle.text.proofs.Theorems.{read-mdf, mdf-file}
use Rattle.fill.specs.Counts.{MissionCounts, mission_sizes}
use Rattle.fill.specs.MissionRows.{a_limit}
use Rattle.fill.proofs.MissionFills.{mission_fills, mission_counted, mission-tallied-declared}
use Rattle.rows.specs.Strides.{goal_stride, limit_stride}
use Rattle.rows.specs.Columns.{goal_words_of, limit_words_of}
use Rattle.rows.specs.Table.{put_rows}
use Rattle.rows.specs.declared.MissionFileRow.{MissionFileRow}
use Rattle.statement.specs.Meaning.{Stretch, stretch}
use Rattle.statement.specs.MissionMeaning.{meant}
use Rattle.statement.specs.MissionKinds.{written}
use Rattle.statement.specs.declared.Order.{Order}
use Rattle.statement.proofs.MissionLaws.{back}
use Rattle.made_out.specs.Names.{the_the_stretch_of}
use Rattle.mission_progress.specs.declared.MissionProgress.{MissionProgress}
use Rattle.mission_progress.specs.Progress.{none_read_of}
use Rattle.mission_progress.proofs.Shown.{shown, shown-perhaps, Fits}
use Rattle.table_words.specs.Words.{MissionLent, mission_zeros, MissionHasRoom, the_goal_words_of, the_limit_words_of, mission_filled}
use Rattle.table_words.specs.FileRows.{shown_name, shown_mission_file, mission_file_of}
use Rattle.table_words.specs.Shown.{shown_goal, shown_limit}
use Rattle.table_words.proofs.Shown.{goal-shown, limit-shown, put-shown}
use Rattle.table_words.proofs.Filled.{mission-stored-filled}
use Rattle.table_words.proofs.Bounds.{spelled-mission-bounded}
use Rattle.table_words.proofs.Spelled.{mission-spelled}
use Rattle.table_words.proofs.Renamed.{stretches-mission-file}
use Rattle.walk.specs.Standing.{Where, places_in, over}
use Rattle.walk.specs.Walking.{fault, gathered}
use Rattle.walk.proofs.MdfWalk.{told_as, walk-read, walk-faulty, walk-short, mdf_as-many}
use Rattle.mission.specs.Storing.{MissionMemory, memory}
use Rattle.mission.specs.Reading.{put, filled_of}
use Rattle.mission.proofs.Gathered.{goals-put, limits-put, tables_of, counts_of, TablesFit, all_shown}

-- ## By what `text` answers
by_meaning : (w : Where) (s : Order) (m : MissionMemory) → put w s m ≡ put w (written (meant s)) m
by_meaning w s m = ap (λ (x : Order). put w x m) (sym (back s))

pub filled-faulty : (text : Bytes) (m : MissionMemory) (i n : ℕ) → read-mdf text ≡ faulty i n → filled_of text m ≡ fault i n
unfolding filled_of
filled-faulty text m i n e = walk-faulty put by_meaning m text i n e

pub filled-short : (text : Bytes) (m : MissionMemory) (i : ℕ) → read-mdf text ≡ short i → filled_of text m ≡ fault i 10
unfolding filled_of
filled-short text m i e = walk-short put by_meaning m text i e

-- all statements, each put where it stands
pub filled-over : (text : Bytes) (m : MissionMemory) (ts : List (Statement Field)) → read-mdf text ≡ read ts → filled_of text m ≡ gathered (over (λ w t. put w (told_as t)) (places_in text) ts m)
unfolding filled_of
filled-over text m ts e = walk-read put by_meaning m text ts e

-- the tables of `fill` by their rows, whatever the lent tables held and whatever room they have
pub filled-read : (text : Bytes) (ts : List (Statement Field)) → read-mdf text ≡ read ts → TablesFit (tables_of ts) → (goals limits : List ℕ)
    → filled_of text (memory none_read_of goals limits) ≡ gathered (memory (shown (tables_of ts).file (counts_of ts)) (goals-put goals 0 (tables_of ts).goals) (limits-put limits 0 (tables_of ts).limits))
filled-read text ts e h goals limits = filled-over text (memory none_read_of goals limits) ts e ∙ ap gathered (all_shown (places_in text) ts (mdf_as-many text ts e) h goals limits)

-- ## Of a text that spells a mission
-- a limit that is permitted has numbers of their kinds
limit-fits : (l : Limit) → GoodLimit l → Fits (a_limit l)
limit-fits l g = (record { low = g.id.low; high = g.id.high }, (record { low = omega arith; high = let h = g.minimum in omega arith }, record { low = omega arith; high = let h = g.maximum in omega arith }))

-- rows stored in cleared tables that have room for them are the filled tables
goals-filled : {N : Type 0} (t : MissionTables N) (lent : MissionLent) → MissionHasRoom (mission_sizes t) lent → goals-put (mission_zeros lent).goals 0 t.goals ≡ (mission_filled t lent).goals
goals-filled t lent room =
    put-shown shown_goal goal_words_of the_goal_words_of goal-shown goal_stride (mission_zeros lent).goals 0 t.goals
    ∙ ap (λ (x : MissionLent). x.goals) (mission-stored-filled t lent room)

limits-filled : {N : Type 0} (t : MissionTables N) (lent : MissionLent) → MissionHasRoom (mission_sizes t) lent → limits-put (mission_zeros lent).limits 0 t.limits ≡ (mission_filled t lent).limits
limits-filled t lent room =
    put-shown shown_limit limit_words_of the_limit_words_of limit-shown limit_stride (mission_zeros lent).limits 0 t.limits
    ∙ ap (λ (x : MissionLent). x.limits) (mission-stored-filled t lent room)

-- a name that may be missing is shown in the same way
perhaps-same : (name : Option Stretch) → shown-perhaps name ≡ shown_name (λ s. s.start) (λ s. s.length) name
perhaps-same none = refl
perhaps-same (some s) = refl

file-same : (f : G.MissionFileRow Stretch) (c : MissionCounts) → (shown f c).file ≡ shown_mission_file (λ s. s.start) (λ s. s.length) f
file-same f c =
    let w = (shown f c).file in
    let version = perhaps-same f.version in
    let date = perhaps-same f.date in
    λ i. record { name = w.name; rndf = w.rndf; version = version i; date = date i }

-- what is known behind the last statement of a mission: its own row, and how many goals and limits it has
abbrev pub all_read : Mission Field → MissionProgress
all_read m = record { file = mission_file_of m; goals = (mission_sizes (mission_tables m)).goals; limits = (mission_sizes (mission_tables m)).limits }

-- all of it read, and its tables filled
abbrev pub mission-memory : Mission Field → MissionLent → MissionMemory
mission-memory m lent = memory (all_read m) (mission_filled (mission_tables m) lent).goals (mission_filled (mission_tables m) lent).limits

-- the tables that its statements fill, and their counts
module _ (m : Mission Field) (text : Bytes) (s : SpellsMdf m text) where
  tables-are : tables_of s.said ≡ mission_tables (mission_named the_the_stretch_of m)
  tables-are = mission_fills (stretch 0 0) (mission_named the_the_stretch_of m) (map (order_named the_the_stretch_of) s.said) (mission-spelled the_the_stretch_of m s.said s.net)

  -- every number is of its kind
  pub numbers_fit : TablesFit (tables_of s.said)
  unfolding mission_named
  numbers_fit =
      let b = spelled-mission-bounded m s.said s.net in
      subst TablesFit (sym tables-are) (record {
        goals = each_map (Between 1 largest) Numbered (λ n h. record { low = h.low; high = h.high }) m.goals b.goals;
        limits = each_map GoodLimit (λ l. Fits (a_limit l)) limit-fits m.limits b.limits;
      })

  counts_are : counts_of s.said ≡ mission_sizes (mission_tables m)
  unfolding mission_named
  counts_are =
      let t = mission-spelled the_the_stretch_of m s.said s.net in
      mission-tallied-declared (mission_named the_the_stretch_of m) (map (order_named the_the_stretch_of) s.said) t ∙ sym (mission_counted (mission_named the_the_stretch_of m) (map (order_named the_the_stretch_of) s.said) t)

  progress-is : shown (tables_of s.said).file (counts_of s.said) ≡ all_read m
  progress-is =
      ap₂ (λ (t : MissionTables Stretch) (c : MissionCounts). shown t.file c) tables-are counts_are
      ∙ ap (λ (f : MissionFileRow). record { file = f; goals = (mission_sizes (mission_tables m)).goals; limits = (mission_sizes (mission_tables m)).limits })
      (file-same (mission_tables (mission_named the_the_stretch_of m)).file (mission_sizes (mission_tables m)) ∙ stretches-mission-file m)

  -- THE THEOREM: cleared tables that have room for the mission are then filled with it
  pub filled-spelled : (lent : MissionLent) → MissionHasRoom (mission_sizes (mission_tables m)) lent
      → filled_of text (memory none_read_of (mission_zeros lent).goals (mission_zeros lent).limits) ≡ gathered (mission-memory m lent)
  unfolding mission_named
  filled-spelled lent room =
      let zg = (mission_zeros lent).goals in
      let zl = (mission_zeros lent).limits in
      filled-read text s.said (spelled-read (mdf Field) mdf_lexis the_mdf_line_of SpellsMission name_due mdf-file m text s) numbers_fit zg zl
      ∙ ap gathered (ap (λ (p : MissionProgress). memory p (goals-put zg 0 (tables_of s.said).goals) (limits-put zl 0 (tables_of s.said).limits)) progress-is
      ∙ ap₂ (memory (all_read m)) (ap (λ (t : MissionTables Stretch). goals-put zg 0 t.goals) tables-are ∙ goals-filled (mission_tables m) lent room)
      (ap (λ (t : MissionTables Stretch). limits-put zl 0 t.limits) tables-are ∙ limits-filled (mission_tables m) lent room))
