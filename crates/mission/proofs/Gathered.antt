-- What the statements of an MDF gather one behind the other: the rows that `fill` gives, stored from the first row on, and what `fill` has behind them. Assumes nothing.
use mathlib.Core.Path.{◌≡◌, refl, ap, ap₂, ◌∙◌}
use mathlib.Core.List.{List, [], ◌∷◌, ◌++◌, map}
use Prim.Native.Nat.{ℕ, suc}
use native.Mathlib.Omega.{arith}
use lib.ListN.{length}
use Rattle.terms.specs.Words.{Each}
use Rattle.units.specs.Range.{Numbered}
use Rattle.line.specs.Content.{Field}
use Rattle.grammar.specs.MissionStatements.{Kind, Says, Statement, Limit, MDF_name_of, RNDF, format_version_of, creation_date_of, checkpoints, num_checkpoints, end_checkpoints, speed_limits, num_speed_limits, end_speed_limits, end_file_of, goal, limit}
use Rattle.grammar.specs.Tables.{MissionFileRow, MissionTables}
use Rattle.grammar.specs.Renamed.{orders_named, order_named}
use Rattle.grammar.proofs.Rows.{each-front, each-behind}
use Rattle.fill.specs.Counts.{MissionCounts}
use Rattle.fill.specs.Tally.{no_mission_counts, mission_tally, mission_tallied}
use Rattle.fill.specs.Filling.{ends, rows}
use Rattle.fill.specs.MissionRows.{Row, Rows, nothing, a_goal, a_limit, gives, in_tables, start, next, mission_filling, mission_fill}
use Rattle.rows.specs.Strides.{goal_stride, limit_stride}
use Rattle.rows.specs.Columns.{goal_words_of, limit_words_of}
use Rattle.rows.specs.Table.{put_rows}
use Rattle.statement.specs.Meaning.{Stretch, stretch}
use Rattle.statement.specs.MissionKinds.{of_kind}
use Rattle.made_out.specs.Names.{the_the_stretch_of}
use Rattle.mission_progress.specs.declared.MissionProgress.{MissionProgress}
use Rattle.mission_progress.specs.declared.MissionRow.{MissionRow}
use Rattle.mission_progress.specs.Progress.{none_read_of}
use Rattle.mission_progress.proofs.Shown.{shown, shown_goal, shown_limit, shown_row, Fits, after-shown, row-shown}
use Rattle.walk.specs.Standing.{Where, over}
use Rattle.walk.proofs.MdfWalk.{told_as}
use Rattle.mission.specs.Storing.{MissionMemory, memory, stored}
use Rattle.mission.specs.Reading.{with_progress, put}

-- ## Rows stored from a row on
abbrev pub goals-put : List ℕ → ℕ → List ℕ → List ℕ
goals-put t at numbers = put_rows goal_stride goal_words_of t at (map shown_goal numbers)

abbrev pub limits-put : List ℕ → ℕ → List Limit → List ℕ
limits-put t at limits = put_rows limit_stride limit_words_of t at (map shown_limit limits)

-- what is gathered where these rows came behind what there was: f and c are what `fill` has behind them
abbrev pub with_rows : MissionFileRow Stretch → MissionCounts → List ℕ → List ℕ → (was : MissionCounts) → Rows → MissionMemory
with_rows f c goals limits was o = memory (shown f c) (goals-put goals was.goals o.goals) (limits-put limits was.limits o.limits)

-- ## One row
row-stored : (r : Row) (f : MissionFileRow Stretch) (c : MissionCounts) (goals limits : List ℕ) → stored (shown_row r) (memory (shown f c) goals limits) ≡ with_rows f c goals limits c (in_tables r)
unfolding stored put_rows
row-stored nothing f c goals limits = refl
row-stored (a_goal n) f c goals limits = refl
row-stored (a_limit l) f c goals limits = refl

-- the counts behind a row
abbrev counts_behind : Row → MissionCounts → MissionCounts
counts_behind nothing c = c
counts_behind (a_goal n) c = record { goals = suc c.goals; limits = c.limits }
counts_behind (a_limit l) c = record { goals = c.goals; limits = suc c.limits }

tally-by-row : (k : Kind) (v : Says Stretch k) (c : MissionCounts) → mission_tally k c ≡ counts_behind (gives Stretch k v) c
tally-by-row MDF_name_of v c = refl
tally-by-row RNDF v c = refl
tally-by-row format_version_of v c = refl
tally-by-row creation_date_of v c = refl
tally-by-row checkpoints v c = refl
tally-by-row num_checkpoints v c = refl
tally-by-row end_checkpoints v c = refl
tally-by-row speed_limits v c = refl
tally-by-row num_speed_limits v c = refl
tally-by-row end_speed_limits v c = refl
tally-by-row end_file_of v c = refl
tally-by-row goal v c = refl
tally-by-row limit v c = refl

-- rows behind a row
goals-on : (r : Row) (c : MissionCounts) (t numbers : List ℕ) → goals-put (goals-put t c.goals (in_tables r).goals) (counts_behind r c).goals numbers ≡ goals-put t c.goals ((in_tables r).goals ++ numbers)
unfolding put_rows
goals-on nothing c t numbers = refl
goals-on (a_goal n) c t numbers = refl
goals-on (a_limit l) c t numbers = refl

limits-on : (r : Row) (c : MissionCounts) (t : List ℕ) (ls : List Limit) → limits-put (limits-put t c.limits (in_tables r).limits) (counts_behind r c).limits ls ≡ limits-put t c.limits ((in_tables r).limits ++ ls)
unfolding put_rows
limits-on nothing c t ls = refl
limits-on (a_goal n) c t ls = refl
limits-on (a_limit l) c t ls = refl

-- ## One statement
put-shown : (w : Where) (k : Kind) (v : Says Stretch k) → Fits (gives Stretch k v) → (f : MissionFileRow Stretch) (c : MissionCounts) (goals limits : List ℕ)
    → put w (of_kind k v) (memory (shown f c) goals limits) ≡ with_rows (next k v f) (mission_tally k c) goals limits c (in_tables (gives Stretch k v))
unfolding put
put-shown w k v h f c goals limits =
    ap₂ (λ (p : MissionProgress) (m : MissionMemory). with_progress p m) (after-shown k v f c)
    (ap (λ (r : MissionRow). stored r (memory (shown f c) goals limits)) (row-shown k v h) ∙ row-stored (gives Stretch k v) f c goals limits)

-- ## All statements
-- rows whose numbers are of their kinds
pub record AllFit (o : Rows) : Type 0 where
  pub goals : Each Numbered o.goals
  pub limits : Each (λ l. Fits (a_limit l)) o.limits

row_fits : (r : Row) → AllFit (in_tables r) → Fits r
row_fits nothing h = tt
row_fits (a_goal n) h = h.goals.0
row_fits (a_limit l) h = h.limits.0

pub over-shown : (ws : List Where) (ts : List (Statement Field)) → length ws ≡ length ts → (f : MissionFileRow Stretch) → AllFit (rows mission_filling (map (order_named the_the_stretch_of) ts) f) → (c : MissionCounts) (goals limits : List ℕ)
    → over (λ w t. put w (told_as t)) ws ts (memory (shown f c) goals limits)
    ≡ with_rows (ends mission_filling (map (order_named the_the_stretch_of) ts) f) (mission_tallied (map (order_named the_the_stretch_of) ts) c) goals limits c (rows mission_filling (map (order_named the_the_stretch_of) ts) f)
unfolding over ends rows mission_tallied put_rows
over-shown [] [] e f h c goals limits = refl
over-shown [] (t ∷ ts) e f h c goals limits = absurd (omega arith)
over-shown (w ∷ ws) [] e f h c goals limits = absurd (omega arith)
over-shown (w ∷ ws) (t ∷ ts) e f h c goals limits =
    let k = t.kind in
    let v = orders_named the_the_stretch_of k t.val in
    let r = gives Stretch k v in
    let us = map (order_named the_the_stretch_of) ts in
    let o : Rows = rows mission_filling us (next k v f) in
    let g : List ℕ = goals-put goals c.goals (in_tables r).goals in
    let l : List ℕ = limits-put limits c.limits (in_tables r).limits in
    let first : AllFit (in_tables r) = record { goals = each-front Numbered (in_tables r).goals o.goals h.goals; limits = each-front (λ l. Fits (a_limit l)) (in_tables r).limits o.limits h.limits } in
    let others : AllFit o = record { goals = each-behind Numbered (in_tables r).goals o.goals h.goals; limits = each-behind (λ l. Fits (a_limit l)) (in_tables r).limits o.limits h.limits } in
    let goals-are = ap (λ (d : MissionCounts). goals-put g d.goals o.goals) (tally-by-row k v c) ∙ goals-on r c goals o.goals in
    let limits-are = ap (λ (d : MissionCounts). limits-put l d.limits o.limits) (tally-by-row k v c) ∙ limits-on r c limits o.limits in
    ap (over (λ w t. put w (told_as t)) ws ts) (put-shown w k v (row_fits r first) f c goals limits)
    ∙ over-shown ws ts (omega (arith, e)) (next k v f) others (mission_tally k c) g l
    ∙ ap₂ (memory (shown (ends mission_filling us (next k v f)) (mission_tallied us (mission_tally k c)))) goals-are limits-are

-- from the first statement on: the tables of `fill`
abbrev pub tables_of : List (Statement Field) → MissionTables Stretch
tables_of ts = mission_fill (stretch 0 0) (map (order_named the_the_stretch_of) ts)

abbrev pub counts_of : List (Statement Field) → MissionCounts
counts_of ts = mission_tallied (map (order_named the_the_stretch_of) ts) no_mission_counts

-- the numbers in these are of their kinds
abbrev pub TablesFit : MissionTables Stretch → Type 0
TablesFit t = AllFit (record { goals = t.goals; limits = t.limits })

pub all_shown : (ws : List Where) (ts : List (Statement Field)) → length ws ≡ length ts → TablesFit (tables_of ts) → (goals limits : List ℕ)
    → over (λ w t. put w (told_as t)) ws ts (memory none_read_of goals limits) ≡ memory (shown (tables_of ts).file (counts_of ts)) (goals-put goals 0 (tables_of ts).goals) (limits-put limits 0 (tables_of ts).limits)
unfolding mission_fill
all_shown ws ts e h goals limits = over-shown ws ts e (start (stretch 0 0)) h no_mission_counts goals limits
