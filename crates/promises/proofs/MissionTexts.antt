-- Yard A's MDF and one change of it each, by computation: the missions that the well-formed ones spell, and the faults of the others. Document 01, "Yard A". Assumes nothing.
use mathlib.Core.Path.{◌≡◌, refl, sym, subst, ◌∙◌}
use mathlib.Core.List.{List, [], ◌∷◌}
use Prim.Native.Nat.{ℕ, ◌≤◌, ◌<◌}
use native.Mathlib.Omega.{arith}
use lib.Dec.{lit≤, lit<}
use Rattle.terms.specs.Ascii.{Bytes, ascii}
use Rattle.terms.specs.Words.{Between}
use Rattle.scan.specs.Allowed as Allowed
use Rattle.scan.specs.Reach as Reach
use Rattle.line.specs.Content.{Field}
use Rattle.line.specs.Content as Content
use Rattle.line.specs.Lines as Lines
use Rattle.line.specs.Forms as Forms
use Rattle.number.specs.Executable as Number
use Rattle.word.specs.Keywords as Keywords
use Rattle.word.specs.Number as Word
use Rattle.grammar.specs.Machine as Machine
use Rattle.grammar.specs.Stands as Stands
use Rattle.grammar.specs.MissionStatements.{Statement, say, MDF_name_of, RNDF, checkpoints, num_checkpoints, end_checkpoints, speed_limits, num_speed_limits, end_speed_limits, end_file_of, goal, limit}
use Rattle.grammar.specs.Mission.{Mission, GoodMission, SpellsMission}
use Rattle.grammar.specs.HouseOrder.{house_mission, mission_options}
use Rattle.grammar.specs.MissionPlaces.{mdf}
use Rattle.grammar.specs.MissionPlaces as At
use Rattle.grammar.proofs.Written.{mission-written}
use Rattle.grammar.proofs.Theorems.{mission-unique}
use Rattle.text.specs.Judge as Judge
use Rattle.text.specs.Answers.{read, faulty}
use Rattle.text.specs.Answers as Answers
use Rattle.text.specs.MdfLines.{the_mdf_line_of}
use Rattle.text.specs.MdfWords.{mdf_lexis}
use Rattle.text.specs.Spelling as Old
use Rattle.text.proofs.TextReading.{Means}
use Rattle.text.proofs.Theorems.{read-mdf, mdf-means, mdf-file}
use Rattle.form_faults.proofs.FormFaults.{mdf-bad-line-right}
use Rattle.fill.specs.FirstFaults.{fault, first_fault, is_among}
use Rattle.fill.specs.FirstLines.{the_place_of}
use Rattle.walk.specs.Standing as Standing
use Rattle.line_fields.specs.LineFields as LineFields
use Rattle.find_line.specs.FoundLines.{mdf_line_of}
use Rattle.find_line.proofs.Theorems.{mdf-line-there}
use Rattle.fault_lines.specs.FaultLines.{FirstMdfFault}
use Rattle.fault_lines.proofs.MdfFaults.{foreign-goal-line}
use Rattle.law.specs.Network.{largest, SpellsText}
use Rattle.law.specs.Network as Law
use Rattle.edition.specs.declared.Edition.{Edition}
use Rattle.edition.specs.Editions.{inner, rules_of}
use Rattle.law.specs.Faults.{BadLine, FirstFault, MdfFault}
use Rattle.law_spelling.proofs.Texts.{mdf-to_in}
use Rattle.law_faults.proofs.Theorems.{mdf-bad-to_in}
use Rattle.law_tables.proofs.MdfFirst.{mdf-first-to_in}
use Rattle.law_columns.specs.Columns.{Column}
use Rattle.law_columns.specs.Finding as Finding
use Rattle.law_columns.specs.Files.{mdf_column_of}
use Rattle.law_columns.proofs.Theorems.{mdf-column-bad_in, mdf-column-fault_in}
use Rattle.promises.specs.Yards.{round, goal_8, limit_10_5, limit_5_0, network, mission_with, mission, mission_goal_8, mission_5_0}

abbrev lines_with : (g minimum maximum : ℕ) → List (Statement Field)
lines_with g minimum maximum =
    say MDF_name_of mission.name ∷ say RNDF mission.rndf ∷ say checkpoints tt ∷ say num_checkpoints 1 ∷ say goal g ∷ say end_checkpoints tt
    ∷ say speed_limits tt ∷ say num_speed_limits 1 ∷ say limit (record { id = 1; minimum = minimum; maximum = maximum }) ∷ say end_speed_limits tt ∷ say end_file_of tt ∷ []

abbrev round-lines : List (Statement Field)
round-lines = lines_with 7 0 15

abbrev goal_8-lines : List (Statement Field)
goal_8-lines = lines_with 8 0 15

abbrev lines_5_0 : List (Statement Field)
lines_5_0 = lines_with 7 5 0

-- their statements are the missions' house writing
house : (house_mission mission ≡ round-lines) × (house_mission mission_goal_8 ≡ goal_8-lines) × (house_mission mission_5_0 ≡ lines_5_0)
unfolding house_mission mission_options
house = (refl, refl, refl)

-- ## What is read, by computation
record Answered : Type 0 where
  pub round : read-mdf round ≡ read round-lines
  pub goal_8 : read-mdf goal_8 ≡ read goal_8-lines
  pub limit_10_5 : read-mdf limit_10_5 ≡ faulty 9 9
  pub limit_5_0 : read-mdf limit_5_0 ≡ read lines_5_0

answered : Answered
unfolding ascii Answers.read_text Answers.walk Lines.lines_of Judge.judge Lines.drop_cr Forms.form_of Forms.closes Forms.note_of Forms.outer_of Forms.fields_at Content.parted-by Allowed.separates Allowed.all Reach.two Reach.same_bytes_of Reach.begins Reach.first Reach.up_to Reach.stops_by Judge.tell Judge.read Judge.numbered Number.the_integer_of Number.plain_of Number.plain Number.worth Number.number_of Word.index_of Keywords.mdf_keywords Machine.step Machine.guard Stands.stands
answered = record { round = refl; goal_8 = refl; limit_10_5 = refl; limit_5_0 = refl }

-- ## What is spelled
spelled_by : (text : Bytes) (m : Mission Field) (ss : List (Statement Field)) → read-mdf text ≡ read ss → GoodMission m → house_mission m ≡ ss → Old.SpellsMdf m text
spelled_by text m ss e good h =
    let x = subst (Means (mdf Field) mdf_lexis the_mdf_line_of SpellsMission At.name_due mdf-file text) e (mdf-means text) in
    subst (λ (y : Mission Field). Old.SpellsMdf y text) (mission-unique x.0 m x.1.said (house_mission m) x.1.net (mission-written m good) (x.2 ∙ sym h)) x.1

-- good if its goal and its speeds are
good : (g minimum maximum : ℕ) → Between 1 largest g → (minimum ≤ largest) × (maximum ≤ largest) × (0 < maximum → minimum ≤ maximum) → GoodMission (mission_with g minimum maximum)
good g minimum maximum in-range speeds =
    let one : Between 1 largest 1 = record { low = lit≤ tt; high = lit≤ tt } in
    record { some_goals = one; goals = (in-range, tt); some_limits = one; limits = (record { id = one; minimum = speeds.0; maximum = speeds.1; in_order = speeds.2 }, tt) }

goal_8-read : Old.SpellsMdf mission_goal_8 goal_8
goal_8-read = spelled_by goal_8 mission_goal_8 goal_8-lines answered.goal_8 (good 8 0 15 (omega arith) (omega arith, omega arith, λ m. omega arith)) house.1

pub record Spelled (edition : Edition) : Type 0 where
  pub round : SpellsText (rules_of edition) Law.SpellsMission mission round
  pub goal_8 : SpellsText (rules_of edition) Law.SpellsMission mission_goal_8 goal_8
  pub limit_5_0 : SpellsText (rules_of edition) Law.SpellsMission mission_5_0 limit_5_0

pub spelled : (edition : Edition) → Spelled edition
spelled edition = record { round = mdf-to_in (inner edition) mission round (spelled_by round mission round-lines answered.round (good 7 0 15 (omega arith) (omega arith, omega arith, λ m. omega arith)) house.0); goal_8 = mdf-to_in (inner edition) mission_goal_8 goal_8 goal_8-read; limit_5_0 = mdf-to_in (inner edition) mission_5_0 limit_5_0 (spelled_by limit_5_0 mission_5_0 lines_5_0 answered.limit_5_0 (good 7 5 0 (omega arith) (omega arith, omega arith, λ m. omega arith)) house.2) }

-- ## What has a fault
goal-on_5 : mdf_line_of goal_8 11 0 ≡ 5
unfolding ascii the_place_of Standing.standing Standing.speaks LineFields.line_fields_of Lines.lines_of Lines.drop_cr Forms.form_of Forms.closes Forms.note_of Forms.outer_of Forms.fields_at Content.parted-by Allowed.separates Allowed.all Reach.two Reach.same_bytes_of Reach.begins Reach.first Reach.up_to Reach.stops_by
goal-on_5 = mdf-line-there goal 0 goal_8 goal_8-lines answered.goal_8 (lit< tt)

wrong-goal : FirstMdfFault network goal_8 5 15
unfolding first_fault is_among
wrong-goal = subst (λ (i : ℕ). FirstMdfFault network goal_8 i 15) goal-on_5 (foreign-goal-line network mission_goal_8 goal_8 goal_8-read refl (fault 0 15) refl)

pub record Faults (edition : Edition) : Type 0 where
  pub goal_8 : FirstFault (rules_of edition) Law.SpellsMission (MdfFault network) goal_8 5 15
  pub limit_10_5 : BadLine (rules_of edition) Law.SpellsMission limit_10_5 9 9

pub faults : (edition : Edition) → Faults edition
faults edition = record { goal_8 = mdf-first-to_in network mission_goal_8 goal_8 goal_8-read (inner edition) 5 15 wrong-goal; limit_10_5 = mdf-bad-to_in (inner edition) limit_10_5 9 9 (mdf-bad-line-right limit_10_5 9 9 answered.limit_10_5) }

-- ## Where it stands in its line, by computation
columns : (mdf_column_of goal_8 5 15 ≡ 1) × (mdf_column_of limit_10_5 9 9 ≡ 6)
unfolding ascii Answers.read_text Answers.walk Lines.lines_of Judge.judge Lines.drop_cr Forms.form_of Forms.closes Forms.note_of Forms.outer_of Forms.fields_at Content.parted-by Allowed.separates Allowed.all Reach.two Reach.same_bytes_of Reach.begins Reach.first Reach.up_to Reach.stops_by Judge.tell Judge.read Judge.numbered Number.the_integer_of Number.plain_of Number.plain Number.worth Number.number_of Word.index_of Keywords.mdf_keywords Machine.step Machine.guard Stands.stands Finding.wrong_at Finding.field_at Finding.column_of Finding.column_from Finding.column_in
columns = (refl, refl)

pub goal-at : (edition : Edition) → Column (rules_of edition) Law.SpellsMission (faults edition).goal_8.front (faults edition).goal_8.at.this 15 1
goal-at edition = subst (Column (rules_of edition) Law.SpellsMission (faults edition).goal_8.front (faults edition).goal_8.at.this 15) columns.0 (mdf-column-fault_in (inner edition) network goal_8 5 15 (faults edition).goal_8)

pub limit-at : (edition : Edition) → Column (rules_of edition) Law.SpellsMission (faults edition).limit_10_5.front (faults edition).limit_10_5.this 9 6
limit-at edition = subst (Column (rules_of edition) Law.SpellsMission (faults edition).limit_10_5.front (faults edition).limit_10_5.this 9) columns.1 (mdf-column-bad_in (inner edition) limit_10_5 9 9 (faults edition).limit_10_5)
