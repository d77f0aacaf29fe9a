-- In a spelled mission `RNDF` stands before the goals, these before the limits, and these before `end_speed_limits`. Assumes nothing.
use mathlib.Core.Path.{◌≡◌, refl, sym, ap, ◌∙◌}
use mathlib.Core.List.{List, [], ◌∷◌, ◌++◌, map, append_assoc}
use Prim.Native.Nat.{ℕ, ◌<◌}
use native.Mathlib.Omega.{arith}
use lib.ListN.{length}
use Rattle.terms.specs.Words.{Among}
use Rattle.terms.proofs.Lists.{each_append}
use Rattle.grammar.specs.MissionStatements.{Kind, Statement, orders, say, of_kind, Only, MDF_name_of, RNDF, format_version_of, creation_date_of, checkpoints, num_checkpoints, end_checkpoints, speed_limits, num_speed_limits, end_speed_limits, end_file_of, goal, limit}
use Rattle.grammar.specs.Mission.{Mission, SpellsMission}
use Rattle.grammar.proofs.HouseLaws.{of_append}
use Rattle.fill.specs.MissionRows.{Rows, start}
use Rattle.fill.specs.FirstLines.{the_place_of}
use Rattle.fill.proofs.Lines.{own, absent, among-kinds, widen, said-only}
use Rattle.fill.proofs.MissionFills.{these, spelled_fills, mission-by-lines}
use Rattle.fault_lines.proofs.Places.{parts_in-order, in-neither}

module _ {N : Type 0} (m : Mission N) (u : List (Statement N)) (s : SpellsMission m u) where
  -- ## Four parts
  abbrev names : List (Statement N)
  names = say MDF_name_of m.name ∷ say RNDF m.rndf ∷ []

  abbrev goals : List (Statement N)
  goals = s.options ++ (say checkpoints tt ∷ say num_checkpoints (length m.goals) ∷ map (say goal) m.goals)

  abbrev limits : List (Statement N)
  limits = say end_checkpoints tt ∷ say speed_limits tt ∷ say num_speed_limits (length m.limits) ∷ map (say limit) m.limits

  abbrev last : List (Statement N)
  last = say end_speed_limits tt ∷ say end_file_of tt ∷ []

  made : u ≡ names ++ (goals ++ (limits ++ last))
  made = s.spelled ∙ ap (λ (l : List (Statement N)). names ++ l) (sym (append_assoc s.options (say checkpoints tt ∷ say num_checkpoints (length m.goals) ∷ map (say goal) m.goals) (limits ++ last)))

  made-last : u ≡ (names ++ goals ++ limits) ++ last
  made-last = made ∙ sym (append_assoc (names ++ goals) limits last)

  abbrev goal-kinds : List Kind
  goal-kinds = format_version_of ∷ creation_date_of ∷ checkpoints ∷ num_checkpoints ∷ goal ∷ []

  abbrev limit-kinds : List Kind
  limit-kinds = end_checkpoints ∷ speed_limits ∷ num_speed_limits ∷ limit ∷ []

  goals-only : Only goal-kinds goals
  goals-only =
      let P : Statement N → Type 0 = λ x. Among x.kind goal-kinds in
      let G : List (Statement N) = map (say goal) m.goals in
      each_append P s.options (say checkpoints tt ∷ say num_checkpoints (length m.goals) ∷ G) (widen (orders N) (format_version_of ∷ creation_date_of ∷ []) goal-kinds tt s.options s.given.no_other) (
        among-kinds (orders N) checkpoints goal-kinds tt,
        (among-kinds (orders N) num_checkpoints goal-kinds tt, widen (orders N) (goal ∷ []) goal-kinds tt G (said-only (orders N) goal m.goals)),
      )

  limits-only : Only limit-kinds limits
  limits-only =
      let K : List (Statement N) = map (say limit) m.limits in (
        among-kinds (orders N) end_checkpoints limit-kinds tt,
        (
          among-kinds (orders N) speed_limits limit-kinds tt,
          (among-kinds (orders N) num_speed_limits limit-kinds tt, widen (orders N) (limit ∷ []) limit-kinds tt K (said-only (orders N) limit m.limits)),
        ),
      )

  no-name-later : of_kind RNDF (goals ++ (limits ++ last)) ≡ []
  no-name-later = in-neither (orders N) RNDF goals (limits ++ last) (absent (orders N) RNDF goal-kinds refl goals goals-only)
      (in-neither (orders N) RNDF limits last (absent (orders N) RNDF limit-kinds refl limits limits-only) refl)

  no-goal-later : of_kind goal (limits ++ last) ≡ []
  no-goal-later = in-neither (orders N) goal limits last (absent (orders N) goal limit-kinds refl limits limits-only) refl

  no-limit-before : of_kind limit (names ++ goals) ≡ []
  no-limit-before = absent (orders N) limit goal-kinds refl goals goals-only

  no-end-before : of_kind end_speed_limits (names ++ goals) ≡ []
  no-end-before = absent (orders N) end_speed_limits goal-kinds refl goals goals-only

  no-end-before-last : of_kind end_speed_limits (names ++ goals ++ limits) ≡ []
  no-end-before-last = in-neither (orders N) end_speed_limits (names ++ goals) limits no-end-before (absent (orders N) end_speed_limits limit-kinds refl limits limits-only)

  -- ## What is said of each kind
  says-rows : these (of_kind goal u) (of_kind limit u) ≡ these m.goals m.limits
  says-rows = sym (mission-by-lines u (start m.name)) ∙ (spelled_fills m.name m u s).rows_are

  pub says-goals : of_kind goal u ≡ m.goals
  says-goals = ap (λ (o : Rows). o.goals) says-rows

  pub says-limits : of_kind limit u ≡ m.limits
  says-limits = ap (λ (o : Rows). o.limits) says-rows

  pub says-name : of_kind RNDF u ≡ m.rndf ∷ []
  says-name = ap (of_kind RNDF) made ∙ own (orders N) RNDF m.rndf (goals ++ (limits ++ last)) ∙ ap (◌∷◌ m.rndf) no-name-later

  pub says-end : of_kind end_speed_limits u ≡ tt ∷ []
  says-end = ap (of_kind end_speed_limits) made-last ∙ of_append (orders N) end_speed_limits (names ++ goals ++ limits) last ∙ ap (λ (l : List (Unit {0})). l ++ (tt ∷ [])) no-end-before-last

  -- ## Places in order
  abbrev at : Kind → ℕ → ℕ
  at k i = the_place_of (orders N) k u i

  name-there : 0 < length (of_kind RNDF u)
  name-there = let n = ap (λ (l : List N). length l) says-name in omega arith

  pub name-before-goals : (j : ℕ) → at RNDF 0 < at goal j
  name-before-goals j = parts_in-order (orders N) RNDF goal u names (goals ++ (limits ++ last)) made no-name-later refl 0 j name-there

  pub name-before-limits : (j : ℕ) → at RNDF 0 < at limit j
  name-before-limits j = parts_in-order (orders N) RNDF limit u names (goals ++ (limits ++ last)) made no-name-later refl 0 j name-there

  pub name-before-end : (j : ℕ) → at RNDF 0 < at end_speed_limits j
  name-before-end j = parts_in-order (orders N) RNDF end_speed_limits u names (goals ++ (limits ++ last)) made no-name-later refl 0 j name-there

  pub goal-before-limits : (i j : ℕ) → i < length (of_kind goal u) → at goal i < at limit j
  goal-before-limits = parts_in-order (orders N) goal limit u (names ++ goals) (limits ++ last) made no-goal-later no-limit-before

  pub goal-before-end : (i j : ℕ) → i < length (of_kind goal u) → at goal i < at end_speed_limits j
  goal-before-end = parts_in-order (orders N) goal end_speed_limits u (names ++ goals) (limits ++ last) made no-goal-later no-end-before

  pub limit-before-end : (i j : ℕ) → i < length (of_kind limit u) → at limit i < at end_speed_limits j
  limit-before-end = parts_in-order (orders N) limit end_speed_limits u (names ++ goals ++ limits) last made-last refl no-end-before-last
