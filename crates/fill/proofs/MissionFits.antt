-- THE LAW of 14 to 18 for a spelled mission: its first fault by its rows; and no fault is the same as a mission that fits. Assumes nothing.
use mathlib.Core.Path.{◌≡◌, refl, sym, ap, ap₂, ◌∙◌}
use mathlib.Core.List.{List, [], ◌∷◌, ◌++◌, map, append_assoc, append-nil}
use mathlib.Core.Option.{none, some}
use mathlib.Core.Bool.{Bool, true, false, not}
use Prim.Native.Nat.{ℕ, suc}
use lib.ListN.{length}
use borrow.Author.Tests.{not-false}
use Rattle.terms.specs.Words.{Among}
use Rattle.terms.proofs.Lists.{each_append}
use Rattle.grammar.specs.Language.{Lang, S, as_kind, all_of}
use Rattle.grammar.specs.MissionStatements.{Kind, Statement, Limit, orders, say, of_kind, Only, MDF_name_of, RNDF, format_version_of, creation_date_of, checkpoints, num_checkpoints, end_checkpoints, speed_limits, num_speed_limits, end_speed_limits, end_file_of, goal, limit}
use Rattle.grammar.specs.Network.{Network}
use Rattle.grammar.specs.Mission.{Mission, SpellsMission}
use Rattle.grammar.specs.Tables.{tables}
use Rattle.grammar.specs.References.{MissionFits}
use Rattle.grammar.proofs.HouseLaws.{of_append}
use Rattle.fill.specs.MissionRows.{Rows, start}
use Rattle.fill.specs.FirstFaults.{fault, fault_if, or_behind, first_fault, the_first_foreign_goal_of, the_first_bad_limit_of, some_missing, numbers_of, the_parts_of}
use Rattle.fill.specs.FirstLines.{placed, the_place_of, earlier, name_fault, end_fault, first_mission_fault}
use Rattle.fill.proofs.Lines.{own, absent, among-kinds, widen, said-only}
use Rattle.fill.proofs.MissionFills.{these, spelled_fills, mission-by-lines}
use Rattle.fill.proofs.MissionLaws.{fits_by, fits-only}
use Rattle.fill.proofs.LineFaults.{earlier-none, placed-none, alone-none}
use Rattle.fill.proofs.MissionLines.{other, mission-rows, ends_at}

-- the first of its kind behind others
place-behind : (L : Lang) (k : L.Kind) (w : List (S L)) (x : S L) (r : List (S L)) (v : L.Pay k) → all_of L k w ≡ [] → as_kind L k x ≡ some v → the_place_of L k (w ++ (x ∷ r)) 0 ≡ length w
unfolding the_place_of
place-behind L k [] x r v e q = rw q
place-behind L k (y ∷ w) x r v e q = other L k y w e (λ h e. rw h (ap suc (place-behind L k w x r v e q)))

-- the kinds between the names and `end_speed_limits`
abbrev between-kinds : List Kind
between-kinds = format_version_of ∷ creation_date_of ∷ checkpoints ∷ num_checkpoints ∷ goal ∷ end_checkpoints ∷ speed_limits ∷ num_speed_limits ∷ limit ∷ []

module _ {N : Type 0} (m : Mission N) (u : List (Statement N)) (s : SpellsMission m u) where
  abbrev body : List (Statement N)
  body = s.options ++ (say checkpoints tt ∷ say num_checkpoints (length m.goals) ∷ map (say goal) m.goals
      ++ (say end_checkpoints tt ∷ say speed_limits tt ∷ say num_speed_limits (length m.limits) ∷ map (say limit) m.limits))

  abbrev front : List (Statement N)
  front = say MDF_name_of m.name ∷ say RNDF m.rndf ∷ body

  made : u ≡ front ++ (say end_speed_limits tt ∷ say end_file_of tt ∷ [])
  made = s.spelled ∙ simp append_assoc

  body-only : Only between-kinds body
  body-only =
      let P : Statement N → Type 0 = λ x. Among x.kind between-kinds in
      let G : List (Statement N) = map (say goal) m.goals in
      let K : List (Statement N) = map (say limit) m.limits in
      let Y : List (Statement N) = say end_checkpoints tt ∷ say speed_limits tt ∷ say num_speed_limits (length m.limits) ∷ K in
      each_append P s.options (say checkpoints tt ∷ say num_checkpoints (length m.goals) ∷ G ++ Y) (widen (orders N) (format_version_of ∷ creation_date_of ∷ []) between-kinds tt s.options s.given.no_other) (
        among-kinds (orders N) checkpoints between-kinds tt,
        (
          among-kinds (orders N) num_checkpoints between-kinds tt,
          each_append P G Y (widen (orders N) (goal ∷ []) between-kinds tt G (said-only (orders N) goal m.goals)) (
            among-kinds (orders N) end_checkpoints between-kinds tt,
            (
              among-kinds (orders N) speed_limits between-kinds tt,
              (
                among-kinds (orders N) num_speed_limits between-kinds tt,
                widen (orders N) (limit ∷ []) between-kinds tt K (said-only (orders N) limit m.limits),
              ),
            ),
          ),
        ),
      )

  no-end_in-front : of_kind end_speed_limits front ≡ []
  no-end_in-front = absent (orders N) end_speed_limits between-kinds refl body body-only

  -- what is said of each kind
  says-name : of_kind RNDF u ≡ m.rndf ∷ []
  says-name = ap (of_kind RNDF) made ∙ of_append (orders N) RNDF front (say end_speed_limits tt ∷ say end_file_of tt ∷ []) ∙ append-nil (of_kind RNDF front)
      ∙ own (orders N) RNDF m.rndf body ∙ ap (◌∷◌ m.rndf) (absent (orders N) RNDF between-kinds refl body body-only)

  says-rows : these (of_kind goal u) (of_kind limit u) ≡ these m.goals m.limits
  says-rows = sym (mission-by-lines u (start m.name)) ∙ (spelled_fills m.name m u s).rows_are

  limits_in-front : of_kind limit front ≡ m.limits
  limits_in-front = sym (append-nil (of_kind limit front)) ∙ sym (of_append (orders N) limit front (say end_speed_limits tt ∷ say end_file_of tt ∷ [])) ∙ sym (ap (of_kind limit) made) ∙ ap (λ (o : Rows). o.limits) says-rows

  abbrev ids : List ℕ
  ids = map (λ a. a.id) m.limits

  -- ## The first fault, by rows
  module _ (named : N → Bool) (numbers : List ℕ) (p : ℕ) where
    end_row : first_fault (end_fault p) [] u ≡ placed (orders N) end_speed_limits u (or_behind 0 (fault_if (some_missing p ids) 18) none)
    end_row = ap (first_fault (end_fault p) []) made ∙ ends_at named numbers p front [] (say end_file_of tt ∷ []) no-end_in-front refl
        ∙ ap (λ (l : List Limit). or_behind (length front) (fault_if (some_missing p (map (λ a. a.id) l)) 18) none) limits_in-front ∙ go (some_missing p ids)
      where
        go : (t : Bool) → or_behind (length front) (fault_if t 18) none ≡ placed (orders N) end_speed_limits u (or_behind 0 (fault_if t 18) none)
        go true = ap (λ (i : ℕ). some (fault i 18)) (sym (ap (λ (l : List (Statement N)). the_place_of (orders N) end_speed_limits l 0) made ∙ place-behind (orders N) end_speed_limits front (say end_speed_limits tt) (say end_file_of tt ∷ []) tt no-end_in-front refl))
        go false = refl

    pub spelled-mission-rows : first_mission_fault named numbers p u
        ≡ earlier (placed (orders N) RNDF u (or_behind 0 (name_fault named [] m.rndf) none))
        (earlier (placed (orders N) goal u (the_first_foreign_goal_of numbers m.goals))
        (earlier (placed (orders N) limit u (the_first_bad_limit_of p ids))
        (placed (orders N) end_speed_limits u (or_behind 0 (fault_if (some_missing p ids) 18) none))))
    unfolding first_fault
    spelled-mission-rows = mission-rows named numbers p u
        ∙ ap₂ earlier (ap (λ (l : List N). placed (orders N) RNDF u (first_fault (name_fault named) [] l)) says-name)
        (ap₂ earlier (ap (λ (o : Rows). placed (orders N) goal u (the_first_foreign_goal_of numbers o.goals)) says-rows)
        (ap₂ earlier (ap (λ (o : Rows). placed (orders N) limit u (the_first_bad_limit_of p (map (λ a. a.id) o.limits))) says-rows)
        end_row))

  -- ## No fault is a mission that fits
  module _ (n : Network N) (named : N → Bool) (by : (v : N) → named v ≡ true → v ≡ n.name) (is : (v : N) → v ≡ n.name → named v ≡ true) where
    pub no-mission-fault : first_mission_fault named (numbers_of (tables n)) (the_parts_of (tables n)) u ≡ none → MissionFits n m
    no-mission-fault h =
        let g = the_first_foreign_goal_of (numbers_of (tables n)) m.goals in
        let l = the_first_bad_limit_of (the_parts_of (tables n)) ids in
        let e = some_missing (the_parts_of (tables n)) ids in
        let a = placed (orders N) RNDF u (or_behind 0 (name_fault named [] m.rndf) none) in
        let d = placed (orders N) end_speed_limits u (or_behind 0 (fault_if e 18) none) in
        let o = earlier-none a (earlier (placed (orders N) goal u g) (earlier (placed (orders N) limit u l) d)) (sym (spelled-mission-rows named (numbers_of (tables n)) (the_parts_of (tables n))) ∙ h) in
        let o₁ = earlier-none (placed (orders N) goal u g) (earlier (placed (orders N) limit u l) d) o.1 in
        let o₂ = earlier-none (placed (orders N) limit u l) d o₁.1 in
        fits_by n m (by m.rndf (not-false (named m.rndf) (alone-none (not (named m.rndf)) 0 14 (placed-none (orders N) RNDF u (or_behind 0 (name_fault named [] m.rndf) none) o.0)))) (record {
          goals = placed-none (orders N) goal u g o₁.0;
          limits = placed-none (orders N) limit u l o₂.0;
          all = alone-none e 0 18 (placed-none (orders N) end_speed_limits u (or_behind 0 (fault_if e 18) none) o₂.1);
        })

    pub fits-no-fault : MissionFits n m → first_mission_fault named (numbers_of (tables n)) (the_parts_of (tables n)) u ≡ none
    fits-no-fault f = let o = fits-only n m f in spelled-mission-rows named (numbers_of (tables n)) (the_parts_of (tables n)) ∙ rw (is m.rndf f.name, o.goals, o.limits, o.all)
