-- The places of an MDF read a mission as the definitions say, and every place can be finished. Assumes nothing.
use mathlib.Core.Path.{◌≡◌, refl, sym, ◌∙◌}
use mathlib.Core.List.{List, [], ◌∷◌, ◌++◌, map, append_assoc}
use mathlib.Core.Option.{Option, none, some}
use Prim.Native.Nat.{ℕ, zero, suc, ◌+◌, ◌≤◌}
use native.Mathlib.Omega.{arith}
use lib.Dec.{T}
use lib.ListN.{length}
use Rattle.terms.specs.Words.{perhaps}
use Rattle.terms.proofs.Lists.{map-id, each-any}
use Rattle.grammar.specs.Forms.{Form, tested, free}
use Rattle.grammar.specs.Permitted.{counted}
use Rattle.grammar.specs.MissionStatements.{Limit, Statement, orders, say, MDF_name_of, RNDF, checkpoints, num_checkpoints, end_checkpoints, speed_limits, num_speed_limits, end_speed_limits, end_file_of, goal, limit}
use Rattle.grammar.specs.Mission.{Mission, SpellsMission}
use Rattle.grammar.specs.MissionPlaces.{limited, file_row_of, Base, name_due, RNDF_due, checkpoints_due, num_checkpoints_due, goal_due, speed_limits_due, num_speed_limits_due, limit_due, end_file_due, mdf}
use Rattle.grammar.proofs.FormLaws.{pass}
use Rattle.grammar.proofs.MachineLaws.{Goes_on, at_once}
use Rattle.grammar.proofs.Options.{Holds}
use Rattle.grammar.proofs.Reading.{Reads, Line, After, Seq, Many, reads-line, reads-after, reads_seq, reads_as, reads-many, lines_in-turn, in-turn-lines}

abbrev nothing : Form (Unit {0})
nothing = free (Unit {0})

module _ (N : Type 0) where
  -- ## The machine reads missions
  abbrev Goals : ℕ → List ℕ × Unit {0} → List (Statement N) → Type 0
  Goals n = Many (mdf N) (λ i. Line (mdf N) goal counted) (λ i. Line (mdf N) end_checkpoints nothing) 0 n

  abbrev Limits : ℕ → List Limit × Unit {0} → List (Statement N) → Type 0
  Limits n = Many (mdf N) (λ i. Line (mdf N) limit limited) (λ i. Line (mdf N) end_speed_limits nothing) 0 n

  abbrev Files : Type 0
  Files = N × (N × ((Holds (orders N) (file_row_of N) × Unit {0}) × (ℕ × ((List ℕ × Unit {0}) × (Unit {0} × (ℕ × ((List Limit × Unit {0}) × Unit {0})))))))

  abbrev Parts : Files → List (Statement N) → Type 0
  Parts = Seq (mdf N) (Line (mdf N) MDF_name_of (free N)) λ x. Seq (mdf N) (Line (mdf N) RNDF (free N)) λ x. Seq (mdf N) (After (mdf N) (file_row_of N) checkpoints nothing) λ x.
      Seq (mdf N) (Line (mdf N) num_checkpoints counted) λ n. Seq (mdf N) (Goals n) λ x. Seq (mdf N) (Line (mdf N) speed_limits nothing) λ x. Seq (mdf N) (Line (mdf N) num_speed_limits counted) λ n. Seq (mdf N) (Limits n) λ x. Line (mdf N) end_file_of nothing

  parts : Reads (mdf N) Parts (some name_due) (λ x. none)
  parts =
      reads_seq (mdf N) (reads-line (mdf N) name_due (free N) refl (λ v. refl) (λ g. refl)) λ x.
      reads_seq (mdf N) (reads-line (mdf N) RNDF_due (free N) refl (λ v. refl) (λ g. refl)) λ x.
      reads_seq (mdf N) (reads-after (mdf N) checkpoints_due (file_row_of N) nothing refl (λ v. refl) (λ g. refl)) λ x.
      reads_seq (mdf N) (reads-line (mdf N) num_checkpoints_due counted refl (λ v. refl) (λ g. refl)) λ n.
      reads_seq (mdf N) (reads-many (mdf N) (λ i. Line (mdf N) goal counted) (λ i. Line (mdf N) end_checkpoints nothing) (λ i n. some (goal_due n)) (some speed_limits_due)
      (λ i n. reads-line (mdf N) (goal_due (suc n)) counted refl (λ v. refl) (λ g. refl)) (λ i. reads-line (mdf N) (goal_due zero) nothing refl (λ v. refl) (λ g. refl)) 0 n) λ x.
      reads_seq (mdf N) (reads-line (mdf N) speed_limits_due nothing refl (λ v. refl) (λ g. refl)) λ x.
      reads_seq (mdf N) (reads-line (mdf N) num_speed_limits_due counted refl (λ v. refl) (λ g. refl)) λ n.
      reads_seq (mdf N) (reads-many (mdf N) (λ i. Line (mdf N) limit limited) (λ i. Line (mdf N) end_speed_limits nothing) (λ i n. some (limit_due n)) (some end_file_due)
      (λ i n. reads-line (mdf N) (limit_due (suc n)) limited refl (λ v. refl) (λ g. refl)) (λ i. reads-line (mdf N) (limit_due zero) nothing refl (λ v. refl) (λ g. refl)) 0 n) λ x.
      reads-line (mdf N) end_file_due nothing refl (λ v. refl) (λ g. refl)

  mission_of : Files → (Mission N)
  mission_of x =
      let t = x.1.1 in
      record { name = x.0; rndf = x.1.0; version = t.0.0.0; date = t.0.0.1.0; goals = t.1.1.0.0; limits = t.1.1.1.1.1.0.0 }

  to-file : (a : (Mission N)) (l : List (Statement N)) → SpellsMission a l → (x : Files) × (mission_of x ≡ a) × Parts x l
  unfolding mission_of
  to-file a l s =
      let os = s.options in
      let g = s.good in
      let G = length a.goals in
      let L = length a.limits in
      let gs = map (say goal) a.goals in
      let ls = map (say limit) a.limits in
      let l₁ = say end_speed_limits tt ∷ say end_file_of tt ∷ [] in
      let l₂ = say num_speed_limits L ∷ ls ++ l₁ in
      let l₃ = say end_checkpoints tt ∷ say speed_limits tt ∷ l₂ in
      let l₄ = say num_checkpoints G ∷ gs ++ l₃ in
      let l₅ = os ++ (say checkpoints tt ∷ l₄) in (
        (a.name, (a.rndf, (((a.version, (a.date, tt)), tt), (G, ((a.goals, tt), (tt, (L, ((a.limits, tt), tt)))))))),
        refl,
        (
          say MDF_name_of a.name ∷ [],
          say RNDF a.rndf ∷ l₅,
          (tt, refl),
          (
            say RNDF a.rndf ∷ [],
            l₅,
            (tt, refl),
            (
              os ++ (say checkpoints tt ∷ []),
              l₄,
              (os, ((s.given.version ∙ sym (map-id (perhaps a.version)), each-any (perhaps a.version), (s.given.date ∙ sym (map-id (perhaps a.date)), each-any (perhaps a.date), tt)), s.given.no_other), tt, refl),
              (
                say num_checkpoints G ∷ [],
                gs ++ l₃,
                (g.some_goals, refl),
                (
                  gs ++ (say end_checkpoints tt ∷ []),
                  say speed_limits tt ∷ l₂,
                  (gs, say end_checkpoints tt ∷ [], refl, lines_in-turn (mdf N) goal counted 0 a.goals g.goals, (tt, refl), refl),
                  (
                    say speed_limits tt ∷ [],
                    l₂,
                    (tt, refl),
                    (
                      say num_speed_limits L ∷ [],
                      ls ++ l₁,
                      (g.some_limits, refl),
                      (
                        ls ++ (say end_speed_limits tt ∷ []),
                        say end_file_of tt ∷ [],
                        (ls, say end_speed_limits tt ∷ [], refl, lines_in-turn (mdf N) limit limited 0 a.limits g.limits, (tt, refl), refl),
                        (tt, refl),
                        sym (append_assoc ls (say end_speed_limits tt ∷ []) (say end_file_of tt ∷ [])),
                      ),
                      refl,
                    ),
                    refl,
                  ),
                  sym (append_assoc gs (say end_checkpoints tt ∷ []) (say speed_limits tt ∷ l₂)),
                ),
                refl,
              ),
              sym (append_assoc os (say checkpoints tt ∷ []) l₄),
            ),
            refl,
          ),
          s.spelled,
        ),
      )

  from-file : (x : Files) (l : List (Statement N)) → Parts x l → SpellsMission (mission_of x) l
  unfolding mission_of
  from-file x l y =
      let y₁ = y.3 in
      let y₂ = y₁.3 in
      let o = y₂.2 in
      let y₃ = y₂.3 in
      let y₄ = y₃.3 in
      let g = y₄.2 in
      let y₅ = y₄.3 in
      let y₆ = y₅.3 in
      let y₇ = y₆.3 in
      let m = y₇.2 in
      let t = in-turn-lines (mdf N) goal counted 0 x.1.1.1.1.0.0 g.0 g.3 in
      let u = in-turn-lines (mdf N) limit limited 0 x.1.1.1.1.1.1.1.0.0 m.0 m.3 in
      record {
        options = o.0;
        given = record { version = o.1.0.0 ∙ map-id (perhaps x.1.1.0.0.0); date = o.1.0.2.0 ∙ map-id (perhaps x.1.1.0.0.1.0); no_other = o.1.1 };
        good = record { some_goals = rw (← g.2) at y₃.2.0; goals = t.0; some_limits = rw (← m.2) at y₆.2.0; limits = u.0 };
        spelled = rw (y.4, y.2.1, y₁.4, y₁.2.1, y₂.4, o.3, y₃.4, y₃.2.1, y₄.4, g.5, t.1, g.4.1, y₅.4, y₅.2.1, y₆.4, y₆.2.1, y₇.4, m.5, u.1, m.4.1, y₇.3.1, ← g.2, ← m.2) (simp append_assoc);
      }

  pub reads : Reads (mdf N) SpellsMission (some name_due) (λ n. none)
  reads = reads_as (mdf N) mission_of to-file from-file parts

  -- ## Every place can be finished
  -- ## Every place can be finished
  abbrev pub cost : Base → ℕ
  cost name_due = 99
  cost RNDF_due = 98
  cost checkpoints_due = 97
  cost num_checkpoints_due = 96
  cost (goal_due g) = 20 + g
  cost speed_limits_due = 10
  cost num_speed_limits_due = 9
  cost (limit_due l) = 5 + l
  cost end_file_due = 1

  abbrev pub Good : Base → Type 0
  Good b = Unit {0}

  pub one-is : T (tested counted 1)
  one-is = pass counted 1 (record { low = omega arith; high = omega arith })

  abbrev pub slow : Limit
  slow = record { id = 1; minimum = 0; maximum = 0 }

  pub slow-is : T (tested limited slow)
  slow-is = pass limited slow (record { id = record { low = omega arith; high = omega arith }; minimum = omega arith; maximum = omega arith; in_order = λ m. omega arith })

  -- N has some name
  module _ (some-name : N) where
    unfoldable pub goes_on : (b : Base) → Good b → Goes_on (mdf N) Good cost b
    goes_on name_due y = record { keeps = λ v t. tt; v = some-name; ok = tt; less = omega arith; readied = λ g. at_once (mdf N) name_due g refl }
    goes_on RNDF_due y = record { keeps = λ v t. tt; v = some-name; ok = tt; less = omega arith; readied = λ g. at_once (mdf N) RNDF_due g refl }
    goes_on checkpoints_due y = record { keeps = λ v t. tt; v = tt; ok = tt; less = omega arith; readied = λ g. at_once (mdf N) checkpoints_due g refl }
    goes_on num_checkpoints_due y = record { keeps = λ v t. tt; v = 1; ok = one-is; less = omega arith; readied = λ g. at_once (mdf N) num_checkpoints_due g refl }
    goes_on (goal_due zero) y = record { keeps = λ v t. tt; v = tt; ok = tt; less = omega arith; readied = λ g. at_once (mdf N) (goal_due zero) g refl }
    goes_on (goal_due (suc g)) y = record { keeps = λ v t. tt; v = 1; ok = one-is; less = omega arith; readied = λ f. at_once (mdf N) (goal_due (suc g)) f refl }
    goes_on speed_limits_due y = record { keeps = λ v t. tt; v = tt; ok = tt; less = omega arith; readied = λ g. at_once (mdf N) speed_limits_due g refl }
    goes_on num_speed_limits_due y = record { keeps = λ v t. tt; v = 1; ok = one-is; less = omega arith; readied = λ g. at_once (mdf N) num_speed_limits_due g refl }
    goes_on (limit_due zero) y = record { keeps = λ v t. tt; v = tt; ok = tt; less = omega arith; readied = λ g. at_once (mdf N) (limit_due zero) g refl }
    goes_on (limit_due (suc l)) y = record { keeps = λ v t. tt; v = slow; ok = slow-is; less = omega arith; readied = λ g. at_once (mdf N) (limit_due (suc l)) g refl }
    goes_on end_file_due y = record { keeps = λ v t. tt; v = tt; ok = tt; less = tt; readied = λ g. at_once (mdf N) end_file_due g refl }
