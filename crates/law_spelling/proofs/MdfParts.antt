-- The statements of a mission and the lines of the law are the same. Assumes nothing.
use mathlib.Core.Path.{◌≡◌, refl, sym, ap, ◌∙◌}
use mathlib.Core.List.{List, [], ◌∷◌, ◌++◌, map}
use lib.ListN.{length}
use Rattle.terms.specs.Words.{perhaps}
use Rattle.line.specs.Content.{Field}
use Rattle.law.specs.Network.{Line, Mission, AnyOrder, reading, present}
use Rattle.law.specs.Network as Law
use Rattle.law.specs.Short as Short
use Rattle.grammar.specs.Editions.{Edition, march, law_of}
use Rattle.grammar.specs.MissionStatements.{Statement, Kind, orders, say, MDF_name_of, RNDF, format_version_of, creation_date_of, checkpoints, num_checkpoints, end_checkpoints, speed_limits, num_speed_limits, end_speed_limits, end_file_of, goal, limit}
use Rattle.grammar.specs.Mission.{SpellsMission}
use Rattle.text.specs.MdfLines.{the_mdf_line_of}
use Rattle.law_spelling.specs.LineOf.{mdf_law_line}
use Rattle.law_spelling.proofs.Mixing.{map-map, cons, behind}
use Rattle.law_spelling.proofs.Options.{Values, options, options-to, options-back}

abbrev ll : Statement Field → Line
ll = mdf_law_line

abbrev file-kinds : List Kind
file-kinds = format_version_of ∷ creation_date_of ∷ []

abbrev file-values : Mission Field → Values (orders Field) file-kinds
file-values a = (perhaps a.version, (perhaps a.date, tt))

pub file-same : (a : Mission Field) → map (map ll) (options (orders Field) file-kinds (file-values a)) ≡ Law.file_options a.version a.date
unfolding the_mdf_line_of
file-same a = cons (map-map (say format_version_of) ll (perhaps a.version)) (cons (map-map (say creation_date_of) ll (perhaps a.date)) refl)

-- the statements of a mission from its limits on, from its goals on, and with these options; and the lines
abbrev pub said-limits : Mission Field → List (Statement Field)
said-limits a = say end_checkpoints tt ∷ say speed_limits tt ∷ say num_speed_limits (length a.limits) ∷ map (say limit) a.limits ++ (say end_speed_limits tt ∷ say end_file_of tt ∷ [])

abbrev pub said-goals : Mission Field → List (Statement Field)
said-goals a = say checkpoints tt ∷ say num_checkpoints (length a.goals) ∷ map (say goal) a.goals ++ said-limits a

abbrev pub said-with : Mission Field → List (Statement Field) → List (Statement Field)
said-with a os = say MDF_name_of a.name ∷ say RNDF a.rndf ∷ os ++ said-goals a

abbrev pub lines_with : Mission Field → List Line → List Line
lines_with a os = Short.named "MDF_name" a.name ∷ Short.named "RNDF" a.rndf ∷ os
    ++ (Short.bare "checkpoints" ∷ Short.counted "num_checkpoints" (length a.goals) ∷ map Law.goal_line_of a.goals
    ++ (Short.bare "end_checkpoints" ∷ Short.bare "speed_limits" ∷ Short.counted "num_speed_limits" (length a.limits) ∷ map Law.limit_line a.limits
    ++ (Short.bare "end_speed_limits" ∷ Short.bare "end_file" ∷ [])))

pub mission-same : (a : Mission Field) (os : List (Statement Field)) (l : List Line) → map ll os ≡ l → map ll (said-with a os) ≡ lines_with a l
unfolding the_mdf_line_of
mission-same a os l e =
    let limits = behind ll (map (say limit) a.limits) (say end_speed_limits tt ∷ say end_file_of tt ∷ []) (map-map (say limit) ll a.limits) refl in
    let goals = behind ll (map (say goal) a.goals) (said-limits a) (map-map (say goal) ll a.goals) (cons refl (cons refl (cons refl limits))) in
    cons refl (cons refl (behind ll os (said-goals a) e (cons refl (cons refl goals))))

pub mission-to_in : (e : Edition) (n : Mission Field) (said : List (Statement Field)) → SpellsMission n said → Law.SpellsMission (reading (law_of e)) n (map mdf_law_line said)
mission-to_in e a l h =
    let g = h.given in
    record {
      options = map ll h.options;
      given = options-to (orders Field) ll file-kinds (file-values a) (Law.file_options a.version a.date) h.options tt (file-same a) (g.version, (g.date, tt)) g.no_other;
      good = h.good;
      spelled = ap (map ll) h.spelled ∙ mission-same a h.options (map ll h.options) refl;
    }

pub mission-back_in : (e : Edition) (n : Mission Field) (l : List Line) → Law.SpellsMission (reading (law_of e)) n l → (said : List (Statement Field)) × (l ≡ map mdf_law_line said) × SpellsMission n said
mission-back_in e a l h =
    let x = options-back (orders Field) ll file-kinds (file-values a) (Law.file_options a.version a.date) h.options tt (file-same a) h.given in
    (said-with a x.0, h.spelled ∙ sym (mission-same a x.0 h.options (sym x.1)), record { options = x.0; given = record { version = x.2.0; date = x.2.1.0; no_other = x.3 }; good = h.good; spelled = refl })

-- in the present edition
pub mission-to : (n : Mission Field) (said : List (Statement Field)) → SpellsMission n said → Law.SpellsMission present n (map mdf_law_line said)
mission-to = mission-to_in march

pub mission-back : (n : Mission Field) (l : List Line) → Law.SpellsMission present n l → (said : List (Statement Field)) × (l ≡ map mdf_law_line said) × SpellsMission n said
mission-back = mission-back_in march
