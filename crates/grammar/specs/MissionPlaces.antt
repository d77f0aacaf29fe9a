-- Executable: the places of an MDF: what may stand at each, and the place after it. Document 01, "The order of an MDF". Assumes nothing.
use Rattle.std.specs.Prelude.{List, [], ◌∷◌, Bool, true, false, ◌&&◌, ℕ, zero, suc, T}
use Rattle.std.proofs.Math.Option.{Option, none, some}
use Rattle.grammar.specs.Machine.{Opt, Due, Machine, lacks, distinct}
use Rattle.grammar.specs.Forms.{via, and?, where?, le?, Form, tested, free, within}
use Rattle.grammar.specs.Choices.{Choice, opts as row}
use Rattle.grammar.specs.Network.{largest}
use Rattle.grammar.specs.Permitted.{between?, counted}
use Rattle.grammar.specs.MissionStatements.{Limit, Kind, Says, orders, MDF_name_of, RNDF, format_version_of, creation_date_of, checkpoints, num_checkpoints, end_checkpoints, speed_limits, num_speed_limits, end_speed_limits, end_file_of, goal, limit}
use Rattle.grammar.specs.Mission.{NotAbove, GoodLimit}

-- L1: "minimum above maximum is a fault only where the maximum is not 0"
abbrev pub not_above? : (minimum maximum : ℕ) → Dec (NotAbove minimum maximum)
not_above? minimum maximum = where? (le? 1 maximum) (le? minimum maximum)

abbrev pub limit? : (a : Limit) → Dec (GoodLimit a)
limit? a = via (λ x. record { id = x.0; minimum = x.1.0; maximum = x.1.1.0; in_order = x.1.1.1 }) (λ x. (x.id, (x.minimum, (x.maximum, x.in_order))))
    (and? (between? 1 largest a.id) (and? (le? a.minimum largest) (and? (le? a.maximum largest) (not_above? a.minimum a.maximum))))

abbrev pub limited : Form Limit
limited = within GoodLimit limit?

abbrev nothing : Form (Unit {0})
nothing = free (Unit {0})

-- what is due; how many goals or limits are owed (owed none, the end is due)
pub data Base : Type 0 where
  name_due RNDF_due checkpoints_due num_checkpoints_due speed_limits_due num_speed_limits_due end_file_due : Base
  goal_due limit_due : ℕ → Base

module _ (N : Type 0) where
  abbrev pub file_row_of : List (Choice Kind (Says N))
  file_row_of = record { on = format_version_of; once = true; form = free N } ∷ record { on = creation_date_of; once = true; form = free N } ∷ []

  abbrev pub opts : Base → List (Opt Kind (Says N))
  opts name_due = []
  opts RNDF_due = []
  opts checkpoints_due = row (orders N) file_row_of
  opts num_checkpoints_due = []
  opts speed_limits_due = []
  opts num_speed_limits_due = []
  opts end_file_due = []
  opts (goal_due g) = []
  opts (limit_due l) = []

  abbrev pub wait : (k : Kind) → Form (Says N k) → (Says N k → Base) → Due Kind (Says N) Base
  wait k F b = record { on = k; test = tested F; then = λ v. some (b v) }

  abbrev pub due : Base → Due Kind (Says N) Base
  due name_due = wait MDF_name_of (free N) (λ v. RNDF_due)
  due RNDF_due = wait RNDF (free N) (λ v. checkpoints_due)
  due checkpoints_due = wait checkpoints nothing (λ v. num_checkpoints_due)
  due num_checkpoints_due = wait num_checkpoints counted goal_due
  due (goal_due zero) = wait end_checkpoints nothing (λ v. speed_limits_due)
  due (goal_due (suc g)) = wait goal counted (λ v. goal_due g)
  due speed_limits_due = wait speed_limits nothing (λ v. num_speed_limits_due)
  due num_speed_limits_due = wait num_speed_limits counted limit_due
  due (limit_due zero) = wait end_speed_limits nothing (λ v. end_file_due)
  due (limit_due (suc l)) = wait limit limited (λ v. limit_due l)
  due end_file_due = record { on = end_file_of; test = tested nothing; then = λ v. none }

  pub apart : (b : Base) → T (lacks (orders N) (due b).on (opts b) && distinct (orders N) (opts b))
  apart name_due = tt
  apart RNDF_due = tt
  apart checkpoints_due = tt
  apart num_checkpoints_due = tt
  apart (goal_due zero) = tt
  apart (goal_due (suc g)) = tt
  apart speed_limits_due = tt
  apart num_speed_limits_due = tt
  apart (limit_due zero) = tt
  apart (limit_due (suc l)) = tt
  apart end_file_due = tt

  abbrev pub mdf : Machine (orders N)
  mdf = record { Base = Base; opts = opts; due = due; ready = λ b g. true; apart = apart }
