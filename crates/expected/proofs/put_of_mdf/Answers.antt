-- `expected::put_of_mdf` meets its contract: an arm for each number. Assumes nothing.
use Rattle.output.proofs.Writing.{same}
use Rattle.expected.proofs.Cases.{of-name, of-goal, of-id, of-id-again, of-missing, of-mdf-form}
use Rattle.expected.proofs.put_of_mdf.Goals as goal

pub returns-in-14 : goal.returns-in-14
returns-in-14 c = same (of-name _ _ _ _ c.in-14.is) c.put_rndf_name.ensures

pub returns-in-15 : goal.returns-in-15
returns-in-15 c = same (of-goal _ _ _ _ c.in-15.is) c.put_goals.ensures

pub returns-in-16 : goal.returns-in-16
returns-in-16 c = same (of-id _ _ _ _ c.in-16.is) c.put_ids.ensures

pub returns-in-17 : goal.returns-in-17
returns-in-17 c = same (of-id-again _ _ _ _ c.in-17.is) c.put_ids-in-17.ensures

pub returns-in-18 : goal.returns-in-18
returns-in-18 c = same (of-missing _ _ _ _ c.in-18.is) c.put_missing.ensures

pub returns-in_default : goal.returns-in_default
returns-in_default c =
    same (of-mdf-form _ _ _ _ c.in_default.in_default-own.rest.0.0.0.0.1 c.in_default.in_default-own.rest.0.0.0.1 c.in_default.in_default-own.rest.0.0.1 c.in_default.in_default-own.rest.0.1 c.in_default.in_default-own.rest.1) c.put_mdf_words.ensures
