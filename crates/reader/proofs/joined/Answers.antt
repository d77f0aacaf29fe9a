-- `reader::joined` meets its contract: by the reply. Assumes nothing.
use mathlib.Core.Path.{refl}
use Rattle.reader.proofs.joined.Goals as goal

pub enum_known-mission : goal.enum_known-mission
enum_known-mission c = c.in-Ok.in-Ok-own.keys1

pub enum_known-mission-in-Err-1 : goal.enum_known-mission-in-Err-1
enum_known-mission-in-Err-1 c = c.in-Err.in-Err-own.keys2

pub returns-in-Ok : goal.returns-in-Ok
returns-in-Ok c = rw c.in-Ok.is refl

pub returns-in-Err : goal.returns-in-Err
returns-in-Err c = rw (c.in-Err.is, c.mdf_refused.ensures) refl
