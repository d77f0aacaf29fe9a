-- `expected_words::put_capitals` meets its contract: an arm for each of its items, nothing for the others. Assumes nothing.
use Rattle.terms.specs.Ascii.{ascii}
use Rattle.output.proofs.Writing.{none, same}
use Rattle.expected_words.specs.Items.{capitals}
use Rattle.expected_words.proofs.Rest.{no-capitals}
use borrow.Enum.Refused.{opened}
use Rattle.expected_words.proofs.put_capitals.Goals as goal

pub returns-in-Name : goal.returns-in-Name
unfolding ascii capitals
returns-in-Name c = rw c.in-Name.is c.put_bytes.ensures

pub returns-in-Entry : goal.returns-in-Entry
unfolding ascii capitals
returns-in-Entry c = rw c.in-Entry.is c.put_bytes-in-Entry.ensures

pub returns-in-Id : goal.returns-in-Id
unfolding ascii capitals
returns-in-Id c = rw c.in-Id.is c.put_bytes-in-Id.ensures

pub returns-in-Minimum : goal.returns-in-Minimum
unfolding ascii capitals
returns-in-Minimum c = rw c.in-Minimum.is c.put_bytes-in-Minimum.ensures

pub returns-in-Maximum : goal.returns-in-Maximum
unfolding ascii capitals
returns-in-Maximum c = rw c.in-Maximum.is c.put_bytes-in-Maximum.ensures

pub returns-in-Latitude : goal.returns-in-Latitude
unfolding ascii capitals
returns-in-Latitude c = rw c.in-Latitude.is c.put_bytes-in-Latitude.ensures

pub returns-in-Longitude : goal.returns-in-Longitude
unfolding ascii capitals
returns-in-Longitude c = rw c.in-Longitude.is c.put_bytes-in-Longitude.ensures

pub returns-in-Boundary : goal.returns-in-Boundary
unfolding ascii capitals
returns-in-Boundary c = rw c.in-Boundary.is c.put_bytes-in-Boundary.ensures

pub returns-in_default : goal.returns-in_default
returns-in_default c = same (no-capitals c.args.i c.in_default.in_default-own.keys9) none
