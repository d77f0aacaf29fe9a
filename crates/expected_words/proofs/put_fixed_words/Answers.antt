-- `expected_words::put_fixed_words` meets its contract: an arm for each of its items, nothing for the others. Assumes nothing.
use Rattle.terms.specs.Ascii.{ascii}
use Rattle.output.proofs.Writing.{none, same}
use Rattle.expected_words.specs.Items.{fixed_words}
use Rattle.expected_words.proofs.Rest.{not-fixed}
use borrow.Enum.Refused.{opened}
use Rattle.expected_words.proofs.put_fixed_words.Goals as goal

pub returns-in-Name : goal.returns-in-Name
unfolding ascii fixed_words
returns-in-Name c = rw c.in-Name.is c.put_bytes.ensures

pub returns-in-Id : goal.returns-in-Id
unfolding ascii fixed_words
returns-in-Id c = rw c.in-Id.is c.put_bytes-in-Id.ensures

pub returns-in-Minimum : goal.returns-in-Minimum
unfolding ascii fixed_words
returns-in-Minimum c = rw c.in-Minimum.is c.put_bytes-in-Minimum.ensures

pub returns-in-Latitude : goal.returns-in-Latitude
unfolding ascii fixed_words
returns-in-Latitude c = rw c.in-Latitude.is c.put_bytes-in-Latitude.ensures

pub returns-in-Longitude : goal.returns-in-Longitude
unfolding ascii fixed_words
returns-in-Longitude c = rw c.in-Longitude.is c.put_bytes-in-Longitude.ensures

pub returns-in_default : goal.returns-in_default
returns-in_default c = same (not-fixed c.args.i (opened c.in_default.in_default-own.keys6)) none
