-- Fields lie within the line.
use Rattle.std.proofs.Common.{sym, subst}
use Rattle.line.specs.Forms.{FieldsWithin}
use Rattle.line.proofs.Spans.{fields_within}
use Rattle.line_vectors.proofs.put_fields.Goals as goal

pub put_span-requires-clause-span_within : goal.put_span-requires-clause-span_within
put_span-requires-clause-span_within g c = (subst (FieldsWithin c.args.s.now) (sym c.fields_of-r.ensures) (fields_within c.args.s.now)).first

pub put_span-requires-then-r-gt1-clause-span_within : goal.put_span-requires-then-r-gt1-clause-span_within
put_span-requires-then-r-gt1-clause-span_within g c = (subst (FieldsWithin c.args.s.now) (sym c.fields_of-r.ensures) (fields_within c.args.s.now)).second

pub put_span-requires-then-r-gt2-clause-span_within : goal.put_span-requires-then-r-gt2-clause-span_within
put_span-requires-then-r-gt2-clause-span_within g c = (subst (FieldsWithin c.args.s.now) (sym c.fields_of-r.ensures) (fields_within c.args.s.now)).third
