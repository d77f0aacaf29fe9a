-- `mend_walk::walk_mended` meets its contract. Assumes nothing.
use Rattle.std.specs.Prelude.{ℕ, Result}
use mathlib.Core.Path.{refl, ap, ◌∙◌}
use Prim.Native.Nat.{◌+◌}
use native.Mathlib.Omega.{arith}
use lib.ListN.{length}
use Rattle.line.specs.Lines.{lines_of}
use Rattle.edition.specs.Editions.{inner}
use Rattle.progress.specs.declared.Progress.{Progress}
use Rattle.progress.specs.After.{total}
use Rattle.network.specs.Storing.{Memory}
use Rattle.network.specs.Reaching.{stood}
use Rattle.network.proofs.Onward.{within, next-less, place-fits}
use Rattle.mend_lines.specs.Forward.{after_of}
use Rattle.mend_tests.specs.Tests.{few}
use Rattle.mend_walk.specs.Walking.{mended_walk}
use Rattle.mend_walk.proofs.Steps.{still_one, ends_there, goes_on, counts-on, all-walked, few-rows, few-lines}
use Rattle.mend_walk.proofs.walk_mended.Goals as goal
use Rattle.refusal.specs.declared.Fault.{Fault}
use Rattle.place.specs.declared.Place.{Place}

pub returns-then-text-gt-LONGEST_TEXT : goal.returns-then-text-gt-LONGEST_TEXT
returns-then-text-gt-LONGEST_TEXT c = λ size. absurd (omega (arith, c.if-text-gt-LONGEST_TEXT.true, size))

pub loop-from-init : goal.loop-from-init
loop-from-init c = (
  c.if-text-gt-LONGEST_TEXT.false,
  c.rndf_table-table.ensures,
  omega arith,
  rw c.none-gained.ensures (omega arith),
  refl,
  refl,
  refl,
  refl,
  λ i. mended_walk (inner c.args.edition) (c.none-before.ensures i) (c.start-place.ensures i) (few (c.none-gained.ensures i) c.args.segments.now c.args.lanes.now c.args.zones.now c.args.checkpoints.now) 0 1 (lines_of c.args.text.now),
)

pub slice_bounds-bytes-count : goal.slice_bounds-bytes-count
slice_bounds-bytes-count c =
    let s = c.args.text.now in
    let l = c.loop-from in
    let inside = within s l.from c.far_byte_from-e.result c.loop-from-test.true c.far_byte_from-e.ensures in
    inside.0

pub slice_bounds-bytes-start : goal.slice_bounds-bytes-start
slice_bounds-bytes-start c =
    let s = c.args.text.now in
    let l = c.loop-from in
    let inside = within s l.from c.far_byte_from-e.result c.loop-from-test.true c.far_byte_from-e.ensures in
    omega (arith, inside.0, inside.1)

pub slice_bounds-bytes-end : goal.slice_bounds-bytes-end
slice_bounds-bytes-end c =
    let s = c.args.text.now in
    let l = c.loop-from in
    let inside = within s l.from c.far_byte_from-e.result c.loop-from-test.true c.far_byte_from-e.ensures in
    omega (arith, inside.0, inside.1)

pub overflow_add-e : goal.overflow_add-e
overflow_add-e c =
    let s = c.args.text.now in
    let l = c.loop-from in
    let inside = within s l.from c.far_byte_from-e.result c.loop-from-test.true c.far_byte_from-e.ensures in
    place-fits (length s) l.from c.far_byte_from-e.result l.invariant.0 inside

pub walk_line-walked-requires : goal.walk_line-walked-requires
walk_line-walked-requires c = record { from_in_bounds = c.loop-from-test.true; text_len_bound = c.loop-from.invariant.0 }

pub shape_of-segments-in-Err : goal.shape_of-segments-in-Err
shape_of-segments-in-Err c = c.walk_line-walked.auto.segments ∙ c.loop-from.invariant.4

pub shape_of-lanes-in-Err : goal.shape_of-lanes-in-Err
shape_of-lanes-in-Err c = c.walk_line-walked.auto.lanes ∙ c.loop-from.invariant.5

pub shape_of-zones-in-Err : goal.shape_of-zones-in-Err
shape_of-zones-in-Err c = c.walk_line-walked.auto.zones ∙ c.loop-from.invariant.6

pub shape_of-checkpoints-in-Err : goal.shape_of-checkpoints-in-Err
shape_of-checkpoints-in-Err c = c.walk_line-walked.auto.checkpoints ∙ c.loop-from.invariant.7

pub returns-in-Err : goal.returns-in-Err
returns-in-Err c =
    let A = c.args in
    let s = A.text.now in
    let l = c.loop-from in
    let h = c.loop-from-test.true in
    let kind = c.line_kind-kind.ensures in
    let m = few l.gained l.segments l.lanes l.zones l.checkpoints in
    let tables : Progress → Memory = λ p. few p c.walk_line-walked.new.segments c.walk_line-walked.new.lanes c.walk_line-walked.new.zones c.walk_line-walked.new.checkpoints in
    let walked = c.walk_line-walked.ensures l.invariant.1 (few-rows (length s) l.from (total l.gained) l.invariant.0 h l.invariant.3) (few-lines (length s) l.from l.line l.invariant.0 h l.invariant.2) (still_one c.line_change-becomes.result s l.from h) in
    λ size. ends_there (inner A.edition) s l.from h l.before l.place m l.line c.far_byte_from-e.result c.far_byte_from-e.ensures c.line_change-becomes.result (c.line_change-becomes.ensures kind) walked c.in-Err.fault.line c.in-Err.fault.number (ap (λ (x : Result (Place × Progress × ℕ) Fault). stood x tables) c.in-Err.is) ∙ l.invariant.8

pub overflow_add-from : goal.overflow_add-from
overflow_add-from c =
    let s = c.args.text.now in
    let l = c.loop-from in
    let inside = within s l.from c.far_byte_from-e.result c.loop-from-test.true c.far_byte_from-e.ensures in
    place-fits (length s) l.from c.far_byte_from-e.result l.invariant.0 inside

pub loop-from-smaller : goal.loop-from-smaller
loop-from-smaller c =
    let s = c.args.text.now in
    let l = c.loop-from in
    let inside = within s l.from c.far_byte_from-e.result c.loop-from-test.true c.far_byte_from-e.ensures in
    next-less (length s) l.from c.far_byte_from-e.result (c.far_byte_from-e.result + 1) refl inside

pub loop-from-preserved : goal.loop-from-preserved
loop-from-preserved c =
    let A = c.args in
    let s = A.text.now in
    let l = c.loop-from in
    let h = c.loop-from-test.true in
    let kind = c.line_kind-kind.ensures in
    let m = few l.gained l.segments l.lanes l.zones l.checkpoints in
    let tables : Progress → Memory = λ p. few p c.walk_line-walked.new.segments c.walk_line-walked.new.lanes c.walk_line-walked.new.zones c.walk_line-walked.new.checkpoints in
    let walked = c.walk_line-walked.ensures l.invariant.1 (few-rows (length s) l.from (total l.gained) l.invariant.0 h l.invariant.3) (few-lines (length s) l.from l.line l.invariant.0 h l.invariant.2) (still_one c.line_change-becomes.result s l.from h) in
    let told = ap (λ (x : Result (Place × Progress × ℕ) Fault). stood x tables) c.in-Ok.is in
    let so = c.after-before.ensures ∙ ap (after_of l.before) kind in
    let counted = counts-on (inner A.edition) s l.from h l.before l.place m l.line c.far_byte_from-e.result c.far_byte_from-e.ensures c.line_change-becomes.result (c.line_change-becomes.ensures kind) walked c.in-Ok.q (tables c.in-Ok.more) c.in-Ok.next (c.far_byte_from-e.result + 1) c.after-before.result told so refl l.invariant.2 l.invariant.3 in (
      l.invariant.0,
      l.invariant.1,
      counted.0,
      counted.1,
      c.walk_line-walked.auto.segments ∙ l.invariant.4,
      c.walk_line-walked.auto.lanes ∙ l.invariant.5,
      c.walk_line-walked.auto.zones ∙ l.invariant.6,
      c.walk_line-walked.auto.checkpoints ∙ l.invariant.7,
      goes_on (inner A.edition) s l.from h l.before l.place m l.line c.far_byte_from-e.result c.far_byte_from-e.ensures c.line_change-becomes.result (c.line_change-becomes.ensures kind) walked c.in-Ok.q (tables c.in-Ok.more) c.in-Ok.next (c.far_byte_from-e.result + 1) c.after-before.result told so refl ∙ l.invariant.8,
    )

pub shape_of-segments : goal.shape_of-segments
shape_of-segments c = c.loop-from.invariant.4

pub shape_of-lanes : goal.shape_of-lanes
shape_of-lanes c = c.loop-from.invariant.5

pub shape_of-zones : goal.shape_of-zones
shape_of-zones c = c.loop-from.invariant.6

pub shape_of-checkpoints : goal.shape_of-checkpoints
shape_of-checkpoints c = c.loop-from.invariant.7

pub returns : goal.returns
returns c =
    let A = c.args in
    let l = c.loop-from in
    λ size. all-walked (inner A.edition) A.text.now l.from l.before l.place (few l.gained l.segments l.lanes l.zones l.checkpoints) l.line (omega arith) ∙ l.invariant.8
