-- `mission::fill_orders` meets its contract. Assumes nothing.
use Rattle.std.specs.Prelude.{Ok, Err}
use mathlib.Core.Path.{◌≡◌, refl, sym, ap, ◌∙◌}
use Prim.Native.Nat.{◌+◌, ◌≤◌, ◌<◌}
use native.Mathlib.Omega.{arith}
use lib.ListN.{length}
use Rattle.scan.specs.declared.Until.TheVariants.{Byte}
use Rattle.scan.specs.Reach.{reach, stops_by}
use Rattle.mission_place.specs.Step.{over_of}
use Rattle.mission_judge.specs.MdfLine.{mdf_judging}
use Rattle.walk.specs.Standing.{place}
use Rattle.refusal.proofs.Sized.{too_long, not_too-long}
use Rattle.walk.proofs.Cutting.{at-end}
use Rattle.walk.proofs.MdfSteps.{rest}
use Rattle.plain_parts.specs.Stands.{stretch}
use Rattle.plain_order.specs.declared.MissionLine.TheVariants as Line
use Rattle.plain_order.specs.Orders.{Says, LineSays}
use Rattle.plain_order.proofs.Lines.{within}
use Rattle.mission.specs.Storing.{MissionMemory, memory}
use Rattle.mission.specs.Reading.{put, filled_of, filled_in}
use Rattle.mission.proofs.Steps.{one_more, blank_line_of, bad_line, said-line}
use Rattle.mission.proofs.fill_orders.Goals as goal
use Rattle.mission.proofs.fill_orders.Goals.{Joined-line_said, in-Blank, in-Filled+in-Ok}

pub returns-then-text-gt-LONGEST_TEXT : goal.returns-then-text-gt-LONGEST_TEXT
unfolding filled_in
returns-then-text-gt-LONGEST_TEXT c = sym (too_long c.args.text.now _ _ c.if-text-gt-LONGEST_TEXT.true)

pub loop-from-init : goal.loop-from-init
unfolding filled_of filled_in
loop-from-init c = (omega arith, omega arith, rw c.none-gained.ensures (omega arith), rw (c.none-gained.ensures, c.start-place.ensures) (sym (not_too-long c.args.text.now _ _ (omega arith))), refl, refl, omega arith)

pub overflow_add-from : goal.overflow_add-from
overflow_add-from c =
    let l = c.loop-from in
    let s = c.args.text.now in
    let made = c.mdf_table-table in
    let h = c.loop-from-test.true in
    let few : length s < 4294967296 = omega (arith, l.invariant.6) in
    let e = c.in-Blank.e in
    let says : LineSays made.result s l.from l.place (Line.Blank e) = rw c.in-Blank.is at (c.line_said.ensures h few) in
    omega (arith, within s l.from e h says.0)

pub shape_of-goals-in-Err : goal.shape_of-goals-in-Err
shape_of-goals-in-Err c = c.loop-from.invariant.4

pub shape_of-limits-in-Err : goal.shape_of-limits-in-Err
shape_of-limits-in-Err c = c.loop-from.invariant.5

pub returns-in-Err : goal.returns-in-Err
returns-in-Err c =
    let l = c.loop-from in
    let s = c.args.text.now in
    let made = c.mdf_table-table in
    let h = c.loop-from-test.true in
    let few : length s < 4294967296 = omega (arith, l.invariant.6) in
    let says : Says made.result s l.from l.place (Err c.in-Err.number) = rw c.in-Err.is at (rw c.in-Filled.is at (c.line_said.ensures h few)) in
    sym (bad_line made.result made.ensures s l.from (reach (stops_by (Byte 10)) s l.from) h refl l.place (memory l.gained l.goals l.limits) l.line c.in-Err.number says) ∙ l.invariant.3

pub overflow_add-from-in-Ok : goal.overflow_add-from-in-Ok
overflow_add-from-in-Ok c =
    let l = c.loop-from in
    let s = c.args.text.now in
    let made = c.mdf_table-table in
    let h = c.loop-from-test.true in
    let few : length s < 4294967296 = omega (arith, l.invariant.6) in
    let says : Says made.result s l.from l.place (Ok (c.in-Ok.s, c.in-Ok.q, c.in-Ok.e)) = rw c.in-Ok.is at (rw c.in-Filled.is at (c.line_said.ensures h few)) in
    omega (arith, within s l.from c.in-Ok.e h says.0)

-- the next line starts further on, and within the text or right behind it
further : (c : Joined-line_said) → (c.loop-from.from < c.match-line_said.from) × (c.match-line_said.from ≤ length c.args.text.now + 1)
further c =
    let l = c.loop-from in
    let s = c.args.text.now in
    let made = c.mdf_table-table in
    let h = c.loop-from-test.true in
    let few : length s < 4294967296 = omega (arith, l.invariant.6) in
    elim c.match-line_said.branch [
      | in-Blank w ↦
          let e = w.in-Blank.e in
          let says : LineSays made.result s l.from l.place (Line.Blank e) = rw w.in-Blank.is at (c.line_said.ensures h few) in
          let i = within s l.from e h says.0 in
          (omega (arith, w.from-is), omega (arith, w.from-is))
      | in-Filled+in-Ok w ↦
          let k = w.in-Ok in
          let says : Says made.result s l.from l.place (Ok (k.s, k.q, k.e)) = rw k.is at (rw w.in-Filled.is at (c.line_said.ensures h few)) in
          let i = within s l.from k.e h says.0 in
          (omega (arith, w.from-is), omega (arith, w.from-is))
    ]

pub loop-from-smaller : goal.loop-from-smaller
loop-from-smaller c = omega (arith, further (goal.at.loop-from-smaller c).Joined-line_said)

pub loop-from-preserved : goal.loop-from-preserved
loop-from-preserved c =
    let l = c.loop-from in
    let s = c.args.text.now in
    let made = c.mdf_table-table in
    let h = c.loop-from-test.true in
    let few : length s < 4294967296 = omega (arith, l.invariant.6) in
    let on = further (goal.at.loop-from-preserved c).Joined-line_said in
    elim c.match-line_said.branch [
      | in-Blank w ↦
          let e = w.in-Blank.e in
          let says : LineSays made.result s l.from l.place (Line.Blank e) = rw w.in-Blank.is at (c.line_said.ensures h few) in (
            on.1,
            omega arith,
            rw w.gained-is (omega (arith, l.invariant.2)),
            rw (w.goals-is, w.limits-is, w.place-is, w.gained-is, w.from-is) (sym (blank_line_of made.result made.ensures s l.from e h says.0 l.place (memory l.gained l.goals l.limits) l.line says.1) ∙ l.invariant.3),
            rw w.goals-is l.invariant.4,
            rw w.limits-is l.invariant.5,
            l.invariant.6,
          )
      | in-Filled+in-Ok w ↦
          let k = w.in-Ok in
          let says : Says made.result s l.from l.place (Ok (k.s, k.q, k.e)) = rw k.is at (rw w.in-Filled.is at (c.line_said.ensures h few)) in
          let e = k.e in
          let g = w.gather-gained in
          let here = place l.from l.line (stretch s l.from e) in
          let gathered = g.ensures here in (
            on.1,
            omega arith,
            rw w.gained-is (omega (arith, one_more here k.s l.gained g.result l.goals l.limits g.new.goals g.new.limits gathered, l.invariant.2)),
            rw (w.goals-is, w.limits-is, w.place-is, w.gained-is, w.from-is) (ap (λ (m : MissionMemory). rest put s k.q m (e + 1) (l.line + 1)) gathered ∙ sym (said-line made.result made.ensures s l.from e h says.0 l.place (memory l.gained l.goals l.limits) l.line k.s k.q says.1) ∙ l.invariant.3),
            rw w.goals-is (g.auto.goals ∙ l.invariant.4),
            rw w.limits-is (g.auto.limits ∙ l.invariant.5),
            l.invariant.6,
          )
    ]

pub shape_of-goals-then-is_over : goal.shape_of-goals-then-is_over
shape_of-goals-then-is_over c = c.loop-from.invariant.4

pub shape_of-limits-then-is_over : goal.shape_of-limits-then-is_over
shape_of-limits-then-is_over c = c.loop-from.invariant.5

pub returns-then-is_over : goal.returns-then-is_over
returns-then-is_over c =
    let l = c.loop-from in
    let s = c.args.text.now in
    sym (rw (← c.is_over.ensures, c.if-is_over.true) at (at-end mdf_judging put over_of s l.from (omega arith) l.place (memory l.gained l.goals l.limits) l.line)) ∙ l.invariant.3

pub shape_of-goals-else-is_over : goal.shape_of-goals-else-is_over
shape_of-goals-else-is_over c = c.loop-from.invariant.4

pub shape_of-limits-else-is_over : goal.shape_of-limits-else-is_over
shape_of-limits-else-is_over c = c.loop-from.invariant.5

pub returns-else-is_over : goal.returns-else-is_over
returns-else-is_over c =
    let l = c.loop-from in
    let s = c.args.text.now in
    sym (rw (← c.is_over.ensures, c.if-is_over.false) at (at-end mdf_judging put over_of s l.from (omega arith) l.place (memory l.gained l.goals l.limits) l.line)) ∙ l.invariant.3
