-- `network::walk_part` meets its contract. Assumes nothing.
use Rattle.std.specs.Prelude.{⊤, Ok, Err, Result}
use mathlib.Core.Path.{◌≡◌, refl, sym, ap, ◌∙◌}
use Prim.Native.Nat.{ℕ, ◌≤◌}
use native.Mathlib.Omega.{arith}
use lib.ListN.{length}
use Rattle.scan.specs.Reach.{reach, stops_by}
use Rattle.scan.specs.declared.Until.TheVariants.{Byte}
use Rattle.edition.specs.Editions.{inner}
use Rattle.judge.specs.Judging.{blank, bad}
use Rattle.plain_parts.specs.Stands.{stretch}
use Rattle.said_line.specs.Saying.{Says}
use Rattle.progress.specs.After.{total, after_of}
use Rattle.progress.specs.Given.{row_of}
use Rattle.progress.proofs.Shown.{counts}
use Rattle.walk.specs.Standing.{place}
use Rattle.network.specs.Storing.{memory}
use Rattle.network.specs.Reading.{put}
use Rattle.network.proofs.Steps.{Lengths, lengths, stored-long, stepped, grown}
use Rattle.network.proofs.Onward.{judged, blank_line_of, bad_line, refused-line, moved-line, goes_on, at-end, within, next-within, next-less, no_more, place-fits, last_fits, line-fits, few_bytes, few-rows, one-more-row}
use Rattle.network.proofs.walk_part.Goals as goal
use Rattle.network.proofs.walk_part.Goals.{in-Blank, in-Filled-Ok+in_default}

-- what is not refused is taken
taken : (v : Result ⊤ ℕ) → ((n : ℕ) → v ≡ Err n → ⊥) → v ≡ Ok tt
taken (Ok _) h = refl
taken (Err n) h = absurd (h n refl)

pub returns-then-text-gt-LONGEST_TEXT : goal.returns-then-text-gt-LONGEST_TEXT
returns-then-text-gt-LONGEST_TEXT c = λ right size few small. absurd (omega (arith, c.if-text-gt-LONGEST_TEXT.true, size))

pub returns-then-first-gt-LAST_LINE : goal.returns-then-first-gt-LAST_LINE
returns-then-first-gt-LAST_LINE c = λ right size few small. absurd (omega (arith, c.if-first-gt-LAST_LINE.true, small))

pub loop-from-init : goal.loop-from-init
loop-from-init c = (omega arith, omega arith, (λ few. omega arith), refl, (λ right few. refl), omega arith)

pub overflow_add-from : goal.overflow_add-from
overflow_add-from c =
    let A = c.args in
    let s = A.text.now in
    let l = c.loop-from in
    let t = A.table.now in
    let h = c.loop-from-test.true in
    let few = few_bytes (length s) l.invariant.5 in
    let e = c.in-Blank.e in
    let says : (e ≡ reach (stops_by (Byte 10)) s l.from) × (judged t (stretch s l.from e) l.from l.place ≡ blank) = rw c.in-Blank.is at (c.line_said.ensures h few) in
    place-fits (length s) l.from e l.invariant.5 (within s l.from e h says.0)

pub shape_of-segments-in-Filled-Err : goal.shape_of-segments-in-Filled-Err
shape_of-segments-in-Filled-Err c = ap (λ (x : Lengths). x.segments) c.loop-from.invariant.3

pub shape_of-lanes-in-Filled-Err : goal.shape_of-lanes-in-Filled-Err
shape_of-lanes-in-Filled-Err c = ap (λ (x : Lengths). x.lanes) c.loop-from.invariant.3

pub shape_of-zones-in-Filled-Err : goal.shape_of-zones-in-Filled-Err
shape_of-zones-in-Filled-Err c = ap (λ (x : Lengths). x.zones) c.loop-from.invariant.3

pub shape_of-spots-in-Filled-Err : goal.shape_of-spots-in-Filled-Err
shape_of-spots-in-Filled-Err c = ap (λ (x : Lengths). x.spots) c.loop-from.invariant.3

pub shape_of-points-in-Filled-Err : goal.shape_of-points-in-Filled-Err
shape_of-points-in-Filled-Err c = ap (λ (x : Lengths). x.points) c.loop-from.invariant.3

pub shape_of-checkpoints-in-Filled-Err : goal.shape_of-checkpoints-in-Filled-Err
shape_of-checkpoints-in-Filled-Err c = ap (λ (x : Lengths). x.checkpoints) c.loop-from.invariant.3

pub shape_of-stops-in-Filled-Err : goal.shape_of-stops-in-Filled-Err
shape_of-stops-in-Filled-Err c = ap (λ (x : Lengths). x.stops) c.loop-from.invariant.3

pub shape_of-exits-in-Filled-Err : goal.shape_of-exits-in-Filled-Err
shape_of-exits-in-Filled-Err c = ap (λ (x : Lengths). x.exits) c.loop-from.invariant.3

pub returns-in-Filled-Err : goal.returns-in-Filled-Err
returns-in-Filled-Err c =
    let A = c.args in
    let s = A.text.now in
    let l = c.loop-from in
    let t = A.table.now in
    let h = c.loop-from-test.true in
    let few = few_bytes (length s) l.invariant.5 in
    let says : judged t (stretch s l.from (reach (stops_by (Byte 10)) s l.from)) l.from l.place ≡ bad c.in-Filled-Err.number = rw c.in-Filled-Err.field-0-is at (rw c.in-Filled-Err.is at (c.line_said.ensures h few)) in
    λ right size few small. sym (bad_line (inner A.edition) t right s l.from (reach (stops_by (Byte 10)) s l.from) h refl l.place (memory l.gained l.segments l.lanes l.zones l.spots l.points l.checkpoints l.stops l.exits) l.line c.in-Filled-Err.number says) ∙ l.invariant.4 right few

pub shape_of-segments-in-Err : goal.shape_of-segments-in-Err
shape_of-segments-in-Err c = ap (λ (x : Lengths). x.segments) c.loop-from.invariant.3

pub shape_of-lanes-in-Err : goal.shape_of-lanes-in-Err
shape_of-lanes-in-Err c = ap (λ (x : Lengths). x.lanes) c.loop-from.invariant.3

pub shape_of-zones-in-Err : goal.shape_of-zones-in-Err
shape_of-zones-in-Err c = ap (λ (x : Lengths). x.zones) c.loop-from.invariant.3

pub shape_of-spots-in-Err : goal.shape_of-spots-in-Err
shape_of-spots-in-Err c = ap (λ (x : Lengths). x.spots) c.loop-from.invariant.3

pub shape_of-points-in-Err : goal.shape_of-points-in-Err
shape_of-points-in-Err c = ap (λ (x : Lengths). x.points) c.loop-from.invariant.3

pub shape_of-checkpoints-in-Err : goal.shape_of-checkpoints-in-Err
shape_of-checkpoints-in-Err c = ap (λ (x : Lengths). x.checkpoints) c.loop-from.invariant.3

pub shape_of-stops-in-Err : goal.shape_of-stops-in-Err
shape_of-stops-in-Err c = ap (λ (x : Lengths). x.stops) c.loop-from.invariant.3

pub shape_of-exits-in-Err : goal.shape_of-exits-in-Err
shape_of-exits-in-Err c = ap (λ (x : Lengths). x.exits) c.loop-from.invariant.3

pub returns-in-Err : goal.returns-in-Err
returns-in-Err c =
    let A = c.args in
    let s = A.text.now in
    let l = c.loop-from in
    let t = A.table.now in
    let h = c.loop-from-test.true in
    let few = few_bytes (length s) l.invariant.5 in
    let says : Says t s l.from l.place (Ok (c.in-Filled-Ok.kind, c.in-Filled-Ok.s, c.in-Filled-Ok.e, c.in-Filled-Ok.last)) = rw c.in-Filled-Ok.field-0-is at (rw c.in-Filled-Ok.is at (c.line_said.ensures h few)) in
    λ right size few small. sym (refused-line (inner A.edition) t right s l.from c.in-Filled-Ok.e h says.0 l.place (memory l.gained l.segments l.lanes l.zones l.spots l.points l.checkpoints l.stops l.exits) l.line c.in-Filled-Ok.kind c.cell-cell.result c.verdict.result c.in-Filled-Ok.s says.1 c.cell-cell.ensures c.verdict.ensures c.in-Err.n c.in-Err.is) ∙ l.invariant.4 right few

pub overflow_cast-last : goal.overflow_cast-last
overflow_cast-last c =
    let A = c.args in
    let s = A.text.now in
    let l = c.loop-from in
    let t = A.table.now in
    let h = c.loop-from-test.true in
    let few = few_bytes (length s) l.invariant.5 in
    let says : Says t s l.from l.place (Ok (c.in-Filled-Ok.kind, c.in-Filled-Ok.s, c.in-Filled-Ok.e, c.in-Filled-Ok.last)) = rw c.in-Filled-Ok.field-0-is at (rw c.in-Filled-Ok.is at (c.line_said.ensures h few)) in
    last_fits s l.from c.in-Filled-Ok.e c.in-Filled-Ok.last l.invariant.5 h says.0 says.2

pub overflow_add-from-in-Filled-Ok : goal.overflow_add-from-in-Filled-Ok
overflow_add-from-in-Filled-Ok c =
    let A = c.args in
    let s = A.text.now in
    let l = c.loop-from in
    let t = A.table.now in
    let h = c.loop-from-test.true in
    let few = few_bytes (length s) l.invariant.5 in
    let says : Says t s l.from l.place (Ok (c.in-Filled-Ok.kind, c.in-Filled-Ok.s, c.in-Filled-Ok.e, c.in-Filled-Ok.last)) = rw c.in-Filled-Ok.field-0-is at (rw c.in-Filled-Ok.is at (c.line_said.ensures h few)) in
    place-fits (length s) l.from c.in-Filled-Ok.e l.invariant.5 (within s l.from c.in-Filled-Ok.e h says.0)

pub overflow_add-line : goal.overflow_add-line
overflow_add-line c =
    let A = c.args in
    let l = c.loop-from in
    let h = c.loop-from-test.true in
    line-fits (length A.text.now) l.from l.line A.first l.invariant.5 h l.invariant.0 l.invariant.1

pub loop-from-smaller : goal.loop-from-smaller
loop-from-smaller c =
    let A = c.args in
    let s = A.text.now in
    let l = c.loop-from in
    let t = A.table.now in
    let h = c.loop-from-test.true in
    let few = few_bytes (length s) l.invariant.5 in
    elim c.match-line_said.branch [
      | in-Blank w ↦
          let e = w.in-Blank.e in
          let says : (e ≡ reach (stops_by (Byte 10)) s l.from) × (judged t (stretch s l.from e) l.from l.place ≡ blank) = rw w.in-Blank.is at (c.line_said.ensures h few) in
          next-less (length s) l.from e c.match-line_said.from w.from-is (within s l.from e h says.0)
      | in-Filled-Ok+in_default w ↦
          let k = w.in-Filled-Ok in
          let says : Says t s l.from l.place (Ok (k.kind, k.s, k.e, k.last)) = rw k.field-0-is at (rw k.is at (c.line_said.ensures h few)) in
          next-less (length s) l.from k.e c.match-line_said.from w.from-is (within s l.from k.e h says.0)
    ]

pub loop-from-preserved : goal.loop-from-preserved
loop-from-preserved c =
    let A = c.args in
    let s = A.text.now in
    let l = c.loop-from in
    let t = A.table.now in
    let h = c.loop-from-test.true in
    let few = few_bytes (length s) l.invariant.5 in
    elim c.match-line_said.branch [
      | in-Blank w ↦
          let e = w.in-Blank.e in
          let says : (e ≡ reach (stops_by (Byte 10)) s l.from) × (judged t (stretch s l.from e) l.from l.place ≡ blank) = rw w.in-Blank.is at (c.line_said.ensures h few) in
          let inside = within s l.from e h says.0 in
          let same : (memory c.match-line_said.gained c.match-line_said.segments c.match-line_said.lanes c.match-line_said.zones c.match-line_said.spots c.match-line_said.points c.match-line_said.checkpoints c.match-line_said.stops c.match-line_said.exits) ≡ (memory l.gained l.segments l.lanes l.zones l.spots l.points l.checkpoints l.stops l.exits) = λ i. memory (w.gained-is i) (w.segments-is i) (w.lanes-is i) (w.zones-is i) (w.spots-is i) (w.points-is i) (w.checkpoints-is i) (w.stops-is i) (w.exits-is i) in (
            l.invariant.0,
            next-within (length s) l.from e l.line c.match-line_said.from A.first w.from-is inside l.invariant.1,
            (λ few. rw w.gained-is (no_more (total l.gained) (total A.had) l.from e c.match-line_said.from w.from-is inside.0 (l.invariant.2 few))),
            ap lengths same ∙ l.invariant.3,
            λ right few. goes_on (inner A.edition) s c.match-line_said.place l.place (memory c.match-line_said.gained c.match-line_said.segments c.match-line_said.lanes c.match-line_said.zones c.match-line_said.spots c.match-line_said.points c.match-line_said.checkpoints c.match-line_said.stops c.match-line_said.exits) (memory l.gained l.segments l.lanes l.zones l.spots l.points l.checkpoints l.stops l.exits) c.match-line_said.from e l.line w.place-is same w.from-is ∙ sym (blank_line_of (inner A.edition) t right s l.from e h says.0 l.place (memory l.gained l.segments l.lanes l.zones l.spots l.points l.checkpoints l.stops l.exits) l.line says.1) ∙ l.invariant.4 right few,
            l.invariant.5,
          )
      | in-Filled-Ok+in_default w ↦
          let k = w.in-Filled-Ok in
          let says : Says t s l.from l.place (Ok (k.kind, k.s, k.e, k.last)) = rw k.field-0-is at (rw k.is at (c.line_said.ensures h few)) in
          let e = k.e in
          let st = k.s in
          let inside = within s l.from e h says.0 in
          let had = total A.had in
          let counted : had ≤ 16777216 → w.after-gained.result ≡ after_of st l.gained = λ few. w.after-gained.ensures ∙ counts st l.gained (few-rows (length s) l.from had (total l.gained) l.invariant.5 h few (l.invariant.2 few)) in
          let same : had ≤ 16777216 → (memory c.match-line_said.gained c.match-line_said.segments c.match-line_said.lanes c.match-line_said.zones c.match-line_said.spots c.match-line_said.points c.match-line_said.checkpoints c.match-line_said.stops c.match-line_said.exits) ≡ put (place l.from l.line (stretch s l.from e)) st (memory l.gained l.segments l.lanes l.zones l.spots l.points l.checkpoints l.stops l.exits) = λ few. (λ i. memory (w.gained-is i) (w.segments-is i) (w.lanes-is i) (w.zones-is i) (w.spots-is i) (w.points-is i) (w.checkpoints-is i) (w.stops-is i) (w.exits-is i)) ∙ stepped st w.row.result (place l.from l.line (stretch s l.from e)) w.after-gained.result (memory l.gained l.segments l.lanes l.zones l.spots l.points l.checkpoints l.stops l.exits) _ w.store.ensures (w.row.ensures ∙ ap (λ (n : ℕ). row_of st n l.gained) says.2) (counted few) in (
            l.invariant.0,
            next-within (length s) l.from e l.line c.match-line_said.from A.first w.from-is inside l.invariant.1,
            (λ few. one-more-row (total l.gained) had l.from e c.match-line_said.from (total c.match-line_said.gained) w.from-is inside.0 (l.invariant.2 few) (grown st l.gained c.match-line_said.gained (total l.gained) (w.gained-is ∙ counted few) (omega arith))),
            ap lengths (λ i. memory l.gained (w.segments-is i) (w.lanes-is i) (w.zones-is i) (w.spots-is i) (w.points-is i) (w.checkpoints-is i) (w.stops-is i) (w.exits-is i)) ∙ ap lengths w.store.ensures ∙ stored-long w.row.result (memory l.gained l.segments l.lanes l.zones l.spots l.points l.checkpoints l.stops l.exits) ∙ l.invariant.3,
            λ right few. goes_on (inner A.edition) s c.match-line_said.place w.moved-place.result (memory c.match-line_said.gained c.match-line_said.segments c.match-line_said.lanes c.match-line_said.zones c.match-line_said.spots c.match-line_said.points c.match-line_said.checkpoints c.match-line_said.stops c.match-line_said.exits) (put (place l.from l.line (stretch s l.from e)) st (memory l.gained l.segments l.lanes l.zones l.spots l.points l.checkpoints l.stops l.exits)) c.match-line_said.from e l.line w.place-is (same few) w.from-is ∙ sym (moved-line (inner A.edition) t right s l.from e h says.0 l.place (memory l.gained l.segments l.lanes l.zones l.spots l.points l.checkpoints l.stops l.exits) l.line k.kind w.cell-cell.result w.verdict.result st says.1 w.cell-cell.ensures w.verdict.ensures (taken _ w.in_default.not-Err) w.moved-place.result w.moved-place.ensures) ∙ l.invariant.4 right few,
            l.invariant.5,
          )
    ]

pub shape_of-segments : goal.shape_of-segments
shape_of-segments c = ap (λ (x : Lengths). x.segments) c.loop-from.invariant.3

pub shape_of-lanes : goal.shape_of-lanes
shape_of-lanes c = ap (λ (x : Lengths). x.lanes) c.loop-from.invariant.3

pub shape_of-zones : goal.shape_of-zones
shape_of-zones c = ap (λ (x : Lengths). x.zones) c.loop-from.invariant.3

pub shape_of-spots : goal.shape_of-spots
shape_of-spots c = ap (λ (x : Lengths). x.spots) c.loop-from.invariant.3

pub shape_of-points : goal.shape_of-points
shape_of-points c = ap (λ (x : Lengths). x.points) c.loop-from.invariant.3

pub shape_of-checkpoints : goal.shape_of-checkpoints
shape_of-checkpoints c = ap (λ (x : Lengths). x.checkpoints) c.loop-from.invariant.3

pub shape_of-stops : goal.shape_of-stops
shape_of-stops c = ap (λ (x : Lengths). x.stops) c.loop-from.invariant.3

pub shape_of-exits : goal.shape_of-exits
shape_of-exits c = ap (λ (x : Lengths). x.exits) c.loop-from.invariant.3

pub returns : goal.returns
returns c =
    let A = c.args in
    let l = c.loop-from in
    λ right size few small. sym (at-end (inner A.edition) A.text.now l.place (memory l.gained l.segments l.lanes l.zones l.spots l.points l.checkpoints l.stops l.exits) l.from l.line (omega arith)) ∙ l.invariant.4 right few
