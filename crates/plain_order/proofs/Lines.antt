-- What a line of an MDF gets at a place, told as the program tells it. Assumes nothing.
use Rattle.std.specs.Prelude.{Some, Ok, Err, Result}
use mathlib.Core.Path.{◌≡◌, refl, sym, ap, ◌∙◌}
use mathlib.Core.List.{List}
use Prim.Native.Nat.{ℕ, ◌+◌, ◌≤◌, ◌<◌}
use native.Mathlib.Omega.{arith}
use lib.ListN.{length}
use borrow.Author.Tests.{lt-ltb}
use Rattle.terms.specs.Ascii.{Bytes}
use Rattle.scan.specs.Reach.{reach, stops_by}
use Rattle.scan.specs.declared.Until.TheVariants.{Byte}
use Rattle.scan.proofs.Reach.{reach_le, reach-from}
use Rattle.statement.specs.declared.Order.{Order}
use Rattle.mission_place.specs.declared.MissionPlace.{MissionPlace}
use Rattle.mission_place.specs.Step.{number_kind_of}
use Rattle.mission_place.specs.Abstract.{seen}
use Rattle.judge.specs.Judging.{Got, bad, blank, said, taken, line}
use Rattle.mission_judge.specs.declared.MissionVerdict.{MissionVerdict}
use Rattle.mission_judge.specs.declared.MissionVerdict.TheVariants as Verdict
use Rattle.mission_judge.specs.MdfLine.{judging, verdict, line_by}
use Rattle.plain_parts.specs.Stands.{stretch}
use Rattle.plain_parts.proofs.Stretches.{stretch-long}
use Rattle.plain_fields.specs.LineStands.{stated}
use Rattle.plain_order.specs.Orders.{OrderLine, stood_as, LineSays}

-- ## A plain line
pub stood-says : (table : List (List ℕ)) (s : Bytes) (from k : ℕ) (p : MissionPlace) (o : Order) (e : ℕ) → OrderLine s from k (Some (o, e)) → number_kind_of p ≡ k → (v : Result MissionPlace ℕ) → taken (judging table) o (seen v) ≡ stated (judging table) k o p
    → LineSays table s from p (stood_as o e (seen v))
stood-says table s from k p o e h due (Ok q) got = (h.ends, h.gets table p due ∙ sym got)
stood-says table s from k p o e h due (Err n) got = rw (← h.ends) (h.gets table p due ∙ sym got)

-- ## A line that is cut
got-blank : (g : Got Order MissionPlace) → verdict g ≡ Verdict.Blank → g ≡ blank
got-blank blank e = refl
got-blank (bad n) e = absurd (let z : ◌≡◌ {A = ℕ} 0 1 = cc in omega arith)
got-blank (said o q) e = absurd (let z : ◌≡◌ {A = ℕ} 0 1 = cc in omega arith)

got-said : (g : Got Order MissionPlace) (o : Order) (q : MissionPlace) → verdict g ≡ Verdict.Said o q → g ≡ said o q
got-said blank o q e = absurd (let z : ◌≡◌ {A = ℕ} 0 1 = cc in omega arith)
got-said (bad n) o q e = absurd (let z : ◌≡◌ {A = ℕ} 0 1 = cc in omega arith)
got-said (said x y) o q e = cc

got-bad : (g : Got Order MissionPlace) (n : ℕ) → verdict g ≡ Verdict.Bad n → g ≡ bad n
got-bad blank n e = absurd (let z : ◌≡◌ {A = ℕ} 0 1 = cc in omega arith)
got-bad (bad m) n e = cc
got-bad (said o q) n e = absurd (let z : ◌≡◌ {A = ℕ} 0 1 = cc in omega arith)

-- ends within the text
pub within : (s : Bytes) (from e : ℕ) → from < length s → e ≡ reach (stops_by (Byte 10)) s from → (from ≤ e) × (e ≤ length s)
within s from e h ends = (omega (arith, ends, reach-from (stops_by (Byte 10)) s from), omega (arith, ends, reach_le (stops_by (Byte 10)) s from (omega arith)))

module _ (table : List (List ℕ)) (s : Bytes) (few : length s < 4294967296) (from e : ℕ) (h : from < length s) (ends : e ≡ reach (stops_by (Byte 10)) s from) (p : MissionPlace) (v : MissionVerdict) (is : v ≡ line_by table (stretch s from e) from p) where
  judged : v ≡ verdict (line (judging table) (stretch s from e) from p)
  unfolding line_by
  judged =
      let i = within s from e h ends in
      let fits : from + length (stretch s from e) < 4294967296 = omega (arith, stretch-long s from e i.1, i.0, i.1, few) in
      is ∙ rw (lt-ltb (from + length (stretch s from e)) 4294967296 fits) refl

  pub cut-blank : v ≡ Verdict.Blank → line (judging table) (stretch s from e) from p ≡ blank
  cut-blank q = got-blank (line (judging table) (stretch s from e) from p) (sym judged ∙ q)

  pub cut-said : (o : Order) (q : MissionPlace) → v ≡ Verdict.Said o q → line (judging table) (stretch s from e) from p ≡ said o q
  cut-said o q r = got-said (line (judging table) (stretch s from e) from p) o q (sym judged ∙ r)

  pub cut-bad : (n : ℕ) → v ≡ Verdict.Bad n → line (judging table) (stretch s from e) from p ≡ bad n
  cut-bad n r = got-bad (line (judging table) (stretch s from e) from p) n (sym judged ∙ r)
