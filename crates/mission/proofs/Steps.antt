-- One line in the walk, as the program tells it; a statement's row stored, then the progress. Assumes nothing.
use mathlib.Core.Path.{◌≡◌, sym, ap, ap₂, ◌∙◌}
use mathlib.Core.List.{List}
use Prim.Native.Nat.{ℕ, ◌+◌, ◌≤◌, ◌<◌}
use lib.ListN.{length}
use Rattle.terms.specs.Ascii.{Bytes}
use Rattle.scan.specs.Reach.{reach, stops_by}
use Rattle.scan.specs.declared.Until.TheVariants.{Byte}
use Rattle.grammar.specs.PlaceTable.{mdf_table_of}
use Rattle.statement.specs.declared.Order.{Order}
use Rattle.mission_place.specs.declared.MissionPlace.{MissionPlace}
use Rattle.mission_place.specs.Step.{over_of}
use Rattle.judge.specs.Judging.{Got, bad, blank, said, line}
use Rattle.mission_judge.specs.MdfLine.{judging, mdf_judging}
use Rattle.mission_progress.specs.declared.MissionProgress.{MissionProgress}
use Rattle.mission_progress.specs.declared.MissionRow.{MissionRow}
use Rattle.mission_progress.specs.Progress.{total, mission_row_of, mission_after_of}
use Rattle.mission_progress.proofs.Shown.{grows}
use Rattle.walk.specs.Standing.{Where, place}
use Rattle.walk.specs.Walking.{fault, onward}
use Rattle.walk.proofs.Cutting.{one_line}
use Rattle.walk.proofs.MdfSteps.{rest}
use Rattle.plain_parts.specs.Stands.{stretch}
use Rattle.mission.specs.Storing.{MissionMemory, memory, stored}
use Rattle.mission.specs.Reading.{with_progress, put}

pub put-so : (w : Where) (s : Order) (p q : MissionProgress) (row : MissionRow) (g l g₁ l₁ : List ℕ) → row ≡ mission_row_of s → memory p g₁ l₁ ≡ stored row (memory p g l) → q ≡ mission_after_of s p → memory q g₁ l₁ ≡ put w s (memory p g l)
unfolding put
put-so w s p q row g l g₁ l₁ given kept after = ap₂ (λ (x : MissionProgress) (m : MissionMemory). with_progress x m) after (kept ∙ ap (λ (r : MissionRow). stored r (memory p g l)) given)

-- one more row at most
pub one_more : (w : Where) (s : Order) (p q : MissionProgress) (g l g₁ l₁ : List ℕ) → memory q g₁ l₁ ≡ put w s (memory p g l) → total q ≤ total p + 1
unfolding put
one_more w s p q g l g₁ l₁ e = rw (ap (λ (m : MissionMemory). m.so_far) e) (grows s p)

-- ## A line
module _ (table : List (List ℕ)) (right : table ≡ mdf_table_of) (s : Bytes) (from to : ℕ) (h : from < length s) (ends : to ≡ reach (stops_by (Byte 10)) s from) (p : MissionPlace) (c : MissionMemory) (i : ℕ) where
  gets : (g : Got Order MissionPlace) → line (judging table) (stretch s from to) from p ≡ g → rest put s p c from i ≡ onward mdf_judging put over_of (place from i (stretch s from to)) p c g (λ q d. rest put s q d (to + 1) (i + 1))
  gets g says =
      one_line mdf_judging put over_of s from to h ends p c i
      ∙ ap (λ (x : Got Order MissionPlace). onward mdf_judging put over_of (place from i (stretch s from to)) p c x (λ q d. rest put s q d (to + 1) (i + 1))) (ap (λ (t : List (List ℕ)). line (judging t) (stretch s from to) from p) (sym right) ∙ says)

  pub blank_line_of : line (judging table) (stretch s from to) from p ≡ blank → rest put s p c from i ≡ rest put s p c (to + 1) (i + 1)
  blank_line_of says = gets blank says

  pub bad_line : (n : ℕ) → line (judging table) (stretch s from to) from p ≡ bad n → rest put s p c from i ≡ fault i n
  bad_line n says = gets (bad n) says

  pub said-line : (o : Order) (q : MissionPlace) → line (judging table) (stretch s from to) from p ≡ said o q → rest put s p c from i ≡ rest put s q (put (place from i (stretch s from to)) o c) (to + 1) (i + 1)
  said-line o q says = gets (said o q) says
