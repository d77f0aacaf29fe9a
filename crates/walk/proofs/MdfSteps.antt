-- One line of an MDF in a walk, as the program tells it. Assumes nothing.
use mathlib.Core.Path.{◌≡◌, refl, sym, ap, ◌∙◌}
use mathlib.Core.List.{List}
use Prim.Native.Nat.{ℕ, ◌+◌, ◌-◌, ◌<◌}
use lib.ListN.{length, take, drop}
use borrow.Author.Tests.{lt-ltb}
use Rattle.terms.specs.Ascii.{Bytes}
use Rattle.scan.specs.Reach.{reach, stops_by}
use Rattle.scan.specs.declared.Until.TheVariants.{Byte}
use Rattle.grammar.specs.PlaceTable.{mdf_table_of}
use Rattle.statement.specs.declared.Order.{Order}
use Rattle.mission_place.specs.declared.MissionPlace.{MissionPlace}
use Rattle.mission_place.specs.Step.{over_of}
use Rattle.mission_judge.specs.declared.MissionVerdict as DV
use Rattle.mission_judge.specs.declared.MissionVerdict.TheVariants as Verdict
use Rattle.judge.specs.Judging.{Got, bad, blank, said, line}
use Rattle.mission_judge.specs.MdfLine.{mdf_judging, verdict, line_by}
use Rattle.walk.specs.Standing.{Where, place}
use Rattle.walk.specs.Walking.{Found, fault, onward}
use Rattle.walk.proofs.Cutting.{from_on, one_line, line-ends}

module _ {G : Type 0} (put : Where → Order → G → G) where
  abbrev pub after : Where → MissionPlace → G → (MissionPlace → G → Found G) → DV.MissionVerdict → Found G
  after w p c k (Verdict.Bad n) = fault w.line n
  after w p c k Verdict.Blank = k p c
  after w p c k (Verdict.Said s q) = k q (put w s c)

  onward-is : (w : Where) (p : MissionPlace) (c : G) (k : MissionPlace → G → Found G) (g : Got Order MissionPlace) → onward mdf_judging put over_of w p c g k ≡ after w p c k (verdict g)
  onward-is w p c k (bad n) = refl
  onward-is w p c k blank = refl
  onward-is w p c k (said s q) = refl

  -- the lines from a place of the text on
  abbrev pub rest : Bytes → MissionPlace → G → ℕ → ℕ → Found G
  rest = from_on mdf_judging put over_of

  -- judged with the right table, in a text that 32 bits count
  pub a-line : (table : List (List ℕ)) → table ≡ mdf_table_of → (s : Bytes) → length s < 4294967296 → (from e : ℕ) → from < length s → e ≡ reach (stops_by (Byte 10)) s from
      → (p : MissionPlace) (c : G) (i : ℕ) (v : DV.MissionVerdict) → v ≡ line_by table (take (e - from) (drop from s)) from p
      → rest s p c from i ≡ after (place from i (take (e - from) (drop from s))) p c (λ q d. rest s q d (e + 1) (i + 1)) v
  unfolding line_by
  a-line table t s z from e h q p c i v w =
      let l = take (e - from) (drop from s) in
      let right : line_by mdf_table_of l from p ≡ verdict (line mdf_judging l from p) = rw (lt-ltb (from + length l) 4294967296 (line-ends s from e z h q)) refl in
      one_line mdf_judging put over_of s from e h q p c i
      ∙ onward-is (place from i l) p c (λ q d. rest s q d (e + 1) (i + 1)) (line mdf_judging l from p)
      ∙ ap (after (place from i l) p c (λ q d. rest s q d (e + 1) (i + 1))) (sym (w ∙ ap (λ (t : List (List ℕ)). line_by t l from p) t ∙ right))
