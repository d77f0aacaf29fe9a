-- One line of the walk to the line that is wanted, as the program tells it, and the column of the line where the walk ends. Assumes nothing.
use Rattle.std.specs.Prelude.{Some, None, Option}
use mathlib.Core.Path.{◌≡◌, refl, sym, ap, ◌∙◌}
use mathlib.Core.List.{List, [], ◌∷◌, head-eq_of_cons-eq, tail-eq_of_cons-eq}
use mathlib.Core.Bool.{Bool, true, false}
use Prim.Native.Nat.{ℕ, suc, ◌+◌, ◌-◌, ◌≤◌, ◌<◌}
use native.Mathlib.Omega.{arith}
use borrow.Author.Tests.{lt-ltb, eq-eqb, ne_eqb, ltb-true, ltb-false}
use lib.Seq.{length-take-le}
use lib.ListN.{length, take, drop, length-drop}
use lib.Dec.{eqb, ltb}
use Rattle.terms.specs.Ascii.{Bytes}
use Rattle.terms.specs.Words.{pick}
use Rattle.scan.specs.Reach.{reach, stops_by}
use Rattle.scan.specs.declared.Until.TheVariants.{Byte}
use Rattle.scan.proofs.Reach.{reach_le}
use Rattle.line.specs.Lines.{lines_of}
use Rattle.line.proofs.Cuts.{lines_at, next_start, lines_end}
use Rattle.grammar.specs.PlaceTable.{mdf_table_of}
use Rattle.statement.specs.declared.Order.{Order}
use Rattle.mission_place.specs.declared.MissionPlace.{MissionPlace}
use Rattle.mission_place.specs.Step.{first_place}
use Rattle.judge.specs.Judging.{Got, bad, blank, said, line}
use Rattle.mission_judge.specs.declared.MissionVerdict as DV
use Rattle.mission_judge.specs.declared.MissionVerdict.TheVariants as Verdict
use Rattle.mission_judge.specs.MdfLine.{judging, mdf_judging, verdict, line_by}
use Rattle.walk.proofs.Cutting.{line-ends}
use Rattle.columns.specs.Locating.{onward, line_columns}
use Rattle.columns.specs.MdfColumns.{mdf_wrong, mdf_line_column, mdf_column_in}
use Rattle.columns.proofs.Bounds.{column-small}
use Rattle.refusal.specs.Size.{most}
use Rattle.refusal.proofs.Sized.{not_too-long}
use Rattle.mission_column.specs.Before.{goes_on, arrive_from, arrived, standing, mission_place_before_of}

-- ## The loop
-- line w, from a place of the text on, where line i starts
abbrev pub rest : Bytes → MissionPlace → (from i w : ℕ) → Option (MissionPlace × ℕ)
rest s p from i w = arrive_from p from i w (lines_of (drop from s))

abbrev pub after : (MissionPlace → Option (MissionPlace × ℕ)) → MissionPlace → DV.MissionVerdict → Option (MissionPlace × ℕ)
after k p (Verdict.Bad n) = None
after k p Verdict.Blank = k p
after k p (Verdict.Said s q) = k q

goes-on-is : (p : MissionPlace) (k : MissionPlace → Option (MissionPlace × ℕ)) (g : Got Order MissionPlace) → goes_on p g k ≡ after k p (verdict g)
goes-on-is p k (bad n) = refl
goes-on-is p k blank = refl
goes-on-is p k (said s q) = refl

pub at-end : (s : Bytes) (from : ℕ) → length s ≤ from → (p : MissionPlace) (i w : ℕ) → rest s p from i w ≡ Some (p, from)
unfolding arrive_from
at-end s from h p i w = rw (lines_end s from h) refl

module _ (s : Bytes) (from e : ℕ) (h : from < length s) (q : e ≡ reach (stops_by (Byte 10)) s from) (p : MissionPlace) (i w : ℕ) where
  -- this is the line
  pub this-line : i ≡ w → rest s p from i w ≡ Some (p, from)
  unfolding arrive_from
  this-line z = rw (lines_at s from e h q, eq-eqb i w z) refl

  -- it is another
  pub other-line : (table : List (List ℕ)) → table ≡ mdf_table_of → length s < 4294967296 → (i ≡ w → ⊥) → (v : DV.MissionVerdict) → v ≡ line_by table (take (e - from) (drop from s)) from p → rest s p from i w ≡ after (λ q. rest s q (e + 1) (i + 1) w) p v
  unfolding arrive_from line_by
  other-line table right z m v x =
      let l = take (e - from) (drop from s) in
      let k : suc i ≡ i + 1 = omega arith in
      let judged : line_by mdf_table_of l from p ≡ verdict (line mdf_judging l from p) = rw (lt-ltb (from + length l) 4294967296 (line-ends s from e z h q)) refl in
      let step : rest s p from i w ≡ goes_on p (line mdf_judging l from p) (λ q. rest s q (e + 1) (i + 1) w) = rw (lines_at s from e h q, next_start s from e h q, k, ne_eqb i w m) refl in
      step ∙ goes-on-is p (λ q. rest s q (e + 1) (i + 1) w) (line mdf_judging l from p) ∙ ap (after (λ q. rest s q (e + 1) (i + 1) w) p) (sym (x ∙ ap (λ (t : List (List ℕ)). line_by t l from p) right ∙ judged))

-- THE PLACE: behind the lines before line w, as they stand in the text
pub place-before : (s : Bytes) (w : ℕ) → length s ≤ most → mission_place_before_of s w ≡ standing (arrive_from first_place 0 1 w (lines_of s))
unfolding mission_place_before_of arrived
place-before s w size = not_too-long s None (standing (arrived s w)) size

-- ## The column
abbrev columns : MissionPlace → (start j i n : ℕ) → List Bytes → ℕ
columns = line_columns mdf_judging (λ p. mdf_wrong)

-- of the line where the walk ends, with the number i
abbrev column_there : Bytes → (i n : ℕ) → Option (MissionPlace × ℕ) → ℕ
column_there s i n None = 0
column_there s i n (Some (p, from)) = columns p from i i n (lines_of (drop from s))

cons-nil : {A X : Type 0} {a : A} {l : List A} → [] ≡ a ∷ l → X
cons-nil e = absurd (let z : ◌≡◌ {A = ℕ} 0 1 = cc in omega arith)

behind-line : (s : Bytes) (from : ℕ) (l : Bytes) (ls : List Bytes) → lines_of (drop from s) ≡ l ∷ ls → lines_of (drop (from + suc (length l)) s) ≡ ls
behind-line s from l ls e = go (ltb from (length s)) refl
  where
    go : (x : Bool) → ltb from (length s) ≡ x → lines_of (drop (from + suc (length l)) s) ≡ ls
    go true t =
        let h : from < length s = ltb-true from (length s) t in
        let k = reach (stops_by (Byte 10)) s from in
        let q = sym (lines_at s from k h refl) ∙ e in
        let n : from + suc (length l) ≡ k + 1 = ap (λ (x : Bytes). from + suc (length x)) (sym (head-eq_of_cons-eq q)) ∙ next_start s from k h refl in
        ap (λ (x : ℕ). lines_of (drop x s)) n ∙ tail-eq_of_cons-eq q
    go false t = cons-nil (sym (lines_end s from (ltb-false from (length s) t)) ∙ e)

column-so : (s : Bytes) (ls : List Bytes) (p : MissionPlace) (start j i n : ℕ) → lines_of (drop start s) ≡ ls → columns p start j i n ls ≡ column_there s i n (arrive_from p start j i ls)
unfolding line_columns arrive_from
column-so s [] p start j i n e = rw e refl
column-so s (l ∷ ls) p start j i n e = go (eqb j i) (λ q. column-so s ls q (start + suc (length l)) (suc j) i n (behind-line s start l ls e))
  where
    Later : Type 0
    Later = (q : MissionPlace) → columns q (start + suc (length l)) (suc j) i n ls ≡ column_there s i n (arrive_from q (start + suc (length l)) (suc j) i ls)

    by : (g : Got Order MissionPlace) → Later → onward mdf_judging (λ p. mdf_wrong) p g (λ q. columns q (start + suc (length l)) (suc j) i n ls) ≡ column_there s i n (goes_on p g (λ q. arrive_from q (start + suc (length l)) (suc j) i ls))
    by (bad k) f = refl
    by blank f = f p
    by (said t q) f = f q

    go : (x : Bool) → Later → pick x (mdf_line_column mdf_table_of l p n) (onward mdf_judging (λ p. mdf_wrong) p (line mdf_judging l start p) (λ q. columns q (start + suc (length l)) (suc j) i n ls))
        ≡ column_there s i n (pick x (Some (p, start)) (goes_on p (line mdf_judging l start p) (λ q. arrive_from q (start + suc (length l)) (suc j) i ls)))
    go true f = rw (e, eq-eqb i i refl) refl
    go false f = by (line mdf_judging l start p) f

-- THE COLUMN: by where the walk ends
module _ (s : Bytes) (w n : ℕ) (size : length s ≤ most) where
  column-there : (a : Option (MissionPlace × ℕ)) → a ≡ arrived s w → column_there s w n a ≡ mdf_column_in s w n
  unfolding mdf_column_in arrived
  column-there a e = ap (column_there s w n) e ∙ sym (not_too-long s 0 (columns first_place 0 1 w n (lines_of s)) size ∙ column-so s (lines_of s) first_place 0 1 w n refl)

  pub not_there : None ≡ arrived s w → 0 ≡ mdf_column_in s w n
  not_there e = column-there None e

  module _ (p : MissionPlace) (from : ℕ) (there : Some (p, from) ≡ arrived s w) where
    pub no_line : length s ≤ from → 0 ≡ mdf_column_in s w n
    unfolding line_columns
    no_line h = rw (lines_end s from h) at (column-there (Some (p, from)) there)

    pub line_there : (e : ℕ) → from < length s → e ≡ reach (stops_by (Byte 10)) s from → (table : List (List ℕ)) → table ≡ mdf_table_of → mdf_line_column table (take (e - from) (drop from s)) p n ≡ mdf_column_in s w n
    unfolding line_columns
    line_there e h q table right = rw right (rw (lines_at s from e h q, eq-eqb w w refl) at (column-there (Some (p, from)) there))

-- a column fits in 32 bits
pub small : (table : List (List ℕ)) (s : Bytes) (from e : ℕ) → from < length s → e ≡ reach (stops_by (Byte 10)) s from → (p : MissionPlace) (n : ℕ) → length s ≤ most → mdf_line_column table (take (e - from) (drop from s)) p n < 4294967296
small table s from e h q p n z =
    let k : e ≤ length s = omega (arith, q, reach_le (stops_by (Byte 10)) s from (omega arith)) in
    omega (arith, column-small (judging table) (λ p. mdf_wrong) p n (take (e - from) (drop from s)), length-take-le (e - from) (drop from s) (omega (arith, length-drop from s)), length-drop from s, z)
