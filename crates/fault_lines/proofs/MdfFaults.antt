-- THE LAWS of 14 to 18 for a network: the first line at fault of an MDF for it; and no line is at fault exactly if the mission fits. Assumes nothing.
use mathlib.Core.Path.{◌≡◌, sym, ap, subst, ◌∙◌}
use mathlib.Core.List.{List, map}
use mathlib.Core.Option.{none, some}
use mathlib.Core.Bool.{Bool, true, false}
use Prim.Native.Nat.{ℕ}
use Rattle.terms.specs.Ascii.{Bytes}
use Rattle.scan.specs.Reach.{same_bytes_of}
use Rattle.scan.proofs.Equal.{same-equal, equal-same, same_false}
use Rattle.line.specs.Content.{Field}
use Rattle.grammar.specs.Network.{Network}
use Rattle.grammar.specs.Mission.{Mission}
use Rattle.grammar.specs.Names.{network_named, mission_named}
use Rattle.grammar.specs.Tables.{point_row_of, tables}
use Rattle.grammar.specs.References.{all_numbers, parts, MissionFits}
use Rattle.text.specs.Spelling.{SpellsMdf, Name, bytes, bytes_of}
use Rattle.fill.specs.FirstFaults.{Fault, the_first_foreign_goal_of, the_first_bad_limit_of, some_missing, numbers_of, the_parts_of}
use Rattle.fill.proofs.NameLaws.{numbers-same, parts_same}
use Rattle.fill.proofs.ReferenceLaws.{numbers_in-order, parts_are}
use Rattle.fill.proofs.MissionLaws.{fits_by, fits-only}
use Rattle.find_line.specs.FoundLines.{mdf_line_of}
use Rattle.fault_lines.specs.FaultLines.{MdfFault, FirstMdfFault, NoMdfFault}
use Rattle.fault_lines.proofs.Ties as Ties
use Rattle.fault_lines.proofs.Files.{mdf-clear}
use Rattle.fault_lines.proofs.MissionFaults as Any

-- one line and one number, of any text
pub mission-line-one : (n : Network Field) (text : Bytes) (i j k m : ℕ) → FirstMdfFault n text i k → FirstMdfFault n text j m → (i ≡ j) × (k ≡ m)
mission-line-one n text = Any.mission-line-one (λ v. v.bytes ≡ n.name.bytes) (all_numbers n) (parts n) text

-- ## Names told in another way change neither numbers nor ids
module _ {N M : Type 0} (f : N → M) (n : Network N) where
  numbers-named : numbers_of (tables (network_named f n)) ≡ all_numbers n
  numbers-named = numbers_in-order (point_row_of (network_named f n)) (network_named f n) ∙ numbers-same f n

  parts-named : the_parts_of (tables (network_named f n)) ≡ parts n
  parts-named = parts_are (point_row_of (network_named f n)) (network_named f n) ∙ parts_same f n

-- ## The lines
module _ (n : Network Field) (m : Mission Field) (text : Bytes) (h : SpellsMdf m text) where
  abbrev Same : Field → Type 0
  Same v = v.bytes ≡ n.name.bytes

  abbrev same : Field → Bool
  same v = same_bytes_of v.bytes n.name.bytes

  by : (v : Field) → same v ≡ true → Same v
  by v = same-equal v.bytes n.name.bytes

  is : (v : Field) → Same v → same v ≡ true
  is v = equal-same v.bytes n.name.bytes

  -- the limits' ids
  abbrev ids : List ℕ
  ids = map (λ a. a.id) m.limits

  abbrev GoalsKnown : Type 0
  GoalsKnown = the_first_foreign_goal_of (all_numbers n) m.goals ≡ none

  abbrev LimitsGood : Type 0
  LimitsGood = the_first_bad_limit_of (parts n) ids ≡ none

  pub other-name-line : (m.rndf.bytes ≡ n.name.bytes → ⊥) → FirstMdfFault n text (mdf_line_of text 1 0) 14
  other-name-line e = Any.name_line same Same by is (all_numbers n) (parts n) m text h (same_false m.rndf.bytes n.name.bytes e)

  pub foreign-goal-line : m.rndf.bytes ≡ n.name.bytes → (f : Fault) → the_first_foreign_goal_of (all_numbers n) m.goals ≡ some f → FirstMdfFault n text (mdf_line_of text 11 f.row) 15
  foreign-goal-line e = Any.goal_line_of same Same by is (all_numbers n) (parts n) m text h (is m.rndf e)

  -- its number is 16 or 17
  pub bad-limit-line : m.rndf.bytes ≡ n.name.bytes → GoalsKnown → (f : Fault) → the_first_bad_limit_of (parts n) ids ≡ some f → FirstMdfFault n text (mdf_line_of text 12 f.row) f.number
  bad-limit-line e = Any.limit_line same Same by is (all_numbers n) (parts n) m text h (is m.rndf e)

  pub id-missing-line : m.rndf.bytes ≡ n.name.bytes → GoalsKnown → LimitsGood → some_missing (parts n) ids ≡ true → FirstMdfFault n text (mdf_line_of text 9 0) 18
  id-missing-line e = Any.missing-line same Same by is (all_numbers n) (parts n) m text h (is m.rndf e)

  pub no-mission-line : m.rndf.bytes ≡ n.name.bytes → GoalsKnown → LimitsGood → some_missing (parts n) ids ≡ false → NoMdfFault n text
  no-mission-line e = Any.no_line same Same by is (all_numbers n) (parts n) m text h (is m.rndf e)

  -- ## A mission that fits, by names that are bytes
  abbrev pub FitsByBytes : Type 0
  FitsByBytes = MissionFits (network_named bytes_of n) (mission_named bytes_of m)

  unnamed : Name → Bytes
  unnamed (bytes b) = b

  pub fits-no-line : FitsByBytes → NoMdfFault n text
  unfolding unnamed mission_named network_named
  fits-no-line f =
      let o = fits-only (network_named bytes_of n) (mission_named bytes_of m) f in
      no-mission-line (ap unnamed f.name)
      (subst (λ (l : List ℕ). the_first_foreign_goal_of l m.goals ≡ none) (numbers-named bytes_of n) o.goals)
      (subst (λ (p : ℕ). the_first_bad_limit_of p ids ≡ none) (parts-named bytes_of n) o.limits)
      (subst (λ (p : ℕ). some_missing p ids ≡ false) (parts-named bytes_of n) o.all)

  pub no-line-fits : NoMdfFault n text → FitsByBytes
  unfolding mission_named network_named
  no-line-fits z =
      let o = Any.no-line-only same Same by is (all_numbers n) (parts n) m text h z in
      fits_by (network_named bytes_of n) (mission_named bytes_of m) (ap bytes (by m.rndf o.0)) (record {
        goals = subst (λ (l : List ℕ). the_first_foreign_goal_of l m.goals ≡ none) (sym (numbers-named bytes_of n)) o.1;
        limits = subst (λ (p : ℕ). the_first_bad_limit_of p ids ≡ none) (sym (parts-named bytes_of n)) o.2;
        all = subst (λ (p : ℕ). some_missing p ids ≡ false) (sym (parts-named bytes_of n)) o.3;
      })

  pub line-not-fits : (i k : ℕ) → FirstMdfFault n text i k → FitsByBytes → ⊥
  line-not-fits i k f z = Ties.not-both mdf-clear (MdfFault n) text i k f (fits-no-line z)
