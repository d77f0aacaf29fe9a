-- THE LAW of 14 to 18: the first line of an MDF at fault, for the law and by statements, is the same. Assumes nothing.
use mathlib.Core.Path.{◌≡◌, refl, sym, ap, subst}
use mathlib.Core.List.{List, map}
use Prim.Native.Nat.{ℕ}
use Rattle.terms.specs.Ascii.{Bytes}
use Rattle.terms.specs.Words.{Among}
use Rattle.line.specs.Content.{Field}
use Rattle.law.specs.Network.{reading, present}
use Rattle.law.specs.Network as LawNetwork
use Rattle.law.specs.Faults as Law
use Rattle.grammar.specs.Editions.{Edition, march, law_of}
use Rattle.grammar.specs.MissionStatements.{Statement, Limit, orders, say, of_kind, RNDF, goal, limit, end_speed_limits}
use Rattle.grammar.specs.Network.{Network}
use Rattle.grammar.specs.Mission.{Mission, SpellsMission}
use Rattle.text.specs.MdfLines.{the_mdf_line_of}
use Rattle.text.specs.Spelling.{SpellsMdf}
use Rattle.fill.specs.Faults.{not_there, given_again, other_name, foreign_goal, bad_limit_of, id_missing}
use Rattle.fault_lines.specs.FaultLines.{MdfFault, FirstMdfFault}
use Rattle.fault_lines.proofs.Files.{mdf-clear, mdf-said}
use Rattle.law_spelling.specs.LineOf.{mdf_law_line}
use Rattle.law_spelling.proofs.OneLine.{mdf-line-one, mdf-begins, mdf-all}
use Rattle.law_spelling.proofs.MdfParts.{mission-to_in, mission-back_in}
use Rattle.law_tables.proofs.Among.{among_map, among-told, among-kind, kind-among}
use Rattle.law_tables.proofs.LineFaults as Any

-- the ids of the limits before
abbrev ids : List (Statement Field) → List ℕ
ids front = map (λ a. a.id) (of_kind limit front)

-- a limit's line stands before exactly if its id is told
limit-told : (i : ℕ) (front : List (Statement Field)) → Among i (ids front) → (a : Limit) × Among (LawNetwork.limit_line a) (map mdf_law_line front) × (a.id ≡ i)
unfolding the_mdf_line_of
limit-told i front m =
    let t = among-told (λ (a : Limit). a.id) i (of_kind limit front) m in
    (t.0, among_map mdf_law_line (say limit t.0) front (kind-among (orders Field) limit t.0 front t.1), sym t.2)

limit-there : (a : Limit) (front : List (Statement Field)) → Among (LawNetwork.limit_line a) (map mdf_law_line front) → Among a.id (ids front)
unfolding the_mdf_line_of
limit-there a front m =
    let t = among-told mdf_law_line (mdf_law_line (say limit a)) front m in
    let there : Among (say limit a) front = subst (λ (y : Statement Field). Among y front) (sym (mdf-line-one (say limit a) t.0 t.2)) t.1 in
    among_map (λ (a : Limit). a.id) a (of_kind limit front) (among-kind (orders Field) limit a front there)

module _ (n : Network Field) where
  over : (front : List (Statement Field)) (x : Statement Field) (k : ℕ) → MdfFault n front x k → Law.MdfFault n (map mdf_law_line front) (mdf_law_line x) k
  unfolding the_mdf_line_of
  over front x k (other_name v e d q) = subst (Law.MdfFault n (map mdf_law_line front) (mdf_law_line x)) (sym q) (Law.other_name v (ap mdf_law_line e) d)
  over front x k (foreign_goal g e d q) = subst (Law.MdfFault n (map mdf_law_line front) (mdf_law_line x)) (sym q) (Law.foreign_goal g (ap mdf_law_line e) d)
  over front x k (bad_limit_of a e (not_there d q)) = subst (Law.MdfFault n (map mdf_law_line front) (mdf_law_line x)) (sym q) (Law.unknown_id a (ap mdf_law_line e) d)
  over front x k (bad_limit_of a e (given_again b m q)) =
      let t = limit-told a.id front m in
      subst (Law.MdfFault n (map mdf_law_line front) (mdf_law_line x)) (sym q) (Law.limited_again a t.0 (ap mdf_law_line e) b t.1 t.2)
  over front x k (id_missing e s q) = subst (Law.MdfFault n (map mdf_law_line front) (mdf_law_line x)) (sym q)
      (Law.unlimited s.id (ap mdf_law_line e) s.there (λ a m i. s.missing (subst (λ (j : ℕ). Among j (ids front)) i (limit-there a front m))))

  under : (front : List (Statement Field)) (x : Statement Field) (k : ℕ) → Law.MdfFault n (map mdf_law_line front) (mdf_law_line x) k → MdfFault n front x k
  unfolding the_mdf_line_of
  under front x k (Law.other_name v e d) = other_name v (mdf-line-one x (say RNDF v) e) d refl
  under front x k (Law.foreign_goal g e d) = foreign_goal g (mdf-line-one x (say goal g) e) d refl
  under front x k (Law.unknown_id a e d) = bad_limit_of a (mdf-line-one x (say limit a) e) (not_there d refl)
  under front x k (Law.limited_again a b e w m i) = bad_limit_of a (mdf-line-one x (say limit a) e) (given_again w (subst (λ (j : ℕ). Among j (ids front)) i (limit-there b front m)) refl)
  under front x k (Law.unlimited i e w d) = id_missing (mdf-line-one x (say end_speed_limits tt) e)
      (record { id = i; there = w; missing = λ m. let t = limit-told i front m in d t.0 t.1 t.2 }) refl

  module _ (m : Mission Field) (text : Bytes) (h : SpellsMdf m text) where
    module _ (d : Edition) where
      pub mdf-first-to_in : (i k : ℕ) → FirstMdfFault n text i k → Law.FirstFault (reading (law_of d)) LawNetwork.SpellsMission (Law.MdfFault n) text i k
      mdf-first-to_in = Any.first_to d (mdf-all d) mdf-clear mdf-begins LawNetwork.SpellsMission SpellsMission (mission-to_in d) (mission-back_in d) text m h.said (mdf-said m text h) h.net (MdfFault n) (Law.MdfFault n) over under

      pub mdf-first-back_in : (i k : ℕ) → Law.FirstFault (reading (law_of d)) LawNetwork.SpellsMission (Law.MdfFault n) text i k → FirstMdfFault n text i k
      mdf-first-back_in = Any.first_back d (mdf-all d) mdf-clear mdf-begins LawNetwork.SpellsMission SpellsMission (mission-to_in d) (mission-back_in d) text m h.said (mdf-said m text h) h.net (MdfFault n) (Law.MdfFault n) over under

    -- in the present edition
    pub mdf-first-to : (i k : ℕ) → FirstMdfFault n text i k → Law.FirstFault present LawNetwork.SpellsMission (Law.MdfFault n) text i k
    mdf-first-to = mdf-first-to_in march

    pub mdf-first-back : (i k : ℕ) → Law.FirstFault present LawNetwork.SpellsMission (Law.MdfFault n) text i k → FirstMdfFault n text i k
    mdf-first-back = mdf-first-back_in march
