-- THE LAW of 12 and 13 by lines: the first statement at fault is the earlier of those of the first rows at fault; it is right, and only it is. Assumes nothing.
use mathlib.Core.Path.{◌≡◌, refl, sym, ap, ap₂, ◌∙◌}
use mathlib.Core.List.{List, [], map}
use mathlib.Core.Option.{Option, none, some}
use Prim.Native.Nat.{ℕ}
use native.Mathlib.Omega.{arith}
use Rattle.grammar.specs.Language.{as_kind}
use Rattle.grammar.specs.Statements.{Statement, PointId, CheckpointLine, ExitLine, lines, of_kind, checkpoint, exit}
use Rattle.grammar.specs.Network.{Network, SpellsNetwork}
use Rattle.grammar.specs.Tables.{Tables, tables_unresolved}
use Rattle.grammar.specs.References.{Sound}
use Rattle.grammar.proofs.LanguageLaws.{as-inv}
use Rattle.fill.specs.NetworkRows.{start, fill}
use Rattle.fill.specs.Resolve.{resolve_in}
use Rattle.fill.specs.Faults.{First, ReferenceFault, undeclared, repeated}
use Rattle.fill.specs.FirstFaults.{Fault, fault, or_else, is_among, first_fault, unless_found, entry_fault_of, first_undeclared, number_fault, the_first_repeat_of, numbers_of}
use Rattle.fill.specs.FirstLines.{on, said, placed, earlier, reference_fault, first_reference}
use Rattle.fill.proofs.AmongLaws.{is-among_true, among-is}
use Rattle.fill.proofs.NetworkFills.{network_fills}
use Rattle.fill.proofs.CountLaws.{by_lines}
use Rattle.fill.proofs.ResolveLaws.{not_found, not-declared}
use Rattle.fill.proofs.FaultLaws.{Decides, first-right, first-only}
use Rattle.fill.proofs.ReferenceLaws.{fault_if-told, sound-by, sound-only}
use Rattle.fill.proofs.LineFaults.{earlier-none, placed-none, first-of-two, first_said}

module _ {N : Type 0} where
  -- ## By rows, for any statements
  pub reference-rows : (blank : N) (u : List (Statement N)) → first_reference (fill blank u) u
      ≡ earlier (placed (lines N) exit u (first_undeclared (fill blank u))) (placed (lines N) checkpoint u (the_first_repeat_of (numbers_of (fill blank u))))
  unfolding fill
  reference-rows blank u =
      let t = fill blank u in
      let h = by_lines u (start blank) in
      first-of-two (said (lines N) exit (λ v. v.entry) (entry_fault_of t)) (said (lines N) checkpoint (λ v. v.number) number_fault) [] u
      ∙ ap₂ earlier
      (first_said (lines N) exit (λ v. v.entry) (entry_fault_of t) u ∙ ap (λ (l : List PointId). placed (lines N) exit u (first_fault (entry_fault_of t) [] l)) (sym h.entries))
      (first_said (lines N) checkpoint (λ v. v.number) number_fault u ∙ ap (λ (l : List ℕ). placed (lines N) checkpoint u (first_fault number_fault [] l)) (sym h.numbers))

  -- ## Right, and only that
  pub reference_decides : (n : Network N) → Decides (reference_fault (tables_unresolved n)) (ReferenceFault n)
  reference_decides n = record {
    told = λ front x k h. right front x k (as_kind (lines N) exit x) (as_kind (lines N) checkpoint x) refl refl h;
    tells = only;
  }
    where
      number : (front : List (Statement N)) (x : Statement N) (k : ℕ) (o : Option CheckpointLine) → as_kind (lines N) checkpoint x ≡ o
          → on (λ v. number_fault (map (λ c. c.number) (of_kind checkpoint front)) v.number) o ≡ some k → ReferenceFault n front x k
      number front x k none q h = absurd (let z : ◌≡◌ {A = ℕ} 0 1 = cc in omega arith)
      number front x k (some v) q h = let ns = map (λ (c : CheckpointLine). c.number) (of_kind checkpoint front) in let t = fault_if-told (is_among v.number ns) 13 k h in
          repeated v (as-inv (lines N) checkpoint x v q) (is-among_true v.number ns t.0) t.1

      entry : (front : List (Statement N)) (x : Statement N) (k : ℕ) (v : ExitLine) (i : Option ℕ) (o : Option CheckpointLine) → as_kind (lines N) exit x ≡ some v → resolve_in (tables_unresolved n) v.entry ≡ i → as_kind (lines N) checkpoint x ≡ o
          → or_else (unless_found i) (on (λ v. number_fault (map (λ c. c.number) (of_kind checkpoint front)) v.number) o) ≡ some k → ReferenceFault n front x k
      entry front x k v none o q r c h = undeclared v (as-inv (lines N) exit x v q) (not-declared n v.entry r) (cc)
      entry front x k v (some i) o q r c h = number front x k o c h

      right : (front : List (Statement N)) (x : Statement N) (k : ℕ) (e : Option ExitLine) (o : Option CheckpointLine) → as_kind (lines N) exit x ≡ e → as_kind (lines N) checkpoint x ≡ o
          → or_else (on (λ v. entry_fault_of (tables_unresolved n) [] v.entry) e) (on (λ v. number_fault (map (λ c. c.number) (of_kind checkpoint front)) v.number) o) ≡ some k → ReferenceFault n front x k
      right front x k none o q c h = number front x k o c h
      right front x k (some v) o q c h = entry front x k v (resolve_in (tables_unresolved n) v.entry) o q refl c h

      only : (front : List (Statement N)) (x : Statement N) (k : ℕ) → ReferenceFault n front x k → reference_fault (tables_unresolved n) front x ≡ some k
      only front x k (undeclared v e d q) = rw (e, not_found n v.entry d, q)
      only front x k (repeated v e m q) = rw (e, among-is v.number (map (λ c. c.number) (of_kind checkpoint front)) m, q)

  pub first-reference-right : (blank : N) (n : Network N) (u : List (Statement N)) → SpellsNetwork n u → (x : Fault) → first_reference (fill blank u) u ≡ some x → First (ReferenceFault n) [] u x.row x.number
  first-reference-right blank n u s x h = first-right (reference_decides n) [] u x (sym (ap (λ (t : Tables N PointId). first_reference t u) (network_fills blank n u s)) ∙ h)

  pub first-reference-only : (blank : N) (n : Network N) (u : List (Statement N)) → SpellsNetwork n u → (i k : ℕ) → First (ReferenceFault n) [] u i k → first_reference (fill blank u) u ≡ some (fault i k)
  first-reference-only blank n u s i k f = ap (λ (t : Tables N PointId). first_reference t u) (network_fills blank n u s) ∙ first-only (reference_decides n) [] u i k f

  -- ## None where the references are right
  pub no-reference-fault : (blank : N) (n : Network N) (u : List (Statement N)) → SpellsNetwork n u → first_reference (fill blank u) u ≡ none → Sound n
  no-reference-fault blank n u s h =
      let same = network_fills blank n u s in
      let o = earlier-none (placed (lines N) exit u (first_undeclared (fill blank u))) (placed (lines N) checkpoint u (the_first_repeat_of (numbers_of (fill blank u)))) (sym (reference-rows blank u) ∙ h) in
      sound-by n (sym (ap first_undeclared same) ∙ placed-none (lines N) exit u (first_undeclared (fill blank u)) o.0)
      (sym (ap (λ (t : Tables N PointId). the_first_repeat_of (numbers_of t)) same) ∙ placed-none (lines N) checkpoint u (the_first_repeat_of (numbers_of (fill blank u))) o.1)

  pub sound-no-fault : (blank : N) (n : Network N) (u : List (Statement N)) → SpellsNetwork n u → Sound n → first_reference (fill blank u) u ≡ none
  sound-no-fault blank n u s d = let o = sound-only n d in
      reference-rows blank u ∙ ap (λ (t : Tables N PointId). earlier (placed (lines N) exit u (first_undeclared t)) (placed (lines N) checkpoint u (the_first_repeat_of (numbers_of t)))) (network_fills blank n u s)
      ∙ ap₂ (λ (a b : Option Fault). earlier (placed (lines N) exit u a) (placed (lines N) checkpoint u b)) o.0 o.1
