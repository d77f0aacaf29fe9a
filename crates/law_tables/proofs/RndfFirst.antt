-- THE LAW of 12 and 13: the first line of an RNDF at fault, for the law and by statements, is the same. Assumes nothing.
use mathlib.Core.Path.{refl, sym, ap, subst}
use mathlib.Core.List.{List, map}
use mathlib.Core.Bool.{true}
use Prim.Native.Nat.{ℕ}
use Rattle.terms.specs.Ascii.{Bytes}
use Rattle.terms.specs.Words.{Among}
use Rattle.line.specs.Content.{Field}
use Rattle.law.specs.Network.{reading, present}
use Rattle.law.specs.Network as LawNetwork
use Rattle.law.specs.Faults.{RndfFault}
use Rattle.law.specs.Faults as Law
use Rattle.grammar.specs.Editions.{Edition, march, law_of}
use Rattle.grammar.specs.Statements.{Statement, CheckpointLine, ExitLine, lines, say, of_kind, point_id, checkpoint, exit}
use Rattle.grammar.specs.Network.{Network, SpellsNetworkBy}
use Rattle.grammar.specs.Network as Network
use Rattle.text.specs.RndfLines.{rndf_line_in_of, the_rndf_line_of}
use Rattle.text.specs.Spelling.{SpellsRndfIn, SpellsRndf}
use Rattle.fill.specs.Faults.{ReferenceFault, undeclared, repeated}
use Rattle.fault_lines.specs.FaultLines.{SaysAt, FirstRndfFault}
use Rattle.fault_lines.proofs.Said.{says_at, says-only}
use Rattle.fault_lines.proofs.Files.{rndf-clear_in, rndf-clear, rndf-said_in}
use Rattle.law_spelling.specs.LineOf.{rndf_law_line_in}
use Rattle.law_spelling.proofs.OneLine.{rndf-line-one_in, rndf-begins_in, rndf-all}
use Rattle.law_spelling.proofs.RndfParts.{network-to_in, network-back_in}
use Rattle.editions.proofs.Later.{line-later, lines-later}
use Rattle.law_tables.proofs.Among.{among_map, among-told, among-kind, kind-among}
use Rattle.law_tables.proofs.LineFaults as Any

module _ (d : Edition) (n : Network Field) where
  over : (front : List (Statement Field)) (x : Statement Field) (k : ℕ) → ReferenceFault n front x k → RndfFault n (map (rndf_law_line_in d) front) ((rndf_law_line_in d) x) k
  unfolding rndf_line_in_of
  over front x k (undeclared v e u q) = subst (RndfFault n (map (rndf_law_line_in d) front) ((rndf_law_line_in d) x)) (sym q)
      (Law.undeclared v.waypoint.x v.waypoint.y (record { waypoint = v.waypoint.z; entry = v.entry }) (ap (rndf_law_line_in d) e) u)
  over front x k (repeated v e a q) =
      let t = among-told (λ (c : CheckpointLine). c.number) v.number (of_kind checkpoint front) a in
      let c = t.0 in
      subst (RndfFault n (map (rndf_law_line_in d) front) ((rndf_law_line_in d) x)) (sym q)
      (Law.repeated v.waypoint.x v.waypoint.y c.waypoint.x c.waypoint.y (record { waypoint = v.waypoint.z; number = v.number }) (record { waypoint = c.waypoint.z; number = c.number })
      (ap (rndf_law_line_in d) e) (among_map (rndf_law_line_in d) (say checkpoint c) front (kind-among (lines Field) checkpoint c front t.1)) (sym t.2))

  under : (front : List (Statement Field)) (x : Statement Field) (k : ℕ) → RndfFault n (map (rndf_law_line_in d) front) ((rndf_law_line_in d) x) k → ReferenceFault n front x k
  unfolding rndf_line_in_of
  under front x k (Law.undeclared a b e q u) =
      let v : ExitLine = record { waypoint = point_id a b e.waypoint; entry = e.entry } in
      undeclared v (rndf-line-one_in d x (say exit v) q) u refl
  under front x k (Law.repeated a b a' b' c c' q m s) =
      let v : CheckpointLine = record { waypoint = point_id a b c.waypoint; number = c.number } in
      let w : CheckpointLine = record { waypoint = point_id a' b' c'.waypoint; number = c'.number } in
      let t = among-told (rndf_law_line_in d) ((rndf_law_line_in d) (say checkpoint w)) front m in
      let there : Among (say checkpoint w) front = subst (λ (y : Statement Field). Among y front) (sym (rndf-line-one_in d (say checkpoint w) t.0 t.2)) t.1 in
      let told = among_map (λ (c : CheckpointLine). c.number) w (of_kind checkpoint front) (among-kind (lines Field) checkpoint w front there) in
      repeated v (rndf-line-one_in d x (say checkpoint v) q) (subst (λ (i : ℕ). Among i (map (λ c. c.number) (of_kind checkpoint front))) s told) refl

  module _ (text : Bytes) (h : SpellsRndfIn d n text) where
    -- a line says the same in the edition as in the present one
    says-later : (i : ℕ) (front : List (Statement Field)) (x : Statement Field) → SaysAt (rndf_line_in_of d) text i front x → SaysAt the_rndf_line_of text i front x
    says-later i front x s = record { before = s.before; this = s.this; rest = s.rest; cut = s.cut; number = s.number; said = lines-later d s.said; says = line-later d s.says }

    pub says-earlier : (i : ℕ) (front : List (Statement Field)) (x : Statement Field) → SaysAt the_rndf_line_of text i front x → SaysAt (rndf_line_in_of d) text i front x
    says-earlier i front x s =
        let o = says-only rndf-clear text h.said (lines-later d (rndf-said_in d n text h)) i front x s in
        subst (λ (i : ℕ). SaysAt (rndf_line_in_of d) text i front x) (sym o.2) (says_at (rndf-clear_in d) text h.said (rndf-said_in d n text h) front x o.0 o.1)

    pub rndf-first-to_in : (i k : ℕ) → FirstRndfFault n text i k → Law.FirstFault (reading (law_of d)) LawNetwork.SpellsNetwork (RndfFault n) text i k
    rndf-first-to_in i k f =
        Any.first_to d (rndf-all d) (rndf-clear_in d) (rndf-begins_in d) LawNetwork.SpellsNetwork (SpellsNetworkBy (Network.under d true)) (network-to_in d) (network-back_in d) text n h.said (rndf-said_in d n text h) h.net (ReferenceFault n) (RndfFault n) over under i k
        (record { front = f.front; this = f.this; at = says-earlier i f.front f.this f.at; fault = f.fault; first = λ j m front x l s g. f.first j m front x l (says-later j front x s) g })

    pub rndf-first-back_in : (i k : ℕ) → Law.FirstFault (reading (law_of d)) LawNetwork.SpellsNetwork (RndfFault n) text i k → FirstRndfFault n text i k
    rndf-first-back_in i k f =
        let g = Any.first_back d (rndf-all d) (rndf-clear_in d) (rndf-begins_in d) LawNetwork.SpellsNetwork (SpellsNetworkBy (Network.under d true)) (network-to_in d) (network-back_in d) text n h.said (rndf-said_in d n text h) h.net (ReferenceFault n) (RndfFault n) over under i k f in
        record { front = g.front; this = g.this; at = says-later i g.front g.this g.at; fault = g.fault; first = λ j m front x l s y. g.first j m front x l (says-earlier j front x s) y }

-- in the present edition
module _ (n : Network Field) (text : Bytes) (h : SpellsRndf n text) where
  pub rndf-first-to : (i k : ℕ) → FirstRndfFault n text i k → Law.FirstFault present LawNetwork.SpellsNetwork (RndfFault n) text i k
  rndf-first-to = rndf-first-to_in march n text h

  pub rndf-first-back : (i k : ℕ) → Law.FirstFault present LawNetwork.SpellsNetwork (RndfFault n) text i k → FirstRndfFault n text i k
  rndf-first-back = rndf-first-back_in march n text h
