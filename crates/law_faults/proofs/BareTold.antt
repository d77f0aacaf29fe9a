-- At the first waypoint of a spot whose options give no checkpoint 25 is told, where the line has no fault of 2 to 9; in each edition. Assumes nothing.
use mathlib.Core.Path.{◌≡◌, refl, sym, ap, subst, ◌∙◌}
use mathlib.Core.List.{List, [], ◌∷◌, ◌++◌, head-eq_of_cons-eq, tail-eq_of_cons-eq}
use mathlib.Core.Option.{Option, none, some, some-injective}
use mathlib.Core.Bool.{Bool, true, false}
use mathlib.Core.Logic.{◌⊎◌, inl, inr}
use Prim.Native.Nat.{ℕ, zero, suc, ◌≤◌}
use native.Mathlib.Omega.{arith}
use lib.Dec.{T}
use Rattle.terms.specs.Ascii.{Bytes}
use Rattle.terms.specs.Words.{Each}
use Rattle.line.specs.Text.{Ended}
use Rattle.line.specs.Content.{Field, Content}
use Rattle.law.specs.Network.{Line, numbers, coordinate, line, SpellFields}
use Rattle.law.specs.Network as Law
use Rattle.law.specs.Faults.{BadLine}
use Rattle.law.specs.Faults as Faults
use Rattle.grammar.specs.Editions.{Edition, law_of}
use Rattle.grammar.specs.Language.{as_kind}
use Rattle.grammar.specs.Language as Language
use Rattle.grammar.specs.Network.{under, SpellsNetworkBy}
use Rattle.grammar.specs.Statements.{Kind, PartId, PointLine, Says, Statement, lines, say, part_id, point_id, spot, spot_width_of, point}
use Rattle.grammar.specs.Forms.{tested}
use Rattle.grammar.specs.Permitted.{counted, the_part_of, the_point_of}
use Rattle.grammar.specs.Machine.{next, refuse, other, good, judge, lacks, opt_at, guard, Machine, Stand, over, inside, Place, at, enter, settle, step, run}
use Rattle.grammar.specs.PlaceRows.{kind_row}
use Rattle.grammar.specs.Places.{rndf_by, Base, opts, D, due_in, name_due, num_segments_due, num_zones_due, first_segment_due, part_due, num_lanes_due, first_lane_due, lane_due, num_waypoints_due, first_waypoint_due, waypoint_due, num_spots_due, perimeter_due, num_perimeterpoints_due, first_perimeterpoint_due, perimeterpoint_due, spot_due, first_of_spot_due, second_of_spot_due, end_spot_due}
use Rattle.grammar.proofs.FormLaws.{pick as pick-form}
use Rattle.grammar.proofs.LanguageLaws.{as_same}
use Rattle.grammar.proofs.MachineLaws.{refused, no-option}
use Rattle.grammar.proofs.StandLaws.{stands-due}
use Rattle.text.specs.Said as Old
use Rattle.text.specs.RndfLines.{rndf_line_in_of}
use Rattle.text.specs.RndfWords.{rndf_lexis_in}
use Rattle.text.specs.Faults.{MayStand, Fault, forbidden, unmarked}
use Rattle.law_spelling.specs.LineOf.{rndf_law_line_in}
use Rattle.law_spelling.proofs.Fields.{fields_back}
use Rattle.law_spelling.proofs.OneLine.{rndf-line-one_in, rndf-all}
use Rattle.law_faults.specs.Bare.{BareSpot}
use Rattle.law_faults.proofs.Reached.{laws, split, run-parts, run-one, nil-run, begins-back}
use Rattle.law_faults.proofs.Opening.{spelled-opens, opens-kind}
use Rattle.law_faults.proofs.Rndf.{rndf-needs_in, rndf-lenient-needs_in}
use Rattle.law_faults.proofs.Unmarked.{fault-to}
use Rattle.law_faults.proofs.BareSpots.{taken_at}

abbrev L : Language.Lang
L = lines Field

abbrev St : Type 0
St = Statement Field

-- no option is a spot
the_no_spot_of : (b : Base) → T (lacks L spot (opts Field b))
the_no_spot_of name_due = tt
the_no_spot_of num_segments_due = tt
the_no_spot_of (num_zones_due o) = tt
the_no_spot_of (first_segment_due o z) = tt
the_no_spot_of (part_due m o z) = tt
the_no_spot_of (num_lanes_due m o z) = tt
the_no_spot_of (first_lane_due m o z l) = tt
the_no_spot_of (lane_due m o z n l) = tt
the_no_spot_of (num_waypoints_due m o z n l) = tt
the_no_spot_of (first_waypoint_due m o z n l w) = tt
the_no_spot_of (waypoint_due m o z n l k w) = tt
the_no_spot_of (num_spots_due m z) = tt
the_no_spot_of (perimeter_due m z s) = tt
the_no_spot_of (num_perimeterpoints_due m z s) = tt
the_no_spot_of (first_perimeterpoint_due m z s p) = tt
the_no_spot_of (perimeterpoint_due m z s k p) = tt
the_no_spot_of (spot_due m z n s) = tt
the_no_spot_of (first_of_spot_due m z n s) = tt
the_no_spot_of (second_of_spot_due m z n s) = tt
the_no_spot_of (end_spot_due m z n s) = tt

-- a spot of which nothing is given but, perhaps, its width
abbrev bare : (m z n k : ℕ) → Bool → Stand Base
bare m z n k x = inside (first_of_spot_due m z n k) (x ∷ false ∷ [])

-- ## In an edition
module _ (d : Edition) where
  abbrev A : Machine (lines Field)
  A = rndf_by Field (under d true)

  abbrev rules : Law.Rules
  rules = Law.reading (law_of d)

  abbrev due : Base → D Field
  due = due_in Field d

  abbrev line_of : (k : Kind) → Says Field k → List Old.Said
  line_of = rndf_line_in_of d

  abbrev law : St → Line
  law = rndf_law_line_in d

  -- ## Where `spot` m.n leads
  spot-leads : (c : Base) (v : Says Field (due c).on) → T ((due c).test v) → (m' n' : ℕ) → ◌≡◌ {A = St} (say (due c).on v) (say spot (part_id m' n')) → (z : ℕ) × (k : ℕ) × ((due c).then v ≡ some (first_of_spot_due m' z n' k))
  spot-leads name_due v t m' n' e = absurd (let h = ap (λ (s : St). kind_row s.kind) e in omega (arith, h))
  spot-leads num_segments_due v t m' n' e = absurd (let h = ap (λ (s : St). kind_row s.kind) e in omega (arith, h))
  spot-leads (num_zones_due o) v t m' n' e = absurd (let h = ap (λ (s : St). kind_row s.kind) e in omega (arith, h))
  spot-leads (first_segment_due o z) v t m' n' e = absurd (let h = ap (λ (s : St). kind_row s.kind) e in omega (arith, h))
  spot-leads (part_due m (suc o) z) v t m' n' e = absurd (let h = ap (λ (s : St). kind_row s.kind) e in omega (arith, h))
  spot-leads (part_due m zero (suc z)) v t m' n' e = absurd (let h = ap (λ (s : St). kind_row s.kind) e in omega (arith, h))
  spot-leads (part_due m zero zero) v t m' n' e = absurd (let h = ap (λ (s : St). kind_row s.kind) e in omega (arith, h))
  spot-leads (num_lanes_due m o z) v t m' n' e = absurd (let h = ap (λ (s : St). kind_row s.kind) e in omega (arith, h))
  spot-leads (first_lane_due m o z l) v t m' n' e = absurd (let h = ap (λ (s : St). kind_row s.kind) e in omega (arith, h))
  spot-leads (lane_due m o z n zero) v t m' n' e = absurd (let h = ap (λ (s : St). kind_row s.kind) e in omega (arith, h))
  spot-leads (lane_due m o z n (suc l)) v t m' n' e = absurd (let h = ap (λ (s : St). kind_row s.kind) e in omega (arith, h))
  spot-leads (num_waypoints_due m o z n l) v t m' n' e = absurd (let h = ap (λ (s : St). kind_row s.kind) e in omega (arith, h))
  spot-leads (first_waypoint_due m o z n l w) v t m' n' e = absurd (let h = ap (λ (s : St). kind_row s.kind) e in omega (arith, h))
  spot-leads (waypoint_due m o z n l k zero) v t m' n' e = absurd (let h = ap (λ (s : St). kind_row s.kind) e in omega (arith, h))
  spot-leads (waypoint_due m o z n l k (suc w)) v t m' n' e = absurd (let h = ap (λ (s : St). kind_row s.kind) e in omega (arith, h))
  spot-leads (num_spots_due m z) v t m' n' e = absurd (let h = ap (λ (s : St). kind_row s.kind) e in omega (arith, h))
  spot-leads (perimeter_due m z s) v t m' n' e = absurd (let h = ap (λ (s : St). kind_row s.kind) e in omega (arith, h))
  spot-leads (num_perimeterpoints_due m z s) v t m' n' e = absurd (let h = ap (λ (s : St). kind_row s.kind) e in omega (arith, h))
  spot-leads (first_perimeterpoint_due m z s p) v t m' n' e = absurd (let h = ap (λ (s : St). kind_row s.kind) e in omega (arith, h))
  spot-leads (perimeterpoint_due m z s k zero) v t m' n' e = absurd (let h = ap (λ (s : St). kind_row s.kind) e in omega (arith, h))
  spot-leads (perimeterpoint_due m z s k (suc p)) v t m' n' e = absurd (let h = ap (λ (s : St). kind_row s.kind) e in omega (arith, h))
  spot-leads (spot_due m z n zero) v t m' n' e = absurd (let h = ap (λ (s : St). kind_row s.kind) e in omega (arith, h))
  spot-leads (spot_due m z n (suc s)) v t m' n' e =
      let h : part_id m n ≡ v = (pick-form (the_part_of m n) v t).0 in
      let i : some v ≡ some (part_id m' n') = sym (as_same L spot v) ∙ ap (as_kind L spot) e ∙ as_same L spot (part_id m' n') in
      let j : part_id m n ≡ part_id m' n' = h ∙ some-injective v (part_id m' n') i in
      let x : m ≡ m' = ap (λ (p : PartId). p.m) j in
      let y : n ≡ n' = ap (λ (p : PartId). p.n) j in
      (z, s, (λ h. some (first_of_spot_due (x h) z (y h) s)))
  spot-leads (first_of_spot_due m z n s) v t m' n' e = absurd (let h = ap (λ (s : St). kind_row s.kind) e in omega (arith, h))
  spot-leads (second_of_spot_due m z n s) v t m' n' e = absurd (let h = ap (λ (s : St). kind_row s.kind) e in omega (arith, h))
  spot-leads (end_spot_due m z n s) v t m' n' e = absurd (let h = ap (λ (s : St). kind_row s.kind) e in omega (arith, h))

  spot-taken : (p q : Place A) (m n : ℕ) → step A p (say spot (part_id m n)) ≡ next q → (z : ℕ) × (k : ℕ) × (q ≡ bare m z n k false)
  unfolding step
  spot-taken over q m n e = refused e
  spot-taken (inside b g) q m n e = go (taken_at d b g (say spot (part_id m n)) q e)
    where
      go : ((g' : List Bool) × (q ≡ inside b g') × (opt_at L (opts Field b) g (say spot (part_id m n)) ≡ good g')) ⊎ ((v : Says Field (due b).on) × (say spot (part_id m n) ≡ say (due b).on v) × T ((due b).test v) × (q ≡ enter A ((due b).then v)))
          → (z : ℕ) × (k : ℕ) × (q ≡ bare m z n k false)
      go (inl (g', i, o)) = let z : other ≡ good g' = sym (no-option A (opts Field b) g spot (part_id m n) (the_no_spot_of b)) ∙ o in absurd (let y : ◌≡◌ {A = ℕ} 0 1 = cc in omega arith)
      go (inr (v, i, t, j)) =
          let x = spot-leads b v t m n (sym i) in
          (x.0, x.1, j ∙ ap (enter A) x.2)

  -- ## Its width leaves the checkpoint missing
  width-taken : (m z n k w : ℕ) (x : Bool) (q : Place A) → step A (bare m z n k x) (say spot_width_of w) ≡ next q → q ≡ bare m z n k true
  unfolding step
  width-taken m z n k w x q e = go x (tested counted w) e
    where
      go : (x t : Bool) → settle A (first_of_spot_due m z n k) (x ∷ false ∷ []) (judge x t (true ∷ false ∷ [])) (say spot_width_of w) ≡ next q → q ≡ bare m z n k true
      go true t e = refused e
      go false true e = let y : bare m z n k true ≡ q = cc in sym y
      go false false e = refused e

  widths-taken : (m z n k : ℕ) (x : Bool) (os : List St) (q : Place A) → Each (λ l. (w : ℕ) × (l ≡ line "spot_width" (numbers (w ∷ []) ∷ []))) (laws line_of os) → run A (bare m z n k x) os ≡ next q
      → (y : Bool) × (q ≡ bare m z n k y)
  unfolding rndf_line_in_of
  widths-taken m z n k x [] q h e = (x, sym (nil-run A (bare m z n k x) q e))
  widths-taken m z n k x (s ∷ os) q h e =
      let r = run-one A (bare m z n k x) q s os e in
      let w = h.0.0 in
      let i : s ≡ say spot_width_of w = rndf-line-one_in d s (say spot_width_of w) h.0.1 in
      let j = width-taken m z n k w x r.0 (subst (λ (s : St). step A (bare m z n k x) s ≡ next r.0) i r.1) in
      widths-taken m z n k true os q h.1 (subst (λ (p : Place A). run A p os ≡ next q) j r.2)

  -- ## Behind a bare spot
  at_bare : (said : List St) (p : Place A) (l : Line) → run A (at A name_due) said ≡ next p → (b : BareSpot (laws line_of said) l) → (z : ℕ) × (k : ℕ) × (x : Bool) × (p ≡ bare b.m z b.n k x)
  unfolding rndf_line_in_of
  at_bare said p l c b = go (split line_of b.earlier (line "spot" (numbers (b.m ∷ b.n ∷ []) ∷ []) ∷ b.options) said (sym b.was))
    where
      here : (a : List St) (s : St) (os : List St) → said ≡ a ++ (s ∷ os) → law (say spot (part_id b.m b.n)) ≡ law s → b.options ≡ laws line_of os → (z : ℕ) × (k : ℕ) × (x : Bool) × (p ≡ bare b.m z b.n k x)
      here a s os e i j =
          let r = run-parts A (at A name_due) p a (s ∷ os) (subst (λ (l : List St). run A (at A name_due) l ≡ next p) e c) in
          let t = run-one A r.0 p s os r.2 in
          let u = spot-taken r.0 t.0 b.m b.n (subst (λ (s : St). step A r.0 s ≡ next t.0) (sym (rndf-line-one_in d (say spot (part_id b.m b.n)) s i)) t.1) in
          let w = widths-taken b.m u.0 b.n u.1 false os p (subst (Each (λ l. (w : ℕ) × (l ≡ line "spot_width" (numbers (w ∷ []) ∷ [])))) j b.widths) (subst (λ (q : Place A). run A q os ≡ next p) u.2 t.2) in
          (u.0, u.1, w.0, w.1)

      go : (a : List St) × (r : List St) × (said ≡ a ++ r) × (b.earlier ≡ laws line_of a) × (line "spot" (numbers (b.m ∷ b.n ∷ []) ∷ []) ∷ b.options ≡ laws line_of r) → (z : ℕ) × (k : ℕ) × (x : Bool) × (p ≡ bare b.m z b.n k x)
      go (a, [], e, q, h) = absurd (let y : ◌≡◌ {A = ℕ} 0 1 = cc in omega arith)
      go (a, s ∷ os, e, q, h) = here a s os e (head-eq_of_cons-eq h) (tail-eq_of_cons-eq h)

  -- the due waypoint gets 9 there, or 25
  gets : (m z n k : ℕ) (x : Bool) (v : PointLine) → (step A (bare m z n k x) (say point v) ≡ refuse 9) ⊎ (step A (bare m z n k x) (say point v) ≡ refuse 25)
  unfolding step guard
  gets m z n k x v = go (tested (the_point_of m n 1) v)
    where
      go : (t : Bool) → (guard t 9 (guard false 25 (next (enter A (some (second_of_spot_due m z n k))))) ≡ refuse 9) ⊎ (guard t 9 (guard false 25 (next (enter A (some (second_of_spot_due m z n k))))) ≡ refuse 25)
      go true = inr refl
      go false = inl refl

  -- the line's fields spell this waypoint
  module _ (said : List St) (m z n k : ℕ) (x : Bool) (came : run A (at A name_due) said ≡ next (bare m z n k x)) (this : Bytes) (v : PointLine)
      (content : Bytes) (f : Field) (fs : List Field) (ended : Ended this content) (fielded : Content 0 content (f ∷ fs)) (spelled : SpellFields (law_of d) (f ∷ fs) (law (say point v))) where
    old : Old.SpellFields (f ∷ fs) (line_of point v)
    old = fields_back d (f ∷ fs) (line_of point v) (rndf-all d point v) spelled

    may_stand : MayStand A (rndf_lexis_in d) line_of (bare m z n k x) 0 this point f fs
    may_stand =
        let here = stands-due A (first_of_spot_due m z n k) (x ∷ false ∷ []) in
        let opens = spelled-opens A (rndf_lexis_in d) line_of (SpellsNetworkBy (under d true)) Law.SpellsNetwork name_due (rndf-needs_in d) f fs point v old in
        record { fields = record { content = content; ended = ended; fields = fielded }; is = opens-kind A (rndf_lexis_in d) line_of (SpellsNetworkBy (under d true)) Law.SpellsNetwork name_due (rndf-needs_in d) (bare m z n k x) f point v here opens; here = here }

    told : (i : ℕ) → Fault A (rndf_lexis_in d) line_of (bare m z n k x) 0 this i → Faults.Fault rules Law.SpellsNetwork (laws line_of said) this i
    told = fault-to A (rndf_lexis_in d) line_of (SpellsNetworkBy (under d true)) (SpellsNetworkBy (under d false)) Law.SpellsNetwork name_due (rndf-needs_in d) (rndf-lenient-needs_in d) said (bare m z n k x) came this

    told_here : ((i : ℕ) → i ≤ 9 → Faults.Fault rules Law.SpellsNetwork (laws line_of said) this i → ⊥) → Faults.Fault rules Law.SpellsNetwork (laws line_of said) this 25
    told_here fine = go (gets m z n k x v)
      where
        go : (step A (bare m z n k x) (say point v) ≡ refuse 9) ⊎ (step A (bare m z n k x) (say point v) ≡ refuse 25) → Faults.Fault rules Law.SpellsNetwork (laws line_of said) this 25
        go (inl e) = absurd (fine 9 (omega arith) (told 9 (forbidden may_stand v old e)))
        go (inr e) = told 25 (unmarked may_stand v old e)

  told-behind : (said : List St) (p : Place A) → run A (at A name_due) said ≡ next p → (this : Bytes) (l : Line) → Law.Says rules 0 this l → BareSpot (laws line_of said) l
      → ((i : ℕ) → i ≤ 9 → Faults.Fault rules Law.SpellsNetwork (laws line_of said) this i → ⊥) → Faults.Fault rules Law.SpellsNetwork (laws line_of said) this 25
  unfolding rndf_line_in_of
  told-behind said p c this l says b fine =
      let y = at_bare said p l c b in
      go y.0 y.1 y.2 (subst (λ (p : Place A). run A (at A name_due) said ≡ next p) y.3 c) says.fields says.fielded (subst (SpellFields (law_of d) says.fields) b.is says.spelled)
    where
      go : (z k : ℕ) (x : Bool) → run A (at A name_due) said ≡ next (bare b.m z b.n k x) → (fs : List Field) → Content 0 says.content fs → SpellFields (law_of d) fs (numbers (b.m ∷ b.n ∷ 1 ∷ []) ∷ coordinate b.first.latitude ∷ coordinate b.first.longitude ∷ []) → Faults.Fault rules Law.SpellsNetwork (laws line_of said) this 25
      go z k x c [] h s = absurd s
      go z k x c (f ∷ fs) h s = told_here said b.m z b.n k x c this (record { id = point_id b.m b.n 1; position = b.first }) says.content f fs says.ended h s fine

  -- THE THEOREM. L8: 25 "at a first waypoint that has no fault of 2 to 9"
  pub bare-told : (text : Bytes) (i : ℕ) (front : List Line) (this : Bytes) → Faults.LineAt rules text i front this → Faults.Begins rules Law.SpellsNetwork front → (l : Line) → Law.Says rules 0 this l → BareSpot front l
      → ((n : ℕ) → n ≤ 9 → Faults.Fault rules Law.SpellsNetwork front this n → ⊥) → BadLine rules Law.SpellsNetwork text i 25
  bare-told text i front this here begins l says b fine =
      let x = begins-back A (rndf_lexis_in d) line_of (SpellsNetworkBy (under d true)) Law.SpellsNetwork name_due (rndf-needs_in d) front begins in
      let f = told-behind x.0 x.1 x.3 this l says (subst (λ (f : List Line). BareSpot f l) x.2 b) (λ n h y. fine n h (subst (λ (f : List Line). Faults.Fault rules Law.SpellsNetwork f this n) (sym x.2) y)) in
      record { front = front; this = this; at = here; begins = begins; fault = subst (λ (f : List Line). Faults.Fault rules Law.SpellsNetwork f this 25) (sym x.2) f }
