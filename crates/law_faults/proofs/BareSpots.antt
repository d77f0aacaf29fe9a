-- 25 is told at the first waypoint of a spot whose options give no checkpoint, and nowhere else; in each edition. Assumes nothing.
use mathlib.Core.Path.{◌≡◌, refl, sym, ap, subst, ◌∙◌}
use mathlib.Core.List.{List, [], ◌∷◌, ◌++◌, map, map-append, append_assoc, append-nil}
use mathlib.Core.Option.{Option, none, some, some-injective}
use mathlib.Core.Bool.{Bool, true, false}
use mathlib.Core.Logic.{◌⊎◌, inl, inr}
use Prim.Native.Nat.{ℕ, zero, suc, pred}
use native.Mathlib.Omega.{arith}
use lib.Dec.{T}
use lib.ListN.{length}
use Rattle.terms.specs.Ascii.{Bytes}
use Rattle.terms.specs.Words.{Each, Among}
use Rattle.terms.proofs.Tests.{nothing, clash}
use Rattle.line.specs.Content.{Field}
use Rattle.line.specs.Faults.{long, comment, byte}
use Rattle.law.specs.Network.{Line, numbers, coordinate, line}
use Rattle.law.specs.Network as Law
use Rattle.law.specs.Faults.{BadLine}
use Rattle.law.specs.Faults as Faults
use Rattle.grammar.specs.Editions.{Edition, law_of}
use Rattle.grammar.specs.Language.{as_kind, all_of}
use Rattle.grammar.specs.Language as Language
use Rattle.grammar.specs.Network.{under, SpellsNetworkBy}
use Rattle.grammar.specs.Statements.{Kind, Says, Statement, PointLine, lines, say, part_id, spot, spot_width_of, checkpoint, point}
use Rattle.grammar.specs.Forms.{tested}
use Rattle.grammar.specs.Choices.{opts as row}
use Rattle.grammar.specs.Permitted.{the_part_of, the_point_of, spot_row_of}
use Rattle.grammar.specs.Machine.{next, refuse, Verdict, other, bad, good, opt_at, guard, Machine, Stand, over, inside, Place, at, enter, hit, settle, step, run}
use Rattle.grammar.specs.Stands.{stands}
use Rattle.grammar.specs.Places.{rndf_by, Base, opts, D, due_in, marked, second, name_due, num_segments_due, num_zones_due, first_segment_due, part_due, num_lanes_due, first_lane_due, lane_due, num_waypoints_due, first_waypoint_due, waypoint_due, num_spots_due, perimeter_due, num_perimeterpoints_due, first_perimeterpoint_due, perimeterpoint_due, spot_due, first_of_spot_due, second_of_spot_due, end_spot_due}
use Rattle.grammar.proofs.FormLaws.{pick as pick-form}
use Rattle.grammar.proofs.LanguageLaws.{as-inv, kinds-on, Allowed, Fine, all_none}
use Rattle.grammar.proofs.MachineLaws.{Agrees, clear-agrees, differ, refused, told, none_of}
use Rattle.grammar.proofs.Options.{fine-given, all-memb}
use Rattle.grammar.proofs.StandLaws.{lenient-nine}
use Rattle.text.specs.Said.{Said}
use Rattle.text.specs.RndfLines.{rndf_line_in_of}
use Rattle.text.specs.RndfWords.{rndf_lexis_in}
use Rattle.text.specs.Faults.{Fault, form, unknown, misplaced, given_again, miscounted, misspelt, forbidden, unmarked}
use Rattle.law_spelling.specs.LineOf.{rndf_law_line_in}
use Rattle.law_spelling.proofs.OneLine.{rndf-all}
use Rattle.law_spelling.proofs.Fields.{fields-to}
use Rattle.law_faults.specs.Bare.{BareSpot}
use Rattle.law_faults.proofs.Reached.{laws, run-one, nil-run, begins-back}
use Rattle.law_faults.proofs.Rndf.{rndf-needs_in, rndf-lenient-needs_in}
use Rattle.law_faults.proofs.Unmarked.{fault-back}

abbrev L : Language.Lang
L = lines Field

abbrev St : Type 0
St = Statement Field

next-refused : {X : Type 0} {c : ℕ} {q : Stand Base} → next q ≡ refuse c → X
next-refused e = absurd (let z : ◌≡◌ {A = ℕ} 0 1 = cc in omega arith)

-- ## The same in each edition
-- only where a spot's first waypoint is due a checkpoint can be missing
bare-only : (b : Base) (g : List Bool) → marked b g ≡ false → (m : ℕ) × (z : ℕ) × (n : ℕ) × (k : ℕ) × (b ≡ first_of_spot_due m z n k) × (second g ≡ false)
bare-only name_due g e = clash e
bare-only num_segments_due g e = clash e
bare-only (num_zones_due o) g e = clash e
bare-only (first_segment_due o z) g e = clash e
bare-only (part_due m o z) g e = clash e
bare-only (num_lanes_due m o z) g e = clash e
bare-only (first_lane_due m o z l) g e = clash e
bare-only (lane_due m o z n l) g e = clash e
bare-only (num_waypoints_due m o z n l) g e = clash e
bare-only (first_waypoint_due m o z n l w) g e = clash e
bare-only (waypoint_due m o z n l k w) g e = clash e
bare-only (num_spots_due m z) g e = clash e
bare-only (perimeter_due m z s) g e = clash e
bare-only (num_perimeterpoints_due m z s) g e = clash e
bare-only (first_perimeterpoint_due m z s p) g e = clash e
bare-only (perimeterpoint_due m z s k p) g e = clash e
bare-only (spot_due m z n s) g e = clash e
bare-only (first_of_spot_due m z n s) g e = (m, z, n, s, refl, e)
bare-only (second_of_spot_due m z n s) g e = clash e
bare-only (end_spot_due m z n s) g e = clash e

-- a spot is open, and its first waypoint is due
first? : Base → Bool
first? name_due = false
first? num_segments_due = false
first? (num_zones_due o) = false
first? (first_segment_due o z) = false
first? (part_due m o z) = false
first? (num_lanes_due m o z) = false
first? (first_lane_due m o z l) = false
first? (lane_due m o z n l) = false
first? (num_waypoints_due m o z n l) = false
first? (first_waypoint_due m o z n l w) = false
first? (waypoint_due m o z n l k w) = false
first? (num_spots_due m z) = false
first? (perimeter_due m z s) = false
first? (num_perimeterpoints_due m z s) = false
first? (first_perimeterpoint_due m z s p) = false
first? (perimeterpoint_due m z s k p) = false
first? (spot_due m z n s) = false
first? (first_of_spot_due m z n s) = true
first? (second_of_spot_due m z n s) = false
first? (end_spot_due m z n s) = false

fine_snoc : (row : List _) (before : List Kind) (l : List St) (s : St) → Fine L row before l → Allowed L row (kinds-on L l before) s → Fine L row before (l ++ (s ∷ []))
fine_snoc row before [] s f a = (a, tt)
fine_snoc row before (t ∷ l) s f a = (f.0, fine_snoc row (t.kind ∷ before) l s f.1 a)

kinds_snoc : (l : List St) (s : St) (ks : List Kind) → kinds-on L (l ++ (s ∷ [])) ks ≡ s.kind ∷ kinds-on L l ks
kinds_snoc [] s ks = refl
kinds_snoc (a ∷ l) s ks = kinds_snoc l s (a.kind ∷ ks)

abbrev IsWidth : Line → Type 0
IsWidth l = (w : ℕ) × (l ≡ line "spot_width" (numbers (w ∷ []) ∷ []))

no-mark : (m n : ℕ) (os : List St) (g : List Bool) → Agrees L (row L (spot_row_of Field m n)) (kinds-on L os []) g → second g ≡ false → length (all_of L checkpoint os) ≡ 0
no-mark m n os [] a e = absurd a
no-mark m n os (x ∷ []) a e = absurd a.1
no-mark m n os (x ∷ y ∷ g) a e = go (length (all_of L checkpoint os)) refl
  where
    go : (k : ℕ) → length (all_of L checkpoint os) ≡ k → k ≡ 0
    go zero q = refl
    go (suc k) q = clash (sym (all-memb L checkpoint os [] (omega (arith, q))) ∙ sym a.1.0 ∙ e)

-- ## In an edition
module _ (d : Edition) where
  abbrev A : Machine (lines Field)
  A = rndf_by Field (under d true)

  abbrev rules : Law.Rules
  rules = Law.reading (law_of d)

  abbrev due : Base → D Field
  due = due_in Field d

  abbrev line_of : (k : Kind) → Says Field k → List Said
  line_of = rndf_line_in_of d

  abbrev law : St → Line
  law = rndf_law_line_in d

  -- ## Which place says 25
  record Asks (b : Base) (g : List Bool) (s : St) : Type 0 where
    w : Says Field (due b).on
    is : s ≡ say (due b).on w
    right : T ((due b).test w)
    missing : marked b g ≡ false

  asks : (b : Base) (g : List Bool) (s : St) → stands A (inside b g) s.kind ≡ none → step A (inside b g) s ≡ refuse 25 → Asks b g s
  unfolding step guard
  asks b g s h e = go (opt_at L (opts Field b) g s) refl e
    where
      guarded : (w : Says Field (due b).on) (q : Place A) → as_kind L (due b).on s ≡ some w → (t r : Bool) → (due b).test w ≡ t → marked b g ≡ r → guard t 9 (guard r 25 (next q)) ≡ refuse 25 → Asks b g s
      guarded w q i false r x y e = absurd (let z : ◌≡◌ {A = ℕ} 9 25 = cc in omega (arith, z))
      guarded w q i true true x y e = next-refused e
      guarded w q i true false x y e = record { w = w; is = as-inv L (due b).on s w i; right = subst T (sym x) tt; missing = y }

      hits : (o : Option (Says Field (due b).on)) → as_kind L (due b).on s ≡ o → hit A b g o ≡ refuse 25 → Asks b g s
      hits none i e = absurd (let z : ◌≡◌ {A = ℕ} 5 25 = cc in omega (arith, z))
      hits (some w) i e = guarded w (enter A ((due b).then w)) i ((due b).test w) (marked b g) refl refl e

      go : (x : Verdict) → opt_at L (opts Field b) g s ≡ x → settle A b g x s ≡ refuse 25 → Asks b g s
      go other q e = hits (as_kind L (due b).on s) refl e
      go (bad c) q e =
          let i : c ≡ 25 = cc in
          let j : c ≡ 9 = lenient-nine A (inside b g) s.kind s.val c h (rw q) in
          absurd (omega arith)
      go (good g') q e = next-refused e

  -- ## Which statement leads there
  spot-opens : (c : Base) (v : Says Field (due c).on) → T ((due c).test v) → (m' z' n' k' : ℕ) → (due c).then v ≡ some (first_of_spot_due m' z' n' k') → ◌≡◌ {A = St} (say (due c).on v) (say spot (part_id m' n'))
  unfolding first?
  spot-opens name_due v t m' z' n' k' e = clash (ap first? (sym (some-injective num_segments_due (first_of_spot_due m' z' n' k') e)))
  spot-opens num_segments_due v t m' z' n' k' e = clash (ap first? (sym (some-injective (num_zones_due v) (first_of_spot_due m' z' n' k') e)))
  spot-opens (num_zones_due o) v t m' z' n' k' e = clash (ap first? (sym (some-injective (first_segment_due o v) (first_of_spot_due m' z' n' k') e)))
  spot-opens (first_segment_due o z) v t m' z' n' k' e = clash (ap first? (sym (some-injective (num_lanes_due 1 (pred o) z) (first_of_spot_due m' z' n' k') e)))
  spot-opens (part_due m (suc o) z) v t m' z' n' k' e = clash (ap first? (sym (some-injective (num_lanes_due m o z) (first_of_spot_due m' z' n' k') e)))
  spot-opens (part_due m zero (suc z)) v t m' z' n' k' e = clash (ap first? (sym (some-injective (num_spots_due m z) (first_of_spot_due m' z' n' k') e)))
  spot-opens (part_due m zero zero) v t m' z' n' k' e = nothing e
  spot-opens (num_lanes_due m o z) v t m' z' n' k' e = clash (ap first? (sym (some-injective (first_lane_due m o z v) (first_of_spot_due m' z' n' k') e)))
  spot-opens (first_lane_due m o z l) v t m' z' n' k' e = clash (ap first? (sym (some-injective (num_waypoints_due m o z 1 (pred l)) (first_of_spot_due m' z' n' k') e)))
  spot-opens (lane_due m o z n zero) v t m' z' n' k' e = clash (ap first? (sym (some-injective (part_due (suc m) o z) (first_of_spot_due m' z' n' k') e)))
  spot-opens (lane_due m o z n (suc l)) v t m' z' n' k' e = clash (ap first? (sym (some-injective (num_waypoints_due m o z n l) (first_of_spot_due m' z' n' k') e)))
  spot-opens (num_waypoints_due m o z n l) v t m' z' n' k' e = clash (ap first? (sym (some-injective (first_waypoint_due m o z n l v) (first_of_spot_due m' z' n' k') e)))
  spot-opens (first_waypoint_due m o z n l w) v t m' z' n' k' e = clash (ap first? (sym (some-injective (waypoint_due m o z n l 2 (pred w)) (first_of_spot_due m' z' n' k') e)))
  spot-opens (waypoint_due m o z n l k zero) v t m' z' n' k' e = clash (ap first? (sym (some-injective (lane_due m o z (suc n) l) (first_of_spot_due m' z' n' k') e)))
  spot-opens (waypoint_due m o z n l k (suc w)) v t m' z' n' k' e = clash (ap first? (sym (some-injective (waypoint_due m o z n l (suc k) w) (first_of_spot_due m' z' n' k') e)))
  spot-opens (num_spots_due m z) v t m' z' n' k' e = clash (ap first? (sym (some-injective (perimeter_due m z v) (first_of_spot_due m' z' n' k') e)))
  spot-opens (perimeter_due m z s) v t m' z' n' k' e = clash (ap first? (sym (some-injective (num_perimeterpoints_due m z s) (first_of_spot_due m' z' n' k') e)))
  spot-opens (num_perimeterpoints_due m z s) v t m' z' n' k' e = clash (ap first? (sym (some-injective (first_perimeterpoint_due m z s v) (first_of_spot_due m' z' n' k') e)))
  spot-opens (first_perimeterpoint_due m z s p) v t m' z' n' k' e = clash (ap first? (sym (some-injective (perimeterpoint_due m z s 2 (pred p)) (first_of_spot_due m' z' n' k') e)))
  spot-opens (perimeterpoint_due m z s k zero) v t m' z' n' k' e = clash (ap first? (sym (some-injective (spot_due m z 1 s) (first_of_spot_due m' z' n' k') e)))
  spot-opens (perimeterpoint_due m z s k (suc p)) v t m' z' n' k' e = clash (ap first? (sym (some-injective (perimeterpoint_due m z s (suc k) p) (first_of_spot_due m' z' n' k') e)))
  spot-opens (spot_due m z n zero) v t m' z' n' k' e = clash (ap first? (sym (some-injective (part_due (suc m) 0 z) (first_of_spot_due m' z' n' k') e)))
  spot-opens (spot_due m z n (suc s)) v t m' z' n' k' e =
      let i : m ≡ m' = cc in
      let j : n ≡ n' = cc in
      ap (say spot) (sym (pick-form (the_part_of m n) v t).0 ∙ (λ h. part_id (i h) (j h)))
  spot-opens (first_of_spot_due m z n s) v t m' z' n' k' e = clash (ap first? (sym (some-injective (second_of_spot_due m z n s) (first_of_spot_due m' z' n' k') e)))
  spot-opens (second_of_spot_due m z n s) v t m' z' n' k' e = clash (ap first? (sym (some-injective (end_spot_due m z n s) (first_of_spot_due m' z' n' k') e)))
  spot-opens (end_spot_due m z n s) v t m' z' n' k' e = clash (ap first? (sym (some-injective (spot_due m z (suc n) s) (first_of_spot_due m' z' n' k') e)))

  -- ## What came since a place's options began
  -- what leads to a place from a base: an option, and the base stays; or the due statement
  pub taken_at : (b : Base) (g : List Bool) (s : St) (q : Place A) → step A (inside b g) s ≡ next q
      → ((g' : List Bool) × (q ≡ inside b g') × (opt_at L (opts Field b) g s ≡ good g')) ⊎ ((v : Says Field (due b).on) × (s ≡ say (due b).on v) × T ((due b).test v) × (q ≡ enter A ((due b).then v)))
  unfolding step guard
  taken_at b g s q e = go (opt_at L (opts Field b) g s) refl e
    where
      passed : (t r : Bool) (m : Place A) → guard t 9 (guard r 25 (next m)) ≡ next q → T t × (q ≡ m)
      passed true true m e = let z : m ≡ q = cc in (tt, sym z)
      passed true false m e = refused e
      passed false r m e = refused e

      due-case : (o : Option (Says Field (due b).on)) → as_kind L (due b).on s ≡ o → hit A b g o ≡ next q → (v : Says Field (due b).on) × (s ≡ say (due b).on v) × T ((due b).test v) × (q ≡ enter A ((due b).then v))
      due-case none i e = refused e
      due-case (some v) i e =
          let x = passed ((due b).test v) (A.ready b g) (enter A ((due b).then v)) e in
          (v, as-inv L (due b).on s v i, x.0, x.1)

      go : (x : Verdict) → opt_at L (opts Field b) g s ≡ x → settle A b g x s ≡ next q
          → ((g' : List Bool) × (q ≡ inside b g') × (opt_at L (opts Field b) g s ≡ good g')) ⊎ ((v : Says Field (due b).on) × (s ≡ say (due b).on v) × T ((due b).test v) × (q ≡ enter A ((due b).then v)))
      go other h e = inr (due-case (as_kind L (due b).on s) refl e)
      go (bad c) h e = refused e
      go (good g') h e = inl (g', (let z : inside b g' ≡ q = cc in sym z), h)

  record Opened (said : List St) (b : Base) (g : List Bool) : Type 0 where
    before : List St
    from : Base
    w : Says Field (due from).on
    since : List St
    is : said ≡ before ++ (say (due from).on w ∷ since)
    right : T ((due from).test w)
    leads : (due from).then w ≡ some b
    fine : Fine L (opts Field b) [] since
    flags : Agrees L (opts Field b) (kinds-on L since []) g

  abbrev History : List St → Place A → Type 0
  History said over = Unit {0}
  History said (inside b g) = (b ≡ name_due) ⊎ Opened said b g

  fresh : (said : List St) (b : Base) (w : Says Field (due b).on) → T ((due b).test w) → (o : Option Base) → (due b).then w ≡ o → History (said ++ (say (due b).on w ∷ [])) (enter A o)
  fresh said b w t none e = tt
  fresh said b w t (some c) e = inr (record { before = said; from = b; w = w; since = []; is = refl; right = t; leads = e; fine = tt; flags = clear-agrees L (opts Field c) })

  history-step : (said : List St) (p q : Place A) (s : St) → History said p → step A p s ≡ next q → History (said ++ (s ∷ [])) q
  unfolding step
  history-step said over q s h e = refused e
  history-step said (inside b g) q s h e = go (taken_at b g s q e)
    where
      stays : (g' : List Bool) → opt_at L (opts Field b) g s ≡ good g' → (b ≡ name_due) ⊎ Opened said b g → (b ≡ name_due) ⊎ Opened (said ++ (s ∷ [])) b g'
      stays g' o (inl i) = inl i
      stays g' o (inr h) =
          let t = told L (opts Field b) (kinds-on L h.since []) g g' s (differ A b) h.flags o in
          inr (record {
            before = h.before;
            from = h.from;
            w = h.w;
            since = h.since ++ (s ∷ []);
            is = ap (λ (l : List St). l ++ (s ∷ [])) h.is ∙ append_assoc h.before (say (due h.from).on h.w ∷ h.since) (s ∷ []);
            right = h.right;
            leads = h.leads;
            fine = fine_snoc (opts Field b) [] h.since s h.fine t.0;
            flags = subst (λ (ks : List Kind). Agrees L (opts Field b) ks g') (sym (kinds_snoc h.since s [])) t.1;
          })

      go : ((g' : List Bool) × (q ≡ inside b g') × (opt_at L (opts Field b) g s ≡ good g')) ⊎ ((v : Says Field (due b).on) × (s ≡ say (due b).on v) × T ((due b).test v) × (q ≡ enter A ((due b).then v))) → History (said ++ (s ∷ [])) q
      go (inl (g', i, o)) = subst (History (said ++ (s ∷ []))) (sym i) (stays g' o h)
      go (inr (v, i, t, j)) = subst (History (said ++ (s ∷ []))) (sym j) (subst (λ (s : St). History (said ++ (s ∷ [])) (enter A ((due b).then v))) (sym i) (fresh said b v t ((due b).then v) refl))

  history-run : (said more : List St) (p q : Place A) → History said p → run A p more ≡ next q → History (said ++ more) q
  history-run said [] p q h e = subst (λ (l : List St). History l q) (sym (append-nil said)) (subst (History said) (nil-run A p q e) h)
  history-run said (s ∷ more) p q h e =
      let x = run-one A p q s more e in
      subst (λ (l : List St). History l q) (append_assoc said (s ∷ []) more) (history-run (said ++ (s ∷ [])) more x.0 q (history-step said p x.0 s h x.1) x.2)

  -- ## The options of a bare spot are widths
  widths : (os : List St) → Each (λ s. Among s.kind (spot_width_of ∷ checkpoint ∷ [])) os → length (all_of L checkpoint os) ≡ 0 → Each IsWidth (map law os)
  unfolding rndf_line_in_of
  widths [] a e = tt
  widths (s ∷ os) a e = go a.0 (widths os a.1)
    where
      marks : (k : Kind) → k ≡ checkpoint → (v : Says Field k) → length (all_of L checkpoint (say k v ∷ os)) ≡ 0 → ⊥
      marks k q = subst (λ (k : Kind). (v : Says Field k) → length (all_of L checkpoint (say k v ∷ os)) ≡ 0 → ⊥) (sym q) (λ v e. omega (arith, e))

      width : (k : Kind) → k ≡ spot_width_of → (v : Says Field k) → IsWidth (law (say k v))
      width k q = subst (λ (k : Kind). (v : Says Field k) → IsWidth (law (say k v))) (sym q) (λ v. (v, refl))

      behind : s.kind ≡ spot_width_of → length (all_of L checkpoint os) ≡ 0
      behind q = rw (all_none L checkpoint s os (none_of L checkpoint s (λ r. let z : spot_width_of ≡ checkpoint = sym q ∙ r in absurd (let y : ◌≡◌ {A = ℕ} 0 1 = cc in omega arith)))) at e

      go : (s.kind ≡ spot_width_of) ⊎ ((s.kind ≡ checkpoint) ⊎ ⊥) → (length (all_of L checkpoint os) ≡ 0 → Each IsWidth (map law os)) → Each IsWidth (map law (s ∷ os))
      go (inl q) ih = (width s.kind q s.val, ih (behind q))
      go (inr (inl q)) ih = absurd (marks s.kind q s.val e)
      go (inr (inr x)) ih = absurd x

  -- ## Together
  its-first : (m n : ℕ) (v : PointLine) → T (tested (the_point_of m n 1) v) → law (say point v) ≡ numbers (m ∷ n ∷ 1 ∷ []) ∷ coordinate v.position.latitude ∷ coordinate v.position.longitude ∷ []
  unfolding rndf_line_in_of
  its-first m n v t = ap (λ (v : PointLine). law (say point v)) (sym (pick-form (the_point_of m n 1) v t).0)

  at-spot : (said : List St) (m z n k : ℕ) (g : List Bool) (s : St) → Opened said (first_of_spot_due m z n k) g → second g ≡ false → (v : PointLine) → s ≡ say point v → T (tested (the_point_of m n 1) v) → BareSpot (laws line_of said) (law s)
  unfolding rndf_line_in_of
  at-spot said m z n k g s o e v i t =
      let opener = say (due o.from).on o.w in
      let h = fine-given L (spot_row_of Field m n) o.since tt o.fine in
      record {
        m = m;
        n = n;
        earlier = laws line_of o.before;
        options = laws line_of o.since;
        was = ap (map law) o.is ∙ map-append law o.before (opener ∷ o.since) ∙ ap (λ (s : St). laws line_of o.before ++ (law s ∷ laws line_of o.since)) (spot-opens o.from o.w o.right m z n k o.leads);
        widths = widths o.since h.1.1 (no-mark m n o.since g o.flags e);
        first = v.position;
        is = ap law i ∙ its-first m n v t;
      }

  bare-at : (said : List St) (p : Place A) (s : St) → run A (at A name_due) said ≡ next p → stands A p s.kind ≡ none → step A p s ≡ refuse 25 → BareSpot (laws line_of said) (law s)
  unfolding stands
  bare-at said over s c h e = nothing (sym h)
  bare-at said (inside b g) s c h e = go (bare-only b g a.missing) (history-run [] said (at A name_due) (inside b g) (inl refl) c)
    where
      a : Asks b g s
      a = asks b g s h e

      moved : (b : Base) (m z n k : ℕ) → b ≡ first_of_spot_due m z n k → second g ≡ false → Asks b g s → Opened said b g → BareSpot (laws line_of said) (law s)
      moved b m z n k i = subst (λ (b : Base). second g ≡ false → Asks b g s → Opened said b g → BareSpot (laws line_of said) (law s)) (sym i) (λ e a o. at-spot said m z n k g s o e a.w a.is a.right)

      go : (m : ℕ) × (z : ℕ) × (n : ℕ) × (k : ℕ) × (b ≡ first_of_spot_due m z n k) × (second g ≡ false) → (b ≡ name_due) ⊎ Opened said b g → BareSpot (laws line_of said) (law s)
      go (m, z, n, k, i, e) (inl j) = let q : name_due ≡ first_of_spot_due m z n k = sym j ∙ i in absurd (let y : ◌≡◌ {A = ℕ} 0 1 = cc in omega arith)
      go (m, z, n, k, i, e) (inr o) = moved b m z n k i e a o

  -- THE THEOREM. L8: "a spot whose options give no checkpoint is refused at its first waypoint's line": where 25 is told, the lines before end in `spot` m.n and its width if it has one, and the line says the waypoint m.n.1
  pub bare-spot : (text : Bytes) (i : ℕ) (b : BadLine rules Law.SpellsNetwork text i 25) → (l : Line) × Law.Says rules 0 b.this l × BareSpot b.front l
  bare-spot text i b =
      let x = begins-back A (rndf_lexis_in d) line_of (SpellsNetworkBy (under d true)) Law.SpellsNetwork name_due (rndf-needs_in d) b.front b.begins in
      let f = fault-back A (rndf_lexis_in d) line_of (SpellsNetworkBy (under d true)) (SpellsNetworkBy (under d false)) Law.SpellsNetwork name_due (rndf-needs_in d) (rndf-lenient-needs_in d) x.0 x.1 x.3 b.this 25 (subst (λ (front : List Line). Faults.Fault rules Law.SpellsNetwork front b.this 25) x.2 b.fault) in
      let y = go x.0 x.1 x.3 25 f refl in
      (y.0, y.1, subst (λ (front : List Line). BareSpot front y.0) (sym x.2) y.2)
    where
      go : (said : List St) (p : Place A) → run A (at A name_due) said ≡ next p → (n : ℕ) → Fault A (rndf_lexis_in d) line_of p 0 b.this n → n ≡ 25 → (l : Line) × Law.Says rules 0 b.this l × BareSpot (laws line_of said) l
      go said p c n (form e (long h)) q = absurd (omega arith)
      go said p c n (form e (comment h d)) q = absurd (omega arith)
      go said p c n (form e (byte h d f)) q = absurd (omega arith)
      go said p c n (unknown h e) q = absurd (omega arith)
      go said p c n (misplaced h e s) q = absurd (omega arith)
      go said p c n (given_again h e s) q = absurd (omega arith)
      go said p c n (miscounted h d) q = absurd (omega arith)
      go said p c n (misspelt h d m) q = absurd (omega arith)
      go said p c n (forbidden h v s e) q = absurd (omega arith)
      go said p c n (unmarked {f = f} {fs = fs} {k = k} h v s e) q =
          (law (say k v), record { content = h.fields.content; fields = f ∷ fs; ended = h.fields.ended; fielded = h.fields.fields; spelled = fields-to d (f ∷ fs) (line_of k v) (rndf-all d k v) s }, bare-at said p (say k v) c h.here e)
