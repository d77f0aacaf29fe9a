-- The walk that names parts by their last points: over the lines that spell a network it names its lanes, and, where y may be 0, its perimeters. Assumes nothing.
use mathlib.Core.Path.{◌≡◌, refl, sym, ap, ap₂, subst, ◌∙◌}
use mathlib.Core.List.{List, [], ◌∷◌, ◌++◌, append-nil}
use mathlib.Core.Bool.{Bool, true, false, not, ◌||◌}
use Prim.Native.Nat.{ℕ, suc, ◌+◌, ◌≤◌}
use native.Mathlib.Omega.{arith}
use lib.ListN.{length}
use lib.Dec.{eqb}
use Rattle.terms.specs.Ascii.{Bytes, ascii}
use Rattle.terms.specs.Words.{pick, perhaps}
use Rattle.terms.proofs.Tests.{clash}
use Rattle.line.specs.Line.{Field}
use Rattle.line.specs.Lines.{lines_of}
use Rattle.line.proofs.Cuts.{cut-is}
use Rattle.number.specs.Executable.{triple_of}
use Rattle.number.specs.declared.Id.{Id}
use Rattle.law.specs.Network.{Edition, PointId, Position, Checkpoint, Lane, Segment, Zone, Network, Line, word, numbers, coordinate, line, points, reading, Says, SpellsNetwork, SpellsText}
use Rattle.law.specs.Tables.{gather}
use Rattle.law.specs.Faults.{waypoint, border}
use Rattle.judge.specs.RndfLine.{rndf_kind}
use Rattle.find_line.specs.FoundLines.{rndf_line_kind_of}
use Rattle.expected_references.specs.Named.{field_on_of, id_of, point_of, no_id, kept_id_of, ends_part_of, parts_from}
use Rattle.expected_named.proofs.LineFields.{blank-kind, word-kind, point-kind, point-is}
use Rattle.expected_named.proofs.KeywordKinds.{quiet, kind-segment, kind-checkpoint, kind-end-lane, kind-zone, kind-end-perimeter, kind-end-spot}
use Rattle.expected_named.proofs.Moves as M
use Rattle.expected_named.proofs.Networks as W

abbrev pub id : (m n i : ℕ) → Id
id m n i = record { x = m; y = n; z = i }

abbrev pub place : (m n i : ℕ) → PointId
place m n i = record { x = m; y = n; z = i }

no_end : (k : ℕ) → quiet k ≡ true → (eqb k 17 ≡ false) × (eqb k 24 ≡ false) × (eqb k 29 ≡ false)
no_end k q = go (eqb k 5) (eqb k 14) (eqb k 17) (eqb k 18) (eqb k 24) (eqb k 29) q
  where
    go : (a b c d e f : Bool) → not (a || (b || (c || (d || (e || f))))) ≡ true → (c ≡ false) × (e ≡ false) × (f ≡ false)
    go true b c d e f h = clash (sym h)
    go false true c d e f h = clash (sym h)
    go false false true d e f h = clash (sym h)
    go false false false true e f h = clash (sym h)
    go false false false false true f h = clash (sym h)
    go false false false false false true h = clash (sym h)
    go false false false false false false h = (refl, refl, refl)

module _ (d : Edition) (low : ℕ) where
  abbrev pub walk : Id → List Bytes → List PointId
  walk = parts_from low

  -- ## One line
  passed : (last : Id) (l : Bytes) (rest : List Bytes) (k : ℕ) → rndf_line_kind_of l ≡ k → eqb k 17 ≡ false → eqb k 24 ≡ false → eqb k 29 ≡ false → walk last (l ∷ rest) ≡ walk last rest
  unfolding parts_from kept_id_of ends_part_of
  passed last l rest k e a b c = rw (e, a, b, c) refl

  a_point : (last : Id) (l : Bytes) (rest : List Bytes) → rndf_line_kind_of l ≡ 29 → walk last (l ∷ rest) ≡ walk (id_of (triple_of (field_on_of 0 l))) rest
  unfolding parts_from kept_id_of ends_part_of
  a_point last l rest e = rw e refl

  lane-end : (last : Id) (l : Bytes) (rest : List Bytes) → rndf_line_kind_of l ≡ 17 → walk last (l ∷ rest) ≡ point_of last ∷ walk last rest
  unfolding parts_from kept_id_of ends_part_of
  lane-end last l rest e = rw e refl

  -- a perimeter's, where y may be 0
  abbrev pub perimeter : PointId → List PointId
  perimeter a = pick (eqb low 0) (a ∷ []) []

  border-end : (last : Id) (l : Bytes) (rest : List Bytes) → rndf_line_kind_of l ≡ 24 → walk last (l ∷ rest) ≡ perimeter (point_of last) ++ walk last rest
  unfolding parts_from kept_id_of ends_part_of
  border-end last l rest e = rw e (go (eqb low 0))
    where
      go : (b : Bool) → pick b (point_of last ∷ parts_from low last rest) (parts_from low last rest) ≡ pick b (point_of last ∷ []) [] ++ parts_from low last rest
      go true = refl
      go false = refl

  pub passes : (s : Id) (start : ℕ) (l : Bytes) (rest : List Bytes) → Says (reading d) start l [] → walk s (l ∷ rest) ≡ walk s rest
  passes s start l rest h = passed s l rest 30 (blank-kind d h) refl refl refl

  abbrev Gives : List PointId → List Line → Type 0
  Gives = M.Gives d walk

  silent : (w : Bytes) (k : ℕ) (others : Line) → rndf_kind w ≡ k → eqb k 17 ≡ false → eqb k 24 ≡ false → eqb k 29 ≡ false → Gives [] ((word w ∷ others) ∷ [])
  silent w k others e a b c s = (s, M.one d walk passes s s [] (word w) others (λ start l rest h. passed s l rest k (word-kind d w others h ∙ e) a b c))

  -- ## Points, and the end behind them
  abbrev after : (m n i : ℕ) → Id → List Position → Id
  after m n i s [] = s
  after m n i s (p ∷ ps) = after m n (suc i) (id m n i) ps

  after_is : (m n i : ℕ) (s : Id) (p : Position) (ps : List Position) → after m n i s (p ∷ ps) ≡ id m n (i + length ps)
  after_is m n i s p [] =
      let e : i ≡ i + 0 = omega arith in
      ap (id m n) e
  after_is m n i s p (q ∷ ps) =
      let e : suc i + length ps ≡ i + suc (length ps) = omega arith in
      after_is m n (suc i) (id m n i) q ps ∙ ap (id m n) e

  last-is : (m n : ℕ) (s : Id) (ps : List Position) → 1 ≤ length ps → point_of (after m n 1 s ps) ≡ place m n (length ps)
  last-is m n s [] h = absurd (omega arith)
  last-is m n s (p ∷ ps) h =
      let e : 1 + length ps ≡ suc (length ps) = omega arith in
      ap point_of (after_is m n 1 s p ps) ∙ ap (place m n) e

  points-move : (m n i : ℕ) (s : Id) (ps : List Position) → M.Moves d walk s [] (after m n i s ps) (points m n i ps)
  unfolding points
  points-move m n i s [] = M.stays d walk passes s
  points-move m n i s (p ∷ ps) =
      let others = coordinate p.latitude ∷ coordinate p.longitude ∷ [] in
      M.both d walk ((numbers (m ∷ n ∷ i ∷ []) ∷ others) ∷ []) (points m n (suc i) ps)
      (M.one d walk passes s (id m n i) [] (numbers (m ∷ n ∷ i ∷ [])) others (λ start l rest h. a_point s l rest (point-kind d m (n ∷ i ∷ []) others h) ∙ ap (λ t. walk (id_of t) rest) (point-is d m n i others h)))
      (points-move m n (suc i) (id m n i) ps)

  ended : (m n : ℕ) (ps : List Position) (w : Bytes) (out : PointId → List PointId) → 1 ≤ length ps → ((s : Id) (start : ℕ) (l : Bytes) (rest : List Bytes) → Says (reading d) start l (word w ∷ []) → walk s (l ∷ rest) ≡ out (point_of s) ++ walk s rest)
      → Gives (out (place m n (length ps))) (points m n 1 ps ++ ((word w ∷ []) ∷ []))
  ended m n ps w out some f s =
      let t = after m n 1 s ps in
      (t, subst (λ (a : PointId). M.Moves d walk s (out a) t (points m n 1 ps ++ ((word w ∷ []) ∷ []))) (last-is m n s ps some) (M.both d walk (points m n 1 ps) ((word w ∷ []) ∷ []) (points-move m n 1 s ps) (M.one d walk passes t t (out (point_of t)) (word w) [] (f t))))

  spot-ended : (m n : ℕ) (ps : List Position) → Gives [] (points m n 1 ps ++ (line "end_spot" [] ∷ []))
  spot-ended m n ps = M.gives_both d walk (points m n 1 ps) (line "end_spot" [] ∷ []) (λ s. (after m n 1 s ps, points-move m n 1 s ps)) (silent (ascii "end_spot") 27 [] kind-end-spot refl refl refl)

  leaves : W.Leaves d walk passes
  leaves = record {
    on-segment = λ m. [];
    on-zone = λ m. [];
    on-checkpoint = λ c. [];
    on-lane = λ m n count. place m n count ∷ [];
    on-border = λ m count. perimeter (place m 0 count);
    quiet-gives = λ w k others e q. let n = no_end k q in silent w k others e n.0 n.1 n.2;
    segment-gives = λ m. silent (ascii "segment") 5 (numbers (m ∷ []) ∷ []) kind-segment refl refl refl;
    zone-gives = λ m. silent (ascii "zone") 18 (numbers (m ∷ []) ∷ []) kind-zone refl refl refl;
    checkpoint-gives = λ m n c. silent (ascii "checkpoint") 14 (numbers (m ∷ n ∷ c.waypoint ∷ []) ∷ numbers (c.number ∷ []) ∷ []) kind-checkpoint refl refl refl;
    lane-gives = λ m n ps some. ended m n ps (ascii "end_lane") (λ a. a ∷ []) some (λ s start l rest h. lane-end s l rest (word-kind d (ascii "end_lane") [] h ∙ kind-end-lane));
    border-gives = λ m ps some. ended m 0 ps (ascii "end_perimeter") perimeter some (λ s start l rest h. border-end s l rest (word-kind d (ascii "end_perimeter") [] h ∙ kind-end-perimeter));
    spot-gives = spot-ended;
  }

  -- ## The whole
  abbrev pub lane_part_of : (m i : ℕ) → Lane → List PointId
  lane_part_of m i a = place m i (length a.points) ∷ []

  abbrev pub segment-parts : ℕ → Segment Field → List PointId
  segment-parts m s = M.in_turn (lane_part_of m) 1 s.lanes

  abbrev pub zone-parts : ℕ → Zone Field → List PointId
  zone-parts m z = perimeter (place m 0 (length z.border.points))

  abbrev pub the_parts_of : Network Field → List PointId
  the_parts_of n = M.in_turn segment-parts 1 n.segments ++ M.in_turn zone-parts (suc (length n.segments)) n.zones

  no-numbers : (l : List Checkpoint) → ◌≡◌ {A = List PointId} (gather (λ c. []) l) []
  no-numbers [] = refl
  no-numbers (c ∷ l) = no-numbers l

  all-parts : (n : Network Field) → W.network-out d walk passes leaves n ≡ the_parts_of n
  unfolding leaves
  all-parts n =
      ap₂ ◌++◌
      (M.turns_same _ segment-parts (λ m s. M.turns_same _ (lane_part_of m) (λ i a. ap (λ (x : List PointId). x ++ lane_part_of m i a) (no-numbers a.checkpoints)) 1 s.lanes) 1 n.segments)
      (M.turns_same _ zone-parts (λ m z. ap (◌++◌ (zone-parts m z)) (M.turns-none _ (λ i a. no-numbers (perhaps a.checkpoint)) 1 z.spots) ∙ append-nil (zone-parts m z)) (suc (length n.segments)) n.zones)

  pub parts_are : (n : Network Field) (text : Bytes) → SpellsText (reading d) SpellsNetwork n text → parts_from low no_id (lines_of text) ≡ the_parts_of n
  unfolding parts_from
  parts_are n text h =
      let g = W.network-is d walk passes leaves n h.said h.net no_id in
      ap (parts_from low no_id) (cut-is h.cut ∙ sym (append-nil h.lines)) ∙ g.1.is h.each [] ∙ append-nil (W.network-out d walk passes leaves n) ∙ all-parts n
