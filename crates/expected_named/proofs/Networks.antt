-- A walk over the lines that spell a network, part by part: what each part gives, one behind the other. For every walk that goes by keywords. Assumes nothing.
use mathlib.Core.Path.{◌≡◌, refl, sym, subst}
use mathlib.Core.List.{List, [], ◌∷◌, ◌++◌, map, append-nil}
use mathlib.Core.Option.{Option}
use mathlib.Core.Bool.{true}
use Prim.Native.Nat.{ℕ, suc, ◌≤◌}
use lib.ListN.{length}
use Rattle.terms.specs.Ascii.{Bytes, ascii}
use Rattle.terms.specs.Words.{Each, perhaps}
use Rattle.line.specs.Line.{Field}
use Rattle.law.specs.Network.{Edition, Position, Checkpoint, Lane, Segment, Spot, Perimeter, Zone, Network, Line, word, name, numbers, boundary, reading, line, checkpoint_line_of, exit_line, points, AnyOrder, lane_options, spot_options, file_options, SpellsLane, SpellsSegment, SpellsPerimeter, SpellsSpot, SpellsZone, SpellsNetwork, Says}
use Rattle.law.specs.Tables.{gather}
use Rattle.judge.specs.RndfLine.{rndf_kind}
use Rattle.expected_named.proofs.KeywordKinds.{quiet, kind_creation_date, kind-end-file, kind-end-segment, kind-end-zone, kind-exit, kind_format-version, kind-lane, kind-lane-width, kind-left-boundary, kind_num-lanes, kind_num-perimeterpoints, kind_num-segments, kind_num-spots, kind_num-waypoints, kind_num-zones, kind-perimeter, kind-right-boundary, kind-rndf-name, kind-segment-name, kind-spot, kind-spot-width, kind-stop, kind-zone-name}
use Rattle.expected_named.proofs.Moves as M

module _ (d : Edition) {S X : Type 0} (run : S → List Bytes → List X) (passes : (s : S) (start : ℕ) (l : Bytes) (rest : List Bytes) → Says (reading d) start l [] → run s (l ∷ rest) ≡ run s rest) where
  abbrev Gives : List X → List Line → Type 0
  Gives = M.Gives d run

  abbrev Quiet : Line → Type 0
  Quiet = M.Quiet d run

  -- what single lines give, and a part's points with its end
  pub record Leaves : Type 0 where
    pub on-segment : ℕ → List X
    pub on-zone : ℕ → List X
    pub on-checkpoint : Checkpoint → List X
    pub on-lane : (m n count : ℕ) → List X
    pub on-border : (m count : ℕ) → List X
    pub quiet-gives : (w : Bytes) (k : ℕ) (others : Line) → rndf_kind w ≡ k → quiet k ≡ true → Gives [] ((word w ∷ others) ∷ [])
    pub segment-gives : (m : ℕ) → Gives (on-segment m) (line "segment" (numbers (m ∷ []) ∷ []) ∷ [])
    pub zone-gives : (m : ℕ) → Gives (on-zone m) (line "zone" (numbers (m ∷ []) ∷ []) ∷ [])
    pub checkpoint-gives : (m n : ℕ) (c : Checkpoint) → Gives (on-checkpoint c) (checkpoint_line_of m n c ∷ [])
    pub lane-gives : (m n : ℕ) (ps : List Position) → 1 ≤ length ps → Gives (on-lane m n (length ps)) (points m n 1 ps ++ (line "end_lane" [] ∷ []))
    pub border-gives : (m : ℕ) (ps : List Position) → 1 ≤ length ps → Gives (on-border m (length ps)) (points m 0 1 ps ++ (line "end_perimeter" [] ∷ []))
    pub spot-gives : (m n : ℕ) (ps : List Position) → Gives [] (points m n 1 ps ++ (line "end_spot" [] ∷ []))

  module _ (L : Leaves) where
    both : {x y : List X} (a b : List Line) → Gives x a → Gives y b → Gives (x ++ y) (a ++ b)
    both = M.gives_both d run

    -- ## What each part gives
    abbrev pub numbered : List Checkpoint → List X
    numbered = gather L.on-checkpoint

    abbrev pub lane-out : (m n : ℕ) → Lane → List X
    lane-out m n a = numbered a.checkpoints ++ L.on-lane m n (length a.points)

    abbrev pub spot_out : (m n : ℕ) → Spot → List X
    spot_out m n a = numbered (perhaps a.checkpoint)

    abbrev pub turn : {A : Type 0} → (ℕ → A → List X) → ℕ → List A → List X
    turn = M.in_turn

    abbrev pub segment-out : ℕ → Segment Field → List X
    segment-out m a = L.on-segment m ++ turn (lane-out m) 1 a.lanes

    abbrev pub zone-out : ℕ → Zone Field → List X
    zone-out m a = L.on-zone m ++ (L.on-border m (length a.border.points) ++ turn (spot_out m) 1 a.spots)

    abbrev pub network-out : Network Field → List X
    network-out n = turn segment-out 1 n.segments ++ turn zone-out (suc (length n.segments)) n.zones

    -- ## Options
    all_quiet : {A : Type 0} (g : A → Line) → ((a : A) → Quiet (g a)) → (l : List A) → Each Quiet (map g l)
    all_quiet = M.each-quiet d run passes

    checkpoints-out : (m n : ℕ) (l : List Checkpoint) → M.Outs d run passes (map (checkpoint_line_of m n) l) (numbered l)
    checkpoints-out m n [] = M.nothing-out
    checkpoints-out m n (c ∷ l) = M.next-out (L.checkpoint-gives m n c) (checkpoints-out m n l)

    lane-opts : (m n : ℕ) (a : Lane) (options : List Line) → AnyOrder (lane_options m n a) options → Gives (numbered a.checkpoints) options
    lane-opts m n a options g =
        let stops = all_quiet (λ i. line "stop" (numbers (m ∷ n ∷ i ∷ []) ∷ [])) (λ i. L.quiet-gives (ascii "stop") 15 (numbers (m ∷ n ∷ i ∷ []) ∷ []) kind-stop refl) a.stops in
        let exits = all_quiet (exit_line m n) (λ e. L.quiet-gives (ascii "exit") 16 _ kind-exit refl) a.exits in
        let width = all_quiet (λ w. line "lane_width" (numbers (w ∷ []) ∷ [])) (λ w. L.quiet-gives (ascii "lane_width") 11 (numbers (w ∷ []) ∷ []) kind-lane-width refl) (perhaps a.width) in
        let left = all_quiet (λ b. line "left_boundary" (boundary b ∷ [])) (λ b. L.quiet-gives (ascii "left_boundary") 12 (boundary b ∷ []) kind-left-boundary refl) (perhaps a.left) in
        let right = all_quiet (λ b. line "right_boundary" (boundary b ∷ [])) (λ b. L.quiet-gives (ascii "right_boundary") 13 (boundary b ∷ []) kind-right-boundary refl) (perhaps a.right) in
        let rest = M.any-quiet d run passes (map (λ i. line "stop" (numbers (m ∷ n ∷ i ∷ []) ∷ [])) a.stops ∷ map (exit_line m n) a.exits ∷ []) g.1.1.1.0 (stops, (exits, tt)) g.1.1.1.1 in
        M.outs_give d run passes (M.mixed-right d run passes width (M.mixed-right d run passes left (M.mixed-right d run passes right (M.mixed-left d run passes (checkpoints-out m n a.checkpoints) rest g.1.1.1.2) g.1.1.2) g.1.2) g.2)

    spot-opts : (m n : ℕ) (a : Spot) (options : List Line) → AnyOrder (spot_options m n a) options → Gives (numbered (perhaps a.checkpoint)) options
    spot-opts m n a options g =
        let width = all_quiet (λ w. line "spot_width" (numbers (w ∷ []) ∷ [])) (λ w. L.quiet-gives (ascii "spot_width") 26 (numbers (w ∷ []) ∷ []) kind-spot-width refl) (perhaps a.width) in
        M.outs_give d run passes (M.mixed-right d run passes width (M.mixed-left d run passes (checkpoints-out m n (perhaps a.checkpoint)) (M.any-quiet d run passes [] g.1.0 tt g.1.1) g.1.2) g.2)

    file-opts : (version date : Option Field) (options : List Line) → AnyOrder (file_options version date) options → Gives [] options
    file-opts version date options g =
        let v = all_quiet (λ v. line "format_version" (name v ∷ [])) (λ v. L.quiet-gives (ascii "format_version") 3 (name v ∷ []) kind_format-version refl) (perhaps version) in
        let c = all_quiet (λ v. line "creation_date" (name v ∷ [])) (λ v. L.quiet-gives (ascii "creation_date") 4 (name v ∷ []) kind_creation_date refl) (perhaps date) in
        M.quiet_all d run passes options (M.any-quiet d run passes (file_options version date) options (v, (c, tt)) g)

    names : (w : Bytes) (k : ℕ) → rndf_kind w ≡ k → quiet k ≡ true → (o : Option Field) → Gives [] (map (λ v. word w ∷ name v ∷ []) (perhaps o))
    names w k e q o = M.quiet_all d run passes (map (λ v. word w ∷ name v ∷ []) (perhaps o)) (all_quiet (λ v. word w ∷ name v ∷ []) (λ v. L.quiet-gives w k (name v ∷ []) e q) (perhaps o))

    -- ## Parts
    lane-is : (m n : ℕ) (a : Lane) (l : List Line) → SpellsLane (reading d) m n a l → Gives (lane-out m n a) l
    lane-is m n a l h =
        subst (Gives (lane-out m n a)) (sym h.spelled) (
        both (line "lane" (numbers (m ∷ n ∷ []) ∷ []) ∷ []) _ (L.quiet-gives (ascii "lane") 9 (numbers (m ∷ n ∷ []) ∷ []) kind-lane refl) (
        both (line "num_waypoints" (numbers (length a.points ∷ []) ∷ []) ∷ []) _ (L.quiet-gives (ascii "num_waypoints") 10 (numbers (length a.points ∷ []) ∷ []) kind_num-waypoints refl) (
        both h.options (points m n 1 a.points ++ (line "end_lane" [] ∷ [])) (lane-opts m n a h.options h.given) (L.lane-gives m n a.points h.good.count.low))))

    segment-is : (m : ℕ) (a : Segment Field) (l : List Line) → SpellsSegment (reading d) m a l → Gives (segment-out m a) l
    segment-is m a l h =
        subst (Gives (segment-out m a)) (sym h.spelled) (
        both (line "segment" (numbers (m ∷ []) ∷ []) ∷ []) _ (L.segment-gives m) (
        both (line "num_lanes" (numbers (length a.lanes ∷ []) ∷ []) ∷ []) _ (L.quiet-gives (ascii "num_lanes") 6 (numbers (length a.lanes ∷ []) ∷ []) kind_num-lanes refl) (
        both (map (λ v. line "segment_name" (name v ∷ [])) (perhaps a.name)) _ (names (ascii "segment_name") 7 kind-segment-name refl a.name) (
        ended (both h.lanes (line "end_segment" [] ∷ []) (M.turns_give d run passes (lane-out m) (lane-is m) h.each) (L.quiet-gives (ascii "end_segment") 8 [] kind-end-segment refl))))))
      where
        ended : Gives (turn (lane-out m) 1 a.lanes ++ []) (h.lanes ++ (line "end_segment" [] ∷ [])) → Gives (turn (lane-out m) 1 a.lanes) (h.lanes ++ (line "end_segment" [] ∷ []))
        ended g = subst (λ o. Gives o (h.lanes ++ (line "end_segment" [] ∷ []))) (append-nil (turn (lane-out m) 1 a.lanes)) g

    perimeter-is : (m : ℕ) (a : Perimeter) (l : List Line) → SpellsPerimeter (reading d) m a l → Gives (L.on-border m (length a.points)) l
    perimeter-is m a l h =
        subst (Gives (L.on-border m (length a.points))) (sym h.spelled) (
        both (line "perimeter" (numbers (m ∷ 0 ∷ []) ∷ []) ∷ []) _ (L.quiet-gives (ascii "perimeter") 22 (numbers (m ∷ 0 ∷ []) ∷ []) kind-perimeter refl) (
        both (line "num_perimeterpoints" (numbers (length a.points ∷ []) ∷ []) ∷ []) _ (L.quiet-gives (ascii "num_perimeterpoints") 23 (numbers (length a.points ∷ []) ∷ []) kind_num-perimeterpoints refl) (
        both (map (exit_line m 0) a.exits) (points m 0 1 a.points ++ (line "end_perimeter" [] ∷ [])) (M.quiet_all d run passes (map (exit_line m 0) a.exits) (all_quiet (exit_line m 0) (λ e. L.quiet-gives (ascii "exit") 16 _ kind-exit refl) a.exits)) (L.border-gives m a.points h.good.count.low))))

    spot_is : (m n : ℕ) (a : Spot) (l : List Line) → SpellsSpot (reading d) m n a l → Gives (spot_out m n a) l
    spot_is m n a l h =
        subst (Gives (spot_out m n a)) (sym h.spelled) (
        both (line "spot" (numbers (m ∷ n ∷ []) ∷ []) ∷ []) _ (L.quiet-gives (ascii "spot") 25 (numbers (m ∷ n ∷ []) ∷ []) kind-spot refl) (
        ended (both h.options (points m n 1 (a.first ∷ a.second ∷ []) ++ (line "end_spot" [] ∷ [])) (spot-opts m n a h.options h.given) (L.spot-gives m n (a.first ∷ a.second ∷ [])))))
      where
        lines : List Line
        lines = h.options ++ (points m n 1 (a.first ∷ a.second ∷ []) ++ (line "end_spot" [] ∷ []))

        ended : Gives (spot_out m n a ++ []) lines → Gives (spot_out m n a) lines
        ended g = subst (λ o. Gives o lines) (append-nil (spot_out m n a)) g

    zone-is : (m : ℕ) (a : Zone Field) (l : List Line) → SpellsZone (reading d) m a l → Gives (zone-out m a) l
    zone-is m a l h =
        subst (Gives (zone-out m a)) (sym h.spelled) (
        both (line "zone" (numbers (m ∷ []) ∷ []) ∷ []) _ (L.zone-gives m) (
        both (line "num_spots" (numbers (length a.spots ∷ []) ∷ []) ∷ []) _ (L.quiet-gives (ascii "num_spots") 19 (numbers (length a.spots ∷ []) ∷ []) kind_num-spots refl) (
        both (map (λ v. line "zone_name" (name v ∷ [])) (perhaps a.name)) _ (names (ascii "zone_name") 20 kind-zone-name refl a.name) (
        both h.border (h.spots ++ (line "end_zone" [] ∷ [])) (perimeter-is m a.border h.border h.bordered) (
        ended (both h.spots (line "end_zone" [] ∷ []) (M.turns_give d run passes (spot_out m) (spot_is m) h.each) (L.quiet-gives (ascii "end_zone") 21 [] kind-end-zone refl)))))))
      where
        ended : Gives (turn (spot_out m) 1 a.spots ++ []) (h.spots ++ (line "end_zone" [] ∷ [])) → Gives (turn (spot_out m) 1 a.spots) (h.spots ++ (line "end_zone" [] ∷ []))
        ended g = subst (λ o. Gives o (h.spots ++ (line "end_zone" [] ∷ []))) (append-nil (turn (spot_out m) 1 a.spots)) g

    -- ## The whole
    pub network-is : (n : Network Field) (l : List Line) → SpellsNetwork (reading d) n l → Gives (network-out n) l
    network-is n l h =
        subst (Gives (network-out n)) (sym h.spelled) (
        both (line "RNDF_name" (name n.name ∷ []) ∷ []) _ (L.quiet-gives (ascii "RNDF_name") 0 (name n.name ∷ []) kind-rndf-name refl) (
        both (line "num_segments" (numbers (length n.segments ∷ []) ∷ []) ∷ []) _ (L.quiet-gives (ascii "num_segments") 1 (numbers (length n.segments ∷ []) ∷ []) kind_num-segments refl) (
        both (line "num_zones" (numbers (length n.zones ∷ []) ∷ []) ∷ []) _ (L.quiet-gives (ascii "num_zones") 2 (numbers (length n.zones ∷ []) ∷ []) kind_num-zones refl) (
        both h.options _ (file-opts n.version n.date h.options h.given) (
        both h.segments (h.zones ++ (line "end_file" [] ∷ [])) (M.turns_give d run passes segment-out segment-is h.each_segment) (
        ended (both h.zones (line "end_file" [] ∷ []) (M.turns_give d run passes zone-out zone-is h.each_zone) (L.quiet-gives (ascii "end_file") 28 [] kind-end-file refl))))))))
      where
        ended : Gives (turn zone-out (suc (length n.segments)) n.zones ++ []) (h.zones ++ (line "end_file" [] ∷ [])) → Gives (turn zone-out (suc (length n.segments)) n.zones) (h.zones ++ (line "end_file" [] ∷ []))
        ended g = subst (λ o. Gives o (h.zones ++ (line "end_file" [] ∷ []))) (append-nil (turn zone-out (suc (length n.segments)) n.zones)) g
