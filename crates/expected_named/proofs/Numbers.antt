-- The walks that name checkpoint numbers, and segments and zones: over the lines that spell a network they name its numbers, and one for each of its parts. Assumes nothing.
use mathlib.Core.Path.{◌≡◌, refl, sym, ap, ap₂, ◌∙◌}
use mathlib.Core.List.{List, [], ◌∷◌, ◌++◌, map, append-nil}
use mathlib.Core.Bool.{Bool, true, false, not, ◌||◌}
use Prim.Native.Nat.{ℕ, suc, ◌+◌, ◌≤◌}
use native.Mathlib.Omega.{arith}
use lib.ListN.{length, length-append}
use lib.Dec.{eqb, ltb}
use borrow.Author.Tests.{le-ltb}
use Rattle.terms.specs.Ascii.{Bytes, ascii}
use Rattle.terms.specs.Words.{pick, perhaps}
use Rattle.terms.proofs.Tests.{clash}
use Rattle.line.specs.Line.{Field}
use Rattle.line.specs.Lines.{lines_of}
use Rattle.line.proofs.Cuts.{cut-is}
use Rattle.law.specs.Network.{Edition, Position, Checkpoint, Lane, Spot, Network, Line, word, name, numbers, coordinate, line, points, checkpoint_line_of, reading, Says, SpellsNetwork, SpellsText}
use Rattle.law.specs.Tables.{gather}
use Rattle.fill.proofs.RowLaws.{gather_append}
use Rattle.law.specs.Faults.{all_numbers, parts}
use Rattle.judge.specs.RndfLine.{rndf_kind}
use Rattle.find_line.specs.FoundLines.{rndf_line_kind_of}
use Rattle.expected_references.specs.Named.{checkpoint_numbers, number_on_of, is_part_of, with_part_of, parts_behind, ids_in}
use Rattle.expected_named.proofs.LineFields.{blank-kind, word-kind, point-kind, third-number}
use Rattle.expected_named.proofs.KeywordKinds.{quiet, kind-segment, kind-checkpoint, kind-end-lane, kind-zone, kind-end-perimeter, kind-end-spot}
use Rattle.expected_named.proofs.Moves as M
use Rattle.expected_named.proofs.Networks as W

-- a kind that names nothing
not_five : (k : ℕ) → quiet k ≡ true → (eqb k 5 ≡ false) × (eqb k 14 ≡ false) × (eqb k 18 ≡ false)
not_five k q = go (eqb k 5) (eqb k 14) (eqb k 17) (eqb k 18) (eqb k 24) (eqb k 29) q
  where
    go : (a b c d e f : Bool) → not (a || (b || (c || (d || (e || f))))) ≡ true → (a ≡ false) × (b ≡ false) × (d ≡ false)
    go true b c d e f h = clash (sym h)
    go false true c d e f h = clash (sym h)
    go false false true d e f h = clash (sym h)
    go false false false true e f h = clash (sym h)
    go false false false false e f h = (refl, refl, refl)

-- ## A walk without a state: of each line by its kind whether it names something, and what
module _ {X : Type 0} (tells : ℕ → Bool) (what : Bytes → X) where
  unfoldable pub named : List Bytes → List X
  named [] = []
  named (l ∷ lines) = pick (tells (rndf_line_kind_of l)) (what l ∷ named lines) (named lines)

  abbrev pub walk : Unit {0} → List Bytes → List X
  walk s lines = named lines

  passed : (l : Bytes) (rest : List Bytes) (k : ℕ) → rndf_line_kind_of l ≡ k → tells k ≡ false → named (l ∷ rest) ≡ named rest
  unfolding named
  passed l rest k e t = rw (e, t) refl

  told : (l : Bytes) (rest : List Bytes) (k : ℕ) → rndf_line_kind_of l ≡ k → tells k ≡ true → named (l ∷ rest) ≡ what l ∷ named rest
  unfolding named
  told l rest k e t = rw (e, t) refl

  -- blank lines, points and ends name nothing, nor do the kinds that are quiet
  module _ (d : Edition) (blank-no : tells 30 ≡ false) (point-no : tells 29 ≡ false) (lane-no : tells 17 ≡ false) (border-no : tells 24 ≡ false) (quiet-no : (k : ℕ) → quiet k ≡ true → tells k ≡ false) where
    pub passes : (s : Unit {0}) (start : ℕ) (l : Bytes) (rest : List Bytes) → Says (reading d) start l [] → walk s (l ∷ rest) ≡ walk s rest
    passes s start l rest h = passed l rest 30 (blank-kind d h) blank-no

    abbrev pub Gives : List X → List Line → Type 0
    Gives = M.Gives d walk

    pub silent : (w : Bytes) (k : ℕ) (others : Line) → rndf_kind w ≡ k → tells k ≡ false → Gives [] ((word w ∷ others) ∷ [])
    silent w k others e t s = (tt, M.one d walk passes s tt [] (word w) others (λ start l rest h. passed l rest k (word-kind d w others h ∙ e) t))

    pub telling : (w : Bytes) (k : ℕ) (others : Line) (x : X) → rndf_kind w ≡ k → tells k ≡ true → ((start : ℕ) (l : Bytes) → Says (reading d) start l (word w ∷ others) → what l ≡ x) → Gives (x ∷ []) ((word w ∷ others) ∷ [])
    telling w k others x e t f s = (tt, M.one d walk passes s tt (x ∷ []) (word w) others (λ start l rest h. told l rest k (word-kind d w others h ∙ e) t ∙ ap (λ (y : X). y ∷ named rest) (f start l h)))

    quiet-points : (m n i : ℕ) (ps : List Position) → Gives [] (points m n i ps)
    unfolding points
    quiet-points m n i [] = M.gives_none d walk passes
    quiet-points m n i (p ∷ ps) =
        M.gives_both d walk ((numbers (m ∷ n ∷ i ∷ []) ∷ coordinate p.latitude ∷ coordinate p.longitude ∷ []) ∷ []) (points m n (suc i) ps) (λ s. (tt, M.one d walk passes s tt [] (numbers (m ∷ n ∷ i ∷ [])) (coordinate p.latitude ∷ coordinate p.longitude ∷ []) (λ start l rest h. passed l rest 29 (point-kind d m (n ∷ i ∷ []) (coordinate p.latitude ∷ coordinate p.longitude ∷ []) h) point-no))) (quiet-points m n (suc i) ps)

    ended : (m n : ℕ) (ps : List Position) (w : Bytes) (k : ℕ) → rndf_kind w ≡ k → tells k ≡ false → Gives [] (points m n 1 ps ++ ((word w ∷ []) ∷ []))
    ended m n ps w k e t = M.gives_both d walk (points m n 1 ps) ((word w ∷ []) ∷ []) (quiet-points m n 1 ps) (silent w k [] e t)

    pub leaves : (on-segment on-zone : ℕ → List X) (on-checkpoint : Checkpoint → List X) → ((m : ℕ) → Gives (on-segment m) (line "segment" (numbers (m ∷ []) ∷ []) ∷ [])) → ((m : ℕ) → Gives (on-zone m) (line "zone" (numbers (m ∷ []) ∷ []) ∷ []))
        → ((m n : ℕ) (c : Checkpoint) → Gives (on-checkpoint c) (checkpoint_line_of m n c ∷ [])) → W.Leaves d walk passes
    leaves on-segment on-zone on-checkpoint f g h = record {
      on-segment = on-segment;
      on-zone = on-zone;
      on-checkpoint = on-checkpoint;
      on-lane = λ m n count. [];
      on-border = λ m count. [];
      quiet-gives = λ w k others e q. silent w k others e (quiet-no k q);
      segment-gives = f;
      zone-gives = g;
      checkpoint-gives = h;
      lane-gives = λ m n ps some. ended m n ps (ascii "end_lane") 17 kind-end-lane lane-no;
      border-gives = λ m ps some. ended m 0 ps (ascii "end_perimeter") 24 kind-end-perimeter border-no;
      spot-gives = λ m n ps. ended m n ps (ascii "end_spot") 27 kind-end-spot (quiet-no 27 refl);
    }

    -- over a whole text
    pub text-named : (L : W.Leaves d walk passes) (n : Network Field) (text : Bytes) → SpellsText (reading d) SpellsNetwork n text → named (lines_of text) ≡ W.network-out d walk passes L n
    unfolding named
    text-named L n text h =
        let g = W.network-is d walk passes L n h.said h.net tt in
        ap named (cut-is h.cut ∙ sym (append-nil h.lines)) ∙ g.1.is h.each [] ∙ append-nil (W.network-out d walk passes L n)

-- ## Lists
turn-gather : {A X : Type 0} (out : ℕ → A → List X) (f : A → List X) → ((i : ℕ) (a : A) → out i a ≡ f a) → (i : ℕ) (l : List A) → M.in_turn out i l ≡ gather f l
turn-gather out f e i [] = refl
turn-gather out f e i (a ∷ l) = ap₂ ◌++◌ (e i a) (turn-gather out f e (suc i) l)

gather-one : {A : Type 0} (f : A → ℕ) (l : List A) → gather (λ a. f a ∷ []) l ≡ map f l
gather-one f [] = refl
gather-one f (a ∷ l) = ap (◌∷◌ (f a)) (gather-one f l)

gather-gather : {A B X : Type 0} (f : B → List X) (g : A → List B) (l : List A) → gather (λ a. gather f (g a)) l ≡ gather f (gather g l)
gather-gather f g [] = refl
gather-gather f g (a ∷ l) = ap (◌++◌ (gather f (g a))) (gather-gather f g l) ∙ sym (gather_append f (g a) (gather g l))

gather-same : {A X : Type 0} (f g : A → List X) → ((a : A) → f a ≡ g a) → (l : List A) → gather f l ≡ gather g l
gather-same f g e [] = refl
gather-same f g e (a ∷ l) = ap (λ (x : List _). x ++ gather f l) (e a) ∙ ap (◌++◌ (g a)) (gather-same f g e l)

gather_none : {A X : Type 0} (l : List A) → ◌≡◌ {A = List X} (gather (λ a. []) l) []
gather_none [] = refl
gather_none (a ∷ l) = gather_none l

one_each : {A : Type 0} (l : List A) → length {A = Unit {0}} (gather (λ a. tt ∷ []) l) ≡ length l
one_each [] = refl
one_each (a ∷ l) = ap suc (one_each l)

-- ## Checkpoint numbers
module _ (d : Edition) where
  abbrev is-checkpoint : ℕ → Bool
  is-checkpoint k = eqb k 14

  abbrev number-passes : (s : Unit {0}) (start : ℕ) (l : Bytes) (rest : List Bytes) → Says (reading d) start l [] → walk is-checkpoint (number_on_of 2) s (l ∷ rest) ≡ walk is-checkpoint (number_on_of 2) s rest
  number-passes = passes is-checkpoint (number_on_of 2) d refl refl refl refl (λ k q. (not_five k q).1)

  number-leaves : W.Leaves d (walk is-checkpoint (number_on_of 2)) number-passes
  number-leaves =
      leaves is-checkpoint (number_on_of 2) d refl refl refl refl (λ k q. (not_five k q).1) (λ m. []) (λ m. []) (λ c. c.number ∷ [])
      (λ m. silent is-checkpoint (number_on_of 2) d refl refl refl refl (λ k q. (not_five k q).1) (ascii "segment") 5 (numbers (m ∷ []) ∷ []) kind-segment refl)
      (λ m. silent is-checkpoint (number_on_of 2) d refl refl refl refl (λ k q. (not_five k q).1) (ascii "zone") 18 (numbers (m ∷ []) ∷ []) kind-zone refl)
      (λ m n c. telling is-checkpoint (number_on_of 2) d refl refl refl refl (λ k q. (not_five k q).1) (ascii "checkpoint") 14 (numbers (m ∷ n ∷ c.waypoint ∷ []) ∷ numbers (c.number ∷ []) ∷ []) c.number kind-checkpoint refl (λ start l h. third-number d (word (ascii "checkpoint")) (numbers (m ∷ n ∷ c.waypoint ∷ [])) c.number [] h))

  numbers-named : (lines : List Bytes) → checkpoint_numbers lines ≡ named is-checkpoint (number_on_of 2) lines
  unfolding checkpoint_numbers named
  numbers-named [] = refl
  numbers-named (l ∷ lines) = ap (λ (x : List ℕ). pick (eqb (rndf_line_kind_of l) 14) (number_on_of 2 l ∷ x) x) (numbers-named lines)

  abbrev lane-numbers : Lane → List ℕ
  lane-numbers a = map (λ c. c.number) a.checkpoints

  abbrev spot-numbers : Spot → List ℕ
  spot-numbers a = map (λ c. c.number) (perhaps a.checkpoint)

  numbers-out : (n : Network Field) → W.network-out d (walk is-checkpoint (number_on_of 2)) number-passes number-leaves n ≡ all_numbers n
  unfolding number-leaves leaves
  numbers-out n =
      let a = turn-gather (W.segment-out d (walk is-checkpoint (number_on_of 2)) number-passes number-leaves) (λ s. gather lane-numbers s.lanes) (λ m s. turn-gather _ lane-numbers (λ i a. append-nil _ ∙ gather-one (λ c. c.number) a.checkpoints) 1 s.lanes) 1 n.segments in
      let b = turn-gather (W.zone-out d (walk is-checkpoint (number_on_of 2)) number-passes number-leaves) (λ z. gather spot-numbers z.spots) (λ m z. turn-gather _ spot-numbers (λ i a. gather-one (λ c. c.number) (perhaps a.checkpoint)) 1 z.spots) (suc (length n.segments)) n.zones in
      ap₂ ◌++◌ (a ∙ gather-gather lane-numbers (λ s. s.lanes) n.segments) b

  pub numbers-are : (n : Network Field) (text : Bytes) → SpellsText (reading d) SpellsNetwork n text → checkpoint_numbers (lines_of text) ≡ all_numbers n
  numbers-are n text h = numbers-named (lines_of text) ∙ text-named is-checkpoint (number_on_of 2) d refl refl refl refl (λ k q. (not_five k q).1) number-leaves n text h ∙ numbers-out n

  -- ## Segments and zones
  abbrev is-part : ℕ → Bool
  is-part k = eqb k 5 || eqb k 18

  abbrev one-part : Bytes → Unit {0}
  one-part l = tt

  no_part : (k : ℕ) → quiet k ≡ true → is-part k ≡ false
  no_part k q =
      let n = not_five k q in
      rw (n.0, n.2) refl

  abbrev part-passes : (s : Unit {0}) (start : ℕ) (l : Bytes) (rest : List Bytes) → Says (reading d) start l [] → walk is-part one-part s (l ∷ rest) ≡ walk is-part one-part s rest
  part-passes = passes is-part one-part d refl refl refl refl no_part

  part-leaves : W.Leaves d (walk is-part one-part) part-passes
  part-leaves =
      leaves is-part one-part d refl refl refl refl no_part (λ m. tt ∷ []) (λ m. tt ∷ []) (λ c. [])
      (λ m. telling is-part one-part d refl refl refl refl no_part (ascii "segment") 5 (numbers (m ∷ []) ∷ []) tt kind-segment refl (λ start l h. refl))
      (λ m. telling is-part one-part d refl refl refl refl no_part (ascii "zone") 18 (numbers (m ∷ []) ∷ []) tt kind-zone refl (λ start l h. refl))
      (λ m n c. silent is-part one-part d refl refl refl refl no_part (ascii "checkpoint") 14 (numbers (m ∷ n ∷ c.waypoint ∷ []) ∷ numbers (c.number ∷ []) ∷ []) kind-checkpoint refl)

  parts_out : (n : Network Field) → length (W.network-out d (walk is-part one-part) part-passes part-leaves n) ≡ parts n
  unfolding part-leaves leaves
  parts_out n =
      let a = turn-gather (W.segment-out d (walk is-part one-part) part-passes part-leaves) (λ s. tt ∷ []) (λ m s. ap (◌∷◌ tt) (turn-gather _ (λ a. []) (λ i a. append-nil _ ∙ gather_none a.checkpoints) 1 s.lanes ∙ gather_none s.lanes)) 1 n.segments in
      let b = turn-gather (W.zone-out d (walk is-part one-part) part-passes part-leaves) (λ z. tt ∷ []) (λ m z. ap (◌∷◌ tt) (turn-gather _ (λ a. []) (λ i a. gather_none (perhaps a.checkpoint)) 1 z.spots ∙ gather_none z.spots)) (suc (length n.segments)) n.zones in
      ap length (ap₂ ◌++◌ a b) ∙ length-append (gather (λ s. tt ∷ []) n.segments) (gather (λ z. tt ∷ []) n.zones) ∙ ap₂ ◌+◌ (one_each n.segments) (one_each n.zones)

  counted : (k : ℕ) (lines : List Bytes) → k + length (named is-part one-part lines) ≤ 32768 → parts_behind k lines ≡ k + length (named is-part one-part lines)
  unfolding parts_behind named is_part_of with_part_of
  counted k [] h = omega arith
  counted k (l ∷ lines) h = go (eqb (rndf_line_kind_of l) 5 || eqb (rndf_line_kind_of l) 18) h (λ j b. counted j lines b)
    where
      found : List (Unit {0})
      found = named is-part one-part lines

      either : (x : Bool) → pick x k k ≡ k
      either true = refl
      either false = refl

      go : (b : Bool) → k + length (pick b (tt ∷ found) found) ≤ 32768 → ((j : ℕ) → j + length found ≤ 32768 → parts_behind j lines ≡ j + length found) → parts_behind (pick (ltb 32767 k) k (pick b (suc k) k)) lines ≡ k + length (pick b (tt ∷ found) found)
      go true h more =
          let n : suc k + length found ≡ k + suc (length found) = omega arith in
          rw (le-ltb 32767 k (omega arith)) (more (suc k) (omega arith) ∙ n)
      go false h more = ap (λ (j : ℕ). parts_behind j lines) (either (ltb 32767 k)) ∙ more k h

  pub ids-are : (n : Network Field) (text : Bytes) → SpellsText (reading d) SpellsNetwork n text → ids_in text ≡ parts n
  unfolding ids_in
  ids-are n text h =
      let e : length (named is-part one-part (lines_of text)) ≡ parts n = ap length (text-named is-part one-part d refl refl refl refl no_part part-leaves n text h) ∙ parts_out n in
      let few = h.net.count in
      let z : 0 + length (named is-part one-part (lines_of text)) ≡ parts n = omega arith in
      counted 0 (lines_of text) (omega arith) ∙ z
