-- THE THEOREM of L13, whatever the moves are: "L5 has a good route exactly when this, given the room, accepts". A good route has the chains (`good-driven`), and the chains one behind the other are a good route (`driven-good`). Assumes nothing.
use mathlib.Core.Path.{◌≡◌, refl, sym, subst}
use mathlib.Core.List.{List, [], ◌∷◌, map}
use mathlib.Core.Logic.{◌↔◌}
use Prim.Native.Nat.{ℕ, zero, suc, ◌≤◌, ◌<◌}
use native.Mathlib.Omega.{arith}
use lib.ListN.{length}
use Rattle.look_up.specs.Listed.{Paired}
use Rattle.route_law.specs.Routes.{At, Last, Rising, MetInOrder, BeginsAtStart, GoodRoute}
use Rattle.route_law.proofs.Places.{at-below, From, from-rising, rising-from}
use Rattle.reach_law.specs.Reach.{Chain, none, move, Onward, Later, Drivable, DriveTaken}

module _ (Move : ℕ → ℕ → Type 0) where
  abbrev Stepping : List ℕ → Type 0
  Stepping l = (i a b : ℕ) → At l i a → At l (suc i) b → Move a b

  -- ## A good route has the chains
  chain : (a : ℕ) (l : List ℕ) → Stepping (a ∷ l) → (k c : ℕ) → At (a ∷ l) k c → Chain Move a c
  chain a l m zero c x = subst (λ z. Chain Move a z) (sym x) none
  chain a [] m (suc k) c x = absurd x
  chain a (b ∷ l) m (suc k) c x = move (m 0 a b refl refl) (chain b l (λ i. m (suc i)) k c x)

  onward : (l : List ℕ) → Stepping l → (i j a c : ℕ) → i < j → At l i a → At l j c → Onward Move a c
  onward [] m i j a c h x y = absurd x
  onward (p ∷ l) m zero zero a c h x y = absurd (omega arith)
  onward (p ∷ l) m (suc i) zero a c h x y = absurd (omega arith)
  onward (p ∷ l) m (suc i) (suc j) a c h x y = onward l (λ k. m (suc k)) i j a c (omega arith) x y
  onward (p ∷ []) m zero (suc j) a c h x y = absurd y
  onward (p ∷ q ∷ l) m zero (suc j) a c h x y = record { by = q; first = m 0 a q x refl; rest = chain q l (λ k. m (suc k)) j c y }

  -- the goals behind one that is met at place i
  later : (l : List ℕ) → Stepping l → (i p : ℕ) → At l i p → (goals places : List ℕ) → Paired (At l) places goals → From (suc i) places → Later Move p goals
  later l m i p x [] places h f = tt
  later l m i p x (g ∷ goals) [] h f = absurd h
  later l m i p x (g ∷ goals) (j ∷ places) h f = (onward l m i j p g f.0 x h.0, later l m j g h.0 goals places h.1 f.1)

  driven : (start : ℕ) (l : List ℕ) → Stepping l → At l 0 start → (goals places : List ℕ) → Paired (At l) places goals → Rising places → Drivable Move start goals
  driven start l m x [] places h r = tt
  driven start l m x (g ∷ goals) [] h r = absurd h
  driven start [] m x (g ∷ goals) (j ∷ places) h r = absurd x
  driven start (a ∷ l) m x (g ∷ goals) (j ∷ places) h r = (subst (λ z. Chain Move z g) (sym x) (chain a l m j g h.0), later (a ∷ l) m j g h.0 goals places h.1 (rising-from j places r).1)

  pub good-driven : (points start : ℕ) (route goals : List ℕ) → GoodRoute points Move start route goals → Drivable Move start goals
  good-driven points start route goals good = driven start route (λ i a b x y. good.moves i a b (at-below route i a x) x y) good.begins.there goals good.met.places good.met.met good.met.rising

  -- ## The chains make a good route: from a on, with the goals met from place k on
  record Run (a : ℕ) (goals : List ℕ) (k end : ℕ) : Type 0 where
    pub tail : List ℕ
    pub moves : Stepping (a ∷ tail)
    pub places : List ℕ
    pub met : Paired (At (a ∷ tail)) places goals
    pub from : From k places
    pub ends : Last (a ∷ tail) end

  from-later : (k : ℕ) (ps : List ℕ) → From k ps → From (suc k) (map suc ps)
  from-later k [] h = tt
  from-later k (p ∷ ps) h = (omega (arith, h.0), from-later (suc p) ps h.1)

  from_weaker : (k : ℕ) (ps : List ℕ) → From (suc k) ps → From k ps
  from_weaker k [] h = tt
  from_weaker k (p ∷ ps) h = (omega (arith, h.0), h.1)

  met-later : (l : List ℕ) (x : ℕ) (ps gs : List ℕ) → Paired (At l) ps gs → Paired (At (x ∷ l)) (map suc ps) gs
  met-later l x [] [] h = tt
  met-later l x [] (g ∷ gs) h = absurd h
  met-later l x (p ∷ ps) [] h = absurd h
  met-later l x (p ∷ ps) (g ∷ gs) h = (h.0, met-later l x ps gs h.1)

  stay : (a : ℕ) → Run a [] 1 a
  stay a = record { tail = []; moves = λ i x y p q. absurd q; places = []; met = tt; from = tt; ends = refl }

  meet : (g : ℕ) (goals : List ℕ) (end : ℕ) → Run g goals 1 end → Run g (g ∷ goals) 0 end
  meet g goals end r = record { tail = r.tail; moves = r.moves; places = 0 ∷ r.places; met = (refl, r.met); from = (omega arith, r.from); ends = r.ends }

  prepend : (a b : ℕ) (goals : List ℕ) (k end : ℕ) → Move a b → Run b goals k end → Run a goals (suc k) end
  prepend a b goals k end m r = record { tail = b ∷ r.tail; moves = stepping; places = map suc r.places; met = met-later (b ∷ r.tail) a r.places goals r.met; from = from-later k r.places r.from; ends = r.ends }
    where
      stepping : Stepping (a ∷ b ∷ r.tail)
      stepping zero x y p q = subst (λ z. Move z y) (sym p) (subst (λ z. Move a z) (sym q) m)
      stepping (suc i) x y p q = r.moves i x y p q

  along-chain : {a b : ℕ} → (goals : List ℕ) (end : ℕ) → Chain Move a b → Run b goals 0 end → Run a goals 0 end
  along-chain goals end none r = r
  along-chain {a} {b} goals end (move {b = c} m rest) r =
      let s = prepend a c goals 0 end m (along-chain goals end rest r) in
      record { tail = s.tail; moves = s.moves; places = s.places; met = s.met; from = from_weaker 0 s.places s.from; ends = s.ends }

  -- from one goal on to the last
  later-run : (p : ℕ) (goals : List ℕ) → Later Move p goals → (end : ℕ) × Last (p ∷ goals) end × Run p goals 1 end
  later-run p [] d = (p, refl, stay p)
  later-run p (g ∷ goals) d =
      let r = later-run g goals d.1 in
      (r.0, r.1, prepend p d.0.by (g ∷ goals) 0 r.0 d.0.first (along-chain (g ∷ goals) r.0 d.0.rest (meet g goals r.0 r.2)))

  pub driven-good : (points start : ℕ) (goals : List ℕ) → start < points → 1 ≤ length goals → Drivable Move start goals → (route : List ℕ) × GoodRoute points Move start route goals
  driven-good points start [] s h d = absurd (omega arith)
  driven-good points start (g ∷ goals) s h d =
      let r = later-run g goals d.1 in
      let w = along-chain (g ∷ goals) r.0 d.0 (meet g goals r.0 r.2) in (
        start ∷ w.tail,
        record {
          begins = record { declared = s; there = refl };
          moves = λ i a b l x y. w.moves i a b x y;
          met = record { places = w.places; met = w.met; rising = from-rising 0 w.places w.from };
          ends = record { end = r.0; of_route = w.ends; of_goals = r.1 };
        },
      )

  -- 01: "`num_checkpoints` > 0": a mission has goals
  pub agreed : (points rows start : ℕ) (goals : List ℕ) → points ≤ rows → 1 ≤ length goals → ((route : List ℕ) × GoodRoute points Move start route goals) ↔ DriveTaken Move points rows start goals
  agreed points rows start goals room some = (
    (λ g. record { room = room; declared = g.1.begins.declared; drivable = good-driven points start g.0 goals g.1 }),
    (λ c. driven-good points start goals c.declared some c.drivable),
  )
