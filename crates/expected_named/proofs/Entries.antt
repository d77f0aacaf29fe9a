-- The parts that are named are exactly those with points that may be entered. Assumes nothing.
use mathlib.Core.Path.{◌≡◌, refl, ap, subst, ◌∙◌}
use mathlib.Core.List.{List, [], ◌∷◌, ◌++◌}
use mathlib.Core.Logic.{◌⊎◌, inl, inr}
use mathlib.Core.Bool.{Bool, true, false}
use Prim.Native.Nat.{ℕ, suc, ◌+◌, ◌≤◌}
use native.Mathlib.Omega.{arith}
use lib.ListN.{length}
use lib.Dec.{eqb}
use borrow.Author.Tests.{eq-eqb, eqb-true}
use Rattle.terms.specs.Words.{pick, Among, Between, InTurn, then}
use Rattle.line.specs.Line.{Field}
use Rattle.law.specs.Network.{Edition, PointId, GoodExit, Lane, Segment, Zone, Network, Line, reading, SpellsLane, SpellsSegment, SpellsZone, SpellsNetwork, largest}
use Rattle.law.specs.Tables.{gather}
use Rattle.law.specs.Faults.{Nth, first, later, Declared, waypoint, border}
use Rattle.expected_law.specs.Expected.{ListsEntries}
use Rattle.expected_named.proofs.Moves as M
use Rattle.expected_named.proofs.Networks as W
use Rattle.expected_named.proofs.Parts as P
use Rattle.expected_named.proofs.Parts.{place}

-- ## Among lists
module _ {X : Type 0} (a : X) where
  in_left : (x y : List X) → Among a x → Among a (x ++ y)
  in_left [] y m = absurd m
  in_left (b ∷ x) y (inl e) = inl e
  in_left (b ∷ x) y (inr m) = inr (in_left x y m)

  in_right : (x y : List X) → Among a y → Among a (x ++ y)
  in_right [] y m = m
  in_right (b ∷ x) y m = inr (in_right x y m)

  in_either : (x y : List X) → Among a (x ++ y) → Among a x ⊎ Among a y
  in_either [] y m = inr m
  in_either (b ∷ x) y (inl e) = inl (inl e)
  in_either (b ∷ x) y (inr m) = go (in_either x y m)
    where
      go : Among a x ⊎ Among a y → Among a (b ∷ x) ⊎ Among a y
      go (inl m) = inl (inr m)
      go (inr m) = inr m

gather_none : {A X : Type 0} (l : List A) → ◌≡◌ {A = List X} (gather (λ a. []) l) []
gather_none [] = refl
gather_none (a ∷ l) = gather_none l

-- ## Things in turn
nth-range : {A : Type 0} {i : ℕ} {a : A} {l : List A} → Nth i a l → Between 1 (length l) i
nth-range first = record { low = omega arith; high = omega arith }
nth-range (later {i = i} t) = let r = nth-range t in record { low = omega (arith, r.low); high = omega (arith, r.high) }

module _ {A X : Type 0} (out : ℕ → A → List X) (a : X) where
  pub record Found (i : ℕ) (l : List A) : Type 0 where
    pub k : ℕ
    pub at : A
    pub nth : Nth (suc k) at l
    pub among : Among a (out (i + k) at)

  found : (i : ℕ) (l : List A) → Among a (M.in_turn out i l) → Found i l
  found i [] m = absurd m
  found i (b ∷ l) m = go (in_either a (out i b) (M.in_turn out (suc i) l) m) (λ n. found (suc i) l n)
    where
      go : Among a (out i b) ⊎ Among a (M.in_turn out (suc i) l) → (Among a (M.in_turn out (suc i) l) → Found (suc i) l) → Found i (b ∷ l)
      go (inl n) f =
          let e : i ≡ i + 0 = omega arith in
          record { k = 0; at = b; nth = first; among = subst (λ (j : ℕ). Among a (out j b)) e n }
      go (inr n) f =
          let r = f n in
          let e : suc i + r.k ≡ i + suc r.k = omega arith in
          record { k = suc r.k; at = r.at; nth = later r.nth; among = subst (λ (j : ℕ). Among a (out j r.at)) e r.among }

  back : (i : ℕ) {k : ℕ} {b : A} {l : List A} → Nth k b l → (j : ℕ) → j + 1 ≡ i + k → Among a (out j b) → Among a (M.in_turn out i l)
  back i (first {a = b} {l = l}) j e m =
      let q : j ≡ i = omega arith in
      in_left a (out i b) (M.in_turn out (suc i) l) (subst (λ (j : ℕ). Among a (out j b)) q m)
  back i (later {i = k} {b = b} {l = l} t) j e m =
      let q : j + 1 ≡ suc i + k = omega arith in
      in_right a (out i b) (M.in_turn out (suc i) l) (back (suc i) t j q m)

-- the i-th thing is spelled
pub record Spelled {A : Type 0} (Spells : ℕ → A → List Line → Type 0) (a : A) : Type 0 where
  pub at : ℕ
  pub lines : List Line
  pub is : Spells at a lines

spelled_at : {A : Type 0} (Spells : ℕ → A → List Line → Type 0) {i k : ℕ} {a : A} {l : List A} {lines : List Line} → InTurn Spells i l lines → Nth k a l → Spelled Spells a
spelled_at Spells (then {i = i} {u = u} p t) first = record { at = i; lines = u; is = p }
spelled_at Spells (then p t) (later n) = spelled_at Spells t n
spelled_at {A = A} Spells {k = k} {a = a} (Rattle.terms.specs.Words.nothing {i = i}) x5 = elim x5 [ ]

-- a lane and a perimeter have at most as many points as a number may be
module _ (d : Edition) (n : Network Field) (l : List Line) (h : SpellsNetwork (reading d) n l) where
  pub lane-fits : {x y : ℕ} {s : Segment Field} {a : Lane} → Nth x s n.segments → Nth y a s.lanes → (x ≤ largest) × (y ≤ largest) × (length a.points ≤ largest)
  lane-fits {s = s} i j =
      let p = (spelled_at (SpellsSegment (reading d)) h.each_segment i).is in
      let q = (spelled_at (SpellsLane (reading d) _) p.each j).is in
      (omega (arith, (nth-range i).high, h.count), omega (arith, (nth-range j).high, p.count.high), q.good.count.high)

  pub zone-fits : {i : ℕ} {z : Zone Field} → Nth i z n.zones → (length n.segments + i ≤ largest) × (length z.border.points ≤ largest)
  zone-fits i =
      let p = (spelled_at (SpellsZone (reading d)) h.each_zone i).is in
      (omega (arith, (nth-range i).high, h.count), p.bordered.good.count.high)

-- ## THE THEOREM: exactly the points of these parts are declared, and may be the entry of an exit from which y goes from `low` on
module _ (d : Edition) (low : ℕ) (lowest : low ≤ 1) (n : Network Field) (l : List Line) (h : SpellsNetwork (reading d) n l) where
  abbrev Entered : PointId → Type 0
  Entered e = Declared n e × GoodExit low 1 (record { waypoint = 1; entry = e })

  abbrev Listed : PointId → Type 0
  Listed e = (a : PointId) × Among a (P.the_parts_of d low n) × (e.x ≡ a.x) × (e.y ≡ a.y) × Between 1 a.z e.z

  one_of : {X : Type 0} (a b : X) → Among a (b ∷ []) → a ≡ b
  one_of a b (inl e) = e
  one_of a b (inr m) = absurd m

  entered : (e : PointId) → Declared n e → Between 1 largest e.x → Between low largest e.y → Between 1 largest e.z → Entered e
  entered e d x y z = (d, record { waypoint = record { low = omega arith; high = omega arith }; x = x; y = y; z = z })

  lane-entered : (e a : PointId) → Among a (M.in_turn (P.segment-parts d low) 1 n.segments) → e.x ≡ a.x → e.y ≡ a.y → Between 1 a.z e.z → Entered e
  lane-entered e a m ex ey ez =
      let s = found (P.segment-parts d low) a 1 n.segments m in
      let t = found (P.lane_part_of d low (1 + s.k)) a 1 s.at.lanes s.among in
      let q = one_of a (place (1 + s.k) (1 + t.k) (length t.at.points)) t.among in
      let x : suc s.k ≡ e.x = omega (arith, ex, ap (λ (a : PointId). a.x) q) in
      let y : suc t.k ≡ e.y = omega (arith, ey, ap (λ (a : PointId). a.y) q) in
      let z : a.z ≡ length t.at.points = ap (λ (a : PointId). a.z) q in
      let i = subst (λ (i : ℕ). Nth i s.at n.segments) x s.nth in
      let j = subst (λ (i : ℕ). Nth i t.at s.at.lanes) y t.nth in
      let r = lane-fits d n l h i j in
      entered e (waypoint s.at t.at i j (record { low = ez.low; high = omega (arith, z, ez.high) }))
      (record { low = omega (arith, x); high = r.0 })
      (record { low = omega (arith, y, lowest); high = r.1 })
      (record { low = ez.low; high = omega (arith, z, ez.high, r.2) })

  border-entered : (e a : PointId) → Among a (M.in_turn (P.zone-parts d low) (suc (length n.segments)) n.zones) → e.x ≡ a.x → e.y ≡ a.y → Between 1 a.z e.z → Entered e
  border-entered e a m ex ey ez =
      let s = found (P.zone-parts d low) a (suc (length n.segments)) n.zones m in
      go s (eqb low 0) refl s.among
    where
      go : (s : Found (P.zone-parts d low) a (suc (length n.segments)) n.zones) (b : Bool) → eqb low 0 ≡ b → Among a (pick b (place (suc (length n.segments) + s.k) 0 (length s.at.border.points) ∷ []) []) → Entered e
      go s false f m = absurd m
      go s true f m =
          let q = one_of a (place (suc (length n.segments) + s.k) 0 (length s.at.border.points)) m in
          let x : e.x ≡ length n.segments + suc s.k = omega (arith, ex, ap (λ (a : PointId). a.x) q) in
          let y : e.y ≡ 0 = ey ∙ ap (λ (a : PointId). a.y) q in
          let z : a.z ≡ length s.at.border.points = ap (λ (a : PointId). a.z) q in
          let r = zone-fits d n l h s.nth in
          entered e (border (suc s.k) s.at y x s.nth (record { low = ez.low; high = omega (arith, z, ez.high) }))
          (record { low = omega (arith, x); high = omega (arith, x, r.0) })
          (record { low = omega (arith, y, eqb-true low 0 f); high = omega (arith, y) })
          (record { low = ez.low; high = omega (arith, z, ez.high, r.1) })

  is-entered : (e : PointId) → Listed e → Entered e
  is-entered e (a, m, ex, ey, ez) = go (in_either a (M.in_turn (P.segment-parts d low) 1 n.segments) (M.in_turn (P.zone-parts d low) (suc (length n.segments)) n.zones) m)
    where
      go : Among a (M.in_turn (P.segment-parts d low) 1 n.segments) ⊎ Among a (M.in_turn (P.zone-parts d low) (suc (length n.segments)) n.zones) → Entered e
      go (inl m) = lane-entered e a m ex ey ez
      go (inr m) = border-entered e a m ex ey ez

  is-listed : (e : PointId) → Entered e → Listed e
  is-listed e (waypoint s a i j z, g) =
      let q : e.y + 1 ≡ 1 + e.y = omega arith in
      let p : e.x + 1 ≡ 1 + e.x = omega arith in
      let b = place e.x e.y (length a.points) in
      (b, in_left b (M.in_turn (P.segment-parts d low) 1 n.segments) (M.in_turn (P.zone-parts d low) (suc (length n.segments)) n.zones) (back (P.segment-parts d low) b 1 i e.x p (back (P.lane_part_of d low e.x) b 1 j e.y q (inl refl))), refl, refl, z)
  is-listed e (border i z ey ex t b, g) =
      let a = place e.x 0 (length z.border.points) in
      let q : e.x + 1 ≡ suc (length n.segments) + i = omega (arith, ex) in
      let none : low ≡ 0 = omega (arith, ey, g.y.low) in
      (a, in_right a (M.in_turn (P.segment-parts d low) 1 n.segments) (M.in_turn (P.zone-parts d low) (suc (length n.segments)) n.zones) (back (P.zone-parts d low) a (suc (length n.segments)) t e.x q (rw (eq-eqb low 0 none) (inl refl))), refl, ey, b)

  pub lists-entries : ListsEntries n low (P.the_parts_of d low n)
  lists-entries e = (is-entered e, is-listed e)
