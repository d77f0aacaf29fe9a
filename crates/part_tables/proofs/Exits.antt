-- The pass over exits (packed_parts::are_exits): every record has its length, and every entry is one, where the spots' first points rise. Assumes nothing.
use mathlib.Core.Path.{◌≡◌, refl, sym, ap, ap₂, subst, ◌∙◌}
use mathlib.Core.List.{List, [], ◌∷◌, map}
use mathlib.Core.Bool.{Bool, true, false, ◌&&◌}
use mathlib.Core.Logic.{◌⊎◌, inl, inr}
use Prim.Native.Nat.{ℕ, zero, suc, ◌+◌, ◌-◌, ◌≤◌, ◌<◌}
use native.Mathlib.Omega.{arith}
use lib.Dec.{leb, ltb}
use lib.ListN.{length, take, drop, length-drop}
use borrow.Author.Tests.{leb-true, leb-false, le-leb, lt-leb, ltb-true, ltb-false, lt-ltb}
use Rattle.terms.specs.Ascii.{Bytes}
use Rattle.terms.proofs.Tests.{clash}
use Rattle.terms.specs.Words.{Each, pick}
use Rattle.law.specs.Tables.{total}
use Rattle.grammar.specs.Tables.{ZoneRow, SpotRow, ExitRow}
use Rattle.row_network.specs.Consistent.{Running, zone_span, SpotsRunning, IsEntry}
use Rattle.unpackings.proofs.Rows.{exit-back}
use Rattle.packed_rows.specs.Fixed.{record_here}
use Rattle.packed_rows.specs.Points.{four_at_of}
use Rattle.packed_rows.proofs.FixedLaws.{here-inside}
use Rattle.packed_parts.specs.Entries.{middle, halve, behind_last, entry_right, exit_right, exits_right}
use Rattle.packed_tables.proofs.Reading.{read}
use Rattle.packed_tables.proofs.Records.{Small, sizes, here, all_here, records-read, both_true, true-both}
use Rattle.packed_tables.proofs.Whole.{exit-kinds}
use Rattle.packed_tables.proofs.Fixed.{here_so}
use Rattle.part_tables.proofs.Listed.{listed, listed-each, each-listed, rows-cons, rows-here, no-rows-here, no-rows-told}
use Rattle.part_tables.proofs.Fields.{exit_told_of, exit-is}
use Rattle.part_tables.proofs.Lanes.{both-picked, picked_both}

-- ## First points that rise
-- no spot begins before p, and each begins behind the two points of the one before it
abbrev pub Rising : ℕ → List SpotRow → Type 0
Rising p [] = Unit {0}
Rising p (r ∷ l) = (p ≤ r.first_point_of) × Rising (r.first_point_of + 2) l

rising-less : (p q : ℕ) (l : List SpotRow) → q ≤ p → Rising p l → Rising q l
rising-less p q [] h r = tt
rising-less p q (x ∷ l) h r = let a = r.0 in (omega arith, r.1)

running-first : (k p : ℕ) (l : List SpotRow) → k ≤ length l → Running (λ (r : SpotRow). r.first_point_of) (λ r. 2) p (take k l) → Rising (p + (k + k)) (drop k l) → Rising p l
running-first zero p l h r g = rising-less (p + (0 + 0)) p l (omega arith) g
running-first (suc k) p [] h r g = absurd (omega arith)
running-first (suc k) p (x ∷ l) h r g =
    let e = r.0 in
    let more = running-first k (p + 2) l (omega arith) r.1 (rising-less (p + (suc k + suc k)) (p + 2 + (k + k)) (drop k l) (omega arith) g) in
    (omega arith, rising-less (p + 2) (x.first_point_of + 2) l (omega arith) more)

no_spots : (l : List SpotRow) (p : ℕ) → length l ≡ 0 → Rising p l
no_spots [] p h = tt
no_spots (x ∷ l) p h = absurd (omega arith)

-- as the spots of zones do
pub running-rises : {N : Type 0} (p : ℕ) (zones : List (ZoneRow N)) (spots : List SpotRow) → SpotsRunning p zones spots → total (λ (z : ZoneRow N). z.spots) zones ≡ length spots → Rising p spots
running-rises p [] l r h = no_spots l p (sym h)
running-rises p (z ∷ zs) l r h =
    let d = length-drop z.spots l in
    let more = running-rises (p + zone_span z) zs (drop z.spots l) r.1 (omega arith) in
    let here = running-first z.spots (p + z.points) l (omega arith) r.0 (rising-less (p + zone_span z) (p + z.points + (z.spots + z.spots)) (drop z.spots l) (omega arith) more) in
    rising-less (p + z.points) p l (omega arith) here

-- by their numbers
module _ (f : ℕ → SpotRow) where
  rising-low : (p i k : ℕ) → Rising p (listed f i k) → (j : ℕ) → i ≤ j → j < i + k → p ≤ (f j).first_point_of
  rising-low p i zero r j l m = absurd (omega arith)
  rising-low p i (suc k) r j l m = go (j - i) refl (λ l m. rising-low ((f i).first_point_of + 2) (i + 1) k r.1 j l m)
    where
      go : (d : ℕ) → j - i ≡ d → (i + 1 ≤ j → j < i + 1 + k → (f i).first_point_of + 2 ≤ (f j).first_point_of) → p ≤ (f j).first_point_of
      go zero e more = let q : i ≡ j = omega arith in subst (λ (x : ℕ). p ≤ (f x).first_point_of) q r.0
      go (suc d) e more = let a = r.0 in let m = more (omega arith) (omega arith) in omega arith

  pub rising-apart : (p i k : ℕ) → Rising p (listed f i k) → (a c : ℕ) → i ≤ a → a < c → c < i + k → (f a).first_point_of + 2 ≤ (f c).first_point_of
  rising-apart p i zero r a c l m n = absurd (omega arith)
  rising-apart p i (suc k) r a c l m n = go (a - i) refl (λ l n. rising-apart ((f i).first_point_of + 2) (i + 1) k r.1 a c l m n)
    where
      go : (d : ℕ) → a - i ≡ d → (i + 1 ≤ a → c < i + 1 + k → (f a).first_point_of + 2 ≤ (f c).first_point_of) → (f a).first_point_of + 2 ≤ (f c).first_point_of
      go zero e more = let q : i ≡ a = omega arith in subst (λ (x : ℕ). (f x).first_point_of + 2 ≤ (f c).first_point_of) q (rising-low ((f i).first_point_of + 2) (i + 1) k r.1 c (omega arith) (omega arith))
      go (suc d) e more = more (omega arith) (omega arith)

-- ## Halving finds how many begin at a point or before it
module _ (key : ℕ → ℕ) (n : ℕ) (apart : (a c : ℕ) → a < c → c < n → key a + 2 ≤ key c) (q : ℕ) where
  record Parted (r : ℕ) : Type 0 where
    most : r ≤ n
    before : (j : ℕ) → j < r → key j ≤ q
    behind : (j : ℕ) → r ≤ j → j < n → q < key j

  more-halves : (k low high : ℕ) → halve key q (suc k) low high ≡ pick (ltb low high) (pick (leb (key (middle low high)) q) (halve key q k (middle low high + 1) high) (halve key q k low (middle low high))) low
  unfolding halve
  more-halves k low high = refl

  no-halves : (low high : ℕ) → halve key q 0 low high ≡ low
  unfolding halve
  no-halves low high = refl

  up_to : (m : ℕ) → m < n → key m ≤ q → (j : ℕ) → j < m + 1 → key j ≤ q
  up_to m l h j g = go (ltb j m) refl
    where
      go : (x : Bool) → ltb j m ≡ x → key j ≤ q
      go true e = let a = apart j m (ltb-true j m e) l in omega arith
      go false e = let b = ltb-false j m e in let d : m ≡ j = omega arith in subst (λ (x : ℕ). key x ≤ q) d h

  from-there : (m : ℕ) → q < key m → (j : ℕ) → m ≤ j → j < n → q < key j
  from-there m h j g l = go (ltb m j) refl
    where
      go : (x : Bool) → ltb m j ≡ x → q < key j
      go true e = let a = apart m j (ltb-true m j e) l in omega arith
      go false e = let b = ltb-false m j e in let d : m ≡ j = omega arith in subst (λ (x : ℕ). q < key x) d h

  ended : (low high r : ℕ) → r ≡ low → high ≤ low → low ≤ high → high ≤ n → ((j : ℕ) → j < low → key j ≤ q) → ((j : ℕ) → high ≤ j → j < n → q < key j) → Parted r
  ended low high r e g o m before behind = record { most = omega arith; before = λ j l. before j (omega arith); behind = λ j l h. behind j (omega arith) h }

  halve-parts : (k low high : ℕ) → high ≤ low + k → low ≤ high → high ≤ n → ((j : ℕ) → j < low → key j ≤ q) → ((j : ℕ) → high ≤ j → j < n → q < key j) → Parted (halve key q k low high)
  halve-parts zero low high g o m before behind = ended low high (halve key q 0 low high) (no-halves low high) (omega arith) o m before behind
  halve-parts (suc k) low high g o m before behind = go (ltb low high) refl (leb (key (middle low high)) q) refl (more-halves k low high)
      (λ l h u. halve-parts k (middle low high + 1) high h (omega arith) m (up_to (middle low high) (omega arith) u) behind)
      (λ l h u. halve-parts k low (middle low high) h (omega arith) (omega arith) before (λ j a b. from-there (middle low high) u j a b))
    where
      go : (x : Bool) → ltb low high ≡ x → (y : Bool) → leb (key (middle low high)) q ≡ y
          → halve key q (suc k) low high ≡ pick (ltb low high) (pick (leb (key (middle low high)) q) (halve key q k (middle low high + 1) high) (halve key q k low (middle low high))) low
          → (low < high → high ≤ middle low high + 1 + k → key (middle low high) ≤ q → Parted (halve key q k (middle low high + 1) high))
          → (low < high → middle low high ≤ low + k → q < key (middle low high) → Parted (halve key q k low (middle low high)))
          → Parted (halve key q (suc k) low high)
      go false e y d s up down = ended low high (halve key q (suc k) low high) (s ∙ ap (λ (t : Bool). pick t (pick (leb (key (middle low high)) q) (halve key q k (middle low high + 1) high) (halve key q k low (middle low high))) low) e) (ltb-false low high e) o m before behind
      go true e true d s up down =
          let l = ltb-true low high e in
          subst Parted (sym (s ∙ ap₂ (λ (t u : Bool). pick t (pick u (halve key q k (middle low high + 1) high) (halve key q k low (middle low high))) low) e d)) (up l (omega arith) (leb-true (key (middle low high)) q d))
      go true e false d s up down =
          let l = ltb-true low high e in
          subst Parted (sym (s ∙ ap₂ (λ (t u : Bool). pick t (pick u (halve key q k (middle low high + 1) high) (halve key q k low (middle low high))) low) e d)) (down l (omega arith) (leb-false (key (middle low high)) q d))

  halved : Parted (halve key q n 0 n)
  halved = halve-parts n 0 n (omega arith) (omega arith) (omega arith) (λ j l. absurd (omega arith)) (λ j l h. absurd (omega arith))

  -- only the last of those counts
  last-so : (r : ℕ) → Parted r → behind_last key q r ≡ true → (j : ℕ) → j < n → (q < key j) ⊎ (key j + 2 ≤ q)
  last-so zero p h j l = inl (p.behind j (omega arith) l)
  last-so (suc i) p h j l = go (ltb j i) refl (ltb i j) refl
    where
      go : (x : Bool) → ltb j i ≡ x → (y : Bool) → ltb i j ≡ y → (q < key j) ⊎ (key j + 2 ≤ q)
      go true e y d = let most = p.most in let a = apart j i (ltb-true j i e) (omega arith) in let b = leb-true (key i + 2) q h in inr (omega arith)
      go false e true d = let g = ltb-true i j d in inl (p.behind j (omega arith) l)
      go false e false d =
          let a = ltb-false j i e in let b = ltb-false i j d in let same : i ≡ j = omega arith in
          inr (subst (λ (x : ℕ). key x + 2 ≤ q) same (leb-true (key i + 2) q h))

  last-all : (r : ℕ) → Parted r → ((j : ℕ) → j < n → (q < key j) ⊎ (key j + 2 ≤ q)) → behind_last key q r ≡ true
  last-all zero p h = refl
  last-all (suc i) p h = let most = p.most in go (h i (omega arith))
    where
      go : (q < key i) ⊎ (key i + 2 ≤ q) → leb (key i + 2) q ≡ true
      go (inl l) = let b = p.before i (omega arith) in absurd (omega arith)
      go (inr l) = le-leb (key i + 2) q l

-- ## One entry. f: the spots by their numbers
module _ (f : ℕ → SpotRow) (n p : ℕ) (rising : Rising p (listed f 0 n)) (points end q : ℕ) where
  abbrev starts : ℕ → ℕ
  starts j = (f j).first_point_of

  abbrev last : Bool
  last = behind_last starts q (halve starts q n 0 n)

  apart : (a c : ℕ) → a < c → c < n → starts a + 2 ≤ starts c
  apart a c l h = rising-apart f p 0 n rising a c (omega arith) l (omega arith)

  entry-is : entry_right starts n points end q ≡ pick (ltb q end) true (pick (leb points q) false last)
  unfolding entry_right
  entry-is = refl

  pub entry-so : entry_right starts n points end q ≡ true → IsEntry end points (listed f 0 n) q
  entry-so e = go (ltb q end) refl (leb points q) refl (sym entry-is ∙ e)
    where
      go : (x : Bool) → ltb q end ≡ x → (y : Bool) → leb points q ≡ y → pick x true (pick y false last) ≡ true → IsEntry end points (listed f 0 n) q
      go true a y b h = inl (ltb-true q end a)
      go false a true b h = clash (sym h)
      go false a false b h = inr (leb-false points q b, listed-each (λ (s : SpotRow). (q < s.first_point_of) ⊎ (s.first_point_of + 2 ≤ q)) f 0 n (λ j l m. last-so starts n apart q (halve starts q n 0 n) (halved starts n apart q) h j (omega arith)))

  pub entry-all : IsEntry end points (listed f 0 n) q → entry_right starts n points end q ≡ true
  entry-all (inl l) = entry-is ∙ ap (λ (t : Bool). pick t true (pick (leb points q) false last)) (lt-ltb q end l)
  entry-all (inr r) =
      entry-is
      ∙ ap₂ (λ (t u : Bool). pick (ltb q end) true (pick t false u)) (lt-leb points q r.0)
      (last-all starts n apart q (halve starts q n 0 n) (halved starts n apart q) (λ j l. each-listed (λ (s : SpotRow). (q < s.first_point_of) ⊎ (s.first_point_of + 2 ≤ q)) f 0 n r.1 j (omega arith) (omega arith)))
      ∙ always (ltb q end)
    where
      always : (x : Bool) → pick x true true ≡ true
      always true = refl
      always false = refl

-- ## All exits
abbrev pub exit-rows-told : ℕ → ℕ → Bytes → List (ExitRow ℕ)
exit-rows-told place k b = map exit-back (records-read place k exit-kinds b)

module _ (b : Bytes) (s : Small b) (f : ℕ → SpotRow) (n p : ℕ) (rising : Rising p (listed f 0 n)) (points end : ℕ) where
  abbrev spot-starts : ℕ → ℕ
  spot-starts j = (f j).first_point_of

  abbrev Entries : List (ExitRow ℕ) → Type 0
  Entries = Each (λ (r : ExitRow ℕ). IsEntry end points (listed f 0 n) r.entry)

  rest-cons : (place k at : ℕ) → exit-rows-told place (suc k) (drop at b) ≡ exit-back (read (place + 2) exit-kinds (drop 2 (drop at b))) ∷ exit-rows-told (place + 10) k (drop (at + 10) b)
  unfolding sizes
  rest-cons place k at = rows-cons exit-kinds exit-back 10 (λ b. refl) b place k at

  rest-here : (k at : ℕ) → all_here (suc k) exit-kinds (drop at b) ≡ (record_here 8 (drop at b) && all_here k exit-kinds (drop (at + 10) b))
  unfolding sizes
  rest-here k at = rows-here exit-kinds exit-back 10 (λ b. refl) b k at ∙ ap (λ (t : Bool). t && all_here k exit-kinds (drop (at + 10) b)) (here_so exit-kinds (drop at b) tt)

  none_here : (at : ℕ) → all_here 0 exit-kinds (drop at b) ≡ true
  unfolding sizes
  none_here at = no-rows-here exit-kinds exit-back 10 (λ b. refl) b at

  none_told : (place at : ℕ) → exit-rows-told place 0 (drop at b) ≡ []
  unfolding sizes
  none_told place at = no-rows-told exit-kinds exit-back 10 (λ b. refl) b place at

  more-exits : (k at : ℕ) → exits_right (suc k) b at spot-starts n points end ≡ pick (exit_right b at spot-starts n points end) (exits_right k b (at + 10) spot-starts n points end) false
  unfolding exits_right
  more-exits k at = refl

  no-exits : (at : ℕ) → exits_right 0 b at spot-starts n points end ≡ true
  unfolding exits_right
  no-exits at = refl

  one-is : (at : ℕ) → exit_right b at spot-starts n points end ≡ pick (record_here 8 (drop at b)) (entry_right spot-starts n points end (four_at_of b (at + 6))) false
  unfolding exit_right
  one-is at = refl

  -- THE LAW
  pub exits-so : (place k at : ℕ) → exits_right k b at spot-starts n points end ≡ true → (all_here k exit-kinds (drop at b) ≡ true) × Entries (exit-rows-told place k (drop at b))
  exits-so place zero at e = (none_here at, subst Entries (sym (none_told place at)) tt)
  exits-so place (suc k) at e =
      let t = both-picked (exit_right b at spot-starts n points end) (exits_right k b (at + 10) spot-starts n points end) (sym (more-exits k at) ∙ e) in
      let o = both-picked (record_here 8 (drop at b)) (entry_right spot-starts n points end (four_at_of b (at + 6))) (sym (one-is at) ∙ t.0) in
      let m = exits-so (place + 10) k (at + 10) t.1 in
      let i = here-inside b at 8 o.0 in
      let is = exit-is b s (place + 2) at (omega arith) in
      let whole : Entries (exit_told_of b at ∷ exit-rows-told (place + 10) k (drop (at + 10) b)) = (entry-so f n p rising points end (four_at_of b (at + 6)) o.1, m.1) in (
        rest-here k at ∙ true-both (record_here 8 (drop at b)) (all_here k exit-kinds (drop (at + 10) b)) o.0 m.0,
        subst Entries (ap (λ (r : ExitRow ℕ). r ∷ exit-rows-told (place + 10) k (drop (at + 10) b)) (sym is) ∙ sym (rest-cons place k at)) whole,
      )

  pub exits-all : (place k at : ℕ) → all_here k exit-kinds (drop at b) ≡ true → Entries (exit-rows-told place k (drop at b)) → exits_right k b at spot-starts n points end ≡ true
  exits-all place zero at e o = no-exits at
  exits-all place (suc k) at e o =
      let u = both_true (record_here 8 (drop at b)) (all_here k exit-kinds (drop (at + 10) b)) (sym (rest-here k at) ∙ e) in
      let i = here-inside b at 8 u.0 in
      let is = exit-is b s (place + 2) at (omega arith) in
      let whole = subst Entries (rest-cons place k at ∙ ap (λ (r : ExitRow ℕ). r ∷ exit-rows-told (place + 10) k (drop (at + 10) b)) is) o in
      more-exits k at ∙ picked_both (exit_right b at spot-starts n points end) (exits_right k b (at + 10) spot-starts n points end)
      (one-is at ∙ picked_both (record_here 8 (drop at b)) (entry_right spot-starts n points end (four_at_of b (at + 6))) u.0 (entry-all f n p rising points end (four_at_of b (at + 6)) whole.0))
      (exits-all (place + 10) k (at + 10) u.1 whole.1)
