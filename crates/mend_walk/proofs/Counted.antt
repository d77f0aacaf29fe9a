-- No line counts for more than one line and one row: for the walk's numbers. And what does not fit into the buffer is too long a line. Assumes nothing.
use Rattle.std.specs.Prelude.{Err}
use mathlib.Core.Path.{◌≡◌, ap}
use mathlib.Core.List.{[], ◌∷◌}
use mathlib.Core.Bool.{Bool, true, false}
use Prim.Native.Nat.{ℕ, suc, ◌+◌, ◌-◌, ◌≤◌, ◌<◌}
use native.Mathlib.Omega.{arith}
use borrow.Author.Tests.{lt-ltb, lt-leb}
use lib.ListN.{length, take, get_or}
use lib.Seq.{length-take-le}
use lib.Dec.{eqb}
use Rattle.terms.specs.Words.{Bytes, pick}
use Rattle.line.specs.Text.{cr}
use Rattle.line.specs.Content.{longest}
use Rattle.line.specs.Lines.{trim_of}
use Rattle.line.specs.Forms.{form_of}
use Rattle.line.proofs.Ends.{trim_le}
use Rattle.grammar.specs.Editions.{Edition}
use Rattle.statement.specs.declared.Statement.{Statement}
use Rattle.place.specs.declared.Place.{Place}
use Rattle.progress.specs.After.{total}
use Rattle.progress.proofs.Shown.{grows}
use Rattle.judge.specs.Judging.{Got, bad, blank, said, formed, content, line}
use Rattle.walk.specs.Standing.{Where, place}
use Rattle.edition_judge.specs.EditionLine.{judging_in}
use Rattle.network.specs.Storing.{Memory}
use Rattle.network.specs.Reading.{put}
use Rattle.network.specs.Reaching.{WalkEnd, stopped, reached, goes, reaching}
use Rattle.mend_lines.specs.declared.Becomes.{Becomes}
use Rattle.mend_lines.specs.declared.Becomes.TheVariants.{Stays, Goes, Recount}
use Rattle.mend_pieces.specs.Pieces.{piece_of}
use Rattle.mend_walk.specs.Walking.{walked_line}

-- ## One line and one row
put-counted : (w : Where) (s : Statement) (m : Memory) → total (put w s m).so_far ≤ suc (total m.so_far)
unfolding put
put-counted w s m = omega (arith, grows s m.so_far)

-- a memory that is the other one, or the other one with one row more
abbrev AtMost : (i j : ℕ) (m d : Memory) → Type 0
AtMost i j m d = (j ≤ suc i) × (total d.so_far ≤ suc (total m.so_far))

module _ (i j : ℕ) (m : Memory) (p q : Place) where
  same-counted : (d : Memory) → ◌≡◌ {A = WalkEnd} (reached p m i) (reached q d j) → AtMost i j m d
  same-counted d h =
      let a : i ≡ j = cc in
      let b : m ≡ d = cc in
      (omega arith, rw (← b) (omega arith))

  next-counted : (d x : Memory) → total x.so_far ≤ suc (total m.so_far) → ◌≡◌ {A = WalkEnd} (reached p x (suc i)) (reached q d j) → AtMost i j m d
  next-counted d x k h =
      let a : suc i ≡ j = cc in
      let b : x ≡ d = cc in
      (omega arith, rw (← b) k)

one-counted : (e : Edition) (p q : Place) (m d : Memory) (start i j : ℕ) (l : Bytes) → reaching e p m start i (l ∷ []) ≡ reached q d j → AtMost i j m d
unfolding reaching
one-counted e p q m d start i j l h = go (line (judging_in e) l start p) h
  where
    go : (g : Got Statement Place) → goes (place start i l) p m g (λ r x. reached r x (suc i)) ≡ reached q d j → AtMost i j m d
    go (bad n) h = absurd (let z : ◌≡◌ {A = ℕ} 0 1 = cc in omega arith)
    go blank h = next-counted i j m p q d m (omega arith) h
    go (said s r) h = next-counted i j m r q d (put (place start i l) s m) (put-counted (place start i l) s m) h

pub line-counted : (e : Edition) (p q : Place) (m d : Memory) (start i j : ℕ) (c : Becomes) (l : Bytes) → walked_line e p m start i c l ≡ reached q d j → (j ≤ suc i) × (total d.so_far ≤ suc (total m.so_far))
line-counted e p q m d start i j Stays l h = one-counted e p q m d start i j l h
line-counted e p q m d start i j (Goes k) l h = same-counted i j m p q d h
line-counted e p q m d start i j (Recount a b n) l h = one-counted e p q m d 0 i j (piece_of (Recount a b n) l) h

-- ## Too long a line
trimmed-long : (l : Bytes) → 520 < length l → longest < trim_of l
unfolding trim_of
trimmed-long l h = rw (lt-ltb 0 (length l) (omega arith)) (go (eqb (get_or l (length l - 1) 0) cr))
  where
    go : (x : Bool) → longest < pick x (length l - 1) (length l)
    go true = omega arith
    go false = omega arith

content_too-long : (c : Bytes) → longest < length c → form_of c ≡ Err 2
unfolding form_of
content_too-long c h = rw (lt-leb (length c) longest h)

line_too-long : (e : Edition) (p : Place) (start : ℕ) (l : Bytes) → 520 < length l → line (judging_in e) l start p ≡ bad 2
unfolding line content
line_too-long e p start l h =
    let c = take (trim_of l) l in
    let n : length c ≡ trim_of l = length-take-le (trim_of l) l (trim_le l) in
    let long = trimmed-long l h in
    ap (formed (judging_in e) c start p) (content_too-long c (omega arith))

-- 01: "What is left is at most 512 bytes"
pub too_long : (e : Edition) (p : Place) (m : Memory) (start i : ℕ) (l : Bytes) → 520 < length l → reaching e p m start i (l ∷ []) ≡ stopped i 2
unfolding reaching
too_long e p m start i l h = ap (λ (g : Got Statement Place). goes (place start i l) p m g (λ q d. reaching e q d (start + suc (length l)) (suc i) [])) (line_too-long e p start l h)
