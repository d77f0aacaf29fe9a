-- Fields that stand one behind the other up to a line's end are the fields of that line: put together from its end on. Assumes nothing.
use mathlib.Core.Path.{◌≡◌, refl, sym, ap, subst, ◌∙◌}
use mathlib.Core.List.{List, [], ◌∷◌, ◌++◌, append_assoc, append-nil}
use mathlib.Core.Bool.{Bool, true, false}
use mathlib.Core.Logic.{◌⊎◌, inl, inr}
use Prim.Native.Nat.{ℕ, suc, ◌+◌, ◌-◌, ◌≤◌, ◌<◌}
use native.Mathlib.Omega.{arith}
use native.Mathlib.Nat.{zero-add}
use borrow.Author.Tests.{eq-eqb, ne_eqb, ltb-true, ltb-false}
use lib.ListN.{length, drop, get_or, length-append, take-append-drop}
use lib.Seq.{drop-drop}
use lib.Dec.{ltb}
use Rattle.terms.specs.Ascii.{Bytes}
use Rattle.terms.proofs.Tests.{both}
use Rattle.scan.specs.Allowed.{separates, all}
use Rattle.scan.specs.Reach.{up_to, reach, first, stops_by}
use Rattle.scan.specs.declared.Until.TheVariants.{Byte}
use Rattle.scan.proofs.Reach.{up_to_go, first-at, reach-stop, reach-end}
use Rattle.line.specs.Text.{lf, cr, Lacks, none, more, Ended, dropped}
use Rattle.line.specs.Content.{Field, at, IsField, parted, parted-by, SpellsFields, nothing, separator, field, Content}
use Rattle.line.proofs.Contents.{content-ended, content-lacks-lf}
use Rattle.line.proofs.Ends.{ended-lacks}
use Rattle.plain_parts.specs.Stands.{stretch, Stands, LineEnds}
use Rattle.plain_parts.proofs.Stretches.{stretch-long, join}
use Rattle.plain_fields.specs.LineStands.{Rest, LineStands}

-- ## Separators in front
pub separators-ahead : (l r : Bytes) (a : ℕ) (fs : List Field) → all separates l ≡ true → SpellsFields (a + length l) r fs → SpellsFields a (l ++ r) fs
unfolding all
separators-ahead [] r a fs e h = let n : a + 0 ≡ a = omega arith in subst (λ (k : ℕ). SpellsFields k r fs) n h
separators-ahead (b ∷ l) r a fs e h =
    let p = both (separates b) (all separates l) e in
    let n : a + suc (length l) ≡ suc a + length l = omega arith in
    separator p.0 (separators-ahead l r (suc a) fs p.1 (subst (λ (k : ℕ). SpellsFields k r fs) n h))

pub parted-blank : (l : Bytes) → all separates l ≡ true → parted l ≡ true
unfolding all parted-by
parted-blank [] e = refl
parted-blank (b ∷ l) e = (both (separates b) (all separates l) e).0

pub parted-ahead : (l r : Bytes) → 0 < length l → all separates l ≡ true → parted (l ++ r) ≡ true
unfolding all parted-by
parted-ahead [] r h e = absurd (omega arith)
parted-ahead (b ∷ l) r h e = (both (separates b) (all separates l) e).0

-- ## The rest of a line, from a place on
-- where a piece of the text is as long as it is said to be
place-behind : (s : Bytes) (a b : ℕ) → a ≤ b → b ≤ length s → b ≡ a + length (stretch s a b)
place-behind s a b h k = omega (arith, stretch-long s a b k)

module _ (s : Bytes) (stop : ℕ) where
  -- separators in front are nothing
  pub blank-ahead : (a b : ℕ) (fs : List Field) → a ≤ b → all separates (stretch s a b) ≡ true → Rest s b stop fs → Rest s a stop fs
  blank-ahead a b fs h e r =
      let o = r.order in
      let i = r.ends.order in
      let j = r.ends.inside in
      let long = place-behind s a b h (omega arith) in
      record {
        at = r.at;
        order = omega arith;
        fielded = subst (λ (l : Bytes). SpellsFields a l fs) (join s a b r.at h o) (separators-ahead (stretch s a b) (stretch s b r.at) a fs e (subst (λ (k : ℕ). SpellsFields k (stretch s b r.at) fs) long r.fielded));
        ends = r.ends;
      }

  -- a field in front of what parts it from the next
  one-ahead : (a b : ℕ) (fs : List Field) → Stands s a b IsField → (r : Rest s b stop fs) → parted (stretch s b r.at) ≡ true → Rest s a stop (at a (stretch s a b) ∷ fs)
  one-ahead a b fs f r e =
      let k = f.order in
      let o = r.order in
      let long = place-behind s a b (omega arith) f.inside in
      record {
        at = r.at;
        order = omega arith;
        fielded = subst (λ (l : Bytes). SpellsFields a l (at a (stretch s a b) ∷ fs)) (join s a b r.at (omega arith) o) (field f.spelled e (subst (λ (k : ℕ). SpellsFields k (stretch s b r.at) fs) long r.fielded));
        ends = r.ends;
      }

  -- the last field
  pub last-field : (a b : ℕ) → Stands s a b IsField → LineEnds s b stop → Rest s a stop (at a (stretch s a b) ∷ [])
  last-field a b f l =
      let i = l.ends.order in
      let j = l.ends.inside in
      let long = place-behind s b l.at l.order (omega arith) in
      let w = stretch s b l.at in
      let r : Rest s b stop [] = record { at = l.at; order = l.order; fielded = subst (λ (l : Bytes). SpellsFields b l []) (append-nil w) (separators-ahead w [] b [] l.blank nothing); ends = l.ends } in
      one-ahead a b [] f r (parted-blank w l.blank)

  -- a field with separators and more fields behind
  pub field-ahead : (a b c : ℕ) (fs : List Field) → Stands s a b IsField → Stands s b c (λ w. all separates w ≡ true) → Rest s c stop fs → Rest s a stop (at a (stretch s a b) ∷ fs)
  unfolding blank-ahead
  field-ahead a b c fs f g r =
      let k = g.order in
      let o = r.order in
      let q = blank-ahead b c fs (omega arith) g.spelled r in
      let p : parted (stretch s b c ++ stretch s c r.at) ≡ true = parted-ahead (stretch s b c) (stretch s c r.at) (omega (arith, stretch-long s b c g.inside)) g.spelled in
      one-ahead a b fs f q (ap parted (sym (join s b c r.at (omega arith) o)) ∙ p)

-- ## Where the line ends
abbrev at_lf : Bytes → Bool
at_lf = stops_by (Byte lf)

-- bytes without LF are passed
passed : (l r : Bytes) → Lacks lf l → up_to at_lf (l ++ r) ≡ length l + up_to at_lf r
unfolding stops_by first
passed [] r none = sym (zero-add (up_to at_lf r))
passed (b ∷ l) r (more n h) =
    let e : suc (length l + up_to at_lf r) ≡ suc (length l) + up_to at_lf r = omega arith in
    up_to_go at_lf b (l ++ r) (ne_eqb b lf n) ∙ ap suc (passed l r h) ∙ e

stays : (s : Bytes) (stop : ℕ) → (stop ≡ length s) ⊎ (get_or s stop 0 ≡ lf) → reach at_lf s stop ≡ stop
stays s stop (inl e) = reach-end at_lf s stop (omega arith)
stays s stop (inr e) = go (ltb stop (length s)) refl
  where
    go : (x : Bool) → ltb stop (length s) ≡ x → reach at_lf s stop ≡ stop
    go true q = reach-stop at_lf s stop (first-at lf s stop (ltb-true stop (length s) q) ∙ eq-eqb (get_or s stop 0) lf e)
    go false q = reach-end at_lf s stop (ltb-false stop (length s) q)

ends_at : (s : Bytes) (from stop : ℕ) → from ≤ stop → stop ≤ length s → Lacks lf (stretch s from stop) → (stop ≡ length s) ⊎ (get_or s stop 0 ≡ lf) → stop ≡ reach at_lf s from
ends_at s from stop h k n e =
    let there : from + (stop - from) ≡ stop = omega arith in
    let cut : drop from s ≡ stretch s from stop ++ drop stop s = sym (take-append-drop (stop - from) (drop from s)) ∙ ap (◌++◌ (stretch s from stop)) (drop-drop (stop - from) from s ∙ ap (λ (i : ℕ). drop i s) there) in
    let u : up_to at_lf (drop from s) ≡ length (stretch s from stop) + up_to at_lf (drop stop s) = ap (up_to at_lf) cut ∙ passed (stretch s from stop) (drop stop s) n in
    omega (arith, u, stays s stop e, stretch-long s from stop k)

-- ## The line
ended-with : (c r : Bytes) → Ended c c → (r ≡ []) ⊎ (r ≡ cr ∷ []) → Ended (c ++ r) c
ended-with c r h (inl e) = subst (λ (l : Bytes). Ended l c) (sym (ap (◌++◌ c) e ∙ append-nil c)) h
ended-with c r h (inr e) = subst (λ (r : Bytes). Ended (c ++ r) c) (sym e) dropped

pub line-stands : (s : Bytes) (from stop : ℕ) (fs : List Field) → Rest s from stop fs → stop - from ≤ 512 → LineStands s from stop fs
line-stands s from stop fs r h =
    let o = r.order in
    let i = r.ends.order in
    let j = r.ends.inside in
    let c = stretch s from r.at ++ r.ends.note in
    let whole : stretch s from stop ≡ c ++ r.ends.return = sym (join s from r.at stop o i) ∙ ap (◌++◌ (stretch s from r.at)) r.ends.spelled ∙ sym (append_assoc (stretch s from r.at) r.ends.note r.ends.return) in
    let long : stop - from ≡ length c + length r.ends.return = sym (stretch-long s from stop j) ∙ ap length whole ∙ length-append c r.ends.return in
    let k : Content from c fs = record { outer = stretch s from r.at; note = r.ends.note; spelled = refl; short = omega arith; fielded = r.fielded; comment = r.ends.comment } in
    let e : Ended (stretch s from stop) c = subst (λ (l : Bytes). Ended l c) (sym whole) (ended-with c r.ends.return (content-ended k) r.ends.cr) in
    record { content = c; ended = e; fielded = k; ends = ends_at s from stop (omega arith) j (ended-lacks e (content-lacks-lf k)) r.ends.last }
