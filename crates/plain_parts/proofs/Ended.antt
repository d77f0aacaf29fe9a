-- Where a line ends, as a program tells it that reads on from a place: separators, perhaps a comment, perhaps one CR, then an LF or the text's end. Assumes nothing.
use Rattle.std.specs.Prelude.{Some, None, Option}
use Rattle.std.specs.Prelude.{nat_eq}
use Rattle.std.specs.List.{starts_with}
use Rattle.std.proofs.lemmas.Slice.Eq.{bytes_eq-Decides}
use mathlib.Core.Path.{◌≡◌, refl, sym, ap, ap₂, subst, ◌∙◌}
use mathlib.Core.List.{[], ◌∷◌, ◌++◌}
use mathlib.Core.Bool.{Bool, true, false, ◌&&◌}
use mathlib.Core.Logic.{◌⊎◌, inl, inr}
use Prim.Native.Nat.{ℕ, ◌+◌, ◌-◌, ◌≤◌, ◌<◌}
use native.Mathlib.Omega.{arith}
use native.Mathlib.Nat.{add-sub_cancel_left}
use borrow.Author.Tests.{eqb-true, ltb-true, ltb-false}
use lib.ListN.{length, take, drop, get_or, length-drop}
use lib.Seq.{drop-drop}
use lib.Dec.{eqb, ltb}
use Rattle.terms.specs.Ascii.{Bytes, ascii}
use Rattle.terms.proofs.Tests.{both}
use Rattle.scan.specs.Allowed.{separates, inside, all}
use Rattle.scan.specs.Reach.{up_to, reach, stops_by}
use Rattle.scan.specs.declared.Until.TheVariants.{Two, NotSeparator, NotInside}
use Rattle.scan.proofs.Reach.{reach_le, reach-end, two-fit, all-before, not-separator, not-inside}
use Rattle.scan.proofs.Bytes.{all-parts}
use Rattle.line.specs.Content.{Without, Comment}
use Rattle.line.proofs.Finds.{find-here, find_first}
use Rattle.plain_parts.specs.Stands.{stretch, Stands, OpeningStands, BareEnds, BareStands, Ends, NoteStands, LineEnds, EndStands}
use Rattle.plain_parts.proofs.Stretches.{join, one, ahead}

-- ## Separators
abbrev skips : Bytes → Bool
skips = stops_by NotSeparator

pub blank-to : (s : Bytes) (from : ℕ) → all separates (stretch s from (reach skips s from)) ≡ true
blank-to s from = rw (add-sub_cancel_left from (up_to skips (drop from s))) (all-before skips separates not-separator (drop from s))

pub gap : (s : Bytes) (from : ℕ) → from < reach skips s from → Stands s from (reach skips s from) (λ w. all separates w ≡ true)
gap s from h = record { order = h; inside = go (ltb (length s) from) refl; spelled = blank-to s from }
  where
    go : (x : Bool) → ltb (length s) from ≡ x → reach skips s from ≤ length s
    go true e = let k = ltb-true (length s) from e in absurd (omega (arith, reach-end skips s from (omega arith)))
    go false e = reach_le skips s from (ltb-false (length s) from e)

-- ## The end itself
nothing : (s : Bytes) (at : ℕ) → stretch s at at ≡ []
nothing s at = let n : at - at ≡ 0 = omega arith in rw n

pub ends-here : (s : Bytes) (at : ℕ) → at ≤ length s → (at ≡ length s) ⊎ (get_or s at 0 ≡ 10) → BareEnds s at at
ends-here s at h e = record { order = omega arith; inside = h; cr = inl (nothing s at); last = e }

pub ends-behind : (s : Bytes) (at : ℕ) → at < length s → get_or s at 0 ≡ 13 → (at + 1 ≡ length s) ⊎ (get_or s (at + 1) 0 ≡ 10) → BareEnds s at (at + 1)
ends-behind s at h c e = record { order = omega arith; inside = omega arith; cr = inr (one s at h ∙ ap (λ (b : ℕ). b ∷ []) c); last = e }

pub no_note : (s : Bytes) (at : ℕ) (r : Option ℕ) → BareStands s at r → NoteStands s at r
no_note s at (Some stop) h = record { note = []; return = stretch s at stop; order = h.order; inside = h.inside; spelled = refl; comment = inl refl; cr = h.cr; last = h.last }
no_note s at None h = tt

-- ## A comment
pub opening : (s : Bytes) (at : ℕ) (opens : Bool) → at < length s → (opens ≡ true → 2 ≤ length (drop at s)) → opens ≡ starts_with nat_eq (drop at s) (47 ∷ 42 ∷ []) → OpeningStands s at opens
unfolding ascii
opening s at true h long e =
    let n : at + 2 - at ≡ 2 = omega arith in
    (omega (arith, long refl, length-drop at s), ap (λ (n : ℕ). take n (drop at s)) n ∙ sym ((bytes_eq-Decides (47 ∷ 42 ∷ []) (take 2 (drop at s))).0 (sym e)))
opening s at false h long e = tt

-- the scans behind an opening: for the closing, for what does not separate behind it, for what may not stand inside
abbrev shuts : Bytes → Bool
shuts = stops_by (Two 42 47)

module _ (s : Bytes) (from close : ℕ) (opened : OpeningStands s from true) (e : close ≡ reach shuts s (from + 2)) (found : close < length s) where
  abbrev rest : Bytes
  rest = drop (from + 2) s

  closed_at : up_to shuts rest < length rest
  closed_at = let h = opened.0 in omega (arith, length-drop (from + 2) s)

  pub closed-within : close + 2 ≤ length s
  closed-within = let h = opened.0 in omega (arith, two-fit 42 47 rest closed_at, length-drop (from + 2) s)

  closing : stretch s close (close + 2) ≡ ascii "*/"
  unfolding ascii
  closing =
      let n : close + 2 - close ≡ 2 = omega arith in
      ap₂ take n (ap (λ (k : ℕ). drop k s) e ∙ sym (drop-drop (up_to shuts rest) (from + 2) s) ∙ find-here 42 47 rest closed_at)

  inner : stretch s (from + 2) close ≡ take (up_to shuts rest) rest
  inner = let n : close - (from + 2) ≡ up_to shuts rest = omega arith in ap (λ (n : ℕ). take n rest) n

  inner_first : Without (ascii "*/") (stretch s (from + 2) close)
  unfolding ascii
  inner_first = subst (Without (42 ∷ 47 ∷ [])) (sym inner) (find_first 42 47 rest)

  module _ (stop : ℕ) (q : stop ≡ reach skips s (close + 2)) (h : stop ≤ reach (stops_by NotInside) s (from + 2)) where
    inner-allowed : all inside (stretch s (from + 2) close) ≡ true
    inner-allowed =
        let i = reach (stops_by NotInside) s (from + 2) in
        let a : all inside (stretch s (from + 2) i) ≡ true = rw (add-sub_cancel_left (from + 2) (up_to (stops_by NotInside) rest)) (all-before (stops_by NotInside) inside not-inside rest) in
        (all-parts inside (stretch s (from + 2) close) (stretch s close i) (ap (all inside) (join s (from + 2) close i (omega arith) (omega arith)) ∙ a)).0

    whole : stretch s from stop ≡ ascii "/*" ++ (stretch s (from + 2) close ++ (ascii "*/" ++ stretch s (close + 2) stop))
    whole =
        sym (join s from (from + 2) stop (omega arith) (omega arith))
        ∙ ap₂ ◌++◌ opened.1 (sym (join s (from + 2) close stop (omega arith) (omega arith)) ∙ ap (◌++◌ (stretch s (from + 2) close)) (sym (join s close (close + 2) stop (omega arith) (omega arith)) ∙ ap (λ (l : Bytes). l ++ stretch s (close + 2) stop) closing))

    pub comment-stands : Stands s from stop Comment
    comment-stands =
        record {
          order = omega arith;
          inside = omega (arith, reach_le skips s (close + 2) closed-within);
          spelled = record {
            text = stretch s (from + 2) close;
            behind = stretch s (close + 2) stop;
            spelled = whole;
            first = inner_first;
            allowed = inner-allowed;
            only_separators = ap (λ (k : ℕ). all separates (stretch s (close + 2) k)) q ∙ blank-to s (close + 2);
          };
        }

-- ## All together
pub behind-note : (s : Bytes) (from at : ℕ) (r : Option ℕ) → Stands s from at Comment → BareStands s at r → NoteStands s from r
behind-note s from at (Some stop) c h =
    let o = c.order in
    let p = h.order in
    record { note = stretch s from at; return = stretch s at stop; order = omega arith; inside = h.inside; spelled = sym (join s from at stop (omega arith) p); comment = inr c.spelled; cr = h.cr; last = h.last }
behind-note s from at None c h = tt

pub behind-blank : (s : Bytes) (from : ℕ) (r : Option ℕ) → NoteStands s (reach skips s from) r → EndStands s from r
behind-blank s from (Some stop) h = record { at = reach skips s from; order = omega arith; blank = blank-to s from; ends = h }
behind-blank s from None h = tt

-- a line ends where its LF stands
pub line-ends-here : (s : Bytes) (at : ℕ) → at < length s → get_or s at 0 ≡ 10 → LineEnds s at at
unfolding all
line-ends-here s at h e =
    record { at = at; order = omega arith; blank = ap (all separates) (nothing s at); ends = no_note s at (Some at) (ends-here s at (omega arith) (inr e)) }
