-- Integers joined by dots, and coordinates, as they stand in a text. Assumes nothing.
use mathlib.Core.Path.{◌≡◌, refl, sym, ap, ap₂, ◌∙◌}
use mathlib.Core.Bool.{Bool, true, false}
use mathlib.Core.List.{[], ◌∷◌, ◌++◌, append_assoc}
use Prim.Native.Nat.{ℕ, ◌+◌, ◌*◌, ◌≤◌, ◌<◌}
use native.Mathlib.Omega.{arith}
use borrow.Author.Tests.{eqb-true, lt-ltb, le-ltb}
use lib.IntN.{pos, neg_ℤ}
use lib.ListN.{length, get_or}
use lib.Dec.{eqb, ltb}
use Rattle.terms.specs.Ascii.{Bytes, ascii}
use Rattle.terms.specs.Words.{pick}
use Rattle.number.specs.Decimal.{decimal, padded}
use Rattle.number.specs.Spelling.{SpellsInteger, SpellsPair, SpellsTriple}
use Rattle.coordinate.specs.Sign.{signed}
use Rattle.coordinate.specs.Spelling.{SpellsCoordinate}
use Rattle.plain_parts.specs.Stands.{stretch, Stands, DotStands, SpellsDegrees, behind_minus_of}
use Rattle.plain_parts.proofs.Stretches.{join, ahead}

pub dot-stands : (s : Bytes) (at : ℕ) → at < length s → DotStands s at (eqb (get_or s at 0) 46)
dot-stands s at h = go (eqb (get_or s at 0) 46) refl
  where
    go : (x : Bool) → eqb (get_or s at 0) 46 ≡ x → DotStands s at x
    go true e = (h, eqb-true (get_or s at 0) 46 e)
    go false e = tt

-- two stretches with a dot between
pub dotted : (s : Bytes) (from p stop : ℕ) (a b : Bytes) → from ≤ p → p < stop → DotStands s p true → stretch s from p ≡ a → stretch s (p + 1) stop ≡ b → stretch s from stop ≡ a ++ (46 ∷ b)
dotted s from p stop a b h k d e f =
    sym (join s from p stop h (omega arith)) ∙ ap₂ ◌++◌ e (ahead s p stop k d.0 ∙ ap₂ ◌∷◌ d.1 f)

module _ (s : Bytes) (from p stop : ℕ) (m : ℕ) (first : Stands s from p (λ w. SpellsInteger w m)) (dot : DotStands s p true) where
  pub pair-joined : (n : ℕ) → Stands s (p + 1) stop (λ w. SpellsInteger w n) → Stands s from stop (λ w. SpellsPair w m n)
  unfolding ascii
  pair-joined n second =
      let f = first.order in
      let g = second.order in
      record {
        order = omega arith;
        inside = second.inside;
        spelled = record {
          spelled = dotted s from p stop (decimal m) (decimal n) (omega arith) (omega arith) dot first.spelled.spelled second.spelled.spelled ∙ sym (append_assoc (decimal m) (46 ∷ []) (decimal n));
          m_five_digits = first.spelled.five_digits;
          n_five_digits = second.spelled.five_digits;
        };
      }

  pub triple-joined : (y z : ℕ) → Stands s (p + 1) stop (λ w. SpellsPair w y z) → Stands s from stop (λ w. SpellsTriple w m y z)
  unfolding ascii
  triple-joined y z second =
      let f = first.order in
      let g = second.order in
      let e : decimal m ++ (46 ∷ (decimal y ++ (46 ∷ []) ++ decimal z)) ≡ decimal m ++ (46 ∷ []) ++ decimal y ++ (46 ∷ []) ++ decimal z = simp append_assoc in
      record {
        order = omega arith;
        inside = second.inside;
        spelled = record {
          spelled = dotted s from p stop (decimal m) (decimal y ++ (46 ∷ []) ++ decimal z) (omega arith) (omega arith) dot first.spelled.spelled second.spelled.spelled ∙ e;
          x_five_digits = first.spelled.five_digits;
          y_five_digits = second.spelled.m_five_digits;
          z_five_digits = second.spelled.n_five_digits;
        };
      }

-- degrees, a point and six digits
pub degrees-joined : (s : Bytes) (from p d m : ℕ) → Stands s from p (λ w. SpellsInteger w d) → DotStands s p true → d ≤ 999 → m ≤ 999999 → (p + 1 + 6 ≤ length s) × (stretch s (p + 1) (p + 1 + 6) ≡ padded 6 m) → Stands s from (p + 7) (λ w. SpellsDegrees w (d * 1000000 + m))
degrees-joined s from p d m first dot h k six =
    let f = first.order in
    let n : p + 7 ≡ p + 1 + 6 = omega arith in
    let l = six.0 in
    record {
      order = omega arith;
      inside = omega arith;
      spelled = record {
        degrees = d;
        millionths = m;
        three_digits = h;
        six_digits = k;
        spelled = rw n (dotted s from p (p + 1 + 6) (decimal d) (padded 6 m) (omega arith) (omega arith) dot first.spelled.spelled six.1);
        counted = refl;
      };
    }

-- with a sign in front, or none
pub signed-degrees : (s : Bytes) (from stop m : ℕ) → Stands s (behind_minus_of s from) stop (λ w. SpellsDegrees w m) → Stands s from stop (λ w. SpellsCoordinate w (signed (ltb from (behind_minus_of s from)) m))
unfolding ascii
signed-degrees s from stop m h = go (eqb (get_or s from 0) 45) refl h
  where
    go : (x : Bool) → eqb (get_or s from 0) 45 ≡ x → Stands s (pick x (from + 1) from) stop (λ w. SpellsDegrees w m) → Stands s from stop (λ w. SpellsCoordinate w (signed (ltb from (pick x (from + 1) from)) m))
    go true e h =
        let f = h.order in
        let i = h.inside in
        let d = h.spelled in
        let a : decimal d.degrees ++ (46 ∷ padded 6 d.millionths) ≡ decimal d.degrees ++ (46 ∷ []) ++ padded 6 d.millionths = sym (append_assoc (decimal d.degrees) (46 ∷ []) (padded 6 d.millionths)) in
        rw (lt-ltb from (from + 1) (omega arith)) (record {
          order = omega arith;
          inside = i;
          spelled = record {
            minus = true;
            degrees = d.degrees;
            millionths = d.millionths;
            three_digits = d.three_digits;
            six_digits = d.six_digits;
            spelled = ahead s from stop (omega arith) (omega arith) ∙ ap₂ ◌∷◌ (eqb-true (get_or s from 0) 45 e) (d.spelled ∙ a);
            counted = ap (λ (m : ℕ). neg_ℤ (pos m)) d.counted;
          };
        })
    go false e h =
        let f = h.order in
        let d = h.spelled in
        rw (le-ltb from from (omega arith)) (record {
          order = h.order;
          inside = h.inside;
          spelled = record {
            minus = false;
            degrees = d.degrees;
            millionths = d.millionths;
            three_digits = d.three_digits;
            six_digits = d.six_digits;
            spelled = d.spelled ∙ sym (append_assoc (decimal d.degrees) (46 ∷ []) (padded 6 d.millionths));
            counted = ap pos d.counted;
          };
        })

pub degrees-small : {field : Bytes} {m : ℕ} → SpellsDegrees field m → m ≤ 999999999
degrees-small d = let h = d.three_digits in let k = d.six_digits in let e = d.counted in omega arith
