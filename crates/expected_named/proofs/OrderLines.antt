-- Each line of a mission is a keyword's, a goal's or a limit's, so also each of the lines with which one begins. Assumes nothing.
use mathlib.Core.Path.{◌≡◌, refl, sym, subst}
use mathlib.Core.List.{List, [], ◌∷◌, ◌++◌, map}
use mathlib.Core.Option.{Option}
use mathlib.Core.Bool.{false}
use Prim.Native.Nat.{ℕ}
use lib.ListN.{length}
use Rattle.terms.specs.Ascii.{Bytes, ascii}
use Rattle.terms.specs.Words.{Each, perhaps}
use Rattle.terms.proofs.Lists.{each_append}
use Rattle.scan.specs.Reach.{begins}
use Rattle.word.specs.Number.{digit_first}
use Rattle.line.specs.Line.{Field}
use Rattle.law.specs.Network.{Edition, Limit, Mission, Line, word, name, numbers, goal_line_of, limit_line, line, Mixed, none, left, right, AnyOrder, file_options, reading, SpellsMission}
use Rattle.law.specs.Faults.{FollowsStrictly}

pub data SaidInMdf (l : Line) : Type 0 where
  keyword : (w : Bytes) (others : Line) → l ≡ word w ∷ others → digit_first w ≡ false → SaidInMdf l
  goal : (n : ℕ) → l ≡ goal_line_of n → SaidInMdf l
  limit : (a : Limit) → l ≡ limit_line a → SaidInMdf l

-- ## Options
mixed : {l r both : List Line} → Each SaidInMdf l → Each SaidInMdf r → Mixed l r both → Each SaidInMdf both
mixed p q none = tt
mixed p q (left m) = (p.0, mixed p.1 q m)
mixed p q (right m) = (q.0, mixed p q.1 m)

any_order : (ls : List (List Line)) (options : List Line) → Each (Each SaidInMdf) ls → AnyOrder ls options → Each SaidInMdf options
any_order [] options q e = subst (Each SaidInMdf) (sym e) tt
any_order (l ∷ ls) options q m = mixed q.0 (any_order ls m.0 q.1 m.1) m.2

each_line : {A : Type 0} (g : A → Line) → ((a : A) → SaidInMdf (g a)) → (l : List A) → Each SaidInMdf (map g l)
each_line g f [] = tt
each_line g f (a ∷ l) = (f a, each_line g f l)

-- ## Keywords begin with no digit
plain : (w : Bytes) (others : Line) → digit_first w ≡ false → SaidInMdf (word w ∷ others)
plain w others e = keyword w others refl e

version-plain : digit_first (ascii "format_version") ≡ false
unfolding begins ascii
version-plain = refl

date-plain : digit_first (ascii "creation_date") ≡ false
unfolding begins ascii
date-plain = refl

file-plain : (version date : Option Field) (options : List Line) → AnyOrder (file_options version date) options → Each SaidInMdf options
file-plain version date options h =
    any_order (file_options version date) options (each_line (λ v. line "format_version" (name v ∷ [])) (λ v. plain (ascii "format_version") (name v ∷ []) version-plain) (perhaps version), (each_line (λ v. line "creation_date" (name v ∷ [])) (λ v. plain (ascii "creation_date") (name v ∷ []) date-plain) (perhaps date), tt)) h

pub mission-orders : (d : Edition) (m : Mission Field) (l : List Line) → SpellsMission (reading d) m l → Each SaidInMdf l
unfolding begins ascii
mission-orders d m l h =
    subst (Each SaidInMdf) (sym h.spelled) (
      plain (ascii "MDF_name") (name m.name ∷ []) refl,
      (
        plain (ascii "RNDF") (name m.rndf ∷ []) refl,
        each_append SaidInMdf h.options _ (file-plain m.version m.date h.options h.given) (
          plain (ascii "checkpoints") [] refl,
          (
            plain (ascii "num_checkpoints") (numbers (length m.goals ∷ []) ∷ []) refl,
            each_append SaidInMdf (map goal_line_of m.goals) _ (each_line goal_line_of (λ g. goal g refl) m.goals) (
              plain (ascii "end_checkpoints") [] refl,
              (
                plain (ascii "speed_limits") [] refl,
                (
                  plain (ascii "num_speed_limits") (numbers (length m.limits ∷ []) ∷ []) refl,
                  each_append SaidInMdf (map limit_line m.limits) _ (each_line limit_line (λ a. limit a refl) m.limits) (
                    plain (ascii "end_speed_limits") [] refl,
                    (plain (ascii "end_file") [] refl, tt),
                  ),
                ),
              ),
            ),
          ),
        ),
      ),
    )

-- the lines before one
front-each : {A : Type 0} (P : A → Type 0) (l r : List A) → Each P (l ++ r) → Each P l
front-each P [] r e = tt
front-each P (a ∷ l) r e = (e.0, front-each P l r e.1)

pub front-orders : (d : Edition) (front : List Line) (l : Line) → FollowsStrictly (reading d) SpellsMission front l → Each SaidInMdf front
front-orders d front l h = front-each SaidInMdf front (l ∷ []) (front-each SaidInMdf (front ++ (l ∷ [])) h.rest (mission-orders d h.net ((front ++ (l ∷ [])) ++ h.rest) h.spelled))
