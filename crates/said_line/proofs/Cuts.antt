-- What comes of a statement whose kind may stand at a place. Assumes nothing.
use mathlib.Core.Path.{◌≡◌, refl, sym, ap, ◌∙◌}
use mathlib.Core.List.{List}
use mathlib.Core.Option.{Option, none, some}
use mathlib.Core.Bool.{Bool, true, false}
use Prim.Native.Nat.{ℕ, zero, suc, ◌+◌, ◌≤◌}
use native.Mathlib.Omega.{arith}
use lib.ListN.{length, get_or}
use lib.Dec.{eqb}
use borrow.Author.Tests.{eq-eqb}
use Rattle.terms.specs.Ascii.{Bytes}
use Rattle.terms.specs.Words.{pick}
use Rattle.line.specs.Forms.{fields_at, fields_in_of, listed}
use Rattle.line.proofs.Spans.{fields-listed, fields_within}
use Rattle.line_fields.specs.LineFields.{last_of, last_start_of}
use Rattle.statement.specs.declared.Statement.{Statement}
use Rattle.made_out.specs.Made.{shapes, needs_of}
use Rattle.place.specs.declared.Place.{Place}
use Rattle.place.specs.Step.{cell_of, refuses_by}
use Rattle.judge.specs.Judging.{Got, bad, blank, valued, line}
use Rattle.judge.specs.RndfLine.{judging}
use Rattle.plain_parts.specs.Stands.{stretch}
use Rattle.plain_line.specs.declared.Plain as DP
use Rattle.plain_line.specs.declared.Plain.TheVariants as Plain
use Rattle.plain_line.specs.Plain.{stated, PlainStands}
use Rattle.said_line.specs.declared.Cut as DC
use Rattle.said_line.specs.declared.Cut.TheVariants as Cut
use Rattle.said_line.specs.Saying.{last_in, made_cut, got_of, LastTold, LastOfFew}

pub cut-valued : (table : List (List ℕ)) (p : Place) (k last c : ℕ) (o : Option Statement) → c ≡ cell_of table p k → refuses_by p.given c ≡ 0 → got_of table p (made_cut k last o) ≡ valued (judging table) p c o
unfolding stated
cut-valued table p k last c none e z = refl
cut-valued table p k last c (some s) e z = rw (← e, eq-eqb _ 0 z) refl

-- ## Where the last field starts
pub at-most-three : (k : ℕ) → needs_of (get_or shapes k 0) ≤ 3
at-most-three k = by (eqb (get_or shapes k 0) 0) (eqb (get_or shapes k 0) 5) (eqb (get_or shapes k 0) 7) (eqb (get_or shapes k 0) 8)
  where
    by : (a b c d : Bool) → pick a 1 (pick b 3 (pick c 3 (pick d 3 2))) ≤ 3
    by true b c d = omega arith
    by false true c d = omega arith
    by false false true d = omega arith
    by false false false true = omega arith
    by false false false false = omega arith

pub few-told : (count n k : ℕ) (o : Option Statement) → count ≤ 3 → LastOfFew count n (made_cut k n o)
few-told count n k none h = tt
few-told count n k (some s) h = (refl, h)

pub last-inside : (s : Bytes) → last_in (fields_in_of s) ≤ length s
last-inside s = by (eqb (fields_in_of s).count 1) (eqb (fields_in_of s).count 2)
  where
    by : (a b : Bool) → pick a (fields_in_of s).a.start (pick b (fields_in_of s).b.start (fields_in_of s).c.start) ≤ length s
    by true b = let w = (fields_within s).first in omega (arith, w.order, w.inside)
    by false true = let w = (fields_within s).second in omega (arith, w.order, w.inside)
    by false false = let w = (fields_within s).third in omega (arith, w.order, w.inside)

pub last-listed : (base : ℕ) (s : Bytes) → ((fields_in_of s).count ≡ 0 → ⊥) → (fields_in_of s).count ≤ 3 → base + last_in (fields_in_of s) ≡ last_start_of (fields_at base s)
unfolding last_of
last-listed base s one few = rw (fields-listed base s) (go (fields_in_of s).count one few)
  where
    go : (n : ℕ) → (n ≡ 0 → ⊥) → n ≤ 3 → base + pick (eqb n 1) (fields_in_of s).a.start (pick (eqb n 2) (fields_in_of s).b.start (fields_in_of s).c.start) ≡ last_start_of (listed base s (fields_in_of s) n)
    go zero one few = absurd (one refl)
    go (suc zero) one few = refl
    go (suc (suc zero)) one few = refl
    go (suc (suc (suc zero))) one few = refl
    go (suc (suc (suc (suc n)))) one few = absurd (omega arith)

-- of a cut by these fields
pub told-last : (base : ℕ) (s : Bytes) → ((fields_in_of s).count ≡ 0 → ⊥) → (c : DC.Cut) → LastOfFew (fields_in_of s).count (base + last_in (fields_in_of s)) c → LastTold (last_start_of (fields_at base s)) c
told-last base s one Cut.Blank h = tt
told-last base s one (Cut.Said k st last) h = h.0 ∙ last-listed base s one h.1
told-last base s one (Cut.Bad n) h = tt
