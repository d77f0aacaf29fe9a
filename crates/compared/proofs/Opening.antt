-- The last line that opens a part, line by line. Assumes nothing.
use mathlib.Core.Path.{◌≡◌, refl, sym, ap, ◌∙◌}
use mathlib.Core.Bool.{Bool, true, false}
use mathlib.Core.List.{List, [], ◌∷◌, ◌++◌}
use Prim.Native.Nat.{ℕ, ◌+◌, ◌≤◌, ◌<◌}
use borrow.Author.Tests.{eq-eqb, ne_eqb}
use lib.ListN.{length, drop}
use Rattle.terms.specs.Ascii.{Bytes, ascii}
use Rattle.terms.specs.Words.{pick}
use Rattle.scan.specs.Reach.{reach, stops_by}
use Rattle.scan.specs.declared.Until.TheVariants.{Byte}
use Rattle.line.specs.Text.{lf}
use Rattle.line.specs.Lines.{lines_of}
use Rattle.line.proofs.Cuts.{lines_at, lines_end}
use Rattle.compared.specs.Compared.{line_there, opening, last_opening_of, part_told}
use Rattle.compared.proofs.Laws.{line-here}

module _ (s : Bytes) (from e : ℕ) (found : Bytes) (h : from < length s) (q : e ≡ reach (stops_by (Byte lf)) s from) where
  by-line : last_opening_of found (lines_of (drop from s)) ≡ last_opening_of (pick (opening (line_there s from)) (line_there s from) found) (lines_of (drop (e + 1) s))
  unfolding last_opening_of
  by-line = ap (last_opening_of found) (lines_at s from e h q) ∙ ap (λ (l : Bytes). last_opening_of (pick (opening l) l found) (lines_of (drop (e + 1) s))) (line-here s from e h q)

  pub opens-here : opening (line_there s from) ≡ true → last_opening_of (line_there s from) (lines_of (drop (e + 1) s)) ≡ last_opening_of found (lines_of (drop from s))
  opens-here o = sym (by-line ∙ ap (λ (b : Bool). last_opening_of (pick b (line_there s from) found) (lines_of (drop (e + 1) s))) o)

  pub opens_not : opening (line_there s from) ≡ false → last_opening_of found (lines_of (drop (e + 1) s)) ≡ last_opening_of found (lines_of (drop from s))
  opens_not o = sym (by-line ∙ ap (λ (b : Bool). last_opening_of (pick b (line_there s from) found) (lines_of (drop (e + 1) s))) o)

pub opens-end : (s : Bytes) (from : ℕ) (found : Bytes) → length s ≤ from → last_opening_of found (lines_of (drop from s)) ≡ found
unfolding last_opening_of
opens-end s from found h = ap (last_opening_of found) (lines_end s from h)

-- ## What is told of it
pub no_part : (part : Bytes) → length part ≡ 0 → [] ≡ part_told part
unfolding part_told
no_part part e = rw (eq-eqb (length part) 0 e)

pub some-part : (part : Bytes) → (length part ≡ 0 → ⊥) → ascii "last part before it: " ++ part ++ ascii "\n" ≡ part_told part
unfolding part_told
some-part part d = rw (ne_eqb (length part) 0 d)
