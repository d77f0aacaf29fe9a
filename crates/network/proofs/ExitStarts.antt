-- The starts of the exits' entries: as many as exits, each where its exit stands. Assumes nothing.
use mathlib.Core.Path.{◌≡◌, refl, sym, ap, ◌∙◌}
use mathlib.Core.List.{List, [], ◌∷◌, ◌++◌}
use mathlib.Core.Option.{Option, none, some}
use Prim.Native.Nat.{ℕ, zero, suc, ◌<◌}
use native.Mathlib.Omega.{arith}
use lib.ListN.{length, get_or}
use Rattle.terms.specs.Ascii.{Bytes}
use Rattle.line.specs.Content.{Field}
use Rattle.grammar.specs.Language.{as_kind}
use Rattle.grammar.specs.Statements.{Statement, lines, ExitLine, exit, of_kind}
use Rattle.grammar.specs.Network.{Network}
use Rattle.grammar.specs.Tables.{tables}
use Rattle.grammar.proofs.LanguageLaws.{all-some, all_none}
use Rattle.fill.specs.Counts.{Counts}
use Rattle.fill.specs.FirstLines.{here_or_behind, the_place_of}
use Rattle.fill.proofs.ReferenceLaws.{tables-declared}
use Rattle.text.specs.Spelling.{SpellsRndf}
use Rattle.walk.specs.Standing.{Where, places_in}
use Rattle.walk.proofs.RndfWalk as R
use Rattle.network.proofs.ExitLines.{if_there, exit-starts}
use Rattle.network.proofs.Spelled.{exit-line-starts, statements-read}

-- where the last field of the i-th line starts
abbrev pub start-at : List Where → ℕ → ℕ
start-at ws i = (get_or ws i (record { last = 0; line = 0 })).last

module _ {N : Type 0} where
  pub as-many-starts : (ws : List Where) (ts : List (Statement N)) → length ws ≡ length ts → length (exit-starts ws ts) ≡ length (of_kind exit ts)
  unfolding exit-starts
  as-many-starts [] [] n = refl
  as-many-starts [] (t ∷ ts) n = absurd (omega arith)
  as-many-starts (w ∷ ws) [] n = absurd (omega arith)
  as-many-starts (w ∷ ws) (t ∷ ts) n = go (as_kind (lines N) exit t) refl (as-many-starts ws ts (omega arith))
    where
      go : (o : Option ExitLine) → as_kind (lines N) exit t ≡ o → length (exit-starts ws ts) ≡ length (of_kind exit ts) → length (if_there o w.last ++ exit-starts ws ts) ≡ length (of_kind exit (t ∷ ts))
      go none e h = h ∙ ap (λ (l : List ExitLine). length l) (sym (all_none (lines N) exit t ts e))
      go (some v) e h = ap suc h ∙ ap (λ (l : List ExitLine). length l) (sym (all-some (lines N) exit t ts v e))

  pub start-of-exit : (ws : List Where) (ts : List (Statement N)) → length ws ≡ length ts → (i : ℕ) → i < length (of_kind exit ts) → get_or (exit-starts ws ts) i 0 ≡ start-at ws (the_place_of (lines N) exit ts i)
  unfolding exit-starts the_place_of
  start-of-exit [] [] n i h = refl
  start-of-exit [] (t ∷ ts) n i h = absurd (omega arith)
  start-of-exit (w ∷ ws) [] n i h = absurd (omega arith)
  start-of-exit (w ∷ ws) (t ∷ ts) n i h = go (as_kind (lines N) exit t) refl i h (start-of-exit ws ts (omega arith))
    where
      go : (o : Option ExitLine) → as_kind (lines N) exit t ≡ o → (i : ℕ) → i < length (of_kind exit (t ∷ ts)) → ((j : ℕ) → j < length (of_kind exit ts) → get_or (exit-starts ws ts) j 0 ≡ start-at ws (the_place_of (lines N) exit ts j))
          → get_or (if_there o w.last ++ exit-starts ws ts) i 0 ≡ start-at (w ∷ ws) (here_or_behind (lines N) o i (the_place_of (lines N) exit ts))
      go none e i h f = f i (let k = ap (λ (l : List ExitLine). length l) (all_none (lines N) exit t ts e) in omega arith)
      go (some v) e zero h f = refl
      go (some v) e (suc j) h f = f j (let k = ap (λ (l : List ExitLine). length l) (all-some (lines N) exit t ts v e) in omega arith)

-- of a network that is spelled: a start for each row of its exits
pub start_for-each-exit : (n : Network Field) (text : Bytes) (h : SpellsRndf n text) → length (exit-line-starts n text h) ≡ length (tables n).exits
start_for-each-exit n text h =
    as-many-starts (places_in text) h.said (R.rndf_as-many text h.said (statements-read n text h)) ∙ sym (ap (λ (c : Counts). c.exits) (tables-declared n h.said h.net))
