-- THE LAW of 12 over rows: the exits of a table of given rows get the points of their entries, or the answer is the first entry that names none. Assumes nothing.
use mathlib.Core.Path.{◌≡◌, refl, sym, ap, ◌∙◌}
use mathlib.Core.List.{List, [], ◌∷◌, ◌++◌, map, append_assoc}
use mathlib.Core.Option.{Option, none, some}
use Prim.Native.Nat.{ℕ, suc, ◌+◌, ◌*◌, ◌≤◌}
use native.Mathlib.Omega.{arith}
use lib.ListN.{length, length-append}
use lib.Seq.{get_or-append_seam}
use Rattle.terms.specs.Ascii.{Bytes}
use Rattle.rows.specs.Strides.{exit_stride}
use Rattle.rows.specs.Columns.{exit_words_of}
use Rattle.rows.specs.Read.{exit_at}
use Rattle.rows.specs.Table.{table_of}
use Rattle.rows.specs.declared.ExitRow.{ExitRow}
use Rattle.rows.proofs.Forms.{exit, read-filled}
use Rattle.grammar.specs.Statements.{PointId}
use Rattle.fill.specs.Resolve.{Look, resolve, or-zero}
use Rattle.fill.specs.FirstFaults.{Fault, unless_found, or_behind, first_fault}
use Rattle.references.specs.Exits.{named_at, with_point, put_point_of, Outcome, done, at, onward, resolved_from, entry_of_row, entry_fault, resolved_row, picked}
use Rattle.references.proofs.Stored.{put_in-table}

module _ (text : Bytes) (look : Look) (m n : ℕ) where
  abbrev table : List ExitRow → List ℕ
  table = table_of 0 exit_words_of n

  abbrev entry : ExitRow → PointId
  entry = entry_of_row text

  abbrev resolved : ExitRow → ExitRow
  resolved = resolved_row text look m

  abbrev test : List PointId → PointId → Option ℕ
  test = entry_fault look m

  -- the same with rows in front that have their points already
  abbrev behind : (ready rs : List ExitRow) → Option Fault → Outcome
  behind ready rs none = done (table (ready ++ map resolved rs))
  behind ready rs (some f) = at f.row

  module _ (ready : List ExitRow) (r : ExitRow) (rs : List ExitRow) (room : length (ready ++ (r ∷ rs)) * 2 ≤ n) where
    read : exit_at (table (ready ++ (r ∷ rs))) (length ready) ≡ r
    read =
        let a = length-append ready (r ∷ rs) in
        read-filled exit n (ready ++ (r ∷ rs)) (length ready) r room (omega arith) tt ∙ get_or-append_seam ready r rs r

    named : named_at text look m (exit_at (table (ready ++ (r ∷ rs))) (length ready)).entry ≡ resolve m look (entry r)
    unfolding named_at
    named = ap (λ (e : ExitRow). resolve m look (entry e)) read

    stored : (i : ℕ) → put_point_of (table (ready ++ (r ∷ rs))) (length ready) i ≡ table ((ready ++ (with_point r i ∷ [])) ++ rs)
    stored i =
        put_in-table exit_stride exit_words_of exit.some exit.long 0 n ready r (with_point (exit_at (table (ready ++ (r ∷ rs))) (length ready)) i) rs
        ∙ ap (λ (e : ExitRow). table (ready ++ (with_point e i ∷ rs))) read
        ∙ ap table (sym (append_assoc ready (with_point r i ∷ []) rs))

  resolved-behind : (rs ready : List ExitRow) (front : List PointId) → length front ≡ length ready → length (ready ++ rs) * 2 ≤ n
      → resolved_from text look m (table (ready ++ rs)) (length ready) (length rs) ≡ behind ready rs (first_fault test front (map entry rs))
  unfolding resolved_from first_fault
  resolved-behind [] ready front same room = refl
  resolved-behind (r ∷ rs) ready front same room = rw (named ready r rs room)
      (go (resolve m look (entry r)) refl
      (λ i. resolved-behind rs (ready ++ (with_point r i ∷ [])) (front ++ (entry r ∷ [])) (as_many i) (still-room i)))
    where
      as_many : (i : ℕ) → length (front ++ (entry r ∷ [])) ≡ length (ready ++ (with_point r i ∷ []))
      as_many i = let a = length-append front (entry r ∷ []) in let b = length-append ready (with_point r i ∷ []) in omega arith

      still-room : (i : ℕ) → length ((ready ++ (with_point r i ∷ [])) ++ rs) * 2 ≤ n
      still-room i = let a = length-append (ready ++ (with_point r i ∷ [])) rs in let b = length-append ready (with_point r i ∷ []) in let d = length-append ready (r ∷ rs) in omega arith

      one_more : (i : ℕ) → suc (length ready) ≡ length (ready ++ (with_point r i ∷ []))
      one_more i = let b = length-append ready (with_point r i ∷ []) in omega arith

      among-ready : (i : ℕ) → resolve m look (entry r) ≡ some i → (o : Option Fault) → behind (ready ++ (with_point r i ∷ [])) rs o ≡ behind ready (r ∷ rs) o
      among-ready i q none = ap (λ (l : List ExitRow). done (table l)) (append_assoc ready (with_point r i ∷ []) (map resolved rs) ∙ ap (λ (o : Option ℕ). ready ++ (with_point r (or-zero o) ∷ map resolved rs)) (sym q))
      among-ready i q (some f) = refl

      go : (o : Option ℕ) → resolve m look (entry r) ≡ o
          → ((i : ℕ) → resolved_from text look m (table ((ready ++ (with_point r i ∷ [])) ++ rs)) (length (ready ++ (with_point r i ∷ []))) (length rs) ≡ behind (ready ++ (with_point r i ∷ [])) rs (first_fault test (front ++ (entry r ∷ [])) (map entry rs)))
          → onward (table (ready ++ (r ∷ rs))) (length ready) o (λ u. resolved_from text look m u (suc (length ready)) (length rs))
          ≡ behind ready (r ∷ rs) (or_behind (length front) (unless_found o) (first_fault test (front ++ (entry r ∷ [])) (map entry rs)))
      go none q ih = ap at (sym same)
      go (some i) q ih =
          ap (λ (u : List ℕ). resolved_from text look m u (suc (length ready)) (length rs)) (stored ready r rs room i)
          ∙ ap (λ (k : ℕ). resolved_from text look m (table ((ready ++ (with_point r i ∷ [])) ++ rs)) k (length rs)) (one_more i)
          ∙ ih i
          ∙ among-ready i q (first_fault test (front ++ (entry r ∷ [])) (map entry rs))

  pub exits-resolved : (rs : List ExitRow) → length rs * 2 ≤ n → resolved_from text look m (table_of 0 exit_words_of n rs) 0 (length rs) ≡ picked text look m n rs (first_fault (entry_fault look m) [] (map (entry_of_row text) rs))
  exits-resolved rs room = resolved-behind rs [] [] refl room ∙ go (first_fault test [] (map entry rs))
    where
      go : (o : Option Fault) → behind [] rs o ≡ picked text look m n rs o
      go none = refl
      go (some f) = refl
