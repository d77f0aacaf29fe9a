-- What a cell of the table of places by statements says of every spelling. Document 01: "Which statement may stand at which place is one table of places by statements, and the grammar's agreement with it is proved over the whole table." Assumes nothing.
use Rattle.std.specs.Prelude.{get_or, ◌≡◌, ◌∷◌, ◌++◌, ◌<◌, ◌≤◌}
use Rattle.terms.specs.Words.{List, [], ℕ, Each}
use Rattle.grammar.specs.Language.{Lang, S}
use Rattle.grammar.specs.Machine.{Machine, Stand, over, inside, next, Place, at, run}
use Rattle.grammar.specs.Network.{Under}
use Rattle.grammar.specs.Places.{rndf_by}
use Rattle.grammar.specs.MissionPlaces.{mdf}
use Rattle.grammar.specs.PlaceTable.{rndf_table_of, mdf_table_of, cell}
use Rattle.grammar.specs.PlaceRows.{kind_row, rndf_row, mission_kind_row, mdf_row}

-- a file's table: the column of a kind, the row of a place, the row behind the end, and for each row the row that a cell names it by
pub record Numbered {L : Lang} (A : Machine L) : Type 0 where
  pub table : List (List ℕ)
  pub column : L.Kind → ℕ
  pub row : A.Base → ℕ
  pub last : ℕ
  pub named : ℕ → ℕ

-- rows that differ only in what is owed are named by the first of them: 4 to 6, 9 and 10, 13 and 14, 19 and 20, 21 and 22; all others by themselves
abbrev pub rndf_named : ℕ → ℕ
rndf_named i = get_or (0 ∷ 1 ∷ 2 ∷ 3 ∷ 4 ∷ 4 ∷ 4 ∷ 7 ∷ 8 ∷ 9 ∷ 9 ∷ 11 ∷ 12 ∷ 13 ∷ 13 ∷ 15 ∷ 16 ∷ 17 ∷ 18 ∷ 19 ∷ 19 ∷ 21 ∷ 21 ∷ 23 ∷ 24 ∷ 25 ∷ 26 ∷ []) i 255

-- one table for every edition, and for the grammar with L8's rule and the one without
abbrev pub rndf_numbered : (N : Type 0) (by : Under) → Numbered (rndf_by N by)
rndf_numbered N by = record { table = rndf_table_of; column = kind_row; row = rndf_row; last = 26; named = rndf_named }

-- 4 and 5, 8 and 9
abbrev pub mdf_named : ℕ → ℕ
mdf_named i = get_or (0 ∷ 1 ∷ 2 ∷ 3 ∷ 4 ∷ 4 ∷ 6 ∷ 7 ∷ 8 ∷ 8 ∷ 10 ∷ 11 ∷ []) i 255

abbrev pub mdf_numbered : (N : Type 0) → Numbered (mdf N)
mdf_numbered N = record { table = mdf_table_of; column = mission_kind_row; row = mdf_row; last = 11; named = mdf_named }

-- the cell is an option: 128, one that may repeat; or above, a single one
pub record IsOption (c : ℕ) : Type 0 where
  pub low : 128 ≤ c
  pub high : c < 255

-- behind a statement with this cell, the row i goes over into row j
pub data Follows (named : ℕ → ℕ) (i j c : ℕ) : Type 0 where
  goes_on : c < 128 → named j ≡ c → Follows named i j c
  stays : IsOption c → j ≡ i → Follows named i j c

-- the row of a place; the last row stands behind the end
abbrev pub place_row : {Base : Type 0} → (Base → ℕ) → ℕ → Stand Base → ℕ
place_row row last over = last
place_row row last (inside b g) = row b

-- for the statements that spell a network, or a mission, from the first place on
module _ {L : Lang} (A : Machine L) (T : Numbered A) {Net : Type 0} (Spells : Net → List (S L) → Type 0) (start : A.Base) where
  -- these statements lead to a place of row i
  pub record LeadTo (l : List (S L)) (i : ℕ) : Type 0 where
    pub place : Place A
    pub came : run A (at A start) l ≡ next place
    pub in_row : place_row T.row T.last place ≡ i

  -- the cell of a statement in row i
  abbrev pub the_cell_of : ℕ → S L → ℕ
  the_cell_of i s = cell T.table i (T.column s.kind)

  -- some spelling has the statement s at a place of row i
  pub record StandsAt (i : ℕ) (s : S L) : Type 0 where
    pub net : Net
    pub before : List (S L)
    pub behind : List (S L)
    pub leads : LeadTo before i
    pub spelled : Spells net (before ++ (s ∷ behind))

  -- 5: no spelling has a statement of this kind at a place of this row
  abbrev pub NoSpelling : ℕ → L.Kind → Type 0
  NoSpelling i k = (s : S L) → s.kind ≡ k → StandsAt i s → ⊥

  -- any other cell: some spelling has ..
  abbrev pub SomeSpelling : ℕ → L.Kind → Type 0
  SomeSpelling i k = (s : S L) × (s.kind ≡ k) × StandsAt i s

  -- .. and behind it every spelling goes on in the row that the cell names, or, behind an option, in the same row
  abbrev pub NextRow : ℕ → L.Kind → Type 0
  NextRow i k = (s : S L) → s.kind ≡ k → (x : StandsAt i s) → (j : ℕ) × LeadTo (x.before ++ (s ∷ [])) j × Follows T.named i j (the_cell_of i s)

  -- nothing but options of row i: the place is still the same behind them
  abbrev pub Options : ℕ → List (S L) → Type 0
  Options i = Each (λ s. IsOption (the_cell_of i s))

  -- 128: where it stands it may stand once more, there or behind further options of the place
  abbrev pub MayRepeat : ℕ → L.Kind → Type 0
  MayRepeat i k = (l m r : List (S L)) (s : S L) (n : Net) → s.kind ≡ k → LeadTo l i → Options i m → Spells n (l ++ (s ∷ (m ++ r))) → (n' : Net) × Spells n' (l ++ (s ∷ (m ++ (s ∷ r))))

  -- 129 and more: it stands there only once
  abbrev pub OnlyOnce : ℕ → L.Kind → Type 0
  OnlyOnce i k = (l m r : List (S L)) (s s' : S L) (n : Net) → s.kind ≡ k → s'.kind ≡ k → LeadTo l i → Options i m → Spells n (l ++ (s ∷ (m ++ (s' ∷ r)))) → ⊥

  -- what the cell of row i and kind k says
  pub record CellHolds (i : ℕ) (k : L.Kind) : Type 0 where
    pub five : cell T.table i (T.column k) ≡ 255 → NoSpelling i k
    pub some : (cell T.table i (T.column k) ≡ 255 → ⊥) → SomeSpelling i k
    pub next_row : NextRow i k
    pub repeats : cell T.table i (T.column k) ≡ 128 → MayRepeat i k
    pub once : 128 < cell T.table i (T.column k) → cell T.table i (T.column k) < 255 → OnlyOnce i k
