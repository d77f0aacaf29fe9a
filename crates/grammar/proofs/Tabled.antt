-- A machine's table of places by statements: what it says of a cell is what the machine does there, over the whole table. Proved once, for every machine. Assumes nothing.
use mathlib.Core.Path.{◌≡◌, refl, sym, ap, subst, ◌∙◌}
use mathlib.Core.List.{List, [], ◌∷◌, ◌++◌}
use mathlib.Core.Option.{Option}
use mathlib.Core.Bool.{Bool, true, false, ◌&&◌, ◌||◌}
use Prim.Native.Nat.{ℕ, suc, ◌+◌, ◌<◌}
use native.Mathlib.Omega.{arith}
use borrow.Author.Tests.{eqb-true}
use lib.Dec.{T, eqb, ltb, ltb→lt}
use lib.ListN.{length, get_or}
use Rattle.terms.specs.Words.{pick}
use Rattle.terms.proofs.Tests.{clash, both}
use Rattle.terms.proofs.Computed.{all_below, below, every, every-at}
use Rattle.grammar.specs.Language.{Lang, S}
use Rattle.grammar.specs.Machine.{Machine, Opt, Out, next, refuse, over, inside, lacks, opt_at, Place, at, settle, step, run}
use Rattle.grammar.specs.PlaceTable.{cell}
use Rattle.grammar.proofs.MachineLaws.{none_of, no-option}

module _ {L : Lang} (M : Machine L) where
  open L use {Kind, Pay, disc}
  open M use {Base, opts, due}

  -- the cell of a kind among options: 128 if it may repeat, else 128 and its place among the single ones; 255 if it is none of them
  abbrev pub opt_cell : List (Opt Kind Pay) → ℕ → Kind → ℕ
  opt_cell [] s k = 255
  opt_cell (o ∷ row) s k = elim (disc k o.on) [ yes e ↦ pick o.once (128 + s) 128 | no n ↦ opt_cell row (pick o.once (suc s) s) k ]

  no_slot : (o : Bool) (s : ℕ) → s < 100 → pick o (128 + s) 128 ≡ 255 → ⊥
  no_slot true s h e = omega arith
  no_slot false s h e = omega arith

  -- 255 among the options: it is none of them
  lacking : (os : List (Opt Kind Pay)) (s : ℕ) (k : Kind) → s + length os < 101 → opt_cell os s k ≡ 255 → T (lacks L k os)
  lacking [] s k h e = tt
  lacking (o ∷ os) s k h e = go (disc k o.on) e (lacking os (pick o.once (suc s) s) k (more o.once))
    where
      more : (b : Bool) → pick b (suc s) s + length os < 101
      more true = omega arith
      more false = omega arith

      go : (d : Dec (k ≡ o.on)) → ◌≡◌ {A = ℕ} (elim d as (λ x. ℕ) [ yes e ↦ pick o.once (128 + s) 128 | no n ↦ opt_cell os (pick o.once (suc s) s) k ]) 255 → (opt_cell os (pick o.once (suc s) s) k ≡ 255 → T (lacks L k os))
          → T (elim d [ yes e ↦ false | no n ↦ lacks L k os ])
      go (yes q) e ih = absurd (no_slot o.once s (omega arith) e)
      go (no n) e ih = ih e

  -- 128 and more among the options: it is one of them
  pub having : (os : List (Opt Kind Pay)) (s : ℕ) (k : Kind) → T (lacks L k os) → opt_cell os s k ≡ 255
  having [] s k t = refl
  having (o ∷ os) s k t = go (disc k o.on) t (having os (pick o.once (suc s) s) k)
    where
      go : (d : Dec (k ≡ o.on)) → T (elim d [ yes e ↦ false | no n ↦ lacks L k os ]) → (T (lacks L k os) → opt_cell os (pick o.once (suc s) s) k ≡ 255)
          → ◌≡◌ {A = ℕ} (elim d as (λ x. ℕ) [ yes e ↦ pick o.once (128 + s) 128 | no n ↦ opt_cell os (pick o.once (suc s) s) k ]) 255
      go (yes q) t ih = absurd t
      go (no n) t ih = ih t

  abbrev otherwise : {k : Kind} {b : Base} → Dec (k ≡ (due b).on) → Bool → Bool
  otherwise (yes e) t = true
  otherwise (no n) t = t

  -- unless the kind is the due one, its cell in the place's row is the options'
  abbrev pub fits : List (List ℕ) → (Base → ℕ) → (Kind → ℕ) → Base → Kind → Bool
  fits table row code b k = otherwise {b = b} (disc k (due b).on) (eqb (cell table (row b) (code k)) (opt_cell (opts b) 1 k))

  -- a table fits the machine: each place has a row and each kind a column; beside the due statement a row has the options, and its due cell the row that follows
  pub record Tabled : Type 1 where
    pub kinds : List Kind
    pub code : Kind → ℕ
    pub first : Kind
    pub coded : (k : Kind) → get_or kinds (code k) first ≡ k
    pub short : (k : Kind) → T (ltb (code k) (length kinds))
    pub row : Base → ℕ
    pub stem : Option Base → ℕ
    pub table : List (List ℕ)
    pub few : (b : Base) → T (ltb (length (opts b)) 99)
    pub beside : (b : Base) → every (fits table row code b) kinds ≡ true
    pub leads : (b : Base) (v : Pay (due b).on) → cell table (row b) (code (due b).on) ≡ stem ((due b).then v)
    pub stems : (n : Option Base) → T (ltb (stem n) 128)

  module _ (Tb : Tabled) where
    open Tb use {kinds, code, first, row, stem, table}

    -- what holds in every column holds of every kind
    every_kind : (f : Kind → Bool) → every f kinds ≡ true → (k : Kind) → f k ≡ true
    every_kind f e k = ap f (sym (Tb.coded k)) ∙ every-at f kinds (code k) first e (ltb→lt (code k) (length kinds) (Tb.short k))

    -- a cell beside the due one is the options'
    pub cell-beside : (b : Base) (k : Kind) → (k ≡ (due b).on → ⊥) → cell table (row b) (code k) ≡ opt_cell (opts b) 1 k
    cell-beside b k n = eqb-true _ _ (go (disc k (due b).on) (every_kind (fits table row code b) (Tb.beside b) k))
      where
        go : (d : Dec (k ≡ (due b).on)) → otherwise {b = b} d (eqb (cell table (row b) (code k)) (opt_cell (opts b) 1 k)) ≡ true → eqb (cell table (row b) (code k)) (opt_cell (opts b) 1 k) ≡ true
        go (yes e) t = absurd (n e)
        go (no n) t = t

    -- the due cell is a row, never 255
    due-cell : (b : Base) (v : Pay (due b).on) → cell table (row b) (code (due b).on) < 128
    due-cell b v = rw (Tb.leads b v) (ltb→lt (stem ((due b).then v)) 128 (Tb.stems ((due b).then v)))

    -- ## Where the table has 255 the machine refuses with 5
    pub refused_5 : (b : Base) (g : List Bool) (s : S L) → cell table (row b) (code s.kind) ≡ 255 → step M (inside b g) s ≡ refuse 5
    unfolding step
    refused_5 b g s e = go (disc s.kind (due b).on)
      where
        go : Dec (s.kind ≡ (due b).on) → settle M b g (opt_at L (opts b) g s) s ≡ refuse 5
        go (yes q) = absurd (let v = subst Pay q s.val in let h = due-cell b v in let e' : cell table (row b) (code (due b).on) ≡ 255 = rw q at e in omega arith)
        go (no n) = rw (no-option M (opts b) g s.kind s.val (lacking (opts b) 1 s.kind (let h = ltb→lt (length (opts b)) 99 (Tb.few b) in omega arith) (sym (cell-beside b s.kind n) ∙ e)), none_of L (due b).on s n)

    -- ## And nowhere else: statements that are taken come by cells that are not 255
    abbrev onward : Out (Place M) → (Place M → Bool) → Bool
    onward (next q) f = f q
    onward (refuse c) f = false

    abbrev here : ℕ → ℕ → Place M → S L → Bool
    here i j over s = false
    here i j (inside b g) s = eqb (row b) i && eqb (code s.kind) j

    -- statements, taken from a place on, come by a cell
    unfoldable pub comes-by : (place kind : ℕ) → Place M → List (S L) → Bool
    comes-by i j p [] = false
    comes-by i j p (s ∷ l) = here i j p s || onward (step M p s) (λ q. comes-by i j q l)

    -- where they do
    pub record Comes (i j : ℕ) (p : Place M) (w : List (S L)) : Type 0 where
      pub before : List (S L)
      pub this : S L
      pub rest : List (S L)
      pub base : Base
      pub given : List Bool
      pub made : w ≡ before ++ (this ∷ rest)
      pub came : run M p before ≡ next (inside base given)
      pub place : row base ≡ i
      pub of_kind_of : code this.kind ≡ j

    found : (i j : ℕ) (p : Place M) (s : S L) (l : List (S L)) → here i j p s ≡ true → Comes i j p (s ∷ l)
    unfolding run
    found i j over s l t = clash (sym t)
    found i j (inside b g) s l t =
        let x = both (eqb (row b) i) (eqb (code s.kind) j) t in
        record { before = []; this = s; rest = l; base = b; given = g; made = refl; came = refl; place = eqb-true (row b) i x.0; of_kind_of = eqb-true (code s.kind) j x.1 }

    either : {X : Type 0} (a b : Bool) → (a || b) ≡ true → (a ≡ true → X) → (b ≡ true → X) → X
    either true b t f g = f refl
    either false b t f g = g t

    pub comes : (i j : ℕ) (p : Place M) (w : List (S L)) → comes-by i j p w ≡ true → Comes i j p w
    unfolding comes-by run
    comes i j p [] t = clash (sym t)
    comes i j p (s ∷ l) t = either (here i j p s) (onward (step M p s) (λ q. comes-by i j q l)) t (found i j p s l) (λ u. go (step M p s) refl u (λ q. comes i j q l))
      where
        go : (o : Out (Place M)) → step M p s ≡ o → onward o (λ q. comes-by i j q l) ≡ true → ((q : Place M) → comes-by i j q l ≡ true → Comes i j q l) → Comes i j p (s ∷ l)
        go (refuse c) e u ih = clash (sym u)
        go (next q) e u ih =
            let x = ih q u in
            record { before = s ∷ x.before; this = x.this; rest = x.rest; base = x.base; given = x.given; made = ap (◌∷◌ s) x.made; came = rw e x.came; place = x.place; of_kind_of = x.of_kind_of }

    abbrev free_or : ℕ → Bool → Bool
    free_or c t = eqb c 255 || t

    -- every cell that is not 255 is come by, in the first so many rows
    abbrev pub covers : ℕ → Place M → List (S L) → Bool
    covers rows p w = all_below (λ i. every (λ k. free_or (cell table i (code k)) (comes-by i (code k) p w)) kinds) rows

    pub covered : (rows : ℕ) (p : Place M) (w : List (S L)) → covers rows p w ≡ true → (i : ℕ) → i < rows → (k : Kind) → (cell table i (code k) ≡ 255 → ⊥) → Comes i (code k) p w
    covered rows p w t i h k n = comes i (code k) p w (go (eqb (cell table i (code k)) 255) refl (every_kind (λ k. free_or (cell table i (code k)) (comes-by i (code k) p w)) in_row k))
      where
        in_row : every (λ k. free_or (cell table i (code k)) (comes-by i (code k) p w)) kinds ≡ true
        in_row = below (λ i. every (λ k. free_or (cell table i (code k)) (comes-by i (code k) p w)) kinds) rows t i h

        go : (b : Bool) → eqb (cell table i (code k)) 255 ≡ b → (b || comes-by i (code k) p w) ≡ true → comes-by i (code k) p w ≡ true
        go true e u = absurd (n (eqb-true (cell table i (code k)) 255 e))
        go false e u = u
