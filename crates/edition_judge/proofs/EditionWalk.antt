-- A walk over an RNDF by an edition finds what `text` answers of it in that edition; and what it gathers, the walk by the present edition gathers. Whatever is gathered. Assumes nothing.
use mathlib.Core.Path.{◌≡◌, refl, sym, ap, ◌∙◌}
use mathlib.Core.List.{List, [], ◌∷◌}
use mathlib.Core.Bool.{Bool, true, false}
use Prim.Native.Nat.{ℕ, suc, ◌+◌}
use native.Mathlib.Omega.{arith}
use lib.ListN.{length}
use lib.Dec.{eqb}
use Rattle.terms.specs.Ascii.{Bytes}
use Rattle.terms.specs.Words.{pick}
use Rattle.line.specs.Content.{Field}
use Rattle.line.specs.Lines.{lines_of}
use Rattle.grammar.specs.Editions.{Edition, march}
use Rattle.grammar.specs.Statements as G
use Rattle.grammar.specs.Places.{name_due}
use Rattle.text.specs.RndfWords.{rndf_lexis_in}
use Rattle.text.specs.Answers.{Answer, faulty, short, read}
use Rattle.text.proofs.Theorems.{places, read-rndf_in}
use Rattle.statement.specs.declared.Statement.{Statement}
use Rattle.statement.specs.Meaning.{meant}
use Rattle.statement.specs.Kinds.{written}
use Rattle.place.specs.declared.Place.{Place}
use Rattle.place.specs.Step.{first_place, over_of}
use Rattle.place.proofs.Theorems.{start-sound, start_is}
use Rattle.judge.specs.Judging.{Got, bad, blank, said, line}
use Rattle.judge.specs.RndfLine.{rndf_judging}
use Rattle.walk.specs.Standing as Standing
use Rattle.walk.specs.Standing.{Where, place, places_in}
use Rattle.walk.specs.Walking.{Found, fault, gathered, onward, walked}
use Rattle.walk.proofs.Walked.{answered, walk-answers}
use Rattle.walk.proofs.RndfWalk.{ended_is, told_as}
use Rattle.edition_judge.specs.EditionLine.{bars_of, judging_in}
use Rattle.edition_judge.proofs.Lines.{bar_got, line-so}
use Rattle.edition_judge.proofs.Told.{edition-tells}

-- what is put must go by what a statement means
module _ (e : Edition) {T : Type 0} (put : Where → Statement → T → T) (by_meaning : (w : Where) (s : Statement) (c : T) → put w s c ≡ put w (written (meant s)) c) (c : T) (text : Bytes) where
  abbrev pub whole-walk : Found T
  whole-walk = walked (judging_in e) put over_of first_place c 0 1 (lines_of text)

  answers : whole-walk ≡ answered (places e) (rndf_lexis_in e) (judging_in e) (edition-tells e) put over_of (λ w m. put w (written m)) by_meaning ended_is (places_in text) c (read-rndf_in e text)
  answers = walk-answers (places e) (rndf_lexis_in e) (judging_in e) (edition-tells e) put over_of (λ w m. put w (written m)) by_meaning ended_is name_due first_place start-sound start_is c text

  -- all statements, each put where it stands; or the first fault with its line; or 10
  pub walk-read : (ts : List (G.Statement Field)) → read-rndf_in e text ≡ read ts → whole-walk ≡ gathered (Standing.over (λ w t. put w (told_as t)) (places_in text) ts c)
  walk-read ts q = rw q at answers

  pub walk-faulty : (i n : ℕ) → read-rndf_in e text ≡ faulty i n → whole-walk ≡ fault i n
  walk-faulty i n q = rw q at answers

  pub walk-short : (i : ℕ) → read-rndf_in e text ≡ short i → whole-walk ≡ fault i 10
  walk-short i q = rw q at answers

-- ## In the present edition
module _ (e : Edition) {T : Type 0} (put : Where → Statement → T → T) where
  is-fault : Found T → ℕ
  is-fault (fault i n) = 1
  is-fault (gathered c) = 0

  never : {R : Type 0} {i n : ℕ} {d : T} → ◌≡◌ {A = Found T} (fault i n) (gathered d) → R
  unfolding is-fault
  never q = absurd (let z : ◌≡◌ {A = ℕ} 1 0 = ap is-fault q in omega arith)

  pub walk-later : (ls : List Bytes) (p : Place) (c : T) (start i : ℕ) (d : T) → walked (judging_in e) put over_of p c start i ls ≡ gathered d → walked (judging_in march) put over_of p c start i ls ≡ gathered d
  unfolding walked bars_of
  walk-later [] p c start i d h = h
  walk-later (l ∷ ls) p c start i d h = rw (line-so march l start p) (go (line rndf_judging l start p) (rw (line-so e l start p) at h) (λ q x. walk-later ls q x (start + suc (length l)) (suc i) d))
    where
      on : Edition → Place → T → Found T
      on x q y = walked (judging_in x) put over_of q y (start + suc (length l)) (suc i) ls

      go : (g : Got Statement Place) → onward (judging_in e) put over_of (place start i l) p c (bar_got e g) (on e) ≡ gathered d → ((q : Place) (x : T) → on e q x ≡ gathered d → on march q x ≡ gathered d)
          → onward (judging_in march) put over_of (place start i l) p c (bar_got march g) (on march) ≡ gathered d
      go (bad n) h k = never h
      go blank h k = k p c h
      go (said s q) h k = by (eqb (bars_of e s) 0) h
        where
          by : (b : Bool) → onward (judging_in e) put over_of (place start i l) p c (pick b (said s q) (bad (bars_of e s))) (on e) ≡ gathered d → on march q (put (place start i l) s c) ≡ gathered d
          by true h = k q (put (place start i l) s c) h
          by false h = never h
