-- The ids of 16 to 18: those that are listed are the ids of the RNDF to which no line of the MDF before gives a limit (`ListsIds`). Assumes nothing.
use mathlib.Core.Path.{◌≡◌, refl, sym, ap, subst, ◌∙◌}
use mathlib.Core.List.{List, [], ◌∷◌, ◌++◌, nil≢cons, tail-eq_of_cons-eq}
use mathlib.Core.Bool.{Bool, true, false}
use mathlib.Core.Logic.{inl, inr}
use Prim.Native.Nat.{ℕ, zero, suc, ◌+◌, ◌-◌}
use native.Mathlib.Omega.{arith}
use lib.ListN.{length, take}
use lib.Dec.{eqb}
use lib.Seq.{take-append_seam}
use borrow.Author.Tests.{eqb-true, eqb-false}
use Rattle.terms.specs.Ascii.{Bytes}
use Rattle.terms.specs.Words.{pick, Each, Among, Between}
use Rattle.line.specs.Line.{Field, Cut}
use Rattle.line.specs.Lines.{lines_of}
use Rattle.line.proofs.Cuts.{cut-is}
use Rattle.law.specs.Network.{Edition, Limit, Network, Line, word, limit_line, reading, Says, SayLines, done, blank, statement, SpellsNetwork, SpellsMission, SpellsText}
use Rattle.law.specs.Faults.{SaysAt, parts}
use Rattle.fill.specs.FirstFaults.{is_among}
use Rattle.fill.proofs.AmongLaws.{is-among_true, is-among_false}
use Rattle.find_line.specs.FoundLines.{mdf_line_kind_of}
use Rattle.expected_law.specs.Expected.{ListsIds}
use Rattle.expected_references.specs.Named.{number_on_of, limit_ids, ids_behind, ids_in, unlimited_in}
use Rattle.expected_named.proofs.LineFields.{first-number}
use Rattle.expected_named.proofs.Numbers.{ids-are}
use Rattle.expected_named.proofs.OrderFields.{blank-order, word-order, goal-order, limit_order}
use Rattle.expected_named.proofs.OrderLines.{SaidInMdf, keyword, goal, limit, front-orders}

-- ## The ids that limits name are those of the limits that are said
passed : (l : Bytes) (lines : List Bytes) → eqb (mdf_line_kind_of l) 12 ≡ false → limit_ids (l ∷ lines) ≡ limit_ids lines
unfolding limit_ids
passed l lines e = rw e refl

met : (l : Bytes) (lines : List Bytes) → mdf_line_kind_of l ≡ 12 → (i : ℕ) → number_on_of 0 l ≡ i → limit_ids (l ∷ lines) ≡ i ∷ limit_ids lines
unfolding limit_ids
met l lines e i q = rw (e, q) refl

-- what a limit says tells its id
id-told : (a b : Limit) → limit_line a ≡ limit_line b → a.id ≡ b.id
id-told a b e = cc

no_word : (a : Limit) (w : Bytes) (others : Line) → limit_line a ≡ word w ∷ others → ⊥
no_word a w others e = absurd (let z : ◌≡◌ {A = ℕ} 0 1 = cc in omega arith)

-- one of these lines gives the id a limit
abbrev HasLimit : ℕ → List Line → Type 0
HasLimit i front = (a : Limit) × Among (limit_line a) front × (a.id ≡ i)

module _ (d : Edition) where
  -- a line is passed over, where it says no limit; or it names the limit's id
  data Names (l : Bytes) (said : Line) : Type 0 where
    no-limit : ((lines : List Bytes) → limit_ids (l ∷ lines) ≡ limit_ids lines) → ((a : Limit) → limit_line a ≡ said → ⊥) → Names l said
    a_limit : (b : Limit) → limit_line b ≡ said → ((lines : List Bytes) → limit_ids (l ∷ lines) ≡ b.id ∷ limit_ids lines) → Names l said

  names : {start : ℕ} {l : Bytes} {said : Line} → Says (reading d) start l said → SaidInMdf said → Names l said
  names {start} {l} h (keyword w others e q) =
      no-limit (λ lines. passed l lines (word-order d w others q (subst (Says (reading d) start l) e h))) (λ a c. no_word a w others (c ∙ e))
  names {start} {l} h (goal n e) =
      no-limit (λ lines. passed l lines (ap (λ (k : ℕ). eqb k 12) (goal-order d n [] (subst (Says (reading d) start l) e h)))) (λ a c. nil≢cons (sym (tail-eq_of_cons-eq (c ∙ e))))
  names {start} {l} h (limit b e) =
      let k = subst (Says (reading d) start l) e h in
      a_limit b (sym e) (λ lines. met l lines (limit_order d b.id [] _ _ k) b.id (first-number d b.id _ k))

  -- each id that is named is that of a limit ..
  id-limited : {start : ℕ} {lines : List Bytes} {front : List Line} → SayLines (reading d) start lines front → Each SaidInMdf front → (i : ℕ) → Among i (limit_ids lines) → HasLimit i front
  unfolding limit_ids
  id-limited done e i m = absurd m
  id-limited (blank {line = l} {lines = lines} h k) e i m = id-limited k e i (subst (Among i) (passed l lines (ap (λ (k : ℕ). eqb k 12) (blank-order d h))) m)
  id-limited (statement {line = l} {lines = lines} {s = s} {said = said} {l = front} h k) e i m = go (names h e.0) (id-limited k e.1 i)
    where
      onward : HasLimit i front → HasLimit i ((s ∷ said) ∷ front)
      onward r = (r.0, inr r.1, r.2)

      here : (b : Limit) → limit_line b ≡ s ∷ said → (Among i (limit_ids lines) → HasLimit i front) → Among i (b.id ∷ limit_ids lines) → HasLimit i ((s ∷ said) ∷ front)
      here b q r (inl c) = (b, inl q, sym c)
      here b q r (inr c) = onward (r c)

      go : Names l (s ∷ said) → (Among i (limit_ids lines) → HasLimit i front) → HasLimit i ((s ∷ said) ∷ front)
      go (no-limit p n) r = onward (r (subst (Among i) (p lines) m))
      go (a_limit b q p) r = here b q r (subst (Among i) (p lines) m)

  -- .. and each limit's id is named
  limit-listed : {start : ℕ} {lines : List Bytes} {front : List Line} → SayLines (reading d) start lines front → Each SaidInMdf front → (a : Limit) → Among (limit_line a) front → Among a.id (limit_ids lines)
  limit-listed done e a m = absurd m
  limit-listed (blank {line = l} {lines = lines} h k) e a m = subst (Among a.id) (sym (passed l lines (ap (λ (k : ℕ). eqb k 12) (blank-order d h)))) (limit-listed k e a m)
  limit-listed (statement {line = l} {lines = lines} {s = s} {said = said} {l = front} h k) e a m = go (names h e.0) m (limit-listed k e.1 a)
    where
      go : Names l (s ∷ said) → Among (limit_line a) ((s ∷ said) ∷ front) → (Among (limit_line a) front → Among a.id (limit_ids lines)) → Among a.id (limit_ids (l ∷ lines))
      go (no-limit p n) (inl c) r = absurd (n a c)
      go (no-limit p n) (inr c) r = subst (Among a.id) (sym (p lines)) (r c)
      go (a_limit b q p) (inl c) r = subst (Among a.id) (sym (p lines)) (inl (id-told a b (c ∙ sym q)))
      go (a_limit b q p) (inr c) r = subst (Among a.id) (sym (p lines)) (inr (r c))

-- ## So many ids behind one, but those that are given
-- those listed are so ..
ids-listed : (given : List ℕ) (i k j : ℕ) → Among j (ids_behind given i k) → Between (suc i) (i + k) j × (Among j given → ⊥)
unfolding ids_behind
ids-listed given i zero j m = absurd m
ids-listed given i (suc k) j m = go (is_among (suc i) given) refl m (ids-listed given (suc i) k j)
  where
    wider : Between (suc (suc i)) (suc i + k) j × (Among j given → ⊥) → Between (suc i) (i + suc k) j × (Among j given → ⊥)
    wider r = let low = r.0.low in let high = r.0.high in (record { low = omega arith; high = omega arith }, r.1)

    go : (t : Bool) → is_among (suc i) given ≡ t → Among j (pick t (ids_behind given (suc i) k) (suc i ∷ ids_behind given (suc i) k)) → (Among j (ids_behind given (suc i) k) → Between (suc (suc i)) (suc i + k) j × (Among j given → ⊥)) → Between (suc i) (i + suc k) j × (Among j given → ⊥)
    go true q m r = wider (r m)
    go false q (inl e) r = (record { low = omega arith; high = omega arith }, λ c. is-among_false (suc i) given q (subst (λ (x : ℕ). Among x given) e c))
    go false q (inr m) r = wider (r m)

-- .. and all that are so are listed
ids_all : (given : List ℕ) (i k j : ℕ) → Between (suc i) (i + k) j → (Among j given → ⊥) → Among j (ids_behind given i k)
unfolding ids_behind
ids_all given i zero j b f = absurd (let low = b.low in let high = b.high in omega arith)
ids_all given i (suc k) j b f = go (is_among (suc i) given) refl (eqb j (suc i)) refl (λ c. ids_all given (suc i) k j c f)
  where
    later : eqb j (suc i) ≡ false → Between (suc (suc i)) (suc i + k) j
    later e = let low = b.low in let high = b.high in let n = eqb-false j (suc i) e in record { low = omega arith; high = omega arith }

    go : (t : Bool) → is_among (suc i) given ≡ t → (x : Bool) → eqb j (suc i) ≡ x → (Between (suc (suc i)) (suc i + k) j → Among j (ids_behind given (suc i) k)) → Among j (pick t (ids_behind given (suc i) k) (suc i ∷ ids_behind given (suc i) k))
    go true q true e r = absurd (f (subst (λ (x : ℕ). Among x given) (sym (eqb-true j (suc i) e)) (is-among_true (suc i) given q)))
    go true q false e r = r (later e)
    go false q true e r = inl (eqb-true j (suc i) e)
    go false q false e r = inr (r (later e))

-- ## The lines before line i
lines-to : (mdf : Bytes) (i : ℕ) (before : List Bytes) (this : Bytes) (rest : List Bytes) → Cut mdf (before ++ (this ∷ rest)) → i ≡ suc (length before) → take (i - 1) (lines_of mdf) ≡ before
lines-to mdf i before this rest c e = let k : i - 1 ≡ length before = omega arith in rw (k, cut-is c) (take-append_seam before (this ∷ rest))

-- ## The texts. Of every line i that says something of a mission, so of the first with a fault of 14 to 18 (`FirstFault`, its `front` and `at`)
module _ (d : Edition) (n : Network Field) (rndf : Bytes) (spelled : SpellsText (reading d) SpellsNetwork n rndf) where
  pub ids-there : (mdf : Bytes) (i : ℕ) (front : List Line) (l : Line) → SaysAt (reading d) SpellsMission mdf i front l → ListsIds n front (unlimited_in rndf mdf i)
  unfolding unlimited_in
  ids-there mdf i front l h j = (there, back)
    where
      given : List ℕ
      given = limit_ids h.at.before

      is-given : limit_ids (take (i - 1) (lines_of mdf)) ≡ given
      is-given = ap limit_ids (lines-to mdf i h.at.before h.this h.at.rest h.at.cut h.at.number)

      each : Each SaidInMdf front
      each = front-orders d front l h.begins

      same : ids_behind (limit_ids (take (i - 1) (lines_of mdf))) 0 (ids_in rndf) ≡ ids_behind given 0 (parts n)
      same = ap (λ (g : List ℕ). ids_behind g 0 (ids_in rndf)) is-given ∙ ap (ids_behind given 0) (ids-are d n rndf spelled)

      Unlimited : Type 0
      Unlimited = Between 1 (parts n) j × ((a : Limit) → Among (limit_line a) front → a.id ≡ j → ⊥)

      there : Among j (ids_behind (limit_ids (take (i - 1) (lines_of mdf))) 0 (ids_in rndf)) → Unlimited
      there m =
          let r = ids-listed given 0 (parts n) j (subst (Among j) same m) in
          let high = r.0.high in
          (record { low = r.0.low; high = omega arith }, λ a c e. r.1 (subst (λ (x : ℕ). Among x given) e (limit-listed d h.at.said each a c)))

      back : Unlimited → Among j (ids_behind (limit_ids (take (i - 1) (lines_of mdf))) 0 (ids_in rndf))
      back u =
          let high = u.0.high in
          subst (Among j) (sym same) (ids_all given 0 (parts n) j (record { low = u.0.low; high = omega arith }) (λ c. let r = id-limited d h.at.said each j c in u.1 r.0 r.1 r.2))
