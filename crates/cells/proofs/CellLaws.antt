-- What the cells of a machine's table say, proved once for every machine: the row behind a statement, which options may repeat and which may not. Assumes nothing.
use mathlib.Core.Path.{◌≡◌, refl, sym, ap, subst, ◌∙◌}
use mathlib.Core.List.{List, [], ◌∷◌, ◌++◌}
use mathlib.Core.Option.{Option, none, some}
use mathlib.Core.Bool.{Bool, true, false, ◌&&◌, and-false}
use mathlib.Core.Logic.{◌⊎◌, inl, inr}
use Prim.Native.Nat.{ℕ, suc, ◌+◌, ◌<◌, ◌≤◌}
use native.Mathlib.Omega.{arith}
use lib.Dec.{T, ltb, ltb→lt}
use lib.ListN.{length}
use Rattle.terms.specs.Words.{Each, pick}
use Rattle.terms.proofs.Tests.{clash}
use Rattle.grammar.specs.Language.{Lang, S, say, as_dec, as_kind}
use Rattle.grammar.specs.Machine.{Machine, Opt, Out, next, refuse, Verdict, other, bad, good, judge, onto, take, lacks, opt_at, over, inside, guard, and_then, Place, at, enter, hit, settle, step, run, Accepts}
use Rattle.grammar.specs.Stands.{given, stands}
use Rattle.grammar.specs.PlaceTable.{cell}
use Rattle.cells.specs.Cells.{Numbered, IsOption, Follows, goes_on, stays, place_row, LeadTo, NextRow, MayRepeat, OnlyOnce}
use Rattle.grammar.proofs.LanguageLaws.{as-inv}
use Rattle.grammar.proofs.MachineLaws.{refused, run-nil, run-append, no-option, due-apart}
use Rattle.grammar.proofs.StandLaws.{stands-refused}
use Rattle.grammar.proofs.Tabled.{Tabled, opt_cell, cell-beside, refused_5}

-- ## Verdicts
other-good : {X : Type 0} {g : List Bool} → other ≡ good g → X
other-good e = absurd (let z : ◌≡◌ {A = ℕ} 0 1 = cc in omega arith)

bad-good : {X : Type 0} {c : ℕ} {g : List Bool} → bad c ≡ good g → X
bad-good e = absurd (let z : ◌≡◌ {A = ℕ} 0 1 = cc in omega arith)

-- an option that is judged good was not given before, its value is permitted, and these are the flags
judged : (a t : Bool) (g g' : List Bool) → judge a t g ≡ good g' → (a ≡ false) × (t ≡ true) × (g ≡ g')
judged true t g g' e = bad-good e
judged false true g g' e = (refl, refl, cc)
judged false false g g' e = bad-good e

under : (f : Bool) (x : Verdict) (g' : List Bool) → onto f x ≡ good g' → (g : List Bool) × (x ≡ good g) × (f ∷ g ≡ g')
under f other g' e = other-good e
under f (bad c) g' e = bad-good e
under f (good g) g' e = (g, refl, cc)

-- ## Rows of options
module _ (L : Lang) where
  open L use {Kind, Pay, disc}

  abbrev Row : Type 0
  Row = List (Opt Kind Pay)

  -- once given, a single option's flag is up ..
  up : (o : Opt Kind Pay) (os : Row) (g : List Bool) (k : Kind) → k ≡ o.on → o.once ≡ true → given L (o ∷ os) (o.once ∷ g) k ≡ some true
  up o os g k e h = go (disc k o.on)
    where
      go : (d : Dec (k ≡ o.on)) → elim d as (λ x. Option Bool) [ yes e ↦ some (o.once && o.once) | no n ↦ given L os g k ] ≡ some true
      go (yes q) = rw h
      go (no n) = absurd (n e)

  beside : (o : Opt Kind Pay) (os : Row) (f : Bool) (g : List Bool) (k : Kind) → (k ≡ o.on → ⊥) → given L (o ∷ os) (f ∷ g) k ≡ given L os g k
  beside o os f g k n = go (disc k o.on)
    where
      go : (d : Dec (k ≡ o.on)) → elim d as (λ x. Option Bool) [ yes e ↦ some (o.once && f) | no n ↦ given L os g k ] ≡ given L os g k
      go (yes q) = absurd (n q)
      go (no n) = refl

  -- .. and stays up
  pub stays_up : (os : Row) (g g' : List Bool) (k : Kind) (s : S L) → given L os g k ≡ some true → opt_at L os g s ≡ good g' → given L os g' k ≡ some true
  stays_up [] g g' k s h e = other-good e
  stays_up (o ∷ os) [] g' k s h e = other-good e
  stays_up (o ∷ os) (f ∷ g) g' k s h e = go (as_kind L o.on s) e (λ g''. stays_up os g g'' k s)
    where
      here : (d : Dec (k ≡ o.on)) → elim d as (λ x. Option Bool) [ yes e ↦ some (o.once && f) | no n ↦ given L os g k ] ≡ some true → (o.once && f) ≡ false → given L (o ∷ os) (o.once ∷ g) k ≡ some true
      here (yes q) h j = clash (let z : (o.once && f) ≡ true = cc in sym z ∙ j)
      here (no n) h j = beside o os o.once g k n ∙ h

      there : (d : Dec (k ≡ o.on)) (g'' : List Bool) → elim d as (λ x. Option Bool) [ yes e ↦ some (o.once && f) | no n ↦ given L os g k ] ≡ some true → (given L os g k ≡ some true → given L os g'' k ≡ some true)
          → elim d as (λ x. Option Bool) [ yes e ↦ some (o.once && f) | no n ↦ given L os g'' k ] ≡ some true
      there (yes q) g'' h ih = h
      there (no n) g'' h ih = ih h

      go : (x : Option (Pay o.on)) → take L o f g x (opt_at L os g s) ≡ good g' → ((g'' : List Bool) → given L os g k ≡ some true → opt_at L os g s ≡ good g'' → given L os g'' k ≡ some true) → given L (o ∷ os) g' k ≡ some true
      go (some v) e ih =
          let j = judged (o.once && f) (o.test v) (o.once ∷ g) g' e in
          subst (λ (l : List Bool). given L (o ∷ os) l k ≡ some true) j.2 (here (disc k o.on) h j.0)
      go none e ih =
          let u = under f (opt_at L os g s) g' e in
          subst (λ (l : List Bool). given L (o ∷ os) l k ≡ some true) u.2 (there (disc k o.on) u.0 h (λ y. ih u.0 y u.1))

  -- an option that changed no flag may be given again, whatever other options come between
  pub again : (os : Row) (g g' : List Bool) (s t : S L) → opt_at L os g s ≡ good g → opt_at L os g t ≡ good g' → opt_at L os g' s ≡ good g'
  again [] g g' s t h e = other-good e
  again (o ∷ os) [] g' s t h e = other-good e
  again (o ∷ os) (f ∷ g) g' s t h e = go (as_kind L o.on s) (as_kind L o.on t) refl h e (λ g''. again os g g'' s t)
    where
      down : (a f t : Bool) (g l : List Bool) → judge (a && f) t (a ∷ g) ≡ good (f ∷ g) → (judge (a && a) t (a ∷ l) ≡ good (a ∷ l)) × (judge (a && f) t (a ∷ l) ≡ good (f ∷ l))
      down true true t g l h = bad-good h
      down true false true g l h = clash (let z : ◌≡◌ {A = Bool} true false = cc in z)
      down true false false g l h = bad-good h
      down false true true g l h = clash (let z : ◌≡◌ {A = Bool} true false = cc in z)
      down false true false g l h = bad-good h
      down false false true g l h = (refl, refl)
      down false false false g l h = bad-good h

      go : (x y : Option (Pay o.on)) → as_kind L o.on s ≡ x → take L o f g x (opt_at L os g s) ≡ good (f ∷ g) → take L o f g y (opt_at L os g t) ≡ good g'
          → ((g'' : List Bool) → opt_at L os g s ≡ good g → opt_at L os g t ≡ good g'' → opt_at L os g'' s ≡ good g'') → opt_at L (o ∷ os) g' s ≡ good g'
      go (some v) (some w) q h e ih =
          let j = judged (o.once && f) (o.test w) (o.once ∷ g) g' e in
          subst (λ (l : List Bool). opt_at L (o ∷ os) l s ≡ good l) j.2 (rw q (down o.once f (o.test v) g g h).0)
      go (some v) none q h e ih =
          let u = under f (opt_at L os g t) g' e in
          subst (λ (l : List Bool). opt_at L (o ∷ os) l s ≡ good l) u.2 (rw q (down o.once f (o.test v) g u.0 h).1)
      go none (some w) q h e ih =
          let j = judged (o.once && f) (o.test w) (o.once ∷ g) g' e in
          let u = under f (opt_at L os g s) (f ∷ g) h in
          let z : opt_at L os g s ≡ good g = cc in
          subst (λ (l : List Bool). opt_at L (o ∷ os) l s ≡ good l) j.2 (rw (q, z))
      go none none q h e ih =
          let u = under f (opt_at L os g t) g' e in
          let v = under f (opt_at L os g s) (f ∷ g) h in
          let z : opt_at L os g s ≡ good g = cc in
          let w = ih u.0 z u.1 in
          subst (λ (l : List Bool). opt_at L (o ∷ os) l s ≡ good l) u.2 (rw (q, w))

module _ {L : Lang} (M : Machine L) where
  open L use {Kind, Pay, disc}
  open M use {Base, opts, due}

  -- ## The cells of a row's options: 255, or an option's
  in-range : (os : Row L) (n : ℕ) (k : Kind) → n + length os < 101 → (opt_cell M os n k ≡ 255) ⊎ IsOption (opt_cell M os n k)
  in-range [] n k h = inl refl
  in-range (o ∷ os) n k h = go (disc k o.on) (in-range os (pick o.once (suc n) n) k (more o.once))
    where
      more : (b : Bool) → pick b (suc n) n + length os < 101
      more true = omega arith
      more false = omega arith

      slot : (b : Bool) → IsOption (pick b (128 + n) 128)
      slot true = record { low = omega arith; high = omega arith }
      slot false = record { low = omega arith; high = omega arith }

      go : (d : Dec (k ≡ o.on)) → (opt_cell M os (pick o.once (suc n) n) k ≡ 255) ⊎ IsOption (opt_cell M os (pick o.once (suc n) n) k)
          → (◌≡◌ {A = ℕ} (elim d as (λ x. ℕ) [ yes e ↦ pick o.once (128 + n) 128 | no m ↦ opt_cell M os (pick o.once (suc n) n) k ]) 255)
          ⊎ IsOption (elim d as (λ x. ℕ) [ yes e ↦ pick o.once (128 + n) 128 | no m ↦ opt_cell M os (pick o.once (suc n) n) k ])
      go (yes e) x = inr (slot o.once)
      go (no m) x = x

  -- a cell of 129 and more is a single option's: its flag is up behind it
  up-behind : (os : Row L) (n : ℕ) (g g' : List Bool) (s : S L) → opt_at L os g s ≡ good g' → 128 < opt_cell M os n s.kind → given L os g' s.kind ≡ some true
  up-behind [] n g g' s e h = other-good e
  up-behind (o ∷ os) n [] g' s e h = other-good e
  up-behind (o ∷ os) n (f ∷ g) g' s e h = go (disc s.kind o.on) e h (λ g''. up-behind os (pick o.once (suc n) n) g g'' s)
    where
      single : (b : Bool) → 128 < pick b (128 + n) 128 → b ≡ true
      single true h = refl
      single false h = absurd (omega arith)

      go : (d : Dec (s.kind ≡ o.on)) → take L o f g (as_dec L o.on s.kind d s.val) (opt_at L os g s) ≡ good g' → 128 < elim d as (λ x. ℕ) [ yes e ↦ pick o.once (128 + n) 128 | no m ↦ opt_cell M os (pick o.once (suc n) n) s.kind ]
          → ((g'' : List Bool) → opt_at L os g s ≡ good g'' → 128 < opt_cell M os (pick o.once (suc n) n) s.kind → given L os g'' s.kind ≡ some true) → given L (o ∷ os) g' s.kind ≡ some true
      go (yes q) e h ih =
          let j = judged (o.once && f) (o.test (subst Pay q s.val)) (o.once ∷ g) g' e in
          subst (λ (l : List Bool). given L (o ∷ os) l s.kind ≡ some true) j.2 (up L o os g s.kind q (single o.once h))
      go (no m) e h ih =
          let u = under f (opt_at L os g s) g' e in
          subst (λ (l : List Bool). given L (o ∷ os) l s.kind ≡ some true) u.2 (beside L o os f u.0 s.kind m ∙ ih u.0 u.1 h)

  -- a cell of 128 is an option that may repeat: behind it, it changes no flag
  same-behind : (os : Row L) (n : ℕ) (g g' : List Bool) (s : S L) → 0 < n → opt_at L os g s ≡ good g' → opt_cell M os n s.kind ≡ 128 → opt_at L os g' s ≡ good g'
  same-behind [] n g g' s z e h = other-good e
  same-behind (o ∷ os) n [] g' s z e h = other-good e
  same-behind (o ∷ os) n (f ∷ g) g' s z e h = go (disc s.kind o.on) refl e h (λ g''. same-behind os (pick o.once (suc n) n) g g'' s (more o.once))
    where
      more : (b : Bool) → 0 < pick b (suc n) n
      more true = omega arith
      more false = z

      free : (b : Bool) → pick b (128 + n) 128 ≡ 128 → b ≡ false
      free true h = absurd (omega arith)
      free false h = refl

      go : (d : Dec (s.kind ≡ o.on)) → disc s.kind o.on ≡ d → take L o f g (as_dec L o.on s.kind d s.val) (opt_at L os g s) ≡ good g'
          → ◌≡◌ {A = ℕ} (elim d as (λ x. ℕ) [ yes e ↦ pick o.once (128 + n) 128 | no m ↦ opt_cell M os (pick o.once (suc n) n) s.kind ]) 128
          → ((g'' : List Bool) → opt_at L os g s ≡ good g'' → opt_cell M os (pick o.once (suc n) n) s.kind ≡ 128 → opt_at L os g'' s ≡ good g'') → opt_at L (o ∷ os) g' s ≡ good g'
      go (yes q) w e h ih =
          let j = judged (o.once && f) (o.test (subst Pay q s.val)) (o.once ∷ g) g' e in
          let b = free o.once h in
          subst (λ (l : List Bool). opt_at L (o ∷ os) l s ≡ good l) j.2 (rw (w, b, j.1))
      go (no m) w e h ih =
          let u = under f (opt_at L os g s) g' e in
          subst (λ (l : List Bool). opt_at L (o ∷ os) l s ≡ good l) u.2 (rw (w, ih u.0 u.1 h))

  -- ## The table's cells, where each row is named by the row that leads to it
  module _ (Tb : Tabled M) (last : ℕ) (named : ℕ → ℕ) (led : (n : Option Base) → named (place_row Tb.row last (enter M n)) ≡ Tb.stem n) where
    open Tb use {code, row, stem, table}

    abbrev numbered : Numbered M
    numbered = record { table = table; column = code; row = row; last = last; named = named }

    guarded : (t r : Bool) (p q : Place M) → guard t 9 (guard r 25 (next p)) ≡ next q → p ≡ q
    unfolding guard
    guarded true true p q e = cc
    guarded true false p q e = refused e
    guarded false r p q e = refused e

    not-due : (b : Base) (g g' : List Bool) (s : S L) → opt_at L (opts b) g s ≡ good g' → s.kind ≡ (due b).on → ⊥
    not-due b g g' s e q = other-good (sym (no-option M (opts b) g s.kind s.val (subst (λ (k : Kind). T (lacks L k (opts b))) (sym q) (due-apart M b))) ∙ e)

    -- the cell of an option that is taken
    beside-is : (b : Base) (g g' : List Bool) (s : S L) → opt_at L (opts b) g s ≡ good g' → cell table (row b) (code s.kind) ≡ opt_cell M (opts b) 1 s.kind
    beside-is b g g' s e = cell-beside M Tb b s.kind (not-due b g g' s e)

    option-cell : (b : Base) (g g' : List Bool) (s : S L) → opt_at L (opts b) g s ≡ good g' → IsOption (cell table (row b) (code s.kind))
    unfolding step
    option-cell b g g' s e = go (in-range (opts b) 1 s.kind (let h = ltb→lt (length (opts b)) 99 (Tb.few b) in omega arith))
      where
        taken : step M (inside b g) s ≡ next (inside b g')
        taken = rw e

        go : (opt_cell M (opts b) 1 s.kind ≡ 255) ⊎ IsOption (opt_cell M (opts b) 1 s.kind) → IsOption (cell table (row b) (code s.kind))
        go (inl x) = refused (sym (refused_5 M Tb b g s (beside-is b g g' s e ∙ x)) ∙ taken)
        go (inr x) = subst IsOption (sym (beside-is b g g' s e)) x

    -- the cell of the due statement
    due-is : (b : Base) (s : S L) (v : Pay (due b).on) → as_kind L (due b).on s ≡ some v → cell table (row b) (code s.kind) ≡ stem ((due b).then v)
    due-is b s v a = ap (λ (s : S L). cell table (row b) (code s.kind)) (as-inv L (due b).on s v a) ∙ Tb.leads b v

    due-low : (b : Base) (s : S L) (v : Pay (due b).on) → as_kind L (due b).on s ≡ some v → cell table (row b) (code s.kind) < 128
    due-low b s v a = rw (due-is b s v a) (ltb→lt (stem ((due b).then v)) 128 (Tb.stems ((due b).then v)))

    -- ## The row behind a statement
    row-behind : (p q : Place M) (s : S L) → step M p s ≡ next q → Follows named (place_row row last p) (place_row row last q) (cell table (place_row row last p) (code s.kind))
    unfolding step
    row-behind over q s e = refused e
    row-behind (inside b g) q s e = go (opt_at L (opts b) g s) refl e
      where
        hit-case : (o : Option (Pay (due b).on)) → as_kind L (due b).on s ≡ o → hit M b g o ≡ next q → Follows named (row b) (place_row row last q) (cell table (row b) (code s.kind))
        hit-case none a e = refused e
        hit-case (some v) a e =
            let z = guarded ((due b).test v) (M.ready b g) (enter M ((due b).then v)) q e in
            goes_on (due-low b s v a) (ap (λ (p : Place M). named (place_row row last p)) (sym z) ∙ led ((due b).then v) ∙ sym (due-is b s v a))

        go : (x : Verdict) → opt_at L (opts b) g s ≡ x → settle M b g x s ≡ next q → Follows named (row b) (place_row row last q) (cell table (row b) (code s.kind))
        go other a e = hit-case (as_kind L (due b).on s) refl e
        go (bad c) a e = refused e
        go (good g') a e = let z : q ≡ inside b g' = cc in stays (option-cell b g g' s a) (ap (λ (p : Place M). place_row row last p) z)

    -- behind an option the place is the same, with its new flags
    option-step : (b : Base) (g : List Bool) (s : S L) (q : Place M) → IsOption (cell table (row b) (code s.kind)) → step M (inside b g) s ≡ next q → (g' : List Bool) × (opt_at L (opts b) g s ≡ good g') × (q ≡ inside b g')
    unfolding step
    option-step b g s q c e = go (opt_at L (opts b) g s) refl e
      where
        hit-case : (o : Option (Pay (due b).on)) → as_kind L (due b).on s ≡ o → hit M b g o ≡ next q → ⊥
        hit-case none a e = refused e
        hit-case (some v) a e = let h = due-low b s v a in let l = c.low in omega arith

        go : (x : Verdict) → opt_at L (opts b) g s ≡ x → settle M b g x s ≡ next q → (g' : List Bool) × (x ≡ good g') × (q ≡ inside b g')
        go other a e = absurd (hit-case (as_kind L (due b).on s) refl e)
        go (bad c) a e = refused e
        go (good g') a e = (g', refl, cc)

    -- a single option whose flag is up is not taken again
    given_again : (b : Base) (g : List Bool) (s : S L) (q : Place M) → given L (opts b) g s.kind ≡ some true → step M (inside b g) s ≡ next q → ⊥
    unfolding stands
    given_again b g s q v e = refused (sym (stands-refused M (inside b g) s.kind s.val 6 (rw v)) ∙ e)

    -- ## Statements one by one
    one-step : (p q : Place M) (s : S L) (r : List (S L)) → run M p (s ∷ r) ≡ next q → {R : Type 0} → ((p' : Place M) → step M p s ≡ next p' → run M p' r ≡ next q → R) → R
    unfolding run
    one-step p q s r e {R} k = go (step M p s) refl e
      where
        go : (o : Out (Place M)) → step M p s ≡ o → and_then o (λ q. run M q r) ≡ next q → R
        go (next p') f h = k p' f h
        go (refuse c) f h = refused h

    after_one : (p q : Place M) (s : S L) (r : List (S L)) → step M p s ≡ next q → run M p (s ∷ r) ≡ run M q r
    unfolding run
    after_one p q s r e = rw e

    behind : (p q : Place M) (l r : List (S L)) → run M p l ≡ next q → run M p (l ++ r) ≡ run M q r
    behind p q l r e = rw (run-append M p l r, e)

    -- a statement that leaves its place as it is may come twice
    twice_there : (p₀ p p₁ p₂ : Place M) (l m r : List (S L)) (s : S L) → run M p₀ l ≡ next p → step M p s ≡ next p₁ → run M p₁ m ≡ next p₂ → step M p₂ s ≡ next p₂ → run M p₂ r ≡ next over → Accepts M p₀ (l ++ (s ∷ (m ++ (s ∷ r))))
    twice_there p₀ p p₁ p₂ l m r s a b c d e = behind p₀ p l (s ∷ (m ++ (s ∷ r))) a ∙ after_one p p₁ s (m ++ (s ∷ r)) b ∙ behind p₁ p₂ m (s ∷ r) c ∙ after_one p₂ p₂ s r d ∙ e

    -- options of one place: what each of them keeps of the flags is kept
    through : (b : Base) (P : List Bool → Type 0) → ((g g' : List Bool) (s : S L) → P g → opt_at L (opts b) g s ≡ good g' → P g') → (m r : List (S L)) (g : List Bool) (q : Place M) → P g → Each (λ s. IsOption (cell table (row b) (code s.kind))) m
        → run M (inside b g) (m ++ r) ≡ next q → (g' : List Bool) × P g' × (run M (inside b g) m ≡ next (inside b g')) × (run M (inside b g') r ≡ next q)
    through b P keeps [] r g q y o e = (g, y, run-nil M (inside b g), e)
    through b P keeps (s ∷ m) r g q y o e = one-step (inside b g) q s (m ++ r) e λ p f h.
        let x = option-step b g s p o.0 f in
        let i = through b P keeps m r x.0 q (keeps g x.0 s y x.1) o.1 (subst (λ (p : Place M). run M p (m ++ r) ≡ next q) x.2 h) in
        (i.0, i.1, after_one (inside b g) (inside b x.0) s m (f ∙ ap next x.2) ∙ i.2, i.3)

    -- ## In every spelling
    module _ {Net : Type 0} (Spells : Net → List (S L) → Type 0) (start : Base) (complete : (n : Net) (l : List (S L)) → Spells n l → Accepts M (at M start) l) (sound : (l : List (S L)) → Accepts M (at M start) l → (n : Net) × Spells n l) where
      rest_of : (l r : List (S L)) (i : ℕ) (x : LeadTo M numbered Spells start l i) (n : Net) → Spells n (l ++ r) → run M x.place r ≡ next over
      rest_of l r i x n sp = sym (behind (at M start) x.place l r x.came) ∙ complete n (l ++ r) sp

      pub next_row : (i : ℕ) (k : Kind) → NextRow M numbered Spells start i k
      next_row i k s e x = one-step x.leads.place over s x.behind (rest_of x.before (s ∷ x.behind) i x.leads x.net x.spelled) λ q f h. (
        place_row row last q,
        record { place = q; came = behind (at M start) x.leads.place x.before (s ∷ []) x.leads.came ∙ after_one x.leads.place q s [] f ∙ run-nil M q; in_row = refl },
        subst (λ (j : ℕ). Follows named j (place_row row last q) (cell table j (code s.kind))) x.leads.in_row (row-behind x.leads.place q s f),
      )

      -- the place where an option stands is no end
      standing : (p : Place M) (s : S L) (r : List (S L)) (i : ℕ) → place_row row last p ≡ i → run M p (s ∷ r) ≡ next over → {R : Type 0} → ((b : Base) (g : List Bool) → p ≡ inside b g → row b ≡ i → R) → R
      unfolding step run
      standing over s r i a h k = refused h
      standing (inside b g) s r i a h k = k b g refl a

      -- the cells of options, seen from the place's own row
      from_row : (b : Base) (i : ℕ) (m : List (S L)) → row b ≡ i → Each (λ s. IsOption (cell table i (code s.kind))) m → Each (λ s. IsOption (cell table (row b) (code s.kind))) m
      from_row b i m a = subst (λ (j : ℕ). Each (λ s. IsOption (cell table j (code s.kind))) m) (sym a)

      pub only-once : (i : ℕ) (k : Kind) → 128 < cell table i (code k) → cell table i (code k) < 255 → OnlyOnce M numbered Spells start i k
      only-once i k low high l m r s s' n e e' x o sp = standing x.place s (m ++ (s' ∷ r)) i x.in_row (rest_of l (s ∷ (m ++ (s' ∷ r))) i x n sp) λ b g p a.
          one-step (inside b g) over s (m ++ (s' ∷ r)) (subst (λ (p : Place M). run M p (s ∷ (m ++ (s' ∷ r))) ≡ next over) p (rest_of l (s ∷ (m ++ (s' ∷ r))) i x n sp)) λ q f h.
          let c : cell table (row b) (code s.kind) ≡ cell table i (code k) = rw (a, e) in
          let y = option-step b g s q (record { low = omega arith; high = omega arith }) f in
          let d = beside-is b g y.0 s y.1 in
          let u = up-behind (opts b) 1 g y.0 s y.1 (omega arith) in
          let t = through b (λ g. given L (opts b) g s.kind ≡ some true) (λ g g' s₁ h z. stays_up L (opts b) g g' s.kind s₁ h z) m (s' ∷ r) y.0 over u (from_row b i m a o) (subst (λ (p : Place M). run M p (m ++ (s' ∷ r)) ≡ next over) y.2 h) in
          let v = subst (λ (j : Kind). given L (opts b) t.0 j ≡ some true) (e ∙ sym e') t.1 in
          one-step (inside b t.0) over s' r t.3 λ q' f' h'. given_again b t.0 s' q' v f'

      pub may_repeat : (i : ℕ) (k : Kind) → cell table i (code k) ≡ 128 → MayRepeat M numbered Spells start i k
      unfolding step
      may_repeat i k is l m r s n e x o sp = standing x.place s (m ++ r) i x.in_row (rest_of l (s ∷ (m ++ r)) i x n sp) λ b g p a.
          one-step (inside b g) over s (m ++ r) (subst (λ (p : Place M). run M p (s ∷ (m ++ r)) ≡ next over) p (rest_of l (s ∷ (m ++ r)) i x n sp)) λ q f h.
          let c : cell table (row b) (code s.kind) ≡ cell table i (code k) = rw (a, e) in
          let y = option-step b g s q (record { low = omega arith; high = omega arith }) f in
          let d = beside-is b g y.0 s y.1 in
          let u = same-behind (opts b) 1 g y.0 s (omega arith) y.1 (omega arith) in
          let t = through b (λ g. opt_at L (opts b) g s ≡ good g) (λ g g' s₁ h z. again L (opts b) g g' s s₁ h z) m r y.0 over u (from_row b i m a o) (subst (λ (p : Place M). run M p (m ++ r) ≡ next over) y.2 h) in
          sound (l ++ (s ∷ (m ++ (s ∷ r)))) (twice_there (at M start) (inside b g) (inside b y.0) (inside b t.0) l m r s (x.came ∙ ap next p) (f ∙ ap next y.2) t.2 (rw t.1) t.3)
