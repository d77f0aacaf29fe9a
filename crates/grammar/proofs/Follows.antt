-- Any program whose step follows a table, over any machine: what is to be shown of it cell by cell, and what follows: its step is the machine's. Assumes nothing.
use mathlib.Core.Path.{◌≡◌, refl, sym, ap, subst, ◌∙◌}
use mathlib.Core.List.{List, [], ◌∷◌, ◌++◌, map}
use mathlib.Core.Bool.{Bool, true, false}
use mathlib.Core.Option.{Option, none, some}
use mathlib.Core.Logic.{◌⊎◌, inl, inr}
use Prim.Native.Nat.{ℕ, zero, suc}
use native.Mathlib.Omega.{arith}
use lib.Dec.{T}
use Rattle.terms.specs.Words.{pick}
use Rattle.grammar.specs.Language.{Lang, S, say}
use Rattle.grammar.specs.Machine.{Opt, Machine, Out, next, refuse, Stand, over, inside, Verdict, judge, onto, opt_at, lacks, guard, step, settle, enter, clear, run, and_then}
use Rattle.grammar.proofs.LanguageLaws.{as_same}
use Rattle.grammar.proofs.MachineLaws.{no-option, none_of, due-apart}
use Rattle.grammar.specs.Stands.{stands}
use Rattle.grammar.proofs.StandLaws.{early, number_of, early-stands, is_over, over-is}

onto-judge : (x f h : Bool) (g : List Bool) → onto x (judge f h g) ≡ judge f h (x ∷ g)
onto-judge x true h g = refl
onto-judge x false true g = refl
onto-judge x false false g = refl

-- an option behind those with the flags l
abbrev pub ontos : List Bool → Verdict → Verdict
ontos [] v = v
ontos (x ∷ l) v = onto x (ontos l v)

pub ontos-judge : (l : List Bool) (f h : Bool) (g : List Bool) → ontos l (judge f h g) ≡ judge f h (l ++ g)
ontos-judge [] f h g = refl
ontos-judge (x ∷ l) f h g = ap (onto x) (ontos-judge l f h g) ∙ onto-judge x f h (l ++ g)

-- the next place seen otherwise
abbrev pub map_out : {A B : Type 0} → (A → B) → Out A → Out B
map_out f (next a) = next (f a)
map_out f (refuse c) = refuse c

-- The program's statements, places and answers, and what they stand for.
pub record Program {L : Lang} (M : Machine L) : Type 1 where
  pub St : Type 0
  pub Pl : Type 0
  pub Ou : Type 0
  pub Next : Pl → Ou
  pub Refused : ℕ → Ou
  -- an answer by its number and its place
  pub seen : Ou → Out Pl
  pub seen_next : (p : Pl) → seen (Next p) ≡ next p
  pub seen_refused : (c : ℕ) → seen (Refused c) ≡ refuse c
  -- what a statement means; the statement that is written for a meaning
  pub meant : St → S L
  pub write : (k : L.Kind) → L.Pay k → St
  pub step_of : Pl → St → Ou
  pub settled : (p : Pl) (s : St) → step_of p s ≡ step_of p (write (meant s).kind (meant s).val)
  -- places both ways; the flags of a base are those of its single options, three at most
  pub place_of : Stand M.Base → Pl
  pub abs_of : Pl → Stand M.Base
  pub flags : M.Base → Bool → Bool → Bool → List Bool
  -- by the kind alone
  pub kind_row : L.Kind → ℕ
  pub sample : (k : L.Kind) → L.Pay k
  pub refuses_of : Pl → ℕ → ℕ
  pub over_of : Pl → Bool

module _ {L : Lang} {M : Machine L} (R : Program M) where
  open L use {Kind, Pay, disc}
  open M use {Base, opts, due, ready, apart}
  open R use {St, Pl, Ou, Next, Refused, seen, seen_next, seen_refused, meant, write, step_of, settled, place_of, abs_of, flags, kind_row, sample, refuses_of, over_of}

  abbrev pub out_of : Out (Stand Base) → Ou
  out_of (next q) = Next (place_of q)
  out_of (refuse c) = Refused c

  -- the flags are in shape
  abbrev pub Fit : Stand Base → Type 0
  Fit over = Unit {0}
  Fit (inside b g) = (x : Bool) × (y : Bool) × (u : Bool) × (g ≡ flags b x y u)

  pub fit-pick : (c : Bool) (q r : Stand Base) → Fit q → Fit r → Fit (pick c q r)
  fit-pick true q r y w = y
  fit-pick false q r y w = w

  abbrev pub FitOut : Out (Stand Base) → Type 0
  FitOut (next q) = Fit q
  FitOut (refuse c) = Unit {0}

  pub record Goal (b : Base) (g : List Bool) (k : Kind) (v : Pay k) : Type 0 where
    pub same : step_of (place_of (inside b g)) (write k v) ≡ out_of (step M (inside b g) (say L k v))
    pub keeps : FitOut (step M (inside b g) (say L k v))

  -- ## By the kind of a statement: an option of the row, the due one, or none
  abbrev pub EachOpt : ((k : Kind) → Pay k → Type 0) → List (Opt Kind Pay) → Type 0
  EachOpt P [] = Unit {0}
  EachOpt P (o ∷ row) = ((v : Pay o.on) → P o.on v) × EachOpt P row

  to-kind : (P : (k : Kind) → Pay k → Type 0) (k j : Kind) → k ≡ j → ((w : Pay j) → P j w) → (v : Pay k) → P k v
  to-kind P k j e f v = subst (λ (i : Kind). (w : Pay i) → P i w) (sym e) f v

  by-options : (P : (k : Kind) → Pay k → Type 0) (row : List (Opt Kind Pay)) (k : Kind) (v : Pay k) → EachOpt P row → (T (lacks L k row) → P k v) → P k v
  by-options P [] k v e f = f tt
  by-options P (o ∷ row) k v e f = go (disc k o.on) f (by-options P row k v e.1)
    where
      go : (d : Dec (k ≡ o.on)) → (T (elim d [ yes e ↦ false | no n ↦ lacks L k row ]) → P k v) → ((T (lacks L k row) → P k v) → P k v) → P k v
      go (yes q) f ih = to-kind P k o.on q e.0 v
      go (no n) f ih = ih f

  -- What is to be shown: the cells of options and of due statements one by one, the rest by the table; that places go there and back.
  pub record Cells : Type 0 where
    pub cleared : (b : Base) → clear L (opts b) ≡ flags b false false false
    pub due-line : (b : Base) (x y u : Bool) (v : Pay (due b).on) → Goal b (flags b x y u) (due b).on v
    pub opt-lines : (b : Base) (x y u : Bool) → EachOpt (Goal b (flags b x y u)) (opts b)
    pub none-line : (b : Base) (g : List Bool) (k : Kind) (v : Pay k) → T (lacks L k (opts b)) → (k ≡ (due b).on → ⊥) → step_of (place_of (inside b g)) (write k v) ≡ Refused 5
    pub over-line : (k : Kind) (v : Pay k) → step_of (place_of over) (write k v) ≡ Refused 5
    pub fit-abs : (p : Pl) → Fit (abs_of p)
    pub abs-inside : (b : Base) (x y u : Bool) → abs_of (place_of (inside b (flags b x y u))) ≡ inside b (flags b x y u)
    pub abs-over : abs_of (place_of over) ≡ over
    pub by_kind : (p : Pl) (k : Kind) (v : Pay k) → refuses_of p (kind_row k) ≡ early (seen (step_of p (write k v)))
    pub over-here : (q : Stand Base) → over_of (place_of q) ≡ is_over M q

  -- ## The due statement
  on-due : (b : Base) (g : List Bool) (w : Pay (due b).on) → step M (inside b g) (say L (due b).on w) ≡ guard ((due b).test w) 9 (guard (ready b g) 25 (next (enter M ((due b).then w))))
  unfolding step
  on-due b g w = rw (no-option M (opts b) g (due b).on w (due-apart M b), as_same L (due b).on w)

  ends : (h r : Bool) (x : Pl) (q : Stand Base) → (T h → x ≡ place_of q) → pick h (pick r (Next x) (Refused 25)) (Refused 9) ≡ out_of (guard h 9 (guard r 25 (next q)))
  unfolding guard
  ends true true x q e = ap Next (e tt)
  ends true false x q e = refl
  ends false r x q e = refl

  module _ (cleared : (b : Base) → clear L (opts b) ≡ flags b false false false) where
    enter-fit : (n : Option Base) → Fit (enter M n)
    enter-fit none = tt
    enter-fit (some b) = (false, false, false, cleared b)

    guard-fit : (h r : Bool) (n : Option Base) → FitOut (guard h 9 (guard r 25 (next (enter M n))))
    unfolding guard
    guard-fit true true n = enter-fit n
    guard-fit true false n = tt
    guard-fit false r n = tt

    pub line : (b : Base) (g : List Bool) (w : Pay (due b).on) (x : Pl)
        → step_of (place_of (inside b g)) (write (due b).on w) ≡ pick ((due b).test w) (pick (ready b g) (Next x) (Refused 25)) (Refused 9)
        → (T ((due b).test w) → x ≡ place_of (enter M ((due b).then w)))
        → Goal b g (due b).on w
    line b g w x e f =
        let q = on-due b g w in
        record {
          same = e ∙ ends ((due b).test w) (ready b g) x (enter M ((due b).then w)) f ∙ ap out_of (sym q);
          keeps = rw q (guard-fit ((due b).test w) (ready b g) ((due b).then w));
        }

  -- ## An option
  judged : (f h : Bool) (b : Base) (was g : List Bool) (s : S L) → pick f (Refused 6) (pick h (Next (place_of (inside b g))) (Refused 9)) ≡ out_of (settle M b was (judge f h g) s)
  judged true h b was g s = refl
  judged false true b was g s = refl
  judged false false b was g s = refl

  judge-fit : (f h : Bool) (b : Base) (was g : List Bool) (s : S L) → Fit (inside b g) → FitOut (settle M b was (judge f h g) s)
  judge-fit true h b was g s y = tt
  judge-fit false true b was g s y = y
  judge-fit false false b was g s y = tt

  pub oline : (b : Base) (g : List Bool) (k : Kind) (v : Pay k) (f h : Bool) (g' : List Bool)
      → step_of (place_of (inside b g)) (write k v) ≡ pick f (Refused 6) (pick h (Next (place_of (inside b g'))) (Refused 9))
      → opt_at L (opts b) g (say L k v) ≡ judge f h g' → Fit (inside b g') → Goal b g k v
  unfolding step
  oline b g k v f h g' e q y = record {
    same = e ∙ judged f h b g g' (say L k v) ∙ ap (λ (x : Verdict). out_of (settle M b g x (say L k v))) (sym q);
    keeps = rw q (judge-fit f h b g g' (say L k v) y);
  }

  -- ## By the kind alone: of the answers that a cell can lead to, those that the kind decides. It is the due statement (a), an option (b), was given (f), its values are permitted (h), the options given are enough (r)
  pub by-cell : (a b f h r : Bool) (x y : Pl) → pick a 0 (pick b (pick f 6 0) 5)
      ≡ early (seen (pick a (pick h (pick r (Next x) (Refused 25)) (Refused 9)) (pick b (pick f (Refused 6) (pick h (Next y) (Refused 9))) (Refused 5))))
  by-cell true b f true true x y = rw (seen_next x)
  by-cell true b f true false x y = rw (seen_refused 25)
  by-cell true b f false r x y = rw (seen_refused 9)
  by-cell false true true h r x y = rw (seen_refused 6)
  by-cell false true false true r x y = rw (seen_next y)
  by-cell false true false false r x y = rw (seen_refused 9)
  by-cell false false f h r x y = rw (seen_refused 5)

  -- and the answer by that number: it is the answer itself, or, where it is 0, the answer is the next place, 9 or 25
  abbrev pub Answers : Ou → ℕ → Type 0
  Answers o zero = ((q : Pl) × (o ≡ Next q)) ⊎ ((o ≡ Refused 9) ⊎ (o ≡ Refused 25))
  Answers o (suc c) = o ≡ Refused (suc c)

  pub by_number : (a b f h r : Bool) (x y : Pl)
      → Answers (pick a (pick h (pick r (Next x) (Refused 25)) (Refused 9)) (pick b (pick f (Refused 6) (pick h (Next y) (Refused 9))) (Refused 5))) (pick a 0 (pick b (pick f 6 0) 5))
  by_number true b f true true x y = inl (x, refl)
  by_number true b f true false x y = inr (inr refl)
  by_number true b f false r x y = inr (inl refl)
  by_number false true true h r x y = refl
  by_number false true false true r x y = inl (y, refl)
  by_number false true false false r x y = inr (inl refl)
  by_number false false f h r x y = refl

  -- ## Any other statement
  on_none : (b : Base) (g : List Bool) (s : S L) → T (lacks L s.kind (opts b)) → (s.kind ≡ (due b).on → ⊥) → step M (inside b g) s ≡ refuse 5
  unfolding step
  on_none b g s l n = rw (no-option M (opts b) g s.kind s.val l, none_of L (due b).on s n)

  -- ## Sound places, and what is to be read off a program
  -- a place that stands for a place of the machine, in full
  abbrev pub Sound : Pl → Type 0
  Sound p = place_of (abs_of p) ≡ p

  abbrev pub SoundOut : Out Pl → Type 0
  SoundOut (next p) = Sound p
  SoundOut (refuse c) = Unit {0}

  -- statements one by one
  unfoldable pub run_of : Pl → List St → Out Pl
  run_of p [] = next p
  run_of p (s ∷ l) = and_then (seen (step_of p s)) (λ q. run_of q l)

  module _ (C : Cells) where
    tie : (b : Base) (x y u : Bool) (k : Kind) (v : Pay k) → Goal b (flags b x y u) k v
    tie b x y u k v = by-options (Goal b (flags b x y u)) (opts b) k v (C.opt-lines b x y u) (λ l. go l (disc k (due b).on))
      where
        go : T (lacks L k (opts b)) → Dec (k ≡ (due b).on) → Goal b (flags b x y u) k v
        go l (yes q) = to-kind (Goal b (flags b x y u)) k (due b).on q (C.due-line b x y u) v
        go l (no n) =
            let q = on_none b (flags b x y u) (say L k v) l n in
            record { same = C.none-line b (flags b x y u) k v l n ∙ ap out_of (sym q); keeps = rw q tt }

    -- at every place of the machine whose flags are in shape
    same_step : (q : Stand Base) → Fit q → (k : Kind) (v : Pay k) → step_of (place_of q) (write k v) ≡ out_of (step M q (say L k v))
    unfolding step
    same_step over y k v = C.over-line k v
    same_step (inside b g) (x, y, u, e) k v = subst (λ (g : List Bool). step_of (place_of (inside b g)) (write k v) ≡ out_of (step M (inside b g) (say L k v))) (sym e) (tie b x y u k v).same

    keeps-fit : (q : Stand Base) → Fit q → (k : Kind) (v : Pay k) → FitOut (step M q (say L k v))
    unfolding step
    keeps-fit over y k v = tt
    keeps-fit (inside b g) (x, y, u, e) k v = subst (λ (g : List Bool). FitOut (step M (inside b g) (say L k v))) (sym e) (tie b x y u k v).keeps

    abs-place : (q : Stand Base) → Fit q → abs_of (place_of q) ≡ q
    abs-place over y = C.abs-over
    abs-place (inside b g) (x, y, u, e) = subst (λ (g : List Bool). abs_of (place_of (inside b g)) ≡ inside b g) (sym e) (C.abs-inside b x y u)

    outcome : (p : Pl) (s : St) → Sound p → step_of p s ≡ out_of (step M (abs_of p) (meant s))
    outcome p s i = settled p s ∙ ap (λ (p : Pl). step_of p (write (meant s).kind (meant s).val)) (sym i) ∙ same_step (abs_of p) (C.fit-abs p) (meant s).kind (meant s).val

    seen-out : (o : Out (Stand Base)) → FitOut o → map_out abs_of (seen (out_of o)) ≡ o
    seen-out (next q) y = rw (seen_next (place_of q)) (ap next (abs-place q y))
    seen-out (refuse c) y = rw (seen_refused c)

    sound-out : (o : Out (Stand Base)) → FitOut o → SoundOut (seen (out_of o))
    sound-out (next q) y = rw (seen_next (place_of q)) (ap place_of (abs-place q y))
    sound-out (refuse c) y = rw (seen_refused c) tt

    -- ## The program's step is the machine's
    pub the_step : (p : Pl) (s : St) → Sound p → map_out abs_of (seen (step_of p s)) ≡ step M (abs_of p) (meant s)
    the_step p s i = rw (outcome p s i) (seen-out (step M (abs_of p) (meant s)) (keeps-fit (abs_of p) (C.fit-abs p) (meant s).kind (meant s).val))

    -- and leads from sound places to sound ones
    pub stays-sound : (p : Pl) (s : St) → Sound p → SoundOut (seen (step_of p s))
    stays-sound p s i = rw (outcome p s i) (sound-out (step M (abs_of p) (meant s)) (keeps-fit (abs_of p) (C.fit-abs p) (meant s).kind (meant s).val))

    pub starts-sound : (b : Base) → Sound (place_of (inside b (clear L (opts b))))
    starts-sound b = ap place_of (abs-place (inside b (clear L (opts b))) (false, false, false, C.cleared b))

    pub starts : (b : Base) → abs_of (place_of (inside b (clear L (opts b)))) ≡ inside b (clear L (opts b))
    starts b = abs-place (inside b (clear L (opts b))) (false, false, false, C.cleared b)

    -- by the kind alone: the machine's answer before the values
    pub by-kind-alone : (p : Pl) (k : Kind) → Sound p → refuses_of p (kind_row k) ≡ number_of (stands M (abs_of p) k)
    by-kind-alone p k i =
        let q = abs_of p in
        C.by_kind p k (sample k) ∙ ap (λ (p : Pl). early (seen (step_of p (write k (sample k))))) (sym i) ∙ ap (λ (o : Ou). early (seen o)) (same_step q (C.fit-abs p) k (sample k))
        ∙ go (step M q (say L k (sample k))) ∙ early-stands M q k (sample k)
      where
        go : (o : Out (Stand Base)) → early (seen (out_of o)) ≡ early o
        go (next q) = rw (seen_next (place_of q))
        go (refuse c) = rw (seen_refused c)

    pub over-alike : (p : Pl) → Sound p → over_of p ≡ is_over M (abs_of p)
    over-alike p i = ap over_of (sym i) ∙ C.over-here (abs_of p)

    -- a run of statements is the machine's run, and ends at a sound place
    pub the-run : (p : Pl) (l : List St) → Sound p → map_out abs_of (run_of p l) ≡ run M (abs_of p) (map meant l)
    unfolding run_of run
    the-run p [] i = refl
    the-run p (s ∷ l) i = go (seen (step_of p s)) (stays-sound p s i) (the_step p s i) (λ q. the-run q l)
      where
        go : (o : Out Pl) → SoundOut o → map_out abs_of o ≡ step M (abs_of p) (meant s) → ((q : Pl) → Sound q → map_out abs_of (run_of q l) ≡ run M (abs_of q) (map meant l))
            → map_out abs_of (and_then o (λ q. run_of q l)) ≡ and_then (step M (abs_of p) (meant s)) (λ q. run M q (map meant l))
        go (next q) y e ih = rw (sym e) (ih q y)
        go (refuse c) y e ih = rw (sym e)

    pub run_sound : (p : Pl) (l : List St) → Sound p → SoundOut (run_of p l)
    unfolding run_of
    run_sound p [] i = i
    run_sound p (s ∷ l) i = go (seen (step_of p s)) (stays-sound p s i) (λ q. run_sound q l)
      where
        go : (o : Out Pl) → SoundOut o → ((q : Pl) → Sound q → SoundOut (run_of q l)) → SoundOut (and_then o (λ q. run_of q l))
        go (next q) y ih = ih q y
        go (refuse c) y ih = tt

    -- ## Answer by answer, in both directions
    pub next-is : (p : Pl) (s : St) (q : Pl) → Sound p → step_of p s ≡ Next q → step M (abs_of p) (meant s) ≡ next (abs_of q)
    next-is p s q i e = sym (the_step p s i) ∙ ap (λ (o : Ou). map_out abs_of (seen o)) e ∙ ap (map_out abs_of) (seen_next q)

    pub next_of : (p : Pl) (s : St) (b : Stand Base) → Sound p → step M (abs_of p) (meant s) ≡ next b → step_of p s ≡ Next (place_of b)
    next_of p s b i e = outcome p s i ∙ ap out_of e

    pub next-sound : (p : Pl) (s : St) (q : Pl) → Sound p → step_of p s ≡ Next q → Sound q
    next-sound p s q i e = subst SoundOut (ap seen e ∙ seen_next q) (stays-sound p s i)

    pub refused-is : (p : Pl) (s : St) (c : ℕ) → Sound p → step_of p s ≡ Refused c → step M (abs_of p) (meant s) ≡ refuse c
    refused-is p s c i e = sym (the_step p s i) ∙ ap (λ (o : Ou). map_out abs_of (seen o)) e ∙ ap (map_out abs_of) (seen_refused c)

    pub refused-of : (p : Pl) (s : St) (c : ℕ) → Sound p → step M (abs_of p) (meant s) ≡ refuse c → step_of p s ≡ Refused c
    refused-of p s c i e = outcome p s i ∙ ap out_of e

    pub over-is-over : (p : Pl) → Sound p → over_of p ≡ true → abs_of p ≡ over
    over-is-over p i e = over-is M (abs_of p) (sym (over-alike p i) ∙ e)

    pub over-of-over : (p : Pl) → Sound p → abs_of p ≡ over → over_of p ≡ true
    over-of-over p i e = over-alike p i ∙ ap (is_over M) e

    -- a run that the machine makes the program makes
    pub run-of : (p : Pl) (l : List St) (b : Stand Base) → Sound p → run M (abs_of p) (map meant l) ≡ next b → run_of p l ≡ next (place_of b)
    run-of p l b i e = go (run_of p l) (run_sound p l i) (the-run p l i ∙ e)
      where
        go : (o : Out Pl) → SoundOut o → map_out abs_of o ≡ next b → o ≡ next (place_of b)
        go (next q) y e = let w : abs_of q ≡ b = cc in ap next (sym y ∙ ap place_of w)
        go (refuse c) y e = absurd (let z : ◌≡◌ {A = ℕ} 0 1 = cc in omega arith)
