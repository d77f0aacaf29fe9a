-- Executable: places and the step of a reader over statements, for any file. A place is a base with the single options given there; a base has a row of options and one due statement.
-- Nothing here knows a text or a line. Assumes nothing.
use Rattle.std.specs.Prelude.{◌≡◌, List, [], ◌∷◌, Bool, true, false, ◌&&◌, ℕ, T}
use Rattle.std.proofs.Math.Option.{Option, none, some}
use Rattle.grammar.specs.Language.{Lang, S, as_kind}

-- the next place, or a refusal by its number
pub data Out (P : Type 0) : Type 0 where
  next : P → Out P
  refuse : ℕ → Out P

-- an option: may it come once only, and which values it may have
pub record Opt (Kind : Type 0) (Pay : Kind → Type 0) : Type 0 where
  pub on : Kind
  pub once : Bool
  pub test : Pay on → Bool

-- the statement that is due: its kind, which values it may have, and the base after it; none after the last
pub record Due (Kind : Type 0) (Pay : Kind → Type 0) (Base : Type 0) : Type 0 where
  pub on : Kind
  pub test : Pay on → Bool
  pub then : Pay on → Option Base

-- what a row of options says of a statement: it is none of them, it is refused, or the flags after it
pub data Verdict : Type 0 where
  other : Verdict
  bad : ℕ → Verdict
  good : List Bool → Verdict

-- 01: 6 "single option given again" before 9 "value not permitted here"
abbrev pub judge : Bool → Bool → List Bool → Verdict
judge true t g = bad 6
judge false true g = good g
judge false false g = bad 9

abbrev pub onto : Bool → Verdict → Verdict
onto f other = other
onto f (bad c) = bad c
onto f (good g) = good (f ∷ g)

module _ (L : Lang) where
  open L use {Kind, Pay, disc}

  -- no option of the row is of this kind; no two are of one kind
  abbrev pub lacks : Kind → List (Opt Kind Pay) → Bool
  lacks k [] = true
  lacks k (o ∷ row) = elim (disc k o.on) [ yes e ↦ false | no n ↦ lacks k row ]

  abbrev pub distinct : List (Opt Kind Pay) → Bool
  distinct [] = true
  distinct (o ∷ row) = lacks o.on row && distinct row

  abbrev pub take : (o : Opt Kind Pay) → Bool → List Bool → Option (Pay o.on) → Verdict → Verdict
  take o f g (some v) r = judge (o.once && f) (o.test v) (o.once ∷ g)
  take o f g none r = onto f r

  -- a flag for each option of the row: a single one has been given
  abbrev pub opt_at : List (Opt Kind Pay) → List Bool → S L → Verdict
  opt_at [] g s = other
  opt_at (o ∷ row) [] s = other
  opt_at (o ∷ row) (f ∷ g) s = take o f g (as_kind L o.on s) (opt_at row g s)

  abbrev pub clear : List (Opt Kind Pay) → List Bool
  clear [] = []
  clear (o ∷ row) = false ∷ clear row

-- the places of a file: at each base its options, which differ in kind, its due statement, which is none of them, and whether the single options given there are enough for it
pub record Machine (L : Lang) : Type 1 where
  pub Base : Type 0
  pub opts : Base → List (Opt L.Kind L.Pay)
  pub due : Base → Due L.Kind L.Pay Base
  pub ready : Base → List Bool → Bool
  pub apart : (b : Base) → T (lacks L (due b).on (opts b) && distinct L (opts b))

-- the same places where no option has to be given
abbrev pub lenient : {L : Lang} → Machine L → Machine L
lenient M = record { Base = M.Base; opts = M.opts; due = M.due; ready = λ b g. true; apart = M.apart }

-- a place: the end, or a base with the single options given there
pub data Stand (Base : Type 0) : Type 0 where
  over : Stand Base
  inside : Base → List Bool → Stand Base

module _ {P : Type 0} where
  unfoldable pub guard : Bool → ℕ → Out P → Out P
  guard true c o = o
  guard false c o = refuse c

  abbrev pub and_then : Out P → (P → Out P) → Out P
  and_then (next p) f = f p
  and_then (refuse c) f = refuse c

module _ {L : Lang} (M : Machine L) where
  open L use {Kind, Pay, disc}
  open M use {Base, opts, due, ready}

  abbrev pub Place : Type 0
  Place = Stand Base

  -- a base with no option given
  abbrev pub at : Base → Place
  at b = inside b (clear L (opts b))

  abbrev pub enter : Option Base → Place
  enter none = over
  enter (some b) = at b

  -- 01: 5 "statement unknown, or not at this place"; 9 "value not permitted here"; L8: 25 where it has no other fault
  abbrev pub hit : (b : Base) → List Bool → Option (Pay (due b).on) → Out Place
  hit b g (some v) = guard ((due b).test v) 9 (guard (ready b g) 25 (next (enter ((due b).then v))))
  hit b g none = refuse 5

  abbrev pub settle : Base → List Bool → Verdict → S L → Out Place
  settle b g other s = hit b g (as_kind L (due b).on s)
  settle b g (bad c) s = refuse c
  settle b g (good g') s = next (inside b g')

  -- one statement at a place
  unfoldable pub step : Place → S L → Out Place
  step over s = refuse 5
  step (inside b g) s = settle b g (opt_at L (opts b) g s) s

  -- statements one by one
  unfoldable pub run : Place → List (S L) → Out Place
  run p [] = next p
  run p (s ∷ l) = and_then (step p s) (λ q. run q l)

  abbrev pub Accepts : Place → List (S L) → Type 0
  Accepts p l = run p l ≡ next over
