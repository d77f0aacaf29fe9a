-- A statement is a kind and what is said with it; the statements of one kind among others. Assumes nothing.
use Rattle.std.specs.Prelude.{◌≡◌, List, [], ◌∷◌}
use Rattle.std.proofs.Common.{subst}
use Rattle.std.proofs.Math.Option.{Option, none, some}
use Rattle.terms.specs.Words.{Each, Among}

-- the statements of a file: their kinds, which can be told apart, and what each kind says
pub record Lang : Type 1 where
  pub Kind : Type 0
  pub Pay : Kind → Type 0
  pub disc : Discrete Kind

pub record Stmt (Kind : Type 0) (Pay : Kind → Type 0) : Type 0 where
  pub kind : Kind
  pub val : Pay kind

module _ (L : Lang) where
  open L use {Kind, Pay, disc}

  abbrev pub S : Type 0
  S = Stmt Kind Pay

  abbrev pub say : (k : Kind) → Pay k → S
  say k v = record { kind = k; val = v }

  -- what a statement says, if it is of this kind
  abbrev pub as_dec : (k j : Kind) → Dec (j ≡ k) → Pay j → Option (Pay k)
  as_dec k j (yes e) v = some (subst Pay e v)
  as_dec k j (no n) v = none

  abbrev pub as_kind : (k : Kind) → S → Option (Pay k)
  as_kind k s = as_dec k s.kind (disc s.kind k) s.val

  -- what the statements of one kind say, in their order
  abbrev pub all_of : (k : Kind) → List S → List (Pay k)
  all_of k [] = []
  all_of k (s ∷ os) = elim (as_kind k s) [ some v ↦ v ∷ all_of k os | none ↦ all_of k os ]

  -- nothing but statements of these kinds
  abbrev pub Only : List Kind → List S → Type 0
  Only ks os = Each (λ s. Among s.kind ks) os
