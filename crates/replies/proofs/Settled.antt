-- THE THEOREMS of document 01's "Prove that no second reply or memory would satisfy it": the contracts settle the reply and every lent word, for all texts and all lent tables; and some reply and memory satisfy them. Assumes nothing.
use Rattle.std.specs.Prelude.{Ok, Err}
use Rattle.replies.specs.Types.{PairReply, RndfReply}
use mathlib.Core.Path.{◌≡◌, refl, sym, ap, ap₂, subst, ◌∙◌}
use mathlib.Core.Logic.{◌⊎◌, inl, inr}
use Prim.Native.Nat.{ℕ}
use lib.ListN.{length}
use Rattle.terms.specs.Ascii.{Bytes}
use Rattle.line.specs.Content.{Field}
use Rattle.law.specs.Network.{Network, Mission, reading}
use Rattle.grammar.specs.Editions.{Edition, law_of}
use Rattle.law.specs.Tables.{Lent, MissionLent, filled, mission_filled, zeros, mission_zeros}
use Rattle.replies.specs.Replies.{an_rndf, an_mdf, refusal, rows_used_of, network_file, mission_file_of, ReadsRndf, accepted, refused, ReadsPair, rndf_refused_of, mdf_refused_of}
use Rattle.replies.specs.Short.{AcceptsRndf, RefusesRndf, AcceptsMdf, RefusesMdf}
use Rattle.replies.proofs.OneAnswer as One
use Rattle.replies.proofs.Alone.{rndf-alone, mdf-alone}
use Rattle.replies.proofs.Decided.{rndf-answered, mdf-answered}

-- ## One file
module _ (d : Edition) (text : Bytes) (t : Lent) where
  pub rndf-accepts-one : (n n' : Network Field) → AcceptsRndf (reading (law_of d)) text t n → AcceptsRndf (reading (law_of d)) text t n' → n ≡ n'
  rndf-accepts-one = One.accepts-one (reading (law_of d)) (an_rndf t) text (rndf-alone d text t)

  pub rndf-never-both : (n : Network Field) (line number column : ℕ) → AcceptsRndf (reading (law_of d)) text t n → RefusesRndf (reading (law_of d)) text t line number column → ⊥
  rndf-never-both = One.never_both (reading (law_of d)) (an_rndf t) text (rndf-alone d text t)

  pub rndf-refuses-one : (line number column line' number' column' : ℕ) → RefusesRndf (reading (law_of d)) text t line number column → RefusesRndf (reading (law_of d)) text t line' number' column' → (line ≡ line') × (number ≡ number') × (column ≡ column')
  rndf-refuses-one = One.refuses-one (reading (law_of d)) (an_rndf t) text (rndf-alone d text t)

module _ (d : Edition) (n : Network Field) (text : Bytes) (u : MissionLent) where
  pub mdf-accepts-one : (m m' : Mission Field) → AcceptsMdf (reading (law_of d)) n text u m → AcceptsMdf (reading (law_of d)) n text u m' → m ≡ m'
  mdf-accepts-one = One.accepts-one (reading (law_of d)) (an_mdf n u) text (mdf-alone d n text u)

  pub mdf-never-both : (m : Mission Field) (line number column : ℕ) → AcceptsMdf (reading (law_of d)) n text u m → RefusesMdf (reading (law_of d)) n text u line number column → ⊥
  mdf-never-both = One.never_both (reading (law_of d)) (an_mdf n u) text (mdf-alone d n text u)

  pub mdf-refuses-one : (line number column line' number' column' : ℕ) → RefusesMdf (reading (law_of d)) n text u line number column → RefusesMdf (reading (law_of d)) n text u line' number' column' → (line ≡ line') × (number ≡ number') × (column ≡ column')
  mdf-refuses-one = One.refuses-one (reading (law_of d)) (an_mdf n u) text (mdf-alone d n text u)

-- ## An RNDF: no second reply, and no second memory
pub rndf-settled : (d : Edition) (text : Bytes) (t : Lent) (r r' : RndfReply) (l l' : Lent) → ReadsRndf (reading (law_of d)) text t r l → ReadsRndf (reading (law_of d)) text t r' l' → (r ≡ r') × (l ≡ l')
rndf-settled d text t r r' l l' (accepted n a e k) (accepted n' a' e' k') =
    let q = rndf-accepts-one d text t n n' a a' in
    (e ∙ ap (λ (x : Network Field). Ok (rows_used_of x, network_file x)) q ∙ sym e', k ∙ ap (λ (x : Network Field). filled x t) q ∙ sym k')
rndf-settled d text t r r' l l' (accepted n a e k) (refused line number column a' e' k') = absurd (rndf-never-both d text t n line number column a a')
rndf-settled d text t r r' l l' (refused line number column a e k) (accepted n a' e' k') = absurd (rndf-never-both d text t n line number column a' a)
rndf-settled d text t r r' l l' (refused line number column a e k) (refused line' number' column' a' e' k') =
    let q = rndf-refuses-one d text t line number column line' number' column' a a' in
    (e ∙ (λ i. Err (refusal 1 (q.0 i) (q.1 i) (q.2 i))) ∙ sym e', k ∙ sym k')

-- ## A pair
abbrev taken : Network Field → Mission Field → PairReply
taken n m = Ok (rows_used_of n, network_file n, record { goals = length m.goals; limits = length m.limits }, mission_file_of m)

module _ (d : Edition) (rndf mdf : Bytes) (t : Lent) (u : MissionLent) where
  -- the RNDF that both speak of is one network
  network-one : (P : Network Field → Type 0) (n n' : Network Field) → AcceptsRndf (reading (law_of d)) rndf t n → AcceptsRndf (reading (law_of d)) rndf t n' → P n' → P n
  network-one P n n' a a' = subst P (sym (rndf-accepts-one d rndf t n n' a a'))

  pub pair-settled : (r r' : PairReply) (l l' : Lent) (k k' : MissionLent) → ReadsPair (reading (law_of d)) rndf mdf t u r l k → ReadsPair (reading (law_of d)) rndf mdf t u r' l' k' → (r ≡ r') × (l ≡ l') × (k ≡ k')
  pair-settled r r' l l' k k' (accepted n m a b e p q) (accepted n' m' a' b' e' p' q') =
      let x = rndf-accepts-one d rndf t n n' a a' in
      let y = mdf-accepts-one d n mdf u m m' b (network-one (λ (z : Network Field). AcceptsMdf (reading (law_of d)) z mdf u m') n n' a a' b') in
      (e ∙ ap₂ taken x y ∙ sym e', p ∙ ap (λ (z : Network Field). filled z t) x ∙ sym p', q ∙ ap (λ (z : Mission Field). mission_filled z u) y ∙ sym q')
  pair-settled r r' l l' k k' (accepted n m a b e p q) (rndf_refused_of line number column b' e' p' q') = absurd (rndf-never-both d rndf t n line number column a b')
  pair-settled r r' l l' k k' (accepted n m a b e p q) (mdf_refused_of n' line number column a' b' e' p' q') =
      absurd (mdf-never-both d n mdf u m line number column b (network-one (λ (z : Network Field). RefusesMdf (reading (law_of d)) z mdf u line number column) n n' a a' b'))
  pair-settled r r' l l' k k' (rndf_refused_of line number column b e p q) (accepted n m a' b' e' p' q') = absurd (rndf-never-both d rndf t n line number column a' b)
  pair-settled r r' l l' k k' (rndf_refused_of line number column b e p q) (rndf_refused_of line' number' column' b' e' p' q') =
      let x = rndf-refuses-one d rndf t line number column line' number' column' b b' in
      (e ∙ (λ i. Err (refusal 1 (x.0 i) (x.1 i) (x.2 i))) ∙ sym e', p ∙ sym p', q ∙ sym q')
  pair-settled r r' l l' k k' (rndf_refused_of line number column b e p q) (mdf_refused_of n line' number' column' a' b' e' p' q') = absurd (rndf-never-both d rndf t n line number column a' b)
  pair-settled r r' l l' k k' (mdf_refused_of n line number column a b e p q) (accepted n' m a' b' e' p' q') =
      absurd (mdf-never-both d n mdf u m line number column (network-one (λ (z : Network Field). AcceptsMdf (reading (law_of d)) z mdf u m) n n' a a' b') b)
  pair-settled r r' l l' k k' (mdf_refused_of n line number column a b e p q) (rndf_refused_of line' number' column' b' e' p' q') = absurd (rndf-never-both d rndf t n line' number' column' a b')
  pair-settled r r' l l' k k' (mdf_refused_of n line number column a b e p q) (mdf_refused_of n' line' number' column' a' b' e' p' q') =
      let x = mdf-refuses-one d n mdf u line number column line' number' column' b (network-one (λ (z : Network Field). RefusesMdf (reading (law_of d)) z mdf u line' number' column') n n' a a' b') in
      (e ∙ (λ i. Err (refusal 2 (x.0 i) (x.1 i) (x.2 i))) ∙ sym e', p ∙ sym p', q ∙ sym q')

-- ## One there is
pub rndf-some : (d : Edition) (text : Bytes) (t : Lent) → (r : RndfReply) × (l : Lent) × ReadsRndf (reading (law_of d)) text t r l
rndf-some d text t = go (rndf-answered d text t)
  where
    go : ((n : Network Field) × AcceptsRndf (reading (law_of d)) text t n) ⊎ ((line : ℕ) × (number : ℕ) × (column : ℕ) × RefusesRndf (reading (law_of d)) text t line number column) → (r : RndfReply) × (l : Lent) × ReadsRndf (reading (law_of d)) text t r l
    go (inl x) = (Ok (rows_used_of x.0, network_file x.0), filled x.0 t, accepted x.0 x.1 refl refl)
    go (inr x) = (Err (refusal 1 x.0 x.1 x.2), zeros t, refused x.0 x.1 x.2 x.3 refl refl)

module _ (d : Edition) (rndf mdf : Bytes) (t : Lent) (u : MissionLent) where
  pub record Some : Type 0 where
    pub reply : PairReply
    pub left : Lent
    pub mission_left : MissionLent
    pub reads : ReadsPair (reading (law_of d)) rndf mdf t u reply left mission_left

  by-mission : (n : Network Field) → AcceptsRndf (reading (law_of d)) rndf t n → ((m : Mission Field) × AcceptsMdf (reading (law_of d)) n mdf u m) ⊎ ((line : ℕ) × (number : ℕ) × (column : ℕ) × RefusesMdf (reading (law_of d)) n mdf u line number column) → Some
  by-mission n a (inl x) = record { reply = taken n x.0; left = filled n t; mission_left = mission_filled x.0 u; reads = accepted n x.0 a x.1 refl refl refl }
  by-mission n a (inr x) = record { reply = Err (refusal 2 x.0 x.1 x.2); left = zeros t; mission_left = mission_zeros u; reads = mdf_refused_of n x.0 x.1 x.2 a x.3 refl refl refl }

  pub pair-some : Some
  pair-some = go (rndf-answered d rndf t)
    where
      go : ((n : Network Field) × AcceptsRndf (reading (law_of d)) rndf t n) ⊎ ((line : ℕ) × (number : ℕ) × (column : ℕ) × RefusesRndf (reading (law_of d)) rndf t line number column) → Some
      go (inl x) = by-mission x.0 x.1 (mdf-answered d x.0 mdf u)
      go (inr x) = record { reply = Err (refusal 1 x.0 x.1 x.2); left = zeros t; mission_left = mission_zeros u; reads = rndf_refused_of x.0 x.1 x.2 x.3 refl refl refl }
