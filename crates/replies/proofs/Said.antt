-- What a reply alone says: a refusal leaves every lent word 0 and names its file; an acceptance leaves what some network that the text spells fills; no reply is both. Assumes nothing.
use Rattle.std.specs.Prelude.{Ok, Err}
use Rattle.replies.specs.Types.{PairReply, RndfReply}
use mathlib.Core.Path.{◌≡◌, refl, sym, ap, ◌∙◌}
use mathlib.Core.Logic.{◌⊎◌, inl, inr}
use Prim.Native.Nat.{ℕ}
use native.Mathlib.Omega.{arith}
use Rattle.terms.specs.Ascii.{Bytes}
use Rattle.line.specs.Content.{Field}
use Rattle.law.specs.Network.{Network, Mission, Rules}
use Rattle.law.specs.Tables.{Lent, MissionLent, filled, mission_filled, zeros, mission_zeros}
use Rattle.rows.specs.declared.FileRow.{FileRow}
use Rattle.rows.specs.declared.MissionFileRow.{MissionFileRow}
use Rattle.counts.specs.declared.Counts.{Counts}
use Rattle.counts.specs.declared.MissionCounts.{MissionCounts}
use Rattle.refusal.specs.declared.Refusal.{Refusal}
use Rattle.replies.specs.Replies.{ReadsRndf, accepted, refused, ReadsPair, rndf_refused_of, mdf_refused_of}
use Rattle.replies.specs.Short.{AcceptsRndf, AcceptsMdf}

pub never_both : {c : Counts} {file : FileRow} {why : Refusal} → ◌≡◌ {A = RndfReply} (Ok (c, file)) (Err why) → ⊥
never_both e = let z : ◌≡◌ {A = ℕ} 0 1 = cc in omega arith

pub pair-never-both : {c : Counts} {file : FileRow} {d : MissionCounts} {row : MissionFileRow} {why : Refusal} → ◌≡◌ {A = PairReply} (Ok (c, file, d, row)) (Err why) → ⊥
pair-never-both e = let z : ◌≡◌ {A = ℕ} 0 1 = cc in omega arith

-- the rows that a reply tells, and what is given where it refuses
abbrev pub counts_of : Counts → RndfReply → Counts
counts_of none (Ok (c, file)) = c
counts_of none (Err why) = none

abbrev pub pair-counts-of : Counts → PairReply → Counts
pair-counts-of none (Ok (c, file, d, row)) = c
pair-counts-of none (Err why) = none

abbrev pub mission-counts-of : MissionCounts → PairReply → MissionCounts
mission-counts-of none (Ok (c, file, d, row)) = d
mission-counts-of none (Err why) = none

-- the file that a reply names, and 0 where it accepts
abbrev file-of : RndfReply → ℕ
file-of (Ok (c, file)) = 0
file-of (Err why) = why.file

abbrev pair-file-of : PairReply → ℕ
pair-file-of (Ok (c, file, d, row)) = 0
pair-file-of (Err why) = why.file

-- ## An RNDF alone
module _ {rules : Rules} (text : Bytes) (t left : Lent) where
  module _ (why : Refusal) where
    pub refused_zero : ReadsRndf rules text t (Err why) left → left ≡ zeros t
    refused_zero (accepted n a e k) = absurd (never_both (sym e))
    refused_zero (refused line number column a e k) = k

    pub refused-file : ReadsRndf rules text t (Err why) left → why.file ≡ 1
    refused-file (accepted n a e k) = absurd (never_both (sym e))
    refused-file (refused line number column a e k) = ap file-of e

  module _ (c : Counts) (file : FileRow) where
    pub accepted-filled : ReadsRndf rules text t (Ok (c, file)) left → (n : Network Field) × AcceptsRndf rules text t n × (left ≡ filled n t)
    accepted-filled (accepted n a e k) = (n, a, k)
    accepted-filled (refused line number column a e k) = absurd (never_both e)

-- ## An RNDF with its MDF
module _ {rules : Rules} (rndf mdf : Bytes) (t left : Lent) (u mission_left : MissionLent) where
  module _ (why : Refusal) where
    pub pair-refused_zero : ReadsPair rules rndf mdf t u (Err why) left mission_left → (left ≡ zeros t) × (mission_left ≡ mission_zeros u)
    pair-refused_zero (accepted n m a b e k l) = absurd (pair-never-both (sym e))
    pair-refused_zero (rndf_refused_of line number column a e k l) = (k, l)
    pair-refused_zero (mdf_refused_of n line number column a b e k l) = (k, l)

    pub pair-refused-file : ReadsPair rules rndf mdf t u (Err why) left mission_left → (why.file ≡ 1) ⊎ (why.file ≡ 2)
    pair-refused-file (accepted n m a b e k l) = absurd (pair-never-both (sym e))
    pair-refused-file (rndf_refused_of line number column a e k l) = inl (ap pair-file-of e)
    pair-refused-file (mdf_refused_of n line number column a b e k l) = inr (ap pair-file-of e)

  module _ (c : Counts) (file : FileRow) (d : MissionCounts) (row : MissionFileRow) where
    pub pair-accepted-filled : ReadsPair rules rndf mdf t u (Ok (c, file, d, row)) left mission_left
        → (n : Network Field) × (m : Mission Field) × AcceptsRndf rules rndf t n × AcceptsMdf rules n mdf u m × (left ≡ filled n t) × (mission_left ≡ mission_filled m u)
    pair-accepted-filled (accepted n m a b e k l) = (n, m, a, b, k, l)
    pair-accepted-filled (rndf_refused_of line number column a e k l) = absurd (pair-never-both e)
    pair-accepted-filled (mdf_refused_of n line number column a b e k l) = absurd (pair-never-both e)
