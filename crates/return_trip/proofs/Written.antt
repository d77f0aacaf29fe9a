-- WHAT WAS WRITTEN, from the contracts of writers: the house writing of what was accepted, in its edition. Assumes nothing.
use Rattle.std.specs.Prelude.{Ok, Err}
use Rattle.writings.specs.Types.{WriteMdfReply, WriteReply}
use Rattle.replies.specs.Types.{PairReply}
use mathlib.Core.Path.{◌≡◌, sym, ap, ◌∙◌}
use Prim.Native.Nat.{ℕ, ◌-◌, ◌≤◌}
use lib.ListN.{length, take}
use lib.Seq.{take_at}
use Rattle.terms.specs.Ascii.{Bytes}
use Rattle.line.specs.Content.{Field}
use Rattle.law.specs.Network.{Network, Mission}
use Rattle.law.specs.Tables.{Lent, MissionLent, filled}
use Rattle.edition.specs.declared.Edition.{Edition}
use Rattle.edition.specs.Editions.{rules_of}
use Rattle.house_text.specs.House.{HouseRndf, HouseMdf}
use Rattle.output.specs.Output as Output
use Rattle.rows.specs.declared.FileRow.{FileRow}
use Rattle.rows.specs.declared.MissionFileRow.{MissionFileRow}
use Rattle.counts.specs.declared.Counts.{Counts}
use Rattle.counts.specs.declared.MissionCounts.{MissionCounts}
use Rattle.replies.specs.Replies.{longest, rows_used_of, network_file, ReadsPair, accepted}
use Rattle.replies.specs.Short.{AcceptsRndf, AcceptsMdf}
use Rattle.writings.specs.Writes.{WritesRndf, WritesMdf}
use Rattle.writings.specs.Writes as W
use Rattle.writings.proofs.Said.{wrote-or-not, mdf-wrote-or-not}
use Rattle.promises.specs.Accepted.{Meant}
use Rattle.promises.proofs.PairPromises.{pair-tables-are}

-- the first bytes of an output that was filled
first-are : (lent : ℕ) (x out : Bytes) (k : ℕ) → out ≡ Output.padded lent x → k ≡ length x → take k out ≡ x
first-are lent x out k o e = ap (take k) o ∙ take_at x (Output.zero_bytes (lent - length x)) k (sym e)

module _ (edition : Edition) where
  -- ## An RNDF
  pub record RndfWritten (text : Bytes) (t left : Lent) (c : Counts) (file : FileRow) (k : ℕ) (out : Bytes) : Type 0 where
    pub net : Network Field
    pub writing : Bytes
    pub accepts : AcceptsRndf (rules_of edition) text t net
    pub house : HouseRndf net writing
    pub size : length writing ≤ longest
    pub long : k ≡ length writing
    pub first : take k out ≡ writing
    pub counted : c ≡ rows_used_of net
    pub row : file ≡ network_file net
    pub holds : left ≡ filled net t

  abbrev counts_in : Counts → WriteReply → Counts
  counts_in d (Ok (c, file, k)) = c
  counts_in d (Err why) = d

  abbrev file_in : FileRow → WriteReply → FileRow
  file_in d (Ok (c, file, k)) = file
  file_in d (Err why) = d

  abbrev long_in : WriteReply → ℕ
  long_in (Ok (c, file, k)) = k
  long_in (Err why) = 0

  pub rndf-written : (text : Bytes) (t left : Lent) (lent : ℕ) (c : Counts) (file : FileRow) (k : ℕ) (out : Bytes) → WritesRndf (rules_of edition) text t lent (Ok (c, file, k)) left out → RndfWritten text t left c file k out
  rndf-written text t left lent c file k out (W.refused why h e z) = absurd (wrote-or-not e)
  rndf-written text t left lent c file k out (W.too_long y f e p z) = absurd (wrote-or-not e)
  rndf-written text t left lent c file k out (W.written y f e p z) =
      record { net = y.meant; writing = y.writing; accepts = y.accepted; house = y.wrote; size = f.size; long = ap long_in e; first = first-are lent y.writing out k z (ap long_in e); counted = ap (counts_in c) e; row = ap (file_in file) e; holds = p }

  -- ## The MDF of a pair
  pub record MdfWritten (rndf mdf : Bytes) (t left : Lent) (u mission_left : MissionLent) (c : Counts) (file : FileRow) (d : MissionCounts) (own : MissionFileRow) (k : ℕ) (out : Bytes) : Type 0 where
    pub net : Network Field
    pub mission : Mission Field
    pub writing : Bytes
    pub accepts : AcceptsRndf (rules_of edition) rndf t net
    pub takes : AcceptsMdf (rules_of edition) net mdf u mission
    pub house : HouseMdf mission writing
    pub size : length writing ≤ longest
    pub long : k ≡ length writing
    pub first : take k out ≡ writing
    pub meant : Meant t u net mission c file d own left mission_left

  -- the reply's parts, of a reply that was written
  abbrev written_as : WriteMdfReply → PairReply → PairReply
  written_as (Ok (c, file, d, own, k)) other = Ok (c, file, d, own)
  written_as (Err why) other = other

  abbrev mdf-long_in : WriteMdfReply → ℕ
  mdf-long_in (Ok (c, file, d, own, k)) = k
  mdf-long_in (Err why) = 0

  pub mdf-written : (rndf mdf : Bytes) (t left : Lent) (u mission_left : MissionLent) (lent : ℕ) (c : Counts) (file : FileRow) (d : MissionCounts) (own : MissionFileRow) (k : ℕ) (out : Bytes)
      → WritesMdf (rules_of edition) rndf mdf t u lent (Ok (c, file, d, own, k)) left mission_left out → MdfWritten rndf mdf t left u mission_left c file d own k out
  mdf-written rndf mdf t left u mission_left lent c file d own k out (W.refused why h e z) = absurd (mdf-wrote-or-not e)
  mdf-written rndf mdf t left u mission_left lent c file d own k out (W.too_long n a y f e p q z) = absurd (mdf-wrote-or-not e)
  mdf-written rndf mdf t left u mission_left lent c file d own k out (W.written n a y f e p q z) =
      let h : ReadsPair (rules_of edition) rndf mdf t u (Ok (c, file, d, own)) left mission_left = accepted n y.meant a y.accepted (ap (λ (r : WriteMdfReply). written_as r (Ok (c, file, d, own))) e) p q in
      record {
        net = n;
        mission = y.meant;
        writing = y.writing;
        accepts = a;
        takes = y.accepted;
        house = y.wrote;
        size = f.size;
        long = ap mdf-long_in e;
        first = first-are lent y.writing out k z (ap mdf-long_in e);
        meant = pair-tables-are edition rndf mdf t u c file d own left mission_left h n y.meant a.spelled y.accepted.spelled;
      }
