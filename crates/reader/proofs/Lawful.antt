-- What the proofs of the code say over statements (ByStatements) is what the contracts say over lines (Replies), and the other way round. Assumes nothing.
use Rattle.std.specs.Prelude.{Ok, Err}
use Rattle.replies.specs.Types.{PairReply, RndfReply}
use mathlib.Core.Path.{◌≡◌, refl, sym, ap, ap₂, subst, ◌∙◌}
use mathlib.Core.Option.{Option, none, some}
use Prim.Native.Nat.{ℕ}
use lib.ListN.{length}
use Rattle.terms.specs.Ascii.{Bytes}
use Rattle.line.specs.Content.{Field}
use Rattle.law.specs.Network.{Network, Mission, SpellsNetwork, SpellsMission, reading, present}
use Rattle.grammar.specs.Editions.{Edition, march, law_of}
use Rattle.law.specs.Tables as Law
use Rattle.law.specs.Tables.{Lent, MissionLent}
use Rattle.grammar.specs.Tables.{tables, mission_tables}
use Rattle.grammar.specs.References.{Sound}
use Rattle.fill.specs.Counts as F
use Rattle.fill.specs.Counts.{sizes}
use Rattle.rows.specs.declared.Stretch.{Stretch}
use Rattle.table_words.specs.Words.{network_filled, mission_filled}
use Rattle.table_words.specs.FileRows as Rows
use Rattle.law_spelling.proofs.Texts.{rndf-to_in, rndf-back, mdf-to_in, mdf-back}
use Rattle.law_faults.proofs.Theorems.{rndf-bad-to_in, rndf-bad-back, rndf-unended-to_in, rndf-unended-back, mdf-bad-to_in, mdf-bad-back, mdf-unended-to_in, mdf-unended-back}
use Rattle.law_tables.proofs.SameTables.{counts_same, filled-same, room-to, room_back, mission-filled-same, mission-room-to, mission-room-back}
use Rattle.law_tables.proofs.SameFits.{fits-to, fits-back}
use Rattle.law_tables.proofs.RndfFirst.{rndf-first-to_in, rndf-first-back}
use Rattle.law_tables.proofs.MdfFirst.{mdf-first-to_in, mdf-first-back}
use Rattle.counts.specs.declared.Counts.{Counts}
use Rattle.network_reader.specs.Replies as N
use Rattle.mission_reader.specs.MissionReplies as M
use Rattle.reader.specs.ByStatements as Old
use Rattle.replies.specs.Replies as New
use Rattle.replies.specs.Short as Short
use Rattle.replies.proofs.Counted.{counts_are}
use Rattle.reader.specs.Columns.{rndf_told_of, mdf_told_of}
use Rattle.reader.proofs.Columns.{rndf-bad-told_in, rndf-fault-told_in, rndf-told-so, mdf-bad-told_in, mdf-fault-told_in, mdf-told-so}

-- ## Counts and names
name-is : (v : Option Field) → Rows.shown_name (λ name. name.start) (λ name. length name.bytes) v ≡ New.stretch v
name-is none = refl
name-is (some v) = refl

pub file_is : (n : Network Field) → Rows.network_file n ≡ New.network_file n
file_is n = λ i. record { name = New.stretch (some n.name); version = name-is n.version i; date = name-is n.date i }

pub mission-file-is : (m : Mission Field) → Rows.mission_file_of m ≡ New.mission_file_of m
mission-file-is m = λ i. record { name = New.stretch (some m.name); rndf = New.stretch (some m.rndf); version = name-is m.version i; date = name-is m.date i }

-- ## An RNDF, in each edition
module _ (ε : Edition) (text : Bytes) (t : Lent) where
  pub accepts-to_in : (n : Network Field) → N.AcceptsRndfIn ε text t n → Short.AcceptsRndf (reading (law_of ε)) text t n
  accepts-to_in n a = record { size = a.size; spelled = rndf-to_in ε n text a.spelled; room = room-to n t a.room; right = a.sound }

  pub refuses-to_in : (line number : ℕ) → N.RefusesRndfIn ε text t line number → Short.RefusesRndf (reading (law_of ε)) text t line number (rndf_told_of text line number)
  unfolding rndf_told_of
  refuses-to_in line number (N.too_long h) = New.too_long h
  refuses-to_in line number (N.bad_line size b) = New.bad_line size (rndf-bad-to_in ε text line number b) (rndf-bad-told_in ε text size line number b)
  refuses-to_in line number (N.unended size u) = New.unended size (rndf-unended-to_in ε text line u)
  refuses-to_in line number (N.no_room n size h f) = New.no_room n size (rndf-to_in ε n text h) (λ r. f (room_back n t r))
  refuses-to_in line number (N.bad_reference n size h room f) = New.bad_reference n size (rndf-to_in ε n text h) (room-to n t room) (rndf-first-to_in ε n text h line number f) (rndf-fault-told_in ε text size n h line number f)

  pub rndf-reads-to_in : (reply : RndfReply) (left : Lent) → Old.ReadsRndfIn ε text t reply left → New.ReadsRndf (reading (law_of ε)) text t reply left
  rndf-reads-to_in reply left (Old.accepted n a e k) = New.accepted n (accepts-to_in n a) (e ∙ (λ i. Ok (counts_are n i, file_is n i))) (k ∙ filled-same n a.sound t)
  rndf-reads-to_in reply left (Old.refused line number a e k) = New.refused line number (rndf_told_of text line number) (refuses-to_in line number a) e k

-- ## In the present one, both ways
module _ (text : Bytes) (t : Lent) where
  pub accepts-back : (n : Network Field) → Short.AcceptsRndf present text t n → N.AcceptsRndf text t n
  accepts-back n a = record { size = a.size; spelled = rndf-back n text a.spelled; room = room_back n t a.room; sound = a.right }

  pub refuses-back : (line number column : ℕ) → Short.RefusesRndf present text t line number column → N.RefusesRndf text t line number
  refuses-back line number column (New.too_long h) = N.too_long h
  refuses-back line number column (New.bad_line size b x) = N.bad_line size (rndf-bad-back text line number b)
  refuses-back line number column (New.unended size u) = N.unended size (rndf-unended-back text line u)
  refuses-back line number column (New.no_room n size h f) = N.no_room n size (rndf-back n text h) (λ r. f (room-to n t r))
  refuses-back line number column (New.bad_reference n size h room f x) = N.bad_reference n size (rndf-back n text h) (room_back n t room) (rndf-first-back n text (rndf-back n text h) line number f)

  pub rndf-reads-to : (reply : RndfReply) (left : Lent) → Old.ReadsRndf text t reply left → New.ReadsRndf present text t reply left
  rndf-reads-to = rndf-reads-to_in march text t

  pub rndf-reads-back : (reply : RndfReply) (left : Lent) → New.ReadsRndf present text t reply left → Old.ReadsRndf text t reply left
  rndf-reads-back reply left (New.accepted n a e k) = Old.accepted n (accepts-back n a) (e ∙ sym (λ i. Ok (counts_are n i, file_is n i))) (k ∙ sym (filled-same n a.right t))
  rndf-reads-back reply left (New.refused line number column a e k) =
      Old.refused line number (refuses-back line number column a) (e ∙ ap (λ (x : ℕ). Err (New.refusal 1 line number x)) (rndf-told-so text t line number column a)) k

-- ## An MDF for a network
module _ (n : Network Field) (mdf : Bytes) (u : MissionLent) where
  pub mdf-accepts-to_in : (ε : Edition) (m : Mission Field) → M.AcceptsMdf n mdf u m → Short.AcceptsMdf (reading (law_of ε)) n mdf u m
  mdf-accepts-to_in ε m a = record { size = a.size; spelled = mdf-to_in ε m mdf a.spelled; room = mission-room-to m u a.room; right = fits-to n m a.fits }

  pub mdf-accepts-back : (m : Mission Field) → Short.AcceptsMdf present n mdf u m → M.AcceptsMdf n mdf u m
  mdf-accepts-back m a = record { size = a.size; spelled = mdf-back m mdf a.spelled; room = mission-room-back m u a.room; fits = fits-back n m a.right }

  pub mdf-refuses-to_in : (ε : Edition) (line number : ℕ) → M.RefusesMdf n mdf u line number → Short.RefusesMdf (reading (law_of ε)) n mdf u line number (mdf_told_of mdf line number)
  unfolding mdf_told_of
  mdf-refuses-to_in ε line number (M.too_long h) = New.too_long h
  mdf-refuses-to_in ε line number (M.bad_line size b) = New.bad_line size (mdf-bad-to_in ε mdf line number b) (mdf-bad-told_in mdf size ε line number b)
  mdf-refuses-to_in ε line number (M.unended size x) = New.unended size (mdf-unended-to_in ε mdf line x)
  mdf-refuses-to_in ε line number (M.no_room {m} size h f) = New.no_room m size (mdf-to_in ε m mdf h) (λ r. f (mission-room-back m u r))
  mdf-refuses-to_in ε line number (M.bad_reference {m} size h room f) =
      let x = mdf-first-to_in n m mdf h ε line number f in
      New.bad_reference m size (mdf-to_in ε m mdf h) (mission-room-to m u room) x (mdf-fault-told_in mdf size ε n line number x)

  pub mdf-refuses-back : (line number column : ℕ) → Short.RefusesMdf present n mdf u line number column → M.RefusesMdf n mdf u line number
  mdf-refuses-back line number column (New.too_long h) = M.too_long h
  mdf-refuses-back line number column (New.bad_line size b x) = M.bad_line size (mdf-bad-back mdf line number b)
  mdf-refuses-back line number column (New.unended size x) = M.unended size (mdf-unended-back mdf line x)
  mdf-refuses-back line number column (New.no_room m size h f) = M.no_room {m = m} size (mdf-back m mdf h) (λ r. f (mission-room-to m u r))
  mdf-refuses-back line number column (New.bad_reference m size h room f x) = M.bad_reference {m = m} size (mdf-back m mdf h) (mission-room-back m u room) (mdf-first-back n m mdf (mdf-back m mdf h) line number f)

-- ## A pair
module _ (rndf mdf : Bytes) (t : Lent) (u : MissionLent) where
  replied : (n : Network Field) (m : Mission Field) → ◌≡◌ {A = PairReply} (Ok (N.rows_used_of (sizes (tables n)), Rows.network_file n, M.rows_used_of m, Rows.mission_file_of m)) (Ok (New.rows_used_of n, New.network_file n, M.rows_used_of m, New.mission_file_of m))
  replied n m = λ i. Ok (counts_are n i, file_is n i, M.rows_used_of m, mission-file-is m i)

  pub pair-reads-to_in : (ε : Edition) (reply : PairReply) (left : Lent) (mission_left : MissionLent) → Old.ReadsPairIn ε rndf mdf t u reply left mission_left → New.ReadsPair (reading (law_of ε)) rndf mdf t u reply left mission_left
  pair-reads-to_in ε reply left mission_left (Old.accepted n m a b e k l) = New.accepted n m (accepts-to_in ε rndf t n a) (mdf-accepts-to_in n mdf u ε m b) (e ∙ replied n m) (k ∙ filled-same n a.sound t) (l ∙ mission-filled-same m u)
  pair-reads-to_in ε reply left mission_left (Old.rndf_refused_of line number a e k l) = New.rndf_refused_of line number (rndf_told_of rndf line number) (refuses-to_in ε rndf t line number a) e k l
  pair-reads-to_in ε reply left mission_left (Old.mdf_refused_of n line number a b e k l) = New.mdf_refused_of n line number (mdf_told_of mdf line number) (accepts-to_in ε rndf t n a) (mdf-refuses-to_in n mdf u ε line number b) e k l

  pub pair-reads-to : (reply : PairReply) (left : Lent) (mission_left : MissionLent) → Old.ReadsPair rndf mdf t u reply left mission_left → New.ReadsPair present rndf mdf t u reply left mission_left
  pair-reads-to = pair-reads-to_in march

  pub pair-reads-back : (reply : PairReply) (left : Lent) (mission_left : MissionLent) → New.ReadsPair present rndf mdf t u reply left mission_left → Old.ReadsPair rndf mdf t u reply left mission_left
  pair-reads-back reply left mission_left (New.accepted n m a b e k l) = Old.accepted n m (accepts-back rndf t n a) (mdf-accepts-back n mdf u m b) (e ∙ sym (replied n m)) (k ∙ sym (filled-same n a.right t)) (l ∙ sym (mission-filled-same m u))
  pair-reads-back reply left mission_left (New.rndf_refused_of line number column a e k l) =
      Old.rndf_refused_of line number (refuses-back rndf t line number column a) (e ∙ ap (λ (x : ℕ). Err (New.refusal 1 line number x)) (rndf-told-so rndf t line number column a)) k l
  pair-reads-back reply left mission_left (New.mdf_refused_of n line number column a b e k l) =
      Old.mdf_refused_of n line number (accepts-back rndf t n a) (mdf-refuses-back n mdf u line number column b) (e ∙ ap (λ (x : ℕ). Err (New.refusal 2 line number x)) (mdf-told-so n mdf u line number column b)) k l
