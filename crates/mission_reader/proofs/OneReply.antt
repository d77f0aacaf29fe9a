-- An MDF is accepted with one mission, or refused at one line with one number, and never both. Assumes nothing.
use mathlib.Core.Path.{◌≡◌, refl, subst}
use Prim.Native.Nat.{ℕ, ◌≤◌, ◌<◌}
use native.Mathlib.Omega.{arith}
use lib.ListN.{length}
use Rattle.terms.specs.Ascii.{Bytes}
use Rattle.line.specs.Content.{Field}
use Rattle.grammar.specs.Network.{Network}
use Rattle.grammar.specs.Mission.{Mission}
use Rattle.text.proofs.Theorems.{one-mdf}
use Rattle.table_words.specs.Words.{MissionLent}
use Rattle.form_faults.proofs.FormFaults.{mdf-one-bad-line, mdf-one-unended, mdf-bad-or-unended, mdf-bad-or-spelled, mdf-unended-or-spelled}
use Rattle.fault_lines.proofs.MdfFaults.{mission-line-one, line-not-fits}
use Rattle.mission_reader.specs.MissionReplies.{most, RoomFor, AcceptsMdf, RefusesMdf, too_long, bad_line, unended, no_room, bad_reference}

module _ (n : Network Field) (mdf : Bytes) (u : MissionLent) where
  -- one size, and one mission
  sizes-clash : {X : Type 0} → most < length mdf → length mdf ≤ most → X
  sizes-clash a b = absurd (omega arith)

  pub one-accepted : (m m' : Mission Field) → AcceptsMdf n mdf u m → AcceptsMdf n mdf u m' → m ≡ m'
  one-accepted m m' a b = one-mdf m m' mdf a.spelled b.spelled

  pub never_both : (m : Mission Field) (i k : ℕ) → AcceptsMdf n mdf u m → RefusesMdf n mdf u i k → ⊥
  never_both m i k a (too_long h) = sizes-clash h a.size
  never_both m i k a (bad_line h b) = mdf-bad-or-spelled mdf i k m b a.spelled
  never_both m i k a (unended h b) = mdf-unended-or-spelled mdf i m b a.spelled
  never_both m i k a (no_room {m = m'} h s r) = r (subst (λ (x : Mission Field). RoomFor x u) (one-mdf m m' mdf a.spelled s) a.room)
  never_both m i k a (bad_reference h s r f) = line-not-fits n m mdf a.spelled i k f a.fits

  pub one-refused : (i k i' k' : ℕ) → RefusesMdf n mdf u i k → RefusesMdf n mdf u i' k' → (i ≡ i') × (k ≡ k')
  one-refused i k i' k' (too_long h) (too_long h') = (refl, refl)
  one-refused i k i' k' (too_long h) (bad_line h' b) = sizes-clash h h'
  one-refused i k i' k' (too_long h) (unended h' b) = sizes-clash h h'
  one-refused i k i' k' (too_long h) (no_room h' s r) = sizes-clash h h'
  one-refused i k i' k' (too_long h) (bad_reference h' s r f) = sizes-clash h h'
  one-refused i k i' k' (bad_line h b) (too_long h') = sizes-clash h' h
  one-refused i k i' k' (bad_line h b) (bad_line h' b') = mdf-one-bad-line mdf i k i' k' b b'
  one-refused i k i' k' (bad_line h b) (unended h' b') = absurd (mdf-bad-or-unended mdf i k i' b b')
  one-refused i k i' k' (bad_line h b) (no_room {m = m} h' s r) = absurd (mdf-bad-or-spelled mdf i k m b s)
  one-refused i k i' k' (bad_line h b) (bad_reference {m = m} h' s r f) = absurd (mdf-bad-or-spelled mdf i k m b s)
  one-refused i k i' k' (unended h b) (too_long h') = sizes-clash h' h
  one-refused i k i' k' (unended h b) (bad_line h' b') = absurd (mdf-bad-or-unended mdf i' k' i b' b)
  one-refused i k i' k' (unended h b) (unended h' b') = (mdf-one-unended mdf i i' b b', refl)
  one-refused i k i' k' (unended h b) (no_room {m = m} h' s r) = absurd (mdf-unended-or-spelled mdf i m b s)
  one-refused i k i' k' (unended h b) (bad_reference {m = m} h' s r f) = absurd (mdf-unended-or-spelled mdf i m b s)
  one-refused i k i' k' (no_room h s r) (too_long h') = sizes-clash h' h
  one-refused i k i' k' (no_room {m = m} h s r) (bad_line h' b) = absurd (mdf-bad-or-spelled mdf i' k' m b s)
  one-refused i k i' k' (no_room {m = m} h s r) (unended h' b) = absurd (mdf-unended-or-spelled mdf i' m b s)
  one-refused i k i' k' (no_room h s r) (no_room h' s' r') = (refl, refl)
  one-refused i k i' k' (no_room {m = m} h s r) (bad_reference {m = m'} h' s' r' f) = absurd (r (subst (λ (x : Mission Field). RoomFor x u) (one-mdf m' m mdf s' s) r'))
  one-refused i k i' k' (bad_reference h s r f) (too_long h') = sizes-clash h' h
  one-refused i k i' k' (bad_reference {m = m} h s r f) (bad_line h' b) = absurd (mdf-bad-or-spelled mdf i' k' m b s)
  one-refused i k i' k' (bad_reference {m = m} h s r f) (unended h' b) = absurd (mdf-unended-or-spelled mdf i' m b s)
  one-refused i k i' k' (bad_reference {m = m} h s r f) (no_room {m = m'} h' s' r') = absurd (r' (subst (λ (x : Mission Field). RoomFor x u) (one-mdf m m' mdf s s') r))
  one-refused i k i' k' (bad_reference h s r f) (bad_reference h' s' r' f') = mission-line-one n mdf i i' k k' f f'
