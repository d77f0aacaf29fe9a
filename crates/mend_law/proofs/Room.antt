-- "a reader with room enough" (L9): a text that is not too long, spells a network and has right references is accepted by the reader in some tables (`room-enough`); and whether a text is can be decided (`accepted-told`). Assumes nothing.
use Rattle.replies.specs.Types.{RndfReply}
use mathlib.Core.Path.{◌≡◌, refl, sym, ap, subst, ◌∙◌}
use mathlib.Core.List.{List, []}
use mathlib.Core.Logic.{◌⊎◌, inl, inr}
use Prim.Native.Nat.{ℕ, ◌*◌, ◌/◌, ◌≤◌, ◌<◌}
use native.Mathlib.Nat.{le-div_iff_mul-le}
use native.Mathlib.Omega.{arith}
use lib.ListN.{length, replicate, length-replicate}
use lib.IntN.{ℤ, pos}
use Rattle.terms.specs.Ascii.{Bytes}
use Rattle.line.specs.Line.{Field}
use Rattle.grammar.specs.Editions.{Edition, law_of}
use Rattle.law.specs.Network.{Network, SpellsNetwork, SpellsText, reading}
use Rattle.law.specs.Tables.{Lent, HasRoom, segment_rows, lane_rows_of, zone_rows, spot_rows, point_rows, checkpoint_rows, stop_rows, exit_rows}
use Rattle.law.specs.Faults.{Sound}
use Rattle.replies.specs.Replies.{longest, too_long, bad_line, unended, no_room, bad_reference, ReadsRndf, accepted, refused}
use Rattle.replies.specs.Short.{AcceptsRndf, RefusesRndf}
use Rattle.replies.proofs.Alone.{rndf-alone}
use Rattle.replies.proofs.Settled.{rndf-some, rndf-never-both}
use Rattle.mend_law.specs.Mends.{AcceptedWithRoom}

-- so many words have this many rows
words : {X : Type 0} (stride rows : ℕ) (x : X) → 0 < stride → rows ≤ length (replicate (rows * stride) x) / stride
words stride rows x h = subst (λ (k : ℕ). rows ≤ k / stride) (sym (length-replicate (rows * stride) x)) ((le-div_iff_mul-le h).1 (omega arith))

-- tables with a row for each
abbrev pub roomy : Network Field → Lent
roomy n = record {
  segments = replicate (length (segment_rows n) * 4) 0;
  lanes = replicate (length (lane_rows_of n) * 5) 0;
  zones = replicate (length (zone_rows n) * 6) 0;
  spots = replicate (length (spot_rows n) * 2) 0;
  points = replicate (length (point_rows n) * 2) (pos 0);
  checkpoints = replicate (length (checkpoint_rows n) * 2) 0;
  stops = replicate (length (stop_rows n) * 1) 0;
  exits = replicate (length (exit_rows n) * 2) 0;
}

has_room : (n : Network Field) → HasRoom n (roomy n)
has_room n = record {
  segments = words 4 (length (segment_rows n)) 0 (omega arith);
  lanes = words 5 (length (lane_rows_of n)) 0 (omega arith);
  zones = words 6 (length (zone_rows n)) 0 (omega arith);
  spots = words 2 (length (spot_rows n)) 0 (omega arith);
  points = words 2 (length (point_rows n)) (pos 0) (omega arith);
  checkpoints = words 2 (length (checkpoint_rows n)) 0 (omega arith);
  stops = words 1 (length (stop_rows n)) 0 (omega arith);
  exits = words 2 (length (exit_rows n)) 0 (omega arith);
}

module _ (d : Edition) (text : Bytes) where
  pub room-enough : (n : Network Field) → length text ≤ longest → SpellsText (reading (law_of d)) SpellsNetwork n text → Sound n → AcceptedWithRoom (reading (law_of d)) text
  room-enough n size spelled right = (roomy n, n, record { size = size; spelled = spelled; room = has_room n; right = right })

  -- what is refused for its size, its form or its references in some tables is refused in all
  refused_anywhere : (t : Lent) (line number column : ℕ) → RefusesRndf (reading (law_of d)) text t line number column → ((n : Network Field) → SpellsText (reading (law_of d)) SpellsNetwork n text → HasRoom n t) → AcceptedWithRoom (reading (law_of d)) text → ⊥
  refused_anywhere t line number column (too_long h) room a = rndf-never-both d text a.0 a.1 0 1 0 a.2 (too_long h)
  refused_anywhere t line number column (bad_line h b c) room a = rndf-never-both d text a.0 a.1 line number column a.2 (bad_line h b c)
  refused_anywhere t line number column (unended h b) room a = rndf-never-both d text a.0 a.1 line 10 0 a.2 (unended h b)
  refused_anywhere t line number column (no_room n h s r) room a = absurd (r (room n s))
  refused_anywhere t line number column (bad_reference n h s r b c) room a = rndf-never-both d text t a.1 line number column (record { size = a.2.size; spelled = a.2.spelled; room = room a.1 a.2.spelled; right = a.2.right }) (bad_reference n h s r b c)

  -- accepted by a reader with room enough, or not
  pub accepted-told : AcceptedWithRoom (reading (law_of d)) text ⊎ (AcceptedWithRoom (reading (law_of d)) text → ⊥)
  accepted-told = go (record { segments = []; lanes = []; zones = []; spots = []; points = []; checkpoints = []; stops = []; exits = [] }) (λ n s. again n s)
    where
      -- in tables that have room for what the text spells
      last : (t : Lent) → ((n : Network Field) → SpellsText (reading (law_of d)) SpellsNetwork n text → HasRoom n t) → AcceptedWithRoom (reading (law_of d)) text ⊎ (AcceptedWithRoom (reading (law_of d)) text → ⊥)
      last t room = on (rndf-some d text t).0 (rndf-some d text t).1 (rndf-some d text t).2
        where
          on : (r : RndfReply) (l : Lent) → ReadsRndf (reading (law_of d)) text t r l → AcceptedWithRoom (reading (law_of d)) text ⊎ (AcceptedWithRoom (reading (law_of d)) text → ⊥)
          on r l (accepted n a e k) = inl ((t, n, a))
          on r l (refused line number column a e k) = inr (refused_anywhere t line number column a room)

      again : (n : Network Field) → SpellsText (reading (law_of d)) SpellsNetwork n text → AcceptedWithRoom (reading (law_of d)) text ⊎ (AcceptedWithRoom (reading (law_of d)) text → ⊥)
      again n s = last (roomy n) (λ m z. subst (λ (x : Network Field). HasRoom x (roomy n)) ((rndf-alone d text (roomy n)).one n m s z) (has_room n))

      -- in any tables
      go : (t : Lent) → ((n : Network Field) → SpellsText (reading (law_of d)) SpellsNetwork n text → AcceptedWithRoom (reading (law_of d)) text ⊎ (AcceptedWithRoom (reading (law_of d)) text → ⊥)) → AcceptedWithRoom (reading (law_of d)) text ⊎ (AcceptedWithRoom (reading (law_of d)) text → ⊥)
      go t more = on (rndf-some d text t).0 (rndf-some d text t).1 (rndf-some d text t).2
        where
          on : (r : RndfReply) (l : Lent) → ReadsRndf (reading (law_of d)) text t r l → AcceptedWithRoom (reading (law_of d)) text ⊎ (AcceptedWithRoom (reading (law_of d)) text → ⊥)
          on r l (accepted n a e k) = inl ((t, n, a))
          on r l (refused line number column (too_long h) e k) = inr (λ a. rndf-never-both d text a.0 a.1 0 1 0 a.2 (too_long h))
          on r l (refused line number column (bad_line h b c) e k) = inr (λ a. rndf-never-both d text a.0 a.1 line number column a.2 (bad_line h b c))
          on r l (refused line number column (unended h b) e k) = inr (λ a. rndf-never-both d text a.0 a.1 line 10 0 a.2 (unended h b))
          on r l (refused line number column (no_room n h s x) e k) = more n s
          on r l (refused line number column (bad_reference n h s x b c) e k) = more n s
