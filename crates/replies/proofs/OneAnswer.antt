-- One file, RNDF or MDF: where each fault alone is settled, no text is accepted as two things, accepted and refused, or refused with two lines, numbers or columns. Assumes nothing.
use mathlib.Core.Path.{◌≡◌, refl, sym, ap₂, subst, ◌∙◌}
use Prim.Native.Nat.{ℕ, ◌≤◌, ◌<◌}
use native.Mathlib.Omega.{arith}
use lib.ListN.{length}
use Rattle.terms.specs.Ascii.{Bytes}
use Rattle.law.specs.Network.{SpellsText, Rules}
use Rattle.law.specs.Faults.{BadLine, Unended, FirstFault}
use Rattle.law_columns.specs.Columns.{Column}
use Rattle.replies.specs.Replies.{longest, File, Accepts, Refuses, too_long, bad_line, unended, no_room, bad_reference}

module _ (rules : Rules) {Net : Type 0} (file : File Net) (text : Bytes) where
  pub record Alone : Type 0 where
    pub one : (n n' : Net) → SpellsText rules file.Spells n text → SpellsText rules file.Spells n' text → n ≡ n'
    pub bad-one : (i k i' k' : ℕ) → BadLine rules file.Spells text i k → BadLine rules file.Spells text i' k' → (i ≡ i') × (k ≡ k')
    pub unended-one : (i i' : ℕ) → Unended rules file.Spells text i → Unended rules file.Spells text i' → i ≡ i'
    pub bad-or-unended : (i k j : ℕ) → BadLine rules file.Spells text i k → Unended rules file.Spells text j → ⊥
    pub bad-or-spelled : (i k : ℕ) (n : Net) → BadLine rules file.Spells text i k → SpellsText rules file.Spells n text → ⊥
    pub unended-or-spelled : (i : ℕ) (n : Net) → Unended rules file.Spells text i → SpellsText rules file.Spells n text → ⊥
    pub wrong-one : (n n' : Net) → SpellsText rules file.Spells n text → SpellsText rules file.Spells n' text → (i k i' k' : ℕ) → FirstFault rules file.Spells (file.Wrong n) text i k → FirstFault rules file.Spells (file.Wrong n') text i' k' → (i ≡ i') × (k ≡ k')
    -- the column hangs on line and number alone
    pub column : (i k : ℕ) → ℕ
    pub bad-column : (i k c : ℕ) (b : BadLine rules file.Spells text i k) → Column rules file.Spells b.front b.this k c → c ≡ column i k
    pub wrong-column : (n : Net) (i k c : ℕ) (f : FirstFault rules file.Spells (file.Wrong n) text i k) → Column rules file.Spells f.front f.at.this k c → c ≡ column i k
    pub wrong-or-right : (n n' : Net) → SpellsText rules file.Spells n text → SpellsText rules file.Spells n' text → (i k : ℕ) → FirstFault rules file.Spells (file.Wrong n) text i k → file.Right n' → ⊥

  module _ (s : Alone) where
    abbrev Taken : Net → Type 0
    Taken = Accepts rules file text

    abbrev Left : (line number column : ℕ) → Type 0
    Left = Refuses rules file text

    sizes-clash : {X : Type 0} → longest < length text → length text ≤ longest → X
    sizes-clash a b = absurd (omega arith)

    pub accepts-one : (n n' : Net) → Taken n → Taken n' → n ≡ n'
    accepts-one n n' a b = s.one n n' a.spelled b.spelled

    pub never_both : (n : Net) (i k c : ℕ) → Taken n → Left i k c → ⊥
    never_both n i k c a (too_long h) = sizes-clash h a.size
    never_both n i k c a (bad_line h b x) = s.bad-or-spelled i k n b a.spelled
    never_both n i k c a (unended h b) = s.unended-or-spelled i n b a.spelled
    never_both n i k c a (no_room n' h p r) = r (subst file.Roomy (s.one n n' a.spelled p) a.room)
    never_both n i k c a (bad_reference n' h p r f x) = s.wrong-or-right n' n p a.spelled i k f a.right

    abbrev Equal : (i k c i' k' c' : ℕ) → Type 0
    Equal i k c i' k' c' = (i ≡ i') × (k ≡ k') × (c ≡ c')

    -- one line and number have one column
    by-column : (i k c i' k' c' : ℕ) → c ≡ s.column i k → c' ≡ s.column i' k' → (i ≡ i') × (k ≡ k') → Equal i k c i' k' c'
    by-column i k c i' k' c' p p' q = (q.0, q.1, p ∙ ap₂ s.column q.0 q.1 ∙ sym p')

    pub refuses-one : (i k c i' k' c' : ℕ) → Left i k c → Left i' k' c' → Equal i k c i' k' c'
    refuses-one i k c i' k' c' (too_long h) (too_long h') = (refl, refl, refl)
    refuses-one i k c i' k' c' (too_long h) (bad_line h' b x') = sizes-clash h h'
    refuses-one i k c i' k' c' (too_long h) (unended h' b) = sizes-clash h h'
    refuses-one i k c i' k' c' (too_long h) (no_room n h' p r) = sizes-clash h h'
    refuses-one i k c i' k' c' (too_long h) (bad_reference n h' p r f x') = sizes-clash h h'
    refuses-one i k c i' k' c' (bad_line h b x) (too_long h') = sizes-clash h' h
    refuses-one i k c i' k' c' (bad_line h b x) (bad_line h' b' x') = by-column i k c i' k' c' (s.bad-column i k c b x) (s.bad-column i' k' c' b' x') (s.bad-one i k i' k' b b')
    refuses-one i k c i' k' c' (bad_line h b x) (unended h' b') = absurd (s.bad-or-unended i k i' b b')
    refuses-one i k c i' k' c' (bad_line h b x) (no_room n h' p r) = absurd (s.bad-or-spelled i k n b p)
    refuses-one i k c i' k' c' (bad_line h b x) (bad_reference n h' p r f x') = absurd (s.bad-or-spelled i k n b p)
    refuses-one i k c i' k' c' (unended h b) (too_long h') = sizes-clash h' h
    refuses-one i k c i' k' c' (unended h b) (bad_line h' b' x') = absurd (s.bad-or-unended i' k' i b' b)
    refuses-one i k c i' k' c' (unended h b) (unended h' b') = (s.unended-one i i' b b', refl, refl)
    refuses-one i k c i' k' c' (unended h b) (no_room n h' p r) = absurd (s.unended-or-spelled i n b p)
    refuses-one i k c i' k' c' (unended h b) (bad_reference n h' p r f x') = absurd (s.unended-or-spelled i n b p)
    refuses-one i k c i' k' c' (no_room n h p r) (too_long h') = sizes-clash h' h
    refuses-one i k c i' k' c' (no_room n h p r) (bad_line h' b x') = absurd (s.bad-or-spelled i' k' n b p)
    refuses-one i k c i' k' c' (no_room n h p r) (unended h' b) = absurd (s.unended-or-spelled i' n b p)
    refuses-one i k c i' k' c' (no_room n h p r) (no_room n' h' p' r') = (refl, refl, refl)
    refuses-one i k c i' k' c' (no_room n h p r) (bad_reference n' h' p' r' f x') = absurd (r (subst file.Roomy (s.one n' n p' p) r'))
    refuses-one i k c i' k' c' (bad_reference n h p r f x) (too_long h') = sizes-clash h' h
    refuses-one i k c i' k' c' (bad_reference n h p r f x) (bad_line h' b x') = absurd (s.bad-or-spelled i' k' n b p)
    refuses-one i k c i' k' c' (bad_reference n h p r f x) (unended h' b) = absurd (s.unended-or-spelled i' n b p)
    refuses-one i k c i' k' c' (bad_reference n h p r f x) (no_room n' h' p' r') = absurd (r' (subst file.Roomy (s.one n n' p p') r))
    refuses-one i k c i' k' c' (bad_reference n h p r f x) (bad_reference n' h' p' r' f' x') = by-column i k c i' k' c' (s.wrong-column n i k c f x) (s.wrong-column n' i' k' c' f' x') (s.wrong-one n n' p p' i k i' k' f f')
