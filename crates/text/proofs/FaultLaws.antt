-- A line is judged faulty with a number exactly if it has that fault. For every file. Assumes nothing.
use Rattle.std.specs.Prelude.{Ok, Err, Result}
use mathlib.Core.Path.{◌≡◌, refl, sym, ap, subst, ◌∙◌}
use mathlib.Core.List.{List, [], ◌∷◌}
use mathlib.Core.Option.{Option, none, some}
use mathlib.Core.Bool.{Bool, true, false}
use mathlib.Core.Logic.{◌⊎◌, inl, inr}
use Prim.Native.Nat.{ℕ}
use native.Mathlib.Omega.{arith}
use borrow.Author.Tests.{eqb-true, eqb-false, eq-eqb, ne_eqb}
use lib.ListN.{length, take}
use lib.Dec.{eqb}
use Rattle.terms.specs.Ascii.{Bytes}
use Rattle.terms.proofs.Tests.{nothing}
use Rattle.line.specs.Content.{Field, Content}
use Rattle.line.specs.Lines.{drop_cr}
use Rattle.line.specs.Forms.{form_of, fields_at}
use Rattle.line.proofs.Ends.{ended, ended_is}
use Rattle.line.proofs.Faults.{form-fault, fault-form, body-content, content-form, content-body}
use Rattle.grammar.specs.Language.{Lang, S, say}
use Rattle.grammar.specs.Machine.{Out, next, refuse, Machine, Place, step}
use Rattle.grammar.specs.Stands.{stands, of_row_of, as_due, given}
use Rattle.grammar.specs.Machine.{over, inside}
use Rattle.text.specs.Said.{Said, SpellFields}
use Rattle.text.specs.Judge.{Vals, read_all, Verdict, fault, good, check, Lexis, kind_at, args, taken, valued, standing, known, tell, told, formed, judge}
use Rattle.text.specs.Faults.{Fielded, MayStand, Fault, form, unknown, misplaced, given_again, miscounted, misspelt, forbidden, unmarked}
use Rattle.text.proofs.FieldReading.{said, all_right, all-only}
use Rattle.text.proofs.Refused.{nine-or_25}
use Rattle.text.proofs.Telling.{Lawful, line-is, spelled-args, args-spelled}

failed : {S P : Type 0} (b : Bool) (m n : ℕ) (v : Verdict S P) → check b m v ≡ fault n → ((b ≡ false) × (m ≡ n)) ⊎ ((b ≡ true) × (v ≡ fault n))
failed true m n v e = inr (refl, e)
failed false m n v e = inl (refl, cc)

module _ {L : Lang} (A : Machine L) (X : Lexis L) (Line-of : (k : L.Kind) → L.Pay k → List Said) (W : Lawful A X Line-of) where
  open L use {Kind, Pay}
  open X use {keyword, sorts, make}

  not_good : {Y : Type 0} {n : ℕ} {o : Option (S L)} {q : Place A} → ◌≡◌ {A = Verdict (S L) (Place A)} (good o q) (fault n) → Y
  not_good e = absurd (let z : ◌≡◌ {A = ℕ} 0 1 = cc in omega arith)

  same-fault : {m n : ℕ} → ◌≡◌ {A = Verdict (S L) (Place A)} (fault m) (fault n) → m ≡ n
  same-fault e = cc

  -- a kind that may not stand gets 5 or 6
  pub five-or-six : (p : Place A) (k : Kind) (n : ℕ) → stands A p k ≡ some n → (n ≡ 5) ⊎ (n ≡ 6)
  unfolding stands
  five-or-six over k n e = inl (let z : 5 ≡ n = cc in sym z)
  five-or-six (inside b g) k n e = go (given L (A.opts b) g k) (L.disc k (A.due b).on) e
    where
      go : (x : Option Bool) (d : Dec (k ≡ (A.due b).on)) → of_row_of x (as_due d) ≡ some n → (n ≡ 5) ⊎ (n ≡ 6)
      go (some true) d e = inr (let z : 6 ≡ n = cc in sym z)
      go (some false) d e = nothing e
      go none (yes q) e = nothing e
      go none (no m) e = inl (let z : 5 ≡ n = cc in sym z)

  module _ (p : Place A) (a : ℕ) (l : Bytes) where
    by : (m n : ℕ) → m ≡ n → Fault A X Line-of p a l m → Fault A X Line-of p a l n
    by m n e f = subst (Fault A X Line-of p a l) e f

    module _ (n : ℕ) (f : Field) (fs : List Field) (h : Fielded a l f fs) where
      in-value : (k : Kind) (q : kind_at A X p f ≡ some k) → stands A p k ≡ none → length (args A X (keyword k) f fs) ≡ length (sorts k)
          → (x : Option (Vals (sorts k))) → read_all (sorts k) (args A X (keyword k) f fs) ≡ x → valued A X p k x ≡ fault n → Fault A X Line-of p a l n
      in-value k q s c none r e = by 8 n (same-fault e) (misspelt (record { fields = h; is = q; here = s }) c λ v w. nothing (sym r ∙ (all-only (sorts k) (args A X (keyword k) f fs) (W.parts k v) (args-spelled A X Line-of W p f fs k q (W.parts k v) (subst (SpellFields (f ∷ fs)) (line-is A X Line-of W k v) w))).0))
      in-value k q s c (some w) r e = go (step A p (say L k (make k w))) refl e
        where
          go : (o : Out (Place A)) → step A p (say L k (make k w)) ≡ o → taken A X (say L k (make k w)) o ≡ fault n → Fault A X Line-of p a l n
          go (next q') t e = not_good e
          go (refuse c') t e = refused-so (nine-or_25 A p k (make k w) c' s t)
            where
              spelled : SpellFields (f ∷ fs) (Line-of k (make k w))
              spelled = spelled-args A X Line-of W p f fs k q w (all_right (sorts k) (args A X (keyword k) f fs) w r)

              refused-so : (c' ≡ 9) ⊎ (c' ≡ 25) → Fault A X Line-of p a l n
              refused-so (inl i) = by 9 n (sym i ∙ same-fault e) (forbidden (record { fields = h; is = q; here = s }) (make k w) spelled (t ∙ ap refuse i))
              refused-so (inr i) = by 25 n (sym i ∙ same-fault e) (unmarked (record { fields = h; is = q; here = s }) (make k w) spelled (t ∙ ap refuse i))

      in-kind : (k : Kind) → kind_at A X p f ≡ some k → (x : Option ℕ) → stands A p k ≡ x
          → standing A X x (check (eqb (length (args A X (keyword k) f fs)) (length (sorts k))) 7 (valued A X p k (read_all (sorts k) (args A X (keyword k) f fs)))) ≡ fault n → Fault A X Line-of p a l n
      in-kind k q (some m) s e = five (five-or-six p k m s)
        where
          five : (m ≡ 5) ⊎ (m ≡ 6) → Fault A X Line-of p a l n
          five (inl r) = by 5 n (sym r ∙ same-fault e) (misplaced h q (s ∙ ap some r))
          five (inr r) = by 6 n (sym r ∙ same-fault e) (given_again h q (s ∙ ap some r))
      in-kind k q none s e = go (failed (eqb (length (args A X (keyword k) f fs)) (length (sorts k))) 7 n _ e)
        where
          go : ((eqb (length (args A X (keyword k) f fs)) (length (sorts k)) ≡ false) × (7 ≡ n)) ⊎ ((eqb (length (args A X (keyword k) f fs)) (length (sorts k)) ≡ true) × (valued A X p k (read_all (sorts k) (args A X (keyword k) f fs)) ≡ fault n)) → Fault A X Line-of p a l n
          go (inl x) = by 7 n x.1 (miscounted (record { fields = h; is = q; here = s }) (eqb-false _ _ x.0))
          go (inr x) = in-value k q s (eqb-true _ _ x.0) (read_all (sorts k) (args A X (keyword k) f fs)) refl x.1

      in-fields : (x : Option Kind) → kind_at A X p f ≡ x → known A X p x f fs ≡ fault n → Fault A X Line-of p a l n
      in-fields none q e = by 5 n (same-fault e) (unknown h q)
      in-fields (some k) q e = in-kind k q (stands A p k) refl e

    -- what is judged faulty has that fault
    pub fault-right : (n : ℕ) → judge A X p a l ≡ fault n → Fault A X Line-of p a l n
    unfolding judge tell
    fault-right n e = go (form_of (drop_cr l)) refl e
      where
        fielded : (fs : List Field) → Content a (drop_cr l) fs → told A X p fs ≡ fault n → Fault A X Line-of p a l n
        fielded [] h e = not_good e
        fielded (f ∷ fs) h e = in-fields n f fs (record { content = drop_cr l; ended = ended l; fields = h }) (kind_at A X p f) refl e

        go : (r : Result ℕ ℕ) → form_of (drop_cr l) ≡ r → formed A X p a (drop_cr l) r ≡ fault n → Fault A X Line-of p a l n
        go (Err m) r e = by m n (same-fault e) (form (ended l) (form-fault (drop_cr l) m r))
        go (Ok b) r e = fielded (fields_at a (take b (drop_cr l))) (body-content (drop_cr l) b r a) e

    -- a line with fields gets what is told of them
    passes : {f : Field} {fs : List Field} → Fielded a l f fs → judge A X p a l ≡ known A X p (kind_at A X p f) f fs
    unfolding judge tell
    passes h = ap (λ (c : Bytes). formed A X p a c (form_of c)) (ended_is h.ended) ∙ ap (formed A X p a h.content) (content-form h.content h.fields) ∙ ap (told A X p) (content-body h.content h.fields (length h.fields.outer) (content-form h.content h.fields))

    -- a line that spells a statement of a kind that may stand gets what the place says of it
    valued-so : (k : Kind) (v : Pay k) (f : Field) (fs : List Field) (n : ℕ) → MayStand A X Line-of p a l k f fs → SpellFields (f ∷ fs) (Line-of k v) → step A p (say L k v) ≡ refuse n → judge A X p a l ≡ fault n
    valued-so k v f fs n h s e =
        let x = all-only (sorts k) (args A X (keyword k) f fs) (W.parts k v) (args-spelled A X Line-of W p f fs k h.is (W.parts k v) (subst (SpellFields (f ∷ fs)) (line-is A X Line-of W k v) s)) in
        passes h.fields ∙ rw (h.is, h.here, eq-eqb (length (args A X (keyword k) f fs)) (length (sorts k)) x.1, x.0, W.made k v, e)

    misread : (ss : List _) (fs : List Field) → ((w : Vals ss) → SpellFields fs (said ss w) → ⊥) → read_all ss fs ≡ none
    misread ss fs n = go (read_all ss fs) refl
      where
        go : (x : Option (Vals ss)) → read_all ss fs ≡ x → x ≡ none
        go none e = refl
        go (some w) e = absurd (n w (all_right ss fs w e))

    -- and a line that has a fault is judged so: no line has two
    pub fault-only : (n : ℕ) → Fault A X Line-of p a l n → judge A X p a l ≡ fault n
    unfolding judge
    fault-only n (form {content = c} e f) = ap (λ (c : Bytes). formed A X p a c (form_of c)) (ended_is e) ∙ ap (formed A X p a c) (fault-form c f)
    fault-only n (unknown h e) = passes h ∙ rw e
    fault-only n (misplaced {k = k} h e s) = passes h ∙ rw (e, s)
    fault-only n (given_again {k = k} h e s) = passes h ∙ rw (e, s)
    fault-only n (miscounted {f = f} {fs = fs} {k = k} h c) = passes h.fields ∙ rw (h.is, h.here, ne_eqb (length (args A X (keyword k) f fs)) (length (sorts k)) c)
    fault-only n (misspelt {f = f} {fs = fs} {k = k} h c m) = passes h.fields ∙ rw (
      h.is,
      h.here,
      eq-eqb (length (args A X (keyword k) f fs)) (length (sorts k)) c,
      misread (sorts k) (args A X (keyword k) f fs) (λ w s. m (make k w) (spelled-args A X Line-of W p f fs k h.is w s)),
    )
    fault-only n (forbidden {f = f} {fs = fs} {k = k} h v s e) = valued-so k v f fs 9 h s e
    fault-only n (unmarked {f = f} {fs = fs} {k = k} h v s e) = valued-so k v f fs 25 h s e
