-- The column that a program finds is the one that is found over the machine's places. For every file. Assumes nothing.
use mathlib.Core.Path.{◌≡◌, refl, sym, ap, ap₂, subst, ◌∙◌}
use mathlib.Core.List.{List, [], ◌∷◌}
use mathlib.Core.Option.{Option, none, some}
use mathlib.Core.Bool.{Bool, true, false, ◌||◌}
use mathlib.Core.Logic.{◌⊎◌, inl, inr}
use Prim.Native.Nat.{ℕ, zero, suc, ◌+◌, ◌≤◌, ◌<◌}
use native.Mathlib.Omega.{arith}
use borrow.Author.Tests.{ne_eqb, eqb-true}
use lib.ListN.{length, take}
use lib.Dec.{eqb, ltb}
use Rattle.terms.specs.Ascii.{Bytes}
use Rattle.terms.specs.Words.{pick}
use Rattle.scan.specs.Reach.{up_to}
use Rattle.line.specs.Content.{Field}
use Rattle.line.specs.Lines.{drop_cr, trim_of}
use Rattle.line.specs.Forms.{opens, outer_of, fields_at, fields_in_of, field_in, listed, part}
use Rattle.line.specs.declared.Fields.{Fields}
use Rattle.line.proofs.Spans.{fields-listed, count-le}
use Rattle.line.proofs.Ends.{trim-take}
use Rattle.line.proofs.Comments.{outer-at}
use Rattle.grammar.specs.Language.{Lang, S, say}
use Rattle.grammar.specs.Machine.{Out, next, refuse, Machine, Place, step}
use Rattle.grammar.specs.Stands.{stands}
use Rattle.grammar.proofs.StandLaws.{number_of}
use Rattle.grammar.proofs.Follows.{map_out}
use Rattle.text.specs.Judge.{Vals, Verdict, fault, good, Lexis, kind_at, args, judge}
use Rattle.made_out.specs.Names.{behind}
use Rattle.judge.specs.Judging.{Got, bad, blank, said, Judging, line}
use Rattle.judge.proofs.Judged.{same_count, some_field, keyed, OfKind, Ties, as-behind, args_count, not-zero, view, renamed, line-is, SoundGot, line-sound}
use Rattle.law_columns.specs.Finding.{bad_at_of, taken?, listed_at, start_of, behind_word, wrong_at, tests, unless_refused, column_of, column_from}
use Rattle.law_columns.specs.Finding as Finding
use Rattle.columns.specs.Locating.{span_start, kind_field_of, known_field_of, field_of, fields_column_of, content_column_of, line_column_of, line_columns}
use Rattle.columns.specs.Locating as Locating

-- a place takes what stands for it
pub taken_mapped : {P Q : Type 0} (f : P → Q) (o : Out P) → taken? (map_out f o) ≡ taken? o
taken_mapped f (next q) = refl
taken_mapped f (refuse n) = refl

-- ## Where a field starts
nothing-added : (n : ℕ) → 0 + n ≡ n
nothing-added n = omega arith

start_in : (s : Bytes) (f : Fields) (c i : ℕ) → c ≤ 4 → i ≤ 2 → pick (ltb i c) (pick (eqb i 0) f.a.start (pick (eqb i 1) f.b.start f.c.start)) 0 ≡ start_of i (listed 0 s f c)
start_in s f zero zero h k = refl
start_in s f zero (suc zero) h k = refl
start_in s f zero (suc (suc zero)) h k = refl
start_in s f zero (suc (suc (suc i))) h k = absurd (omega arith)
start_in s f (suc zero) zero h k = sym (nothing-added f.a.start)
start_in s f (suc zero) (suc zero) h k = refl
start_in s f (suc zero) (suc (suc zero)) h k = refl
start_in s f (suc zero) (suc (suc (suc i))) h k = absurd (omega arith)
start_in s f (suc (suc zero)) zero h k = sym (nothing-added f.a.start)
start_in s f (suc (suc zero)) (suc zero) h k = sym (nothing-added f.b.start)
start_in s f (suc (suc zero)) (suc (suc zero)) h k = refl
start_in s f (suc (suc zero)) (suc (suc (suc i))) h k = absurd (omega arith)
start_in s f (suc (suc (suc zero))) zero h k = sym (nothing-added f.a.start)
start_in s f (suc (suc (suc zero))) (suc zero) h k = sym (nothing-added f.b.start)
start_in s f (suc (suc (suc zero))) (suc (suc zero)) h k = sym (nothing-added f.c.start)
start_in s f (suc (suc (suc zero))) (suc (suc (suc i))) h k = absurd (omega arith)
start_in s f (suc (suc (suc (suc zero)))) zero h k = sym (nothing-added f.a.start)
start_in s f (suc (suc (suc (suc zero)))) (suc zero) h k = sym (nothing-added f.b.start)
start_in s f (suc (suc (suc (suc zero)))) (suc (suc zero)) h k = sym (nothing-added f.c.start)
start_in s f (suc (suc (suc (suc zero)))) (suc (suc (suc i))) h k = absurd (omega arith)
start_in s f (suc (suc (suc (suc (suc c))))) i h k = absurd (omega arith)

starts : (s : Bytes) (i : ℕ) → i ≤ 2 → span_start (fields_in_of s) i ≡ start_of i (fields_at 0 s)
unfolding span_start
starts s i h = start_in s (fields_in_of s) (fields_in_of s).count i (count-le s) h ∙ ap (start_of i) (sym (fields-listed 0 s))

pub pick-few : (b : Bool) (m n : ℕ) → m ≤ 2 → n ≤ 2 → pick b m n ≤ 2
pick-few true m n h k = h
pick-few false m n h k = k

module _ {L : Lang} (A : Machine L) (X : Lexis L) (J : Judging) (C : Ties A X J) (low : (k : L.Kind) → Vals (X.sorts k)) (wrong : J.Pl → (n : ℕ) → Bytes → Fields → (kind : ℕ) → ℕ) where
  open L use {Kind}
  open X use {keyword, sorts}
  open J use {St, Pl, kinds, kind_of, cell, refuses, needs}
  open C use {abs, Sound, row, row_in, kind-is, refuses-is, needs-is, needs-few}

  -- what is to be known of the program's part: it finds what is found of the same fields, among the first three
  pub record Locates : Type 0 where
    pub wrong-is : (p : Pl) → Sound p → (k : Kind) (n : ℕ) (s : Bytes) (f : Fields) → refuses p (cell p (row k)) ≡ 0 → wrong p n s f (row k) ≡ behind_word (keyword k) (wrong_at (sorts k) (tests A X low (abs p) k n) (low k) (behind (keyword k) (listed 0 s f (needs (row k)))))
    pub wrong-few : (p : Pl) (n : ℕ) (s : Bytes) (f : Fields) (k : ℕ) → wrong p n s f k ≤ 2

  module _ (H : Locates) where
    open H use {wrong-is, wrong-few}

    few : (s : Bytes) (f : Fields) (p : Pl) (n : ℕ) → field_of J wrong s f p n ≤ 2
    unfolding field_of known_field_of kind_field_of
    few s f p n =
        let k = kind_of p (part s f.a) in
        pick-few (eqb n 8 || eqb n 9) _ (listed_at n) (pick-few (ltb k kinds) _ 0 (pick-few (eqb (refuses p (cell p k)) 0) _ 0 (pick-few (eqb f.count (needs k)) _ 0 (wrong-few p n s f k) (omega arith)) (omega arith)) (omega arith)) (pick-few (eqb n 12 || eqb n 13) 2 _ (omega arith) (pick-few (eqb n 14) 1 0 (omega arith) (omega arith)))

    -- ## The field
    counted : (p : Pl) → Sound p → (n : ℕ) (s : Bytes) (g : Field) (gs : List Field) → fields_at 0 s ≡ g ∷ gs → (k : Kind) → refuses p (cell p (row k)) ≡ 0
        → pick (eqb (fields_in_of s).count (needs (row k))) (wrong p n s (fields_in_of s) (row k)) 0
        ≡ pick (eqb (length (args A X (keyword k) g gs)) (length (sorts k))) (behind_word (keyword k) (wrong_at (sorts k) (tests A X low (abs p) k n) (low k) (args A X (keyword k) g gs))) 0
    counted p i n s g gs e k h = go (eqb (fields_in_of s).count (needs (row k))) refl
      where
        alike : eqb (length (args A X (keyword k) g gs)) (length (sorts k)) ≡ eqb (fields_in_of s).count (needs (row k))
        alike = args_count A X J C (keyword k) g gs (length (sorts k)) ∙ ap₂ (λ (x : List Field) (y : ℕ). eqb (length x) y) (sym e) (sym (needs-is k)) ∙ sym (same_count 0 s (needs (row k)) (needs-few k))

        go : (b : Bool) → eqb (fields_in_of s).count (needs (row k)) ≡ b → pick b (wrong p n s (fields_in_of s) (row k)) 0
            ≡ pick (eqb (length (args A X (keyword k) g gs)) (length (sorts k))) (behind_word (keyword k) (wrong_at (sorts k) (tests A X low (abs p) k n) (low k) (args A X (keyword k) g gs))) 0
        go true c =
            let m : (fields_in_of s).count ≡ needs (row k) = eqb-true (fields_in_of s).count (needs (row k)) c in
            let fs : listed 0 s (fields_in_of s) (needs (row k)) ≡ g ∷ gs = ap (listed 0 s (fields_in_of s)) (sym m) ∙ sym (fields-listed 0 s) ∙ e in
            rw (alike ∙ c) (wrong-is p i k n s (fields_in_of s) h ∙ ap (λ (l : List Field). behind_word (keyword k) (wrong_at (sorts k) (tests A X low (abs p) k n) (low k) l)) (ap (behind (keyword k)) fs ∙ sym (as-behind A X J C (keyword k) g gs)))
        go false c = rw (alike ∙ c)

    kind-field : (p : Pl) → Sound p → (n : ℕ) (s : Bytes) (g : Field) (gs : List Field) → fields_at 0 s ≡ g ∷ gs → (i : ℕ) (o : Option Kind) → OfKind A X J row p i o → known_field_of J wrong s (fields_in_of s) p n i ≡ Finding.kind_field_of A X low (abs p) n o g gs
    unfolding known_field_of kind_field_of
    kind-field p i n s g gs e m none (inl h) = rw h
    kind-field p i n s g gs e m none (inr (h, r)) = rw (h, r)
    kind-field p i n s g gs e m (some k) h = rw (h, row_in k, refuses-is p i k) (go (stands A (abs p) k) refl)
      where
        go : (o : Option ℕ) → stands A (abs p) k ≡ o → pick (eqb (number_of o) 0) (pick (eqb (fields_in_of s).count (needs (row k))) (wrong p n s (fields_in_of s) (row k)) 0) 0
            ≡ unless_refused A X low o (pick (eqb (length (args A X (keyword k) g gs)) (length (sorts k))) (behind_word (keyword k) (wrong_at (sorts k) (tests A X low (abs p) k n) (low k) (args A X (keyword k) g gs))) 0)
        go none q = counted p i n s g gs e k (refuses-is p i k ∙ ap number_of q)
        go (some c) q = rw (not-zero A X J C (abs p) k c q)

    pub field_is : (p : Pl) → Sound p → (n : ℕ) (s : Bytes) (gs : List Field) → fields_at 0 s ≡ field_in 0 s (fields_in_of s).a ∷ gs → field_of J wrong s (fields_in_of s) p n ≡ Finding.field_at A X low (abs p) n (field_in 0 s (fields_in_of s).a) gs
    unfolding field_of Finding.field_at
    field_is p i n s gs e =
        let f = field_in 0 s (fields_in_of s).a in
        ap (λ (x : ℕ). pick (eqb n 8 || eqb n 9) x (listed_at n)) (kind-field p i n s f gs e (kind_of p f.bytes) (kind_at A X (abs p) f) (kind-is p i f))

    -- ## The column of a line
    fields-column : (p : Pl) → Sound p → (n : ℕ) (s : Bytes) → fields_column_of J wrong s p n ≡ Finding.fields_column_of A X low (abs p) n (fields_at 0 s)
    unfolding fields_column_of
    fields-column p i n s = go (fields_in_of s).count refl
      where
        go : (c : ℕ) → (fields_in_of s).count ≡ c → pick (eqb c 0) 0 (suc (span_start (fields_in_of s) (field_of J wrong s (fields_in_of s) p n))) ≡ Finding.fields_column_of A X low (abs p) n (fields_at 0 s)
        go zero q = rw (fields-listed 0 s, q)
        go (suc c) q =
            let (gs, l) = some_field 0 s (fields_in_of s) c in
            let f = field_in 0 s (fields_in_of s).a in
            let e : fields_at 0 s ≡ f ∷ gs = fields-listed 0 s ∙ ap (listed 0 s (fields_in_of s)) q ∙ l in
            rw (ne_eqb (suc c) 0 (λ q. omega arith), e) (ap suc (starts s (field_of J wrong s (fields_in_of s) p n) (few s (fields_in_of s) p n) ∙ ap₂ start_of (field_is p i n s gs e) e))

    pub line-column : (p : Pl) → Sound p → (n : ℕ) (l : Bytes) → line_column_of J wrong l p n ≡ column_of A X low (abs p) n l
    unfolding line_column_of content_column_of column_of
    line-column p i n l = rw (trim-take l, outer-at (drop_cr l), fields-column p i n (take (up_to opens (drop_cr l)) (drop_cr l)))

    -- ## The column of a text
    pub lines-column : (ls : List Bytes) (p : Pl) → Sound p → (start j i n : ℕ) → line_columns J wrong p start j i n ls ≡ column_from A X low (abs p) start j i n ls
    unfolding line_columns column_from
    lines-column [] p h start j i n = refl
    lines-column (l ∷ ls) p h start j i n =
        ap₂ (λ (x y : ℕ). pick (eqb j i) x y) (line-column p h n l)
        (go (line J l start p) (judge A X (abs p) start l) (line-is A X J C p h start l) (line-sound A X J C p h start l) (λ q y. lines-column ls q y (start + suc (length l)) (suc j) i n))
      where
        go : (g : Got St Pl) (v : Verdict (S L) (Place A)) → view A X J C p g ≡ renamed A X J C v → SoundGot A X J C g → ((q : Pl) → Sound q → line_columns J wrong q (start + suc (length l)) (suc j) i n ls ≡ column_from A X low (abs q) (start + suc (length l)) (suc j) i n ls)
            → Locating.onward J wrong p g (λ q. line_columns J wrong q (start + suc (length l)) (suc j) i n ls) ≡ Finding.onward A X low v (λ q. column_from A X low q (start + suc (length l)) (suc j) i n ls)
        go (bad c) (fault d) e y ih = refl
        go (bad c) (good o q) e y ih = absurd (let z : ◌≡◌ {A = ℕ} 0 1 = cc in omega arith)
        go blank (fault d) e y ih = absurd (let z : ◌≡◌ {A = ℕ} 0 1 = cc in omega arith)
        go blank (good o q) e y ih = let z : abs p ≡ q = cc in ih p h ∙ ap (λ (q : Place A). column_from A X low q (start + suc (length l)) (suc j) i n ls) z
        go (said s q) (fault d) e y ih = absurd (let z : ◌≡◌ {A = ℕ} 0 1 = cc in omega arith)
        go (said s q) (good o r) e y ih = let z : abs q ≡ r = cc in ih q y ∙ ap (λ (q : Place A). column_from A X low q (start + suc (length l)) (suc j) i n ls) z
