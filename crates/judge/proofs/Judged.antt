-- A program that tells kinds, fields, statements and places of a file as its machine does judges every line as `text` does. For every file. Assumes nothing.
use Rattle.std.specs.Prelude.{Ok, Err, Result}
use mathlib.Core.Path.{◌≡◌, refl, sym, ap, ap₂, subst, ◌∙◌}
use mathlib.Core.List.{List, [], ◌∷◌}
use mathlib.Core.Option.{Option, none, some}
use mathlib.Core.Bool.{Bool, true, false}
use mathlib.Core.Logic.{◌⊎◌, inl, inr}
use Prim.Native.Nat.compare
use Prim.Native.Nat.{ℕ, zero, suc, ◌+◌, ◌≤◌, ◌<◌}
use native.Mathlib.Omega.{arith}
use lib.ListN.{length, take}
use lib.Dec.{eqb, ltb}
use borrow.Author.Tests.{ne_eqb, eqb-true}
use Rattle.terms.specs.Ascii.{Bytes}
use Rattle.terms.specs.Words.{pick}
use Rattle.line.specs.Content.{Field}
use Rattle.line.specs.Lines.{drop_cr, trim_of}
use Rattle.line.specs.Forms.{form_of, fields_at, fields_in_of, field_in, listed, part}
use Rattle.line.specs.declared.Fields.{Fields}
use Rattle.line.proofs.Spans.{fields-listed, count-le, count_exact, count-more}
use Rattle.line.proofs.Ends.{trim-take}
use Rattle.grammar.specs.Language.{Lang, S, say}
use Rattle.grammar.specs.Machine.{Out, next, refuse, Machine, over, inside, Place, step}
use Rattle.grammar.specs.Stands.{as_due, of_row_of, stands}
use Rattle.grammar.specs.Stands as Stands
use Rattle.grammar.proofs.StandLaws.{number_of}
use Rattle.grammar.proofs.Follows.{map_out}
use Rattle.text.specs.Judge.{Vals, read_all, Verdict, fault, good, check, Lexis, kind_at, args, standing, tell, judge}
use Rattle.text.specs.Judge as T
use Rattle.made_out.specs.Names.{behind, told_as}
use Rattle.judge.specs.Judging.{Got, bad, blank, said, Judging, taken, valued, of_kind, known, told, formed, content, line}

-- ## Counts
pub same_count : (base : ℕ) (s : Bytes) (n : ℕ) → n ≤ 3 → eqb (fields_in_of s).count n ≡ eqb (length (fields_at base s)) n
same_count base s n h = go (fields_in_of s).count refl (count-le s)
  where
    go : (c : ℕ) → (fields_in_of s).count ≡ c → c ≤ 4 → eqb c n ≡ eqb (length (fields_at base s)) n
    go zero e l = ap (λ (x : ℕ). eqb x n) (sym (count_exact base s (rw e (omega arith)) ∙ e))
    go (suc zero) e l = ap (λ (x : ℕ). eqb x n) (sym (count_exact base s (rw e (omega arith)) ∙ e))
    go (suc (suc zero)) e l = ap (λ (x : ℕ). eqb x n) (sym (count_exact base s (rw e (omega arith)) ∙ e))
    go (suc (suc (suc zero))) e l = ap (λ (x : ℕ). eqb x n) (sym (count_exact base s (rw e (omega arith)) ∙ e))
    go (suc (suc (suc (suc zero)))) e l =
        let m = count-more base s e in
        ne_eqb 4 n (λ q. omega arith) ∙ sym (ne_eqb (length (fields_at base s)) n (λ q. omega arith))
    go (suc (suc (suc (suc (suc c))))) e l = absurd (omega arith)

pub some_field : (base : ℕ) (s : Bytes) (f : Fields) (c : ℕ) → (gs : List Field) × (listed base s f (suc c) ≡ field_in base s f.a ∷ gs)
some_field base s f zero = ([], refl)
some_field base s f (suc zero) = (_, refl)
some_field base s f (suc (suc zero)) = (_, refl)
some_field base s f (suc (suc (suc c))) = (_, refl)

-- with its keyword
abbrev pub keyed : Option Bytes → ℕ → ℕ
keyed (some word) n = suc n
keyed none n = n

abbrev or_else : {A : Type 0} → A → Option A → A
or_else a none = a
or_else a (some b) = b

is_some : {A : Type 0} → Option A → Bool
is_some none = false
is_some (some a) = true

clash : {A : Type 0} {a : A} → some a ≡ none → ⊥
unfolding is_some
clash {A} {a} e = let q : true ≡ false = ap is_some e in let z : ◌≡◌ {A = ℕ} 1 0 = ap (λ (b : Bool). pick b 1 0) q in omega arith

-- ## What is to be known of a program
module _ {L : Lang} (A : Machine L) (X : Lexis L) (J : Judging) where
  open L use {Kind}
  open X use {keyword, sorts, make}
  open J use {St, Pl, kinds, kind_of, cell, refuses, needs, made, steps}

  -- the kind of a first field is told as `text` tells it; where there is none, none or one that may not stand
  abbrev pub OfKind : (Kind → ℕ) → Pl → ℕ → Option Kind → Type 0
  OfKind row p i none = (ltb i kinds ≡ false) ⊎ ((ltb i kinds ≡ true) × (refuses p (cell p i) ≡ 5))
  OfKind row p i (some k) = i ≡ row k

  pub record Ties : Type 1 where
    -- what statements mean; places of the machine
    pub Mean : Type 0
    pub meant : St → Mean
    pub moved : S L → Mean
    pub abs : Pl → Place A
    pub Sound : Pl → Type 0
    pub row : Kind → ℕ
    pub row_in : (k : Kind) → ltb (row k) kinds ≡ true
    pub kind-is : (p : Pl) → Sound p → (f : Field) → OfKind row p (kind_of p f.bytes) (kind_at A X (abs p) f)
    pub refuses-is : (p : Pl) → Sound p → (k : Kind) → refuses p (cell p (row k)) ≡ number_of (stands A (abs p) k)
    pub needs-is : (k : Kind) → needs (row k) ≡ keyed (keyword k) (length (sorts k))
    pub needs-few : (k : Kind) → needs (row k) ≤ 3
    pub made-is : (k : Kind) (base : ℕ) (s : Bytes) (f : Fields)
        → told_as meant (made s base f (row k)) ≡ told_as (λ v. moved (say L k (make k v))) (read_all (sorts k) (behind (keyword k) (listed base s f (needs (row k)))))
    pub step_is : (p : Pl) → Sound p → (s : St) (t : S L) → meant s ≡ moved t → map_out abs (steps p (cell p (row t.kind)) s) ≡ step A (abs p) t
    pub stays : (p : Pl) → Sound p → (s : St) (t : S L) → meant s ≡ moved t → (q : Pl) → steps p (cell p (row t.kind)) s ≡ next q → Sound q

  module _ (C : Ties) where
    open C use {Mean, meant, moved, abs, Sound, row, row_in, kind-is, refuses-is, needs-is, needs-few, made-is, step_is, stays}

    -- what the program says, by its meaning; what `text` says, names by their places
    abbrev pub view : Pl → Got St Pl → Verdict Mean (Place A)
    view p (bad n) = fault n
    view p blank = good none (abs p)
    view p (said s q) = good (some (meant s)) (abs q)

    abbrev pub renamed : Verdict (S L) (Place A) → Verdict Mean (Place A)
    renamed (fault n) = fault n
    renamed (good o q) = good (told_as moved o) q

    -- ## 9
    taken_is : (p : Pl) (s : St) (t : S L) → meant s ≡ moved t → (o : Out Pl) → view p (taken J s o) ≡ renamed (T.taken A X t (map_out abs o))
    taken_is p s t m (next q) = ap (λ (x : Mean). good (some x) (abs q)) m
    taken_is p s t m (refuse n) = refl

    -- ## 8
    valued-is : (p : Pl) → Sound p → (k : Kind) (o : Option St) (v : Option (Vals (sorts k))) → told_as meant o ≡ told_as (λ v. moved (say L k (make k v))) v → view p (valued J p (cell p (row k)) o) ≡ renamed (T.valued A X (abs p) k v)
    valued-is p i k none none e = refl
    valued-is p i k (some s) (some v) e =
        let t = say L k (make k v) in
        let m : meant s ≡ moved t = ap (or_else (meant s)) e in
        taken_is p s t m (steps p (cell p (row k)) s) ∙ ap (λ (o : Out (Place A)). renamed (T.taken A X t o)) (step_is p i s t m)
    valued-is p i k none (some v) e = absurd (clash (sym e))
    valued-is p i k (some s) none e = absurd (clash e)

    -- ## 5, 6 and 7
    pub not-zero : (q : Place A) (k : Kind) (n : ℕ) → stands A q k ≡ some n → eqb n 0 ≡ false
    unfolding stands
    not-zero over k n e = let z : 5 ≡ n = ap (or_else 0) e in rw (sym z)
    not-zero (inside b g) k n e = row-case (Stands.given L (A.opts b) g k) e
      where
        due-case : (d : Dec (k ≡ (A.due b).on)) → as_due d ≡ some n → eqb n 0 ≡ false
        due-case (yes q) e = absurd (clash (sym e))
        due-case (no q) e = let z : 5 ≡ n = ap (or_else 0) e in rw (sym z)

        row-case : (x : Option Bool) → of_row_of x (as_due (L.disc k (A.due b).on)) ≡ some n → eqb n 0 ≡ false
        row-case none e = due-case (L.disc k (A.due b).on) e
        row-case (some true) e = let z : 6 ≡ n = ap (or_else 0) e in rw (sym z)
        row-case (some false) e = absurd (clash (sym e))

    pub as-behind : (w : Option Bytes) (g : Field) (gs : List Field) → args A X w g gs ≡ behind w (g ∷ gs)
    as-behind none g gs = refl
    as-behind (some w) g gs = refl

    pub args_count : (w : Option Bytes) (g : Field) (gs : List Field) (n : ℕ) → eqb (length (args A X w g gs)) n ≡ eqb (length (g ∷ gs)) (keyed w n)
    args_count none g gs n = refl
    args_count (some w) g gs n = rw (compare.suc-suc (length gs) n)

    counted : (p : Pl) → Sound p → (base : ℕ) (s : Bytes) (g : Field) (gs : List Field) → fields_at base s ≡ g ∷ gs → (k : Kind)
        → view p (pick (eqb (fields_in_of s).count (needs (row k))) (valued J p (cell p (row k)) (made s base (fields_in_of s) (row k))) (bad 7))
        ≡ renamed (check (eqb (length (args A X (keyword k) g gs)) (length (sorts k))) 7 (T.valued A X (abs p) k (read_all (sorts k) (args A X (keyword k) g gs))))
    counted p i base s g gs e k = go (eqb (fields_in_of s).count (needs (row k))) refl
      where
        alike : eqb (length (args A X (keyword k) g gs)) (length (sorts k)) ≡ eqb (fields_in_of s).count (needs (row k))
        alike = args_count (keyword k) g gs (length (sorts k)) ∙ ap₂ (λ (x : List Field) (y : ℕ). eqb (length x) y) (sym e) (sym (needs-is k)) ∙ sym (same_count base s (needs (row k)) (needs-few k))

        go : (b : Bool) → eqb (fields_in_of s).count (needs (row k)) ≡ b → view p (pick b (valued J p (cell p (row k)) (made s base (fields_in_of s) (row k))) (bad 7))
            ≡ renamed (check (eqb (length (args A X (keyword k) g gs)) (length (sorts k))) 7 (T.valued A X (abs p) k (read_all (sorts k) (args A X (keyword k) g gs))))
        go true c =
            let n : (fields_in_of s).count ≡ needs (row k) = eqb-true (fields_in_of s).count (needs (row k)) c in
            let fs : listed base s (fields_in_of s) (needs (row k)) ≡ g ∷ gs = ap (listed base s (fields_in_of s)) (sym n) ∙ sym (fields-listed base s) ∙ e in
            rw (alike ∙ c) (valued-is p i k (made s base (fields_in_of s) (row k)) (read_all (sorts k) (args A X (keyword k) g gs))
            (made-is k base s (fields_in_of s) ∙ ap (λ (l : List Field). told_as (λ v. moved (say L k (make k v))) (read_all (sorts k) l)) (ap (behind (keyword k)) fs ∙ sym (as-behind (keyword k) g gs))))
        go false c = rw (alike ∙ c)

    of_kind_of : (p : Pl) → Sound p → (base : ℕ) (s : Bytes) (g : Field) (gs : List Field) → fields_at base s ≡ g ∷ gs → (k : Kind)
        → view p (of_kind J s base (fields_in_of s) p (row k)) ≡ renamed (T.of_kind A X (abs p) k (args A X (keyword k) g gs))
    unfolding of_kind
    of_kind_of p i base s g gs e k = rw (refuses-is p i k) (go (stands A (abs p) k) refl)
      where
        go : (o : Option ℕ) → stands A (abs p) k ≡ o → view p (pick (eqb (number_of o) 0) (pick (eqb (fields_in_of s).count (needs (row k))) (valued J p (cell p (row k)) (made s base (fields_in_of s) (row k))) (bad 7)) (bad (number_of o)))
            ≡ renamed (standing A X o (check (eqb (length (args A X (keyword k) g gs)) (length (sorts k))) 7 (T.valued A X (abs p) k (read_all (sorts k) (args A X (keyword k) g gs)))))
        go none q = counted p i base s g gs e k
        go (some n) q = rw (not-zero (abs p) k n q)

    -- ## 5 for what has no kind here
    known_is : (p : Pl) → Sound p → (base : ℕ) (s : Bytes) (g : Field) (gs : List Field) → fields_at base s ≡ g ∷ gs → (n : ℕ) (o : Option Kind) → OfKind row p n o
        → view p (known J s base (fields_in_of s) p n) ≡ renamed (T.known A X (abs p) o g gs)
    unfolding known of_kind
    known_is p i base s g gs e n none (inl h) = rw h
    known_is p i base s g gs e n none (inr (h, r)) = rw (h, r)
    known_is p i base s g gs e n (some k) h = rw (h, row_in k) (of_kind_of p i base s g gs e k)

    told_is : (p : Pl) → Sound p → (base : ℕ) (s : Bytes) → view p (told J s base p) ≡ renamed (T.told A X (abs p) (fields_at base s))
    unfolding told tell
    told_is p i base s = go (fields_in_of s).count refl
      where
        go : (c : ℕ) → (fields_in_of s).count ≡ c → view p (pick (eqb c 0) blank (known J s base (fields_in_of s) p (kind_of p (part s (fields_in_of s).a)))) ≡ renamed (T.told A X (abs p) (fields_at base s))
        go zero q = rw (fields-listed base s, q)
        go (suc c) q =
            let (gs, l) = some_field base s (fields_in_of s) c in
            let e : fields_at base s ≡ field_in base s (fields_in_of s).a ∷ gs = fields-listed base s ∙ ap (listed base s (fields_in_of s)) q ∙ l in
            rw (ne_eqb (suc c) 0 (λ q. omega arith), e) (known_is p i base s (field_in base s (fields_in_of s).a) gs e (kind_of p (part s (fields_in_of s).a)) (kind_at A X (abs p) (field_in base s (fields_in_of s).a)) (kind-is p i (field_in base s (fields_in_of s).a)))

    formed-is : (p : Pl) → Sound p → (base : ℕ) (s : Bytes) (f : Result ℕ ℕ) → view p (formed J s base p f) ≡ renamed (T.formed A X (abs p) base s f)
    formed-is p i base s (Err n) = refl
    formed-is p i base s (Ok e) = told_is p i base (take e s)

    -- THE LINE: what the program says of it is what `text` says of it
    pub line-is : (p : Pl) → Sound p → (base : ℕ) (s : Bytes) → view p (line J s base p) ≡ renamed (judge A X (abs p) base s)
    unfolding line content judge
    line-is p i base s = rw (trim-take s) (formed-is p i base (drop_cr s) (form_of (drop_cr s)))

    -- ## Places stay sound
    abbrev pub SoundGot : Got St Pl → Type 0
    SoundGot (bad n) = Unit {0}
    SoundGot blank = Unit {0}
    SoundGot (said s q) = Sound q

    pick-sound : (b : Bool) (x y : Got St Pl) → SoundGot x → SoundGot y → SoundGot (pick b x y)
    pick-sound true x y h k = h
    pick-sound false x y h k = k

    valued-sound : (p : Pl) → Sound p → (k : Kind) (o : Option St) (v : Option (Vals (sorts k))) → told_as meant o ≡ told_as (λ v. moved (say L k (make k v))) v → SoundGot (valued J p (cell p (row k)) o)
    valued-sound p i k none v e = tt
    valued-sound p i k (some s) none e = absurd (clash e)
    valued-sound p i k (some s) (some v) e = go (steps p (cell p (row k)) s) refl
      where
        go : (o : Out Pl) → steps p (cell p (row k)) s ≡ o → SoundGot (taken J s o)
        go (next q) t = stays p i s (say L k (make k v)) (ap (or_else (meant s)) e) q t
        go (refuse n) t = tt

    known-sound : (p : Pl) → Sound p → (base : ℕ) (s : Bytes) (n : ℕ) (o : Option Kind) → OfKind row p n o → SoundGot (known J s base (fields_in_of s) p n)
    unfolding known of_kind
    known-sound p i base s n none (inl h) = rw h tt
    known-sound p i base s n none (inr (h, r)) = rw (h, r) tt
    known-sound p i base s n (some k) h =
        let v = valued J p (cell p (row k)) (made s base (fields_in_of s) (row k)) in
        let c = pick (eqb (fields_in_of s).count (needs (row k))) v (bad 7) in
        rw (h, row_in k)
        (pick-sound (eqb (refuses p (cell p (row k))) 0) c (bad (refuses p (cell p (row k))))
        (pick-sound (eqb (fields_in_of s).count (needs (row k))) v (bad 7) (valued-sound p i k (made s base (fields_in_of s) (row k)) (read_all (sorts k) (behind (keyword k) (listed base s (fields_in_of s) (needs (row k))))) (made-is k base s (fields_in_of s))) tt) tt)

    told-sound : (p : Pl) → Sound p → (base : ℕ) (s : Bytes) → SoundGot (told J s base p)
    unfolding told
    told-sound p i base s =
        let f = field_in base s (fields_in_of s).a in
        let k = kind_of p f.bytes in
        pick-sound (eqb (fields_in_of s).count 0) blank (known J s base (fields_in_of s) p k) tt (known-sound p i base s k (kind_at A X (abs p) f) (kind-is p i f))

    pub line-sound : (p : Pl) → Sound p → (base : ℕ) (s : Bytes) → SoundGot (line J s base p)
    unfolding line content
    line-sound p i base s = go (form_of (take (trim_of s) s))
      where
        go : (f : Result ℕ ℕ) → SoundGot (formed J (take (trim_of s) s) base p f)
        go (Err n) = tt
        go (Ok e) = told-sound p i base (take e (take (trim_of s) s))
