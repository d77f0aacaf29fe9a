-- The first field of a line: where the fields end, and what the judge says of a line, by the kind that its fields have. For every file. Assumes nothing.
use Rattle.std.specs.Prelude.{Ok, Err, Result}
use mathlib.Core.Path.{◌≡◌, refl, sym, subst}
use mathlib.Core.List.{[]}
use mathlib.Core.Option.{Option, none, some}
use mathlib.Core.Bool.{Bool, true, false}
use Prim.Native.Nat.{ℕ, ◌-◌, ◌≤◌}
use native.Mathlib.Omega.{arith}
use lib.ListN.{length, take}
use lib.Seq.{length-take-le, take-take}
use lib.Dec.{eqb, ltb, leb}
use borrow.Author.Tests.{eqb-true, ltb-false}
use Rattle.terms.specs.Ascii.{Bytes}
use Rattle.terms.specs.Words.{pick}
use Rattle.scan.specs.Reach.{up_to}
use Rattle.scan.proofs.Reach.{up_to_le}
use Rattle.line.specs.Lines.{trim_of}
use Rattle.line.specs.Forms.{opens, shut, clean, form_of, span_at_of, filled, count_of, fields_in_of, part}
use Rattle.line.specs.Content.{longest}
use Rattle.line.proofs.Ends.{trim_le}
use Rattle.grammar.specs.Machine.{Out, next, refuse}
use Rattle.judge.specs.Judging.{Got, bad, blank, said, Judging, taken, valued, of_kind, known, told, formed, content, line}
use Rattle.find_line.specs.FoundLines.{fields_end_of, first_of}

-- ## Where the fields end
module _ (l : Bytes) where
  in-content : fields_end_of l ≤ trim_of l
  unfolding fields_end_of
  in-content = omega (arith, up_to_le opens (take (trim_of l) l), length-take-le (trim_of l) l (trim_le l))

  pub fields-end_le : fields_end_of l ≤ length l
  fields-end_le = omega (arith, in-content, trim_le l)

  -- it is the same stretch of the content and of the line
  body_is : take (fields_end_of l) (take (trim_of l) l) ≡ take (fields_end_of l) l
  body_is = take-take (fields_end_of l) (trim_of l) l in-content

-- so says the form of a content
body-ends : (c : Bytes) (e : ℕ) → form_of c ≡ Ok e → up_to opens c ≡ e
unfolding form_of
body-ends c e h = go (leb (length c) longest) (shut c) (clean c) h
  where
    go : (x y z : Bool) → ◌≡◌ {A = Result ℕ ℕ} (pick x (pick y (pick z (Ok (up_to opens c)) (Err 4)) (Err 3)) (Err 2)) (Ok e) → up_to opens c ≡ e
    go true true true h = cc
    go true true false h = absurd (let z : ◌≡◌ {A = ℕ} 0 1 = cc in omega arith)
    go true false z h = absurd (let z : ◌≡◌ {A = ℕ} 0 1 = cc in omega arith)
    go false y z h = absurd (let z : ◌≡◌ {A = ℕ} 0 1 = cc in omega arith)

-- ## The first field, or none
pub first-is : (s : Bytes) → first_of s ≡ part s (fields_in_of s).a
unfolding first_of fields_in_of
first-is s = refl

some-count : (x y z : Bool) → ◌≡◌ {A = ℕ} (pick x (pick y (pick z 4 3) 2) 1) 0 → ⊥
some-count true true true e = omega arith
some-count true true false e = omega arith
some-count true false z e = omega arith
some-count false y z e = omega arith

pub no-first : (s : Bytes) → (fields_in_of s).count ≡ 0 → first_of s ≡ []
unfolding fields_in_of count_of first_of
no-first s e = go (filled (span_at_of s 0)) refl e
  where
    a : ℕ
    a = (span_at_of s 0).stop

    b : ℕ
    b = (span_at_of s a).stop

    go : (x : Bool) → filled (span_at_of s 0) ≡ x → ◌≡◌ {A = ℕ} (pick x (pick (filled (span_at_of s a)) (pick (filled (span_at_of s b)) (pick (filled (span_at_of s (span_at_of s b).stop)) 4 3) 2) 1) 0) 0 → part s (span_at_of s 0) ≡ []
    go true q e = absurd (some-count (filled (span_at_of s a)) (filled (span_at_of s b)) (filled (span_at_of s (span_at_of s b).stop)) e)
    go false q e =
        let h : a ≤ (span_at_of s 0).start = ltb-false (span_at_of s 0).start a q in
        let z : a - (span_at_of s 0).start ≡ 0 = omega arith in
        rw z refl

-- ## What is said of a line has the kind that its fields have
module _ (J : Judging) (kind-of : J.St → ℕ) where
  open J use {St, Pl, kinds, kind_of, cell, refuses, needs, made, steps}

  -- a statement of the kind n; of no kind where the line is blank
  abbrev pub HasKind : ℕ → Got St Pl → Type 0
  HasKind n (bad m) = Unit {0}
  HasKind n blank = n ≡ kinds
  HasKind n (said s q) = n ≡ kind-of s

  -- key: the kind of what stands before a comment
  module _ (key : Bytes → ℕ) (key-none : (s : Bytes) → (fields_in_of s).count ≡ 0 → key s ≡ kinds)
      (key-made : (s : Bytes) (base : ℕ) (p : Pl) (t : St) → ltb (kind_of p (part s (fields_in_of s).a)) kinds ≡ true → (fields_in_of s).count ≡ needs (kind_of p (part s (fields_in_of s).a))
      → made s base (fields_in_of s) (kind_of p (part s (fields_in_of s).a)) ≡ some t → key s ≡ kind-of t) where
    by-test : (n : ℕ) (b : Bool) (x y : Got St Pl) → (b ≡ true → HasKind n x) → (b ≡ false → HasKind n y) → HasKind n (pick b x y)
    by-test n true x y h k = h refl
    by-test n false x y h k = k refl

    taken-has : (n : ℕ) (t : St) (o : Out Pl) → n ≡ kind-of t → HasKind n (taken J t o)
    taken-has n t (next q) e = e
    taken-has n t (refuse m) e = tt

    valued-has : (n : ℕ) (p : Pl) (c : ℕ) (o : Option St) → ((t : St) → o ≡ some t → n ≡ kind-of t) → HasKind n (valued J p c o)
    valued-has n p c none h = tt
    valued-has n p c (some t) h = taken-has n t (steps p c t) (h t refl)

    told-has : (s : Bytes) (base : ℕ) (p : Pl) → HasKind (key s) (told J s base p)
    unfolding told known of_kind
    told-has s base p =
        let k = kind_of p (part s (fields_in_of s).a) in
        let v = valued J p (cell p k) (made s base (fields_in_of s) k) in
        let w = pick (eqb (fields_in_of s).count (needs k)) v (bad 7) in
        let r = pick (eqb (refuses p (cell p k)) 0) w (bad (refuses p (cell p k))) in
        by-test (key s) (eqb (fields_in_of s).count 0) blank (pick (ltb k kinds) r (bad 5)) (λ e. key-none s (eqb-true (fields_in_of s).count 0 e))
        (λ _. by-test (key s) (ltb k kinds) r (bad 5)
        (λ l. by-test (key s) (eqb (refuses p (cell p k)) 0) w (bad (refuses p (cell p k)))
        (λ _. by-test (key s) (eqb (fields_in_of s).count (needs k)) v (bad 7) (λ c. valued-has (key s) p (cell p k) (made s base (fields_in_of s) k) (λ t m. key-made s base p t l (eqb-true (fields_in_of s).count (needs k) c) m)) (λ _. tt))
        (λ _. tt)) (λ _. tt))

    formed-has : (s : Bytes) (base : ℕ) (p : Pl) (f : Result ℕ ℕ) → form_of s ≡ f → HasKind (key (take (up_to opens s) s)) (formed J s base p f)
    formed-has s base p (Err n) q = tt
    formed-has s base p (Ok e) q = subst (λ (m : ℕ). HasKind (key (take m s)) (told J (take e s) base p)) (sym (body-ends s e q)) (told-has (take e s) base p)

    pub line-has : (l : Bytes) (base : ℕ) (p : Pl) → HasKind (key (take (fields_end_of l) l)) (line J l base p)
    unfolding line content fields_end_of
    line-has l base p = subst (λ (s : Bytes). HasKind (key s) (line J l base p)) (body_is l) (formed-has (take (trim_of l) l) base p (form_of (take (trim_of l) l)) refl)
