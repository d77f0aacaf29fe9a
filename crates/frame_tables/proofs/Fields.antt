-- Numbers and names at a place, as code reads them and as slots are read; a record that ends with a name. Assumes nothing.
use mathlib.Core.Path.{◌≡◌, refl, sym, ap, ap₂, subst, ◌∙◌}
use mathlib.Core.List.{List, [], ◌∷◌, ◌++◌}
use mathlib.Core.Option.{Option, some}
use mathlib.Core.Bool.{Bool, true, false, ◌&&◌}
use Prim.Native.Nat.{ℕ, zero, suc, ◌+◌, ◌≤◌}
use native.Mathlib.Omega.{arith}
use lib.Dec.{leb, eqb}
use lib.ListN.{length, take, drop, get_or, length-drop}
use lib.Seq.{drop-drop, length-take-le}
use borrow.Author.Tests.{leb-true, le-leb, eqb-true, eq-eqb}
use Rattle.terms.specs.Ascii.{Bytes}
use Rattle.terms.specs.Words.{Each, Between, perhaps}
use Rattle.line.specs.Content.{Field}
use Rattle.scan.specs.Allowed.{field_byte, all}
use Rattle.house_text.specs.Names.{IsName}
use Rattle.grammar.specs.Network.{largest}
use Rattle.unpackings.proofs.Cutting.{Kind, of_size, of-coordinate, of-name}
use Rattle.packed_rows.specs.Walk.{two}
use Rattle.packed_rows.specs.Points.{four_at_of}
use Rattle.packed_rows.proofs.Laws.{two-on}
use Rattle.packed_tables.proofs.Numbers.{value, value-from}
use Rattle.packed_tables.proofs.Reading.{named-at}
use Rattle.packed_tables.proofs.Records.{sizes, there, here, whole-size, both_true, true-both}
use Rattle.packed_tables.proofs.Fixed.{NoNames, size_of, both_leb, and-and}
use Rattle.packed_tables.proofs.Points.{four-value}
use Rattle.packed_frame.specs.Names.{two_at, name_size_of, named_end}
use Rattle.packed_frame.specs.Named.{run_fits}
use Rattle.packed_frame.proofs.NameLaws.{name_told, two-read, name-read, ends-told, named-is}

-- ## A number of two bytes
value-two : (x y : ℕ) (l : Bytes) → value (take 2 (x ∷ y ∷ l)) ≡ two x y
unfolding value-from
value-two x y l = omega arith

pub two-value : (b : Bytes) (at : ℕ) → at + 2 ≤ length b → two_at b at ≡ value (take 2 (drop at b))
two-value b at h = sym (two-read b at (value (take 2 (drop at b))) h (ap (λ (l : Bytes). value (take 2 l)) (two-on b at h) ∙ value-two (get_or b at 0) (get_or b (at + 1) 0) (drop (at + 2) b)))

-- ## The numbers of a record: of four bytes, two, four and two
module _ (b : Bytes) (at : ℕ) where
  pub second-field : drop 4 (drop 2 (drop at b)) ≡ drop (at + 6) b
  second-field = let e : (at + 2) + 4 ≡ at + 6 = omega arith in ap (drop 4) (drop-drop 2 at b) ∙ drop-drop 4 (at + 2) b ∙ ap (λ (k : ℕ). drop k b) e

  pub third-field : drop 2 (drop 4 (drop 2 (drop at b))) ≡ drop (at + 8) b
  third-field = let e : (at + 6) + 2 ≡ at + 8 = omega arith in ap (drop 2) second-field ∙ drop-drop 2 (at + 6) b ∙ ap (λ (k : ℕ). drop k b) e

  pub fourth-field : drop 4 (drop 2 (drop 4 (drop 2 (drop at b)))) ≡ drop (at + 12) b
  fourth-field = let e : (at + 8) + 4 ≡ at + 12 = omega arith in ap (drop 4) third-field ∙ drop-drop 4 (at + 8) b ∙ ap (λ (k : ℕ). drop k b) e

  pub fifth-field : drop 2 (drop 4 (drop 2 (drop 4 (drop 2 (drop at b))))) ≡ drop (at + 14) b
  fifth-field = let e : (at + 12) + 2 ≡ at + 14 = omega arith in ap (drop 2) fourth-field ∙ drop-drop 2 (at + 12) b ∙ ap (λ (k : ℕ). drop k b) e

  pub first-number : at + 6 ≤ length b → four_at_of b (at + 2) ≡ value (take 4 (drop 2 (drop at b)))
  first-number h = four-value b (at + 2) (omega arith) ∙ ap (λ (l : Bytes). value (take 4 l)) (sym (drop-drop 2 at b))

  pub second-number : at + 8 ≤ length b → two_at b (at + 6) ≡ value (take 2 (drop 4 (drop 2 (drop at b))))
  second-number h = two-value b (at + 6) (omega arith) ∙ ap (λ (l : Bytes). value (take 2 l)) (sym second-field)

  pub third-number : at + 12 ≤ length b → four_at_of b (at + 8) ≡ value (take 4 (drop 2 (drop 4 (drop 2 (drop at b)))))
  third-number h = four-value b (at + 8) (omega arith) ∙ ap (λ (l : Bytes). value (take 4 l)) (sym third-field)

  pub fourth-number : at + 14 ≤ length b → two_at b (at + 12) ≡ value (take 2 (drop 4 (drop 2 (drop 4 (drop 2 (drop at b))))))
  fourth-number h = two-value b (at + 12) (omega arith) ∙ ap (λ (l : Bytes). value (take 2 l)) (sym fourth-field)

-- where a row begins, and how much it has
pub record Fits (sum begin size : ℕ) : Type 0 where
  pub begin_so : begin ≡ sum
  pub range : Between 1 largest size

pub fits-so : (sum begin size : ℕ) → run_fits sum begin size ≡ true → Fits sum begin size
fits-so sum begin size e =
    let t = both_true (eqb begin sum) (leb 1 size && leb size 32768) e in
    let u = both_true (leb 1 size) (leb size 32768) t.1 in
    record { begin_so = eqb-true begin sum t.0; range = record { low = leb-true 1 size u.0; high = leb-true size 32768 u.1 } }

pub so-fits : (sum begin size : ℕ) → Fits sum begin size → run_fits sum begin size ≡ true
so-fits sum begin size f = true-both (eqb begin sum) (leb 1 size && leb size 32768) (eq-eqb begin sum f.begin_so) (true-both (leb 1 size) (leb size 32768) (le-leb 1 size f.range.low) (le-leb size 32768 f.range.high))

-- ## A name
abbrev pub AreNames : Option Field → Type 0
AreNames v = Each IsName (perhaps v)

-- what its two bytes of length tell
abbrev pub told : Bytes → ℕ → ℕ
told b at = value (take 2 (drop at b))

-- it is whole there, and a name where it is not missing
pub record NameHere (b : Bytes) (at : ℕ) : Type 0 where
  pub whole : at + 2 + told b at ≤ length b
  pub is_name : (place : ℕ) → AreNames (named-at place (told b at) (drop 2 (drop at b)))

named-so : (place n : ℕ) (l : Bytes) → n ≤ 128 → n ≤ length l → all field_byte (take n l) ≡ true → AreNames (named-at place n l)
named-so place zero l h i e = tt
named-so place (suc k) l h i e =
    let s = length-take-le (suc k) l i in
    (record { is_field = record { some = omega arith; allowed = e }; long = record { low = omega arith; high = omega arith } }, tt)

named_back : (place n : ℕ) (l : Bytes) → n ≤ length l → AreNames (named-at place n l) → (n ≤ 128) × (all field_byte (take n l) ≡ true)
unfolding all
named_back place zero l i h = (omega arith, nothing l)
  where
    nothing : (l : Bytes) → all field_byte (take 0 l) ≡ true
    nothing [] = refl
    nothing (x ∷ l) = refl
named_back place (suc k) l i h =
    let s = length-take-le (suc k) l i in
    let high = h.0.long.high in
    (omega arith, h.0.is_field.allowed)

pub name-so : (b : Bytes) (at : ℕ) → (name_size_of b at ≡ 129 → ⊥) → NameHere b at × (name_size_of b at ≡ told b at)
name-so b at h =
    let t = name_told b at h in
    let i = t.inside-bytes in
    let e : two_at b at ≡ told b at = two-value b at (omega arith) in
    let f = t.few in
    let d2 = drop-drop 2 at b in
    let l = length-drop (at + 2) b in
    let long : two_at b at ≤ length (drop (at + 2) b) = omega arith in (
      record {
        whole = omega arith;
        is_name = λ place. subst (λ (n : ℕ). AreNames (named-at place n (drop 2 (drop at b)))) e (subst (λ (x : Bytes). AreNames (named-at place (two_at b at) x)) (sym d2) (named-so place (two_at b at) (drop (at + 2) b) f long t.fields));
      },
      t.size ∙ e,
    )

pub name-all : (b : Bytes) (at place : ℕ) → at + 2 + told b at ≤ length b → AreNames (named-at place (told b at) (drop 2 (drop at b))) → (name_size_of b at ≡ told b at) × (name_size_of b at ≡ 129 → ⊥)
name-all b at place h a =
    let d2 = drop-drop 2 at b in
    let l = length-drop (at + 2) b in
    let n = told b at in
    let e : n ≡ two_at b at = sym (two-value b at (omega arith)) in
    let f = named_back place n (drop (at + 2) b) (omega arith) (subst (λ (x : Bytes). AreNames (named-at place n x)) d2 a) in
    let few = f.0 in
    let s : n ≡ name_size_of b at = name-read b at n e (omega arith) few h true (sym f.1) in
    (sym s, λ z. let q : n ≡ 129 = s ∙ z in omega arith)

-- ## Fields in front that have no names
in-front : (k m : ℕ) (ks : List Kind) (b : Bytes) (rest : Bool) → rest ≡ (leb m (length (drop k b)) && there ks (drop m (drop k b))) → (leb k (length b) && rest) ≡ (leb (k + m) (length b) && there ks (drop (k + m) b))
in-front k m ks b rest e =
    ap (λ (x : Bool). leb k (length b) && x) e ∙ and-and (leb k (length b)) (leb m (length (drop k b))) (there ks (drop m (drop k b)))
    ∙ ap₂ (λ (x : Bool) (y : Bytes). x && there ks y) (both_leb k m b) (drop-drop m k b)

pub there-front : (fixed ks : List Kind) (b : Bytes) → NoNames fixed → there (fixed ++ ks) b ≡ (leb (size_of fixed) (length b) && there ks (drop (size_of fixed) b))
unfolding there
there-front [] ks b h = sym (ap (λ (x : Bool). x && there ks (drop 0 b)) (le-leb 0 (length b) (omega arith)))
there-front (of_size k ∷ fixed) ks b h = in-front k (size_of fixed) ks b (there (fixed ++ ks) (drop k b)) (there-front fixed ks (drop k b) h)
there-front (of-coordinate ∷ fixed) ks b h = in-front 4 (size_of fixed) ks b (there (fixed ++ ks) (drop 4 b)) (there-front fixed ks (drop 4 b) h)
there-front (of-name ∷ fixed) ks b h = absurd h

in-front-size : (k m : ℕ) (ks : List Kind) (b : Bytes) (rest : ℕ) → rest ≡ m + sizes ks (drop m (drop k b)) → k + rest ≡ (k + m) + sizes ks (drop (k + m) b)
in-front-size k m ks b rest e =
    let d = ap (sizes ks) (drop-drop m k b) in
    omega arith

pub sizes-front : (fixed ks : List Kind) (b : Bytes) → NoNames fixed → sizes (fixed ++ ks) b ≡ size_of fixed + sizes ks (drop (size_of fixed) b)
unfolding sizes
sizes-front [] ks b h = let e : sizes ks b ≡ 0 + sizes ks b = omega arith in e
sizes-front (of_size k ∷ fixed) ks b h = in-front-size k (size_of fixed) ks b (sizes (fixed ++ ks) (drop k b)) (sizes-front fixed ks (drop k b) h)
sizes-front (of-coordinate ∷ fixed) ks b h = in-front-size 4 (size_of fixed) ks b (sizes (fixed ++ ks) (drop 4 b)) (sizes-front fixed ks (drop 4 b) h)
sizes-front (of-name ∷ fixed) ks b h = absurd h

name-size-of : (b : Bytes) → sizes (of-name ∷ []) b ≡ 2 + value (take 2 b)
unfolding sizes
name-size-of b = let e : (2 + value (take 2 b)) + 0 ≡ 2 + value (take 2 b) = omega arith in e

name-there-of : (b : Bytes) → there (of-name ∷ []) b ≡ leb (2 + value (take 2 b)) (length b)
unfolding there
name-there-of b = and-true (leb (2 + value (take 2 b)) (length b))
  where
    and-true : (x : Bool) → (x && true) ≡ x
    and-true true = refl
    and-true false = refl

-- ## A record that ends with a name
module _ (fixed : List Kind) (plain : NoNames fixed) (b : Bytes) (at : ℕ) where
  abbrev kinds : List Kind
  kinds = fixed ++ (of-name ∷ [])

  abbrev m : ℕ
  m = size_of fixed

  -- where the name's two bytes of length stand
  abbrev name-place : ℕ
  name-place = at + (m + 2)

  place_so : drop m (drop 2 (drop at b)) ≡ drop name-place b
  place_so = let e : (at + 2) + m ≡ at + (m + 2) = omega arith in ap (drop m) (drop-drop 2 at b) ∙ drop-drop m (at + 2) b ∙ ap (λ (k : ℕ). drop k b) e

  sizes-so : sizes kinds (drop 2 (drop at b)) ≡ m + (2 + told b name-place)
  sizes-so = sizes-front fixed (of-name ∷ []) (drop 2 (drop at b)) plain ∙ ap (λ (y : Bytes). m + sizes (of-name ∷ []) y) place_so ∙ ap (λ (k : ℕ). m + k) (name-size-of (drop name-place b))

  there-so : there kinds (drop 2 (drop at b)) ≡ (leb m (length (drop 2 (drop at b))) && leb (2 + told b name-place) (length (drop name-place b)))
  there-so = there-front fixed (of-name ∷ []) (drop 2 (drop at b)) plain ∙ ap (λ (x : Bool). leb m (length (drop 2 (drop at b))) && x) (ap (there (of-name ∷ [])) place_so ∙ name-there-of (drop name-place b))

  -- the record is whole, and its length is that of its fields
  pub record HereNamed : Type 0 where
    pub whole : at + (m + 2) + 2 + told b (at + (m + 2)) ≤ length b
    pub length-told : told b at ≡ m + (2 + told b (at + (m + 2)))

  pub here-named : here kinds (drop at b) ≡ true → HereNamed
  unfolding here
  here-named h =
      let x = drop at b in
      let t = both_true (leb 2 (length x)) (there kinds (drop 2 x) && eqb (value (take 2 x)) (sizes kinds (drop 2 x))) h in
      let u = both_true (there kinds (drop 2 x)) (eqb (value (take 2 x)) (sizes kinds (drop 2 x))) t.1 in
      let v = both_true (leb m (length (drop 2 x))) (leb (2 + told b name-place) (length (drop name-place b))) (sym there-so ∙ u.0) in
      let w = leb-true (2 + told b name-place) (length (drop name-place b)) v.1 in
      let l = length-drop name-place b in
      record { whole = omega arith; length-told = eqb-true (value (take 2 x)) (sizes kinds (drop 2 x)) u.1 ∙ sizes-so }

  pub named_here : HereNamed → here kinds (drop at b) ≡ true
  unfolding here
  named_here r =
      let x = drop at b in
      let w = r.whole in
      let l0 = length-drop at b in
      let l1 = length-drop 2 x in
      let l2 = length-drop name-place b in
      true-both (leb 2 (length x)) (there kinds (drop 2 x) && eqb (value (take 2 x)) (sizes kinds (drop 2 x))) (le-leb 2 (length x) (omega arith))
      (true-both (there kinds (drop 2 x)) (eqb (value (take 2 x)) (sizes kinds (drop 2 x)))
      (there-so ∙ true-both (leb m (length (drop 2 x))) (leb (2 + told b name-place) (length (drop name-place b))) (le-leb m (length (drop 2 x)) (omega arith)) (le-leb (2 + told b name-place) (length (drop name-place b)) (omega arith)))
      (eq-eqb (value (take 2 x)) (sizes kinds (drop 2 x)) (r.length-told ∙ sym sizes-so)))

  pub behind-named : at + whole-size kinds (drop at b) ≡ at + (m + 2) + 2 + told b (at + (m + 2))
  behind-named = let s = sizes-so in omega arith

  -- THE LAW: code finds a record here exactly if one is here and its name is a name
  pub record FoundNamed : Type 0 where
    pub here_so : here kinds (drop at b) ≡ true
    pub end : named_end m b at ≡ at + whole-size kinds (drop at b)
    pub is_name : (place : ℕ) → AreNames (named-at place (told b (at + (m + 2))) (drop 2 (drop (at + (m + 2)) b)))
    pub inside : at + (m + 2) + 2 ≤ length b

  pub found-so : (named_end m b at ≡ 0 → ⊥) → FoundNamed
  found-so h =
      let t = ends-told m b at h in
      let n = name-so b name-place t.named in
      let s = n.1 in
      let w = n.0.whole in
      let e : two_at b at ≡ told b at = two-value b at (omega arith) in
      let lt = t.length-told in
      let en = t.end in
      let bn = behind-named in
      record { here_so = named_here (record { whole = w; length-told = omega arith }); end = omega arith; is_name = n.0.is_name; inside = omega arith }

  pub found_all : (place : ℕ) → here kinds (drop at b) ≡ true → AreNames (named-at place (told b (at + (m + 2))) (drop 2 (drop (at + (m + 2)) b))) → named_end m b at ≡ at + whole-size kinds (drop at b)
  found_all place h a =
      let r = here-named h in
      let w = r.whole in
      let lt = r.length-told in
      let n = name-all b name-place place w a in
      let e : two_at b at ≡ told b at = two-value b at (omega arith) in
      let f : told b at ≡ m + 2 + told b name-place = omega arith in
      let s = n.0 in
      let g : told b name-place ≡ 129 → ⊥ = λ z. n.1 (s ∙ z) in
      sym (named-is m b at (omega arith) (told b name-place) (sym s) g (told b at) (sym e) f) ∙ sym behind-named
