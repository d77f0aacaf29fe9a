-- Lines of the same sorts are lines of one kind, and have as many fields as it has. For every file. Assumes nothing.
use mathlib.Core.Path.{◌≡◌, refl, sym, ap, ◌∙◌}
use mathlib.Core.List.{List, [], ◌∷◌, ◌++◌, map, head-eq_of_cons-eq, tail-eq_of_cons-eq}
use mathlib.Core.Option.{Option, none, some}
use Prim.Native.Nat.{ℕ, suc}
use native.Mathlib.Omega.{arith}
use lib.ListN.{length}
use lib.IntN.{ℤ}
use Rattle.terms.specs.Ascii.{Bytes}
use Rattle.line.specs.Content.{Field}
use Rattle.grammar.specs.Language.{Lang, say}
use Rattle.grammar.specs.Statements.{Boundary}
use Rattle.grammar.specs.Machine.{Machine}
use Rattle.text.specs.Said as Old
use Rattle.text.specs.Judge.{a_name, an_integer, a_pair, a_triple, a_coordinate, a_boundary, Val, Vals, Lexis, args}
use Rattle.text.specs.Judge as Judge
use Rattle.text.proofs.FieldReading.{says, said}
use Rattle.text.proofs.Telling.{Lawful, in-front, line-is}
use Rattle.law.specs.Network.{Said, Line, word, name, numbers, coordinate, boundary}
use Rattle.law.specs.Faults.{FieldKind, this_word, some_numbers, kind_of_field}
use Rattle.law.specs.Faults as Law
use Rattle.law_spelling.specs.LineOf.{said_of, law_line}

-- ## What is of a sort
is_word : (w : Bytes) (x : Said) → kind_of_field x ≡ this_word w → x ≡ word w
is_word w (word v) e = ap word (let z : v ≡ w = cc in z)
is_word w (name v) e = absurd (let z : ◌≡◌ {A = ℕ} 0 1 = cc in omega arith)
is_word w (numbers l) e = absurd (let z : ◌≡◌ {A = ℕ} 0 1 = cc in omega arith)
is_word w (coordinate z) e = absurd (let z : ◌≡◌ {A = ℕ} 0 1 = cc in omega arith)
is_word w (boundary b) e = absurd (let z : ◌≡◌ {A = ℕ} 0 1 = cc in omega arith)

is_name : (x : Said) → kind_of_field x ≡ Law.a_name → (v : Field) × (x ≡ name v)
is_name (word v) e = absurd (let z : ◌≡◌ {A = ℕ} 0 1 = cc in omega arith)
is_name (name v) e = (v, refl)
is_name (numbers l) e = absurd (let z : ◌≡◌ {A = ℕ} 0 1 = cc in omega arith)
is_name (coordinate z) e = absurd (let z : ◌≡◌ {A = ℕ} 0 1 = cc in omega arith)
is_name (boundary b) e = absurd (let z : ◌≡◌ {A = ℕ} 0 1 = cc in omega arith)

is-numbers : (n : ℕ) (x : Said) → kind_of_field x ≡ some_numbers n → (l : List ℕ) × (x ≡ numbers l) × (length l ≡ n)
is-numbers n (word v) e = absurd (let z : ◌≡◌ {A = ℕ} 0 1 = cc in omega arith)
is-numbers n (name v) e = absurd (let z : ◌≡◌ {A = ℕ} 0 1 = cc in omega arith)
is-numbers n (numbers l) e = (l, refl, let z : length l ≡ n = cc in z)
is-numbers n (coordinate z) e = absurd (let z : ◌≡◌ {A = ℕ} 0 1 = cc in omega arith)
is-numbers n (boundary b) e = absurd (let z : ◌≡◌ {A = ℕ} 0 1 = cc in omega arith)

is-coordinate : (x : Said) → kind_of_field x ≡ Law.a_coordinate → (z : ℤ) × (x ≡ coordinate z)
is-coordinate (word v) e = absurd (let z : ◌≡◌ {A = ℕ} 0 1 = cc in omega arith)
is-coordinate (name v) e = absurd (let z : ◌≡◌ {A = ℕ} 0 1 = cc in omega arith)
is-coordinate (numbers l) e = absurd (let z : ◌≡◌ {A = ℕ} 0 1 = cc in omega arith)
is-coordinate (coordinate z) e = (z, refl)
is-coordinate (boundary b) e = absurd (let z : ◌≡◌ {A = ℕ} 0 1 = cc in omega arith)

is-boundary : (x : Said) → kind_of_field x ≡ Law.a_boundary → (b : Boundary) × (x ≡ boundary b)
is-boundary (word v) e = absurd (let z : ◌≡◌ {A = ℕ} 0 1 = cc in omega arith)
is-boundary (name v) e = absurd (let z : ◌≡◌ {A = ℕ} 0 1 = cc in omega arith)
is-boundary (numbers l) e = absurd (let z : ◌≡◌ {A = ℕ} 0 1 = cc in omega arith)
is-boundary (coordinate z) e = absurd (let z : ◌≡◌ {A = ℕ} 0 1 = cc in omega arith)
is-boundary (boundary b) e = (b, refl)

-- numbers by how many they are
one : (l : List ℕ) → length l ≡ 1 → (a : ℕ) × (l ≡ a ∷ [])
one [] e = absurd (omega arith)
one (a ∷ []) e = (a, refl)
one (a ∷ b ∷ l) e = absurd (omega arith)

two : (l : List ℕ) → length l ≡ 2 → (a : ℕ) × (b : ℕ) × (l ≡ a ∷ b ∷ [])
two [] e = absurd (omega arith)
two (a ∷ l) e = let x = one l (omega arith) in (a, x.0, ap (◌∷◌ a) x.1)

three : (l : List ℕ) → length l ≡ 3 → (a : ℕ) × (b : ℕ) × (c : ℕ) × (l ≡ a ∷ b ∷ c ∷ [])
three [] e = absurd (omega arith)
three (a ∷ l) e = let x = two l (omega arith) in (a, x.0, x.1, ap (◌∷◌ a) x.2)

-- what has the sort of a value is a value of that sort
pub of_sort : (s : Judge.Sort) (v : Val s) (x : Said) → kind_of_field x ≡ kind_of_field (said_of (says s v)) → (u : Val s) × (x ≡ said_of (says s u))
of_sort a_name v x e = is_name x e
of_sort an_integer v x e =
    let i = is-numbers 1 x e in
    let l = one i.0 i.2 in
    (l.0, i.1 ∙ ap numbers l.1)
of_sort a_pair v x e =
    let i = is-numbers 2 x e in
    let l = two i.0 i.2 in
    (record { m = l.0; n = l.1 }, i.1 ∙ ap numbers l.2)
of_sort a_triple v x e =
    let i = is-numbers 3 x e in
    let l = three i.0 i.2 in
    (record { x = l.0; y = l.1; z = l.2 }, i.1 ∙ ap numbers l.3)
of_sort a_coordinate v x e = is-coordinate x e
of_sort (a_boundary d) v x e = is-boundary x e

pub one_sort : (s : Judge.Sort) (u v : Val s) → kind_of_field (said_of (says s u)) ≡ kind_of_field (said_of (says s v))
one_sort a_name u v = refl
one_sort an_integer u v = refl
one_sort a_pair u v = refl
one_sort a_triple u v = refl
one_sort a_coordinate u v = refl
one_sort (a_boundary d) u v = refl

-- ## Values, one for one
abbrev pub law-said : (ss : List Judge.Sort) → Vals ss → Line
law-said ss w = map said_of (said ss w)

of-sorts : (ss : List Judge.Sort) (w : Vals ss) (l : Line) → map kind_of_field l ≡ map kind_of_field (law-said ss w) → (u : Vals ss) × (l ≡ law-said ss u)
of-sorts [] w [] e = (tt, refl)
of-sorts [] w (x ∷ l) e = absurd (let z : ◌≡◌ {A = ℕ} 0 1 = cc in omega arith)
of-sorts (s ∷ ss) w [] e = absurd (let z : ◌≡◌ {A = ℕ} 0 1 = cc in omega arith)
of-sorts (s ∷ ss) w (x ∷ l) e =
    let h = of_sort s w.0 x (head-eq_of_cons-eq e) in
    let t = of-sorts ss w.1 l (tail-eq_of_cons-eq e) in
    ((h.0, t.0), ap (λ (y : Said). y ∷ l) h.1 ∙ ap (◌∷◌ (said_of (says s h.0))) t.1)

one-sorts : (ss : List Judge.Sort) (u w : Vals ss) → map kind_of_field (law-said ss u) ≡ map kind_of_field (law-said ss w)
one-sorts [] u w = refl
one-sorts (s ∷ ss) u w = ap (λ (t : FieldKind). t ∷ map kind_of_field (law-said ss u.1)) (one_sort s u.0 w.0) ∙ ap (◌∷◌ (kind_of_field (said_of (says s w.0)))) (one-sorts ss u.1 w.1)

so-many : (ss : List Judge.Sort) (w : Vals ss) → length (law-said ss w) ≡ length ss
so-many [] w = refl
so-many (s ∷ ss) w = ap suc (so-many ss w.1)

-- with the keyword in front, where there is one
abbrev pub law-front : Option Bytes → Line
law-front o = map said_of (in-front o)

front-sorts : (o : Option Bytes) (ss : List Judge.Sort) (w : Vals ss) (l : Line) → map kind_of_field l ≡ map kind_of_field (law-front o ++ law-said ss w) → (u : Vals ss) × (l ≡ law-front o ++ law-said ss u)
front-sorts none ss w l e = of-sorts ss w l e
front-sorts (some b) ss w [] e = absurd (let z : ◌≡◌ {A = ℕ} 0 1 = cc in omega arith)
front-sorts (some b) ss w (x ∷ l) e =
    let h = is_word b x (head-eq_of_cons-eq e) in
    let t = of-sorts ss w l (tail-eq_of_cons-eq e) in
    (t.0, ap (λ (y : Said). y ∷ l) h ∙ ap (◌∷◌ (word b)) t.1)

front-one : (o : Option Bytes) (ss : List Judge.Sort) (u w : Vals ss) → map kind_of_field (law-front o ++ law-said ss u) ≡ map kind_of_field (law-front o ++ law-said ss w)
front-one none ss u w = one-sorts ss u w
front-one (some b) ss u w = ap (◌∷◌ (this_word b)) (one-sorts ss u w)

map-front : (o : Option Bytes) (l : List Old.Said) → map said_of (in-front o ++ l) ≡ law-front o ++ map said_of l
map-front none l = refl
map-front (some b) l = refl

-- ## Lines of a file
module _ {L : Lang} (A : Machine L) (X : Lexis L) (Line-of : (k : L.Kind) → L.Pay k → List Old.Said) (W : Lawful A X Line-of) where
  open L use {Kind, Pay}

  -- a line is its keyword, if it has one, and its values
  pub made-line : (k : Kind) (w : Vals (X.sorts k)) → law_line Line-of (say L k (X.make k w)) ≡ law-front (X.keyword k) ++ law-said (X.sorts k) w
  made-line k w = ap (map said_of) (W.line_made k w) ∙ map-front (X.keyword k) (said (X.sorts k) w)

  pub law-line-is : (k : Kind) (v : Pay k) → law_line Line-of (say L k v) ≡ law-front (X.keyword k) ++ law-said (X.sorts k) (W.parts k v)
  law-line-is k v = ap (map said_of) (line-is A X Line-of W k v) ∙ map-front (X.keyword k) (said (X.sorts k) (W.parts k v))

  -- what has the sorts of a line of a kind is a line of that kind
  pub of_kind_of : (k : Kind) (v : Pay k) (l : Line) → map kind_of_field l ≡ map kind_of_field (law_line Line-of (say L k v)) → (u : Pay k) × (l ≡ law_line Line-of (say L k u))
  of_kind_of k v l e =
      let x = front-sorts (X.keyword k) (X.sorts k) (W.parts k v) l (e ∙ ap (map kind_of_field) (law-line-is k v)) in
      (X.make k x.0, x.1 ∙ sym (made-line k x.0))

  -- and lines of one kind have the same sorts
  pub kind-sorts : (k : Kind) (u v : Pay k) → map kind_of_field (law_line Line-of (say L k u)) ≡ map kind_of_field (law_line Line-of (say L k v))
  kind-sorts k u v = ap (map kind_of_field) (law-line-is k u) ∙ front-one (X.keyword k) (X.sorts k) (W.parts k u) (W.parts k v) ∙ ap (map kind_of_field) (sym (law-line-is k v))

  -- the fields are as many as those of the line exactly if those behind the keyword are as many as the values
  module _ (k : Kind) (v : Pay k) (f : Field) (fs : List Field) where
    counts : (o : Option Bytes) → X.keyword k ≡ o → length (law_line Line-of (say L k v)) ≡ length (law-front o ++ law-said (X.sorts k) (W.parts k v))
    counts o e = ap length (law-line-is k v) ∙ ap (λ (o : Option Bytes). length (law-front o ++ law-said (X.sorts k) (W.parts k v))) e

    pub count-to : length (args A X (X.keyword k) f fs) ≡ length (X.sorts k) → length (f ∷ fs) ≡ length (law_line Line-of (say L k v))
    count-to e = go (X.keyword k) refl e
      where
        m : length (law-said (X.sorts k) (W.parts k v)) ≡ length (X.sorts k)
        m = so-many (X.sorts k) (W.parts k v)

        go : (o : Option Bytes) → X.keyword k ≡ o → length (args A X o f fs) ≡ length (X.sorts k) → length (f ∷ fs) ≡ length (law_line Line-of (say L k v))
        go none q e = e ∙ sym m ∙ sym (counts none q)
        go (some b) q e = ap suc (e ∙ sym m) ∙ sym (counts (some b) q)

    pub count-back : length (f ∷ fs) ≡ length (law_line Line-of (say L k v)) → length (args A X (X.keyword k) f fs) ≡ length (X.sorts k)
    count-back e = go (X.keyword k) refl
      where
        m : length (law-said (X.sorts k) (W.parts k v)) ≡ length (X.sorts k)
        m = so-many (X.sorts k) (W.parts k v)

        go : (o : Option Bytes) → X.keyword k ≡ o → length (args A X o f fs) ≡ length (X.sorts k)
        go none q = e ∙ counts none q ∙ m
        go (some b) q =
            let z : suc (length fs) ≡ suc (length (law-said (X.sorts k) (W.parts k v))) = e ∙ counts (some b) q in
            let y : length fs ≡ length (law-said (X.sorts k) (W.parts k v)) = omega arith in
            y ∙ m
