-- What each test of a place lets through is exactly what a form allows. Assumes nothing.
use mathlib.Core.Path.{◌≡◌, refl, sym, ap, subst, ◌∙◌}
use mathlib.Core.List.{List, [], ◌∷◌}
use mathlib.Core.Bool.{Bool}
use Prim.Native.Nat.{ℕ, ◌-◌, ◌≤◌, ◌<◌}
use native.Mathlib.Omega.{arith}
use lib.Dec.{T}
use lib.IntN.{ℤ, nat_abs}
use Rattle.terms.specs.Ascii.{Bytes}
use Rattle.terms.specs.Words.{Each, Among, Between}
use Rattle.line.specs.Content.{Field}
use Rattle.number.specs.Decimal.{decimal}
use Rattle.law.specs.Network.{Boundary, Said, Line, word, name, coordinate, boundary, largest, Limit, SpellsField, SpellFields}
use Rattle.law.specs.Network as Law
use Rattle.grammar.specs.Editions.{Edition, march, december, law_of, Enough}
use Rattle.grammar.specs.Statements.{PartId, PointId, Position, CheckpointLine, ExitLine, PointLine, part_id, point_id}
use Rattle.grammar.specs.Forms.{tested, free}
use Rattle.grammar.specs.Network.{Exit, GoodExit, GoodPerimeterExit}
use Rattle.grammar.specs.Permitted.{counted, upto, at_most, spots_of, the_number_of, the_part_of, the_point_of, own_stop_of, own_checkpoint_of, own_exit_of, exit?, perimeter_exit?}
use Rattle.grammar.specs.MissionPlaces.{limited}
use Rattle.grammar.proofs.FormLaws as By
use Rattle.number.proofs.Decimals.{decimal-same}
use Rattle.expected_law.specs.Expected.{Item, this, a_name, numbers, ceiling, degrees, one_of, InRanges, Allows, Form, AllowsFields}
use Rattle.expected_law.specs.Items as Items

-- ## From bytes to what is said
-- the item over what is said; a maximum by itself means nothing
abbrev pub Means : Item → Said → Type 0
Means (this w) s = s ≡ word w
Means a_name s = (v : Field) × (s ≡ name v)
Means (numbers w rs) s = (l : List ℕ) × (s ≡ Law.numbers l) × InRanges rs l
Means ceiling s = ⊥
Means (degrees d) s = (z : ℤ) × (s ≡ coordinate z) × (nat_abs z ≤ d)
Means (one_of bs) s = (b : Boundary) × (s ≡ boundary b)

-- the first item is what the line begins with
abbrev pub Heads : Form → Line → Type 0
Heads [] [] = Unit {0}
Heads [] (s ∷ l) = ⊥
Heads (i ∷ is) [] = ⊥
Heads (i ∷ is) (s ∷ l) = Means i s

-- the whole line is what the form says; a maximum goes by the number before it
abbrev pub OnItem : Edition → (before : Said) → Item → Said → Type 0
OnItem ed t (this w) s = s ≡ word w
OnItem ed t a_name s = (v : Field) × (s ≡ name v)
OnItem ed t (numbers w rs) s = (l : List ℕ) × (s ≡ Law.numbers l) × InRanges rs l
OnItem ed t ceiling s = (m : ℕ) × (n : ℕ) × (t ≡ Law.numbers (m ∷ [])) × (s ≡ Law.numbers (n ∷ [])) × (n ≤ largest) × (0 < n → m ≤ n)
OnItem ed t (degrees d) s = (z : ℤ) × (s ≡ coordinate z) × (nat_abs z ≤ d)
OnItem ed t (one_of bs) s = (b : Boundary) × (s ≡ boundary b) × (bs ≡ Law.boundaries ed)

abbrev pub OnLine : Edition → (before : Said) → Form → Line → Type 0
OnLine ed t [] [] = Unit {0}
OnLine ed t [] (s ∷ l) = ⊥
OnLine ed t (i ∷ is) [] = ⊥
OnLine ed t (i ∷ is) (s ∷ l) = OnItem ed t i s × OnLine ed s is l

-- the form is exactly what the test lets through
pub record Fits (ed : Edition) {P : Type 0} (said : P → Line) (test : P → Bool) (form : Form) : Type 0 where
  pub to : (v : P) → T (test v) → (fields : List Field) → SpellFields (law_of ed) fields (said v) → AllowsFields [] form fields
  pub back : (fields : List Field) → AllowsFields [] form fields → (v : P) × T (test v) × SpellFields (law_of ed) fields (said v)
  pub heads : (v : P) → T (test v) → Heads form (said v)
  pub says : (v : P) → T (test v) → OnLine ed (word []) form (said v)

abbrev pub MeansLine : Form → Line → Type 0
MeansLine [] [] = Unit {0}
MeansLine [] (s ∷ l) = ⊥
MeansLine (i ∷ is) [] = ⊥
MeansLine (i ∷ is) (s ∷ l) = Means i s × MeansLine is l

module _ (ed : Edition) where
  -- what is in range can be spelled; boundaries are the edition's
  abbrev pub Plain : Item → Type 0
  Plain (this w) = Unit {0}
  Plain a_name = Unit {0}
  Plain (numbers w rs) = Each (λ r. r.1 ≤ 99999) rs
  Plain ceiling = ⊥
  Plain (degrees d) = Unit {0}
  Plain (one_of bs) = bs ≡ Law.boundaries ed

  small : (rs : List (ℕ × ℕ)) (l : List ℕ) → Each (λ r. r.1 ≤ 99999) rs → InRanges rs l → Each (λ n. n ≤ 99999) l
  small [] [] p r = tt
  small [] (n ∷ l) p r = absurd r
  small (q ∷ rs) [] p r = absurd r
  small (q ∷ rs) (n ∷ l) p r = ((let a = r.0.high in let b = p.0 in omega arith), small rs l p.1 r.1)

  item-to : (i : Item) → Plain i → (before : Bytes) (s : Said) → Means i s → (f : Field) → SpellsField (law_of ed) f s → Allows before i f.bytes
  item-to (this w) p before s e f sp = subst (SpellsField (law_of ed) f) e sp
  item-to a_name p before s m f sp = let x = subst (SpellsField (law_of ed) f) m.1 sp in x.1
  item-to (numbers w rs) p before s m f sp = let x = subst (SpellsField (law_of ed) f) m.1 sp in (m.0, x.0, m.2)
  item-to ceiling p before s m f sp = absurd p
  item-to (degrees d) p before s m f sp = (m.0, subst (SpellsField (law_of ed) f) m.1 sp, m.2)
  item-to (one_of bs) p before s m f sp = let x = subst (SpellsField (law_of ed) f) m.1 sp in (m.0, x.0, subst (Among m.0) (sym p) x.1)

  item_back : (i : Item) → Plain i → (before : Bytes) (f : Field) → Allows before i f.bytes → (s : Said) × Means i s × SpellsField (law_of ed) f s
  item_back (this w) p before f a = (word w, refl, a)
  item_back a_name p before f a = (name f, (f, refl), (refl, a))
  item_back (numbers w rs) p before f a = (Law.numbers a.0, (a.0, refl, a.2), (a.1, small rs a.0 p a.2))
  item_back ceiling p before f a = absurd p
  item_back (degrees d) p before f a = (coordinate a.0, (a.0, refl, a.2), a.1)
  item_back (one_of bs) p before f a = (boundary a.0, (a.0, refl), (a.1, subst (Among a.0) p a.2))

  line-to : (form : Form) → Each Plain form → (before : Bytes) (l : Line) → MeansLine form l → (fields : List Field) → SpellFields (law_of ed) fields l → AllowsFields before form fields
  line-to [] p before [] m [] sp = tt
  line-to [] p before [] m (f ∷ fs) sp = absurd sp
  line-to [] p before (s ∷ l) m fields sp = absurd m
  line-to (i ∷ is) p before [] m fields sp = absurd m
  line-to (i ∷ is) p before (s ∷ l) m [] sp = absurd sp
  line-to (i ∷ is) p before (s ∷ l) m (f ∷ fs) sp = (item-to i p.0 before s m.0 f sp.0, line-to is p.1 f.bytes l m.1 fs sp.1)

  line-back : (form : Form) → Each Plain form → (before : Bytes) (fields : List Field) → AllowsFields before form fields → (l : Line) × MeansLine form l × SpellFields (law_of ed) fields l
  line-back [] p before [] a = ([], tt, tt)
  line-back [] p before (f ∷ fs) a = absurd a
  line-back (i ∷ is) p before [] a = absurd a
  line-back (i ∷ is) p before (f ∷ fs) a =
      let x = item_back i p.0 before f a.0 in
      let y = line-back is p.1 f.bytes fs a.1 in
      (x.0 ∷ y.0, (x.1, y.1), (x.2, y.2))

  heads-of : (form : Form) (l : Line) → MeansLine form l → Heads form l
  heads-of [] [] m = tt
  heads-of [] (s ∷ l) m = absurd m
  heads-of (i ∷ is) [] m = absurd m
  heads-of (i ∷ is) (s ∷ l) m = m.0

  on-item : (i : Item) → Plain i → (t s : Said) → Means i s → OnItem ed t i s
  on-item (this w) p t s m = m
  on-item a_name p t s m = m
  on-item (numbers w rs) p t s m = m
  on-item ceiling p t s m = absurd m
  on-item (degrees d) p t s m = m
  on-item (one_of bs) p t s m = (m.0, m.1, p)

  on_line : (form : Form) → Each Plain form → (t : Said) (l : Line) → MeansLine form l → OnLine ed t form l
  on_line [] p t [] m = tt
  on_line [] p t (s ∷ l) m = absurd m
  on_line (i ∷ is) p t [] m = absurd m
  on_line (i ∷ is) p t (s ∷ l) m = (on-item i p.0 t s m.0, on_line is p.1 s l m.1)

  fits_by : {P : Type 0} (said : P → Line) (test : P → Bool) (form : Form) → Each Plain form → ((v : P) → T (test v) → MeansLine form (said v)) → ((l : Line) → MeansLine form l → (v : P) × T (test v) × (l ≡ said v)) → Fits ed said test form
  fits_by said test form p means is = record {
    to = λ v t fields sp. line-to form p [] (said v) (means v t) fields sp;
    back = λ fields a.
        let x = line-back form p [] fields a in
        let y = is x.0 x.1 in
        (y.0, y.1, subst (SpellFields (law_of ed) fields) y.2 x.2);
    heads = λ v t. heads-of form (said v) (means v t);
    says = λ v t. on_line form p (word []) (said v) (means v t);
  }

  -- ## Taking a line apart
  one_more : (i : Item) (is : Form) (l : Line) → MeansLine (i ∷ is) l → (s : Said) × (r : Line) × (l ≡ s ∷ r) × Means i s × MeansLine is r
  one_more i is [] m = absurd m
  one_more i is (s ∷ r) m = (s, r, refl, m.0, m.1)

  no_more : (l : Line) → MeansLine [] l → l ≡ []
  no_more [] m = refl
  no_more (s ∷ l) m = absurd m

  both : {s t : Said} {l r : Line} → s ≡ t → l ≡ r → s ∷ l ≡ t ∷ r
  both e f i = e i ∷ f i

  one_number : (a b : ℕ) (s : Said) → Means (Items.from_to a b) s → (n : ℕ) × (s ≡ Law.numbers (n ∷ [])) × Between a b n
  one_number a b s (l, e, r) = go l e r
    where
      go : (l : List ℕ) → s ≡ Law.numbers l → InRanges ((a, b) ∷ []) l → (n : ℕ) × (s ≡ Law.numbers (n ∷ [])) × Between a b n
      go [] e r = absurd r
      go (n ∷ []) e r = (n, e, r.0)
      go (n ∷ m ∷ l) e r = absurd r.1

  two_numbers : (p q : ℕ × ℕ) (s : Said) → Means (numbers [] (p ∷ q ∷ [])) s → (m : ℕ) × (n : ℕ) × (s ≡ Law.numbers (m ∷ n ∷ [])) × Between p.0 p.1 m × Between q.0 q.1 n
  two_numbers p q s (l, e, r) = go l e r
    where
      go : (l : List ℕ) → s ≡ Law.numbers l → InRanges (p ∷ q ∷ []) l → (m : ℕ) × (n : ℕ) × (s ≡ Law.numbers (m ∷ n ∷ [])) × Between p.0 p.1 m × Between q.0 q.1 n
      go [] e r = absurd r
      go (m ∷ []) e r = absurd r.1
      go (m ∷ n ∷ []) e r = (m, n, e, r.0, r.1.0)
      go (m ∷ n ∷ k ∷ l) e r = absurd r.1.1

  three-numbers : (p q t : ℕ × ℕ) (s : Said) → Means (numbers [] (p ∷ q ∷ t ∷ [])) s → (x : ℕ) × (y : ℕ) × (z : ℕ) × (s ≡ Law.numbers (x ∷ y ∷ z ∷ [])) × Between p.0 p.1 x × Between q.0 q.1 y × Between t.0 t.1 z
  three-numbers p q t s (l, e, r) = go l e r
    where
      go : (l : List ℕ) → s ≡ Law.numbers l → InRanges (p ∷ q ∷ t ∷ []) l → (x : ℕ) × (y : ℕ) × (z : ℕ) × (s ≡ Law.numbers (x ∷ y ∷ z ∷ [])) × Between p.0 p.1 x × Between q.0 q.1 y × Between t.0 t.1 z
      go [] e r = absurd r
      go (x ∷ []) e r = absurd r.1
      go (x ∷ y ∷ []) e r = absurd r.1.1
      go (x ∷ y ∷ z ∷ []) e r = (x, y, z, e, r.0, r.1.0, r.1.1.0)
      go (x ∷ y ∷ z ∷ k ∷ l) e r = absurd r.1.1.1

  the_one : (a n : ℕ) → Between a a n → n ≡ a
  the_one a n b = let l = b.low in let h = b.high in omega arith

  same-one : (a n : ℕ) → a ≡ n → Between a a n
  same-one a n e = record { low = omega arith; high = omega arith }

  -- ## Statements: a keyword alone; with a name; with a boundary; with a number
  pub word_fits : (w : Bytes) → Fits ed (λ (v : Unit {0}). word w ∷ []) (tested (free (Unit {0}))) (this w ∷ [])
  word_fits w = fits_by (λ v. word w ∷ []) (tested (free (Unit {0}))) (this w ∷ []) (tt, tt) (λ v t. (refl, tt)) λ l m.
      let x = one_more (this w) [] l m in
      (tt, tt, x.2 ∙ both x.3 (no_more x.1 x.4))

  pub name-fits : (w : Bytes) → Fits ed (λ (v : Field). word w ∷ name v ∷ []) (tested (free Field)) (this w ∷ a_name ∷ [])
  name-fits w = fits_by (λ v. word w ∷ name v ∷ []) (tested (free Field)) (this w ∷ a_name ∷ []) (tt, (tt, tt)) (λ v t. (refl, ((v, refl), tt))) λ l m.
      let x = one_more (this w) (a_name ∷ []) l m in
      let y = one_more a_name [] x.1 x.4 in
      (y.3.0, tt, x.2 ∙ both x.3 (y.2 ∙ both y.3.1 (no_more y.1 y.4)))

  pub boundary-fits : (w : Bytes) → Fits ed (λ (b : Boundary). word w ∷ boundary b ∷ []) (tested (free Boundary)) (this w ∷ Items.boundaries ed ∷ [])
  boundary-fits w = fits_by (λ b. word w ∷ boundary b ∷ []) (tested (free Boundary)) (this w ∷ Items.boundaries ed ∷ []) (tt, (refl, tt)) (λ v t. (refl, ((v, refl), tt))) λ l m.
      let x = one_more (this w) (Items.boundaries ed ∷ []) l m in
      let y = one_more (Items.boundaries ed) [] x.1 x.4 in
      (y.3.0, tt, x.2 ∙ both x.3 (y.2 ∙ both y.3.1 (no_more y.1 y.4)))

  pub number_fits : (w : Bytes) (a b : ℕ) → b ≤ 99999 → (test : ℕ → Bool) → ((n : ℕ) → T (test n) → Between a b n) → ((n : ℕ) → Between a b n → T (test n)) → Fits ed (λ n. word w ∷ Law.numbers (n ∷ []) ∷ []) test (this w ∷ Items.from_to a b ∷ [])
  number_fits w a b h test f g = fits_by (λ n. word w ∷ Law.numbers (n ∷ []) ∷ []) test (this w ∷ Items.from_to a b ∷ []) (tt, ((h, tt), tt)) (λ n t. (refl, ((n ∷ [], refl, (f n t, tt)), tt))) λ l m.
      let x = one_more (this w) (Items.from_to a b ∷ []) l m in
      let y = one_more (Items.from_to a b) [] x.1 x.4 in
      let n = one_number a b y.0 y.3 in
      (n.0, g n.0 n.2, x.2 ∙ both x.3 (y.2 ∙ both n.1 (no_more y.1 y.4)))

  -- a goal
  pub goal-fits : Fits ed (λ n. Law.numbers (n ∷ []) ∷ []) (tested counted) (Items.counted ∷ [])
  goal-fits = fits_by (λ n. Law.numbers (n ∷ []) ∷ []) (tested counted) (Items.counted ∷ []) ((omega arith, tt), tt) (λ n t. ((n ∷ [], refl, ((By.pick counted n t).1, tt)), tt)) λ l m.
      let y = one_more Items.counted [] l m in
      let n = one_number 1 largest y.0 y.3 in
      (n.0, By.pass counted n.0 n.2, y.2 ∙ both n.1 (no_more y.1 y.4))

  -- ## The tests of numbers
  pub counted-fits : (w : Bytes) → Fits ed (λ n. word w ∷ Law.numbers (n ∷ []) ∷ []) (tested counted) (this w ∷ Items.counted ∷ [])
  counted-fits w = number_fits w 1 largest (omega arith) (tested counted) (λ n t. (By.pick counted n t).1) (λ n b. By.pass counted n b)

  pub at-most-fits : (w : Bytes) → Fits ed (λ n. word w ∷ Law.numbers (n ∷ []) ∷ []) (tested at_most) (this w ∷ Items.from_to 0 largest ∷ [])
  at-most-fits w = number_fits w 0 largest (omega arith) (tested at_most) (λ n t. record { low = omega arith; high = (By.pick at_most n t).1 }) (λ n b. By.pass at_most n b.high)

  pub up_to_fits : (w : Bytes) (o : ℕ) → o ≤ 32768 → Fits ed (λ n. word w ∷ Law.numbers (n ∷ []) ∷ []) (tested (upto o)) (this w ∷ Items.from_to 0 (largest - o) ∷ [])
  up_to_fits w o h = number_fits w 0 (largest - o) (omega arith) (tested (upto o)) (λ n t. let x = (By.pick (upto o) n t).1 in record { low = omega arith; high = omega arith }) (λ n b. let x = b.high in By.pass (upto o) n (omega arith))

  pub the-number-fits : (w : Bytes) (m : ℕ) → m ≤ 99999 → Fits ed (λ n. word w ∷ Law.numbers (n ∷ []) ∷ []) (tested (the_number_of m)) (this w ∷ Items.from_to m m ∷ [])
  the-number-fits w m h = number_fits w m m h (tested (the_number_of m)) (λ n t. same-one m n (By.pick (the_number_of m) n t).0) (λ n b. subst (λ (k : ℕ). T (tested (the_number_of m) k)) (sym (the_one m n b)) (By.pass (the_number_of m) tt tt))

  -- how few spots a zone may have
  spots-to : (e : Edition) (n : ℕ) → Enough e n → Between (Items.fewest e) largest n
  spots-to march n h = record { low = omega arith; high = h }
  spots-to december n h = h

  spots-back : (e : Edition) (n : ℕ) → Between (Items.fewest e) largest n → Enough e n
  spots-back march n b = b.high
  spots-back december n b = b

  pub spots-fits : (w : Bytes) → Fits ed (λ n. word w ∷ Law.numbers (n ∷ []) ∷ []) (tested (spots_of ed)) (this w ∷ Items.from_to (Items.fewest ed) largest ∷ [])
  spots-fits w = number_fits w (Items.fewest ed) largest (omega arith) (tested (spots_of ed)) (λ n t. spots-to ed n (By.pick (spots_of ed) n t).1) (λ n b. By.pass (spots_of ed) n (spots-back ed n b))

  -- ## Identifiers
  pub part-fits : (w : Bytes) (m n : ℕ) → m ≤ 99999 → n ≤ 99999 → Fits ed (λ (i : PartId). word w ∷ Law.numbers (i.m ∷ i.n ∷ []) ∷ []) (tested (the_part_of m n)) (this w ∷ Items.the_the_part_of m n ∷ [])
  part-fits w m n hm hn = fits_by (λ i. word w ∷ Law.numbers (i.m ∷ i.n ∷ []) ∷ []) (tested (the_part_of m n)) (this w ∷ Items.the_the_part_of m n ∷ []) (tt, ((hm, (hn, tt)), tt))
      (λ i t.
      let e = (By.pick (the_part_of m n) i t).0 in
      (refl, ((i.m ∷ i.n ∷ [], refl, (same-one m i.m (ap (λ (p : PartId). p.m) e), (same-one n i.n (ap (λ (p : PartId). p.n) e), tt))), tt)))
      λ l a.
      let x = one_more (this w) (Items.the_the_part_of m n ∷ []) l a in
      let y = one_more (Items.the_the_part_of m n) [] x.1 x.4 in
      let k = two_numbers (m, m) (n, n) y.0 y.3 in
      let e = the_one m k.0 k.3 in
      let f = the_one n k.1 k.4 in
      (part_id m n, By.pass (the_part_of m n) tt tt, x.2 ∙ both x.3 (y.2 ∙ both (k.2 ∙ (λ i. Law.numbers (e i ∷ f i ∷ []))) (no_more y.1 y.4)))

  pub stop-fits : (w : Bytes) (m n c : ℕ) → m ≤ 99999 → n ≤ 99999 → c ≤ 99999 → Fits ed (λ (i : PointId). word w ∷ Law.numbers (i.x ∷ i.y ∷ i.z ∷ []) ∷ []) (tested (own_stop_of m n c)) (this w ∷ Items.own m n 1 c ∷ [])
  stop-fits w m n c hm hn hc = fits_by (λ i. word w ∷ Law.numbers (i.x ∷ i.y ∷ i.z ∷ []) ∷ []) (tested (own_stop_of m n c)) (this w ∷ Items.own m n 1 c ∷ []) (tt, ((hm, (hn, (hc, tt))), tt))
      (λ i t.
      let p = By.pick (own_stop_of m n c) i t in
      (refl, ((i.x ∷ i.y ∷ i.z ∷ [], refl, (same-one m i.x (ap (λ (p : PointId). p.x) p.0), (same-one n i.y (ap (λ (p : PointId). p.y) p.0), (p.1, tt)))), tt)))
      λ l a.
      let x = one_more (this w) (Items.own m n 1 c ∷ []) l a in
      let y = one_more (Items.own m n 1 c) [] x.1 x.4 in
      let k = three-numbers (m, m) (n, n) (1, c) y.0 y.3 in
      let e = the_one m k.0 k.4 in
      let f = the_one n k.1 k.5 in
      (point_id m n k.2, By.pass (own_stop_of m n c) k.2 k.6, x.2 ∙ both x.3 (y.2 ∙ both (k.3 ∙ (λ i. Law.numbers (e i ∷ f i ∷ k.2 ∷ []))) (no_more y.1 y.4)))

  pub checkpoint-fits : (w : Bytes) (m n a b : ℕ) → m ≤ 99999 → n ≤ 99999 → b ≤ 99999 → Fits ed (λ (c : CheckpointLine). word w ∷ Law.numbers (c.waypoint.x ∷ c.waypoint.y ∷ c.waypoint.z ∷ []) ∷ Law.numbers (c.number ∷ []) ∷ []) (tested (own_checkpoint_of m n a b)) (this w ∷ Items.own m n a b ∷ Items.counted ∷ [])
  checkpoint-fits w m n a b hm hn hb = fits_by (λ c. word w ∷ Law.numbers (c.waypoint.x ∷ c.waypoint.y ∷ c.waypoint.z ∷ []) ∷ Law.numbers (c.number ∷ []) ∷ []) (tested (own_checkpoint_of m n a b)) (this w ∷ Items.own m n a b ∷ Items.counted ∷ []) (tt, ((hm, (hn, (hb, tt))), ((omega arith, tt), tt)))
      (λ c t.
      let p = By.pick (own_checkpoint_of m n a b) c t in
      let i = c.waypoint in
      (refl, ((i.x ∷ i.y ∷ i.z ∷ [], refl, (same-one m i.x (ap (λ (p : CheckpointLine). p.waypoint.x) p.0), (same-one n i.y (ap (λ (p : CheckpointLine). p.waypoint.y) p.0), (p.1.waypoint, tt)))), ((c.number ∷ [], refl, (p.1.number, tt)), tt))))
      λ l s.
      let x = one_more (this w) (Items.own m n a b ∷ Items.counted ∷ []) l s in
      let y = one_more (Items.own m n a b) (Items.counted ∷ []) x.1 x.4 in
      let z = one_more Items.counted [] y.1 y.4 in
      let k = three-numbers (m, m) (n, n) (a, b) y.0 y.3 in
      let e = the_one m k.0 k.4 in
      let f = the_one n k.1 k.5 in
      let c = one_number 1 largest z.0 z.3 in (
        record { waypoint = point_id m n k.2; number = c.0 },
        By.pass (own_checkpoint_of m n a b) (record { waypoint = k.2; number = c.0 }) (record { waypoint = k.6; number = c.2 }),
        x.2 ∙ both x.3 (y.2 ∙ both (k.3 ∙ (λ i. Law.numbers (e i ∷ f i ∷ k.2 ∷ []))) (z.2 ∙ both c.1 (no_more z.1 z.4))),
      )

  -- an exit, by what is good of it
  module _ (w : Bytes) (m n c low : ℕ) (Good : Exit → Type 0) (d : (e : Exit) → Dec (Good e)) where
    exit-fits : m ≤ 99999 → n ≤ 99999 → c ≤ 99999
        → ((e : Exit) → Good e → Between 1 c e.waypoint × Between 1 largest e.entry.x × Between low largest e.entry.y × Between 1 largest e.entry.z)
        → ((e : Exit) → Between 1 c e.waypoint → Between 1 largest e.entry.x → Between low largest e.entry.y → Between 1 largest e.entry.z → Good e)
        → Fits ed (λ (e : ExitLine). word w ∷ Law.numbers (e.waypoint.x ∷ e.waypoint.y ∷ e.waypoint.z ∷ []) ∷ Law.numbers (e.entry.x ∷ e.entry.y ∷ e.entry.z ∷ []) ∷ []) (tested (own_exit_of m n Good d)) (this w ∷ Items.own m n 1 c ∷ Items.an_entry low ∷ [])
    exit-fits hm hn hc split join = fits_by (λ (e : ExitLine). word w ∷ Law.numbers (e.waypoint.x ∷ e.waypoint.y ∷ e.waypoint.z ∷ []) ∷ Law.numbers (e.entry.x ∷ e.entry.y ∷ e.entry.z ∷ []) ∷ []) (tested (own_exit_of m n Good d)) (this w ∷ Items.own m n 1 c ∷ Items.an_entry low ∷ [])
        (tt, ((hm, (hn, (hc, tt))), ((omega arith, (omega arith, (omega arith, tt))), tt)))
        (λ v t.
        let p = By.pick (own_exit_of m n Good d) v t in
        let i = v.waypoint in
        let j = v.entry in
        let o = split (record { waypoint = i.z; entry = j }) p.1 in
        (refl, ((i.x ∷ i.y ∷ i.z ∷ [], refl, (same-one m i.x (ap (λ (p : ExitLine). p.waypoint.x) p.0), (same-one n i.y (ap (λ (p : ExitLine). p.waypoint.y) p.0), (o.0, tt)))), ((j.x ∷ j.y ∷ j.z ∷ [], refl, (o.1, (o.2, (o.3, tt)))), tt))))
        λ l s.
        let x = one_more (this w) (Items.own m n 1 c ∷ Items.an_entry low ∷ []) l s in
        let y = one_more (Items.own m n 1 c) (Items.an_entry low ∷ []) x.1 x.4 in
        let z = one_more (Items.an_entry low) [] y.1 y.4 in
        let k = three-numbers (m, m) (n, n) (1, c) y.0 y.3 in
        let e = the_one m k.0 k.4 in
        let f = the_one n k.1 k.5 in
        let q = three-numbers (1, largest) (low, largest) (1, largest) z.0 z.3 in
        let b : Exit = record { waypoint = k.2; entry = point_id q.0 q.1 q.2 } in (
          record { waypoint = point_id m n k.2; entry = point_id q.0 q.1 q.2 },
          By.pass (own_exit_of m n Good d) b (join b k.6 q.4 q.5 q.6),
          x.2 ∙ both x.3 (y.2 ∙ both (k.3 ∙ (λ i. Law.numbers (e i ∷ f i ∷ k.2 ∷ []))) (z.2 ∙ both q.3 (no_more z.1 z.4))),
        )

  pub lane-exit-fits : (w : Bytes) (m n c : ℕ) → m ≤ 99999 → n ≤ 99999 → c ≤ 99999 → Fits ed (λ (e : ExitLine). word w ∷ Law.numbers (e.waypoint.x ∷ e.waypoint.y ∷ e.waypoint.z ∷ []) ∷ Law.numbers (e.entry.x ∷ e.entry.y ∷ e.entry.z ∷ []) ∷ []) (tested (own_exit_of m n (GoodExit c) (exit? c))) (this w ∷ Items.own m n 1 c ∷ Items.an_entry 0 ∷ [])
  lane-exit-fits w m n c hm hn hc = exit-fits w m n c 0 (GoodExit c) (exit? c) hm hn hc
      (λ e g. (g.waypoint, g.entry.x, record { low = omega arith; high = g.entry.y }, g.entry.z))
      (λ e a x y z. record { waypoint = a; entry = record { x = x; y = y.high; z = z } })

  pub border-exit-fits : (w : Bytes) (m c : ℕ) → m ≤ 99999 → c ≤ 99999 → Fits ed (λ (e : ExitLine). word w ∷ Law.numbers (e.waypoint.x ∷ e.waypoint.y ∷ e.waypoint.z ∷ []) ∷ Law.numbers (e.entry.x ∷ e.entry.y ∷ e.entry.z ∷ []) ∷ []) (tested (own_exit_of m 0 (GoodPerimeterExit c) (perimeter_exit? c))) (this w ∷ Items.own m 0 1 c ∷ Items.an_entry 1 ∷ [])
  border-exit-fits w m c hm hc = exit-fits w m 0 c 1 (GoodPerimeterExit c) (perimeter_exit? c) hm (omega arith) hc
      (λ e g. (g.waypoint, g.x, g.y, g.z))
      (λ e a x y z. record { waypoint = a; x = x; y = y; z = z })

  -- a point
  degree : (d : ℕ) (s : Said) → Means (degrees d) s → (z : ℤ) × (s ≡ coordinate z) × (nat_abs z ≤ d)
  degree d s m = m

  pub point-fits : (m n i : ℕ) → m ≤ 99999 → n ≤ 99999 → i ≤ 99999 → Fits ed (λ (p : PointLine). Law.numbers (p.id.x ∷ p.id.y ∷ p.id.z ∷ []) ∷ coordinate p.position.latitude ∷ coordinate p.position.longitude ∷ []) (tested (the_point_of m n i)) (Items.point_form m n i)
  point-fits m n i hm hn hi = fits_by (λ (p : PointLine). Law.numbers (p.id.x ∷ p.id.y ∷ p.id.z ∷ []) ∷ coordinate p.position.latitude ∷ coordinate p.position.longitude ∷ []) (tested (the_point_of m n i)) (Items.point_form m n i)
      ((hm, (hn, (hi, tt))), (tt, (tt, tt)))
      (λ v t.
      let p = By.pick (the_point_of m n i) v t in
      let j = v.id in (
        (j.x ∷ j.y ∷ j.z ∷ [], refl, (same-one m j.x (ap (λ (p : PointLine). p.id.x) p.0), (same-one n j.y (ap (λ (p : PointLine). p.id.y) p.0), (same-one i j.z (ap (λ (p : PointLine). p.id.z) p.0), tt)))),
        ((v.position.latitude, refl, p.1.latitude), ((v.position.longitude, refl, p.1.longitude), tt)),
      ))
      λ l s.
      let x = one_more (Items.own m n i i) (degrees 90000000 ∷ degrees 180000000 ∷ []) l s in
      let y = one_more (degrees 90000000) (degrees 180000000 ∷ []) x.1 x.4 in
      let z = one_more (degrees 180000000) [] y.1 y.4 in
      let k = three-numbers (m, m) (n, n) (i, i) x.0 x.3 in
      let e = the_one m k.0 k.4 in
      let f = the_one n k.1 k.5 in
      let g = the_one i k.2 k.6 in
      let a = degree 90000000 y.0 y.3 in
      let b = degree 180000000 z.0 z.3 in
      let here : Position = record { latitude = a.0; longitude = b.0 } in (
        record { id = point_id m n i; position = here },
        By.pass (the_point_of m n i) here (record { latitude = a.2; longitude = b.2 }),
        x.2 ∙ both (k.3 ∙ (λ j. Law.numbers (e j ∷ f j ∷ g j ∷ []))) (y.2 ∙ both a.1 (z.2 ∙ both b.1 (no_more z.1 z.4))),
      )

  -- ## A limit: its maximum goes by its minimum
  limit-to : (v : Limit) → T (tested limited v) → (fields : List Field) → SpellFields (law_of ed) fields (Law.limit_line v) → AllowsFields [] Items.limit_form fields
  limit-to v t [] sp = absurd sp
  limit-to v t (f ∷ []) sp = absurd sp.1
  limit-to v t (f ∷ g ∷ []) sp = absurd sp.1.1
  limit-to v t (f ∷ g ∷ h ∷ k ∷ fs) sp = absurd sp.1.1.1
  limit-to v t (f ∷ g ∷ h ∷ []) sp =
      let p = (By.pick limited v t).1 in
      ((v.id ∷ [], sp.0.0, (p.id, tt)), ((v.minimum ∷ [], sp.1.0.0, (record { low = omega arith; high = p.minimum }, tt)), ((v.minimum, v.maximum, sp.1.0.0, sp.1.1.0.0, p.maximum, p.in_order), tt)))

  single : (a b : ℕ) (x : Bytes) → ((l : List ℕ) × (x ≡ Law.dotted l) × InRanges ((a, b) ∷ []) l) → (n : ℕ) × (x ≡ decimal n) × Between a b n
  single a b x (l, e, r) = go l e r
    where
      go : (l : List ℕ) → x ≡ Law.dotted l → InRanges ((a, b) ∷ []) l → (n : ℕ) × (x ≡ decimal n) × Between a b n
      go [] e r = absurd r
      go (n ∷ []) e r = (n, e, r.0)
      go (n ∷ m ∷ l) e r = absurd r.1

  limit-back : (fields : List Field) → AllowsFields [] Items.limit_form fields → (v : Limit) × T (tested limited v) × SpellFields (law_of ed) fields (Law.limit_line v)
  limit-back [] a = absurd a
  limit-back (f ∷ []) a = absurd a.1
  limit-back (f ∷ g ∷ []) a = absurd a.1.1
  limit-back (f ∷ g ∷ h ∷ k ∷ fs) a = absurd a.1.1.1
  limit-back (f ∷ g ∷ h ∷ []) a =
      let i = single 1 largest f.bytes a.0 in
      let m = single 0 largest g.bytes a.1.0 in
      let c = a.1.1.0 in
      let same : c.0 ≡ m.0 = decimal-same c.0 m.0 (sym c.2 ∙ m.1) in
      let v : Limit = record { id = i.0; minimum = m.0; maximum = c.1 } in (
        v,
        By.pass limited v (record { id = i.2; minimum = m.2.high; maximum = c.4; in_order = λ z. let q = c.5 z in omega arith }),
        ((i.1, (in-five i.0 i.2.high, tt)), ((m.1, (in-five m.0 m.2.high, tt)), ((c.3, (in-five c.1 c.4, tt)), tt))),
      )
    where
      in-five : (n : ℕ) → n ≤ largest → n ≤ 99999
      in-five n h = omega arith

  pub limit-fits : Fits ed Law.limit_line (tested limited) Items.limit_form
  limit-fits = record {
    to = limit-to;
    back = limit-back;
    heads = λ v t. (v.id ∷ [], refl, ((By.pick limited v t).1.id, tt));
    says = λ v t.
        let p = (By.pick limited v t).1 in
        ((v.id ∷ [], refl, (p.id, tt)), ((v.minimum ∷ [], refl, (record { low = omega arith; high = p.minimum }, tt)), ((v.minimum, v.maximum, refl, refl, p.maximum, p.in_order), tt)));
  }
