-- Laws of rows in file order, over any things: what a list of rows says of the things that gave them. Assumes nothing.
use mathlib.Core.Path.{◌≡◌, refl, sym, ap, subst, ◌∙◌}
use mathlib.Core.List.{List, [], ◌∷◌, ◌++◌, map, nil≢cons, cons≢nil, head-eq_of_cons-eq, tail-eq_of_cons-eq}
use Prim.Native.Nat.{ℕ, ◌+◌, ◌≤◌, ◌<◌}
use native.Mathlib.Omega.{arith}
use lib.ListN.{length, length-append}
use Rattle.terms.specs.Words.{Each, Between}
use Rattle.terms.proofs.Lists.{map-id, each-any, each_map, each_append}
use Rattle.grammar.specs.Tables.{gather, along, the_row_of}

-- ## Every one of a list
pub each-front : {A : Type 0} (P : A → Type 0) (x y : List A) → Each P (x ++ y) → Each P x
each-front P [] y e = tt
each-front P (a ∷ x) y e = (e.0, each-front P x y e.1)

pub each-behind : {A : Type 0} (P : A → Type 0) (x y : List A) → Each P (x ++ y) → Each P y
each-behind P [] y e = e
each-behind P (a ∷ x) y e = each-behind P x y e.1

pub each-gather : {A B : Type 0} (P : B → Type 0) (g : A → List B) (l : List A) → Each P (gather g l) → Each (λ a. Each P (g a)) l
each-gather P g [] e = tt
each-gather P g (a ∷ l) e = (each-front P (g a) (gather g l) e, each-gather P g l (each-behind P (g a) (gather g l) e))

pub gather-each : {A B : Type 0} (P : B → Type 0) (g : A → List B) (l : List A) → Each (λ a. Each P (g a)) l → Each P (gather g l)
gather-each P g [] e = tt
gather-each P g (a ∷ l) e = each_append P (g a) (gather g l) e.0 (gather-each P g l e.1)

pub each_both : {A : Type 0} (P Q : A → Type 0) (l : List A) → Each P l → Each Q l → Each (λ a. P a × Q a) l
each_both P Q [] e d = tt
each_both P Q (a ∷ l) e d = ((e.0, d.0), each_both P Q l e.1 d.1)

pub each-of_map : {A B : Type 0} (P : B → Type 0) (g : A → B) (l : List A) → Each (λ a. P (g a)) l → Each P (map g l)
each-of_map P g [] e = tt
each-of_map P g (a ∷ l) e = (e.0, each-of_map P g l e.1)

-- ## Two lists that agree on something of each thing: `map g l ≡ map g l'`
pub agree-both : {A B C : Type 0} (g : A → B) (h : A → C) (l l' : List A) → map g l ≡ map g l' → map h l ≡ map h l' → map {B = B × C} (λ a. (g a, h a)) l ≡ map (λ a. (g a, h a)) l'
agree-both g h [] [] e d = refl
agree-both g h [] (a ∷ l') e d = absurd (nil≢cons e)
agree-both g h (a ∷ l) [] e d = absurd (cons≢nil e)
agree-both g h (a ∷ l) (a' ∷ l') e d =
    let rest = agree-both g h l l' (tail-eq_of_cons-eq e) (tail-eq_of_cons-eq d) in
    λ i. (head-eq_of_cons-eq e i, head-eq_of_cons-eq d i) ∷ rest i

-- what h tells of things that are P, g tells too
pub agree-by : {A B C : Type 0} (P P' : A → Type 0) (h h' : A → B) (g : A → C) → ((a a' : A) → P a → P' a' → h a ≡ h' a' → g a ≡ g a')
    → (l l' : List A) → Each P l → Each P' l' → map h l ≡ map h' l' → map g l ≡ map g l'
agree-by P P' h h' g f [] [] p p' e = refl
agree-by P P' h h' g f [] (a ∷ l') p p' e = absurd (nil≢cons e)
agree-by P P' h h' g f (a ∷ l) [] p p' e = absurd (cons≢nil e)
agree-by P P' h h' g f (a ∷ l) (a' ∷ l') p p' e =
    let head = f a a' p.0 p'.0 (head-eq_of_cons-eq e) in
    let rest = agree-by P P' h h' g f l l' p.1 p'.1 (tail-eq_of_cons-eq e) in
    λ i. head i ∷ rest i

-- where h tells the whole thing, the lists are equal
pub equal_by : {A B : Type 0} (P P' : A → Type 0) (h h' : A → B) → ((a a' : A) → P a → P' a' → h a ≡ h' a' → a ≡ a') → (l l' : List A) → Each P l → Each P' l' → map h l ≡ map h' l' → l ≡ l'
equal_by P P' h h' f l l' p p' e = sym (map-id l) ∙ agree-by P P' h h' (λ a. a) f l l' p p' e ∙ map-id l'

-- the same of any things
pub agree-any : {A B C : Type 0} (h : A → B) (g : A → C) → ((a a' : A) → h a ≡ h a' → g a ≡ g a') → (l l' : List A) → map h l ≡ map h l' → map g l ≡ map g l'
agree-any h g f l l' = agree-by (λ a. Unit {0}) (λ a. Unit {0}) h h g (λ a a' u u'. f a a') l l' (each-any l) (each-any l')

pub equal-any : {A B : Type 0} (h : A → B) → ((a a' : A) → h a ≡ h a' → a ≡ a') → (l l' : List A) → map h l ≡ map h l' → l ≡ l'
equal-any h f l l' = equal_by (λ a. Unit {0}) (λ a. Unit {0}) h h (λ a a' u u'. f a a') l l' (each-any l) (each-any l')

pub same_length : {A C : Type 0} (c : C) (l l' : List A) → length l ≡ length l' → map (λ a. c) l ≡ map (λ a. c) l'
same_length c [] [] e = refl
same_length c [] (a ∷ l') e = absurd (omega arith)
same_length c (a ∷ l) [] e = absurd (omega arith)
same_length c (a ∷ l) (a' ∷ l') e = ap (◌∷◌ c) (same_length c l l' (omega arith))

-- ## A list cut in two
-- by a number: what is below it stands in front
pub cut : {B : Type 0} (key : B → ℕ) (m : ℕ) (x x' y y' : List B) → Each (λ b. key b < m) x → Each (λ b. key b < m) x' → Each (λ b. m ≤ key b) y → Each (λ b. m ≤ key b) y'
    → x ++ y ≡ x' ++ y' → (x ≡ x') × (y ≡ y')
cut key m [] [] y y' lx lx' hy hy' e = (refl, e)
cut key m [] (b ∷ x') y y' lx lx' hy hy' e = let low = lx'.0 in let high = (subst (Each (λ b. m ≤ key b)) e hy).0 in absurd (omega arith)
cut key m (b ∷ x) [] y y' lx lx' hy hy' e = let low = lx.0 in let high = (subst (Each (λ b. m ≤ key b)) (sym e) hy').0 in absurd (omega arith)
cut key m (b ∷ x) (b' ∷ x') y y' lx lx' hy hy' e =
    let rest = cut key m x x' y y' lx.1 lx'.1 hy hy' (tail-eq_of_cons-eq e) in
    (λ i. head-eq_of_cons-eq e i ∷ rest.0 i, rest.1)

-- by length
pub cut_at : {B : Type 0} (x x' y y' : List B) → length x ≡ length x' → x ++ y ≡ x' ++ y' → (x ≡ x') × (y ≡ y')
cut_at [] [] y y' n e = (refl, e)
cut_at [] (b ∷ x') y y' n e = absurd (omega arith)
cut_at (b ∷ x) [] y y' n e = absurd (omega arith)
cut_at (b ∷ x) (b' ∷ x') y y' n e = let rest = cut_at x x' y y' (omega arith) (tail-eq_of_cons-eq e) in (λ i. head-eq_of_cons-eq e i ∷ rest.0 i, rest.1)

-- ## Sizes
abbrev pub total : {A : Type 0} → (A → ℕ) → List A → ℕ
total size [] = 0
total size (a ∷ l) = size a + total size l

pub total-same : {A : Type 0} (size : A → ℕ) (l l' : List A) → map size l ≡ map size l' → total size l ≡ total size l'
total-same size [] [] e = refl
total-same size [] (a ∷ l') e = absurd (nil≢cons e)
total-same size (a ∷ l) [] e = absurd (cons≢nil e)
total-same size (a ∷ l) (a' ∷ l') e = let h = head-eq_of_cons-eq e in let t = total-same size l l' (tail-eq_of_cons-eq e) in omega arith

pub length-gather : {A B : Type 0} (g : A → List B) (l : List A) → length (gather g l) ≡ total (λ a. length (g a)) l
length-gather g [] = refl
length-gather g (a ∷ l) = let n = length-append (g a) (gather g l) in let t = length-gather g l in omega arith

-- ## What each thing gives, cut by length
pub gather-agree : {A B : Type 0} (g : A → List B) (l l' : List A) → map (λ a. length (g a)) l ≡ map (λ a. length (g a)) l' → gather g l ≡ gather g l' → map g l ≡ map g l'
gather-agree g [] [] n e = refl
gather-agree g [] (a ∷ l') n e = absurd (nil≢cons n)
gather-agree g (a ∷ l) [] n e = absurd (cons≢nil n)
gather-agree g (a ∷ l) (a' ∷ l') n e =
    let here = cut_at (g a) (g a') (gather g l) (gather g l') (head-eq_of_cons-eq n) e in
    let rest = gather-agree g l l' (tail-eq_of_cons-eq n) here.1 in
    λ i. here.0 i ∷ rest i

-- ## One row for each thing
pub along_map : {A R C : Type 0} (size : A → ℕ) (row : ℕ → A → R) (h : R → C) (g : A → C) → ((p : ℕ) (a : A) → h (row p a) ≡ g a)
    → (p : ℕ) (l : List A) → map h (along size (λ p a. row p a ∷ []) p l) ≡ map g l
along_map size row h g e p [] = refl
along_map size row h g e p (a ∷ l) = let here = e p a in let rest = along_map size row h g e (p + size a) l in λ i. here i ∷ rest i

pub rows_agree : {A R C : Type 0} (size : A → ℕ) (row : ℕ → A → R) (h : R → C) (g : A → C) → ((p : ℕ) (a : A) → h (row p a) ≡ g a)
    → (p p' : ℕ) (l l' : List A) → along size (λ p a. row p a ∷ []) p l ≡ along size (λ p a. row p a ∷ []) p' l' → map g l ≡ map g l'
rows_agree size row h g e p p' l l' d = sym (along_map size row h g e p l) ∙ ap (map h) d ∙ along_map size row h g e p' l'

pub along-each : {A B : Type 0} (P : B → Type 0) (size : A → ℕ) (f : ℕ → A → List B) (p : ℕ) (l : List A) → Each (λ a. (p : ℕ) → Each P (f p a)) l → Each P (along size f p l)
along-each P size f p [] e = tt
along-each P size f p (a ∷ l) e = each_append P (f p a) (along size f (p + size a) l) (e.0 p) (along-each P size f (p + size a) l e.1)

-- ## Rows inside the range of their thing
pub record Within (first size row : ℕ) : Type 0 where
  pub low : first ≤ row
  pub high : row < first + size

-- every row that f gives for a lies in the range of a, wherever that begins; key: the row that is meant
abbrev pub Own : {A B : Type 0} → (A → ℕ) → (B → ℕ) → (ℕ → A → List B) → A → Type 0
Own size key f a = (p : ℕ) → Each (λ b. Within p (size a) (key b)) (f p a)

pub along-own : {A B : Type 0} (size : A → ℕ) (key : B → ℕ) (f : ℕ → A → List B) (p : ℕ) (l : List A) → Each (Own size key f) l → Each (λ b. Within p (total size l) (key b)) (along size f p l)
along-own size key f p [] e = tt
along-own size key f p (a ∷ l) e = each_append (λ b. Within p (size a + total size l) (key b)) (f p a) (along size f (p + size a) l)
    (each_map (λ b. Within p (size a) (key b)) (λ b. Within p (size a + total size l) (key b)) (λ b w. omega arith) (f p a) (e.0 p))
    (each_map (λ b. Within (p + size a) (total size l) (key b)) (λ b. Within p (size a + total size l) (key b)) (λ b w. omega arith) (along size f (p + size a) l) (along-own size key f (p + size a) l e.1))

pub within-below : {B : Type 0} (key : B → ℕ) (p size : ℕ) (l : List B) → Each (λ b. Within p size (key b)) l → Each (λ b. key b < p + size) l
within-below key p size = each_map (λ b. Within p size (key b)) (λ b. key b < p + size) (λ b w. w.high)

pub within-from : {B : Type 0} (key : B → ℕ) (p size : ℕ) (l : List B) → Each (λ b. Within p size (key b)) l → Each (λ b. p ≤ key b) l
within-from key p size = each_map (λ b. Within p size (key b)) (λ b. p ≤ key b) (λ b w. w.low)

-- THE LAW. Things of the same sizes (h tells the size), each with its rows inside its own range: equal tables are cut into the same blocks,
-- and what g is of each thing is told by its block.
module _ {A B H G : Type 0} (size : A → ℕ) (key : B → ℕ) (f f' : ℕ → A → List B) (h : A → H) (g : A → G) (P P' : A → Type 0)
    (sized : (a a' : A) → h a ≡ h a' → size a ≡ size a')
    (own : (a : A) → P a → Own size key f a) (own' : (a : A) → P' a → Own size key f' a)
    (told : (p : ℕ) (a a' : A) → P a → P' a' → h a ≡ h a' → f p a ≡ f' p a' → g a ≡ g a') where
  pub blocks-agree : (p : ℕ) (l l' : List A) → Each P l → Each P' l' → map h l ≡ map h l' → along size f p l ≡ along size f' p l' → map g l ≡ map g l'
  blocks-agree p [] [] e e' n d = refl
  blocks-agree p [] (a ∷ l') e e' n d = absurd (nil≢cons n)
  blocks-agree p (a ∷ l) [] e e' n d = absurd (cons≢nil n)
  blocks-agree p (a ∷ l) (a' ∷ l') e e' n d =
      let same : size a ≡ size a' = sized a a' (head-eq_of_cons-eq n) in
      let at : p + size a' ≡ p + size a = omega arith in
      let d₁ : f p a ++ along size f (p + size a) l ≡ f' p a' ++ along size f' (p + size a) l' = subst (λ (q : ℕ). f p a ++ along size f (p + size a) l ≡ f' p a' ++ along size f' q l') at d in
      let behind = along-own size key f (p + size a) l (each_map P (Own size key f) own l e.1) in
      let behind' = along-own size key f' (p + size a) l' (each_map P' (Own size key f') own' l' e'.1) in
      let here = within-below key p (size a) (f p a) (own a e.0 p) in
      let here' = subst (λ (q : ℕ). Each (λ b. key b < q) (f' p a')) at (within-below key p (size a') (f' p a') (own' a' e'.0 p)) in
      let c = cut key (p + size a) (f p a) (f' p a') (along size f (p + size a) l) (along size f' (p + size a) l') here here'
      (within-from key (p + size a) (total size l) (along size f (p + size a) l) behind) (within-from key (p + size a) (total size l') (along size f' (p + size a) l') behind') d₁ in
      let head = told p a a' e.0 e'.0 (head-eq_of_cons-eq n) c.0 in
      let rest = blocks-agree (p + size a) l l' e.1 e'.1 (tail-eq_of_cons-eq n) c.1 in
      λ i. head i ∷ rest i

-- ## Things that name points of their own
-- each x of a names, by its number w, a point of a
abbrev pub Names : {A X : Type 0} → (A → ℕ) → (X → ℕ) → (A → List X) → A → Type 0
Names size w xs a = Each (λ x. Between 1 (size a) (w x)) (xs a)

pub names-own : {A X B : Type 0} (size : A → ℕ) (key : B → ℕ) (row : ℕ → X → B) (w : X → ℕ) (xs : A → List X) → ((p : ℕ) (x : X) → key (row p x) ≡ the_row_of p (w x))
    → (a : A) → Names size w xs a → Own size key (λ p a. map (row p) (xs a)) a
names-own size key row w xs at a e p = each-of_map (λ b. Within p (size a) (key b)) (row p) (xs a)
    (each_map (λ x. Between 1 (size a) (w x)) (λ x. Within p (size a) (key (row p x))) (λ x b. let k = at p x in omega arith) (xs a) e)

-- so equal tables come from the same names. told: what a row says besides the point
module _ {A X B : Type 0} (size : A → ℕ) (key : B → ℕ) (row row' : ℕ → X → B) (w : X → ℕ) (xs : A → List X) (Q Q' : X → Type 0)
    (at : (p : ℕ) (x : X) → key (row p x) ≡ the_row_of p (w x)) (at' : (p : ℕ) (x : X) → key (row' p x) ≡ the_row_of p (w x))
    (told : (p : ℕ) (x x' : X) → w x ≡ w x' → Q x → Q' x' → row p x ≡ row' p x' → x ≡ x') where
  abbrev Of : (X → Type 0) → A → Type 0
  Of Q a = Names size w xs a × Each Q (xs a)

  names-told : (p : ℕ) (a a' : A) → Of Q a → Of Q' a' → size a ≡ size a' → map (row p) (xs a) ≡ map (row' p) (xs a') → xs a ≡ xs a'
  names-told p a a' e e' n d = equal_by (λ x. Between 1 (size a) (w x) × Q x) (λ x. Between 1 (size a') (w x) × Q' x) (row p) (row' p)
      (λ x x' q q' r.
      let k = at p x in let k' = at' p x' in let m = ap key r in
      let low = q.0.low in let low' = q'.0.low in
      told p x x' (omega arith) q.1 q'.1 r)
      (xs a) (xs a') (each_both (λ x. Between 1 (size a) (w x)) Q (xs a) e.0 e.1) (each_both (λ x. Between 1 (size a') (w x)) Q' (xs a') e'.0 e'.1) d

  pub names-agree : (p : ℕ) (l l' : List A) → Each (Names size w xs) l → Each (λ a. Each Q (xs a)) l → Each (Names size w xs) l' → Each (λ a. Each Q' (xs a)) l' → map size l ≡ map size l'
      → along size (λ p a. map (row p) (xs a)) p l ≡ along size (λ p a. map (row' p) (xs a)) p l' → map xs l ≡ map xs l'
  names-agree p l l' e q e' q' n d = blocks-agree size key (λ p a. map (row p) (xs a)) (λ p a. map (row' p) (xs a)) size xs (Of Q) (Of Q') (λ a a' s. s)
      (λ a o. names-own size key row w xs at a o.0) (λ a o. names-own size key row' w xs at' a o.0) names-told
      p l l' (each_both (Names size w xs) (λ a. Each Q (xs a)) l e q) (each_both (Names size w xs) (λ a. Each Q' (xs a)) l' e' q') n d

-- ## Rows of things of one sort in front of rows of things of another
pub halves : {A Z B : Type 0} (size : A → ℕ) (size₁ : Z → ℕ) (key : B → ℕ) (f f' : ℕ → A → List B) (k k' : ℕ → Z → List B) (m m' : ℕ) (l l' : List A) (u u' : List Z)
    → Each (Own size key f) l → Each (Own size key f') l' → Each (Own size₁ key k) u → Each (Own size₁ key k') u' → m ≡ total size l → m ≡ total size l' → m ≡ m'
    → along size f 0 l ++ along size₁ k m u ≡ along size f' 0 l' ++ along size₁ k' m' u' → (along size f 0 l ≡ along size f' 0 l') × (along size₁ k m u ≡ along size₁ k' m u')
halves size size₁ key f f' k k' m m' l l' u u' o o' q q' t t' s d =
    let w : 0 + total size l ≡ m = omega arith in
    let w' : 0 + total size l' ≡ m = omega arith in
    cut key m (along size f 0 l) (along size f' 0 l') (along size₁ k m u) (along size₁ k' m u')
    (subst (λ (j : ℕ). Each (λ b. key b < j) (along size f 0 l)) w (within-below key 0 (total size l) (along size f 0 l) (along-own size key f 0 l o)))
    (subst (λ (j : ℕ). Each (λ b. key b < j) (along size f' 0 l')) w' (within-below key 0 (total size l') (along size f' 0 l') (along-own size key f' 0 l' o')))
    (within-from key m (total size₁ u) (along size₁ k m u) (along-own size₁ key k m u q))
    (within-from key m (total size₁ u') (along size₁ k' m u') (along-own size₁ key k' m u' q'))
    (subst (λ (j : ℕ). along size f 0 l ++ along size₁ k m u ≡ along size f' 0 l' ++ along size₁ k' j u') (sym s) d)
