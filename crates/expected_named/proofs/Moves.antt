-- A walk over lines, by what they say: lines one behind the other, blank ones passed over. For every walk. Assumes nothing.
use mathlib.Core.Path.{◌≡◌, refl, sym, ap, ap₂, subst, ◌∙◌}
use mathlib.Core.List.{List, [], ◌∷◌, ◌++◌, map, append_assoc, head-eq_of_cons-eq, tail-eq_of_cons-eq, nil≢cons}
use Prim.Native.Nat.{ℕ, suc}
use Rattle.terms.specs.Ascii.{Bytes}
use Rattle.terms.specs.Words.{Each, InTurn, nothing, then}
use Rattle.law.specs.Network.{Edition, Said, Line, reading, Says, SayLines, done, blank, statement, Mixed, none, left, right, AnyOrder}

-- what things give that are numbered i, i + 1, .., one behind the other
abbrev pub in_turn : {A X : Type 0} → (ℕ → A → List X) → ℕ → List A → List X
in_turn out i [] = []
in_turn out i (a ∷ l) = out i a ++ in_turn out (suc i) l

pub turns_same : {A X : Type 0} (out other : ℕ → A → List X) → ((i : ℕ) (a : A) → out i a ≡ other i a) → (i : ℕ) (l : List A) → in_turn out i l ≡ in_turn other i l
turns_same out other e i [] = refl
turns_same out other e i (a ∷ l) = ap₂ ◌++◌ (e i a) (turns_same out other e (suc i) l)

pub turns-none : {A X : Type 0} (out : ℕ → A → List X) → ((i : ℕ) (a : A) → out i a ≡ []) → (i : ℕ) (l : List A) → in_turn out i l ≡ []
turns-none out e i [] = refl
turns-none out e i (a ∷ l) = ap₂ ◌++◌ (e i a) (turns-none out e (suc i) l)

-- lines that say one list behind another are lines of the one, and of the other
pub record Split (d : Edition) (start : ℕ) (lines : List Bytes) (a b : List Line) : Type 0 where
  pub front : List Bytes
  pub behind : List Bytes
  pub at : ℕ
  pub made : lines ≡ front ++ behind
  pub first : SayLines (reading d) start front a
  pub second : SayLines (reading d) at behind b

split_at : (d : Edition) {start : ℕ} {lines : List Bytes} {said : List Line} → SayLines (reading d) start lines said → (a b : List Line) → said ≡ a ++ b → Split d start lines a b
split_at d {start} done [] b e = record { front = []; behind = []; at = start; made = refl; first = done; second = subst (SayLines (reading d) start []) e done }
split_at d done (l ∷ a) b e = absurd (nil≢cons e)
split_at d (blank {line = x} s t) a b e =
    let r = split_at d t a b e in
    record { front = x ∷ r.front; behind = r.behind; at = r.at; made = ap (◌∷◌ x) r.made; first = blank s r.first; second = r.second }
split_at d (statement {start = start} {line = x} {lines = lines} s t) [] b e = record { front = []; behind = x ∷ lines; at = start; made = refl; first = done; second = subst (SayLines (reading d) start (x ∷ lines)) e (statement s t) }
split_at d (statement {start = start} {line = x} s t) (l ∷ a) b e =
    let r = split_at d t a b (tail-eq_of_cons-eq e) in
    record { front = x ∷ r.front; behind = r.behind; at = r.at; made = ap (◌∷◌ x) r.made; first = subst (λ (m : Line). SayLines (reading d) start (x ∷ r.front) (m ∷ a)) (head-eq_of_cons-eq e) (statement s r.first); second = r.second }

pub split : (d : Edition) {start : ℕ} {lines : List Bytes} (a b : List Line) → SayLines (reading d) start lines (a ++ b) → Split d start lines a b
split d a b h = split_at d h a b refl

module _ (d : Edition) {S X : Type 0} (run : S → List Bytes → List X) where
  -- from the state s, over lines that say this, `out` comes out and the state is t
  pub record Moves (s : S) (out : List X) (t : S) (said : List Line) : Type 0 where
    pub is : {start : ℕ} {lines : List Bytes} → SayLines (reading d) start lines said → (rest : List Bytes) → run s (lines ++ rest) ≡ out ++ run t rest

  -- whatever the state is
  abbrev pub Gives : List X → List Line → Type 0
  Gives out said = (s : S) → (t : S) × Moves s out t said

  abbrev pub Quiet : Line → Type 0
  Quiet l = Gives [] (l ∷ [])

  pub both : {s t u : S} {x y : List X} (a b : List Line) → Moves s x t a → Moves t y u b → Moves s (x ++ y) u (a ++ b)
  both {s} {t} {u} {x} {y} a b m n = record { is = λ h rest. go (split d a b h) rest }
    where
      go : {start : ℕ} {lines : List Bytes} → Split d start lines a b → (rest : List Bytes) → run s (lines ++ rest) ≡ (x ++ y) ++ run u rest
      go r rest =
          ap (λ (l : List Bytes). run s (l ++ rest)) r.made ∙ ap (run s) (append_assoc r.front r.behind rest) ∙ m.is r.first (r.behind ++ rest)
          ∙ ap (◌++◌ x) (n.is r.second rest) ∙ sym (append_assoc x y (run u rest))

  pub gives_both : {x y : List X} (a b : List Line) → Gives x a → Gives y b → Gives (x ++ y) (a ++ b)
  gives_both a b g h s =
      let p = g s in
      let q = h p.0 in
      (q.0, both a b p.1 q.1)

  -- blank lines change nothing
  module _ (passes : (s : S) (start : ℕ) (l : Bytes) (rest : List Bytes) → Says (reading d) start l [] → run s (l ∷ rest) ≡ run s rest) where
    none_is : (s : S) {start : ℕ} {lines : List Bytes} → SayLines (reading d) start lines [] → (rest : List Bytes) → run s (lines ++ rest) ≡ run s rest
    none_is s done rest = refl
    none_is s (blank {start = a} {line = l} {lines = ls} h t) rest = passes s a l (ls ++ rest) h ∙ none_is s t rest

    pub stays : (s : S) → Moves s [] s []
    stays s = record { is = λ h rest. none_is s h rest }

    pub gives_none : Gives [] []
    gives_none s = (s, stays s)

    -- one line
    pub one : (s t : S) (out : List X) (v : Said) (vs : Line) → ((start : ℕ) (l : Bytes) (rest : List Bytes) → Says (reading d) start l (v ∷ vs) → run s (l ∷ rest) ≡ out ++ run t rest) → Moves s out t ((v ∷ vs) ∷ [])
    one s t out v vs f = record { is = λ h rest. go h rest }
      where
        go : {start : ℕ} {lines : List Bytes} → SayLines (reading d) start lines ((v ∷ vs) ∷ []) → (rest : List Bytes) → run s (lines ++ rest) ≡ out ++ run t rest
        go (blank {start = a} {line = l} {lines = ls} h k) rest = passes s a l (ls ++ rest) h ∙ go k rest
        go (statement {start = a} {line = l} {lines = ls} h k) rest = f a l (ls ++ rest) h ∙ ap (◌++◌ out) (none_is t k rest)

    -- ## Lines in any order
    pub data Outs : List Line → List X → Type 0 where
      nothing-out : Outs [] []
      next-out : {x : Line} {xs : List Line} {o os : List X} → Gives o (x ∷ []) → Outs xs os → Outs (x ∷ xs) (o ++ os)

    pub outs_give : {l : List Line} {o : List X} → Outs l o → Gives o l
    outs_give nothing-out = gives_none
    outs_give (next-out {x = x} {xs = xs} g p) = gives_both (x ∷ []) xs g (outs_give p)

    pub quiet-outs : (l : List Line) → Each Quiet l → Outs l []
    quiet-outs [] q = nothing-out
    quiet-outs (x ∷ l) q = next-out q.0 (quiet-outs l q.1)

    pub mixed-left : {l r options : List Line} {o : List X} → Outs l o → Each Quiet r → Mixed l r options → Outs options o
    mixed-left nothing-out q none = nothing-out
    mixed-left (next-out g p) q (left m) = next-out g (mixed-left p q m)
    mixed-left p q (right m) = next-out q.0 (mixed-left p q.1 m)

    pub mixed-right : {l r options : List Line} {o : List X} → Each Quiet l → Outs r o → Mixed l r options → Outs options o
    mixed-right q nothing-out none = nothing-out
    mixed-right q (next-out g p) (right m) = next-out g (mixed-right q p m)
    mixed-right q p (left m) = next-out q.0 (mixed-right q.1 p m)

    each-mixed : {l r options : List Line} → Each Quiet l → Each Quiet r → Mixed l r options → Each Quiet options
    each-mixed p q none = tt
    each-mixed p q (left m) = (p.0, each-mixed p.1 q m)
    each-mixed p q (right m) = (q.0, each-mixed p q.1 m)

    pub any-quiet : (ls : List (List Line)) (options : List Line) → Each (Each Quiet) ls → AnyOrder ls options → Each Quiet options
    any-quiet [] options q e = subst (Each Quiet) (sym e) tt
    any-quiet (l ∷ ls) options q m = each-mixed q.0 (any-quiet ls m.0 q.1 m.1) m.2

    pub each-quiet : {A : Type 0} (g : A → Line) → ((a : A) → Quiet (g a)) → (l : List A) → Each Quiet (map g l)
    each-quiet g q [] = tt
    each-quiet g q (a ∷ l) = (q a, each-quiet g q l)

    pub quiet_all : (l : List Line) → Each Quiet l → Gives [] l
    quiet_all l q = outs_give (quiet-outs l q)

    -- ## Parts in turn
    pub turns_give : {A : Type 0} {Spells : ℕ → A → List Line → Type 0} (out : ℕ → A → List X) → ((i : ℕ) (a : A) (u : List Line) → Spells i a u → Gives (out i a) u)
        → {i : ℕ} {l : List A} {lines : List Line} → InTurn Spells i l lines → Gives (in_turn out i l) lines
    turns_give out f nothing = gives_none
    turns_give out f (then {i = i} {a = a} {u = u} {v = v} p t) = gives_both u v (f i a u p) (turns_give out f t)
