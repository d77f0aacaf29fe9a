-- THE LAW: a walk finds what `text` answers: the first fault with its line, 10, or what the statements of the text gather, each put where it stands. For every file. Assumes nothing.
use mathlib.Core.Path.{◌≡◌, refl, sym, ap, ap₂, subst, ◌∙◌}
use mathlib.Core.List.{List, [], ◌∷◌, ◌++◌}
use mathlib.Core.Option.{Option, none, some}
use mathlib.Core.Bool.{Bool, true, false}
use Prim.Native.Nat.{ℕ, zero, suc, ◌+◌}
use native.Mathlib.Omega.{arith}
use native.Mathlib.Nat.{add-zero, add-suc, suc-add}
use lib.ListN.{length}
use Rattle.terms.specs.Ascii.{Bytes}
use Rattle.terms.specs.Words.{pick}
use Rattle.line.specs.Lines.{lines_of}
use Rattle.grammar.specs.Language.{Lang, S}
use Rattle.grammar.specs.Machine.{Machine, Place, at}
use Rattle.text.specs.Judge.{Verdict, good, Lexis, judge}
use Rattle.text.specs.Judge as T
use Rattle.text.specs.Answers.{Walk, stopped, through, Answer, faulty, short, read, is_over, walk, answer, read_text}
use Rattle.text.specs.Answers as A
use Rattle.made_out.specs.Names.{told_as}
use Rattle.judge.specs.Judging.{Got, bad, blank, said, Judging, line}
use Rattle.judge.proofs.Judged as Judged
use Rattle.judge.proofs.Judged.{Ties, view, line-is, line-sound}
use Rattle.walk.specs.Standing.{Where, place, speaks, if_speaking, standing, places_in, over}
use Rattle.walk.specs.Walking.{Found, fault, gathered, onward, walked}
use Rattle.walk.proofs.Speaking.{is_some, speaks_is}

-- ## What is to be known of a program's lines
module _ {L : Lang} (M : Machine L) (X : Lexis L) (J : Judging) where
  open J use {St, Pl}

  -- what the program says, by its meaning; what `text` says, names by their places
  abbrev pub viewed : {Mean : Type 0} → (St → Mean) → (Pl → Place M) → Pl → Got St Pl → Verdict Mean (Place M)
  viewed meant abs p (bad n) = T.fault n
  viewed meant abs p blank = good none (abs p)
  viewed meant abs p (said s q) = good (some (meant s)) (abs q)

  abbrev pub renamed : {Mean : Type 0} → (S L → Mean) → Verdict (S L) (Place M) → Verdict Mean (Place M)
  renamed moved (T.fault n) = T.fault n
  renamed moved (good o q) = good (told_as moved o) q

  abbrev pub SoundGot : (Pl → Type 0) → Got St Pl → Type 0
  SoundGot Sound (bad n) = Unit {0}
  SoundGot Sound blank = Unit {0}
  SoundGot Sound (said s q) = Sound q

  -- at a sound place it says of a line what `text` says, and the next place is sound
  pub record Tells : Type 1 where
    pub Mean : Type 0
    pub meant : St → Mean
    pub moved : S L → Mean
    pub abs : Pl → Place M
    pub Sound : Pl → Type 0
    pub line_told : (p : Pl) → Sound p → (base : ℕ) (s : Bytes) → viewed meant abs p (line J s base p) ≡ renamed moved (judge M X (abs p) base s)
    pub line_stays : (p : Pl) → Sound p → (base : ℕ) (s : Bytes) → SoundGot Sound (line J s base p)

  -- so does a program that tells kinds, fields, statements and places as the machine does
  module _ (C : Ties M X J) where
    view-is : (p : Pl) (g : Got St Pl) → viewed C.meant C.abs p g ≡ view M X J C p g
    view-is p (bad n) = refl
    view-is p blank = refl
    view-is p (said s q) = refl

    renamed-is : (v : Verdict (S L) (Place M)) → Judged.renamed M X J C v ≡ renamed C.moved v
    renamed-is (T.fault n) = refl
    renamed-is (good o q) = refl

    sound-is : (g : Got St Pl) → Judged.SoundGot M X J C g → SoundGot C.Sound g
    sound-is (bad n) h = tt
    sound-is blank h = tt
    sound-is (said s q) h = h

    pub tied-told : (p : Pl) → C.Sound p → (base : ℕ) (s : Bytes) → viewed C.meant C.abs p (line J s base p) ≡ renamed C.moved (judge M X (C.abs p) base s)
    tied-told p h base s = view-is p (line J s base p) ∙ line-is M X J C p h base s ∙ renamed-is (judge M X (C.abs p) base s)

    pub tied-stays : (p : Pl) → C.Sound p → (base : ℕ) (s : Bytes) → SoundGot C.Sound (line J s base p)
    tied-stays p h base s = sound-is (line J s base p) (line-sound M X J C p h base s)

    abbrev pub tied : Tells
    tied = record { Mean = C.Mean; meant = C.meant; moved = C.moved; abs = C.abs; Sound = C.Sound; line_told = tied-told; line_stays = tied-stays }

-- ## The walk
module _ {L : Lang} (M : Machine L) (X : Lexis L) (J : Judging) (C : Tells M X J) {G : Type 0} (put : Where → J.St → G → G) (ended : J.Pl → Bool) (adds : Where → C.Mean → G → G)
    (put_is : (w : Where) (s : J.St) (c : G) → put w s c ≡ adds w (C.meant s) c) (ended_is : (p : J.Pl) → C.Sound p → ended p ≡ is_over M X (C.abs p)) where
  open J use {St, Pl}
  open C use {Mean, meant, moved, abs, Sound, line_told, line_stays}

  -- gathered over statements, each where it stands
  abbrev pub over-all : List Where → List (S L) → G → G
  over-all = over (λ w t. adds w (moved t))

  abbrev over-some : Where → Option (S L) → G → G
  over-some w none c = c
  over-some w (some t) c = adds w (moved t) c

  -- what is found where `text` walked so far; `last` is the line behind the lines
  abbrev pub outcome : ℕ → List Where → G → Walk (S L) (Place M) → Found G
  outcome last ws c (stopped i n) = fault i n
  outcome last ws c (through ts q) = pick (is_over M X q) (gathered (over-all ws ts c)) (fault last 10)

  goes_on : (last : ℕ) (w : Where) (ws : List Where) (c : G) (o : Option (S L)) (k : Walk (S L) (Place M)) → outcome last (if_speaking (is_some o) w ws) c (A.put M X o k) ≡ outcome last ws (over-some w o c) k
  unfolding over
  goes_on last w ws c none (stopped i n) = refl
  goes_on last w ws c (some t) (stopped i n) = refl
  goes_on last w ws c none (through ts q) = refl
  goes_on last w ws c (some t) (through ts q) = refl

  -- ## One line
  number-of : Verdict Mean (Place M) → ℕ
  number-of (T.fault n) = n
  number-of (good o q) = 0

  the_place_of : Place M → Verdict Mean (Place M) → Place M
  the_place_of p (T.fault n) = p
  the_place_of p (good o q) = q

  said_of : Verdict Mean (Place M) → Option Mean
  said_of (T.fault n) = none
  said_of (good o q) = o

  is-good : Verdict Mean (Place M) → ℕ
  is-good (T.fault n) = 0
  is-good (good o q) = 1

  abbrev added : Where → Option Mean → G → G
  added w none c = c
  added w (some m) c = adds w m c

  added_is : (w : Where) (u : Option (S L)) (c : G) → added w (told_as moved u) c ≡ over-some w u c
  added_is w none c = refl
  added_is w (some t) c = refl

  one_line : (last : ℕ) (w : Where) (b : Bool) (ws : List Where) (p : Pl) (c : G) (g : Got St Pl) (v : Verdict (S L) (Place M)) → Sound p → SoundGot M X J Sound g → viewed M X J meant abs p g ≡ renamed M X J moved v
      → ((o : Option (S L)) (q : Place M) → v ≡ good o q → b ≡ is_some o)
      → (k : Pl → G → Found G) (n : Place M → Walk (S L) (Place M)) → ((q : Pl) (d : G) → Sound q → k q d ≡ outcome last ws d (n (abs q)))
      → onward J put ended w p c g k ≡ outcome last (if_speaking b w ws) c (A.onward M X w.line v n)
  unfolding number-of the_place_of said_of is-good
  one_line last w b ws p c (bad n) (T.fault m) h s e z k x f = ap (fault w.line) (ap number-of e)
  one_line last w b ws p c (bad n) (good o q) h s e z k x f = absurd (let y : ◌≡◌ {A = ℕ} 0 1 = ap is-good e in omega arith)
  one_line last w b ws p c blank (T.fault m) h s e z k x f = absurd (let y : ◌≡◌ {A = ℕ} 1 0 = ap is-good e in omega arith)
  one_line last w b ws p c blank (good o q) h s e z k x f =
      f p c h
      ∙ ap₂ (λ (d : G) (y : Place M). outcome last ws d (x y)) (ap (λ (m : Option Mean). added w m c) (ap said_of e) ∙ added_is w o c) (ap (the_place_of q) e)
      ∙ sym (goes_on last w ws c o (x q))
      ∙ ap (λ (y : Bool). outcome last (if_speaking y w ws) c (A.put M X o (x q))) (sym (z o q refl))
  one_line last w b ws p c (said t r) (T.fault m) h s e z k x f = absurd (let y : ◌≡◌ {A = ℕ} 1 0 = ap is-good e in omega arith)
  one_line last w b ws p c (said t r) (good o q) h s e z k x f =
      f r (put w t c) s
      ∙ ap₂ (λ (d : G) (y : Place M). outcome last ws d (x y)) (put_is w t c ∙ ap (λ (m : Option Mean). added w m c) (ap said_of e) ∙ added_is w o c) (ap (the_place_of q) e)
      ∙ sym (goes_on last w ws c o (x q))
      ∙ ap (λ (y : Bool). outcome last (if_speaking y w ws) c (A.put M X o (x q))) (sym (z o q refl))

  -- ## All lines
  pub walked-is : (ls : List Bytes) (p : Pl) → Sound p → (c : G) (start i : ℕ) → walked J put ended p c start i ls ≡ outcome (i + length ls) (standing start i ls) c (walk M X (abs p) start i ls)
  unfolding walked walk standing over
  walked-is [] p h c start i = rw (ended_is p h, add-zero i)
  walked-is (l ∷ ls) p h c start i =
      one_line (i + suc (length ls)) (place start i l) (speaks start l) (standing (start + suc (length l)) (suc i) ls) p c (line J l start p) (judge M X (abs p) start l) h (line_stays p h start l) (line_told p h start l)
      (λ o q e. speaks_is M X (abs p) q start l o e)
      (λ q d. walked J put ended q d (start + suc (length l)) (suc i) ls) (λ q. walk M X q (start + suc (length l)) (suc i) ls)
      (λ q d y. walked-is ls q y d (start + suc (length l)) (suc i)
      ∙ ap (λ (n : ℕ). outcome n (standing (start + suc (length l)) (suc i) ls) d (walk M X (abs q) (start + suc (length l)) (suc i) ls)) (suc-add i (length ls) ∙ sym (add-suc i (length ls))))

  -- ## The answer
  abbrev pub answered : List Where → G → Answer (S L) → Found G
  answered ws c (faulty i n) = fault i n
  answered ws c (short i) = fault i 10
  answered ws c (read ts) = gathered (over-all ws ts c)

  answered-is : (n : ℕ) (ws : List Where) (c : G) (w : Walk (S L) (Place M)) → outcome (suc n) ws c w ≡ answered ws c (answer M X n w)
  answered-is n ws c (stopped i m) = refl
  answered-is n ws c (through ts q) = go (is_over M X q)
    where
      go : (b : Bool) → pick b (gathered (over-all ws ts c)) (fault (suc n) 10) ≡ answered ws c (pick b (read ts) (short (suc n)))
      go true = refl
      go false = refl

  -- of a text, from the first place on
  pub walk-answers : (first : M.Base) (p : Pl) → Sound p → abs p ≡ at M first → (c : G) (text : Bytes) → walked J put ended p c 0 1 (lines_of text) ≡ answered (places_in text) c (read_text M X first text)
  unfolding read_text
  walk-answers first p h e c text =
      let ls = lines_of text in
      let one : 1 + length ls ≡ suc (length ls) = omega arith in
      let so = walked-is ls p h c 0 1 in
      (rw (one, e) at so) ∙ answered-is (length ls) (places_in text) c (walk M X (at M first) 0 1 ls)

-- ## As many places as statements
module _ {L : Lang} (M : Machine L) (X : Lexis L) where
  walk-kind : Walk (S L) (Place M) → ℕ
  walk-kind (stopped i n) = 0
  walk-kind (through ts q) = 1

  said-by : Walk (S L) (Place M) → List (S L)
  said-by (stopped i n) = []
  said-by (through ts q) = ts

  length_if : (b : Bool) (o : Option (S L)) (w : Where) (ws : List Where) (ts : List (S L)) → b ≡ is_some o → length ws ≡ length ts → length (if_speaking b w ws) ≡ length (A.listed o ++ ts)
  length_if b none w ws ts e h = ap (λ (x : Bool). length (if_speaking x w ws)) e ∙ h
  length_if b (some t) w ws ts e h = ap (λ (x : Bool). length (if_speaking x w ws)) e ∙ ap suc h

  as-many-on : (ls : List Bytes) (p q : Place M) (start i : ℕ) (ts : List (S L)) → walk M X p start i ls ≡ through ts q → length (standing start i ls) ≡ length ts
  unfolding walk standing walk-kind said-by
  as-many-on [] p q start i ts e = ap length (ap said-by e)
  as-many-on (l ∷ ls) p q start i ts e = go (judge M X p start l) refl e (λ r s us x. as-many-on ls r s (start + suc (length l)) (suc i) us x)
    where
      behind : (o : Option (S L)) (r : Place M) (w : Walk (S L) (Place M)) → judge M X p start l ≡ good o r → walk M X r (start + suc (length l)) (suc i) ls ≡ w → A.put M X o w ≡ through ts q
          → ((us : List (S L)) (s : Place M) → walk M X r (start + suc (length l)) (suc i) ls ≡ through us s → length (standing (start + suc (length l)) (suc i) ls) ≡ length us)
          → length (if_speaking (speaks start l) (place start i l) (standing (start + suc (length l)) (suc i) ls)) ≡ length ts
      behind o r (stopped k n) v u f h = absurd (let z : ◌≡◌ {A = ℕ} 0 1 = ap walk-kind f in omega arith)
      behind o r (through us s) v u f h = length_if (speaks start l) o (place start i l) (standing (start + suc (length l)) (suc i) ls) us (speaks_is M X p r start l o v) (h us s u) ∙ ap length (ap said-by f)

      go : (v : Verdict (S L) (Place M)) → judge M X p start l ≡ v → A.onward M X i v (λ r. walk M X r (start + suc (length l)) (suc i) ls) ≡ through ts q
          → ((r s : Place M) (us : List (S L)) → walk M X r (start + suc (length l)) (suc i) ls ≡ through us s → length (standing (start + suc (length l)) (suc i) ls) ≡ length us)
          → length (if_speaking (speaks start l) (place start i l) (standing (start + suc (length l)) (suc i) ls)) ≡ length ts
      go (T.fault n) v f h = absurd (let z : ◌≡◌ {A = ℕ} 0 1 = ap walk-kind f in omega arith)
      go (good o r) v f h = behind o r (walk M X r (start + suc (length l)) (suc i) ls) v refl f (λ us s x. h r s us x)

  statements : Answer (S L) → List (S L)
  statements (faulty i n) = []
  statements (short i) = []
  statements (read us) = us

  answer-kind : Answer (S L) → ℕ
  answer-kind (faulty i n) = 0
  answer-kind (short i) = 0
  answer-kind (read us) = 1

  -- the statements of a text stand where its lines are not blank, one for one
  pub as_many : (first : M.Base) (text : Bytes) (ts : List (S L)) → read_text M X first text ≡ read ts → length (places_in text) ≡ length ts
  unfolding read_text statements answer-kind
  as_many first text ts e = go (walk M X (at M first) 0 1 (lines_of text)) refl e
    where
      over-or-not : (b : Bool) (us : List (S L)) (q : Place M) → walk M X (at M first) 0 1 (lines_of text) ≡ through us q → pick b (read us) (short (suc (length (lines_of text)))) ≡ read ts → length (places_in text) ≡ length ts
      over-or-not true us q w f = as-many-on (lines_of text) (at M first) q 0 1 us w ∙ ap length (ap statements f)
      over-or-not false us q w f = absurd (let z : ◌≡◌ {A = ℕ} 0 1 = ap answer-kind f in omega arith)

      go : (w : Walk (S L) (Place M)) → walk M X (at M first) 0 1 (lines_of text) ≡ w → answer M X (length (lines_of text)) w ≡ read ts → length (places_in text) ≡ length ts
      go (stopped i n) w f = absurd (let z : ◌≡◌ {A = ℕ} 0 1 = ap answer-kind f in omega arith)
      go (through us q) w f = over-or-not (is_over M X q) us q w f
