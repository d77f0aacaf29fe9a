-- THE THEOREM of L9's "Lines not listed come out byte for byte and in order" (`lines-kept`): a line is listed exactly if another thing comes out in its place; and where nothing is listed, the text comes out the same (`unlisted-same`). Assumes nothing.
use Rattle.std.specs.Prelude.{Some, None, Option}
use mathlib.Core.Path.{◌≡◌, refl, sym, ap, subst, ◌∙◌}
use mathlib.Core.Bool.{Bool, true, false}
use mathlib.Core.Logic.{◌⊎◌, inl, inr}
use native.Mathlib.Omega.{arith}
use lib.ListN.{length-append, length-drop}
use lib.Seq.{length-take-le, take_at, drop_at}
use borrow.Author.Tests.{eq-eqb}
use Rattle.terms.specs.Words.{List, [], ◌∷◌, ◌++◌, ◌&&◌, map, ℕ, suc, ◌+◌, ◌≤◌, ◌<◌, length, take, drop, pick, Bytes, Each, Among}
use Rattle.terms.proofs.Tests.{clash}
use Rattle.line.specs.Line.{lf, Field}
use Rattle.line.specs.Lines.{lines_of}
use Rattle.line.proofs.Cuts.{cut}
use Rattle.number.specs.Decimal.{decimal}
use Rattle.number.specs.Executable.{the_integer_of}
use Rattle.number.proofs.Decimals.{decimal-same}
use Rattle.number.proofs.Integers.{integer-right}
use Rattle.law.specs.Tables.{gather}
use Rattle.mend_law.specs.Mend.{is, one_of, fields, first_field, Count, count, count_lines, items, Change, stays, goes, recount, disagrees, corrected, recounted, the_count_change_of, since, given_again, change, piece, row, LineChange, changes_from, changes, mended_text, listed_rows}
use Rattle.mend_law.specs.Kept.{LinesKept}
use Rattle.mend_law.proofs.Ties.{whole, Stands, stands-longer, second-stands, Wholes, wholes}

-- the numbers of rows
abbrev numbers : List (List ℕ) → List ℕ
numbers = gather (take 1)

abbrev rows_from : (i : ℕ) (before : List Bytes) (text : Bytes) (lines : List Bytes) → List (List ℕ)
rows_from i before text lines = gather (λ c. row c.line c.change) (changes_from i before text lines)

-- ## A line that is not listed is the same
row_listed : (i : ℕ) (c : Change) (w : Bytes) (rest : List (List ℕ)) → (Among i (numbers (row i c ++ rest)) → ⊥) → piece c w ≡ w
row_listed i stays w rest h = refl
row_listed i (goes k) w rest h = absurd (h (inl refl))
row_listed i (recount f n) w rest h = absurd (h (inl refl))

-- the numbers of later rows are among them
row-later : (i j : ℕ) (c : Change) (rest : List (List ℕ)) → Among j (numbers rest) → Among j (numbers (row i c ++ rest))
row-later i j stays rest h = h
row-later i j (goes k) rest h = inr h
row-later i j (recount f n) rest h = inr h

kept_from : (all : List ℕ) (i : ℕ) (before : List Bytes) (text : Bytes) (lines : List Bytes) → ((j : ℕ) → Among j (numbers (rows_from i before text lines)) → Among j all)
    → Each (λ c. (Among c.line all → ⊥) → piece c.change c.whole ≡ c.whole) (changes_from i before text lines)
unfolding changes_from
kept_from all i before text [] h = tt
kept_from all i before text (l ∷ rest) h =
    let later = rows_from (suc i) (first_field l ∷ before) (drop (suc (length l)) text) rest in
    let c = change before l (map first_field rest) in
    ((λ no. row_listed i c (take (suc (length l)) text) later (λ a. no (h i a))), kept_from all (suc i) (first_field l ∷ before) (drop (suc (length l)) text) rest (λ j a. h j (row-later i j c later a)))

-- ## A line that is listed is another
-- a stretch replaced, and the same as before: what it was replaced by stood there
replaced : (w d : Bytes) (a n : ℕ) → a + n ≤ length w → take a w ++ (d ++ drop (a + n) w) ≡ w → d ≡ take n (drop a w)
replaced w d a n h e =
    let p : length (take a w) ≡ a = length-take-le a w (omega arith) in
    let q : length (drop (a + n) w) + (a + n) ≡ length w = omega (arith, length-drop (a + n) w) in
    let r : length (take a w) + (length d + length (drop (a + n) w)) ≡ length w = sym (simp length-append) ∙ ap length e in
    let k : length d ≡ n = omega arith in
    let b : drop a w ≡ d ++ drop (a + n) w = ap (drop a) (sym e) ∙ drop_at (take a w) (d ++ drop (a + n) w) a p in
    sym (ap (take n) b ∙ take_at d (drop (a + n) w) n k)

-- what is said of a number that is replaced: it is the second of two fields, and disagrees
abbrev Recounts : List Field → Change → Type 0
Recounts fs c = (f : Field) (n : ℕ) → c ≡ recount f n → (w : Field) × (fs ≡ w ∷ f ∷ []) × (disagrees (the_integer_of f.bytes) n ≡ true)

none_recounts : (fs : List Field) → Recounts fs stays
none_recounts fs f n e = absurd (let z : ◌≡◌ {A = ℕ} 0 1 = cc in omega arith)

gone_recounts : (fs : List Field) (k : ℕ) → Recounts fs (goes k)
gone_recounts fs k f n e = absurd (let z : ◌≡◌ {A = ℕ} 0 1 = cc in omega arith)

either_recounts : (fs : List Field) (x : Bool) (a b : Change) → Recounts fs a → Recounts fs b → Recounts fs (pick x a b)
either_recounts fs true a b p q = p
either_recounts fs false a b p q = q

corrected_recounts : (w f : Field) (n : ℕ) → Recounts (w ∷ f ∷ []) (corrected f n)
corrected_recounts w f n g m e = go (disagrees (the_integer_of f.bytes) n) refl e
  where
    go : (x : Bool) → disagrees (the_integer_of f.bytes) n ≡ x → pick x (recount f n) stays ≡ recount g m → (v : Field) × (w ∷ f ∷ [] ≡ v ∷ g ∷ []) × (disagrees (the_integer_of g.bytes) m ≡ true)
    go true d e =
        let p : f ≡ g = cc in
        let q : n ≡ m = cc in
        (w, ap (λ (x : Field). w ∷ x ∷ []) p, (λ i. disagrees (the_integer_of (sym p i).bytes) (sym q i)) ∙ d)
    go false d e = absurd (let z : ◌≡◌ {A = ℕ} 0 1 = cc in omega arith)

recounted_recounts : (cs : List Count) (w f : Field) (word : Bytes) (behind : List Bytes) → Recounts (w ∷ f ∷ []) (recounted cs word f behind)
recounted_recounts [] w f word behind = none_recounts (w ∷ f ∷ [])
recounted_recounts (count v item end ∷ cs) w f word behind = either_recounts (w ∷ f ∷ []) (is v word) (corrected f (items item end behind)) (recounted cs word f behind) (corrected_recounts w f (items item end behind)) (recounted_recounts cs w f word behind)

count_recounts : (fs : List Field) (behind : List Bytes) → Recounts fs (the_count_change_of fs behind)
count_recounts [] behind = none_recounts []
count_recounts (w ∷ []) behind = none_recounts (w ∷ [])
count_recounts (w ∷ f ∷ []) behind = recounted_recounts count_lines w f w.bytes behind
count_recounts (w ∷ f ∷ g ∷ more) behind = none_recounts (w ∷ f ∷ g ∷ more)

change_recounts : (before : List Bytes) (l : Bytes) (behind : List Bytes) → Recounts (fields l) (change before l behind)
unfolding change
change_recounts before l behind =
    let fs = fields l in
    either_recounts fs (one_of before _) _ _ (either_recounts fs (is "" (first_field l)) stays (goes 3) (none_recounts fs) (gone_recounts fs 3))
    (either_recounts fs (given_again (since before) (first_field l)) (goes 2) (the_count_change_of fs behind) (gone_recounts fs 2) (count_recounts fs behind))

and-off : (x : Bool) → (x && false) ≡ false
and-off true = refl
and-off false = refl

-- the number that it was disagrees with the new one, so their digits differ
digits-differ : (bytes : Bytes) (n : ℕ) → disagrees (the_integer_of bytes) n ≡ true → decimal n ≡ bytes → ⊥
digits-differ bytes n d e = go (the_integer_of bytes) refl d
  where
    go : (x : Option ℕ) → the_integer_of bytes ≡ x → disagrees x n ≡ true → ⊥
    go (Some m) q d =
        let s = decimal-same m n (sym (integer-right bytes m q).spelled ∙ sym e) in
        clash (sym (rw (eq-eqb m n s, and-off, and-off) at d))
    go None q d = clash (sym d)

recount-differs : (l w : Bytes) (before behind : List Bytes) (f : Field) (n : ℕ) → (w ≡ l) ⊎ (w ≡ l ++ (lf ∷ [])) → change before l behind ≡ recount f n → piece (recount f n) w ≡ w → ⊥
recount-differs l w before behind f n o e s =
    let r = change_recounts before l behind f n e in
    let h = second-stands l r.0 f r.1 in
    let t = stands o h in
    digits-differ f.bytes n r.2 (replaced w (decimal n) f.start (length f.bytes) t.inside s ∙ t.is)
  where
    stands : (w ≡ l) ⊎ (w ≡ l ++ (lf ∷ [])) → Stands l f → Stands w f
    stands (inl e) h = subst (λ (x : Bytes). Stands x f) (sym e) h
    stands (inr e) h = subst (λ (x : Bytes). Stands x f) (sym e) (stands-longer l (lf ∷ []) f h)

differs : (i : ℕ) (before : List Bytes) (l w : Bytes) (behind : List Bytes) (later : List (List ℕ)) → 0 < length w → (w ≡ l) ⊎ (w ≡ l ++ (lf ∷ [])) → Among i (numbers (row i (change before l behind) ++ later)) → (Among i (numbers later) → ⊥)
    → piece (change before l behind) w ≡ w → ⊥
differs i before l w behind later some o a fresh s = go (change before l behind) refl a s
  where
    go : (c : Change) → change before l behind ≡ c → Among i (numbers (row i c ++ later)) → piece c w ≡ w → ⊥
    go stays e a s = fresh a
    go (goes k) e a s = omega (arith, some, ap length s)
    go (recount f n) e a s = recount-differs l w before behind f n o e s

-- the numbers of rows from the i-th line on are i or more
above : (i : ℕ) (before : List Bytes) (text : Bytes) (lines : List Bytes) (j : ℕ) → Among j (numbers (rows_from i before text lines)) → i ≤ j
unfolding changes_from
above i before text [] j a = absurd a
above i before text (l ∷ rest) j a = go (change before l (map first_field rest)) (rows_from (suc i) (first_field l ∷ before) (drop (suc (length l)) text) rest) a (above (suc i) (first_field l ∷ before) (drop (suc (length l)) text) rest j)
  where
    go : (c : Change) (later : List (List ℕ)) → Among j (numbers (row i c ++ later)) → (Among j (numbers later) → suc i ≤ j) → i ≤ j
    go stays later a h = let k = h a in omega arith
    go (goes k) later (inl e) h = omega arith
    go (goes k) later (inr a) h = let k = h a in omega arith
    go (recount f n) later (inl e) h = omega arith
    go (recount f n) later (inr a) h = let k = h a in omega arith

row_other : (i j : ℕ) (c : Change) (rest : List (List ℕ)) → suc i ≤ j → Among j (numbers (row i c ++ rest)) → Among j (numbers rest)
row_other i j stays rest l a = a
row_other i j (goes k) rest l (inl e) = absurd (omega arith)
row_other i j (goes k) rest l (inr a) = a
row_other i j (recount f n) rest l (inl e) = absurd (omega arith)
row_other i j (recount f n) rest l (inr a) = a

listed-from : (all : List ℕ) (i : ℕ) (before : List Bytes) (text : Bytes) (lines : List Bytes) → Wholes text lines → ((j : ℕ) → i ≤ j → Among j all → Among j (numbers (rows_from i before text lines)))
    → Each (λ c. Among c.line all → piece c.change c.whole ≡ c.whole → ⊥) (changes_from i before text lines)
unfolding changes_from
listed-from all i before text [] w h = tt
listed-from all i before text (l ∷ rest) w h =
    let left = drop (suc (length l)) text in
    let behind = map first_field rest in
    let later = rows_from (suc i) (first_field l ∷ before) left rest in (
      (λ a s. differs i before l (take (suc (length l)) text) behind later w.0 w.1 (h i (omega arith) a) (λ b. let k = above (suc i) (first_field l ∷ before) left rest i b in omega arith) s),
      listed-from all (suc i) (first_field l ∷ before) left rest w.2 (λ j k a. row_other i j (change before l behind) later k (h j (omega arith) a)),
    )

pub lines-kept : (text : Bytes) → LinesKept text
unfolding listed_rows
lines-kept text = record {
  whole = whole text;
  kept = kept_from (numbers (listed_rows text)) 1 [] text (lines_of text) (λ j a. a);
  listed = listed-from (numbers (listed_rows text)) 1 [] text (lines_of text) (wholes (cut text)) (λ j k a. a);
}

-- ## Nothing listed, nothing changed
pub record Unchanged (text : Bytes) : Type 0 where
  pub same : mended_text text ≡ text
  pub nothing_listed : listed_rows text ≡ []

row-nothing : (i : ℕ) (c : Change) (w : Bytes) (rest : List (List ℕ)) → row i c ++ rest ≡ [] → (piece c w ≡ w) × (rest ≡ [])
row-nothing i stays w rest e = (refl, e)
row-nothing i (goes k) w rest e = absurd (let z : ◌≡◌ {A = ℕ} (suc (length rest)) 0 = ap length e in omega arith)
row-nothing i (recount f n) w rest e = absurd (let z : ◌≡◌ {A = ℕ} (suc (length rest)) 0 = ap length e in omega arith)

same_from : (i : ℕ) (before : List Bytes) (text : Bytes) (lines : List Bytes) → rows_from i before text lines ≡ [] → gather (λ c. piece c.change c.whole) (changes_from i before text lines) ≡ gather (λ c. c.whole) (changes_from i before text lines)
unfolding changes_from
same_from i before text [] e = refl
same_from i before text (l ∷ rest) e =
    let r = row-nothing i (change before l (map first_field rest)) (take (suc (length l)) text) (rows_from (suc i) (first_field l ∷ before) (drop (suc (length l)) text) rest) e in
    let s = same_from (suc i) (first_field l ∷ before) (drop (suc (length l)) text) rest r.1 in
    λ k. r.0 k ++ s k

pub unlisted-same : (text : Bytes) → listed_rows text ≡ [] → Unchanged text
unfolding mended_text listed_rows
unlisted-same text e = record { same = same_from 1 [] text (lines_of text) e ∙ whole text; nothing_listed = e }
