-- Where nothing is to mend in what lines say, nothing is listed (`nothing_listed`): the three changes hang on what is told alike, and on the one number of a count line, which is its items'. Assumes nothing.
use Rattle.std.specs.Prelude.{Some, None, Option}
use mathlib.Core.Path.{◌≡◌, refl, sym, ap, subst, ◌∙◌}
use mathlib.Core.Logic.{inl, inr}
use borrow.Author.Tests.{eq-eqb}
use lib.Dec.{eqb, leb}
use Rattle.terms.specs.Words.{List, [], ◌∷◌, ◌++◌, map, Bool, true, false, not, ◌&&◌, ◌||◌, ℕ, suc, length, drop, Bytes, ascii, pick, Each}
use Rattle.terms.proofs.Tests.{clash}
use Rattle.scan.specs.Allowed.{digit}
use Rattle.scan.specs.Reach.{begins, same_bytes_of}
use Rattle.scan.proofs.Equal.{same-equal, equal-same}
use Rattle.line.specs.Line.{Field}
use Rattle.number.specs.Decimal.{decimal}
use Rattle.number.specs.Executable.{the_integer_of}
use Rattle.number.proofs.Decimals.{decimal-same}
use Rattle.number.proofs.Integers.{integer-right}
use Rattle.law.specs.Network.{Said, Line, numbers, largest}
use Rattle.law.specs.Tables.{gather}
use Rattle.law.specs.Faults.{options}
use Rattle.mend_law.specs.Mend.{fields, first_field, is, one_of, Count, count, count_lines, items, Change, stays, goes, recount, disagrees, corrected, recounted, the_count_change_of, opens_part_of, since, may_repeat, given_again, change, row, LineChange, changes_from}
use Rattle.mend_stays.specs.Said.{key, word_of, items_of, opened_of, given_of, may_repeat_in, single, Right, CountRight, Counted, Once, Within}
use Rattle.mend_stays.proofs.Alike.{Alike, alike_same, wordy, Plain, plain-counts}
use Rattle.mend_stays.proofs.Told.{says, Told, Tells, done, blank, firsts, first_alike, first-blank, items-agree, part-agree, given-agree, ended-agree}

-- ## What becomes of a line
nothing_opted : one_of options [] ≡ false
unfolding ascii same_bytes_of
nothing_opted = refl

nothing_is : is "" [] ≡ true
unfolding ascii same_bytes_of
nothing_is = refl

blank-stays : (before : List Bytes) (x : Bytes) (behind : List Bytes) → fields x ≡ [] → change before x behind ≡ stays
unfolding change
blank-stays before x behind e = rw (first-blank x e, e, nothing_opted, nothing_is) (go (one_of before (ascii "end_file")))
  where
    go : (b : Bool) → pick b stays stays ≡ stays
    go true = refl
    go false = refl

said-stays : (before : List Bytes) (x : Bytes) (behind : List Bytes) → one_of before (ascii "end_file") ≡ false → given_again (since before) (first_field x) ≡ false → the_count_change_of (fields x) behind ≡ stays → change before x behind ≡ stays
unfolding change
said-stays before x behind p q r = rw (p, q) r

-- a word that is one of these is so
one-is : (P : Bytes → Type 0) (ws : List Bytes) → Each P ws → (a : Bytes) → one_of ws a ≡ true → P a
one-is P [] h a e = clash (sym e)
one-is P (w ∷ ws) h a e = go (same_bytes_of a w) refl e (one-is P ws h.1 a)
  where
    go : (x : Bool) → same_bytes_of a w ≡ x → (x || one_of ws a) ≡ true → (one_of ws a ≡ true → P a) → P a
    go true q e r = subst P (sym (same-equal a w q)) h.0
    go false q e r = r e

-- an option begins with no digit and is not nothing
option-word : (a : Bytes) → one_of options a ≡ true → begins digit a ≡ false
option-word = one-is (λ a. begins digit a ≡ false) options (wordy options (unfold ascii begins in refl))

option-some : (a : Bytes) → one_of options a ≡ true → same_bytes_of [] a ≡ false
unfolding ascii same_bytes_of
option-some = one-is (λ a. same_bytes_of [] a ≡ false) options (refl, (refl, (refl, (refl, (refl, (refl, (refl, (refl, (refl, (refl, (refl, tt)))))))))))

alike-option : {a b : Bytes} → Alike a b → one_of options a ≡ true → a ≡ b
alike-option (inl e) h = e
alike-option {a} (inr d) h = clash (sym d.0 ∙ option-word a h)

option-closed : (a : Bytes) → one_of options a ≡ true → opens_part_of a ≡ false
unfolding ascii same_bytes_of
option-closed = one-is (λ a. opens_part_of a ≡ false) options (refl, (refl, (refl, (refl, (refl, (refl, (refl, (refl, (refl, (refl, (refl, tt)))))))))))

repeat-agree : {xs : List Bytes} {ls : List Line} (a : Bytes) → Tells xs ls → may_repeat (since (firsts xs)) a ≡ may_repeat_in (opened_of ls) a
repeat-agree a t =
    let l = part-agree (ascii "lane") (unfold ascii same_bytes_of in refl) (unfold ascii begins in refl) (unfold ascii same_bytes_of in refl) t in
    let p = part-agree (ascii "perimeter") (unfold ascii same_bytes_of in refl) (unfold ascii begins in refl) (unfold ascii same_bytes_of in refl) t in
    λ i. (l i && one_of (ascii "checkpoint" ∷ ascii "stop" ∷ ascii "exit" ∷ []) a) || (p i && is "exit" a)

once-agree : {xs : List Bytes} {ls : List Line} (a b : Bytes) → Tells xs ls → Alike a b → (single (opened_of ls) b && given_of b ls) ≡ false → given_again (since (firsts xs)) a ≡ false
once-agree {xs} {ls} a b t e h = go (one_of options a) refl
  where
    turned : (x y z : Bool) → ((x && not z) && y) ≡ false → (x && (y && not z)) ≡ false
    turned true true true h = refl
    turned true true false h = h
    turned true false z h = refl
    turned false y z h = refl

    go : (x : Bool) → one_of options a ≡ x → given_again (since (firsts xs)) a ≡ false
    go true q =
        let m = repeat-agree a t in
        let g = given-agree a (option-closed a q) (option-word a q) (option-some a q) t in
        let s = alike-option e q in
        (λ i. one_of options a && (g i && not (m i))) ∙ turned (one_of options a) (given_of a ls) (may_repeat_in (opened_of ls) a) ((λ i. single (opened_of ls) (s i) && given_of (s i) ls) ∙ h)
    go false q = rw q

-- ## A count line
number-stays : (f : Field) (n : ℕ) → f.bytes ≡ decimal n → corrected f n ≡ stays
number-stays f n e = ap (λ (x : Bool). pick x (recount f n) stays) (agrees (the_integer_of f.bytes) refl)
  where
    off : (x y : Bool) → (x && (y && false)) ≡ false
    off true true = refl
    off true false = refl
    off false y = refl

    agrees : (x : Option ℕ) → the_integer_of f.bytes ≡ x → disagrees x n ≡ false
    agrees (Some m) q =
        let s : m ≡ n = decimal-same m n (sym (integer-right f.bytes m q).spelled ∙ e) in
        ap (λ (x : Bool). leb m largest && (leb n largest && not x)) (eq-eqb m n s) ∙ off (leb m largest) (leb n largest)
    agrees None q = refl

recounted-stays : {xs : List Bytes} {ls : List Line} (l : Line) (cs : List Count) → Each Plain cs → Tells xs ls → (w : Bytes) (f : Field) → Alike w (key l) → ((s : Said) (k : ℕ) → l ≡ s ∷ numbers (k ∷ []) ∷ [] → f.bytes ≡ decimal k) → CountRight cs l ls → recounted cs w f (firsts xs) ≡ stays
recounted-stays l [] p t w f e n r = refl
recounted-stays {xs} {ls} l (count v item end ∷ cs) p t w f e n r = rw (alike_same (ascii v) e p.0.word) (go (same_bytes_of (key l) (ascii v)) r (recounted-stays l cs p.1 t w f e n))
  where
    go : (x : Bool) → pick x (Right (count v item end) ls l) (CountRight cs l ls) → (CountRight cs l ls → recounted cs w f (firsts xs) ≡ stays) → pick x (corrected f (items item end (firsts xs))) (recounted cs w f (firsts xs)) ≡ stays
    go true r more = number-stays f (items item end (firsts xs)) (n r.head (items_of (count v item end) ls) r.is ∙ ap decimal (sym (items-agree v item end p.0 t)))
    go false r more = more r

count-stays : {xs : List Bytes} {ls : List Line} (l : Line) (fs : List Field) → Told fs l → Tells xs ls → CountRight count_lines l ls → the_count_change_of fs (firsts xs) ≡ stays
count-stays l [] h t r = refl
count-stays l (w ∷ []) h t r = refl
count-stays l (w ∷ f ∷ []) h t r = recounted-stays l count_lines plain-counts t w.bytes f h.first (λ s k e. h.counted s k w f e refl) r
count-stays l (w ∷ f ∷ g ∷ fs) h t r = refl

-- ## Nothing is listed
abbrev pub rows_from : (i : ℕ) (before : List Bytes) (text : Bytes) (lines : List Bytes) → List (List ℕ)
rows_from i before text lines = gather (λ c. row c.line c.change) (changes_from i before text lines)

listed-on : (i : ℕ) (before : List Bytes) (text x : Bytes) (rest : List Bytes) → change before x (firsts rest) ≡ stays → rows_from (suc i) (first_field x ∷ before) (drop (suc (length x)) text) rest ≡ [] → rows_from i before text (x ∷ rest) ≡ []
unfolding changes_from
listed-on i before text x rest e r = λ k. row i (e k) ++ r k

pub nothing_listed : {xs bs : List Bytes} {ls ks : List Line} (i : ℕ) (text : Bytes) → Tells bs ks → Tells xs ls → Within ks ls → Once ks ls → Counted ls → rows_from i (firsts bs) text xs ≡ []
unfolding changes_from Within Once Counted
nothing_listed i text b done w o c = refl
nothing_listed {bs = bs} i text b (blank {x = x} {xs = xs} e t) w o c = listed-on i (firsts bs) text x xs (blank-stays (firsts bs) x (firsts xs) e) (nothing_listed (suc i) (drop (suc (length x)) text) (blank e b) t w o c)
nothing_listed {bs = bs} i text b (says {x = x} {xs = xs} {l = l} h t) w o c =
    listed-on i (firsts bs) text x xs (said-stays (firsts bs) x (firsts xs) (ended-agree b ∙ w.0) (once-agree (first_field x) (key l) b (first_alike x l h) o.0) (count-stays l (fields x) h t c.0))
    (nothing_listed (suc i) (drop (suc (length x)) text) (says h b) t w.1 o.1 c.1)
