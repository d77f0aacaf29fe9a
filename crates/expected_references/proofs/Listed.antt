-- What is put of a list, element by element, is what is told of it: the first six, and how many more there are. Assumes nothing.
use mathlib.Core.Path.{◌≡◌, refl, sym, ap, ◌∙◌}
use mathlib.Core.List.{List, [], ◌∷◌, ◌++◌, map, append_assoc, append-nil}
use mathlib.Core.Bool.{Bool, true, false, ◌&&◌}
use Prim.Native.Nat.{ℕ, zero, suc, ◌+◌, ◌-◌, ◌≤◌, ◌<◌}
use native.Mathlib.Omega.{arith}
use lib.ListN.{length, take}
use lib.Dec.{eqb}
use borrow.Author.Tests.{lt-ltb, le-ltb, eq-eqb, ne_eqb}
use Rattle.terms.specs.Ascii.{Bytes, ascii}
use Rattle.terms.specs.Words.{pick}
use Rattle.number.specs.Decimal.{decimal}
use Rattle.number.specs.House.{house_triple}
use Rattle.law.specs.Network.{PointId, dotted}
use Rattle.output.specs.Pen.{Pen, put, Wrote}
use Rattle.output.proofs.Writing.{◌then◌}
use Rattle.expected_law.specs.Expected.{entries, goals, ids, missing}
use Rattle.expected_law.specs.Telling.{joined, and_more, some_of, all_due, item_words, ranges_words, points_words, told}
use Rattle.expected_words.specs.Items.{the_point_words_of}
use Rattle.expected_references.specs.Listing.{element, listing_end, listing}

-- ## Behind the first element
-- at most so many, each behind a comma
unfoldable behind : ℕ → List Bytes → Bytes
behind zero l = []
behind (suc k) [] = []
behind (suc k) (a ∷ l) = ascii ", " ++ (a ++ behind k l)

first-and-behind : (k : ℕ) (a : Bytes) (l : List Bytes) → joined (ascii ", ") (take (suc k) (a ∷ l)) ≡ a ++ behind k l
unfolding joined behind
first-and-behind zero a l = sym (append-nil a)
first-and-behind (suc k) a [] = sym (append-nil a)
first-and-behind (suc k) a (b ∷ l) = ap (λ (x : Bytes). a ++ (ascii ", " ++ x)) (first-and-behind k b l)

module _ (head none : Bytes) where
  -- ## Elements
  pub element-first : (w : Bytes) → element head 0 w ≡ head ++ w
  unfolding element
  element-first w = refl

  pub element-next : (i : ℕ) (w : Bytes) → 0 < i → i ≤ 5 → element head i w ≡ ascii ", " ++ w
  unfolding element
  element-next i w l h = rw (le-ltb 5 i h, ne_eqb i 0 (λ (e : i ≡ 0). omega arith)) refl

  pub element-past : (i : ℕ) (w : Bytes) → 5 < i → element head i w ≡ []
  unfolding element
  element-past i w h = rw (lt-ltb 5 i h) refl

  pub element-told : (i : ℕ) (w : Bytes) → i ≤ 5 → pick (eqb i 0) head (ascii ", ") ++ w ≡ element head i w
  unfolding element
  element-told i w h = rw (le-ltb 5 i h) refl

  -- ## All of them
  listed-behind : (l : List Bytes) (i k : ℕ) → k ≡ 6 - i → 0 < i → listing head none i l ≡ behind k l ++ and_more (i + length l - 6)
  unfolding listing listing_end behind
  listed-behind [] i zero e h =
      let n : i - 6 ≡ i + 0 - 6 = omega arith in
      rw (ne_eqb i 0 (λ (e : i ≡ 0). omega arith)) (ap and_more n)
  listed-behind [] i (suc k) e h =
      let n : i - 6 ≡ i + 0 - 6 = omega arith in
      rw (ne_eqb i 0 (λ (e : i ≡ 0). omega arith)) (ap and_more n)
  listed-behind (a ∷ l) i zero e h =
      let n : suc i + length l - 6 ≡ i + suc (length l) - 6 = omega arith in
      let z : 0 ≡ 6 - suc i = omega arith in
      rw (element-past i a (omega arith)) (listed-behind l (suc i) 0 z (omega arith) ∙ ap and_more n)
  listed-behind (a ∷ l) i (suc k) e h =
      let n : suc i + length l - 6 ≡ i + suc (length l) - 6 = omega arith in
      let z : k ≡ 6 - suc i = omega arith in
      rw (element-next i a h (omega arith)) (
      ap (λ (x : Bytes). (ascii ", " ++ a) ++ x) (listed-behind l (suc i) k z (omega arith) ∙ ap (λ (m : ℕ). behind k l ++ and_more m) n)
      ∙ sym (append_assoc (ascii ", " ++ a) (behind k l) (and_more (i + suc (length l) - 6))) ∙ ap (λ (x : Bytes). x ++ and_more (i + suc (length l) - 6)) (append_assoc (ascii ", ") a (behind k l)))

  pub listed-none : listing head none 0 [] ≡ none
  unfolding listing listing_end
  listed-none = refl

  pub listed-some : (a : Bytes) (l : List Bytes) → listing head none 0 (a ∷ l) ≡ head ++ some_of (a ∷ l)
  unfolding listing some_of
  listed-some a l =
      let z : 5 ≡ 6 - 1 = omega arith in
      let n : 1 + length l - 6 ≡ suc (length l) - 6 = omega arith in
      ap (◌++◌ (element head 0 a)) (listed-behind l 1 5 z (omega arith) ∙ ap (λ (m : ℕ). behind 5 l ++ and_more m) n) ∙ rw (element-first a) (
      append_assoc head a (behind 5 l ++ and_more (suc (length l) - 6)) ∙ ap (◌++◌ head) (sym (append_assoc a (behind 5 l) (and_more (suc (length l) - 6))) ∙ ap (λ (x : Bytes). x ++ and_more (suc (length l) - 6)) (sym (first-and-behind 5 a l))))

  -- ## A put more
  pub one-put : {p q : Pen} (i : ℕ) (w : Bytes) (ws : List Bytes) → Wrote p (element head i w) q → put q (listing head none (i + 1) ws) ≡ put p (listing head none i (w ∷ ws))
  unfolding listing
  one-put {p} {q} i w ws u =
      let n : i + 1 ≡ suc i = omega arith in
      rw n (sym (u then record { is = refl }).is)

-- ## What is told
pub told_entries : (l : List PointId) → listing (ascii "may stand here: ") (ascii "may stand here: ") 0 (map points_words l) ≡ told (entries l)
unfolding told some_of joined
told_entries [] = listed-none (ascii "may stand here: ") (ascii "may stand here: ") ∙ sym (append-nil (ascii "may stand here: "))
told_entries (a ∷ l) = listed-some (ascii "may stand here: ") (ascii "may stand here: ") (points_words a) (map points_words l)

pub told-goals : (l : List ℕ) → listing (ascii "may stand here: a checkpoint of the RNDF: ") (ascii "may stand here: nothing, for the RNDF has no checkpoint") 0 (map decimal l) ≡ told (goals l)
unfolding told ascii
told-goals [] = listed-none (ascii "may stand here: a checkpoint of the RNDF: ") (ascii "may stand here: nothing, for the RNDF has no checkpoint")
told-goals (a ∷ l) = listed-some (ascii "may stand here: a checkpoint of the RNDF: ") (ascii "may stand here: nothing, for the RNDF has no checkpoint") (decimal a) (map decimal l)

pub told-ids : (l : List ℕ) → listing (ascii "may stand here: an id that has no limit yet: ") (ascii "may stand here: nothing, for every segment and zone has its limit") 0 (map decimal l) ≡ told (ids l)
unfolding told ascii
told-ids [] = listed-none (ascii "may stand here: an id that has no limit yet: ") (ascii "may stand here: nothing, for every segment and zone has its limit")
told-ids (a ∷ l) = listed-some (ascii "may stand here: an id that has no limit yet: ") (ascii "may stand here: nothing, for every segment and zone has its limit") (decimal a) (map decimal l)

pub told-missing : (l : List ℕ) → listing (ascii "without a limit: ") (ascii "without a limit: ") 0 (map decimal l) ≡ told (missing l)
unfolding told some_of joined
told-missing [] = listed-none (ascii "without a limit: ") (ascii "without a limit: ") ∙ sym (append-nil (ascii "without a limit: "))
told-missing (a ∷ l) = listed-some (ascii "without a limit: ") (ascii "without a limit: ") (decimal a) (map decimal l)

-- three numbers joined by dots, in two ways of saying it
pub in_dots : (x y z : ℕ) → house_triple x y z ≡ dotted (x ∷ y ∷ z ∷ [])
unfolding house_triple
in_dots x y z =
    append_assoc (decimal x ++ ascii "." ++ decimal y) (ascii ".") (decimal z) ∙ append_assoc (decimal x ++ ascii ".") (decimal y) (ascii "." ++ decimal z) ∙ append_assoc (decimal x) (ascii ".") (decimal y ++ (ascii "." ++ decimal z))

-- a part by its points, as `expected_words` puts them
pub part-words : (a : PointId) → the_point_words_of a.x a.y 1 a.z ≡ points_words a
unfolding points_words item_words ranges_words all_due the_point_words_of
part-words a = rw (eq-eqb a.x a.x refl, eq-eqb a.y a.y refl, in_dots a.x a.y 1, in_dots a.x a.y a.z) (go (eqb 1 a.z))
  where
    one : Bytes
    one = dotted (a.x ∷ a.y ∷ 1 ∷ [])

    all : Bytes
    all = dotted (a.x ∷ a.y ∷ 1 ∷ []) ++ (ascii " to " ++ dotted (a.x ∷ a.y ∷ a.z ∷ []))

    go : (b : Bool) → pick b one all ≡ pick (b && true) one all
    go true = refl
    go false = refl
