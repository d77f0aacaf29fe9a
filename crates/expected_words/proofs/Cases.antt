-- The words of an item, a form and a count, by the cases of the code that puts them. Assumes nothing.
use mathlib.Core.Path.{◌≡◌, refl, ◌∙◌}
use mathlib.Core.List.{List, [], ◌∷◌, ◌++◌, append_assoc}
use mathlib.Core.Bool.{Bool, true, false, ◌&&◌}
use Prim.Native.Nat.{ℕ, zero, suc}
use lib.Dec.{eqb}
use lib.ListN.{take}
use borrow.Author.Tests.{eq-eqb, ne_eqb}
use Rattle.terms.specs.Ascii.{Bytes, ascii}
use Rattle.terms.specs.Words.{pick}
use Rattle.number.specs.Decimal.{spell, decimal}
use Rattle.number.specs.House.{house_integer, house_pair, house_triple}
use Rattle.law.specs.Network.{dotted}
use Rattle.expected_law.specs.Expected.{Item}
use Rattle.expected_law.specs.Items.{from_to, the_the_part_of, own, an_entry}
use Rattle.expected_law.specs.Telling.{joined, and_more, all_due, shape, form_words, range, ranges_words, item_words, owed_words}
use Rattle.expected_words.specs.Items.{the_point_words_of}

-- ## Identifiers
pub pair-dotted : (m n : ℕ) → house_pair m n ≡ dotted (m ∷ n ∷ [])
unfolding house_pair
pair-dotted m n = append_assoc (decimal m) (ascii ".") (decimal n)

pub triple-dotted : (x y z : ℕ) → house_triple x y z ≡ dotted (x ∷ y ∷ z ∷ [])
unfolding house_triple
triple-dotted x y z =
    append_assoc (decimal x ++ ascii "." ++ decimal y) (ascii ".") (decimal z)
    ∙ append_assoc (decimal x ++ ascii ".") (decimal y) (ascii "." ++ decimal z)
    ∙ append_assoc (decimal x) (ascii ".") (decimal y ++ (ascii "." ++ decimal z))

module _ (m n : ℕ) where
  pub pair-shape : house_pair m n ≡ shape (the_the_part_of m n)
  unfolding shape all_due
  pair-shape = rw (eq-eqb m m refl, eq-eqb n n refl) (pair-dotted m n)

  pub pair-told : (before : Bytes) → house_pair m n ≡ item_words before (the_the_part_of m n)
  unfolding item_words all_due
  pair-told before = rw (eq-eqb m m refl, eq-eqb n n refl) (pair-dotted m n)

-- ## Numbers, and points of one part: one, or more
module _ (low high : ℕ) where
  pub due-shape : low ≡ high → house_integer low ≡ shape (from_to low high)
  unfolding house_integer shape all_due
  due-shape e = rw (eq-eqb low high e) refl

  pub number-shape : (low ≡ high → ⊥) → ascii "NUMBER" ≡ shape (from_to low high)
  unfolding shape all_due
  number-shape d = rw (ne_eqb low high d) refl

  pub due-told : low ≡ high → house_integer low ≡ item_words [] (from_to low high)
  unfolding house_integer item_words all_due
  due-told e = rw (eq-eqb low high e) refl

  pub number-told : (low ≡ high → ⊥) → ascii "a number " ++ range (low, high) ≡ item_words [] (from_to low high)
  unfolding item_words ranges_words all_due
  number-told d = rw (ne_eqb low high d) refl

  module _ (m n : ℕ) where
    pub due-point-shape : low ≡ high → house_triple m n low ≡ shape (own m n low high)
    unfolding shape all_due
    due-point-shape e = rw (eq-eqb m m refl, eq-eqb n n refl, eq-eqb low high e) (triple-dotted m n low)

    pub point-shape : (low ≡ high → ⊥) → ascii "POINT" ≡ shape (own m n low high)
    unfolding shape all_due
    point-shape d = rw (eq-eqb m m refl, eq-eqb n n refl, ne_eqb low high d) refl

    pub one-point : low ≡ high → house_triple m n low ≡ the_point_words_of m n low high
    unfolding the_point_words_of
    one-point e = rw (eq-eqb low high e) refl

    pub more-points : (low ≡ high → ⊥) → house_triple m n low ++ (ascii " to " ++ house_triple m n high) ≡ the_point_words_of m n low high
    unfolding the_point_words_of
    more-points d = rw (ne_eqb low high d) refl

    pub points-told : (before : Bytes) → the_point_words_of m n low high ≡ item_words before (own m n low high)
    unfolding the_point_words_of item_words ranges_words all_due
    points-told before = rw (eq-eqb m m refl, eq-eqb n n refl, triple-dotted m n low, triple-dotted m n high) (go (eqb low high))
      where
        go : (x : Bool)
            → pick x (dotted (m ∷ n ∷ low ∷ [])) (dotted (m ∷ n ∷ low ∷ []) ++ (ascii " to " ++ dotted (m ∷ n ∷ high ∷ [])))
            ≡ pick (x && true) (dotted (m ∷ n ∷ low ∷ [])) (dotted (m ∷ n ∷ low ∷ []) ++ (ascii " to " ++ dotted (m ∷ n ∷ high ∷ [])))
        go true = refl
        go false = refl

pub entry-told : (low : ℕ) → ascii "X.Y.Z with X from 1 to 32768, Y " ++ (range (low, 32768) ++ ascii ", Z from 1 to 32768") ≡ item_words [] (an_entry low)
unfolding ascii spell decimal item_words ranges_words all_due
entry-told low = refl

-- ## Forms: of no, one, two and three items
module _ (count : ℕ) (a b c : Item) where
  abbrev items : List Item
  items = take count (a ∷ b ∷ c ∷ [])

  pub form-of-none : count ≡ 0 → [] ≡ form_words items
  unfolding form_words joined
  form-of-none e = rw e refl

  pub form-of-one : count ≡ 1 → shape a ≡ form_words items
  unfolding form_words joined
  form-of-one e = rw e refl

  pub form-of-two : count ≡ 2 → shape a ++ (ascii " " ++ shape b) ≡ form_words items
  unfolding form_words joined
  form-of-two e = rw e refl

pub form-of-three : (count : ℕ) (a b c : Item) → (count ≡ 0 → ⊥) → (count ≡ 1 → ⊥) → (count ≡ 2 → ⊥)
    → shape a ++ (ascii " " ++ (shape b ++ (ascii " " ++ shape c))) ≡ form_words (take count (a ∷ b ∷ c ∷ []))
unfolding form_words joined
form-of-three zero a b c d e f = absurd (d refl)
form-of-three (suc zero) a b c d e f = absurd (e refl)
form-of-three (suc (suc zero)) a b c d e f = absurd (f refl)
form-of-three (suc (suc (suc zero))) a b c d e f = refl
form-of-three (suc (suc (suc (suc n)))) a b c d e f = refl

-- ## Counts
pub none-owed : (n : ℕ) → n ≡ 0 → [] ≡ owed_words n
unfolding owed_words
none-owed n e = rw e refl

pub one-owed : (n : ℕ) → n ≡ 1 → ascii " (1 such line is still owed)" ≡ owed_words n
unfolding owed_words
one-owed n e = rw e refl

pub more-owed : (n : ℕ) → (n ≡ 0 → ⊥) → (n ≡ 1 → ⊥) → ascii " (" ++ (house_integer n ++ ascii " such lines are still owed)") ≡ owed_words n
unfolding owed_words house_integer
more-owed zero d e = absurd (d refl)
more-owed (suc zero) d e = absurd (e refl)
more-owed (suc (suc n)) d e = refl

pub none_more : (n : ℕ) → n ≡ 0 → [] ≡ and_more n
none_more n e = rw e refl

pub some_more : (n : ℕ) → (n ≡ 0 → ⊥) → ascii " and " ++ (house_integer n ++ ascii " more") ≡ and_more n
unfolding house_integer
some_more zero d = absurd (d refl)
some_more (suc n) d = refl
