-- How long the words are at most, of items whose numbers have at most five digits. Assumes nothing.
use mathlib.Core.Path.{◌≡◌, refl}
use mathlib.Core.List.{List, [], ◌∷◌, ◌++◌}
use mathlib.Core.Bool.{Bool, true, false, ◌&&◌}
use Prim.Native.Nat.{ℕ, zero, suc, ◌+◌, ◌-◌, ◌≤◌, ◌<◌}
use native.Mathlib.Omega.{arith}
use lib.Dec.{eqb, leb, lit≤}
use lib.ListN.{length, length-append, take, get_or}
use borrow.Author.Tests.{leb-true}
use Rattle.terms.specs.Ascii.{Bytes, ascii}
use Rattle.terms.specs.Words.{pick}
use Rattle.terms.proofs.Tests.{both}
use Rattle.number.specs.Decimal.{decimal}
use Rattle.number.specs.House.{house_pair, house_triple}
use Rattle.number.proofs.Decimals.{decimal-short}
use Rattle.line.specs.Lines.{lines_of, drop_cr}
use Rattle.law.specs.Network.{dotted}
use Rattle.edition.specs.declared.Edition.TheVariants as Edition
use Rattle.shown.specs.Shown.{line_in}
use Rattle.expected_law.specs.Expected as Law
use Rattle.expected_law.specs.Telling.{joined, and_more, all_due, shape, form_words, range, ranges_words, item_words, owed_words}
use Rattle.expected_words.specs.declared.Item as DI
use Rattle.expected_words.specs.declared.Item.TheVariants as Item
use Rattle.expected_words.specs.declared.Form as DF
use Rattle.expected_words.specs.Items.{rndf_words_of, rndf_word, mdf_words_of, mdf_word, law_item, law_form, the_point_words_of}
use Rattle.expected_words.proofs.Cases.{triple-dotted, pair-shape, pair-told, points-told, entry-told}

-- ## The numbers of an item, and of a form, have at most five digits
abbrev pub Five : ℕ → Type 0
Five n = n ≤ 99999

abbrev pub FiveDigits : DI.Item → Type 0
FiveDigits (Item.Word kind) = Unit {0}
FiveDigits (Item.Order kind) = Unit {0}
FiveDigits Item.Name = Unit {0}
FiveDigits (Item.Number low high) = Five low × Five high
FiveDigits (Item.Part m n) = Five m × Five n
FiveDigits (Item.Point m n low high) = Five m × Five n × Five low × Five high
FiveDigits (Item.Entry low) = Five low
FiveDigits Item.Id = Unit {0}
FiveDigits Item.Minimum = Unit {0}
FiveDigits Item.Maximum = Unit {0}
FiveDigits Item.Latitude = Unit {0}
FiveDigits Item.Longitude = Unit {0}
FiveDigits (Item.Boundary e) = Unit {0}

pub decimal-five : (n : ℕ) → Five n → length (decimal n) ≤ 5
decimal-five n h = let l : n < 100000 = omega arith in decimal-short 4 n l

pair-length : (m n : ℕ) → Five m → Five n → length (house_pair m n) ≤ 11
unfolding house_pair ascii
pair-length m n h k =
    let a = decimal-five m h in
    let b = decimal-five n k in
    omega (arith, a, b, length-append (decimal m ++ ascii ".") (decimal n), length-append (decimal m) (ascii "."))

triple-length : (x y z : ℕ) → Five x → Five y → Five z → length (house_triple x y z) ≤ 17
unfolding house_triple house_pair ascii
triple-length x y z h k l =
    let a = pair-length x y h k in
    let b = decimal-five z l in
    omega (arith, a, b, length-append (house_pair x y ++ ascii ".") (decimal z), length-append (house_pair x y) (ascii "."))

range_length : (a b : ℕ) → Five a → Five b → length (range (a, b)) ≤ 19
unfolding ascii
range_length a b h k =
    let u = decimal-five a h in
    let v = decimal-five b k in
    omega (arith, u, v, length-append (decimal a) (ascii " to " ++ decimal b))

number-length : (a b : ℕ) → Five a → Five b → length (ascii "a number " ++ range (a, b)) ≤ 28
unfolding ascii
number-length a b h k = let u = range_length a b h k in omega (arith, u)

-- ## The same bytes said otherwise, one of two, and a bound below another
said-otherwise : {x y : Bytes} {k : ℕ} → x ≡ y → length x ≤ k → length y ≤ k
said-otherwise e h = rw e at h

either-length : (x : Bool) (a b : Bytes) (k : ℕ) → length a ≤ k → length b ≤ k → length (pick x a b) ≤ k
either-length true a b k h l = h
either-length false a b k h l = l

shorter-still : {n k l : ℕ} → n ≤ k → k ≤ l → n ≤ l
shorter-still h k = omega arith

-- ## Keywords: one of the lines, or nothing
abbrev short-lines : List Bytes → Bool
short-lines [] = true
short-lines (l ∷ ls) = leb (length (take 513 (drop_cr l))) 19 && short-lines ls

one_line : (ls : List Bytes) (k : ℕ) → short-lines ls ≡ true → length (take 513 (drop_cr (get_or ls k []))) ≤ 19
unfolding drop_cr
one_line [] zero h = lit≤ tt
one_line [] (suc k) h = lit≤ tt
one_line (l ∷ ls) zero h = leb-true (length (take 513 (drop_cr l))) 19 (both (leb (length (take 513 (drop_cr l))) 19) (short-lines ls) h).0
one_line (l ∷ ls) (suc k) h = one_line ls k (both (leb (length (take 513 (drop_cr l))) 19) (short-lines ls) h).1

line-length : (words : Bytes) → short-lines (lines_of words) ≡ true → (kind : ℕ) → length (line_in words (suc kind)) ≤ 19
unfolding line_in
line-length words h kind = let e : suc kind - 1 ≡ kind = omega arith in rw e (one_line (lines_of words) kind h)

rndf-word-length : (kind : ℕ) → length (rndf_word kind) ≤ 19
unfolding ascii lines_of drop_cr rndf_word
rndf-word-length kind = line-length rndf_words_of refl kind

mdf-word-length : (kind : ℕ) → length (mdf_word kind) ≤ 19
unfolding ascii lines_of drop_cr mdf_word
mdf-word-length kind = line-length mdf_words_of refl kind

-- ## By shape
pub shape-length : (i : DI.Item) → FiveDigits i → length (shape (law_item i)) ≤ 19
unfolding ascii shape all_due
shape-length (Item.Word kind) h = rndf-word-length kind
shape-length (Item.Order kind) h = mdf-word-length kind
shape-length Item.Name h = lit≤ tt
shape-length (Item.Number low high) h = either-length (eqb low high && true) (decimal low) (ascii "NUMBER") 19 (shorter-still (decimal-five low h.0) (lit≤ tt)) (lit≤ tt)
shape-length (Item.Part m n) h = said-otherwise (pair-shape m n) (shorter-still (pair-length m n h.0 h.1) (lit≤ tt))
shape-length (Item.Point m n low high) h =
    either-length (all_due ((m, m) ∷ (n, n) ∷ (low, high) ∷ [])) (dotted (m ∷ n ∷ low ∷ [])) (ascii "POINT") 19
    (said-otherwise (triple-dotted m n low) (shorter-still (triple-length m n low h.0 h.1 h.2) (lit≤ tt)))
    (lit≤ tt)
shape-length (Item.Entry low) h = lit≤ tt
shape-length Item.Id h = lit≤ tt
shape-length Item.Minimum h = lit≤ tt
shape-length Item.Maximum h = lit≤ tt
shape-length Item.Latitude h = lit≤ tt
shape-length Item.Longitude h = lit≤ tt
shape-length (Item.Boundary e) h = lit≤ tt

joined_length : (count : ℕ) (a b c : Law.Item) → length (shape a) ≤ 19 → length (shape b) ≤ 19 → length (shape c) ≤ 19 → length (form_words (take count (a ∷ b ∷ c ∷ []))) ≤ 59
unfolding ascii form_words joined
joined_length zero a b c h k l = lit≤ tt
joined_length (suc zero) a b c h k l = shorter-still h (lit≤ tt)
joined_length (suc (suc zero)) a b c h k l = omega (arith, h, k, length-append (shape a) (ascii " " ++ shape b))
joined_length (suc (suc (suc zero))) a b c h k l = omega (arith, h, k, l, length-append (shape a) (ascii " " ++ (shape b ++ (ascii " " ++ shape c))), length-append (shape b) (ascii " " ++ shape c))
joined_length (suc (suc (suc (suc n)))) a b c h k l = omega (arith, h, k, l, length-append (shape a) (ascii " " ++ (shape b ++ (ascii " " ++ shape c))), length-append (shape b) (ascii " " ++ shape c))

pub form-length : (f : DF.Form) → FiveDigits f.a → FiveDigits f.b → FiveDigits f.c → length (form_words (law_form f)) ≤ 59
form-length f h k l = joined_length f.count (law_item f.a) (law_item f.b) (law_item f.c) (shape-length f.a h) (shape-length f.b k) (shape-length f.c l)

-- ## By range
pub points-length : (m n low high : ℕ) → Five m → Five n → Five low → Five high → length (the_point_words_of m n low high) ≤ 38
unfolding ascii the_point_words_of
points-length m n low high h k l u =
    let a = triple-length m n low h k l in
    let b = triple-length m n high h k u in
    either-length (eqb low high) (house_triple m n low) (house_triple m n low ++ (ascii " to " ++ house_triple m n high)) 38
    (shorter-still a (lit≤ tt))
    (omega (arith, a, b, length-append (house_triple m n low) (ascii " to " ++ house_triple m n high)))

entry_length : (low : ℕ) → Five low → length (ascii "X.Y.Z with X from 1 to 32768, Y " ++ (range (low, 32768) ++ ascii ", Z from 1 to 32768")) ≤ 80
unfolding ascii
entry_length low h = let u = range_length low 32768 h (lit≤ tt) in omega (arith, u, length-append (range (low, 32768)) (ascii ", Z from 1 to 32768"))

-- behind nothing
alone-length : (i : DI.Item) → FiveDigits i → length (item_words [] (law_item i)) ≤ 80
unfolding ascii joined item_words ranges_words all_due
alone-length (Item.Word kind) h = shorter-still (rndf-word-length kind) (lit≤ tt)
alone-length (Item.Order kind) h = shorter-still (mdf-word-length kind) (lit≤ tt)
alone-length Item.Name h = lit≤ tt
alone-length (Item.Number low high) h =
    either-length (eqb low high && true) (decimal low) (ascii "a number " ++ range (low, high)) 80
    (shorter-still (decimal-five low h.0) (lit≤ tt))
    (shorter-still (number-length low high h.0 h.1) (lit≤ tt))
alone-length (Item.Part m n) h = said-otherwise (pair-told m n []) (shorter-still (pair-length m n h.0 h.1) (lit≤ tt))
alone-length (Item.Point m n low high) h = said-otherwise (points-told low high m n []) (shorter-still (points-length m n low high h.0 h.1 h.2 h.3) (lit≤ tt))
alone-length (Item.Entry low) h = said-otherwise (entry-told low) (entry_length low h)
alone-length Item.Id h = shorter-still (number-length 1 32768 (lit≤ tt) (lit≤ tt)) (lit≤ tt)
alone-length Item.Minimum h = shorter-still (number-length 0 32768 (lit≤ tt) (lit≤ tt)) (lit≤ tt)
alone-length Item.Maximum h = lit≤ tt
alone-length Item.Latitude h = lit≤ tt
alone-length Item.Longitude h = lit≤ tt
alone-length (Item.Boundary Edition.March2007) h = lit≤ tt
alone-length (Item.Boundary Edition.December2006) h = lit≤ tt

maximum-length : (before : Bytes) → length (item_words before Law.ceiling) ≤ 80 + length before
unfolding ascii item_words
maximum-length before = omega (arith, length-append before (ascii " to 32768"))

-- behind a field of these bytes
wider : (before : Bytes) (i : Law.Item) → length (item_words [] i) ≤ 80 → length (item_words before i) ≤ 80 + length before
unfolding item_words
wider before (Law.this w) h = omega arith
wider before Law.a_name h = omega arith
wider before (Law.numbers w rs) h = omega arith
wider before Law.ceiling h = maximum-length before
wider before (Law.degrees d) h = omega arith
wider before (Law.one_of bs) h = omega arith

pub item-length : (before : Bytes) (i : DI.Item) → FiveDigits i → length (item_words before (law_item i)) ≤ 80 + length before
item-length before i h = wider before (law_item i) (alone-length i h)

-- ## Counts
pub owed-length : (n : ℕ) → length (owed_words n) ≤ 29 + length (decimal n)
unfolding ascii owed_words
owed-length zero = omega arith
owed-length (suc zero) = omega arith
owed-length (suc (suc n)) = omega (arith, length-append (decimal (suc (suc n))) (ascii " such lines are still owed)"))

pub more-length : (n : ℕ) → length (and_more n) ≤ 10 + length (decimal n)
unfolding ascii
more-length zero = omega arith
more-length (suc n) = omega (arith, length-append (decimal (suc n)) (ascii " more"))
