-- One line of the walk, as the program tells it, and the walk's end. Assumes nothing.
use Rattle.std.specs.Prelude.{⊤, Ok, Err, Result}
use mathlib.Core.Path.{◌≡◌, refl, sym, ap, ◌∙◌}
use mathlib.Core.List.{List, [], ◌∷◌, ◌++◌}
use mathlib.Core.Bool.{Bool, true, false}
use Prim.Native.Nat.{ℕ, zero, suc, ◌+◌, ◌-◌, ◌≤◌, ◌<◌}
use native.Mathlib.Omega.{arith}
use mir.Syntax.{w32, w64}
use mir.Val.{Fits}
use lib.ListN.{length, drop}
use lib.Dec.{eqb, ltb}
use borrow.Author.Tests.{ne_eqb}
use Rattle.terms.specs.Ascii.{Bytes}
use Rattle.terms.specs.Words.{pick}
use Rattle.scan.specs.Reach.{reach, stops_by}
use Rattle.scan.specs.declared.Until.TheVariants.{Byte}
use Rattle.scan.proofs.Reach.{reach_le, reach-from}
use Rattle.line.specs.Lines.{lines_of}
use Rattle.line.proofs.Cuts.{lines_at, next_start, lines_end}
use Rattle.line_fields.specs.LineFields.{line_fields_of, last_start_of}
use Rattle.line_fields.proofs.LastField.{last_within}
use Rattle.grammar.specs.Editions.{Edition}
use Rattle.grammar.specs.PlaceTable.{rndf_table_of}
use Rattle.statement.specs.declared.Statement.{Statement}
use Rattle.place_table.specs.Verdicts.{verdict_of}
use Rattle.place_table.proofs.Verdicts.{none-refuses, refused-by}
use Rattle.place.specs.declared.Place.{Place}
use Rattle.place.specs.Abstract.{seen}
use Rattle.place.specs.Step.{first_place, over_of, cell_of, refuses_by, by_cell, tested_of, moved_of, Outcome}
use Rattle.place.proofs.Stepped.{outcome, stepped}
use Rattle.progress.specs.declared.Progress.{Progress}
use Rattle.judge.specs.Judging.{Got, bad, blank, said, taken, line}
use Rattle.judge.specs.RndfLine.{judging}
use Rattle.plain_parts.specs.Stands.{stretch}
use Rattle.plain_parts.proofs.Stretches.{stretch-long}
use Rattle.plain_fields.specs.LineStands.{stated}
use Rattle.walk.specs.Standing.{place}
use Rattle.walk.specs.Walking.{fault, gathered, onward, walked}
use Rattle.refusal.specs.Size.{most}
use Rattle.edition_judge.specs.EditionLine.{bars_of, judging_in}
use Rattle.edition_judge.proofs.Lines.{bar_got, line-so}
use Rattle.network.specs.Storing.{Memory}
use Rattle.network.specs.Reading.{put, told, filled_of, filled_in}
use Rattle.network.specs.Reaching.{first-of, the_refusal_of, WalkEnd, stopped, reached, goes, reaching, onwards, reached_in, stood, ended_of, ending}
use Rattle.refusal.specs.declared.Fault.{Fault}

-- ## What an edition makes of a statement
module _ (table : List (List ℕ)) (e : Edition) (s : Statement) where
  -- r by the kind, t by the values, b by the edition
  by_three : (r t b : ℕ) (o : Outcome) (q : Place) → (r ≡ 0 → o ≡ outcome t q) → bars_of e s ≡ b
      → bar_got e (pick (eqb r 0) (taken (judging table) s (seen o)) (bad r)) ≡ pick (eqb (first-of r (first-of t b)) 0) (said s q) (bad (first-of r (first-of t b)))
  by_three zero zero b o q f g = rw (f refl, g) refl
  by_three zero (suc t) b o q f g = let z : eqb (suc t) 0 ≡ false = ne_eqb (suc t) 0 (λ h. omega arith) in rw (f refl, z, z) refl
  by_three (suc r) t b o q f g = let z : eqb (suc r) 0 ≡ false = ne_eqb (suc r) 0 (λ h. omega arith) in rw (z, z) refl

  module _ (p : Place) (k c n : ℕ) (cell : c ≡ cell_of table p k) (told : n ≡ the_refusal_of e p c s) where
    whole : bar_got e (stated (judging table) k s p) ≡ pick (eqb n 0) (said s (moved_of p s c)) (bad n)
    unfolding stated the_refusal_of
    whole = rw (← cell, told) (by_three (refuses_by p.given c) (tested_of p s c) (bars_of e s) (by_cell p s c) (moved_of p s c) (stepped p s c) refl)

    bad-by : (n ≡ 0 → ⊥) → bar_got e (stated (judging table) k s p) ≡ bad n
    bad-by z = whole ∙ rw (ne_eqb n 0 z) refl

    moved_by : n ≡ 0 → bar_got e (stated (judging table) k s p) ≡ said s (moved_of p s c)
    moved_by z = whole ∙ rw z refl

-- ## A line
-- what the judge gives a line, by a table
abbrev pub judged : List (List ℕ) → Bytes → ℕ → Place → Got Statement Place
judged table = line (judging table)

module _ (e : Edition) (table : List (List ℕ)) (right : table ≡ rndf_table_of) (s : Bytes) (from to : ℕ) (h : from < length s) (ends : to ≡ reach (stops_by (Byte 10)) s from) (p : Place) (m : Memory) (i : ℕ) where
  abbrev rest : Place → Memory → WalkEnd
  rest q d = onwards e s q d (to + 1) (i + 1)

  one_line : onwards e s p m from i ≡ goes (place from i (stretch s from to)) p m (bar_got e (line (judging table) (stretch s from to) from p)) rest
  unfolding reaching
  one_line =
      let n : suc i ≡ i + 1 = omega arith in
      let cut : onwards e s p m from i ≡ goes (place from i (stretch s from to)) p m (line (judging_in e) (stretch s from to) from p) rest = rw (lines_at s from to h ends, next_start s from to h ends, n) refl in
      cut ∙ ap (λ (g : Got Statement Place). goes (place from i (stretch s from to)) p m g rest) (line-so e (stretch s from to) from p ∙ ap (λ (t : List (List ℕ)). bar_got e (line (judging t) (stretch s from to) from p)) (sym right))

  module _ (g : Got Statement Place) (says : line (judging table) (stretch s from to) from p ≡ g) where
    gets : onwards e s p m from i ≡ goes (place from i (stretch s from to)) p m (bar_got e g) rest
    gets = one_line ∙ ap (λ (x : Got Statement Place). goes (place from i (stretch s from to)) p m (bar_got e x) rest) says

  pub blank_line_of : line (judging table) (stretch s from to) from p ≡ blank → onwards e s p m from i ≡ rest p m
  blank_line_of says = gets blank says

  pub bad_line : (n : ℕ) → line (judging table) (stretch s from to) from p ≡ bad n → onwards e s p m from i ≡ stopped i n
  bad_line n says = gets (bad n) says

  module _ (k c : ℕ) (v : Result ⊤ ℕ) (st : Statement) (says : line (judging table) (stretch s from to) from p ≡ stated (judging table) k st p) (cell : c ≡ cell_of table p k) (told : v ≡ verdict_of (the_refusal_of e p c st)) where
    pub refused-line : (n : ℕ) → v ≡ Err n → onwards e s p m from i ≡ stopped i n
    refused-line n is =
        let r = refused-by (the_refusal_of e p c st) n v told is in
        gets _ says ∙ ap (λ (x : Got Statement Place). goes (place from i (stretch s from to)) p m x rest) (bad-by table e st p k c n cell (sym r.0) (λ z. r.1 (r.0 ∙ z)))

    pub moved-line : v ≡ Ok tt → (q : Place) → q ≡ moved_of p st c → onwards e s p m from i ≡ rest q (put (place from i (stretch s from to)) st m)
    moved-line is q move =
        let z = none-refuses (the_refusal_of e p c st) v told is in
        gets _ says ∙ ap (λ (x : Got Statement Place). goes (place from i (stretch s from to)) p m x rest) (moved_by table e st p k c 0 cell (sym z) refl) ∙ ap (λ (x : Place). rest x (put (place from i (stretch s from to)) st m)) (sym move)

-- ## The end
pub at-end : (e : Edition) (s : Bytes) (p : Place) (m : Memory) (from i : ℕ) → length s ≤ from → onwards e s p m from i ≡ reached p m i
unfolding reaching
at-end e s p m from i h = rw (lines_end s from h) refl

pub ends_so : (e : Edition) (ls : List Bytes) (p : Place) (m : Memory) (start i : ℕ) → walked (judging_in e) put over_of p m start i ls ≡ ending (reaching e p m start i ls)
unfolding walked reaching
ends_so e [] p m start i = refl
ends_so e (l ∷ ls) p m start i = go (line (judging_in e) l start p) (λ q d. ends_so e ls q d (start + suc (length l)) (suc i))
  where
    go : (g : Got Statement Place) → ((q : Place) (d : Memory) → walked (judging_in e) put over_of q d (start + suc (length l)) (suc i) ls ≡ ending (reaching e q d (start + suc (length l)) (suc i) ls))
        → onward (judging_in e) put over_of (place start i l) p m g (λ q d. walked (judging_in e) put over_of q d (start + suc (length l)) (suc i) ls) ≡ ending (goes (place start i l) p m g (λ q d. reaching e q d (start + suc (length l)) (suc i) ls))
    go (bad n) f = refl
    go blank f = f p m
    go (said s q) f = f q (put (place start i l) s m)

pub filled-so : (e : Edition) (text : Bytes) (m : Memory) → ending (reached_in e text m) ≡ filled_in e text m
unfolding reached_in filled_in filled_of
filled-so e text m = go (ltb most (length text))
  where
    go : (b : Bool) → ending (pick b (stopped 0 1) (reaching e first_place m 0 1 (lines_of text))) ≡ pick b (fault 0 1) (walked (judging_in e) put over_of first_place m 0 1 (lines_of text))
    go true = refl
    go false = sym (ends_so e (lines_of text) first_place m 0 1)

-- what is answered at the end, where the walk stood so
pub filled-from : (e : Edition) (text : Bytes) (m : Memory) (w : Result (Place × Progress × ℕ) Fault) (r : Result Progress Fault) (tables : Progress → Memory) → r ≡ ended_of w → stood w tables ≡ reached_in e text m → told r tables ≡ filled_in e text m
unfolding ended_of
filled-from e text m w r tables is h = ap (λ (r : Result Progress Fault). told r tables) is ∙ by w ∙ ap ending h ∙ filled-so e text m
  where
    over : (b : Bool) (g : Progress) (i : ℕ) → told (pick b (Ok g) (Err (record { line = i; number = 10 }))) tables ≡ pick b (gathered (tables g)) (fault i 10)
    over true g i = refl
    over false g i = refl

    by : (w : Result (Place × Progress × ℕ) Fault) → told (ended_of w) tables ≡ ending (stood w tables)
    by (Err f) = refl
    by (Ok (p, g, i)) = over (over_of p) g i

-- the walk goes on from there
pub goes_on : (e : Edition) (s : Bytes) (p q : Place) (m d : Memory) (at to i : ℕ) → p ≡ q → m ≡ d → at ≡ to + 1 → onwards e s p m at (i + 1) ≡ onwards e s q d (to + 1) (i + 1)
goes_on e s p q m d at to i a b c = λ j. onwards e s (a j) (b j) (c j) (i + 1)

-- ## Lines one behind the other
-- from where the first lines were left, if they had no fault
abbrev pub going_on : WalkEnd → (Place → Memory → ℕ → WalkEnd) → WalkEnd
going_on (stopped i n) k = stopped i n
going_on (reached p m i) k = k p m i

-- the bytes of lines, with their LFs
abbrev pub width : List Bytes → ℕ
width [] = 0
width (l ∷ ls) = suc (length l) + width ls

pub one-behind-other : (e : Edition) (ls rs : List Bytes) (p : Place) (m : Memory) (start i : ℕ) → reaching e p m start i (ls ++ rs) ≡ going_on (reaching e p m start i ls) (λ q d j. reaching e q d (start + width ls) j rs)
unfolding reaching
one-behind-other e [] rs p m start i = let z : start ≡ start + 0 = omega arith in ap (λ (s : ℕ). reaching e p m s i rs) z
one-behind-other e (l ∷ ls) rs p m start i = go (line (judging_in e) l start p) (λ q d. one-behind-other e ls rs q d (start + suc (length l)) (suc i))
  where
    sum : start + suc (length l) + width ls ≡ start + (suc (length l) + width ls)
    sum = omega arith

    go : (g : Got Statement Place) → ((q : Place) (d : Memory) → reaching e q d (start + suc (length l)) (suc i) (ls ++ rs) ≡ going_on (reaching e q d (start + suc (length l)) (suc i) ls) (λ x y j. reaching e x y (start + suc (length l) + width ls) j rs))
        → goes (place start i l) p m g (λ q d. reaching e q d (start + suc (length l)) (suc i) (ls ++ rs)) ≡ going_on (goes (place start i l) p m g (λ q d. reaching e q d (start + suc (length l)) (suc i) ls)) (λ x y j. reaching e x y (start + (suc (length l) + width ls)) j rs)
    go (bad n) f = refl
    go blank f = f p m ∙ (λ k. going_on (reaching e p m (start + suc (length l)) (suc i) ls) (λ x y j. reaching e x y (sum k) j rs))
    go (said s q) f = f q (put (place start i l) s m) ∙ (λ k. going_on (reaching e q (put (place start i l) s m) (start + suc (length l)) (suc i) ls) (λ x y j. reaching e x y (sum k) j rs))

-- ## Numbers of the walk
-- a line ends behind its start, and within the text
pub within : (s : Bytes) (from e : ℕ) → from < length s → e ≡ reach (stops_by (Byte 10)) s from → (from ≤ e) × (e ≤ length s)
within s from e h q = (omega (arith, q, reach-from (stops_by (Byte 10)) s from), omega (arith, q, reach_le (stops_by (Byte 10)) s from (omega arith)))

-- lines and rows are counted on from `first` and `had`
pub next-within : (n from e line at first : ℕ) → at ≡ e + 1 → (from ≤ e) × (e ≤ n) → line ≤ first + from → line + 1 ≤ first + at
next-within n from e line at first a h k = omega (arith, a, h.0, h.1)

pub next-less : (n from e at : ℕ) → at ≡ e + 1 → (from ≤ e) × (e ≤ n) → n + 1 - at < n + 1 - from
next-less n from e at a h = omega (arith, a, h.0, h.1)

pub place-fits : (n from e : ℕ) → n ≤ 16777215 → (from ≤ e) × (e ≤ n) → Fits w64 (e + 1)
place-fits n from e k h = record { fits = omega (arith, h.0, h.1) }

pub last_fits : (s : Bytes) (from e last : ℕ) → length s ≤ 16777215 → from < length s → e ≡ reach (stops_by (Byte 10)) s from → last ≡ last_start_of (line_fields_of from (stretch s from e)) → Fits w32 last
last_fits s from e last k h q is =
    let inside = within s from e h q in
    let long = stretch-long s from e inside.1 in
    record { fits = omega (arith, is, last_within from (stretch s from e), long, inside.0, inside.1, k) }

pub line-fits : (n from line first : ℕ) → n ≤ 16777215 → from < n → first ≤ 16777216 → line ≤ first + from → Fits w32 (line + 1)
line-fits n from line first k h f l = record { fits = omega arith }

pub few_bytes : (n : ℕ) → n ≤ 16777215 → n < 4294967296
few_bytes n h = omega arith

pub few-rows : (n from had rows : ℕ) → n ≤ 16777215 → from < n → had ≤ 16777216 → rows ≤ had + from → rows < 4294967295
few-rows n from had rows h k l m = omega arith

pub no_more : (rows had from e at : ℕ) → at ≡ e + 1 → from ≤ e → rows ≤ had + from → rows ≤ had + at
no_more rows had from e at a h k = omega arith

pub one-more-row : (rows had from e at more : ℕ) → at ≡ e + 1 → from ≤ e → rows ≤ had + from → more ≤ rows + 1 → more ≤ had + at
one-more-row rows had from e at more a h k l = omega arith
