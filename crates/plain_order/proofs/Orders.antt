-- THE LAW: a plain line of an MDF gets what its order alone gets at the place. Assumes nothing.
use Rattle.std.specs.Prelude.{Some}
use mathlib.Core.Path.{◌≡◌, refl, ap, ◌∙◌}
use mathlib.Core.List.{List, [], ◌∷◌, head-eq_of_cons-eq, tail-eq_of_cons-eq}
use mathlib.Core.Bool.{true}
use mathlib.Core.Option.{some}
use Prim.Native.Nat.{ℕ, ◌-◌, ◌≤◌, ◌<◌}
use native.Mathlib.Omega.{arith}
use lib.ListN.{length}
use Rattle.terms.specs.Ascii.{Bytes}
use Rattle.terms.proofs.Tests.{both}
use Rattle.scan.specs.Allowed.{separates, digit, all}
use Rattle.scan.specs.Reach.{reach, stops_by, begins}
use Rattle.scan.specs.declared.Until.TheVariants.{NotSeparator}
use Rattle.line.specs.Content.{Field, IsField}
use Rattle.line.specs.Forms.{part, field_in}
use Rattle.line.specs.declared.Span.{Span}
use Rattle.number.specs.Decimal.{decimal}
use Rattle.number.specs.Executable.{digits, the_integer_of}
use Rattle.number.specs.Spelling.{SpellsInteger}
use Rattle.number.proofs.Digits.{plain-long}
use Rattle.number.proofs.Decimals.{decimal-plain}
use Rattle.number.proofs.Integers.{integer-only, integer-digits}
use Rattle.number.proofs.House.{numbers-field, digits_number}
use Rattle.word.specs.Number.{digit_first}
use Rattle.statement.specs.declared.Order.{Order}
use Rattle.statement.specs.declared.Order.TheVariants as or
use Rattle.made_out.specs.MadeOrders.{numbered_order_of, order_made_of}
use Rattle.mission_place.specs.declared.MissionPlace.{MissionPlace}
use Rattle.mission_place.specs.Step.{number_kind_of}
use Rattle.judge.specs.Judging.{line}
use Rattle.mission_judge.specs.MdfLine.{mdf_kind, judging}
use Rattle.plain_parts.specs.Stands.{stretch, Stands, LineEnds}
use Rattle.plain_parts.proofs.Ended.{blank-to}
use Rattle.plain_fields.specs.LineStands.{LineStands, stated}
use Rattle.plain_fields.proofs.Fields.{last-field, field-ahead, blank-ahead, line-stands}
use Rattle.plain_fields.proofs.Judged.{plain-judged}
use Rattle.plain_order.specs.Orders.{SpellsOrder, one, three, OrderStands, OrderLine}

-- ## An integer is a field that begins with a digit
integer-long : (w : Bytes) (n : ℕ) → SpellsInteger w n → 0 < length w
integer-long w n h = rw h.spelled (plain-long (decimal n) (decimal-plain n))

pub integer-field : (w : Bytes) (n : ℕ) → SpellsInteger w n → IsField w
integer-field w n h = record { some = integer-long w n h; allowed = numbers-field w (digits_number w (integer-digits w n h)) }

integer-first : (w : Bytes) (n : ℕ) → SpellsInteger w n → digit_first w ≡ true
integer-first w n h = go w (integer-long w n h) (integer-digits w n h)
  where
    go : (w : Bytes) → 0 < length w → digits w ≡ true → digit_first w ≡ true
    go [] h e = absurd (omega arith)
    go (b ∷ w) h e = unfold begins in unfold all in (both (digit b) (digits w) e).0

-- ## Read from the text
module _ (s : Bytes) where
  as-field : (a b n : ℕ) → Stands s a b (λ w. SpellsInteger w n) → Stands s a b IsField
  as-field a b n h = record { order = h.order; inside = h.inside; spelled = integer-field (stretch s a b) n h.spelled }

  abbrev Blank : ℕ → ℕ → Type 0
  Blank a b = Stands s a b (λ w. all separates w ≡ true)

  pub goal-stands : (from a n stop : ℕ) → Stands s from a (λ w. SpellsInteger w n) → LineEnds s a stop → OrderStands s from 11 (Some (or.Goal n, stop))
  goal-stands from a n stop h e = (_, one h.spelled, last-field s stop from a (as-field from a n h) e)

  pub limit-stands : (from a second b third d i m n stop : ℕ) → Stands s from a (λ w. SpellsInteger w i) → Blank a second → Stands s second b (λ w. SpellsInteger w m) → Blank b third → Stands s third d (λ w. SpellsInteger w n) → LineEnds s d stop
      → OrderStands s from 12 (Some (or.Limit i m n, stop))
  limit-stands from a second b third d i m n stop x p y q z e =
      (_, three x.spelled y.spelled z.spelled, field-ahead s stop from a second _ (as-field from a i x) p (field-ahead s stop second b third _ (as-field second b m y) q (last-field s stop third d (as-field third d n z) e)))

-- ## What it gets
module _ (p : MissionPlace) where
  kind-is : (w : Bytes) (n : ℕ) → SpellsInteger w n → mdf_kind p w ≡ number_kind_of p
  unfolding mdf_kind
  kind-is w n h = rw (integer-first w n h)

-- the integer that a field says, where the field is found in a content
read_is : (base : ℕ) (c : Bytes) (f : Span) (g : Field) (n : ℕ) → field_in base c f ≡ g → SpellsInteger g.bytes n → the_integer_of (part c f) ≡ Some n
read_is base c f g n e h = ap (λ (x : Field). the_integer_of x.bytes) e ∙ integer-only g.bytes n h

plain-is : (table : List (List ℕ)) (p : MissionPlace) (s : Bytes) (from stop : ℕ) {k : ℕ} {fs : List Field} {o : Order} → number_kind_of p ≡ k → SpellsOrder k fs o → LineStands s from stop fs
    → line (judging table) (stretch s from stop) from p ≡ stated (judging table) k o p
unfolding order_made_of numbered_order_of
plain-is table p s from stop e (one {f = f} {n = n} h) l =
    plain-judged (judging table) l p 11 (or.Goal n) (kind-is p f.bytes n h ∙ e) refl refl (omega arith) (λ c x q. rw (read_is from c x.a f n (head-eq_of_cons-eq q) h) refl)
plain-is table p s from stop e (three {f = f} {g = g} {h = h} {i = i} {a = a} {b = b} x y z) l =
    plain-judged (judging table) l p 12 (or.Limit i a b) (kind-is p f.bytes i x ∙ e) refl refl (omega arith)
    (λ c v q. let r = tail-eq_of_cons-eq q in rw (read_is from c v.a f i (head-eq_of_cons-eq q) x, read_is from c v.b g a (head-eq_of_cons-eq r) y, read_is from c v.c h b (head-eq_of_cons-eq (tail-eq_of_cons-eq r)) z) refl)

-- ## A plain line
module _ (s : Bytes) (from at kind : ℕ) (there : at ≡ reach (stops_by NotSeparator) s from) (o : Order) (stop : ℕ) (h : OrderStands s at kind (Some (o, stop))) where
  pub order-behind : from ≤ stop
  order-behind =
      let k = h.2.order in
      let e = h.2.ends.order in
      omega arith

  pub order-line : stop - from ≤ 512 → OrderLine s from kind (Some (o, stop))
  order-line short =
      let l = line-stands s from stop h.0 (blank-ahead s stop from at h.0 (omega arith) (rw there (blank-to s from)) h.2) short in
      record { ends = l.ends; gets = λ table p due. plain-is table p s from stop due h.1 l }
