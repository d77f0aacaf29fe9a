-- What each answer says of the text that it was read from: its end is the line's, and the judge makes of the line what it makes of the order alone. `None` says nothing. Assumes nothing.
use Rattle.plain_order.specs.Types.{MissionSaid}
use Rattle.std.specs.Prelude.{◌≡◌, List, [], ◌∷◌, ℕ, Some, None, Ok, Err, Option}
use Rattle.terms.specs.Ascii.{Bytes}
use Rattle.scan.specs.Reach.{reach, stops_by}
use Rattle.scan.specs.declared.Until.TheVariants.{Byte}
use Rattle.line.specs.Content.{Field}
use Rattle.number.specs.Spelling.{SpellsInteger}
use Rattle.grammar.specs.MissionStatements.{goal, limit}
use Rattle.grammar.specs.PlaceRows.{mission_kind_row}
use Rattle.statement.specs.declared.Order.{Order}
use Rattle.statement.specs.declared.Order.TheVariants as or
use Rattle.mission_place.specs.declared.MissionPlace.{MissionPlace}
use Rattle.mission_place.specs.Step.{number_kind_of}
use Rattle.grammar.specs.Machine.{Out, next, refuse}
use Rattle.judge.specs.Judging.{bad, blank, said, line}
use Rattle.mission_judge.specs.MdfLine.{judging}
use Rattle.plain_parts.specs.Stands.{stretch}
use Rattle.plain_fields.specs.LineStands.{Rest, stated}
use Rattle.plain_order.specs.declared.MissionLine as DL
use Rattle.plain_order.specs.declared.MissionLine.TheVariants as Line

-- fields that spell an order of a kind, of the two kinds that have no keyword
pub data SpellsOrder : ℕ → List Field → Order → Type 0 where
  one : {f : Field} {n : ℕ} → SpellsInteger f.bytes n → SpellsOrder (mission_kind_row goal) (f ∷ []) (or.Goal n)
  three : {f g h : Field} {i a b : ℕ} → SpellsInteger f.bytes i → SpellsInteger g.bytes a → SpellsInteger h.bytes b → SpellsOrder (mission_kind_row limit) (f ∷ g ∷ h ∷ []) (or.Limit i a b)

-- from a place up to the line's end
abbrev pub OrderStands : Bytes → ℕ → ℕ → Option (Order × ℕ) → Type 0
OrderStands s from kind (Some (o, stop)) = (fields : List Field) × SpellsOrder kind fields o × Rest s from stop fields
OrderStands s from kind None = Unit {0}

-- the line that starts at a place ends at another; where a kind is due it gets what the order of that kind gets alone, with every table
pub record OrderGets (s : Bytes) (from stop kind : ℕ) (o : Order) : Type 0 where
  pub ends : stop ≡ reach (stops_by (Byte 10)) s from
  pub gets : (table : List (List ℕ)) (p : MissionPlace) → number_kind_of p ≡ kind → line (judging table) (stretch s from stop) from p ≡ stated (judging table) kind o p

abbrev pub OrderLine : Bytes → ℕ → ℕ → Option (Order × ℕ) → Type 0
OrderLine s from kind (Some (o, stop)) = OrderGets s from stop kind o
OrderLine s from kind None = Unit {0}

-- ## Every line
-- an order with the place behind it, or the place's own number
abbrev pub stood_as : Order → ℕ → Out MissionPlace → DL.MissionLine
stood_as o e (next q) = Line.Filled (Ok (o, q, e))
stood_as o e (refuse n) = Line.Filled (Err n)

-- the line that starts there gets this at the place, and ends where it is said to
abbrev pub Says : List (List ℕ) → Bytes → ℕ → MissionPlace → MissionSaid → Type 0
Says table s from p (Ok (o, q, e)) = (e ≡ reach (stops_by (Byte 10)) s from) × (line (judging table) (stretch s from e) from p ≡ said o q)
Says table s from p (Err n) = line (judging table) (stretch s from (reach (stops_by (Byte 10)) s from)) from p ≡ bad n

-- the same of a blank one
abbrev pub LineSays : List (List ℕ) → Bytes → ℕ → MissionPlace → DL.MissionLine → Type 0
LineSays table s from p (Line.Blank e) = (e ≡ reach (stops_by (Byte 10)) s from) × (line (judging table) (stretch s from e) from p ≡ blank)
LineSays table s from p (Line.Filled x) = Says table s from p x
