-- THE WORKED PAIRS: equal writings of two texts that differ in everything but what they mean, other writings of two that differ in one option, and of two that differ in the order of stops. Assumes nothing.
use mathlib.Core.Path.{◌≡◌, refl, sym, ap, subst, ◌∙◌}
use mathlib.Core.List.{List, [], ◌∷◌}
use Prim.Native.Nat.{ℕ, ◌≤◌}
use native.Mathlib.Omega.{arith}
use lib.Dec.{lit≤}
use lib.IntN.{pos}
use lib.ListN.{length}
use Rattle.terms.specs.Ascii.{Bytes, ascii}
use Rattle.line.specs.Content.{Field}
use Rattle.number.specs.Decimal as Decimal
use Rattle.number.specs.House as Number
use Rattle.coordinate.specs.House as Coordinate
use Rattle.word.specs.Keywords as Keywords
use Rattle.grammar.specs.Statements.{numbered}
use Rattle.grammar.specs.Network.{Network}
use Rattle.grammar.specs.HouseOrder.{GoodNetwork, house_network, house_segment, segment_options, house_lane, lane_options, file_options}
use Rattle.text.specs.HouseLine as HouseLine
use Rattle.text.specs.RndfLines.{rndf_line_in_of}
use Rattle.law.specs.Network.{SpellsNetwork, SpellsText}
use Rattle.law.specs.Faults.{Sound, waypoint, first}
use Rattle.law.specs.Tables.{Lent, lent, HasRoom}
use Rattle.edition.specs.declared.Edition.{Edition}
use Rattle.edition.specs.Editions.{rules_of}
use Rattle.replies.specs.Replies.{longest}
use Rattle.replies.specs.Short.{AcceptsRndf}
use Rattle.house_text.specs.HouseText.{house_text_of, house_rndf}
use Rattle.house_text.proofs.Lawful.{house-rndf-is}
use Rattle.house_text.proofs.Theorems.{rndf-one-writing}
use Rattle.promises.proofs.Forms.{one-spelled}
use Rattle.filed.specs.Filed.{Filed, SameButDate, SameYard}
use Rattle.filed.specs.Pairs.{one, other, wider, stops_swapped, EqualWritings, OtherWritings, Written, Worked}
use Rattle.filed.proofs.Theorems.{filed_alike, is_filed}
use Rattle.filed.proofs.PairTexts.{network_of, one-version, one-date, other_version, other-date, of_one, of_other, of-wider, of-swapped, spelled, same_networks, other_width, other-stops}

-- ## The same yard
same-yard : (edition edition' : Edition) → SameYard (rules_of edition) (rules_of edition') one other
same-yard edition edition' = (of_one, of_other, (spelled edition).one, (spelled edition').other, same_networks)

equal : EqualWritings one other
equal edition edition' writing writing' w w' = (filed_alike edition edition' one other writing writing' w w').1 (same-yard edition edition')

-- ## Not the same
-- two texts that spell networks which are not the same have other writings
apart : (text text' : Bytes) (n n' : Network Field) → ((edition : Edition) → SpellsText (rules_of edition) SpellsNetwork n text) → ((edition : Edition) → SpellsText (rules_of edition) SpellsNetwork n' text')
    → (SameButDate n n' → ⊥) → OtherWritings text text'
apart text text' n n' s s' d edition edition' writing writing' w w' e =
    let y = (filed_alike edition edition' text text' writing writing' w w').0 e in
    let p = one-spelled edition text y.0 n y.2 (s edition) in
    let q = one-spelled edition' text' y.1 n' y.3 (s' edition') in
    d (subst (SameButDate n) q (subst (λ (x : Network Field). SameButDate x y.1) p y.4))

-- ## Each is written
-- tables with just so many rows
abbrev table : Lent
table = lent (0 ∷ 0 ∷ 0 ∷ 0 ∷ []) (0 ∷ 0 ∷ 0 ∷ 0 ∷ 0 ∷ []) [] [] (pos 0 ∷ pos 0 ∷ pos 0 ∷ pos 0 ∷ []) (0 ∷ 0 ∷ []) (0 ∷ 0 ∷ []) (0 ∷ 0 ∷ [])

module _ (name version date : Field) (width i j : ℕ) where
  abbrev net : Network Field
  net = network_of name version date width (i ∷ j ∷ [])

  roomy : HasRoom net table
  roomy = record { segments = lit≤ tt; lanes = lit≤ tt; zones = lit≤ tt; spots = lit≤ tt; points = lit≤ tt; checkpoints = lit≤ tt; stops = lit≤ tt; exits = lit≤ tt }

  sound : Sound net
  sound = record { entries = (waypoint _ _ first first (record { low = omega arith; high = omega arith }), tt); numbers = ((λ a. a), tt) }

  written-so : (edition : Edition) (text : Bytes) → SpellsText (rules_of edition) SpellsNetwork net text → length text ≤ longest → GoodNetwork net → length (house_rndf net) ≤ 16777215 → Written edition text
  written-so edition text s small good size = (house_rndf net, is_filed edition text table net (length (house_rndf net)) (house_rndf net) (record { size = small; spelled = s; room = roomy; right = sound }) (house-rndf-is net good) (record { size = size; room = omega arith }))

record Small : Type 0 where
  pub one : length one ≤ longest
  pub other : length other ≤ longest
  pub wider : length wider ≤ longest
  pub stops_swapped : length stops_swapped ≤ longest

small : Small
unfolding ascii
small = record { one = lit≤ tt; other = lit≤ tt; wider = lit≤ tt; stops_swapped = lit≤ tt }

record Sizes : Type 0 where
  pub one : length (house_rndf of_one) ≤ 16777215
  pub wider : length (house_rndf of-wider) ≤ 16777215
  pub stops_swapped : length (house_rndf of-swapped) ≤ 16777215

sizes : Sizes
unfolding ascii house_rndf house_text_of house_network file_options house_segment segment_options house_lane lane_options numbered rndf_line_in_of HouseLine.house_field Number.house_integer Number.house_pair Number.house_triple Decimal.decimal Decimal.spell Decimal.padded Coordinate.house_degrees Coordinate.house_coordinate Keywords.boundary_words HouseLine.tabbed Keywords.boundary_of
sizes = record { one = lit≤ tt; wider = lit≤ tt; stops_swapped = lit≤ tt }

each-written : (edition : Edition) → Written edition one × Written edition other × Written edition wider × Written edition stops_swapped
each-written edition =
    let s = spelled edition in (
      written-so of_one.name one-version one-date 12 2 1 edition one s.one small.one (omega arith) sizes.one,
      written-so of_other.name other_version other-date 12 2 1 edition other s.other small.other (omega arith) (subst (λ (w : Bytes). length w ≤ 16777215) (rndf-one-writing of_one of_other same_networks) sizes.one),
      written-so of_one.name one-version one-date 13 2 1 edition wider s.wider small.wider (omega arith) sizes.wider,
      written-so of_one.name one-version one-date 12 1 2 edition stops_swapped s.stops_swapped small.stops_swapped (omega arith) sizes.stops_swapped,
    )

pub worked : Worked
worked = record {
  same = equal;
  width = apart one wider of_one of-wider (λ edition. (spelled edition).one) (λ edition. (spelled edition).wider) other_width;
  stops = apart one stops_swapped of_one of-swapped (λ edition. (spelled edition).one) (λ edition. (spelled edition).stops_swapped) other-stops;
  each = each-written;
}
