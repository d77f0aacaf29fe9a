-- The house writing as the law has it, over lines (specs/House), is the one over statements (specs/HouseText). Assumes nothing.
use mathlib.Core.Path.{◌≡◌, refl, sym, ap, ap₂, ◌∙◌}
use mathlib.Core.List.{List, [], ◌∷◌, ◌++◌, map, append_assoc, map-map}
use Prim.Native.Nat.{ℕ}
use Rattle.terms.specs.Ascii.{Bytes, ascii}
use Rattle.line.specs.Content.{Field}
use Rattle.number.specs.Decimal.{decimal}
use Rattle.number.specs.House.{house_integer, house_pair, house_triple}
use Rattle.law.specs.Network.{Network, Mission, Line}
use Rattle.law.specs.House.{tabbed}
use Rattle.grammar.specs.Language.{Stmt}
use Rattle.grammar.specs.HouseOrder.{GoodNetwork, house_network, house_mission}
use Rattle.grammar.specs.Mission.{GoodMission}
use Rattle.text.specs.Said as Old
use Rattle.text.specs.HouseLine as Old-house
use Rattle.text.specs.RndfLines.{the_rndf_line_of}
use Rattle.text.specs.MdfLines.{the_mdf_line_of}
use Rattle.law_spelling.specs.LineOf.{said_of, law_line, rndf_law_line, mdf_law_line}
use Rattle.law_spelling.proofs.Fields.{same_word, five}
use Rattle.law_spelling.proofs.House.{network-house-only, network-house, network-house-good, mission-house-only, mission-house}
use Rattle.house_text.specs.House.{house_field, written, undated, mission_undated, HouseRndf, HouseMdf}
use Rattle.house_text.proofs.Undated.{undated-good, mission-undated-good}
use Rattle.house_text.specs.HouseText.{ended_line, house_text_of, house_rndf, house_mdf}

-- a field
field-same : (s : Old.Said) → Old-house.house_field s ≡ house_field (said_of s)
unfolding Old-house.house_field house_integer house_pair house_triple
field-same (Old.word w) = refl
field-same (Old.name f) = refl
field-same (Old.integer n) = refl
field-same (Old.pair i) = append_assoc (decimal i.m) (ascii ".") (decimal i.n)
field-same (Old.triple i) = five (decimal i.x) (ascii ".") (decimal i.y) (ascii ".") (decimal i.z)
field-same (Old.coordinate z) = refl
field-same (Old.boundary d b) = same_word b

fields-same : (l : List Old.Said) → map Old-house.house_field l ≡ map house_field (map said_of l)
fields-same [] = refl
fields-same (s ∷ l) = ap₂ (λ (f : Bytes) (fs : List Bytes). f ∷ fs) (field-same s) (fields-same l)

-- all lines
pub text_same : {Kind : Type 0} {Pay : Kind → Type 0} (Line-of : (k : Kind) → Pay k → List Old.Said) (said : List (Stmt Kind Pay)) → house_text_of Line-of said ≡ written (map (law_line Line-of) said)
unfolding house_text_of written
text_same Line-of [] = refl
text_same Line-of (s ∷ said) =
    ap₂ (λ (x y : Bytes). x ++ ascii "\n" ++ y)
    (ap tabbed (fields-same (Line-of s.kind s.val)))
    (text_same Line-of said)

-- ## What the law calls the house writing is the one of house_text ..
pub house-rndf-only : (n : Network Field) (w : Bytes) → HouseRndf n w → w ≡ house_rndf n
unfolding house_rndf
house-rndf-only n w h = h.2 ∙ ap written (network-house-only (undated n) h.0 h.1) ∙ sym (text_same the_rndf_line_of (house_network (undated n)))

pub house-mdf-only : (m : Mission Field) (w : Bytes) → HouseMdf m w → w ≡ house_mdf m
unfolding house_mdf
house-mdf-only m w h = h.2 ∙ ap written (mission-house-only (mission_undated m) h.0 h.1) ∙ sym (text_same the_mdf_line_of (house_mission (mission_undated m)))

-- .. which it is of every network and mission that keeps the ranges
pub house-rndf-is : (n : Network Field) → GoodNetwork n → HouseRndf n (house_rndf n)
unfolding house_rndf
house-rndf-is n g = (map rndf_law_line (house_network (undated n)), network-house (undated n) (undated-good n g), text_same the_rndf_line_of (house_network (undated n)))

pub house-mdf-is : (m : Mission Field) → GoodMission m → HouseMdf m (house_mdf m)
unfolding house_mdf
house-mdf-is m g = (map mdf_law_line (house_mission (mission_undated m)), mission-house (mission_undated m) (mission-undated-good m g), text_same the_mdf_line_of (house_mission (mission_undated m)))
