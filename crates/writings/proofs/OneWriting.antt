-- A network has one house writing, one map and one packed form, a mission has one house writing; and it fits an output, or it does not. Assumes nothing.
use Rattle.std.specs.Prelude.{Some, None, Option}
use mathlib.Core.Path.{◌≡◌, refl, sym, ◌∙◌}
use mathlib.Core.Logic.{◌⊎◌, inl, inr}
use Prim.Native.Nat.{ℕ}
use Rattle.terms.specs.Ascii.{Bytes}
use Rattle.line.specs.Content.{Field}
use Rattle.grammar.specs.Editions.{Edition, law_of}
use Rattle.law.specs.Network.{Network, Mission, SpellsNetwork, SpellsMission, SpellsText, reading}
use Rattle.grammar.proofs.Written.{network-good, mission-good}
use Rattle.law_spelling.proofs.Texts.{rndf-back_in, mdf-back_in}
use Rattle.editions.proofs.Later.{later}
use Rattle.map_law.specs.Map.{geojson}
use Rattle.packed_law.specs.Packed.{packed_form}
use Rattle.house_text.specs.House.{HouseRndf, HouseMdf}
use Rattle.house_text.specs.HouseText.{house_rndf, house_mdf}
use Rattle.house_text.proofs.Lawful.{house-rndf-only, house-rndf-is, house-mdf-only, house-mdf-is}
use Rattle.output.specs.Ended.{Output}
use Rattle.output.specs.Output.{Fits}
use Rattle.output.specs.Pen.{output_of, answer_of}
use Rattle.output.proofs.Whole.{output-is, answered-written, answered_too-long}
use Rattle.writings.specs.Writes.{MapOf, PackedOf}

-- every network that a text spells has a writing, and no second
pub record OneWriting (ed : Edition) (Writing : Network Field → Bytes → Type 0) : Type 0 where
  pub there : (n : Network Field) (text : Bytes) → SpellsText (reading (law_of ed)) SpellsNetwork n text → (writing : Bytes) × Writing n writing
  pub same : (n : Network Field) (x y : Bytes) → Writing n x → Writing n y → x ≡ y

pub house-one : (ed : Edition) → OneWriting ed HouseRndf
house-one ed = record {
  there = λ n text s. let b = later ed n text (rndf-back_in ed n text s) in (house_rndf n, house-rndf-is n (network-good n b.said b.net));
  same = λ n x y h k. house-rndf-only n x h ∙ sym (house-rndf-only n y k);
}

-- a map is a function of the network
pub map-one : (ed : Edition) → OneWriting ed MapOf
map-one ed = record { there = λ n text s. (geojson n, refl); same = λ n x y h k. h ∙ sym k }

-- a packed form is too
pub packed-one : (ed : Edition) → OneWriting ed PackedOf
packed-one ed = record { there = λ n text s. (packed_form n, refl); same = λ n x y h k. h ∙ sym k }

pub mdf-there : (ed : Edition) (m : Mission Field) (mdf : Bytes) → SpellsText (reading (law_of ed)) SpellsMission m mdf → HouseMdf m (house_mdf m)
mdf-there ed m mdf s = let b = mdf-back_in ed m mdf s in house-mdf-is m (mission-good m b.said b.net)

pub mdf-same : (m : Mission Field) (x y : Bytes) → HouseMdf m x → HouseMdf m y → x ≡ y
mdf-same m x y h k = house-mdf-only m x h ∙ sym (house-mdf-only m y k)

pub fits-or-not : (lent : ℕ) (x : Bytes) → Fits lent x ⊎ (Fits lent x → ⊥)
fits-or-not lent x = go (answer_of lent x) (output-is lent x)
  where
    go : (answer : Option ℕ) → Output lent x (output_of lent x) answer → Fits lent x ⊎ (Fits lent x → ⊥)
    go (Some k) o = inl (answered-written o).0
    go None o = inr (answered_too-long o).0
