-- THE RETURN TRIP, for the RNDF and for the MDF: the house writing of what a text spells spells the same but for a missing date (L12), names by their bytes; it depends on nothing else, and is its own house writing. Assumes nothing.
use mathlib.Core.Path.{◌≡◌, sym, ap, subst, ◌∙◌}
use Rattle.terms.specs.Ascii.{Bytes}
use Rattle.line.specs.Content.{Field}
use Rattle.grammar.specs.Network.{Network, SpellsNetwork}
use Rattle.grammar.specs.Mission.{Mission, GoodMission, SpellsMission}
use Rattle.grammar.specs.HouseOrder.{GoodNetwork, house_network, house_mission}
use Rattle.grammar.specs.Names.{network_named, mission_named}
use Rattle.grammar.proofs.Theorems.{network-house, network_ranges, mission-house, mission_ranges}
use Rattle.text.specs.RndfLines.{the_rndf_line_of}
use Rattle.text.specs.MdfLines.{the_mdf_line_of}
use Rattle.text.specs.Spelling.{SpellsRndf, SpellsMdf, Name, bytes_of, MeansNetwork, MeansMission}
use Rattle.text.proofs.Theorems.{one-rndf, one-mdf}
use Rattle.house_text.specs.House.{undated, mission_undated}
use Rattle.house_text.specs.HouseText.{house_rndf, house_mdf}
use Rattle.house_text.specs.Names.{NetworkNames, MissionNames}
use Rattle.house_text.proofs.Lines.{relocated, written_spells}
use Rattle.house_text.proofs.Moved.{rndf_movable, rndf-relocated, rndf-one-text, mdf_movable, mdf-relocated, mdf-one-text}
use Rattle.house_text.proofs.Writable.{network_writable, mission_writable}
use Rattle.house_text.proofs.Named.{rndf-names, mdf-names}
use Rattle.house_text.proofs.Order.{network-order, mission-order}
use Rattle.house_text.proofs.SameSpelling.{network-alike, mission-alike}
use Rattle.house_text.proofs.Undated.{undated-good, undated-names, undated-named, undated-same, mission-undated-good, mission-undated-names, mission-undated-named, mission-undated-same}

-- ## RNDF
-- every network that keeps the ranges and whose names are names, whether or not it came from a text, is spelled by its house writing, with its names where they stand there
pub network-back : (n : Network Field) → GoodNetwork n → NetworkNames n → (n' : Network Field) × SpellsRndf n' (house_rndf n) × (network_named bytes_of n' ≡ network_named bytes_of (undated n))
unfolding house_rndf
network-back n g names =
    let said = house_network (undated n) in
    let good = undated-good n g in
    let x = network-alike bytes_of (undated n) said (relocated the_rndf_line_of rndf_movable 0 said) (network-house (undated n) good) (sym (rndf-relocated 0 said)) in
    (x.0, written_spells the_rndf_line_of rndf_movable SpellsNetwork x.0 said (network_writable (undated n) good (undated-names n names)) x.1, x.2)

-- so is every network that a text spells
pub rndf-back : (n : Network Field) (text : Bytes) → SpellsRndf n text → (n' : Network Field) × SpellsRndf n' (house_rndf n) × (network_named bytes_of n' ≡ network_named bytes_of (undated n))
rndf-back n text s = network-back n (network_ranges n s.said s.net) (rndf-names n text s)

-- the house writing depends on the names' bytes only, not on where they stood, nor on the date
pub rndf-one-writing : (n n' : Network Field) → network_named bytes_of (undated n) ≡ network_named bytes_of (undated n') → house_rndf n ≡ house_rndf n'
unfolding house_rndf
rndf-one-writing n n' e = rndf-one-text (house_network (undated n)) (house_network (undated n')) (network-order bytes_of (undated n) ∙ ap house_network e ∙ sym (network-order bytes_of (undated n')))

-- whatever the house writing spells has the names of what it was written for
pub rndf-same : (n n' : Network Field) (text : Bytes) → SpellsRndf n text → SpellsRndf n' (house_rndf n) → network_named bytes_of n' ≡ network_named bytes_of (undated n)
rndf-same n n' text s s' = let b = rndf-back n text s in ap (network_named bytes_of) (one-rndf n' b.0 (house_rndf n) s' b.1) ∙ b.2

-- the house writing of a house writing is the same bytes
pub rndf-again : (n n' : Network Field) (text : Bytes) → SpellsRndf n text → SpellsRndf n' (house_rndf n) → house_rndf n' ≡ house_rndf n
rndf-again n n' text s s' = rndf-one-writing n' n (undated-same n' (undated n) (rndf-same n n' text s s'))

-- texts with one house writing spell one network but for the date, names by their bytes
pub rndf-told : (n n' : Network Field) (text text' : Bytes) → SpellsRndf n text → SpellsRndf n' text' → house_rndf n ≡ house_rndf n' → network_named bytes_of (undated n) ≡ network_named bytes_of (undated n')
rndf-told n n' text text' s s' e = let b = rndf-back n text s in sym b.2 ∙ rndf-same n' b.0 text' s' (subst (SpellsRndf b.0) e b.1)

-- 01: "A network or mission is its tables with each name's bytes in place of start and length." The house writing of what a text means means the same, without the date
pub network-means : (a : Network Name) (text : Bytes) (h : MeansNetwork a text) → MeansNetwork (undated a) (house_rndf h.located)
network-means a text h = let b = rndf-back h.located text h.spelled in record { located = b.0; spelled = b.1; named = b.2 ∙ undated-named h.located ∙ ap undated h.named }

-- ## MDF
pub mission-back : (m : Mission Field) → GoodMission m → MissionNames m → (m' : Mission Field) × SpellsMdf m' (house_mdf m) × (mission_named bytes_of m' ≡ mission_named bytes_of (mission_undated m))
unfolding house_mdf
mission-back m g names =
    let said = house_mission (mission_undated m) in
    let good = mission-undated-good m g in
    let x = mission-alike bytes_of (mission_undated m) said (relocated the_mdf_line_of mdf_movable 0 said) (mission-house (mission_undated m) good) (sym (mdf-relocated 0 said)) in
    (x.0, written_spells the_mdf_line_of mdf_movable SpellsMission x.0 said (mission_writable (mission_undated m) good (mission-undated-names m names)) x.1, x.2)

pub mdf-back : (m : Mission Field) (text : Bytes) → SpellsMdf m text → (m' : Mission Field) × SpellsMdf m' (house_mdf m) × (mission_named bytes_of m' ≡ mission_named bytes_of (mission_undated m))
mdf-back m text s = mission-back m (mission_ranges m s.said s.net) (mdf-names m text s)

pub mdf-one-writing : (m m' : Mission Field) → mission_named bytes_of (mission_undated m) ≡ mission_named bytes_of (mission_undated m') → house_mdf m ≡ house_mdf m'
unfolding house_mdf
mdf-one-writing m m' e = mdf-one-text (house_mission (mission_undated m)) (house_mission (mission_undated m')) (mission-order bytes_of (mission_undated m) ∙ ap house_mission e ∙ sym (mission-order bytes_of (mission_undated m')))

pub mdf-same : (m m' : Mission Field) (text : Bytes) → SpellsMdf m text → SpellsMdf m' (house_mdf m) → mission_named bytes_of m' ≡ mission_named bytes_of (mission_undated m)
mdf-same m m' text s s' = let b = mdf-back m text s in ap (mission_named bytes_of) (one-mdf m' b.0 (house_mdf m) s' b.1) ∙ b.2

pub mdf-again : (m m' : Mission Field) (text : Bytes) → SpellsMdf m text → SpellsMdf m' (house_mdf m) → house_mdf m' ≡ house_mdf m
mdf-again m m' text s s' = mdf-one-writing m' m (mission-undated-same m' (mission_undated m) (mdf-same m m' text s s'))

pub mdf-told : (m m' : Mission Field) (text text' : Bytes) → SpellsMdf m text → SpellsMdf m' text' → house_mdf m ≡ house_mdf m' → mission_named bytes_of (mission_undated m) ≡ mission_named bytes_of (mission_undated m')
mdf-told m m' text text' s s' e = let b = mdf-back m text s in sym b.2 ∙ mdf-same m' b.0 text' s' (subst (SpellsMdf b.0) e b.1)

pub mission-means : (a : Mission Name) (text : Bytes) (h : MeansMission a text) → MeansMission (mission_undated a) (house_mdf h.located)
mission-means a text h = let b = mdf-back h.located text h.spelled in record { located = b.0; spelled = b.1; named = b.2 ∙ mission-undated-named h.located ∙ ap mission_undated h.named }
