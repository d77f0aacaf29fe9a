-- ASKING FOR A NAME of a spelled text gives its bytes. Document 01, "Tables". Assumes nothing.
use mathlib.Core.Path.{◌≡◌, refl}
use mathlib.Core.List.{[], ◌∷◌}
use mathlib.Core.Option.{Option, none, some}
use Rattle.terms.specs.Ascii.{Bytes}
use Rattle.terms.proofs.Lists.{each_map}
use Rattle.line.specs.Content.{Field}
use Rattle.law.specs.Network.{Network, Mission, SpellsNetwork, SpellsMission, SpellsText}
use Rattle.edition.specs.declared.Edition.{Edition}
use Rattle.edition.specs.Editions.{rules_of}
use Rattle.law.specs.Tables.{name_words}
use Rattle.rows.proofs.Names.{name-missing}
use Rattle.law_tables.proofs.NamesStand.{asked, Given, names_stand, mission-names_stand}
use Rattle.replies.specs.Replies.{stretch, network_file, mission_file_of}
use Rattle.promises.specs.Accepted.{Asked, NamesAsked, MissionNamesAsked}
use Rattle.promises.proofs.Keeping.{rndf-later, mdf-later}

-- the words of a name in a table's row are its stretch
pub words-of-name : (v : Option Field) → name_words v ≡ (stretch v).start ∷ (stretch v).length ∷ []
words-of-name none = refl
words-of-name (some v) = refl

module _ (text : Bytes) where
  -- a name that is given, or missing
  given : (v : Option Field) → Given text v → Asked text v
  given none e = name-missing text
  given (some v) e = asked text v e.0

  -- THE THEOREMS
  -- 01: "Asking for a name returns that stretch of the caller's own text"; "A network or mission is its tables with each name's bytes in place of start and length."
  pub names-asked : (edition : Edition) (n : Network Field) → SpellsText (rules_of edition) SpellsNetwork n text → NamesAsked text (network_file n) n
  names-asked edition n h =
      let s = names_stand text n (rndf-later edition n text h) in
      record {
        name = asked text n.name s.name;
        version = given n.version s.version;
        date = given n.date s.date;
        segments = each_map (λ s. Given text s.name) (λ s. Asked text s.name) (λ s g. given s.name g) n.segments s.segments;
        zones = each_map (λ z. Given text z.name) (λ z. Asked text z.name) (λ z g. given z.name g) n.zones s.zones;
      }

  pub mission-names-asked : (edition : Edition) (m : Mission Field) → SpellsText (rules_of edition) SpellsMission m text → MissionNamesAsked text (mission_file_of m) m
  mission-names-asked edition m h =
      let s = mission-names_stand text m (mdf-later edition m text h) in
      record { name = asked text m.name s.name; rndf = asked text m.rndf s.rndf; version = given m.version s.version; date = given m.date s.date }
