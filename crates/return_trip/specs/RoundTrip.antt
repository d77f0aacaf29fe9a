-- WHAT A READER MUST BELIEVE. THE RETURN TRIP: what is replied, and left in the lent tables, where what was written of a text is read into the same tables. Document 01, "House writing"; "A network or mission is its tables with each name's bytes in place of start and length." Assumes nothing.
use Rattle.replies.specs.Types.{PairReply, RndfReply}
use Rattle.std.specs.Prelude.{◌≡◌, ◌∷◌, ◌++◌, Ok}
use Rattle.terms.specs.Words.{List, none, ℕ, length, replicate, Bytes}
use Rattle.law.specs.Network.{Rules}
use Rattle.law.specs.Tables.{Lent, MissionLent}
use Rattle.rows.specs.declared.FileRow.{FileRow}
use Rattle.rows.specs.declared.MissionFileRow.{MissionFileRow}
use Rattle.rows.specs.Name.{name_of}
use Rattle.counts.specs.declared.Counts.{Counts}
use Rattle.counts.specs.declared.MissionCounts.{MissionCounts}
use Rattle.replies.specs.Replies.{stretch}
use Rattle.return_trip.specs.ReadBack.{SameRndf, SameMdf}

-- text and text': what was read first, and what was written of it and read again
module _ (text text' : Bytes) where
  -- two tables row by row: so many words that are the same; where a name starts; its length. These may differ in where the name starts, but there its own text has the same bytes. What follows the rows is zero in both
  pub data SameRows (words : ℕ) : (l l' : List ℕ) → Type 0 where
    rest : {l : List ℕ} → l ≡ replicate (length l) 0 → SameRows words l l
    row : (same : List ℕ) (start start' long : ℕ) {l l' : List ℕ} → length same ≡ words → name_of text (record { start = start; length = long }) ≡ name_of text' (record { start = start'; length = long })
        → SameRows words l l' → SameRows words (same ++ (start ∷ long ∷ l)) (same ++ (start' ∷ long ∷ l'))

  -- the same tables but for where names start. l, l': as the first reading left them, and the second
  pub record SameTables (l l' : Lent) : Type 0 where
    -- 01: "Segment: first lane, lanes, name."
    pub segments : SameRows 2 l.segments l'.segments
    pub lanes : l.lanes ≡ l'.lanes
    -- 01: "Zone: first perimeter point, points, first spot (0 without spots), spots, name."
    pub zones : SameRows 4 l.zones l'.zones
    pub spots : l.spots ≡ l'.spots
    pub points : l.points ≡ l'.points
    pub checkpoints : l.checkpoints ≡ l'.checkpoints
    pub stops : l.stops ≡ l'.stops
    pub exits : l.exits ≡ l'.exits

  -- the same names in the file's row. L12: "but for a missing date"
  pub record SameFile (file file' : FileRow) : Type 0 where
    pub name : name_of text file.name ≡ name_of text' file'.name
    pub version : name_of text file.version ≡ name_of text' file'.version
    pub date : file'.date ≡ stretch none

  pub record SameMissionFile (file file' : MissionFileRow) : Type 0 where
    pub name : name_of text file.name ≡ name_of text' file'.name
    pub rndf : name_of text file.rndf ≡ name_of text' file'.rndf
    pub version : name_of text file.version ≡ name_of text' file'.version
    pub date : file'.date ≡ stretch none

-- rules: those by which it was accepted, and is read again (L10: its edition's)
-- an RNDF: it was accepted with these rows used and this file's row, which left the tables so. What was written of it is then accepted with the same rows used and the same names, and leaves the same tables but for where names start; the two spell the same network
pub record RndfRoundTrip (rules : Rules) (text writing : Bytes) (c : Counts) (file : FileRow) (left : Lent) (reply : RndfReply) (left' : Lent) : Type 0 where
  pub file' : FileRow
  pub replied : reply ≡ Ok (c, file')
  pub names : SameFile text writing file file'
  pub tables : SameTables text writing left left'
  pub network : SameRndf rules text writing

-- an RNDF with its MDF: likewise, and the goals and limits are the same words
pub record PairRoundTrip (rules : Rules) (rndf mdf rndf-writing mdf-writing : Bytes) (c : Counts) (file : FileRow) (d : MissionCounts) (own : MissionFileRow) (left : Lent) (mission_left : MissionLent) (reply : PairReply) (left' : Lent) (mission-left' : MissionLent) : Type 0 where
  pub file' : FileRow
  pub own' : MissionFileRow
  pub replied : reply ≡ Ok (c, file', d, own')
  pub names : SameFile rndf rndf-writing file file'
  pub mission_names : SameMissionFile mdf mdf-writing own own'
  pub tables : SameTables rndf rndf-writing left left'
  pub mission_tables : mission_left ≡ mission-left'
  pub network : SameRndf rules rndf rndf-writing
  pub mission : SameMdf rules mdf mdf-writing
