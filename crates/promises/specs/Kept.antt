-- WHAT A READER MUST BELIEVE. What it is that later rules accept whatever earlier ones accepted, with the same tables. Requests L3, L10. Assumes nothing.
use Rattle.std.specs.Prelude.{Ok}
use Rattle.terms.specs.Words.{Bytes}
use Rattle.scan.specs.Allowed.{tab}
use Rattle.law.specs.Network.{Edition, Rules, AnyOrder}
use Rattle.law.specs.Tables.{Lent, MissionLent}
use Rattle.rows.specs.declared.FileRow.{FileRow}
use Rattle.rows.specs.declared.MissionFileRow.{MissionFileRow}
use Rattle.counts.specs.declared.Counts.{Counts}
use Rattle.counts.specs.declared.MissionCounts.{MissionCounts}
use Rattle.replies.specs.Replies.{ReadsRndf, ReadsPair}

-- L3: "every text accepted before gives the same tables": the same reply, and the same left in the lent tables; likewise a pair. L10: "what the older edition accepts, the present one accepts with the same tables": Kept (reading december_2006) (reading march_2007)
pub record Kept (earlier later : Rules) : Type 0 where
  pub rndf : (text : Bytes) (t left : Lent) (c : Counts) (file : FileRow) → ReadsRndf earlier text t (Ok (c, file)) left → ReadsRndf later text t (Ok (c, file)) left
  pub pair : (rndf mdf : Bytes) (t left : Lent) (u mission_left : MissionLent) (c : Counts) (file : FileRow) (d : MissionCounts) (own : MissionFileRow)
      → ReadsPair earlier rndf mdf t u (Ok (c, file, d, own)) left mission_left → ReadsPair later rndf mdf t u (Ok (c, file, d, own)) left mission_left

-- the rules before L3. 01: "Fields are separated by one or more tabs". The theorem: Kept (tabs_only e) (reading e), for every edition e
abbrev pub tabs_only : Edition → Rules
tabs_only edition = record { separates = tab; Options = AnyOrder; spot_checkpoints = 1; edition = edition }
