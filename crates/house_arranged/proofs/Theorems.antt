-- A text's own lines in house order are the house writing of what it spells. Assumes nothing.
use mathlib.Core.Path.{◌≡◌, ap, ◌∙◌}
use Rattle.terms.specs.Ascii.{Bytes}
use Rattle.line.specs.Content.{Field}
use Rattle.grammar.specs.Network.{Network}
use Rattle.grammar.specs.Mission.{Mission}
use Rattle.text.specs.RndfLines.{the_rndf_line_of}
use Rattle.text.specs.MdfLines.{the_mdf_line_of}
use Rattle.text.specs.Spelling.{SpellsRndf, SpellsMdf}
use Rattle.house_text.specs.HouseText.{house_text_of, house_rndf, house_mdf}
use Rattle.house_lines.specs.Arranged.{arranged_text}
use Rattle.house_arranged.specs.Ranks.{rndf_rank, mdf_rank}
use Rattle.house_arranged.proofs.Networks.{network-arranged}
use Rattle.house_arranged.proofs.Missions.{mission-arranged}
use Rattle.house_arranged.proofs.Shapes.{rndf-shapes, mdf-shapes}
use Rattle.house_arranged.proofs.Texts.{text-arranged}

pub arranged-rndf : (n : Network Field) (text : Bytes) → SpellsRndf n text → arranged_text text ≡ house_rndf n
unfolding house_rndf
arranged-rndf n text h = text-arranged the_rndf_line_of rndf_rank rndf-shapes text h.lines h.said h.made h.each ∙ ap (house_text_of the_rndf_line_of) (network-arranged n h.said h.net)

pub arranged-mdf : (m : Mission Field) (text : Bytes) → SpellsMdf m text → arranged_text text ≡ house_mdf m
unfolding house_mdf
arranged-mdf m text h = text-arranged the_mdf_line_of mdf_rank mdf-shapes text h.lines h.said h.made h.each ∙ ap (house_text_of the_mdf_line_of) (mission-arranged m h.said h.net)
