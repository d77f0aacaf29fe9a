-- THE LAW: at a sound place a line of an edition gets what `text` says of it in that edition, and the next place is sound. Assumes nothing.
use mathlib.Core.Path.{◌≡◌, refl, sym, ap, subst, ◌∙◌}
use mathlib.Core.Option.{none, some}
use mathlib.Core.Bool.{Bool, true, false}
use Prim.Native.Nat.{ℕ}
use lib.Dec.{eqb}
use Rattle.terms.specs.Ascii.{Bytes}
use Rattle.terms.specs.Words.{pick}
use Rattle.line.specs.Content.{Field}
use Rattle.grammar.specs.Editions.{Edition, march, december}
use Rattle.grammar.specs.Statements.{Kind, Says, RNDF_name_of, num_segments, num_zones, format_version_of, creation_date_of, segment, num_lanes, segment_name_of, end_segment, lane, num_waypoints, lane_width_of, left_boundary_of, right_boundary_of, checkpoint, stop, exit, end_lane_of, zone, num_spots, zone_name_of, end_zone, perimeter, num_perimeterpoints, end_perimeter, spot, spot_width_of, end_spot, end_file_of, point}
use Rattle.grammar.specs.Statements as G
use Rattle.grammar.specs.Machine.{Stand}
use Rattle.grammar.specs.Places.{rndf, Base}
use Rattle.grammar.specs.Renamed.{says_named, statement_named}
use Rattle.text.specs.Judge.{Verdict, fault, good, judge}
use Rattle.text.specs.RndfWords.{rndf_lexis_in, rndf_lexis}
use Rattle.text.proofs.Theorems.{places}
use Rattle.statement.specs.declared.Statement.{Statement}
use Rattle.statement.specs.Meaning.{Stretch, meant}
use Rattle.made_out.specs.Names.{the_the_stretch_of}
use Rattle.place.specs.declared.Place.{Place}
use Rattle.place.specs.Abstract.{abs_of}
use Rattle.place.proofs.Theorems.{Sound}
use Rattle.judge.specs.Judging.{Got, bad, blank, said, line}
use Rattle.judge.specs.RndfLine.{rndf_judging}
use Rattle.judge.proofs.RndfTies.{rndf_ties}
use Rattle.editions.specs.Bars.{bars}
use Rattle.editions.proofs.Barred.{barred, judge-barred}
use Rattle.walk.proofs.Walked.{viewed, renamed, SoundGot, Tells, tied-told, tied-stays}
use Rattle.edition_judge.specs.EditionLine.{bars_of, judging_in}
use Rattle.edition_judge.proofs.Lines.{bar_got, line-so}

-- what is barred does not go by names
named-alike : (e : Edition) (k : Kind) (v : Says Field k) → bars Stretch e k (says_named the_the_stretch_of k v) ≡ bars Field e k v
named-alike march k v = refl
named-alike december RNDF_name_of v = refl
named-alike december num_segments v = refl
named-alike december num_zones v = refl
named-alike december format_version_of v = refl
named-alike december creation_date_of v = refl
named-alike december segment v = refl
named-alike december num_lanes v = refl
named-alike december segment_name_of v = refl
named-alike december end_segment v = refl
named-alike december lane v = refl
named-alike december num_waypoints v = refl
named-alike december lane_width_of v = refl
named-alike december left_boundary_of v = refl
named-alike december right_boundary_of v = refl
named-alike december checkpoint v = refl
named-alike december stop v = refl
named-alike december exit v = refl
named-alike december end_lane_of v = refl
named-alike december zone v = refl
named-alike december num_spots v = refl
named-alike december zone_name_of v = refl
named-alike december end_zone v = refl
named-alike december perimeter v = refl
named-alike december num_perimeterpoints v = refl
named-alike december end_perimeter v = refl
named-alike december spot v = refl
named-alike december spot_width_of v = refl
named-alike december end_spot v = refl
named-alike december end_file_of v = refl
named-alike december point v = refl

module _ (e : Edition) where
  -- over what statements mean
  abbrev bar_meant : Verdict (G.Statement Stretch) (Stand Base) → Verdict (G.Statement Stretch) (Stand Base)
  bar_meant (fault n) = fault n
  bar_meant (good none q) = good none q
  bar_meant (good (some m) q) = pick (eqb (bars Stretch e m.kind m.val) 0) (good (some m) q) (fault (bars Stretch e m.kind m.val))

  view-barred : (p : Place) (g : Got Statement Place) → viewed (places e) (rndf_lexis_in e) (judging_in e) meant abs_of p (bar_got e g) ≡ bar_meant (viewed (rndf Field) rndf_lexis rndf_judging meant abs_of p g)
  unfolding bars_of
  view-barred p (bad n) = refl
  view-barred p blank = refl
  view-barred p (said s q) = go (eqb (bars Stretch e (meant s).kind (meant s).val) 0)
    where
      n : ℕ
      n = bars Stretch e (meant s).kind (meant s).val

      go : (b : Bool) → viewed (places e) (rndf_lexis_in e) (judging_in e) meant abs_of p (pick b (said s q) (bad n)) ≡ pick b (good (some (meant s)) (abs_of q)) (fault n)
      go true = refl
      go false = refl

  renamed-barred : (v : Verdict (G.Statement Field) (Stand Base)) → bar_meant (renamed (rndf Field) rndf_lexis rndf_judging (statement_named the_the_stretch_of) v) ≡ renamed (places e) (rndf_lexis_in e) (judging_in e) (statement_named the_the_stretch_of) (barred e v)
  renamed-barred (fault n) = refl
  renamed-barred (good none q) = refl
  renamed-barred (good (some t) q) = ap (λ (n : ℕ). pick (eqb n 0) (good (some (statement_named the_the_stretch_of t)) q) (fault n)) (named-alike e t.kind t.val) ∙ go (eqb (bars Field e t.kind t.val) 0)
    where
      n : ℕ
      n = bars Field e t.kind t.val

      go : (b : Bool) → pick b (good (some (statement_named the_the_stretch_of t)) q) (fault n) ≡ renamed (places e) (rndf_lexis_in e) (judging_in e) (statement_named the_the_stretch_of) (pick b (good (some t) q) (fault n))
      go true = refl
      go false = refl

  pub line-told_in : (p : Place) → Sound p → (base : ℕ) (s : Bytes)
      → viewed (places e) (rndf_lexis_in e) (judging_in e) meant abs_of p (line (judging_in e) s base p) ≡ renamed (places e) (rndf_lexis_in e) (judging_in e) (statement_named the_the_stretch_of) (judge (places e) (rndf_lexis_in e) (abs_of p) base s)
  line-told_in p h base s =
      ap (viewed (places e) (rndf_lexis_in e) (judging_in e) meant abs_of p) (line-so e s base p)
      ∙ view-barred p (line rndf_judging s base p)
      ∙ ap bar_meant (tied-told (rndf Field) rndf_lexis rndf_judging rndf_ties p h base s)
      ∙ renamed-barred (judge (rndf Field) rndf_lexis (abs_of p) base s)
      ∙ ap (renamed (places e) (rndf_lexis_in e) (judging_in e) (statement_named the_the_stretch_of)) (sym (judge-barred e (abs_of p) base s))

  stays-barred : (g : Got Statement Place) → SoundGot (rndf Field) rndf_lexis rndf_judging Sound g → SoundGot (places e) (rndf_lexis_in e) (judging_in e) Sound (bar_got e g)
  stays-barred (bad n) h = tt
  stays-barred blank h = tt
  stays-barred (said s q) h = go (eqb (bars_of e s) 0)
    where
      go : (b : Bool) → SoundGot (places e) (rndf_lexis_in e) (judging_in e) Sound (pick b (said s q) (bad (bars_of e s)))
      go true = h
      go false = tt

  pub line-stays_in : (p : Place) → Sound p → (base : ℕ) (s : Bytes) → SoundGot (places e) (rndf_lexis_in e) (judging_in e) Sound (line (judging_in e) s base p)
  line-stays_in p h base s =
      subst (SoundGot (places e) (rndf_lexis_in e) (judging_in e) Sound) (sym (line-so e s base p))
      (stays-barred (line rndf_judging s base p) (tied-stays (rndf Field) rndf_lexis rndf_judging rndf_ties p h base s))

  abbrev pub edition-tells : Tells (places e) (rndf_lexis_in e) (judging_in e)
  edition-tells = record { Mean = G.Statement Stretch; meant = meant; moved = statement_named the_the_stretch_of; abs = abs_of; Sound = Sound; line_told = line-told_in; line_stays = line-stays_in }
