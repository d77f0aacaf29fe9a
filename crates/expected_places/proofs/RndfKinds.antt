-- Of a kind that may stand at a place of an RNDF, L8 aside: its form is listed there, and its first field opens it. Assumes nothing.
use mathlib.Core.Path.{◌≡◌, sym, ap₂, subst, ◌∙◌}
use mathlib.Core.List.{List, [], ◌∷◌, map}
use mathlib.Core.Option.{none}
use mathlib.Core.Bool.{Bool, true}
use Prim.Native.Nat.{ℕ}
use Rattle.terms.specs.Words.{Among}
use Rattle.terms.proofs.Tests.{nothing}
use Rattle.line.specs.Content.{Field}
use Rattle.law.specs.Network.{Line, numbers}
use Rattle.law.specs.Faults.{Opens, digit}
use Rattle.law_spelling.specs.LineOf.{law_line}
use Rattle.law_faults.proofs.Opening.{opens-word}
use Rattle.edition.specs.declared.Edition as DE
use Rattle.edition.specs.Editions.{inner}
use Rattle.grammar.specs.Machine.{Machine, lenient, Stand, over, inside}
use Rattle.grammar.specs.Network.{under}
use Rattle.grammar.specs.Places.{rndf_by, opts, due_in, Base}
use Rattle.grammar.specs.Stands.{stands}
use Rattle.grammar.specs.Statements.{Kind, Says, say, lines, RNDF_name_of, num_segments, num_zones, format_version_of, creation_date_of, segment, num_lanes, segment_name_of, end_segment, lane, num_waypoints, lane_width_of, left_boundary_of, right_boundary_of, checkpoint, stop, exit, end_lane_of, zone, num_spots, zone_name_of, end_zone, perimeter, num_perimeterpoints, end_perimeter, spot, spot_width_of, end_spot, end_file_of, point}
use Rattle.grammar.proofs.Follows.{Fit}
use Rattle.grammar.proofs.Keeping.{GoodPlace}
use Rattle.text.specs.RndfLines.{rndf_line_in_of}
use Rattle.text.proofs.RndfText.{Bounded}
use Rattle.place.specs.declared.Place.{Place}
use Rattle.place.specs.Abstract.{place_of, abs_of}
use Rattle.place.proofs.Theorems.{Sound}
use Rattle.expected_law.specs.Expected.{Form, OpensForm, keyword}
use Rattle.expected_law.specs.Short.{Digit}
use Rattle.expected_law.specs.Expected as Told
use Rattle.expected_forms.specs.Forms.{first_item_of, rndf_form_of}
use Rattle.expected_exact.specs.Listed.{rndf_options, rndf_due, open_options, listed}
use Rattle.expected_places.proofs.Keywords.{word_0, word_1, word_2, word_3, word_4, word_5, word_6, word_7, word_8, word_9, word_10, word_11, word_12, word_13, word_14, word_15, word_16, word_17, word_18, word_19, word_20, word_21, word_22, word_23, word_24, word_25, word_26, word_27, word_28}
use Rattle.expected_places.proofs.KindListed.{among-listed}
use Rattle.expected_places.proofs.RndfForms.{kind-form, due-form, option_forms}

module _ (e : DE.Edition) where
  -- the places where a spot may be without its checkpoint
  abbrev loose : Machine (lines Field)
  loose = lenient (rndf_by Field (under (inner e) true))

  -- ## It is listed
  loose-list : (b : Base) (g : List Bool) → Bounded b
      → kind-form e (place_of (inside b g)) (due_in Field (inner e) b).on ∷ open_options (lines Field) (opts Field b) g (map (λ o. kind-form e (place_of (inside b g)) o.on) (opts Field b)) ≡ listed loose (rndf_options (inner e)) (rndf_due (inner e)) (inside b g)
  unfolding listed
  loose-list b g y = ap₂ (λ (d : Form) (os : List Form). d ∷ open_options (lines Field) (opts Field b) g os) (due-form e b g y) (option_forms e b g)

  form-at : (q : Stand Base) → GoodPlace loose Bounded q → (k : Kind) → stands loose q k ≡ none → Among (kind-form e (place_of q) k) (listed loose (rndf_options (inner e)) (rndf_due (inner e)) q)
  unfolding stands
  form-at over h k s = nothing (sym s)
  form-at (inside b g) h k s = subst (Among (kind-form e (place_of (inside b g)) k)) (loose-list b g h) (among-listed (lines Field) (kind-form e (place_of (inside b g))) loose b g k s)

  pub rndf-form-listed : (p : Place) → Sound p → GoodPlace loose Bounded (abs_of p) → (k : Kind) → stands loose (abs_of p) k ≡ none → Among (kind-form e p k) (listed loose (rndf_options (inner e)) (rndf_due (inner e)) (abs_of p))
  rndf-form-listed p s h k c = subst (λ (r : Place). Among (kind-form e r k) (listed loose (rndf_options (inner e)) (rndf_due (inner e)) (abs_of p))) s (form-at (abs_of p) h k c)

  -- ## It is opened
  digit-of : {f : Field} {i : List ℕ} {l : Line} → Opens f (numbers i ∷ l) → Digit f
  digit-of (digit q d) = digit q d

  pub rndf-form-opens : (p : Place) (f : Field) (k : Kind) (v : Says Field k) → Opens f (law_line (rndf_line_in_of (inner e)) (say k v)) → OpensForm f (kind-form e p k)
  unfolding rndf_line_in_of rndf_form_of first_item_of
  rndf-form-opens p f RNDF_name_of v o = keyword (opens-word o ∙ sym word_0)
  rndf-form-opens p f num_segments v o = keyword (opens-word o ∙ sym word_1)
  rndf-form-opens p f num_zones v o = keyword (opens-word o ∙ sym word_2)
  rndf-form-opens p f format_version_of v o = keyword (opens-word o ∙ sym word_3)
  rndf-form-opens p f creation_date_of v o = keyword (opens-word o ∙ sym word_4)
  rndf-form-opens p f segment v o = keyword (opens-word o ∙ sym word_5)
  rndf-form-opens p f num_lanes v o = keyword (opens-word o ∙ sym word_6)
  rndf-form-opens p f segment_name_of v o = keyword (opens-word o ∙ sym word_7)
  rndf-form-opens p f end_segment v o = keyword (opens-word o ∙ sym word_8)
  rndf-form-opens p f lane v o = keyword (opens-word o ∙ sym word_9)
  rndf-form-opens p f num_waypoints v o = keyword (opens-word o ∙ sym word_10)
  rndf-form-opens p f lane_width_of v o = keyword (opens-word o ∙ sym word_11)
  rndf-form-opens p f left_boundary_of v o = keyword (opens-word o ∙ sym word_12)
  rndf-form-opens p f right_boundary_of v o = keyword (opens-word o ∙ sym word_13)
  rndf-form-opens p f checkpoint v o = keyword (opens-word o ∙ sym word_14)
  rndf-form-opens p f stop v o = keyword (opens-word o ∙ sym word_15)
  rndf-form-opens p f exit v o = keyword (opens-word o ∙ sym word_16)
  rndf-form-opens p f end_lane_of v o = keyword (opens-word o ∙ sym word_17)
  rndf-form-opens p f zone v o = keyword (opens-word o ∙ sym word_18)
  rndf-form-opens p f num_spots v o = keyword (opens-word o ∙ sym word_19)
  rndf-form-opens p f zone_name_of v o = keyword (opens-word o ∙ sym word_20)
  rndf-form-opens p f end_zone v o = keyword (opens-word o ∙ sym word_21)
  rndf-form-opens p f perimeter v o = keyword (opens-word o ∙ sym word_22)
  rndf-form-opens p f num_perimeterpoints v o = keyword (opens-word o ∙ sym word_23)
  rndf-form-opens p f end_perimeter v o = keyword (opens-word o ∙ sym word_24)
  rndf-form-opens p f spot v o = keyword (opens-word o ∙ sym word_25)
  rndf-form-opens p f spot_width_of v o = keyword (opens-word o ∙ sym word_26)
  rndf-form-opens p f end_spot v o = keyword (opens-word o ∙ sym word_27)
  rndf-form-opens p f end_file_of v o = keyword (opens-word o ∙ sym word_28)
  rndf-form-opens p f point v o = Told.digit (digit-of o)
