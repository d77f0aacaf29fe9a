-- The test of room for all tables (crate `room`) is right: it holds exactly if no table has fewer rows than needed. Assumes nothing.
use mathlib.Core.Path.{◌≡◌, refl, sym}
use mathlib.Core.Bool.{Bool, true, false}
use lib.ListN.{length}
use borrow.Author.Tests.{leb-true, le-leb}
use Rattle.terms.proofs.Tests.{clash}
use Rattle.rows.specs.Lay.{rows_of}
use Rattle.room.specs.Room.{fits, all_four, parts_fit_of, marks_fit_of}
use Rattle.fill.specs.Counts.{Counts}
use Rattle.table_words.specs.Words.{Lent, HasRoom}
use Rattle.law_tables.specs.Used.{rows_used_of}

all_true : {R : Type 0} (a b c d : Bool) → all_four a b c d ≡ true → (a ≡ true → b ≡ true → c ≡ true → d ≡ true → R) → R
all_true true true true d e k = k refl refl refl e
all_true true true false d e k = clash (sym e)
all_true true false c d e k = clash (sym e)
all_true false b c d e k = clash (sym e)

four_true : (a b c d : Bool) → a ≡ true → b ≡ true → c ≡ true → d ≡ true → all_four a b c d ≡ true
four_true a b c d p q r s = λ i. all_four (p i) (q i) (r i) (s i)

module _ (c : Counts) (t : Lent) where
  abbrev pub parts : Bool
  parts = parts_fit_of (rows_used_of c) (length t.segments) (length t.lanes) (length t.zones) (length t.spots)

  abbrev pub marks : Bool
  marks = marks_fit_of (rows_used_of c) (length t.points) (length t.checkpoints) (length t.stops) (length t.exits)

  pub fit : parts ≡ true → marks ≡ true → HasRoom c t
  unfolding parts_fit_of marks_fit_of
  fit p q =
      all_true (fits c.segments (length t.segments) 4) (fits c.lanes (length t.lanes) 5) (fits c.zones (length t.zones) 6) (fits c.spots (length t.spots) 2) p
      (λ sg ln zn sp. all_true (fits c.points (length t.points) 2) (fits c.checkpoints (length t.checkpoints) 2) (fits c.stops (length t.stops) 1) (fits c.exits (length t.exits) 2) q
      (λ pt ck st ex. record {
        segments = leb-true c.segments (rows_of (length t.segments) 4) sg;
        lanes = leb-true c.lanes (rows_of (length t.lanes) 5) ln;
        zones = leb-true c.zones (rows_of (length t.zones) 6) zn;
        spots = leb-true c.spots (rows_of (length t.spots) 2) sp;
        points = leb-true c.points (rows_of (length t.points) 2) pt;
        checkpoints = leb-true c.checkpoints (rows_of (length t.checkpoints) 2) ck;
        stops = leb-true c.stops (rows_of (length t.stops) 1) st;
        exits = leb-true c.exits (rows_of (length t.exits) 2) ex;
      }))

  pub parts-there : HasRoom c t → parts ≡ true
  unfolding parts_fit_of
  parts-there h = four_true (fits c.segments (length t.segments) 4) (fits c.lanes (length t.lanes) 5) (fits c.zones (length t.zones) 6) (fits c.spots (length t.spots) 2)
      (le-leb c.segments (rows_of (length t.segments) 4) h.segments) (le-leb c.lanes (rows_of (length t.lanes) 5) h.lanes) (le-leb c.zones (rows_of (length t.zones) 6) h.zones) (le-leb c.spots (rows_of (length t.spots) 2) h.spots)

  pub marks-there : HasRoom c t → marks ≡ true
  unfolding marks_fit_of
  marks-there h = four_true (fits c.points (length t.points) 2) (fits c.checkpoints (length t.checkpoints) 2) (fits c.stops (length t.stops) 1) (fits c.exits (length t.exits) 2)
      (le-leb c.points (rows_of (length t.points) 2) h.points) (le-leb c.checkpoints (rows_of (length t.checkpoints) 2) h.checkpoints) (le-leb c.stops (rows_of (length t.stops) 1) h.stops) (le-leb c.exits (rows_of (length t.exits) 2) h.exits)
