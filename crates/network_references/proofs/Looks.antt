-- What `references` reads of the words of a network's filled tables are the rows of its tables. Assumes nothing.
use mathlib.Core.Path.{◌≡◌, refl, sym, ap, ◌∙◌}
use mathlib.Core.List.{List, map}
use Prim.Native.Nat.{ℕ, ◌*◌, ◌≤◌}
use lib.ListN.{length, length-map, get_or-map}
use Rattle.line.specs.Content.{Field}
use Rattle.grammar.specs.Network.{Network}
use Rattle.grammar.specs.Tables.{Tables, the_no_segment_of, the_no_lane_of, the_no_zone_of, tables_with, tables_unresolved, tables}
use Rattle.rows.specs.Lay.{rows_of}
use Rattle.fill.specs.Counts.{sizes}
use Rattle.fill.specs.Resolve.{look}
use Rattle.table_words.specs.Words.{Lent, HasRoom, network_filled}
use Rattle.table_words.specs.Shown.{shown_segment, shown_lane, shown_zone}
use Rattle.table_words.proofs.Shown.{tables-shown}
use Rattle.table_words.proofs.Filled.{rows_fit}
use Rattle.references.specs.Finding.{look_in, look_of}
use Rattle.references.proofs.Looks.{look-read}

-- a name's place in the text
abbrev start_of : Field → ℕ
start_of name = name.start

abbrev length-of : Field → ℕ
length-of name = length name.bytes

-- rows that show other rows fit where these fit
pub shown-fit : {A B : Type 0} (shown : A → B) (rs : List A) (n stride : ℕ) → length rs ≤ rows_of n stride → length (map shown rs) * stride ≤ n
shown-fit shown rs n stride h = rw (length-map rs shown) (rows_fit (length rs) n stride h)

-- the program's rows say what the rows of the grammar say
rows-looked : (t : Tables Field ℕ) → look_of (map (shown_segment start_of length-of) t.segments) (map shown_lane t.lanes) (map (shown_zone start_of length-of) t.zones) ≡ look t
rows-looked t = λ p. record {
  first_lane = λ i. (get_or-map (shown_segment start_of length-of) t.segments i the_no_segment_of p).first_lane;
  lanes = λ i. (get_or-map (shown_segment start_of length-of) t.segments i the_no_segment_of p).lanes;
  lane_point = λ i. (get_or-map shown_lane t.lanes i the_no_lane_of p).first_point;
  lane_points = λ i. (get_or-map shown_lane t.lanes i the_no_lane_of p).points;
  zone_point = λ i. (get_or-map (shown_zone start_of length-of) t.zones i the_no_zone_of p).first_point;
  zone_points = λ i. (get_or-map (shown_zone start_of length-of) t.zones i the_no_zone_of p).points;
}

-- whether or not the entries are looked up
same-look : (n : Network Field) → look (tables n) ≡ look (tables_unresolved n)
unfolding tables_with
same-look n = refl

pub filled-looked : (n : Network Field) (t : Lent) → HasRoom (sizes (tables n)) t
    → look_in (network_filled n t).segments (network_filled n t).lanes (network_filled n t).zones ≡ look (tables_unresolved n)
filled-looked n t room =
    let segments = map (shown_segment start_of length-of) (tables n).segments in
    let lanes = map shown_lane (tables n).lanes in
    let zones = map (shown_zone start_of length-of) (tables n).zones in
    ap (λ (f : Lent). look_in f.segments f.lanes f.zones) (sym (tables-shown start_of length-of (tables n) t))
    ∙ look-read (length t.segments) (length t.lanes) (length t.zones) segments lanes zones
    (shown-fit (shown_segment start_of length-of) (tables n).segments (length t.segments) 4 room.segments)
    (shown-fit shown_lane (tables n).lanes (length t.lanes) 5 room.lanes)
    (shown-fit (shown_zone start_of length-of) (tables n).zones (length t.zones) 6 room.zones)
    ∙ rows-looked (tables n)
    ∙ same-look n
