-- What walks with few tables leave, of a text that spells a network: its rows are counted, what is read of segments, lanes and zones are the network's rows, and a number that repeats is the network's. Assumes nothing.
use mathlib.Core.Path.{◌≡◌, refl, sym, ap, ap₂, subst, ◌∙◌}
use mathlib.Core.List.{List, [], map}
use mathlib.Core.Bool.{Bool, true, false}
use Prim.Native.Nat.{ℕ, ◌≤◌, ◌<◌, ◌*◌, ◌/◌}
use native.Mathlib.Nat.{le-div_iff_mul-le}
use native.Mathlib.Omega.{arith}
use lib.ListN.{length, replicate, length-replicate}
use lib.IntN.{pos}
use Rattle.terms.specs.Words.{Bytes, pick}
use Rattle.line.specs.Content.{Field}
use Rattle.line.specs.Lines.{lines_of}
use Rattle.grammar.specs.Editions.{Edition, march}
use Rattle.grammar.specs.Network.{Network, under, SpellsNetworkBy}
use Rattle.grammar.specs.Places.{name_due}
use Rattle.grammar.specs.Tables.{point_row_of, tables, tables_unresolved}
use Rattle.text.specs.RndfLines.{rndf_line_in_of}
use Rattle.text.specs.RndfWords.{rndf_lexis_in}
use Rattle.text.specs.Spelling.{SpellsRndfIn, SpellsRndf}
use Rattle.text.proofs.TextReading as TR
use Rattle.text.proofs.Theorems.{places, rndf-file_in}
use Rattle.editions.proofs.Later.{later}
use Rattle.fill.specs.Counts.{sizes}
use Rattle.fill.specs.Resolve.{look}
use Rattle.fill.specs.FirstFaults.{the_first_repeat_of}
use Rattle.fill.proofs.ReferenceLaws.{numbers_in-order}
use Rattle.fault_lines.proofs.RndfFaults.{repeated_in}
use Rattle.place.specs.declared.Place.{Place}
use Rattle.place.specs.Step.{first_place, over_of}
use Rattle.rows.specs.Lay.{rows_of}
use Rattle.rows.specs.Columns.{segment_words_of, lane_words_of, zone_words_of, checkpoint_words_of}
use Rattle.rows.specs.Strides.{segment_stride, lane_stride, zone_stride, checkpoint_stride}
use Rattle.rows.specs.Table.{put_rows}
use Rattle.table_words.specs.Words.{Lent, HasRoom, zeros, network_filled}
use Rattle.progress.specs.After.{no_progress}
use Rattle.progress.specs.Shown.{shown_segment, shown_lane, shown_zone}
use Rattle.marks.specs.Tests.{first_repeat_of, row_of}
use Rattle.references.specs.Finding.{look_in}
use Rattle.refusal.specs.Size.{most}
use Rattle.walk.specs.Walking.{Found, fault, gathered}
use Rattle.network.specs.Storing.{Memory}
use Rattle.network.specs.Reading.{filled_of}
use Rattle.network.specs.Reaching.{WalkEnd, stopped, reached, reaching, ending}
use Rattle.network.proofs.Answered.{filled-over, no-fault, filled-later}
use Rattle.network.proofs.Gathered.{rows-given, filled-read}
use Rattle.network.proofs.Holding.{CountsNetwork}
use Rattle.network.proofs.Onward.{ends_so}
use Rattle.network.proofs.Spelled.{statements-read, numbers_fit, left-counted, left-filled}
use Rattle.network.proofs.Stored.{shown_checkpoint}
use Rattle.network_references.proofs.Looks.{filled-looked}
use Rattle.network_references.proofs.Theorems.{repeats-told}
use Rattle.mend_tests.specs.Tests.{few, text_walk, nought}

-- ## Where a walk stands behind the last line tells what it has found
module _ (ε : Edition) (text : Bytes) (lent : Memory) where
  pub end-told : (w : WalkEnd) → reaching ε first_place lent 0 1 (lines_of text) ≡ w → filled_of ε text lent ≡ ending w
  unfolding filled_of
  end-told w e = ends_so ε (lines_of text) first_place lent 0 1 ∙ ap ending e

  -- rows behind `end_file`, else 10
  pub over-told : (p : Place) (m : Memory) (i : ℕ) (over : Bool) → reaching ε first_place lent 0 1 (lines_of text) ≡ reached p m i → over_of p ≡ over → filled_of ε text lent ≡ pick over (gathered m) (fault i 10)
  over-told p m i over e o = end-told (reached p m i) e ∙ ap (λ (b : Bool). pick b (gathered m) (fault i 10)) o

-- whatever is lent, no fault is found in a text that spells a network
pub never-faulty_in : (ε : Edition) (n : Network Field) (text : Bytes) → SpellsRndfIn ε n text → (lent : Memory) (i k : ℕ) → filled_of ε text lent ≡ fault i k → ⊥
never-faulty_in ε n text s lent i k e =
    no-fault (sym (filled-over ε text lent s.said (TR.spelled-read (places ε) (rndf_lexis_in ε) (rndf_line_in_of ε) (SpellsNetworkBy (under ε true)) name_due (rndf-file_in ε) n text s)) ∙ e)

-- ## Each table by itself
-- what was found, if rows were
abbrev memory_in : Memory → Found Memory → Memory
memory_in other (fault i k) = other
memory_in other (gathered m) = m

module _ (n : Network Field) (text : Bytes) (size : length text ≤ most) (s : SpellsRndf n text) (t : Lent) (room : HasRoom (sizes (tables n)) t) where
  -- a table that is lent as it is in t, cleared, is left as the network fills it there, whatever the others are
  pub record Alone (sg ln zn ck : List ℕ) (m : Memory) : Type 0 where
    pub segments : sg ≡ (zeros t).segments → m.segments ≡ (network_filled n t).segments
    pub lanes : ln ≡ (zeros t).lanes → m.lanes ≡ (network_filled n t).lanes
    pub zones : zn ≡ (zeros t).zones → m.zones ≡ (network_filled n t).zones
    pub checkpoints : ck ≡ (zeros t).checkpoints → m.checkpoints ≡ (network_filled n t).checkpoints

  pub alone : (sg ln zn ck : List ℕ) (m : Memory) → filled_of march text (few no_progress sg ln zn ck) ≡ gathered m → Alone sg ln zn ck m
  alone sg ln zn ck m e =
      let found : gathered m ≡ _ = sym e ∙ filled-read text s.said (statements-read n text s) (numbers_fit n s.said s.net) sg ln zn [] [] ck [] [] in
      let all = left-filled n text s size t room _ (filled-read text s.said (statements-read n text s) (numbers_fit n s.said s.net) (zeros t).segments (zeros t).lanes (zeros t).zones (zeros t).spots (zeros t).points (zeros t).checkpoints (zeros t).stops (zeros t).exits) in
      record {
        segments = λ q. ap (λ (f : Found Memory). (memory_in m f).segments) found ∙ ap (λ (l : List ℕ). put_rows segment_stride segment_words_of l 0 (map shown_segment (rows-given s.said).segments)) q ∙ all.segments;
        lanes = λ q. ap (λ (f : Found Memory). (memory_in m f).lanes) found ∙ ap (λ (l : List ℕ). put_rows lane_stride lane_words_of l 0 (map shown_lane (rows-given s.said).lanes)) q ∙ all.lanes;
        zones = λ q. ap (λ (f : Found Memory). (memory_in m f).zones) found ∙ ap (λ (l : List ℕ). put_rows zone_stride zone_words_of l 0 (map shown_zone (rows-given s.said).zones)) q ∙ all.zones;
        checkpoints = λ q. ap (λ (f : Found Memory). (memory_in m f).checkpoints) found ∙ ap (λ (l : List ℕ). put_rows checkpoint_stride checkpoint_words_of l 0 (map shown_checkpoint (rows-given s.said).checkpoints)) q ∙ all.checkpoints;
      }

-- ## Tables with so many words for segments, lanes, zones and checkpoints, and room enough in the others
abbrev roomy : Network Field → (a b c d : ℕ) → Lent
roomy n a b c d = record {
  segments = nought a;
  lanes = nought b;
  zones = nought c;
  spots = nought ((sizes (tables n)).spots * 2);
  points = replicate ((sizes (tables n)).points * 2) (pos 0);
  checkpoints = nought d;
  stops = nought ((sizes (tables n)).stops * 1);
  exits = nought ((sizes (tables n)).exits * 2);
}

rows_there_of : {X : Type 0} (rows stride k : ℕ) (x : X) → 0 < stride → rows * stride ≤ k → rows ≤ rows_of (length (replicate k x)) stride
rows_there_of rows stride k x h l = subst (λ (j : ℕ). rows ≤ j / stride) (sym (length-replicate k x)) ((le-div_iff_mul-le h).1 l)

cleared : (k : ℕ) → nought k ≡ nought (length (nought k))
cleared k = ap (λ (j : ℕ). nought j) (sym (length-replicate {A = ℕ} k 0))

room-there : (n : Network Field) (a b c d : ℕ) → (sizes (tables n)).segments * 4 ≤ a → (sizes (tables n)).lanes * 5 ≤ b → (sizes (tables n)).zones * 6 ≤ c → (sizes (tables n)).checkpoints * 2 ≤ d → HasRoom (sizes (tables n)) (roomy n a b c d)
room-there n a b c d h k l m = record {
  segments = rows_there_of (sizes (tables n)).segments 4 a 0 (omega arith) h;
  lanes = rows_there_of (sizes (tables n)).lanes 5 b 0 (omega arith) k;
  zones = rows_there_of (sizes (tables n)).zones 6 c 0 (omega arith) l;
  spots = rows_there_of (sizes (tables n)).spots 2 ((sizes (tables n)).spots * 2) 0 (omega arith) (omega arith);
  points = rows_there_of (sizes (tables n)).points 2 ((sizes (tables n)).points * 2) (pos 0) (omega arith) (omega arith);
  checkpoints = rows_there_of (sizes (tables n)).checkpoints 2 d 0 (omega arith) m;
  stops = rows_there_of (sizes (tables n)).stops 1 ((sizes (tables n)).stops * 1) 0 (omega arith) (omega arith);
  exits = rows_there_of (sizes (tables n)).exits 2 ((sizes (tables n)).exits * 2) 0 (omega arith) (omega arith);
}

module _ (ε : Edition) (n : Network Field) (text : Bytes) (size : length text ≤ most) (s : SpellsRndfIn ε n text) where
  -- every walk reaches the end, and counts the rows
  pub record Ended (segments lanes zones checkpoints : ℕ) : Type 0 where
    pub place : Place
    pub memory : Memory
    pub line : ℕ
    pub is : text_walk ε text (nought segments) (nought lanes) (nought zones) (nought checkpoints) ≡ reached place memory line
    pub over : over_of place ≡ true
    pub counts : CountsNetwork n memory.so_far

  -- the tables, without those that no reference needs
  abbrev lending : (a b c d : ℕ) → Lent
  lending a b c d = record { segments = nought a; lanes = nought b; zones = nought c; spots = []; points = []; checkpoints = nought d; stops = []; exits = [] }

  abbrev lent : (a b c d : ℕ) → Memory
  lent a b c d = few no_progress (nought a) (nought b) (nought c) (nought d)

  pub ended : (a b c d : ℕ) → Ended a b c d
  ended a b c d = go (text_walk ε text (nought a) (nought b) (nought c) (nought d)) refl
    where
      behind : (p : Place) (m : Memory) (i : ℕ) (over : Bool) → text_walk ε text (nought a) (nought b) (nought c) (nought d) ≡ reached p m i → over_of p ≡ over → Ended a b c d
      behind p m i false e o = absurd (never-faulty_in ε n text s (lent a b c d) i 10 (over-told ε text (lent a b c d) p m i false e o))
      behind p m i true e o = record {
        place = p;
        memory = m;
        line = i;
        is = e;
        over = o;
        counts = left-counted n text (later ε n text s) (lending a b c d) m (filled-later ε text (lent a b c d) m (over-told ε text (lent a b c d) p m i true e o));
      }

      go : (w : WalkEnd) → text_walk ε text (nought a) (nought b) (nought c) (nought d) ≡ w → Ended a b c d
      go (stopped i k) e = absurd (never-faulty_in ε n text s (lent a b c d) i k (end-told ε text (lent a b c d) (stopped i k) e))
      go (reached p m i) e = behind p m i (over_of p) e refl

  -- what is left in a table is what the network fills it with where there is room for all
  left_alone : (t : Lent) (room : HasRoom (sizes (tables n)) t) (a b c d : ℕ) → Alone n text size (later ε n text s) t room (nought a) (nought b) (nought c) (nought d) (ended a b c d).memory
  left_alone t room a b c d =
      let e = ended a b c d in
      alone n text size (later ε n text s) t room (nought a) (nought b) (nought c) (nought d) e.memory (filled-later ε text (lent a b c d) e.memory (over-told ε text (lent a b c d) e.place e.memory e.line true e.is e.over))

  -- 12: what is read
  pub looked : (a b c : ℕ) → (sizes (tables n)).segments * 4 ≤ a → (sizes (tables n)).lanes * 5 ≤ b → (sizes (tables n)).zones * 6 ≤ c
      → look_in (ended a 0 0 0).memory.segments (ended 0 b 0 0).memory.lanes (ended 0 0 c 0).memory.zones ≡ look (tables_unresolved n)
  looked a b c h k l =
      let d = (sizes (tables n)).checkpoints * 2 in
      let t = roomy n a b c d in
      let room = room-there n a b c d h k l (omega arith) in
      let sg = (left_alone t room a 0 0 0).segments (cleared a) in
      let ln = (left_alone t room 0 b 0 0).lanes (cleared b) in
      let zn = (left_alone t room 0 0 c 0).zones (cleared c) in
      (λ i. look_in (sg i) (ln i) (zn i)) ∙ filled-looked n t room

  -- 13
  pub repeated : (d : ℕ) → (sizes (tables n)).checkpoints * 2 ≤ d → first_repeat_of (ended 0 0 0 d).memory.checkpoints (ended 0 0 0 d).memory.so_far.checkpoints ≡ row_of (repeated_in n)
  repeated d h =
      let a = (sizes (tables n)).segments * 4 in
      let b = (sizes (tables n)).lanes * 5 in
      let c = (sizes (tables n)).zones * 6 in
      let t = roomy n a b c d in
      let room = room-there n a b c d (omega arith) (omega arith) (omega arith) h in
      ap₂ (λ (l : List ℕ) (k : ℕ). first_repeat_of l k) ((left_alone t room 0 0 0 d).checkpoints (cleared d)) (ended 0 0 0 d).counts.checkpoints
      ∙ repeats-told n text (later ε n text s) t room
      ∙ ap (λ (l : List ℕ). row_of (the_first_repeat_of l)) (numbers_in-order (point_row_of n) n ∙ sym (numbers_in-order (λ e. e) n))
