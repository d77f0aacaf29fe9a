-- WHAT WAS ACCEPTED BEFORE L3, and what the edition of December 6, 2006 accepts (L10), is accepted, with the same reply and the same tables: the rules were only widened. From the contracts alone. Assumes nothing.
use Rattle.std.specs.Prelude.{Ok}
use mathlib.Core.Path.{◌≡◌, refl, subst}
use mathlib.Core.List.{List}
use native.Mathlib.Omega.{arith}
use mathlib.Core.Bool.{true}
use mathlib.Core.Logic.{◌⊎◌, inl, inr}
use Prim.Native.Nat.{ℕ, ◌≤◌}
use native.Mathlib.Nat.{le_trans, le_refl}
use Rattle.terms.specs.Words.{[], ◌∷◌, Bytes, Among, InTurn}
use Rattle.terms.specs.Words as Words
use Rattle.scan.specs.Allowed.{tab, separates}
use Rattle.scan.proofs.Bytes.{all_imp}
use Rattle.line.specs.Line.{Field, Comment, parted, SpellsFields, nothing, separator, field, Content}
use Rattle.law.specs.Network.{Boundary, Edition, march_2007, december_2006, boundaries, fewest_spots, Network, Mission, Lane, Segment, Spot, Zone, Said, word, name, numbers, coordinate, boundary, Line, SpellsField, SpellFields, Rules, reading, present, Says, SayLines, done, blank, statement, SpellsText, SpellsLane, SpellsSegment, SpellsSpot, SpellsZone, SpellsNetwork, SpellsMission}
use Rattle.law.specs.Tables.{Lent, MissionLent}
use Rattle.rows.specs.declared.FileRow.{FileRow}
use Rattle.rows.specs.declared.MissionFileRow.{MissionFileRow}
use Rattle.counts.specs.declared.Counts.{Counts}
use Rattle.counts.specs.declared.MissionCounts.{MissionCounts}
use Rattle.replies.specs.Replies.{ReadsRndf, ReadsPair}
use Rattle.replies.specs.Short.{AcceptsRndf, AcceptsMdf}
use Rattle.edition.specs.declared.Edition as Asked
use Rattle.edition.specs.declared.Edition.TheVariants.{March2007, December2006}
use Rattle.edition.specs.Editions.{rules_of}
use Rattle.promises.specs.Accepted.{IsAccepted, IsPairAccepted}
use Rattle.promises.specs.Kept.{Kept, tabs_only}

-- ## Lines: a tab still separates fields
tab-separates : (b : ℕ) → tab b ≡ true → separates b ≡ true
unfolding separates
tab-separates b e = rw e

parted-wider : (l : Bytes) → parted tab l ≡ true → parted separates l ≡ true
unfolding parted
parted-wider [] e = e
parted-wider (b ∷ l) e = tab-separates b e

fields-wider : {start : ℕ} {bytes : Bytes} {fields : List Field} → SpellsFields tab start bytes fields → SpellsFields separates start bytes fields
fields-wider nothing = nothing
fields-wider (separator {b} e r) = separator (tab-separates b e) (fields-wider r)
fields-wider (field {rest} i p r) = field i (parted-wider rest p) (fields-wider r)

note-wider : {note : Bytes} → (note ≡ []) ⊎ Comment tab note → (note ≡ []) ⊎ Comment separates note
note-wider (inl e) = inl e
note-wider (inr c) = inr (record { text = c.text; behind = c.behind; spelled = c.spelled; first = c.first; allowed = c.allowed; only_separators = all_imp tab separates tab-separates c.behind c.only_separators })

content-wider : {start : ℕ} {content : Bytes} {fields : List Field} → Content tab start content fields → Content separates start content fields
content-wider c = record { outer = c.outer; note = c.note; spelled = c.spelled; short = c.short; fielded = fields-wider c.fielded; comment = note-wider c.comment }

says-wider : (e : Edition) {start : ℕ} {line : Bytes} {said : Line} → Says (tabs_only e) start line said → Says (reading e) start line said
says-wider e s = record { content = s.content; fields = s.fields; ended = s.ended; fielded = content-wider s.fielded; spelled = s.spelled }

lines-wider : (e : Edition) {start : ℕ} {lines : List Bytes} {l : List Line} → SayLines (tabs_only e) start lines l → SayLines (reading e) start lines l
lines-wider e done = done
lines-wider e (blank s r) = blank (says-wider e s) (lines-wider e r)
lines-wider e (statement s r) = statement (says-wider e s) (lines-wider e r)

-- ## Lines: a boundary of the older edition is one of the present one
among_later : (b : Boundary) → Among b (boundaries december_2006) → Among b (boundaries march_2007)
among_later b (inl e) = inl e
among_later b (inr (inl e)) = inr (inr (inl e))
among_later b (inr (inr (inl e))) = inr (inr (inr (inl e)))
among_later b (inr (inr (inr x3))) = elim x3 [ ]

field-later : (f : Field) (s : Said) → SpellsField december_2006 f s → SpellsField march_2007 f s
field-later f (word w) h = h
field-later f (name g) h = h
field-later f (numbers l) h = h
field-later f (coordinate z) h = h
field-later f (boundary b) h = (h.0, among_later b h.1)

fields-later : (fs : List Field) (l : Line) → SpellFields december_2006 fs l → SpellFields march_2007 fs l
fields-later [] [] h = h
fields-later (f ∷ fs) (s ∷ l) h = (field-later f s h.0, fields-later fs l h.1)
fields-later [] (s ∷ l) h = elim h [ ]
fields-later (f ∷ fs) [] h = elim h [ ]

says-later : {start : ℕ} {line : Bytes} {said : Line} → Says (reading december_2006) start line said → Says (reading march_2007) start line said
says-later {said} s = record { content = s.content; fields = s.fields; ended = s.ended; fielded = s.fielded; spelled = fields-later s.fields said s.spelled }

lines-later : {start : ℕ} {lines : List Bytes} {l : List Line} → SayLines (reading december_2006) start lines l → SayLines (reading march_2007) start lines l
lines-later done = done
lines-later (blank s r) = blank (says-later s) (lines-later r)
lines-later (statement s r) = statement (says-later s) (lines-later r)

-- ## Parts: what stricter rules spell, looser ones spell
in_turn : {A X : Type 0} {P Q : ℕ → A → List X → Type 0} → ((i : ℕ) (a : A) (l : List X) → P i a l → Q i a l) → {i : ℕ} {parts : List A} {l : List X} → InTurn P i parts l → InTurn Q i parts l
in_turn h Words.nothing = Words.nothing
in_turn h (Words.then p r) = Words.then (h _ _ _ p) (in_turn h r)

module _ (earlier later : Rules) (options : (ls : List (List Line)) (l : List Line) → earlier.Options ls l → later.Options ls l) (marks : later.spot_checkpoints ≤ earlier.spot_checkpoints) (spots : fewest_spots later.edition ≤ fewest_spots earlier.edition) where
  lane-by : (m i : ℕ) (a : Lane) (l : List Line) → SpellsLane earlier m i a l → SpellsLane later m i a l
  lane-by m i a l h = record { options = h.options; given = options _ _ h.given; good = h.good; spelled = h.spelled }

  segment-by : (m : ℕ) (a : Segment Field) (l : List Line) → SpellsSegment earlier m a l → SpellsSegment later m a l
  segment-by m a l h = record { lanes = h.lanes; count = h.count; each = in_turn (lane-by m) h.each; spelled = h.spelled }

  spot-by : (m i : ℕ) (a : Spot) (l : List Line) → SpellsSpot earlier m i a l → SpellsSpot later m i a l
  spot-by m i a l h = record { options = h.options; given = options _ _ h.given; good = h.good; marked = le_trans marks h.marked; spelled = h.spelled }

  zone-by : (m : ℕ) (a : Zone Field) (l : List Line) → SpellsZone earlier m a l → SpellsZone later m a l
  zone-by m a l h = record { border = h.border; spots = h.spots; count = record { low = le_trans spots h.count.low; high = h.count.high }; bordered = record { good = h.bordered.good; spelled = h.bordered.spelled }; each = in_turn (spot-by m) h.each; spelled = h.spelled }

  network-by : (n : Network Field) (l : List Line) → SpellsNetwork earlier n l → SpellsNetwork later n l
  network-by n l h = record { options = h.options; segments = h.segments; zones = h.zones; given = options _ _ h.given; some-segment = h.some-segment; count = h.count; each_segment = in_turn segment-by h.each_segment; each_zone = in_turn zone-by h.each_zone; spelled = h.spelled }

  mission-by : (m : Mission Field) (l : List Line) → SpellsMission earlier m l → SpellsMission later m l
  mission-by m l h = record { options = h.options; given = options _ _ h.given; good = h.good; spelled = h.spelled }

  -- ## Texts, and what is replied. `say`: what lines say by the earlier rules, they say by the later
  module _ (say : (start : ℕ) (lines : List Bytes) (l : List Line) → SayLines earlier start lines l → SayLines later start lines l) where
    text-by : {Net : Type 0} (Spells : Rules → Net → List Line → Type 0) → ((n : Net) (l : List Line) → Spells earlier n l → Spells later n l) → (n : Net) (text : Bytes) → SpellsText earlier Spells n text → SpellsText later Spells n text
    text-by Spells by n text h = record { lines = h.lines; said = h.said; cut = h.cut; each = say 0 h.lines h.said h.each; net = by n h.said h.net }

    rndf-accepts : (text : Bytes) (t : Lent) (n : Network Field) → AcceptsRndf earlier text t n → AcceptsRndf later text t n
    rndf-accepts text t n a = record { size = a.size; spelled = text-by SpellsNetwork network-by n text a.spelled; room = a.room; right = a.right }

    mdf-accepts : (n : Network Field) (text : Bytes) (u : MissionLent) (m : Mission Field) → AcceptsMdf earlier n text u m → AcceptsMdf later n text u m
    mdf-accepts n text u m a = record { size = a.size; spelled = text-by SpellsMission mission-by m text a.spelled; room = a.room; right = a.right }

    rndf-kept : (text : Bytes) (t left : Lent) (c : Counts) (file : FileRow) → ReadsRndf earlier text t (Ok (c, file)) left → ReadsRndf later text t (Ok (c, file)) left
    rndf-kept text t left c file (ReadsRndf.accepted n a e f) = ReadsRndf.accepted n (rndf-accepts text t n a) e f
    rndf-kept text t left c file (ReadsRndf.refused line number column a e f) = absurd (subst IsAccepted e tt)

    pair-kept : (rndf mdf : Bytes) (t left : Lent) (u mission_left : MissionLent) (c : Counts) (file : FileRow) (d : MissionCounts) (own : MissionFileRow)
        → ReadsPair earlier rndf mdf t u (Ok (c, file, d, own)) left mission_left → ReadsPair later rndf mdf t u (Ok (c, file, d, own)) left mission_left
    pair-kept rndf mdf t left u k c file d own (ReadsPair.accepted n m a b e f g) = ReadsPair.accepted n m (rndf-accepts rndf t n a) (mdf-accepts n mdf u m b) e f g
    pair-kept rndf mdf t left u k c file d own (ReadsPair.rndf_refused_of line number column a e f g) = absurd (subst IsPairAccepted e tt)
    pair-kept rndf mdf t left u k c file d own (ReadsPair.mdf_refused_of n line number column a b e f g) = absurd (subst IsPairAccepted e tt)

    kept : Kept earlier later
    kept = record { rndf = rndf-kept; pair = pair-kept }

-- THE THEOREMS. L3: "every text accepted before gives the same tables", in each edition
pub tabs-kept : (e : Edition) → Kept (tabs_only e) (reading e)
tabs-kept e = kept (tabs_only e) (reading e) (λ ls l h. h) (le_refl 1) (le_refl _) (λ start lines l h. lines-wider e h)

-- L10: "what the older edition accepts, the present one accepts with the same tables"
pub older-kept : Kept (reading december_2006) (reading march_2007)
older-kept = kept (reading december_2006) (reading march_2007) (λ ls l h. h) (le_refl 1) (omega arith) (λ start lines l h. lines-later h)

-- ## The editions that a caller can ask for: their rules are the law's
pub present-rules : rules_of March2007 ≡ reading march_2007
present-rules = refl

pub older-rules : rules_of December2006 ≡ reading december_2006
older-rules = refl

-- what any of them spells, the present one spells, by the same lines
pub network-later : (edition : Asked.Edition) (n : Network Field) (l : List Line) → SpellsNetwork (rules_of edition) n l → SpellsNetwork present n l
network-later March2007 n l h = h
network-later December2006 n l h = network-by (reading december_2006) present (λ ls l h. h) (le_refl 1) (omega arith) n l h

pub mission-later : (edition : Asked.Edition) (m : Mission Field) (l : List Line) → SpellsMission (rules_of edition) m l → SpellsMission present m l
mission-later March2007 m l h = h
mission-later December2006 m l h = mission-by (reading december_2006) present (λ ls l h. h) (le_refl 1) (omega arith) m l h

said-later : (edition : Asked.Edition) {start : ℕ} {lines : List Bytes} {l : List Line} → SayLines (rules_of edition) start lines l → SayLines present start lines l
said-later March2007 h = h
said-later December2006 h = lines-later h

pub rndf-later : (edition : Asked.Edition) (n : Network Field) (text : Bytes) → SpellsText (rules_of edition) SpellsNetwork n text → SpellsText present SpellsNetwork n text
rndf-later edition n text h = record { lines = h.lines; said = h.said; cut = h.cut; each = said-later edition h.each; net = network-later edition n h.said h.net }

pub mdf-later : (edition : Asked.Edition) (m : Mission Field) (text : Bytes) → SpellsText (rules_of edition) SpellsMission m text → SpellsText present SpellsMission m text
mdf-later edition m text h = record { lines = h.lines; said = h.said; cut = h.cut; each = said-later edition h.each; net = mission-later edition m h.said h.net }
