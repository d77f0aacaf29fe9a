-- What the tool finds over the given text tells whether a reader with room enough accepts the mended one (`mend_good`, over `mend_walk`). Assumes nothing.
use Rattle.std.specs.Prelude.{Some, None, Option}
use mathlib.Core.Path.{◌≡◌, refl, sym, ap, subst, ◌∙◌}
use mathlib.Core.List.{List, [], ◌∷◌, ◌++◌}
use mathlib.Core.Bool.{Bool, true, false}
use mathlib.Core.Logic.{◌⊎◌, inl, inr}
use Prim.Native.Nat.{ℕ, suc, ◌+◌, ◌-◌, ◌*◌, ◌/◌, ◌≤◌}
use native.Mathlib.Omega.{arith}
use lib.ListN.{length}
use borrow.Author.Tests.{ne_eqb}
use Rattle.terms.specs.Words.{Bytes, pick}
use Rattle.line.specs.Lines.{lines_of}
use Rattle.law.specs.Network.{reading}
use Rattle.grammar.specs.Editions.{Edition, law_of}
use Rattle.fill.specs.Resolve.{Look}
use Rattle.find_line.specs.FoundLines.{rndf_line_kind_of}
use Rattle.statement.specs.declared.Statement.{Statement}
use Rattle.place.specs.declared.Place.{Place}
use Rattle.place.specs.Step.{over_of}
use Rattle.judge.specs.Judging.{Got, bad, blank, said, line}
use Rattle.walk.specs.Standing.{place}
use Rattle.edition_judge.specs.EditionLine.{judging_in}
use Rattle.progress.specs.declared.Progress.{Progress}
use Rattle.progress.specs.After.{no_progress}
use Rattle.network.specs.Storing.{Memory}
use Rattle.network.specs.Reading.{put}
use Rattle.network.specs.Reaching.{WalkEnd, stopped, reached, goes, reaching}
use Rattle.marks.specs.Tests.{first_repeat_of}
use Rattle.references.specs.Finding.{look_in}
use Rattle.refusal.specs.Size.{most}
use Rattle.mend_law.specs.Mend.{mended_text}
use Rattle.mend_law.specs.Mends.{AcceptedWithRoom}
use Rattle.mend_lines.specs.declared.Before.{Before}
use Rattle.mend_lines.specs.declared.Becomes.{Becomes}
use Rattle.mend_lines.specs.declared.Becomes.TheVariants.{Stays, Goes, Recount}
use Rattle.mend_lines.specs.Forward.{none_before_of, change_of}
use Rattle.mend_pieces.specs.Pieces.{piece_of, lines_for, behind_line, mended_lines_of}
use Rattle.mend_tests.specs.Tests.{few, text_walk, nought, is_exit_right_of, all_right_of}
use Rattle.mend_told.proofs.Lines.{mended-lines, few-lines}
use Rattle.mend_told.proofs.Recounted.{kind-kept, no-exit}
use Rattle.mend_alike.proofs.Stored.{Alike, same-segments, same-lanes, same-zones, same-checkpoints, looks-alike}
use Rattle.mend_alike.proofs.Walks.{EndAlike, stops, ends}
use Rattle.mend_good.proofs.Deciding as Told
use Rattle.mend_passes.specs.Passes.{exit_right_at, are_exits_right_of}
use Rattle.mend.specs.Mending.{walk_with, segment_words_of, lane_words_of, row_words_of, EntriesTold, FormTold}
use Rattle.mend.proofs.Natural.{mended-alike}

-- ## Entries
-- a line whose number is replaced is no exit then
recounted-right : (look : Look) (m : ℕ) (b : Before) (l : Bytes) (ls : List Bytes) (start stop n : ℕ) → change_of b l ls ≡ Recount start stop n → is_exit_right_of look m (piece_of (Recount start stop n) l) ≡ true
unfolding is_exit_right_of
recounted-right look m b l ls start stop n e = rw (kind-kept b l ls start stop n e, ne_eqb (rndf_line_kind_of l) 16 (no-exit b l ls start stop n e))

-- lines that stay are tested, and no other is an exit
module _ (look : Look) (m : ℕ) where
  lines-right : (b : Before) (ls : List Bytes) → are_exits_right_of look m b ls ≡ all_right_of look m (mended_lines_of b ls)
  unfolding are_exits_right_of all_right_of mended_lines_of
  lines-right b [] = refl
  lines-right b (l ∷ ls) = go (change_of b l ls) refl (lines-right (behind_line b l) ls)
    where
      go : (c : Becomes) → change_of b l ls ≡ c → are_exits_right_of look m (behind_line b l) ls ≡ all_right_of look m (mended_lines_of (behind_line b l) ls)
          → pick (exit_right_at look m c l) (are_exits_right_of look m (behind_line b l) ls) false ≡ all_right_of look m (lines_for c l ++ mended_lines_of (behind_line b l) ls)
      go Stays e r = ap (λ (x : Bool). pick (is_exit_right_of look m l) x false) r
      go (Goes k) e r = r
      go (Recount start stop n) e r = rw (recounted-right look m b l ls start stop n e) r

  pub exits-lines : (text : Bytes) → are_exits_right_of look m none_before_of (lines_of text) ≡ all_right_of look m (lines_of (mended_text text))
  exits-lines text = lines-right none_before_of (lines_of text) ∙ ap (all_right_of look m) (sym (mended-lines text))

-- ## Walks
-- two that end alike end both in a fault or both behind the last line
abbrev Ends : (x y : WalkEnd) → Type 0
Ends x y = ((i n : ℕ) × (x ≡ stopped i n) × (y ≡ stopped i n)) ⊎ ((p : Place) × (m d : Memory) × (i : ℕ) × (x ≡ reached p m i) × (y ≡ reached p d i) × Alike m d)

both_ends : {x y : WalkEnd} → EndAlike x y → Ends x y
both_ends (stops {i = i} {n = n}) = inl (i, n, refl, refl)
both_ends (ends {p = p} {m = m} {d = d} {i = i} h) = inr (p, m, d, i, refl, refl, h)

never : {p : Place} {m : Memory} {i j n : ℕ} {X : Type 0} → reached p m i ≡ stopped j n → X
never e = absurd (let z : ◌≡◌ {A = ℕ} 0 1 = cc in omega arith)

-- whatever is lent, lines have the same faults
no-other-fault : (e : Edition) (ls : List Bytes) (p : Place) (m d : Memory) (start i : ℕ) (q : Place) (x : Memory) (j k n : ℕ) → reaching e p m start i ls ≡ reached q x j → reaching e p d start i ls ≡ stopped k n → ⊥
unfolding reaching
no-other-fault e [] p m d start i q x j k n a b = never b
no-other-fault e (l ∷ ls) p m d start i q x j k n a b = go (line (judging_in e) l start p) (λ r u v. no-other-fault e ls r u v (start + suc (length l)) (suc i) q x j k n) a b
  where
    go : (g : Got Statement Place)
        → ((r : Place) (u v : Memory) → reaching e r u (start + suc (length l)) (suc i) ls ≡ reached q x j → reaching e r v (start + suc (length l)) (suc i) ls ≡ stopped k n → ⊥)
        → goes (place start i l) p m g (λ r u. reaching e r u (start + suc (length l)) (suc i) ls) ≡ reached q x j
        → goes (place start i l) p d g (λ r u. reaching e r u (start + suc (length l)) (suc i) ls) ≡ stopped k n → ⊥
    go (bad c) f a b = never (sym a)
    go blank f a b = f p m d a b
    go (said s r) f a b = f r (put (place start i l) s m) (put (place start i l) s d) a b

-- the list is not refused and has rows
rows-or-no : {g : Progress} {X : Type 0} → ◌≡◌ {A = Option Progress} (Some g) None → X
rows-or-no e = absurd (let z : ◌≡◌ {A = ℕ} 0 1 = cc in omega arith)

rows_same : {g h : Progress} → ◌≡◌ {A = Option Progress} (Some g) (Some h) → g ≡ h
rows_same e = cc

module _ (ε : Edition) (text : Bytes) where
  abbrev Good : Type 0
  Good = AcceptedWithRoom (reading (law_of ε)) (mended_text text)

  -- walks with the same tables over the lines that come out and over the mended text
  record Walks (sg ln zn ck : List ℕ) : Type 0 where
    at : Place
    behind : ℕ
    here : Memory
    there : Memory
    walked : walk_with ε text sg ln zn ck ≡ reached at here behind
    mended : text_walk ε (mended_text text) sg ln zn ck ≡ reached at there behind
    alike : Alike here there

  pub form-past : (t left : List ℕ) → FormTold (walk_with ε text [] [] [] t) None left → Good → ⊥
  form-past t left f g = go (both_ends (mended-alike ε text (few no_progress [] [] [] t)))
    where
      go : Ends (walk_with ε text [] [] [] t) (text_walk ε (mended_text text) [] [] [] t) → ⊥
      go (inl (i, n, x, y)) = Told.fault_past ε (mended_text text) [] [] [] t i n y g
      go (inr (p, m, d, i, x, y, h)) = short (over_of p) refl (subst (λ (w : WalkEnd). FormTold w None left) x f)
        where
          short : (o : Bool) → over_of p ≡ o → pick o ((◌≡◌ {A = Option Progress} None (Some m.so_far)) × (left ≡ m.checkpoints)) (◌≡◌ {A = Option Progress} None None) → ⊥
          short true q v = rows-or-no (sym v.0)
          short false q v = Told.short-past ε (mended_text text) [] [] [] t p d i y q g

  -- the list has so many words, a row for each line
  module _ (words : ℕ) (room : length (lines_of text) ≤ words / 2) (g : Progress) (left : List ℕ) (f : FormTold (walk_with ε text [] [] [] (nought words)) (Some g) left) (size : length (mended_text text) ≤ most) where
    -- the walk that told the form
    record Form : Type 0 where
      walks : Walks [] [] [] (nought words)
      over : over_of walks.at ≡ true
      rows : g ≡ walks.here.so_far
      checkpoints : left ≡ walks.here.checkpoints

    form : Form
    form = go (both_ends (mended-alike ε text (few no_progress [] [] [] (nought words))))
      where
        go : Ends (walk_with ε text [] [] [] (nought words)) (text_walk ε (mended_text text) [] [] [] (nought words)) → Form
        go (inl (i, n, x, y)) = rows-or-no (subst (λ (w : WalkEnd). FormTold w (Some g) left) x f)
        go (inr (p, m, d, i, x, y, h)) = over-so (over_of p) refl (subst (λ (w : WalkEnd). FormTold w (Some g) left) x f)
          where
            over-so : (o : Bool) → over_of p ≡ o → pick o ((Some g ≡ Some m.so_far) × (left ≡ m.checkpoints)) (◌≡◌ {A = Option Progress} (Some g) None) → Form
            over-so true q v = record { walks = record { at = p; behind = i; here = m; there = d; walked = x; mended = y; alike = h }; over = q; rows = rows_same v.0; checkpoints = v.1 }
            over-so false q v = rows-or-no v

    abbrev end : Memory
    end = form.walks.there

    -- so every walk comes to the end
    walks : (sg ln zn ck : List ℕ) → Walks sg ln zn ck
    walks sg ln zn ck = go (both_ends (mended-alike ε text (few no_progress sg ln zn ck)))
      where
        go : Ends (walk_with ε text sg ln zn ck) (text_walk ε (mended_text text) sg ln zn ck) → Walks sg ln zn ck
        go (inl (i, n, x, y)) = absurd (no-other-fault ε (lines_of (mended_text text)) _ _ _ 0 1 _ _ _ i n form.walks.mended y)
        go (inr (p, m, d, i, x, y, h)) = record { at = p; behind = i; here = m; there = d; walked = x; mended = y; alike = h }

    -- what was counted
    segments-so : g.segments ≡ end.so_far.segments
    segments-so = ap (λ (x : Progress). x.segments) form.rows ∙ same-segments form.walks.here.so_far end.so_far form.walks.alike.so_far

    lanes_so : g.lanes ≡ end.so_far.lanes
    lanes_so = ap (λ (x : Progress). x.lanes) form.rows ∙ same-lanes form.walks.here.so_far end.so_far form.walks.alike.so_far

    zones-so : g.zones ≡ end.so_far.zones
    zones-so = ap (λ (x : Progress). x.zones) form.rows ∙ same-zones form.walks.here.so_far end.so_far form.walks.alike.so_far

    checkpoints-so : g.checkpoints ≡ end.so_far.checkpoints
    checkpoints-so = ap (λ (x : Progress). x.checkpoints) form.rows ∙ same-checkpoints form.walks.here.so_far end.so_far form.walks.alike.so_far

    -- two words for each line that comes out
    lines_fit : length (lines_of (mended_text text)) * 2 ≤ words
    lines_fit = let a = ap (λ (l : List Bytes). length l) (mended-lines text) in let b = few-lines none_before_of (lines_of text) in omega arith

    pub rows_fit : row_words_of g ≤ words
    rows_fit =
        let a = Told.rows_fit ε (mended_text text) size words form.walks.at end form.walks.behind form.walks.mended form.over in
        let b = segments-so in
        let c = lanes_so in
        let d = zones-so in
        let e = lines_fit in
        omega arith

    checkpoints-fit : end.so_far.checkpoints * 2 ≤ words
    checkpoints-fit =
        let a = Told.checkpoints-fit ε (mended_text text) size words form.walks.at end form.walks.behind form.walks.mended form.over in
        let b = lines_fit in
        omega arith

    -- 13
    repeat-so : first_repeat_of left g.checkpoints ≡ first_repeat_of end.checkpoints end.so_far.checkpoints
    repeat-so = let c = form.checkpoints ∙ form.walks.alike.checkpoints in λ i. first_repeat_of (c i) (checkpoints-so i)

    pub repeat_past : (row : ℕ) → first_repeat_of left g.checkpoints ≡ Some row → Good → ⊥
    repeat_past row r = Told.repeat_past ε (mended_text text) size words form.walks.at end form.walks.behind form.walks.mended form.over checkpoints-fit row (sym repeat-so ∙ r)

    -- 12
    abbrev zone_room : ℕ
    zone_room = words - (segment_words_of g + lane_words_of g)

    abbrev in-segments : Walks (nought (segment_words_of g)) [] [] []
    in-segments = walks (nought (segment_words_of g)) [] [] []

    abbrev in-lanes : Walks [] (nought (lane_words_of g)) [] []
    in-lanes = walks [] (nought (lane_words_of g)) [] []

    abbrev in-zones : Walks [] [] (nought zone_room) []
    in-zones = walks [] [] (nought zone_room) []

    entries-so : (r : Bool) → EntriesTold ε text words g r → r ≡ all_right_of (look_in in-segments.there.segments in-lanes.there.lanes in-zones.there.zones) end.so_far.segments (lines_of (mended_text text))
    entries-so r t =
        let fit = rows_fit in
        let look = looks-alike in-segments.here in-segments.there in-lanes.here in-lanes.there in-zones.here in-zones.there in-segments.alike in-lanes.alike in-zones.alike in
        t.told fit in-segments.at in-lanes.at in-zones.at in-segments.here in-lanes.here in-zones.here in-segments.behind in-lanes.behind in-zones.behind in-segments.walked in-lanes.walked zone_room (omega arith) in-zones.walked (omega arith)
        ∙ exits-lines (look_in in-segments.here.segments in-lanes.here.lanes in-zones.here.zones) g.segments text
        ∙ (λ i. all_right_of (look i) (segments-so i) (lines_of (mended_text text)))

    pub entries-past : EntriesTold ε text words g false → Good → ⊥
    entries-past t =
        let fit = rows_fit in
        let s = segments-so in
        let l = lanes_so in
        let z = zones-so in
        Told.entry_past ε (mended_text text) size words form.walks.at end form.walks.behind form.walks.mended form.over (segment_words_of g) (lane_words_of g) zone_room in-segments.at in-lanes.at in-zones.at in-segments.there in-lanes.there in-zones.there in-segments.behind in-lanes.behind in-zones.behind in-segments.mended in-lanes.mended in-zones.mended (omega arith) (omega arith) (omega arith) (sym (entries-so false t))

    pub all-good : first_repeat_of left g.checkpoints ≡ None → EntriesTold ε text words g true → Good
    all-good r t =
        let fit = rows_fit in
        let s = segments-so in
        let l = lanes_so in
        let z = zones-so in
        Told.all-good ε (mended_text text) size words form.walks.at end form.walks.behind form.walks.mended form.over (segment_words_of g) (lane_words_of g) zone_room in-segments.at in-lanes.at in-zones.at in-segments.there in-lanes.there in-zones.there in-segments.behind in-lanes.behind in-zones.behind in-segments.mended in-lanes.mended in-zones.mended (omega arith) (omega arith) (omega arith) checkpoints-fit (sym repeat-so ∙ r) (sym (entries-so true t))
