-- A text has no more statements than bytes, so no table of what it spells has more rows. Assumes nothing.
use mathlib.Core.Path.{◌≡◌, sym, ap, subst, ◌∙◌}
use mathlib.Core.List.{List, [], ◌∷◌, ◌++◌, map}
use Prim.Native.Nat.{ℕ, suc, ◌+◌, ◌≤◌}
use native.Mathlib.Omega.{arith}
use lib.ListN.{length, length-append, length-map}
use Rattle.terms.specs.Ascii.{Bytes}
use Rattle.line.specs.Text.{lf, Cut, nothing, unfinished, line}
use Rattle.line.specs.Content.{Field}
use Rattle.grammar.specs.Language.{Stmt}
use Rattle.grammar.specs.Statements.{PointId, Statement}
use Rattle.grammar.specs.MissionStatements as M
use Rattle.grammar.specs.Network.{Network, SpellsNetwork}
use Rattle.grammar.specs.Mission.{Mission, SpellsMission}
use Rattle.grammar.specs.Tables.{Tables, tables_with, tables, point_row_of, mission_tables}
use Rattle.text.specs.Said.{Said}
use Rattle.text.specs.Spelling.{SpellsLines, done, blank_line_of, statement, SpellsRndf, SpellsMdf}
use Rattle.fill.specs.Counts.{Counts, MissionCounts, sizes, mission_sizes}
use Rattle.fill.specs.Tally.{no_counts, tallied}
use Rattle.fill.proofs.CountLaws.{AtMost, tallied-at-most}
use Rattle.fill.proofs.SizeLaws.{tallied-sizes}
use Rattle.fill.proofs.NetworkFills.{network_fills}
use Rattle.fill.proofs.ReferenceLaws.{sizes-with}

-- ## Statements, lines, bytes
-- a line has at least one byte: its LF, or what stands on an unfinished last line
pub lines-at-most : {text : Bytes} {lines : List Bytes} → Cut text lines → length lines ≤ length text
lines-at-most nothing = omega arith
lines-at-most (unfinished h) = omega arith
lines-at-most (line {l = l} {text = text} h c) = let a = lines-at-most c in let b = length-append l (lf ∷ text) in omega arith

module _ {Kind : Type 0} {Pay : Kind → Type 0} (Line-of : (k : Kind) → Pay k → List Said) where
  -- each statement takes a line
  pub said-at-most : {start : ℕ} {lines : List Bytes} {said : List (Stmt Kind Pay)} → SpellsLines Line-of start lines said → length said ≤ length lines
  said-at-most done = omega arith
  said-at-most (blank_line_of h r) = let a = said-at-most r in omega arith
  said-at-most (statement h r) = let a = said-at-most r in omega arith

-- ## Rows
pub record RowsAtMost (c : Counts) (most : ℕ) : Type 0 where
  pub segments : c.segments ≤ most
  pub lanes : c.lanes ≤ most
  pub zones : c.zones ≤ most
  pub spots : c.spots ≤ most
  pub points : c.points ≤ most
  pub checkpoints : c.checkpoints ≤ most
  pub stops : c.stops ≤ most
  pub exits : c.exits ≤ most

from_nothing : (c : Counts) (n most : ℕ) → n ≤ most → AtMost no_counts n c → RowsAtMost c most
from_nothing c n most h a = record {
  segments = let x = a.segments in omega arith;
  lanes = let x = a.lanes in omega arith;
  zones = let x = a.zones in omega arith;
  spots = let x = a.spots in omega arith;
  points = let x = a.points in omega arith;
  checkpoints = let x = a.checkpoints in omega arith;
  stops = let x = a.stops in omega arith;
  exits = let x = a.exits in omega arith;
}

-- of what statements spell, no table has more rows than there are statements
pub rows-of-statements : {N E : Type 0} (f : PointId → E) (n : Network N) (u : List (Statement N)) → SpellsNetwork n u → (most : ℕ) → length u ≤ most → RowsAtMost (sizes (tables_with f n)) most
rows-of-statements {N} f n u s most h =
    let same : tallied u no_counts ≡ sizes (tables_with f n) = tallied-sizes n.name u ∙ ap (λ (t : Tables N PointId). sizes t) (network_fills n.name n u s) ∙ sym (sizes-with f n) in
    from_nothing (sizes (tables_with f n)) (length u) most h (subst (AtMost no_counts (length u)) same (tallied-at-most u no_counts))

-- THE LAW: of what a text spells, no table has more rows than the text has bytes
pub rows-at-most-with : {E : Type 0} (f : PointId → E) (n : Network Field) (text : Bytes) → SpellsRndf n text → RowsAtMost (sizes (tables_with f n)) (length text)
rows-at-most-with f n text s =
    let a = lines-at-most s.made in
    let b = said-at-most _ s.each in
    rows-of-statements f n s.said s.net (length text) (omega arith)

pub rows-at-most : (n : Network Field) (text : Bytes) → SpellsRndf n text → RowsAtMost (sizes (tables n)) (length text)
rows-at-most n = rows-at-most-with (point_row_of n) n

-- ## A mission: a line for each goal and each limit
pub record MissionRowsAtMost (c : MissionCounts) (most : ℕ) : Type 0 where
  pub goals : c.goals ≤ most
  pub limits : c.limits ≤ most

pub mission-rows-of-statements : {N : Type 0} (m : Mission N) (u : List (M.Statement N)) → SpellsMission m u → (most : ℕ) → length u ≤ most → MissionRowsAtMost (mission_sizes (mission_tables m)) most
mission-rows-of-statements {N} m u s most h =
    let last : List (M.Statement N) = M.say M.end_speed_limits tt ∷ M.say M.end_file_of tt ∷ [] in
    let limits : List (M.Statement N) = M.say M.end_checkpoints tt ∷ M.say M.speed_limits tt ∷ M.say M.num_speed_limits (length m.limits) ∷ map (M.say M.limit) m.limits ++ last in
    let goals : List (M.Statement N) = M.say M.checkpoints tt ∷ M.say M.num_checkpoints (length m.goals) ∷ map (M.say M.goal) m.goals ++ limits in
    let a : length u ≡ suc (suc (length (s.options ++ goals))) = ap (λ (x : List (M.Statement N)). length x) s.spelled in
    let b = length-append s.options goals in
    let c = length-append (map (M.say M.goal) m.goals) limits in
    let d = length-append (map (M.say M.limit) m.limits) last in
    let e : length (map (M.say {N = N} M.goal) m.goals) ≡ length m.goals = length-map m.goals (M.say M.goal) in
    let g : length (map (M.say {N = N} M.limit) m.limits) ≡ length m.limits = length-map m.limits (M.say M.limit) in
    record { goals = omega arith; limits = omega arith }

pub mission-rows-at-most : (m : Mission Field) (text : Bytes) → SpellsMdf m text → MissionRowsAtMost (mission_sizes (mission_tables m)) (length text)
mission-rows-at-most m text s =
    let a = lines-at-most s.made in
    let b = said-at-most _ s.each in
    mission-rows-of-statements m s.said s.net (length text) (omega arith)
