-- What the parts of the reader answer together. Assumes nothing.
use Rattle.std.specs.Prelude.{⊤, Some, None, Ok, Err, Option, Result}
use Rattle.network_reader.specs.Types.{NetworkReply}
use mathlib.Core.Path.{◌≡◌, refl, sym, ap, ap₂, ◌∙◌}
use mathlib.Core.List.{List, []}
use mathlib.Core.Bool.{Bool, true, false}
use Prim.Native.Nat.{ℕ}
use lib.ListN.{length}
use lib.Dec.{ltb}
use Rattle.law.specs.Tables.{Lent, lent, zeros}
use Rattle.grammar.specs.Editions.{Edition}
use Rattle.progress.specs.After.{no_progress}
use Rattle.walk.specs.Walking.{Found}
use Rattle.network.specs.Storing.{Memory, memory}
use Rattle.network.specs.Reading.{filled_in}
use Rattle.terms.specs.Ascii.{Bytes}
use Rattle.terms.specs.Words.{pick}
use Rattle.references.specs.Exits.{told}
use Rattle.refusal.specs.Shapes.{fault}
use Rattle.counts.specs.declared.Counts.{Counts}
use Rattle.room.specs.Room.{parts_fit_of, marks_fit_of}
use Rattle.network_reader.specs.Reading.{exit_line, checkpoint_line_of, fault_line_of, Referred, referred, joined, the_counts_of, room, refer_of, answered_of, outcome, tables_of, from_referred, judged_of, from_filled, read_of}
use Rattle.refusal.specs.declared.Fault.{Fault}

-- where an entry is not found, what the exits hold does not matter
pub joined-told : (text : Bytes) (u k : Option ℕ) (ex : List ℕ) → referred (fault_line_of text u k) ex ≡ joined text (told u ex) k
unfolding fault_line_of
joined-told text None k ex = refl
joined-told text (Some e) k ex = never k
  where
    either : (b : Bool) (l m : ℕ) → referred (pick b (Err (fault l 12)) (Err (fault m 13))) ex ≡ referred (pick b (Err (fault l 12)) (Err (fault m 13))) []
    either true l m = refl
    either false l m = refl

    never : (k : Option ℕ) → referred (fault_line_of text (Some e) k) ex ≡ referred (fault_line_of text (Some e) k) []
    never None = refl
    never (Some k) = either (ltb (exit_line text e) (checkpoint_line_of text k)) (exit_line text e) (checkpoint_line_of text k)

answered-told : (a : Result ⊤ Fault) (m : Memory) (ex : List ℕ) → outcome (answered_of a (the_counts_of m.so_far) m.so_far.file) (lent m.segments m.lanes m.zones m.spots m.points m.checkpoints m.stops ex) ≡ from_referred m (referred a ex)
answered-told (Ok _) m ex = refl
answered-told (Err f) m ex = refl

-- the tests of room, as the program makes them
abbrev pub parts-fit : Counts → Memory → Bool
parts-fit c m = parts_fit_of c (length m.segments) (length m.lanes) (length m.zones) (length m.spots)

abbrev pub marks-fit : Counts → Memory → Bool
marks-fit c m = marks_fit_of c (length m.points) (length m.checkpoints) (length m.stops) (length m.exits)

pub judged : (text : Bytes) (m : Memory) (c : Counts) (a : Result ⊤ Fault) (ex : List ℕ) (r : NetworkReply) → c ≡ the_counts_of m.so_far → parts-fit c m ≡ true → marks-fit c m ≡ true
    → referred a ex ≡ refer_of text m.segments m.lanes m.zones m.checkpoints m.exits m.so_far → r ≡ answered_of a c m.so_far.file
    → outcome r (lent m.segments m.lanes m.zones m.spots m.points m.checkpoints m.stops ex) ≡ judged_of text m
unfolding judged_of
judged text m c a ex r n p q e h =
    let p₁ = rw n at p in
    let q₁ = rw n at q in
    rw (p₁, q₁) (ap (λ (x : NetworkReply). outcome x (lent m.segments m.lanes m.zones m.spots m.points m.checkpoints m.stops ex)) (h ∙ ap (λ (x : Counts). answered_of a x m.so_far.file) n) ∙ answered-told a m ex ∙ ap (from_referred m) e)

-- 11
pub no-parts : (text : Bytes) (m : Memory) (c : Counts) (ex : List ℕ) → c ≡ the_counts_of m.so_far → parts-fit c m ≡ false
    → outcome (Err (fault 0 11)) (lent m.segments m.lanes m.zones m.spots m.points m.checkpoints m.stops ex) ≡ judged_of text m
unfolding judged_of
no-parts text m c ex n p = let p₁ = rw n at p in rw p₁ refl

pub no-marks : (text : Bytes) (m : Memory) (c : Counts) (ex : List ℕ) → c ≡ the_counts_of m.so_far → parts-fit c m ≡ true → marks-fit c m ≡ false
    → outcome (Err (fault 0 11)) (lent m.segments m.lanes m.zones m.spots m.points m.checkpoints m.stops ex) ≡ judged_of text m
unfolding judged_of
no-marks text m c ex n p q = let p₁ = rw n at p in let q₁ = rw n at q in rw (p₁, q₁) refl

-- what is found over cleared tables
pub cleared : (ε : Edition) (text : Bytes) (t u : Lent) (x : Found Memory) → x ≡ filled_in ε text (memory no_progress u.segments u.lanes u.zones u.spots u.points u.checkpoints u.stops u.exits) → u ≡ zeros t → from_filled text x ≡ read_of ε text t
unfolding read_of
cleared ε text t u x e z = ap (from_filled text) (e ∙ ap (λ (v : Lent). filled_in ε text (memory no_progress v.segments v.lanes v.zones v.spots v.points v.checkpoints v.stops v.exits)) z)
