-- An answer tells the whole reply: two replies with the same fields are one, so nothing that the readers and the writers promise is lost on the way to C. Assumes nothing.
use Rattle.std.specs.Prelude.{Ok, Err}
use Rattle.writings.specs.Types.{WriteMdfReply, WriteReply}
use Rattle.replies.specs.Types.{PairReply, RndfReply}
use mathlib.Core.Path.{◌≡◌, sym, ap}
use Prim.Native.Nat.{ℕ}
use native.Mathlib.Omega.{arith}
use Rattle.rows.specs.Read.{the_stretch_of}
use Rattle.rows.specs.declared.Stretch.{Stretch}
use Rattle.rows.specs.declared.FileRow.{FileRow}
use Rattle.rows.specs.declared.MissionFileRow.{MissionFileRow}
use Rattle.counts.specs.declared.Counts.{Counts}
use Rattle.counts.specs.declared.MissionCounts.{MissionCounts}
use Rattle.refusal.specs.declared.Refusal.{Refusal}
use Rattle.replies.specs.Replies.{refusal}
use Rattle.answer_fields.specs.declared.Name.{Name}
use Rattle.answer_fields.specs.declared.Answer.{Answer}
use Rattle.answer_fields.specs.declared.WriteAnswer.{WriteAnswer}
use Rattle.answer_fields.specs.Answers.{taken, refused, rndf_answer_of, pair_answer_of, write_answer_of, write_mdf_answer_of}

-- ## What an answer says
abbrev stretch : Name → Stretch
stretch n = the_stretch_of n.start n.length

abbrev why : Answer → Refusal
why a = refusal a.file a.line a.number a.column

abbrev counts : Answer → Counts
counts a = record { segments = a.segments; lanes = a.lanes; zones = a.zones; spots = a.spots; points = a.points; checkpoints = a.checkpoints; stops = a.stops; exits = a.exits }

abbrev mission_counts : Answer → MissionCounts
mission_counts a = record { goals = a.goals; limits = a.limits }

abbrev file : Answer → FileRow
file a = record { name = stretch a.rndf_name; version = stretch a.rndf_version; date = stretch a.rndf_date }

abbrev mission_file_of : Answer → MissionFileRow
mission_file_of a = record { name = stretch a.mdf_name; rndf = stretch a.mdf_rndf; version = stretch a.mdf_version; date = stretch a.mdf_date }

-- ## One reply for one answer
never : {X : Type 0} → (c : Counts) (f : FileRow) (m : MissionCounts) (g : MissionFileRow) (x : Refusal) → taken c f m g ≡ refused x → X
never c f m g x e = absurd (let z : ◌≡◌ {A = ℕ} 1 0 = ap (λ (a : Answer). a.accepted) e in omega arith)

pub rndf-told-whole : (x y : RndfReply) → rndf_answer_of x ≡ rndf_answer_of y → x ≡ y
rndf-told-whole (Ok (c, f)) (Ok (c', f')) e = ap (λ (a : Answer). Ok (counts a, file a)) e
rndf-told-whole (Ok (c, f)) (Err x) e = never _ _ _ _ _ e
rndf-told-whole (Err x) (Ok (c, f)) e = never _ _ _ _ _ (sym e)
rndf-told-whole (Err x) (Err y) e = ap (λ (a : Answer). Err (why a)) e

pub pair-told-whole : (x y : PairReply) → pair_answer_of x ≡ pair_answer_of y → x ≡ y
pair-told-whole (Ok (c, f, m, g)) (Ok (c', f', m', g')) e = ap (λ (a : Answer). Ok (counts a, file a, mission_counts a, mission_file_of a)) e
pair-told-whole (Ok (c, f, m, g)) (Err x) e = never _ _ _ _ _ e
pair-told-whole (Err x) (Ok (c, f, m, g)) e = never _ _ _ _ _ (sym e)
pair-told-whole (Err x) (Err y) e = ap (λ (a : Answer). Err (why a)) e

pub write-told-whole : (x y : WriteReply) → write_answer_of x ≡ write_answer_of y → x ≡ y
write-told-whole (Ok (c, f, n)) (Ok (c', f', n')) e = ap (λ (a : WriteAnswer). Ok (counts a.answer, file a.answer, a.length)) e
write-told-whole (Ok (c, f, n)) (Err x) e = never _ _ _ _ _ (ap (λ (a : WriteAnswer). a.answer) e)
write-told-whole (Err x) (Ok (c, f, n)) e = never _ _ _ _ _ (sym (ap (λ (a : WriteAnswer). a.answer) e))
write-told-whole (Err x) (Err y) e = ap (λ (a : WriteAnswer). Err (why a.answer)) e

pub write-mdf-told-whole : (x y : WriteMdfReply) → write_mdf_answer_of x ≡ write_mdf_answer_of y → x ≡ y
write-mdf-told-whole (Ok (c, f, m, g, n)) (Ok (c', f', m', g', n')) e =
    ap (λ (a : WriteAnswer). Ok (counts a.answer, file a.answer, mission_counts a.answer, mission_file_of a.answer, a.length)) e
write-mdf-told-whole (Ok (c, f, m, g, n)) (Err x) e = never _ _ _ _ _ (ap (λ (a : WriteAnswer). a.answer) e)
write-mdf-told-whole (Err x) (Ok (c, f, m, g, n)) e = never _ _ _ _ _ (sym (ap (λ (a : WriteAnswer). a.answer) e))
write-mdf-told-whole (Err x) (Err y) e = ap (λ (a : WriteAnswer). Err (why a.answer)) e
