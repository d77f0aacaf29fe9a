-- The judge of an MDF's line: what its program tells is what `text` and the machine tell. Assumes nothing.
use Rattle.std.specs.Prelude.{Ok, Err, Result}
use mathlib.Core.Path.{◌≡◌, refl, sym, ap, subst, ◌∙◌}
use mathlib.Core.List.{List, [], ◌∷◌}
use mathlib.Core.Option.{Option, none, some}
use mathlib.Core.Bool.{Bool, true, false}
use mathlib.Core.Logic.{◌⊎◌, inl, inr}
use Prim.Native.Nat.{ℕ, zero, suc, ◌≤◌, ◌<◌}
use native.Mathlib.Omega.{arith}
use lib.ListN.{length, get_or}
use lib.Dec.{eqb, ltb}
use borrow.Author.Tests.{eqb-true, ltb-true}
use Rattle.terms.specs.Ascii.{Bytes}
use Rattle.terms.specs.Words.{pick}
use Rattle.terms.proofs.Computed.{below}
use Rattle.line.specs.Content.{Field}
use Rattle.line.specs.declared.Fields.{Fields}
use Rattle.line.specs.Forms.{listed}
use Rattle.word.specs.Keywords.{mdf_keywords}
use Rattle.word.specs.Number.{index_of, digit_first}
use Rattle.grammar.specs.MissionStatements.{Kind, say, MDF_name_of, RNDF, format_version_of, creation_date_of, checkpoints, num_checkpoints, end_checkpoints, speed_limits, num_speed_limits, end_speed_limits, end_file_of, goal, limit}
use Rattle.grammar.specs.MissionStatements as G
use Rattle.grammar.specs.PlaceTable.{mdf_table_of}
use Rattle.grammar.specs.PlaceRows.{mission_kinds, mission_kind_row}
use Rattle.grammar.specs.Machine.{Out, next, refuse, Stand, over, inside, step}
use Rattle.grammar.specs.MissionPlaces.{mdf, Base, name_due, RNDF_due, checkpoints_due, num_checkpoints_due, goal_due, speed_limits_due, num_speed_limits_due, limit_due, end_file_due}
use Rattle.grammar.specs.Stands.{stands}
use Rattle.grammar.specs.Renamed.{orders_named, order_named}
use Rattle.grammar.proofs.StandLaws.{number_of}
use Rattle.grammar.proofs.Renaming.{mdf-renamed, mdf-stands}
use Rattle.grammar.proofs.Follows.{map_out}
use Rattle.text.specs.Judge.{numbered, kind_at, read_all, judge}
use Rattle.text.specs.MdfWords.{word_at, kind_at_of, mdf_sorts, mdf_make, mdf_lexis}
use Rattle.statement.specs.declared.Order.{Order}
use Rattle.statement.specs.Meaning.{Stretch}
use Rattle.statement.specs.MissionMeaning.{meant}
use Rattle.statement.specs.MissionKinds.{of_kind}
use Rattle.statement.proofs.MissionLaws.{means}
use Rattle.made_out.specs.Names.{the_the_stretch_of, behind, told_as}
use Rattle.made_out.specs.MadeOrders.{order_shapes, order_needs, order_made_of, order_from}
use Rattle.made_out.proofs.MissionTies.{order_is}
use Rattle.mission_place.specs.declared.MissionPlace.{MissionPlace}
use Rattle.mission_place.specs.Step.{number_kind_of, cell_of, by_cell, step_of, refuses_by}
use Rattle.mission_place.specs.Abstract.{seen, abs_of, due_digit}
use Rattle.mission_place.proofs.Theorems.{Sound, the_step, next-sound, refuses-is, step_by, refuses-by, number-kind-is}
use Rattle.judge.specs.Judging.{line}
use Rattle.judge.proofs.Judged.{keyed, OfKind, Ties, view, renamed, line-is, SoundGot, line-sound}
use Rattle.mission_judge.specs.MdfLine.{mdf_kind, mdf_judging}

-- ## The kind of a first field
row_back : (i : ℕ) → i < 13 → mission_kind_row (get_or mission_kinds i limit) ≡ i
row_back i h = eqb-true (mission_kind_row (get_or mission_kinds i limit)) i (below (λ j. eqb (mission_kind_row (get_or mission_kinds j limit)) j) 13 refl i h)

pub row_in : (k : Kind) → ltb (mission_kind_row k) 13 ≡ true
row_in MDF_name_of = refl
row_in RNDF = refl
row_in format_version_of = refl
row_in creation_date_of = refl
row_in checkpoints = refl
row_in num_checkpoints = refl
row_in end_checkpoints = refl
row_in speed_limits = refl
row_in num_speed_limits = refl
row_in end_speed_limits = refl
row_in end_file_of = refl
row_in goal = refl
row_in limit = refl

-- 5, 6 or 0 by the cell of a kind in the table of an MDF
abbrev pub refusal : MissionPlace → ℕ → ℕ
refusal p kind = refuses_by p (cell_of mdf_table_of p kind)

pub refuses_as : (p : MissionPlace) → Sound p → (k : Kind) → refusal p (mission_kind_row k) ≡ number_of (stands (mdf Field) (abs_of p) k)
refuses_as p i k = refuses-by p (mission_kind_row k) ∙ refuses-is p k i ∙ ap number_of (mdf-stands the_the_stretch_of (abs_of p) k)

-- a goal or a limit by the place, or none
digit-kind : (p : MissionPlace) (q : Stand Base) → OfKind (mdf Field) mdf_lexis mdf_judging mission_kind_row p (due_digit q) (numbered (mdf Field) mdf_lexis q)
unfolding numbered
digit-kind p over = inl refl
digit-kind p (inside name_due g) = inl refl
digit-kind p (inside RNDF_due g) = inl refl
digit-kind p (inside checkpoints_due g) = inl refl
digit-kind p (inside num_checkpoints_due g) = inl refl
digit-kind p (inside (goal_due zero) g) = inl refl
digit-kind p (inside (goal_due (suc n)) g) = refl
digit-kind p (inside speed_limits_due g) = inl refl
digit-kind p (inside num_speed_limits_due g) = inl refl
digit-kind p (inside (limit_due zero) g) = inl refl
digit-kind p (inside (limit_due (suc n)) g) = refl
digit-kind p (inside end_file_due g) = inl refl

pub kind-is : (p : MissionPlace) → Sound p → (f : Field) → OfKind (mdf Field) mdf_lexis mdf_judging mission_kind_row p (mdf_kind p f.bytes) (kind_at (mdf Field) mdf_lexis (abs_of p) f)
unfolding mdf_kind
kind-is p i f = go (digit_first f.bytes)
  where
    by_word : (w : ℕ) (b : Bool) → ltb w 11 ≡ b → OfKind (mdf Field) mdf_lexis mdf_judging mission_kind_row p (pick b w 13) (pick b (some (get_or mission_kinds w limit)) none)
    by_word w true e = let h : w < 11 = ltb-true w 11 e in sym (row_back w (omega arith))
    by_word w false e = inl refl

    go : (b : Bool) → OfKind (mdf Field) mdf_lexis mdf_judging mission_kind_row p (pick b (number_kind_of p) (pick (ltb (index_of f.bytes mdf_keywords) 11) (index_of f.bytes mdf_keywords) 13)) (pick b (numbered (mdf Field) mdf_lexis (abs_of p)) (kind_at_of (index_of f.bytes mdf_keywords)))
    go true = rw (number-kind-is p i) (digit-kind p (abs_of p))
    go false = by_word (index_of f.bytes mdf_keywords) (ltb (index_of f.bytes mdf_keywords) 11) refl

-- ## Fields, statements, places
pub needs-is : (k : Kind) → order_needs (get_or order_shapes (mission_kind_row k) 0) ≡ keyed (word_at (mission_kind_row k)) (length (mdf_sorts k))
needs-is MDF_name_of = refl
needs-is RNDF = refl
needs-is format_version_of = refl
needs-is creation_date_of = refl
needs-is checkpoints = refl
needs-is num_checkpoints = refl
needs-is end_checkpoints = refl
needs-is speed_limits = refl
needs-is num_speed_limits = refl
needs-is end_speed_limits = refl
needs-is end_file_of = refl
needs-is goal = refl
needs-is limit = refl

pub needs-few : (k : Kind) → order_needs (get_or order_shapes (mission_kind_row k) 0) ≤ 3
needs-few MDF_name_of = omega arith
needs-few RNDF = omega arith
needs-few format_version_of = omega arith
needs-few creation_date_of = omega arith
needs-few checkpoints = omega arith
needs-few num_checkpoints = omega arith
needs-few end_checkpoints = omega arith
needs-few speed_limits = omega arith
needs-few num_speed_limits = omega arith
needs-few end_speed_limits = omega arith
needs-few end_file_of = omega arith
needs-few goal = omega arith
needs-few limit = omega arith

as-made : {A : Type 0} (k : Kind) (m : A → G.Says Stretch k) (o : Option A) → told_as meant (told_as (λ v. of_kind k (m v)) o) ≡ told_as (λ v. say k (m v)) o
as-made k m none = refl
as-made k m (some v) = ap some (means k (m v))

pub statement-is : (k : Kind) (base : ℕ) (s : Bytes) (f : Fields)
    → told_as meant (order_from (order_made_of s base f (mission_kind_row k))) ≡ told_as (λ v. order_named the_the_stretch_of (say k (mdf_make k v))) (read_all (mdf_sorts k) (behind (word_at (mission_kind_row k)) (listed base s f (order_needs (get_or order_shapes (mission_kind_row k) 0)))))
statement-is k base s f = ap (told_as meant) (order_is base s f k) ∙ as-made k (λ v. orders_named the_the_stretch_of k (mdf_make k v)) (read_all (mdf_sorts k) (behind (word_at (mission_kind_row k)) (listed base s f (order_needs (get_or order_shapes (mission_kind_row k) 0)))))

-- the step with the cell of the kind that the order has
by_kind : (p : MissionPlace) (s : Order) (t : G.Statement Field) → meant s ≡ order_named the_the_stretch_of t → by_cell p s (cell_of mdf_table_of p (mission_kind_row t.kind)) ≡ step_of p s
by_kind p s t m = ap (λ (x : G.Statement Stretch). by_cell p s (cell_of mdf_table_of p (mission_kind_row x.kind))) (sym m) ∙ step_by p s

pub step_is : (p : MissionPlace) → Sound p → (s : Order) (t : G.Statement Field) → meant s ≡ order_named the_the_stretch_of t → map_out abs_of (seen (by_cell p s (cell_of mdf_table_of p (mission_kind_row t.kind)))) ≡ step (mdf Field) (abs_of p) t
step_is p i s t m = ap (λ (o : Result MissionPlace ℕ). map_out abs_of (seen o)) (by_kind p s t m) ∙ the_step p s i ∙ ap (step (mdf Stretch) (abs_of p)) m ∙ mdf-renamed the_the_stretch_of (abs_of p) t

next-was : (o : Result MissionPlace ℕ) (q : MissionPlace) → seen o ≡ next q → o ≡ Ok q
next-was (Ok r) q e = ap Ok (let z : r ≡ q = cc in z)
next-was (Err c) q e = absurd (let z : ◌≡◌ {A = ℕ} 0 1 = cc in omega arith)

pub stays : (p : MissionPlace) → Sound p → (s : Order) (t : G.Statement Field) → meant s ≡ order_named the_the_stretch_of t → (q : MissionPlace) → seen (by_cell p s (cell_of mdf_table_of p (mission_kind_row t.kind))) ≡ next q → Sound q
stays p i s t m q e = next-sound p s q i (sym (by_kind p s t m) ∙ next-was (by_cell p s (cell_of mdf_table_of p (mission_kind_row t.kind))) q e)

abbrev pub mdf_ties : Ties (mdf Field) mdf_lexis mdf_judging
mdf_ties = record { Mean = G.Statement Stretch; meant = meant; moved = order_named the_the_stretch_of; abs = abs_of; Sound = Sound; row = mission_kind_row; row_in = row_in; kind-is = kind-is; refuses-is = refuses_as; needs-is = needs-is; needs-few = needs-few; made-is = statement-is; step_is = step_is; stays = stays }

-- THE THEOREM: at a sound place a line of an MDF gets what `text` says of it, and the next place is sound
pub mdf-line-is : (p : MissionPlace) → Sound p → (base : ℕ) (s : Bytes) → view (mdf Field) mdf_lexis mdf_judging mdf_ties p (line mdf_judging s base p) ≡ renamed (mdf Field) mdf_lexis mdf_judging mdf_ties (judge (mdf Field) mdf_lexis (abs_of p) base s)
mdf-line-is = line-is (mdf Field) mdf_lexis mdf_judging mdf_ties

pub mdf-line-sound : (p : MissionPlace) → Sound p → (base : ℕ) (s : Bytes) → SoundGot (mdf Field) mdf_lexis mdf_judging mdf_ties (line mdf_judging s base p)
mdf-line-sound = line-sound (mdf Field) mdf_lexis mdf_judging mdf_ties
