-- The cells one by one: what the program does with each order that may stand is what the machine does. Assumes nothing.
use Rattle.std.specs.Prelude.{Ok, Err, Result}
use mathlib.Core.Path.{◌≡◌, refl, sym, ap, ◌∙◌}
use mathlib.Core.List.{List, [], ◌∷◌}
use mathlib.Core.Bool.{Bool, true, false}
use Prim.Native.Nat.{ℕ, zero, suc, ◌-◌}
use lib.Dec.{T, eqb, ltb}
use Rattle.grammar.specs.MissionStatements.{Kind, Says, orders, format_version_of, creation_date_of}
use Rattle.grammar.specs.Machine.{Stand, over, inside, clear, lacks}
use Rattle.grammar.specs.MissionPlaces.{mdf, Base, opts, due, name_due, RNDF_due, checkpoints_due, num_checkpoints_due, goal_due, speed_limits_due, num_speed_limits_due, limit_due, end_file_due}
use Rattle.grammar.specs.PlaceTable.{cell, mdf_table_of}
use Rattle.grammar.specs.PlaceRows.{mission_kind_row}
use Rattle.grammar.proofs.StandLaws.{early, is_over}
use Rattle.grammar.proofs.Tabled.{having, cell-beside}
use Rattle.grammar.proofs.MdfTable.{mdf-tabled}
use Rattle.grammar.proofs.Follows.{Program, Goal, EachOpt, Cells, Fit, fit-pick, line, oline, ontos-judge, by-cell}
use Rattle.statement.specs.declared.Order.{Order}
use Rattle.statement.specs.Meaning.{Stretch}
use Rattle.statement.specs.MissionMeaning.{meant}
use Rattle.statement.specs.MissionKinds.{order_of, of_kind}
use Rattle.statement.proofs.MissionLaws.{back, kind-written, sample}
use Rattle.permitted.specs.Tests.{is_counted}
use Rattle.permitted.specs.MissionTests.{is_limit}
use Rattle.mission_place.specs.declared.MissionPlace.{MissionPlace}
use Rattle.mission_place.specs.Step.{has_of, permits_of, after_of, opted_of, index_of, due_of, option_of, by_cell, step_of, refuses_by, refuses_of, over_of}
use Rattle.mission_place.specs.Abstract.{seen, place_of, flags, abs_of}
use Rattle.mission_place.proofs.Table.{row_is, shut}

pub settled : (p : MissionPlace) (s : Order) → step_of p s ≡ step_of p (of_kind (meant s).kind (meant s).val)
settled p s = ap (step_of p) (sym (back s))

abbrev pub program : Program (mdf Stretch)
program = record {
  St = Order;
  Pl = MissionPlace;
  Ou = Result MissionPlace ℕ;
  Next = Ok;
  Refused = Err;
  seen = seen;
  seen_next = λ p. refl;
  seen_refused = λ c. refl;
  meant = meant;
  write = of_kind;
  step_of = step_of;
  settled = settled;
  place_of = place_of;
  abs_of = abs_of;
  flags = flags;
  kind_row = mission_kind_row;
  sample = sample;
  refuses_of = refuses_of;
  over_of = over_of;
}

-- ## What is not in the row
by_cell_255 : (p : MissionPlace) (s : Order) → by_cell p s 255 ≡ Err 5
unfolding by_cell
by_cell_255 p s = refl

none-line : (b : Base) (g : List Bool) (k : Kind) (v : Says Stretch k) → T (lacks (orders Stretch) k (opts Stretch b)) → (k ≡ (due Stretch b).on → ⊥) → step_of (place_of (inside b g)) (of_kind k v) ≡ Err 5
unfolding step_of
none-line b g k v l n = rw (kind-written k v, row_is b g, cell-beside (mdf Stretch) (mdf-tabled Stretch) b k n, having (mdf Stretch) (opts Stretch b) 1 k l) (by_cell_255 (place_of (inside b g)) (of_kind k v))

over-line : (k : Kind) (v : Says Stretch k) → step_of (place_of over) (of_kind k v) ≡ Err 5
unfolding step_of index_of
over-line k v = rw (kind-written k v, shut k) (by_cell_255 (place_of over) (of_kind k v))

-- ## The due orders
cleared : (b : Base) → clear (orders Stretch) (opts Stretch b) ≡ flags b false false false
cleared name_due = refl
cleared RNDF_due = refl
cleared checkpoints_due = refl
cleared num_checkpoints_due = refl
cleared (goal_due n) = refl
cleared speed_limits_due = refl
cleared num_speed_limits_due = refl
cleared (limit_due n) = refl
cleared end_file_due = refl

abbrev to : (b : Base) (g : List Bool) → Says Stretch (due Stretch b).on → ℕ → MissionPlace
to b g v row = after_of (place_of (inside b g)) (of_kind (due Stretch b).on v) row

due-line : (b : Base) (x y u : Bool) (v : Says Stretch (due Stretch b).on) → Goal program b (flags b x y u) (due Stretch b).on v
unfolding step_of by_cell due_of index_of mdf_table_of is_counted is_limit
due-line name_due x y u v = line program cleared name_due [] v (to name_due [] v 1) refl (λ h. refl)
due-line RNDF_due x y u v = line program cleared RNDF_due [] v (to RNDF_due [] v 2) refl (λ h. refl)
due-line checkpoints_due x y u v = line program cleared checkpoints_due (x ∷ y ∷ []) v (to checkpoints_due (x ∷ y ∷ []) v 3) refl (λ h. refl)
due-line num_checkpoints_due x y u v = line program cleared num_checkpoints_due [] v (to num_checkpoints_due [] v 4) refl (λ h. refl)
due-line (goal_due zero) x y u v = line program cleared (goal_due zero) [] v (to (goal_due zero) [] v 6) refl (λ h. refl)
due-line (goal_due (suc n)) x y u v = line program cleared (goal_due (suc n)) [] v (to (goal_due (suc n)) [] v 4) refl (λ h. refl)
due-line speed_limits_due x y u v = line program cleared speed_limits_due [] v (to speed_limits_due [] v 7) refl (λ h. refl)
due-line num_speed_limits_due x y u v = line program cleared num_speed_limits_due [] v (to num_speed_limits_due [] v 8) refl (λ h. refl)
due-line (limit_due zero) x y u v = line program cleared (limit_due zero) [] v (to (limit_due zero) [] v 10) refl (λ h. refl)
due-line (limit_due (suc n)) x y u v = line program cleared (limit_due (suc n)) [] v (to (limit_due (suc n)) [] v 8) refl (λ h. refl)
due-line end_file_due x y u v = line program cleared end_file_due [] v (to end_file_due [] v 11) refl (λ h. refl)

-- ## The options
opt-lines : (b : Base) (x y u : Bool) → EachOpt program (Goal program b (flags b x y u)) (opts Stretch b)
unfolding step_of by_cell option_of index_of mdf_table_of
opt-lines name_due x y u = tt
opt-lines RNDF_due x y u = tt
opt-lines checkpoints_due x y u = (
  (λ v. oline program checkpoints_due (x ∷ y ∷ []) format_version_of v x true (true ∷ y ∷ []) refl refl (true, y, false, refl)),
  (
    (λ v. oline program checkpoints_due (x ∷ y ∷ []) creation_date_of v y true (x ∷ true ∷ []) refl (ontos-judge (x ∷ []) y true (true ∷ [])) (x, true, false, refl)),
    tt,
  ),
)
opt-lines num_checkpoints_due x y u = tt
opt-lines (goal_due n) x y u = tt
opt-lines speed_limits_due x y u = tt
opt-lines num_speed_limits_due x y u = tt
opt-lines (limit_due n) x y u = tt
opt-lines end_file_due x y u = tt

-- ## From the program's places to the machine's, and back
fit-abs : (p : MissionPlace) → Fit program (abs_of p)
unfolding abs_of
fit-abs p =
    fit-pick program (eqb p.row 0) _ _ (false, false, false, refl) (
    fit-pick program (eqb p.row 1) _ _ (false, false, false, refl) (
    fit-pick program (eqb p.row 2) _ _ (p.version, p.date, false, refl) (
    fit-pick program (eqb p.row 3) _ _ (false, false, false, refl) (
    fit-pick program (eqb p.row 4) _ _ (false, false, false, refl) (
    fit-pick program (eqb p.row 6) _ _ (false, false, false, refl) (
    fit-pick program (eqb p.row 7) _ _ (false, false, false, refl) (
    fit-pick program (eqb p.row 8) _ _ (false, false, false, refl) (
    fit-pick program (eqb p.row 10) _ _ (false, false, false, refl) (
    tt)))))))))

abs-inside : (b : Base) (x y u : Bool) → abs_of (place_of (inside b (flags b x y u))) ≡ inside b (flags b x y u)
unfolding abs_of
abs-inside name_due x y u = refl
abs-inside RNDF_due x y u = refl
abs-inside checkpoints_due x y u = refl
abs-inside num_checkpoints_due x y u = refl
abs-inside (goal_due n) x y u = refl
abs-inside speed_limits_due x y u = refl
abs-inside num_speed_limits_due x y u = refl
abs-inside (limit_due n) x y u = refl
abs-inside end_file_due x y u = refl

abs-over : abs_of (place_of over) ≡ over
unfolding abs_of
abs-over = refl

over-here : (q : Stand Base) → over_of (place_of q) ≡ is_over (mdf Stretch) q
over-here over = refl
over-here (inside name_due g) = refl
over-here (inside RNDF_due g) = refl
over-here (inside checkpoints_due g) = refl
over-here (inside num_checkpoints_due g) = refl
over-here (inside (goal_due n) g) = refl
over-here (inside speed_limits_due g) = refl
over-here (inside num_speed_limits_due g) = refl
over-here (inside (limit_due n) g) = refl
over-here (inside end_file_due g) = refl

-- ## By the kind alone
by_kind : (p : MissionPlace) (k : Kind) (v : Says Stretch k) → refuses_of p (mission_kind_row k) ≡ early (seen (step_of p (of_kind k v)))
unfolding refuses_of refuses_by step_of by_cell due_of option_of
by_kind p k v =
    let s = of_kind k v in
    let c = cell mdf_table_of (index_of p) (order_of s) in
    ap (λ (j : ℕ). refuses_of p j) (sym (kind-written k v)) ∙ by-cell program (ltb c 128) (ltb c 255) (has_of p (c - 128)) (permits_of s) true (after_of p s c) (opted_of p (c - 128))

pub cells : Cells program
cells = record {
  cleared = cleared;
  due-line = due-line;
  opt-lines = opt-lines;
  none-line = none-line;
  over-line = over-line;
  fit-abs = fit-abs;
  abs-inside = abs-inside;
  abs-over = abs-over;
  by_kind = by_kind;
  over-here = over-here;
}
