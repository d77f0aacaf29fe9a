-- THE LAW of the mission's fill: statements that spell a mission fill its tables, which have as many rows as its count lines declare. Assumes nothing.
use mathlib.Core.Path.{◌≡◌, refl, sym, ap, ap₂, subst, subst₂, ◌∙◌}
use mathlib.Core.List.{List, [], ◌∷◌, ◌++◌, map, append_assoc, append-nil}
use mathlib.Core.Option.{Option, none, some}
use Prim.Native.Nat.{ℕ, ◌+◌}
use native.Mathlib.Omega.{arith}
use lib.ListN.{length}
use Rattle.grammar.specs.MissionStatements.{Kind, Says, Statement, Limit, orders, say, of_kind, Only, MDF_name_of, RNDF, format_version_of, creation_date_of, checkpoints, num_checkpoints, end_checkpoints, speed_limits, num_speed_limits, end_speed_limits, end_file_of, goal, limit}
use Rattle.grammar.specs.Mission.{Mission, MissionOptions, SpellsMission}
use Rattle.grammar.specs.Tables.{MissionFileRow, mission_tables}
use Rattle.grammar.proofs.HouseLaws.{of_append}
use Rattle.fill.specs.MissionRows.{Rows, gives, in_tables, start, next, mission_filling, mission_fill}
use Rattle.fill.specs.Filling as Filling
use Rattle.fill.specs.Counts.{MissionCounts, mission_sizes, together, mission_declared}
use Rattle.fill.specs.Tally.{no_mission_counts, mission_tally, mission_tallied}
use Rattle.fill.proofs.Folds as Folds
use Rattle.fill.proofs.Folds.{Joins, one, as_rows}
use Rattle.fill.proofs.Lines.{own, absent, said-only, options-by}
use Rattle.fill.proofs.LaneFills.{last, last_name}

abbrev pub these : List ℕ → List Limit → Rows
these gs ls = record { goals = gs; limits = ls }

-- behind the rows o there are d where there were c
pub record Counted (c : MissionCounts) (o : Rows) (d : MissionCounts) : Type 0 where
  pub goals : d.goals ≡ c.goals + length o.goals
  pub limits : d.limits ≡ c.limits + length o.limits

tally-counts : (N : Type 0) (k : Kind) (v : Says N k) (c d : MissionCounts) (o : Rows) → Counted (mission_tally k c) o d → Counted c (these ((in_tables (gives N k v)).goals ++ o.goals) ((in_tables (gives N k v)).limits ++ o.limits)) d
tally-counts N MDF_name_of v c d o h = record { goals = h.goals; limits = h.limits }
tally-counts N RNDF v c d o h = record { goals = h.goals; limits = h.limits }
tally-counts N format_version_of v c d o h = record { goals = h.goals; limits = h.limits }
tally-counts N creation_date_of v c d o h = record { goals = h.goals; limits = h.limits }
tally-counts N checkpoints v c d o h = record { goals = h.goals; limits = h.limits }
tally-counts N num_checkpoints v c d o h = record { goals = h.goals; limits = h.limits }
tally-counts N end_checkpoints v c d o h = record { goals = h.goals; limits = h.limits }
tally-counts N speed_limits v c d o h = record { goals = h.goals; limits = h.limits }
tally-counts N num_speed_limits v c d o h = record { goals = h.goals; limits = h.limits }
tally-counts N end_speed_limits v c d o h = record { goals = h.goals; limits = h.limits }
tally-counts N end_file_of v c d o h = record { goals = h.goals; limits = h.limits }
tally-counts N goal v c d o h = omega arith
tally-counts N limit v c d o h = omega arith

module _ {N : Type 0} where
  joined : Joins (mission_filling {N = N})
  joined = record {
    assoc = λ a b c. λ i. these (append_assoc a.goals b.goals c.goals i) (append_assoc a.limits b.limits c.limits i);
    empty = λ a. refl;
  }

  abbrev pub Fills : List (Statement N) → MissionFileRow N → Rows → MissionFileRow N → Type 0
  Fills = Folds.Fills mission_filling

  done : (f : MissionFileRow N) → Fills [] f (these [] []) f
  done f = Folds.none f

  infixl 6 ◌▸◌
  ◌▸◌ : {u v : List (Statement N)} {s t w : MissionFileRow N} {o p : Rows} → Fills u s o t → Fills v t p w → Fills (u ++ v) s (these (o.goals ++ p.goals) (o.limits ++ p.limits)) w
  f ▸ g = Folds.both joined f g

  abbrev Named : MissionFileRow N → List (Statement N) → List N → List N → Type 0
  Named f os vs ds = Fills os f (these [] []) (record { name = f.name; rndf = f.rndf; version = last f.version (map some vs); date = last f.date (map some ds) })

  file_options : (os : List (Statement N)) → Only (format_version_of ∷ creation_date_of ∷ []) os → (f : MissionFileRow N) → Named f os (of_kind format_version_of os) (of_kind creation_date_of os)
  file_options = options-by (orders N) (λ os. (f : MissionFileRow N) → Named f os (of_kind format_version_of os) (of_kind creation_date_of os)) (format_version_of ∷ creation_date_of ∷ []) done (
    λ v os h f. subst (λ (vs : List N). Named f (say format_version_of v ∷ os) vs (of_kind creation_date_of os)) (sym (own (orders N) format_version_of v os)) (one (say format_version_of v) (h (next format_version_of v f))),
    (
      λ v os h f. subst (Named f (say creation_date_of v ∷ os) (of_kind format_version_of os)) (sym (own (orders N) creation_date_of v os)) (one (say creation_date_of v) (h (next creation_date_of v f))),
      tt,
    ),
  )

  -- the file's row of a mission
  abbrev pub file-of : Mission N → MissionFileRow N
  file-of a = record { name = a.name; rndf = a.rndf; version = a.version; date = a.date }

  given-file : (a : Mission N) (os : List (Statement N)) → MissionOptions a os → Fills os (record { name = a.name; rndf = a.rndf; version = none; date = none }) (these [] []) (file-of a)
  given-file a os g =
      let at : Option N → Option N → MissionFileRow N = λ v d. record { name = a.name; rndf = a.rndf; version = v; date = d } in
      subst₂ (λ (v d : Option N). Fills os (at none none) (these [] []) (at v d)) (ap (λ (ns : List N). last none (map some ns)) g.version ∙ last_name a.version) (ap (λ (ns : List N). last none (map some ns)) g.date ∙ last_name a.date)
      (file_options os g.no_other (at none none))

  goals-fill : (gs : List ℕ) (f : MissionFileRow N) → Fills (map (say goal) gs) f (these gs []) f
  goals-fill [] f = done f
  goals-fill (g ∷ gs) f = one (say goal g) (goals-fill gs f)

  limits-fill : (ls : List Limit) (f : MissionFileRow N) → Fills (map (say limit) ls) f (these [] ls) f
  limits-fill [] f = done f
  limits-fill (a ∷ ls) f = one (say limit a) (limits-fill ls f)

  pub spelled_fills : (blank : N) (a : Mission N) (u : List (Statement N)) → SpellsMission a u → Fills u (start blank) (these a.goals a.limits) (file-of a)
  spelled_fills blank a u s =
      let o = given-file a s.options s.given in
      let g = goals-fill a.goals (file-of a) in
      let l = limits-fill a.limits (file-of a) in
      let e = one (say end_speed_limits tt) (one (say end_file_of tt) (done (file-of a))) in
      rw s.spelled (as_rows (one (say MDF_name_of a.name) (one (say RNDF a.rndf) (o ▸ one (say checkpoints tt) (one (say num_checkpoints (length a.goals)) (g
      ▸ one (say end_checkpoints tt) (one (say speed_limits tt) (one (say num_speed_limits (length a.limits)) (l ▸ e))))))))
      (λ i. these (append-nil a.goals i) (append-nil a.limits i)))

  -- statements that spell a mission fill its tables
  pub mission_fills : (blank : N) (a : Mission N) (u : List (Statement N)) → SpellsMission a u → mission_fill blank u ≡ mission_tables a
  unfolding mission_fill
  mission_fills blank a u s = let f = spelled_fills blank a u s in
      ap₂ (λ (r : MissionFileRow N) (o : Rows). record { file = r; goals = o.goals; limits = o.limits }) f.left f.rows_are

  -- ## Counts
  -- the rows of a spelled mission's tables are as many as its count lines declare
  pub mission_counted : (a : Mission N) (u : List (Statement N)) → SpellsMission a u → mission_sizes (mission_tables a) ≡ mission_declared u
  mission_counted a u s =
      let G : List (Statement N) = map (say goal) a.goals in
      let K : List (Statement N) = map (say limit) a.limits in
      let end : List (Statement N) = say end_speed_limits tt ∷ say end_file_of tt ∷ [] in
      let mid : List (Statement N) = say end_checkpoints tt ∷ say speed_limits tt ∷ say num_speed_limits (length a.limits) ∷ K ++ end in
      let g : of_kind num_checkpoints u ≡ length a.goals ∷ []
      = rw s.spelled (of_append (orders N) num_checkpoints s.options (say checkpoints tt ∷ say num_checkpoints (length a.goals) ∷ G ++ mid)
      ∙ ap₂ (λ (x y : List ℕ). x ++ y) (absent (orders N) num_checkpoints (format_version_of ∷ creation_date_of ∷ []) refl s.options s.given.no_other)
      (ap (◌∷◌ (length a.goals)) (of_append (orders N) num_checkpoints G mid ∙ ap₂ (λ (x y : List ℕ). x ++ y) (absent (orders N) num_checkpoints (goal ∷ []) refl G (said-only (orders N) goal a.goals))
      (of_append (orders N) num_checkpoints K end ∙ ap (λ (x : List ℕ). x ++ []) (absent (orders N) num_checkpoints (limit ∷ []) refl K (said-only (orders N) limit a.limits)))))) in
      let l : of_kind num_speed_limits u ≡ length a.limits ∷ []
      = rw s.spelled (of_append (orders N) num_speed_limits s.options (say checkpoints tt ∷ say num_checkpoints (length a.goals) ∷ G ++ mid)
      ∙ ap₂ (λ (x y : List ℕ). x ++ y) (absent (orders N) num_speed_limits (format_version_of ∷ creation_date_of ∷ []) refl s.options s.given.no_other)
      (of_append (orders N) num_speed_limits G mid ∙ ap₂ (λ (x y : List ℕ). x ++ y) (absent (orders N) num_speed_limits (goal ∷ []) refl G (said-only (orders N) goal a.goals))
      (ap (◌∷◌ (length a.limits)) (of_append (orders N) num_speed_limits K end ∙ ap (λ (x : List ℕ). x ++ []) (absent (orders N) num_speed_limits (limit ∷ []) refl K (said-only (orders N) limit a.limits)))))) in
      let g₁ : length a.goals ≡ together (of_kind num_checkpoints u) = sym (ap together g ∙ alone (length a.goals)) in
      let l₁ : length a.limits ≡ together (of_kind num_speed_limits u) = sym (ap together l ∙ alone (length a.limits)) in
      λ i. record { goals = g₁ i; limits = l₁ i }
    where
      alone : (k : ℕ) → together (k ∷ []) ≡ k
      alone k = omega arith

  one-by-line : (k : Kind) (v : Says N k) (l : List (Statement N)) (o : Rows) → o ≡ these (of_kind goal l) (of_kind limit l)
      → these ((in_tables (gives N k v)).goals ++ o.goals) ((in_tables (gives N k v)).limits ++ o.limits) ≡ these (of_kind goal (say k v ∷ l)) (of_kind limit (say k v ∷ l))
  one-by-line MDF_name_of v l o h = h
  one-by-line RNDF v l o h = h
  one-by-line format_version_of v l o h = h
  one-by-line creation_date_of v l o h = h
  one-by-line checkpoints v l o h = h
  one-by-line num_checkpoints v l o h = h
  one-by-line end_checkpoints v l o h = h
  one-by-line speed_limits v l o h = h
  one-by-line num_speed_limits v l o h = h
  one-by-line end_speed_limits v l o h = h
  one-by-line end_file_of v l o h = h
  one-by-line goal v l o h = ap (λ (o : Rows). these (v ∷ o.goals) o.limits) h
  one-by-line limit v l o h = ap (λ (o : Rows). these o.goals (v ∷ o.limits)) h

  -- for any statements: the rows are what the goal lines and the limit lines say
  pub mission-by-lines : (l : List (Statement N)) (f : MissionFileRow N) → Filling.rows mission_filling l f ≡ these (of_kind goal l) (of_kind limit l)
  unfolding Filling.rows
  mission-by-lines [] f = refl
  mission-by-lines (x ∷ l) f = one-by-line x.kind x.val l (Filling.rows mission_filling l (next x.kind x.val f)) (mission-by-lines l (next x.kind x.val f))

  -- for any statements: the tally counts the rows, one for each goal line and each limit line
  pub mission-tallied-counts : (l : List (Statement N)) (f : MissionFileRow N) (c : MissionCounts) → Counted c (Filling.rows mission_filling l f) (mission_tallied l c)
  unfolding mission_tallied Filling.rows
  mission-tallied-counts [] f c = omega arith
  mission-tallied-counts (x ∷ l) f c = tally-counts N x.kind x.val c (mission_tallied l (mission_tally x.kind c)) (Filling.rows mission_filling l (next x.kind x.val f)) (mission-tallied-counts l (next x.kind x.val f) (mission_tally x.kind c))

  -- so is what the tally counts on the way, where a mission is spelled
  pub mission-tallied-declared : (a : Mission N) (u : List (Statement N)) → SpellsMission a u → mission_tallied u no_mission_counts ≡ mission_declared u
  mission-tallied-declared a u s =
      let h = mission-tallied-counts u (start a.name) no_mission_counts in
      let r = (spelled_fills a.name a u s).rows_are in
      let c = mission_tallied u no_mission_counts in
      let goals : c.goals ≡ length a.goals = let e = h.goals in let q = ap (λ (o : Rows). length o.goals) r in omega arith in
      let limits : c.limits ≡ length a.limits = let e = h.limits in let q = ap (λ (o : Rows). length o.limits) r in omega arith in
      (λ i. record { goals = goals i; limits = limits i }) ∙ mission_counted a u s
