-- THE LAW of 12, line by line: of a text that spells a network every exit's line has a declared entry exactly if no entry of the network is undeclared. Assumes nothing.
use Rattle.std.specs.Prelude.{Some, None}
use mathlib.Core.Path.{◌≡◌, refl, sym, ap, subst, subst_refl, path_j, ◌∙◌}
use mathlib.Core.List.{List, [], ◌∷◌, ◌++◌, map}
use mathlib.Core.Bool.{Bool, true, false, ◌&&◌, and-true, and_assoc}
use mathlib.Core.Option.{Option, none, some}
use Prim.Native.Nat.{ℕ, suc, ◌+◌}
use native.Mathlib.Omega.{arith}
use lib.ListN.{length, take}
use lib.Dec.{eqb, ltb}
use borrow.Author.Tests.{eqb-true, ltb-true}
use Rattle.terms.specs.Words.{Bytes, ascii, pick}
use Rattle.scan.specs.Reach.{begins, same_bytes_of}
use Rattle.word.specs.Number.{index_of}
use Rattle.word.specs.Keywords.{rndf_keywords}
use Rattle.terms.proofs.Tests.{clash, nothing}
use Rattle.terms.proofs.Computed.{every}
use Rattle.line.specs.Content.{Field}
use Rattle.line.specs.Lines.{lines_of}
use Rattle.line.specs.Forms.{fields_in_of, part}
use Rattle.line.specs.declared.Fields.{Fields}
use Rattle.number.specs.Executable.{triple_of}
use Rattle.grammar.specs.Language.{as_dec, as_kind}
use Rattle.grammar.specs.Statements.{Kind, Kind-discrete, Says, Statement, PointId, ExitLine, lines, of_kind, exit}
use Rattle.grammar.specs.Network.{Network, SpellsNetwork}
use Rattle.grammar.specs.Tables.{Tables, the_segment_row_of, tables_with, tables_unresolved}
use Rattle.grammar.specs.Places.{rndf, name_due}
use Rattle.grammar.specs.PlaceRows.{kind_row}
use Rattle.grammar.specs.Renamed.{says_named, statement_named}
use Rattle.grammar.proofs.LanguageLaws.{as_same, all-some, all_none}
use Rattle.text.specs.Answers.{read}
use Rattle.text.specs.RndfLines.{the_rndf_line_of}
use Rattle.text.specs.RndfWords.{rndf_lexis}
use Rattle.text.specs.Spelling.{SpellsRndf}
use Rattle.text.proofs.TextReading.{spelled-read}
use Rattle.text.proofs.Theorems.{read-rndf, rndf-file}
use Rattle.fill.specs.NetworkRows.{start, fill}
use Rattle.fill.specs.Resolve.{Look, look, resolve}
use Rattle.fill.specs.FirstFaults.{Fault, or_behind, first_fault, unless_found}
use Rattle.fill.proofs.RowLaws.{one_each}
use Rattle.fill.proofs.CountLaws.{by_lines}
use Rattle.fill.proofs.NetworkFills.{network_fills}
use Rattle.fault_lines.proofs.RndfFaults.{undeclared_in}
use Rattle.statement.specs.declared.Statement as Told
use Rattle.statement.specs.declared.Statement.TheVariants as st
use Rattle.statement.specs.Meaning.{Stretch, the_the_point_of, meant}
use Rattle.statement.specs.Kinds.{written}
use Rattle.statement.proofs.Laws.{means}
use Rattle.made_out.specs.Names.{the_the_stretch_of, behind}
use Rattle.made_out.specs.Names as Names
use Rattle.made_out.specs.Made.{exit_made_of, made_of, made_from}
use Rattle.references.specs.Entry.{id_from_of}
use Rattle.place.specs.declared.Place.{Place}
use Rattle.place.specs.Step.{first_place, over_of}
use Rattle.judge.specs.Judging.{Got, bad, blank, said, line}
use Rattle.judge.specs.RndfLine.{rndf_kind, rndf_judging}
use Rattle.walk.specs.Standing.{Where, place, places_in, over}
use Rattle.walk.specs.Walking.{Found, fault, gathered, onward, walked}
use Rattle.walk.proofs.RndfWalk.{told_as, walk-read, rndf_as-many}
use Rattle.find_line.specs.FoundLines.{fields_end_of, first_of, rndf_line_kind_of}
use Rattle.find_line.proofs.FirstFields.{first-is, no-first, HasKind, line-has}
use Rattle.find_line.proofs.RndfLines.{made-of-kind}
use Rattle.mend_tests.specs.Tests.{third_id_of, entry_on_of, is_there_of, is_exit_right_of, all_right_of}
use Rattle.std.specs.Prelude as Rust
use Rattle.number.specs.declared.Id.{Id}

-- a test behind another
picked : (a b : Bool) → pick a b false ≡ (a && b)
picked true b = refl
picked false b = refl

-- ## Entries that have a row
abbrev is_none : {A : Type 0} → Option A → Bool
is_none none = true
is_none (some a) = false

was-none : {A : Type 0} (o : Option A) → is_none o ≡ true → o ≡ none
was-none none e = refl
was-none (some a) e = clash (sym e)

-- none is at fault with 12 exactly if each has one
none-at-fault : {A : Type 0} (row : A → Option ℕ) (front l : List A) → is_none (first_fault (λ front a. unless_found (row a)) front l) ≡ every (λ a. is_there_of (row a)) l
unfolding first_fault
none-at-fault row front [] = refl
none-at-fault {A} row front (a ∷ l) = go (row a) (none-at-fault row (front ++ (a ∷ [])) l)
  where
    behind_it_lem : Option Fault
    behind_it_lem = first_fault (λ (front : List A) a. unless_found (row a)) (front ++ (a ∷ [])) l

    go : (o : Option ℕ) → is_none behind_it_lem ≡ every (λ a. is_there_of (row a)) l → is_none (or_behind (length front) (unless_found o) behind_it_lem) ≡ (is_there_of o && every (λ a. is_there_of (row a)) l)
    go none h = refl
    go (some i) h = h

-- what is said, told with other names, when its kind is told in another way
named-along : {N M : Type 0} (f : N → M) (j : Kind) (v : Says N j) (i : Kind) (e : j ≡ i) → subst (Says M) e (says_named f j v) ≡ says_named f i (subst (Says N) e v)
named-along {N} {M} f j v i e = path_j (λ i e. subst (Says M) e (says_named f j v) ≡ says_named f i (subst (Says N) e v))
    (subst_refl (Says M) {x = j} (says_named f j v) ∙ ap (says_named f j) (sym (subst_refl (Says N) {x = j} v))) e

-- a test as a number, as `line-has` wants it: 30 where nothing is said
abbrev coded : Bool → ℕ
coded true = 30
coded false = 0

decoded : (a b : Bool) → coded a ≡ coded b → a ≡ b
decoded a b e = sym (back a) ∙ ap (λ (i : ℕ). eqb i 30) e ∙ back b
  where
    back : (a : Bool) → eqb (coded a) 30 ≡ a
    back true = refl
    back false = refl

-- what is gathered is no fault
no-fault : {R : Type 0} {i n : ℕ} {d : Bool} → ◌≡◌ {A = Found Bool} (fault i n) (gathered d) → R
no-fault e = absurd (let z : ◌≡◌ {A = ℕ} 0 1 = cc in omega arith)

module _ (k : Look) (m : ℕ) where
  abbrev there : PointId → Bool
  there e = is_there_of (resolve m k e)

  -- ## What a statement says: it is no exit, or its entry is there
  abbrev entry-there : Option ExitLine → Bool
  entry-there none = true
  entry-there (some v) = there v.entry

  abbrev right : {N : Type 0} → Statement N → Bool
  right {N} x = entry-there (as_kind (lines N) exit x)

  other-right : {N : Type 0} (x : Statement N) → eqb (kind_row x.kind) 16 ≡ false → right x ≡ true
  other-right {N} x h = go (Kind-discrete x.kind exit)
    where
      go : (d : Dec (x.kind ≡ exit)) → entry-there (as_dec (lines N) exit x.kind d x.val) ≡ true
      go (yes e) = clash (sym (ap (λ (j : Kind). eqb (kind_row j) 16) e) ∙ h)
      go (no n) = refl

  -- whatever names are told as
  renamed-right : {N M : Type 0} (f : N → M) (x : Statement N) → right (statement_named f x) ≡ right x
  renamed-right {N} {M} f x = go (Kind-discrete x.kind exit)
    where
      go : (d : Dec (x.kind ≡ exit)) → entry-there (as_dec (lines M) exit x.kind d (says_named f x.kind x.val)) ≡ entry-there (as_dec (lines N) exit x.kind d x.val)
      go (yes e) = ap (λ (v : ExitLine). there v.entry) (named-along f x.kind x.val exit e)
      go (no n) = refl

  written-right : (x : Statement Stretch) → right (meant (written x)) ≡ right x
  written-right x = ap right (means x.kind x.val)

  -- all of them, by their entries
  every-right : {N : Type 0} (u : List (Statement N)) → every right u ≡ every there (map (λ v. v.entry) (of_kind exit u))
  every-right [] = refl
  every-right {N} (x ∷ u) = go (as_kind (lines N) exit x) refl (every-right u)
    where
      go : (o : Option ExitLine) → as_kind (lines N) exit x ≡ o → every right u ≡ every there (map (λ v. v.entry) (of_kind exit u)) → (right x && every right u) ≡ every there (map (λ v. v.entry) (of_kind exit (x ∷ u)))
      go none q h = rw (all_none (lines N) exit x u q, q) h
      go (some v) q h = rw (all-some (lines N) exit x u v q, q) (ap (◌&&◌ (there v.entry)) h)

  -- ## What a line says
  -- what stands before a comment: as the line is tested
  abbrev body-right : Bytes → Bool
  body-right s = pick (eqb (rndf_kind (first_of s)) 16) (there (the_the_point_of (third_id_of s))) true

  by-body : (l : Bytes) → is_exit_right_of k m l ≡ body-right (take (fields_end_of l) l)
  unfolding is_exit_right_of rndf_line_kind_of entry_on_of
  by-body l = refl

  -- an exit's third field is its entry
  exit-made : (s : Bytes) (base : ℕ) (f : Fields) (t : Told.Statement) → made_from (made_of s base f 16) ≡ some t → there (the_the_point_of (id_from_of (triple_of (part s f.c)))) ≡ right (meant t)
  unfolding made_of
  exit-made s base f t e = go (triple_of (part s f.b)) (triple_of (part s f.c)) e
    where
      go : (a b : Rust.Option Id) → made_from (exit_made_of a b) ≡ some t → there (the_the_point_of (id_from_of b)) ≡ right (meant t)
      go (Some i) (Some j) e =
          let q : st.Exit i j ≡ t = cc in
          sym (ap entry-there (as_same (lines Stretch) exit (record { waypoint = the_the_point_of i; entry = the_the_point_of j }))) ∙ ap (λ (u : Told.Statement). right (meant u)) q
      go (Some i) None e = nothing e
      go None b e = nothing e

  blank-right : (s : Bytes) → (fields_in_of s).count ≡ 0 → coded (body-right s) ≡ 30
  unfolding rndf_kind begins index_of rndf_keywords same_bytes_of ascii
  blank-right s e = rw (no-first s e) refl

  made-right : (s : Bytes) (base : ℕ) (t : Told.Statement) → ltb (rndf_kind (part s (fields_in_of s).a)) 30 ≡ true → made_from (made_of s base (fields_in_of s) (rndf_kind (part s (fields_in_of s).a))) ≡ some t → body-right s ≡ right (meant t)
  unfolding third_id_of
  made-right s base t l e = rw (first-is s) (go (eqb i 16) refl)
    where
      i : ℕ
      i = rndf_kind (part s (fields_in_of s).a)

      go : (b : Bool) → eqb i 16 ≡ b → pick b (there (the_the_point_of (third_id_of s))) true ≡ right (meant t)
      go true q = exit-made s base (fields_in_of s) t (ap (λ (j : ℕ). made_from (made_of s base (fields_in_of s) j)) (sym (eqb-true i 16 q)) ∙ e)
      go false q = sym (other-right (meant t) (ap (λ (j : ℕ). eqb j 16) (sym (made-of-kind s base (fields_in_of s) i (ltb-true i 30 l) t e)) ∙ q))

  abbrev Right : Bytes → Got Told.Statement Place → Type 0
  Right l = HasKind rndf_judging (λ t. coded (right (meant t))) (coded (is_exit_right_of k m l))

  line-right : (l : Bytes) (base : ℕ) (p : Place) → Right l (line rndf_judging l base p)
  line-right l base p = rw (by-body l) (line-has rndf_judging (λ t. coded (right (meant t))) (λ s. coded (body-right s)) blank-right (λ s base p t l c e. ap coded (made-right s base t l e)) l base p)

  -- ## All lines
  abbrev put : Where → Told.Statement → Bool → Bool
  put w t c = c && right (meant t)

  lines-right : (ls : List Bytes) (p : Place) (c : Bool) (start i : ℕ) (d : Bool) → walked rndf_judging put over_of p c start i ls ≡ gathered d → (c && all_right_of k m ls) ≡ d
  unfolding walked all_right_of
  lines-right [] p c start i d e = and-true c ∙ end (over_of p) e
    where
      end : (b : Bool) → pick b (gathered c) (fault i 10) ≡ gathered d → c ≡ d
      end true e = cc
      end false e = no-fault e
  lines-right (l ∷ ls) p c start i d e = go (line rndf_judging l start p) (line-right l start p) e (λ q x. lines-right ls q x (start + suc (length l)) (suc i) d)
    where
      on : Place → Bool → Found Bool
      on q x = walked rndf_judging put over_of q x (start + suc (length l)) (suc i) ls

      go : (g : Got Told.Statement Place) → Right l g → onward rndf_judging put over_of (place start i l) p c g on ≡ gathered d
          → ((q : Place) (x : Bool) → on q x ≡ gathered d → (x && all_right_of k m ls) ≡ d) → (c && pick (is_exit_right_of k m l) (all_right_of k m ls) false) ≡ d
      go (bad n) h e f = no-fault e
      go blank h e f = rw (decoded (is_exit_right_of k m l) true h) (f p c e)
      go (said t q) h e f =
          let a = all_right_of k m ls in
          ap (◌&&◌ c) (picked (is_exit_right_of k m l) a) ∙ ap (λ (b : Bool). c && (b && a)) (decoded (is_exit_right_of k m l) (right (meant t)) h) ∙ sym (and_assoc c (right (meant t)) a) ∙ f q (c && right (meant t)) e

  statements-right : (ws : List Where) (ts : List (Statement Field)) → length ws ≡ length ts → (c : Bool) → over (λ w t. put w (told_as t)) ws ts c ≡ (c && every right ts)
  unfolding over
  statements-right [] [] h c = sym (and-true c)
  statements-right [] (t ∷ ts) h c = absurd (omega arith)
  statements-right (w ∷ ws) [] h c = absurd (omega arith)
  statements-right (w ∷ ws) (t ∷ ts) h c = statements-right ws ts (omega arith) (c && right (meant (told_as t)))
      ∙ and_assoc c (right (meant (told_as t))) (every right ts)
      ∙ ap (λ (b : Bool). c && (b && every right ts)) (written-right (statement_named the_the_stretch_of t) ∙ renamed-right the_the_stretch_of t)

  -- every line of a text, by the entries of its exits
  text-right : (text : Bytes) (ts : List (Statement Field)) → read-rndf text ≡ read ts → all_right_of k m (lines_of text) ≡ every there (map (λ v. v.entry) (of_kind exit ts))
  text-right text ts e =
      lines-right (lines_of text) first_place true 0 1 _ (walk-read put (λ w t c. ap (◌&&◌ c) (sym (written-right (meant t)))) true text ts e)
      ∙ statements-right (places_in text) ts (rndf_as-many text ts e) true
      ∙ every-right ts

-- ## A text that spells a network
module _ (n : Network Field) (text : Bytes) (s : SpellsRndf n text) where
  abbrev t : Tables Field PointId
  t = tables_unresolved n

  is_read : read-rndf text ≡ read s.said
  is_read = spelled-read (rndf Field) rndf_lexis the_rndf_line_of SpellsNetwork name_due rndf-file n text s

  entries-said : map (λ a. a.entry) t.exits ≡ map (λ v. v.entry) (of_kind exit s.said)
  unfolding fill
  entries-said = ap (λ (t : Tables Field PointId). map (λ a. a.entry) t.exits) (sym (network_fills n.name n s.said s.net)) ∙ (by_lines s.said (start n.name)).entries

  as-many-segments : length t.segments ≡ length n.segments
  unfolding tables_with
  as-many-segments = one_each (λ a. length a.lanes) the_segment_row_of 0 n.segments

  -- every exit's line is right exactly if no row is at fault
  exits_right : all_right_of (look t) (length n.segments) (lines_of text) ≡ is_none (undeclared_in n)
  exits_right =
      let m = length n.segments in
      let entries = map (λ a. a.entry) t.exits in
      text-right (look t) m text s.said is_read
      ∙ ap (λ (l : List PointId). every (λ e. is_there_of (resolve m (look t) e)) l) (sym entries-said)
      ∙ sym (none-at-fault (resolve m (look t)) [] entries)
      ∙ ap (λ (m : ℕ). is_none (first_fault (λ front e. unless_found (resolve m (look t) e)) [] entries)) (sym as-many-segments)

  pub right-declared : all_right_of (look (tables_unresolved n)) (length n.segments) (lines_of text) ≡ true → undeclared_in n ≡ none
  right-declared e = was-none (undeclared_in n) (sym exits_right ∙ e)

  pub declared-right : undeclared_in n ≡ none → all_right_of (look (tables_unresolved n)) (length n.segments) (lines_of text) ≡ true
  declared-right e = exits_right ∙ ap is_none e
