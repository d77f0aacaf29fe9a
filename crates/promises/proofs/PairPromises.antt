-- PROMISES, in document 01's words, in each edition (L10), of whatever meets the contract of `read_pair`: the contract is the only thing that is known of the reader. Assumes nothing.
use Rattle.std.specs.Prelude.{Ok, Err}
use Rattle.replies.specs.Types.{PairReply}
use mathlib.Core.Path.{◌≡◌, refl, sym, ap, subst, ◌∙◌}
use mathlib.Core.List.{List}
use mathlib.Core.Logic.{◌⊎◌, inl, inr}
use Prim.Native.Nat.{ℕ, ◌≤◌, ◌<◌}
use lib.ListN.{length}
use Rattle.terms.specs.Ascii.{Bytes}
use Rattle.line.specs.Content.{Field}
use Rattle.refusal.specs.Numbers.{OfForm, OfReference}
use Rattle.law.specs.Network.{Network, Mission, Line, SpellsNetwork, SpellsMission, SpellsText}
use Rattle.edition.specs.declared.Edition.{Edition}
use Rattle.edition.specs.Editions.{inner, rules_of}
use Rattle.law.specs.Tables.{Lent, MissionLent, HasRoom, MissionHasRoom, filled, mission_filled, zeros, mission_zeros}
use Rattle.law.specs.Faults.{Sound, RndfFault, MdfFault, MissionFits}
use Rattle.rows.specs.declared.FileRow.{FileRow}
use Rattle.rows.specs.declared.MissionFileRow.{MissionFileRow}
use Rattle.counts.specs.declared.Counts.{Counts}
use Rattle.counts.specs.declared.MissionCounts.{MissionCounts}
use Rattle.refusal.specs.declared.Refusal.{Refusal}
use Rattle.replies.specs.Replies.{longest, unended, refusal, rows_used_of, network_file, mission_file_of, ReadsPair, accepted, rndf_refused_of, mdf_refused_of}
use Rattle.replies.specs.Short.{AcceptsRndf, AcceptsMdf}
use Rattle.replies.proofs.Settled.{pair-settled}
use Rattle.promises.specs.Accepted.{IsPairAccepted, PairAcceptable, mission_rows_used, Meant, NamesAsked, MissionNamesAsked}
use Rattle.promises.specs.Declared.{declared, mission_declared}
use Rattle.promises.specs.Refusals.{OneOfFive, RefusedLine, RefusedEnd, NoRoom, WrongReference, OfFile, PairRefuses}
use Rattle.promises.proofs.Numbers.{number_by, size-by, line-by, end_by, room_by, reference-by, column-by}
use Rattle.promises.proofs.Forms.{one-spelled, one-mission, the_rndf_form_of, mdf_form, rndf-refused-line, mdf-refused-line, rndf-refused-end, mdf-refused-end, rndf-end-unended, mdf-end-unended, rndf-reference, mdf-reference}
use Rattle.promises.proofs.Counted.{network-counted, mission_counted}
use Rattle.promises.proofs.Names as Names

-- ## Acceptance and refusal are not the same
abbrev refusal_in : Refusal → PairReply → Refusal
refusal_in y (Ok (c, file, d, own)) = y
refusal_in y (Err x) = x

abbrev counts_in : Counts → PairReply → Counts
counts_in y (Ok (c, file, d, own)) = c
counts_in y (Err x) = y

abbrev file_in : FileRow → PairReply → FileRow
file_in y (Ok (c, file, d, own)) = file
file_in y (Err x) = y

abbrev mission-counts_in : MissionCounts → PairReply → MissionCounts
mission-counts_in y (Ok (c, file, d, own)) = d
mission-counts_in y (Err x) = y

abbrev mission-file_in : MissionFileRow → PairReply → MissionFileRow
mission-file_in y (Ok (c, file, d, own)) = own
mission-file_in y (Err x) = y

pub pair-not-both : {c : Counts} {file : FileRow} {d : MissionCounts} {own : MissionFileRow} {x : Refusal} → ◌≡◌ {A = PairReply} (Ok (c, file, d, own)) (Err x) → ⊥
pair-not-both e = subst IsPairAccepted e tt

module _ (edition : Edition) (rndf mdf : Bytes) (t : Lent) (u : MissionLent) where
  -- ## Acceptance
  -- only pairs that spell a network and a mission with every reference right are accepted, and only where there is room ..
  pub pair-accepted-spelled : (c : Counts) (file : FileRow) (d : MissionCounts) (own : MissionFileRow) (l : Lent) (k : MissionLent) → ReadsPair (rules_of edition) rndf mdf t u (Ok (c, file, d, own)) l k → PairAcceptable (rules_of edition) rndf mdf t u
  pair-accepted-spelled c file d own l k (accepted n m a b e p q) = record { net = n; mission = m; network_accepted = a; mission_accepted = b }
  pair-accepted-spelled c file d own l k (rndf_refused_of line number column b e p q) = absurd (pair-not-both e)
  pair-accepted-spelled c file d own l k (mdf_refused_of n line number column a b e p q) = absurd (pair-not-both e)

  -- .. and all these are: demand 3. The reply and the tables are then the network's and the mission's: demand 2
  pub spelled-pair-accepted : (r : PairReply) (l : Lent) (k : MissionLent) → ReadsPair (rules_of edition) rndf mdf t u r l k → (n : Network Field) (m : Mission Field) → AcceptsRndf (rules_of edition) rndf t n → AcceptsMdf (rules_of edition) n mdf u m
      → (r ≡ Ok (rows_used_of n, network_file n, mission_rows_used m, mission_file_of m)) × (l ≡ filled n t) × (k ≡ mission_filled m u)
  spelled-pair-accepted r l k x n m a b = pair-settled (inner edition) rndf mdf t u r (Ok (rows_used_of n, network_file n, mission_rows_used m, mission_file_of m)) l (filled n t) k (mission_filled m u) x (accepted n m a b refl refl refl)

  -- accepted if and only if so. There is only one such network, and only one such mission: Forms.one-spelled, one-mission edition
  pub pair-accepted-exactly : (r : PairReply) (l : Lent) (k : MissionLent) → ReadsPair (rules_of edition) rndf mdf t u r l k → (IsPairAccepted r → PairAcceptable (rules_of edition) rndf mdf t u) × (PairAcceptable (rules_of edition) rndf mdf t u → IsPairAccepted r)
  pair-accepted-exactly r l k x = (λ e. go r e x, λ a. subst IsPairAccepted (sym (spelled-pair-accepted r l k x a.net a.mission a.network_accepted a.mission_accepted).0) tt)
    where
      go : (r : PairReply) → IsPairAccepted r → ReadsPair (rules_of edition) rndf mdf t u r l k → PairAcceptable (rules_of edition) rndf mdf t u
      go (Ok (c, file, d, own)) e x = pair-accepted-spelled c file d own l k x
      go (Err y) e x = absurd e

  -- ## Meaning
  -- 01: "Acceptance replies with the rows used of each table; rows beyond are zero."
  pub pair-tables-are : (c : Counts) (file : FileRow) (d : MissionCounts) (own : MissionFileRow) (l : Lent) (k : MissionLent) → ReadsPair (rules_of edition) rndf mdf t u (Ok (c, file, d, own)) l k → (n : Network Field) (m : Mission Field) → SpellsText (rules_of edition) SpellsNetwork n rndf → SpellsText (rules_of edition) SpellsMission m mdf
      → Meant t u n m c file d own l k
  pair-tables-are c file d own l k x n m h g =
      let a = pair-accepted-spelled c file d own l k x in
      let s = spelled-pair-accepted (Ok (c, file, d, own)) l k x a.net a.mission a.network_accepted a.mission_accepted in
      let p = one-spelled edition rndf a.net n a.network_accepted.spelled h in
      let q = one-mission edition mdf a.mission m a.mission_accepted.spelled g in
      record {
        counted = ap (counts_in c) s.0 ∙ ap (λ (y : Network Field). rows_used_of y) p;
        row = ap (file_in file) s.0 ∙ ap (λ (y : Network Field). network_file y) p;
        mission_counted = ap (mission-counts_in d) s.0 ∙ ap (λ (y : Mission Field). mission_rows_used y) q;
        mission_row = ap (mission-file_in own) s.0 ∙ ap (λ (y : Mission Field). mission_file_of y) q;
        holds = s.1 ∙ ap (λ (y : Network Field). filled y t) p;
        mission_holds = s.2 ∙ ap (λ (y : Mission Field). mission_filled y u) q;
      }

  -- 01: "The rows of each table are as many as its count lines declare together ..; checkpoints, stops and exits have a row for each of their lines."
  pub pair-counts-declared : (c : Counts) (file : FileRow) (d : MissionCounts) (own : MissionFileRow) (l : Lent) (k : MissionLent) → ReadsPair (rules_of edition) rndf mdf t u (Ok (c, file, d, own)) l k
      → (n : Network Field) (m : Mission Field) (h : SpellsText (rules_of edition) SpellsNetwork n rndf) (g : SpellsText (rules_of edition) SpellsMission m mdf) → (c ≡ declared h.said) × (d ≡ mission_declared g.said)
  pair-counts-declared c file d own l k x n m h g =
      let s = pair-tables-are c file d own l k x n m h g in
      (s.counted ∙ network-counted edition n h.said h.net, s.mission_counted ∙ mission_counted edition m g.said g.net)

  -- 01: "Asking for a name returns that stretch of the caller's own text": its bytes
  pub pair-names-asked : (c : Counts) (file : FileRow) (d : MissionCounts) (own : MissionFileRow) (l : Lent) (k : MissionLent) → ReadsPair (rules_of edition) rndf mdf t u (Ok (c, file, d, own)) l k → (n : Network Field) (m : Mission Field) → SpellsText (rules_of edition) SpellsNetwork n rndf → SpellsText (rules_of edition) SpellsMission m mdf
      → NamesAsked rndf file n × MissionNamesAsked mdf own m
  pair-names-asked c file d own l k x n m h g =
      let s = pair-tables-are c file d own l k x n m h g in (
        subst (λ (row : FileRow). NamesAsked rndf row n) (sym s.row) (Names.names-asked rndf edition n h),
        subst (λ (row : MissionFileRow). MissionNamesAsked mdf row m) (sym s.mission_row) (Names.mission-names-asked mdf edition m g),
      )

  -- ## Refusal
  -- 01: "All lent tables .. are then zero over their whole length"; "file (1 RNDF, 2 MDF)"
  pub pair-refusal_zero : (x : Refusal) (l : Lent) (k : MissionLent) → ReadsPair (rules_of edition) rndf mdf t u (Err x) l k → ((x.file ≡ 1) ⊎ (x.file ≡ 2)) × (l ≡ zeros t) × (k ≡ mission_zeros u)
  pair-refusal_zero x l k (accepted n m a b e p q) = absurd (pair-not-both (sym e))
  pair-refusal_zero x l k (rndf_refused_of line number column b e p q) = (inl (ap (λ (y : Refusal). y.file) (ap (refusal_in x) e)), p, q)
  pair-refusal_zero x l k (mdf_refused_of n line number column a b e p q) = (inr (ap (λ (y : Refusal). y.file) (ap (refusal_in x) e)), p, q)

  -- file, line, number and column are those of the first refusal, in document 01's order: the RNDF's, else the MDF's for the network that the RNDF spells
  pub pair-refusal-right : (x : Refusal) (l : Lent) (k : MissionLent) → ReadsPair (rules_of edition) rndf mdf t u (Err x) l k → PairRefuses (rules_of edition) rndf mdf t u x
  pair-refusal-right x l k (accepted n m a b e p q) = absurd (pair-not-both (sym e))
  pair-refusal-right x l k (rndf_refused_of line number column b e p q) = subst (PairRefuses (rules_of edition) rndf mdf t u) (sym (ap (refusal_in x) e)) (inl (refl, b))
  pair-refusal-right x l k (mdf_refused_of n line number column a b e p q) = subst (PairRefuses (rules_of edition) rndf mdf t u) (sym (ap (refusal_in x) e)) (inr (refl, (n, a, b)))

  pub pair-refusal-only : (r : PairReply) (l : Lent) (k : MissionLent) → ReadsPair (rules_of edition) rndf mdf t u r l k → (x : Refusal) → PairRefuses (rules_of edition) rndf mdf t u x → (r ≡ Err x) × (l ≡ zeros t) × (k ≡ mission_zeros u)
  pair-refusal-only r l k h x (inl b) = pair-settled (inner edition) rndf mdf t u r (Err x) l (zeros t) k (mission_zeros u) h (rndf_refused_of x.line x.number x.column b.1 (ap (λ (y : ℕ). Err (refusal y x.line x.number x.column)) b.0) refl refl)
  pair-refusal-only r l k h x (inr b) = pair-settled (inner edition) rndf mdf t u r (Err x) l (zeros t) k (mission_zeros u) h (mdf_refused_of b.1.0 x.line x.number x.column b.1.1 b.1.2 (ap (λ (y : ℕ). Err (refusal y x.line x.number x.column)) b.0) refl refl)

  -- 10 is replied to every RNDF that is not too long, whose lines begin some well-formed text, and which is none; to every such MDF with an RNDF that is accepted; and to no other pair (pair-refused-end)
  pub rndf-end-refused : (r : PairReply) (l : Lent) (k : MissionLent) (line : ℕ) → ReadsPair (rules_of edition) rndf mdf t u r l k → length rndf ≤ longest → RefusedEnd (rules_of edition) SpellsNetwork rndf line → (r ≡ Err (refusal 1 line 10 0)) × (l ≡ zeros t) × (k ≡ mission_zeros u)
  rndf-end-refused r l k line h size e = pair-refusal-only r l k h (refusal 1 line 10 0) (inl (refl, unended size (rndf-end-unended edition rndf line e)))

  pub mdf-end-refused : (r : PairReply) (l : Lent) (k : MissionLent) (line : ℕ) → ReadsPair (rules_of edition) rndf mdf t u r l k → (n : Network Field) → AcceptsRndf (rules_of edition) rndf t n → length mdf ≤ longest → RefusedEnd (rules_of edition) SpellsMission mdf line
      → (r ≡ Err (refusal 2 line 10 0)) × (l ≡ zeros t) × (k ≡ mission_zeros u)
  mdf-end-refused r l k line h n a size e = pair-refusal-only r l k h (refusal 2 line 10 0) (inr (refl, (n, a, unended size (mdf-end-unended edition mdf line e))))

  -- ## What each number tells, of the file that is named
  abbrev Roomy : Network Field → Type 0
  Roomy n = HasRoom n t

  abbrev MissionRoomy : Mission Field → Type 0
  MissionRoomy m = MissionHasRoom m u

  abbrev Wrong : Network Field → Mission Field → List Line → Line → ℕ → Type 0
  Wrong n m = MdfFault n

  module _ (x : Refusal) (l : Lent) (k : MissionLent) (h : ReadsPair (rules_of edition) rndf mdf t u (Err x) l k) where
    -- no other number is replied than those that the next five tell of
    pub pair-refused-number : OneOfFive x.number
    pair-refused-number = go (pair-refusal-right x l k h)
      where
        go : PairRefuses (rules_of edition) rndf mdf t u x → OneOfFive x.number
        go (inl b) = number_by (rules_of edition) SpellsNetwork Roomy Sound RndfFault rndf (the_rndf_form_of edition rndf) rndf-reference x.line x.number x.column b.1
        go (inr b) = number_by (rules_of edition) SpellsMission MissionRoomy (MissionFits b.1.0) (Wrong b.1.0) mdf (mdf_form edition mdf) (λ m. mdf-reference b.1.0) x.line x.number x.column b.1.2

    -- 1: that text is too long; line 0
    pub pair-refused-size : x.number ≡ 1 → OfFile x ((x.line ≡ 0) × (longest < length rndf)) ((x.line ≡ 0) × (longest < length mdf))
    pair-refused-size e = go (pair-refusal-right x l k h)
      where
        go : PairRefuses (rules_of edition) rndf mdf t u x → OfFile x ((x.line ≡ 0) × (longest < length rndf)) ((x.line ≡ 0) × (longest < length mdf))
        go (inl b) = inl (b.0, size-by (rules_of edition) SpellsNetwork Roomy Sound RndfFault rndf (the_rndf_form_of edition rndf) rndf-reference x.line x.number x.column b.1 e)
        go (inr b) = inr (b.0, size-by (rules_of edition) SpellsMission MissionRoomy (MissionFits b.1.0) (Wrong b.1.0) mdf (mdf_form edition mdf) (λ m. mdf-reference b.1.0) x.line x.number x.column b.1.2 e)

    -- a number of form: the lines before the refused line begin some well-formed text, none begins with them and it, and it has that fault
    pub pair-refused-line : OfForm x.number → OfFile x (RefusedLine (rules_of edition) SpellsNetwork rndf x.line x.number x.column) (RefusedLine (rules_of edition) SpellsMission mdf x.line x.number x.column)
    pair-refused-line form = go (pair-refusal-right x l k h)
      where
        go : PairRefuses (rules_of edition) rndf mdf t u x → OfFile x (RefusedLine (rules_of edition) SpellsNetwork rndf x.line x.number x.column) (RefusedLine (rules_of edition) SpellsMission mdf x.line x.number x.column)
        go (inl b) = inl (b.0, rndf-refused-line edition rndf x.line x.number x.column (line-by (rules_of edition) SpellsNetwork Roomy Sound RndfFault rndf (the_rndf_form_of edition rndf) rndf-reference x.line x.number x.column b.1 form))
        go (inr b) = inr (b.0, mdf-refused-line edition mdf x.line x.number x.column (line-by (rules_of edition) SpellsMission MissionRoomy (MissionFits b.1.0) (Wrong b.1.0) mdf (mdf_form edition mdf) (λ m. mdf-reference b.1.0) x.line x.number x.column b.1.2 form))

    -- L7: "Where the line is 0, for 10, .. it is 0": with no other number there is a column
    pub pair-no-column : (OfForm x.number → ⊥) → (OfReference x.number → ⊥) → x.column ≡ 0
    pair-no-column p q = go (pair-refusal-right x l k h)
      where
        go : PairRefuses (rules_of edition) rndf mdf t u x → x.column ≡ 0
        go (inl b) = column-by (rules_of edition) SpellsNetwork Roomy Sound RndfFault rndf (the_rndf_form_of edition rndf) rndf-reference x.line x.number x.column b.1 p q
        go (inr b) = column-by (rules_of edition) SpellsMission MissionRoomy (MissionFits b.1.0) (Wrong b.1.0) mdf (mdf_form edition mdf) (λ m. mdf-reference b.1.0) x.line x.number x.column b.1.2 p q

    -- 10: the lines of that text begin some well-formed text, and it is none; the line behind its last
    pub pair-refused-end : x.number ≡ 10 → OfFile x (RefusedEnd (rules_of edition) SpellsNetwork rndf x.line) (RefusedEnd (rules_of edition) SpellsMission mdf x.line)
    pair-refused-end e = go (pair-refusal-right x l k h)
      where
        go : PairRefuses (rules_of edition) rndf mdf t u x → OfFile x (RefusedEnd (rules_of edition) SpellsNetwork rndf x.line) (RefusedEnd (rules_of edition) SpellsMission mdf x.line)
        go (inl b) = inl (b.0, rndf-refused-end edition rndf x.line (end_by (rules_of edition) SpellsNetwork Roomy Sound RndfFault rndf (the_rndf_form_of edition rndf) rndf-reference x.line x.number x.column b.1 e))
        go (inr b) = inr (b.0, mdf-refused-end edition mdf x.line (end_by (rules_of edition) SpellsMission MissionRoomy (MissionFits b.1.0) (Wrong b.1.0) mdf (mdf_form edition mdf) (λ m. mdf-reference b.1.0) x.line x.number x.column b.1.2 e))

    -- 11: well-formed, and no room for the rows of its network, or of its mission; line 0
    pub pair-refused-room : x.number ≡ 11 → OfFile x ((x.line ≡ 0) × NoRoom (rules_of edition) SpellsNetwork (λ n. HasRoom n t) rndf) ((x.line ≡ 0) × NoRoom (rules_of edition) SpellsMission (λ m. MissionHasRoom m u) mdf)
    pair-refused-room e = go (pair-refusal-right x l k h)
      where
        go : PairRefuses (rules_of edition) rndf mdf t u x → OfFile x ((x.line ≡ 0) × NoRoom (rules_of edition) SpellsNetwork Roomy rndf) ((x.line ≡ 0) × NoRoom (rules_of edition) SpellsMission MissionRoomy mdf)
        go (inl b) = inl (b.0, room_by (rules_of edition) SpellsNetwork Roomy Sound RndfFault rndf (the_rndf_form_of edition rndf) rndf-reference x.line x.number x.column b.1 e)
        go (inr b) = inr (b.0, room_by (rules_of edition) SpellsMission MissionRoomy (MissionFits b.1.0) (Wrong b.1.0) mdf (mdf_form edition mdf) (λ m. mdf-reference b.1.0) x.line x.number x.column b.1.2 e)

    -- a number of reference, of the RNDF, or of the MDF for the network of the RNDF, which is right: well-formed, there is room, and this is the first line with a wrong reference
    pub pair-refused-reference : OfReference x.number
        → OfFile x (WrongReference (rules_of edition) SpellsNetwork (λ n. HasRoom n t) RndfFault rndf x.line x.number x.column) ((n : Network Field) × AcceptsRndf (rules_of edition) rndf t n × WrongReference (rules_of edition) SpellsMission (λ m. MissionHasRoom m u) (λ m. MdfFault n) mdf x.line x.number x.column)
    pair-refused-reference e = go (pair-refusal-right x l k h)
      where
        go : PairRefuses (rules_of edition) rndf mdf t u x → OfFile x (WrongReference (rules_of edition) SpellsNetwork Roomy RndfFault rndf x.line x.number x.column) ((n : Network Field) × AcceptsRndf (rules_of edition) rndf t n × WrongReference (rules_of edition) SpellsMission MissionRoomy (Wrong n) mdf x.line x.number x.column)
        go (inl b) = inl (b.0, reference-by (rules_of edition) SpellsNetwork Roomy Sound RndfFault rndf (the_rndf_form_of edition rndf) rndf-reference x.line x.number x.column b.1 e)
        go (inr b) = inr (b.0, (b.1.0, b.1.1, reference-by (rules_of edition) SpellsMission MissionRoomy (MissionFits b.1.0) (Wrong b.1.0) mdf (mdf_form edition mdf) (λ m. mdf-reference b.1.0) x.line x.number x.column b.1.2 e))
