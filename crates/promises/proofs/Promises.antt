-- PROMISES, in document 01's words, in each edition (L10), of whatever meets the contract of `read_rndf`: the contract is the only thing that is known of the reader. Assumes nothing.
use Rattle.std.specs.Prelude.{Ok, Err}
use Rattle.replies.specs.Types.{RndfReply}
use mathlib.Core.Path.{◌≡◌, refl, sym, ap, subst, ◌∙◌}
use Prim.Native.Nat.{ℕ, ◌≤◌, ◌<◌}
use lib.ListN.{length}
use Rattle.terms.specs.Ascii.{Bytes}
use Rattle.line.specs.Content.{Field}
use Rattle.refusal.specs.Numbers.{OfForm, OfReference}
use Rattle.law.specs.Network.{Network, SpellsNetwork, SpellsText}
use Rattle.edition.specs.declared.Edition.{Edition}
use Rattle.edition.specs.Editions.{inner, rules_of}
use Rattle.law.specs.Tables.{Lent, HasRoom, filled, zeros}
use Rattle.law.specs.Faults.{Sound, RndfFault}
use Rattle.rows.specs.declared.FileRow.{FileRow}
use Rattle.counts.specs.declared.Counts.{Counts}
use Rattle.refusal.specs.declared.Refusal.{Refusal}
use Rattle.replies.specs.Replies.{longest, unended, refusal, rows_used_of, network_file, ReadsRndf, accepted, refused}
use Rattle.replies.specs.Short.{AcceptsRndf, RefusesRndf}
use Rattle.replies.proofs.Settled.{rndf-settled}
use Rattle.promises.specs.Accepted.{IsAccepted, Acceptable, NamesAsked}
use Rattle.promises.specs.Declared.{declared}
use Rattle.promises.specs.Refusals.{OneOfFive, RefusedLine, RefusedEnd, NoRoom, WrongReference}
use Rattle.promises.proofs.Numbers.{number_by, size-by, line-by, end_by, room_by, reference-by, column-by}
use Rattle.promises.proofs.Forms.{one-spelled, the_rndf_form_of, rndf-refused-line, rndf-refused-end, rndf-end-unended, rndf-reference}
use Rattle.promises.proofs.Counted.{network-counted}
use Rattle.promises.proofs.Names as Names

-- ## Acceptance and refusal are not the same
abbrev refusal_in : Refusal → RndfReply → Refusal
refusal_in y (Ok (c, file)) = y
refusal_in y (Err x) = x

abbrev counts_in : Counts → RndfReply → Counts
counts_in d (Ok (c, file)) = c
counts_in d (Err x) = d

abbrev file_in : FileRow → RndfReply → FileRow
file_in d (Ok (c, file)) = file
file_in d (Err x) = d

pub not-both : {c : Counts} {file : FileRow} {x : Refusal} → ◌≡◌ {A = RndfReply} (Ok (c, file)) (Err x) → ⊥
not-both e = subst IsAccepted e tt

module _ (edition : Edition) (text : Bytes) (t : Lent) where
  -- ## Acceptance
  -- only texts that spell a network with every reference right are accepted, and only where there is room for its rows ..
  pub accepted-spelled : (c : Counts) (file : FileRow) (l : Lent) → ReadsRndf (rules_of edition) text t (Ok (c, file)) l → Acceptable (rules_of edition) text t
  accepted-spelled c file l (accepted n a e k) = (n, a)
  accepted-spelled c file l (refused line number column a e k) = absurd (not-both e)

  -- .. and all these are: demand 3. The reply and the tables are then the network's: demand 2
  pub spelled-accepted : (r : RndfReply) (l : Lent) → ReadsRndf (rules_of edition) text t r l → (n : Network Field) → AcceptsRndf (rules_of edition) text t n → (r ≡ Ok (rows_used_of n, network_file n)) × (l ≡ filled n t)
  spelled-accepted r l x n a = rndf-settled (inner edition) text t r (Ok (rows_used_of n, network_file n)) l (filled n t) x (accepted n a refl refl)

  -- accepted if and only if so. There is only one such network: Forms.one-spelled
  pub accepted-exactly : (r : RndfReply) (l : Lent) → ReadsRndf (rules_of edition) text t r l → (IsAccepted r → Acceptable (rules_of edition) text t) × (Acceptable (rules_of edition) text t → IsAccepted r)
  accepted-exactly r l x = (λ e. go r e x, λ a. subst IsAccepted (sym (spelled-accepted r l x a.0 a.1).0) tt)
    where
      go : (r : RndfReply) → IsAccepted r → ReadsRndf (rules_of edition) text t r l → Acceptable (rules_of edition) text t
      go (Ok (c, file)) e x = accepted-spelled c file l x
      go (Err y) e x = absurd e

  -- ## Meaning
  -- 01: "Acceptance replies with the rows used of each table; rows beyond are zero."
  pub tables-are : (c : Counts) (file : FileRow) (l : Lent) → ReadsRndf (rules_of edition) text t (Ok (c, file)) l → (n : Network Field) → SpellsText (rules_of edition) SpellsNetwork n text → (c ≡ rows_used_of n) × (file ≡ network_file n) × (l ≡ filled n t)
  tables-are c file l x n h =
      let a = accepted-spelled c file l x in
      let s = spelled-accepted (Ok (c, file)) l x n (subst (AcceptsRndf (rules_of edition) text t) (one-spelled edition text a.0 n a.1.spelled h) a.1) in
      (ap (counts_in c) s.0, ap (file_in file) s.0, s.1)

  -- 01: "The rows of each table are as many as its count lines declare together ..; checkpoints, stops and exits have a row for each of their lines."
  pub counts-declared : (c : Counts) (file : FileRow) (l : Lent) → ReadsRndf (rules_of edition) text t (Ok (c, file)) l → (n : Network Field) (h : SpellsText (rules_of edition) SpellsNetwork n text) → c ≡ declared h.said
  counts-declared c file l x n h = (tables-are c file l x n h).0 ∙ network-counted edition n h.said h.net

  -- 01: "Asking for a name returns that stretch of the caller's own text": its bytes
  pub names-asked : (c : Counts) (file : FileRow) (l : Lent) → ReadsRndf (rules_of edition) text t (Ok (c, file)) l → (n : Network Field) → SpellsText (rules_of edition) SpellsNetwork n text → NamesAsked text file n
  names-asked c file l x n h = subst (λ (row : FileRow). NamesAsked text row n) (sym (tables-are c file l x n h).1) (Names.names-asked text edition n h)

  -- ## Refusal
  -- 01: "All lent tables .. are then zero over their whole length"; "1, 11 and 19 of a part that takes no MDF give file 1"
  pub refusal_zero : (x : Refusal) (l : Lent) → ReadsRndf (rules_of edition) text t (Err x) l → (x.file ≡ 1) × (l ≡ zeros t)
  refusal_zero x l (accepted n a e k) = absurd (not-both (sym e))
  refusal_zero x l (refused line number column a e k) = (ap (λ (y : Refusal). y.file) (ap (refusal_in x) e), k)

  -- line, number and column are those of the first refusal, in document 01's order
  pub refusal-right : (x : Refusal) (l : Lent) → ReadsRndf (rules_of edition) text t (Err x) l → RefusesRndf (rules_of edition) text t x.line x.number x.column
  refusal-right x l (accepted n a e k) = absurd (not-both (sym e))
  refusal-right x l (refused line number column a e k) = subst (λ (y : Refusal). RefusesRndf (rules_of edition) text t y.line y.number y.column) (sym (ap (refusal_in x) e)) a

  pub refusal-only : (r : RndfReply) (l : Lent) (line number column : ℕ) → ReadsRndf (rules_of edition) text t r l → RefusesRndf (rules_of edition) text t line number column → (r ≡ Err (refusal 1 line number column)) × (l ≡ zeros t)
  refusal-only r l line number column x a = rndf-settled (inner edition) text t r (Err (refusal 1 line number column)) l (zeros t) x (refused line number column a refl refl)

  -- 10 is replied to every text that is not too long, whose lines begin some well-formed text, and which is none; and to no other (refused_end)
  pub end_refused : (r : RndfReply) (l : Lent) (line : ℕ) → ReadsRndf (rules_of edition) text t r l → length text ≤ longest → RefusedEnd (rules_of edition) SpellsNetwork text line → (r ≡ Err (refusal 1 line 10 0)) × (l ≡ zeros t)
  end_refused r l line x size e = refusal-only r l line 10 0 x (unended size (rndf-end-unended edition text line e))

  -- ## What each number tells
  abbrev Roomy : Network Field → Type 0
  Roomy n = HasRoom n t

  module _ (x : Refusal) (l : Lent) (h : ReadsRndf (rules_of edition) text t (Err x) l) where
    -- no other number is replied than those that the next five tell of
    pub refused-number : OneOfFive x.number
    refused-number = number_by (rules_of edition) SpellsNetwork Roomy Sound RndfFault text (the_rndf_form_of edition text) rndf-reference x.line x.number x.column (refusal-right x l h)

    -- 1: the text is too long; line 0
    pub refused-size : x.number ≡ 1 → (x.line ≡ 0) × (longest < length text)
    refused-size = size-by (rules_of edition) SpellsNetwork Roomy Sound RndfFault text (the_rndf_form_of edition text) rndf-reference x.line x.number x.column (refusal-right x l h)

    -- a number of form: the lines before the refused line begin some well-formed text, none begins with them and it, and it has that fault
    pub refused-line : OfForm x.number → RefusedLine (rules_of edition) SpellsNetwork text x.line x.number x.column
    refused-line form = rndf-refused-line edition text x.line x.number x.column (line-by (rules_of edition) SpellsNetwork Roomy Sound RndfFault text (the_rndf_form_of edition text) rndf-reference x.line x.number x.column (refusal-right x l h) form)

    -- L7: "Where the line is 0, for 10, .. it is 0": with no other number there is a column
    pub no-column : (OfForm x.number → ⊥) → (OfReference x.number → ⊥) → x.column ≡ 0
    no-column = column-by (rules_of edition) SpellsNetwork Roomy Sound RndfFault text (the_rndf_form_of edition text) rndf-reference x.line x.number x.column (refusal-right x l h)

    -- 10: the lines of the text begin some well-formed text, and it is none; the line behind its last
    pub refused_end : x.number ≡ 10 → RefusedEnd (rules_of edition) SpellsNetwork text x.line
    refused_end e = rndf-refused-end edition text x.line (end_by (rules_of edition) SpellsNetwork Roomy Sound RndfFault text (the_rndf_form_of edition text) rndf-reference x.line x.number x.column (refusal-right x l h) e)

    -- 11: well-formed, and no room for the rows of its network; line 0
    pub refused-room : x.number ≡ 11 → (x.line ≡ 0) × NoRoom (rules_of edition) SpellsNetwork (λ n. HasRoom n t) text
    refused-room = room_by (rules_of edition) SpellsNetwork Roomy Sound RndfFault text (the_rndf_form_of edition text) rndf-reference x.line x.number x.column (refusal-right x l h)

    -- a number of reference: well-formed, there is room, and this is the first line with a wrong reference
    pub refused-reference : OfReference x.number → WrongReference (rules_of edition) SpellsNetwork (λ n. HasRoom n t) RndfFault text x.line x.number x.column
    refused-reference = reference-by (rules_of edition) SpellsNetwork Roomy Sound RndfFault text (the_rndf_form_of edition text) rndf-reference x.line x.number x.column (refusal-right x l h)
