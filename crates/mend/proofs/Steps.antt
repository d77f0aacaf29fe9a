-- What the inner functions learn of their calls, said as their contracts say it. Assumes nothing.
use Rattle.std.specs.Prelude.{Some, None, Ok, Err, Option, Result}
use Rattle.mend_law.specs.Types.{MendReply}
use mathlib.Core.Path.{◌≡◌, refl, sym, ap, ap₂, subst, ◌∙◌}
use mathlib.Core.List.{List, ◌++◌}
use mathlib.Core.Bool.{Bool, true, false}
use mathlib.Core.Logic.{◌⊎◌, inl, inr}
use Prim.Native.Nat.{ℕ, ◌-◌, ◌/◌, ◌≤◌, ◌<◌}
use mir.Syntax.{w32}
use mir.Val.{Fits}
use native.Mathlib.Omega.{arith}
use lib.ListN.{length, replicate}
use lib.Dec.{leb}
use borrow.Author.Tests.{leb-true, leb-false}
use Rattle.terms.specs.Words.{Bytes, pick}
use Rattle.terms.proofs.Tests.{clash}
use Rattle.line.specs.Lines.{lines_of}
use Rattle.rows.specs.Table.{put_rows}
use Rattle.output.specs.Ended.{Output}
use Rattle.output.specs.Output.{zero_bytes}
use Rattle.output.specs.Output as Out
use Rattle.output.specs.Pen.{pen, Wrote, Finishes}
use Rattle.output.proofs.Writing.{same}
use Rattle.output.proofs.Whole.{written, answered-written, answered_too-long}
use Rattle.edition.specs.declared.Edition as Asked
use Rattle.edition.specs.Editions.{inner, rules_of}
use Rattle.place.specs.declared.Place.{Place}
use Rattle.place.specs.Step.{over_of}
use Rattle.progress.specs.declared.Progress.{Progress}
use Rattle.refusal.specs.declared.Fault.{Fault}
use Rattle.network.specs.Storing.{Memory}
use Rattle.network.specs.Reaching.{WalkEnd, stopped, reached, stood}
use Rattle.replies.specs.Replies.{refusal}
use Rattle.mend_law.specs.Mend.{mended_text, listed_rows}
use Rattle.law.specs.Tables.{gather, holding}
use Rattle.refusal.specs.Size.{most}
use Rattle.mend_law.specs.Mends.{AcceptedWithRoom, Mends, no_output, refused, done}
use Rattle.mend_lines.specs.Forward.{none_before_of}
use Rattle.mend_pieces.specs.Pieces.{mended_bytes, changed_rows}
use Rattle.mend_told.proofs.Told.{bytes-told, rows_told}
use Rattle.mend_passes.specs.Passes.{list_row}
use Rattle.mend.specs.Mending.{EntriesTold, FormTold, GoodTold, PutOut}
use Rattle.mend.proofs.Leaving.{listed-left}

-- ## A table that a walk leaves
end-kind : WalkEnd → ℕ
end-kind (stopped i n) = 0
end-kind (reached p m i) = 1

abbrev memory_in : Memory → WalkEnd → Memory
memory_in d (stopped i n) = d
memory_in d (reached p m i) = m

-- f: the table's place in the memory; t: what it then holds
pub table-so : (w : Result (Place × Progress × ℕ) Fault) (tables : Progress → Memory) (f : Memory → List ℕ) (t : List ℕ) → ((g : Progress) → f (tables g) ≡ t) → (p : Place) (m : Memory) (i : ℕ) → stood w tables ≡ reached p m i → t ≡ f m
unfolding end-kind
table-so (Err x) tables f t h p m i e = absurd (let z : ◌≡◌ {A = ℕ} 0 1 = ap end-kind e in omega arith)
table-so (Ok (q, g, j)) tables f t h p m i e = sym (h g) ∙ ap (λ (w : WalkEnd). f (memory_in m w)) e

-- ## The form
pub form-fault : (end : WalkEnd) (x : Fault) (tables : Progress → Memory) (left : List ℕ) → stood (Err x) tables ≡ end → FormTold end None left
form-fault end x tables left e = subst (λ (w : WalkEnd). FormTold w None left) e refl

pub form-over : (end : WalkEnd) (p : Place) (g : Progress) (i : ℕ) (tables : Progress → Memory) (left : List ℕ) → stood (Ok (p, g, i)) tables ≡ end → over_of p ≡ true → (tables g).so_far ≡ g → (tables g).checkpoints ≡ left → FormTold end (Some g) left
form-over end p g i tables left e o s k = subst (λ (w : WalkEnd). FormTold w (Some g) left) e (subst (λ (b : Bool). pick b ((Some g ≡ Some (tables g).so_far) × (left ≡ (tables g).checkpoints)) (◌≡◌ {A = Option Progress} (Some g) None)) (sym o) (ap Some (sym s), sym k))

pub form-short : (end : WalkEnd) (p : Place) (g : Progress) (i : ℕ) (tables : Progress → Memory) (left : List ℕ) → stood (Ok (p, g, i)) tables ≡ end → over_of p ≡ false → FormTold end None left
form-short end p g i tables left e o = subst (λ (w : WalkEnd). FormTold w None left) e (subst (λ (b : Bool). pick b ((None ≡ Some (tables g).so_far) × (left ≡ (tables g).checkpoints)) (◌≡◌ {A = Option Progress} None None)) (sym o) refl)

-- ## What comes out
module _ (text : Bytes) (list : List ℕ) (lent : ℕ) where
  -- cleared, put and finished
  pub output-so : {cleared full left : Bytes} {at : ℕ} {answer : Option ℕ} → cleared ≡ zero_bytes lent → Wrote (pen cleared 0) (mended_bytes none_before_of text (lines_of text)) (pen full at) → Finishes full at left answer → Output lent (mended_text text) left answer
  output-so z w f = written z (same (bytes-told text) w) f

  pub put-good : (n rows : ℕ) (left : List ℕ) (out : Bytes) → Output lent (mended_text text) out (Some n) → length (lines_of text) ≤ length list / 2 → rows ≡ length (changed_rows 1 none_before_of (lines_of text))
      → left ≡ put_rows 2 list_row (replicate (length list) 0) 0 (changed_rows 1 none_before_of (lines_of text)) → PutOut text list lent (Ok (rows, n)) left out
  put-good n rows left out o room r l =
      let w = answered-written o in
      let a : rows ≡ length (listed_rows text) = r ∙ ap (λ (x : List (List ℕ)). length x) (rows_told text) in
      record { fits = λ f. (ap₂ (λ (x y : ℕ). Ok (x, y)) a w.1, l ∙ listed-left text list room, w.2); long = λ never. absurd (never w.0) }

  -- 19
  pub put-long : (reply : MendReply) (left : List ℕ) (short out : Bytes) → Output lent (mended_text text) short None → reply ≡ Err (refusal 1 0 19 0) → left ≡ replicate (length list) 0 → out ≡ zero_bytes lent → PutOut text list lent reply left out
  put-long reply left short out o r l z = record { fits = λ f. absurd ((answered_too-long o).0 f); long = λ never. (r, l, z) }

-- ## 26
module _ (edition : Asked.Edition) (text : Bytes) where
  pub past_told : (AcceptedWithRoom (rules_of edition) (mended_text text) → ⊥) → GoodTold edition text false
  past_told never = record { good = λ e. clash (sym e); past = λ e. never }

  -- by what the entries tell
  pub good-told : (words : ℕ) (g : Progress) (r : Bool) → EntriesTold (inner edition) text words g r → (EntriesTold (inner edition) text words g true → AcceptedWithRoom (rules_of edition) (mended_text text))
      → (EntriesTold (inner edition) text words g false → AcceptedWithRoom (rules_of edition) (mended_text text) → ⊥) → GoodTold edition text r
  good-told words g r t right wrong = record { good = λ e. right (subst (EntriesTold (inner edition) text words g) e t); past = λ e. wrong (subst (EntriesTold (inner edition) text words g) e t) }

pub fits_word : {lent n : ℕ} {x out : Bytes} → Output lent x out (Some n) → Fits w32 n
fits_word o = let w = answered-written o in let s = w.0.size in let e = w.1 in record { fits = omega arith }

-- ## The tool
fits-either : (lent : ℕ) (x : Bytes) → Out.Fits lent x ⊎ (Out.Fits lent x → ⊥)
fits-either lent x = go (leb (length x) 16777215) refl (leb (length x) lent) refl
  where
    go : (a : Bool) → leb (length x) 16777215 ≡ a → (b : Bool) → leb (length x) lent ≡ b → Out.Fits lent x ⊎ (Out.Fits lent x → ⊥)
    go true e true q = inl (record { size = leb-true (length x) 16777215 e; room = leb-true (length x) lent q })
    go true e false q = inr (λ f. let h = leb-false (length x) lent q in let k = f.room in omega arith)
    go false e b q = inr (λ f. let h = leb-false (length x) 16777215 e in let k = f.size in omega arith)

-- what a list holds hangs on its length alone
holding-long : (rows : List (List ℕ)) (t u : List ℕ) → length t ≡ length u → holding 0 rows t ≡ holding 0 rows u
holding-long rows t u e = ap (λ (k : ℕ). gather (λ row. row) rows ++ replicate (k - length (gather (λ row. row) rows)) 0) e

module _ (edition : Asked.Edition) (text : Bytes) (list : List ℕ) (lent : ℕ) where
  pub room-so : (rows lines : ℕ) → rows ≡ length list / 2 → lines ≡ length (lines_of text) → lines ≤ rows → length (lines_of text) ≤ length list / 2
  room-so rows lines r l h = subst (λ (k : ℕ). k ≤ length list / 2) l (subst (λ (k : ℕ). lines ≤ k) r h)

  pub no-room-so : (rows lines : ℕ) → rows ≡ length list / 2 → lines ≡ length (lines_of text) → rows < lines → length (lines_of text) ≤ length list / 2 → ⊥
  no-room-so rows lines r l h k = let x = subst (λ (a : ℕ). a < lines) r h in let y = subst (λ (a : ℕ). length list / 2 < a) l x in omega arith

  -- accepted: 19, or mended
  pub mended-so : (work left : List ℕ) (reply : MendReply) (out : Bytes) → length text ≤ most → length (lines_of text) ≤ length list / 2 → AcceptedWithRoom (rules_of edition) (mended_text text) → length work ≡ length list → PutOut text work lent reply left out
      → Mends (rules_of edition) text list lent reply left out
  mended-so work left reply out size room good same p = go (fits-either lent (mended_text text))
    where
      go : Out.Fits lent (mended_text text) ⊎ (Out.Fits lent (mended_text text) → ⊥) → Mends (rules_of edition) text list lent reply left out
      go (inl f) = let w = p.fits f in done size room good f w.0 (w.1 ∙ holding-long (listed_rows text) work list same) w.2
      go (inr never) = let w = p.long never in refused 1 19 (no_output size room good never) w.0 (w.1 ∙ ap (λ (k : ℕ). replicate k 0) same) w.2
