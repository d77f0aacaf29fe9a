-- THE LAW of the entry: where `text` reads an exit of a line, its entry stands at the last field of the line. Assumes nothing.
use Rattle.std.specs.Prelude.{Some, None, Ok, Err, Result}
use mathlib.Core.Path.{◌≡◌, refl, sym, ap, subst, ◌∙◌}
use mathlib.Core.List.{List, [], ◌∷◌, ◌++◌}
use mathlib.Core.Option.{Option, none, some}
use mathlib.Core.Bool.{Bool, true, false, ◌||◌}
use Prim.Native.Nat.{ℕ, ◌+◌, ◌-◌, ◌≤◌, ◌<◌}
use native.Mathlib.Omega.{arith}
use lib.ListN.{length, take, drop, get_or, take-append-drop, drop_of_length-le}
use lib.Seq.{drop-cons, drop-drop, take-append_seam}
use lib.Dec.{eqb}
use borrow.Author.Tests.{eqb-true}
use Rattle.terms.specs.Ascii.{Bytes}
use Rattle.scan.specs.Allowed.{separates, all}
use Rattle.scan.specs.Reach.{up_to, begins, fails, stops_by}
use Rattle.scan.specs.declared.Until.TheVariants.{Byte}
use Rattle.line.specs.Text.{lf}
use Rattle.line.specs.Content.{Field}
use Rattle.line.specs.Lines.{drop_cr}
use Rattle.line.specs.Forms.{form_of, fields_at}
use Rattle.line_fields.specs.LineFields.{fields_by, line_fields_of, last_of, last_start_of}
use Rattle.line_fields.proofs.LastField.{passed, Last, last-there, all-of_it}
use Rattle.number.specs.Executable.{triple_of}
use Rattle.number.specs.House.{number_byte}
use Rattle.number.specs.Spelling.{SpellsTriple}
use Rattle.number.proofs.House.{triple-bytes}
use Rattle.number.proofs.Identifiers.{triple-right, triple-only}
use Rattle.grammar.specs.Language.{as_kind}
use Rattle.grammar.specs.Statements.{Kind, PointId, ExitLine, Statement, lines, say, exit}
use Rattle.grammar.specs.Machine.{Out, next, refuse, Place, step}
use Rattle.grammar.specs.Places.{rndf}
use Rattle.grammar.specs.Stands.{stands}
use Rattle.grammar.proofs.LanguageLaws.{as_same}
use Rattle.text.specs.Judge.{Vals, triple_from, read, both, read_all, Verdict, fault, good, check, kind_at, args, taken, valued, standing, of_kind, known, tell, told, formed, judge}
use Rattle.text.specs.RndfWords.{rndf_lexis, rndf_sorts, rndf_make}
use Rattle.statement.specs.Meaning.{the_the_point_of}
use Rattle.plain_parts.specs.Stands.{stretch, Stands}
use Rattle.references.specs.Entry.{no_entry, id_from_of, number_at, entry_at}
use Rattle.std.specs.Prelude as Rust
use Rattle.number.specs.declared.Id.{Id}

abbrev Got : Type 0
Got = Verdict (Statement Field) (Place (rndf Field))

not_good : (n : ℕ) (o : Option (Statement Field)) (q : Place (rndf Field)) → ◌≡◌ {A = Got} (fault n) (good o q) → ⊥
not_good n o q e = let z : ◌≡◌ {A = ℕ} 0 1 = cc in omega arith

-- ## The kind
module _ (p : Place (rndf Field)) (t : Statement Field) (q : Place (rndf Field)) where
  taken_is : (s : Statement Field) (o : Out (Place (rndf Field))) → taken (rndf Field) rndf_lexis s o ≡ good (some t) q → s ≡ t
  taken_is s (next b) e = cc
  taken_is s (refuse c) e = absurd (not_good c (some t) q e)

  -- what an accepted line of a kind says is of that kind
  kind-kept : (k : Kind) (fs : List Field) → of_kind (rndf Field) rndf_lexis p k fs ≡ good (some t) q → k ≡ t.kind
  kind-kept k fs e = go (stands (rndf Field) p k) (eqb (length fs) (length (rndf_sorts k))) (read_all (rndf_sorts k) fs) e
    where
      go : (o : Option ℕ) (b : Bool) (v : Option (Vals (rndf_sorts k))) → standing (rndf Field) rndf_lexis o (check b 7 (valued (rndf Field) rndf_lexis p k v)) ≡ good (some t) q → k ≡ t.kind
      go (some n) b v e = absurd (not_good n (some t) q e)
      go none false v e = absurd (not_good 7 (some t) q e)
      go none true none e = absurd (not_good 8 (some t) q e)
      go none true (some v) e = ap (λ (s : Statement Field). s.kind) (taken_is (say k (rndf_lexis.make k v)) (step (rndf Field) p (say k (rndf_lexis.make k v))) e)

-- ## The fields of an exit: two identifiers
none-some : {A : Type 0} (a : A) → none ≡ some a → ⊥
none-some a e = let z : ◌≡◌ {A = ℕ} 0 1 = cc in omega arith

-- what is read of two fields, the second
module _ (w : Vals (rndf_sorts exit)) where
  Two : List Field → Type 0
  Two fs = (f : Field) × (g : Field) × (fs ≡ f ∷ g ∷ []) × (triple_from (triple_of g.bytes) ≡ some w.1.0)

  two-read : (fs : List Field) → read_all (rndf_sorts exit) fs ≡ some w → Two fs
  unfolding read Two
  two-read [] e = absurd (none-some w e)
  two-read (f ∷ []) e = go (triple_from (triple_of f.bytes)) e
    where
      go : (a : Option PointId) → both a none ≡ some w → Two (f ∷ [])
      go none e = absurd (none-some w e)
      go (some a) e = absurd (none-some w e)
  two-read (f ∷ g ∷ []) e = go (triple_from (triple_of f.bytes)) (triple_from (triple_of g.bytes)) refl e
    where
      go : (a b : Option PointId) → triple_from (triple_of g.bytes) ≡ b → both a (both b (some tt)) ≡ some w → Two (f ∷ g ∷ [])
      go none b q e = absurd (none-some w e)
      go (some a) none q e = absurd (none-some w e)
      go (some a) (some b) q e = (f, g, refl, q ∙ ap (λ (o : Option (Vals (rndf_sorts exit))). elim o [ some v ↦ some v.1.0 | none ↦ none ]) e)
  two-read (f ∷ g ∷ h ∷ fs) e = go (triple_from (triple_of f.bytes)) (triple_from (triple_of g.bytes)) e
    where
      go : (a b : Option PointId) → both a (both b none) ≡ some w → Two (f ∷ g ∷ h ∷ fs)
      go none b e = absurd (none-some w e)
      go (some a) none e = absurd (none-some w e)
      go (some a) (some b) e = absurd (none-some w e)

-- a line of this kind that is accepted with what v says
exit-fields : (p : Place (rndf Field)) (v : ExitLine) (q : Place (rndf Field)) (fs : List Field) → of_kind (rndf Field) rndf_lexis p exit fs ≡ good (some (say exit v)) q
    → (w : Vals (rndf_sorts exit)) × (read_all (rndf_sorts exit) fs ≡ some w) × (w.1.0 ≡ v.entry)
exit-fields p v q fs e = go (stands (rndf Field) p exit) (eqb (length fs) 2) (read_all (rndf_sorts exit) fs) refl e
  where
    said : (w : Vals (rndf_sorts exit)) → ◌≡◌ {A = Statement Field} (say exit (rndf_make exit w)) (say exit v) → w.1.0 ≡ v.entry
    said w e =
        let s : some (rndf_make exit w) ≡ some v = sym (as_same (lines Field) exit (rndf_make exit w)) ∙ ap (as_kind (lines Field) exit) e ∙ as_same (lines Field) exit v in
        let m : rndf_make exit w ≡ v = cc in
        ap (λ (l : ExitLine). l.entry) m

    go : (o : Option ℕ) (b : Bool) (x : Option (Vals (rndf_sorts exit))) → read_all (rndf_sorts exit) fs ≡ x → standing (rndf Field) rndf_lexis o (check b 7 (valued (rndf Field) rndf_lexis p exit x)) ≡ good (some (say exit v)) q
        → (w : Vals (rndf_sorts exit)) × (read_all (rndf_sorts exit) fs ≡ some w) × (w.1.0 ≡ v.entry)
    go (some n) b x r e = absurd (not_good n (some (say exit v)) q e)
    go none false x r e = absurd (not_good 7 (some (say exit v)) q e)
    go none true none r e = absurd (not_good 8 (some (say exit v)) q e)
    go none true (some w) r e = (w, r, said w (taken_is p (say exit v) q (say exit (rndf_make exit w)) (step (rndf Field) p (say exit (rndf_make exit w))) e))

point-read : (t : Rust.Option Id) (e : PointId) → triple_from t ≡ some e → the_the_point_of (id_from_of t) ≡ e
point-read (Some i) e q = cc
point-read None e q = absurd (none-some e q)

-- ## The fields of the line
-- three, of which the last spells the entry
pub record ExitFields (fields : List Field) (v : ExitLine) : Type 0 where
  pub word : Field
  pub point : Field
  pub entry : Field
  pub are : fields ≡ word ∷ point ∷ entry ∷ []
  pub spelled : triple_from (triple_of entry.bytes) ≡ some v.entry

module _ (p : Place (rndf Field)) (start : ℕ) (t : Statement Field) (q : Place (rndf Field)) (v : ExitLine) (is : t ≡ say exit v) where
  of-exit : (f : Field) (fs : List Field) → of_kind (rndf Field) rndf_lexis p exit fs ≡ good (some t) q → ExitFields (f ∷ fs) v
  unfolding Two
  of-exit f fs e =
      let x = exit-fields p v q fs (e ∙ ap (λ (t : Statement Field). good (some t) q) is) in
      let y = two-read x.0 fs x.1 in
      record { word = f; point = y.0; entry = y.1; are = ap (λ (l : List Field). f ∷ l) y.2; spelled = y.3 ∙ ap some x.2 }

  in-fields : (fs : List Field) → told (rndf Field) rndf_lexis p fs ≡ good (some t) q → ExitFields fs v
  unfolding tell
  in-fields [] e = absurd (let z : ◌≡◌ {A = ℕ} 0 1 = cc in omega arith)
  in-fields (f ∷ fs) e = kinds (kind_at (rndf Field) rndf_lexis p f) e
    where
      kinds : (o : Option Kind) → known (rndf Field) rndf_lexis p o f fs ≡ good (some t) q → ExitFields (f ∷ fs) v
      kinds none e = absurd (not_good 5 (some t) q e)
      kinds (some k) e =
          let k-is : k ≡ exit = kind-kept p t q k (args (rndf Field) rndf_lexis (rndf_lexis.keyword k) f fs) e ∙ ap (λ (t : Statement Field). t.kind) is in
          of-exit f fs (subst (λ (k : Kind). of_kind (rndf Field) rndf_lexis p k (args (rndf Field) rndf_lexis (rndf_lexis.keyword k) f fs) ≡ good (some t) q) k-is e)

  exit_line : (line : Bytes) → judge (rndf Field) rndf_lexis p start line ≡ good (some t) q → ExitFields (line_fields_of start line) v
  unfolding judge line_fields_of
  exit_line line h = go (form_of (drop_cr line)) h
    where
      go : (f : Result ℕ ℕ) → formed (rndf Field) rndf_lexis p start (drop_cr line) f ≡ good (some t) q → ExitFields (fields_by start (drop_cr line) f) v
      go (Err n) h = absurd (not_good n (some t) q h)
      go (Ok e) h = in-fields (fields_at start (take e (drop_cr line))) h

-- ## In the text
-- no byte of a number separates fields, opens a comment or ends a line
blank-ends : (b : ℕ) → separates b ≡ true → number_byte b ≡ false
unfolding separates
blank-ends b e = go (eqb b 9) (eqb b 32) refl refl e
  where
    go : (x y : Bool) → eqb b 9 ≡ x → eqb b 32 ≡ y → (x || y) ≡ true → number_byte b ≡ false
    go true y p q e = rw (eqb-true b 9 p) refl
    go false true p q e = rw (eqb-true b 32 q) refl
    go false false p q e = absurd (let z : ◌≡◌ {A = ℕ} 0 1 = cc in omega arith)

-- an identifier is all bytes of numbers
spelled-bytes : (w : Bytes) (e : PointId) → triple_from (triple_of w) ≡ some e → all number_byte w ≡ true
spelled-bytes w e h = go (triple_of w) refl h
  where
    go : (t : Rust.Option Id) → triple_of w ≡ t → triple_from t ≡ some e → all number_byte w ≡ true
    go (Some i) q h = triple-bytes w i.x i.y i.z (triple-right w i q)
    go None q h = absurd (none-some e h)

-- THE ENTRY of an exit that was read stands at the last field of its line
pub entry-told : (text : Bytes) (p : Place (rndf Field)) (start : ℕ) (line : Bytes) → start ≤ length text → take (up_to (stops_by (Byte lf)) (drop start text)) (drop start text) ≡ line
    → (t : Statement Field) (q : Place (rndf Field)) → judge (rndf Field) rndf_lexis p start line ≡ good (some t) q → (v : ExitLine) → t ≡ say exit v → the_the_point_of (entry_at text (last_start_of (line_fields_of start line))) ≡ v.entry
unfolding entry_at number_at last_of
entry-told text p start line inside here t q h v is =
    let x = exit_line p start t q v is line h in
    let there : Last number_byte blank-ends refl refl refl 0 text x.entry = last-there number_byte blank-ends refl refl refl text start inside x.word (x.point ∷ x.entry ∷ []) (ap (line_fields_of start) here ∙ x.are) in
    rw x.are (ap (λ (w : Bytes). the_the_point_of (id_from_of (triple_of w))) (all-of_it number_byte blank-ends refl refl refl text x.entry there (spelled-bytes x.entry.bytes v.entry x.spelled)) ∙ point-read (triple_of x.entry.bytes) v.entry x.spelled)

-- ## An entry that is read where it stands
pub entry-stands : (s : Bytes) (at e x y z : ℕ) → Stands s at e (λ w. SpellsTriple w x y z) → begins number_byte (drop e s) ≡ false → entry_at s at ≡ record { x = x; y = y; z = z }
unfolding entry_at number_at
entry-stands s at e x y z h ends =
    let w = stretch s at e in
    let o = h.order in
    let there : at + (e - at) ≡ e = omega arith in
    let cut : drop at s ≡ w ++ drop e s = sym (take-append-drop (e - at) (drop at s)) ∙ ap (◌++◌ w) (drop-drop (e - at) at s ∙ ap (λ (i : ℕ). drop i s) there) in
    let bytes = triple-bytes w x y z h.spelled in
    let all_of : take (up_to (fails number_byte) (drop at s)) (drop at s) ≡ w = ap (λ (l : Bytes). take (up_to (fails number_byte) l) l) cut ∙ ap (λ (k : ℕ). take k (w ++ drop e s)) (passed number_byte w (drop e s) bytes ends) ∙ take-append_seam w (drop e s) in
    ap (λ (w : Bytes). id_from_of (triple_of w)) all_of ∙ ap id_from_of (triple-only w x y z h.spelled)

-- the next byte is of no number
pub ends-by-byte : (s : Bytes) (e : ℕ) → e < length s → number_byte (get_or s e 0) ≡ false → begins number_byte (drop e s) ≡ false
unfolding begins
ends-by-byte s e h q = rw (drop-cons s e 0 h) q

pub ends-by-text : (s : Bytes) (e : ℕ) → length s ≤ e → begins number_byte (drop e s) ≡ false
unfolding begins
ends-by-text s e h = ap (begins number_byte) (drop_of_length-le s h)

-- beyond the text there is none
pub none-there : (s : Bytes) (at : ℕ) → length s ≤ at → entry_at s at ≡ no_entry
unfolding entry_at number_at up_to triple_of
none-there s at h = ap (λ (l : Bytes). id_from_of (triple_of (take (up_to (fails number_byte) l) l))) (drop_of_length-le s h)
