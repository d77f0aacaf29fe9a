-- The last field of a line, and what stands behind it in the text: a separator, a comment, the line's end, or nothing. Assumes nothing.
use Rattle.std.specs.Prelude.{Ok, Err, Result}
use mathlib.Core.Path.{◌≡◌, refl, sym, ap, subst, ◌∙◌}
use mathlib.Core.List.{List, [], ◌∷◌, ◌++◌, append_assoc, append-nil, nil≢cons, head-eq_of_cons-eq}
use mathlib.Core.Bool.{Bool, true, false}
use mathlib.Core.Logic.{◌⊎◌, inl, inr}
use Prim.Native.Nat.{ℕ, suc, ◌+◌, ◌-◌, ◌≤◌, ◌<◌}
use Prim.Native.Char.{code}
use native.Mathlib.Omega.{arith}
use native.Mathlib.Nat.{zero-add}
use lib.Dec.{ltb}
use borrow.Author.Tests.{ltb-true, ltb-false}
use lib.ListN.{length, take, drop, length-append, take-append-drop, drop_of_length-le}
use lib.Seq.{take-append_seam, drop-append_seam, drop-drop, length-take-le}
use Rattle.terms.specs.Ascii.{Bytes, ascii}
use Rattle.terms.proofs.Tests.{both}
use Rattle.scan.specs.Allowed.{separates, all}
use Rattle.scan.specs.Reach.{begins, fails, up_to, reach, stops_by}
use Rattle.scan.specs.declared.Until.TheVariants.{Byte}
use Rattle.scan.proofs.Reach.{up_to_stop, up_to_go, byte-here, up_to_le}
use Rattle.line.specs.Text.{lf, cr, Ended, dropped, bare}
use Rattle.line.specs.Content.{Field, at, parted-by, SpellsFields, Content}
use Rattle.line.specs.Content as N
use Rattle.line.specs.Located.{Within}
use Rattle.line.specs.Lines.{drop_cr}
use Rattle.line.specs.Forms.{form_of, fields_at}
use Rattle.line_fields.specs.LineFields.{fields_by, line_fields_of, last_of, last_start_of}
use Rattle.line.proofs.Ends.{ended, ended_is}
use Rattle.line.proofs.Spelled.{fields-are}
use Rattle.line.proofs.Faults.{body-content, content-form}

-- the fields of a line are those that its content spells
pub fields-of-line : {a : ℕ} {l c : Bytes} {fs : List Field} → Ended l c → Content a c fs → line_fields_of a l ≡ fs
unfolding line_fields_of
fields-of-line {a} {l} {c} {fs} e h =
    let outer : take (length h.outer) c ≡ h.outer = ap (take (length h.outer)) h.spelled ∙ take-append_seam h.outer h.note in
    ap (λ (c : Bytes). fields_by a c (form_of c)) (ended_is e) ∙ ap (fields_by a c) (content-form c h) ∙ ap (fields_at a) outer ∙ fields-are h.fielded

-- a line with fields has a content that spells them
pub content-of-line : (a : ℕ) (l : Bytes) (f : Field) (fs : List Field) → line_fields_of a l ≡ f ∷ fs → Content a (drop_cr l) (f ∷ fs)
unfolding line_fields_of
content-of-line a l f fs e = go (form_of (drop_cr l)) refl e
  where
    go : (m : Result ℕ ℕ) → form_of (drop_cr l) ≡ m → fields_by a (drop_cr l) m ≡ f ∷ fs → Content a (drop_cr l) (f ∷ fs)
    go (Err n) q e = absurd (nil≢cons e)
    go (Ok k) q e = subst (Content a (drop_cr l)) e (body-content (drop_cr l) k q a)

-- ## A scan over bytes that pass a test
stops : (test : ℕ → Bool) (r : Bytes) → begins test r ≡ false → up_to (fails test) r ≡ 0
unfolding begins up_to fails
stops test [] e = refl
stops test (b ∷ r) e = rw e refl

-- it stops behind them, where the next does not pass
pub passed : (test : ℕ → Bool) (l r : Bytes) → all test l ≡ true → begins test r ≡ false → up_to (fails test) (l ++ r) ≡ length l
unfolding all fails
passed test [] r e q = stops test r q
passed test (b ∷ l) r e q =
    let p = both (test b) (all test l) e in
    up_to_go (fails test) b (l ++ r) (rw p.0 refl) ∙ ap suc (passed test l r p.1 q)

-- ## What stands behind it. `test`: bytes of which neither a separator nor `/`, CR or LF is one
module _ (test : ℕ → Bool) (blank : (b : ℕ) → separates b ≡ true → test b ≡ false) (slash : test (code "/") ≡ false) (return : test cr ≡ false) (feed : test lf ≡ false) where
  -- a field that stands in a stretch of the text with no such byte behind it
  pub record Last (start : ℕ) (stretch : Bytes) (f : Field) : Type 0 where
    pub there : Within start stretch f
    pub ends : begins test there.after ≡ false

  -- none of two stretches begins so
  neither : (l r : Bytes) → begins test l ≡ false → begins test r ≡ false → begins test (l ++ r) ≡ false
  unfolding begins
  neither [] r h k = k
  neither (b ∷ l) r h k = h

  ahead : (a : ℕ) (x t : Bytes) (f : Field) → Last (a + length x) t f → Last a (x ++ t) f
  ahead a x t f h =
      let w = h.there in
      let k : f.start ≡ a + length x + length w.before = w.starts in
      record { there = record { before = x ++ w.before; after = w.after; is = ap (◌++◌ x) w.is ∙ sym (append_assoc x w.before (f.bytes ++ w.after)); starts = simp length-append (omega arith) }; ends = h.ends }

  behind : (a : ℕ) (t r : Bytes) (f : Field) → begins test r ≡ false → Last a t f → Last a (t ++ r) f
  behind a t r f e h =
      let w = h.there in
      record { there = record { before = w.before; after = w.after ++ r; is = ap (λ (l : Bytes). l ++ r) w.is ∙ simp append_assoc; starts = w.starts }; ends = neither w.after r h.ends e }

  parted-ends : (r : Bytes) → N.parted r ≡ true → begins test r ≡ false
  unfolding begins parted-by
  parted-ends [] e = refl
  parted-ends (b ∷ r) e = blank b e

  -- the last of some fields, whatever stands for none
  abbrev last-among : List Field → Field
  last-among [] = at 0 []
  last-among (f ∷ fs) = last_of f fs

  one_more : (a : ℕ) (w r : Bytes) → N.parted r ≡ true → (hs : List Field) → ((g : Field) (ks : List Field) → hs ≡ g ∷ ks → Last (a + length w) r (last_of g ks)) → Last a (w ++ r) (last-among (at a w ∷ hs))
  unfolding last_of
  one_more a w r e [] k = record { there = record { before = []; after = r; is = refl; starts = omega arith }; ends = parted-ends r e }
  one_more a w r e (g ∷ ks) k = ahead a w r (last_of g ks) (k g ks refl)

  last-spelled : {a : ℕ} {l : Bytes} {fs : List Field} → SpellsFields a l fs → (f : Field) (gs : List Field) → fs ≡ f ∷ gs → Last a l (last_of f gs)
  last-spelled N.nothing f gs e = absurd (nil≢cons e)
  last-spelled (N.separator {start = a} {b = b} {rest = l} h p) f gs e =
      let n : suc a ≡ a + 1 = omega arith in
      ahead a (b ∷ []) l (last_of f gs) (subst (λ (k : ℕ). Last k l (last_of f gs)) n (last-spelled p f gs e))
  last-spelled (N.field {start = a} {bytes = w} {rest = r} {fields = hs} i e p) f gs q = subst (λ (l : List Field). Last a (w ++ r) (last-among l)) q (one_more a w r e hs (λ g ks k. last-spelled p g ks k))

  note-ends : (n : Bytes) → (n ≡ []) ⊎ N.Comment n → begins test n ≡ false
  unfolding begins ascii
  note-ends n (inl e) = ap (begins test) e
  note-ends n (inr c) = ap (begins test) c.spelled ∙ slash

  last-content : {a : ℕ} {c : Bytes} {f : Field} {fs : List Field} → Content a c (f ∷ fs) → Last a c (last_of f fs)
  last-content {a} {c} {f} {fs} h = subst (λ (c : Bytes). Last a c (last_of f fs)) (sym h.spelled) (behind a h.outer h.note (last_of f fs) (note-ends h.note h.comment) (last-spelled h.fielded f fs refl))

  last_line : {a : ℕ} {l c : Bytes} {f : Field} {fs : List Field} → Ended l c → Content a c (f ∷ fs) → Last a l (last_of f fs)
  unfolding begins
  last_line (bare n) h = last-content h
  last_line {a} {f = f} {fs = fs} (dropped {content = c}) h = behind a c (cr ∷ []) (last_of f fs) return (last-content h)

  -- ## In the text
  module _ (s : Bytes) (from : ℕ) (inside : from ≤ length s) where
    abbrev stop : ℕ
    stop = up_to (stops_by (Byte lf)) (drop from s)

    abbrev here : Bytes
    here = take stop (drop from s)

    -- an LF or nothing
    rest-ends : begins test (drop stop (drop from s)) ≡ false
    unfolding begins
    rest-ends = go (ltb stop (length (drop from s))) refl
      where
        go : (b : Bool) → ltb stop (length (drop from s)) ≡ b → begins test (drop stop (drop from s)) ≡ false
        go true q = ap (begins test) (byte-here lf (drop from s) (ltb-true stop (length (drop from s)) q)) ∙ feed
        go false q = ap (begins test) (drop_of_length-le (drop from s) (ltb-false stop (length (drop from s)) q))

    pub last-there : (f : Field) (fs : List Field) → line_fields_of from here ≡ f ∷ fs → Last 0 s (last_of f fs)
    last-there f fs e =
        let long : length (take from s) ≡ from = length-take-le from s inside in
        let whole : take from s ++ (here ++ drop stop (drop from s)) ≡ s = ap (◌++◌ (take from s)) (take-append-drop stop (drop from s)) ∙ take-append-drop from s in
        let line : Last from (here ++ drop stop (drop from s)) (last_of f fs) = behind from here (drop stop (drop from s)) (last_of f fs) rest-ends (last_line (ended here) (content-of-line from here f fs e)) in
        subst (λ (t : Bytes). Last 0 t (last_of f fs)) whole (ahead 0 (take from s) (here ++ drop stop (drop from s)) (last_of f fs) (subst (λ (k : ℕ). Last k (here ++ drop stop (drop from s)) (last_of f fs)) (sym (zero-add (length (take from s)) ∙ long)) line))

  -- the bytes that pass the test, from its start on, are the field's
  pub all-of_it : (s : Bytes) (f : Field) → Last 0 s f → all test f.bytes ≡ true → take (up_to (fails test) (drop f.start s)) (drop f.start s) ≡ f.bytes
  all-of_it s f h e =
      let w = h.there in
      let from : drop f.start s ≡ f.bytes ++ w.after = ap (λ (k : ℕ). drop k s) (w.starts ∙ zero-add (length w.before)) ∙ ap (drop (length w.before)) w.is ∙ drop-append_seam w.before (f.bytes ++ w.after) in
      rw from (ap (λ (k : ℕ). take k (f.bytes ++ w.after)) (passed test f.bytes w.after e h.ends) ∙ take-append_seam f.bytes w.after)

-- ## It starts within the line
pub last_within : (a : ℕ) (l : Bytes) → last_start_of (line_fields_of a l) ≤ a + length l
last_within a l = go (line_fields_of a l) refl
  where
    inside : (f : Field) → Within a l f → f.start ≤ a + length l
    inside f w =
        let n : length l ≡ length (w.before ++ (f.bytes ++ w.after)) = ap length w.is in
        let m = length-append w.before (f.bytes ++ w.after) in
        omega (arith, w.starts)

    go : (fs : List Field) → line_fields_of a l ≡ fs → last_start_of fs ≤ a + length l
    go [] e = omega arith
    go (f ∷ fs) e = inside (last_of f fs) (last_line (λ b. false) (λ b q. refl) refl refl refl (ended l) (content-of-line a l f fs e)).there
