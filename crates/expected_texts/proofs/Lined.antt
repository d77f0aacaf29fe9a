-- Line i of a text as the program looks at it: what stands before a comment has the fields that the law sees. Assumes nothing.
use mathlib.Core.Path.{◌≡◌, refl, sym, ap, subst, ◌∙◌}
use mathlib.Core.List.{List, [], ◌∷◌, ◌++◌, head-eq_of_cons-eq, tail-eq_of_cons-eq}
use Prim.Native.Nat.{ℕ, zero, suc, ◌-◌, ◌≤◌}
use native.Mathlib.Omega.{arith}
use lib.Seq.{take_all}
use lib.ListN.{length, take, get_or}
use Rattle.terms.specs.Ascii.{Bytes}
use Rattle.scan.specs.Reach.{up_to}
use Rattle.line.specs.Content.{Field, Content}
use Rattle.line.specs.Text.{Cut, Ended}
use Rattle.line.specs.Lines.{lines_of, drop_cr}
use Rattle.line.specs.Forms.{opens, outer_of, fields_at, fields_in_of, field_in, listed}
use Rattle.line.proofs.Comments.{outer-at}
use Rattle.line.proofs.Contents.{content-fields}
use Rattle.line.proofs.Cuts.{cut-is}
use Rattle.line.proofs.Ends.{ended_is}
use Rattle.line.proofs.Spans.{fields-listed}
use Rattle.judge.proofs.Judged.{some_field}
use Rattle.law_faults.proofs.Reached.{cons-nil}
use Rattle.shown.specs.Shown.{line_in}

-- ## The line
at_place : (before : List Bytes) (this : Bytes) (rest : List Bytes) → get_or (before ++ (this ∷ rest)) (length before) [] ≡ this
at_place [] this rest = refl
at_place (l ∷ before) this rest = at_place before this rest

line-is : (text : Bytes) (i : ℕ) (before : List Bytes) (this : Bytes) (rest : List Bytes) → Cut text (before ++ (this ∷ rest)) → i ≡ suc (length before) → {content : Bytes} → Ended this content → length content ≤ 512 → line_in text i ≡ content
unfolding line_in
line-is text i before this rest c n {content} e h =
    let k : i - 1 ≡ length before = omega (arith, n) in
    let l : get_or (lines_of text) (i - 1) [] ≡ this = ap (λ (ls : List Bytes). get_or ls (i - 1) []) (cut-is c) ∙ ap (λ (j : ℕ). get_or (before ++ (this ∷ rest)) j []) k ∙ at_place before this rest in
    ap (λ (x : Bytes). take 513 (drop_cr x)) l ∙ ap (take 513) (ended_is e) ∙ take_all 513 content (omega (arith, h))

-- ## Its fields
pub record Lined (text : Bytes) (i : ℕ) (f : Field) (fs : List Field) : Type 0 where
  pub outer : Bytes
  pub stands : take (up_to opens (line_in text i)) (line_in text i) ≡ outer
  pub first : field_in 0 outer (fields_in_of outer).a ≡ f
  pub fielded : fields_at 0 outer ≡ f ∷ fs

first-is : (s : Bytes) (f : Field) (fs : List Field) → fields_at 0 s ≡ f ∷ fs → field_in 0 s (fields_in_of s).a ≡ f
first-is s f fs e = go (fields_in_of s).count refl
  where
    go : (c : ℕ) → (fields_in_of s).count ≡ c → field_in 0 s (fields_in_of s).a ≡ f
    go zero q = cons-nil (sym (fields-listed 0 s ∙ ap (listed 0 s (fields_in_of s)) q) ∙ e)
    go (suc c) q = head-eq_of_cons-eq (sym (fields-listed 0 s ∙ ap (listed 0 s (fields_in_of s)) q ∙ (some_field 0 s (fields_in_of s) c).1) ∙ e)

pub lined : (text : Bytes) (i : ℕ) (before : List Bytes) (this : Bytes) (rest : List Bytes) → Cut text (before ++ (this ∷ rest)) → i ≡ suc (length before) → {content : Bytes} {f : Field} {fs : List Field} → Ended this content → Content 0 content (f ∷ fs) → Lined text i f fs
lined text i before this rest c n {content} {f} {fs} e h =
    let s = take (up_to opens content) content in
    let there : take (up_to opens (line_in text i)) (line_in text i) ≡ s = ap (λ (x : Bytes). take (up_to opens x) x) (line-is text i before this rest c n e h.short) in
    let fields : fields_at 0 s ≡ f ∷ fs = ap (fields_at 0) (sym (outer-at content)) ∙ content-fields h in
    record { outer = s; stands = there; first = first-is s f fs fields; fielded = fields }
