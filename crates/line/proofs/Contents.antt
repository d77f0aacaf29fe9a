-- `Content`: what a content is made of, and that it is no other. Assumes nothing.
use mathlib.Core.Path.{◌≡◌, refl, sym, ap, subst, ◌∙◌}
use mathlib.Core.List.{List, [], ◌∷◌, ◌++◌, append-nil}
use mathlib.Core.Bool.{Bool, true, false, ◌&&◌}
use mathlib.Core.Logic.{◌⊎◌, inl, inr}
use Prim.Native.Nat.{ℕ, suc, ◌+◌, ◌≤◌, ◌<◌}
use native.Mathlib.Omega.{arith}
use borrow.Author.Tests.{ltb-true, ltb-false}
use lib.ListN.{length, take, drop, length-append, drop_of_length-le}
use lib.Seq.{take-append_seam, drop-append_seam, drop-append-add, take-length}
use lib.Dec.{ltb}
use Rattle.terms.specs.Ascii.{Bytes, ascii}
use Rattle.scan.specs.Allowed.{separates, outside, inside, all}
use Rattle.scan.specs.Reach.{up_to}
use Rattle.terms.proofs.Tests.{clash, both, and}
use Rattle.scan.proofs.Bytes.{separator-inside, outside-inside, star-not-outside, lf-not-inside, cr-not-inside, all_imp, all_append, all-parts}
use Rattle.line.specs.Text.{lf, cr, Lacks, Ended}
use Rattle.line.specs.Text as T
use Rattle.line.specs.Content.{Without, Comment, Field, longest, Content}
use Rattle.line.specs.Forms.{opens, shuts, outer_of, note_of, closes, closed_note, shut, clean, fields_at}
use Rattle.line.proofs.Ends.{bare-lacks}
use Rattle.line.proofs.Finds.{find-here, find-is, find_first, lost, found}
use Rattle.line.proofs.Comments.{outer-at, note-at, parts, closes-some, closes-none, shut-some}
use Rattle.line.proofs.Spelled.{fields-allowed, fields-are, are-fields}

-- ## Every byte
pub all-lacks : (t : ℕ → Bool) (x : ℕ) → t x ≡ false → (l : Bytes) → all t l ≡ true → Lacks x l
unfolding all
all-lacks t x h [] e = T.none
all-lacks t x h (b ∷ l) e = let p = both (t b) (all t l) e in T.more (λ q. clash (sym p.0 ∙ ap t q ∙ h)) (all-lacks t x h l p.1)

-- what is allowed outside has no `/*`
pub outer-without : (l : Bytes) → all outside l ≡ true → Without (ascii "/*") l
unfolding ascii all
outer-without l h before behind e =
    let p = all-parts outside before (47 ∷ 42 ∷ behind) (ap (all outside) (sym e) ∙ h) in
    let q = both (outside 47) (outside 42 && all outside behind) p.1 in
    let r = both (outside 42) (all outside behind) q.1 in
    clash (sym r.0 ∙ star-not-outside)

-- ## Where the comment begins
slash_star : ◌≡◌ {A = ℕ} 47 42 → ⊥
slash_star e = omega arith

star_slash : ◌≡◌ {A = ℕ} 42 47 → ⊥
star_slash e = omega arith

module _ (c outer rest : Bytes) (e : c ≡ outer ++ (ascii "/*" ++ rest)) (w : Without (ascii "/*") outer) where
  pub opened-at : up_to opens c ≡ length outer
  unfolding ascii
  opened-at = ap (up_to opens) e ∙ found 47 42 slash_star outer rest w

  pub opened-outer : outer_of c ≡ outer
  opened-outer = outer-at c ∙ rw (opened-at, e) (take-append_seam outer (ascii "/*" ++ rest))

  pub opened-note : note_of c ≡ ascii "/*" ++ rest
  opened-note = note-at c ∙ rw (opened-at, e) (drop-append_seam outer (ascii "/*" ++ rest))

  pub opened-shut : shut c ≡ closes rest
  unfolding ascii
  opened-shut = ap closed_note opened-note

module _ (c : Bytes) (w : Without (ascii "/*") c) where
  pub plain_at : up_to opens c ≡ length c
  unfolding ascii
  plain_at = lost 47 42 c w

  pub plain-outer : outer_of c ≡ c
  plain-outer = outer-at c ∙ rw plain_at (take-length c)

  pub plain-note : note_of c ≡ []
  plain-note = let h : length c ≤ up_to opens c = omega (arith, plain_at) in note-at c ∙ drop_of_length-le c h

-- behind the opening, up to the first `*/`
module _ (rest text behind : Bytes) (e : rest ≡ text ++ (ascii "*/" ++ behind)) (w : Without (ascii "*/") text) where
  pub closed_at : up_to shuts rest ≡ length text
  unfolding ascii
  closed_at = ap (up_to shuts) e ∙ found 42 47 star_slash text behind w

  pub closed-closes : closes rest ≡ all separates behind
  unfolding ascii
  closed-closes =
      let n : length rest ≡ length text + suc (suc (length behind)) = ap length e ∙ length-append text (42 ∷ 47 ∷ behind) in
      let k : up_to shuts rest ≡ length text = closed_at in
      closes-some rest (omega arith) ∙ ap (all separates) (rw (closed_at, e) (drop-append-add text (42 ∷ 47 ∷ behind) 2))

pub never-closes : (rest : Bytes) → Without (ascii "*/") rest → closes rest ≡ false
unfolding ascii
never-closes rest w = closes-none rest (omega (arith, lost 42 47 rest w))

-- ## A content's form
module _ {a : ℕ} {c : Bytes} {fs : List Field} (h : Content a c fs) where
  outer-clear : Without (ascii "/*") h.outer
  outer-clear = outer-without h.outer (fields-allowed h.fielded)

  alone : h.note ≡ [] → c ≡ h.outer
  alone e = h.spelled ∙ ap (◌++◌ h.outer) e ∙ append-nil h.outer

  with-comment : (k : Comment h.note) → c ≡ h.outer ++ (ascii "/*" ++ (k.text ++ (ascii "*/" ++ k.behind)))
  with-comment k = h.spelled ∙ ap (◌++◌ h.outer) k.spelled

  pub content-at : up_to opens c ≡ length h.outer
  content-at = go h.comment
    where
      go : (h.note ≡ []) ⊎ Comment h.note → up_to opens c ≡ length h.outer
      go (inl e) = plain_at c (subst (Without (ascii "/*")) (sym (alone e)) outer-clear) ∙ ap length (alone e)
      go (inr k) = opened-at c h.outer _ (with-comment k) outer-clear

  pub content-outer : outer_of c ≡ h.outer
  content-outer = outer-at c ∙ rw (content-at, h.spelled) (take-append_seam h.outer h.note)

  pub content-note : note_of c ≡ h.note
  content-note = note-at c ∙ rw (content-at, h.spelled) (drop-append_seam h.outer h.note)

  pub content-shut : shut c ≡ true
  content-shut = go h.comment
    where
      go : (h.note ≡ []) ⊎ Comment h.note → shut c ≡ true
      go (inl e) = ap closed_note (content-note ∙ e)
      go (inr k) = opened-shut c h.outer _ (with-comment k) outer-clear ∙ closed-closes _ k.text k.behind refl k.first ∙ k.only_separators

  note-allowed : all inside h.note ≡ true
  unfolding ascii all
  note-allowed = go h.comment
    where
      go : (h.note ≡ []) ⊎ Comment h.note → all inside h.note ≡ true
      go (inl e) = ap (all inside) e
      go (inr k) =
          let tail : all inside (42 ∷ 47 ∷ k.behind) ≡ true = and refl (and refl (all_imp separates inside separator-inside k.behind k.only_separators)) in
          ap (all inside) k.spelled ∙ and refl (and refl (all_append inside k.text (42 ∷ 47 ∷ k.behind) k.allowed tail))

  pub content-clean : clean c ≡ true
  content-clean = and (ap (all outside) content-outer ∙ fields-allowed h.fielded) (ap (all inside) content-note ∙ note-allowed)

  -- the fields are those that are found
  pub content-fields : fields_at a (outer_of c) ≡ fs
  content-fields = ap (fields_at a) content-outer ∙ fields-are h.fielded

  pub content-bytes : all inside c ≡ true
  content-bytes = ap (all inside) h.spelled ∙ all_append inside h.outer h.note (all_imp outside inside outside-inside h.outer (fields-allowed h.fielded)) note-allowed

  -- it has no LF and no CR, so it is a line as it stands
  pub content-lacks-lf : Lacks lf c
  content-lacks-lf = all-lacks inside lf lf-not-inside c content-bytes

  pub content-ended : Ended c c
  content-ended = bare-lacks c (all-lacks inside cr cr-not-inside c content-bytes)

-- one content has one list of fields
pub content-one : {a : ℕ} {c : Bytes} {fs gs : List Field} → Content a c fs → Content a c gs → fs ≡ gs
content-one h k = sym (content-fields h) ∙ content-fields k

-- ## A form's content
comment-is : (c : Bytes) → shut c ≡ true → all inside (note_of c) ≡ true → (note_of c ≡ []) ⊎ Comment (note_of c)
unfolding ascii all
comment-is c e f = go (ltb (up_to opens c) (length c)) refl
  where
    u : ℕ
    u = up_to opens c

    rest : Bytes
    rest = drop (u + 2) c

    v : ℕ
    v = up_to shuts rest

    opening : u < length c → note_of c ≡ 47 ∷ 42 ∷ rest
    opening h = note-at c ∙ find-here 47 42 c h

    made : u < length c → v < length rest → Comment (note_of c)
    made h k =
        let closing : rest ≡ take v rest ++ (42 ∷ 47 ∷ drop (v + 2) rest) = find-is 42 47 rest k in
        let i : all inside (47 ∷ 42 ∷ rest) ≡ true = ap (all inside) (sym (opening h)) ∙ f in
        let j : all inside rest ≡ true = (both (inside 42) (all inside rest) (both (inside 47) (inside 42 && all inside rest) i).1).1 in
        let t = (all-parts inside (take v rest) (42 ∷ 47 ∷ drop (v + 2) rest) (ap (all inside) (sym closing) ∙ j)).0 in
        record { text = take v rest; behind = drop (v + 2) rest; spelled = opening h ∙ ap (λ (r : Bytes). 47 ∷ 42 ∷ r) closing; first = find_first 42 47 rest; allowed = t; only_separators = sym (closes-some rest k) ∙ sym (shut-some c h) ∙ e }

    shuts_too : u < length c → (x : Bool) → ltb v (length rest) ≡ x → Comment (note_of c)
    shuts_too h true q = made h (ltb-true v (length rest) q)
    shuts_too h false q = clash (sym e ∙ shut-some c h ∙ closes-none rest (ltb-false v (length rest) q))

    go : (x : Bool) → ltb u (length c) ≡ x → (note_of c ≡ []) ⊎ Comment (note_of c)
    go false q = inl (note-at c ∙ drop_of_length-le c (ltb-false u (length c) q))
    go true q = inr (shuts_too (ltb-true u (length c) q) (ltb v (length rest)) refl)

pub is-content : (a : ℕ) (c : Bytes) → length c ≤ longest → shut c ≡ true → clean c ≡ true → Content a c (fields_at a (outer_of c))
is-content a c s e f =
    let p = both (all outside (outer_of c)) (all inside (note_of c)) f in
    record { outer = outer_of c; note = note_of c; spelled = sym (parts c); short = s; fielded = are-fields a (outer_of c) p.0; comment = comment-is c e p.1 }
