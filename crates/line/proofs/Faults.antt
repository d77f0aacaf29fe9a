-- Refusals 2, 3 and 4: what `form_of` answers is the fault, and there is no other; no fault is the same as a content. Assumes nothing.
use Rattle.std.specs.Prelude.{Ok, Err, Result}
use mathlib.Core.Path.{◌≡◌, refl, sym, ap, subst, ◌∙◌}
use mathlib.Core.List.{List, ◌∷◌}
use mathlib.Core.Bool.{Bool, true, false, ◌&&◌, and-false}
use mathlib.Core.Logic.{◌⊎◌, inl, inr}
use Prim.Native.Nat.{ℕ, ◌+◌, ◌≤◌, ◌<◌}
use native.Mathlib.Omega.{arith}
use borrow.Author.Tests.{ltb-true, ltb-false, le-leb, lt-leb, leb-true, leb-false}
use lib.ListN.{length, take, drop}
use lib.Dec.{ltb, leb}
use Rattle.terms.specs.Ascii.{Bytes, ascii}
use Rattle.terms.specs.Words.{pick}
use Rattle.scan.specs.Allowed.{outside, inside, all}
use Rattle.scan.specs.Reach.{up_to}
use Rattle.terms.proofs.Tests.{clash}
use Rattle.scan.proofs.Reach.{up_to_le}
use Rattle.line.specs.Content.{Field, longest, Content}
use Rattle.line.specs.Faults.{Opened, Unclosed, never, more, BadComment, BadByte, plain, before, in_comment, FormFault, long, comment, byte}
use Rattle.line.specs.Forms.{opens, shuts, outer_of, note_of, closes, shut, clean, form_of, fields_at}
use Rattle.line.proofs.Finds.{find-here, find-is, find_first, find_none}
use Rattle.line.proofs.Comments.{outer-at, note-at, closes-some, shut-some, shut_none}
use Rattle.line.proofs.Contents.{opened-outer, opened-note, opened-shut, plain-outer, plain-note, closed-closes, never-closes, content-at, content-shut, content-clean, content-fields, is-content}

-- ## 3: the first comment is closed, with nothing but separators behind it, or `BadComment`
module _ (c : Bytes) where
  opened-here : up_to opens c < length c → Opened c (take (up_to opens c) c) (drop (up_to opens c + 2) c)
  unfolding ascii
  opened-here h = record { spelled = find-is 47 42 c h; first = find_first 47 42 c }

  unclosed-here : (rest : Bytes) → closes rest ≡ false → Unclosed rest
  unfolding ascii
  unclosed-here rest e = go (ltb (up_to shuts rest) (length rest)) refl
    where
      go : (x : Bool) → ltb (up_to shuts rest) (length rest) ≡ x → Unclosed rest
      go true q =
          let k = ltb-true (up_to shuts rest) (length rest) q in
          more (take (up_to shuts rest) rest) (drop (up_to shuts rest + 2) rest) (find-is 42 47 rest k) (find_first 42 47 rest) (sym (closes-some rest k) ∙ e)
      go false q = never (find_none 42 47 rest (ltb-false (up_to shuts rest) (length rest) q))

  pub bad-comment : shut c ≡ false → BadComment c
  bad-comment e = go (ltb (up_to opens c) (length c)) refl
    where
      go : (x : Bool) → ltb (up_to opens c) (length c) ≡ x → BadComment c
      go true q =
          let h = ltb-true (up_to opens c) (length c) q in
          record { outer = take (up_to opens c) c; rest = drop (up_to opens c + 2) c; opened = opened-here h; unclosed = unclosed-here (drop (up_to opens c + 2) c) (sym (shut-some c h) ∙ e) }
      go false q = clash (sym (shut_none c (ltb-false (up_to opens c) (length c) q)) ∙ e)

  pub comment-bad : BadComment c → shut c ≡ false
  comment-bad b = opened-shut c b.outer b.rest b.opened.spelled b.opened.first ∙ go b.unclosed
    where
      go : {rest : Bytes} → Unclosed rest → closes rest ≡ false
      go {rest} (never w) = never-closes rest w
      go {rest} (more text behind e w q) = closed-closes rest text behind e w ∙ q

  -- ## 4: every byte is allowed where it stands, or `BadByte`
  pub bad-byte : clean c ≡ false → BadByte c
  unfolding ascii all
  bad-byte e = go (ltb (up_to opens c) (length c)) refl (all outside (outer_of c)) refl
    where
      second : (a b : Bool) → a ≡ true → (a && b) ≡ false → b ≡ false
      second true b h e = e
      second false b h e = clash (sym h)

      go : (x : Bool) → ltb (up_to opens c) (length c) ≡ x → (y : Bool) → all outside (outer_of c) ≡ y → BadByte c
      go true q false f =
          let h = ltb-true (up_to opens c) (length c) q in
          before (take (up_to opens c) c) (drop (up_to opens c + 2) c) (opened-here h) (ap (all outside) (sym (outer-at c)) ∙ f)
      go true q true f =
          let h = ltb-true (up_to opens c) (length c) q in
          let r = drop (up_to opens c + 2) c in
          let n : note_of c ≡ 47 ∷ 42 ∷ r = note-at c ∙ find-here 47 42 c h in
          let k : all inside (47 ∷ 42 ∷ r) ≡ false = ap (all inside) (sym n) ∙ second (all outside (outer_of c)) (all inside (note_of c)) f e in
          in_comment (take (up_to opens c) c) r (opened-here h) (second (inside 42) (all inside r) refl (second (inside 47) (inside 42 && all inside r) refl k))
      go false q false f =
          let w = find_none 47 42 c (ltb-false (up_to opens c) (length c) q) in
          plain w (ap (all outside) (sym (plain-outer c w)) ∙ f)
      go false q true f =
          let w = find_none 47 42 c (ltb-false (up_to opens c) (length c) q) in
          clash (ap (all inside) (sym (plain-note c w)) ∙ second (all outside (outer_of c)) (all inside (note_of c)) f e)

  pub byte-bad : BadByte c → clean c ≡ false
  unfolding ascii all
  byte-bad (plain w f) = ap (λ (x : Bool). x && all inside (note_of c)) (ap (all outside) (plain-outer c w) ∙ f)
  byte-bad (before outer rest o f) = ap (λ (x : Bool). x && all inside (note_of c)) (ap (all outside) (opened-outer c outer rest o.spelled o.first) ∙ f)
  byte-bad (in_comment outer rest o f) =
      let n : all inside (note_of c) ≡ false = ap (all inside) (opened-note c outer rest o.spelled o.first) ∙ ap (λ (x : Bool). inside 47 && (inside 42 && x)) f ∙ ap (◌&&◌ (inside 47)) (and-false (inside 42)) ∙ and-false (inside 47) in
      ap (◌&&◌ (all outside (outer_of c))) n ∙ and-false (all outside (outer_of c))

  -- ## The form
  -- what `Err` says
  pub form-fault : (n : ℕ) → form_of c ≡ Err n → FormFault c n
  unfolding form_of
  form-fault n e = go (leb (length c) longest) (shut c) (clean c) refl refl refl e
    where
      go : (x y z : Bool) → leb (length c) longest ≡ x → shut c ≡ y → clean c ≡ z → pick x (pick y (pick z (Ok (up_to opens c)) (Err 4)) (Err 3)) (Err 2) ≡ Err n → FormFault c n
      go false y z p q r e = let m : 2 ≡ n = cc in subst (FormFault c) m (long (leb-false (length c) longest p))
      go true false z p q r e = let m : 3 ≡ n = cc in subst (FormFault c) m (comment (leb-true (length c) longest p) (bad-comment q))
      go true true false p q r e = let m : 4 ≡ n = cc in subst (FormFault c) m (byte (leb-true (length c) longest p) (λ b. clash (sym q ∙ comment-bad b)) (bad-byte r))
      go true true true p q r e = absurd (let z : ◌≡◌ {A = ℕ} 0 1 = cc in omega arith)

  -- and when it is answered
  pub fault-form : {n : ℕ} → FormFault c n → form_of c ≡ Err n
  unfolding form_of
  fault-form (long h) = rw (lt-leb (length c) longest h)
  fault-form (comment h b) = rw (le-leb (length c) longest h, comment-bad b)
  fault-form (byte h n b) = go (shut c) refl
    where
      go : (x : Bool) → shut c ≡ x → ◌≡◌ {A = Result ℕ ℕ} (pick (leb (length c) longest) (pick x (pick (clean c) (Ok (up_to opens c)) (Err 4)) (Err 3)) (Err 2)) (Err 4)
      go true q = rw (le-leb (length c) longest h, byte-bad b)
      go false q = absurd (n (bad-comment q))

  -- a content has one fault at most
  pub fault-one : {m n : ℕ} → FormFault c m → FormFault c n → m ≡ n
  fault-one f g = let p = sym (fault-form f) ∙ fault-form g in cc

  -- number by number
  fault-is : {n : ℕ} → FormFault c n → ((n ≡ 2) × (longest < length c)) ⊎ (((n ≡ 3) × (length c ≤ longest) × BadComment c) ⊎ ((n ≡ 4) × (length c ≤ longest) × (BadComment c → ⊥) × BadByte c))
  fault-is (long h) = inl (refl, h)
  fault-is (comment h b) = inr (inl (refl, h, b))
  fault-is (byte h n b) = inr (inr (refl, h, n, b))

  pub bad-number : (n : ℕ) → form_of c ≡ Err n → (n ≡ 2) ⊎ ((n ≡ 3) ⊎ (n ≡ 4))
  bad-number n e = go (fault-is (form-fault n e))
    where
      go : ((n ≡ 2) × (longest < length c)) ⊎ (((n ≡ 3) × (length c ≤ longest) × BadComment c) ⊎ ((n ≡ 4) × (length c ≤ longest) × (BadComment c → ⊥) × BadByte c)) → (n ≡ 2) ⊎ ((n ≡ 3) ⊎ (n ≡ 4))
      go (inl p) = inl p.0
      go (inr (inl p)) = inr (inl p.0)
      go (inr (inr p)) = inr (inr p.0)

  pub bad_2 : form_of c ≡ Err 2 → longest < length c
  bad_2 e = go (fault-is (form-fault 2 e))
    where
      go : (◌≡◌ {A = ℕ} 2 2 × (longest < length c)) ⊎ ((◌≡◌ {A = ℕ} 2 3 × (length c ≤ longest) × BadComment c) ⊎ (◌≡◌ {A = ℕ} 2 4 × (length c ≤ longest) × (BadComment c → ⊥) × BadByte c)) → longest < length c
      go (inl p) = p.1
      go (inr (inl p)) = absurd (let q = p.0 in omega arith)
      go (inr (inr p)) = absurd (let q = p.0 in omega arith)

  pub bad_3 : form_of c ≡ Err 3 → (length c ≤ longest) × BadComment c
  bad_3 e = go (fault-is (form-fault 3 e))
    where
      go : (◌≡◌ {A = ℕ} 3 2 × (longest < length c)) ⊎ ((◌≡◌ {A = ℕ} 3 3 × (length c ≤ longest) × BadComment c) ⊎ (◌≡◌ {A = ℕ} 3 4 × (length c ≤ longest) × (BadComment c → ⊥) × BadByte c)) → (length c ≤ longest) × BadComment c
      go (inl p) = absurd (let q = p.0 in omega arith)
      go (inr (inl p)) = (p.1, p.2)
      go (inr (inr p)) = absurd (let q = p.0 in omega arith)

  pub bad_4 : form_of c ≡ Err 4 → (length c ≤ longest) × (BadComment c → ⊥) × BadByte c
  bad_4 e = go (fault-is (form-fault 4 e))
    where
      go : (◌≡◌ {A = ℕ} 4 2 × (longest < length c)) ⊎ ((◌≡◌ {A = ℕ} 4 3 × (length c ≤ longest) × BadComment c) ⊎ (◌≡◌ {A = ℕ} 4 4 × (length c ≤ longest) × (BadComment c → ⊥) × BadByte c)) → (length c ≤ longest) × (BadComment c → ⊥) × BadByte c
      go (inl p) = absurd (let q = p.0 in omega arith)
      go (inr (inl p)) = absurd (let q = p.0 in omega arith)
      go (inr (inr p)) = (p.1, p.2, p.3)

  passed : (e : ℕ) → form_of c ≡ Ok e → (length c ≤ longest) × (shut c ≡ true) × (clean c ≡ true) × (up_to opens c ≡ e)
  unfolding form_of
  passed e h = go (leb (length c) longest) (shut c) (clean c) refl refl refl h
    where
      go : (x y z : Bool) → leb (length c) longest ≡ x → shut c ≡ y → clean c ≡ z → ◌≡◌ {A = Result ℕ ℕ} (pick x (pick y (pick z (Ok (up_to opens c)) (Err 4)) (Err 3)) (Err 2)) (Ok e) → (length c ≤ longest) × (shut c ≡ true) × (clean c ≡ true) × (up_to opens c ≡ e)
      go true true true p q r h = let k : up_to opens c ≡ e = cc in (leb-true (length c) longest p, q, r, k)
      go true true false p q r h = absurd (let z : ◌≡◌ {A = ℕ} 0 1 = cc in omega arith)
      go true false z p q r h = absurd (let z : ◌≡◌ {A = ℕ} 0 1 = cc in omega arith)
      go false y z p q r h = absurd (let z : ◌≡◌ {A = ℕ} 0 1 = cc in omega arith)

  -- what `Ok` says: the fields end within the content, and it is a content with the fields that stand before that end
  pub body-within : (e : ℕ) → form_of c ≡ Ok e → e ≤ length c
  body-within e h = omega (arith, (passed e h).3, up_to_le opens c)

  pub body-content : (e : ℕ) → form_of c ≡ Ok e → (a : ℕ) → Content a c (fields_at a (take e c))
  body-content e h a =
      let p = passed e h in
      subst (λ (l : Bytes). Content a c (fields_at a l)) (outer-at c ∙ ap (λ (k : ℕ). take k c) p.3) (is-content a c p.0 p.1 p.2)

  -- and when it is answered
  pub content-form : {a : ℕ} {fs : List Field} → (h : Content a c fs) → form_of c ≡ Ok (length h.outer)
  unfolding form_of
  content-form h = rw (le-leb (length c) longest h.short, content-shut h, content-clean h, content-at h)

  pub content-body : {a : ℕ} {fs : List Field} → Content a c fs → (e : ℕ) → form_of c ≡ Ok e → fields_at a (take e c) ≡ fs
  content-body {a} h e f = ap (fields_at a) (sym (outer-at c ∙ ap (λ (k : ℕ). take k c) (passed e f).3)) ∙ content-fields h

  -- ## No fault is the same as a content
  pub content_faultless : {a : ℕ} {fs : List Field} → Content a c fs → (n : ℕ) → FormFault c n → ⊥
  content_faultless h n f =
      let p : Ok (length h.outer) ≡ Err n = sym (content-form h) ∙ fault-form f in
      let z : ◌≡◌ {A = ℕ} 0 1 = cc in
      omega arith

  pub faultless_content : ((n : ℕ) → FormFault c n → ⊥) → (a : ℕ) → Content a c (fields_at a (outer_of c))
  faultless_content none a = go (form_of c) refl
    where
      go : (f : Result ℕ ℕ) → form_of c ≡ f → Content a c (fields_at a (outer_of c))
      go (Err n) e = absurd (none n (form-fault n e))
      go (Ok k) e = subst (λ (l : Bytes). Content a c (fields_at a l)) (sym (outer-at c ∙ ap (λ (j : ℕ). take j c) (passed k e).3)) (body-content k e a)
