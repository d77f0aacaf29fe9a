-- Records one behind the other, as code reads them: each has the length that its fields take. Such bytes are the form of what was read, and a form is read so. Assumes nothing.
use mathlib.Core.Path.{◌≡◌, refl, sym, ap, ap₂, subst, ◌∙◌}
use mathlib.Core.List.{List, [], ◌∷◌, ◌++◌, map, append_assoc, append-nil}
use mathlib.Core.Option.{Option, none, some}
use mathlib.Core.Bool.{Bool, true, false, ◌&&◌}
use Prim.Native.Nat.{ℕ, zero, suc, ◌+◌, ◌-◌, ◌*◌, ◌^◌, ◌≤◌, ◌<◌}
use native.Mathlib.Omega.{arith}
use lib.Dec.{leb, eqb}
use lib.ListN.{length, take, drop, length-append, length-drop, take-append-drop}
use lib.Seq.{take_at, drop_at, drop-drop, length-take-le}
use borrow.Author.Tests.{leb-true, le-leb, eqb-true, eq-eqb}
use Rattle.terms.specs.Ascii.{Bytes}
use Rattle.terms.specs.Words.{Each, Between}
use Rattle.terms.proofs.Tests.{clash}
use Rattle.line.specs.Content.{Field}
use Rattle.law.specs.Tables.{gather}
use Rattle.grammar.proofs.Rows.{each-front, each-behind}
use Rattle.output.specs.Packed.{big_endian}
use Rattle.output.proofs.Packed.{packed-long}
use Rattle.packed_law.specs.Packed.{Slot, figure, angle, title, unsigned, slot_bytes, laid, with_length, LiesAt, NamesLie}
use Rattle.unpackings.proofs.Cutting.{Kind, of_size, of-coordinate, of-name, shape, Fit, placed-cut}
use Rattle.unpackings.proofs.OneNetwork.{laid_append}
use Rattle.packed_tables.proofs.Numbers.{value, value-from, value_there, value-back, signed, signed_back}
use Rattle.packed_tables.proofs.Reading.{named-at, read_one, size-here, read, item-read, items-read}

abbrev pub Small : Bytes → Type 0
Small = Each (λ b. b < 256)

small-take : (k : ℕ) (b : Bytes) → Small b → Small (take k b)
small-take k b s = each-front (λ b. b < 256) (take k b) (drop k b) (subst Small (sym (take-append-drop k b)) s)

pub small_drop : (k : ℕ) (b : Bytes) → Small b → Small (drop k b)
small_drop k b s = each-behind (λ b. b < 256) (take k b) (drop k b) (subst Small (sym (take-append-drop k b)) s)

-- ## Tests
pub both_true : (a b : Bool) → (a && b) ≡ true → (a ≡ true) × (b ≡ true)
both_true true b e = (refl, e)
both_true false b e = clash (sym e)

pub true-both : (a b : Bool) → a ≡ true → b ≡ true → (a && b) ≡ true
true-both true b e d = d
true-both false b e d = clash (sym e)

-- ## Executable
-- how many bytes these fields take here
unfoldable pub sizes : List Kind → Bytes → ℕ
sizes [] b = 0
sizes (k ∷ ks) b = size-here k b + sizes ks (drop (size-here k b) b)

-- they are all there
unfoldable pub there : List Kind → Bytes → Bool
there [] b = true
there (k ∷ ks) b = leb (size-here k b) (length b) && there ks (drop (size-here k b) b)

-- a record of these fields stands here, and its length is theirs
unfoldable pub here : List Kind → Bytes → Bool
here ks b = leb 2 (length b) && (there ks (drop 2 b) && eqb (value (take 2 b)) (sizes ks (drop 2 b)))

-- so many of them
abbrev pub whole-size : List Kind → Bytes → ℕ
whole-size ks b = 2 + sizes ks (drop 2 b)

unfoldable pub all_here : ℕ → List Kind → Bytes → Bool
all_here zero ks b = true
all_here (suc k) ks b = here ks b && all_here k ks (drop (whole-size ks b) b)

-- what is behind them, and where
unfoldable pub after : ℕ → List Kind → Bytes → Bytes
after zero ks b = b
after (suc k) ks b = after k ks (drop (whole-size ks b) b)

unfoldable pub place_after : ℕ → ℕ → List Kind → Bytes → ℕ
place_after place zero ks b = place
place_after place (suc k) ks b = place_after (place + whole-size ks b) k ks (drop (whole-size ks b) b)

pub after-place : (k : ℕ) (ks : List Kind) (b : Bytes) (p : ℕ) → after k ks (drop p b) ≡ drop (place_after p k ks (drop p b)) b
unfolding after place_after
after-place zero ks b p = refl
after-place (suc k) ks b p =
    let w = whole-size ks (drop p b) in
    let d = drop-drop w p b in
    ap (after k ks) d ∙ after-place k ks b (p + w) ∙ ap (λ (l : Bytes). drop (place_after (p + w) k ks l) b) (sym d)

pub after-from : (k p : ℕ) (ks : List Kind) (b x : Bytes) → x ≡ drop p b → after k ks x ≡ drop (place_after p k ks x) b
after-from k p ks b x e = subst (λ (y : Bytes). after k ks y ≡ drop (place_after p k ks y) b) (sym e) (after-place k ks b p)

-- their slots
unfoldable pub records-read : ℕ → ℕ → List Kind → Bytes → List (List Slot)
records-read place zero ks b = []
records-read place (suc k) ks b = read (place + 2) ks (drop 2 b) ∷ records-read (place + whole-size ks b) k ks (drop (whole-size ks b) b)

-- ## BACK: one slot
four-small : (l : Bytes) → length l ≡ 4 → Small l → value l < 4294967296
unfolding value-from
four-small [] h s = absurd (omega arith)
four-small (a ∷ []) h s = absurd (omega arith)
four-small (a ∷ (b ∷ [])) h s = absurd (omega arith)
four-small (a ∷ (b ∷ (c ∷ []))) h s = absurd (omega arith)
four-small (a ∷ (b ∷ (c ∷ (d ∷ [])))) h s = let x = s.0 in let y = s.1.0 in let z = s.1.1.0 in let w = s.1.1.1.0 in omega arith
four-small (a ∷ (b ∷ (c ∷ (d ∷ (e ∷ l))))) h s = absurd (omega arith)

number-back : (k : ℕ) (b : Bytes) → Small b → k ≤ length b → big_endian k (value (take k b)) ≡ take k b
number-back k b s h = value-back k (take k b) (length-take-le k b h) (small-take k b s)

pub record ItemBack (place : ℕ) (k : Kind) (b : Bytes) : Type 0 where
  pub whole : slot_bytes (read_one place k b) ++ drop (size-here k b) b ≡ b
  pub placed : LiesAt place (read_one place k b)
  pub long : length (slot_bytes (read_one place k b)) ≡ size-here k b

item_back : (place : ℕ) (k : Kind) (b : Bytes) → Small b → size-here k b ≤ length b → ItemBack place k b
item_back place (of_size k) b s h = record { whole = ap (λ (x : Bytes). x ++ drop k b) (number-back k b s h) ∙ take-append-drop k b; placed = tt; long = packed-long k (value (take k b)) }
item_back place of-coordinate b s h =
    let v = value (take 4 b) in
    let e : unsigned (signed v) ≡ v = signed_back v (four-small (take 4 b) (length-take-le 4 b h) (small-take 4 b s)) in
    record { whole = ap (λ (n : ℕ). big_endian 4 n ++ drop 4 b) e ∙ ap (λ (x : Bytes). x ++ drop 4 b) (number-back 4 b s h) ∙ take-append-drop 4 b; placed = tt; long = packed-long 4 (unsigned (signed v)) }
item_back place of-name b s h = go (value (take 2 b)) refl h
  where
    Goal : ℕ → Type 0
    Goal v = (slot_bytes (title (named-at place v (drop 2 b))) ++ drop (2 + v) b ≡ b) × (LiesAt place (title (named-at place v (drop 2 b))) × (length (slot_bytes (title (named-at place v (drop 2 b)))) ≡ 2 + v))

    two : 2 ≤ length b → (v : ℕ) → value (take 2 b) ≡ v → big_endian 2 v ≡ take 2 b
    two h v e = ap (big_endian 2) (sym e) ∙ number-back 2 b s h

    goal : (v : ℕ) → value (take 2 b) ≡ v → 2 + v ≤ length b → Goal v
    goal zero e h =
        let z : 2 + 0 ≡ 2 = omega arith in
        (ap₂ (λ (x : Bytes) (k : ℕ). x ++ drop k b) (two (omega arith) 0 e) z ∙ take-append-drop 2 b, (tt, packed-long 2 0 ∙ sym z))
    goal (suc k) e h =
        let d = length-drop 2 b in
        let l : length (take (suc k) (drop 2 b)) ≡ suc k = length-take-le (suc k) (drop 2 b) (omega (arith, d)) in
        let n = take (suc k) (drop 2 b) in (
          ap (λ (x : Bytes). (x ++ n) ++ drop (2 + suc k) b) (ap (big_endian 2) l ∙ two (omega arith) (suc k) e)
              ∙ append_assoc (take 2 b) n (drop (2 + suc k) b) ∙ ap (λ (x : Bytes). take 2 b ++ (n ++ x)) (sym (drop-drop (suc k) 2 b)) ∙ ap (◌++◌ (take 2 b)) (take-append-drop (suc k) (drop 2 b)) ∙ take-append-drop 2 b,
          (refl, length-append (big_endian 2 (length n)) n ∙ ap₂ ◌+◌ (packed-long 2 (length n)) l),
        )

    go : (v : ℕ) → value (take 2 b) ≡ v → 2 + value (take 2 b) ≤ length b → ItemBack place of-name b
    go v e h = let x = goal (value (take 2 b)) refl h in record { whole = x.0; placed = x.1.0; long = x.1.1 }

-- ## BACK: slots
pub record ItemsBack (place : ℕ) (ks : List Kind) (b : Bytes) : Type 0 where
  pub whole : laid (read place ks b) ++ drop (sizes ks b) b ≡ b
  pub placed : NamesLie place (read place ks b)
  pub long : length (laid (read place ks b)) ≡ sizes ks b

items_back : (place : ℕ) (ks : List Kind) (b : Bytes) → Small b → there ks b ≡ true → ItemsBack place ks b
unfolding laid NamesLie read sizes there
items_back place [] b s h = record { whole = refl; placed = tt; long = refl }
items_back place (k ∷ ks) b s h =
    let t = both_true (leb (size-here k b) (length b)) (there ks (drop (size-here k b) b)) h in
    let one = item_back place k b s (leb-true (size-here k b) (length b) t.0) in
    let more = items_back (place + size-here k b) ks (drop (size-here k b) b) (small_drop (size-here k b) b s) t.1 in
    let i = read_one place k b in
    let l = gather slot_bytes (read (place + size-here k b) ks (drop (size-here k b) b)) in
    record {
      whole = append_assoc (slot_bytes i) l (drop (size-here k b + sizes ks (drop (size-here k b) b)) b)
          ∙ ap (λ (x : Bytes). slot_bytes i ++ (l ++ x)) (sym (drop-drop (sizes ks (drop (size-here k b) b)) (size-here k b) b))
          ∙ ap (◌++◌ (slot_bytes i)) more.whole ∙ one.whole;
      placed = (one.placed, subst (λ (j : ℕ). NamesLie (place + j) (read (place + size-here k b) ks (drop (size-here k b) b))) (sym one.long) more.placed);
      long = length-append (slot_bytes i) l ∙ ap₂ ◌+◌ one.long more.long;
    }

-- ## BACK: a record, and records
pub record RecordBack (place : ℕ) (ks : List Kind) (b : Bytes) : Type 0 where
  pub whole : laid (with_length (read (place + 2) ks (drop 2 b))) ++ drop (whole-size ks b) b ≡ b
  pub placed : NamesLie place (with_length (read (place + 2) ks (drop 2 b)))
  pub long : length (laid (with_length (read (place + 2) ks (drop 2 b)))) ≡ whole-size ks b

pub record-back : (place : ℕ) (ks : List Kind) (b : Bytes) → Small b → here ks b ≡ true → RecordBack place ks b
unfolding laid NamesLie here
record-back place ks b s h =
    let t = both_true (leb 2 (length b)) (there ks (drop 2 b) && eqb (value (take 2 b)) (sizes ks (drop 2 b))) h in
    let u = both_true (there ks (drop 2 b)) (eqb (value (take 2 b)) (sizes ks (drop 2 b))) t.1 in
    let x = items_back (place + 2) ks (drop 2 b) (small_drop 2 b s) u.0 in
    let l = read (place + 2) ks (drop 2 b) in
    let size : length (laid l) ≡ value (take 2 b) = x.long ∙ sym (eqb-true (value (take 2 b)) (sizes ks (drop 2 b)) u.1) in
    let head : big_endian 2 (length (laid l)) ≡ take 2 b = ap (big_endian 2) size ∙ number-back 2 b s (leb-true 2 (length b) t.0) in
    record {
      whole = ap (λ (y : Bytes). (y ++ laid l) ++ drop (whole-size ks b) b) head ∙ append_assoc (take 2 b) (laid l) (drop (whole-size ks b) b)
          ∙ ap (λ (y : Bytes). take 2 b ++ (laid l ++ y)) (sym (drop-drop (sizes ks (drop 2 b)) 2 b)) ∙ ap (◌++◌ (take 2 b)) x.whole ∙ take-append-drop 2 b;
      placed = (tt, subst (λ (j : ℕ). NamesLie (place + j) l) (sym (packed-long 2 (length (laid l)))) x.placed);
      long = length-append (big_endian 2 (length (laid l))) (laid l) ∙ ap₂ ◌+◌ (packed-long 2 (length (laid l))) x.long;
    }

pub placed-both : (place : ℕ) (x y : List Slot) → NamesLie place x → NamesLie (place + length (laid x)) y → NamesLie place (x ++ y)
unfolding laid NamesLie
placed-both place [] y p q = subst (λ (k : ℕ). NamesLie k y) (let e : place + 0 ≡ place = omega arith in e) q
placed-both place (i ∷ x) y p q =
    let a = length-append (slot_bytes i) (gather slot_bytes x) in
    let e : place + length (slot_bytes i ++ gather slot_bytes x) ≡ (place + length (slot_bytes i)) + length (gather slot_bytes x) = omega arith in
    (p.0, placed-both (place + length (slot_bytes i)) x y p.1 (subst (λ (k : ℕ). NamesLie k y) e q))

pub record RecordsBack (place k : ℕ) (ks : List Kind) (b : Bytes) : Type 0 where
  pub whole : laid (gather with_length (records-read place k ks b)) ++ after k ks b ≡ b
  pub placed : NamesLie place (gather with_length (records-read place k ks b))
  pub ends : place + length (laid (gather with_length (records-read place k ks b))) ≡ place_after place k ks b

-- THE LAW, BACK
pub records-back : (place k : ℕ) (ks : List Kind) (b : Bytes) → Small b → all_here k ks b ≡ true → RecordsBack place k ks b
unfolding laid NamesLie all_here after place_after records-read
records-back place zero ks b s h = record { whole = nothing-laid b; placed = nothing_placed place; ends = nothing-long place }
  where
    nothing-laid : (b : Bytes) → laid [] ++ b ≡ b
    nothing-laid b = refl

    nothing_placed : (place : ℕ) → NamesLie place []
    nothing_placed place = tt

    nothing-long : (place : ℕ) → place + length (laid []) ≡ place
    nothing-long place = omega arith
records-back place (suc k) ks b s h =
    let t = both_true (here ks b) (all_here k ks (drop (whole-size ks b) b)) h in
    let one = record-back place ks b s t.0 in
    let more = records-back (place + whole-size ks b) k ks (drop (whole-size ks b) b) (small_drop (whole-size ks b) b s) t.1 in
    let r = with_length (read (place + 2) ks (drop 2 b)) in
    let l = gather with_length (records-read (place + whole-size ks b) k ks (drop (whole-size ks b) b)) in
    let a = ap (λ (x : Bytes). length x) (laid_append r l) ∙ length-append (laid r) (laid l) in
    let long = one.long in
    let ends = more.ends in
    let e : place + length (laid (r ++ l)) ≡ (place + whole-size ks b) + length (laid l) = omega arith in
    record {
      whole = ap (λ (x : Bytes). x ++ after k ks (drop (whole-size ks b) b)) (laid_append r l) ∙ append_assoc (laid r) (laid l) (after k ks (drop (whole-size ks b) b)) ∙ ap (◌++◌ (laid r)) more.whole ∙ one.whole;
      placed = placed-both place r l one.placed (subst (λ (j : ℕ). NamesLie (place + j) l) (sym long) more.placed);
      ends = e ∙ ends;
    }

-- ## THERE
items-there : (place : ℕ) (l : List Slot) (x : Bytes) → Each Fit l → NamesLie place l → (there (map shape l) (laid l ++ x) ≡ true) × (sizes (map shape l) (laid l ++ x) ≡ length (laid l))
unfolding laid NamesLie there sizes
items-there place [] x f p = (refl, refl)
items-there place (i ∷ l) x f p =
    let joined = append_assoc (slot_bytes i) (gather slot_bytes l) x in
    let one = (item-read place i (gather slot_bytes l ++ x) f.0 p.0).1 in
    let more = items-there (place + length (slot_bytes i)) l x f.1 p.1 in
    let b = (slot_bytes i ++ gather slot_bytes l) ++ x in
    let size : size-here (shape i) b ≡ length (slot_bytes i) = ap (size-here (shape i)) joined ∙ one in
    let left : drop (size-here (shape i) b) b ≡ gather slot_bytes l ++ x = ap₂ drop size joined ∙ drop_at (slot_bytes i) (gather slot_bytes l ++ x) (length (slot_bytes i)) refl in
    let a₁ = length-append (slot_bytes i ++ gather slot_bytes l) x in
    let a₂ = length-append (slot_bytes i) (gather slot_bytes l) in (
      true-both (leb (size-here (shape i) b) (length b)) (there (map shape l) (drop (size-here (shape i) b) b)) (le-leb (size-here (shape i) b) (length b) (omega arith)) (ap (there (map shape l)) left ∙ more.0),
      ap₂ ◌+◌ size (ap (sizes (map shape l)) left ∙ more.1) ∙ sym a₂,
    )

pub record RecordThere (place : ℕ) (r : List Slot) (ks : List Kind) (x b : Bytes) : Type 0 where
  pub here_so : here ks b ≡ true
  pub is : read (place + 2) ks (drop 2 b) ≡ r
  pub left : drop (whole-size ks b) b ≡ x
  pub long : whole-size ks b ≡ length (laid (with_length r))

pub record-there : (place : ℕ) (r : List Slot) (x : Bytes) → Each Fit (with_length r) → NamesLie place (with_length r) → RecordThere place r (map shape r) x (laid (with_length r) ++ x)
unfolding laid NamesLie here
record-there place r x f p =
    let size = length (laid r) in
    let joined = append_assoc (big_endian 2 size) (laid r) x in
    let b = (big_endian 2 size ++ laid r) ++ x in
    let placed : NamesLie (place + 2) r = subst (λ (j : ℕ). NamesLie (place + j) r) (packed-long 2 size) p.1 in
    let behind : drop 2 b ≡ laid r ++ x = ap (drop 2) joined ∙ drop_at (big_endian 2 size) (laid r ++ x) 2 (packed-long 2 size) in
    let v : value (take 2 b) ≡ size = ap (λ (l : Bytes). value (take 2 l)) joined ∙ ap value (take_at (big_endian 2 size) (laid r ++ x) 2 (packed-long 2 size)) ∙ value_there 2 size f.0 in
    let y = items-there (place + 2) r x f.1 placed in
    let s : sizes (map shape r) (drop 2 b) ≡ size = ap (sizes (map shape r)) behind ∙ y.1 in
    let a₁ = length-append (big_endian 2 size ++ laid r) x in
    let a₂ = length-append (big_endian 2 size) (laid r) in
    let a₃ = packed-long 2 size in
    record {
      here_so = true-both (leb 2 (length b)) (there (map shape r) (drop 2 b) && eqb (value (take 2 b)) (sizes (map shape r) (drop 2 b))) (le-leb 2 (length b) (omega arith))
          (true-both (there (map shape r) (drop 2 b)) (eqb (value (take 2 b)) (sizes (map shape r) (drop 2 b))) (ap (there (map shape r)) behind ∙ y.0) (eq-eqb (value (take 2 b)) (sizes (map shape r) (drop 2 b)) (v ∙ sym s)));
      is = ap (read (place + 2) (map shape r)) behind ∙ items-read (place + 2) r x f.1 placed;
      left = ap (λ (k : ℕ). drop (2 + k) b) s ∙ sym (drop-drop size 2 b) ∙ ap (drop size) behind ∙ drop_at (laid r) x size refl;
      long = ap (λ (k : ℕ). 2 + k) s ∙ (let e : 2 + size ≡ length (big_endian 2 size ++ laid r) = omega arith in e);
    }

pub record RecordsThere (place k : ℕ) (rs : List (List Slot)) (ks : List Kind) (x b : Bytes) : Type 0 where
  pub here_so : all_here k ks b ≡ true
  pub are : records-read place k ks b ≡ rs
  pub left : after k ks b ≡ x
  pub ends : place_after place k ks b ≡ place + length (laid (gather with_length rs))

-- THE LAW, THERE
pub records-there : (place : ℕ) (ks : List Kind) (rs : List (List Slot)) (x : Bytes) → Each (λ r. map shape r ≡ ks) rs → Each Fit (gather with_length rs) → NamesLie place (gather with_length rs) → RecordsThere place (length rs) rs ks x (laid (gather with_length rs) ++ x)
unfolding laid NamesLie all_here after place_after records-read
records-there place ks [] x h f p = record { here_so = refl; are = refl; left = nothing-laid x; ends = nothing-long place }
  where
    nothing-laid : (b : Bytes) → laid [] ++ b ≡ b
    nothing-laid b = refl

    nothing-long : (place : ℕ) → place ≡ place + length (laid [])
    nothing-long place = omega arith
records-there place ks (r ∷ rs) x h f p =
    let l = gather with_length rs in
    let cut = placed-cut place (with_length r) l p in
    let joined : laid (with_length r ++ l) ++ x ≡ laid (with_length r) ++ (laid l ++ x) = ap (λ (y : Bytes). y ++ x) (laid_append (with_length r) l) ∙ append_assoc (laid (with_length r)) (laid l) x in
    let one = subst (λ (ks : List Kind). RecordThere place r ks (laid l ++ x) (laid (with_length r) ++ (laid l ++ x))) h.0 (record-there place r (laid l ++ x) (each-front Fit (with_length r) l f) cut.0) in
    let b = laid (with_length r) ++ (laid l ++ x) in
    let more = records-there (place + length (laid (with_length r))) ks rs x h.1 (each-behind Fit (with_length r) l f) cut.1 in
    let a = ap (λ (y : Bytes). length y) (laid_append (with_length r) l) ∙ length-append (laid (with_length r)) (laid l) in
    let whole : RecordsThere place (suc (length rs)) (r ∷ rs) ks x b = record {
      here_so = true-both (here ks b) (all_here (length rs) ks (drop (whole-size ks b) b)) one.here_so (ap (all_here (length rs) ks) one.left ∙ more.here_so);
      are = ap₂ (λ (y : List Slot) (z : List (List Slot)). y ∷ z) one.is (ap₂ (λ (j : ℕ) (y : Bytes). records-read (place + j) (length rs) ks y) one.long one.left ∙ more.are);
      left = ap (after (length rs) ks) one.left ∙ more.left;
      ends = ap₂ (λ (j : ℕ) (y : Bytes). place_after (place + j) (length rs) ks y) one.long one.left ∙ more.ends ∙ (let e : (place + length (laid (with_length r))) + length (laid l) ≡ place + length (laid (with_length r ++ l)) = omega arith in e);
    } in
    subst (RecordsThere place (suc (length rs)) (r ∷ rs) ks x) (sym joined) whole
