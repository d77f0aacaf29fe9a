-- The file's record (packed_frame::file_at): it says that the record has its length and its names are names; it tells the counts, the file's row and the place behind. Assumes nothing.
use Rattle.std.specs.Prelude as Rust
use Rattle.std.proofs.lemmas.Option.{same_Some}
use Rattle.std.specs.Prelude.{Some, None}
use mathlib.Core.Path.{◌≡◌, refl, sym, ap, subst, ◌∙◌}
use mathlib.Core.List.{List, [], ◌∷◌}
use mathlib.Core.Option.{Option, none, some}
use mathlib.Core.Bool.{Bool, true, false, ◌&&◌}
use Prim.Native.Nat.{ℕ, zero, suc, ◌+◌, ◌≤◌}
use native.Mathlib.Omega.{arith}
use lib.Dec.{leb, eqb}
use lib.ListN.{length, take, drop, length-drop}
use lib.Seq.{drop-drop, length-take-le}
use borrow.Author.Tests.{leb-true, le-leb, eqb-true, eqb-false, eq-eqb}
use Rattle.terms.specs.Ascii.{Bytes}
use Rattle.terms.specs.Words.{pick}
use Rattle.terms.proofs.Tests.{clash}
use Rattle.line.specs.Content.{Field}
use Rattle.counts.specs.declared.Counts.{Counts}
use Rattle.rows.specs.declared.FileRow.{FileRow}
use Rattle.grammar.specs.Tables as Typed
use Rattle.house_text.specs.Names.{IsName}
use Rattle.replies.specs.Replies.{stretch}
use Rattle.packed_law.specs.Packed.{Slot}
use Rattle.unpackings.proofs.Cutting.{Kind, of_size, of-name}
use Rattle.unpackings.proofs.Rows.{at}
use Rattle.packed_rows.specs.Points.{four_at_of}
use Rattle.packed_tables.proofs.Numbers.{value}
use Rattle.packed_tables.proofs.Reading.{named-at, read}
use Rattle.packed_tables.proofs.Records.{sizes, there, here, whole-size, both_true, true-both}
use Rattle.packed_tables.proofs.Whole.{file-kinds, file-items, behind-file, name_in, or-none, rows_told}
use Rattle.packed_tables.proofs.Points.{four-value}
use Rattle.packed_frame.specs.Names.{two_at, name_size_of}
use Rattle.packed_frame.specs.File.{counts, the_the_stretch_of, second_at, file_end, names_right, the_file_row_of, file_at_of}
use Rattle.packed_frame.proofs.FileLaws.{missing, given, file-told}
use Rattle.frame_tables.proofs.Fields.{AreNames, told, two-value, name-so, name-all, there-front, sizes-front}

-- ## What is told of it
-- the counts that its slots are
abbrev pub counts_of : List Slot → Counts
counts_of f = record { segments = at 0 f; lanes = at 1 f; zones = at 2 f; spots = at 3 f; points = at 4 f; checkpoints = at 5 f; stops = at 6 f; exits = at 7 f }

-- names by their places, as an acceptance replies them
abbrev pub the_row_of : Typed.FileRow Field → FileRow
the_row_of r = record { name = stretch (some r.name); version = stretch r.version; date = stretch r.date }

-- ## A name by its place
named-stretch : (place n : ℕ) (l : Bytes) → n ≤ length l → stretch (named-at place n l) ≡ the_the_stretch_of (place + 2) n
named-stretch place zero l h = missing (place + 2) 0 refl
named-stretch place (suc k) l h = let e = length-take-le (suc k) l h in (λ i. record { start = place + 2; length = e i }) ∙ given (place + 2) (suc k) (λ z. omega arith)

some-given : (place n : ℕ) (l : Bytes) → (n ≡ 0 → ⊥) → some (or-none (named-at place n l)) ≡ named-at place n l
some-given place zero l h = absurd (h refl)
some-given place (suc k) l h = refl

own_name : (place n : ℕ) (l : Bytes) → IsName (or-none (named-at place n l)) → AreNames (named-at place n l) × (n ≡ 0 → ⊥)
own_name place zero l h = let low = h.long.low in absurd (omega arith)
own_name place (suc k) l h = ((h, tt), λ z. omega arith)

name-own : (place n : ℕ) (l : Bytes) → AreNames (named-at place n l) → (n ≡ 0 → ⊥) → IsName (or-none (named-at place n l))
name-own place zero l h z = absurd (z refl)
name-own place (suc k) l h z = h.0

-- ## Names in a row
names-there : (ks : List Kind) (b : Bytes) (p : ℕ) → there (of-name ∷ ks) (drop p b) ≡ (leb (2 + told b p) (length (drop p b)) && there ks (drop (p + 2 + told b p) b))
unfolding there
names-there ks b p =
    let e : p + (2 + told b p) ≡ p + 2 + told b p = omega arith in
    ap (λ (y : Bytes). leb (2 + told b p) (length (drop p b)) && there ks y) (drop-drop (2 + told b p) p b ∙ ap (λ (k : ℕ). drop k b) e)

names-sizes : (ks : List Kind) (b : Bytes) (p : ℕ) → sizes (of-name ∷ ks) (drop p b) ≡ (2 + told b p) + sizes ks (drop (p + 2 + told b p) b)
unfolding sizes
names-sizes ks b p =
    let e : p + (2 + told b p) ≡ p + 2 + told b p = omega arith in
    ap (λ (y : Bytes). (2 + told b p) + sizes ks y) (drop-drop (2 + told b p) p b ∙ ap (λ (k : ℕ). drop k b) e)

nothing-there : (b : Bytes) → there [] b ≡ true
unfolding there
nothing-there b = refl

nothing-long : (b : Bytes) → sizes [] b ≡ 0
unfolding sizes
nothing-long b = refl

abbrev eight : List Kind
eight = of_size 4 ∷ of_size 4 ∷ of_size 4 ∷ of_size 4 ∷ of_size 4 ∷ of_size 4 ∷ of_size 4 ∷ of_size 4 ∷ []

-- ## Its fields
module _ (b : Bytes) where
  -- where the lengths of the names stand, and the place behind
  abbrev q₁ : ℕ
  q₁ = 39

  abbrev q₂ : ℕ
  q₂ = q₁ + 2 + told b q₁

  abbrev q₃ : ℕ
  q₃ = q₂ + 2 + told b q₂

  seven : drop 2 (drop 5 b) ≡ drop 7 b
  seven = drop-drop 2 5 b

  names_at : drop 32 (drop 2 (drop 5 b)) ≡ drop q₁ b
  names_at = ap (drop 32) seven ∙ drop-drop 32 7 b

  record FileHere : Type 0 where
    first : 39 + 2 + told b 39 ≤ length b
    second : q₂ + 2 + told b q₂ ≤ length b
    long : told b 5 + 7 ≡ q₃

  abbrev one : ℕ → Bool
  one q = leb (2 + told b q) (length (drop q b))

  there-so : there file-kinds (drop 2 (drop 5 b)) ≡ (leb 32 (length (drop 2 (drop 5 b))) && (one q₁ && (one q₂ && true)))
  there-so =
      there-front eight (of-name ∷ of-name ∷ []) (drop 2 (drop 5 b)) tt
      ∙ ap (λ (x : Bool). leb 32 (length (drop 2 (drop 5 b))) && x)
      (ap (there (of-name ∷ of-name ∷ [])) names_at ∙ names-there (of-name ∷ []) b q₁
      ∙ ap (λ (x : Bool). one q₁ && x) (names-there [] b q₂ ∙ ap (λ (x : Bool). one q₂ && x) (nothing-there (drop q₃ b))))

  sizes-so : sizes file-kinds (drop 2 (drop 5 b)) + 7 ≡ q₃
  sizes-so =
      let a = sizes-front eight (of-name ∷ of-name ∷ []) (drop 2 (drop 5 b)) tt in
      let c = ap (sizes (of-name ∷ of-name ∷ [])) names_at in
      let d₁ = names-sizes (of-name ∷ []) b q₁ in
      let d₂ = names-sizes [] b q₂ in
      let z = nothing-long (drop q₃ b) in
      omega arith

  pub behind-so : 5 + whole-size file-kinds (drop 5 b) ≡ q₃
  behind-so = let s = sizes-so in omega arith

  inside : (q : ℕ) → one q ≡ true → q + 2 + told b q ≤ length b
  inside q e = let w = leb-true (2 + told b q) (length (drop q b)) e in let l = length-drop q b in omega arith

  so-inside : (q : ℕ) → q + 2 + told b q ≤ length b → one q ≡ true
  so-inside q h = let l = length-drop q b in le-leb (2 + told b q) (length (drop q b)) (omega arith)

  here-file : here file-kinds (drop 5 b) ≡ true → FileHere
  unfolding here
  here-file h =
      let x = drop 5 b in
      let t = both_true (leb 2 (length x)) (there file-kinds (drop 2 x) && eqb (value (take 2 x)) (sizes file-kinds (drop 2 x))) h in
      let u = both_true (there file-kinds (drop 2 x)) (eqb (value (take 2 x)) (sizes file-kinds (drop 2 x))) t.1 in
      let v = both_true (leb 32 (length (drop 2 x))) (one q₁ && (one q₂ && true)) (sym there-so ∙ u.0) in
      let w₁ = both_true (one q₁) (one q₂ && true) v.1 in
      let w₂ = both_true (one q₂) true w₁.1 in
      let e = eqb-true (value (take 2 x)) (sizes file-kinds (drop 2 x)) u.1 in
      let s = sizes-so in
      record { first = inside q₁ w₁.0; second = inside q₂ w₂.0; long = ap (λ (n : ℕ). n + 7) e ∙ s }

  file-here : FileHere → here file-kinds (drop 5 b) ≡ true
  unfolding here
  file-here f =
      let x = drop 5 b in
      let w = f.first in
      let l₀ = length-drop 5 b in
      let l₁ = length-drop 2 x in
      let s = sizes-so in
      let g = f.long in
      true-both (leb 2 (length x)) (there file-kinds (drop 2 x) && eqb (value (take 2 x)) (sizes file-kinds (drop 2 x))) (le-leb 2 (length x) (omega arith))
      (true-both (there file-kinds (drop 2 x)) (eqb (value (take 2 x)) (sizes file-kinds (drop 2 x)))
      (there-so ∙ true-both (leb 32 (length (drop 2 x))) (one q₁ && (one q₂ && true)) (le-leb 32 (length (drop 2 x)) (omega arith))
      (true-both (one q₁) (one q₂ && true) (so-inside q₁ f.first) (true-both (one q₂) true (so-inside q₂ f.second) refl)))
      (eq-eqb (value (take 2 x)) (sizes file-kinds (drop 2 x)) (omega arith)))

  -- ## Its slots
  abbrev items : List Slot
  items = file-items (drop 5 b)

  y₂ : drop 4 (drop 2 (drop 5 b)) ≡ drop 11 b
  y₂ = ap (drop 4) seven ∙ drop-drop 4 7 b

  y₃ : drop 4 (drop 4 (drop 2 (drop 5 b))) ≡ drop 15 b
  y₃ = ap (drop 4) y₂ ∙ drop-drop 4 11 b

  y₄ : drop 4 (drop 4 (drop 4 (drop 2 (drop 5 b)))) ≡ drop 19 b
  y₄ = ap (drop 4) y₃ ∙ drop-drop 4 15 b

  y₅ : drop 4 (drop 4 (drop 4 (drop 4 (drop 2 (drop 5 b))))) ≡ drop 23 b
  y₅ = ap (drop 4) y₄ ∙ drop-drop 4 19 b

  y₆ : drop 4 (drop 4 (drop 4 (drop 4 (drop 4 (drop 2 (drop 5 b)))))) ≡ drop 27 b
  y₆ = ap (drop 4) y₅ ∙ drop-drop 4 23 b

  y₇ : drop 4 (drop 4 (drop 4 (drop 4 (drop 4 (drop 4 (drop 2 (drop 5 b))))))) ≡ drop 31 b
  y₇ = ap (drop 4) y₆ ∙ drop-drop 4 27 b

  y₈ : drop 4 (drop 4 (drop 4 (drop 4 (drop 4 (drop 4 (drop 4 (drop 2 (drop 5 b)))))))) ≡ drop 35 b
  y₈ = ap (drop 4) y₇ ∙ drop-drop 4 31 b

  abbrev n₁ : Bytes
  n₁ = drop 4 (drop 4 (drop 4 (drop 4 (drop 4 (drop 4 (drop 4 (drop 4 (drop 2 (drop 5 b)))))))))

  abbrev n₂ : Bytes
  n₂ = drop (2 + value (take 2 n₁)) n₁

  x₁ : n₁ ≡ drop q₁ b
  x₁ = ap (drop 4) y₈ ∙ drop-drop 4 35 b

  apart : (p n : ℕ) → p + (2 + n) ≡ p + 2 + n
  apart p n = omega arith

  x₂ : n₂ ≡ drop q₂ b
  x₂ = (λ i. drop (2 + value (take 2 (x₁ i))) (x₁ i)) ∙ drop-drop (2 + told b q₁) q₁ b ∙ ap (λ (k : ℕ). drop k b) (apart q₁ (told b q₁))

  p₂ : q₁ + (2 + value (take 2 n₁)) ≡ q₂
  p₂ = ap (λ (l : Bytes). q₁ + (2 + value (take 2 l))) x₁ ∙ apart q₁ (told b q₁)

  abbrev name-at : ℕ → Option Field
  name-at q = named-at q (told b q) (drop 2 (drop q b))

  first-name : name_in 8 items ≡ name-at q₁
  unfolding read
  first-name = λ i. named-at q₁ (value (take 2 (x₁ i))) (drop 2 (x₁ i))

  second-name : name_in 9 items ≡ name-at q₂
  unfolding read
  second-name = λ i. named-at (p₂ i) (value (take 2 (x₂ i))) (drop 2 (x₂ i))

  count-is : (q : ℕ) → q + 4 ≤ length b → (l : Bytes) → l ≡ drop q b → value (take 4 l) ≡ four_at_of b q
  count-is q h l e = ap (λ (l : Bytes). value (take 4 l)) e ∙ sym (four-value b q h)

  counts-so : 39 ≤ length b → counts_of items ≡ counts b
  unfolding read
  counts-so h =
      let c₁ = count-is 7 (omega arith) _ seven in
      let c₂ = count-is 11 (omega arith) _ y₂ in
      let c₃ = count-is 15 (omega arith) _ y₃ in
      let c₄ = count-is 19 (omega arith) _ y₄ in
      let c₅ = count-is 23 (omega arith) _ y₅ in
      let c₆ = count-is 27 (omega arith) _ y₆ in
      let c₇ = count-is 31 (omega arith) _ y₇ in
      let c₈ = count-is 35 (omega arith) _ y₈ in
      λ i. record { segments = c₁ i; lanes = c₂ i; zones = c₃ i; spots = c₄ i; points = c₅ i; checkpoints = c₆ i; stops = c₇ i; exits = c₈ i }

  name-stretch : (q : ℕ) → q + 2 + told b q ≤ length b → stretch (name-at q) ≡ the_the_stretch_of (q + 2) (told b q)
  name-stretch q h = let l₀ = length-drop q b in let l₁ = length-drop 2 (drop q b) in named-stretch q (told b q) (drop 2 (drop q b)) (omega arith)

  -- ## The row, and the names
  abbrev row : Typed.FileRow Field
  row = (rows_told (drop 5 b)).file

  row_is : row ≡ record { name = or-none (name_in 8 items); version = name_in 9 items; date = none }
  unfolding rows_told
  row_is = refl

  first-stretch : FileHere → (told b q₁ ≡ 0 → ⊥) → stretch (some row.name) ≡ the_the_stretch_of 41 (told b q₁)
  first-stretch f z = ap (λ (r : Typed.FileRow Field). stretch (some r.name)) row_is ∙ ap (λ (v : Option Field). stretch (some (or-none v))) first-name ∙ ap stretch (some-given q₁ (told b q₁) (drop 2 (drop q₁ b)) z) ∙ name-stretch q₁ f.first

  second-stretch : FileHere → stretch row.version ≡ the_the_stretch_of (q₂ + 2) (told b q₂)
  second-stretch f = ap (λ (r : Typed.FileRow Field). stretch r.version) row_is ∙ ap stretch second-name ∙ name-stretch q₂ f.second

  -- L12: no date
  no-stretch : stretch row.date ≡ record { start = 0; length = 0 }
  no-stretch = ap (λ (r : Typed.FileRow Field). stretch r.date) row_is

  -- what code found
  record Found : Type 0 where
    is-there : told b 39 ≡ 0 → ⊥
    s₁ : name_size_of b 39 ≡ told b 39
    s₂ : name_size_of b q₂ ≡ told b q₂
    g₁ : name_size_of b 39 ≡ 129 → ⊥
    g₂ : name_size_of b q₂ ≡ 129 → ⊥

  found-told : FileHere → Found → file_at_of b ≡ Some (counts_of items, the_row_of row, 5 + whole-size file-kinds (drop 5 b))
  found-told f g =
      let w = f.first in
      let s₁ = g.s₁ in let s₂ = g.s₂ in
      let e = two-value b 5 (omega arith) in
      sym (file-told b (told b q₁) (sym s₁) g.is-there (λ z. g.g₁ (s₁ ∙ z)) (told b q₂) (sym s₂) (λ z. g.g₂ (s₂ ∙ z)) (told b 5) (sym e) f.long
      (counts_of items) (counts-so (omega arith)) (stretch (some row.name)) (stretch row.version) (first-stretch f g.is-there) (second-stretch f))
      ∙ (λ i. Some (counts_of items, record { name = stretch (some row.name); version = stretch row.version; date = sym no-stretch i }, sym behind-so i))

  -- ## The judge
  pub record FileSo (c : Counts) (r : FileRow) (end : ℕ) : Type 0 where
    pub here_so : here file-kinds (drop 5 b) ≡ true
    pub counts-told : c ≡ counts_of (file-items (drop 5 b))
    pub row_told : r ≡ the_row_of (rows_told (drop 5 b)).file
    pub place_so : end ≡ 5 + whole-size file-kinds (drop 5 b)
    pub left_so : drop end b ≡ behind-file (drop 5 b)
    pub name : IsName (rows_told (drop 5 b)).file.name
    pub version : AreNames (rows_told (drop 5 b)).file.version
    pub date : AreNames (rows_told (drop 5 b)).file.date

  record Read : Type 0 where
    named : names_right b ≡ true
    long : two_at b 5 + 7 ≡ file_end b

  was_read : (c : Counts) (r : FileRow) (end : ℕ) → file_at_of b ≡ Some (c, r, end) → Read
  unfolding file_at_of
  was_read c r end e = go (names_right b) refl (eqb (two_at b 5 + 7) (file_end b)) refl e
    where
      go : (x : Bool) → names_right b ≡ x → (y : Bool) → eqb (two_at b 5 + 7) (file_end b) ≡ y → ◌≡◌ {A = Rust.Option (Counts × FileRow × ℕ)} (pick x (pick y (Some (counts b, the_file_row_of b, file_end b)) None) None) (Some (c, r, end)) → Read
      go true p true q h = record { named = p; long = eqb-true (two_at b 5 + 7) (file_end b) q }
      go true p false q h = absurd (let z : ◌≡◌ {A = ℕ} 0 1 = cc in omega arith)
      go false p y q h = absurd (let z : ◌≡◌ {A = ℕ} 0 1 = cc in omega arith)

  record Named : Type 0 where
    some : name_size_of b 39 ≡ 0 → ⊥
    first : name_size_of b 39 ≡ 129 → ⊥
    second : name_size_of b (second_at b) ≡ 129 → ⊥

  were-named : names_right b ≡ true → Named
  unfolding names_right
  were-named e = go (eqb (name_size_of b 39) 0) refl (eqb (name_size_of b 39) 129) refl (eqb (name_size_of b (second_at b)) 129) refl e
    where
      go : (p : Bool) → eqb (name_size_of b 39) 0 ≡ p → (q : Bool) → eqb (name_size_of b 39) 129 ≡ q → (r : Bool) → eqb (name_size_of b (second_at b)) 129 ≡ r
          → pick p false (pick q false (pick r false true)) ≡ true → Named
      go true ep q eq r er h = clash (sym h)
      go false ep true eq r er h = clash (sym h)
      go false ep false eq true er h = clash (sym h)
      go false ep false eq false er h = record { some = eqb-false (name_size_of b 39) 0 ep; first = eqb-false (name_size_of b 39) 129 eq; second = eqb-false (name_size_of b (second_at b)) 129 er }

  told-so : (c d : Counts) (r s : FileRow) (m n : ℕ) → ◌≡◌ {A = Rust.Option (Counts × FileRow × ℕ)} (Some (c, r, m)) (Some (d, s, n)) → (c ≡ d) × ((r ≡ s) × (m ≡ n))
  told-so c d r s m n e = let p = same_Some (c, r, m) (d, s, n) e in (ap (λ x. x.0) p, (ap (λ x. x.1) p, ap (λ x. x.2) p))

  -- THE LAW: what is told is so
  pub file-so : (c : Counts) (r : FileRow) (end : ℕ) → file_at_of b ≡ Some (c, r, end) → FileSo c r end
  file-so c r end h =
      let d = was_read c r end h in
      let n = were-named d.named in
      let a₁ = name-so b q₁ n.first in
      let s₁ = a₁.1 in
      let at₂ : second_at b ≡ q₂ = ap (λ (k : ℕ). 39 + 2 + k) s₁ in
      let g₂ : name_size_of b q₂ ≡ 129 → ⊥ = λ z. n.second (ap (name_size_of b) at₂ ∙ z) in
      let a₂ = name-so b q₂ g₂ in
      let s₂ = a₂.1 in
      let at₃ : file_end b ≡ q₃ = ap (λ (k : ℕ). k + 2 + name_size_of b k) at₂ ∙ ap (λ (k : ℕ). q₂ + 2 + k) s₂ in
      let w₁ = a₁.0.whole in
      let e = two-value b 5 (omega arith) in
      let f : FileHere = record { first = w₁; second = a₂.0.whole; long = ap (λ (k : ℕ). k + 7) (sym e) ∙ d.long ∙ at₃ } in
      let z : told b 39 ≡ 0 → ⊥ = λ z. n.some (s₁ ∙ z) in
      let t = told-so c (counts_of items) r (the_row_of row) end (5 + whole-size file-kinds (drop 5 b)) (sym h ∙ found-told f (record { is-there = z; s₁ = s₁; s₂ = s₂; g₁ = n.first; g₂ = g₂ })) in
      record {
        here_so = file-here f;
        counts-told = t.0;
        row_told = t.1.0;
        place_so = t.1.1;
        left_so = ap (λ (k : ℕ). drop k b) t.1.1 ∙ sym (drop-drop (whole-size file-kinds (drop 5 b)) 5 b);
        name = subst (λ (r : Typed.FileRow Field). IsName r.name) (sym row_is) (subst (λ (v : Option Field). IsName (or-none v)) (sym first-name) (name-own q₁ (told b q₁) (drop 2 (drop q₁ b)) (a₁.0.is_name q₁) z));
        version = subst (λ (r : Typed.FileRow Field). AreNames r.version) (sym row_is) (subst AreNames (sym second-name) (a₂.0.is_name q₂));
        date = subst (λ (r : Typed.FileRow Field). AreNames r.date) (sym row_is) tt;
      }

  -- and all that is so is told
  pub file-all : here file-kinds (drop 5 b) ≡ true → IsName (rows_told (drop 5 b)).file.name → AreNames (rows_told (drop 5 b)).file.version
      → file_at_of b ≡ Some (counts_of (file-items (drop 5 b)), the_row_of (rows_told (drop 5 b)).file, 5 + whole-size file-kinds (drop 5 b))
  file-all h u v =
      let f = here-file h in
      let o = own_name q₁ (told b q₁) (drop 2 (drop q₁ b)) (subst (λ (v : Option Field). IsName (or-none v)) first-name (subst (λ (r : Typed.FileRow Field). IsName r.name) row_is u)) in
      let a₁ = name-all b q₁ q₁ f.first o.0 in
      let a₂ = name-all b q₂ q₂ f.second (subst AreNames second-name (subst (λ (r : Typed.FileRow Field). AreNames r.version) row_is v)) in
      found-told f (record { is-there = o.1; s₁ = a₁.0; s₂ = a₂.0; g₁ = a₁.1; g₂ = a₂.1 })
