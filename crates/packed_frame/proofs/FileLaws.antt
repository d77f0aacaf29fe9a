-- The laws of the file's record. Assumes nothing.
use Rattle.std.specs.Prelude.{Some, None, Option}
use mathlib.Core.Path.{◌≡◌, refl, sym, ap, ◌∙◌}
use mathlib.Core.Bool.{Bool, true, false}
use Prim.Native.Nat.{ℕ, ◌+◌}
use borrow.Author.Tests.{eq-eqb, ne_eqb}
use lib.Dec.{eqb}
use Rattle.terms.specs.Ascii.{Bytes}
use Rattle.terms.specs.Words.{pick}
use Rattle.counts.specs.declared.Counts.{Counts}
use Rattle.rows.specs.declared.Stretch.{Stretch}
use Rattle.packed_frame.specs.Names.{two_at, name_size_of}
use Rattle.packed_frame.specs.File.{counts, the_the_stretch_of, second_at, file_end, names_right, the_file_row_of, file_at_of}
use Rattle.rows.specs.declared.FileRow.{FileRow}

pub missing : (start size : ℕ) → size ≡ 0 → record { start = 0; length = 0 } ≡ the_the_stretch_of start size
unfolding the_the_stretch_of
missing start size h = sym (ap (λ (t : Bool). pick t (record { start = 0; length = 0 }) (record { start = start; length = size })) (eq-eqb size 0 h))

pub given : (start size : ℕ) → (size ≡ 0 → ⊥) → record { start = start; length = size } ≡ the_the_stretch_of start size
unfolding the_the_stretch_of
given start size h = sym (ap (λ (t : Bool). pick t (record { start = 0; length = 0 }) (record { start = start; length = size })) (ne_eqb size 0 h))

-- n1, n2: the sizes of the names that were found
module _ (b : Bytes) (n1 : ℕ) (e1 : n1 ≡ name_size_of b 39) where
  abbrev names : (p q r : Bool) → Bool
  names p q r = pick p false (pick q false (pick r false true))

  abbrev second : Bool
  second = eqb (name_size_of b (second_at b)) 129

  is-names : names_right b ≡ names (eqb (name_size_of b 39) 0) (eqb (name_size_of b 39) 129) second
  unfolding names_right
  is-names = refl

  refused : names_right b ≡ false → None ≡ file_at_of b
  unfolding file_at_of
  refused e = sym (ap (λ (t : Bool). pick t (pick (eqb (two_at b 5 + 7) (file_end b)) (Some (counts b, the_file_row_of b, file_end b)) None) None) e)

  pub no-first : n1 ≡ 0 → None ≡ file_at_of b
  no-first h = refused (is-names ∙ ap (λ (t : Bool). names t (eqb (name_size_of b 39) 129) second) (eq-eqb (name_size_of b 39) 0 (sym e1 ∙ h)))

  module _ (h1 : n1 ≡ 0 → ⊥) where
    at_first : names_right b ≡ names false (eqb (name_size_of b 39) 129) second
    at_first = is-names ∙ ap (λ (t : Bool). names t (eqb (name_size_of b 39) 129) second) (ne_eqb (name_size_of b 39) 0 (λ d. h1 (e1 ∙ d)))

    pub bad-first : n1 ≡ 129 → None ≡ file_at_of b
    bad-first h = refused (at_first ∙ ap (λ (t : Bool). names false t second) (eq-eqb (name_size_of b 39) 129 (sym e1 ∙ h)))

    module _ (g1 : n1 ≡ 129 → ⊥) (n2 : ℕ) (e2 : n2 ≡ name_size_of b (39 + 2 + n1)) where
      at_second : names_right b ≡ names false false second
      at_second = at_first ∙ ap (λ (t : Bool). names false t second) (ne_eqb (name_size_of b 39) 129 (λ d. g1 (e1 ∙ d)))

      second_is : n2 ≡ name_size_of b (second_at b)
      second_is = e2 ∙ ap (λ (n : ℕ). name_size_of b (39 + 2 + n)) e1

      pub bad-second : n2 ≡ 129 → None ≡ file_at_of b
      bad-second h = refused (at_second ∙ ap (names false false) (eq-eqb (name_size_of b (second_at b)) 129 (sym second_is ∙ h)))

      module _ (g2 : n2 ≡ 129 → ⊥) (m : ℕ) (e3 : m ≡ two_at b 5) where
        at-end : names_right b ≡ true
        at-end = at_second ∙ ap (names false false) (ne_eqb (name_size_of b (second_at b)) 129 (λ d. g2 (second_is ∙ d)))

        end_is : 39 + 2 + n1 + 2 + n2 ≡ file_end b
        end_is = λ i. 39 + 2 + e1 i + 2 + second_is i

        abbrev told : (x : Bool) → Option (Counts × FileRow × ℕ)
        told x = pick x (Some (counts b, the_file_row_of b, file_end b)) None

        is-told : told (eqb (two_at b 5 + 7) (file_end b)) ≡ file_at_of b
        unfolding file_at_of
        is-told = sym (ap (λ (t : Bool). pick t (told (eqb (two_at b 5 + 7) (file_end b))) None) at-end)

        pub other_length : (m + 7 ≡ 39 + 2 + n1 + 2 + n2 → ⊥) → None ≡ file_at_of b
        other_length h = sym (ap told (ne_eqb (two_at b 5 + 7) (file_end b) (λ d. h (ap (λ (n : ℕ). n + 7) e3 ∙ d ∙ sym end_is)))) ∙ is-told

        -- c: the counts; u, v: the names
        pub file-told : m + 7 ≡ 39 + 2 + n1 + 2 + n2 → (c : Counts) → c ≡ counts b → (u v : Stretch) → u ≡ the_the_stretch_of 41 n1 → v ≡ the_the_stretch_of (39 + 2 + n1 + 2) n2
            → Some (c, record { name = u; version = v; date = record { start = 0; length = 0 } }, 39 + 2 + n1 + 2 + n2) ≡ file_at_of b
        file-told h c ec u v eu ev =
            let u' = eu ∙ ap (the_the_stretch_of 41) e1 in
            let v' = ev ∙ (λ i. the_the_stretch_of (39 + 2 + e1 i + 2) (second_is i)) in
            (λ i. Some (ec i, record { name = u' i; version = v' i; date = record { start = 0; length = 0 } }, end_is i))
            ∙ sym (ap told (eq-eqb (two_at b 5 + 7) (file_end b) (sym (ap (λ (n : ℕ). n + 7) e3) ∙ h ∙ end_is))) ∙ is-told
