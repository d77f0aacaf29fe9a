-- The statements that a plain line makes, shape by shape. Assumes nothing.
use mathlib.Core.Path.{◌≡◌, refl, sym, ap, subst}
use mathlib.Core.List.{[], ◌∷◌}
use mathlib.Core.Bool.{true}
use Prim.Native.Nat.{ℕ, ◌-◌, ◌≤◌, ◌<◌}
use Prim.Native.Char.{code}
use native.Mathlib.Omega.{arith}
use borrow.Author.Tests.{ne_eqb, lt-ltb}
use lib.ListN.{length, get_or}
use lib.IntN.{ℤ}
use Rattle.terms.specs.Ascii.{Bytes}
use Rattle.terms.proofs.Tests.{both}
use Rattle.scan.specs.Allowed.{separates, field_byte, all}
use Rattle.scan.specs.Reach.{other}
use Rattle.scan.proofs.Bytes.{all_imp}
use Rattle.line.specs.Content.{at, IsField}
use Rattle.line.specs.Forms.{fields_in_of, part}
use Rattle.line_fields.specs.LineFields.{last_of}
use Rattle.number.specs.Executable.{is_name_length_of}
use Rattle.number.specs.House.{number_byte}
use Rattle.number.specs.Spelling.{SpellsInteger, SpellsPair, SpellsTriple}
use Rattle.number.proofs.House.{numbers-field, integer-bytes, pair-bytes, triple-bytes, triple-first}
use Rattle.number.proofs.Ranges.{name-right}
use Rattle.number.proofs.Integers.{integer-only}
use Rattle.number.proofs.Identifiers.{pair-only, triple-only}
use Rattle.coordinate.specs.Spelling.{SpellsCoordinate}
use Rattle.coordinate.proofs.Coordinates.{coordinate-only}
use Rattle.coordinate.proofs.House.{coordinate-bytes}
use Rattle.word.specs.Keywords.{rndf_keywords, ShortField}
use Rattle.word.proofs.Keywords.{rndf-field, rndf-no-digit}
use Rattle.word.proofs.Boundary.{boundary-word-field}
use Rattle.word.specs.Number.{index_of}
use Rattle.number.specs.declared.Id.{Id}
use Rattle.statement.specs.declared.Statement.{Statement}
use Rattle.statement.specs.declared.Statement.TheVariants as st
use Rattle.made_out.specs.Made.{shapes, needs_of, named_of, name_made_of, numbered_of, paired_of, sided_of, bare_of, side_made_of, made_of}
use Rattle.judge.specs.RndfLine.{rndf_kind}
use Rattle.plain_parts.specs.Stands.{stretch, Stands, name_byte, NameEnds}
use Rattle.plain_parts.proofs.Stretches.{stretch-long}
use Rattle.plain_word.specs.Stands.{KeywordAt, BoundaryAt}
use Rattle.plain_word.proofs.Rows.{keyword-number, boundary-number-here}
use Rattle.plain_line.specs.Fields.{Spelt, BehindIt, Says}
use Rattle.plain_line.proofs.Spelt.{one_field, more-fields}
use Rattle.plain_line.proofs.Made.{one-part, two-parts, second-start, three-parts, first_part, makes}

-- ## Numbers are fields
number-field : (w : Bytes) → 0 < length w → all number_byte w ≡ true → IsField w
number-field w h e = record { some = h; allowed = numbers-field w e }

long : {s : Bytes} {from stop : ℕ} {Is : Bytes → Type 0} → Stands s from stop Is → 0 < length (stretch s from stop)
long {s} {from} {stop} h = let o = h.order in omega (arith, stretch-long s from stop h.inside)

integer-is : {s : Bytes} {from stop n : ℕ} → Stands s from stop (λ w. SpellsInteger w n) → IsField (stretch s from stop)
integer-is {s} {from} {stop} {n} h = number-field (stretch s from stop) (long h) (integer-bytes (stretch s from stop) n h.spelled)

pair_is : {s : Bytes} {from stop m n : ℕ} → Stands s from stop (λ w. SpellsPair w m n) → IsField (stretch s from stop)
pair_is {s} {from} {stop} {m} {n} h = number-field (stretch s from stop) (long h) (pair-bytes (stretch s from stop) m n h.spelled)

triple-is : {s : Bytes} {from stop x y z : ℕ} → Stands s from stop (λ w. SpellsTriple w x y z) → IsField (stretch s from stop)
triple-is {s} {from} {stop} {x} {y} {z} h = number-field (stretch s from stop) (long h) (triple-bytes (stretch s from stop) x y z h.spelled)

coordinate-is : {s : Bytes} {from stop : ℕ} {z : ℤ} → Stands s from stop (λ w. SpellsCoordinate w z) → IsField (stretch s from stop)
coordinate-is {s} {from} {stop} {z} h = number-field (stretch s from stop) (long h) (coordinate-bytes (stretch s from stop) z h.spelled)

-- ## One field behind a keyword
module _ (s : Bytes) (from stop k : ℕ) where
  abbrev f : Bytes
  f = stretch s from stop

  pub number-made : (n : ℕ) → get_or shapes k 0 ≡ 2 → Stands s from stop (λ w. SpellsInteger w n) → BehindIt s from stop k (numbered_of k n) from
  unfolding made_of last_of
  number-made n q h = record {
    order = h.order;
    inside = h.inside;
    fields = at from f ∷ [];
    spelled = one_field s from stop (integer-is h);
    makes = λ c base w e. let p = two-parts base c w (at from f) e in makes c base k (numbered_of k n) 2 p.0 (omega arith) (ap needs_of q) (rw (q, p.2, integer-only f n h.spelled) refl);
    lastly = λ w. refl;
  }

  pub pair_made : (m n : ℕ) → get_or shapes k 0 ≡ 3 → Stands s from stop (λ w. SpellsPair w m n) → BehindIt s from stop k (paired_of k m n) from
  unfolding made_of last_of
  pair_made m n q h = record {
    order = h.order;
    inside = h.inside;
    fields = at from f ∷ [];
    spelled = one_field s from stop (pair_is h);
    makes = λ c base w e. let p = two-parts base c w (at from f) e in makes c base k (paired_of k m n) 2 p.0 (omega arith) (ap needs_of q) (rw (q, p.2, pair-only f m n h.spelled) refl);
    lastly = λ w. refl;
  }

pub stop-made : (s : Bytes) (from stop x y z : ℕ) → Stands s from stop (λ w. SpellsTriple w x y z) → BehindIt s from stop 15 (st.Stop (record { x = x; y = y; z = z })) from
unfolding made_of last_of
stop-made s from stop x y z h =
    let f = stretch s from stop in
    record {
      order = h.order;
      inside = h.inside;
      fields = at from f ∷ [];
      spelled = one_field s from stop (triple-is h);
      makes = λ c base w e. let p = two-parts base c w (at from f) e in makes c base 15 (st.Stop (record { x = x; y = y; z = z })) 2 p.0 (omega arith) refl (rw (p.2, triple-only f x y z h.spelled) refl);
      lastly = λ w. refl;
    }

-- ## Two fields behind a keyword
module _ (s : Bytes) (from i b stop x y z : ℕ) (first : Stands s from i (λ w. SpellsTriple w x y z)) (gap : Stands s i b (λ w. all separates w ≡ true)) where
  abbrev id : Id
  id = record { x = x; y = y; z = z }

  pub checkpoint-made : (n : ℕ) → Stands s b stop (λ w. SpellsInteger w n) → BehindIt s from stop 14 (st.Checkpoint id n) b
  unfolding made_of last_of
  checkpoint-made n h =
      let o = first.order in
      let g = gap.order in
      let l = h.order in
      record {
        order = omega arith;
        inside = h.inside;
        fields = at from (stretch s from i) ∷ at b (stretch s b stop) ∷ [];
        spelled = more-fields s from i b stop (at b (stretch s b stop) ∷ []) (omega arith) g (omega arith) gap.inside (triple-is first) gap.spelled (one_field s b stop (integer-is h));
        makes = λ c base w e. let p = three-parts base c w (at from (stretch s from i)) (at b (stretch s b stop)) e in makes c base 14 (st.Checkpoint id n) 3 p.0 (omega arith) refl (rw (p.2, p.3, triple-only (stretch s from i) x y z first.spelled, integer-only (stretch s b stop) n h.spelled) refl);
        lastly = λ w. refl;
      }

  pub exit-made : (u v w : ℕ) → Stands s b stop (λ l. SpellsTriple l u v w) → BehindIt s from stop 16 (st.Exit id (record { x = u; y = v; z = w })) b
  unfolding made_of last_of
  exit-made u v t h =
      let o = first.order in
      let g = gap.order in
      let l = h.order in
      record {
        order = omega arith;
        inside = h.inside;
        fields = at from (stretch s from i) ∷ at b (stretch s b stop) ∷ [];
        spelled = more-fields s from i b stop (at b (stretch s b stop) ∷ []) (omega arith) g (omega arith) gap.inside (triple-is first) gap.spelled (one_field s b stop (triple-is h));
        makes = λ c base w e. let p = three-parts base c w (at from (stretch s from i)) (at b (stretch s b stop)) e in makes c base 16 (st.Exit id (record { x = u; y = v; z = t })) 3 p.0 (omega arith) refl (rw (p.2, p.3, triple-only (stretch s from i) x y z first.spelled, triple-only (stretch s b stop) u v t h.spelled) refl);
        lastly = λ w. refl;
      }

  -- ## A point
  pub point-made : (j c : ℕ) (a o : ℤ) → Stands s b j (λ w. SpellsCoordinate w a) → Stands s j c (λ w. all separates w ≡ true) → Stands s c stop (λ w. SpellsCoordinate w o) → Says s from stop 29 (st.Point id a o) c
  unfolding made_of rndf_kind last_of
  point-made j c a o latitude gap2 longitude =
      let f1 = first.order in
      let g1 = gap.order in
      let f2 = latitude.order in
      let g2 = gap2.order in
      let f3 = longitude.order in
      let two : Spelt s b stop (at b (stretch s b j) ∷ at c (stretch s c stop) ∷ []) = more-fields s b j c stop (at c (stretch s c stop) ∷ []) (omega arith) g2 (omega arith) gap2.inside (coordinate-is latitude) gap2.spelled (one_field s c stop (coordinate-is longitude)) in
      record {
        order = omega arith;
        inside = longitude.inside;
        kind = omega arith;
        fields = at from (stretch s from i) ∷ at b (stretch s b j) ∷ at c (stretch s c stop) ∷ [];
        spelled = more-fields s from i b stop (at b (stretch s b j) ∷ at c (stretch s c stop) ∷ []) (omega arith) g1 (omega arith) gap.inside (triple-is first) gap.spelled two;
        of_kind_of = λ l base e. let p = three-parts base l (at from (stretch s from i)) (at b (stretch s b j)) (at c (stretch s c stop)) e in rw (p.1, triple-first (stretch s from i) x y z first.spelled) refl;
        makes = λ l base e. let p = three-parts base l (at from (stretch s from i)) (at b (stretch s b j)) (at c (stretch s c stop)) e in makes l base 29 (st.Point id a o) 3 p.0 (omega arith) refl (rw (p.1, p.2, p.3, triple-only (stretch s from i) x y z first.spelled, coordinate-only (stretch s b j) a latitude.spelled, coordinate-only (stretch s c stop) o longitude.spelled) refl);
        lastly = refl;
      }

-- ## Names
pub name-made : (s : Bytes) (from stop k : ℕ) → get_or shapes k 0 ≡ 1 → from ≤ length s → NameEnds s from stop → is_name_length_of (stop - from) ≡ true → BehindIt s from stop k (named_of k from (stop - from)) from
unfolding made_of name_made_of last_of
name-made s from stop k q start name short =
    let f = stretch s from stop in
    let low = (name-right (stop - from) short).low in
    let size = stretch-long s from stop (name.inside start) in
    let is : IsField f = record { some = omega (arith, size); allowed = all_imp name_byte field_byte (λ b e. (both (field_byte b) (other (code "/") b) e).0) f name.bytes } in
    record {
      order = omega arith;
      inside = name.inside start;
      fields = at from f ∷ [];
      spelled = one_field s from stop is;
      makes = λ c base w e. let p = two-parts base c w (at from f) e in makes c base k (named_of k from (stop - from)) 2 p.0 (omega arith) (ap needs_of q) (rw (q, p.2, size, short, second-start base c w (at from f) e) refl);
      lastly = λ w. refl;
    }

-- ## Boundary words
pub side-made : (s : Bytes) (from stop k b : ℕ) → get_or shapes k 0 ≡ 4 → BoundaryAt s from stop b → BehindIt s from stop k (sided_of k b) from
unfolding made_of side_made_of last_of
side-made s from stop k b q here =
    let f = stretch s from stop in
    let word = here.boundary in
    let low = word.number.low in
    let n : b ≡ 0 → ⊥ = λ e. omega arith in
    let h : ShortField f = subst ShortField (sym word.word) (boundary-word-field b word.number) in
    record {
      order = here.order;
      inside = here.inside;
      fields = at from f ∷ [];
      spelled = one_field s from stop (record { some = h.some; allowed = h.allowed });
      makes = λ c base w l. let p = two-parts base c w (at from f) l in makes c base k (sided_of k b) 2 p.0 (omega arith) (ap needs_of q) (rw (q, p.2, boundary-number-here here, ne_eqb b 0 n) refl);
      lastly = λ w. refl;
    }

-- ## Keywords
module _ (s : Bytes) (from stop k : ℕ) (here : KeywordAt s from stop k) where
  is : index_of (stretch s from stop) rndf_keywords ≡ k
  is = keyword-number here

  below : k < 29
  below = here.known

  word-is : ShortField (stretch s from stop)
  word-is = rndf-field (stretch s from stop) (omega (arith, is, below))

  keyword-kind : (w : Bytes) → w ≡ stretch s from stop → rndf_kind w ≡ k
  unfolding rndf_kind
  keyword-kind w e = rw (e, rndf-no-digit (stretch s from stop) (omega (arith, is, below)), is, lt-ltb k 29 below) refl

  -- a keyword alone
  pub bare-made : get_or shapes k 0 ≡ 0 → Says s from stop k (bare_of k) from
  unfolding made_of last_of
  bare-made q =
      let f = stretch s from stop in
      record {
        order = here.order;
        inside = here.inside;
        kind = omega (arith, below);
        fields = at from f ∷ [];
        spelled = one_field s from stop (record { some = word-is.some; allowed = word-is.allowed });
        of_kind_of = λ c base l. keyword-kind (part c (fields_in_of c).a) (one-part base c (at from f) l).1;
        makes = λ c base l. let p = one-part base c (at from f) l in makes c base k (bare_of k) 1 p.0 (omega arith) (ap needs_of q) (rw q refl);
        lastly = refl;
      }

  -- a keyword, and the fields behind it
  pub word_made : (b end : ℕ) (said : Statement) (last : ℕ) → Stands s stop b (λ w. all separates w ≡ true) → BehindIt s b end k said last → Says s from end k said last
  word_made b end said last gap behind =
      let f = stretch s from stop in
      let g = gap.order in
      let o = behind.order in
      let h = here.order in
      record {
        order = omega arith;
        inside = behind.inside;
        kind = omega (arith, below);
        fields = at from f ∷ behind.fields;
        spelled = more-fields s from stop b end behind.fields (omega arith) g (omega arith) gap.inside (record { some = word-is.some; allowed = word-is.allowed }) gap.spelled behind.spelled;
        of_kind_of = λ c base l. keyword-kind (part c (fields_in_of c).a) (first_part base c (at from f) behind.fields l);
        makes = λ c base l. behind.makes c base (at from f) l;
        lastly = behind.lastly (at from f);
      }
