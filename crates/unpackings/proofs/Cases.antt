-- THE CASES, from the contract of unpacking alone: bytes that are refused, whatever is lent, under one theorem; and yard A's form, with room for its rows and with too few. Assumes nothing.
use Rattle.std.specs.Prelude.{Ok, Err}
use mathlib.Core.Path.{◌≡◌, refl, sym, ap}
use mathlib.Core.List.{List, [], ◌∷◌, ◌++◌, head-eq_of_cons-eq, nil≢cons}
use mathlib.Core.Option.{Option, none, some}
use Prim.Native.Nat.{ℕ, ◌+◌, ◌≤◌, ◌<◌, ◌^◌, ◌/◌}
use native.Mathlib.Omega.{arith}
use lib.Dec.{lit≤}
use lib.ListN.{length, length-append, take, drop}
use Rattle.terms.specs.Ascii.{Bytes, ascii}
use Rattle.line.specs.Content.{Field}
use Rattle.law.specs.Network.{Network}
use Rattle.law.specs.Tables.{Lent, HasRoom, filled, zeros, gather}
use Rattle.edition.specs.declared.Edition.TheVariants.{March2007}
use Rattle.grammar.specs.Names.{network_named}
use Rattle.text.specs.Spelling.{bytes_of}
use Rattle.house_text.proofs.References.{sound-alike}
use Rattle.output.specs.Packed.{big_endian}
use Rattle.output.proofs.Packed.{packed-long}
use Rattle.replies.specs.Replies.{longest, rows_used_of, network_file, refusal}
use Rattle.same.specs.Same.{SameNetwork}
use Rattle.promises.specs.Yards.{yard, network, used, counts}
use Rattle.promises.proofs.Keeping.{rndf-later}
use Rattle.promises.proofs.YardA.{yard-taken, room_in-used}
use Rattle.packed_law.specs.Packed.{laid, with_length, all_slots, this_version, packed_form, OfThisVersion, AreRecords, nothing, more, LengthsRight}
use Rattle.packed_law.specs.Yards.{yard_a, form_a}
use Rattle.packed_law.proofs.Told.{file_record, segment-records, lane-records, zone-records, spot-records, point-records, checkpoint-records, stop-records, exit-records, records}
use Rattle.packed_law.proofs.Cut.{too_few, wrong-length, are-records, no_length, past_the_end}
use Rattle.packed_law.proofs.Worked.{yard-a-packed, yard-a-placed, cut_record}
use Rattle.unpackings.specs.Unpacks.{IsNetwork, IsPackedFormOf, UnpackRefuses, Unpacks, other_version, cut_short, no_network, no_room, refused, unpacked}
use Rattle.unpackings.specs.Cases.{Refused, cases, AllRefused, unpacked_file, YardUnpacked}
use Rattle.unpackings.proofs.Framing.{whole, laid-long, laid-all}
use Rattle.unpackings.proofs.Settled.{unpack-settled}

-- what is refused so gets that reply, and no other
refused-so : (bytes : Bytes) (t : Lent) (file number : ℕ) → UnpackRefuses bytes t file number → Refused bytes t file number
refused-so bytes t file number h = let m = refused file number h refl refl in record { meets = m; only = λ r l x. unpack-settled bytes t r (Err (refusal file 0 number 0)) l (zeros t) x m }

-- ## A form has 43 bytes at least: the file's record is never missing
form-long : (n : Network Field) → 43 ≤ length (packed_form n)
unfolding packed_form records
form-long n =
    let rest = gather whole (segment-records n ++ (lane-records n ++ (zone-records n ++ (spot-records n ++ (point-records n ++ (checkpoint-records n ++ (stop-records n ++ exit-records n))))))) in
    let a = length-append (big_endian 4 (length (laid (all_slots n)))) (laid (all_slots n)) in
    let b = packed-long 4 (length (laid (all_slots n))) in
    let c : length (laid (all_slots n)) ≡ length (whole (file_record n) ++ rest) = ap length (laid-all n) in
    let d = length-append (whole (file_record n)) rest in
    let e = laid-long (with_length (file_record n)) in
    omega arith

no-form : (bytes : Bytes) → length bytes < 43 → (n : Network Field) → IsPackedFormOf n bytes → ⊥
no-form bytes h n x =
    let a = ap length x.form in
    let b = form-long n in
    omega arith

-- ## The table
of-this : (l : Bytes) → OfThisVersion (2 ∷ l)
of-this l = record { behind = l; is = refl }

module _ (t : Lent) where
  no_bytes : Refused [] t 0 27
  no_bytes = refused-so [] t 0 27 (other_version (lit≤ tt) (λ x. nil≢cons x.is))

  version_1 : Refused (1 ∷ drop 1 form_a) t 0 27
  version_1 = refused-so (1 ∷ drop 1 form_a) t 0 27 (other_version (lit≤ tt) (λ x. let e = head-eq_of_cons-eq x.is in omega arith))

  version_3 : Refused (3 ∷ []) t 0 27
  version_3 = refused-so (3 ∷ []) t 0 27 (other_version (lit≤ tt) (λ x. let e = head-eq_of_cons-eq x.is in omega arith))

  no-first-length : Refused (2 ∷ []) t 0 28
  no-first-length = refused-so (2 ∷ []) t 0 28 (cut_short (lit≤ tt) (of-this []) (too_few (2 ∷ []) (omega arith)))

  first-length-cut : Refused (2 ∷ 0 ∷ 0 ∷ 0 ∷ []) t 0 28
  first-length-cut = refused-so (2 ∷ 0 ∷ 0 ∷ 0 ∷ []) t 0 28 (cut_short (lit≤ tt) (of-this (0 ∷ 0 ∷ 0 ∷ [])) (too_few (2 ∷ 0 ∷ 0 ∷ 0 ∷ []) (omega arith)))

  no_record : Refused (2 ∷ 0 ∷ 0 ∷ 0 ∷ 0 ∷ []) t 0 29
  unfolding big_endian
  no_record = refused-so (2 ∷ 0 ∷ 0 ∷ 0 ∷ 0 ∷ []) t 0 29 (no_network (lit≤ tt) (of-this (0 ∷ 0 ∷ 0 ∷ 0 ∷ [])) (record { version = 2; behind = []; is = refl; each = nothing }) (no-form (2 ∷ 0 ∷ 0 ∷ 0 ∷ 0 ∷ []) (omega arith)))

  length_cut : Refused (2 ∷ 0 ∷ 0 ∷ 0 ∷ 1 ∷ 0 ∷ []) t 0 28
  unfolding big_endian
  length_cut = refused-so (2 ∷ 0 ∷ 0 ∷ 0 ∷ 1 ∷ 0 ∷ []) t 0 28 (cut_short (lit≤ tt) (of-this (0 ∷ 0 ∷ 0 ∷ 1 ∷ 0 ∷ [])) (λ x. no_length 0 (0 ∷ []) refl (are-records 2 1 (0 ∷ []) x)))

  record-cut : Refused (2 ∷ 0 ∷ 0 ∷ 0 ∷ 3 ∷ 0 ∷ 2 ∷ 0 ∷ []) t 0 28
  record-cut = refused-so (2 ∷ 0 ∷ 0 ∷ 0 ∷ 3 ∷ 0 ∷ 2 ∷ 0 ∷ []) t 0 28 (cut_short (lit≤ tt) (of-this (0 ∷ 0 ∷ 0 ∷ 3 ∷ 0 ∷ 2 ∷ 0 ∷ [])) cut_record)

  empty_record : Refused (2 ∷ 0 ∷ 0 ∷ 0 ∷ 2 ∷ 0 ∷ 0 ∷ []) t 0 29
  unfolding big_endian
  empty_record = refused-so (2 ∷ 0 ∷ 0 ∷ 0 ∷ 2 ∷ 0 ∷ 0 ∷ []) t 0 29 (no_network (lit≤ tt) (of-this (0 ∷ 0 ∷ 0 ∷ 2 ∷ 0 ∷ 0 ∷ [])) (record { version = 2; behind = 0 ∷ 0 ∷ []; is = refl; each = more [] [] (omega arith) nothing }) (no-form (2 ∷ 0 ∷ 0 ∷ 0 ∷ 2 ∷ 0 ∷ 0 ∷ []) (omega arith)))

  a-byte-less : Refused (take 108 form_a) t 0 28
  unfolding big_endian
  a-byte-less = refused-so (take 108 form_a) t 0 28 (cut_short (lit≤ tt) (of-this (take 107 (drop 1 form_a))) (wrong-length 2 104 (take 103 (drop 5 form_a)) (omega arith) (let h : 103 < 256 ^ 4 = omega arith in h) (λ (e : ◌≡◌ {A = ℕ} 104 103). omega arith)))

  a-byte-more : Refused (form_a ++ (0 ∷ [])) t 0 28
  unfolding big_endian
  a-byte-more = refused-so (form_a ++ (0 ∷ [])) t 0 28 (cut_short (lit≤ tt) (of-this (drop 1 form_a ++ (0 ∷ []))) (wrong-length 2 104 (drop 5 form_a ++ (0 ∷ [])) (omega arith) (let h : 105 < 256 ^ 4 = omega arith in h) (λ (e : ◌≡◌ {A = ℕ} 104 105). omega arith)))

  -- THE THEOREM
  pub all-refused : AllRefused t cases
  all-refused = (no_bytes, (version_1, (version_3, (no-first-length, (first-length-cut, (no_record, (length_cut, (record-cut, (empty_record, (a-byte-less, (a-byte-more, tt)))))))))))

-- ## Yard A
same-yard : SameNetwork network (yard_a 41)
unfolding network_named
same-yard = refl

yard-form : IsPackedFormOf (yard_a 41) form_a
yard-form =
    let a = yard-taken March2007 used room_in-used in
    record { network = record { text = yard; written = network; spelled = rndf-later March2007 network yard a.spelled; same = same-yard; sound = sound-alike bytes_of network (yard_a 41) same-yard a.right }; form = sym (yard-a-packed 41); names = yard-a-placed; dateless = refl }

counted : (rows_used_of (yard_a 41) ≡ counts) × (network_file (yard_a 41) ≡ unpacked_file)
unfolding ascii
counted = (refl, refl)

pub yard-unpacked : (t : Lent) → YardUnpacked t
yard-unpacked t = record {
  roomy = λ room. unpacked (yard_a 41) (lit≤ tt) yard-form room (sym (λ i. Ok (counted.0 i, counted.1 i))) refl;
  short = λ h. refused-so form_a t 1 11 (no_room (yard_a 41) (lit≤ tt) yard-form (λ room. let r : 2 ≤ length t.points / 2 = room.points in omega arith));
}
