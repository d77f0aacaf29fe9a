-- What the unpacker tells, said as the contract says it. Assumes nothing.
use Rattle.std.specs.Prelude.{Some, None, Ok, Err, Option, Result}
use mathlib.Core.Path.{◌≡◌, refl, sym, ap, subst, ◌∙◌}
use mathlib.Core.Bool.{Bool, true, false}
use mathlib.Core.List.{[], ◌∷◌}
use Prim.Native.Nat.{ℕ, suc, ◌≤◌}
use native.Mathlib.Omega.{arith}
use lib.Dec.{ltb}
use lib.ListN.{length, drop, get_or}
use borrow.Author.Tests.{ltb-true, ltb-false}
use mir.Syntax.{w8}
use mir.Val.{Fits}
use Rattle.terms.specs.Ascii.{Bytes}
use Rattle.terms.specs.Words.{pick}
use Rattle.terms.proofs.Tests.{clash}
use Rattle.law.specs.Tables.{Lent, zeros}
use Rattle.rows.specs.declared.FileRow.{FileRow}
use Rattle.counts.specs.declared.Counts.{Counts}
use Rattle.refusal.specs.declared.Refusal.{Refusal}
use Rattle.room.specs.Room.{parts_fit_of, marks_fit_of}
use Rattle.table_words.specs.Words.{HasRoom}
use Rattle.packed_law.specs.Packed.{OfThisVersion, LengthsRight}
use Rattle.replies.specs.Replies.{longest, refusal}
use Rattle.packed_tables.proofs.Records.{Small}
use Rattle.unpackings.specs.Unpacks.{IsPackedFormOf, Unpacks, UnpackRefuses, too_long, other_version, cut_short, no_network, no_room, refused, unpacked}
use Rattle.packed_check.specs.Judgement.{judgement}
use Rattle.packed_check.proofs.Law.{Judges, judges}
use Rattle.unpacked_rows.specs.declared.Places.{Places}
use Rattle.unpacked_rows.specs.Front.{version_here, framed_here}
use Rattle.unpacked_rows.specs.Stored.{tables_stored}
use Rattle.unpacked_tables.proofs.Frame.{version-so, no-version, framed-so, framed-all, whole_is}
use Rattle.packed_tables.proofs.Whole.{file-items}
use Rattle.unpacked_tables.proofs.Judging.{Right, FormTold, counted, counts-told, places-told}
use Rattle.unpacked_tables.proofs.Network.{told-network, counts-used, file-used, has_room, room-there, tables-filled, is_form, form-is-right}
use Rattle.law_tables.proofs.Rooms.{parts, marks, fit, parts-there, marks-there}
use Rattle.unpacker.specs.Telling.{told_of, looked, roomed}

-- ## `looked` by its tests
module _ (b : Bytes) where
  abbrev by_tests : (long version framed : Bool) → Result (Counts × FileRow × Places) Refusal
  by_tests long version framed = pick long (Err (refusal 1 0 1 0)) (pick version (pick framed (told_of (judgement b)) (Err (refusal 0 0 28 0))) (Err (refusal 0 0 27 0)))

-- ## The bytes alone
-- a form that is taken
record Taken (bytes : Bytes) (c : Counts) (file : FileRow) (places : Places) : Type 0 where
  few : length bytes ≤ longest
  version : OfThisVersion bytes
  framed : LengthsRight bytes
  told : FormTold bytes c file places

abbrev Looks : Bytes → Result (Counts × FileRow × Places) Refusal → Type 0
Looks bytes (Err why) = (t left : Lent) → left ≡ zeros t → Unpacks bytes t (Err why) left
Looks bytes (Ok (c, file, places)) = Taken bytes c file places

refusing : (bytes : Bytes) (file number : ℕ) → ((t : Lent) → UnpackRefuses bytes t file number) → Looks bytes (Err (refusal file 0 number 0))
refusing bytes file number x t left e = refused file number (x t) refl e

judging : (bytes : Bytes) → length bytes ≤ longest → OfThisVersion bytes → LengthsRight bytes → (j : Option (Counts × FileRow × Places)) → Judges bytes j → Looks bytes (told_of j)
judging bytes few v f None wrong = refusing bytes 0 29 (λ t. no_network few v f (λ n x. wrong (form-is-right n bytes few x)))
judging bytes few v f (Some (c, file, places)) told = record { few = few; version = v; framed = f; told = told }

looks : (bytes : Bytes) → Small bytes → Looks bytes (looked bytes)
unfolding looked
looks bytes s = go (ltb longest (length bytes)) refl (version_here bytes) refl (framed_here bytes) refl
  where
    go : (long : Bool) → ltb longest (length bytes) ≡ long → (version : Bool) → version_here bytes ≡ version → (framed : Bool) → framed_here bytes ≡ framed → Looks bytes (by_tests bytes long version framed)
    go true e v p f q = refusing bytes 1 1 (λ t. too_long (ltb-true longest (length bytes) e))
    go false e false p f q = refusing bytes 0 27 (λ t. other_version (ltb-false longest (length bytes) e) (no-version bytes p))
    go false e true p false q = refusing bytes 0 28 (λ t. cut_short few (version-so bytes p) (λ x. clash (sym (framed-all bytes few x) ∙ q)))
      where
        few : length bytes ≤ longest
        few = ltb-false longest (length bytes) e
    go false e true p true q = judging bytes few v g (judgement bytes) (judges bytes s few)
      where
        few : length bytes ≤ longest
        few = ltb-false longest (length bytes) e

        v : OfThisVersion bytes
        v = version-so bytes p

        g : LengthsRight bytes
        g = framed-so bytes s q

-- ## The whole
abbrev Answers : Bytes → Lent → Result (Counts × FileRow × Places) Refusal → Type 0
Answers bytes t (Err why) = (left : Lent) → left ≡ zeros t → Unpacks bytes t (Err why) left
Answers bytes t (Ok (c, file, places)) = (left : Lent) → left ≡ tables_stored bytes c places (zeros t) → Unpacks bytes t (Ok (c, file)) left

abbrev roomed_in : Result (Counts × FileRow × Places) Refusal → Lent → Result (Counts × FileRow × Places) Refusal
roomed_in told t = roomed told (length t.segments) (length t.lanes) (length t.zones) (length t.spots) (length t.points) (length t.checkpoints) (length t.stops) (length t.exits)

module _ (bytes : Bytes) (t : Lent) (small : Small bytes) where
  taken : (c : Counts) (file : FileRow) (places : Places) → Taken bytes c file places → Answers bytes t (roomed_in (Ok (c, file, places)) t)
  unfolding counts-told
  taken c file places x = go (parts_fit_of c (length t.segments) (length t.lanes) (length t.zones) (length t.spots)) refl (marks_fit_of c (length t.points) (length t.checkpoints) (length t.stops) (length t.exits)) refl
    where
      right : Right bytes
      right = x.told.right

      form : IsPackedFormOf (told-network bytes right) bytes
      form = is_form bytes right small (whole_is bytes x.version x.framed)

      parts-so : parts_fit_of c (length t.segments) (length t.lanes) (length t.zones) (length t.spots) ≡ parts (counted (file-items (drop 5 bytes))) t
      parts-so = ap (λ (d : Counts). parts_fit_of d (length t.segments) (length t.lanes) (length t.zones) (length t.spots)) x.told.counts_are

      marks-so : marks_fit_of c (length t.points) (length t.checkpoints) (length t.stops) (length t.exits) ≡ marks (counted (file-items (drop 5 bytes))) t
      marks-so = ap (λ (d : Counts). marks_fit_of d (length t.points) (length t.checkpoints) (length t.stops) (length t.exits)) x.told.counts_are

      no_place : (HasRoom (counted (file-items (drop 5 bytes))) t → ⊥) → Answers bytes t (Err (refusal 1 0 11 0))
      no_place h left e = refused 1 11 (no_room (told-network bytes right) x.few form (λ r. h (room-there bytes right t r))) refl e

      go : (p : Bool) → parts_fit_of c (length t.segments) (length t.lanes) (length t.zones) (length t.spots) ≡ p → (m : Bool) → marks_fit_of c (length t.points) (length t.checkpoints) (length t.stops) (length t.exits) ≡ m
          → Answers bytes t (pick p (pick m (Ok (c, file, places)) (Err (refusal 1 0 11 0))) (Err (refusal 1 0 11 0)))
      go true e true f = λ left q.
          let room = fit (counted (file-items (drop 5 bytes))) t (sym parts-so ∙ e) (sym marks-so ∙ f) in
          let used = x.told.counts_are ∙ counts-used bytes right in
          let file-so = x.told.file_is ∙ file-used bytes right in
          let stored : tables_stored bytes c places (zeros t) ≡ tables_stored bytes (counts-told bytes) (places-told bytes) (zeros t) = λ i. tables_stored bytes (x.told.counts_are i) (x.told.places_are i) (zeros t) in
          unpacked (told-network bytes right) x.few form (has_room bytes right t room) (λ i. Ok (used i, file-so i)) (q ∙ stored ∙ tables-filled bytes right small t x.few room)
      go true e false f = no_place (λ h. clash (sym (marks-so ∙ marks-there (counted (file-items (drop 5 bytes))) t h) ∙ f))
      go false e m f = no_place (λ h. clash (sym (parts-so ∙ parts-there (counted (file-items (drop 5 bytes))) t h) ∙ e))

  answers : (told : Result (Counts × FileRow × Places) Refusal) → Looks bytes told → Answers bytes t (roomed_in told t)
  answers (Err why) x = x t
  answers (Ok (c, file, places)) x = taken c file places x

small-so : (b : Bytes) → ((i : ℕ) → Fits w8 (get_or b i 0)) → Small b
small-so [] h = tt
small-so (a ∷ l) h = (omega (arith, h 0), small-so l (λ i. h (suc i)))

-- THE LAWS of the entry point. told: what was told of the bytes and the room
module _ (bytes : Bytes) (t : Lent) (bounded : (i : ℕ) → Fits w8 (get_or bytes i 0)) (told : Result (Counts × FileRow × Places) Refusal) (is : told ≡ roomed_in (looked bytes) t) where
  whole : Answers bytes t told
  whole = subst (Answers bytes t) (sym is) (answers bytes t (small-so bytes bounded) (looked bytes) (looks bytes (small-so bytes bounded)))

  pub refused-so : (why : Refusal) (left : Lent) → told ≡ Err why → left ≡ zeros t → Unpacks bytes t (Err why) left
  refused-so why left e = subst (Answers bytes t) e whole left

  pub unpacked-so : (c : Counts) (file : FileRow) (places : Places) (cleared left : Lent) → told ≡ Ok (c, file, places) → cleared ≡ zeros t → left ≡ tables_stored bytes c places cleared → Unpacks bytes t (Ok (c, file)) left
  unpacked-so c file places cleared left e z h = subst (Answers bytes t) e whole left (h ∙ ap (tables_stored bytes c places) z)
