-- What the tests of specs/ compute to. Assumes nothing.
use mathlib.Core.Path.{◌≡◌, refl, sym, ap, ap₂, ◌∙◌}
use mathlib.Core.Bool.{Bool, not, ◌&&◌, ◌||◌}
use Prim.Native.Nat.{ℕ, zero, suc, ◌+◌}
use native.Mathlib.Omega.{arith}
use lib.Dec.{leb, eqb}
use borrow.Author.Tests.{le-leb, ne_eqb}
use lib.IntN.{ℤ, nat_abs}
use Rattle.grammar.specs.Statements.{PartId, PointId, Position, PointLine, CheckpointLine, part_id, point_id}
use Rattle.grammar.specs.Network.{largest, Checkpoint, the_checkpoint_of}
use Rattle.grammar.specs.MissionStatements.{Limit}
use Rattle.grammar.specs.Forms.{yes?, le?, eq?, and?, via}
use Rattle.grammar.specs.Permitted.{between?, part?, point?, on_earth?, checkpoint?, entry?, exit?, perimeter_exit?}
use Rattle.grammar.specs.MissionPlaces.{not_above?, limit?}
use Rattle.number.specs.declared.Id.{Id}
use Rattle.statement.specs.Meaning.{the_the_point_of}
use Rattle.permitted.specs.Tests.{is_counted, is_at_most, is_up_to, is_the_number, is_the_part, is_point_of, is_numbered, is_latitude, is_longitude, is_the_point, is_own_stop, is_own_checkpoint, is_entry_of, is_inner_entry, is_own_exit, is_perimeter_exit}
use Rattle.permitted.specs.MissionTests.{is_not_above, is_limit}
use Rattle.permitted.proofs.Decided.{yes-by, yes-via, yes_and, yes_where, both, and_assoc, and-true, yes-within}

at_most : (m n : ℕ) → yes? (le? m n) ≡ leb m n
at_most m n = yes-by (leb m n) _ _

same : (m n : ℕ) → yes? (eq? m n) ≡ eqb m n
same m n = yes-by (eqb m n) _ _

between : (a b n : ℕ) → yes? (between? a b n) ≡ (leb a n && leb n b)
between a b n = yes-via _ _ (and? (le? a n) (le? n b)) ∙ yes_and (le? a n) (le? n b) ∙ both (at_most a n) (at_most n b)

pub counted_is : (n : ℕ) → is_counted n ≡ (leb 1 n && leb n 32768)
unfolding is_counted
counted_is n = yes-within {A = n ≡ n} refl (between? 1 32768 n) ∙ between 1 32768 n

pub at-most-is : (n : ℕ) → is_at_most n ≡ leb n 32768
unfolding is_at_most
at-most-is n = yes-within {A = n ≡ n} refl (le? n 32768) ∙ at_most n 32768

pub up-to-is : (c n : ℕ) → is_up_to c n ≡ leb (c + n) 32768
unfolding is_up_to
up-to-is c n = yes-within {A = n ≡ n} refl (le? (c + n) 32768) ∙ at_most (c + n) 32768

pub the-number-is : (due n : ℕ) → is_the_number due n ≡ eqb due n
unfolding is_the_number
the-number-is due n = yes_and (eq? due n) (yes tt) ∙ and-true (yes? (eq? due n)) ∙ same due n

part_same : (a b : PartId) → yes? (part? a b) ≡ (eqb a.m b.m && eqb a.n b.n)
part_same a b = yes-via _ _ (and? (eq? a.m b.m) (eq? a.n b.n)) ∙ yes_and (eq? a.m b.m) (eq? a.n b.n) ∙ both (same a.m b.m) (same a.n b.n)

point-same : (a b : PointId) → yes? (point? a b) ≡ (eqb a.x b.x && (eqb a.y b.y && eqb a.z b.z))
point-same a b =
    yes-via _ _ (and? (eq? a.x b.x) (and? (eq? a.y b.y) (eq? a.z b.z)))
    ∙ yes_and (eq? a.x b.x) (and? (eq? a.y b.y) (eq? a.z b.z))
    ∙ both (same a.x b.x) (yes_and (eq? a.y b.y) (eq? a.z b.z) ∙ both (same a.y b.y) (same a.z b.z))

pub the-part-is : (m due a b : ℕ) → is_the_part m due a b ≡ (eqb m a && eqb due b)
unfolding is_the_part
the-part-is m due a b = yes_and (part? (part_id m due) (part_id a b)) (yes tt) ∙ and-true (yes? (part? (part_id m due) (part_id a b))) ∙ part_same (part_id m due) (part_id a b)

pub point-is : (m n k : ℕ) (i : Id) → is_point_of m n k i ≡ (eqb m i.x && (eqb n i.y && eqb k i.z))
unfolding is_point_of
point-is m n k i = point-same (point_id m n k) (the_the_point_of i)

pub numbered_is : (first w n : ℕ) → is_numbered first w n ≡ (leb first n && leb n w)
unfolding is_numbered
numbered_is first w n = between first w n

counted-between : (n : ℕ) → yes? (between? 1 largest n) ≡ is_counted n
counted-between n = between 1 largest n ∙ sym (counted_is n)

most_le : (n : ℕ) → yes? (le? n largest) ≡ is_at_most n
most_le n = at_most n largest ∙ sym (at-most-is n)

pub the-point-is : (m n due : ℕ) (i : Id) (a o : ℤ) → is_the_point m n due i a o ≡ (is_point_of m n due i && (is_latitude a && is_longitude o))
unfolding is_the_point is_point_of is_latitude is_longitude
the-point-is m n due i a o =
    let p : Position = record { latitude = a; longitude = o } in
    let d = point? (point_id m n due) (the_the_point_of i) in
    yes_and (via {B = ◌≡◌ {A = PointLine} (record { id = point_id m n due; position = p }) (record { id = the_the_point_of i; position = p })} _ _ d) (on_earth? p)
    ∙ both (yes-via _ _ d) (yes-via _ _ (and? (le? (nat_abs a) 90000000) (le? (nat_abs o) 180000000)) ∙ yes_and (le? (nat_abs a) 90000000) (le? (nat_abs o) 180000000) ∙ both (at_most (nat_abs a) 90000000) (at_most (nat_abs o) 180000000))

pub own-stop-is : (m n w : ℕ) (i : Id) → is_own_stop m n w i ≡ (is_point_of m n i.z i && is_numbered 1 w i.z)
unfolding is_own_stop is_point_of is_numbered
own-stop-is m n w i = yes_and (point? (point_id m n i.z) (the_the_point_of i)) (between? 1 w i.z)

-- a point of the part, and something more
own-then : (m n w : ℕ) (i : Id) {B R : Type 0} (f : point_id m n i.z ≡ the_the_point_of i → B) (g : B → point_id m n i.z ≡ the_the_point_of i) (x : Bool) (d : Dec R)
    → yes? d ≡ (is_numbered 1 w i.z && x) → yes? (and? (via f g (point? (point_id m n i.z) (the_the_point_of i))) d) ≡ (is_own_stop m n w i && x)
unfolding is_point_of
own-then m n w i f g x d e =
    let p = point? (point_id m n i.z) (the_the_point_of i) in
    yes_and (via f g p) d ∙ both (yes-via f g p) e ∙ sym (and_assoc (yes? p) (is_numbered 1 w i.z) x) ∙ ap (λ (b : Bool). b && x) (sym (own-stop-is m n w i))

pub own-checkpoint-is : (m n first w : ℕ) (i : Id) (k : ℕ) → is_own_checkpoint m n first w i k ≡ (is_point_of m n i.z i && (is_numbered first w i.z && is_counted k))
unfolding is_own_checkpoint is_point_of is_numbered
own-checkpoint-is m n first w i k =
    let p = point? (point_id m n i.z) (the_the_point_of i) in
    let a = between? first w i.z in
    let b = between? 1 largest k in
    let c : Checkpoint = record { waypoint = i.z; number = k } in
    yes_and (via {B = ◌≡◌ {A = CheckpointLine} (the_checkpoint_of m n c) (record { waypoint = the_the_point_of i; number = k })} _ _ p) (checkpoint? first w c) ∙ both (yes-via _ _ p) (yes-via _ _ (and? a b) ∙ yes_and a b ∙ both (refl {a = yes? a}) (counted-between k))

pub entry-is : (e : Id) → is_entry_of e ≡ (is_counted e.x && (is_at_most e.y && is_counted e.z))
unfolding is_entry_of
entry-is e =
    yes-via _ _ (and? (between? 1 largest e.x) (and? (le? e.y largest) (between? 1 largest e.z)))
    ∙ yes_and (between? 1 largest e.x) (and? (le? e.y largest) (between? 1 largest e.z))
    ∙ both (counted-between e.x) (yes_and (le? e.y largest) (between? 1 largest e.z) ∙ both (most_le e.y) (counted-between e.z))

pub own-exit-is : (m n w : ℕ) (i e : Id) → is_own_exit m n w i e ≡ (is_own_stop m n w i && is_entry_of e)
unfolding is_own_exit is_numbered is_entry_of
own-exit-is m n w i e =
    let a = between? 1 w i.z in
    let b = entry? (the_the_point_of e) in
    own-then m n w i _ _ (is_entry_of e) (exit? w (record { waypoint = i.z; entry = the_the_point_of e })) (yes-via _ _ (and? a b) ∙ yes_and a b)

pub perimeter-exit-is : (m w : ℕ) (i e : Id) → is_perimeter_exit m w i e ≡ (is_own_stop m 0 w i && is_inner_entry e)
unfolding is_perimeter_exit is_numbered is_inner_entry
perimeter-exit-is m w i e =
    let a = between? 1 w i.z in
    let x = between? 1 largest e.x in
    let y = between? 1 largest e.y in
    let z = between? 1 largest e.z in
    own-then m 0 w i _ _ (is_inner_entry e) (perimeter_exit? w (record { waypoint = i.z; entry = the_the_point_of e }))
    (yes-via _ _ (and? a (and? x (and? y z))) ∙ yes_and a (and? x (and? y z)) ∙ both (refl {a = yes? a}) (yes_and x (and? y z) ∙ both (counted-between e.x) (yes_and y z ∙ both (counted-between e.y) (counted-between e.z))))

none_or_some : (b : ℕ) → not (leb 1 b) ≡ eqb b 0
none_or_some zero = refl
none_or_some (suc b) = rw (le-leb 1 (suc b) (omega arith), ne_eqb (suc b) 0 (λ e. omega arith))

pub not-above-is : (a b : ℕ) → is_not_above a b ≡ (eqb b 0 || leb a b)
unfolding is_not_above
not-above-is a b = yes_where (le? 1 b) (le? a b) ∙ ap₂ (λ (x y : Bool). not x || y) (at_most 1 b) (at_most a b) ∙ ap (λ (x : Bool). x || leb a b) (none_or_some b)

pub limit_is : (i a b : ℕ) → is_limit i a b ≡ (is_counted i && (is_at_most a && (is_at_most b && is_not_above a b)))
unfolding is_limit is_not_above
limit_is i a b =
    let s : Limit = record { id = i; minimum = a; maximum = b } in
    yes-within {A = s ≡ s} refl (limit? s)
    ∙ yes-via _ _ (and? (between? 1 largest i) (and? (le? a largest) (and? (le? b largest) (not_above? a b))))
    ∙ yes_and (between? 1 largest i) (and? (le? a largest) (and? (le? b largest) (not_above? a b)))
    ∙ both (counted-between i) (yes_and (le? a largest) (and? (le? b largest) (not_above? a b)) ∙ both (most_le a) (yes_and (le? b largest) (not_above? a b) ∙ both (most_le b) refl))
