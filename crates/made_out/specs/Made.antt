-- Executable: the statement that fields make, by the shape of its kind. Assumes nothing.
use Rattle.std.specs.Prelude.{◌≡◌, List, [], ◌∷◌, Bool, true, false, ℕ, ◌+◌, length, get_or, eqb, ltb, ℤ, Some, None}
use Rattle.std.proofs.Math.Option.{Option, none, some}
use Rattle.terms.specs.Ascii.{Bytes}
use Rattle.terms.specs.Words.{pick}
use Rattle.line.specs.Forms.{part}
use Rattle.line.specs.declared.Span.{Span}
use Rattle.line.specs.declared.Fields.{Fields}
use Rattle.number.specs.Executable.{the_integer_of, the_pair_of, triple_of, is_name_length_of}
use Rattle.coordinate.specs.Executable.{the_coordinate_of}
use Rattle.word.specs.Number.{boundary_number}
use Rattle.number.specs.declared.Id.{Id}
use Rattle.statement.specs.declared.Statement.{Statement}
use Rattle.statement.specs.declared.Statement.TheVariants as st
use Rattle.std.specs.Prelude as Rust

-- ## The shape of each kind, by its row
abbrev pub shapes : List ℕ
shapes = 1 ∷ 2 ∷ 2 ∷ 1 ∷ 1 ∷ 2 ∷ 2 ∷ 1 ∷ 0 ∷ 3 ∷ 2 ∷ 2 ∷ 4 ∷ 4 ∷ 5 ∷ 6 ∷ 7 ∷ 0 ∷ 2 ∷ 2 ∷ 1 ∷ 0 ∷ 3 ∷ 2 ∷ 0 ∷ 3 ∷ 2 ∷ 0 ∷ 0 ∷ 8 ∷ []

-- how many fields its line has
abbrev pub needs_of : ℕ → ℕ
needs_of shape = pick (eqb shape 0) 1 (pick (eqb shape 5) 3 (pick (eqb shape 7) 3 (pick (eqb shape 8) 3 2)))

-- ## The statement of a kind
unfoldable pub bare_of : ℕ → Statement
bare_of k = pick (eqb k 8) st.EndSegment (pick (eqb k 17) st.EndLane (pick (eqb k 21) st.EndZone (pick (eqb k 24) st.EndPerimeter (pick (eqb k 27) st.EndSpot st.EndFile))))

unfoldable pub named_of : ℕ → ℕ → ℕ → Statement
named_of k a l = pick (eqb k 0) (st.RndfName a l) (pick (eqb k 3) (st.FormatVersion a l) (pick (eqb k 4) (st.CreationDate a l) (pick (eqb k 7) (st.SegmentName a l) (st.ZoneName a l))))

unfoldable pub numbered_of : ℕ → ℕ → Statement
numbered_of k n = pick (eqb k 1) (st.NumSegments n) (pick (eqb k 2) (st.NumZones n) (pick (eqb k 5) (st.Segment n) (pick (eqb k 6) (st.NumLanes n) (pick (eqb k 10) (st.NumWaypoints n)
    (pick (eqb k 11) (st.LaneWidth n) (pick (eqb k 18) (st.Zone n) (pick (eqb k 19) (st.NumSpots n) (pick (eqb k 23) (st.NumPerimeterpoints n) (st.SpotWidth n)))))))))

unfoldable pub paired_of : ℕ → ℕ → ℕ → Statement
paired_of k m n = pick (eqb k 9) (st.Lane m n) (pick (eqb k 22) (st.Perimeter m n) (st.Spot m n))

unfoldable pub sided_of : ℕ → ℕ → Statement
sided_of k b = pick (eqb k 12) (st.LeftBoundary b) (st.RightBoundary b)

unfoldable pub name_made_of : ℕ → ℕ → Bytes → Span → Rust.Option Statement
name_made_of k base s f = pick (is_name_length_of (length (part s f))) (Some (named_of k (base + f.start) (length (part s f)))) None

abbrev pub number_made_of : ℕ → Rust.Option ℕ → Rust.Option Statement
number_made_of k (Some v) = Some (numbered_of k v)
number_made_of k None = None

abbrev pub pair_made_of : ℕ → Rust.Option (ℕ × ℕ) → Rust.Option Statement
pair_made_of k (Some (m, n)) = Some (paired_of k m n)
pair_made_of k None = None

unfoldable pub side_made_of : ℕ → ℕ → Rust.Option Statement
side_made_of k b = pick (eqb b 0) None (Some (sided_of k b))

abbrev pub checkpoint_made_of : Rust.Option Id → Rust.Option ℕ → Rust.Option Statement
checkpoint_made_of (Some i) (Some v) = Some (st.Checkpoint i v)
checkpoint_made_of (Some i) None = None
checkpoint_made_of None n = None

abbrev pub stop_made_of : Rust.Option Id → Rust.Option Statement
stop_made_of (Some i) = Some (st.Stop i)
stop_made_of None = None

abbrev pub exit_made_of : Rust.Option Id → Rust.Option Id → Rust.Option Statement
exit_made_of (Some i) (Some e) = Some (st.Exit i e)
exit_made_of (Some i) None = None
exit_made_of None e = None

abbrev pub point_made_of : Rust.Option Id → Rust.Option ℤ → Rust.Option ℤ → Rust.Option Statement
point_made_of (Some i) (Some a) (Some o) = Some (st.Point i a o)
point_made_of (Some i) (Some a) None = None
point_made_of (Some i) None o = None
point_made_of None a o = None

-- ## By the shape of the kind
abbrev pub by_shape : ℕ → Bytes → ℕ → Fields → ℕ → Rust.Option Statement
by_shape shape s base f k =
    pick (eqb shape 0) (Some (bare_of k))
    (pick (eqb shape 1) (name_made_of k base s f.b)
    (pick (eqb shape 2) (number_made_of k (the_integer_of (part s f.b)))
    (pick (eqb shape 3) (pair_made_of k (the_pair_of (part s f.b)))
    (pick (eqb shape 4) (side_made_of k (boundary_number (part s f.b)))
    (pick (eqb shape 5) (checkpoint_made_of (triple_of (part s f.b)) (the_integer_of (part s f.c)))
    (pick (eqb shape 6) (stop_made_of (triple_of (part s f.b)))
    (pick (eqb shape 7) (exit_made_of (triple_of (part s f.b)) (triple_of (part s f.c)))
    (point_made_of (triple_of (part s f.a)) (the_coordinate_of (part s f.b)) (the_coordinate_of (part s f.c))))))))))

unfoldable pub made_of : Bytes → ℕ → Fields → ℕ → Rust.Option Statement
made_of s base f k = by_shape (get_or shapes k 0) s base f k

-- ## As the program answers, which has an answer for every number: a row that is no kind has no fields, and nothing is made of it,
-- nor of a line whose end does not fit into 32 bits (proofs/Whole: else it is the same)
abbrev pub fields_needed_of : ℕ → ℕ
fields_needed_of k = pick (ltb k 30) (needs_of (get_or shapes k 0)) 0

unfoldable pub made_within : Bytes → ℕ → Fields → ℕ → Rust.Option Statement
made_within s base f k = pick (ltb k 30) (pick (ltb (base + length s) 4294967296) (made_of s base f k) None) None

abbrev pub made_from : Rust.Option Statement → Option Statement
made_from (Some s) = some s
made_from None = none
