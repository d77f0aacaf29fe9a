-- Executable: the order that fields make, by the shape of its kind. Assumes nothing.
use Rattle.std.specs.Prelude.{List, [], ◌∷◌, ℕ, ◌+◌, length, get_or, eqb, ltb, Some, None}
use Rattle.std.proofs.Math.Option.{Option, none, some}
use Rattle.terms.specs.Ascii.{Bytes}
use Rattle.terms.specs.Words.{pick}
use Rattle.line.specs.Forms.{part}
use Rattle.line.specs.declared.Span.{Span}
use Rattle.line.specs.declared.Fields.{Fields}
use Rattle.number.specs.Executable.{the_integer_of, is_name_length_of}
use Rattle.statement.specs.declared.Order.{Order}
use Rattle.statement.specs.declared.Order.TheVariants as or
use Rattle.std.specs.Prelude as Rust

abbrev pub order_shapes : List ℕ
order_shapes = 1 ∷ 1 ∷ 1 ∷ 1 ∷ 0 ∷ 2 ∷ 0 ∷ 0 ∷ 2 ∷ 0 ∷ 0 ∷ 3 ∷ 4 ∷ []

abbrev pub order_needs : ℕ → ℕ
order_needs shape = pick (eqb shape 0) 1 (pick (eqb shape 3) 1 (pick (eqb shape 4) 3 2))

unfoldable pub bare_order_of : ℕ → Order
bare_order_of k = pick (eqb k 4) or.Checkpoints (pick (eqb k 6) or.EndCheckpoints (pick (eqb k 7) or.SpeedLimits (pick (eqb k 9) or.EndSpeedLimits or.EndFile)))

unfoldable pub named_order_of : ℕ → ℕ → ℕ → Order
named_order_of k a l = pick (eqb k 0) (or.MdfName a l) (pick (eqb k 1) (or.Rndf a l) (pick (eqb k 2) (or.FormatVersion a l) (or.CreationDate a l)))

unfoldable pub numbered_order_of : ℕ → ℕ → Order
numbered_order_of k n = pick (eqb k 5) (or.NumCheckpoints n) (pick (eqb k 8) (or.NumSpeedLimits n) (or.Goal n))

unfoldable pub name_ordered_of : ℕ → ℕ → Bytes → Span → Rust.Option Order
name_ordered_of k base s f = pick (is_name_length_of (length (part s f))) (Some (named_order_of k (base + f.start) (length (part s f)))) None

abbrev pub number_ordered_of : ℕ → Rust.Option ℕ → Rust.Option Order
number_ordered_of k (Some v) = Some (numbered_order_of k v)
number_ordered_of k None = None

abbrev pub limit_ordered_of : Rust.Option ℕ → Rust.Option ℕ → Rust.Option ℕ → Rust.Option Order
limit_ordered_of (Some i) (Some a) (Some b) = Some (or.Limit i a b)
limit_ordered_of (Some i) (Some a) None = None
limit_ordered_of (Some i) None b = None
limit_ordered_of None a b = None

abbrev pub order_by_shape : ℕ → Bytes → ℕ → Fields → ℕ → Rust.Option Order
order_by_shape shape s base f k =
    pick (eqb shape 0) (Some (bare_order_of k))
    (pick (eqb shape 1) (name_ordered_of k base s f.b)
    (pick (eqb shape 2) (number_ordered_of k (the_integer_of (part s f.b)))
    (pick (eqb shape 3) (number_ordered_of k (the_integer_of (part s f.a)))
    (limit_ordered_of (the_integer_of (part s f.a)) (the_integer_of (part s f.b)) (the_integer_of (part s f.c))))))

unfoldable pub order_made_of : Bytes → ℕ → Fields → ℕ → Rust.Option Order
order_made_of s base f k = order_by_shape (get_or order_shapes k 0) s base f k

-- as the program answers (see Made)
abbrev pub order_fields_needed_of : ℕ → ℕ
order_fields_needed_of k = pick (ltb k 13) (order_needs (get_or order_shapes k 0)) 0

unfoldable pub order_made_within : Bytes → ℕ → Fields → ℕ → Rust.Option Order
order_made_within s base f k = pick (ltb k 13) (pick (ltb (base + length s) 4294967296) (order_made_of s base f k) None) None

abbrev pub order_from : Rust.Option Order → Option Order
order_from (Some s) = some s
order_from None = none
