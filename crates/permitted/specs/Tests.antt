-- Executable: which values a statement of an RNDF may have, as the grammar decides it, of the numbers that the program has. Assumes nothing.
use Rattle.std.specs.Prelude.{ℕ, Bool, ◌&&◌, leb, ℤ, nat_abs}
use Rattle.grammar.specs.Statements.{part_id, point_id}
use Rattle.grammar.specs.Network.{GoodExit, GoodPerimeterExit}
use Rattle.grammar.specs.Forms.{yes?, tested}
use Rattle.grammar.specs.Permitted.{between?, point?, entry?, exit?, perimeter_exit?, counted, upto, at_most, the_number_of, the_part_of, the_point_of, own_stop_of, own_checkpoint_of, own_exit_of}
use Rattle.number.specs.declared.Id.{Id}
use Rattle.statement.specs.Meaning.{the_the_point_of}

unfoldable pub is_counted : ℕ → Bool
is_counted n = tested counted n

unfoldable pub is_at_most : ℕ → Bool
is_at_most n = tested at_most n

unfoldable pub is_up_to : (c n : ℕ) → Bool
is_up_to c n = tested (upto c) n

unfoldable pub is_the_number : (due n : ℕ) → Bool
is_the_number due n = tested (the_number_of due) n

unfoldable pub is_the_part : (m due a b : ℕ) → Bool
is_the_part m due a b = tested (the_part_of m due) (part_id a b)

unfoldable pub is_the_point : (m n due : ℕ) → Id → (a o : ℤ) → Bool
is_the_point m n due i a o = tested (the_point_of m n due) (record { id = the_the_point_of i; position = record { latitude = a; longitude = o } })

unfoldable pub is_own_stop : (m n w : ℕ) → Id → Bool
is_own_stop m n w i = tested (own_stop_of m n w) (the_the_point_of i)

unfoldable pub is_own_checkpoint : (m n first w : ℕ) → Id → ℕ → Bool
is_own_checkpoint m n first w i number = tested (own_checkpoint_of m n first w) (record { waypoint = the_the_point_of i; number = number })

unfoldable pub is_own_exit : (m n w : ℕ) → (i e : Id) → Bool
is_own_exit m n w i e = tested (own_exit_of m n (GoodExit w) (exit? w)) (record { waypoint = the_the_point_of i; entry = the_the_point_of e })

unfoldable pub is_perimeter_exit : (m w : ℕ) → (i e : Id) → Bool
is_perimeter_exit m w i e = tested (own_exit_of m 0 (GoodPerimeterExit w) (perimeter_exit? w)) (record { waypoint = the_the_point_of i; entry = the_the_point_of e })

-- ## Parts of these
unfoldable pub is_point_of : (m n k : ℕ) → Id → Bool
is_point_of m n k i = yes? (point? (point_id m n k) (the_the_point_of i))

unfoldable pub is_numbered : (first w n : ℕ) → Bool
is_numbered first w n = yes? (between? first w n)

unfoldable pub is_latitude : ℤ → Bool
is_latitude z = leb (nat_abs z) 90000000

unfoldable pub is_longitude : ℤ → Bool
is_longitude z = leb (nat_abs z) 180000000

unfoldable pub is_entry_of : Id → Bool
is_entry_of e = yes? (entry? (the_the_point_of e))

unfoldable pub is_inner_entry : Id → Bool
is_inner_entry e = is_counted e.x && (is_counted e.y && is_counted e.z)
