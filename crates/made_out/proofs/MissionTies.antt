-- What is made of fields is what `text` reads of them, kind by kind of an MDF. Assumes nothing.
use Rattle.std.specs.Prelude.{Some, None}
use mathlib.Core.Path.{◌≡◌, refl}
use mathlib.Core.Option.{Option, none, some}
use mathlib.Core.Bool.{Bool, true, false}
use Prim.Native.Nat.{ℕ, ◌+◌}
use lib.ListN.{length, get_or}
use Rattle.terms.specs.Ascii.{Bytes}
use Rattle.terms.specs.Words.{pick}
use Rattle.line.specs.Forms.{part, field_in, listed}
use Rattle.line.specs.declared.Span.{Span}
use Rattle.line.specs.declared.Fields.{Fields}
use Rattle.number.specs.Executable.{the_integer_of, is_name_length_of}
use Rattle.grammar.specs.MissionStatements.{Kind, MDF_name_of, RNDF, format_version_of, creation_date_of, checkpoints, num_checkpoints, end_checkpoints, speed_limits, num_speed_limits, end_speed_limits, end_file_of, goal, limit}
use Rattle.grammar.specs.PlaceRows.{mission_kind_row}
use Rattle.grammar.specs.Renamed.{orders_named}
use Rattle.text.specs.Judge.{read, read_all, both, number, a_name}
use Rattle.text.specs.MdfWords.{word_at, mdf_sorts, mdf_make}
use Rattle.statement.specs.declared.Order.{Order}
use Rattle.statement.specs.declared.Order.TheVariants as or
use Rattle.statement.specs.MissionKinds.{of_kind}
use Rattle.made_out.specs.Names.{the_the_stretch_of, behind, told_as}
use Rattle.made_out.specs.MadeOrders.{order_shapes, order_needs, bare_order_of, named_order_of, numbered_order_of, name_ordered_of, number_ordered_of, limit_ordered_of, order_made_of, order_from}
use Rattle.std.specs.Prelude as Rust

-- ## By shape
names : (mk : ℕ → ℕ → Order) (base : ℕ) (s : Bytes) (f : Span)
    → order_from (pick (is_name_length_of (length (part s f))) (Some (mk (base + f.start) (length (part s f)))) None) ≡ told_as (λ v. mk v.0.start (length v.0.bytes)) (both (read a_name (field_in base s f)) (some (tt {0})))
unfolding read
names mk base s f = go (is_name_length_of (length (part s f)))
  where
    go : (b : Bool) → order_from (pick b (Some (mk (base + f.start) (length (part s f)))) None) ≡ told_as (λ v. mk v.0.start (length v.0.bytes)) (both (pick b (some (field_in base s f)) none) (some (tt {0})))
    go true = refl
    go false = refl

numbers : (k : ℕ) (n : Rust.Option ℕ) → order_from (number_ordered_of k n) ≡ told_as (λ v. numbered_order_of k v.0) (both (number n) (some (tt {0})))
numbers k (Some n) = refl
numbers k None = refl

limits : (i a b : Rust.Option ℕ) → order_from (limit_ordered_of i a b) ≡ told_as (λ v. of_kind limit (mdf_make limit v)) (both (number i) (both (number a) (both (number b) (some (tt {0})))))
limits (Some i) (Some a) (Some b) = refl
limits (Some i) (Some a) None = refl
limits (Some i) None b = refl
limits None a b = refl

-- ## Every kind
module _ (base : ℕ) (s : Bytes) (f : Fields) where
  abbrev pub as_read : (k : Kind) → Option Order
  as_read k = told_as (λ v. of_kind k (orders_named the_the_stretch_of k (mdf_make k v))) (read_all (mdf_sorts k) (behind (word_at (mission_kind_row k)) (listed base s f (order_needs (get_or order_shapes (mission_kind_row k) 0)))))

  pub order_is : (k : Kind) → order_from (order_made_of s base f (mission_kind_row k)) ≡ as_read k
  unfolding order_made_of bare_order_of name_ordered_of named_order_of numbered_order_of read
  order_is MDF_name_of = names or.MdfName base s f.b
  order_is RNDF = names or.Rndf base s f.b
  order_is format_version_of = names or.FormatVersion base s f.b
  order_is creation_date_of = names or.CreationDate base s f.b
  order_is checkpoints = refl
  order_is num_checkpoints = numbers 5 (the_integer_of (part s f.b))
  order_is end_checkpoints = refl
  order_is speed_limits = refl
  order_is num_speed_limits = numbers 8 (the_integer_of (part s f.b))
  order_is end_speed_limits = refl
  order_is end_file_of = refl
  order_is goal = numbers 11 (the_integer_of (part s f.a))
  order_is limit = limits (the_integer_of (part s f.a)) (the_integer_of (part s f.b)) (the_integer_of (part s f.c))
