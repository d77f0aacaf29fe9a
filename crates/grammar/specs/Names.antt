-- A network (from the law) or mission with its names told in another way: as their bytes instead of their places in a text. Assumes nothing.
use Rattle.grammar.specs.Mission.{Mission}
pub use Rattle.law.specs.Same.{perhaps_name, segment_named_of, zone_named_of}
unfoldable pub use Rattle.law.specs.Same.{network_named}

module _ {N M : Type 0} (f : N → M) where
  unfoldable pub mission_named : Mission N → Mission M
  mission_named m = record { name = f m.name; rndf = f m.rndf; version = perhaps_name f m.version; date = perhaps_name f m.date; goals = m.goals; limits = m.limits }
