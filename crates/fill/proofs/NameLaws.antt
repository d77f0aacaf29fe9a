-- Names told in another way change neither lanes, checkpoint numbers nor parts. Assumes nothing.
use mathlib.Core.Path.{◌≡◌, refl, ap, ap₂}
use mathlib.Core.List.{List, ◌++◌, map}
use Prim.Native.Nat.{ℕ, ◌+◌}
use lib.ListN.{length-map}
use Rattle.terms.specs.Words.{perhaps}
use Rattle.grammar.specs.Network.{Lane, Spot, Network}
use Rattle.grammar.specs.Names.{segment_named_of, zone_named_of, network_named}
use Rattle.grammar.specs.Tables.{gather, all_lanes}
use Rattle.grammar.specs.References.{all_numbers, parts}
use Rattle.fill.proofs.RowLaws.{gather-moved}

module _ {N M : Type 0} (f : N → M) (n : Network N) where
  pub lanes-same : all_lanes (network_named f n) ≡ all_lanes n
  unfolding network_named
  lanes-same = gather-moved (segment_named_of f) (λ s. s.lanes) (λ s. s.lanes) (λ s. refl) n.segments

  pub numbers-same : all_numbers (network_named f n) ≡ all_numbers n
  unfolding network_named
  numbers-same = ap₂ (λ (x y : List ℕ). x ++ y) (ap (gather (λ (a : Lane). map (λ c. c.number) a.checkpoints)) lanes-same)
      (gather-moved (zone_named_of f) (λ z. gather numbers z.spots) (λ z. gather numbers z.spots) (λ z. refl) n.zones)
    where
      numbers : Spot → List ℕ
      numbers s = map (λ c. c.number) (perhaps s.checkpoint)

  pub parts_same : parts (network_named f n) ≡ parts n
  unfolding network_named
  parts_same = ap₂ (λ (x y : ℕ). x + y) (length-map n.segments (segment_named_of f)) (length-map n.zones (zone_named_of f))
