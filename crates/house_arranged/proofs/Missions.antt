-- The statements that spell a mission, put in order by rank, are its statements in house order, without its date. Assumes nothing.
use mathlib.Core.Path.{◌≡◌, refl, ap, ◌∙◌}
use mathlib.Core.List.{List, [], ◌∷◌, ◌++◌, map, append-nil}
use Prim.Native.Nat.{ℕ}
use lib.ListN.{length}
use lib.Dec.{T}
use Rattle.terms.specs.Words.{perhaps}
use Rattle.grammar.specs.MissionStatements.{Kind, Says, Statement, orders, say, of_kind, Only, MDF_name_of, RNDF, format_version_of, creation_date_of, checkpoints, num_checkpoints, end_checkpoints, speed_limits, num_speed_limits, end_speed_limits, end_file_of, goal, limit}
use Rattle.grammar.specs.Mission.{Mission, MissionOptions, SpellsMission}
use Rattle.grammar.specs.HouseOrder.{mission_options, house_mission}
use Rattle.house_text.specs.House.{mission_undated}
use Rattle.house_arranged.specs.Order.{ranked, by_rank, arranged}
use Rattle.house_arranged.specs.Ranks.{mdf_rank}
use Rattle.house_arranged.proofs.Settling.{Sorted, Settles, with, one, ◌▸◌, settled, six}
use Rattle.house_arranged.proofs.Settling as Settling
use Rattle.house_arranged.proofs.OptionRanks.{alone, only-options, own-ranked, none-ranked}

-- the options of a mission
abbrev kinds : List Kind
kinds = format_version_of ∷ creation_date_of ∷ []

module _ {N : Type 0} where
  abbrev rank : Statement N → ℕ
  rank s = mdf_rank s.kind

  abbrev In-order : List (Statement N) → List (Statement N) → Type 0
  In-order = Settles rank

  own : (k : Kind) → T (alone (orders N) mdf_rank k kinds) → (os : List (Statement N)) → Only kinds os → {vs : List (Says N k)} → of_kind k os ≡ vs → ranked rank (mdf_rank k) os ≡ map (say k) vs
  own = own-ranked (orders N) mdf_rank kinds

  options-order : (a : Mission N) (os : List (Statement N)) → MissionOptions a os → Sorted rank os (mission_options (mission_undated a))
  unfolding by_rank mission_options
  options-order a os g =
      let o = g.no_other in
      let none = none-ranked (orders N) mdf_rank kinds in
      record {
        options = only-options (orders N) mdf_rank kinds tt os o;
        order =
            six (own format_version_of tt os o g.version) (none 2 tt os o) (none 3 tt os o) (none 4 tt os o) (none 5 tt os o) (none 6 tt os o);
      }

  only : (k : Kind) (v : Says N k) → mdf_rank k ≡ 0 → In-order (say k v ∷ []) (say k v ∷ [])
  only k v z = one rank (say k v) z

  -- goals, and limits
  all_of : (k : Kind) → mdf_rank k ≡ 0 → (vs : List (Says N k)) → In-order (map (say k) vs) (map (say k) vs)
  all_of k z [] = Settling.none rank
  all_of k z (v ∷ vs) = only k v z ▸ all_of k z vs

  in-mission : (a : Mission N) (l : List (Statement N)) → SpellsMission a l → In-order l (house_mission (mission_undated a))
  unfolding house_mission
  in-mission a l s =
      let o = with rank (say RNDF a.rndf) refl (options-order a s.options s.given) in
      rw s.spelled (
      only MDF_name_of a.name refl ▸ o ▸ only checkpoints tt refl ▸ only num_checkpoints (length a.goals) refl ▸ all_of goal refl a.goals
      ▸ only end_checkpoints tt refl ▸ only speed_limits tt refl ▸ only num_speed_limits (length a.limits) refl ▸ all_of limit refl a.limits
      ▸ only end_speed_limits tt refl ▸ only end_file_of tt refl
      )

  pub mission-arranged : (a : Mission N) (said : List (Statement N)) → SpellsMission a said → arranged (λ s. mdf_rank s.kind) said ≡ house_mission (mission_undated a)
  mission-arranged a said s = settled rank said (house_mission (mission_undated a)) (in-mission a said s)
