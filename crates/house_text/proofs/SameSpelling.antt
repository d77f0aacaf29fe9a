-- Statements that differ only in what names are told as spell networks, or missions, that differ only so. Assumes nothing.
use mathlib.Core.Path.{◌≡◌, refl, sym, ap, ◌∙◌}
use mathlib.Core.List.{List, [], ◌∷◌, map}
use Rattle.grammar.specs.Statements.{Statement}
use Rattle.grammar.specs.MissionStatements as M
use Rattle.grammar.specs.Network.{Network, SpellsNetwork}
use Rattle.grammar.specs.Mission.{Mission, SpellsMission}
use Rattle.grammar.specs.Names.{network_named, mission_named}
use Rattle.grammar.specs.Machine.{Out, next, refuse, Stand, and_then, at, step, run}
use Rattle.grammar.specs.Places.{rndf, Base, name_due}
use Rattle.grammar.specs.MissionPlaces as Ma
use Rattle.grammar.specs.Renamed.{statement_named, order_named}
use Rattle.grammar.proofs.Renaming.{rndf-renamed, mdf-renamed}
use Rattle.grammar.proofs.Theorems.{network-complete, network-sound, network-unique, mission-complete, mission-sound, mission-unique}
use Rattle.table_words.proofs.Spelled.{network-spelled, mission-spelled}

module _ {N N' : Type 0} (f : N → N') where
  -- ## RNDF
  -- a run is the same whatever names are
  rndf-run : (p : Stand Base) (l : List (Statement N)) → run (rndf N') p (map (statement_named f) l) ≡ run (rndf N) p l
  unfolding run
  rndf-run p [] = refl
  rndf-run p (s ∷ l) = ap (λ (o : Out (Stand Base)). and_then o (λ q. run (rndf N') q (map (statement_named f) l))) (rndf-renamed f p s) ∙ go (step (rndf N) p s) (λ q. rndf-run q l)
    where
      go : (o : Out (Stand Base)) → ((q : Stand Base) → run (rndf N') q (map (statement_named f) l) ≡ run (rndf N) q l) → and_then o (λ q. run (rndf N') q (map (statement_named f) l)) ≡ and_then o (λ q. run (rndf N) q l)
      go (next q) ih = ih q
      go (refuse c) ih = refl

  -- what such statements spell
  pub network-alike : (n : Network N) (l l' : List (Statement N)) → SpellsNetwork n l → map (statement_named f) l ≡ map (statement_named f) l' → (n' : Network N) × SpellsNetwork n' l' × (network_named f n' ≡ network_named f n)
  network-alike n l l' s e =
      let p = at (rndf N) name_due in
      let x = network-sound l' (sym (rndf-run p l') ∙ ap (run (rndf N') p) (sym e) ∙ rndf-run p l ∙ network-complete n l s) in
      (x.0, x.1, network-unique (network_named f x.0) (network_named f n) (map (statement_named f) l') (map (statement_named f) l) (network-spelled f x.0 l' x.1) (network-spelled f n l s) (sym e))

  -- ## MDF
  mdf-run : (p : Stand Ma.Base) (l : List (M.Statement N)) → run (Ma.mdf N') p (map (order_named f) l) ≡ run (Ma.mdf N) p l
  unfolding run
  mdf-run p [] = refl
  mdf-run p (s ∷ l) = ap (λ (o : Out (Stand Ma.Base)). and_then o (λ q. run (Ma.mdf N') q (map (order_named f) l))) (mdf-renamed f p s) ∙ go (step (Ma.mdf N) p s) (λ q. mdf-run q l)
    where
      go : (o : Out (Stand Ma.Base)) → ((q : Stand Ma.Base) → run (Ma.mdf N') q (map (order_named f) l) ≡ run (Ma.mdf N) q l) → and_then o (λ q. run (Ma.mdf N') q (map (order_named f) l)) ≡ and_then o (λ q. run (Ma.mdf N) q l)
      go (next q) ih = ih q
      go (refuse c) ih = refl

  pub mission-alike : (m : Mission N) (l l' : List (M.Statement N)) → SpellsMission m l → map (order_named f) l ≡ map (order_named f) l' → (m' : Mission N) × SpellsMission m' l' × (mission_named f m' ≡ mission_named f m)
  mission-alike m l l' s e =
      let p = at (Ma.mdf N) Ma.name_due in
      let x = mission-sound l' (sym (mdf-run p l') ∙ ap (run (Ma.mdf N') p) (sym e) ∙ mdf-run p l ∙ mission-complete m l s) in
      (x.0, x.1, mission-unique (mission_named f x.0) (mission_named f m) (map (order_named f) l') (map (order_named f) l) (mission-spelled f x.0 l' x.1) (mission-spelled f m l s) (sym e))
