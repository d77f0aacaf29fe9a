-- THE LAW: a mission fits a network, by the bytes of names. Assumes nothing.
use mathlib.Core.Path.{sym, ap, subst}
use mathlib.Core.List.{List, map}
use Prim.Native.Nat.{ℕ}
use Rattle.terms.specs.Ascii.{Bytes}
use Rattle.terms.specs.Words.{Each, Among, Between}
use Rattle.line.specs.Content.{Field}
use Rattle.law.specs.Faults as Law
use Rattle.grammar.specs.Network.{Network}
use Rattle.grammar.specs.Mission.{Mission}
use Rattle.grammar.specs.Names.{network_named, mission_named}
use Rattle.grammar.specs.References.{MissionFits}
use Rattle.text.specs.Spelling.{Name, bytes, bytes_of}
use Rattle.fill.proofs.NameLaws.{numbers-same, parts_same}

unnamed : Name → Bytes
unnamed (bytes b) = b

module _ (n : Network Field) (m : Mission Field) where
  abbrev ids : List ℕ
  ids = map (λ a. a.id) m.limits

  pub fits-to : MissionFits (network_named bytes_of n) (mission_named bytes_of m) → Law.MissionFits n m
  unfolding unnamed mission_named network_named
  fits-to h = record {
    name = ap unnamed h.name;
    goals = subst (λ (l : List ℕ). Each (λ g. Among g l) m.goals) (numbers-same bytes_of n) h.goals;
    known = subst (λ (p : ℕ). Each (λ a. Between 1 p a.id) m.limits) (parts_same bytes_of n) h.known;
    once = h.once;
    all = subst (λ (p : ℕ). (i : ℕ) → Between 1 p i → Among i ids) (parts_same bytes_of n) h.all;
  }

  pub fits-back : Law.MissionFits n m → MissionFits (network_named bytes_of n) (mission_named bytes_of m)
  unfolding mission_named network_named
  fits-back h = record {
    name = ap bytes h.name;
    goals = subst (λ (l : List ℕ). Each (λ g. Among g l) m.goals) (sym (numbers-same bytes_of n)) h.goals;
    known = subst (λ (p : ℕ). Each (λ a. Between 1 p a.id) m.limits) (sym (parts_same bytes_of n)) h.known;
    once = h.once;
    all = subst (λ (p : ℕ). (i : ℕ) → Between 1 p i → Among i ids) (sym (parts_same bytes_of n)) h.all;
  }
