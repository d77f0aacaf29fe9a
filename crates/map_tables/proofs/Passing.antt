-- Walks one behind the other. Assumes nothing.
use mathlib.Core.Path.{◌≡◌, refl, sym, ap, subst, ◌∙◌}
use mathlib.Core.List.{List, [], ◌++◌, map, map-append, append_assoc}
use Prim.Native.Nat.{ℕ, ◌+◌, ◌≤◌}
use native.Mathlib.Omega.{arith}
use lib.ListN.{length, length-append, length-map}
use Rattle.terms.specs.Ascii.{Bytes}
use Rattle.terms.proofs.Lists.{each_map, each_append}
use Rattle.rows.specs.Read.{checkpoint_at_of}
use Rattle.filled_rows.specs.From.{From}
use Rattle.filled_rows.proofs.From.{from_parts}
use Rattle.grammar.specs.Tables.{CheckpointRow}
use Rattle.table_words.specs.Shown.{shown_checkpoint}
use Rattle.output.specs.Pen.{Pen, put}
use Rattle.features.specs.Drawn.{Walk, walk}
use Rattle.map_json.proofs.Loops.{behind}
use Rattle.map_tables.specs.Marked.{marks}
use Rattle.map_tables.specs.Passed.{Left, Behind, Passes}
use Rattle.map_tables.proofs.Marks.{later_append}

pub put-put : (q : Pen) (x y : Bytes) → put (put q x) y ≡ put q (x ++ y)
put-put q x y = behind {q = put q x} {x = x} y (record { is = refl })

module _ (cps : List ℕ) (count : ℕ) where
  left_behind : (next : ℕ) (own others : List CheckpointRow) → Left cps count next (own ++ others) → Left cps count (next + length own) others
  left_behind next own others l =
      let parts = from_parts (checkpoint_at_of cps) next (map shown_checkpoint own) (map shown_checkpoint others) (rw (sym (map-append shown_checkpoint own others)) l.read) in
      let a = l.all in
      let b = length-append own others in
      record { all = omega arith; read = subst (λ (k : ℕ). From (checkpoint_at_of cps) (next + k) (map shown_checkpoint others)) (length-map own shown_checkpoint) parts.1 }

  pub none_passed : (end : ℕ) → Passes cps count (λ w. w) end [] []
  unfolding marks put
  none_passed end q next others l h = ap (walk q) (let e : next ≡ next + 0 = omega arith in e)

  -- THE LAW: g, then h, whose rows stand behind those of g
  module _ (g h : Walk → Walk) (end last : ℕ) (own own' : List CheckpointRow) (features features' : List Bytes) where
    pub both-passed : Passes cps count g end own features → Passes cps count h last own' features' → Behind end own' → end ≤ last → Passes cps count (λ w. h (g w)) last (own ++ own') (features ++ features')
    both-passed a b low le q next others l high =
        let l₁ = subst (Left cps count next) (append_assoc own own' others) l in
        let l₂ = left_behind next own (own' ++ others) l₁ in
        let high₁ = each_append (λ r. end ≤ r.point) own' others low (each_map (λ r. last ≤ r.point) (λ r. end ≤ r.point) (λ r k. omega arith) others high) in
        let bytes = put-put q (marks 1 features) (marks 1 features') ∙ ap (put q) (sym (later_append features features')) in
        let e = length-append own own' in
        let rows : next + length own + length own' ≡ next + length (own ++ own') = omega arith in
        ap h (a q next (own' ++ others) l₁ high₁) ∙ b (put q (marks 1 features)) (next + length own) others l₂ high ∙ (λ i. walk (bytes i) (rows i))
