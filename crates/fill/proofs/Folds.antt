-- What a fold over statements fills, put together from its parts. Assumes nothing.
use mathlib.Core.Path.{◌≡◌, refl, sym, ap, subst, ◌∙◌}
use mathlib.Core.List.{List, [], ◌∷◌, ◌++◌}
use Rattle.grammar.specs.Language.{Lang, S}
use Rattle.fill.specs.Filling.{Filling, step, given, ends, rows}

module _ {L : Lang} (F : Filling L) where
  -- from state s the statements l give the rows o and leave state t
  pub record Fills (l : List (S L)) (s : F.State) (o : F.Rows) (t : F.State) : Type 0 where
    pub rows_are : rows F l s ≡ o
    pub left : ends F l s ≡ t

module _ {L : Lang} (F : Filling L) where
  pub ends_append : (u v : List (S L)) (s : F.State) → ends F (u ++ v) s ≡ ends F v (ends F u s)
  unfolding ends
  ends_append [] v s = refl
  ends_append (x ∷ u) v s = ends_append u v (step F x s)

module _ {L : Lang} {F : Filling L} where
  pub none : (s : F.State) → Fills F [] s F.no_rows s
  unfolding rows ends
  none s = record { rows_are = refl; left = refl }

  pub one : (x : S L) {l : List (S L)} {s t : F.State} {o : F.Rows} → Fills F l (step F x s) o t → Fills F (x ∷ l) s (F.join (given F x s) o) t
  unfolding rows ends
  one x {l} {s} f = record { rows_are = ap (F.join (given F x s)) f.rows_are; left = f.left }

  pub as_rows : {l : List (S L)} {s t : F.State} {o p : F.Rows} → Fills F l s o t → o ≡ p → Fills F l s p t
  as_rows {l} {s} {t} f e = subst (λ (o : F.Rows). Fills F l s o t) e f

  pub as-state : {l : List (S L)} {s t u : F.State} {o : F.Rows} → Fills F l s o t → t ≡ u → Fills F l s o u
  as-state {l} {s} {o = o} f e = subst (Fills F l s o) e f

-- where joining rows is joining lists
pub record Joins {L : Lang} (F : Filling L) : Type 0 where
  pub assoc : (a b c : F.Rows) → F.join (F.join a b) c ≡ F.join a (F.join b c)
  pub empty : (a : F.Rows) → F.join F.no_rows a ≡ a

module _ {L : Lang} {F : Filling L} (J : Joins F) where
  pub rows_append : (u v : List (S L)) (s : F.State) → rows F (u ++ v) s ≡ F.join (rows F u s) (rows F v (ends F u s))
  unfolding rows ends
  rows_append [] v s = sym (J.empty (rows F v s))
  rows_append (x ∷ u) v s = ap (F.join (given F x s)) (rows_append u v (step F x s)) ∙ sym (J.assoc (given F x s) (rows F u (step F x s)) (rows F v (ends F u (step F x s))))

  pub both : {u v : List (S L)} {s t w : F.State} {o p : F.Rows} → Fills F u s o t → Fills F v t p w → Fills F (u ++ v) s (F.join o p) w
  both {u} {v} {s} f g = record {
    rows_are = rows_append u v s ∙ rw (f.left, f.rows_are, g.rows_are);
    left = ends_append F u v s ∙ rw f.left g.left;
  }
