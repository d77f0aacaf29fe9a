-- What is put for a part is its feature: with and without a name. Assumes nothing.
use mathlib.Core.Path.{◌≡◌, refl, sym, ap, ◌∙◌}
use mathlib.Core.List.{List, [], ◌∷◌, ◌++◌, append_assoc}
use Prim.Native.Nat.{ℕ}
use Rattle.terms.specs.Ascii.{Bytes, ascii}
use Rattle.number.specs.House.{house_pair, house_triple}
use Rattle.law.specs.Network.{Position, dotted}
use Rattle.law.specs.Tables.{gather}
use Rattle.map_law.specs.Map as Map
use Rattle.map_law.specs.Map.{commas}
use Rattle.map_tables.proofs.Identifiers.{pair-plain, triple-plain}

-- ## Put another way round: as the law nests it, and as it is put
module _ (a shape b e : Bytes) where
  inward : (t : Bytes) → a ++ shape ++ b ++ e ++ t ≡ a ++ (shape ++ (b ++ (e ++ t)))
  inward t = append_assoc (a ++ shape ++ b) e t ∙ append_assoc (a ++ shape) b (e ++ t) ∙ append_assoc a shape (b ++ (e ++ t))

  pub unnamed : a ++ shape ++ b ++ e ++ ascii "\"}}" ≡ a ++ ((shape ++ (b ++ ((e ++ ascii "\"") ++ ascii "}"))) ++ ascii "}")
  unfolding ascii
  unnamed =
      inward (ascii "\"}}")
      ∙ ap (λ (x : Bytes). a ++ (shape ++ (b ++ x))) (sym (append_assoc (e ++ ascii "\"") (ascii "}") (ascii "}") ∙ append_assoc e (ascii "\"") (ascii "}}")))
      ∙ ap (λ (x : Bytes). a ++ (shape ++ x)) (sym (append_assoc b ((e ++ ascii "\"") ++ ascii "}") (ascii "}")))
      ∙ ap (λ (x : Bytes). a ++ x) (sym (append_assoc shape (b ++ ((e ++ ascii "\"") ++ ascii "}")) (ascii "}")))

  -- with one property more, l its key
  pub further : (l q : Bytes) → a ++ shape ++ b ++ e ++ ((ascii "\"" ++ l) ++ q ++ ascii "}}") ≡ a ++ ((shape ++ (b ++ (((e ++ ascii "\"") ++ (l ++ q)) ++ ascii "}"))) ++ ascii "}")
  unfolding ascii
  further l q =
      let t = l ++ q in
      inward ((ascii "\"" ++ l) ++ q ++ ascii "}}")
      ∙ ap (λ (x : Bytes). a ++ (shape ++ (b ++ x))) (sym (append_assoc ((e ++ ascii "\"") ++ t) (ascii "}") (ascii "}") ∙ append_assoc (e ++ ascii "\"") t (ascii "}}") ∙ append_assoc e (ascii "\"") (t ++ ascii "}}")))
      ∙ ap (λ (x : Bytes). a ++ (shape ++ x)) (sym (append_assoc b (((e ++ ascii "\"") ++ t) ++ ascii "}") (ascii "}")))
      ∙ ap (λ (x : Bytes). a ++ x) (sym (append_assoc shape (b ++ (((e ++ ascii "\"") ++ t) ++ ascii "}")) (ascii "}")))

-- the part's identifier, as it is put
abbrev the_id_of : (m n : ℕ) → Bytes
the_id_of m n = gather Map.escaped (dotted (m ∷ n ∷ []))

-- ## A lane, with this shape
pub lane-unnamed : (m n : ℕ) (shape : Bytes) → ascii "{\"type\":\"Feature\",\"geometry\":" ++ shape ++ ascii ",\"properties\":{\"kind\":\"lane\",\"id\":\"" ++ house_pair m n ++ ascii "\"}}" ≡ Map.feature "lane" (m ∷ n ∷ []) [] shape
unfolding ascii commas
lane-unnamed m n shape =
    ap (λ (x : Bytes). ascii "{\"type\":\"Feature\",\"geometry\":" ++ shape ++ ascii ",\"properties\":{\"kind\":\"lane\",\"id\":\"" ++ x ++ ascii "\"}}") (sym (pair-plain m n))
    ∙ unnamed (ascii "{\"type\":\"Feature\",\"geometry\":") shape (ascii ",\"properties\":{\"kind\":\"lane\",\"id\":\"") (the_id_of m n)

pub lane-named : (m n : ℕ) (shape name : Bytes) → ascii "{\"type\":\"Feature\",\"geometry\":" ++ shape ++ ascii ",\"properties\":{\"kind\":\"lane\",\"id\":\"" ++ house_pair m n ++ (ascii "\",\"name\":" ++ Map.quoted name ++ ascii "}}") ≡ Map.feature "lane" (m ∷ n ∷ []) (Map.member "name" (Map.quoted name) ∷ []) shape
unfolding ascii commas
lane-named m n shape name =
    ap (λ (x : Bytes). ascii "{\"type\":\"Feature\",\"geometry\":" ++ shape ++ ascii ",\"properties\":{\"kind\":\"lane\",\"id\":\"" ++ x ++ (ascii "\",\"name\":" ++ Map.quoted name ++ ascii "}}")) (sym (pair-plain m n))
    ∙ further (ascii "{\"type\":\"Feature\",\"geometry\":") shape (ascii ",\"properties\":{\"kind\":\"lane\",\"id\":\"") (the_id_of m n) (ascii ",\"name\":") (Map.quoted name)

-- ## A perimeter, with its comma
pub perimeter-unnamed : (m : ℕ) (shape : Bytes) → ascii ",{\"type\":\"Feature\",\"geometry\":" ++ shape ++ ascii ",\"properties\":{\"kind\":\"perimeter\",\"id\":\"" ++ house_pair m 0 ++ ascii "\"}}" ≡ ascii "," ++ Map.feature "perimeter" (m ∷ 0 ∷ []) [] shape
unfolding ascii commas
perimeter-unnamed m shape =
    ap (λ (x : Bytes). ascii ",{\"type\":\"Feature\",\"geometry\":" ++ shape ++ ascii ",\"properties\":{\"kind\":\"perimeter\",\"id\":\"" ++ x ++ ascii "\"}}") (sym (pair-plain m 0))
    ∙ unnamed (ascii ",{\"type\":\"Feature\",\"geometry\":") shape (ascii ",\"properties\":{\"kind\":\"perimeter\",\"id\":\"") (the_id_of m 0)

pub perimeter-named : (m : ℕ) (shape name : Bytes) → ascii ",{\"type\":\"Feature\",\"geometry\":" ++ shape ++ ascii ",\"properties\":{\"kind\":\"perimeter\",\"id\":\"" ++ house_pair m 0 ++ (ascii "\",\"name\":" ++ Map.quoted name ++ ascii "}}") ≡ ascii "," ++ Map.feature "perimeter" (m ∷ 0 ∷ []) (Map.member "name" (Map.quoted name) ∷ []) shape
unfolding ascii commas
perimeter-named m shape name =
    ap (λ (x : Bytes). ascii ",{\"type\":\"Feature\",\"geometry\":" ++ shape ++ ascii ",\"properties\":{\"kind\":\"perimeter\",\"id\":\"" ++ x ++ (ascii "\",\"name\":" ++ Map.quoted name ++ ascii "}}")) (sym (pair-plain m 0))
    ∙ further (ascii ",{\"type\":\"Feature\",\"geometry\":") shape (ascii ",\"properties\":{\"kind\":\"perimeter\",\"id\":\"") (the_id_of m 0) (ascii ",\"name\":") (Map.quoted name)

-- ## A checkpoint on waypoint x.y.z, with its comma
pub checkpoint-numbered : (x y z : ℕ) (p : Position) (number : Bytes)
    → ascii ",{\"type\":\"Feature\",\"geometry\":{\"type\":\"Point\",\"coordinates\":" ++ Map.position p ++ ascii "},\"properties\":{\"kind\":\"checkpoint\",\"id\":\"" ++ house_triple x y z ++ ascii "\",\"number\":" ++ number ++ ascii "}}"
    ≡ ascii "," ++ Map.feature "checkpoint" (x ∷ y ∷ z ∷ []) (Map.member "number" number ∷ []) (Map.point p)
unfolding ascii commas
checkpoint-numbered x y z p number =
    let a = ascii ",{\"type\":\"Feature\",\"geometry\":" in
    let o = ascii "{\"type\":\"Point\",\"coordinates\":" in
    let b = ascii ",\"properties\":{\"kind\":\"checkpoint\",\"id\":\"" in
    let t = ascii "\",\"number\":" in
    let e = gather Map.escaped (dotted (x ∷ y ∷ z ∷ [])) in
    ap (λ (i : Bytes). (a ++ o) ++ Map.position p ++ (ascii "}" ++ b) ++ i ++ t ++ number ++ ascii "}}") (sym (triple-plain x y z))
    ∙ closing ((a ++ o) ++ Map.position p ++ (ascii "}" ++ b) ++ e) t number (ascii "}}")
    ∙ ap (λ (i : Bytes). i ++ e ++ (t ++ number ++ ascii "}}")) (opening a o (Map.position p) (ascii "}") b)
    ∙ further a (o ++ (Map.position p ++ ascii "}")) b e (ascii ",\"number\":") number
  where
    closing : (s t q z : Bytes) → s ++ t ++ q ++ z ≡ s ++ (t ++ q ++ z)
    closing s t q z = append_assoc (s ++ t) q z ∙ append_assoc s t (q ++ z) ∙ ap (λ (i : Bytes). s ++ i) (sym (append_assoc t q z))

    opening : (a o p c b : Bytes) → (a ++ o) ++ p ++ (c ++ b) ≡ a ++ (o ++ (p ++ c)) ++ b
    opening a o p c b =
        sym (append_assoc ((a ++ o) ++ p) c b)
        ∙ ap (λ (i : Bytes). i ++ b) (append_assoc (a ++ o) p c ∙ append_assoc a o (p ++ c))
