-- Which row of a table, and which statement, is the first at fault, and with which number. Document 01, "Refusal numbers", 12 to 18. Assumes nothing.
use Rattle.std.specs.Prelude.{◌≡◌, List, [], ◌∷◌, ◌++◌, map, ℕ, length}
use Rattle.terms.specs.Words.{Among, Between}
use Rattle.grammar.specs.Statements.{PointId, CheckpointLine, ExitLine, Statement, say, of_kind, checkpoint, exit}
use Rattle.grammar.specs.MissionStatements as M
use Rattle.grammar.specs.Network.{Network}
use Rattle.grammar.specs.References.{Declared}

-- ## The first at fault
-- `F front a k`: the row a, behind the rows `front`, is at fault with number k
-- no row of l is at fault, where l stands behind `front`
abbrev pub Faultless : {A : Type 0} → (List A → A → ℕ → Type 0) → (front l : List A) → Type 0
Faultless F front [] = Unit {0}
Faultless F front (a ∷ l) = ((k : ℕ) → F front a k → ⊥) × Faultless F (front ++ (a ∷ [])) l

-- row i is the first of l at fault, with number k; for a whole table `First F [] l i k`
pub record First {A : Type 0} (F : List A → A → ℕ → Type 0) (front l : List A) (i k : ℕ) : Type 0 where
  pub before : List A
  pub this : A
  pub rest : List A
  pub made : l ≡ before ++ (this ∷ rest)
  pub row : i ≡ length (front ++ before)
  pub fine : Faultless F front before
  pub fault : F (front ++ before) this k

-- ## Rows at fault
-- 01, 12: "entry is no declared lane waypoint or perimeter point". A row: an exit's entry
pub record Undeclared {N : Type 0} (n : Network N) (front : List PointId) (e : PointId) (k : ℕ) : Type 0 where
  pub not : Declared n e → ⊥
  pub number : k ≡ 12

-- 01, 13: "checkpoint number already declared". A row: a checkpoint's number
pub record Repeated (front : List ℕ) (a k : ℕ) : Type 0 where
  pub again : Among a front
  pub number : k ≡ 13

-- 01, 15: "goal not a checkpoint of the RNDF". A row: a goal's number; `numbers`: the checkpoints'
pub record ForeignGoal (numbers front : List ℕ) (a k : ℕ) : Type 0 where
  pub not : Among a numbers → ⊥
  pub number : k ≡ 15

-- 01, 16: "limit's id not in the RNDF"; 17: "limit's id already given"; "16 before 17". A row: a limit's id; the RNDF has the ids 1 to `parts`
pub data LimitFault (parts : ℕ) (front : List ℕ) (i k : ℕ) : Type 0 where
  not_there : (Between 1 parts i → ⊥) → k ≡ 16 → LimitFault parts front i k
  given_again : Between 1 parts i → Among i front → k ≡ 17 → LimitFault parts front i k

-- 01, 18: "some id has no limit"
pub record SomeMissing (parts : ℕ) (ids : List ℕ) : Type 0 where
  pub id : ℕ
  pub there : Between 1 parts id
  pub missing : Among id ids → ⊥

-- ## Statements at fault
-- 01: "then the first line with 12 or 13". A row: a statement of the RNDF
pub data ReferenceFault {N : Type 0} (n : Network N) (front : List (Statement N)) (x : Statement N) (k : ℕ) : Type 0 where
  undeclared : (v : ExitLine) → x ≡ say exit v → (Declared n v.entry → ⊥) → k ≡ 12 → ReferenceFault n front x k
  repeated : (v : CheckpointLine) → x ≡ say checkpoint v → Among v.number (map (λ c. c.number) (of_kind checkpoint front)) → k ≡ 13 → ReferenceFault n front x k

-- 01, 14: "MDF's RNDF name is not this RNDF's"; "14 to 18 by first line, 16 before 17"; 18 is of the line `end_speed_limits`. A row: a statement of the MDF.
-- `Named v`: v is the RNDF's name; `numbers`: its checkpoints'; its ids are 1 to `parts`
pub data MissionFault {N : Type 0} (Named : N → Type 0) (numbers : List ℕ) (parts : ℕ) (front : List (M.Statement N)) (x : M.Statement N) (k : ℕ) : Type 0 where
  other_name : (v : N) → x ≡ M.say M.RNDF v → (Named v → ⊥) → k ≡ 14 → MissionFault Named numbers parts front x k
  foreign_goal : (v : ℕ) → x ≡ M.say M.goal v → (Among v numbers → ⊥) → k ≡ 15 → MissionFault Named numbers parts front x k
  bad_limit_of : (v : M.Limit) → x ≡ M.say M.limit v → LimitFault parts (map (λ a. a.id) (M.of_kind M.limit front)) v.id k → MissionFault Named numbers parts front x k
  id_missing : x ≡ M.say M.end_speed_limits tt → SomeMissing parts (map (λ a. a.id) (M.of_kind M.limit front)) → k ≡ 18 → MissionFault Named numbers parts front x k
