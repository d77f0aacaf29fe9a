-- What is wrong with a line at a place: one definition for each number 2 to 9 and 25, none of which holds where a lower one does. Document 01, "Refusal numbers". Assumes nothing.
use Rattle.std.specs.Prelude.{◌≡◌, List, ◌∷◌, ℕ, length}
use Rattle.std.proofs.Math.Option.{Option, none, some}
use Rattle.terms.specs.Ascii.{Bytes}
use Rattle.line.specs.Text.{Ended}
use Rattle.line.specs.Content.{Field, Content}
use Rattle.line.specs.Faults.{FormFault}
use Rattle.grammar.specs.Language.{Lang, say}
use Rattle.grammar.specs.Machine.{Machine, Place, refuse, step}
use Rattle.grammar.specs.Stands.{stands}
use Rattle.text.specs.Said.{Said, SpellFields}
use Rattle.text.specs.Judge.{Lexis, kind_at, args}

-- the fields of a line whose form is good
pub record Fielded (start : ℕ) (line : Bytes) (f : Field) (fs : List Field) : Type 0 where
  pub content : Bytes
  pub ended : Ended line content
  pub fields : Content start content (f ∷ fs)

module _ {L : Lang} (A : Machine L) (X : Lexis L) (Line-of : (k : L.Kind) → L.Pay k → List Said) where
  -- a line with fields that is of a kind, and that kind may stand here
  pub record MayStand (p : Place A) (start : ℕ) (line : Bytes) (k : L.Kind) (f : Field) (fs : List Field) : Type 0 where
    pub fields : Fielded start line f fs
    pub is : kind_at A X p f ≡ some k
    pub here : stands A p k ≡ none

  pub data Fault (p : Place A) (start : ℕ) (line : Bytes) : ℕ → Type 0 where
    -- 01: 2 "line over 512 bytes"; 3 "comment not closed, or followed by more than tabs"; 4 "byte not allowed"
    form : {n : ℕ} {content : Bytes} → Ended line content → FormFault content n → Fault p start line n
    -- 01: 5 "statement unknown, or not at this place (also a wrong count of items)"
    unknown : {f : Field} {fs : List Field} → Fielded start line f fs → kind_at A X p f ≡ none → Fault p start line 5
    misplaced : {f : Field} {fs : List Field} {k : L.Kind} → Fielded start line f fs → kind_at A X p f ≡ some k → stands A p k ≡ some 5 → Fault p start line 5
    -- 01: 6 "single option given again"
    given_again : {f : Field} {fs : List Field} {k : L.Kind} → Fielded start line f fs → kind_at A X p f ≡ some k → stands A p k ≡ some 6 → Fault p start line 6
    -- 01: 7 "wrong number of fields"
    miscounted : {f : Field} {fs : List Field} {k : L.Kind} → MayStand p start line k f fs → (length (args A X (X.keyword k) f fs) ≡ length (X.sorts k) → ⊥) → Fault p start line 7
    -- 01: 8 "field not of its kind (spelling, name length, boundary word)"
    misspelt : {f : Field} {fs : List Field} {k : L.Kind} → MayStand p start line k f fs → length (args A X (X.keyword k) f fs) ≡ length (X.sorts k) → ((v : L.Pay k) → SpellFields (f ∷ fs) (Line-of k v) → ⊥) → Fault p start line 8
    -- 01: 9 "value not permitted here"
    forbidden : {f : Field} {fs : List Field} {k : L.Kind} → MayStand p start line k f fs → (v : L.Pay k) → SpellFields (f ∷ fs) (Line-of k v) → step A p (say L k v) ≡ refuse 9 → Fault p start line 9
    -- L8: 25 "at a first waypoint that has no fault of 2 to 9"
    unmarked : {f : Field} {fs : List Field} {k : L.Kind} → MayStand p start line k f fs → (v : L.Pay k) → SpellFields (f ∷ fs) (Line-of k v) → step A p (say L k v) ≡ refuse 25 → Fault p start line 25
