-- What the inner functions of the mending tool answer. Executable but for the tables that walks leave: these are told by where a walk ended, if it had no fault. Assumes nothing.
use Rattle.mend_law.specs.Types.{MendReply}
use Rattle.std.specs.Prelude.{◌≡◌, List, [], Bool, true, false, ℕ, ◌+◌, ◌*◌, ◌≤◌, ◌<◌, length, replicate, Some, None, Ok, Err, Option}
use Rattle.terms.specs.Words.{Bytes, pick}
use Rattle.line.specs.Lines.{lines_of}
use Rattle.references.specs.Finding.{look_in}
use Rattle.edition.specs.declared.Edition as Asked
use Rattle.edition.specs.Editions.{rules_of}
use Rattle.grammar.specs.Editions.{Edition}
use Rattle.place.specs.declared.Place.{Place}
use Rattle.place.specs.Step.{first_place, over_of}
use Rattle.progress.specs.declared.Progress.{Progress}
use Rattle.progress.specs.After.{no_progress}
use Rattle.network.specs.Storing.{Memory}
use Rattle.network.specs.Reaching.{WalkEnd, stopped, reached}
use Rattle.law.specs.Tables.{holding}
use Rattle.output.specs.Output.{zero_bytes, Fits, padded}
use Rattle.replies.specs.Replies.{refusal}
use Rattle.mend_law.specs.Mend.{mended_text, listed_rows}
use Rattle.mend_law.specs.Mends.{AcceptedWithRoom}
use Rattle.mend_lines.specs.Forward.{none_before_of}
use Rattle.mend_passes.specs.Passes.{are_exits_right_of}
use Rattle.mend_tests.specs.Tests.{few, nought}
use Rattle.mend_walk.specs.Walking.{mended_walk}

-- ## The walk over what comes out
abbrev pub walk_with : Edition → Bytes → (segments lanes zones checkpoints : List ℕ) → WalkEnd
walk_with e text sg ln zn ck = mended_walk e none_before_of first_place (few no_progress sg ln zn ck) 0 1 (lines_of text)

-- ## Tables, where the walk with them had no fault. t: as the table was lent, u: as it is left
abbrev pub SegmentsIn : Edition → Bytes → (t u : List ℕ) → Type 0
SegmentsIn e text t u = (p : Place) (m : Memory) (i : ℕ) → walk_with e text t [] [] [] ≡ reached p m i → u ≡ m.segments

abbrev pub LanesIn : Edition → Bytes → (t u : List ℕ) → Type 0
LanesIn e text t u = (p : Place) (m : Memory) (i : ℕ) → walk_with e text [] t [] [] ≡ reached p m i → u ≡ m.lanes

abbrev pub ZonesIn : Edition → Bytes → (t u : List ℕ) → Type 0
ZonesIn e text t u = (p : Place) (m : Memory) (i : ℕ) → walk_with e text [] [] t [] ≡ reached p m i → u ≡ m.zones

-- ## 12
-- the words of all rows of segments, lanes and zones
abbrev pub segment_words_of : Progress → ℕ
segment_words_of g = g.segments * 4

abbrev pub lane_words_of : Progress → ℕ
lane_words_of g = g.lanes * 5

abbrev pub row_words_of : Progress → ℕ
row_words_of g = segment_words_of g + lane_words_of g + g.zones * 6

-- the list has so many words, r is answered
pub record EntriesTold (e : Edition) (text : Bytes) (words : ℕ) (g : Progress) (r : Bool) : Type 0 where
  pub short : words < row_words_of g → r ≡ false
  pub told : row_words_of g ≤ words → (p q s : Place) (sm lm zm : Memory) (i j k : ℕ)
      → walk_with e text (nought (segment_words_of g)) [] [] [] ≡ reached p sm i
      → walk_with e text [] (nought (lane_words_of g)) [] [] ≡ reached q lm j
      → (n : ℕ) → g.zones * 6 ≤ n → walk_with e text [] [] (nought n) [] ≡ reached s zm k
      → n + (segment_words_of g + lane_words_of g) ≡ words
      → r ≡ are_exits_right_of (look_in sm.segments lm.lanes zm.zones) g.segments none_before_of (lines_of text)

-- ## The form; the list then holds the checkpoints
abbrev pub FormTold : WalkEnd → Option Progress → (left : List ℕ) → Type 0
FormTold (stopped i n) r left = r ≡ None
FormTold (reached p m i) r left = pick (over_of p) ((r ≡ Some m.so_far) × (left ≡ m.checkpoints)) (r ≡ None)

-- ## 26
pub record GoodTold (edition : Asked.Edition) (text : Bytes) (r : Bool) : Type 0 where
  pub good : r ≡ true → AcceptedWithRoom (rules_of edition) (mended_text text)
  pub past : r ≡ false → AcceptedWithRoom (rules_of edition) (mended_text text) → ⊥

-- ## 19, or what comes out and what is listed. lent: the length of the lent output
pub record PutOut (text : Bytes) (list : List ℕ) (lent : ℕ) (reply : MendReply) (left : List ℕ) (out : Bytes) : Type 0 where
  pub fits : Fits lent (mended_text text) → (reply ≡ Ok (length (listed_rows text), length (mended_text text))) × (left ≡ holding 0 (listed_rows text) list) × (out ≡ padded lent (mended_text text))
  pub long : (Fits lent (mended_text text) → ⊥) → (reply ≡ Err (refusal 1 0 19 0)) × (left ≡ replicate (length list) 0) × (out ≡ zero_bytes lent)
