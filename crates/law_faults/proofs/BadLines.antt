-- A text has a bad line, and it is unended, if and only if it is so for the law. For every file. Assumes nothing.
use mathlib.Core.Path.{◌≡◌, sym, subst}
use mathlib.Core.List.{List}
use Prim.Native.Nat.{ℕ}
use Rattle.terms.specs.Ascii.{Bytes}
use Rattle.grammar.specs.Editions.{Edition, law_of}
use Rattle.grammar.specs.Language.{Lang, S}
use Rattle.grammar.specs.Machine.{next, Machine, Place, at, run}
use Rattle.grammar.specs.Machine as Machine
use Rattle.text.specs.Said as Said
use Rattle.text.specs.Judge.{Lexis}
use Rattle.text.specs.Spelling as Spelling
use Rattle.text.proofs.Telling.{Lawful}
use Rattle.form_faults.specs.FormFaults.{behind}
use Rattle.form_faults.specs.FormFaults as Old
use Rattle.form_faults.proofs.FileFaults.{Open, unended_open, open-unended}
use Rattle.law.specs.Network.{Line, SayLines, SpellsText, Rules, reading, lenient}
use Rattle.law.specs.Faults.{Fault, BadLine, Unended}
use Rattle.law_spelling.proofs.Lines.{lines-to, lines-back}
use Rattle.law_faults.proofs.Moved.{fault-at}
use Rattle.law_faults.proofs.Needs.{Needs}
use Rattle.law_faults.proofs.Reached.{laws, begins-to, begins-back}
use Rattle.law_faults.proofs.Unmarked.{fault-to, fault-back}

module _ {ed : Edition} {L : Lang} (A : Machine L) (X : Lexis L) (Line-of : (k : L.Kind) → L.Pay k → List Said.Said) {Net : Type 0} (Said Loose : Net → List (S L) → Type 0) (Spells : Rules → Net → List Line → Type 0) (first : A.Base)
    (N : Needs ed (reading (law_of ed)) A X Line-of Said Spells first) (M : Needs ed (lenient (reading (law_of ed))) (Machine.lenient A) X Line-of Loose Spells first) where
  abbrev W : Lawful A X Line-of
  W = N.file.lawful

  -- ## 2 to 9, and 25
  pub bad-to : (text : Bytes) (i n : ℕ) → Old.BadLine A X Line-of first text i n → BadLine (reading (law_of ed)) Spells text i n
  bad-to text i n b = record {
    front = laws Line-of b.said;
    this = b.this;
    at = record { before = b.before; rest = b.rest; cut = b.cut; number = b.number; said = lines-to ed Line-of N.all N.begins b.spelled };
    begins = begins-to A X Line-of Said Spells first N b.said b.place b.came;
    fault = fault-to A X Line-of Said Loose Spells first N M b.said b.place b.came b.this n (fault-at A X Line-of W N.steady b.place (behind b.before) 0 b.this n b.fault);
  }

  pub bad-back : (text : Bytes) (i n : ℕ) → BadLine (reading (law_of ed)) Spells text i n → Old.BadLine A X Line-of first text i n
  bad-back text i n b =
      let x = begins-back A X Line-of Said Spells first N b.front b.begins in
      let at = b.at in
      let f = subst (λ (front : List Line). Fault (reading (law_of ed)) Spells front b.this n) x.2 b.fault in
      record {
        before = at.before;
        this = b.this;
        rest = at.rest;
        cut = at.cut;
        number = at.number;
        said = x.0;
        spelled = lines-back ed Line-of N.all x.0 (subst (SayLines (reading (law_of ed)) 0 at.before) x.2 at.said);
        place = x.1;
        came = x.3;
        fault = fault-at A X Line-of W N.steady x.1 0 (behind at.before) b.this n (fault-back A X Line-of Said Loose Spells first N M x.0 x.1 x.3 b.this n f);
      }

  -- ## 10
  abbrev Spelled : Net → Bytes → Type 0
  Spelled = Spelling.SpellsText Line-of Said

  -- a text spells the same either way
  text-to : (net : Net) (text : Bytes) → Spelled net text → SpellsText (reading (law_of ed)) Spells net text
  text-to net text h = record { lines = h.lines; said = laws Line-of h.said; cut = h.made; each = lines-to ed Line-of N.all N.begins h.each; net = N.to net h.said h.net }

  text-back : (net : Net) (text : Bytes) → SpellsText (reading (law_of ed)) Spells net text → Spelled net text
  text-back net text h =
      let x = N.back net h.said h.net in
      record { lines = h.lines; said = x.0; made = h.cut; each = lines-back ed Line-of N.all x.0 (subst (SayLines (reading (law_of ed)) 0 h.lines) x.1 h.each); net = x.2 }

  pub unended-to : (text : Bytes) (i : ℕ) → Old.Unended Spelled text i → Unended (reading (law_of ed)) Spells text i
  unended-to text i u =
      let o = unended_open A X Line-of Said first N.file text i u in
      record {
        lines = u.lines;
        cut = u.cut;
        line = u.number;
        said = laws Line-of o.said;
        spelled = lines-to ed Line-of N.all N.begins o.spelled;
        begins = begins-to A X Line-of Said Spells first N o.said o.place o.came;
        incomplete = λ net h. u.incomplete net (text-back net text h);
      }

  pub unended-back : (text : Bytes) (i : ℕ) → Unended (reading (law_of ed)) Spells text i → Old.Unended Spelled text i
  unended-back text i u =
      let x = begins-back A X Line-of Said Spells first N u.said u.begins in
      let each = lines-back ed Line-of N.all x.0 (subst (SayLines (reading (law_of ed)) 0 u.lines) x.2 u.spelled) in
      let o : Open A X Line-of Said first N.file u.lines = record {
        said = x.0;
        spelled = each;
        place = x.1;
        came = x.3;
        owed = λ e.
            let s = N.file.sound x.0 (subst (λ (p : Place A). run A (at A first) x.0 ≡ next p) e x.3) in
            u.incomplete s.0 (text-to s.0 text (record { lines = u.lines; said = x.0; made = u.cut; each = each; net = s.1 }));
      } in
      subst (Old.Unended Spelled text) (sym u.line) (open-unended A X Line-of Said first N.file text u.lines u.cut o)
