-- `files::is_argument` meets its contract: what equals an argument of 16 bytes at most is no longer. Assumes nothing.
use Rattle.std.proofs.Common.{◌≡◌, ◌≤◌, ℕ, Bool, true, rules, arith, length, take, sym, ap, ◌∙◌}
use lib.ListN.{length-take}
use Rattle.terms.specs.Ascii.{Bytes}
use Rattle.scan.specs.Reach.{same_bytes_of}
use Rattle.scan.proofs.Equal.{same-equal}
use Rattle.files.proofs.is_argument.Goals as goal

-- a word that equals so many bytes of an argument is no longer than these
word_short : {r : Bool} {f : Bytes} (word given : Bytes) (n : ℕ) → r ≡ same_bytes_of f word → f ≡ take n given → length given ≡ 16 → r ≡ true → length word ≤ 16
word_short {f = f} word given n e g l t = omega (arith, ap length (same-equal f word (sym e ∙ t)), ap length g, length-take n given)

pub returns : goal.returns
returns g c = word_short c.args.word.now c.arg.new.buf _ c.same.ensures c.first.ensures (search rules)
