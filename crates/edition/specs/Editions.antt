-- WHAT A READER MUST BELIEVE. The editions that a caller can ask for. Document 02, L10: "The caller says which edition." Assumes nothing.
use Rattle.terms.specs.Words.{ℕ, eqb, pick}
use Rattle.law.specs.Network.{march_2007, december_2006, Rules, reading}
use Rattle.law.specs.Network as Law
use Rattle.edition.specs.declared.Edition.{Edition}
use Rattle.edition.specs.declared.Edition.TheVariants.{March2007, December2006}

abbrev pub inner : Edition → Law.Edition
inner March2007 = march_2007
inner December2006 = december_2006

-- L10: "the rest we read by the present rules": the rules of the entry points
abbrev pub rules_of : Edition → Rules
rules_of e = reading (inner e)

-- to C it is a number: 1 is December 6, 2006, any other the present one
unfoldable pub edition_numbered : ℕ → Edition
edition_numbered n = pick (eqb n 1) December2006 March2007
