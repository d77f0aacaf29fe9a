-- Either side of the longest text. Assumes nothing.
use mathlib.Core.Path.{◌≡◌, refl}
use Prim.Native.Nat.{◌<◌, ◌≤◌}
use lib.ListN.{length}
use borrow.Author.Tests.{lt-ltb, le-ltb}
use Rattle.terms.specs.Ascii.{Bytes}
use Rattle.refusal.specs.Size.{most, if_too_long}

module _ {A : Type 0} (text : Bytes) (a b : A) where
  pub too_long : most < length text → if_too_long text a b ≡ a
  too_long h = rw (lt-ltb most (length text) h)

  pub not_too-long : length text ≤ most → if_too_long text a b ≡ b
  not_too-long h = rw (le-ltb most (length text) h)
