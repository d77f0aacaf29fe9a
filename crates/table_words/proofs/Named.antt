-- Asking for a field that stands in the text returns its bytes. Assumes nothing.
use mathlib.Core.Path.{◌≡◌, sym, ◌∙◌}
use mathlib.Core.List.{◌++◌, append_assoc}
use Prim.Native.Nat.{◌+◌}
use native.Mathlib.Omega.{arith}
use lib.ListN.{length}
use Rattle.terms.specs.Ascii.{Bytes}
use Rattle.line.specs.Content.{Field}
use Rattle.line.specs.Located.{Within}
use Rattle.rows.specs.Read.{the_stretch_of}
use Rattle.rows.specs.Name.{name_of}
use Rattle.rows.proofs.Names.{name-between}

pub asked : (text : Bytes) (f : Field) → Within 0 text f → name_of text (the_stretch_of f.start (length f.bytes)) ≡ f.bytes
asked text f w =
    let e : text ≡ (w.before ++ f.bytes) ++ w.after = w.is ∙ sym (append_assoc w.before f.bytes w.after) in
    let s : f.start ≡ 0 + length w.before = w.starts in
    let k : f.start ≡ length w.before = omega arith in
    rw (e, k) (name-between w.before f.bytes w.after)
