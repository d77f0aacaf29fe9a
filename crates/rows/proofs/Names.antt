-- Names: a stretch that fits is that stretch; a name that stands in the text is found; a missing name is empty. Assumes nothing.
use mathlib.Core.Path.{◌≡◌, refl, ap, ◌∙◌}
use mathlib.Core.List.{[], ◌++◌, append_assoc}
use Prim.Native.Nat.{◌+◌, ◌≤◌, ◌<◌}
use native.Mathlib.Omega.{arith}
use lib.ListN.{length, take, drop, length-append, length-drop}
use lib.Seq.{drop_at, take_at, length-take-le}
use borrow.Author.Tests.{le-leb, lt-leb}
use Rattle.terms.specs.Ascii.{Bytes}
use Rattle.rows.specs.declared.Stretch.{Stretch}
use Rattle.rows.specs.Read.{the_stretch_of}
use Rattle.rows.specs.Name.{name_of}

pub name-fits : (text : Bytes) (name : Stretch) → name.start + name.length ≤ length text → name_of text name ≡ take name.length (drop name.start text)
unfolding name_of
name-fits text name h = rw (le-leb (name.start + name.length) (length text) h)

pub name-does-not-fit : (text : Bytes) (name : Stretch) → length text < name.start + name.length → name_of text name ≡ []
unfolding name_of
name-does-not-fit text name h = rw (lt-leb (name.start + name.length) (length text) h)

pub length-name : (text : Bytes) (name : Stretch) → name.start + name.length ≤ length text → length (name_of text name) ≡ name.length
length-name text name h =
    let d = length-drop name.start text in
    ap length (name-fits text name h) ∙ length-take-le name.length (drop name.start text) (omega arith)

-- what stands between two parts of the text is the name with that start and length
pub name-between : (before name behind : Bytes) → name_of ((before ++ name) ++ behind) (the_stretch_of (length before) (length name)) ≡ name
name-between before name behind =
    let a = length-append (before ++ name) behind in
    let b = length-append before name in
    name-fits ((before ++ name) ++ behind) (the_stretch_of (length before) (length name)) (omega arith)
    ∙ ap (λ (l : Bytes). take (length name) (drop (length before) l)) (append_assoc before name behind)
    ∙ ap (take (length name)) (drop_at before (name ++ behind) (length before) refl)
    ∙ take_at name behind (length name) refl

-- 01: "a missing name is 0, 0"
pub name-missing : (text : Bytes) → name_of text (the_stretch_of 0 0) ≡ []
name-missing text = name-fits text (the_stretch_of 0 0) (omega arith)
