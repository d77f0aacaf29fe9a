-- `line::form_of` meets its contract. Assumes nothing.
use Rattle.std.specs.Prelude.{Ok}
use mathlib.Core.Path.{sym, ap, ◌∙◌}
use borrow.Author.Tests.{le-leb, lt-leb}
use Rattle.scan.specs.Reach.{reach, fails, plain}
use Rattle.scan.proofs.Reach.{from_start}
use Rattle.line.specs.Forms.{opens, form_of}
use Rattle.line.proofs.Plain.{opens-from, plain_form}
use Rattle.line.proofs.form_of.Goals as goal

pub returns-then-s-gt512 : goal.returns-then-s-gt512
unfolding form_of
returns-then-s-gt512 c = simp (lt-leb _ _ c.if-s-gt512.true)

pub returns-then-stop-s : goal.returns-then-stop-s
returns-then-stop-s c =
    let s = c.args.s.now in
    let p = c.plain_from-stop.ensures ∙ from_start (fails plain) s in
    ap Ok c.if-stop-s.true ∙ sym (plain_form s (sym p ∙ c.if-stop-s.true) c.if-s-gt512.false)

pub is_shut-requires : goal.is_shut-requires
is_shut-requires c =
    let s = c.args.s.now in
    let p = c.plain_from-stop.ensures ∙ from_start (fails plain) s in
    let m = c.two_from-mark.ensures ∙ ap (reach opens s) p ∙ opens-from s in
    m

pub is_clean-requires : goal.is_clean-requires
is_clean-requires c =
    let s = c.args.s.now in
    let p = c.plain_from-stop.ensures ∙ from_start (fails plain) s in
    let m = c.two_from-mark.ensures ∙ ap (reach opens s) p ∙ opens-from s in
    (p, m)

pub returns-then-not-is_shut : goal.returns-then-not-is_shut
unfolding form_of
returns-then-not-is_shut c = simp (le-leb _ _ c.if-s-gt512.false, sym c.is_shut.ensures, c.if-not-is_shut.true)

pub returns-then-not-is_clean : goal.returns-then-not-is_clean
unfolding form_of
returns-then-not-is_clean c = simp (le-leb _ _ c.if-s-gt512.false, sym c.is_shut.ensures, sym c.is_clean.ensures, c.if-not-is_shut.false, c.if-not-is_clean.true)

pub returns : goal.returns
unfolding form_of
returns c =
    let s = c.args.s.now in
    let p = c.plain_from-stop.ensures ∙ from_start (fails plain) s in
    let m = c.two_from-mark.ensures ∙ ap (reach opens s) p ∙ opens-from s in
    simp (le-leb _ _ c.if-s-gt512.false, sym c.is_shut.ensures, sym c.is_clean.ensures, c.if-not-is_shut.false, c.if-not-is_clean.false, m)
