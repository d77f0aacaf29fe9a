-- `plain_line::point_said` meets its contract. Assumes nothing.
use mathlib.Core.Path.{◌≡◌}
use mir.Syntax.{w32}
use mir.Val.{to_z, of_z}
use Rattle.plain_line.proofs.Shapes.{point-made}
use borrow.Author.Rules.{rules}
use Rattle.plain_line.proofs.point_said.Goals as goal

pub returns : goal.returns
returns c =
    let a = c.args in
    let point = c.in_ok-x in
    let latitude = c.in_ok-latitude in
    let longitude = c.in_ok-longitude in
    let north : to_z w32 (of_z w32 latitude.latitude) ≡ latitude.latitude = search (rules, latitude.known_told-in-Continue-branch-3-1-own.given) in
    let east : to_z w32 (of_z w32 longitude.longitude) ≡ longitude.longitude = search (rules, longitude.known_told-in-Continue-branch-5-1-own.given) in
    rw (north, east) (point-made a.s.now a.from point.i c.in_ok-b.b longitude.k point.x point.y point.z point.ensures c.in_ok-b.ensures latitude.j c.in_ok-c.c latitude.latitude longitude.longitude latitude.ensures c.in_ok-c.ensures longitude.ensures)
