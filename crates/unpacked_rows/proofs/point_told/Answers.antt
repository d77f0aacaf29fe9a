-- `unpacked_rows::point_told` meets its contract. Assumes nothing.
use Rattle.unpacked_rows.proofs.Storing.{held_as}
use Rattle.unpacked_rows.specs.Told.{point_told_of}
use Rattle.unpacked_rows.proofs.point_told.Goals as goal

pub returns : goal.returns
unfolding point_told_of
returns c =
    let north = held_as c.signed_of.ensures c.word_at.ensures in
    let east = held_as c.signed_of-2.ensures c.word_at-2.ensures in
    λ i. record { latitude = north i; longitude = east i }
