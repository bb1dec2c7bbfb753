use Rattle.std.proofs.Common.{arith}
use Rattle.std.proofs.lemmas.Int.{ints}
use Rattle.claims.proofs.SoundLaws.{mover_ranged}
use Rattle.claims.proofs.movers.ClaimFromMover.from.Goals as goal

pub half_box-half-requires : goal.half_box-half-requires
half_box-half-requires c = mover_ranged c.counted-mover.result c.counted-mover.ensures.allowed

pub around-requires : goal.around-requires
around-requires c =
    let m = mover_ranged c.counted-mover.result c.counted-mover.ensures.allowed in
    (omega (arith, ints, m.x_least), (omega (arith, ints, m.x_most), c.half_box-half.ensures.small))

pub around-requires-2 : goal.around-requires-2
around-requires-2 c =
    let m = mover_ranged c.counted-mover.result c.counted-mover.ensures.allowed in
    (omega (arith, ints, m.y_least), (omega (arith, ints, m.y_most), c.half_box-half.ensures.small))
