use Rattle.std.proofs.Common.{arith}
use Rattle.std.proofs.lemmas.Int.{to_z-of_z}
use Rattle.claims.proofs.horizons.Seen.new.Goals as goal

pub invariant_of-result-clause-low_x_near : goal.invariant_of-result-clause-low_x_near
invariant_of-result-clause-low_x_near c = grind (arith, to_z-of_z)
