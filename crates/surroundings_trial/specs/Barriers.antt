-- What a barrier means: one claim while it is closed, and none while it is open. Assumes nothing.
use Rattle.std.specs.Prelude.{Bool, true, false, cond, List, [], ◌∷◌, pos}
use Rattle.std.proofs.Common.{arith}
use Rattle.std.specs.List.{AllByRecursion}
use Rattle.std.proofs.lemmas.Int.{ints}
use Rattle.claims.specs.declared.boxes.Claim.{Claim}
use Rattle.claims.specs.Limits.{Sound}

-- the bar across the gateway
abbrev pub bar : Claim
bar = record { label = 77; x = record { low = pos 5000000000; high = pos 5100000000 }; y = record { low = pos 0; high = pos 4000000000 }; speed = 0 }

abbrev pub barrier_claims : Bool → List Claim
barrier_claims closed = cond closed (bar ∷ []) []

pub barrier_sound : (closed : Bool) → AllByRecursion Sound (barrier_claims closed)
barrier_sound false = tt
barrier_sound true = (
  record {
    x = record { least = omega (arith, ints); ordered = omega (arith, ints); most = omega (arith, ints) };
    y = record { least = omega (arith, ints); ordered = omega (arith, ints); most = omega (arith, ints) };
    speed = omega arith;
  },
  tt,
)
