-- What a charger claims: a box of fixed size that stays. Assumes nothing.
use Rattle.std.proofs.Common.{arith}
use Rattle.claims.specs.declared.boxes.Claim.{Claim}
use Rattle.claims.specs.Limits.{NoFaster, Sound}
use Rattle.claims.specs.Things.{around}
use Rattle.claims.proofs.SoundLaws.{around_bounded}
use Rattle.surroundings_trial.specs.declared.chargers.Charger.{Charger}

abbrev pub charger_claim : Charger → Claim
charger_claim c = record { label = c.label; x = around c.x 300000000; y = around c.y 300000000; speed = 0 }

pub charger_sound : (c : Charger) → Sound (charger_claim c)
charger_sound c = record {
  x = around_bounded c.x 300000000 c.x_near (omega arith);
  y = around_bounded c.y 300000000 c.y_near (omega arith);
  speed = omega arith;
}

pub charger_slow : (c : Charger) → NoFaster 0 (charger_claim c)
charger_slow c = omega arith
