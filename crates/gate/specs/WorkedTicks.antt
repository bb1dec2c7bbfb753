-- Ticks and run-outs that were worked out beforehand, and what it means that they are right. Assumes nothing.
use Rattle.std.specs.Prelude.{◌≡◌, ℕ, List, [], ◌∷◌, ℤ, pos, neg_ℤ, Some, None, Option}
use Rattle.std.specs.Option.{option_map}
use Rattle.refusals.specs.Refusals.{Refusal}
use Rattle.plates.specs.declared.fields.PlateFields.{PlateFields}
use Rattle.plates.specs.declared.plates.Plate.{Plate}
use Rattle.plates.specs.Plates.{plate_refused, held}
use Rattle.runout.specs.RunOuts.{run_out}
use Rattle.claims.specs.declared.boxes.Claim.{Claim}
use Rattle.claims.specs.declared.fixtures.Fixture.{Fixture}
use Rattle.claims.specs.declared.movers.Mover.{Mover}
use Rattle.claims.specs.Things.{fixture_claim, mover_claim}
use Rattle.gate.specs.declared.parts.Curve.{Curve}
use Rattle.gate.specs.declared.parts.Curve.TheVariants.{Straight, Arc}
use Rattle.gate.specs.declared.sums.Around.{Around}
use Rattle.gate.specs.declared.sums.Around.TheVariants.{Nothing, Fixed, Moving}
use Rattle.gate.specs.declared.sums.WorkedTick.{WorkedTick}
use Rattle.gate.specs.Checks.{Tick}
use Rattle.gate.specs.Gates.{fresh, tick_refused}

-- the sample plate, with its drive error and its speed error
abbrev plate : (drive_error speed_error : ℕ) → PlateFields
plate drive_error speed_error = record {
  brake = pos 1200;
  pull = pos 800;
  drive_error = pos drive_error;
  hold = pos 100;
  speed_error = pos speed_error;
  place_error = pos 20000000;
  top_speed = pos 2000000;
  turn_limit = pos 500;
  half_side = pos 400000000;
}

-- a fixture to the right of the cart, by its low x; one over the cart; and a mover, by its age
abbrev fixture_from : ℤ → Fixture
fixture_from low = record { label = 7; x = record { low = low; high = pos 1100000000 }; y = record { low = neg_ℤ (pos 500000000); high = pos 500000000 } }

abbrev over : Fixture
over = record { label = 7; x = record { low = neg_ℤ (pos 1); high = pos 1 }; y = record { low = neg_ℤ (pos 1); high = pos 1 } }

abbrev mover_aged : ℕ → Mover
mover_aged age = record { label = 9; x = pos 2000000000; y = pos 0; half_side = 300000000; error = 50000000; speed = 500000; age = age }

abbrev row : PlateFields → (speed acceleration : ℤ) → Curve → Around → (travel time peak : ℕ) → Option ℕ → WorkedTick
row f m a curve around d t p refused = record {
  fields = f;
  measured = record { x = pos 0; y = pos 0; speed = m };
  proposal = record { acceleration = a; curve = curve };
  around = around;
  out = record { travel = d; time = t; peak = p };
  refused = refused;
}

-- The table. All carts are at (0, 0).
abbrev pub worked_ticks : List WorkedTick
worked_ticks =
    row (plate 200 10000) (pos 990000) (neg_ℤ (pos 200)) Straight Nothing 600500000 1100 1000000 None ∷
    row (plate 200 10000) (pos 990000) (pos 600) Straight Nothing 687780000 1180 1080000 None ∷
    row (plate 200 10000) (pos 30000) (neg_ℤ (pos 1200)) Straight Nothing 820000 40 40000 None ∷
    row (plate 200 10000) (pos 30500) (neg_ℤ (pos 1200)) Straight Nothing 840500 41 40500 None ∷
    row (plate 200 10000) (pos 30000) (neg_ℤ (pos 1000)) Straight Nothing 1020000 50 40000 None ∷
    row (plate 200 10000) (pos 990000) (neg_ℤ (pos 200)) Straight (Fixed (fixture_from (pos 1020500001))) 600500000 1100 1000000 None ∷
    row (plate 200 10000) (pos 990000) (neg_ℤ (pos 200)) Straight (Fixed (fixture_from (pos 1020500000))) 600500000 1100 1000000 (Some 40) ∷
    row (plate 200 10000) (pos 990000) (neg_ℤ (pos 200)) Straight (Moving (mover_aged 158)) 600500000 1100 1000000 None ∷
    row (plate 200 10000) (pos 990000) (neg_ℤ (pos 200)) Straight (Moving (mover_aged 159)) 600500000 1100 1000000 (Some 40) ∷
    row (plate 200 10000) (pos 1990000) (neg_ℤ (pos 200)) Straight Nothing 2201000000 2100 2000000 None ∷
    row (plate 200 10000) (pos 1990000) (neg_ℤ (pos 199)) Straight Nothing 2201205150 2101 2000100 (Some 38) ∷
    row (plate 200 10000) (pos 990000) (neg_ℤ (pos 200)) (Arc (neg_ℤ (pos 2000))) Nothing 600500000 1100 1000000 None ∷
    row (plate 200 10000) (pos 990000) (neg_ℤ (pos 200)) (Arc (pos 1999)) Nothing 600500000 1100 1000000 (Some 39) ∷
    row (plate 0 0) (pos 0) (pos 0) Straight (Fixed over) 0 0 0 None ∷
    row (plate 0 0) (pos 0) (pos 1) Straight (Fixed over) 5150 101 100 (Some 40) ∷ []

-- the claims around
abbrev pub claims_of : Around → List Claim
claims_of Nothing = []
claims_of (Fixed fixture) = fixture_claim fixture ∷ []
claims_of (Moving mover) = mover_claim mover ∷ []

abbrev pub tick_of : WorkedTick → Tick
tick_of s = record { measured = s.measured; proposal = s.proposal; claims = claims_of s.around }

-- the number of a refusal, if any
abbrev pub number_of : Option Refusal → Option ℕ
number_of o = option_map (λ refusal. refusal.number) o

-- A row is right: a plate can be made of its numbers, and for every plate that holds them the run-out is this one and a fresh gate accepts the tick where no number is given, and else refuses it by this number.
abbrev pub RightTick : WorkedTick → Type 0
RightTick s =
    (plate_refused s.fields ≡ None) ×
    ((p : Plate) → held p ≡ s.fields → (run_out p s.measured.speed s.proposal.acceleration ≡ s.out) × (number_of (tick_refused (fresh p) (tick_of s)) ≡ s.refused))
