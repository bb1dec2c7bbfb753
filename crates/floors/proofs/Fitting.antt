-- What can be made fits the types of its numbers. Assumes nothing.
use Rattle.std.proofs.Common.{◌≡◌, ℕ, zero, suc, ◌<◌, ◌≤◌, true, get_or, ℤ, pos, negsuc, ◌≤ℤ◌, None, arith, w64, SFits}
use Rattle.std.proofs.lemmas.Int.{ints}
use Rattle.std.specs.List.{AllByRecursion}
use Rattle.refusals.proofs.Checks.{all_hold}
use Rattle.plates.specs.declared.fields.PlateFields.{PlateFields}
use Rattle.plates.specs.Fields.{numbers_of, plate_fields, InRange}
use Rattle.plates.specs.Plates.{plate_refused}
use Rattle.plates.proofs.PlateLaws.{made_sound}
use Rattle.claims.specs.declared.fixtures.Fixture.{Fixture}
use Rattle.claims.specs.Things.{near, fixture_checks}
use Rattle.floors.specs.Exactness.{Made}
use Rattle.floors.proofs.Records.{Fits}

-- a number below 2^63 in size
small : (z : ℤ) → negsuc 4611686018427387903 ≤ℤ z → z ≤ℤ pos 4611686018427387903 → SFits w64 z
small (pos n) low high = record { sfits = omega (arith, ints) }
small (negsuc n) low high = record { sfits = omega (arith, ints) }

near_fits : (z : ℤ) → near z ≡ true → SFits w64 z
near_fits z e = small z (grind (arith, ints)) (grind (arith, ints))

pub made_fits : (f : Fixture) → Made f → Fits f
made_fits f made =
    let holds = all_hold (fixture_checks f) made.edges in
    record {
      label = made.label;
      low_x = near_fits f.x.low holds.0;
      high_x = near_fits f.x.high holds.1.0;
      low_y = near_fits f.y.low holds.1.1.0;
      high_y = near_fits f.y.high holds.1.1.1.0;
    }

ranged_fits : (z : ℤ) (low high : ℕ) → high ≤ 4611686018427387903 → (pos low ≤ℤ z) × (z ≤ℤ pos high) → SFits w64 z
ranged_fits z low high h r = small z (omega (arith, ints, r.0)) (omega (arith, ints, r.1))

pub numbers_fit : (plate : PlateFields) → plate_refused plate ≡ None → (k : ℕ) → k < 9 → SFits w64 (get_or (numbers_of plate) k (pos 0))
numbers_fit plate e k h = at k h (made_sound plate e).ranged
  where
    at : (k : ℕ) → k < 9 → AllByRecursion (InRange plate) plate_fields → SFits w64 (get_or (numbers_of plate) k (pos 0))
    at zero h r = ranged_fits plate.brake 50 20000 (omega arith) r.0
    at (suc zero) h r = ranged_fits plate.pull 0 10000 (omega arith) r.1.0
    at (suc (suc zero)) h r = ranged_fits plate.drive_error 0 19950 (omega arith) r.1.1.0
    at (suc (suc (suc zero))) h r = ranged_fits plate.hold 1 500 (omega arith) r.1.1.1.0
    at (suc (suc (suc (suc zero)))) h r = ranged_fits plate.speed_error 0 1000000 (omega arith) r.1.1.1.1.0
    at (suc (suc (suc (suc (suc zero))))) h r = ranged_fits plate.place_error 0 1000000000 (omega arith) r.1.1.1.1.1.0
    at (suc (suc (suc (suc (suc (suc zero)))))) h r = ranged_fits plate.top_speed 1 5000000 (omega arith) r.1.1.1.1.1.1.0
    at (suc (suc (suc (suc (suc (suc (suc zero))))))) h r = ranged_fits plate.turn_limit 1 10000 (omega arith) r.1.1.1.1.1.1.1.0
    at (suc (suc (suc (suc (suc (suc (suc (suc zero)))))))) h r = ranged_fits plate.half_side 0 5000000000 (omega arith) r.1.1.1.1.1.1.1.1.0
    at (suc (suc (suc (suc (suc (suc (suc (suc (suc k))))))))) h r = absurd (omega arith)
