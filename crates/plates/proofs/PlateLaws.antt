-- Which numbers make a plate. Assumes nothing.
use Rattle.std.proofs.Common.{◌≡◌, ℕ, suc, ◌≤◌, true, ◌&&◌, pos, ◌-ℤ◌, Some, None, Option, refl, arith}
use lib.Signed.{le_z, lt_z}
use Rattle.std.proofs.lemmas.Int.{ints}
use Rattle.std.proofs.lemmas.Bool.{le-leb, and_from}
use Rattle.std.specs.Option.{option_map}
use Rattle.refusals.specs.Answers.{or_else}
use Rattle.plates.specs.declared.fields.PlateField.{PlateField}
use Rattle.plates.specs.declared.fields.PlateFields.{PlateFields}
use Rattle.plates.specs.declared.faults.PlateFault.TheVariants.{OutOfRange}
use Rattle.plates.specs.declared.plates.Plate.{Plate}
use Rattle.plates.specs.Faults.{plate_fault}
use Rattle.plates.specs.Fields.{plate_fields, first_outside}
use Rattle.plates.specs.Plates.{plate_refused, relation_refused, Sound, held}
use Rattle.plates.proofs.Outside.{all_inside}

-- Numbers that are not refused are sound.
pub made_sound : (f : PlateFields) → plate_refused f ≡ None → Sound f
made_sound f e = by (first_outside f plate_fields) refl e
  where
    by : (o : Option PlateField) → first_outside f plate_fields ≡ o → or_else (option_map (λ field. plate_fault (OutOfRange field)) o) (relation_refused f) ≡ None → Sound f
    by None inside e = record { ranged = all_inside f plate_fields inside; braking = grind (arith, ints); speed_error = grind (arith, ints) }
    by (Some field) outside e = let z : ◌≡◌ {A = ℕ} 0 1 = cc in absurd (omega arith)

-- a number in its range passes the test of the range
inside : (low high n : ℕ) → (low ≤ n) × (n ≤ high) → (le_z (pos low) (pos n) && le_z (pos n) (pos high)) ≡ true
inside low high n h = and_from (le_z (pos low) (pos n)) (le_z (pos n) (pos high)) (le-leb low n h.0) (le-leb n high h.1)

ranges_held : (p : Plate) → first_outside (held p) plate_fields ≡ None
unfolding first_outside
ranges_held p =
    rw (
      inside 50 20000 p.brake p.brake_ranged,
      inside 0 10000 p.pull p.pull_ranged,
      inside 0 19950 p.drive_error p.drive_error_ranged,
      inside 1 500 p.hold p.hold_ranged,
      inside 0 1000000 p.speed_error p.speed_error_ranged,
      inside 0 1000000000 p.place_error p.place_error_ranged,
      inside 1 5000000 p.top_speed p.top_speed_ranged,
      inside 1 10000 p.turn_limit p.turn_limit_ranged,
      inside 0 5000000000 p.half_side p.half_side_ranged,
    )

-- The numbers of a plate that exists are not refused.
pub held_made : (p : Plate) → plate_refused (held p) ≡ None
held_made p =
    let braking : le_z (pos 50) (pos p.brake -ℤ pos p.drive_error) ≡ true = grind (arith, ints, p.real_braking) in
    let slower : lt_z (pos p.speed_error) (pos p.top_speed) ≡ true = le-leb (suc p.speed_error) p.top_speed p.speed_error_below_top in
    rw (ranges_held p, braking, slower)
