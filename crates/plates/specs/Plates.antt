-- When a plate is refused, and which plate is made otherwise. Assumes nothing.
use Rattle.std.specs.Prelude.{[], ◌∷◌, pos, ◌-ℤ◌, ◌≤ℤ◌, ◌<ℤ◌, Option, int_le, int_lt}
use Rattle.std.specs.Option.{option_map}
use Rattle.std.specs.List.{AllByRecursion}
use Rattle.refusals.specs.Refusals.{Refusal}
use Rattle.refusals.specs.Answers.{first_of, or_else}
use Rattle.plates.specs.declared.fields.PlateFields.{PlateFields}
use Rattle.plates.specs.declared.faults.PlateFault.TheVariants.{OutOfRange, WeakBraking, SpeedErrorTooLarge}
use Rattle.plates.specs.declared.plates.Plate.{Plate}
use Rattle.plates.specs.Fields.{plate_fields, InRange, first_outside}
use Rattle.plates.specs.Faults.{plate_fault}

-- The first refusal of numbers that are each in range: real braking, which is brake less drive error, below 50; a speed error that is not below the top speed.
abbrev pub relation_refused : PlateFields → Option Refusal
relation_refused f = first_of (
    (int_le (pos 50) (f.brake -ℤ f.drive_error), plate_fault WeakBraking) ∷
    (int_lt f.speed_error f.top_speed, plate_fault SpeedErrorTooLarge) ∷ [])

-- The first refusal of the nine numbers of a plate, if any: first the fields out of their range.
abbrev pub plate_refused : PlateFields → Option Refusal
plate_refused f = or_else (option_map (λ field. plate_fault (OutOfRange field)) (first_outside f plate_fields)) (relation_refused f)

-- numbers of which a plate can be made
pub record Sound (f : PlateFields) : Type 0 where
  pub ranged : AllByRecursion (InRange f) plate_fields
  pub braking : pos 50 ≤ℤ (f.brake -ℤ f.drive_error)
  pub speed_error : f.speed_error <ℤ f.top_speed

-- the nine numbers that a plate holds
abbrev pub held : Plate → PlateFields
held p = record {
  brake = pos p.brake;
  pull = pos p.pull;
  drive_error = pos p.drive_error;
  hold = pos p.hold;
  speed_error = pos p.speed_error;
  place_error = pos p.place_error;
  top_speed = pos p.top_speed;
  turn_limit = pos p.turn_limit;
  half_side = pos p.half_side;
}
