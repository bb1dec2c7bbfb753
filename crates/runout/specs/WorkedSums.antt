-- Run-outs that were worked out beforehand, and what it means that they are right. Assumes nothing.
use Rattle.std.specs.Prelude.{◌≡◌, ℕ, List, [], ◌∷◌, ℤ, pos, neg_ℤ, None}
use Rattle.plates.specs.declared.fields.PlateFields.{PlateFields}
use Rattle.plates.specs.declared.plates.Plate.{Plate}
use Rattle.runout.specs.declared.sums.WorkedSum.{WorkedSum}
use Rattle.plates.specs.Plates.{plate_refused, held}
use Rattle.runout.specs.RunOuts.{run_out_refused, run_out}

-- the sample plate, with its drive error and its speed error
abbrev plate : (drive_error speed_error : ℕ) → PlateFields
plate drive_error speed_error = record {
  brake = pos 1200;
  pull = pos 800;
  drive_error = pos drive_error;
  hold = pos 100;
  speed_error = pos speed_error;
  place_error = pos 20000000;
  top_speed = pos 2000000;
  turn_limit = pos 500;
  half_side = pos 400000000;
}

abbrev row : PlateFields → (speed acceleration : ℤ) → (travel time peak : ℕ) → WorkedSum
row f m a d t p = record { fields = f; speed = m; acceleration = a; out = record { travel = d; time = t; peak = p } }

-- The table: the sample plate, and the same with neither error.
abbrev pub worked_sums : List WorkedSum
worked_sums =
    row (plate 200 10000) (pos 990000) (neg_ℤ (pos 200)) 600500000 1100 1000000 ∷
    row (plate 200 10000) (pos 990000) (pos 600) 687780000 1180 1080000 ∷
    row (plate 200 10000) (pos 30000) (neg_ℤ (pos 1200)) 820000 40 40000 ∷
    row (plate 200 10000) (pos 30500) (neg_ℤ (pos 1200)) 840500 41 40500 ∷
    row (plate 200 10000) (pos 30000) (neg_ℤ (pos 1000)) 1020000 50 40000 ∷
    row (plate 0 0) (pos 0) (pos 0) 0 0 0 ∷
    row (plate 0 0) (pos 0) (pos 1) 5150 101 100 ∷ []

-- A row is right: a plate can be made of its numbers, and every plate that holds them has this run-out.
abbrev pub Right : WorkedSum → Type 0
Right s =
    (plate_refused s.fields ≡ None) ×
    ((p : Plate) → held p ≡ s.fields → (run_out_refused p s.speed s.acceleration ≡ None) × (run_out p s.speed s.acceleration ≡ s.out))
