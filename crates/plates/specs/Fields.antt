-- The nine numbers of a plate: how they count, what they are called, and what range each has. Assumes nothing.
use Rattle.std.specs.Prelude.{ℕ, ◌≤◌, Bool, ◌&&◌, List, [], ◌∷◌, ℤ, pos, ◌≤ℤ◌, codes, Option, int_le, slice_index_or, not}
use Rattle.std.specs.List.{find}
use Rattle.plates.specs.declared.fields.PlateField.{PlateField}
use Rattle.plates.specs.declared.fields.PlateField.TheVariants.{Brake, Pull, DriveError, Hold, SpeedError, PlaceError, TopSpeed, TurnLimit, HalfSide}
use Rattle.plates.specs.declared.fields.PlateFields.{PlateFields}
use Rattle.plates.specs.declared.fields.Range.{Range}

-- the fields in their order
abbrev pub plate_fields : List PlateField
plate_fields = Brake ∷ Pull ∷ DriveError ∷ Hold ∷ SpeedError ∷ PlaceError ∷ TopSpeed ∷ TurnLimit ∷ HalfSide ∷ []

-- fields count from 1
abbrev pub field_number : PlateField → ℕ
field_number Brake = 1
field_number Pull = 2
field_number DriveError = 3
field_number Hold = 4
field_number SpeedError = 5
field_number PlaceError = 6
field_number TopSpeed = 7
field_number TurnLimit = 8
field_number HalfSide = 9

-- what a field is called
abbrev pub field_name : PlateField → List ℕ
field_name Brake = codes "brake"
field_name Pull = codes "pull"
field_name DriveError = codes "drive error"
field_name Hold = codes "hold"
field_name SpeedError = codes "speed error"
field_name PlaceError = codes "place error"
field_name TopSpeed = codes "top speed"
field_name TurnLimit = codes "turn limit"
field_name HalfSide = codes "half side"

-- The least and the greatest value of a field.
abbrev pub range_of : PlateField → Range
range_of Brake = record { low = 50; high = 20000 }
range_of Pull = record { low = 0; high = 10000 }
range_of DriveError = record { low = 0; high = 19950 }
range_of Hold = record { low = 1; high = 500 }
range_of SpeedError = record { low = 0; high = 1000000 }
range_of PlaceError = record { low = 0; high = 1000000000 }
range_of TopSpeed = record { low = 1; high = 5000000 }
range_of TurnLimit = record { low = 1; high = 10000 }
range_of HalfSide = record { low = 0; high = 5000000000 }

-- a number is in the range of its field
abbrev pub Ranged : PlateField → ℕ → Type 0
Ranged field n = ((range_of field).low ≤ n) × (n ≤ (range_of field).high)

-- the number that was given for a field
abbrev pub given : PlateFields → PlateField → ℤ
given f Brake = f.brake
given f Pull = f.pull
given f DriveError = f.drive_error
given f Hold = f.hold
given f SpeedError = f.speed_error
given f PlaceError = f.place_error
given f TopSpeed = f.top_speed
given f TurnLimit = f.turn_limit
given f HalfSide = f.half_side

-- nine numbers in the order of the fields
abbrev pub in_order : List ℤ → PlateFields
in_order ns = record {
  brake = slice_index_or ns 0 (pos 0);
  pull = slice_index_or ns 1 (pos 0);
  drive_error = slice_index_or ns 2 (pos 0);
  hold = slice_index_or ns 3 (pos 0);
  speed_error = slice_index_or ns 4 (pos 0);
  place_error = slice_index_or ns 5 (pos 0);
  top_speed = slice_index_or ns 6 (pos 0);
  turn_limit = slice_index_or ns 7 (pos 0);
  half_side = slice_index_or ns 8 (pos 0);
}

-- the nine numbers, in the order of the fields
abbrev pub numbers_of : PlateFields → List ℤ
numbers_of f = f.brake ∷ (f.pull ∷ (f.drive_error ∷ (f.hold ∷ (f.speed_error ∷ (f.place_error ∷ (f.top_speed ∷ (f.turn_limit ∷ (f.half_side ∷ []))))))))

-- the number that was given for a field is in its range
abbrev pub in_range : PlateFields → PlateField → Bool
in_range f field = int_le (pos (range_of field).low) (given f field) && int_le (given f field) (pos (range_of field).high)

-- the same as a fact
abbrev pub InRange : PlateFields → PlateField → Type 0
InRange f field = (pos (range_of field).low ≤ℤ given f field) × (given f field ≤ℤ pos (range_of field).high)

-- The first of some fields whose number is out of its range.
unfoldable pub first_outside : PlateFields → List PlateField → Option PlateField
first_outside f fields = find (λ field. not (in_range f field)) fields
