-- What the floor file promises: exactly what can be written is read, and as the same plate and fixtures. Assumes nothing.
use Rattle.std.specs.Prelude.{◌≡◌, ℕ, ◌^◌, ◌<◌, ◌≤◌, List, length, None}
use Rattle.std.specs.List.{AllByRecursion}
use Rattle.plates.specs.declared.fields.PlateFields.{PlateFields}
use Rattle.plates.specs.Plates.{plate_refused}
use Rattle.claims.specs.declared.fixtures.Fixture.{Fixture}
use Rattle.claims.specs.Things.{fixture_refused}
use Rattle.floors.specs.Bytes.{Octets}
use Rattle.floors.specs.Floors.{floor_file, floor_refused, plate_in, fixtures_in}

-- a fixture that can be made, with a label of 32 bits
pub record Made (f : Fixture) : Type 0 where
  pub label : f.label < 2 ^ 32
  pub edges : fixture_refused f ≡ None

-- a plate that can be made, and at most 1,024 such fixtures
pub record Writable (plate : PlateFields) (rows : List Fixture) : Type 0 where
  pub plate_made : plate_refused plate ≡ None
  pub few : length rows ≤ 1024
  pub rows_made : AllByRecursion Made rows

-- the bytes are not refused, and hold this plate and these fixtures
pub record Reads (bytes : List ℕ) (plate : PlateFields) (rows : List Fixture) : Type 0 where
  pub fine : floor_refused bytes ≡ None
  pub plate_is : plate_in bytes ≡ plate
  pub rows_are : fixtures_in bytes ≡ rows

-- Whatever is read is the floor file of exactly the plate and the fixtures that it is read as.
abbrev pub ReadWasWritten : Type 0
ReadWasWritten = (bytes : List ℕ) (plate : PlateFields) (rows : List Fixture) → Octets bytes → Reads bytes plate rows → Writable plate rows × (bytes ≡ floor_file plate rows)
