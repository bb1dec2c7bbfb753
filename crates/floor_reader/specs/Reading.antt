-- What reading answers and leaves, and that exactly what can be written is read. Assumes nothing.
use Rattle.std.specs.Prelude.{◌≡◌, ℕ, ◌≤◌, List, ◌++◌, length, take, drop, IfOk, Ok, Err, Result, MatchResult}
use Rattle.plates.specs.declared.fields.PlateFields.{PlateFields}
use Rattle.plates.specs.Plates.{held}
use Rattle.claims.specs.declared.fixtures.Fixture.{Fixture}
use Rattle.floors.specs.declared.faults.BlockFault.{BlockFault}
use Rattle.floors.specs.Floors.{plate_in, fixture_count, fixtures_in, floor_file}
use Rattle.floors.specs.Exactness.{Writable}
use Rattle.floor_reader.specs.declared.reading.Floor.{Floor}

-- the floor has the plate that the bytes hold, and as many fixtures
abbrev pub Holds : List ℕ → Floor → Type 0
Holds bytes floor = (held floor.plate ≡ plate_in bytes) × (floor.count ≡ fixture_count bytes)

-- the bytes are the floor file of the plate and the fixtures that they hold, and these can be written
pub record Written (bytes : List ℕ) : Type 0 where
  pub writable : Writable (plate_in bytes) (fixtures_in bytes)
  pub same : bytes ≡ floor_file (plate_in bytes) (fixtures_in bytes)

-- The table afterwards: the fixtures and then its further rows as they were, or after a refusal all as it was.
abbrev pub table_after : {X : Type 0} → Result X BlockFault → List ℕ → List Fixture → List Fixture
table_after (Ok x) bytes table = fixtures_in bytes ++ drop (fixture_count bytes) table
table_after (Err e) bytes table = table

-- What reading bytes into a table promises: only what can be written is read, and as that from which it is written; and every floor file is read, as that of which it is the file, where the table is long enough.
pub record ReadExactly (bytes : List ℕ) (table : List Fixture) (r : Result Floor BlockFault) (after : List Fixture) : Type 0 where
  pub only : IfOk r (λ floor. let rows = take floor.count after in Writable (held floor.plate) rows × (bytes ≡ floor_file (held floor.plate) rows))
  pub every : (plate : PlateFields) (rows : List Fixture) → Writable plate rows → bytes ≡ floor_file plate rows → length rows ≤ length table
      → MatchResult r (λ floor. (held floor.plate ≡ plate) × (take floor.count after ≡ rows)) (λ _. ⊥)
