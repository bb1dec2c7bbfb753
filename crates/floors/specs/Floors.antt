-- The floor file: 1 to 80 blocks, the plate's and then those of the fixtures. Assumes nothing.
use Rattle.std.specs.Prelude.{ℕ, zero, suc, ◌+◌, ◌-◌, ◌*◌, ◌/◌, ◌%◌, Bool, cond, ◌&&◌, List, map, length, take, drop, Some, None, Option, ◌==◌, nat_le, slice_index}
use Rattle.std.specs.List.{range_with_len, flat_map}
use Rattle.refusals.specs.Refusals.{Refusal}
use Rattle.refusals.specs.Answers.{or_else}
use Rattle.plates.specs.declared.fields.PlateFields.{PlateFields}
use Rattle.claims.specs.declared.fixtures.Fixture.{Fixture}
use Rattle.floors.specs.declared.faults.BlockFault.TheVariants.{WrongLength, TableTooShort}
use Rattle.floors.specs.Faults.{block_fault}
use Rattle.floors.specs.Blocks.{plate_block, fixture_block, plate_at, fixture_at, block_refused, first_among}

-- ---- what is written

-- block i of the file of a plate and fixtures, 13 in each
abbrev pub floor_block : PlateFields → List Fixture → ℕ → List ℕ
floor_block plate rows zero = plate_block plate
floor_block plate rows (suc i) = fixture_block (suc i) (take 13 (drop (13 * i) rows))

-- how many blocks it has for so many fixtures: the plate's, and those of 13 fixtures, the last with the rest
abbrev pub blocks_for : ℕ → ℕ
blocks_for count = 1 + (count + 12) / 13

-- The floor file of a plate and fixtures.
unfoldable pub floor_file : PlateFields → List Fixture → List ℕ
floor_file plate rows = flat_map (floor_block plate rows) (range_with_len 0 (blocks_for (length rows)))

-- ---- what is read

-- how many blocks the bytes are, and block i of them
abbrev pub blocks_in : List ℕ → ℕ
blocks_in bytes = length bytes / 512

unfoldable pub block_in : List ℕ → ℕ → List ℕ
block_in bytes i = take 512 (drop (512 * i) bytes)

-- a length of 1 to 80 blocks
abbrev pub right_length : ℕ → Bool
right_length n = n % 512 == 0 && (nat_le 1 (n / 512) && nat_le (n / 512) 80)

-- the first refusal of block i
abbrev pub refused_in : List ℕ → ℕ → Option Refusal
refused_in bytes i = block_refused (blocks_in bytes) i (block_in bytes i)

-- The first refusal of the bytes, if any: their length, and then block by block.
unfoldable pub floor_refused : List ℕ → Option Refusal
floor_refused bytes = cond (right_length (length bytes)) (first_among (refused_in bytes) 0 (blocks_in bytes)) (Some (block_fault WrongLength))

-- The plate's fields that they hold.
abbrev pub plate_in : List ℕ → PlateFields
plate_in bytes = plate_at (block_in bytes 0) 8

-- How many fixtures they hold: 13 in each block between the first and the last, and as many as the last says.
unfoldable pub fixture_count : List ℕ → ℕ
fixture_count bytes = 13 * (blocks_in bytes - 2) + slice_index (block_in bytes (blocks_in bytes - 1)) 1

-- where the record of fixture k begins
abbrev pub row_offset : ℕ → ℕ
row_offset k = 520 + 512 * (k / 13) + 36 * (k % 13)

-- fixture k
abbrev pub row_in : List ℕ → ℕ → Fixture
row_in bytes k = fixture_at bytes (row_offset k)

-- The fixtures that they hold.
unfoldable pub fixtures_in : List ℕ → List Fixture
fixtures_in bytes = map (row_in bytes) (range_with_len 0 (fixture_count bytes))

-- The first refusal of reading them into a table of so many rows, if any: last, that these are too few.
abbrev pub read_refused : List ℕ → ℕ → Option Refusal
read_refused bytes rows = or_else (floor_refused bytes) (cond (nat_le (fixture_count bytes) rows) None (Some (block_fault TableTooShort)))
