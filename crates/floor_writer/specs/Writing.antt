-- What writing answers and leaves, and that what is written is read again. Assumes nothing.
use Rattle.std.specs.Prelude.{ℕ, zero, suc, ◌*◌, ◌^◌, ◌<◌, Bool, List, [], ◌∷◌, ◌++◌, map, length, take, drop, IfOk, Ok, Err, codes, Option, Result, nat_le}
use Rattle.refusals.specs.declared.layers.Layer.TheVariants.{Thing, Block}
use Rattle.refusals.specs.Refusals.{Refusal}
use Rattle.refusals.specs.Answers.{first_of}
use Rattle.std.specs.List.{flat_map}
use Rattle.plates.specs.declared.fields.PlateFields.{PlateFields}
use Rattle.plates.specs.declared.plates.Plate.{Plate}
use Rattle.plates.specs.Plates.{held}
use Rattle.claims.specs.declared.fixtures.Fixture.{Fixture}
use Rattle.claims.specs.Things.{fixture_counted}
use Rattle.floors.specs.Blocks.{plate_record, fixture_record}
use Rattle.floors.specs.Floors.{blocks_for, floor_file}
use Rattle.floors.specs.Exactness.{Reads, ReadWasWritten}
use Rattle.floor_writer.specs.declared.faults.WriteFault.{WriteFault}
use Rattle.floor_writer.specs.declared.faults.WriteFault.TheVariants.{TooMany, TooFewBytes}

-- what a writer's fault says
abbrev pub write_fault : WriteFault → Refusal
write_fault TooMany = record { layer = Thing; number = 23; values = [] }
write_fault TooFewBytes = record { layer = Block; number = 56; values = [] }

-- the words for each
abbrev pub write_words : WriteFault → List ℕ
write_words TooMany = codes "there are more than 1024 fixtures"
write_words TooFewBytes = codes "there are fewer bytes than the file has"

-- how many bytes the file of so many fixtures has
abbrev pub file_length : ℕ → ℕ
file_length count = 512 * blocks_for count

-- The checks of writing so many fixtures into so many bytes, in their order.
abbrev pub write_checks : ℕ → ℕ → List (Bool × Refusal)
write_checks count bytes =
    (nat_le count 1024, write_fault TooMany) ∷
    (nat_le (file_length count) bytes, write_fault TooFewBytes) ∷ []

abbrev pub write_refused : ℕ → ℕ → Option Refusal
write_refused count bytes = first_of (write_checks count bytes)

-- The file of a plate and rows: each row stands as the fixture that it counts as.
abbrev pub file_of : Plate → List Fixture → List ℕ
file_of plate rows = floor_file (held plate) (map fixture_counted rows)

-- the rows of block i: none in the plate's, which is block 0, and then 13 in each
abbrev pub rows_in : List Fixture → ℕ → List Fixture
rows_in rows zero = []
rows_in rows (suc i) = take 13 (drop (13 * i) rows)

-- the records of block i
abbrev pub records_in : PlateFields → List Fixture → ℕ → List ℕ
records_in fields rows zero = plate_record fields
records_in fields rows (suc i) = flat_map fixture_record (rows_in rows (suc i))

-- a file over the first of some bytes
abbrev pub over : List ℕ → List ℕ → List ℕ
over file bytes = file ++ drop (length file) bytes

-- The bytes afterwards: the file and then the further bytes as they were, or after a refusal all as they were.
abbrev pub bytes_after : {X : Type 0} → Result X WriteFault → List ℕ → List ℕ → List ℕ
bytes_after (Ok n) file bytes = over file bytes
bytes_after (Err e) file bytes = bytes

-- the label is of 32 bits, as its type has it
abbrev pub Labelled : Fixture → Type 0
Labelled f = f.label < 2 ^ 32

-- What writing promises: what was written is read again as the same plate and the same fixtures, as they count; and whatever is read could have been written, from exactly what it is read as.
pub record WrittenExactly (plate : Plate) (rows : List Fixture) (r : Result ℕ WriteFault) (after : List ℕ) : Type 0 where
  pub read_again : IfOk r (λ n. Reads (take n after) (held plate) (map fixture_counted rows))
  pub only : ReadWasWritten
