-- A block of the floor file: 512 bytes, of which the last two are the checksum of the others. Assumes nothing.
use Rattle.std.specs.Prelude.{ℕ, zero, suc, ◌+◌, ◌-◌, ◌*◌, ◌%◌, min, max, cond, List, ◌∷◌, ◌++◌, map, length, take, drop, replicate, ℤ, Some, None, Option, ◌==◌, slice_index}
use Rattle.std.specs.List.{flat_map, range_with_len}
use Rattle.std.specs.Option.{option_map}
use Rattle.refusals.specs.Refusals.{Refusal}
use Rattle.refusals.specs.Answers.{or_else}
use Rattle.plates.specs.declared.fields.PlateFields.{PlateFields}
use Rattle.plates.specs.Fields.{in_order, numbers_of}
use Rattle.plates.specs.Plates.{plate_refused}
use Rattle.claims.specs.declared.fixtures.Fixture.{Fixture}
use Rattle.claims.specs.Things.{fixture_refused}
use Rattle.floors.specs.declared.faults.Place.{Place}
use Rattle.floors.specs.declared.faults.BlockFault.TheVariants.{WrongSum, WrongByte}
use Rattle.floors.specs.Bytes.{le_bytes, le_value, i64_at, i64_bytes, word_sum, sealed, departs}
use Rattle.floors.specs.Kinds.{block_kind, kind_number}
use Rattle.floors.specs.Faults.{no_plate, no_fixture, block_fault}

-- ---- what is written

-- the number of the kind of block i: 1 the plate's, which is block 0, and 2 one of fixtures
abbrev pub kind_of : ℕ → ℕ
kind_of i = kind_number (block_kind i)

-- The head of block i: its kind, how many fixtures it holds, two zeros, and its number in 4 bytes.
abbrev pub head_bytes : ℕ → ℕ → List ℕ
head_bytes i count = kind_of i ∷ (count ∷ (0 ∷ (0 ∷ le_bytes 4 i)))

-- the first 510 bytes of block i: its head, its records, and 0 in every unused byte
abbrev pub body : ℕ → ℕ → List ℕ → List ℕ
body i count records = head_bytes i count ++ (records ++ replicate (502 - length records) 0)

-- The record of a plate: its nine numbers.
abbrev pub plate_record : PlateFields → List ℕ
plate_record fields = flat_map i64_bytes (numbers_of fields)

-- The record of a fixture: label, low x, high x, low y, high y.
abbrev pub fixture_record : Fixture → List ℕ
fixture_record f = le_bytes 4 f.label ++ (i64_bytes f.x.low ++ (i64_bytes f.x.high ++ (i64_bytes f.y.low ++ i64_bytes f.y.high)))

-- block 0
abbrev pub plate_block : PlateFields → List ℕ
plate_block fields = sealed (body 0 0 (plate_record fields))

-- block i of some fixtures
abbrev pub fixture_block : ℕ → List Fixture → List ℕ
fixture_block i rows = sealed (body i (length rows) (flat_map fixture_record rows))

-- ---- what is read

-- the nine numbers from a byte on
unfoldable pub numbers_at : List ℕ → ℕ → List ℤ
numbers_at b at = map (λ k. i64_at b (at + 8 * k)) (range_with_len 0 9)

-- the plate's fields from a byte on
abbrev pub plate_at : List ℕ → ℕ → PlateFields
plate_at b at = in_order (numbers_at b at)

-- the fixture's row from a byte on
unfoldable pub fixture_at : List ℕ → ℕ → Fixture
fixture_at b at = record {
  label = le_value (take 4 (drop at b));
  x = record { low = i64_at b (at + 4); high = i64_at b (at + 12) };
  y = record { low = i64_at b (at + 20); high = i64_at b (at + 28) };
}

-- the least count that block i of n may have: none in the plate's, 13 in each of the others but the last, which has at least 1
abbrev pub least_count : ℕ → ℕ → ℕ
least_count n zero = 0
least_count n (suc i) = cond (i + 2 == n) 1 13

-- the greatest: 13, and no more than make 1,024 with those before
abbrev pub most_count : ℕ → ℕ
most_count zero = 0
most_count (suc i) = min 13 (1024 - 13 * i)

-- the allowed count that is nearest to the one found
abbrev pub nearest_count : ℕ → ℕ → ℕ → ℕ
nearest_count n i count = max (least_count n i) (min count (most_count i))

-- how many bytes the records of block i take
abbrev pub used_bytes : ℕ → ℕ → ℕ
used_bytes zero count = 72
used_bytes (suc i) count = 36 * count

-- The body that block i of n should have: its records as they are found, and everything else as it must be. Where the count found is allowed, it stands; else the nearest allowed, so that the block departs at its count byte.
abbrev pub wanted_body : ℕ → ℕ → List ℕ → List ℕ
wanted_body n i b = let count = nearest_count n i (slice_index b 1) in body i count (take (used_bytes i count) (drop 8 b))

abbrev pub place : ℕ → ℕ → Place
place i k = record { block = i; byte = k }

-- the words of the block do not sum to a multiple of 65,536
abbrev pub sum_refused : ℕ → List ℕ → Option Refusal
sum_refused i b = cond (word_sum b % 65536 == 0) None (Some (block_fault (WrongSum (place i 510))))

-- the first wrong byte of the head or unused byte that is not 0
abbrev pub byte_refused : ℕ → ℕ → List ℕ → Option Refusal
byte_refused n i b = option_map (λ k. block_fault (WrongByte (place i k))) (departs 0 (wanted_body n i b) (take 510 b))

-- the first refusal of block i of n but for its records
unfoldable pub frame_refused : ℕ → ℕ → List ℕ → Option Refusal
frame_refused n i b = or_else (sum_refused i b) (byte_refused n i b)

-- the refusal of a plate's record at a place, and of a fixture's, with the whole of the refusal inside
abbrev pub plate_refused_at : Place → List ℕ → Option Refusal
plate_refused_at p b = option_map (no_plate p) (plate_refused (plate_at b p.byte))

abbrev pub fixture_refused_at : Place → List ℕ → Option Refusal
fixture_refused_at p b = option_map (no_fixture p) (fixture_refused (fixture_at b p.byte))

-- the refusal of record j of block i
unfoldable pub row_refused : ℕ → List ℕ → ℕ → Option Refusal
row_refused i b j = fixture_refused_at (place i (8 + 36 * j)) b

-- the first of n refusals, counted from a on
abbrev pub first_among : (ℕ → Option Refusal) → ℕ → ℕ → Option Refusal
first_among f a zero = None
first_among f a (suc n) = or_else (f a) (first_among f (a + 1) n)

-- the first refusal of the records of block i
abbrev pub records_refused : ℕ → List ℕ → Option Refusal
records_refused zero b = plate_refused_at (place 0 8) b
records_refused (suc i) b = first_among (row_refused (suc i) b) 0 (slice_index b 1)

-- The first refusal of block i of n, if any.
unfoldable pub block_refused : ℕ → ℕ → List ℕ → Option Refusal
block_refused n i b = or_else (frame_refused n i b) (records_refused i b)
