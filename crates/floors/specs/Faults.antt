-- What the faults of a floor file say: for each case its layer, its number and its values, and its words. Assumes nothing.
use Rattle.std.specs.Prelude.{ℕ, List, [], ◌∷◌, ◌++◌, pos, Some, None, codes, decimal, Option}
use Rattle.refusals.specs.declared.layers.Layer.TheVariants.{Block, Record}
use Rattle.refusals.specs.Refusals.{Refusal}
use Rattle.plates.specs.Faults.{plate_fault, plate_words}
use Rattle.claims.specs.Faults.{thing_fault, thing_words}
use Rattle.floors.specs.declared.faults.Place.{Place}
use Rattle.floors.specs.declared.faults.RecordFault.{RecordFault}
use Rattle.floors.specs.declared.faults.RecordFault.TheVariants.{NoPlate, NoFixture}
use Rattle.floors.specs.declared.faults.BlockFault.{BlockFault}
use Rattle.floors.specs.declared.faults.BlockFault.TheVariants.{WrongLength, WrongSum, WrongByte, InRecord, TableTooShort}

-- of a block's own bytes: the block, the byte, and 0, as no other fault is inside
abbrev pub in_block : ℕ → Place → Refusal
in_block number place = record { layer = Block; number = number; values = pos place.block ∷ (pos place.byte ∷ (pos 0 ∷ [])) }

-- of a record: the block, the record's first byte, and the whole of the fault inside, its number and then its values
abbrev pub in_record : ℕ → Place → Refusal → Refusal
in_record number place inner = record { layer = Record; number = number; values = pos place.block ∷ (pos place.byte ∷ (pos inner.number ∷ inner.values)) }

abbrev pub no_plate : Place → Refusal → Refusal
no_plate place inner = in_record 54 place inner

abbrev pub no_fixture : Place → Refusal → Refusal
no_fixture place inner = in_record 55 place inner

-- what a record's fault says
abbrev pub record_fault : RecordFault → Refusal
record_fault (NoPlate place inner) = no_plate place (plate_fault inner)
record_fault (NoFixture place inner) = no_fixture place (thing_fault inner)

-- what a block's fault says
abbrev pub block_fault : BlockFault → Refusal
block_fault WrongLength = in_block 51 (record { block = 0; byte = 0 })
block_fault (WrongSum place) = in_block 52 place
block_fault (WrongByte place) = in_block 53 place
block_fault (InRecord inner) = record_fault inner
block_fault TableTooShort = record { layer = Block; number = 56; values = [] }

-- The byte that a fault is about, but for a table that is too short.
abbrev pub fault_place : BlockFault → Option Place
fault_place WrongLength = Some (record { block = 0; byte = 0 })
fault_place (WrongSum place) = Some place
fault_place (WrongByte place) = Some place
fault_place (InRecord (NoPlate place inner)) = Some place
fault_place (InRecord (NoFixture place inner)) = Some place
fault_place TableTooShort = None

-- the number of the fault inside, or 0
abbrev pub inner_number : BlockFault → ℕ
inner_number (InRecord (NoPlate place inner)) = (plate_fault inner).number
inner_number (InRecord (NoFixture place inner)) = (thing_fault inner).number
inner_number WrongLength = 0
inner_number (WrongSum place) = 0
inner_number (WrongByte place) = 0
inner_number TableTooShort = 0

-- the words for a place, as `block 1 byte 8`
abbrev pub place_words : Place → List ℕ
place_words place = codes "block " ++ (decimal place.block ++ (codes " byte " ++ decimal place.byte))

-- the words for each fault; a place stands before what is wrong there
abbrev pub record_words : RecordFault → List ℕ
record_words (NoPlate place inner) = place_words place ++ (codes ": no plate: " ++ plate_words inner)
record_words (NoFixture place inner) = place_words place ++ (codes ": no fixture: " ++ thing_words inner)

abbrev pub block_words : BlockFault → List ℕ
block_words WrongLength = codes "the length is not that of 1 to 80 blocks of 512 bytes"
block_words (WrongSum place) = place_words place ++ codes ": the words of the block do not sum to a multiple of 65536"
block_words (WrongByte place) = place_words place ++ codes ": a wrong byte of the head, or an unused byte that is not 0"
block_words (InRecord inner) = record_words inner
block_words TableTooShort = codes "the table has too few rows"
