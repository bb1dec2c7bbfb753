-- The lines that are written of a floor. Assumes nothing.
use Rattle.std.specs.Prelude.{ℕ, List, [], ◌∷◌, ◌++◌, ℤ, Some, None, codes, decimal, Option}
use Rattle.std.specs.List.{flat_map}
use Rattle.std.specs.Fmt.{signed_decimal}
use Rattle.plates.specs.declared.fields.PlateFields.{PlateFields}
use Rattle.plates.specs.Fields.{numbers_of}
use Rattle.claims.specs.declared.fixtures.Fixture.{Fixture}
use Rattle.floors.specs.declared.faults.Place.{Place}
use Rattle.floors.specs.declared.faults.BlockFault.{BlockFault}
use Rattle.floors.specs.Faults.{block_fault, fault_place, inner_number}

-- numbers, each after a blank
abbrev pub blanked : List ℤ → List ℕ
blanked numbers = flat_map (λ n. codes " " ++ signed_decimal n) numbers

-- `plate` and the nine numbers
abbrev pub plate_line : PlateFields → List ℕ
plate_line fields = codes "plate" ++ blanked (numbers_of fields)

-- label, low x, high x, low y, high y
abbrev pub fixture_line : Fixture → List ℕ
fixture_line f = decimal f.label ++ blanked (f.x.low ∷ (f.x.high ∷ (f.y.low ∷ (f.y.high ∷ []))))

-- how many fixtures there are
abbrev pub count_line : ℕ → List ℕ
count_line count = decimal count ++ codes " fixtures"

-- ` block 1 byte 8 inner 22`, where the fault is about a byte
abbrev place_part : Option Place → ℕ → List ℕ
place_part None inner = []
place_part (Some place) inner = codes " block " ++ (decimal place.block ++ (codes " byte " ++ (decimal place.byte ++ (codes " inner " ++ decimal inner))))

-- `fault 55 block 1 byte 8 inner 22`
abbrev pub fault_line : BlockFault → List ℕ
fault_line fault = codes "fault " ++ (decimal (block_fault fault).number ++ place_part (fault_place fault) (inner_number fault))
