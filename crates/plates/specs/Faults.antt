-- What the faults of a plate say: for each case its layer, its number and its values, and its words. Assumes nothing.
use Rattle.std.specs.Prelude.{ℕ, List, [], ◌∷◌, ◌++◌, pos, codes, decimal}
use Rattle.refusals.specs.declared.layers.Layer.TheVariants.{Plate}
use Rattle.refusals.specs.Refusals.{Refusal}
use Rattle.plates.specs.declared.faults.PlateFault.{PlateFault}
use Rattle.plates.specs.declared.faults.PlateFault.TheVariants.{OutOfRange, WeakBraking, SpeedErrorTooLarge}
use Rattle.plates.specs.Fields.{field_number, field_name, range_of}

-- what a plate's fault says
abbrev pub plate_fault : PlateFault → Refusal
plate_fault (OutOfRange field) = record { layer = Plate; number = 11; values = pos (field_number field) ∷ [] }
plate_fault WeakBraking = record { layer = Plate; number = 12; values = [] }
plate_fault SpeedErrorTooLarge = record { layer = Plate; number = 13; values = [] }

-- the words for each
abbrev pub plate_words : PlateFault → List ℕ
plate_words (OutOfRange field) =
    codes "field " ++ (decimal (field_number field) ++ (codes ", " ++ (field_name field ++ (codes ", is not from " ++ (decimal (range_of field).low ++ (codes " to " ++ decimal (range_of field).high))))))
plate_words WeakBraking = codes "brake less drive error is below 50"
plate_words SpeedErrorTooLarge = codes "the speed error is not below the top speed"
