-- What the faults of a thing say: for each case its layer, its number and its values, and its words. Assumes nothing.
use Rattle.std.specs.Prelude.{ℕ, List, [], ◌∷◌, ◌++◌, pos, codes, decimal}
use Rattle.refusals.specs.declared.layers.Layer.TheVariants.{Thing}
use Rattle.refusals.specs.Refusals.{Refusal}
use Rattle.claims.specs.declared.faults.ThingFault.{ThingFault}
use Rattle.claims.specs.declared.faults.ThingFault.TheVariants.{OutOfRange, LowAboveHigh, TooMany}
use Rattle.claims.specs.Fields.{field_number}

-- what a thing's fault says
abbrev pub thing_fault : ThingFault → Refusal
thing_fault (OutOfRange field) = record { layer = Thing; number = 21; values = pos (field_number field) ∷ [] }
thing_fault LowAboveHigh = record { layer = Thing; number = 22; values = [] }
thing_fault TooMany = record { layer = Thing; number = 23; values = [] }

-- the words for each
abbrev pub thing_words : ThingFault → List ℕ
thing_words (OutOfRange field) = codes "field " ++ (decimal (field_number field) ++ codes " is out of its range")
thing_words LowAboveHigh = codes "a low edge is above its high edge"
thing_words TooMany = codes "there are more than 1024 things"
