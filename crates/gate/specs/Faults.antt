-- What the faults of a tick and of a release say: for each case its layer, its number and its values, and its words. Assumes nothing.
use Rattle.std.specs.Prelude.{ℕ, List, [], ◌∷◌, ◌++◌, ℤ, pos, codes, decimal}
use Rattle.refusals.specs.declared.layers.Layer.TheVariants.{Gate}
use Rattle.refusals.specs.Refusals.{Refusal}
use Rattle.claims.specs.declared.boxes.Claim.{Claim}
use Rattle.gate.specs.declared.parts.MeasurementField.{MeasurementField}
use Rattle.gate.specs.declared.parts.MeasurementField.TheVariants.{X, Y, Speed}
use Rattle.gate.specs.declared.faults.TickFault.{TickFault}
use Rattle.gate.specs.declared.faults.TickFault.TheVariants.{Tripped, Measured, Acceleration, Radius, TopSpeed, TurnLimit, Blocked}
use Rattle.gate.specs.declared.faults.ReleaseFault.{ReleaseFault}
use Rattle.gate.specs.declared.faults.ReleaseFault.TheVariants.{NotTripped, Measured as NotMeasured, Moving}

-- the fields of a measurement count from 1
abbrev pub field_number : MeasurementField → ℕ
field_number X = 1
field_number Y = 2
field_number Speed = 3

-- the values of a claim: label, low and high x, low and high y, speed
abbrev pub claim_values : Claim → List ℤ
claim_values c = pos c.label ∷ c.x.low ∷ c.x.high ∷ c.y.low ∷ c.y.high ∷ pos c.speed ∷ []

abbrev gate_refusal : ℕ → List ℤ → Refusal
gate_refusal number values = record { layer = Gate; number = number; values = values }

-- what a tick's fault says
abbrev pub tick_fault : TickFault → Refusal
tick_fault Tripped = gate_refusal 31 []
tick_fault (Measured field) = gate_refusal 32 (pos (field_number field) ∷ [])
tick_fault Acceleration = gate_refusal 33 []
tick_fault Radius = gate_refusal 34 []
tick_fault TopSpeed = gate_refusal 38 []
tick_fault TurnLimit = gate_refusal 39 []
tick_fault (Blocked claim) = gate_refusal 40 (claim_values claim)

-- what a release's fault says
abbrev pub release_fault : ReleaseFault → Refusal
release_fault NotTripped = gate_refusal 41 []
release_fault (NotMeasured field) = gate_refusal 32 (pos (field_number field) ∷ [])
release_fault Moving = gate_refusal 42 []

-- the words for each
abbrev field_words : MeasurementField → List ℕ
field_words field = codes "field " ++ (decimal (field_number field) ++ codes " is out of its range")

abbrev pub tick_words : TickFault → List ℕ
tick_words Tripped = codes "the gate is tripped"
tick_words (Measured field) = field_words field
tick_words Acceleration = codes "the acceleration is not from -brake to pull"
tick_words Radius = codes "the radius is 0 or too large"
tick_words TopSpeed = codes "the peak is above the top speed"
tick_words TurnLimit = codes "the peak is too high for the arc"
tick_words (Blocked claim) = codes "blocked by " ++ decimal claim.label

abbrev pub release_words : ReleaseFault → List ℕ
release_words NotTripped = codes "the gate is not tripped"
release_words (NotMeasured field) = field_words field
release_words Moving = codes "the speed is above the speed error"
