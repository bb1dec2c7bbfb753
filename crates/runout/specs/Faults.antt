-- What the faults of a run-out say: for each case its layer, its number and its values, and its words. Assumes nothing.
use Rattle.std.specs.Prelude.{ℕ, List, [], ◌∷◌, pos, codes}
use Rattle.refusals.specs.declared.layers.Layer.TheVariants.{Gate}
use Rattle.refusals.specs.Refusals.{Refusal}
use Rattle.runout.specs.declared.faults.RunOutFault.{RunOutFault}
use Rattle.runout.specs.declared.faults.RunOutFault.TheVariants.{Speed, Acceleration}

-- what a run-out's fault says; speed is the third field of a measurement
abbrev pub run_out_fault : RunOutFault → Refusal
run_out_fault Speed = record { layer = Gate; number = 32; values = pos 3 ∷ [] }
run_out_fault Acceleration = record { layer = Gate; number = 33; values = [] }

-- the words for each
abbrev pub run_out_words : RunOutFault → List ℕ
run_out_words Speed = codes "field 3, the measured speed, is not from 0 to 10000000"
run_out_words Acceleration = codes "the acceleration is not from -brake to pull"
