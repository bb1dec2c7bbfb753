-- The text that is written for a speed and an acceleration. Assumes nothing.
use Rattle.std.specs.Prelude.{ℕ, List, ◌++◌, ℤ, Ok, Err, codes, decimal, Result}
use Rattle.std.specs.Fmt.{signed_decimal}
use Rattle.refusals.specs.Refusals.{refusal_text}
use Rattle.runout.specs.declared.faults.RunOutFault.{RunOutFault}
use Rattle.runout.specs.declared.run_outs.RunOut.{RunOut}
use Rattle.runout.specs.Faults.{run_out_fault, run_out_words}

-- `travel`, `time` and `peak` with their numbers, or the refusal
abbrev pub outcome_text : Result RunOut RunOutFault → List ℕ
outcome_text (Ok out) = codes "travel " ++ (decimal out.travel ++ (codes " time " ++ (decimal out.time ++ (codes " peak " ++ decimal out.peak))))
outcome_text (Err fault) = refusal_text (run_out_fault fault) (run_out_words fault)

-- the speed, the acceleration and what came of them
abbrev pub answer_text : ℤ → ℤ → Result RunOut RunOutFault → List ℕ
answer_text m a outcome = signed_decimal m ++ (codes " " ++ (signed_decimal a ++ (codes ": " ++ outcome_text outcome)))
