use Rattle.std.proofs.Common.{arith}
use Rattle.std.proofs.lemmas.Grind.{common_steps}
use Rattle.gate.specs.Checks.{run_out_checked, open_refused}
use Rattle.gate.proofs.parts.Tick.checked.Goals as goal

pub returns-in_err-unblocked : goal.returns-in_err-unblocked
unfolding open_refused run_out_checked
returns-in_err-unblocked g c = grind (arith, common_steps)

pub returns : goal.returns
unfolding open_refused run_out_checked
returns g c = grind (arith, common_steps)
