use Rattle.std.proofs.Common.{sym, subst, arith}
use Rattle.std.proofs.lemmas.Int.{ints}
use Rattle.runout.specs.Speeds.{RunOutOf}
use Rattle.runout.proofs.Closed.{rise_right, fall_right}
use Rattle.runout.proofs.Composed.{run_out_named}
use Rattle.runout.proofs.formulas.worst.Goals as goal

pub returns-then-change-lt0 : goal.returns-then-change-lt0
returns-then-change-lt0 c =
    let out =
    run_out_named c.args.plate.now c.args.speed c.args.acceleration _ _ _ _ c.falling.result (omega arith) (omega (arith, ints)) (omega arith) (omega (arith, ints))
    (subst (RunOutOf _) (sym c.falling.ensures.value) (fall_right _ _ _ _ (omega arith) (omega (arith, ints)))) in
    record { value = out.0; journey = out.1; braked = out.2; small = c.falling.ensures.small }

pub returns-else-change-lt0 : goal.returns-else-change-lt0
returns-else-change-lt0 c =
    let out =
    run_out_named c.args.plate.now c.args.speed c.args.acceleration _ _ _ _ c.rising.result (omega arith) (omega (arith, ints)) (omega arith) (omega (arith, ints))
    (subst (RunOutOf _) (sym c.rising.ensures.value) (rise_right _ _ _ _ (omega arith))) in
    record { value = out.0; journey = out.1; braked = out.2; small = c.rising.ensures.small }
