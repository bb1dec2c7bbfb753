-- The speeds of a plate are a course, so that what is the run-out of that course is the plate's. Assumes nothing.
use Rattle.std.proofs.Common.{◌≡◌, ℕ, ◌+◌, ℤ, pos, ◌+ℤ◌, nat_abs, sym, subst}
use Rattle.plates.specs.declared.plates.Plate.{Plate}
use Rattle.runout.specs.declared.run_outs.RunOut.{RunOut}
use Rattle.runout.specs.Speeds.{RunOutOf}
use Rattle.runout.specs.RunOuts.{course, braking, speeds, speeds_course, run_out, HoldThenBrake}
use Rattle.runout.proofs.RunOutLaws.{run_out_only, run_out_braked}

module _ (p : Plate) (m a : ℤ) where
  -- What is the run-out of the course is the plate's, of its speeds, and that of the hold and then the brake.
  pub run_out_named : (hold : ℕ) (g : ℤ) (b v : ℕ) (out : RunOut) → hold ≡ p.hold → g ≡ a +ℤ pos p.drive_error → b ≡ braking p → v ≡ nat_abs m + p.speed_error → RunOutOf (course hold g b v) out → (out ≡ run_out p m a) × RunOutOf (speeds p m a) out × HoldThenBrake p m a out
  run_out_named hold g b v out hs gs bs vs r =
      let named : course hold g b v ≡ speeds p m a = cc (speeds_course p m a) in
      let is = subst (λ e. RunOutOf e out) named r in
      let value = run_out_only p m a out is in
      (value, is, subst (HoldThenBrake p m a) (sym value) (run_out_braked p m a))
