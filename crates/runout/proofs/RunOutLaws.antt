-- What the crates above know of the run-out of a plate. Assumes nothing.
use Rattle.std.proofs.Common.{◌≡◌, ℕ, zero, suc, ◌+◌, ◌-◌, ◌*◌, ◌/◌, ◌%◌, ◌^◌, ◌<◌, ◌≤◌, min, ℤ, pos, negsuc, ◌+ℤ◌, nat_abs, ◌≤ℤ◌, sym, ap, ◌∙◌, subst, ⊎_elim, le_refl, suc-mul, zero-mul, mul-one, arith}
use mathlib.Core.Path.{fun_ext}
use Rattle.std.proofs.lemmas.Nat.{mul-le}
use Rattle.std.proofs.lemmas.Int.{ints}
use Rattle.std.proofs.lemmas.Bool.{cases_lt}
use Rattle.plates.specs.declared.plates.Plate.{Plate}
use Rattle.runout.specs.declared.run_outs.RunOut.{RunOut}
use Rattle.runout.specs.Speeds.{changed, slowing, travelled, RunOutOf}
use Rattle.runout.specs.RunOuts.{braking, speeds, speeds_course, speeds_first, speeds_held, run_out, run_out_sums, HoldThenBrake}
use Rattle.runout.proofs.Courses.{after}
use Rattle.runout.proofs.BrakeLaws.{brake_run}
use Rattle.runout.proofs.Laws.{run_out_unique, travelled_apart, travelled_most}
use Rattle.runout.proofs.Summing.{summed}

module _ (p : Plate) (m a : ℤ) where
  brakes : 0 < braking p
  brakes = omega (arith, p.real_braking)

  -- From the end of the hold on, the speeds fall by the real braking.
  pub speeds_after : (i : ℕ) → speeds p m a (p.hold + i) ≡ slowing (speeds p m a p.hold) (braking p) i
  speeds_after = subst (λ e. (i : ℕ) → e (p.hold + i) ≡ slowing (e p.hold) (braking p) i) (sym (speeds_course p m a)) (after p.hold _ (braking p) _)

  -- and after as many ms as the speed at its end they are 0
  pub speeds_rest : (i : ℕ) → p.hold + speeds p m a p.hold ≤ i → speeds p m a i ≡ 0
  speeds_rest i h =
      let k = i - p.hold in
      let at : p.hold + k ≡ i = omega arith in
      ap (speeds p m a) (sym at) ∙ speeds_after k ∙ omega (arith, mul-le k 1 k (braking p) (le_refl k) brakes, mul-one k)

  -- The run-out is travel, time and peak of the speeds, in plain words.
  pub run_out_right : RunOutOf (speeds p m a) (run_out p m a)
  run_out_right =
      let sums = run_out_sums p m a in
      subst (RunOutOf (speeds p m a)) (sym sums.2) (summed (speeds p m a) sums.0 (λ i h. speeds_rest i (omega (arith, sums.1))))

  -- Whatever is travel, time and peak of the speeds is the run-out.
  pub run_out_only : (out : RunOut) → RunOutOf (speeds p m a) out → out ≡ run_out p m a
  run_out_only out r =
      let u = run_out_unique r run_out_right in
      λ i. record { travel = u.0 i; time = u.1 i; peak = u.2 i }

  -- Its travel is that of the hold, and then the braking travel from the speed at its end.
  pub run_out_braked : HoldThenBrake p m a (run_out p m a)
  run_out_braked =
      let w = speeds p m a p.hold in
      let n = (run_out p m a).time + (w / braking p + min 1 (w % braking p)) in
      omega (
        arith,
        run_out_right.whole (p.hold + n) (omega arith),
        travelled_apart (speeds p m a) p.hold n,
        ap (λ e. travelled e n) (fun_ext speeds_after),
        (brake_run (braking p) brakes w).whole n (omega arith),
      )

-- no change adds more than the most
changed_most : (v n : ℕ) (g : ℤ) → g ≤ℤ pos n → changed v g ≤ v + n
changed_most v n (pos k) h = omega (arith, ints)
changed_most v n (negsuc k) h = omega arith

-- The bounds of a run-out whose speed and acceleration are within their limits.
module _ (p : Plate) (m a : ℤ) (speed : nat_abs m ≤ 10000000) (acceleration : a ≤ℤ pos p.pull) where
  rising : (i : ℕ) → i ≤ p.hold → speeds p m a i ≤ 11000000 + i * 29950
  rising zero h = omega (arith, speeds_first p m a, p.speed_error_ranged, zero-mul 29950)
  rising (suc i) h =
      omega (
        arith,
        speeds_held p m a i h,
        changed_most (speeds p m a i) 29950 (a +ℤ pos p.drive_error) (omega (arith, ints, p.pull_ranged, p.drive_error_ranged)),
        rising i (omega arith),
        suc-mul i 29950,
      )

  pub speeds_small : (i : ℕ) → speeds p m a i ≤ 25975000
  speeds_small i =
      ⊎_elim
      (λ (held : i < suc p.hold). omega (arith, rising i (omega arith), p.hold_ranged))
      (λ (past : suc p.hold ≤ i).
      let k = i - p.hold in
      let at : p.hold + k ≡ i = omega arith in
      omega (arith, ap (speeds p m a) at, speeds_after p m a k, rising p.hold (le_refl p.hold), p.hold_ranged))
      (cases_lt i (suc p.hold))

  pub run_out_small : ((run_out p m a).travel < 2 ^ 53) × ((run_out p m a).time ≤ 25975500) × ((run_out p m a).peak ≤ 25975000)
  run_out_small =
      let r = run_out_right p m a in
      let t = (run_out p m a).time in
      let time : t ≤ 25975500 = omega (arith, r.least _ (speeds_rest p m a), speeds_small p.hold, p.hold_ranged) in (
        omega (arith, r.whole t (le_refl t), travelled_most (speeds p m a) 25975000 speeds_small t, mul-le t 25975000 25975500 25975000 time (le_refl 25975000)),
        time,
        omega (arith, r.reached.1, speeds_small r.reached.0),
      )
