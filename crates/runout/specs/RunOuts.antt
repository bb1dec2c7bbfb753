-- The run-out: the worst journey that a proposal allows a cart with a plate. Assumes nothing.
use Rattle.std.specs.Prelude.{◌≡◌, ℕ, zero, suc, ◌+◌, ◌-◌, ◌<◌, ◌≤◌, Bool, cond, ◌&&◌, [], ◌∷◌, ℤ, pos, ◌+ℤ◌, neg_ℤ, ◌≤ℤ◌, Option, int_le, nat_lt, unsigned_abs}
use Rattle.std.proofs.Math.Path.{refl}
use Rattle.refusals.specs.Refusals.{Refusal}
use Rattle.refusals.specs.Answers.{first_of}
use Rattle.plates.specs.declared.plates.Plate.{Plate}
use Rattle.runout.specs.declared.run_outs.RunOut.{RunOut}
use Rattle.runout.specs.declared.faults.RunOutFault.TheVariants.{Speed, Acceleration}
use Rattle.runout.specs.Brake.{brake_travel}
use Rattle.runout.specs.Faults.{run_out_fault}
use Rattle.runout.specs.Speeds.{changed, travelled, rest_time, largest}
use Rattle.std.proofs.lemmas.Bool.{cond-true, cond-false, lt-ltb, le-ltb}

abbrev from_to : ℤ → ℤ → ℤ → Bool
from_to low high z = int_le low z && int_le z high

-- The first refusal of a measured speed m and a proposed acceleration a under a brake and a pull, if any.
abbrev pub limits_refused : (brake pull : ℕ) → ℤ → ℤ → Option Refusal
limits_refused brake pull m a = first_of (
    (from_to (pos 0) (pos 10000000) m, run_out_fault Speed) ∷
    (from_to (neg_ℤ (pos brake)) (pos pull) a, run_out_fault Acceleration) ∷ [])

-- the same for a plate
abbrev pub run_out_refused : Plate → ℤ → ℤ → Option Refusal
run_out_refused p = limits_refused p.brake p.pull

-- a speed and an acceleration that are not refused
abbrev pub Within : Plate → ℤ → ℤ → Type 0
Within p m a = (pos 0 ≤ℤ m) × (m ≤ℤ pos 10000000) × (neg_ℤ (pos p.brake) ≤ℤ a) × (a ≤ℤ pos p.pull)

-- the real braking: what the brake does at the worst error of the drive
abbrev pub braking : Plate → ℕ
braking p = p.brake - p.drive_error

-- The speed at each ms where at 0 it is v, in each ms of the hold it changes by g, and from then on it falls by b. It does not fall below 0; nor does `-`.
pub course : (hold : ℕ) (g : ℤ) (b v : ℕ) → ℕ → ℕ
course hold g b v zero = v
course hold g b v (suc i) = cond (nat_lt i hold) (changed (course hold g b v i) g) (course hold g b v i - b)

-- The highest speed that the cart may have at each ms: at 0 the measured speed m, which is not below 0, and the speed error; in each ms of the hold it changes by a and the drive error, and from then on it falls by the real braking.
pub speeds : Plate → ℤ → ℤ → ℕ → ℕ
speeds p m a = course p.hold (a +ℤ pos p.drive_error) (braking p) (unsigned_abs m + p.speed_error)

-- A ms from which all these speeds are 0: the hold, and then as many as the speed at its end, as each takes 1 off or more.
settled : Plate → ℤ → ℤ → ℕ
settled p m a = p.hold + speeds p m a p.hold

-- The run-out: travel, time and peak of these speeds.
pub run_out : Plate → ℤ → ℤ → RunOut
run_out p m a = record {
  travel = travelled (speeds p m a) (settled p m a);
  time = rest_time (speeds p m a) (settled p m a);
  peak = largest (speeds p m a) (settled p m a);
}

-- What is known of them elsewhere: the speed at 0, its step in the hold, its step under the brake; and that the run-out is the sums up to some ms, which is late enough.
module _ (hold : ℕ) (g : ℤ) (b v : ℕ) where
  pub course_first : course hold g b v 0 ≡ v
  unfolding course
  course_first = refl

  pub course_held : (i : ℕ) → i < hold → course hold g b v (suc i) ≡ changed (course hold g b v i) g
  unfolding course
  course_held i h = cond-true (nat_lt i hold) _ _ (lt-ltb i hold h)

  pub course_braked : (i : ℕ) → hold ≤ i → course hold g b v (suc i) ≡ course hold g b v i - b
  unfolding course
  course_braked i h = cond-false (nat_lt i hold) _ _ (le-ltb i hold h)

module _ (p : Plate) (m a : ℤ) where
  pub speeds_course : speeds p m a ≡ course p.hold (a +ℤ pos p.drive_error) (braking p) (unsigned_abs m + p.speed_error)
  unfolding speeds
  speeds_course = refl

  pub speeds_first : speeds p m a 0 ≡ unsigned_abs m + p.speed_error
  unfolding speeds
  speeds_first = course_first _ _ _ _

  pub speeds_held : (i : ℕ) → i < p.hold → speeds p m a (suc i) ≡ changed (speeds p m a i) (a +ℤ pos p.drive_error)
  unfolding speeds
  speeds_held = course_held _ _ _ _

  pub speeds_braked : (i : ℕ) → p.hold ≤ i → speeds p m a (suc i) ≡ speeds p m a i - braking p
  unfolding speeds
  speeds_braked = course_braked _ _ _ _

  pub run_out_sums : (n : ℕ) × (p.hold + speeds p m a p.hold ≡ n) × (run_out p m a ≡ record { travel = travelled (speeds p m a) n; time = rest_time (speeds p m a) n; peak = largest (speeds p m a) n })
  unfolding settled run_out
  run_out_sums = (settled p m a, refl, refl)

-- The travel is that of the hold, and then the braking travel from the speed at its end.
abbrev pub HoldThenBrake : Plate → ℤ → ℤ → RunOut → Type 0
HoldThenBrake p m a out = out.travel ≡ travelled (speeds p m a) p.hold + brake_travel (speeds p m a p.hold) (braking p)
