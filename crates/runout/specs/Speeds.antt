-- What speeds, one for each ms, come to: travel, time and peak.
-- Lengths are in nm, speeds in nm per ms, changes of speed in nm per ms per ms. Assumes nothing.
use Rattle.std.specs.Prelude.{◌≡◌, ℕ, zero, suc, ◌+◌, ◌-◌, ◌*◌, ◌^◌, ◌<◌, ◌≤◌, max, cond, ℤ, pos, negsuc, ◌==◌}
use Rattle.std.proofs.Math.Path.{refl}
use Rattle.runout.specs.declared.run_outs.RunOut.{RunOut}

-- the larger of 0 and v + g
abbrev pub changed : ℕ → ℤ → ℕ
changed v (pos n) = v + n
changed v (negsuc n) = v - suc n

-- the speed at each ms from v on, where it falls by rate in each
abbrev pub slowing : (v rate : ℕ) → ℕ → ℕ
slowing v rate i = v - i * rate

-- The travel of the first n ms: in each the larger of the speeds at its two ends.
pub travelled : (ℕ → ℕ) → ℕ → ℕ
travelled e zero = 0
travelled e (suc n) = travelled e n + max (e n) (e (suc n))

-- The time at which the speeds of the first n ms come to rest: one past the last that is above 0, or 0.
pub rest_time : (ℕ → ℕ) → ℕ → ℕ
rest_time e zero = 0
rest_time e (suc n) = cond (e n == 0) (rest_time e n) (suc n)

-- The largest speed from ms 0 to ms n.
pub largest : (ℕ → ℕ) → ℕ → ℕ
largest e zero = e 0
largest e (suc n) = max (largest e n) (e (suc n))

-- What is known of the three elsewhere, from ms to ms.
module _ (e : ℕ → ℕ) where
  pub travelled_none : travelled e 0 ≡ 0
  unfolding travelled
  travelled_none = refl

  pub travelled_next : (n : ℕ) → travelled e (suc n) ≡ travelled e n + max (e n) (e (suc n))
  unfolding travelled
  travelled_next n = refl

  pub rest_time_none : rest_time e 0 ≡ 0
  unfolding rest_time
  rest_time_none = refl

  pub rest_time_next : (n : ℕ) → rest_time e (suc n) ≡ cond (e n == 0) (rest_time e n) (suc n)
  unfolding rest_time
  rest_time_next n = refl

  pub largest_none : largest e 0 ≡ e 0
  unfolding largest
  largest_none = refl

  pub largest_next : (n : ℕ) → largest e (suc n) ≡ max (largest e n) (e (suc n))
  unfolding largest
  largest_next n = refl

-- Travel, time and peak of the speeds e, in plain words.
pub record IsRunOut (e : ℕ → ℕ) (travel time peak : ℕ) : Type 0 where
  -- travel is the sum over all ms: however many are summed from time on, no more comes to it
  pub whole : (n : ℕ) → time ≤ n → travelled e n ≡ travel
  -- time is the least ms from which every speed is 0
  pub still : (i : ℕ) → time ≤ i → e i ≡ 0
  pub least : (t : ℕ) → ((i : ℕ) → t ≤ i → e i ≡ 0) → time ≤ t
  -- peak is the largest speed, and is reached
  pub highest : (i : ℕ) → e i ≤ peak
  pub reached : (i : ℕ) × (e i ≡ peak)

-- The same of the three numbers as one value: out is the run-out of the speeds e.
abbrev pub RunOutOf : (ℕ → ℕ) → RunOut → Type 0
RunOutOf e out = IsRunOut e out.travel out.time out.peak

-- A run-out's numbers are far below the ends of their types.
abbrev pub Small : RunOut → Type 0
Small out = (out.travel < 2 ^ 53) × (out.time < 2 ^ 26) × (out.peak < 2 ^ 25)
