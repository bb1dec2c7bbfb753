-- The closed formulas of a run-out: travel, time and peak with no sum over ms. They are what the code computes and are proved equal to the run-out; no public contract rests on them. Assumes nothing.
use Rattle.std.specs.Prelude.{ℕ, ◌+◌, ◌-◌, ◌*◌, ◌/◌, ◌%◌, min, cond, ◌==◌, nat_le}
use Rattle.runout.specs.declared.run_outs.RunOut.{RunOut}

-- the sum of count numbers that are evenly spaced from first to last
abbrev pub evenly_spaced : (count first last : ℕ) → ℕ
evenly_spaced count first last = count * (first + last) / 2

-- A speed v that falls by rate in each ms: the whole steps, and what is left of v after them.
abbrev pub stop_formula : (v rate : ℕ) → RunOut
stop_formula v rate = record {
  travel = evenly_spaced (v / rate) (v % rate + rate) v + v % rate;
  time = v / rate + min 1 (v % rate);
  peak = v;
}

-- A hold, where the larger speeds of its ms are evenly spaced from first to last; then a stop from end at the braking b.
abbrev pub hold_formula : (hold first last end b peak : ℕ) → RunOut
hold_formula hold first last end b peak = record {
  travel = evenly_spaced hold first last + (stop_formula end b).travel;
  time = hold + (stop_formula end b).time;
  peak = peak;
}

-- A hold in which the speed rises from v by step in each ms, or stays, and then the brake. Where nothing moves at all, all is 0.
abbrev pub rise_formula : (hold step b v : ℕ) → RunOut
rise_formula hold step b v =
    cond (v + hold * step == 0) (record { travel = 0; time = 0; peak = 0 })
    (hold_formula hold (v + step) (v + hold * step) (v + hold * step) b (v + hold * step))

-- A hold in which the speed falls from v by step in each ms, and then the brake. Where the cart comes to rest inside the hold, the brake has no part.
abbrev pub fall_formula : (hold step b v : ℕ) → RunOut
fall_formula hold step b v =
    cond (nat_le v (hold * step)) (stop_formula v step)
    (hold_formula hold ((v - hold * step) + step) v (v - hold * step) b v)
