-- The steps of an open gate's checks: what a measurement out of its ranges comes to, the reach as the machine makes it, and what the run-out's refusal comes to. The check finds these by itself now. Assumes nothing.
use Rattle.std.proofs.Common.{◌≡◌, ℕ, ◌+◌, ◌^◌, ◌<◌, ◌≤◌, Bool, true, false, cond, ◌&&◌, ℤ, pos, ◌+ℤ◌, ◌-ℤ◌, neg_ℤ, ◌≤ℤ◌, Some, None, refl, ap, ◌∙◌, arith, w64, to_z, of_z}
use lib.Signed.{le_z}
use Rattle.std.proofs.lemmas.Int.{ints}
use Rattle.refusals.specs.Refusals.{Refusal}
use Rattle.plates.specs.declared.plates.Plate.{Plate}
use Rattle.runout.specs.declared.faults.RunOutFault.{RunOutFault}
use Rattle.runout.specs.declared.faults.RunOutFault.TheVariants.{Speed, Acceleration as Weak}
use Rattle.runout.specs.declared.run_outs.RunOut.{RunOut}
use Rattle.runout.specs.Faults.{run_out_fault}
use Rattle.runout.specs.RunOuts.{run_out_refused, run_out}
use Rattle.claims.specs.declared.boxes.Reach.{Reach}
use Rattle.gate.specs.declared.faults.TickFault.TheVariants.{Measured, Acceleration}
use Rattle.gate.specs.declared.parts.Measurement.{Measurement}
use Rattle.gate.specs.declared.parts.MeasurementField.{MeasurementField}
use Rattle.gate.specs.Faults.{tick_fault}
use Rattle.gate.specs.Checks.{Tick, bad_field, reach_from, of_run_out, run_out_checked, open_refused}

-- a measurement in its ranges
pub x_in : (q : Measurement) → bad_field q ≡ None → (neg_ℤ (pos 1000000000000) ≤ℤ q.x) × (q.x ≤ℤ pos 1000000000000)
x_in q h = (grind (arith, ints), grind (arith, ints))

pub y_in : (q : Measurement) → bad_field q ≡ None → (neg_ℤ (pos 1000000000000) ≤ℤ q.y) × (q.y ≤ℤ pos 1000000000000)
y_in q h = (grind (arith, ints), grind (arith, ints))

-- what the machine makes of a place less or plus a length
pub less : (z : ℤ) (n : ℕ) → neg_ℤ (pos 1000000000000) ≤ℤ z → z ≤ℤ pos 1000000000000 → n ≤ 2 ^ 61 → to_z w64 (of_z w64 (to_z w64 (of_z w64 z) -ℤ to_z w64 n)) ≡ z -ℤ pos n
less z n h k l = omega (arith, ints)

pub plus : (z : ℤ) (n : ℕ) → neg_ℤ (pos 1000000000000) ≤ℤ z → z ≤ℤ pos 1000000000000 → n ≤ 2 ^ 61 → to_z w64 (of_z w64 (to_z w64 (of_z w64 z) +ℤ to_z w64 n)) ≡ z +ℤ pos n
plus z n h k l = omega (arith, ints)

-- the reach that the machine makes with s on every side
pub reach_made : (p : Plate) (q : Measurement) (out : RunOut) (s : ℕ) → bad_field q ≡ None → out.travel < 2 ^ 53 → s ≡ p.half_side + p.place_error + out.travel →
    ◌≡◌ {A = Reach} (record {
      x = record { low = to_z w64 (of_z w64 (to_z w64 (of_z w64 q.x) -ℤ to_z w64 s)); high = to_z w64 (of_z w64 (to_z w64 (of_z w64 q.x) +ℤ to_z w64 s)) };
      y = record { low = to_z w64 (of_z w64 (to_z w64 (of_z w64 q.y) -ℤ to_z w64 s)); high = to_z w64 (of_z w64 (to_z w64 (of_z w64 q.y) +ℤ to_z w64 s)) };
      time = out.time;
    }) (reach_from p q out)
unfolding reach_from
reach_made p q out s inside travel side =
    let small : s ≤ 2 ^ 61 = omega (arith, p.half_side_ranged, p.place_error_ranged) in
    let x = x_in q inside in
    let y = y_in q inside in
    let lx = less q.x s x.0 x.1 small ∙ ap (λ n. q.x -ℤ pos n) side in
    let hx = plus q.x s x.0 x.1 small ∙ ap (λ n. q.x +ℤ pos n) side in
    let ly = less q.y s y.0 y.1 small ∙ ap (λ n. q.y -ℤ pos n) side in
    let hy = plus q.y s y.0 y.1 small ∙ ap (λ n. q.y +ℤ pos n) side in
    λ i. record { x = record { low = lx i; high = hx i }; y = record { low = ly i; high = hy i }; time = out.time }

-- a field out of its range is the refusal
pub measured_refused : (p : Plate) (t : Tick) (field : MeasurementField) → bad_field t.measured ≡ Some field → open_refused p t ≡ Some (tick_fault (Measured field))
unfolding open_refused
measured_refused p t field h = rw h

-- the run-out turns an acceleration down, and nothing else of a measurement in its ranges
weak : (m a : Bool) → cond m (cond a None (Some (run_out_fault Weak))) (Some (run_out_fault Speed)) ≡ Some (run_out_fault Weak) → a ≡ false
weak true false h = refl
weak true true h = let z : ◌≡◌ {A = ℕ} 0 1 = cc in absurd (omega arith)
weak false a h =
    let same : run_out_fault Weak ≡ run_out_fault Speed = cc in
    let z : ◌≡◌ {A = ℕ} 33 32 = ap (λ (r : Refusal). r.number) same in
    absurd (omega arith)

sound : (m a : Bool) → cond m (cond a None (Some (run_out_fault Weak))) (Some (run_out_fault Speed)) ≡ None → a ≡ true
sound true true h = refl
sound true false h = let z : ◌≡◌ {A = ℕ} 0 1 = cc in absurd (omega arith)
sound false a h = let z : ◌≡◌ {A = ℕ} 0 1 = cc in absurd (omega arith)

acceleration_refused : (p : Plate) (t : Tick) → bad_field t.measured ≡ None → run_out_refused p t.measured.speed t.proposal.acceleration ≡ Some (run_out_fault Weak) → open_refused p t ≡ Some (tick_fault Acceleration)
unfolding open_refused
acceleration_refused p t h k = let a = weak (le_z (pos 0) t.measured.speed && le_z t.measured.speed (pos 10000000)) (le_z (neg_ℤ (pos p.brake)) t.proposal.acceleration && le_z t.proposal.acceleration (pos p.pull)) k in rw (h, a)

in_speed : (q : Measurement) → bad_field q ≡ None → (le_z (pos 0) q.speed && le_z q.speed (pos 10000000)) ≡ true
in_speed q h = grind (arith, ints)

-- what turns the run-out down turns the tick down, as the gate says it
pub run_out_turned : (p : Plate) (t : Tick) (fault : RunOutFault) → bad_field t.measured ≡ None → run_out_refused p t.measured.speed t.proposal.acceleration ≡ Some (run_out_fault fault) → open_refused p t ≡ Some (tick_fault (of_run_out fault))
run_out_turned p t Weak h k = acceleration_refused p t h k
run_out_turned p t Speed h k = absurd (fast (le_z (pos 0) t.measured.speed && le_z t.measured.speed (pos 10000000)) (le_z (neg_ℤ (pos p.brake)) t.proposal.acceleration && le_z t.proposal.acceleration (pos p.pull)) (in_speed t.measured h) k)
  where
    fast : (m a : Bool) → m ≡ true → cond m (cond a None (Some (run_out_fault Weak))) (Some (run_out_fault Speed)) ≡ Some (run_out_fault Speed) → ⊥
    fast true true e h = let z : ◌≡◌ {A = ℕ} 0 1 = cc in omega arith
    fast true false e h =
        let same : run_out_fault Weak ≡ run_out_fault Speed = cc in
        let z : ◌≡◌ {A = ℕ} 33 32 = ap (λ (r : Refusal). r.number) same in
        omega arith
    fast false a e h = let z : ◌≡◌ {A = ℕ} 0 1 = cc in omega arith

-- what the run-out does not turn down comes to the checks after it
pub run_out_next : (p : Plate) (t : Tick) → bad_field t.measured ≡ None → run_out_refused p t.measured.speed t.proposal.acceleration ≡ None → open_refused p t ≡ run_out_checked p t (run_out p t.measured.speed t.proposal.acceleration)
unfolding open_refused
run_out_next p t h k = let a = sound (le_z (pos 0) t.measured.speed && le_z t.measured.speed (pos 10000000)) (le_z (neg_ℤ (pos p.brake)) t.proposal.acceleration && le_z t.proposal.acceleration (pos p.pull)) k in rw (h, a)
