-- The checks of a tick at an open gate, in their order, and the ticket that it gets where all pass. Assumes nothing.
use Rattle.std.specs.Prelude.{ℕ, ◌+◌, ◌*◌, Bool, true, cond, ◌&&◌, List, [], ◌∷◌, ℤ, pos, ◌+ℤ◌, ◌-ℤ◌, neg_ℤ, Some, None, Option, ◌==◌, int_le, nat_le, unsigned_abs}
use Rattle.std.specs.Option.{option_map}
use Rattle.refusals.specs.Refusals.{Refusal}
use Rattle.refusals.specs.Answers.{first_of, or_else}
use Rattle.plates.specs.declared.plates.Plate.{Plate}
use Rattle.runout.specs.declared.run_outs.RunOut.{RunOut}
use Rattle.runout.specs.declared.faults.RunOutFault.{RunOutFault}
use Rattle.runout.specs.declared.faults.RunOutFault.TheVariants.{Speed as Fast, Acceleration as Strong}
use Rattle.runout.specs.RunOuts.{run_out}
use Rattle.claims.specs.declared.boxes.Claim.{Claim}
use Rattle.claims.specs.declared.boxes.Reach.{Reach}
use Rattle.surroundings.specs.Asking.{first_blocking}
use Rattle.gate.specs.declared.parts.Curve.{Curve}
use Rattle.gate.specs.declared.parts.Curve.TheVariants.{Straight, Arc}
use Rattle.gate.specs.declared.parts.Order.{Order}
use Rattle.gate.specs.declared.parts.Measurement.{Measurement}
use Rattle.gate.specs.declared.parts.MeasurementField.{MeasurementField}
use Rattle.gate.specs.declared.parts.MeasurementField.TheVariants.{X, Y, Speed}
use Rattle.gate.specs.declared.parts.Ticket.{Ticket}
use Rattle.gate.specs.declared.faults.TickFault.{TickFault}
use Rattle.gate.specs.declared.faults.TickFault.TheVariants.{Measured, Acceleration, Radius, TopSpeed, TurnLimit, Blocked}
use Rattle.gate.specs.Faults.{tick_fault}

-- what a tick is given; its claims are the list that its surroundings mean
pub record Tick : Type 0 where
  pub measured : Measurement
  pub proposal : Order
  pub claims : List Claim

abbrev from_to : ℤ → ℤ → ℤ → Bool
from_to low high z = int_le low z && int_le z high

-- a coordinate is within ±10^12
abbrev pub placed : ℤ → Bool
placed z = from_to (neg_ℤ (pos 1000000000000)) (pos 1000000000000) z

-- The first field of a measurement out of its range, if any.
abbrev pub bad_field : Measurement → Option MeasurementField
bad_field q =
    cond (placed q.x)
    (cond (placed q.y) (cond (from_to (pos 0) (pos 10000000) q.speed) None (Some Speed)) (Some Y))
    (Some X)

-- the radius is neither 0 nor larger than 1,000,000 in size
abbrev pub radius_allowed : Curve → Bool
radius_allowed Straight = true
radius_allowed (Arc radius) = nat_le 1 (unsigned_abs radius) && nat_le (unsigned_abs radius) 1000000

-- on an arc, a speed is at most turn limit × the radius's size
abbrev pub turn_allowed : Plate → Curve → ℕ → Bool
turn_allowed p Straight v = true
turn_allowed p (Arc radius) v = nat_le v (p.turn_limit * unsigned_abs radius)

-- The reach of a run-out: the place ± (half side + place error + travel) on both axes, over its time.
unfoldable pub reach_from : Plate → Measurement → RunOut → Reach
reach_from p q out =
    let s : ℕ = p.half_side + p.place_error + out.travel in
    record {
      x = record { low = q.x -ℤ pos s; high = q.x +ℤ pos s };
      y = record { low = q.y -ℤ pos s; high = q.y +ℤ pos s };
      time = out.time;
    }

-- what turns the run-out down is a fault of the tick
abbrev pub of_run_out : RunOutFault → TickFault
of_run_out Fast = Measured Speed
of_run_out Strong = Acceleration

-- The refusal of a reach by the claims around, if its time is at least 1 and one blocks it.
unfoldable pub blocked : List Claim → Reach → Option Refusal
blocked claims reach = cond (reach.time == 0) None (option_map (λ claim. tick_fault (Blocked claim)) (first_blocking claims reach))

-- The first refusal of the checks that follow the run-out.
unfoldable pub run_out_checked : Plate → Tick → RunOut → Option Refusal
run_out_checked p t out =
    or_else
    (first_of (
    (radius_allowed t.proposal.curve, tick_fault Radius) ∷
    (nat_le out.peak p.top_speed, tick_fault TopSpeed) ∷
    (turn_allowed p t.proposal.curve out.peak, tick_fault TurnLimit) ∷ []))
    (blocked t.claims (reach_from p t.measured out))

-- The first refusal of a tick at an open gate: its measurement, its acceleration, and the rest by its run-out.
unfoldable pub open_refused : Plate → Tick → Option Refusal
open_refused p t =
    or_else (option_map (λ field. tick_fault (Measured field)) (bad_field t.measured))
    (or_else (first_of ((from_to (neg_ℤ (pos p.brake)) (pos p.pull) t.proposal.acceleration, tick_fault Acceleration) ∷ []))
    (run_out_checked p t (run_out p t.measured.speed t.proposal.acceleration)))

-- The ticket: the acceleration, and the reach with its time.
abbrev pub ticket_from : Plate → Tick → RunOut → Ticket
ticket_from p t out = record { acceleration = t.proposal.acceleration; reach = reach_from p t.measured out }

abbrev pub ticket_of : Plate → Tick → Ticket
ticket_of p t = ticket_from p t (run_out p t.measured.speed t.proposal.acceleration)
