-- The state in which a refused tick leaves an open gate. Assumes nothing.
use Rattle.std.proofs.Common.{◌≡◌, Some, ap, arith}
use Rattle.plates.specs.declared.plates.Plate.{Plate}
use Rattle.gate.specs.declared.faults.TickFault.{TickFault}
use Rattle.gate.specs.Faults.{tick_fault}
use Rattle.gate.specs.declared.parts.State.{State}
use Rattle.gate.specs.declared.parts.State.TheVariants.{Open}
use Rattle.gate.specs.declared.gates.Gate.{Gate}
use Rattle.gate.specs.Gates.{tripped, tripped_by, after_tick}
use Rattle.gate.specs.Checks.{Tick, blocked, run_out_checked, open_refused}

-- a measurement out of its ranges is the only reason that trips, and it is the fault
trips : (p : Plate) (t : Tick) (fault : TickFault) → open_refused p t ≡ Some (tick_fault fault) → tripped Open t.measured ≡ tripped_by fault
unfolding open_refused run_out_checked blocked tripped_by
trips p t fault h = grind arith

pub left_open : (g : Gate) (t : Tick) (fault : TickFault) → g.state ≡ Open → open_refused g.plate t ≡ Some (tick_fault fault) → after_tick g t ≡ record { plate = g.plate; curve = g.curve; ticket = g.ticket; state = tripped_by fault }
left_open g t fault at h =
    rw (at, h) (ap (λ (s : State). record { plate = g.plate; curve = g.curve; ticket = g.ticket; state = s }) (trips g.plate t fault h))
