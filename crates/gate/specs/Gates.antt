-- What a tick and a release answer, and the gate that each leaves. Assumes nothing.
use Rattle.std.specs.Prelude.{◌≡◌, List, [], ◌∷◌, pos, neg_ℤ, Some, None, Ok, Err, Option, Result, int_le}
use Rattle.std.specs.Option.{option_map}
use Rattle.refusals.specs.Refusals.{Refusal}
use Rattle.refusals.specs.Answers.{first_of, or_else, Answers}
use Rattle.plates.specs.declared.plates.Plate.{Plate}
use Rattle.claims.specs.declared.boxes.Claim.{Claim}
use Rattle.gate.specs.declared.parts.Curve.TheVariants.{Straight}
use Rattle.gate.specs.declared.parts.Order.{Order}
use Rattle.gate.specs.declared.parts.Measurement.{Measurement}
use Rattle.gate.specs.declared.parts.MeasurementField.{MeasurementField}
use Rattle.gate.specs.declared.parts.State.{State}
use Rattle.gate.specs.declared.parts.State.TheVariants.{Open, Tripped as TrippedBy}
use Rattle.gate.specs.declared.parts.TickRefusal.{TickRefusal}
use Rattle.gate.specs.declared.parts.Tick.{Tick as GivenTick}
use Rattle.gate.specs.declared.parts.Event.{Event}
use Rattle.gate.specs.declared.parts.Event.TheVariants.{Tick as TickEvent, Release}
use Rattle.gate.specs.declared.parts.Answer.{Answer}
use Rattle.gate.specs.declared.parts.Answer.TheVariants.{Tick as TickAnswer, Release as ReleaseAnswer}
use Rattle.gate.specs.declared.faults.TickFault.{TickFault}
use Rattle.gate.specs.declared.faults.TickFault.TheVariants.{Tripped, Measured as OutOfRange}
use Rattle.gate.specs.declared.faults.ReleaseFault.TheVariants.{NotTripped, Measured, Moving}
use Rattle.gate.specs.declared.gates.Gate.{Gate}
use Rattle.gate.specs.Faults.{tick_fault, release_fault}
use Rattle.gate.specs.Checks.{Tick, bad_field, open_refused, ticket_of}

-- A fresh gate: straight, no ticket, open.
abbrev pub fresh : Plate → Gate
fresh p = record { plate = p; curve = Straight; ticket = None; state = Open }

-- The refusal of a tick, if any: a tripped gate refuses every tick, and an open one by its checks.
abbrev pub refused_in : State → Plate → Tick → Option Refusal
refused_in Open p t = open_refused p t
refused_in (TrippedBy field) p t = Some (tick_fault Tripped)

abbrev pub tick_refused : Gate → Tick → Option Refusal
tick_refused g t = refused_in g.state g.plate t

-- the order of a refused tick: the brake, on the curve in force
abbrev pub braking : Gate → Order
braking g = record { acceleration = neg_ℤ (pos g.plate.brake); curve = g.curve }

-- What a tick orders: the proposal where nothing is refused, and else the brake.
abbrev pub order_by : Gate → Tick → Option Refusal → Order
order_by g t None = t.proposal
order_by g t (Some refusal) = braking g

abbrev pub tick_order : Gate → Tick → Order
tick_order g t = order_by g t (tick_refused g t)

-- a measurement that is out of its ranges trips an open gate, by its first such field
abbrev tripped_at : Option MeasurementField → State
tripped_at None = Open
tripped_at (Some field) = TrippedBy field

abbrev pub tripped : State → Measurement → State
tripped Open q = tripped_at (bad_field q)
tripped (TrippedBy field) q = TrippedBy field

-- the state in which a fault leaves an open gate: it is tripped by a field of a measurement, and by nothing else
unfoldable pub tripped_by : TickFault → State
tripped_by (OutOfRange field) = TrippedBy field
tripped_by _ = Open

-- The gate that a tick leaves: with the proposal's curve and a ticket, or unchanged but that it may have tripped.
abbrev pub left_by : Gate → Tick → Option Refusal → Gate
left_by g t None = record { plate = g.plate; curve = t.proposal.curve; ticket = Some (ticket_of g.plate t); state = Open }
left_by g t (Some refusal) = record { plate = g.plate; curve = g.curve; ticket = g.ticket; state = tripped g.state t.measured }

abbrev pub after_tick : Gate → Tick → Gate
after_tick g t = left_by g t (tick_refused g t)

-- What a tick answers: its order where nothing is refused, and else a fault that says the refusal, with its order.
abbrev pub TickAnswers : Gate → Tick → Result Order TickRefusal → Type 0
TickAnswers g t (Ok order) = (tick_refused g t ≡ None) × (order ≡ tick_order g t)
TickAnswers g t (Err e) = (tick_refused g t ≡ Some (tick_fault e.fault)) × (e.order ≡ tick_order g t)

-- the refusal of a release of a tripped gate, if any: the measurement is out of its ranges; the speed is above the speed error
abbrev pub opening_refused : Plate → Measurement → Option Refusal
opening_refused p q =
    or_else (option_map (λ field. release_fault (Measured field)) (bad_field q))
    (first_of ((int_le q.speed (pos p.speed_error), release_fault Moving) ∷ []))

-- The refusal of a release, if any: the gate is not tripped, or may not be opened.
abbrev pub release_in : State → Plate → Measurement → Option Refusal
release_in Open p q = Some (release_fault NotTripped)
release_in (TrippedBy field) p q = opening_refused p q

abbrev pub release_refused : Gate → Measurement → Option Refusal
release_refused g q = release_in g.state g.plate q

-- The gate that a release leaves: open, or unchanged.
abbrev pub opened_by : Gate → Option Refusal → Gate
opened_by g None = record { plate = g.plate; curve = g.curve; ticket = g.ticket; state = Open }
opened_by g (Some refusal) = g

abbrev pub after_release : Gate → Measurement → Gate
after_release g q = opened_by g (release_refused g q)

-- a tick in clauses
abbrev pub asked : Measurement → Order → List Claim → Tick
asked q o cs = record { measured = q; proposal = o; claims = cs }

-- the tick of an event: its claims are the list that its surroundings mean
abbrev pub meant : {S : Type 0} → (S → List Claim) → GivenTick S → Tick
meant claims t = asked t.measured t.proposal (claims t.around.now)

-- What comes of an event, as an answer and as a gate.
abbrev pub Handled : {S : Type 0} → (S → List Claim) → Gate → Event S → Answer → Type 0
Handled claims g (TickEvent t) (TickAnswer r) = TickAnswers g (meant claims t) r
Handled claims g (TickEvent t) (ReleaseAnswer r) = ⊥
Handled claims g (Release q) (TickAnswer r) = ⊥
Handled claims g (Release q) (ReleaseAnswer r) = Answers release_fault (release_refused g q) (λ _. Unit {0}) r

abbrev pub left : {S : Type 0} → (S → List Claim) → Gate → Event S → Gate
left claims g (TickEvent t) = after_tick g (meant claims t)
left claims g (Release q) = after_release g q
