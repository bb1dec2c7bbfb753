-- The world of a gate and a cart: what may happen in it, and what is then sure. Assumes nothing.
use Rattle.std.specs.Prelude.{◌≡◌, ℕ, suc, ◌+◌, ◌-◌, ◌*◌, ◌<◌, ◌≤◌, max, cond, ◌⊎◌, List, [], ◌∷◌, ℤ, pos, ◌+ℤ◌, neg_ℤ, ◌≤ℤ◌, Some, None, Option, ◌==◌, unsigned_abs}
use Rattle.std.specs.List.{ContainsAt, AllByRecursion}
use Rattle.refusals.specs.Refusals.{Refusal}
use Rattle.plates.specs.declared.plates.Plate.{Plate}
use Rattle.runout.specs.Speeds.{changed}
use Rattle.claims.specs.declared.boxes.Claim.{Claim}
use Rattle.claims.specs.Blocking.{Covers}
use Rattle.claims.specs.Limits.{Sound}
use Rattle.gate.specs.declared.parts.Curve.{Curve}
use Rattle.gate.specs.declared.parts.Curve.TheVariants.{Straight, Arc}
use Rattle.gate.specs.declared.parts.Measurement.{Measurement}
use Rattle.gate.specs.declared.faults.TickFault.TheVariants.{Blocked}
use Rattle.gate.specs.declared.gates.Gate.{Gate}
use Rattle.gate.specs.Faults.{tick_fault}
use Rattle.gate.specs.Checks.{Tick}
use Rattle.gate.specs.Gates.{tick_refused, tick_order, after_tick, after_release}

-- a and b differ by at most n
pub record Near (n : ℕ) (a b : ℤ) : Type 0 where
  pub under : a ≤ℤ (b +ℤ pos n)
  pub over : b ≤ℤ (a +ℤ pos n)

-- a point of whole numbers
pub record Point : Type 0 where
  pub x : ℤ
  pub y : ℤ

-- A cart: its true place and speed, and its drive: an order, and for how many ms it is still held.
pub record Cart : Type 0 where
  pub x : ℤ
  pub y : ℤ
  pub v : ℕ
  pub order : ℤ
  pub count : ℕ

-- what the drive uses: its order while the count is above 0, and else the brake
abbrev pub used : Plate → Cart → ℤ
used p c = cond (c.count == 0) (neg_ℤ (pos p.brake)) c.order

-- One ms, from the cart c to the cart c': the new speed is from 0 to the larger of 0 and v + what the drive uses + drive error; the place changes on each axis by at most the larger of the two speeds; the count falls by one unless it is 0.
pub record Millisecond (p : Plate) (c c' : Cart) : Type 0 where
  pub speed : c'.v ≤ changed c.v (used p c +ℤ pos p.drive_error)
  pub place_x : Near (max c.v c'.v) c.x c'.x
  pub place_y : Near (max c.v c'.v) c.y c'.y
  pub order : c'.order ≡ c.order
  pub count : c'.count ≡ c.count - 1

-- the cart moves in that ms
abbrev pub Moves : Cart → Cart → Type 0
Moves c c' = (0 < c.v) ⊎ (0 < c'.v)

-- a measurement is within the errors of the truth
pub record Measures (p : Plate) (q : Measurement) (c : Cart) : Type 0 where
  pub place_x : Near p.place_error q.x c.x
  pub place_y : Near p.place_error q.y c.y
  pub speed : Near p.speed_error q.speed (pos c.v)

-- the cart's square and a point have a place in common
pub record Touches (p : Plate) (c : Cart) (point : Point) : Type 0 where
  pub on_x : Near p.half_side c.x point.x
  pub on_y : Near p.half_side c.y point.y

-- a point, by its place at each ms, has kept a claim of a tick at the ms from until the ms to: at every i ms after the tick it is where the claim says
abbrev pub Keeps : Claim → (from to : ℕ) → (ℕ → Point) → Type 0
Keeps claim from to point = (i : ℕ) → from + i ≤ to → Covers claim i (point (from + i)).x (point (from + i)).y

-- What can happen: a tick, a release, a millisecond.
pub data Happening : Type 0 where
  tick : Tick → Happening
  release : Measurement → Happening
  millisecond : Happening

-- an accepted tick, and when it came
pub record Accepted : Type 0 where
  pub at : ℕ
  pub tick : Tick

-- the gate and the cart after so many ms, and the tick last accepted
pub record World : Type 0 where
  pub gate : Gate
  pub cart : Cart
  pub clock : ℕ
  pub last : Option Accepted

-- a drive that is set to an order for so many ms
abbrev pub driven : Cart → ℤ → ℕ → Cart
driven c order count = record { x = c.x; y = c.y; v = c.v; order = order; count = count }

-- A gate and a fresh cart of its plate, parked anywhere.
abbrev pub parked : Gate → ℤ → ℤ → World
parked g x y = record { gate = g; cart = record { x = x; y = y; v = 0; order = neg_ℤ (pos g.plate.brake); count = 0 }; clock = 0; last = None }

-- One thing that happens, from a world to the next: an accepted tick sets its acceleration for the hold, and was measured within the errors; a refused tick sets the brake; a release sets nothing; in a millisecond the cart changes as `Millisecond` allows. A tick is accepted exactly when the gate refuses nothing.
pub data Happens (w : World) : Happening → World → Type 0 where
  accepted : (t : Tick) → tick_refused w.gate t ≡ None → Measures w.gate.plate t.measured w.cart → Happens w (tick t) (record { gate = after_tick w.gate t; cart = driven w.cart t.proposal.acceleration w.gate.plate.hold; clock = w.clock; last = Some (record { at = w.clock; tick = t }) })
  refused : (t : Tick) (r : Refusal) → tick_refused w.gate t ≡ Some r → Happens w (tick t) (record { gate = after_tick w.gate t; cart = driven w.cart (neg_ℤ (pos w.gate.plate.brake)) 0; clock = w.clock; last = w.last })
  released : (q : Measurement) → Happens w (release q) (record { gate = after_release w.gate q; cart = w.cart; clock = w.clock; last = w.last })
  passed : (c : Cart) → Millisecond w.gate.plate w.cart c → Happens w millisecond (record { gate = w.gate; cart = c; clock = suc w.clock; last = w.last })

-- A run: a list of ticks, releases and milliseconds, the newest first, from a gate and a parked cart, and a world to which it may lead.
pub data Run (g : Gate) : List Happening → World → Type 0 where
  start : (x y : ℤ) → Run g [] (parked g x y)
  next : {hs : List Happening} {w w' : World} {h : Happening} → Run g hs w → Happens w h w' → Run g (h ∷ hs) w'

-- on an arc, a speed is within turn limit × the radius's size
abbrev pub Turns : Plate → Curve → ℕ → Type 0
Turns p Straight v = Unit {0}
Turns p (Arc radius) v = v ≤ p.turn_limit * unsigned_abs radius

-- the curve of the tick last accepted; before the first, straight
abbrev pub curve_of : Option Accepted → Curve
curve_of None = Straight
curve_of (Some a) = a.tick.proposal.curve

-- a speed is within the plate's top speed and, on that curve, within the turn limit
pub record SpeedKept (p : Plate) (last : Option Accepted) (v : ℕ) : Type 0 where
  pub top : v ≤ p.top_speed
  pub turn : Turns p (curve_of last) v

-- no point that until now has kept a claim of the tick last accepted touches the cart
abbrev pub Untouched : Plate → Option Accepted → Cart → (clock : ℕ) → Type 0
Untouched p None c clock = Unit {0}
Untouched p (Some a) c clock =
    (claim : Claim) → ContainsAt a.tick.claims claim → (point : ℕ → Point) → Keeps claim a.at clock point → Touches p c (point clock) → ⊥

-- A world that justifies a refusal: it begins with a true place and speed within the errors, obeys the proposal for the hold and then brakes, and at the end of an ms in which the cart moves it touches a point that keeps the claim.
pub record Collision (p : Plate) (t : Tick) (claim : Claim) : Type 0 where
  pub cart : ℕ → Cart
  pub point : ℕ → Point
  pub n : ℕ
  pub measured : Measures p t.measured (cart 0)
  pub order : (cart 0).order ≡ t.proposal.acceleration
  pub count : (cart 0).count ≡ p.hold
  pub passes : (i : ℕ) → Millisecond p (cart i) (cart (suc i))
  pub keeps : Keeps claim 0 (suc n) point
  pub moves : Moves (cart n) (cart (suc n))
  pub touches : Touches p (cart (suc n)) (point (suc n))

-- a tick that is refused as blocked by a claim has such a world
abbrev pub Justified : Gate → Tick → Type 0
Justified g t = (claim : Claim) → tick_refused g t ≡ Some (tick_fault (Blocked claim)) → Collision g.plate t claim

-- What is sure in every run from a gate and a parked cart of its plate.
pub record Guarded (g : Gate) : Type 0 where
  -- in no ms in which it moves does the cart touch, at its beginning or its end, a point that until then has kept a claim of the tick last accepted
  pub untouched : (hs : List Happening) (w : World) (c : Cart) → Run g hs w → Millisecond g.plate w.cart c → Moves w.cart c →
      Untouched g.plate w.last w.cart w.clock × Untouched g.plate w.last c (suc w.clock)
  -- at the beginning and the end of every ms its speed is within its limits
  pub speeds : (hs : List Happening) (w : World) (c : Cart) → Run g hs w → Millisecond g.plate w.cart c →
      SpeedKept g.plate w.last w.cart.v × SpeedKept g.plate w.last c.v
  -- a tick is refused as blocked only with cause
  pub justified : (hs : List Happening) (w : World) → Run g hs w → (t : Tick) → AllByRecursion Sound t.claims → Justified w.gate t
  -- the order that a tick sets in the drive is the acceleration that it answers
  pub told : (hs : List Happening) (w w' : World) (t : Tick) → Run g hs w → Happens w (tick t) w' → w'.cart.order ≡ (tick_order w.gate t).acceleration
  -- the plate stays the gate's
  pub plate : (hs : List Happening) (w : World) → Run g hs w → w.gate.plate ≡ g.plate
  -- the law is not empty: in every world of a run everything can happen next, an accepted tick where its measurement is within the errors
  pub ticks : (hs : List Happening) (w : World) → Run g hs w → (t : Tick) → (tick_refused w.gate t ≡ None → Measures g.plate t.measured w.cart) → (w' : World) × Happens w (tick t) w'
  pub releases : (hs : List Happening) (w : World) → Run g hs w → (q : Measurement) → (w' : World) × Happens w (release q) w'
  pub passes : (hs : List Happening) (w : World) → Run g hs w → (w' : World) × Happens w millisecond w'
