-- The two kinds of thing: which rows are refused, what a row counts as, and what it claims. Assumes nothing.
use Rattle.std.specs.Prelude.{ℕ, ◌+◌, ◌*◌, ◌≤◌, Bool, cond, ◌&&◌, List, [], ◌∷◌, ℤ, pos, ◌+ℤ◌, ◌-ℤ◌, neg_ℤ, ◌≤ℤ◌, is_some, Option, int_le, nat_le}
use Rattle.refusals.specs.Refusals.{Refusal}
use Rattle.refusals.specs.Answers.{first_of}
use Rattle.claims.specs.declared.boxes.Span.{Span}
use Rattle.claims.specs.declared.boxes.Claim.{Claim}
use Rattle.claims.specs.declared.faults.ThingFault.TheVariants.{OutOfRange, LowAboveHigh}
use Rattle.claims.specs.declared.fields.ThingField.TheVariants.{OfFixture, OfMover}
use Rattle.claims.specs.declared.fields.FixtureField.TheVariants.{LowX, HighX, LowY, HighY}
use Rattle.claims.specs.declared.fields.MoverField.TheVariants.{X, Y, HalfSide, Error, Speed, Age}
use Rattle.claims.specs.declared.fixtures.Fixture.{Fixture}
use Rattle.claims.specs.declared.movers.Mover.{Mover}
use Rattle.claims.specs.Faults.{thing_fault}

-- z lies within ±2×10^12
abbrev pub near : ℤ → Bool
near z = int_le (neg_ℤ (pos 2000000000000)) z && int_le z (pos 2000000000000)

-- low is at most high
abbrev pub ordered : Span → Bool
ordered s = int_le s.low s.high

-- The things whose every field is the allowed value nearest 0, which here is 0 itself.
abbrev zero_span : Span
zero_span = record { low = pos 0; high = pos 0 }

abbrev pub zero_fixture : Fixture
zero_fixture = record { label = 0; x = zero_span; y = zero_span }

abbrev pub zero_mover : Mover
zero_mover = record { label = 0; x = pos 0; y = pos 0; half_side = 0; error = 0; speed = 0; age = 0 }

-- The checks of a fixture, in their order. Its fields are label, low x, high x, low y, high y; every label is allowed.
abbrev pub fixture_checks : Fixture → List (Bool × Refusal)
fixture_checks f =
    (near f.x.low, thing_fault (OutOfRange (OfFixture LowX))) ∷
    (near f.x.high, thing_fault (OutOfRange (OfFixture HighX))) ∷
    (near f.y.low, thing_fault (OutOfRange (OfFixture LowY))) ∷
    (near f.y.high, thing_fault (OutOfRange (OfFixture HighY))) ∷
    (ordered f.x && ordered f.y, thing_fault LowAboveHigh) ∷ []

abbrev pub fixture_refused : Fixture → Option Refusal
fixture_refused f = first_of (fixture_checks f)

-- What a row counts as: itself, or where making it is refused, the fixture whose every field is the allowed value nearest 0.
abbrev pub fixture_counted : Fixture → Fixture
fixture_counted f = cond (is_some (fixture_refused f)) zero_fixture f

-- The claim of a row: the box of what it counts as, at speed 0.
abbrev pub fixture_claim : Fixture → Claim
fixture_claim f = let t = fixture_counted f in record { label = t.label; x = t.x; y = t.y; speed = 0 }

-- The checks of a mover, in their order. Its fields are label, centre x, centre y, half side, error, speed, age; every label is allowed.
abbrev pub mover_checks : Mover → List (Bool × Refusal)
mover_checks m =
    (near m.x, thing_fault (OutOfRange (OfMover X))) ∷
    (near m.y, thing_fault (OutOfRange (OfMover Y))) ∷
    (nat_le m.half_side 10000000000, thing_fault (OutOfRange (OfMover HalfSide))) ∷
    (nat_le m.error 10000000000, thing_fault (OutOfRange (OfMover Error))) ∷
    (nat_le m.speed 20000000, thing_fault (OutOfRange (OfMover Speed))) ∷
    (nat_le m.age 1000, thing_fault (OutOfRange (OfMover Age))) ∷ []

abbrev pub mover_refused : Mover → Option Refusal
mover_refused m = first_of (mover_checks m)

-- What a row counts as: itself, or where making it is refused, the mover whose every field is the allowed value nearest 0.
abbrev pub mover_counted : Mover → Mover
mover_counted m =
    cond (is_some (mover_refused m)) zero_mover m

-- the numbers of a mover are in their ranges
pub record MoverRanged (m : Mover) : Type 0 where
  pub x_least : neg_ℤ (pos 2000000000000) ≤ℤ m.x
  pub x_most : m.x ≤ℤ pos 2000000000000
  pub y_least : neg_ℤ (pos 2000000000000) ≤ℤ m.y
  pub y_most : m.y ≤ℤ pos 2000000000000
  pub half_side : m.half_side ≤ 10000000000
  pub error : m.error ≤ 10000000000
  pub speed : m.speed ≤ 20000000
  pub age : m.age ≤ 1000

-- how far the box of a mover reaches from its centre: half side, error, and what it may have moved since it was seen
abbrev pub half_box : Mover → ℕ
half_box m = m.half_side + m.error + m.speed * m.age

-- all that lies within n of z
abbrev pub around : ℤ → ℕ → Span
around z n = record { low = z -ℤ pos n; high = z +ℤ pos n }

-- The claim of a row: the centre of what it counts as, by half-box on every side, at its speed.
abbrev pub mover_claim : Mover → Claim
mover_claim m =
    let t = mover_counted m in
    record { label = t.label; x = around t.x (half_box t); y = around t.y (half_box t); speed = t.speed }
