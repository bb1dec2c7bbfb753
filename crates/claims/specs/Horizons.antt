-- What is claimed of everything outside the rectangle that is seen. Assumes nothing.
use Rattle.std.specs.Prelude.{ℕ, Bool, ◌&&◌, List, [], ◌∷◌, pos, ◌+ℤ◌, ◌-ℤ◌, neg_ℤ, Option, nat_le}
use Rattle.refusals.specs.Refusals.{Refusal}
use Rattle.refusals.specs.Answers.{first_of}
use Rattle.claims.specs.declared.boxes.Span.{Span}
use Rattle.claims.specs.declared.boxes.Claim.{Claim}
use Rattle.claims.specs.declared.faults.ThingFault.TheVariants.{OutOfRange, LowAboveHigh}
use Rattle.claims.specs.declared.fields.ThingField.TheVariants.{OfSeen}
use Rattle.claims.specs.declared.fields.SeenField.TheVariants.{LowX, HighX, LowY, HighY, Speed}
use Rattle.claims.specs.Faults.{thing_fault}
use Rattle.claims.specs.Things.{near, ordered}

-- The checks of what is seen, in their order. Its fields are low x, high x, low y, high y and the speed of unseen things.
abbrev pub seen_checks : Span → Span → ℕ → List (Bool × Refusal)
seen_checks x y speed =
    (near x.low, thing_fault (OutOfRange (OfSeen LowX))) ∷
    (near x.high, thing_fault (OutOfRange (OfSeen HighX))) ∷
    (near y.low, thing_fault (OutOfRange (OfSeen LowY))) ∷
    (near y.high, thing_fault (OutOfRange (OfSeen HighY))) ∷
    (nat_le speed 20000000, thing_fault (OutOfRange (OfSeen Speed))) ∷
    (ordered x && ordered y, thing_fault LowAboveHigh) ∷ []

abbrev pub seen_refused : Span → Span → ℕ → Option Refusal
seen_refused x y speed = first_of (seen_checks x y speed)

-- from end to end of where a claim may lie
abbrev pub everywhere : Span
everywhere = record { low = neg_ℤ (pos 4000000000000); high = pos 4000000000000 }

-- all that lies before a span, and all that lies past it
abbrev pub before : Span → Span
before s = record { low = everywhere.low; high = s.low -ℤ pos 1 }

abbrev pub past : Span → Span
past s = record { low = s.high +ℤ pos 1; high = everywhere.high }

-- a strip of the unseen
abbrev pub strip : Span → Span → ℕ → Claim
strip x y speed = record { label = 4294967295; x = x; y = y; speed = speed }

-- The four strips around a rectangle: left, right, under, over.
abbrev pub strips : Span → Span → ℕ → List Claim
strips x y speed =
    strip (before x) everywhere speed ∷
    strip (past x) everywhere speed ∷
    strip everywhere (before y) speed ∷
    strip everywhere (past y) speed ∷ []
