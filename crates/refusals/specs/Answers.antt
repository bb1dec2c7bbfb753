-- How a call that may refuse answers: one form for all of them. Assumes nothing.
use Rattle.std.specs.Prelude.{◌≡◌, Bool, cond, List, [], ◌∷◌, Some, None, Ok, Err, Option, Result}
use Rattle.refusals.specs.Refusals.{Refusal}

-- The first refusal of some checks, in their order: of the first test that fails.
abbrev pub first_of : List (Bool × Refusal) → Option Refusal
first_of [] = None
first_of (check ∷ checks) = cond check.0 (first_of checks) (Some check.1)

-- The first of two refusals, if any.
abbrev pub or_else : Option Refusal → Option Refusal → Option Refusal
or_else (Some refusal) later = Some refusal
or_else None later = later

-- What a call answers whose fault e says `says e`: Ok where nothing is refused, with a value that is Right, and otherwise a fault that says the refusal.
abbrev pub Answers : {X E : Type 0} → (E → Refusal) → Option Refusal → (X → Type 0) → Result X E → Type 0
Answers says refused Right (Ok x) = (refused ≡ None) × Right x
Answers says refused Right (Err e) = refused ≡ Some (says e)
