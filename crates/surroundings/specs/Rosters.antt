-- When a table is too long for a roster. Assumes nothing.
use Rattle.std.specs.Prelude.{ℕ, [], ◌∷◌, Option, nat_le}
use Rattle.refusals.specs.Refusals.{Refusal}
use Rattle.refusals.specs.Answers.{first_of}
use Rattle.claims.specs.declared.faults.ThingFault.TheVariants.{TooMany}
use Rattle.claims.specs.Faults.{thing_fault}

-- A table of so many things, of which there may be 1,024.
abbrev pub roster_refused : ℕ → Option Refusal
roster_refused count = first_of ((nat_le count 1024, thing_fault TooMany) ∷ [])
