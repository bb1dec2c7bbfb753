-- What follows where nothing is refused. Assumes nothing.
use Rattle.std.proofs.Common.{◌≡◌, ℕ, Bool, true, false, cond, List, [], ◌∷◌, Some, None, Option, refl, arith}
use Rattle.std.specs.List.{AllByRecursion}
use Rattle.refusals.specs.Refusals.{Refusal}
use Rattle.refusals.specs.Answers.{first_of}

passed : (b : Bool) (r : Refusal) (later : Option Refusal) → cond b later (Some r) ≡ None → (b ≡ true) × (later ≡ None)
passed true r later e = (refl, e)
passed false r later e = let z : ◌≡◌ {A = ℕ} 0 1 = cc in absurd (omega arith)

-- Where nothing is refused, every test holds.
pub all_hold : (checks : List (Bool × Refusal)) → first_of checks ≡ None → AllByRecursion (λ check. check.0 ≡ true) checks
all_hold [] e = tt
all_hold (check ∷ checks) e =
    let p = passed check.0 check.1 (first_of checks) e in
    (p.0, all_hold checks p.1)
