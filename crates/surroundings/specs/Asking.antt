-- The one question to surroundings: the first claim of a list that blocks a reach, or none. Assumes nothing.
use Rattle.std.specs.Prelude.{◌≡◌, cond, List, [], ◌∷◌, ◌++◌, Some, None, Option}
use Rattle.std.proofs.Math.Path.{refl}
use Rattle.std.specs.List.{AllByRecursion, find}
use Rattle.claims.specs.declared.boxes.Claim.{Claim}
use Rattle.claims.specs.declared.boxes.Reach.{Reach}
use Rattle.claims.specs.Blocking.{Blocks, blocks}

-- the claim does not block the reach
abbrev pub Clear : Reach → Claim → Type 0
Clear r c = Blocks c r → ⊥

-- What the question answers, in plain words. None: no claim of the list blocks. Some: the list is some front, this claim and some back; nothing in front blocks, and this claim does.
abbrev pub FirstBlocking : List Claim → Reach → Option Claim → Type 0
FirstBlocking cs r None = AllByRecursion (Clear r) cs
FirstBlocking cs r (Some c) =
    (front : List Claim) × (back : List Claim) × (cs ≡ front ++ c ∷ back) × AllByRecursion (Clear r) front × Blocks c r

-- What the question answers, as a value: the first claim of the list that blocks the reach.
unfoldable pub first_blocking : List Claim → Reach → Option Claim
first_blocking cs r = find (λ c. blocks c r) cs

-- What is known of it elsewhere; that it is the one `FirstBlocking` is a law in proofs/.
module _ (r : Reach) where
  pub first_none : first_blocking [] r ≡ None
  unfolding first_blocking
  first_none = refl

  pub first_next : (c : Claim) (cs : List Claim) → first_blocking (c ∷ cs) r ≡ cond (blocks c r) (Some c) (first_blocking cs r)
  unfolding first_blocking
  first_next c cs = refl
