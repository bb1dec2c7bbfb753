-- The limits of a claim. Assumes nothing.
use Rattle.std.specs.Prelude.{ℕ, ◌≤◌, pos, neg_ℤ, ◌≤ℤ◌}
use Rattle.claims.specs.declared.boxes.Span.{Span}
use Rattle.claims.specs.declared.boxes.Claim.{Claim}

-- low is at most high, and both lie within ±4×10^12
pub record Bounded (s : Span) : Type 0 where
  pub least : neg_ℤ (pos 4000000000000) ≤ℤ s.low
  pub ordered : s.low ≤ℤ s.high
  pub most : s.high ≤ℤ pos 4000000000000

-- the claim is no faster than a speed
abbrev pub NoFaster : ℕ → Claim → Type 0
NoFaster speed c = c.speed ≤ speed

-- The box and the speed of a claim are within their limits.
pub record Sound (c : Claim) : Type 0 where
  pub x : Bounded c.x
  pub y : Bounded c.y
  pub speed : NoFaster 20000000 c
