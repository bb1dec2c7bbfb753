-- When a claim blocks a reach: by a point that both have, and by their edges. Assumes nothing.
use Rattle.std.specs.Prelude.{◌≡◌, ℕ, ◌*◌, Bool, ◌&&◌, ℤ, pos, ◌+ℤ◌, ◌-ℤ◌, ◌≤ℤ◌, int_le}
use Rattle.std.proofs.Math.Path.{refl}
use Rattle.std.specs.Int.{int_max, int_min}
use Rattle.claims.specs.declared.boxes.Span.{Span}
use Rattle.claims.specs.declared.boxes.Claim.{Claim}
use Rattle.claims.specs.declared.boxes.Reach.{Reach}

-- the whole number z lies in the span, both ends included
abbrev pub In : Span → ℤ → Type 0
In s z = (s.low ≤ℤ z) × (z ≤ℤ s.high)

-- the span with both ends moved outwards by n
abbrev pub grown : Span → ℕ → Span
grown s n = record { low = s.low -ℤ pos n; high = s.high +ℤ pos n }

-- Where the thing of a claim may be t ms later: the point (x, y) lies in the box, moved outwards by speed × t on every side.
pub Covers : Claim → ℕ → ℤ → ℤ → Type 0
Covers c t x y = In (grown c.x (c.speed * t)) x × In (grown c.y (c.speed * t)) y

-- A claim blocks a reach: some point is where the thing may be after the reach's time, and lies in the reach.
pub record Blocks (c : Claim) (r : Reach) : Type 0 where
  pub x : ℤ
  pub y : ℤ
  pub covered : Covers c r.time x y
  pub within_x : In r.x x
  pub within_y : In r.y y

-- two spans by their ends: the larger low end is at most the smaller high end
abbrev pub meet : Span → Span → Bool
meet s t = int_le (int_max s.low t.low) (int_min s.high t.high)

-- a claim and a reach by their edges
abbrev pub edges_meet : Claim → Reach → Bool
edges_meet c r = meet (grown c.x (c.speed * r.time)) r.x && meet (grown c.y (c.speed * r.time)) r.y

-- Whether a claim blocks a reach, as a value.
pub blocks : Claim → Reach → Bool
blocks c r = edges_meet c r

-- What is known of the two elsewhere; that `blocks` decides `Blocks` is a law in proofs/.
module _ (c : Claim) where
  pub covers_box : (t : ℕ) (x y : ℤ) → Covers c t x y → In (grown c.x (c.speed * t)) x × In (grown c.y (c.speed * t)) y
  unfolding Covers
  covers_box t x y h = h

  pub box_covers : (t : ℕ) (x y : ℤ) → In (grown c.x (c.speed * t)) x × In (grown c.y (c.speed * t)) y → Covers c t x y
  unfolding Covers
  box_covers t x y h = h

  pub blocks_edges : (r : Reach) → blocks c r ≡ edges_meet c r
  unfolding blocks
  blocks_edges r = refl
