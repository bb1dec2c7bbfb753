-- The travel of a cart that brakes from a speed to rest. Assumes nothing.
use Rattle.std.specs.Prelude.{◌≡◌, ℕ, zero, suc, ◌+◌, ◌-◌, ◌<◌, ◌≤◌, refl}
use Rattle.std.proofs.Common.{ap, arith}

-- the first n of w, w less b, w less b twice and so on, together; `-` stops at 0
falling : (w b n : ℕ) → ℕ
falling w b zero = 0
falling w b (suc n) = w + falling (w - b) b n

-- The braking travel from the speed w: w, w less b and so on, summed while above 0. As b is at least 1, the first w of them are enough.
pub brake_travel : (w b : ℕ) → ℕ
brake_travel w b = falling w b w

-- more of them add nothing
enough : (b : ℕ) → 0 < b → (w n k : ℕ) → w ≤ n → w ≤ k → falling w b n ≡ falling w b k
unfolding falling
enough b brakes w zero zero p q = refl
enough b brakes w zero (suc k) p q = omega (arith, enough b brakes (w - b) zero k (omega arith) (omega arith))
enough b brakes w (suc n) zero p q = omega (arith, enough b brakes (w - b) n zero (omega arith) (omega arith))
enough b brakes w (suc n) (suc k) p q = ap (λ x. w + x) (enough b brakes (w - b) n k (omega arith) (omega arith))

-- What is known of `brake_travel` elsewhere: nothing from rest, and otherwise this speed and the travel from the next.
pub brake_travel_rest : (b : ℕ) → brake_travel 0 b ≡ 0
unfolding brake_travel falling
brake_travel_rest b = refl

pub brake_travel_next : (w b : ℕ) → 0 < w → 0 < b → brake_travel w b ≡ w + brake_travel (w - b) b
unfolding brake_travel falling
brake_travel_next (suc w) b moves brakes = ap (λ x. suc w + x) (enough b brakes (suc w - b) w (suc w - b) (omega arith) (omega arith))
brake_travel_next zero b moves brakes = absurd (omega arith)
