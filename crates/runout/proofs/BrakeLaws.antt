-- What is known of the braking travel. Assumes nothing.
use Rattle.std.proofs.Common.{◌≡◌, ℕ, zero, suc, ◌+◌, ◌-◌, ◌*◌, ◌/◌, ◌%◌, ◌<◌, ◌≤◌, min, sym, refl, ap, ◌∙◌, mod-lt, suc-mul, zero-mul, arith}
use native.Mathlib.Nat.{mod-add-div'}
use Rattle.runout.specs.Speeds.{slowing, IsRunOut}
use Rattle.runout.specs.Brake.{brake_travel, brake_travel_rest, brake_travel_next}
use Rattle.runout.proofs.Laws.{travelled_slower, travelled_within}
use Rattle.runout.proofs.Ramps.{same, climb, climb_is, stops}

module _ (b : ℕ) (brakes : 0 < b) where
  -- from a speed below b, that speed alone
  last : (r : ℕ) → r < b → brake_travel r b ≡ r
  last zero h = brake_travel_rest b
  last (suc r) h =
      let stop : suc r - b ≡ 0 = omega arith in
      brake_travel_next (suc r) b (omega arith) brakes ∙ omega (arith, ap (λ x. brake_travel x b) stop, brake_travel_rest b)

  -- from r and k times b, the speeds in between and r
  steps : (r k : ℕ) → r < b → brake_travel (r + k * b) b ≡ climb r b k + r
  unfolding climb
  steps r zero h =
      let none : r + 0 * b ≡ r = omega (arith, zero-mul b) in
      omega (arith, ap (λ x. brake_travel x b) none, last r h)
  steps r (suc k) h =
      let less : (r + suc k * b) - b ≡ r + k * b = omega (arith, suc-mul k b) in
      omega (
        arith,
        brake_travel_next (r + suc k * b) b (omega (arith, suc-mul k b)) brakes,
        ap (λ x. brake_travel x b) less,
        steps r k h,
      )

  brake_climb : (w : ℕ) → brake_travel w b ≡ climb (w % b) b (w / b) + w % b
  brake_climb w = ap (λ x. brake_travel x b) (sym (mod-add-div' w b)) ∙ steps (w % b) (w / b) (mod-lt w brakes)

  -- It is the travel of speeds that fall by b from w on; they rest after w / b ms, rounded up.
  pub brake_run : (w : ℕ) → IsRunOut (slowing w b) (brake_travel w b) (w / b + min 1 (w % b)) w
  brake_run w = same (λ i. refl) (sym (brake_climb w)) refl refl (stops w b brakes)

  -- as a closed formula
  pub brake_travel_is : (w : ℕ) → brake_travel w b ≡ w / b * ((w % b + b) + w) / 2 + w % b
  brake_travel_is w = omega (arith, brake_climb w, climb_is (w % b) b (w / b) (w % b + b) w refl (sym (mod-add-div' w b)))

  -- a higher speed travels no less
  pub brake_travel_more : (w w' : ℕ) → w ≤ w' → brake_travel w b ≤ brake_travel w' b
  brake_travel_more w w' h =
      let t = w / b + min 1 (w % b) in
      omega (arith, (brake_run w).whole t (omega arith), travelled_slower (slowing w b) (slowing w' b) (λ i. omega arith) t, travelled_within (brake_run w') t)
