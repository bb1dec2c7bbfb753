-- The closed formulas are right. Assumes nothing.
use Rattle.std.proofs.Common.{◌≡◌, ℕ, ◌+◌, ◌-◌, ◌*◌, ◌/◌, ◌%◌, ◌<◌, eqb, leb, pos, neg_ℤ, sym, refl, arith}
use native.Mathlib.Nat.{mod-add-div'}
use Rattle.std.proofs.lemmas.Bool.{cond_both, eqb-true, eqb-false, leb-true, leb-false}
use Rattle.runout.specs.Speeds.{slowing, RunOutOf}
use Rattle.runout.specs.Formulas.{stop_formula, rise_formula, fall_formula}
use Rattle.runout.proofs.Ramps.{same, climb_is, stops}
use Rattle.runout.specs.RunOuts.{course}
use Rattle.runout.proofs.Courses.{gains, loses, halts, rests}

pub stop_right : (v rate : ℕ) → 0 < rate → RunOutOf (slowing v rate) (stop_formula v rate)
stop_right v rate falls =
    same (λ i. refl) (omega (arith, climb_is (v % rate) rate (v / rate) (v % rate + rate) v refl (sym (mod-add-div' v rate)))) refl refl (stops v rate falls)

pub rise_right : (hold step b v : ℕ) → 0 < b → RunOutOf (course hold (pos step) b v) (rise_formula hold step b v)
rise_right hold step b v brakes =
    let end = v + hold * step in
    cond_both (eqb end 0) _ _ (RunOutOf (course hold (pos step) b v))
    (λ e. rests hold step b v (eqb-true end 0 e))
    (λ e. same (λ i. refl) (omega (arith, climb_is v step hold (v + step) end refl refl)) refl refl
    (gains hold step b v (moves end (eqb-false end 0 e)) (stop_right end b brakes)))
  where
    moves : (n : ℕ) → (n ≡ 0 → ⊥) → 0 < n
    moves n some = omega arith

pub fall_right : (hold step b v : ℕ) → 0 < b → 0 < step → RunOutOf (course hold (neg_ℤ (pos step)) b v) (fall_formula hold step b v)
fall_right hold step b v brakes falls =
    let end = v - hold * step in
    cond_both (leb v (hold * step)) _ _ (RunOutOf (course hold (neg_ℤ (pos step)) b v))
    (λ e. halts hold step b v (leb-true v (hold * step) e) (stop_right v step falls))
    (λ e.
    let whole : v ≡ end + hold * step = omega (arith, leb-false v (hold * step) e) in
    same (λ i. refl) (omega (arith, climb_is end step hold (end + step) v refl whole)) refl refl
    (loses hold step b v falls whole (stop_right end b brakes)))
