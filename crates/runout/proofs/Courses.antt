-- The speeds of a hold and the brake after it, as ramps. Assumes nothing.
use Rattle.std.proofs.Common.{◌≡◌, ℕ, zero, suc, ◌+◌, ◌-◌, ◌*◌, ◌<◌, ◌≤◌, ℤ, pos, neg_ℤ, sym, refl, ap, ◌∙◌, inl, inr, le_refl, add-zero, add-suc, suc-mul, zero-mul, arith}
use Rattle.std.proofs.lemmas.Nat.{mul-le}
use Rattle.std.proofs.lemmas.Bool.{cases_lt}
use Rattle.runout.specs.Speeds.{changed, slowing, IsRunOut}
use Rattle.runout.specs.RunOuts.{course, course_first, course_held, course_braked}
use Rattle.runout.proofs.Ramps.{same, none, climb, rises, falls}

module _ (hold : ℕ) (g : ℤ) (b v : ℕ) where
  -- the brake after the hold
  pub after : (i : ℕ) → course hold g b v (hold + i) ≡ slowing (course hold g b v hold) b i
  after zero = ap (course hold g b v) (add-zero hold) ∙ omega (arith, zero-mul b)
  after (suc i) = ap (course hold g b v) (add-suc hold i) ∙ course_braked hold g b v (hold + i) (omega arith) ∙ omega (arith, after i, suc-mul i b)

module _ (hold step b v : ℕ) where
  up : (i : ℕ) → i ≤ hold → course hold (pos step) b v i ≡ v + i * step
  up zero h = course_first hold (pos step) b v ∙ omega (arith, zero-mul step)
  up (suc i) h = course_held hold (pos step) b v i h ∙ omega (arith, up i (omega arith), suc-mul i step)

lessened : (v step : ℕ) → changed v (neg_ℤ (pos step)) ≡ v - step
lessened v zero = omega arith
lessened v (suc less) = refl

module _ (hold step b v : ℕ) where
  down : (i : ℕ) → i ≤ hold → course hold (neg_ℤ (pos step)) b v i ≡ slowing v step i
  down zero h = course_first hold (neg_ℤ (pos step)) b v ∙ omega (arith, zero-mul step)
  down (suc i) h = course_held hold (neg_ℤ (pos step)) b v i h ∙ lessened (course hold (neg_ℤ (pos step)) b v i) step ∙ omega (arith, down i (omega arith), suc-mul i step)

-- A hold in which the speed rises or stays, and then the brake.
pub gains : (hold step b v : ℕ) {d t : ℕ} → 0 < v + hold * step → IsRunOut (slowing (v + hold * step) b) d t (v + hold * step) → IsRunOut (course hold (pos step) b v) (climb v step hold + d) (hold + t) (v + hold * step)
gains hold step b v {d} {t} moves r = rises step hold (course hold (pos step) b v) v (up hold step b v) (moving t r) (same tail refl refl refl r)
  where
    tail : (i : ℕ) → slowing (v + hold * step) b i ≡ course hold (pos step) b v (hold + i)
    tail i = sym (after hold (pos step) b v i ∙ ap (λ w. slowing w b i) (up hold step b v hold (le_refl hold)))

    moving : (s : ℕ) → IsRunOut (slowing (v + hold * step) b) d s (v + hold * step) → 0 < s
    moving zero q = omega (arith, q.still 0 (le_refl 0), zero-mul b)
    moving (suc s) q = omega arith

-- A hold in which the speed falls from v to w, and then the brake.
pub loses : (hold step b v : ℕ) {d t w : ℕ} → 0 < step → v ≡ w + hold * step → IsRunOut (slowing w b) d t w → IsRunOut (course hold (neg_ℤ (pos step)) b v) (climb w step hold + d) (hold + t) v
loses hold step b v {d} {t} {w} moves whole r = same (λ i. refl) refl refl (sym whole) (falls step hold (course hold (neg_ℤ (pos step)) b v) w ramp moves (same tail refl refl refl r))
  where
    ramp : (i : ℕ) → i ≤ hold → course hold (neg_ℤ (pos step)) b v i + i * step ≡ w + hold * step
    ramp i h = omega (arith, down hold step b v i h, mul-le i step hold step h (le_refl step))

    tail : (i : ℕ) → slowing w b i ≡ course hold (neg_ℤ (pos step)) b v (hold + i)
    tail i =
        let low : course hold (neg_ℤ (pos step)) b v hold ≡ w = omega (arith, down hold step b v hold (le_refl hold)) in
        sym (after hold (neg_ℤ (pos step)) b v i ∙ ap (λ x. slowing x b i) low)

-- A hold in which the cart comes to rest.
pub halts : (hold step b v : ℕ) {d t p : ℕ} → v ≤ hold * step → IsRunOut (slowing v step) d t p → IsRunOut (course hold (neg_ℤ (pos step)) b v) d t p
halts hold step b v short r = same all refl refl refl r
  where
    later : (i : ℕ) → hold ≤ i → slowing v step i ≡ 0
    later i h = omega (arith, mul-le hold step i step h (le_refl step))

    rest : (j : ℕ) → course hold (neg_ℤ (pos step)) b v (hold + j) ≡ 0
    rest j = omega (arith, after hold (neg_ℤ (pos step)) b v j, down hold step b v hold (le_refl hold), later hold (le_refl hold))

    all : (i : ℕ) → slowing v step i ≡ course hold (neg_ℤ (pos step)) b v i
    all i = elim (cases_lt i hold) [
      | inl h ↦ sym (down hold step b v i (omega arith))
      | inr h ↦
          let at : i ≡ hold + (i - hold) = omega arith in
          later i h ∙ sym (ap (course hold (neg_ℤ (pos step)) b v) at ∙ rest (i - hold))
    ]

-- A hold that neither begins with a speed nor makes one.
pub rests : (hold step b v : ℕ) → v + hold * step ≡ 0 → IsRunOut (course hold (pos step) b v) 0 0 0
rests hold step b v nothing = none (course hold (pos step) b v) all
  where
    all : (i : ℕ) → course hold (pos step) b v i ≡ 0
    all i = elim (cases_lt i hold) [
      | inl h ↦ omega (arith, up hold step b v i (omega arith), mul-le i step hold step (omega arith) (le_refl step))
      | inr h ↦
          let at : i ≡ hold + (i - hold) = omega arith in
          ap (course hold (pos step) b v) at ∙ omega (arith, after hold (pos step) b v (i - hold), up hold step b v hold (le_refl hold))
    ]
