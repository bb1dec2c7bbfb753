-- Sums over as many ms as it takes are travel, time and peak. Assumes nothing.
use Rattle.std.proofs.Common.{◌≡◌, ℕ, zero, suc, ◌+◌, ◌-◌, ◌<◌, ◌≤◌, Bool, true, false, cond, eqb, ◌⊎◌, sym, refl, ap, ◌∙◌, inl, inr, ⊎_elim, add-zero, add-suc, arith, eqb-true}
use borrow.Author.Tests.{eqb-false}
use Rattle.std.proofs.lemmas.Bool.{cases_lt}
use Rattle.runout.specs.Speeds.{travelled, travelled_next, rest_time, rest_time_none, rest_time_next, largest, largest_none, largest_next, IsRunOut}

module _ (e : ℕ → ℕ) where
  -- speeds of 0 add nothing
  stays : (t k : ℕ) → ((i : ℕ) → t ≤ i → e i ≡ 0) → travelled e (t + k) ≡ travelled e t
  stays t zero zeros = ap (travelled e) (add-zero t)
  stays t (suc k) zeros = ap (travelled e) (add-suc t k) ∙ omega (arith, travelled_next e (t + k), stays t k zeros, zeros (t + k) (omega arith), zeros (suc (t + k)) (omega arith))

  same_travel : (t n m : ℕ) → ((i : ℕ) → t ≤ i → e i ≡ 0) → t ≤ n → t ≤ m → travelled e n ≡ travelled e m
  same_travel t n m zeros p q =
      let n_is : t + (n - t) ≡ n = omega arith in
      let m_is : t + (m - t) ≡ m = omega arith in
      ap (travelled e) (sym n_is) ∙ stays t (n - t) zeros ∙ sym (ap (travelled e) (sym m_is) ∙ stays t (m - t) zeros)

  -- from `rest_time` on, every speed of the first n ms is 0
  rest_time_still : (n i : ℕ) → rest_time e n ≤ i → i < n → e i ≡ 0
  rest_time_still zero i h k = absurd (omega arith)
  rest_time_still (suc n) i h k = by (eqb (e n) 0) refl (rest_time_next e n) (rest_time_still n i)
    where
      by : (b : Bool) → eqb (e n) 0 ≡ b → rest_time e (suc n) ≡ cond b (rest_time e n) (suc n) → (rest_time e n ≤ i → i < n → e i ≡ 0) → e i ≡ 0
      by true z m before =
          ⊎_elim (λ (below : i < n). before (omega arith) below)
          (λ (above : n ≤ i). let last : i ≡ n = omega arith in ap e last ∙ eqb-true (e n) 0 z) (cases_lt i n)
      by false z m before = absurd (omega arith)

  -- and no ms before it is one from which every speed is 0
  rest_time_least : (n t : ℕ) → ((i : ℕ) → t ≤ i → e i ≡ 0) → rest_time e n ≤ t
  rest_time_least zero t zeros = omega (arith, rest_time_none e)
  rest_time_least (suc n) t zeros = by (eqb (e n) 0) refl (rest_time_next e n) (rest_time_least n t zeros)
    where
      by : (b : Bool) → eqb (e n) 0 ≡ b → rest_time e (suc n) ≡ cond b (rest_time e n) (suc n) → rest_time e n ≤ t → rest_time e (suc n) ≤ t
      by true z m before = omega arith
      by false z m before =
          ⊎_elim (λ (below : n < t). omega arith) (λ (above : t ≤ n). absurd (eqb-false (e n) 0 z (zeros n above))) (cases_lt n t)

  largest_bounds : (n i : ℕ) → i ≤ n → e i ≤ largest e n
  largest_bounds zero i h = let first : i ≡ 0 = omega arith in omega (arith, ap e first, largest_none e)
  largest_bounds (suc n) i h =
      ⊎_elim (λ (below : i < suc n). omega (arith, largest_bounds n i (omega arith), largest_next e n))
      (λ (above : suc n ≤ i). let last : i ≡ suc n = omega arith in omega (arith, ap e last, largest_next e n)) (cases_lt i (suc n))

  largest_reached : (n : ℕ) → (i : ℕ) × (e i ≡ largest e n)
  largest_reached zero = (0, sym (largest_none e))
  largest_reached (suc n) = by (largest_reached n) (cases_lt (largest e n) (e (suc n)))
    where
      by : (i : ℕ) × (e i ≡ largest e n) → (largest e n < e (suc n)) ⊎ (e (suc n) ≤ largest e n) → (i : ℕ) × (e i ≡ largest e (suc n))
      by before (inl more) = (suc n, omega (arith, largest_next e n))
      by before (inr less) = (before.0, omega (arith, before.1, largest_next e n))

  -- where every speed from n on is 0, sums up to n are the whole
  pub summed : (n : ℕ) → ((i : ℕ) → n ≤ i → e i ≡ 0) → IsRunOut e (travelled e n) (rest_time e n) (largest e n)
  summed n zeros = record {
    whole = λ m h. same_travel (rest_time e n) m n still h (rest_time_least n n zeros);
    still = still;
    least = rest_time_least n;
    highest = λ i. ⊎_elim (λ (below : i < n). largest_bounds n i (omega arith)) (λ (above : n ≤ i). omega (arith, zeros i above)) (cases_lt i n);
    reached = largest_reached n;
  }
    where
      still : (i : ℕ) → rest_time e n ≤ i → e i ≡ 0
      still i h = ⊎_elim (λ (below : i < n). rest_time_still n i h below) (λ (above : n ≤ i). zeros i above) (cases_lt i n)
