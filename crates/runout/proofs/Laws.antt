-- What follows from a run-out, whatever its speeds. Assumes nothing.
use Rattle.std.proofs.Common.{◌≡◌, ℕ, zero, suc, ◌+◌, ◌*◌, ◌≤◌, sym, ap, ◌∙◌, add-zero, add-suc, suc-mul, zero-mul, arith}
use Rattle.runout.specs.Speeds.{travelled, travelled_none, travelled_next, IsRunOut}

-- travel never falls
pub travelled_more : (e : ℕ → ℕ) (n k : ℕ) → travelled e n ≤ travelled e (n + k)
travelled_more e n zero = rw add-zero (omega arith)
travelled_more e n (suc k) = rw add-suc (omega (arith, travelled_more e n k, travelled_next e (n + k)))

-- the travel of n ms and then of k more
pub travelled_apart : (e : ℕ → ℕ) (n k : ℕ) → travelled e (n + k) ≡ travelled e n + travelled (λ i. e (n + i)) k
travelled_apart e n zero = ap (travelled e) (add-zero n) ∙ omega (arith, travelled_none (λ i. e (n + i)))
travelled_apart e n (suc k) =
    ap (travelled e) (add-suc n k) ∙
    omega (arith, travelled_next e (n + k), travelled_apart e n k, travelled_next (λ i. e (n + i)) k, ap e (add-suc n k))

-- slower speeds travel no further
pub travelled_slower : (f e : ℕ → ℕ) → ((i : ℕ) → f i ≤ e i) → (n : ℕ) → travelled f n ≤ travelled e n
travelled_slower f e below zero = omega (arith, travelled_none f, travelled_none e)
travelled_slower f e below (suc n) =
    omega (arith, travelled_slower f e below n, below n, below (suc n), travelled_next f n, travelled_next e n)

-- speeds of at most s travel at most n s in n ms
pub travelled_most : (e : ℕ → ℕ) (s : ℕ) → ((i : ℕ) → e i ≤ s) → (n : ℕ) → travelled e n ≤ n * s
travelled_most e s below zero = omega (arith, travelled_none e, zero-mul s)
travelled_most e s below (suc n) =
    omega (arith, travelled_next e n, travelled_most e s below n, below n, below (suc n), suc-mul n s)

module _ {e : ℕ → ℕ} {d t p : ℕ} (r : IsRunOut e d t p) where
  -- no number of ms travels further than the whole
  pub travelled_within : (n : ℕ) → travelled e n ≤ d
  travelled_within n = omega (arith, travelled_more e n t, r.whole (n + t) (omega arith))

  -- the three numbers are the only ones
  pub run_out_unique : {d' t' p' : ℕ} → IsRunOut e d' t' p' → (d ≡ d') × (t ≡ t') × (p ≡ p')
  run_out_unique {d'} {t'} {p'} q =
      let here : t ≡ t' = omega (arith, r.least t' q.still, q.least t r.still) in (
        sym (r.whole t (omega arith)) ∙ q.whole t (omega arith),
        here,
        omega (arith, r.reached.1, q.highest r.reached.0, q.reached.1, r.highest q.reached.0),
      )
