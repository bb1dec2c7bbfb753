-- The run-out of speeds that rise or fall by the same amount in each ms, built up from the last ms to the first. Assumes nothing.
use Rattle.std.proofs.Common.{◌≡◌, ℕ, zero, suc, ◌+◌, ◌*◌, ◌/◌, ◌%◌, ◌<◌, ◌≤◌, min, max, ◌⊎◌, sym, refl, ap, ◌∙◌, subst, inl, inr, le_refl, not-suc-le-zero, mod-lt, suc-mul, add-mul, suc-add, zero-add, zero-mul, mul-add, arith}
use mathlib.Core.Path.{fun_ext}
use native.Mathlib.Nat.{mod-add-div'}
use Rattle.std.proofs.lemmas.Nat.{mul-le}
use Rattle.std.proofs.lemmas.Bool.{cases_lt}
use Rattle.runout.specs.Speeds.{slowing, travelled, travelled_none, travelled_next, IsRunOut}

-- equal speeds and equal numbers
pub same : {e f : ℕ → ℕ} {d d' t t' p p' : ℕ} → ((i : ℕ) → e i ≡ f i) → d ≡ d' → t ≡ t' → p ≡ p' → IsRunOut e d t p → IsRunOut f d' t' p'
same {e} {f} {d} {d'} {t} {t'} {p} {p'} es ds ts ps r =
    subst (λ x. IsRunOut f d' t' x) ps (subst (λ x. IsRunOut f d' x p) ts (subst (λ x. IsRunOut f x t p) ds (subst (λ x. IsRunOut x d t p) (fun_ext es) r)))

-- no speed at all
pub none : (e : ℕ → ℕ) → ((i : ℕ) → e i ≡ 0) → IsRunOut e 0 0 0
none e zeros = record {
  whole = λ n _. sum n;
  still = λ i _. zeros i;
  least = λ t _. omega arith;
  highest = λ i. omega (arith, zeros i);
  reached = (0, zeros 0);
}
  where
    sum : (n : ℕ) → travelled e n ≡ 0
    sum zero = travelled_none e
    sum (suc n) = omega (arith, travelled_next e n, sum n, zeros n, zeros (suc n))

travelled_front : (e : ℕ → ℕ) (n : ℕ) → travelled e (suc n) ≡ max (e 0) (e 1) + travelled (λ i. e (suc i)) n
travelled_front e zero = omega (arith, travelled_next e 0, travelled_none e, travelled_none (λ i. e (suc i)))
travelled_front e (suc n) = omega (arith, travelled_next e (suc n), travelled_front e n, travelled_next (λ i. e (suc i)) n)

-- one ms more in front, unless nothing moves at all
pub front : (e : ℕ → ℕ) {d t p : ℕ} → 0 < e 0 + t → IsRunOut (λ i. e (suc i)) d t p → IsRunOut e (max (e 0) (e 1) + d) (suc t) (max (e 0) p)
front e {d} {t} {p} moves r = record { whole = whole; still = still; least = least; highest = highest; reached = reached (cases_lt (e 0) p) }
  where
    whole : (n : ℕ) → suc t ≤ n → travelled e n ≡ max (e 0) (e 1) + d
    whole zero h = absurd (not-suc-le-zero h)
    whole (suc n) h = travelled_front e n ∙ ap (λ x. max (e 0) (e 1) + x) (r.whole n (omega arith))

    still : (i : ℕ) → suc t ≤ i → e i ≡ 0
    still zero h = absurd (not-suc-le-zero h)
    still (suc i) h = r.still i (omega arith)

    least : (s : ℕ) → ((i : ℕ) → s ≤ i → e i ≡ 0) → suc t ≤ s
    least zero zeros = omega (arith, zeros 0 (omega arith), r.least 0 (λ i _. zeros (suc i) (omega arith)))
    least (suc s) zeros = omega (arith, r.least s (λ i h. zeros (suc i) (omega arith)))

    highest : (i : ℕ) → e i ≤ max (e 0) p
    highest zero = omega arith
    highest (suc i) = omega (arith, r.highest i)

    reached : (e 0 < p) ⊎ (p ≤ e 0) → (i : ℕ) × (e i ≡ max (e 0) p)
    reached (inl h) = (suc r.reached.0, omega (arith, r.reached.1))
    reached (inr h) = (0, omega arith)

-- the sum of the n speeds low + step, low + 2 step and so on
unfoldable pub climb : ℕ → ℕ → ℕ → ℕ
climb low step zero = 0
climb low step (suc n) = climb low step n + (low + suc n * step)

-- the same sum, its first speed taken first
climb_front : (low step n : ℕ) → climb low step (suc n) ≡ (low + step) + climb (low + step) step n
unfolding climb
climb_front low step zero = omega (arith, suc-mul 0 step, zero-mul step)
climb_front low step (suc n) = omega (arith, climb_front low step n, suc-mul n step, suc-mul (suc n) step)

module _ (step : ℕ) {d t : ℕ} where
  -- speeds that rise for n ms, and then go on to a rest
  pub rises : (n : ℕ) (e : ℕ → ℕ) (low : ℕ) {p : ℕ} → ((i : ℕ) → i ≤ n → e i ≡ low + i * step) → 0 < t → IsRunOut (λ i. e (n + i)) d t p → IsRunOut e (climb low step n + d) (n + t) p
  unfolding climb
  rises zero e low up moves r = same (λ i. ap e (zero-add i)) (sym (zero-add d)) (sym (zero-add t)) refl r
  rises (suc n) e low {p} up moves r =
      let later : IsRunOut (λ i. e (suc i)) (climb (low + step) step n + d) (n + t) p =
      rises n (λ i. e (suc i)) (low + step) (λ i h. omega (arith, up (suc i) (omega arith), suc-mul i step)) moves
      (same (λ i. ap e (suc-add n i)) refl refl refl r) in
      let e0 : e 0 ≡ low = omega (arith, up 0 (omega arith), zero-mul step) in
      let e1 : e 1 ≡ low + step = omega (arith, up 1 (omega arith), suc-mul 0 step, zero-mul step) in
      same (λ i. refl) (omega (arith, climb_front low step n)) (sym (suc-add n t)) (omega (arith, later.highest 0)) (front e (omega arith) later)

  -- speeds that fall for n ms to low, and then go on to a rest
  pub falls : (n : ℕ) (e : ℕ → ℕ) (low : ℕ) → ((i : ℕ) → i ≤ n → e i + i * step ≡ low + n * step) → 0 < step → IsRunOut (λ i. e (n + i)) d t low → IsRunOut e (climb low step n + d) (n + t) (low + n * step)
  unfolding climb
  falls zero e low down moves r = same (λ i. ap e (zero-add i)) (sym (zero-add d)) (sym (zero-add t)) (omega (arith, zero-mul step)) r
  falls (suc n) e low down moves r =
      let later : IsRunOut (λ i. e (suc i)) (climb low step n + d) (n + t) (low + n * step) =
      falls n (λ i. e (suc i)) low (λ i h. omega (arith, down (suc i) (omega arith), suc-mul i step, suc-mul n step)) moves
      (same (λ i. ap e (suc-add n i)) refl refl refl r) in
      let e0 : e 0 ≡ low + suc n * step = omega (arith, down 0 (omega arith), zero-mul step) in
      let e1 : e 1 ≡ low + n * step = omega (arith, down 1 (omega arith), suc-mul 0 step, zero-mul step, suc-mul n step) in
      same (λ i. refl) (omega (arith, suc-mul n step)) (sym (suc-add n t)) (omega (arith, suc-mul n step)) (front e (omega (arith, suc-mul n step)) later)

-- twice the sum: n times the first and the last speed together
climb_twice : (low step n : ℕ) → 2 * climb low step n ≡ n * ((low + step) + (low + n * step))
unfolding climb
climb_twice low step zero = sym (zero-mul _)
climb_twice low step (suc n) =
    let last = suc n * step in
    omega (
      arith,
      climb_twice low step n,
      mul-add n (low + step) (low + n * step),
      mul-add n low step,
      mul-add n low (n * step),
      suc-mul n ((low + step) + (low + last)),
      mul-add n (low + step) (low + last),
      mul-add n low last,
      ap (λ x. n * x) (suc-mul n step) ∙ mul-add n (n * step) step,
      suc-mul n step,
    )

-- the sum as a formula of its first and its last speed
pub climb_is : (low step n first last : ℕ) → first ≡ low + step → last ≡ low + n * step → climb low step n ≡ n * (first + last) / 2
climb_is low step n first last f l =
    omega (arith, climb_twice low step n, ap (λ x. n * (x + last)) f, ap (λ x. n * ((low + step) + x)) l)

-- speeds of which at most the first is above 0
ends : (e : ℕ → ℕ) (v : ℕ) → e 0 ≡ v → ((i : ℕ) → e (suc i) ≡ 0) → IsRunOut e v (min 1 v) v
ends e zero first zeros = none e (elim [ zero ↦ first | suc i ↦ zeros i ])
ends e (suc v) first zeros =
    same (λ i. refl) (omega (arith, zeros 0)) (omega arith) (omega arith) (front e (omega arith) (none (λ i. e (suc i)) zeros))

-- a speed v that falls by rate in each ms
pub stops : (v rate : ℕ) → 0 < rate → IsRunOut (slowing v rate) (climb (v % rate) rate (v / rate) + v % rate) (v / rate + min 1 (v % rate)) v
stops v rate moves =
    same (λ i. refl) refl refl parts (falls rate (v / rate) (slowing v rate) (v % rate) down moves (ends _ (v % rate) first zeros))
  where
    parts : v % rate + v / rate * rate ≡ v
    parts = mod-add-div' v rate

    down : (i : ℕ) → i ≤ v / rate → slowing v rate i + i * rate ≡ v % rate + v / rate * rate
    down i h = omega (arith, parts, mul-le i rate (v / rate) rate h (le_refl rate))

    first : slowing v rate (v / rate + 0) ≡ v % rate
    first = omega (arith, parts, add-mul (v / rate) 0 rate, zero-mul rate)

    zeros : (i : ℕ) → slowing v rate (v / rate + suc i) ≡ 0
    zeros i = omega (arith, parts, add-mul (v / rate) (suc i) rate, suc-mul i rate, mod-lt v moves)
