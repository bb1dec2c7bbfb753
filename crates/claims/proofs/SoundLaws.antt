-- What things claim is within the limits of a claim. Assumes nothing.
use Rattle.std.proofs.Common.{◌≡◌, ℕ, ◌≤◌, true, false, ◌&&◌, List, [], ◌∷◌, ◌++◌, map, ℤ, pos, neg_ℤ, ◌≤ℤ◌, is_some, Some, None, Option, refl, arith}
use Rattle.std.specs.List.{AllByRecursion}
use Rattle.std.proofs.lemmas.Nat.{mul-le}
use Rattle.std.proofs.ByRecursion.{All-append}
use Rattle.std.proofs.lemmas.Int.{ints}
use Rattle.std.proofs.lemmas.Bool.{cond_both, leb-true, true≢false}
use Rattle.refusals.specs.Refusals.{Refusal}
use Rattle.refusals.proofs.Checks.{all_hold}
use Rattle.claims.specs.declared.boxes.Span.{Span}
use Rattle.claims.specs.declared.boxes.Claim.{Claim}
use Rattle.claims.specs.declared.fixtures.Fixture.{Fixture}
use Rattle.claims.specs.declared.movers.Mover.{Mover}
use Rattle.claims.specs.Horizons.{everywhere, before, past, strips}
use Rattle.claims.specs.Limits.{Bounded, NoFaster, Sound}
use Rattle.claims.specs.Things.{near, ordered, zero_fixture, zero_mover, fixture_checks, fixture_refused, fixture_claim, mover_checks, mover_refused, MoverRanged, half_box, around, mover_claim}

none : (o : Option Refusal) → is_some o ≡ false → o ≡ None
none None e = refl
none (Some r) e = absurd (true≢false e)

near_both : (z : ℤ) → near z ≡ true → (neg_ℤ (pos 2000000000000) ≤ℤ z) × (z ≤ℤ pos 2000000000000)
near_both z e = (grind (arith, ints), grind (arith, ints))

in_order : (x y : Span) → (ordered x && ordered y) ≡ true → (x.low ≤ℤ x.high) × (y.low ≤ℤ y.high)
in_order x y e = (grind (arith, ints), grind (arith, ints))

bounded : (s : Span) → near s.low ≡ true → near s.high ≡ true → s.low ≤ℤ s.high → Bounded s
bounded s l h up =
    let low = near_both s.low l in
    let high = near_both s.high h in
    record { least = omega (arith, ints); ordered = up; most = omega (arith, ints) }

fixed : Fixture → Claim
fixed t = record { label = t.label; x = t.x; y = t.y; speed = 0 }

fixture_stands : (f : Fixture) → fixture_refused f ≡ None → Sound (fixed f)
unfolding fixed
fixture_stands f e =
    let p = all_hold (fixture_checks f) e in
    let o = in_order f.x f.y p.1.1.1.1.0 in
    record { x = bounded f.x p.0 p.1.0 o.0; y = bounded f.y p.1.1.0 p.1.1.1.0 o.1; speed = omega arith }

pub fixture_sound : (f : Fixture) → Sound (fixture_claim f)
unfolding fixed
fixture_sound f =
    cond_both (is_some (fixture_refused f)) _ f (λ t. Sound (fixed t))
    (λ _. fixture_stands zero_fixture refl)
    (λ e. fixture_stands f (none (fixture_refused f) e))

pub fixture_slow : (f : Fixture) → NoFaster 0 (fixture_claim f)
fixture_slow f = omega arith

-- what lies around a place that is near
pub around_bounded : (z : ℤ) (n : ℕ) → near z ≡ true → n ≤ 2000000000000 → Bounded (around z n)
around_bounded z n b h =
    let i = near_both z b in
    record { least = omega (arith, ints); ordered = omega (arith, ints); most = omega (arith, ints) }

-- the numbers of a mover that is not refused are in their ranges
pub mover_ranged : (m : Mover) → mover_refused m ≡ None → MoverRanged m
mover_ranged m e =
    let p = all_hold (mover_checks m) e in
    let x = near_both m.x p.0 in
    let y = near_both m.y p.1.0 in
    record {
      x_least = x.0;
      x_most = x.1;
      y_least = y.0;
      y_most = y.1;
      half_side = leb-true m.half_side 10000000000 p.1.1.0;
      error = leb-true m.error 10000000000 p.1.1.1.0;
      speed = leb-true m.speed 20000000 p.1.1.1.1.0;
      age = leb-true m.age 1000 p.1.1.1.1.1.0;
    }

moved : Mover → Claim
moved t = record { label = t.label; x = around t.x (half_box t); y = around t.y (half_box t); speed = t.speed }

mover_stands : (m : Mover) → mover_refused m ≡ None → Sound (moved m)
unfolding moved
mover_stands m e =
    let p = all_hold (mover_checks m) e in
    let r = mover_ranged m e in
    let half : half_box m ≤ 40000000000 = omega (arith, mul-le m.speed m.age 20000000 1000 r.speed r.age, r.half_side, r.error) in
    record { x = around_bounded m.x (half_box m) p.0 (omega arith); y = around_bounded m.y (half_box m) p.1.0 (omega arith); speed = r.speed }

pub mover_sound : (m : Mover) → Sound (mover_claim m)
unfolding moved
mover_sound m =
    cond_both (is_some (mover_refused m)) _ m (λ t. Sound (moved t))
    (λ _. mover_stands zero_mover refl)
    (λ e. mover_stands m (none (mover_refused m) e))

pub mover_slow : (m : Mover) → NoFaster 20000000 (mover_claim m)
mover_slow m = (mover_sound m).speed

everywhere_bounded : Bounded everywhere
everywhere_bounded = record { least = omega (arith, ints); ordered = omega (arith, ints); most = omega (arith, ints) }

before_bounded : (s : Span) → near s.low ≡ true → Bounded (before s)
before_bounded s b =
    let i = near_both s.low b in
    record { least = omega (arith, ints); ordered = omega (arith, ints); most = omega (arith, ints) }

past_bounded : (s : Span) → near s.high ≡ true → Bounded (past s)
past_bounded s b =
    let i = near_both s.high b in
    record { least = omega (arith, ints); ordered = omega (arith, ints); most = omega (arith, ints) }

pub strips_sound : (x y : Span) (speed : ℕ) → near x.low ≡ true → near x.high ≡ true → near y.low ≡ true → near y.high ≡ true → speed ≤ 20000000 → AllByRecursion Sound (strips x y speed)
strips_sound x y speed xl xh yl yh slow = (
  record { x = before_bounded x xl; y = everywhere_bounded; speed = slow },
  (
    record { x = past_bounded x xh; y = everywhere_bounded; speed = slow },
    (
      record { x = everywhere_bounded; y = before_bounded y yl; speed = slow },
      (record { x = everywhere_bounded; y = past_bounded y yh; speed = slow }, tt),
    ),
  ),
)

-- the claims of things whose claims are sound
pub rows_sound : {X : Type 0} (claim : X → Claim) → ((x : X) → Sound (claim x)) → (xs : List X) → AllByRecursion Sound (map claim xs)
rows_sound claim sound [] = tt
rows_sound claim sound (x ∷ xs) = (sound x, rows_sound claim sound xs)

-- one list and then another
pub append_sound : (xs ys : List Claim) → AllByRecursion Sound xs → AllByRecursion Sound ys → AllByRecursion Sound (xs ++ ys)
append_sound xs ys p q = All-append Sound xs ys p q
