-- What holds in every run. Assumes nothing.
use Rattle.std.proofs.Common.{◌≡◌, ℕ, suc, ◌+◌, ◌-◌, ◌<◌, ◌≤◌, List, ℤ, pos, ◌+ℤ◌, ◌-ℤ◌, neg_ℤ, ◌≤ℤ◌, Some, None, Option, sym, refl, ap, ◌∙◌, subst, inl, inr, ⊎_elim, le_trans, add-zero, add-suc, arith}
use Rattle.std.specs.List.{ContainsAt, AllByRecursion}
use Rattle.std.proofs.ByRecursion.{all-has}
use Rattle.std.proofs.lemmas.Int.{ints}
use Rattle.std.proofs.lemmas.Bool.{cases_lt}
use Rattle.refusals.specs.Refusals.{Refusal}
use Rattle.plates.specs.declared.plates.Plate.{Plate}
use Rattle.runout.specs.Speeds.{changed, RunOutOf}
use Rattle.runout.proofs.Laws.{travelled_within}
use Rattle.runout.proofs.RunOutLaws.{run_out_right}
use Rattle.claims.specs.declared.boxes.Claim.{Claim}
use Rattle.claims.specs.Blocking.{Covers}
use Rattle.claims.specs.Limits.{Sound}
use Rattle.claims.proofs.BlockLaws.{covers_later}
use Rattle.surroundings.specs.Asking.{Clear, FirstBlocking}
use Rattle.surroundings.proofs.AskLaws.{first_is}
use Rattle.gate.specs.declared.faults.TickFault.TheVariants.{Blocked}
use Rattle.gate.specs.declared.gates.Gate.{Gate}
use Rattle.gate.specs.declared.parts.Curve.{Curve}
use Rattle.gate.specs.declared.parts.Curve.TheVariants.{Straight, Arc}
use Rattle.gate.specs.declared.parts.State.{State}
use Rattle.gate.specs.declared.parts.State.TheVariants.{Open, Tripped as TrippedBy}
use Rattle.gate.specs.Faults.{tick_fault}
use Rattle.gate.specs.Checks.{Tick, reach_from, open_refused}
use Rattle.gate.specs.Gates.{refused_in, tick_refused, order_by, tick_order, left_by, release_refused, opened_by}
use Rattle.gate.specs.World.{Near, Point, Cart, used, Millisecond, Moves, Measures, Touches, Happening, tick, Accepted, World, driven, Happens, accepted, refused, released, passed, Run, start, next, Turns, SpeedKept, Untouched, Justified, Guarded}
use Rattle.gate.proofs.Passing.{run_of, reach_of}
use Rattle.gate.proofs.Motion.{changed_braking, speed_at, Bounded, bounded_more, begins}
use Rattle.gate.proofs.Colliding.{collides}

-- from the tick last accepted on; before the first the cart stands
abbrev Since : Plate → Option Accepted → Cart → ℕ → Type 0
Since p None c n = (c.v ≡ 0) × (c.count ≡ 0)
Since p (Some a) c n = (i : ℕ) × (a.at + i ≡ n) × Bounded p a.tick c i

record Known (p : Plate) (w : World) : Type 0 where
  plate : w.gate.plate ≡ p
  since : Since p w.last w.cart w.clock

open_none : (s : State) (p : Plate) (t : Tick) → refused_in s p t ≡ None → open_refused p t ≡ None
open_none Open p t h = h
open_none (TrippedBy field) p t h = cc

open_blocked : (s : State) (p : Plate) (t : Tick) (claim : Claim) → refused_in s p t ≡ Some (tick_fault (Blocked claim)) → open_refused p t ≡ Some (tick_fault (Blocked claim))
open_blocked Open p t claim h = h
open_blocked (TrippedBy field) p t claim h = absurd (grind arith)

left_plate : (g : Gate) (t : Tick) (o : Option Refusal) → (left_by g t o).plate ≡ g.plate
left_plate g t None = refl
left_plate g t (Some r) = refl

opened_plate : (g : Gate) (o : Option Refusal) → (opened_by g o).plate ≡ g.plate
opened_plate g None = refl
opened_plate g (Some r) = refl

braked_since : (p : Plate) (last : Option Accepted) (c : Cart) (o : ℤ) (n : ℕ) → Since p last c n → Since p last (driven c o 0) n
braked_since p None c o n h = (h.0, refl)
braked_since p (Some a) c o n h =
    (h.0, h.1, record { passes = h.2.passes; speed = h.2.speed; on_x = h.2.on_x; on_y = h.2.on_y; held = inl refl })

-- a cart at rest under the brake stays at rest
stands : (p : Plate) (c c' : Cart) → c.v ≡ 0 → c.count ≡ 0 → Millisecond p c c' → c'.v ≡ 0
stands p c c' h k s =
    let brake : used p c ≡ neg_ℤ (pos p.brake) = grind arith in
    let most : changed c.v (used p c +ℤ pos p.drive_error) ≡ c.v - (p.brake - p.drive_error) = ap (λ o. changed c.v (o +ℤ pos p.drive_error)) brake ∙ changed_braking c.v p.brake p.drive_error (omega (arith, p.real_braking)) in
    omega (arith, s.speed)

later_since : (p : Plate) (last : Option Accepted) (c c' : Cart) (n : ℕ) → Since p last c n → Millisecond p c c' → Since p last c' (suc n)
later_since p None c c' n h s = (stands p c c' h.0 h.1 s, omega (arith, s.count, h.1))
later_since p (Some a) c c' n h s = (suc h.0, rw add-suc (ap suc h.1), bounded_more p a.tick c c' h.0 h.2 s)

-- one thing more
known_next : (p : Plate) {w w' : World} {h : Happening} → Known p w → Happens w h w' → Known p w'
known_next p {w} k (accepted t none q) = record {
  plate = left_plate w.gate t (tick_refused w.gate t) ∙ k.plate;
  since = (
    0,
    add-zero _,
    subst (λ x. Bounded p t (driven w.cart t.proposal.acceleration x.hold) 0) (sym k.plate)
        (begins p t w.cart (subst (λ x. open_refused x t ≡ None) k.plate (open_none w.gate.state w.gate.plate t none)) (subst (λ x. Measures x t.measured w.cart) k.plate q)),
  );
}
known_next p {w} k (refused t r some) = record {
  plate = left_plate w.gate t (tick_refused w.gate t) ∙ k.plate;
  since = braked_since p w.last w.cart _ w.clock k.since;
}
known_next p {w} k (released q) = record { plate = opened_plate w.gate (release_refused w.gate q) ∙ k.plate; since = k.since }
known_next p {w} k (passed c s) = record {
  plate = k.plate;
  since = later_since p w.last w.cart c w.clock k.since (subst (λ x. Millisecond x w.cart c) k.plate s);
}

known : (g : Gate) {hs : List Happening} {w : World} → Run g hs w → Known g.plate w
known g (start x y) = record { plate = refl; since = (refl, refl) }
known g (next r h) = known_next g.plate (known g r) h

-- speeds
right_of : (p : Plate) (t : Tick) → RunOutOf (speed_at p t) (run_of p t)
right_of p t = run_out_right p t.measured.speed t.proposal.acceleration

turns_less : (p : Plate) (c : Curve) (v w : ℕ) → w ≤ v → Turns p c v → Turns p c w
turns_less p Straight v w h k = tt
turns_less p (Arc radius) v w h k = le_trans h k

slow : (p : Plate) (last : Option Accepted) (c : Cart) (n : ℕ) → Since p last c n → SpeedKept p last c.v
slow p None c n h = record { top = omega (arith, h.0); turn = tt }
slow p (Some a) c n h =
    let b = h.2 in
    let peak = le_trans b.speed ((right_of p a.tick).highest h.0) in
    record { top = le_trans peak b.passes.top; turn = turns_less p a.tick.proposal.curve _ c.v peak b.passes.turn }

-- places: a point that touches the cart is in the reach
in_reach : (z x y : ℤ) (h p t d : ℕ) → Near (p + t) z x → Near h x y → t ≤ d → ((z -ℤ pos (h + p + d)) ≤ℤ y) × (y ≤ℤ (z +ℤ pos (h + p + d)))
in_reach z x y h p t d a b k = (omega (arith, ints), omega (arith, ints))

no_touch : (p : Plate) (t : Tick) (c : Cart) (i : ℕ) → Bounded p t c i → i ≤ (run_of p t).time → 0 < (run_of p t).time → (claim : Claim) → ContainsAt t.claims claim → (point : Point) → Covers claim i point.x point.y → Touches p c point → ⊥
unfolding reach_from
no_touch p t c i b short long claim has point covered touch =
    let free : FirstBlocking t.claims (reach_of p t) None = subst (FirstBlocking t.claims (reach_of p t)) (b.passes.clear long) (first_is (reach_of p t) t.claims) in
    let far = travelled_within (right_of p t) i in
    all-has (Clear (reach_of p t)) t.claims claim free has (record {
      x = point.x;
      y = point.y;
      covered = covers_later claim i (run_of p t).time point.x point.y short covered;
      within_x = in_reach _ _ _ _ _ _ _ b.on_x touch.on_x far;
      within_y = in_reach _ _ _ _ _ _ _ b.on_y touch.on_y far;
    })

-- while the cart moves the run-out's time is not over
moving : (p : Plate) (t : Tick) (c c' : Cart) (i : ℕ) → Bounded p t c i → Bounded p t c' (suc i) → Moves c c' → suc i ≤ (run_of p t).time
moving p t c c' i b b' m = ⊎_elim (λ (h : i < (run_of p t).time). h) (λ (h : (run_of p t).time ≤ i). absurd (still h m)) (cases_lt i (run_of p t).time)
  where
    still : (run_of p t).time ≤ i → Moves c c' → ⊥
    still h (inl k) = omega (arith, b.speed, (right_of p t).still i h)
    still h (inr k) = omega (arith, b'.speed, (right_of p t).still (suc i) (omega arith))

untouched_at : (p : Plate) (a : Accepted) (c : Cart) (n i : ℕ) → a.at + i ≡ n → Bounded p a.tick c i → i ≤ (run_of p a.tick).time → 0 < (run_of p a.tick).time → Untouched p (Some a) c n
untouched_at p a c n i at b short long claim has point keeps touch =
    no_touch p a.tick c i b short long claim has (point n) (subst (λ x. Covers claim i (point x).x (point x).y) at (keeps i (omega arith))) touch

clear_of : (p : Plate) (last : Option Accepted) (c c' : Cart) (n : ℕ) → Since p last c n → Millisecond p c c' → Moves c c' → Untouched p last c n × Untouched p last c' (suc n)
clear_of p None c c' n h s m = (tt, tt)
clear_of p (Some a) c c' n h s m =
    let b' = bounded_more p a.tick c c' h.0 h.2 s in
    let short : suc h.0 ≤ (run_of p a.tick).time = moving p a.tick c c' h.0 h.2 b' m in (
      untouched_at p a c n h.0 h.1 h.2 (omega arith) (omega arith),
      untouched_at p a c' (suc n) (suc h.0) (rw add-suc (ap suc h.1)) b' short (omega arith),
    )

pub justify : (g : Gate) (t : Tick) → AllByRecursion Sound t.claims → Justified g t
justify g t all claim h = collides g.plate t claim all (open_blocked g.state g.plate t claim h)

-- the order that a tick sets
told : {w w' : World} {t : Tick} → Happens w (tick t) w' → w'.cart.order ≡ (tick_order w.gate t).acceleration
told {w} (accepted t none q) = sym (ap (λ o. (order_by w.gate t o).acceleration) none)
told {w} (refused t r some) = sym (ap (λ o. (order_by w.gate t o).acceleration) some)

-- everything can happen
can_tick : (w : World) (t : Tick) (o : Option Refusal) → tick_refused w.gate t ≡ o → (tick_refused w.gate t ≡ None → Measures w.gate.plate t.measured w.cart) → (w' : World) × Happens w (tick t) w'
can_tick w t None e q = (_, accepted t e (q e))
can_tick w t (Some r) e q = (_, refused t r e)

idle : (p : Plate) (c : Cart) → Millisecond p c (record { x = c.x; y = c.y; v = 0; order = c.order; count = c.count - 1 })
idle p c = record {
  speed = omega arith;
  place_x = record { under = omega (arith, ints); over = omega (arith, ints) };
  place_y = record { under = omega (arith, ints); over = omega (arith, ints) };
  order = refl;
  count = refl;
}

pub guarded : (g : Gate) → Guarded g
guarded g = record {
  untouched = λ hs w c r s m. clear_of g.plate w.last w.cart c w.clock (known g r).since s m;
  speeds = λ hs w c r s. (slow g.plate w.last w.cart w.clock (known g r).since, slow g.plate w.last c (suc w.clock) (later_since g.plate w.last w.cart c w.clock (known g r).since s));
  justified = λ hs w r t all. justify w.gate t all;
  told = λ hs w w' t r h. told h;
  plate = λ hs w r. (known g r).plate;
  ticks = λ hs w r t q. can_tick w t (tick_refused w.gate t) refl (λ e. subst (λ x. Measures x t.measured w.cart) (sym (known g r).plate) (q e));
  releases = λ hs w r q. (_, released q);
  passes = λ hs w r. (_, passed _ (idle w.gate.plate w.cart));
}
