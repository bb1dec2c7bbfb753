-- Where the cart may be, and how fast, i ms after an accepted tick. Assumes nothing.
use Rattle.std.proofs.Common.{◌≡◌, ℕ, zero, suc, ◌+◌, ◌-◌, ◌<◌, ◌≤◌, max, cond, eqb, ◌⊎◌, ℤ, pos, negsuc, ◌+ℤ◌, neg_ℤ, nat_abs, ◌≤ℤ◌, None, sym, refl, ◌∙◌, subst, inl, inr, ⊎_elim, le_trans, add-zero, arith}
use lib.Dec.{eqb-suc-zero}
use borrow.Author.Differences.{up, down}
use Rattle.std.proofs.lemmas.Int.{ints}
use Rattle.std.proofs.lemmas.Bool.{cases_lt}
use Rattle.plates.specs.declared.plates.Plate.{Plate}
use Rattle.runout.specs.Speeds.{changed, travelled, travelled_none, travelled_next}
use Rattle.runout.specs.RunOuts.{speeds, speeds_first, speeds_held, speeds_braked}
use Rattle.gate.specs.Checks.{Tick, open_refused}
use Rattle.gate.specs.World.{Near, Cart, used, Millisecond, Measures, driven}
use Rattle.gate.proofs.Passing.{Passed, passed}

-- the larger of 0 and v + z, as `omega` reads z
pub changed_is : (v : ℕ) (z : ℤ) → changed v z ≡ (v + up z) - down z
changed_is v (pos n) = omega arith
changed_is v (negsuc n) = omega arith

changed_more : (v w : ℕ) (g h : ℤ) → v ≤ w → g ≤ℤ h → changed v g ≤ changed w h
changed_more v w g h k l = omega (arith, ints, changed_is v g, changed_is w h)

pub changed_braking : (v b d : ℕ) → d ≤ b → changed v (neg_ℤ (pos b) +ℤ pos d) ≡ v - (b - d)
changed_braking v b d h = omega (arith, ints, changed_is v (neg_ℤ (pos b) +ℤ pos d))

-- the highest speed of a tick's run-out at the ms i, and its travel until then
abbrev pub speed_at : Plate → Tick → ℕ → ℕ
speed_at p t = speeds p t.measured.speed t.proposal.acceleration

abbrev pub travel_at : Plate → Tick → ℕ → ℕ
travel_at p t = travelled (speed_at p t)

-- the cart i ms after the accepted tick t
pub record Bounded (p : Plate) (t : Tick) (c : Cart) (i : ℕ) : Type 0 where
  pub passes : Passed p t
  pub speed : c.v ≤ speed_at p t i
  pub on_x : Near (p.place_error + travel_at p t i) t.measured.x c.x
  pub on_y : Near (p.place_error + travel_at p t i) t.measured.y c.y
  pub held : (c.count ≡ 0) ⊎ ((c.order ≡ t.proposal.acceleration) × (c.count + i ≡ p.hold))

-- neither the order nor the brake gives more than the run-out counts with
held_most : (p : Plate) (t : Tick) (i v : ℕ) (a : ℤ) → i < p.hold → v ≤ speed_at p t i → a ≤ℤ t.proposal.acceleration → changed v (a +ℤ pos p.drive_error) ≤ speed_at p t (suc i)
held_most p t i v a h k l =
    let step = speeds_held p t.measured.speed t.proposal.acceleration i h in
    let most = changed_more v (speed_at p t i) (a +ℤ pos p.drive_error) (t.proposal.acceleration +ℤ pos p.drive_error) k (omega (arith, ints)) in
    omega (arith, step)

brake_most : (p : Plate) (t : Tick) (i v : ℕ) → neg_ℤ (pos p.brake) ≤ℤ t.proposal.acceleration → v ≤ speed_at p t i → changed v (neg_ℤ (pos p.brake) +ℤ pos p.drive_error) ≤ speed_at p t (suc i)
brake_most p t i v h k =
    ⊎_elim
    (λ (held : i < p.hold). held_most p t i v (neg_ℤ (pos p.brake)) held k h)
    (λ (past : p.hold ≤ i). omega (arith, changed_braking v p.brake p.drive_error (omega (arith, p.real_braking)), speeds_braked p t.measured.speed t.proposal.acceleration i past))
    (cases_lt i p.hold)

fastest_most : (p : Plate) (t : Tick) (c : Cart) (i : ℕ) → Bounded p t c i → changed c.v (used p c +ℤ pos p.drive_error) ≤ speed_at p t (suc i)
fastest_most p t c i b = by c.count b.held
  where
    by : (n : ℕ) → (n ≡ 0) ⊎ ((c.order ≡ t.proposal.acceleration) × (n + i ≡ p.hold)) → changed c.v (cond (eqb n 0) (neg_ℤ (pos p.brake)) c.order +ℤ pos p.drive_error) ≤ speed_at p t (suc i)
    by zero h = brake_most p t i c.v b.passes.brake b.speed
    by (suc n) (inl h) = absurd (omega arith)
    by (suc n) (inr h) = rw (eqb-suc-zero n) (held_most p t i c.v c.order (omega arith) b.speed (omega (arith, ints, h.0)))

near_more : (p n d r : ℕ) (z a b : ℤ) → Near (p + n) z a → Near d a b → d ≤ r → Near (p + (n + r)) z b
near_more p n d r z a b h k l = record { under = omega (arith, ints); over = omega (arith, ints) }

-- one ms more
pub bounded_more : (p : Plate) (t : Tick) (c c' : Cart) (i : ℕ) → Bounded p t c i → Millisecond p c c' → Bounded p t c' (suc i)
bounded_more p t c c' i b s =
    let v : c'.v ≤ speed_at p t (suc i) = le_trans s.speed (fastest_most p t c i b) in
    let far : max c.v c'.v ≤ max (speed_at p t i) (speed_at p t (suc i)) = omega (arith, b.speed, v) in
    let more = sym (travelled_next (speed_at p t) i) in
    record {
      passes = b.passes;
      speed = v;
      on_x = subst (λ d. Near (p.place_error + d) t.measured.x c'.x) more (near_more _ _ _ _ _ _ _ b.on_x s.place_x far);
      on_y = subst (λ d. Near (p.place_error + d) t.measured.y c'.y) more (near_more _ _ _ _ _ _ _ b.on_y s.place_y far);
      held = still b.held (cases_lt 0 c.count);
    }
  where
    still : (c.count ≡ 0) ⊎ ((c.order ≡ t.proposal.acceleration) × (c.count + i ≡ p.hold)) → (0 < c.count) ⊎ (c.count ≤ 0) → (c'.count ≡ 0) ⊎ ((c'.order ≡ t.proposal.acceleration) × (c'.count + suc i ≡ p.hold))
    still (inl h) k = inl (omega (arith, s.count))
    still (inr h) (inr k) = inl (omega (arith, s.count))
    still (inr h) (inl k) = inr (s.order ∙ h.0, omega (arith, s.count, h.1))

-- a tick that is accepted
pub begins : (p : Plate) (t : Tick) (c : Cart) → open_refused p t ≡ None → Measures p t.measured c → Bounded p t (driven c t.proposal.acceleration p.hold) 0
begins p t c h q =
    let k = passed p t h in
    record {
      passes = k;
      speed = fast t.measured.speed c.v p.speed_error (speed_at p t 0) k.speed q.speed (speeds_first p t.measured.speed t.proposal.acceleration);
      on_x = here (travel_at p t 0) (travelled_none (speed_at p t)) q.place_x;
      on_y = here (travel_at p t 0) (travelled_none (speed_at p t)) q.place_y;
      held = inr (refl, add-zero p.hold);
    }
  where
    fast : (m : ℤ) (v s e : ℕ) → pos 0 ≤ℤ m → Near s m (pos v) → e ≡ nat_abs m + s → v ≤ e
    fast m v s e h k l = omega (arith, ints)

    here : (d : ℕ) → d ≡ 0 → {a b : ℤ} → Near p.place_error a b → Near (p.place_error + d) a b
    here d e {a} {b} h = record { under = omega (arith, ints); over = omega (arith, ints) }
