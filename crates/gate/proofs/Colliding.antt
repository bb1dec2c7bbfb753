-- The world that justifies a refusal as blocked: the cart goes as fast as it may towards a point in both its reach and the claim. Assumes nothing.
use Rattle.std.proofs.Common.{◌≡◌, ℕ, suc, ◌+◌, ◌-◌, ◌<◌, ◌≤◌, cond, eqb, ◌⊎◌, [], ◌∷◌, ℤ, pos, ◌+ℤ◌, ◌-ℤ◌, neg_ℤ, nat_abs, ◌≤ℤ◌, Some, sym, refl, ap, ◌∙◌, subst, inl, inr, ⊎_elim, zero-add, arith}
use Rattle.std.specs.Int.{int_max, int_min}
use Rattle.std.specs.List.{AllByRecursion, Contains}
use Rattle.std.proofs.lemmas.List.Elements.{All-contains, All-from_recursion, Contains-append_left, Contains-append_right, Contains-push}
use Rattle.std.proofs.lemmas.Int.{ints, clamps}
use Rattle.std.proofs.lemmas.Bool.{cases_lt}
use Rattle.plates.specs.declared.plates.Plate.{Plate}
use Rattle.runout.specs.Speeds.{changed, travelled_none, travelled_next, RunOutOf}
use Rattle.runout.specs.RunOuts.{speeds_first, speeds_held, speeds_braked}
use Rattle.runout.proofs.RunOutLaws.{run_out_right}
use Rattle.claims.specs.declared.boxes.Claim.{Claim}
use Rattle.claims.specs.Blocking.{Covers, Blocks}
use Rattle.claims.specs.Limits.{Sound}
use Rattle.claims.proofs.BlockLaws.{covers_path}
use Rattle.surroundings.specs.Asking.{FirstBlocking}
use Rattle.surroundings.proofs.AskLaws.{first_is}
use Rattle.gate.specs.declared.faults.TickFault.TheVariants.{Blocked}
use Rattle.gate.specs.Faults.{tick_fault}
use Rattle.gate.specs.Checks.{Tick, reach_from, open_refused}
use Rattle.gate.specs.World.{Near, Point, Cart, Millisecond, Measures, Touches, Collision}
use Rattle.gate.proofs.Passing.{run_of, reach_of, Stopped, stopped}
use Rattle.gate.proofs.Motion.{changed_braking, speed_at, travel_at}

-- as near to q as it can be within n of z
abbrev towards : ℤ → ℕ → ℤ → ℤ
towards z n q = int_max (z -ℤ pos n) (int_min (z +ℤ pos n) q)

towards_near : (z q : ℤ) (n m : ℕ) → m ≡ 0 → Near n z (towards z (n + m) q)
towards_near z q n m e = record { under = omega (arith, ints, clamps); over = omega (arith, ints, clamps) }

towards_step : (z q : ℤ) (p t d u : ℕ) → u ≡ t + d → Near d (towards z (p + t) q) (towards z (p + u) q)
towards_step z q p t d u e = record { under = omega (arith, ints, clamps); over = omega (arith, ints, clamps) }

-- where q is within h + p + d of z, the cart comes within h of it
towards_end : (z q : ℤ) (h p d u : ℕ) → u ≡ d → (z -ℤ pos (h + p + d)) ≤ℤ q → q ≤ℤ (z +ℤ pos (h + p + d)) → Near h (towards z (p + u) q) q
towards_end z q h p d u e a b = record { under = omega (arith, ints, clamps); over = omega (arith, ints, clamps) }

-- a drive that obeys reaches what the run-out counts with
reached : (p : Plate) (t : Tick) (i : ℕ) → speed_at p t (suc i) ≤ changed (speed_at p t i) (cond (eqb (p.hold - i) 0) (neg_ℤ (pos p.brake)) t.proposal.acceleration +ℤ pos p.drive_error)
reached p t i =
    ⊎_elim
    (λ (held : i < p.hold). rw (obeyed p.hold i t.proposal.acceleration (neg_ℤ (pos p.brake)) held) (omega (arith, speeds_held p t.measured.speed t.proposal.acceleration i held)))
    (λ (past : p.hold ≤ i). rw (over p.hold i t.proposal.acceleration (neg_ℤ (pos p.brake)) past) (omega (arith, changed_braking (speed_at p t i) p.brake p.drive_error (omega (arith, p.real_braking)), speeds_braked p t.measured.speed t.proposal.acceleration i past)))
    (cases_lt i p.hold)
  where
    obeyed : (n i : ℕ) (a b : ℤ) → i < n → cond (eqb (n - i) 0) b a ≡ a
    obeyed n i a b h = grind arith

    over : (n i : ℕ) (a b : ℤ) → n ≤ i → cond (eqb (n - i) 0) b a ≡ b
    over n i a b h = grind arith

module _ (p : Plate) (t : Tick) (claim : Claim) (sound : Sound claim) (k : Stopped p t claim) (n : ℕ) (last : (run_of p t).time ≡ suc n) (b : Blocks claim (reach_of p t)) where
  right : RunOutOf (speed_at p t) (run_of p t)
  right = run_out_right p t.measured.speed t.proposal.acceleration

  path : (px : ℕ → ℤ) × (py : ℕ → ℤ) × ((i : ℕ) → Covers claim i (px i) (py i)) × (px (run_of p t).time ≡ b.x) × (py (run_of p t).time ≡ b.y)
  unfolding reach_from
  path = covers_path claim (run_of p t).time b.x b.y sound b.covered

  cart : ℕ → Cart
  cart i = record {
    x = towards t.measured.x (p.place_error + travel_at p t i) b.x;
    y = towards t.measured.y (p.place_error + travel_at p t i) b.y;
    v = speed_at p t i;
    order = t.proposal.acceleration;
    count = p.hold - i;
  }

  point : ℕ → Point
  point i = record { x = path.0 i; y = path.1 i }

  begins : Measures p t.measured (cart 0)
  unfolding cart
  begins = record {
    place_x = towards_near t.measured.x b.x p.place_error (travel_at p t 0) (travelled_none (speed_at p t));
    place_y = towards_near t.measured.y b.y p.place_error (travel_at p t 0) (travelled_none (speed_at p t));
    speed = fast t.measured.speed p.speed_error (speed_at p t 0) k.speed (speeds_first p t.measured.speed t.proposal.acceleration);
  }
    where
      fast : (z : ℤ) (s e : ℕ) → pos 0 ≤ℤ z → e ≡ nat_abs z + s → Near s z (pos e)
      fast z s e h l = record { under = omega (arith, ints); over = omega (arith, ints) }

  passes : (i : ℕ) → Millisecond p (cart i) (cart (suc i))
  unfolding cart
  passes i = record {
    speed = reached p t i;
    place_x = towards_step t.measured.x b.x p.place_error (travel_at p t i) _ (travel_at p t (suc i)) (travelled_next (speed_at p t) i);
    place_y = towards_step t.measured.y b.y p.place_error (travel_at p t i) _ (travel_at p t (suc i)) (travelled_next (speed_at p t) i);
    order = refl;
    count = omega arith;
  }

  moves : 0 < speed_at p t n
  moves = by (cases_lt 0 (speed_at p t n))
    where
      from : speed_at p t n ≤ 0 → (i : ℕ) → n ≤ i → speed_at p t i ≡ 0
      from z i h =
          ⊎_elim
          (λ (later : n < i). right.still i (omega (arith, last)))
          (λ (now : i ≤ n). let same : i ≡ n = omega arith in omega (arith, ap (speed_at p t) same))
          (cases_lt n i)

      by : (0 < speed_at p t n) ⊎ (speed_at p t n ≤ 0) → 0 < speed_at p t n
      by (inl h) = h
      by (inr h) = absurd (omega (arith, last, right.least n (from h)))

  travelled_all : travel_at p t (suc n) ≡ (run_of p t).travel
  travelled_all = right.whole (suc n) (omega (arith, last))

  touches : Touches p (cart (suc n)) (point (suc n))
  unfolding cart point reach_from
  touches = record {
    on_x = subst (λ z. Near p.half_side (towards t.measured.x (p.place_error + travel_at p t (suc n)) b.x) z) (sym (ap path.0 (sym last) ∙ path.3)) (towards_end t.measured.x b.x p.half_side p.place_error (run_of p t).travel (travel_at p t (suc n)) travelled_all b.within_x.0 b.within_x.1);
    on_y = subst (λ z. Near p.half_side (towards t.measured.y (p.place_error + travel_at p t (suc n)) b.y) z) (sym (ap path.1 (sym last) ∙ path.4)) (towards_end t.measured.y b.y p.half_side p.place_error (run_of p t).travel (travel_at p t (suc n)) travelled_all b.within_y.0 b.within_y.1);
  }

  collision : Collision p t claim
  unfolding cart point
  collision = record {
    cart = cart;
    point = point;
    n = n;
    measured = begins;
    order = refl;
    count = omega arith;
    passes = passes;
    keeps = λ i h. subst (λ j. Covers claim i (path.0 j) (path.1 j)) (sym (zero-add i)) (path.2 i);
    moves = inl moves;
    touches = touches;
  }

pub collides : (p : Plate) (t : Tick) (claim : Claim) → AllByRecursion Sound t.claims → open_refused p t ≡ Some (tick_fault (Blocked claim)) → Collision p t claim
collides p t claim all h =
    let k = stopped p t claim h in
    let first : FirstBlocking t.claims (reach_of p t) (Some claim) = subst (FirstBlocking t.claims (reach_of p t)) k.first (first_is (reach_of p t) t.claims) in
    let has = subst (λ cs. Contains cs claim) (sym first.2) (Contains-append_right first.0 (claim ∷ first.1) claim (Contains-append_left (claim ∷ []) first.1 claim (Contains-push [] claim))) in
    let sound = All-contains Sound t.claims claim (All-from_recursion Sound t.claims all) has in
    let one : (run_of p t).time ≡ suc ((run_of p t).time - 1) = omega (arith, k.long) in
    collision p t claim sound k ((run_of p t).time - 1) one first.4
