-- What is known of a tick that passes every check, and of one that is refused as blocked. Assumes nothing.
use Rattle.std.proofs.Common.{◌≡◌, ℕ, ◌*◌, ◌<◌, ◌≤◌, true, pos, neg_ℤ, nat_abs, ◌≤ℤ◌, Some, None, arith}
use Rattle.std.proofs.lemmas.Int.{ints}
use Rattle.std.proofs.lemmas.Bool.{leb-true}
use Rattle.std.proofs.lemmas.Bool.Decides.{nat_tests}
use Rattle.plates.specs.declared.plates.Plate.{Plate}
use Rattle.runout.specs.declared.run_outs.RunOut.{RunOut}
use Rattle.runout.specs.RunOuts.{run_out}
use Rattle.claims.specs.declared.boxes.Claim.{Claim}
use Rattle.claims.specs.declared.boxes.Reach.{Reach}
use Rattle.surroundings.specs.Asking.{first_blocking}
use Rattle.gate.specs.declared.faults.TickFault.TheVariants.{Blocked}
use Rattle.gate.specs.declared.parts.Curve.{Curve}
use Rattle.gate.specs.declared.parts.Curve.TheVariants.{Straight, Arc}
use Rattle.gate.specs.Faults.{tick_fault}
use Rattle.gate.specs.Checks.{Tick, turn_allowed, reach_from, blocked, run_out_checked, open_refused}
use Rattle.gate.specs.World.{Turns}

-- the run-out of a tick, and its reach
abbrev pub run_of : Plate → Tick → RunOut
run_of p t = run_out p t.measured.speed t.proposal.acceleration

abbrev pub reach_of : Plate → Tick → Reach
reach_of p t = reach_from p t.measured (run_of p t)

pub record Passed (p : Plate) (t : Tick) : Type 0 where
  pub speed : pos 0 ≤ℤ t.measured.speed
  pub brake : neg_ℤ (pos p.brake) ≤ℤ t.proposal.acceleration
  pub top : (run_of p t).peak ≤ p.top_speed
  pub turn : Turns p t.proposal.curve (run_of p t).peak
  pub clear : 0 < (run_of p t).time → first_blocking t.claims (reach_of p t) ≡ None

pub record Stopped (p : Plate) (t : Tick) (claim : Claim) : Type 0 where
  pub speed : pos 0 ≤ℤ t.measured.speed
  pub long : 0 < (run_of p t).time
  pub first : first_blocking t.claims (reach_of p t) ≡ Some claim

turns : (p : Plate) (c : Curve) (v : ℕ) → turn_allowed p c v ≡ true → Turns p c v
turns p Straight v h = tt
turns p (Arc radius) v h = leb-true v (p.turn_limit * nat_abs radius) h

allowed : (p : Plate) (t : Tick) → open_refused p t ≡ None → turn_allowed p t.proposal.curve (run_of p t).peak ≡ true
unfolding open_refused run_out_checked blocked
allowed p t h = grind arith

pub passed : (p : Plate) (t : Tick) → open_refused p t ≡ None → Passed p t
unfolding open_refused run_out_checked blocked reach_from
passed p t h = record {
  speed = grind (arith, ints);
  brake = grind (arith, ints);
  top = grind arith;
  turn = turns p t.proposal.curve (run_of p t).peak (allowed p t h);
  clear = λ long. grind (arith, nat_tests);
}

pub stopped : (p : Plate) (t : Tick) (claim : Claim) → open_refused p t ≡ Some (tick_fault (Blocked claim)) → Stopped p t claim
unfolding open_refused run_out_checked blocked reach_from
stopped p t claim h = record {
  speed = grind (arith, ints);
  long = grind (arith, nat_tests);
  first = grind (arith, nat_tests);
}
