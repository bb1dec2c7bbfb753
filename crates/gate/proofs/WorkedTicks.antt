-- The worked ticks are right: the checks are computed at each row, by the run-out's closed formula and by the edges of claims. Assumes nothing.
use Rattle.std.proofs.Common.{◌≡◌, ℕ, ◌+◌, ◌*◌, Bool, true, cond, ◌&&◌, eqb, leb, List, [], ◌∷◌, map, pos, ◌+ℤ◌, ◌-ℤ◌, neg_ℤ, nat_abs, Some, None, Option, refl, ap, ◌∙◌, subst}
use mathlib.Core.Path.{fun_ext}
use lib.Signed.{le_z}
use Rattle.std.specs.Option.{option_map}
use Rattle.std.specs.List.{AllByRecursion}
use Rattle.refusals.specs.Refusals.{Refusal}
use Rattle.refusals.specs.Answers.{first_of, or_else}
use Rattle.plates.specs.declared.fields.PlateFields.{PlateFields}
use Rattle.plates.specs.declared.plates.Plate.{Plate}
use Rattle.plates.specs.Fields.{first_outside}
use Rattle.plates.specs.Plates.{plate_refused, held}
use Rattle.runout.specs.declared.run_outs.RunOut.{RunOut}
use Rattle.runout.specs.RunOuts.{run_out}
use Rattle.runout.proofs.WorkedSums.{by_formula, computes}
use Rattle.claims.specs.declared.boxes.Claim.{Claim}
use Rattle.claims.specs.declared.boxes.Reach.{Reach}
use Rattle.claims.specs.Blocking.{edges_meet, blocks_edges}
use Rattle.surroundings.specs.Asking.{first_blocking, first_none, first_next}
use Rattle.gate.specs.declared.faults.TickFault.TheVariants.{Measured, Acceleration, Radius, TopSpeed, TurnLimit, Blocked}
use Rattle.gate.specs.declared.parts.Curve.{Curve}
use Rattle.gate.specs.declared.parts.Curve.TheVariants.{Straight, Arc}
use Rattle.gate.specs.declared.parts.Measurement.{Measurement}
use Rattle.gate.specs.declared.sums.WorkedTick.{WorkedTick}
use Rattle.gate.specs.Faults.{tick_fault}
use Rattle.gate.specs.Checks.{Tick, bad_field, radius_allowed, turn_allowed, reach_from, blocked, run_out_checked, open_refused}
use Rattle.gate.specs.WorkedTicks.{worked_ticks, tick_of, number_of, RightTick}

-- the first claim that blocks, by edges
abbrev edges_first : List Claim → Reach → Option Claim
edges_first [] r = None
edges_first (c ∷ cs) r = cond (edges_meet c r) (Some c) (edges_first cs r)

same_first : (cs : List Claim) (r : Reach) → first_blocking cs r ≡ edges_first cs r
same_first [] r = first_none r
same_first (c ∷ cs) r = first_next r c cs ∙ ap (λ b. cond b (Some c) (first_blocking cs r)) (blocks_edges c r) ∙ ap (λ o. cond (edges_meet c r) (Some c) o) (same_first cs r)

-- the checks over the numbers of a plate, a run-out, and what answers the question
abbrev turn_by : ℕ → Curve → ℕ → Bool
turn_by limit Straight v = true
turn_by limit (Arc radius) v = leb v (limit * nat_abs radius)

abbrev reach_by : (half place : ℕ) → Measurement → RunOut → Reach
reach_by half place q out =
    let s : ℕ = half + place + out.travel in
    record {
      x = record { low = q.x -ℤ pos s; high = q.x +ℤ pos s };
      y = record { low = q.y -ℤ pos s; high = q.y +ℤ pos s };
      time = out.time;
    }

abbrev rules : (brake pull top limit half place : ℕ) → Tick → RunOut → (Reach → Option Claim) → Option Refusal
rules brake pull top limit half place t out first =
    or_else (option_map (λ field. tick_fault (Measured field)) (bad_field t.measured))
    (or_else (first_of ((le_z (neg_ℤ (pos brake)) t.proposal.acceleration && le_z t.proposal.acceleration (pos pull), tick_fault Acceleration) ∷ []))
    (or_else
    (first_of (
    (radius_allowed t.proposal.curve, tick_fault Radius) ∷
    (leb out.peak top, tick_fault TopSpeed) ∷
    (turn_by limit t.proposal.curve out.peak, tick_fault TurnLimit) ∷ []))
    (cond (eqb out.time 0) None (option_map (λ claim. tick_fault (Blocked claim)) (first (reach_by half place t.measured out))))))

abbrev by_rules : PlateFields → Tick → Option Refusal
by_rules f t =
    rules (nat_abs f.brake) (nat_abs f.pull) (nat_abs f.top_speed) (nat_abs f.turn_limit) (nat_abs f.half_side) (nat_abs f.place_error) t
    (by_formula f t.measured.speed t.proposal.acceleration) (edges_first t.claims)

same_turn : (p : Plate) (c : Curve) (v : ℕ) → turn_allowed p c v ≡ turn_by p.turn_limit c v
same_turn p Straight v = refl
same_turn p (Arc radius) v = refl

module _ (p : Plate) (t : Tick) where
  abbrev out : RunOut
  out = run_out p t.measured.speed t.proposal.acceleration

  spelt : open_refused p t ≡ rules p.brake p.pull p.top_speed p.turn_limit p.half_side p.place_error t out (first_blocking t.claims)
  unfolding open_refused run_out_checked blocked reach_from
  spelt = rw (same_turn p t.proposal.curve out.peak)

  ruled : (f : PlateFields) → held p ≡ f → open_refused p t ≡ by_rules f t
  ruled f holds =
      subst (λ f. open_refused p t ≡ by_rules f t) holds (
      spelt ∙
      ap (λ first. rules p.brake p.pull p.top_speed p.turn_limit p.half_side p.place_error t out first) (fun_ext (same_first t.claims)) ∙
      ap (λ o. rules p.brake p.pull p.top_speed p.turn_limit p.half_side p.place_error t o (edges_first t.claims)) (computes p t.measured.speed t.proposal.acceleration (held p) refl).1
      )

-- what is computed of a row, and what it should be
abbrev found : WorkedTick → Option Refusal × (RunOut × Option ℕ)
found s = (plate_refused s.fields, (by_formula s.fields s.measured.speed s.proposal.acceleration, number_of (by_rules s.fields (tick_of s))))

abbrev wanted : WorkedTick → Option Refusal × (RunOut × Option ℕ)
wanted s = (None, (s.out, s.refused))

right : (s : WorkedTick) → found s ≡ wanted s → RightTick s
right s same = (
  ap (λ x. x.0) same,
  λ p holds. (
    (computes p s.measured.speed s.proposal.acceleration s.fields holds).1 ∙ ap (λ x. x.1.0) same,
    ap number_of (ruled p (tick_of s) s.fields holds) ∙ ap (λ x. x.1.1) same,
  ),
)

all_right : (ss : List WorkedTick) → map found ss ≡ map wanted ss → AllByRecursion RightTick ss
all_right [] same = tt
all_right (s ∷ ss) same =
    let first : found s ≡ wanted s = cc in
    let others : map found ss ≡ map wanted ss = cc in
    (right s first, all_right ss others)

pub ticks_right : AllByRecursion RightTick worked_ticks
unfolding first_outside
ticks_right = all_right worked_ticks refl
