-- The worked sums are right: the closed formula is computed at each row. Assumes nothing.
use Rattle.std.proofs.Common.{◌≡◌, ℕ, suc, ◌+◌, ◌-◌, ◌<◌, List, [], ◌∷◌, map, ℤ, pos, negsuc, ◌+ℤ◌, nat_abs, None, Option, sym, refl, ap, ◌∙◌, subst, arith}
use Rattle.std.specs.List.{AllByRecursion}
use Rattle.refusals.specs.Refusals.{Refusal}
use Rattle.plates.specs.declared.fields.PlateFields.{PlateFields}
use Rattle.runout.specs.declared.run_outs.RunOut.{RunOut}
use Rattle.plates.specs.declared.plates.Plate.{Plate}
use Rattle.runout.specs.declared.sums.WorkedSum.{WorkedSum}
use Rattle.plates.specs.Fields.{first_outside}
use Rattle.runout.specs.Formulas.{rise_formula, fall_formula}
use Rattle.plates.specs.Plates.{plate_refused, held}
use Rattle.runout.specs.RunOuts.{course, braking, limits_refused, run_out_refused, run_out}
use Rattle.runout.specs.Speeds.{RunOutOf}
use Rattle.runout.specs.WorkedSums.{worked_sums, Right}
use Rattle.runout.proofs.Closed.{rise_right, fall_right}
use Rattle.runout.proofs.Composed.{run_out_named}

-- the closed formula, by the sign of the change in the hold
abbrev formula : (hold : ℕ) (g : ℤ) (b v : ℕ) → RunOut
formula hold (pos step) b v = rise_formula hold step b v
formula hold (negsuc less) b v = fall_formula hold (suc less) b v

formula_right : (hold : ℕ) (g : ℤ) (b v : ℕ) → 0 < b → RunOutOf (course hold g b v) (formula hold g b v)
formula_right hold (pos step) b v brakes = rise_right hold step b v brakes
formula_right hold (negsuc less) b v brakes = fall_right hold (suc less) b v brakes (omega arith)

-- the same over the numbers of a plate, as they are given
abbrev pub by_formula : PlateFields → ℤ → ℤ → RunOut
by_formula f m a = formula (nat_abs f.hold) (a +ℤ f.drive_error) (nat_abs f.brake - nat_abs f.drive_error) (nat_abs m + nat_abs f.speed_error)

-- what is refused of a speed and an acceleration, over the same numbers
abbrev pub by_limits : PlateFields → ℤ → ℤ → Option Refusal
by_limits f m a = limits_refused (nat_abs f.brake) (nat_abs f.pull) m a

-- a plate that holds these numbers
module _ (p : Plate) (m a : ℤ) where
  -- what is refused, and the run-out, by the closed formula
  pub computes : (f : PlateFields) → held p ≡ f → (run_out_refused p m a ≡ by_limits f m a) × (run_out p m a ≡ by_formula f m a)
  computes f holds =
      subst (λ f. (run_out_refused p m a ≡ by_limits f m a) × (run_out p m a ≡ by_formula f m a)) holds
      (refl, sym (run_out_named p m a _ _ _ _ (by_formula (held p) m a) refl refl refl refl (formula_right p.hold _ (braking p) _ (omega (arith, p.real_braking)))).0)

-- what is computed of a row, and what it should be
abbrev found : WorkedSum → Option Refusal × (Option Refusal × RunOut)
found s = (plate_refused s.fields, (by_limits s.fields s.speed s.acceleration, by_formula s.fields s.speed s.acceleration))

abbrev wanted : WorkedSum → Option Refusal × (Option Refusal × RunOut)
wanted s = (None, (None, s.out))

right : (s : WorkedSum) → found s ≡ wanted s → Right s
right s same = (
  ap (λ x. x.0) same,
  λ p holds. let c = computes p s.speed s.acceleration s.fields holds in (c.0 ∙ ap (λ x. x.1.0) same, c.1 ∙ ap (λ x. x.1.1) same),
)

all_right : (ss : List WorkedSum) → map found ss ≡ map wanted ss → AllByRecursion Right ss
all_right [] same = tt
all_right (s ∷ ss) same =
    let first : found s ≡ wanted s = cc in
    let others : map found ss ≡ map wanted ss = cc in
    (right s first, all_right ss others)

pub sums_right : AllByRecursion Right worked_sums
unfolding first_outside
sums_right = all_right worked_sums refl
