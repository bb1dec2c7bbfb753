-- The first field whose number is out of its range. Assumes nothing.
use Rattle.std.proofs.Common.{◌≡◌, ℕ, Bool, true, false, not, cond, List, [], ◌∷◌, Some, None, refl, arith}
use Rattle.std.proofs.lemmas.Int.{ints}
use Rattle.std.specs.List.{AllByRecursion}
use Rattle.plates.specs.declared.fields.PlateField.{PlateField}
use Rattle.plates.specs.declared.fields.PlateFields.{PlateFields}
use Rattle.plates.specs.Fields.{in_range, first_outside, InRange}

-- none is out of its range: each is in it
pub all_inside : (f : PlateFields) (fields : List PlateField) → first_outside f fields ≡ None → AllByRecursion (InRange f) fields
unfolding first_outside
all_inside f [] none = tt
all_inside f (field ∷ fields) none = by (in_range f field) refl none (all_inside f fields)
  where
    by : (b : Bool) → in_range f field ≡ b → cond (not b) (Some field) (first_outside f fields) ≡ None → (first_outside f fields ≡ None → AllByRecursion (InRange f) fields) → AllByRecursion (InRange f) (field ∷ fields)
    by true h none others = ((grind (arith, ints), grind (arith, ints)), others none)
    by false h found others = let z : ◌≡◌ {A = ℕ} 0 1 = cc in absurd (omega arith)
