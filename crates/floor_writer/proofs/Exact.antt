-- What is written is read again. Assumes nothing.
use Rattle.std.proofs.Common.{◌≡◌, ℕ, ◌^◌, ◌<◌, ◌≤◌, false, List, [], ◌∷◌, map, length, take, drop, is_some, Some, None, Option, sym, refl, ap, ◌∙◌, subst, arith}
use lib.ListN.{length-map}
use Rattle.std.proofs.lemmas.List.{take_at}
use Rattle.std.proofs.lemmas.Bool.{cond_both, true≢false}
use Rattle.std.specs.List.{AllByRecursion}
use Rattle.refusals.specs.Refusals.{Refusal}
use Rattle.plates.specs.declared.plates.Plate.{Plate}
use Rattle.plates.specs.Plates.{held}
use Rattle.plates.proofs.PlateLaws.{held_made}
use Rattle.claims.specs.declared.fixtures.Fixture.{Fixture}
use Rattle.claims.specs.Things.{zero_fixture, fixture_refused, fixture_counted}
use Rattle.floors.specs.Exactness.{Made, Writable, Reads}
use Rattle.floors.proofs.Exact.{written_is_read}
use Rattle.floor_writer.specs.Writing.{file_of, over, Labelled}

none : (o : Option Refusal) → is_some o ≡ false → o ≡ None
none None e = refl
none (Some r) e = absurd (true≢false e)

-- what a row counts as can be made
counted_made : (f : Fixture) → f.label < 2 ^ 32 → Made (fixture_counted f)
counted_made f h =
    cond_both (is_some (fixture_refused f)) zero_fixture f Made
    (λ _. record { label = omega arith; edges = refl })
    (λ e. record { label = h; edges = none (fixture_refused f) e })

rows_made : (rows : List Fixture) → AllByRecursion Labelled rows → AllByRecursion Made (map fixture_counted rows)
rows_made [] h = tt
rows_made (f ∷ rows) h = (counted_made f h.0, rows_made rows h.1)

-- what is written is read again
pub written_again : (plate : Plate) (rows : List Fixture) (out after : List ℕ) (n : ℕ) → AllByRecursion Labelled rows → length rows ≤ 1024
    → n ≡ length (file_of plate rows) → after ≡ over (file_of plate rows) out → Reads (take n after) (held plate) (map fixture_counted rows)
written_again plate rows out after n labels few long e =
    let counted = map fixture_counted rows in
    let same = length-map rows fixture_counted in
    let can : Writable (held plate) counted = record { plate_made = held_made plate; few = omega arith; rows_made = rows_made rows labels } in
    let file = file_of plate rows in
    let is : take n after ≡ file = ap (take n) e ∙ take_at file (drop (length file) out) n (sym long) in
    subst (λ b. Reads b (held plate) counted) (sym is) (written_is_read (held plate) counted can)
