-- The promise of the floor file, both ways. Assumes nothing.
use Rattle.std.proofs.Common.{◌≡◌, ℕ, suc, ◌+◌, ◌*◌, ◌/◌, ◌%◌, ◌^◌, ◌<◌, ◌≤◌, List, length, get_or, take, drop, None, sym, ap, ◌∙◌, subst, zero-add, arith}
use Rattle.std.proofs.lemmas.List.FromFn.{get_or-map-range_with_len, length-map-range_with_len}
use Rattle.std.proofs.ByRecursion.{All-from_get_or}
use Rattle.std.proofs.lemmas.List.{length-take-le, length-drop}
use Rattle.plates.specs.declared.fields.PlateFields.{PlateFields}
use Rattle.plates.specs.Plates.{plate_refused}
use Rattle.claims.specs.declared.fixtures.Fixture.{Fixture}
use Rattle.claims.specs.Things.{zero_fixture, fixture_refused}
use Rattle.floors.specs.Bytes.{le_value, Octets}
use Rattle.floors.specs.Faults.{no_plate, no_fixture}
use Rattle.floors.specs.Blocks.{fixture_at, frame_refused, records_refused, row_refused, block_refused, place}
use Rattle.floors.specs.Floors.{block_in, floor_refused, plate_in, fixture_count, fixtures_in, row_in, row_offset, floor_file}
use Rattle.floors.specs.Exactness.{Made, Writable, Reads, ReadWasWritten}
use Rattle.floors.proofs.Files.{floor_right, floor_none, count_few}
use Rattle.floors.proofs.Firsts.{or_else_none, mapped_none, first_among_none}
use Rattle.floors.proofs.LittleEndian.{le_value_below}
use Rattle.floors.proofs.ReadingBack.{read_back}
use Rattle.floors.proofs.Records.{octets_part}
use Rattle.floors.proofs.WritingBack.{written_again, fixture_in, row_count, length_fixtures}

value_below : (bs : List ℕ) (at n : ℕ) → Octets bs → at + n ≤ length bs → le_value (take n (drop at bs)) < 256 ^ n
value_below bs at n octets h =
    let l : length (take n (drop at bs)) ≡ n = length-take-le n (drop at bs) (simp length-drop (omega arith)) in
    rw l at (le_value_below (take n (drop at bs)) (octets_part bs at n octets))

label_below : (bs : List ℕ) (at : ℕ) → Octets bs → at + 36 ≤ length bs → (fixture_at bs at).label < 2 ^ 32
unfolding fixture_at
label_below bs at octets h = value_below bs at 4 octets (omega arith)

row_none : (i : ℕ) (b : List ℕ) (j : ℕ) → row_refused i b j ≡ None → fixture_refused (fixture_at b (8 + 36 * j)) ≡ None
unfolding row_refused
row_none i b j e = mapped_none (no_fixture (place i (8 + 36 * j))) (fixture_refused (fixture_at b (8 + 36 * j))) e

module _ (bytes : List ℕ) (octets : Octets bytes) (fine : floor_refused bytes ≡ None) where
  records_none : (i : ℕ) → i < length bytes / 512 → records_refused i (block_in bytes i) ≡ None
  unfolding block_refused
  records_none i h = (or_else_none (frame_refused (length bytes / 512) i (block_in bytes i)) (records_refused i (block_in bytes i)) (floor_none bytes fine i h)).1

  plate_made : plate_refused (plate_in bytes) ≡ None
  plate_made = mapped_none (no_plate (place 0 8)) (plate_refused (plate_in bytes)) (records_none 0 (floor_right bytes fine).1)

  row_is : (k : ℕ) → k < length (fixtures_in bytes) → get_or (fixtures_in bytes) k zero_fixture ≡ row_in bytes k
  unfolding fixtures_in
  row_is k h = get_or-map-range_with_len (row_in bytes) 0 (fixture_count bytes) k k zero_fixture (rw length-map-range_with_len at h) (zero-add k)

  row_fine : (k : ℕ) → k < fixture_count bytes → fixture_refused (row_in bytes k) ≡ None
  row_fine k h =
      let m = k / 13 in
      let j = k % 13 in
      let few = count_few bytes fine in
      let c = row_count bytes octets fine m (omega arith) in
      let b = block_in bytes (suc m) in
      let none = rw zero-add at (first_among_none (row_refused (suc m) b) 0 (get_or b 1 0) (records_none (suc m) (omega arith)) j (omega arith)) in
      let o : 512 * suc m + (8 + 36 * j) ≡ row_offset k = omega arith in
      ap fixture_refused (sym (fixture_in bytes (suc m) (8 + 36 * j) (omega arith) ∙ ap (fixture_at bytes) o)) ∙ row_none (suc m) b j none

  row_made : (k : ℕ) → k < fixture_count bytes → Made (row_in bytes k)
  row_made k h =
      let few = count_few bytes fine in
      record { label = label_below bytes (row_offset k) octets (omega arith); edges = row_fine k h }

  writable : Writable (plate_in bytes) (fixtures_in bytes)
  writable =
      let few = count_few bytes fine in
      let len = length_fixtures bytes octets fine in
      record {
        plate_made = plate_made;
        few = omega arith;
        rows_made = All-from_get_or Made (fixtures_in bytes) zero_fixture (λ k h. subst Made (sym (row_is k h)) (row_made k (omega arith)));
      }

-- the floor file of a plate and fixtures is read, and as these
pub written_is_read : (plate : PlateFields) (rows : List Fixture) → Writable plate rows → Reads (floor_file plate rows) plate rows
written_is_read = read_back

pub read_if_written : (bytes : List ℕ) (plate : PlateFields) (rows : List Fixture) → Writable plate rows → bytes ≡ floor_file plate rows → Reads bytes plate rows
read_if_written bytes plate rows w e = subst (λ b. Reads b plate rows) (sym e) (read_back plate rows w)

pub read_was_written : ReadWasWritten
read_was_written bytes plate rows octets r =
    let fine = r.fine in
    let Q : PlateFields → List Fixture → Type 0 = λ p f. Writable p f × (bytes ≡ floor_file p f) in
    subst (λ f. Q plate f) r.rows_are (subst (λ p. Q p (fixtures_in bytes)) r.plate_is (writable bytes octets fine, written_again bytes octets fine))
