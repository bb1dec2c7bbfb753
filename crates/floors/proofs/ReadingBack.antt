-- What the writer makes is read again, as the same plate and fixtures. Assumes nothing.
use Rattle.std.proofs.Common.{◌≡◌, ℕ, zero, suc, ◌+◌, ◌-◌, ◌*◌, ◌/◌, ◌%◌, ◌<◌, ◌≤◌, min, List, [], ◌++◌, map, length, get_or, take, drop, replicate, pos, None, sym, refl, ap, ◌∙◌, ⊎_elim, zero-add, arith, length-append, w64, to_z}
use Rattle.std.proofs.lemmas.List.FromFn.{fill_by_all, get_or-range_with_len, length-range_with_len}
use Rattle.std.proofs.ByRecursion.{All-get_or}
use Rattle.std.proofs.lemmas.List.{length-take, length-drop, drop-drop, take_at, append_assoc, append-nil, get_or-take, get_or-drop}
use Rattle.std.proofs.lemmas.Bool.{eq-eqb, ne_eqb, cases_eq}
use Rattle.std.specs.List.{range_with_len, flat_map}
use Rattle.std.specs.Option.{option_map}
use Rattle.refusals.specs.Answers.{or_else}
use Rattle.plates.specs.declared.fields.PlateFields.{PlateFields}
use Rattle.plates.specs.Fields.{in_order, numbers_of}
use Rattle.plates.specs.Plates.{plate_refused}
use Rattle.claims.specs.declared.fixtures.Fixture.{Fixture}
use Rattle.claims.specs.Things.{zero_fixture, fixture_refused}
use Rattle.floors.specs.declared.faults.BlockFault.TheVariants.{WrongByte}
use Rattle.floors.specs.Bytes.{le_bytes, le_value, i64_at, i64_bytes, sealed, word_sum, checksum, departs}
use Rattle.floors.specs.Faults.{no_plate, no_fixture, block_fault}
use Rattle.floors.specs.Blocks.{body, numbers_at, plate_at, fixture_at, plate_record, fixture_record, plate_block, used_bytes, nearest_count, sum_refused, byte_refused, frame_refused, records_refused, row_refused, block_refused, wanted_body, place}
use Rattle.floors.specs.Floors.{block_in, refused_in, floor_refused, fixture_count, fixtures_in, row_in, row_offset, floor_block, floor_file, blocks_for}
use Rattle.floors.specs.Exactness.{Made, Writable, Reads}
use Rattle.floors.proofs.Departing.{departs_same}
use Rattle.floors.proofs.Files.{Right, floor_blocks}
use Rattle.floors.proofs.Firsts.{first_among_all}
use Rattle.floors.proofs.Fitting.{numbers_fit, made_fits}
use Rattle.floors.proofs.Frames.{length_body}
use Rattle.floors.proofs.Pieces.{length_joined, joined_at}
use Rattle.floors.proofs.Records.{length_i64, length_fixture, i64_back, fixture_back}
use Rattle.floors.proofs.WordSums.{sealed_sum}
use Rattle.floors.proofs.WritingBack.{fixture_in}

-- ---- one block
module _ (i count : ℕ) (rs : List ℕ) (small : length rs ≤ 502) where
  pub sealed_length : length (sealed (body i count rs)) ≡ 512
  sealed_length = length-append (body i count rs) (le_bytes 2 (checksum (body i count rs))) ∙ omega (arith, length_body i count rs small)

  take_body : take 510 (sealed (body i count rs)) ≡ body i count rs
  take_body = take_at (body i count rs) (le_bytes 2 (checksum (body i count rs))) 510 (length_body i count rs small)

  pub after_head : drop 8 (sealed (body i count rs)) ≡ rs ++ (replicate (502 - length rs) 0 ++ le_bytes 2 (checksum (body i count rs)))
  after_head = append_assoc rs (replicate (502 - length rs) 0) (le_bytes 2 (checksum (body i count rs)))

  -- the records of a sealed block
  records_in : (n : ℕ) → n ≡ length rs → take n (drop 8 (sealed (body i count rs))) ≡ rs
  records_in n e =
      let zeros : List ℕ = replicate (502 - length rs) 0 in
      let end = le_bytes 2 (checksum (body i count rs)) in
      ap (take n) (append_assoc rs zeros end) ∙ take_at rs (zeros ++ end) n (sym e)

  pub frame_back : (n : ℕ) → nearest_count n i count ≡ count → used_bytes i count ≡ length rs → frame_refused n i (sealed (body i count rs)) ≡ None
  unfolding frame_refused
  frame_back n right used =
      let b = sealed (body i count rs) in
      let sum : sum_refused i b ≡ None = rw (eq-eqb (word_sum b % 65536) 0 (sealed_sum 255 (body i count rs) (length_body i count rs small))) in
      let wanted : wanted_body n i b ≡ body i count rs =
      ap (λ c. body i c (take (used_bytes i c) (drop 8 b))) right ∙ ap (body i count) (records_in (used_bytes i count) used) in
      let head : byte_refused n i b ≡ None =
      ap (option_map (λ k. block_fault (WrongByte (place i k)))) (ap (departs 0 (wanted_body n i b)) take_body ∙ ap (λ w. departs 0 w (body i count rs)) wanted ∙ departs_same 0 (body i count rs)) in
      ap (λ o. or_else o (byte_refused n i b)) sum ∙ head

-- ---- the file
-- the count of block m + 1 is one that is allowed
count_allowed : (total m : ℕ) → total ≤ 1024 → suc m < blocks_for total → nearest_count (blocks_for total) (suc m) (min 13 (total - 13 * m)) ≡ min 13 (total - 13 * m)
count_allowed total m few h =
    let n = blocks_for total in
    let c = min 13 (total - 13 * m) in
    ⊎_elim
    (λ (p : m + 2 ≡ n). rw (eq-eqb (m + 2) n p) (omega arith))
    (λ (q : m + 2 ≡ n → ⊥). rw (ne_eqb (m + 2) n q) (omega arith))
    (cases_eq (m + 2) n)

abbrev rows_at : List Fixture → ℕ → List Fixture
rows_at fs m = take 13 (drop (13 * m) fs)

length_part : (fs : List Fixture) (m : ℕ) → length (rows_at fs m) ≡ min 13 (length fs - 13 * m)
length_part fs m = length-take 13 (drop (13 * m) fs) ∙ ap (min 13) (length-drop (13 * m) fs)

length_plate : (plate : PlateFields) → length (plate_record plate) ≡ 72
length_plate plate = length_joined i64_bytes 8 length_i64 (numbers_of plate)

length_rows : (fs : List Fixture) (m : ℕ) → length (flat_map fixture_record (rows_at fs m)) ≡ 36 * length (rows_at fs m)
length_rows fs m = length_joined fixture_record 36 length_fixture (rows_at fs m)

rows_small : (fs : List Fixture) (m : ℕ) → length (flat_map fixture_record (rows_at fs m)) ≤ 502
rows_small fs m = omega (arith, length_rows fs m, length_part fs m)

pub length_block : (plate : PlateFields) (fs : List Fixture) → (i : ℕ) → length (floor_block plate fs i) ≡ 512
length_block plate fs zero = sealed_length 0 0 (plate_record plate) (omega (arith, length_plate plate))
length_block plate fs (suc m) = sealed_length (suc m) (length (rows_at fs m)) (flat_map fixture_record (rows_at fs m)) (rows_small fs m)

pub length_file : (plate : PlateFields) (fs : List Fixture) → length (floor_file plate fs) ≡ 512 * blocks_for (length fs)
unfolding floor_file
length_file plate fs = length_joined (floor_block plate fs) 512 (length_block plate fs) (range_with_len 0 (blocks_for (length fs))) ∙ ap (λ k. 512 * k) (length-range_with_len 0 (blocks_for (length fs)))

module _ (plate : PlateFields) (fs : List Fixture) (w : Writable plate fs) where
  block_is : (i : ℕ) → i < blocks_for (length fs) → block_in (floor_file plate fs) i ≡ floor_block plate fs i
  unfolding block_in floor_file
  block_is i h =
      let n = blocks_for (length fs) in
      let all = flat_map (floor_block plate fs) (range_with_len 0 n) in
      ap (λ l. take 512 (drop (512 * i) l)) (sym (append-nil all))
      ∙ joined_at (floor_block plate fs) 512 (length_block plate fs) (range_with_len 0 n) [] i 0 (rw length-range_with_len h)
      ∙ ap (floor_block plate fs) (get_or-range_with_len 0 n i 0 h ∙ zero-add i)

  length_floor : length (floor_file plate fs) ≡ 512 * blocks_for (length fs)
  length_floor = length_file plate fs

  block_number : length (floor_file plate fs) / 512 ≡ blocks_for (length fs)
  block_number = omega (arith, length_floor)

  right : Right (floor_file plate fs)
  right = (omega (arith, length_floor), omega (arith, length_floor), omega (arith, length_floor, w.few))

  -- the plate
  numbers_back : numbers_at (floor_block plate fs 0) 8 ≡ numbers_of plate
  unfolding numbers_at
  numbers_back =
      let b = plate_block plate in
      let ns = numbers_of plate in
      let small : length (plate_record plate) ≤ 502 = omega (arith, length_plate plate) in
      sym (fill_by_all (λ k. i64_at b (8 + 8 * k)) ns 9 (pos 0) refl
      (λ k h.
      let e = sym (drop-drop (8 * k) 8 b) ∙ ap (drop (8 * k)) (after_head 0 0 (plate_record plate) small) in
      let t = ap (take 8) e ∙ joined_at i64_bytes 8 length_i64 ns _ k (pos 0) h in
      sym (ap (λ l. to_z w64 (le_value l)) t ∙ i64_back (get_or ns k (pos 0)) (numbers_fit plate w.plate_made k h))))

  plate_back : plate_at (floor_block plate fs 0) 8 ≡ plate
  plate_back = ap in_order numbers_back

  -- the fixtures
  row_made : (k : ℕ) → k < length fs → Made (get_or fs k zero_fixture)
  row_made k h = All-get_or Made fs k zero_fixture h w.rows_made

  row_back : (m j : ℕ) → j < length (rows_at fs m) → fixture_at (floor_block plate fs (suc m)) (8 + 36 * j) ≡ get_or fs (13 * m + j) zero_fixture
  row_back m j h =
      let b = floor_block plate fs (suc m) in
      let part = rows_at fs m in
      let rs = flat_map fixture_record part in
      let lp = length_part fs m in
      let e = sym (drop-drop (36 * j) 8 b) ∙ ap (drop (36 * j)) (after_head (suc m) (length part) rs (rows_small fs m)) in
      let t = ap (take 36) e ∙ joined_at fixture_record 36 length_fixture part _ j zero_fixture h in
      let g = get_or-take 13 (drop (13 * m) fs) j zero_fixture (omega arith) ∙ get_or-drop (13 * m) fs j zero_fixture in
      fixture_back b (8 + 36 * j) (get_or fs (13 * m + j) zero_fixture) (made_fits _ (row_made (13 * m + j) (omega arith))) (t ∙ ap fixture_record g)

  -- no block has a fault
  frame_is : (i : ℕ) → i < blocks_for (length fs) → frame_refused (blocks_for (length fs)) i (floor_block plate fs i) ≡ None
  frame_is zero h = frame_back 0 0 (plate_record plate) (omega (arith, length_plate plate)) (blocks_for (length fs)) refl (sym (length_plate plate))
  frame_is (suc m) h =
      let n = blocks_for (length fs) in
      frame_back (suc m) (length (rows_at fs m)) (flat_map fixture_record (rows_at fs m)) (rows_small fs m) n
      (ap (nearest_count n (suc m)) (length_part fs m) ∙ count_allowed (length fs) m w.few h ∙ sym (length_part fs m)) (sym (length_rows fs m))

  records_are : (i : ℕ) → records_refused i (floor_block plate fs i) ≡ None
  unfolding row_refused
  records_are zero = ap (λ p. option_map (no_plate (place 0 8)) (plate_refused p)) plate_back ∙ ap (option_map (no_plate (place 0 8))) w.plate_made
  records_are (suc m) =
      let b = floor_block plate fs (suc m) in
      first_among_all (row_refused (suc m) b) 0 (length (rows_at fs m))
      (λ j h. let lp = length_part fs m in
      let fault = ap fixture_refused (row_back m j h) ∙ (row_made (13 * m + j) (omega arith)).edges in
      rw zero-add (ap (option_map (no_fixture (place (suc m) (8 + 36 * j)))) fault))

  fault_is : (i : ℕ) → i < blocks_for (length fs) → refused_in (floor_file plate fs) i ≡ None
  unfolding block_refused
  fault_is i h =
      ap (λ n. block_refused n i (block_in (floor_file plate fs) i)) block_number ∙ ap (block_refused (blocks_for (length fs)) i) (block_is i h)
      ∙ ap (λ o. or_else o (records_refused i (floor_block plate fs i))) (frame_is i h) ∙ records_are i

  floor_fine : floor_refused (floor_file plate fs) ≡ None
  floor_fine =
      floor_blocks (floor_file plate fs) right
      ∙ first_among_all (refused_in (floor_file plate fs)) 0 (length (floor_file plate fs) / 512) (λ i h. rw zero-add (fault_is i (omega (arith, block_number))))

  -- how many fixtures
  last_count : (i : ℕ) → i + 1 ≡ blocks_for (length fs) → 13 * (i + 1 - 2) + get_or (floor_block plate fs i) 1 0 ≡ length fs
  last_count zero e = omega arith
  last_count (suc m) e = omega (arith, length_part fs m)

  count_is : fixture_count (floor_file plate fs) ≡ length fs
  unfolding fixture_count
  count_is =
      let n = blocks_for (length fs) in
      let e : n - 1 + 1 ≡ n = omega arith in
      ap (λ k. 13 * (k - 2) + get_or (block_in (floor_file plate fs) (k - 1)) 1 0) block_number
      ∙ ap (λ b. 13 * (n - 2) + get_or b 1 0) (block_is (n - 1) (omega arith))
      ∙ rw e at (last_count (n - 1) e)

  fixtures_are : fixtures_in (floor_file plate fs) ≡ fs
  unfolding fixtures_in
  fixtures_are =
      let bytes = floor_file plate fs in
      ap (λ n. map (row_in bytes) (range_with_len 0 n)) count_is
      ∙ sym (fill_by_all (row_in bytes) fs (length fs) zero_fixture refl
      (λ k h.
      let m = k / 13 in
      let j = k % 13 in
      let lp = length_part fs m in
      let o : 512 * suc m + (8 + 36 * j) ≡ row_offset k = omega arith in
      let s : 13 * m + j ≡ k = omega arith in
      sym (sym (ap (fixture_at bytes) o) ∙ sym (fixture_in bytes (suc m) (8 + 36 * j) (omega arith))
      ∙ ap (λ b. fixture_at b (8 + 36 * j)) (block_is (suc m) (omega arith))
      ∙ row_back m j (omega arith) ∙ ap (λ n. get_or fs n zero_fixture) s)))

  pub read_back : Reads (floor_file plate fs) plate fs
  read_back = record { fine = floor_fine; plate_is = ap (λ b. plate_at b 8) (block_is 0 (omega arith)) ∙ plate_back; rows_are = fixtures_are }
