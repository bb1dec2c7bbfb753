-- A file that is not refused is the one that the writer makes of what is read from it. Assumes nothing.
use Rattle.std.proofs.Common.{◌≡◌, ℕ, zero, suc, ◌+◌, ◌-◌, ◌*◌, ◌/◌, ◌<◌, ◌≤◌, min, List, map, length, get_or, take, drop, None, sym, refl, ap, ◌∙◌, ⊎_elim, add_assoc, zero-add, arith, w64, to_z}
use Rattle.std.proofs.lemmas.List.FromFn.{length-map-range_with_len}
use Rattle.std.proofs.lemmas.List.{take_all, drop-take, take-take, drop-drop}
use Rattle.std.proofs.lemmas.Bool.{cases_eq, eq-eqb, ne_eqb}
use Rattle.std.specs.List.{range_with_len, flat_map}
use Rattle.floors.specs.Bytes.{le_value, Octets, i64_at, sealed}
use Rattle.floors.specs.Blocks.{body, plate_at, fixture_at, fixture_record, plate_block, fixture_block, used_bytes, nearest_count, frame_refused}
use Rattle.floors.specs.Floors.{block_in, floor_refused, fixture_count, fixtures_in, row_in, row_offset, floor_block, floor_file, blocks_for}
use Rattle.floors.proofs.Files.{Right, floor_right, floor_none, length_block_in, count_right, frame_none}
use Rattle.floors.proofs.Frames.{frame_sum, frame_body, frame_count, frame_few}
use Rattle.floors.proofs.Pieces.{joined_same, pieces, map_same, rows_part}
use Rattle.floors.proofs.Records.{plate_part, fixtures_part, octets_part, numbered, numbered_same}
use Rattle.floors.proofs.WordSums.{sealed_from_sum}

-- ---- one block
module _ (n i : ℕ) (b : List ℕ) (len : length b ≡ 512) (octets : Octets b) (fine : frame_refused n i b ≡ None) where
  pub block_again : b ≡ sealed (body i (get_or b 1 0) (take (used_bytes i (get_or b 1 0)) (drop 8 b)))
  block_again =
      sealed_from_sum b len octets (frame_sum n i b len fine)
      ∙ ap sealed (sym (frame_body n i b len fine) ∙ ap (λ c. body i c (take (used_bytes i c) (drop 8 b))) (frame_count n i b len fine))

pub plate_again : (n : ℕ) (b : List ℕ) → length b ≡ 512 → Octets b → frame_refused n 0 b ≡ None → b ≡ plate_block (plate_at b 8)
plate_again n b len octets fine =
    let z : get_or b 1 0 ≡ 0 = let e = frame_count n 0 b len fine in omega arith in
    block_again n 0 b len octets fine
    ∙ ap (λ c. sealed (body 0 c (take 72 (drop 8 b)))) z
    ∙ ap (λ r. sealed (body 0 0 r)) (sym (plate_part b octets 8 (omega arith)))

pub fixtures_again : (n m : ℕ) (b : List ℕ) → length b ≡ 512 → Octets b → frame_refused n (suc m) b ≡ None → get_or b 1 0 ≤ 13
    → b ≡ fixture_block (suc m) (map (λ j. fixture_at b (8 + 36 * j)) (range_with_len 0 (get_or b 1 0)))
fixtures_again n m b len octets fine few =
    let c = get_or b 1 0 in
    let fs = map (λ j. fixture_at b (8 + 36 * j)) (range_with_len 0 c) in
    block_again n (suc m) b len octets fine
    ∙ ap (λ r. sealed (body (suc m) c r)) (sym (fixtures_part b octets 8 c (omega arith)))
    ∙ ap (λ k. sealed (body (suc m) k (flat_map fixture_record fs))) (sym (length-map-range_with_len (λ j. fixture_at b (8 + 36 * j)) 0 c))

-- ---- parts of the file
-- what is read of a block is read of the file
part_of : (bytes : List ℕ) (i at n : ℕ) → at + n ≤ 512 → take n (drop at (block_in bytes i)) ≡ take n (drop (512 * i + at) bytes)
unfolding block_in
part_of bytes i at n h =
    let l = drop (512 * i) bytes in
    let e : at + (512 - at) ≡ 512 = omega arith in
    let d : drop at (take 512 l) ≡ take (512 - at) (drop at l) = rw e at (drop-take at (512 - at) l) in
    ap (take n) d ∙ take-take n (512 - at) (drop at l) (omega arith) ∙ ap (take n) (drop-drop at (512 * i) bytes)

-- for each field
i64_in : (bytes : List ℕ) (i at k : ℕ) → at + k + 8 ≤ 512 → i64_at (block_in bytes i) (at + k) ≡ i64_at bytes (512 * i + at + k)
i64_in bytes i at k h = ap (λ l. to_z w64 (le_value l)) (part_of bytes i (at + k) 8 h) ∙ ap (i64_at bytes) (sym (add_assoc (512 * i) at k))

pub fixture_in : (bytes : List ℕ) (i at : ℕ) → at + 36 ≤ 512 → fixture_at (block_in bytes i) at ≡ fixture_at bytes (512 * i + at)
unfolding fixture_at numbered
fixture_in bytes i at h =
    numbered_same _ _ _ _ _ _ _ _ _ _ (ap le_value (part_of bytes i at 4 (omega arith)))
    (i64_in bytes i at 4 (omega arith)) (i64_in bytes i at 12 (omega arith)) (i64_in bytes i at 20 (omega arith)) (i64_in bytes i at 28 (omega arith))

-- ---- the file
-- the counts of a file: the blocks that its fixtures take, and how many are in block m + 1
counts : (n m c last : ℕ) → n ≤ 80 → m + 1 < n → nearest_count n (suc m) c ≡ c → (m + 2 ≡ n → c ≡ last)
    → min 13 (13 * (n - 2) + last - 13 * m) ≡ c
counts n m c last few h e is_last =
    ⊎_elim
    (λ (p : m + 2 ≡ n). let q = is_last p in let r = rw (eq-eqb (m + 2) n p) at e in omega arith)
    (λ np. let r = rw (ne_eqb (m + 2) n np) at e in omega arith)
    (cases_eq (m + 2) n)

blocks_count : (n last : ℕ) → 1 ≤ n → n ≤ 80 → ((i : ℕ) → i + 1 ≡ n → nearest_count n i last ≡ last) → n ≡ blocks_for (13 * (n - 2) + last)
blocks_count zero last a b e = absurd (omega arith)
blocks_count (suc zero) last a b e = let z = e 0 refl in omega arith
blocks_count (suc (suc m)) last a b e =
    let z = rw (eq-eqb (m + 2) (suc (suc m)) (omega arith)) at (e (suc m) (omega arith)) in omega arith

module _ (bytes : List ℕ) (octets : Octets bytes) (fine : floor_refused bytes ≡ None) where
  right : Right bytes
  right = floor_right bytes fine

  pub octets_block_in : (i : ℕ) → Octets (block_in bytes i)
  unfolding block_in
  octets_block_in i = octets_part bytes (512 * i) 512 octets

  frame : (i : ℕ) → i < length bytes / 512 → frame_refused (length bytes / 512) i (block_in bytes i) ≡ None
  frame i h = frame_none bytes right i (floor_none bytes fine i h)

  few : (m : ℕ) → m + 1 < length bytes / 512 → get_or (block_in bytes (suc m)) 1 0 ≤ 13
  few m h = frame_few (length bytes / 512) (suc m) (block_in bytes (suc m)) (length_block_in bytes right (suc m) (omega arith)) (frame (suc m) (omega arith))

  -- how many fixtures block m + 1 has
  pub row_count : (m : ℕ) → m + 1 < length bytes / 512 → min 13 (fixture_count bytes - 13 * m) ≡ get_or (block_in bytes (suc m)) 1 0
  unfolding fixture_count
  row_count m h =
      let n = length bytes / 512 in
      counts n m (get_or (block_in bytes (suc m)) 1 0) (get_or (block_in bytes (n - 1)) 1 0) right.2 h (count_right bytes right (suc m) (omega arith) (floor_none bytes fine (suc m) (omega arith)))
      (λ p. let q : suc m ≡ n - 1 = omega arith in ap (λ i. get_or (block_in bytes i) 1 0) q)

  -- the rows of block m + 1
  rows : (m : ℕ) → m + 1 < length bytes / 512
      → map (λ j. fixture_at (block_in bytes (suc m)) (8 + 36 * j)) (range_with_len 0 (get_or (block_in bytes (suc m)) 1 0)) ≡ take 13 (drop (13 * m) (fixtures_in bytes))
  unfolding fixtures_in
  rows m h =
      let c = get_or (block_in bytes (suc m)) 1 0 in
      let small = few m h in
      map_same (λ j. fixture_at (block_in bytes (suc m)) (8 + 36 * j)) (row_in bytes) 0 (13 * m) c
      (λ j l. let o : 512 * suc m + (8 + 36 * (0 + j)) ≡ row_offset (13 * m + j) = omega arith in
      fixture_in bytes (suc m) (8 + 36 * (0 + j)) (omega arith) ∙ ap (fixture_at bytes) o)
      ∙ ap (λ x. map (row_in bytes) (range_with_len (13 * m) x)) (sym (row_count m h))
      ∙ sym (rows_part (row_in bytes) 13 (13 * m) (fixture_count bytes))

  block_in_again : (i : ℕ) → i < length bytes / 512 → block_in bytes i ≡ floor_block (plate_at (block_in bytes 0) 8) (fixtures_in bytes) i
  block_in_again zero h = plate_again (length bytes / 512) (block_in bytes 0) (length_block_in bytes right 0 h) (octets_block_in 0) (frame 0 h)
  block_in_again (suc m) h =
      fixtures_again (length bytes / 512) m (block_in bytes (suc m)) (length_block_in bytes right (suc m) h) (octets_block_in (suc m)) (frame (suc m) h) (few m (omega arith))
      ∙ ap (fixture_block (suc m)) (rows m (omega arith))

  whole : bytes ≡ flat_map (block_in bytes) (range_with_len 0 (length bytes / 512))
  unfolding block_in
  whole =
      let n = length bytes / 512 in
      sym (take_all (512 * n) bytes (omega (arith, right.0))) ∙ sym (pieces bytes 512 0 0 n)
      ∙ joined_same (λ k. take 512 (drop (0 + 512 * k) bytes)) (block_in bytes) 0 n (λ k p q. ap (λ a. take 512 (drop a bytes)) (zero-add (512 * k)))

  pub length_fixtures : length (fixtures_in bytes) ≡ fixture_count bytes
  unfolding fixtures_in
  length_fixtures = length-map-range_with_len (row_in bytes) 0 (fixture_count bytes)

  block_number : length bytes / 512 ≡ blocks_for (length (fixtures_in bytes))
  unfolding fixture_count
  block_number =
      let n = length bytes / 512 in
      blocks_count n (get_or (block_in bytes (n - 1)) 1 0) right.1 right.2
      (λ i s. let l : i < n = omega arith in let q : n - 1 ≡ i = omega arith in rw q (count_right bytes right i l (floor_none bytes fine i l)))
      ∙ ap blocks_for (sym length_fixtures)

  pub written_again : bytes ≡ floor_file (plate_at (block_in bytes 0) 8) (fixtures_in bytes)
  unfolding floor_file
  written_again =
      let plate = plate_at (block_in bytes 0) 8 in
      let fs = fixtures_in bytes in
      whole ∙ joined_same (block_in bytes) (floor_block plate fs) 0 (length bytes / 512) (λ k p q. block_in_again k (omega arith))
      ∙ ap (λ n. flat_map (floor_block plate fs) (range_with_len 0 n)) block_number
