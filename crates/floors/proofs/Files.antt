-- The whole file: its length, its blocks and how many fixtures it holds. Assumes nothing.
use Rattle.std.proofs.Common.{◌≡◌, ℕ, zero, suc, ◌+◌, ◌-◌, ◌*◌, ◌/◌, ◌%◌, ◌<◌, ◌≤◌, true, List, length, get_or, drop, Some, None, sym, refl, ◌∙◌, zero-add, arith}
use Rattle.std.proofs.lemmas.List.{length-take-le, length-drop}
use Rattle.std.proofs.lemmas.Bool.Decides.{nat_tests}
use Rattle.std.proofs.lemmas.Bool.{false_from_ne_true, eq-eqb}
use Rattle.refusals.specs.Refusals.{Refusal}
use Rattle.floors.specs.declared.faults.BlockFault.TheVariants.{WrongLength}
use Rattle.floors.specs.Faults.{block_fault}
use Rattle.floors.specs.Blocks.{frame_refused, records_refused, block_refused, nearest_count, first_among}
use Rattle.floors.specs.Floors.{block_in, right_length, refused_in, floor_refused, fixture_count}
use Rattle.floors.proofs.Firsts.{or_else_none, first_among_found, first_among_none}
use Rattle.floors.proofs.Frames.{frame_count}

-- the length of a floor file
abbrev pub Right : List ℕ → Type 0
Right bytes = (length bytes % 512 ≡ 0) × (1 ≤ length bytes / 512) × (length bytes / 512 ≤ 80)

pub right_from : (bytes : List ℕ) → right_length (length bytes) ≡ true → Right bytes
right_from bytes e = grind (arith, nat_tests)

pub right_to : (bytes : List ℕ) → Right bytes → right_length (length bytes) ≡ true
right_to bytes r = grind (arith, nat_tests)

pub length_fault : (bytes : List ℕ) → (Right bytes → ⊥) → floor_refused bytes ≡ Some (block_fault WrongLength)
unfolding floor_refused
length_fault bytes h = rw (false_from_ne_true _ (λ t. h (right_from bytes t)))

module _ (bytes : List ℕ) (right : Right bytes) where
  pub floor_blocks : floor_refused bytes ≡ first_among (refused_in bytes) 0 (length bytes / 512)
  unfolding floor_refused
  floor_blocks = rw (right_to bytes right)

  pub floor_fault_at : (i : ℕ) (e : Refusal) → first_among (refused_in bytes) 0 i ≡ None → refused_in bytes i ≡ Some e → i < length bytes / 512 → floor_refused bytes ≡ Some e
  floor_fault_at i e before here h = floor_blocks ∙ first_among_found (refused_in bytes) i (length bytes / 512) e before here h

  pub length_block_in : (i : ℕ) → i < length bytes / 512 → length (block_in bytes i) ≡ 512
  unfolding block_in
  length_block_in i h = length-take-le 512 (drop (512 * i) bytes) (simp length-drop (omega arith))

  pub frame_none : (i : ℕ) → refused_in bytes i ≡ None → frame_refused (length bytes / 512) i (block_in bytes i) ≡ None
  unfolding block_refused
  frame_none i e = (or_else_none (frame_refused (length bytes / 512) i (block_in bytes i)) (records_refused i (block_in bytes i)) e).0

  -- the count byte of a block with no fault is one that is allowed
  pub count_right : (i : ℕ) → i < length bytes / 512 → refused_in bytes i ≡ None
      → nearest_count (length bytes / 512) i (get_or (block_in bytes i) 1 0) ≡ get_or (block_in bytes i) 1 0
  count_right i h e = frame_count (length bytes / 512) i (block_in bytes i) (length_block_in i h) (frame_none i e)

-- the plate's block counts no fixtures
pub plate_count : (bytes : List ℕ) (right : Right bytes) → refused_in bytes 0 ≡ None → get_or (block_in bytes 0) 1 0 ≡ 0
plate_count bytes right e = let z = count_right bytes right 0 right.1 e in omega arith

-- a file with no fault has the right length, and no fault in any block
module _ (bytes : List ℕ) (fine : floor_refused bytes ≡ None) where
  pub floor_right : Right bytes
  unfolding floor_refused
  floor_right = right_from bytes (grind (arith, nat_tests))

  pub floor_none : (i : ℕ) → i < length bytes / 512 → refused_in bytes i ≡ None
  floor_none i h =
      rw zero-add at (first_among_none (refused_in bytes) 0 (length bytes / 512) (sym (floor_blocks bytes floor_right) ∙ fine) i h)

-- the fixtures of a file with no fault are at most 1,024, and 13 to a block
last_few : (n c : ℕ) → 1 ≤ n → n ≤ 80 → ((i : ℕ) → i + 1 ≡ n → nearest_count n i c ≡ c) → (13 * (n - 2) + c ≤ 1024) × (13 * (n - 2) + c ≤ 13 * (n - 1))
last_few zero c a b e = absurd (omega arith)
last_few (suc zero) c a b e = let z = e 0 refl in (omega arith, omega arith)
last_few (suc (suc m)) c a b e =
    let z = rw (eq-eqb (m + 2) (suc (suc m)) (omega arith)) at (e (suc m) (omega arith)) in
    (omega arith, omega arith)

pub count_few : (bytes : List ℕ) → floor_refused bytes ≡ None → (fixture_count bytes ≤ 1024) × (fixture_count bytes ≤ 13 * (length bytes / 512 - 1))
unfolding fixture_count
count_few bytes e =
    let right = floor_right bytes e in
    let n = length bytes / 512 in
    last_few n (get_or (block_in bytes (n - 1)) 1 0) right.1 right.2
    (λ i s. let l : i < n = omega arith in let q : n - 1 ≡ i = omega arith in
    rw q (count_right bytes right i l (floor_none bytes e i l)))
