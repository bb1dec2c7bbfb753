-- A record that is read and written again is the same bytes, and one that is written is read as the same numbers. Assumes nothing.
use Rattle.std.proofs.Common.{◌≡◌, ℕ, ◌+◌, ◌-◌, ◌*◌, ◌^◌, ◌<◌, ◌≤◌, List, ◌++◌, map, length, take, drop, ℤ, sym, refl, ap, ◌∙◌, ⊎_elim, add-zero, add_assoc, arith, lit<, length-take, get_or-drop, get_or-take, take-add, w64, SFits, to_z, of_z}
use Rattle.std.proofs.lemmas.Int.{of_z-to_z, to_z-of_z, ints}
use Rattle.std.proofs.lemmas.List.{length-take-le, length-drop, drop-drop, drop-take, take-take, get_or_past}
use Rattle.std.proofs.lemmas.Bool.{cases_lt}
use Rattle.std.specs.List.{range_with_len, flat_map}
use Rattle.claims.specs.declared.fixtures.Fixture.{Fixture}
use Rattle.floors.specs.Bytes.{le_bytes, le_value, Octets, i64_at, i64_bytes}
use Rattle.floors.specs.Blocks.{numbers_at, plate_at, fixture_at, plate_record, fixture_record}
use Rattle.floors.proofs.LittleEndian.{le_bytes_value, le_value_below, le_value_bytes}
use Rattle.std.proofs.lemmas.List.Folds.{flat_map-map}
use Rattle.floors.proofs.Pieces.{joined_same, pieces}

-- a part of octets is octets
pub octets_part : (bs : List ℕ) (at n : ℕ) → Octets bs → Octets (take n (drop at bs))
octets_part bs at n h i =
    ⊎_elim (λ l. let p : i < n = l in rw (get_or-take, get_or-drop) (h (at + i)))
    (λ (g : n ≤ i). let b : length (take n (drop at bs)) ≤ i = simp length-take (omega arith) in rw (get_or_past (take n (drop at bs)) i 0 b) (lit< tt))
    (cases_lt i n)

pub five : (a a' b b' c c' d d' e e' : List ℕ) → a ≡ a' → b ≡ b' → c ≡ c' → d ≡ d' → e ≡ e' → a ++ (b ++ (c ++ (d ++ e))) ≡ a' ++ (b' ++ (c' ++ (d' ++ e')))
five a a' b b' c c' d d' e e' p q r s t = cc

module _ (bs : List ℕ) (octets : Octets bs) where
  -- n bytes, read and written again
  pub le_part : (at n : ℕ) → at + n ≤ length bs → le_bytes n (le_value (take n (drop at bs))) ≡ take n (drop at bs)
  le_part at n h =
      let part = take n (drop at bs) in
      let l : length part ≡ n = length-take-le n (drop at bs) (simp length-drop (omega arith)) in
      rw l at (le_bytes_value part (octets_part bs at n octets))

  pub i64_part : (at : ℕ) → at + 8 ≤ length bs → i64_bytes (i64_at bs at) ≡ take 8 (drop at bs)
  i64_part at h =
      let part = take 8 (drop at bs) in
      let l : length part ≡ 8 = length-take-le 8 (drop at bs) (simp length-drop (omega arith)) in
      let b : le_value part < 256 ^ 8 = rw l at (le_value_below part (octets_part bs at 8 octets)) in
      ap (le_bytes 8) (of_z-to_z w64 (le_value part) b) ∙ le_part at 8 h

  -- a part in two
  two : (at k n m : ℕ) → take (n + m) (drop (at + k) bs) ≡ take n (drop (at + k) bs) ++ take m (drop (at + (k + n)) bs)
  two at k n m =
      take-add n m (drop (at + k) bs) ∙ ap (λ l. take n (drop (at + k) bs) ++ take m l) (drop-drop n (at + k) bs ∙ ap (λ a. drop a bs) (add_assoc at k n))

  pub fixture_part : (at : ℕ) → at + 36 ≤ length bs → fixture_record (fixture_at bs at) ≡ take 36 (drop at bs)
  unfolding fixture_at
  fixture_part at h =
      let a : take 36 (drop at bs) ≡ take 4 (drop at bs) ++ take 32 (drop (at + 4) bs) = rw add-zero at (two at 0 4 32) in
      let whole : take 36 (drop at bs) ≡ take 4 (drop at bs) ++ (take 8 (drop (at + 4) bs) ++ (take 8 (drop (at + 12) bs) ++ (take 8 (drop (at + 20) bs) ++ take 8 (drop (at + 28) bs)))) =
      a ∙ ap (λ l. take 4 (drop at bs) ++ l) (two at 4 8 24 ∙ ap (λ l. take 8 (drop (at + 4) bs) ++ l) (two at 12 8 16 ∙ ap (λ l. take 8 (drop (at + 12) bs) ++ l) (two at 20 8 8))) in
      five _ _ _ _ _ _ _ _ _ _ (le_part at 4 (omega arith)) (i64_part (at + 4) (omega arith)) (i64_part (at + 12) (omega arith)) (i64_part (at + 20) (omega arith)) (i64_part (at + 28) (omega arith)) ∙ sym whole

  pub plate_part : (at : ℕ) → at + 72 ≤ length bs → plate_record (plate_at bs at) ≡ take 72 (drop at bs)
  unfolding numbers_at
  plate_part at h =
      flat_map-map i64_bytes (λ k. i64_at bs (at + 8 * k)) (range_with_len 0 9)
      ∙ joined_same (λ k. i64_bytes (i64_at bs (at + 8 * k))) (λ k. take 8 (drop (at + 8 * k) bs)) 0 9 (λ k p q. i64_part (at + 8 * k) (omega arith))
      ∙ pieces bs 8 at 0 9 ∙ ap (λ a. take 72 (drop a bs)) (add-zero at)

  -- the records of n fixtures
  pub fixtures_part : (at n : ℕ) → at + 36 * n ≤ length bs → flat_map fixture_record (map (λ j. fixture_at bs (at + 36 * j)) (range_with_len 0 n)) ≡ take (36 * n) (drop at bs)
  fixtures_part at n h =
      flat_map-map fixture_record (λ j. fixture_at bs (at + 36 * j)) (range_with_len 0 n)
      ∙ joined_same (λ k. fixture_record (fixture_at bs (at + 36 * k))) (λ k. take 36 (drop (at + 36 * k) bs)) 0 n (λ k p q. fixture_part (at + 36 * k) (omega arith))
      ∙ rw add-zero at (pieces bs 36 at 0 n)

-- the numbers of a fixture fit their types
pub record Fits (f : Fixture) : Type 0 where
  pub label : f.label < 2 ^ 32
  pub low_x : SFits w64 f.x.low
  pub high_x : SFits w64 f.x.high
  pub low_y : SFits w64 f.y.low
  pub high_y : SFits w64 f.y.high

pub length_i64 : (z : ℤ) → length (i64_bytes z) ≡ 8
length_i64 z = refl

pub length_fixture : (f : Fixture) → length (fixture_record f) ≡ 36
length_fixture f = refl

-- ---- what is written is read
pub i64_back : (z : ℤ) → SFits w64 z → to_z w64 (le_value (i64_bytes z)) ≡ z
i64_back z h = ap (to_z w64) (le_value_bytes 8 (of_z w64 z) (omega (arith, ints))) ∙ to_z-of_z w64 z h

-- a fixture by its numbers
unfoldable pub numbered : ℕ → ℤ → ℤ → ℤ → ℤ → Fixture
numbered label a b c d = record { label = label; x = record { low = a; high = b }; y = record { low = c; high = d } }

pub numbered_same : (a a' : ℕ) (b b' c c' d d' e e' : ℤ) → a ≡ a' → b ≡ b' → c ≡ c' → d ≡ d' → e ≡ e' → numbered a b c d e ≡ numbered a' b' c' d' e'
numbered_same a a' b b' c c' d d' e e' p q r s t = cc

-- what is read at a place depends on 36 bytes
part : (b : List ℕ) (at k n : ℕ) → k + n ≤ 36 → take n (drop (at + k) b) ≡ take n (drop k (take 36 (drop at b)))
part b at k n h =
    let l = drop at b in
    let e : k + (36 - k) ≡ 36 = omega arith in
    let d : drop k (take 36 l) ≡ take (36 - k) (drop k l) = rw e at (drop-take k (36 - k) l) in
    sym (ap (take n) d ∙ take-take n (36 - k) (drop k l) (omega arith) ∙ ap (take n) (drop-drop k at b))

pub fixture_back : (b : List ℕ) (at : ℕ) (f : Fixture) → Fits f → take 36 (drop at b) ≡ fixture_record f → fixture_at b at ≡ f
unfolding fixture_at numbered
fixture_back b at f fits e =
    let field : (k n : ℕ) → k + n ≤ 36 → take n (drop (at + k) b) ≡ take n (drop k (fixture_record f)) = λ k n h. part b at k n h ∙ ap (λ l. take n (drop k l)) e in
    numbered_same _ _ _ _ _ _ _ _ _ _
    (ap le_value (rw add-zero at (field 0 4 (omega arith))) ∙ le_value_bytes 4 f.label fits.label)
    (ap (λ l. to_z w64 (le_value l)) (field 4 8 (omega arith)) ∙ i64_back f.x.low fits.low_x)
    (ap (λ l. to_z w64 (le_value l)) (field 12 8 (omega arith)) ∙ i64_back f.x.high fits.high_x)
    (ap (λ l. to_z w64 (le_value l)) (field 20 8 (omega arith)) ∙ i64_back f.y.low fits.low_y)
    (ap (λ l. to_z w64 (le_value l)) (field 28 8 (omega arith)) ∙ i64_back f.y.high fits.high_y)
