-- What holds of a block that is not refused but for its records. Assumes nothing.
use Rattle.std.proofs.Common.{◌≡◌, ℕ, zero, suc, ◌-◌, ◌%◌, ◌<◌, ◌≤◌, List, ◌++◌, length, get_or, take, drop, replicate, Some, None, sym, refl, ap, ◌∙◌, arith, length-append}
use lib.ListN.{length-replicate}
use Rattle.std.proofs.lemmas.Bool.Decides.{nat_tests}
use Rattle.std.proofs.lemmas.List.{length-take-le, length-drop, get_or-take}
use Rattle.refusals.specs.Refusals.{Refusal}
use Rattle.refusals.specs.Answers.{or_else}
use Rattle.floors.specs.Bytes.{departs, word_sum}
use Rattle.floors.specs.Blocks.{body, wanted_body, nearest_count, used_bytes, frame_refused, sum_refused, byte_refused, block_refused, records_refused, row_refused, first_among}
use Rattle.floors.proofs.Firsts.{or_else_none, mapped_none, first_among_found}
use Rattle.floors.proofs.Departing.{departs_none, used_small}

pub length_body : (i count : ℕ) (rs : List ℕ) → length rs ≤ 502 → length (body i count rs) ≡ 510
length_body i count rs h =
    let e : length (rs ++ replicate (502 - length rs) 0) ≡ 502 = simp (length-append, length-replicate) (omega arith) in
    ap (λ n. suc (suc (suc (suc (suc (suc (suc (suc n)))))))) e

nearest_few : (n i count : ℕ) → nearest_count n i count ≤ 13
nearest_few n zero count = omega arith
nearest_few n (suc i) count = grind (arith, nat_tests)

sum_none : (i : ℕ) (b : List ℕ) → sum_refused i b ≡ None → word_sum b % 65536 ≡ 0
sum_none i b e = grind (arith, nat_tests)

module _ (n i : ℕ) (b : List ℕ) (len : length b ≡ 512) (fine : frame_refused n i b ≡ None) where
  pub frame_sum : word_sum b % 65536 ≡ 0
  unfolding frame_refused
  frame_sum = sum_none i b (or_else_none (sum_refused i b) (byte_refused n i b) fine).0

  pub frame_body : wanted_body n i b ≡ take 510 b
  unfolding frame_refused
  frame_body =
      let small = used_small n i (get_or b 1 0) in
      let used = used_bytes i (nearest_count n i (get_or b 1 0)) in
      let ld : length (drop 8 b) ≡ 504 = simp length-drop (omega arith) in
      let lt : length (take used (drop 8 b)) ≡ used = length-take-le used (drop 8 b) (omega arith) in
      let lw = length_body i (nearest_count n i (get_or b 1 0)) (take used (drop 8 b)) (omega arith) in
      let l5 : length (take 510 b) ≡ 510 = length-take-le 510 b (omega arith) in
      departs_none 0 (wanted_body n i b) (take 510 b) (lw ∙ sym l5)
      (mapped_none _ (departs 0 (wanted_body n i b) (take 510 b)) (or_else_none (sum_refused i b) (byte_refused n i b) fine).1)

  pub frame_count : nearest_count n i (get_or b 1 0) ≡ get_or b 1 0
  frame_count = ap (λ l. get_or l 1 0) frame_body ∙ get_or-take 510 b 1 0 (omega arith)

  pub frame_few : get_or b 1 0 ≤ 13
  frame_few = rw frame_count at (nearest_few n i (get_or b 1 0))

-- the fault of a block of fixtures whose frame has none
module _ (n i : ℕ) (b : List ℕ) (past : 0 < i) (fine : frame_refused n i b ≡ None) where
  block_rows : block_refused n i b ≡ first_among (row_refused i b) 0 (get_or b 1 0)
  unfolding block_refused
  block_rows = ap (λ o. or_else o (records_refused i b)) fine ∙ rows i past
    where
      rows : (i : ℕ) → 0 < i → records_refused i b ≡ first_among (row_refused i b) 0 (get_or b 1 0)
      rows zero h = absurd (omega arith)
      rows (suc i) h = refl

  pub block_row_fault : (j : ℕ) (e : Refusal) → first_among (row_refused i b) 0 j ≡ None → row_refused i b j ≡ Some e → j < get_or b 1 0 → block_refused n i b ≡ Some e
  block_row_fault j e before here h = block_rows ∙ first_among_found (row_refused i b) j (get_or b 1 0) e before here h

  pub block_no_fault : (j : ℕ) → first_among (row_refused i b) 0 j ≡ None → get_or b 1 0 ≡ j → block_refused n i b ≡ None
  block_no_fault j before e = block_rows ∙ ap (first_among (row_refused i b) 0) e ∙ before
