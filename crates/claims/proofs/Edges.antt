-- Two spans share a number exactly when the larger low end is at most the smaller high end; and sums that stop at the ends of 64 bits. Assumes nothing.
use Rattle.std.proofs.Common.{◌≡◌, ℕ, ◌-◌, ◌^◌, true, ℤ, pos, negsuc, ◌+ℤ◌, ◌-ℤ◌, neg_ℤ, ◌≤ℤ◌, ◌∙◌, arith}
use lib.Signed.{le_z}
use Rattle.std.specs.Int.{int_max, int_min, saturate_to_bits}
use Rattle.std.proofs.lemmas.Int.{ints, clamps}
use Rattle.claims.specs.declared.boxes.Span.{Span}
use Rattle.claims.specs.Blocking.{In, meet}

le_z_holds : (a b : ℤ) → le_z a b ≡ true → a ≤ℤ b
le_z_holds a b e = grind (arith, ints)

le_z_from : (a b : ℤ) → a ≤ℤ b → le_z a b ≡ true
le_z_from a b e = grind (arith, ints)

module _ (s t : Span) where
  -- the larger low end is such a number
  pub shared : meet s t ≡ true → (z : ℤ) × In s z × In t z
  shared e =
      let h = le_z_holds (int_max s.low t.low) (int_min s.high t.high) e in
      (int_max s.low t.low, (omega (arith, ints, clamps), omega (arith, ints, clamps)), (omega (arith, ints, clamps), omega (arith, ints, clamps)))

  pub meeting : (z : ℤ) → In s z → In t z → meet s t ≡ true
  meeting z i j = le_z_from (int_max s.low t.low) (int_min s.high t.high) (omega (arith, ints, clamps))

-- Below the greatest number of 64 bits, a difference stops at the least alone; above the least, a sum stops at the greatest alone.
down : (x : ℤ) → x ≤ℤ pos (2 ^ 63 - 1) → saturate_to_bits 63 x ≡ int_max x (neg_ℤ (pos (2 ^ 63)))
down (pos n) h = omega (arith, ints, clamps)
down (negsuc n) h = omega (arith, ints, clamps)

up : (x : ℤ) → neg_ℤ (pos (2 ^ 63)) ≤ℤ x → saturate_to_bits 63 x ≡ int_min x (pos (2 ^ 63 - 1))
up (pos n) h = omega (arith, ints, clamps)
up (negsuc n) h = omega (arith, ints, clamps)

-- an end that stopped at the least or the greatest number meets a number of 64 bits as it would have without
pub low_stopped : (z o y x : ℤ) → neg_ℤ (pos (2 ^ 63)) ≤ℤ o → y ≡ int_max z (neg_ℤ (pos (2 ^ 63))) → x ≡ int_max y o → x ≡ int_max z o
low_stopped z o y x least first second = omega (arith, ints, clamps)

pub high_stopped : (z o y x : ℤ) → o ≤ℤ pos (2 ^ 63 - 1) → y ≡ int_min z (pos (2 ^ 63 - 1)) → x ≡ int_min y o → x ≡ int_min z o
high_stopped z o y x most first second = omega (arith, ints, clamps)

-- the same of a moved end, by the library's difference and sum
module _ (z o y x : ℤ) (n : ℕ) where
  pub low_saturated : z ≤ℤ pos (2 ^ 63 - 1) → neg_ℤ (pos (2 ^ 63)) ≤ℤ o → y ≡ saturate_to_bits 63 (z -ℤ pos n) → x ≡ int_max y o → x ≡ int_max (z -ℤ pos n) o
  low_saturated most least first second = low_stopped (z -ℤ pos n) o y x least (first ∙ down (z -ℤ pos n) (omega (arith, ints))) second

  pub high_saturated : neg_ℤ (pos (2 ^ 63)) ≤ℤ z → o ≤ℤ pos (2 ^ 63 - 1) → y ≡ saturate_to_bits 63 (z +ℤ pos n) → x ≡ int_min y o → x ≡ int_min (z +ℤ pos n) o
  high_saturated least most first second = high_stopped (z +ℤ pos n) o y x most (first ∙ up (z +ℤ pos n) (omega (arith, ints))) second
