-- Bytes: little-endian numbers, sums of words, and what a write leaves. Assumes nothing.
use Rattle.std.specs.Prelude.{ℕ, zero, suc, ◌+◌, ◌-◌, ◌*◌, ◌/◌, ◌%◌, ◌<◌, cond, List, [], ◌∷◌, ◌++◌, length, take, drop, ℤ, Some, None, Option, ◌==◌, slice_index}
use Rattle.std.proofs.Common.{to_z, of_z}
use Rattle.std.specs.Int.{w64}

-- each is below 256
abbrev pub Octets : List ℕ → Type 0
Octets bytes = (i : ℕ) → slice_index bytes i < 256

-- the n low bytes of a number, the lowest first
abbrev pub le_bytes : ℕ → ℕ → List ℕ
le_bytes zero v = []
le_bytes (suc n) v = (v % 256) ∷ le_bytes n (v / 256)

-- the number that bytes write, the lowest first
abbrev pub le_value : List ℕ → ℕ
le_value [] = 0
le_value (b ∷ bs) = b + 256 * le_value bs

-- a signed number in 8 bytes, two's complement: `of_z` is z itself, or 2^64 + z where z is below 0, and `to_z` the reverse
abbrev pub i64_bytes : ℤ → List ℕ
i64_bytes z = le_bytes 8 (of_z w64 z)

-- the signed number that the 8 bytes from a place on write
abbrev pub i64_at : List ℕ → ℕ → ℤ
i64_at bytes at = to_z w64 (le_value (take 8 (drop at bytes)))

-- the sum of the 16-bit words; a single byte at the end counts as a low byte
abbrev pub word_sum : List ℕ → ℕ
word_sum [] = 0
word_sum (a ∷ []) = a
word_sum (a ∷ (b ∷ bytes)) = a + 256 * b + word_sum bytes

-- the word that makes a sum divisible by 65,536
abbrev pub checksum : List ℕ → ℕ
checksum bytes = (65536 - word_sum bytes % 65536) % 65536

-- bytes and then their checksum
abbrev pub sealed : List ℕ → List ℕ
sealed bytes = bytes ++ le_bytes 2 (checksum bytes)

-- The first place, counted from k, at which bytes depart from those wanted, if any.
abbrev pub departs : ℕ → List ℕ → List ℕ → Option ℕ
departs k [] bytes = None
departs k (w ∷ wanted) [] = Some k
departs k (w ∷ wanted) (b ∷ bytes) = cond (w == b) (departs (k + 1) wanted bytes) (Some k)

-- bytes after others are written into them from a place on
abbrev pub written : List ℕ → ℕ → List ℕ → List ℕ
written bytes at new = take at bytes ++ (new ++ drop (at + length new) bytes)
