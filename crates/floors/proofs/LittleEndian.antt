-- Little-endian numbers: what is written is read again, and the other way round. Assumes nothing.
use Rattle.std.proofs.Common.{◌≡◌, ℕ, zero, suc, ◌+◌, ◌*◌, ◌/◌, ◌%◌, ◌^◌, ◌<◌, List, [], ◌∷◌, length, refl, ap, pow-suc, arith}
use Rattle.floors.specs.Bytes.{le_bytes, le_value, Octets}

-- the bytes of the number that octets write are those octets
pub le_bytes_value : (bs : List ℕ) → Octets bs → le_bytes (length bs) (le_value bs) ≡ bs
le_bytes_value [] h = refl
le_bytes_value (b ∷ bs) h =
    let p : b < 256 = h 0 in
    let low : (b + 256 * le_value bs) % 256 ≡ b = omega arith in
    let high : (b + 256 * le_value bs) / 256 ≡ le_value bs = omega arith in
    rw (low, high) (ap (λ t. b ∷ t) (le_bytes_value bs (λ i. h (suc i))))

-- the number that its n low bytes write is the number, where it fits
pub le_value_bytes : (n v : ℕ) → v < 256 ^ n → le_value (le_bytes n v) ≡ v
le_value_bytes zero v h = omega arith
le_value_bytes (suc n) v h =
    let p : v < 256 ^ n * 256 = rw pow-suc at h in
    omega (arith, le_value_bytes n (v / 256) (omega arith))

pub le_value_below : (bs : List ℕ) → Octets bs → le_value bs < 256 ^ length bs
le_value_below [] h = omega arith
le_value_below (b ∷ bs) h = rw pow-suc (omega (arith, h 0, le_value_below bs (λ i. h (suc i))))
