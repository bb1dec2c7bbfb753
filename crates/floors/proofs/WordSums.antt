-- Sums of words: a block that is sealed sums to 0, and one that sums to 0 is sealed. Assumes nothing.
use Rattle.std.proofs.Common.{◌≡◌, ℕ, zero, suc, ◌+◌, ◌*◌, ◌/◌, ◌%◌, ◌<◌, List, [], ◌∷◌, ◌++◌, length, get_or, take, drop, sym, refl, ap, ◌∙◌, arith, w16}
use Rattle.std.proofs.lemmas.List.{drop_more, drop_all, length-drop, take-append-drop, get_or-drop, length-take-le}
use Rattle.floors.specs.Bytes.{word_sum, checksum, sealed, le_bytes, Octets}
use Rattle.std.specs.Int.{from_le_bytes}
use Rattle.std.specs.Simd.{first_chunks}
use Rattle.floors.proofs.Chunks.{chunk_at}
use Rattle.floors.proofs.LittleEndian.{le_bytes_value}

-- the first word of what is left of a list, and what is left then
pub word_sum_chunk : (bs : List ℕ) (i : ℕ) → i < length bs / 2
    → word_sum (drop (2 * i) bs) ≡ from_le_bytes w16 (get_or (first_chunks 2 (length bs / 2) bs) i []) + word_sum (drop (2 * (i + 1)) bs)
word_sum_chunk bs i h =
    let p : 2 * i < length bs = omega arith in
    let q : 2 * i + 1 < length bs = omega arith in
    let e : 2 * i + 1 + 1 ≡ 2 * (i + 1) = omega arith in
    rw (chunk_at 2 (length bs / 2) i bs [] h, drop_more bs (2 * i) 0 p, drop_more bs (2 * i + 1) 0 q, e) (omega arith)

-- past the last word nothing is left, or a single byte
pub word_sum_even : (bs : List ℕ) (i : ℕ) → length bs ≡ 2 * i → word_sum (drop (2 * i) bs) ≡ 0
word_sum_even bs i h = ap word_sum (drop_all (2 * i) bs (omega arith))

pub word_sum_odd : (bs : List ℕ) (i : ℕ) → length bs ≡ 2 * i + 1 → word_sum (drop (2 * i) bs) ≡ get_or (drop (length bs / 2 * 2) bs) 0 0
word_sum_odd bs i h =
    let e : length bs / 2 * 2 ≡ 2 * i = omega arith in
    let left : drop (2 * i + 1) bs ≡ [] = drop_all (2 * i + 1) bs (omega arith) in
    rw (e, drop_more bs (2 * i) 0 (omega arith), left)

-- what the words of a list are, taken one by one
pub ruleset words_of = (word_sum_chunk, word_sum_even, word_sum_odd)

-- an even number of bytes, and then more
pub word_sum_append : (m : ℕ) (xs ys : List ℕ) → length xs ≡ 2 * m → word_sum (xs ++ ys) ≡ word_sum xs + word_sum ys
word_sum_append m [] ys h = omega arith
word_sum_append m (a ∷ []) ys h = absurd (omega arith)
word_sum_append zero (a ∷ (b ∷ xs)) ys h = absurd (omega arith)
word_sum_append (suc m) (a ∷ (b ∷ xs)) ys h = omega (arith, word_sum_append m xs ys (omega arith))

-- a sealed body sums to 0
pub sealed_sum : (m : ℕ) (body : List ℕ) → length body ≡ 2 * m → word_sum (sealed body) % 65536 ≡ 0
sealed_sum m body h =
    let s = word_sum_append m body (le_bytes 2 (checksum body)) h in
    omega (arith, s)

pair : (xs : List ℕ) → length xs ≡ 2 → xs ≡ get_or xs 0 0 ∷ (get_or xs 1 0 ∷ [])
pair [] h = absurd (omega arith)
pair (a ∷ []) h = absurd (omega arith)
pair (a ∷ (b ∷ [])) h = refl
pair (a ∷ (b ∷ (c ∷ xs))) h = absurd (omega arith)

octets_pair : (x y : ℕ) → x < 256 → y < 256 → Octets (x ∷ (y ∷ []))
octets_pair x y p q zero = p
octets_pair x y p q (suc zero) = q
octets_pair x y p q (suc (suc i)) = omega arith

-- 512 octets that sum to 0 are sealed
pub sealed_from_sum : (b : List ℕ) → length b ≡ 512 → Octets b → word_sum b % 65536 ≡ 0 → b ≡ sealed (take 510 b)
sealed_from_sum b len octets sum =
    let body = take 510 b in
    let x = get_or b 510 0 in
    let y = get_or b 511 0 in
    let lx : x < 256 = octets 510 in
    let ly : y < 256 = octets 511 in
    let last : drop 510 b ≡ x ∷ (y ∷ []) = pair (drop 510 b) (simp length-drop (omega arith)) ∙ rw (get_or-drop, get_or-drop) in
    let whole : b ≡ body ++ (x ∷ (y ∷ [])) = sym (take-append-drop 510 b) ∙ ap (λ l. body ++ l) last in
    let s : word_sum b ≡ word_sum body + (x + 256 * y + 0) = ap word_sum whole ∙ word_sum_append 255 body (x ∷ (y ∷ [])) (length-take-le 510 b (omega arith)) in
    let c : checksum body ≡ x + 256 * (y + 256 * 0) = omega arith in
    let e : le_bytes 2 (checksum body) ≡ x ∷ (y ∷ []) = ap (le_bytes 2) c ∙ le_bytes_value (x ∷ (y ∷ [])) (octets_pair x y lx ly) in
    whole ∙ sym (ap (λ l. body ++ l) e)
