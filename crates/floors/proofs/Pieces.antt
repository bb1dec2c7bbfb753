-- Lists made of pieces of one size, and lists that count. Assumes nothing.
use Rattle.std.proofs.Common.{◌≡◌, ℕ, zero, suc, ◌+◌, ◌-◌, ◌*◌, ◌<◌, ◌≤◌, min, List, [], ◌∷◌, ◌++◌, map, length, get_or, take, drop, sym, refl, ap, ◌∙◌, add_comm, mul-zero, zero-add, mul-one, mul-suc, mul-add, arith, length-append, take-add}
use Rattle.std.proofs.lemmas.List.{append_assoc, drop-drop, take_at, drop_at, same_lists, length-take, length-drop, get_or-take, get_or-drop}
use Rattle.std.proofs.lemmas.List.Folds.{flat_map-map}
use Rattle.std.proofs.lemmas.List.FromFn.{length-map-range_with_len, get_or-map-range_with_len}
use Rattle.std.specs.List.{range_with_len, flat_map}

-- ---- lists that count
pub map_same : {X : Type 0} (f g : ℕ → X) (a b n : ℕ) → ((k : ℕ) → k < n → f (a + k) ≡ g (b + k)) → map f (range_with_len a n) ≡ map g (range_with_len b n)
map_same f g a b n h =
    let l = length-map-range_with_len f a n in
    same_lists _ _ (l ∙ sym (length-map-range_with_len g b n))
    (λ k d p. get_or-map-range_with_len f a n k (a + k) d (omega arith) refl ∙ h k (omega arith) ∙ sym (get_or-map-range_with_len g b n k (b + k) d (omega arith) refl))

-- the rows from a on, at most k, of n
pub rows_part : {X : Type 0} (f : ℕ → X) (k a n : ℕ) → take k (drop a (map f (range_with_len 0 n))) ≡ map f (range_with_len a (min k (n - a)))
rows_part f k a n =
    let long : length (take k (drop a (map f (range_with_len 0 n)))) ≡ min k (n - a) = simp (length-take, length-drop, length-map-range_with_len) in
    same_lists _ _ (long ∙ sym (length-map-range_with_len f a (min k (n - a))))
    (λ j d h. get_or-take k (drop a (map f (range_with_len 0 n))) j d (omega arith) ∙ get_or-drop a (map f (range_with_len 0 n)) j d
    ∙ get_or-map-range_with_len f 0 n (a + j) (a + j) d (omega arith) (zero-add (a + j)) ∙ sym (get_or-map-range_with_len f a (min k (n - a)) j (a + j) d (omega arith) refl))

-- ---- lists made of pieces
pub joined_map : {X Y Z : Type 0} (f : Y → List Z) (g : X → Y) (xs : List X) → flat_map f (map g xs) ≡ flat_map (λ x. f (g x)) xs
joined_map = flat_map-map

pub joined_same : {Z : Type 0} (f g : ℕ → List Z) (a n : ℕ) → ((k : ℕ) → a ≤ k → k < a + n → f k ≡ g k) → flat_map f (range_with_len a n) ≡ flat_map g (range_with_len a n)
joined_same f g a n h =
    sym (flat_map-map (λ l. l) f (range_with_len a n)) ∙ ap (flat_map (λ l. l)) (map_same f g a a n (λ k l. h (a + k) (omega arith) (omega arith)))
    ∙ flat_map-map (λ l. l) g (range_with_len a n)

pub pieces : {Z : Type 0} (bs : List Z) (s at a n : ℕ) → flat_map (λ k. take s (drop (at + s * k) bs)) (range_with_len a n) ≡ take (s * n) (drop (at + s * a) bs)
pieces bs s at a zero = rw mul-zero
pieces bs s at a (suc n) =
    let m : s * suc n ≡ s + s * n = mul-suc s n ∙ add_comm (s * n) s in
    let d : at + s * a + s ≡ at + s * (a + 1) = omega (arith, mul-add s a 1, mul-one s) in
    let t = take-add s (s * n) (drop (at + s * a) bs) in
    let e : drop s (drop (at + s * a) bs) ≡ drop (at + s * (a + 1)) bs = drop-drop s (at + s * a) bs ∙ ap (λ n. drop n bs) d in
    ap (λ l. take s (drop (at + s * a) bs) ++ l) (pieces bs s at (a + 1) n)
    ∙ sym (ap (λ k. take k (drop (at + s * a) bs)) m ∙ t ∙ ap (λ l. take s (drop (at + s * a) bs) ++ take (s * n) l) e)

-- each piece has s
module _ {X Z : Type 0} (g : X → List Z) (s : ℕ) (size : (x : X) → length (g x) ≡ s) where
  pub length_joined : (xs : List X) → length (flat_map g xs) ≡ s * length xs
  length_joined [] = sym (mul-zero s)
  length_joined (x ∷ xs) = length-append (g x) (flat_map g xs) ∙ omega (arith, size x, length_joined xs, mul-suc s (length xs))

  pub joined_at : (xs : List X) (rest : List Z) (i : ℕ) (d : X) → i < length xs → take s (drop (s * i) (flat_map g xs ++ rest)) ≡ g (get_or xs i d)
  joined_at [] rest i d h = absurd (omega arith)
  joined_at (x ∷ xs) rest zero d h =
      rw mul-zero (ap (take s) (append_assoc (g x) (flat_map g xs) rest) ∙ take_at (g x) (flat_map g xs ++ rest) s (size x))
  joined_at (x ∷ xs) rest (suc i) d h =
      let m : s * suc i ≡ s + s * i = mul-suc s i ∙ add_comm (s * i) s in
      let e : drop (s * suc i) (flat_map g (x ∷ xs) ++ rest) ≡ drop (s * i) (flat_map g xs ++ rest) =
      ap (λ k. drop k ((g x ++ flat_map g xs) ++ rest)) m ∙ sym (drop-drop (s * i) s ((g x ++ flat_map g xs) ++ rest))
      ∙ ap (drop (s * i)) (ap (drop s) (append_assoc (g x) (flat_map g xs) rest) ∙ drop_at (g x) (flat_map g xs ++ rest) s (size x)) in
      ap (take s) e ∙ joined_at xs rest i d (omega arith)
