-- The first place at which bytes depart from those wanted. Assumes nothing.
use Rattle.std.proofs.Common.{◌≡◌, ℕ, zero, suc, ◌+◌, ◌-◌, ◌≤◌, true, false, cond, eqb, List, [], ◌∷◌, ◌++◌, length, get_or, take, drop, replicate, Some, None, Option, sym, refl, ap, ◌∙◌, ⊎_elim, add-zero, add_assoc, Bool, not, arith, length-drop, take-add}
use Rattle.std.proofs.lemmas.Bool.Decides.{nat_tests}
use Rattle.std.proofs.lemmas.Bool.{eq-eqb, eqb-true, cases_Bool, ne_eqb}
use Rattle.std.proofs.lemmas.List.{length-take-le}
use Rattle.floors.specs.Bytes.{departs}
use Rattle.std.specs.Option.{option_or, option_map}
use Rattle.std.specs.List.{slice_range, position, position_from}
use Rattle.std.proofs.lemmas.Iterator.Adapters.{position_from-zero}
use Rattle.floors.specs.Blocks.{head_bytes, body, wanted_body, nearest_count, used_bytes}

-- bytes do not depart from themselves
pub departs_same : (k : ℕ) (ws : List ℕ) → departs k ws ws ≡ None
departs_same k [] = refl
departs_same k (w ∷ ws) = rw (eq-eqb w w refl) (departs_same (k + 1) ws)

-- first the one part, then the other
pub departs_append : (k : ℕ) (ws vs bs cs : List ℕ) → length ws ≡ length bs
    → departs k (ws ++ vs) (bs ++ cs) ≡ option_or (departs k ws bs) (departs (k + length ws) vs cs)
departs_append k [] vs [] cs h = rw add-zero
departs_append k [] vs (b ∷ bs) cs h = absurd (omega arith)
departs_append k (w ∷ ws) vs [] cs h = absurd (omega arith)
departs_append k (w ∷ ws) vs (b ∷ bs) cs h =
    let e : k + 1 + length ws ≡ k + suc (length ws) = omega arith in
    let r = rw e at (departs_append (k + 1) ws vs bs cs (omega arith)) in
    elim (eqb w b) as (λ t. cond t (departs (k + 1) (ws ++ vs) (bs ++ cs)) (Some k) ≡ option_or (cond t (departs (k + 1) ws bs) (Some k)) (departs (k + suc (length ws)) vs cs))
    [ true ↦ r | false ↦ refl ]

-- what does not depart is the same
pub departs_none : (k : ℕ) (ws bs : List ℕ) → length ws ≡ length bs → departs k ws bs ≡ None → ws ≡ bs
departs_none k [] [] h e = refl
departs_none k [] (b ∷ bs) h e = absurd (omega arith)
departs_none k (w ∷ ws) [] h e = absurd (omega arith)
departs_none k (w ∷ ws) (b ∷ bs) h e =
    ⊎_elim
    (λ t. let p = eqb-true w b t in let q = departs_none (k + 1) ws bs (omega arith) (rw t at e) in cc)
    (λ f. let s : Some k ≡ None = rw f at e in absurd cc)
    (cases_Bool (eqb w b))

-- where zeros are wanted, the first byte that is not 0
abbrev pub not_zero : ℕ → Bool
not_zero b = not (eqb b 0)

zeros_from : (k i : ℕ) (bs : List ℕ) → departs (k + i) (replicate (length bs) 0) bs ≡ option_map (λ j. k + j) (position_from not_zero i bs)
zeros_from k i [] = refl
zeros_from k i (zero ∷ bs) = rw add_assoc (zeros_from k (i + 1) bs)
zeros_from k i (suc b ∷ bs) = rw (ne_eqb 0 (suc b) (λ h. omega arith), ne_eqb (suc b) 0 (λ h. omega arith))

departs_zeros : (k n : ℕ) (bs : List ℕ) → length bs ≡ n → departs k (replicate n 0) bs ≡ option_map (λ j. k + j) (position not_zero bs)
departs_zeros k n bs e = rw (← e) (rw add-zero at (zeros_from k 0 bs)) ∙ ap (option_map (λ j. k + j)) (sym (position_from-zero not_zero bs))

-- a block departs from what is wanted in its head, or else past its records
pub departs_body : (i count used : ℕ) (b : List ℕ) → length b ≡ 512 → used ≤ 502
    → departs 0 (body i count (take used (drop 8 b))) (take 510 b)
    ≡ option_or (departs 0 (head_bytes i count) (take 8 b)) (departs (8 + used) (replicate (502 - used) 0) (take (502 - used) (drop used (drop 8 b))))
departs_body i count used b len h =
    let rest = drop 8 b in
    let lr : length rest ≡ 504 = simp length-drop (omega arith) in
    let lu : length (take used rest) ≡ used = length-take-le used rest (omega arith) in
    let s1 : take 510 b ≡ take 8 b ++ take 502 rest = take-add 8 502 b in
    let m : used + (502 - used) ≡ 502 = omega arith in
    let s2 : take 502 rest ≡ take used rest ++ take (502 - used) (drop used rest) = rw m at (take-add used (502 - used) rest) in
    let l8 : 8 ≡ length (take 8 b) = sym (length-take-le 8 b (omega arith)) in
    let zeros : List ℕ = replicate (502 - used) 0 in
    let past : List ℕ = take (502 - used) (drop used rest) in
    ap (λ n. departs 0 (head_bytes i count ++ (take used rest ++ replicate (502 - n) 0)) (take 510 b)) lu
    ∙ ap (departs 0 (head_bytes i count ++ (take used rest ++ zeros))) s1
    ∙ departs_append 0 (head_bytes i count) (take used rest ++ zeros) (take 8 b) (take 502 rest) l8
    ∙ ap (option_or (departs 0 (head_bytes i count) (take 8 b)))
    (ap (departs 8 (take used rest ++ zeros)) s2
    ∙ departs_append 8 (take used rest) zeros (take used rest) past refl
    ∙ ap (λ o. option_or o (departs (8 + length (take used rest)) zeros past)) (departs_same 8 (take used rest))
    ∙ ap (λ n. departs (8 + n) zeros past) lu)

pub used_small : (n i count : ℕ) → used_bytes i (nearest_count n i count) ≤ 502
used_small n zero count = omega arith
used_small n (suc i) count = grind (arith, nat_tests)

-- a fault at the first of two places
first : {X : Type 0} (f : ℕ → X) (a b : Option ℕ) (x : X) → option_map f a ≡ Some x → option_map f (option_or a b) ≡ Some x
first f (Some k) b x e = e
first f None b x e = absurd cc

second : {X : Type 0} (f : ℕ → X) (a b : Option ℕ) → option_map f a ≡ None → option_map f (option_or a b) ≡ option_map f b
second f (Some k) b e = absurd cc
second f None b e = refl

-- the same of what is wanted of a block as found: in its head, or else at the first unused byte that is not 0
module _ (n i : ℕ) (b : List ℕ) (len : length b ≡ 512) where
  departs_wanted : let count = nearest_count n i (get_or b 1 0) in let used = used_bytes i count in
      departs 0 (wanted_body n i b) (take 510 b)
      ≡ option_or (departs 0 (head_bytes i count) (take 8 b)) (option_map (λ j. 8 + used + j) (position not_zero (slice_range (drop 8 b) used 502)))
  departs_wanted =
      let count = nearest_count n i (get_or b 1 0) in
      let used = used_bytes i count in
      let small = used_small n i (get_or b 1 0) in
      let l : length (slice_range (drop 8 b) used 502) ≡ 502 - used = length-take-le (502 - used) (drop used (drop 8 b)) (simp length-drop (omega arith)) in
      departs_body i count used b len small ∙ ap (option_or (departs 0 (head_bytes i count) (take 8 b))) (departs_zeros (8 + used) (502 - used) (slice_range (drop 8 b) used 502) l)

  pub wrong_head : {X : Type 0} (f : ℕ → X) (x : X) → option_map f (departs 0 (head_bytes i (nearest_count n i (get_or b 1 0))) (take 8 b)) ≡ Some x
      → option_map f (departs 0 (wanted_body n i b) (take 510 b)) ≡ Some x
  wrong_head f x e = ap (option_map f) departs_wanted ∙ first f _ _ x e

  pub right_head : {X : Type 0} (f : ℕ → X) → option_map f (departs 0 (head_bytes i (nearest_count n i (get_or b 1 0))) (take 8 b)) ≡ None
      → (rest : List ℕ) → rest ≡ drop 8 b → (used : ℕ) → used ≡ used_bytes i (nearest_count n i (get_or b 1 0))
      → option_map f (departs 0 (wanted_body n i b) (take 510 b)) ≡ option_map f (option_map (λ j. 8 + used + j) (position not_zero (slice_range rest used 502)))
  right_head f e rest er used eu = rw (er, eu) (ap (option_map f) departs_wanted ∙ second f _ _ e)
