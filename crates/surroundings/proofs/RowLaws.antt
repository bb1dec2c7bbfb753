-- What is known of the question where it is asked step by step: part after part, and row after row. Our own code asks by the library's chains; these are for whoever asks by a loop. Assumes nothing.
use Rattle.std.proofs.Common.{◌≡◌, ℕ, ◌+◌, ◌<◌, ◌≤◌, true, false, cond, List, ◌++◌, map, length, get_or, drop, Some, None, Option, sym, ap, ◌∙◌}
use Rattle.std.specs.Option.{option_or}
use Rattle.std.proofs.lemmas.List.{at_drop_more, at_drop_all}
use Rattle.claims.specs.declared.boxes.Claim.{Claim}
use Rattle.claims.specs.declared.boxes.Reach.{Reach}
use Rattle.claims.specs.Blocking.{blocks}
use Rattle.surroundings.specs.Asking.{first_blocking, first_none, first_next}
use Rattle.surroundings.proofs.AskLaws.{first_append}

-- one list and then another, of an answer that was looked for in this order
pub first_in_order : (r : Reach) (xs ys : List Claim) (found answer : Option Claim) → found ≡ first_blocking xs r → answer ≡ option_or found (first_blocking ys r) → answer ≡ first_blocking (xs ++ ys) r
first_in_order r xs ys found answer f a = a ∙ ap (λ o. option_or o (first_blocking ys r)) f ∙ sym (first_append r xs ys)

-- A loop over the rows that a list of claims is made from: what is left of them at the row i gives the whole answer.
module _ (r : Reach) {X : Type 0} (claim : X → Claim) (rows : List X) (i : ℕ) (whole : Option Claim) (left : whole ≡ first_blocking (map claim (drop i rows)) r) where
  -- at the row x, which is read with the default d and whose claim is c
  module _ (x d : X) (c : Claim) (within : i < length rows) (read : x ≡ get_or rows i d) (made : c ≡ claim x) where
    next : whole ≡ cond (blocks c r) (Some c) (first_blocking (map claim (drop (i + 1) rows)) r)
    next =
        left ∙ at_drop_more (λ l. first_blocking (map claim l) r) rows i d within ∙ first_next r (claim (get_or rows i d)) (map claim (drop (i + 1) rows)) ∙
        ap (λ k. cond (blocks k r) (Some k) (first_blocking (map claim (drop (i + 1) rows)) r)) (ap claim (sym read) ∙ sym made)

    pub row_found : blocks c r ≡ true → Some c ≡ whole
    row_found e = sym (next ∙ ap (λ b. cond b (Some c) (first_blocking (map claim (drop (i + 1) rows)) r)) e)

    pub row_passed : blocks c r ≡ false → whole ≡ first_blocking (map claim (drop (i + 1) rows)) r
    row_passed e = next ∙ ap (λ b. cond b (Some c) (first_blocking (map claim (drop (i + 1) rows)) r)) e

  -- past the last row
  pub rows_ended : length rows ≤ i → None ≡ whole
  rows_ended past = sym (left ∙ at_drop_all (λ l. first_blocking (map claim l) r) rows i past ∙ first_none r)
