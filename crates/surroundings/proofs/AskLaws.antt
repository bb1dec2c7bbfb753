-- What is known of the question. Assumes nothing.
use Rattle.std.proofs.Common.{◌≡◌, ℕ, Bool, true, false, cond, List, [], ◌∷◌, ◌++◌, Some, None, Option, sym, refl, ap, ◌∙◌, subst, arith}
use Rattle.std.specs.List.{AllByRecursion}
use Rattle.std.specs.Option.{option_or}
use Rattle.std.proofs.lemmas.List.Folds.{find-append}
use Rattle.claims.specs.declared.boxes.Span.{Span}
use Rattle.claims.specs.declared.boxes.Claim.{Claim}
use Rattle.claims.specs.declared.boxes.Reach.{Reach}
use Rattle.claims.specs.Blocking.{Blocks, blocks}
use Rattle.claims.specs.Horizons.{strips}
use Rattle.claims.proofs.BlockLaws.{blocks_decides}
use Rattle.surroundings.specs.Asking.{Clear, FirstBlocking, first_blocking, first_none, first_next}

module _ (r : Reach) where
  -- one list and then another
  pub first_append : (xs ys : List Claim) → first_blocking (xs ++ ys) r ≡ option_or (first_blocking xs r) (first_blocking ys r)
  unfolding first_blocking
  first_append xs ys = find-append (λ c. blocks c r) xs ys

  -- the same where the first list is the four strips
  pub first_after_strips : (x y : Span) (speed : ℕ) (ys : List Claim) → first_blocking (strips x y speed ++ ys) r ≡ option_or (first_blocking (strips x y speed) r) (first_blocking ys r)
  first_after_strips x y speed ys = first_append (strips x y speed) ys

  -- The value is the first that blocks, in plain words.
  pub first_is : (cs : List Claim) → FirstBlocking cs r (first_blocking cs r)
  first_is [] = subst (FirstBlocking [] r) (sym (first_none r)) tt
  first_is (c ∷ cs) = subst (FirstBlocking (c ∷ cs) r) (sym (first_next r c cs)) (by (blocks c r) refl (first_blocking cs r) (first_is cs))
    where
      by : (b : Bool) → blocks c r ≡ b → (o : Option Claim) → FirstBlocking cs r o → FirstBlocking (c ∷ cs) r (cond b (Some c) o)
      by true e o h = ([], cs, refl, tt, (blocks_decides c r).0 e)
      by false e None h = let d = blocks_decides c r in (λ b. grind (arith, d), h)
      by false e (Some f) h = let d = blocks_decides c r in (c ∷ h.0, h.1, ap (λ l. c ∷ l) h.2, (λ b. grind (arith, d), h.3), h.4)

  -- the same of an answer that is the value
  pub first_said : (cs : List Claim) (o : Option Claim) → o ≡ first_blocking cs r → FirstBlocking cs r o
  first_said cs o e = subst (FirstBlocking cs r) (sym e) (first_is cs)

  none_found : (cs : List Claim) → AllByRecursion (Clear r) cs → first_blocking cs r ≡ None
  none_found [] h = first_none r
  none_found (c ∷ cs) h = let d = blocks_decides c r in let free = h.0 in grind (arith, d, free, first_next r c cs, none_found cs h.1)

  one_found : (front : List Claim) (c : Claim) (back : List Claim) → AllByRecursion (Clear r) front → Blocks c r → first_blocking (front ++ c ∷ back) r ≡ Some c
  one_found front c back free b =
      grind (arith, first_append front (c ∷ back), none_found front free, first_next r c back, (blocks_decides c r).1 b)

  -- No other answer is.
  pub first_only : (cs : List Claim) (o : Option Claim) → FirstBlocking cs r o → o ≡ first_blocking cs r
  first_only cs None h = sym (none_found cs h)
  first_only cs (Some c) h = sym (ap (λ l. first_blocking l r) h.2 ∙ one_found h.0 c h.1 h.3 h.4)
