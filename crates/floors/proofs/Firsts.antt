-- The first refusal among several. Assumes nothing.
use Rattle.std.proofs.Common.{◌≡◌, ℕ, zero, suc, ◌+◌, ◌-◌, ◌<◌, Some, None, Option, sym, refl, ap, ◌∙◌, add-zero, suc-add, zero-add, arith}
use Rattle.std.specs.Option.{option_map}
use Rattle.refusals.specs.Refusals.{Refusal}
use Rattle.refusals.specs.Answers.{or_else}
use Rattle.floors.specs.Blocks.{first_among}

pub or_else_none : (a b : Option Refusal) → or_else a b ≡ None → (a ≡ None) × (b ≡ None)
or_else_none (Some x) b e = absurd cc
or_else_none None b e = (refl, e)

or_else_assoc : (a b c : Option Refusal) → or_else (or_else a b) c ≡ or_else a (or_else b c)
or_else_assoc (Some x) b c = refl
or_else_assoc None b c = refl

-- the answers of the n places from a on, and then of m more
pub first_among_add : (f : ℕ → Option Refusal) (a n m : ℕ) → first_among f a (n + m) ≡ or_else (first_among f a n) (first_among f (a + n) m)
first_among_add f a zero m = rw (zero-add, add-zero)
first_among_add f a (suc n) m =
    let s : a + 1 + n ≡ a + suc n = omega arith in
    rw suc-add (ap (or_else (f a)) (rw s at (first_among_add f (a + 1) n m)) ∙ sym (or_else_assoc (f a) (first_among f (a + 1) n) (first_among f (a + suc n) m)))

-- no answer at each place before i, nor at i
pub first_among_more : (f : ℕ → Option Refusal) (i : ℕ) → first_among f 0 i ≡ None → f i ≡ None → first_among f 0 (i + 1) ≡ None
first_among_more f i e h = first_among_add f 0 i 1 ∙ rw (e, zero-add, h)

-- no answer before i, and one at i
pub first_among_found : (f : ℕ → Option Refusal) (i n : ℕ) (x : Refusal) → first_among f 0 i ≡ None → f i ≡ Some x → i < n → first_among f 0 n ≡ Some x
first_among_found f i n x e h l =
    let s : i + suc (n - suc i) ≡ n = omega arith in
    let t : first_among f 0 (i + suc (n - suc i)) ≡ Some x = first_among_add f 0 i (suc (n - suc i)) ∙ rw (e, zero-add, h) in
    rw s at t

-- no answer at all
pub first_among_none : (f : ℕ → Option Refusal) (a n : ℕ) → first_among f a n ≡ None → (i : ℕ) → i < n → f (a + i) ≡ None
first_among_none f a zero e i l = absurd (omega arith)
first_among_none f a (suc n) e zero l = rw add-zero (or_else_none (f a) (first_among f (a + 1) n) e).0
first_among_none f a (suc n) e (suc i) l =
    let s : a + 1 + i ≡ a + suc i = omega arith in
    rw s at (first_among_none f (a + 1) n (or_else_none (f a) (first_among f (a + 1) n) e).1 i (omega arith))

pub first_among_all : (f : ℕ → Option Refusal) (a n : ℕ) → ((i : ℕ) → i < n → f (a + i) ≡ None) → first_among f a n ≡ None
first_among_all f a zero h = refl
first_among_all f a (suc n) h =
    let here : f a ≡ None = rw add-zero at (h 0 (omega arith)) in
    rw here (first_among_all f (a + 1) n (λ i l. let s : a + suc i ≡ a + 1 + i = omega arith in rw s at (h (suc i) (omega arith))))

pub mapped_none : {X Y : Type 0} (f : X → Y) (o : Option X) → option_map f o ≡ None → o ≡ None
mapped_none f (Some x) e = absurd cc
mapped_none f None e = refl
