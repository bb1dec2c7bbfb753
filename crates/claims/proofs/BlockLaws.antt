-- What the crates above know of blocking. Assumes nothing.
use Rattle.std.proofs.Common.{◌≡◌, ℕ, ◌*◌, ◌≤◌, Bool, true, ℤ, pos, ◌+ℤ◌, ◌-ℤ◌, ◌≤ℤ◌, Decides, sym, ◌∙◌, subst, le_refl, arith}
use Rattle.std.specs.Int.{int_max, int_min}
use Rattle.std.proofs.lemmas.Nat.{mul-le}
use Rattle.std.proofs.lemmas.Int.{ints, clamps}
use Rattle.std.proofs.lemmas.Bool.{and_parts, and_from}
use Rattle.claims.specs.declared.boxes.Claim.{Claim}
use Rattle.claims.specs.declared.boxes.Reach.{Reach}
use Rattle.claims.specs.Blocking.{grown, edges_meet, Covers, Blocks, blocks, blocks_edges, covers_box, box_covers}
use Rattle.claims.specs.Limits.{Sound}
use Rattle.claims.proofs.Edges.{shared, meeting}

-- The value decides whether there is a common point.
pub blocks_decides : (c : Claim) (r : Reach) → Decides (blocks c r) (Blocks c r)
blocks_decides c r = (there, here)
  where
    there : blocks c r ≡ true → Blocks c r
    there e =
        let parts = and_parts _ _ (sym (blocks_edges c r) ∙ e) in
        let on_x = shared (grown c.x (c.speed * r.time)) r.x parts.0 in
        let on_y = shared (grown c.y (c.speed * r.time)) r.y parts.1 in
        record { x = on_x.0; y = on_y.0; covered = box_covers c r.time on_x.0 on_y.0 (on_x.1, on_y.1); within_x = on_x.2; within_y = on_y.2 }

    here : Blocks c r → blocks c r ≡ true
    here b =
        let at = covers_box c r.time b.x b.y b.covered in
        blocks_edges c r ∙
        and_from _ _ (meeting (grown c.x (c.speed * r.time)) r.x b.x at.0 b.within_x) (meeting (grown c.y (c.speed * r.time)) r.y b.y at.1 b.within_y)

-- A comparison of the edges is the value, and decides.
pub edges_decide : (c : Claim) (r : Reach) (met : Bool) → met ≡ edges_meet c r → (met ≡ blocks c r) × Decides met (Blocks c r)
edges_decide c r met e =
    let value : met ≡ blocks c r = e ∙ sym (blocks_edges c r) in
    (value, subst (λ b. Decides b (Blocks c r)) (sym value) (blocks_decides c r))

-- Where a thing may be, it may be later too.
pub covers_later : (c : Claim) (t u : ℕ) (x y : ℤ) → t ≤ u → Covers c t x y → Covers c u x y
covers_later c t u x y h covered =
    let at = covers_box c t x y covered in
    let more = mul-le c.speed t c.speed u (le_refl c.speed) h in
    box_covers c u x y ((omega (arith, ints), omega (arith, ints)), (omega (arith, ints), omega (arith, ints)))

-- the number from a to b that is nearest to z
abbrev nearest : ℤ → ℤ → ℤ → ℤ
nearest a b z = int_max a (int_min b z)

nearest_in : (a b z : ℤ) → a ≤ℤ b → (a ≤ℤ nearest a b z) × (nearest a b z ≤ℤ b)
nearest_in a b z h = (omega (arith, ints, clamps), omega (arith, ints, clamps))

nearest_same : (a b z : ℤ) → a ≤ℤ z → z ≤ℤ b → nearest a b z ≡ z
nearest_same a b z h k = omega (arith, ints, clamps)

wide : (a b : ℤ) (n : ℕ) → a ≤ℤ b → (a -ℤ pos n) ≤ℤ (b +ℤ pos n)
wide a b n h = omega (arith, ints)

-- A thing whose claim is within its limits can come to wherever it may be after t ms, and be where its claim says at every ms.
pub covers_path : (c : Claim) (t : ℕ) (x y : ℤ) → Sound c → Covers c t x y → (px : ℕ → ℤ) × (py : ℕ → ℤ) × ((i : ℕ) → Covers c i (px i) (py i)) × (px t ≡ x) × (py t ≡ y)
covers_path c t x y sound covered =
    let at = covers_box c t x y covered in (
      λ i. nearest (grown c.x (c.speed * i)).low (grown c.x (c.speed * i)).high x,
      λ i. nearest (grown c.y (c.speed * i)).low (grown c.y (c.speed * i)).high y,
      λ i. box_covers c i _ _ (
        nearest_in (grown c.x (c.speed * i)).low (grown c.x (c.speed * i)).high x (wide c.x.low c.x.high (c.speed * i) sound.x.ordered),
        nearest_in (grown c.y (c.speed * i)).low (grown c.y (c.speed * i)).high y (wide c.y.low c.y.high (c.speed * i) sound.y.ordered),
      ),
      nearest_same (grown c.x (c.speed * t)).low (grown c.x (c.speed * t)).high x at.0.0 at.0.1,
      nearest_same (grown c.y (c.speed * t)).low (grown c.y (c.speed * t)).high y at.1.0 at.1.1,
    )
