use Rattle.std.proofs.Common.{arith, w64, SFits, rules}
use lib.Signed.{le_z}
use Rattle.std.proofs.lemmas.Int.{ints, to_z-of_z}
use Rattle.claims.proofs.Edges.{low_saturated, high_saturated}
use Rattle.claims.proofs.boxes.Span.meets.Goals as goal

pub returns : goal.returns
returns c =
    let self = c.args.self.now in
    let other = c.args.other.now in
    let f1 : SFits w64 self.low = search rules in
    let f2 : SFits w64 self.high = search rules in
    let f3 : SFits w64 other.low = search rules in
    let f4 : SFits w64 other.high = search rules in
    let f5 : SFits w64 c.saturating_sub_unsigned.result = search rules in
    let f6 : SFits w64 c.saturating_add_unsigned.result = search rules in
    let f7 : SFits w64 c.max-low.result = search rules in
    let f8 : SFits w64 c.min-high.result = search rules in
    let low =
    low_saturated self.low other.low c.saturating_sub_unsigned.result c.max-low.result c.args.by (omega (arith, ints)) (omega (arith, ints))
    (simp to_z-of_z at c.saturating_sub_unsigned.ensures) (simp to_z-of_z at c.max-low.ensures.value) in
    let high =
    high_saturated self.high other.high c.saturating_add_unsigned.result c.min-high.result c.args.by (omega (arith, ints)) (omega (arith, ints))
    (simp to_z-of_z at c.saturating_add_unsigned.ensures) (simp to_z-of_z at c.min-high.ensures.value) in
    simp to_z-of_z (λ i. le_z (low i) (high i))
