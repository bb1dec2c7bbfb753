use Rattle.std.proofs.Common.{◌≡◌, ◌+◌, ◌*◌, get_or, pos, ◌∙◌, arith, rules}
use Rattle.floors.specs.Bytes.{written, i64_bytes}
use Rattle.floors.proofs.Records.{length_i64}
use Rattle.floor_writer.proofs.Writes.{records_more}
use Rattle.floor_writer.proofs.blocks.put_plate.Goals as goal

pub loop-k-preserved : goal.loop-k-preserved
loop-k-preserved c =
    let k = c.loop-k.k in
    let ns = c.into-numbers.result in
    let b = c.loop-k.block in
    let one : c.put_number.new.block ≡ written b (8 + 8 * k) (i64_bytes (get_or ns k (pos 0))) = search rules in
    one
    ∙ records_more i64_bytes 8 length_i64 c.args.block.now 8 ns k (pos 0) b (omega arith) (omega arith) c.loop-k.invariant
