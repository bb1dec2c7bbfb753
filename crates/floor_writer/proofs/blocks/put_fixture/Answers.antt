use Rattle.std.proofs.Common.{◌≡◌, ◌+◌, arith, rules}
use Rattle.floors.specs.Bytes.{written, le_bytes, i64_bytes}
use Rattle.floor_writer.proofs.Writes.{fixture_on}
use Rattle.floor_writer.proofs.blocks.put_fixture.Goals as goal

pub returns : goal.returns
returns c =
    let f = c.args.fixture.now in
    let at = c.args.at in
    let label : c.put.new.bytes ≡ written c.args.block.now at (le_bytes 4 f.label) = search rules in
    let low_x : c.put_number.new.block ≡ written c.put.new.bytes (at + 4) (i64_bytes f.x.low) = search rules in
    let high_x : c.put_number-2.new.block ≡ written c.put_number.new.block (at + 12) (i64_bytes f.x.high) = search rules in
    let low_y : c.put_number-3.new.block ≡ written c.put_number-2.new.block (at + 20) (i64_bytes f.y.low) = search rules in
    let high_y : c.put_number-4.new.block ≡ written c.put_number-3.new.block (at + 28) (i64_bytes f.y.high) = search rules in
    fixture_on c.args.block.now at f _ _ _ _ _ (omega arith) label low_x high_x low_y high_y
