use Rattle.std.proofs.Common.{set, ap, ◌∙◌, arith}
use Rattle.floors.specs.Floors.{row_in}
use Rattle.floors.specs.Blocks.{fixture_at}
use Rattle.floor_reader.proofs.ReadLaws.{fill_row}
use Rattle.floor_reader.proofs.reading.fill.Goals as goal

pub loop-k-preserved : goal.loop-k-preserved
loop-k-preserved c =
    let k = c.loop-k.k in
    let row = c.fixture_row.ensures ∙ ap (fixture_at c.args.bytes.now) c.row_offset.ensures in
    ap (λ t. set t k c.fixture_row.result) c.loop-k.invariant ∙ ap (set _ k) row
    ∙ fill_row (row_in c.args.bytes.now) c.args.rows.now k (omega arith)
