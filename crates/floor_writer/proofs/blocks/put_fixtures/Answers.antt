use Rattle.std.proofs.Common.{◌≡◌, ◌+◌, ◌*◌, get_or, sym, ap, ◌∙◌, arith}
use Rattle.std.specs.List.{flat_map}
use Rattle.std.proofs.lemmas.List.{take_all}
use Rattle.floors.specs.Bytes.{written}
use Rattle.floors.specs.Blocks.{fixture_record}
use Rattle.claims.specs.Things.{fixture_counted, zero_fixture}
use Rattle.floors.proofs.Pieces.{joined_map}
use Rattle.floors.proofs.Records.{length_fixture}
use Rattle.floor_writer.proofs.Writes.{records_more}
use Rattle.floor_writer.proofs.blocks.put_fixtures.Goals as goal

pub returns : goal.returns
returns c =
    let fs = c.args.rows.now in
    c.loop-j.invariant
    ∙ ap (λ xs. written c.args.block.now 8 (flat_map (λ f. fixture_record (fixture_counted f)) xs)) (take_all c.loop-j.j fs (omega arith))
    ∙ ap (written c.args.block.now 8) (sym (joined_map fixture_record fixture_counted fs))

pub loop-j-preserved : goal.loop-j-preserved
loop-j-preserved c =
    let j = c.loop-j.j in
    let b = c.loop-j.block in
    let one : c.put_row.new.block ≡ written b (8 + 36 * j) (fixture_record (fixture_counted (get_or c.args.rows.now j zero_fixture))) = cc in
    one
    ∙ records_more (λ f. fixture_record (fixture_counted f)) 36 (λ f. length_fixture (fixture_counted f)) c.args.block.now 8 c.args.rows.now j zero_fixture b
    (omega arith) (omega arith) c.loop-j.invariant
