use Rattle.std.proofs.Common.{map, ap, ◌∙◌}
use Rattle.std.specs.List.{flat_map}
use Rattle.claims.specs.Things.{fixture_counted}
use Rattle.plates.specs.Plates.{held}
use Rattle.floors.specs.Bytes.{written}
use Rattle.floors.specs.Blocks.{fixture_record}
use Rattle.floor_writer.proofs.Writes.{later_records}
use Rattle.floor_writer.proofs.blocks.Contents.put_records.Goals as goal

pub returns-in-Fixtures : goal.returns-in-Fixtures
returns-in-Fixtures c =
    c.put_fixtures.ensures ∙ ap (λ l. written c.args.block.now 8 (flat_map fixture_record (map fixture_counted l))) c.rows_in.ensures
    ∙ ap (written c.args.block.now 8) (later_records (held c.args.self.now.plate) c.args.self.now.rows.now c.args.number c.in-Fixtures.ensures)
