use Rattle.std.proofs.Common.{◌≡◌, take}
use Rattle.std.specs.List.{flat_map}
use Rattle.floors.specs.Bytes.{written}
use Rattle.floors.specs.Blocks.{fixture_record}
use Rattle.claims.specs.Things.{fixture_counted}
use Rattle.floor_writer.proofs.blocks.put_fixtures.Given as goal

abbrev pub invariant-loop-j : goal.invariant-loop-j
invariant-loop-j l = l.block ≡ written l.initial.block 8 (flat_map (λ f. fixture_record (fixture_counted f)) (take l.j l.rows))
