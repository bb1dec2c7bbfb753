use Rattle.std.proofs.Common.{◌≡◌, ◌*◌, ◌++◌, map, drop}
use Rattle.std.specs.List.{range_with_len, flat_map}
use Rattle.claims.specs.Things.{fixture_counted}
use Rattle.plates.specs.Plates.{held}
use Rattle.floors.specs.Floors.{floor_block}
use Rattle.floor_writer.proofs.blocks.Contents.write.Given as goal

abbrev pub invariant-loop-number : goal.invariant-loop-number
invariant-loop-number l =
    l.out ≡ flat_map (floor_block (held l.self.plate) (map fixture_counted l.self.rows.now)) (range_with_len 0 l.number) ++ drop (512 * l.number) l.initial.out
