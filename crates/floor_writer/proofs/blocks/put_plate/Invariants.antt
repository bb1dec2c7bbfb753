use Rattle.std.proofs.Common.{◌≡◌, take}
use Rattle.std.specs.List.{flat_map}
use Rattle.floors.specs.Bytes.{written, i64_bytes}
use Rattle.floor_writer.proofs.blocks.put_plate.Given as goal

abbrev pub invariant-loop-k : goal.invariant-loop-k
invariant-loop-k l = l.block ≡ written l.initial.block 8 (flat_map i64_bytes (take l.k l.number-items))
