use Rattle.std.proofs.Common.{◌≡◌, ◌++◌, map, drop}
use Rattle.std.specs.List.{range_with_len}
use Rattle.floors.specs.Floors.{row_in}
use Rattle.floor_reader.proofs.reading.fill.Given as goal

abbrev pub invariant-loop-k : goal.invariant-loop-k
invariant-loop-k l = l.rows ≡ map (row_in l.bytes) (range_with_len 0 l.k) ++ drop l.k l.initial.rows
