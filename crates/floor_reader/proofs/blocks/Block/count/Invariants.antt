use Rattle.std.proofs.Common.{◌≡◌, None}
use Rattle.floors.specs.Blocks.{first_among, row_refused}
use Rattle.floor_reader.proofs.blocks.Block.count.Given as goal

abbrev pub invariant-loop-j : goal.invariant-loop-j
invariant-loop-j l = first_among (row_refused l.self.number l.self.bytes.now) 0 l.j ≡ None
