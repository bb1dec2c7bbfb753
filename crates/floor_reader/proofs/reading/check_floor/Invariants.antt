use Rattle.std.proofs.Common.{◌≡◌, ◌+◌, ◌-◌, ◌*◌, get_or, None}
use Rattle.floors.specs.Blocks.{first_among}
use Rattle.floors.specs.Floors.{refused_in, block_in}
use Rattle.floor_reader.proofs.reading.check_floor.Given as goal

abbrev pub invariant-loop-before : goal.invariant-loop-before
invariant-loop-before l = record {
  fine : first_among (refused_in l.bytes) 0 (l.before + 1) ≡ None;
  counted : l.count ≡ 13 * (l.before - 1) + get_or (block_in l.bytes l.before) 1 0;
}
