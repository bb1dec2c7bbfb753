use Rattle.std.proofs.Common.{take}
use Rattle.std.specs.List.{AllByRecursion}
use Rattle.floor_writer.specs.Writing.{Labelled}
use Rattle.floor_writer.proofs.writing.law.Given as goal

abbrev pub invariant-loop-row : goal.invariant-loop-row
invariant-loop-row l = AllByRecursion Labelled (take l.row-index l.rows)
