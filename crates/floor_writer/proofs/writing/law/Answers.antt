use Rattle.floors.proofs.Exact.{read_was_written}
use Rattle.floor_writer.proofs.writing.law.Goals as goal

pub returns-clause-only : goal.returns-clause-only
returns-clause-only c = read_was_written
