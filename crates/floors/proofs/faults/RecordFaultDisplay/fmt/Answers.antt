use Rattle.floors.proofs.faults.RecordFaultDisplay.fmt.Goals as goal

pub returns-in-NoFixture-clause-writes : goal.returns-in-NoFixture-clause-writes
returns-in-NoFixture-clause-writes g c = simp c.in-NoFixture.is c.write-in-NoFixture.ensures.writes
