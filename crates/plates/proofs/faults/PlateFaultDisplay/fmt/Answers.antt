use Rattle.plates.proofs.faults.PlateFaultDisplay.fmt.Goals as goal

pub returns-in-OutOfRange-clause-writes : goal.returns-in-OutOfRange-clause-writes
returns-in-OutOfRange-clause-writes g c =
    let shown = simp (c.number-number.ensures, c.range-low.ensures) at c.write.ensures.writes in
    simp c.in-OutOfRange.is shown
