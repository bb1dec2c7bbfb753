use Rattle.gate.specs.Gates.{asked}
use Rattle.gate.proofs.Runs.{justify}
use Rattle.gate.proofs.gates.Gate.tick.Goals as goal

pub returns-clause-justified : goal.returns-clause-justified
returns-clause-justified g c =
    let around = c.args.around.now in
    justify c.args.self.now (asked c.args.measured c.args.proposal (g.S.Surroundings.claims around)) (g.met.S.Surroundings.sound around)
