use Rattle.claims.proofs.BlockLaws.{edges_decide}
use Rattle.claims.proofs.boxes.Claim.blocks.Goals as goal

pub returns : goal.returns
returns c = let h = edges_decide c.args.self.now c.args.reach.now c.edges_meet.result c.edges_meet.ensures in record { value = h.0; point = h.1 }
