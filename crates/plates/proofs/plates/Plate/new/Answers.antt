use Rattle.plates.proofs.PlateLaws.{made_sound}
use Rattle.plates.proofs.plates.Plate.new.Goals as goal

pub holding-requires : goal.holding-requires
holding-requires c = made_sound c.args.fields c.in_ok-checked.ensures.0
