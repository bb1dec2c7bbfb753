use Rattle.std.proofs.Common.{ap, ◌∙◌}
use Rattle.floors.specs.Blocks.{used_bytes}
use Rattle.floors.proofs.Departing.{right_head}
use Rattle.floor_reader.proofs.blocks.Block.check_bytes.Goals as goal

pub returns-in-Some : goal.returns-in-Some
returns-in-Some c =
    let h = c.in_ok-count.ensures in
    let w = right_head c.args.self.now.total c.args.self.now.number c.args.self.now.bytes.now c.args.self.now.whole _ h.0
    c.in_ok-count.rest.now h.1.1 c.used_bytes-used.result (c.used_bytes-used.ensures ∙ ap (used_bytes c.args.self.now.number) h.1.0) in
    w ∙ rw (← c.in-Some.ensures, c.place-place.ensures)

pub returns-in-None : goal.returns-in-None
returns-in-None c =
    let h = c.in_ok-count.ensures in
    let w = right_head c.args.self.now.total c.args.self.now.number c.args.self.now.bytes.now c.args.self.now.whole _ h.0
    c.in_ok-count.rest.now h.1.1 c.used_bytes-used.result (c.used_bytes-used.ensures ∙ ap (used_bytes c.args.self.now.number) h.1.0) in
    (w ∙ rw (← c.in-None.ensures), tt)
