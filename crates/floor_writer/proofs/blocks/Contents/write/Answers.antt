use Rattle.std.proofs.Common.{◌≡◌, ◌+◌, ◌*◌, ◌++◌, map, length, take, drop, sym, ap, ◌∙◌, arith}
use Rattle.std.proofs.lemmas.List.{length-map}
use Rattle.plates.specs.Plates.{held}
use Rattle.claims.specs.Things.{fixture_counted}
use Rattle.floors.specs.Bytes.{written}
use Rattle.floors.specs.Floors.{floor_block, blocks_for}
use Rattle.floors.proofs.ReadingBack.{length_block, length_file}
use Rattle.floor_writer.specs.Writing.{file_of, over}
use Rattle.floor_writer.proofs.Exact.{written_again}
use Rattle.floor_writer.proofs.Writes.{blocks_more, file_on}
use Rattle.floor_writer.proofs.blocks.Contents.write.Goals as goal

pub loop-number-preserved : goal.loop-number-preserved
loop-number-preserved c =
    let fields = held c.args.self.now.plate in
    let rows = map fixture_counted c.args.self.now.rows.now in
    let at = 512 * c.loop-number.number in
    let out = c.loop-number.out in
    c.put.ensures ∙ ap (written out at) c.block.ensures
    ∙ ap (λ n. take at out ++ (floor_block fields rows c.loop-number.number ++ drop (at + n) out)) (length_block fields rows c.loop-number.number)
    ∙ blocks_more (floor_block fields rows) (length_block fields rows) c.args.out.now c.loop-number.number c.loop-number.out (omega arith) c.loop-number.invariant

pub returns : goal.returns
returns c =
    let plate = c.args.self.now.plate in
    let fs = c.args.self.now.rows.now in
    let rows = map fixture_counted fs in
    let same = length-map fs fixture_counted in
    let k : c.loop-number.number ≡ blocks_for (length rows) = omega arith in
    let is : c.loop-number.out ≡ over (file_of plate fs) c.args.out.now = file_on (held plate) rows c.args.out.now c.loop-number.out c.loop-number.number k c.loop-number.invariant in
    let n : 512 * c.blocks_for-count.result ≡ 512 * blocks_for (length rows) = omega arith in
    let long = n ∙ sym (length_file (held plate) rows) in
    record { long = long; bytes = is; read_again = written_again plate fs c.args.out.now c.loop-number.out _ c.requires.labels c.requires.few long is }
