use Rattle.std.proofs.Common.{length, replicate, refl, ap, ◌∙◌}
use Rattle.plates.specs.Plates.{held}
use Rattle.floors.specs.Bytes.{written}
use Rattle.floors.specs.Blocks.{head_bytes}
use Rattle.floor_writer.proofs.Writes.{block_on}
use Rattle.floor_writer.proofs.blocks.Contents.block.Goals as goal

pub returns : goal.returns
returns c =
    let contents = c.args.self.now in
    block_on (held contents.plate) contents.rows.now c.args.number (replicate 512 0) c.put.new.bytes c.put_records.new.block c.seal.new.block refl
    (c.put.ensures ∙ ap (written (replicate 512 0) 0) (c.head_bytes.ensures ∙ ap (λ l. head_bytes c.args.number (length l)) c.rows_in.ensures)) c.put_records.ensures c.seal.ensures
