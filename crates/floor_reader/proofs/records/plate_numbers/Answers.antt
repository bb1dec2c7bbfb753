use Rattle.std.proofs.Common.{◌+◌, ◌*◌, pos, rules}
use Rattle.floors.specs.Bytes.{i64_at}
use Rattle.floors.specs.Blocks.{numbers_at}
use Rattle.floor_reader.proofs.ReadLaws.{made}
use Rattle.floor_reader.proofs.records.plate_numbers.Goals as goal

pub returns : goal.returns
unfolding numbers_at
returns c =
    made _ _ (λ k. i64_at c.args.bytes.now (c.args.byte + 8 * k)) (λ k y q call. search rules) c.from_fn.result 9 (pos 0) c.from_fn.ensures.items
