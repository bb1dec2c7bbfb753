use Rattle.std.proofs.Common.{◌≡◌, ◌+◌, ◌*◌, ◌%◌, drop}
use Rattle.floors.specs.Bytes.{word_sum}
use Rattle.floors.proofs.sums.sum_of_words.Given as goal

abbrev pub invariant-loop-word : goal.invariant-loop-word
invariant-loop-word l = (l.sum + word_sum (drop (2 * l.word-index) l.bytes)) % 65536 ≡ word_sum l.bytes % 65536
