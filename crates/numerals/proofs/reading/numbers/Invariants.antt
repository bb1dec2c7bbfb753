use Rattle.std.proofs.Common.{◌≡◌, length}
use Rattle.std.specs.Str.Iter.{split_whitespace_rest}
use Rattle.numerals.proofs.Words.{ReadSoFar}
use Rattle.numerals.proofs.reading.numbers.Given as goal

abbrev pub invariant-loop-value : goal.invariant-loop-value
invariant-loop-value g l = ReadSoFar l.text (split_whitespace_rest l.words) l.value-index l.value-items × (length l.value-items ≡ g.row.N)
