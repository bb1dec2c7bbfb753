-- The kinds of a block. Assumes nothing.
use Rattle.std.specs.Prelude.{ℕ, zero, suc}
use Rattle.floors.specs.declared.layout.BlockKind.{BlockKind}
use Rattle.floors.specs.declared.layout.BlockKind.TheVariants.{Plate, Fixtures}

-- the kind of block i: the plate's is block 0, and the others are of fixtures
abbrev pub block_kind : ℕ → BlockKind
block_kind zero = Plate
block_kind (suc i) = Fixtures

-- the first byte of a block of each kind
abbrev pub kind_number : BlockKind → ℕ
kind_number Plate = 1
kind_number Fixtures = 2
