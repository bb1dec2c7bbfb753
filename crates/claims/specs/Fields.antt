-- How the fields of things and of what is seen count. Assumes nothing.
use Rattle.std.specs.Prelude.{ℕ}
use Rattle.claims.specs.declared.fields.FixtureField.{FixtureField}
use Rattle.claims.specs.declared.fields.FixtureField.TheVariants.{LowX, HighX, LowY, HighY}
use Rattle.claims.specs.declared.fields.MoverField.{MoverField}
use Rattle.claims.specs.declared.fields.MoverField.TheVariants.{X, Y, HalfSide, Error, Speed, Age}
use Rattle.claims.specs.declared.fields.ThingField.{ThingField}
use Rattle.claims.specs.declared.fields.ThingField.TheVariants.{OfFixture, OfMover, OfSeen, OfOther}
use Rattle.claims.specs.SeenFields.{seen_field_number}

-- of a fixture: label, low x, high x, low y, high y
abbrev pub fixture_field_number : FixtureField → ℕ
fixture_field_number LowX = 2
fixture_field_number HighX = 3
fixture_field_number LowY = 4
fixture_field_number HighY = 5

-- of a mover: label, centre x, centre y, half side, error, speed, age
abbrev pub mover_field_number : MoverField → ℕ
mover_field_number X = 2
mover_field_number Y = 3
mover_field_number HalfSide = 4
mover_field_number Error = 5
mover_field_number Speed = 6
mover_field_number Age = 7

-- the number of a field in its table; a kind of one's own gives the number itself
abbrev pub field_number : ThingField → ℕ
field_number (OfFixture field) = fixture_field_number field
field_number (OfMover field) = mover_field_number field
field_number (OfSeen field) = seen_field_number field
field_number (OfOther number) = number
