-- How the fields of what is seen count; they stand apart, as a fixture has fields of the same names. Assumes nothing.
use Rattle.std.specs.Prelude.{ℕ}
use Rattle.claims.specs.declared.fields.SeenField.{SeenField}
use Rattle.claims.specs.declared.fields.SeenField.TheVariants.{LowX, HighX, LowY, HighY, Speed}

-- of what is seen: low x, high x, low y, high y, and the speed of unseen things
abbrev pub seen_field_number : SeenField → ℕ
seen_field_number LowX = 1
seen_field_number HighX = 2
seen_field_number LowY = 3
seen_field_number HighY = 4
seen_field_number Speed = 5
