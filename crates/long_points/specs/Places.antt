-- How many values there are.
--     HasPlaces p end              the point and the prices of an end have a value for each variable
use Rattle.std.specs.Prelude.{◌≡◌, length}
use Rattle.lp_definitions.specs.LinearProgram.{LinearProgram, size}
use Rattle.long_points.specs.declared.ends.End.{End}

abbrev pub HasPlaces : LinearProgram → End → Type 0
HasPlaces p end = (length end.point.column.tops.items ≡ size p.matrix) × (length end.prices.column.tops.items ≡ size p.matrix)
