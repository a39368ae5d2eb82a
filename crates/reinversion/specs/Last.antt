-- The direction that was carried last.
--     IsLast f last                workspace for a direction; and where a variable is named, that of it at the basics of the file
use Rattle.std.specs.Prelude.{◌≡◌, ℕ, List, length, Option, Some, None}
use Rattle.exact_values.specs.Rational.{ℚ}
use Rattle.lp_definitions.specs.LinearProgram.{size, value_at}
use Rattle.lp_definitions.specs.Basis.{IsNonbasic, IsDirectionOf}
use Rattle.eta_file.specs.Inverse.{Inverse}
use Rattle.reinversion.specs.declared.last_column.LastColumn.{LastColumn}

abbrev pub IsCarried : Inverse → Option ℕ → List ℚ → Type 0
IsCarried f None xs = Unit {0}
IsCarried f (Some j) xs = IsNonbasic f.matrix f.basics j × IsDirectionOf f.matrix f.basics j (value_at xs)

pub record IsLast (f : Inverse) (last : LastColumn) : Type 0 where
  pub places : length last.direction.items ≡ size f.matrix
  pub wholes : length last.wholes ≡ size f.matrix
  pub carried : IsCarried f last.of last.direction.items
