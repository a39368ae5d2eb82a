-- Rows that are no combinations.
use Rattle.std.proofs.Common.{◌≡◌, true, List, Option, Some, None, refl}
use Rattle.std.specs.List.{AllByRecursion}
use Rattle.std.specs.Option.{is_none}
use Rattle.problem_definitions.specs.Problem.{Row, plain_row, Entry}

-- rows that are no combinations
abbrev pub ArePlain : {R : Type 0} → List (Row R) → Type 0
ArePlain rows = AllByRecursion (λ row. is_none row.parts ≡ true) rows

-- a plain row is that of its type and its name
pub plain-is : {R : Type 0} (row : Row R) → is_none row.parts ≡ true → plain_row row.kind row.name ≡ row
plain-is {R} row plain = by row.parts plain
  where
    by : (parts : Option (List (Entry R))) → is_none parts ≡ true → plain_row row.kind row.name ≡ record { kind = row.kind; name = row.name; parts = parts }
    by None h = refl
    by (Some parts) h = absurd (cc h)
