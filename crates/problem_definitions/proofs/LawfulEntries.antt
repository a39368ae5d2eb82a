-- Entries by names that are lawful: those of columns, the items of sets, and the parts of combinations.
use Rattle.std.proofs.Common.{◌≡◌, true, List, map}
use Rattle.std.specs.List.{AllByRecursion, IsDistinct}
use Rattle.problem_definitions.specs.Names.{Name, same}
use Rattle.problem_definitions.specs.Problem.{Row, Entry, has_row}
use Rattle.problem_definitions.specs.Valid.{IsDecimal}

-- entries on rows that are there, no two on one row
pub record AreLawfulEntries (rows : List (Row Name)) (entries : List (Entry Name)) : Type 0 where
  pub on_rows : AllByRecursion (λ entry. has_row rows entry.row ≡ true) entries
  pub distinct : IsDistinct same (map (λ entry. entry.row) entries)
  pub values : AllByRecursion (λ entry. IsDecimal entry.value) entries
