-- Rows with other references: their names, their number, their types and which are combinations stay, and they come back with their references.
use Rattle.std.proofs.Common.{◌≡◌, ℕ, zero, suc, ◌-◌, false, ◌||◌, ◌&&◌, List, [], ◌∷◌, Option, Some, None, length, map, refl, ap, ap₂, ◌∙◌, unwrap_or, is_some}
use Rattle.std.specs.List.{AllByRecursion, slice_get}
use Rattle.std.specs.Option.{IfSome, option_map}
use Rattle.std.proofs.lemmas.List.{length-map}
use Rattle.problem_definitions.specs.Names.{Name, same}
use Rattle.problem_definitions.specs.Kinds.{is_free_kind}
use Rattle.problem_definitions.specs.Problem.{Row, Entry, has_free_row, has_combination}
use Rattle.problem_definitions.specs.Numbering.{entry_by, row_by}
use Rattle.problem_definitions.specs.Valid.{is_free_row, is_combination}
use Rattle.problem_definitions.proofs.Groups.{map-map}
use Rattle.problem_definitions.proofs.Each.{map-kept}

module _ {R S : Type 0} (f : R → S) where
  pub row_names-by : (rows : List (Row R)) → map (λ row. row.name) (map (row_by f) rows) ≡ map (λ row. row.name) rows
  row_names-by rows = map-map (λ row. row.name) (row_by f) rows

  pub row_count-by : (rows : List (Row R)) → length (map (row_by f) rows) ≡ length rows
  row_count-by rows = length-map rows (row_by f)

  pub is_free_row-by : (rows : List (Row R)) (number : ℕ) → is_free_row (map (row_by f) rows) number ≡ is_free_row rows number
  is_free_row-by rows number = at rows (number - 1)
    where
      at : (rows : List (Row R)) (place : ℕ) →
          unwrap_or (option_map (λ row. is_free_kind row.kind) (slice_get (map (row_by f) rows) place)) false ≡ unwrap_or
          (option_map (λ row. is_free_kind row.kind) (slice_get rows place)) false
      at [] place = refl
      at (row ∷ rows) zero = refl
      at (row ∷ rows) (suc place) = at rows place

  pub has_free_row-by : (rows : List (Row R)) (name : Name) → has_free_row (map (row_by f) rows) name ≡ has_free_row rows name
  has_free_row-by [] name = refl
  has_free_row-by (row ∷ rows) name = ap (λ b. same name row.name && is_free_kind row.kind || b) (has_free_row-by rows name)

  parts-by : (parts : Option (List (Entry R))) → is_some (option_map (map (entry_by f)) parts) ≡ is_some parts
  parts-by None = refl
  parts-by (Some parts) = refl

  pub is_combination-by : (rows : List (Row R)) (number : ℕ) → is_combination (map (row_by f) rows) number ≡ is_combination rows number
  is_combination-by rows number = at rows (number - 1)
    where
      at : (rows : List (Row R)) (place : ℕ) →
          unwrap_or (option_map (λ row. is_some row.parts) (slice_get (map (row_by f) rows) place)) false ≡ unwrap_or
          (option_map (λ row. is_some row.parts) (slice_get rows place)) false
      at [] place = refl
      at (row ∷ rows) zero = parts-by row.parts
      at (row ∷ rows) (suc place) = at rows place

  pub has_combination-by : (rows : List (Row R)) (name : Name) → has_combination (map (row_by f) rows) name ≡ has_combination rows name
  has_combination-by [] name = refl
  has_combination-by (row ∷ rows) name = ap₂ (λ b c. same name row.name && b || c) (parts-by row.parts) (has_combination-by rows name)

module _ {R S : Type 0} (to : R → S) (back : S → R) where
  -- the parts of a row come back
  abbrev pub AreAgain : List (Entry R) → Type 0
  AreAgain parts = AllByRecursion (λ part. entry_by back (entry_by to part) ≡ part) parts

  parts-again : (parts : Option (List (Entry R))) → IfSome parts AreAgain → option_map (map (entry_by back)) (option_map (map (entry_by to)) parts) ≡ parts
  parts-again None again = refl
  parts-again (Some parts) again = ap Some (map-map (entry_by back) (entry_by to) parts ∙ map-kept (λ part. entry_by back (entry_by to part)) parts again)

  -- rows whose parts come back, come back
  pub rows-again : (rows : List (Row R)) → AllByRecursion (λ row. IfSome row.parts AreAgain) rows → map (row_by back) (map (row_by to) rows) ≡ rows
  rows-again [] again = refl
  rows-again (row ∷ rows) again =
      ap₂ (λ parts rest. record { kind = row.kind; name = row.name; parts = parts } ∷ rest) (parts-again row.parts again.0) (rows-again rows again.1)
