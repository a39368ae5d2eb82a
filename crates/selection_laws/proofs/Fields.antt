-- What a lawful problem gives for combinations: their parts stand on rows before them, and columns have no entries on them.
use Rattle.std.proofs.Common.{◌≡◌, ℕ, zero, suc, ◌+◌, ◌-◌, ◌≤◌, ◌≢◌, ◌⊎◌, inl, inr, true, false, List, [], ◌∷◌, Some, None, length, slice_get, slice_index_or}
use Rattle.std.proofs.Common.{nat_eq, IfSome, IsFalse, All, refl, ap, ap₂, ◌∙◌, subst, arith}
use Rattle.std.specs.List.{enumerate_from, AllByRecursion}
use Rattle.std.proofs.lemmas.Option.{slice_get_within}
use Rattle.std.proofs.lemmas.Bool.Decides.{eqb_tells}
use Rattle.problem_definitions.specs.Problem.{Row, Entry, Group, Problem}
use Rattle.problem_definitions.specs.Valid.{IsProblem, AreEntries, IsNumberOf, is_combination}
use Rattle.problem_definitions.proofs.Each.{all-each, each-change}
use Rattle.selection_definitions.specs.Limits.{value_on}
use Rattle.selection_laws.proofs.Columns.{IsColumnOf}

pub numbered-at : (rows : List (Row ℕ)) (first k : ℕ) (row : Row ℕ) (d : ℕ × Row ℕ) → slice_get rows k ≡ Some row →
    slice_index_or (enumerate_from first rows) k d ≡ (first + k, row)
numbered-at [] first k row d is = absurd (cc is)
numbered-at (other ∷ rows) first zero row d is =
    let same : other ≡ row = cc is in let number : first ≡ first + 0 = omega arith in ap₂ (λ n (r : Row ℕ). (n, r)) number same
numbered-at (other ∷ rows) first (suc k) row d is =
    let number : first + 1 + k ≡ first + suc k = omega arith in numbered-at rows (first + 1) k row d is ∙ ap (λ n. (n, row)) number

pub length-numbered : (rows : List (Row ℕ)) (first : ℕ) → length (enumerate_from first rows) ≡ length rows
length-numbered [] first = refl
length-numbered (row ∷ rows) first = ap suc (length-numbered rows (first + 1))

module _ (rows : List (Row ℕ)) (each : All (λ (row : ℕ × Row ℕ). IfSome row.1.parts (AreEntries row.0)) (enumerate_from 0 rows)) where
  pub parts-at : (place : ℕ) (row : Row ℕ) (parts : List (Entry ℕ)) → slice_get rows place ≡ Some row → row.parts ≡ Some parts → AreEntries place parts
  parts-at place row parts is combines =
      let at : IfSome row.parts (AreEntries (0 + place)) =
      subst (λ (r : ℕ × Row ℕ). IfSome r.1.parts (AreEntries r.0)) (numbered-at rows 0 place row (0, row) is)
      (each place (0, row) (omega (arith, slice_get_within rows place row is, length-numbered rows 0))) in
      let number : 0 + place ≡ place = omega arith in
      subst (λ n. AreEntries n parts) number (subst (λ o. IfSome o (AreEntries (0 + place))) combines at)

  pub earlier-parts : (place : ℕ) (row : Row ℕ) (parts : List (Entry ℕ)) → slice_get rows place ≡ Some row → row.parts ≡ Some parts →
      AllByRecursion (λ (part : Entry ℕ). (1 ≤ part.row) × (part.row ≤ place)) parts
  earlier-parts place row parts is combines =
      bounds parts (all-each (λ (entry : Entry ℕ). IsNumberOf place entry.row) parts (parts-at place row parts is combines).on_rows)
    where
      bounds : (parts : List (Entry ℕ)) → AllByRecursion (λ (part : Entry ℕ). IsNumberOf place part.row) parts →
          AllByRecursion (λ (part : Entry ℕ). (1 ≤ part.row) × (part.row ≤ place)) parts
      bounds [] each = tt
      bounds (part ∷ parts) each = ((omega (arith, each.0.positive), each.0.at_most), bounds parts each.1)

pub bare-combination : (rows : List (Row ℕ)) (es : List (Entry ℕ)) → AllByRecursion (λ (entry : Entry ℕ). IsFalse (is_combination rows entry.row)) es
    → (place : ℕ) (row : Row ℕ) (parts : List (Entry ℕ)) → slice_get rows place ≡ Some row → row.parts ≡ Some parts → value_on es (place + 1) ≡ None
bare-combination rows [] each place row parts is combines = refl
bare-combination rows (e ∷ es) each place row parts is combines = by (eqb_tells e.row (place + 1)) (bare-combination rows es each.1 place row parts is combines)
  where
    combination_there : is_combination rows (place + 1) ≡ true
    combination_there = let number : place + 1 - 1 ≡ place = omega arith in rw number (rw is (rw combines refl))

    by : ((nat_eq e.row (place + 1) ≡ true) × (e.row ≡ place + 1)) ⊎ ((nat_eq e.row (place + 1) ≡ false) × (e.row ≢ place + 1)) →
        value_on es (place + 1) ≡ None → value_on (e ∷ es) (place + 1) ≡ None
    by (inl same) more = let there : is_combination rows e.row ≡ true = ap (is_combination rows) same.1 ∙ combination_there in absurd (cc (there, each.0))
    by (inr differ) more = rw differ.0 more

pub column-of : (rows : List (Row ℕ)) (column : Group (Entry ℕ)) → All (λ (row : ℕ × Row ℕ). IfSome row.1.parts (AreEntries row.0)) (enumerate_from 0 rows)
    → All (λ (entry : Entry ℕ). IsFalse (is_combination rows entry.row)) column.items → IsColumnOf rows column.items
column-of rows column parts plain = record {
  earlier = earlier-parts rows parts;
  bare = bare-combination rows column.items (all-each (λ (entry : Entry ℕ). IsFalse (is_combination rows entry.row)) column.items plain);
}

-- each column of a lawful problem
pub columns-of : (problem : Problem ℕ) → IsProblem problem → AllByRecursion (λ (column : Group (Entry ℕ)). IsColumnOf problem.rows column.items) problem.columns
columns-of problem is =
    each-change (λ (column : Group (Entry ℕ)). All (λ (entry : Entry ℕ). IsFalse (is_combination problem.rows entry.row)) column.items)
    (λ column. IsColumnOf problem.rows column.items)
    (λ column plain. column-of problem.rows column is.parts plain) problem.columns
    (all-each (λ (column : Group (Entry ℕ)). All
    (λ (entry : Entry ℕ). IsFalse (is_combination problem.rows entry.row)) column.items) problem.columns is.plain_entries)
