-- The linear program of a choice without faults is a linear program.
use Rattle.std.proofs.Common.{◌≡◌, ℕ, zero, suc, ◌+◌, ◌-◌, ◌<◌, Bool, true, false, ◌&&◌, ◌||◌, List, [], ◌∷◌, Option, Some, None, map, length, get_or, refl, ap}
use Rattle.std.proofs.Common.{sym, ◌∙◌, subst, arith, nat_eq, IsFalse}
use Rattle.std.specs.List.{All, AllByRecursion, IsDistinct, slice_get, position, enumerate_from}
use Rattle.std.specs.Option.{option_map, is_none, unwrap_or}
use Rattle.std.proofs.lemmas.List.{length-map, length-append, get_or-map, get_or_append_left}
use Rattle.std.proofs.lemmas.List.FromFn.{length-enumerate_from, get_or-enumerate_from}
use Rattle.std.proofs.lemmas.List.Quantifiers.{position-Some}
use Rattle.std.proofs.lemmas.Option.{same_Some, slice_get-get_or, slice_get_within, get_or_from_slice_get}
use Rattle.std.proofs.lemmas.Bool.{not-false}
use Rattle.exact_values.specs.Rational.{ℚ}
use Rattle.lp_definitions.specs.declared.Entry.{Entry as Coefficient}
use Rattle.lp_definitions.specs.declared.Sense.{Sense}
use Rattle.lp_definitions.specs.LinearProgram.{IsRow, IsMatrix, HasNoLimits, IsLinearProgram}
use Rattle.problem_definitions.specs.declared.RowKind.{RowKind}
use Rattle.problem_definitions.specs.declared.RowKind.TheVariants.{N, G, L, E}
use Rattle.problem_definitions.specs.Names.{Name, same}
use Rattle.problem_definitions.specs.Kinds.{is_free_kind}
use Rattle.problem_definitions.specs.Problem.{Row, plain_row, Entry, Bound, Group, Problem, has_free_row}
use Rattle.problem_definitions.specs.Valid.{IsNumberOf, AreEntries, IsProblem, is_combination}
use Rattle.problem_definitions.proofs.Names.{same_eq}
use Rattle.problem_definitions.proofs.Each.{each-change, each-all, each-mapped, all-each}
use Rattle.selection_definitions.specs.Choice.{Choice, row_number, objective_of, rhs_items, set_items, is_not_free, selection_fault}
use Rattle.selection_definitions.specs.Limits.{Limits, no_limits, value_on, row_limits, column_limits}
use Rattle.selection_definitions.specs.Selection.{coefficients, matrix_of, program_of_choice}
use Rattle.selection_definitions.specs.Programs.{side_on, limits_with, program_with}
use Rattle.selection_laws.proofs.Faults.{objective-passes}
use Rattle.selection_laws.proofs.Distinct.{distinct-coefficients, each-coefficient}

-- ---- the objective row

-- the row of a number, which is an N row
pub record IsFreeRow (rows : List (Row ℕ)) (number : ℕ) : Type 0 where
  pub place : ℕ
  pub row : Row ℕ
  pub is_number : number ≡ place + 1
  pub is_row : slice_get rows place ≡ Some row
  pub is_free : row.kind ≡ N

free_kind : (kind : RowKind) → is_free_kind kind ≡ true → kind ≡ N
free_kind N e = refl
free_kind G e = absurd (cc e)
free_kind L e = absurd (cc e)
free_kind E e = absurd (cc e)

-- a fact of the names of rows, at a row
name_of_row : (P : Name → Type 0) (rows : List (Row ℕ)) (i : ℕ) (row : Row ℕ) → AllByRecursion P (map (λ (r : Row ℕ). r.name) rows) →
    slice_get rows i ≡ Some row → P row.name
name_of_row P [] i row each is = absurd (cc is)
name_of_row P (x ∷ rows) zero row each is = subst (λ (r : Row ℕ). P r.name) (same_Some x row is) each.0
name_of_row P (x ∷ rows) (suc i) row each is = name_of_row P rows i row each.1 is

no_free_row : (name : Name) (rows : List (Row ℕ)) → AllByRecursion (λ other. same name other ≡ false) (map (λ (r : Row ℕ). r.name) rows) →
    has_free_row rows name ≡ false
no_free_row name [] each = refl
no_free_row name (x ∷ rows) each = rw each.0 (no_free_row name rows each.1)

first_passes : (b f r : Bool) → (b && f || r) ≡ true → r ≡ false → f ≡ true
first_passes true true r h e = refl
first_passes true false true h e = absurd (cc e)
first_passes true false false h e = absurd (cc h)
first_passes false f true h e = absurd (cc e)
first_passes false f false h e = absurd (cc h)

-- of rows with distinct names, where a row of a name is free, each row of that name is
named_free : (name : Name) (rows : List (Row ℕ)) → IsDistinct same (map (λ (r : Row ℕ). r.name) rows) → has_free_row rows name ≡ true
    → (i : ℕ) (row : Row ℕ) → slice_get rows i ≡ Some row → same name row.name ≡ true → is_free_kind row.kind ≡ true
unfolding IsDistinct
named_free name [] distinct free i row is there = absurd (cc is)
named_free name (x ∷ rows) distinct free zero row is there =
    let is_x : x ≡ row = same_Some x row is in
    let alike : name ≡ x.name = same_eq name row.name there ∙ ap (λ (r : Row ℕ). r.name) (sym is_x) in
    let others : has_free_row rows name ≡ false =
    no_free_row name rows (subst (λ n. AllByRecursion (λ other. same n other ≡ false) (map (λ (r : Row ℕ). r.name) rows)) (sym alike) distinct.0) in
    ap (λ (r : Row ℕ). is_free_kind r.kind) (sym is_x) ∙ first_passes (same name x.name) (is_free_kind x.kind) (has_free_row rows name) free others
named_free name (x ∷ rows) distinct free (suc i) row is there = by (same name x.name) refl free (λ rest. named_free name rows distinct.1 rest i row is there)
  where
    by : (b : Bool) → same name x.name ≡ b → (b && is_free_kind x.kind || has_free_row rows name) ≡ true →
        (has_free_row rows name ≡ true → is_free_kind row.kind ≡ true) → is_free_kind row.kind ≡ true
    by true e h rest =
        let apart : same x.name row.name ≡ false = name_of_row (λ other. same x.name other ≡ false) rows i row distinct.0 is in
        let unlike : same name row.name ≡ false = ap (λ n. same n row.name) (same_eq name x.name e) ∙ apart in
        absurd (cc (there, unlike))
    by false e h rest = rest h

numbered : (o : Option ℕ) (number : ℕ) → option_map (λ place. place + 1) o ≡ Some number → (place : ℕ) × (number ≡ place + 1) × (o ≡ Some place)
numbered None number e = absurd (cc e)
numbered (Some place) number e = (place, sym (same_Some (place + 1) number e), refl)

-- the row of a number that is found by a test
row_found : (p : Row ℕ → Bool) (rows : List (Row ℕ)) (number : ℕ) → row_number p rows ≡ Some number →
    (place : ℕ) × (row : Row ℕ) × (number ≡ place + 1) × (slice_get rows place ≡ Some row) × (p row ≡ true)
row_found p rows number e =
    let some : Row ℕ = plain_row N [] in
    let at = numbered (position p rows) number e in
    let found = position-Some p rows at.0 some at.2 in
    (at.0, get_or rows at.0 some, at.1, slice_get-get_or rows at.0 some found.0, found.1)

pub free_objective : (rows : List (Row ℕ)) → IsDistinct same (map (λ (r : Row ℕ). r.name) rows) → (chosen : Option Name) (number : ℕ) →
    objective_of rows chosen ≡ Some number → is_not_free rows chosen ≡ false → IsFreeRow rows number
free_objective rows distinct (Some name) number e free =
    let at = row_found (λ row. same name row.name) rows number e in
    record {
      place = at.0;
      row = at.1;
      is_number = at.2;
      is_row = at.3;
      is_free = free_kind at.1.kind (named_free name rows distinct (not-false (has_free_row rows name) free) at.0 at.1 at.3 at.4);
    }
free_objective rows distinct None number e free =
    let at = row_found (λ row. is_free_kind row.kind) rows number e in
    record { place = at.0; row = at.1; is_number = at.2; is_row = at.3; is_free = free_kind at.1.kind at.4 }

-- ---- the matrix

module _ (problem : Problem ℕ) (is : IsProblem problem) where
  IsOnRow : Coefficient → Type 0
  IsOnRow e = IsRow (matrix_of problem) e.row

  -- what is asked of a column
  abbrev IsLawfulColumn : Group (Entry ℕ) → Type 0
  IsLawfulColumn column =
      AreEntries (length problem.rows) column.items × All (λ (entry : Entry ℕ). IsFalse (is_combination problem.rows entry.row)) column.items

  on_rows : (column : Group (Entry ℕ)) → IsLawfulColumn column → All IsOnRow (coefficients problem.rows column)
  unfolding IsOnRow
  on_rows column lawful =
      each-all IsOnRow (coefficients problem.rows column)
      (each-coefficient problem.rows column lawful.0 IsOnRow (λ e number. (omega (arith, number.positive), number.at_most))
      (all-each (λ (entry : Entry ℕ). IsNumberOf (length problem.rows) entry.row) column.items lawful.0.on_rows))

  distinct_rows : (column : Group (Entry ℕ)) → IsLawfulColumn column → IsDistinct nat_eq (map (λ (e : Coefficient). e.row) (coefficients problem.rows column))
  distinct_rows column lawful =
      distinct-coefficients problem.rows column lawful.0 (all-each (λ (entry : Entry ℕ). IsFalse (is_combination problem.rows entry.row)) column.items lawful.1)

  lawful_columns : (columns : List (Group (Entry ℕ))) → AllByRecursion (λ (column : Group (Entry ℕ)). AreEntries (length problem.rows) column.items) columns
      → AllByRecursion (λ (column : Group (Entry ℕ)). All (λ (entry : Entry ℕ). IsFalse (is_combination problem.rows entry.row)) column.items) columns
      → AllByRecursion IsLawfulColumn columns
  lawful_columns [] entries plain = tt
  lawful_columns (column ∷ columns) entries plain = ((entries.0, plain.0), lawful_columns columns entries.1 plain.1)

  -- what holds of the numbers of each column
  each_column : (P : List Coefficient → Type 0) → ((column : Group (Entry ℕ)) → IsLawfulColumn column → P (coefficients problem.rows column)) →
      All P (map (coefficients problem.rows) problem.columns)
  each_column P holds =
      each-all P (map (coefficients problem.rows) problem.columns) (each-mapped P (coefficients problem.rows) problem.columns
      (each-change IsLawfulColumn (λ column. P (coefficients problem.rows column)) holds problem.columns
      (lawful_columns problem.columns
      (all-each (λ (column : Group (Entry ℕ)). AreEntries (length problem.rows) column.items) problem.columns is.entries)
      (all-each (λ (column : Group (Entry ℕ)). All
      (λ (entry : Entry ℕ). IsFalse (is_combination problem.rows entry.row)) column.items) problem.columns is.plain_entries))))

  pub lawful_matrix : IsMatrix (matrix_of problem)
  unfolding IsOnRow
  lawful_matrix = record {
    columns_counted = length-map problem.columns (coefficients problem.rows);
    on_rows = each_column (All IsOnRow) on_rows;
    distinct = each_column (λ c. IsDistinct nat_eq (map (λ (e : Coefficient). e.row) c)) distinct_rows;
    small = omega (arith, is.few_rows, is.few_columns);
  }

  -- ---- the limits

  module _ (objective : ℕ) (rhs ranges : List (Entry ℕ)) (bounds : List (Bound ℕ)) (sense : Sense) where
    of_row : ℕ × Row ℕ → Limits
    of_row entry = row_limits entry.1.kind (side_on rhs entry.0) (value_on ranges entry.0)

    of_column : ℕ × Group (Entry ℕ) → Limits
    of_column entry = column_limits bounds entry.0

    rows_counted : length (map of_row (enumerate_from 1 problem.rows)) ≡ length problem.rows
    rows_counted = length-map (enumerate_from 1 problem.rows) of_row ∙ length-enumerate_from 1 problem.rows

    columns_counted : length (map of_column (enumerate_from 1 problem.columns)) ≡ length problem.columns
    columns_counted = length-map (enumerate_from 1 problem.columns) of_column ∙ length-enumerate_from 1 problem.columns

    limits_counted : length (limits_with problem objective rhs ranges bounds sense) ≡ length problem.rows + length problem.columns
    unfolding of_row of_column
    limits_counted =
        length-append (map of_row (enumerate_from 1 problem.rows)) (map of_column (enumerate_from 1 problem.columns))
        ∙ ap (λ n. n + length (map of_column (enumerate_from 1 problem.columns))) rows_counted ∙ ap (λ n. length problem.rows + n) columns_counted

    -- an N row has no limits, whatever its right-hand side and its range
    free_row : (row : Row ℕ) (side : ℚ) (range : Option ℚ) → row.kind ≡ N → row_limits row.kind side range ≡ no_limits
    free_row row side None e = rw e refl
    free_row row side (Some value) e = rw e refl

    limits_free : (place : ℕ) (row : Row ℕ) → slice_get problem.rows place ≡ Some row → row.kind ≡ N →
        get_or (limits_with problem objective rhs ranges bounds sense) place no_limits ≡ no_limits
    unfolding of_row of_column
    limits_free place row is_row is_n =
        let below : place < length problem.rows = slice_get_within problem.rows place row is_row in
        let within : place < length (map of_row (enumerate_from 1 problem.rows)) = omega (arith, rows_counted) in
        let listed : place < length (enumerate_from 1 problem.rows) = omega (arith, length-enumerate_from 1 problem.rows) in
        get_or_append_left (map of_row (enumerate_from 1 problem.rows)) (map of_column (enumerate_from 1 problem.columns)) no_limits place within
        ∙ get_or-map of_row (enumerate_from 1 problem.rows) place (0, row) no_limits listed
        ∙ ap of_row (get_or-enumerate_from 1 problem.rows place (0, row) below)
        ∙ ap (λ (r : Row ℕ). of_row (1 + place, r)) (get_or_from_slice_get problem.rows place row row is_row)
        ∙ free_row row (side_on rhs (1 + place)) (value_on ranges (1 + place)) is_n

    limits_at_objective : IsFreeRow problem.rows objective → HasNoLimits (program_with problem objective rhs ranges bounds sense) objective
    limits_at_objective free =
        let all : List Limits = limits_with problem objective rhs ranges bounds sense in
        let below : free.place < length all = omega (arith, limits_counted, slice_get_within problem.rows free.place free.row free.is_row) in
        let at : objective - 1 ≡ free.place = omega (arith, free.is_number) in
        let none = limits_free free.place free.row free.is_row free.is_free in (
          ap (λ k. get_or (map (λ (pair : Limits). pair.lower) all) k None) at ∙ get_or-map (λ (pair : Limits). pair.lower) all free.place no_limits None below
              ∙ ap (λ (pair : Limits). pair.lower) none,
          ap (λ k. get_or (map (λ (pair : Limits). pair.upper) all) k None) at ∙ get_or-map (λ (pair : Limits). pair.upper) all free.place no_limits None below
              ∙ ap (λ (pair : Limits). pair.upper) none,
        )

    -- ---- the program

    pub lawful_program : IsFreeRow problem.rows objective → IsLinearProgram (program_with problem objective rhs ranges bounds sense)
    lawful_program free =
        let all : List Limits = limits_with problem objective rhs ranges bounds sense in
        let sides : ℕ × Row ℕ → ℚ = λ entry. side_on rhs entry.0 in
        let below : free.place < length problem.rows = slice_get_within problem.rows free.place free.row free.is_row in
        record {
          is_matrix = lawful_matrix;
          lower_counted = length-map all (λ (pair : Limits). pair.lower) ∙ limits_counted;
          upper_counted = length-map all (λ (pair : Limits). pair.upper) ∙ limits_counted;
          rhs_counted = length-map (enumerate_from 1 problem.rows) sides ∙ length-enumerate_from 1 problem.rows;
          objective_row = (omega (arith, free.is_number), omega (arith, free.is_number, below));
          objective_free = limits_at_objective free;
          change_free = tt;
        }

-- ---- the definitions' promise

pub number_there : (o : Option ℕ) → is_none o ≡ false → o ≡ Some (unwrap_or o 0)
number_there None e = absurd (cc e)
number_there (Some number) e = refl

-- What a choice without faults selects of a problem is a linear program.
pub program_is_lawful : (problem : Problem ℕ) (choice : Choice) → IsProblem problem → selection_fault problem choice ≡ None →
    IsLinearProgram (program_of_choice problem choice)
program_is_lawful problem choice is faultless =
    let passes = objective-passes problem choice faultless in
    let number : ℕ = unwrap_or (objective_of problem.rows choice.objective) 0 in
    let there : objective_of problem.rows choice.objective ≡ Some number = number_there (objective_of problem.rows choice.objective) passes.0 in
    lawful_program problem is number (rhs_items problem.rhs choice.rhs) (set_items problem.ranges choice.options.range)
    (set_items problem.bounds choice.options.bound) choice.options.sense
    (free_objective problem.rows is.rows.distinct choice.objective number there passes.1)
