-- The variables of the rows and columns of a name that is looked up.
use Rattle.std.proofs.Common.{◌≡◌, ℕ, ◌+◌, ◌≤◌, true, false, Option, Some, None, length, sym, ap, ◌∙◌, arith}
use Rattle.std.specs.Prelude.{IfSome, IfNone}
use Rattle.std.proofs.lemmas.List.{length-map}
use Rattle.lp_definitions.specs.LinearProgram.{LinearProgram, IsVariable}
use Rattle.problem_definitions.specs.Names.{Name}
use Rattle.problem_definitions.specs.Problem.{Problem, row_names, group_names, has_row, has_group}
use Rattle.problem_definitions.proofs.Names.{row_is_named}
use Rattle.problem_definitions.proofs.Groups.{has_group-names}
use Rattle.name_table.specs.Numbers.{number_of}
use Rattle.basis_deck_definitions.specs.Placings.{HasNames, row_variable, column_variable}
use Rattle.basis_deck.proofs.Named.{missing, there, within, number}

-- a fact that holds, where there is no value
pub none_or_not : {X : Type 0} {P : Type 0} (o : Option X) → P → IfNone o P
none_or_not None p = p
none_or_not (Some x) p = tt

module _ (problem : Problem ℕ) (lp : LinearProgram) (names : HasNames problem lp) (name : Name) where
  pub row_missing : (o : Option ℕ) → o ≡ number_of name (row_names problem) → IfNone o (has_row problem.rows name ≡ false)
  row_missing None is = row_is_named name problem.rows ∙ missing (row_names problem) name (sym is)
  row_missing (Some k) is = tt

  pub row_there : (o : Option ℕ) → o ≡ number_of name (row_names problem) → IfSome o (λ k. has_row problem.rows name ≡ true)
  row_there None is = tt
  row_there (Some k) is = row_is_named name problem.rows ∙ there (row_names problem) name k (sym is)

  pub row_number : (o : Option ℕ) → o ≡ number_of name (row_names problem) → IfSome o (λ k. k ≡ row_variable problem name)
  row_number None is = tt
  row_number (Some k) is = number (row_names problem) name k (sym is)

  pub row_variable_of : (o : Option ℕ) → o ≡ number_of name (row_names problem) → IfSome o (IsVariable lp.matrix)
  row_variable_of None is = tt
  row_variable_of (Some k) is =
      let number = within (row_names problem) name k (sym is) in
      let rows : length (row_names problem) ≡ lp.rows = length-map problem.rows _ ∙ names.rows in
      (omega (arith, number.positive), omega (arith, number.at_most, rows))

  pub column_missing : None ≡ number_of name (group_names problem.columns) → has_group problem.columns name ≡ false
  column_missing is = has_group-names problem.columns name ∙ missing (group_names problem.columns) name (sym is)

  module _ (k : ℕ) (is : Some k ≡ number_of name (group_names problem.columns)) where
    pub column_there : has_group problem.columns name ≡ true
    column_there = has_group-names problem.columns name ∙ there (group_names problem.columns) name k (sym is)

    pub column_few : k ≤ length problem.columns
    column_few =
        let number = within (group_names problem.columns) name k (sym is) in
        let columns : length (group_names problem.columns) ≡ length problem.columns = length-map problem.columns _ in
        omega (arith, number.at_most, columns)

    pub column_number : (rows : ℕ) → rows ≡ length problem.rows → rows + k ≡ column_variable problem name
    column_number rows count = ap (λ n. n + k) count ∙ ap (λ n. length problem.rows + n) (number (group_names problem.columns) name k (sym is))

    pub column_variable_of : (rows : ℕ) → rows ≡ length problem.rows → IsVariable lp.matrix (rows + k)
    column_variable_of rows count =
        let number = within (group_names problem.columns) name k (sym is) in
        let columns : length (group_names problem.columns) ≡ lp.cols = length-map problem.columns _ ∙ names.columns in
        (omega (arith, number.positive), omega (arith, number.at_most, columns, count, names.rows))
