-- The lines that SOLUTION prints of a basis are those that are asked of it.
use Rattle.std.proofs.Common.{◌≡◌, ℕ, ◌+◌, ◌-◌, List, [], ◌∷◌, refl, sym, ap, arith}
use Rattle.std.specs.Prelude.{if◌then◌else◌}
use Rattle.exact_values.specs.Rational.{ℚ}
use Rattle.lp_definitions.specs.LinearProgram.{LinearProgram, Vector, value_at, IsRow, IsVariable, lower_of, upper_of, cost}
use Rattle.lp_definitions.specs.Basis.{status_of, IsPointOf, ArePricesOf, Tableau}
use Rattle.lp_definitions.specs.declared.Status.{Status}
use Rattle.lp_definitions.specs.declared.Status.TheVariants.{Bs, Ll, Ul, Fr}
use Rattle.simplex_definitions.specs.Moves.{is_fixed}
use Rattle.simplex_laws.proofs.Numbered.{map_same}
use Rattle.problem_definitions.specs.Problem.{Problem}
use Rattle.listing_definitions.specs.Report.{Value, Code, Number, limit_value}
use Rattle.listing_definitions.specs.declared.At.TheVariants.{Equal, Lower, Upper, Free}
use Rattle.listing_tables.specs.Lines as printed
use Rattle.answer_definitions.specs.Lines as asked
use Rattle.question_definitions.specs.Answers.{Sheet}
use Rattle.answer_definitions.specs.Sections.{IsSolutionOf, solution_row, solution_column, solution_lines}
use Rattle.verb_answers.specs.Slack.{slack_at}

-- ---- where a variable stands, in the two forms

module _ (p : LinearProgram) (s : List Status) where
  at_lower : (k : ℕ) → status_of s k ≡ Ll → asked.standing p s k ≡ (if is_fixed p k then Equal else Lower)
  at_lower k e = rw e refl

  at_upper : (k : ℕ) → status_of s k ≡ Ul → asked.standing p s k ≡ (if is_fixed p k then Equal else Upper)
  at_upper k e = rw e refl

  at_free : (k : ℕ) → status_of s k ≡ Fr → asked.standing p s k ≡ (if is_fixed p k then Equal else Free)
  at_free k e = rw e refl

  pub by_status : (w : Vector) (k : ℕ) (st : Status) → status_of s k ≡ st → printed.at_of p s w k ≡ asked.at_of p s w k
  by_status w k Bs e = rw e refl
  by_status w k Ll e = rw e (sym (at_lower k e))
  by_status w k Ul e = rw e (sym (at_upper k e))
  by_status w k Fr e = rw e (sym (at_free k e))

-- ---- the lines of a basis

module _ (problem : Problem ℕ) (p : LinearProgram) (s : List Status) (point prices slack : List ℚ) (is_point : IsPointOf p s (value_at point))
    (are_prices : ArePricesOf p s (value_at prices))
    (are_slacks : (i : ℕ) → IsRow p.matrix i → value_at slack i ≡ slack_at p (value_at point) i) where
  abbrev sheet : Sheet
  sheet = record { problem = problem; lp = p }

  -- the rates are those by which the prices are what they are
  abbrev tableau : Tableau
  tableau = record { point = value_at point; rate = are_prices.rate }

  row_same : (k : ℕ) → IsRow p.matrix k → printed.row_values p s point slack prices k ≡ solution_row sheet s tableau k
  row_same k is =
      let at = by_status p s (value_at point) k (status_of s k) refl in
      let slack_is = are_slacks k is in
      let price = are_prices.prices k (is.0, omega (arith, is.1)) in
      λ i. Code (at i) ∷ Number (value_at point k) ∷ Number (slack_is i) ∷ limit_value (lower_of p k) ∷ limit_value (upper_of p k) ∷ Number (price i) ∷ []

  column_same : (k : ℕ) → IsVariable p.matrix k → printed.column_values p s point prices k ≡ solution_column sheet s tableau k
  column_same k is =
      let at = by_status p s (value_at point) k (status_of s k) refl in
      let price = are_prices.prices k is in
      λ i. Code (at i) ∷ Number (value_at point k) ∷ Number (cost p (k - p.rows)) ∷ limit_value (lower_of p k) ∷ limit_value (upper_of p k) ∷ Number
      (price i) ∷ []

  lines_same : printed.solution_lines problem p s point prices slack ≡ solution_lines sheet s tableau
  lines_same =
      let rows =
      map_same (printed.line_of problem (printed.row_values p s point slack prices)) (printed.line_of problem (solution_row sheet s tableau)) p.rows 1
      (λ k low high. ap (λ (vs : List Value). printed.line_of problem (λ _. vs) k) (row_same k (low, omega (arith, high)))) in
      let columns =
      map_same (printed.line_of problem (printed.column_values p s point prices)) (printed.line_of problem (solution_column sheet s tableau)) p.cols
      (p.rows + 1)
      (λ k low high. ap (λ (vs : List Value). printed.line_of problem (λ _. vs) k) (column_same k (omega (arith, low), omega (arith, high)))) in
      λ i. record { rows = rows i; columns = columns i }

  pub viewed : IsSolutionOf (record { problem = problem; lp = p }) s (printed.solution_lines problem p s point prices slack)
  viewed = record {
    tableau = tableau;
    is_tableau = record { is_point = is_point; are_rates = are_prices.are_rates };
    are_lines = lines_same;
  }
