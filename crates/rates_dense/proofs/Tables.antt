-- What the table shows of its rates.
use Rattle.std.proofs.Common.{◌≡◌, ℕ, List, ◌∙◌, ap, cond, Contains}
use Rattle.std.proofs.lemmas.List.Elements.{All-contains}
use Rattle.exact_values.specs.Rational.{ℚ, zero_ℚ}
use Rattle.lp_definitions.specs.LinearProgram.{Matrix, value_at}
use Rattle.lp_definitions.specs.Basis.{Basics, is_in}
use Rattle.lp_model.specs.RatesCalls.{IsRowOf}
use Rattle.rates_dense.specs.declared.line.Line.{Line}
use Rattle.rates_dense.specs.Table.{IsLine, IsTableOf}

module _ (a : Matrix) (b : Basics) (slots : List ℕ) (lines : List Line) (quotients : List ℚ) (table : IsTableOf a b slots lines quotients) where
  pub line_in : (line : Line) → Contains lines line → IsLine a b table.rate line
  line_in line one = All-contains (IsLine a b table.rate) lines line table.each_line one

  -- a line is a basic's row
  pub row_filled : (line : Line) (i : ℕ) → Contains lines line → line.basic ≡ i → IsRowOf a b i (value_at line.rates.items)
  row_filled line i one own = record {
    rate = table.rate;
    are_rates = table.are_rates;
    entries = λ k var. (line_in line one).entries k var ∙ ap (λ n. cond (is_in b k) zero_ℚ (table.rate n k)) own;
  }
