-- A sheet: a problem, which has the names, and the linear program that is selected from it.
use Rattle.std.specs.Prelude.{◌≡◌, length}
use Rattle.listing_tables.specs.declared.sheet.Sheet.{Sheet}

-- each row and each column has a name
pub record IsSheet (sheet : Sheet) : Type 0 where
  pub rows : length sheet.problem.now.rows ≡ sheet.lp.now.matrix.rows
  pub columns : length sheet.problem.now.columns ≡ sheet.lp.now.matrix.cols
