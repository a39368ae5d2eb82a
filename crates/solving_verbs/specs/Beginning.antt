-- Where a path begins.
use Rattle.std.specs.Prelude.{◌≡◌, List, None}
use Rattle.lp_definitions.specs.LinearProgram.{IsLinearProgram}
use Rattle.lp_definitions.specs.declared.Status.{Status}
use Rattle.lp_model.specs.RatesState.{RatesState}
use Rattle.basis_values.specs.Calls.{IsAtBasis}
use Rattle.listing_tables.specs.declared.sheet.Sheet.{Sheet}
use Rattle.listing_tables.specs.Sheets.{IsSheet}

-- at a basis of the sheet's linear program, to whose objective no row is added, with the rates of this basis
pub record BeginsAt (at : Sheet) (state : RatesState) (basis : List Status) : Type 0 where
  pub sheet : IsSheet at
  pub lawful : IsLinearProgram at.lp.now
  pub no_change : at.lp.now.change ≡ None
  pub rates : IsAtBasis state at.lp.now basis
