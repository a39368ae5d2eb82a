-- What holds after a call at a basis stopped.
--     PointOverflow                after an overflow of a call that works out a point or prices
--     RangeOverflow                after one of a call that shows ranges
use Rattle.std.specs.Prelude.{List, Result, IfErr}
use Rattle.lp_definitions.specs.LinearProgram.{LinearProgram}
use Rattle.lp_definitions.specs.declared.Status.{Status}
use Rattle.lp_model.specs.declared.Stop.{Stop}
use Rattle.lp_model.specs.RatesState.{RatesState}
use Rattle.lp_model.specs.RatesCalls.{IfOverflow}
use Rattle.basis_values.specs.Calls.{PointRefused, RangeRefused}

abbrev pub PointOverflow : {T : Type 0} → Result T Stop → LinearProgram → List Status → RatesState → RatesState → Type 0
PointOverflow result p s before after = IfErr result (λ stop. IfOverflow stop (PointRefused p before.waypoints s after.waypoints))

abbrev pub RangeOverflow : {T : Type 0} → Result T Stop → LinearProgram → List Status → RatesState → RatesState → Type 0
RangeOverflow result p s before after = IfErr result (λ stop. IfOverflow stop (RangeRefused p before.waypoints s after.waypoints))
