-- An optimal basis with its values.
--     IsOptimum at                 the basis is optimal in a linear program without a change row, and the point and the prices are its own
--     AreEndsOfRows at found       each basic but the objective has the ends of its row, at its place
--     AreEndsOfLimits at ends      each nonbasic that stands at a limit has the ends of this limit, at its place
use Rattle.std.specs.Prelude.{◌≡◌, List, None, length}
use Rattle.affine_laws.specs.declared.tightening.Ends.{Ends}
use Rattle.lp_definitions.specs.LinearProgram.{IsLinearProgram, size, value_at}
use Rattle.lp_definitions.specs.Basis.{IsPointOf, ArePricesOf, IsOptimalBasis}
use Rattle.ranging.specs.declared.optimum.Optimum.{Optimum}
use Rattle.ranging.specs.Tables.{AllFound, AllMet}

pub record IsOptimum (at : Optimum) : Type 0 where
  pub lawful : IsLinearProgram at.lp.now
  pub no_change : at.lp.now.change ≡ None
  pub optimal : IsOptimalBasis at.lp.now at.basis.now
  pub point : IsPointOf at.lp.now at.basis.now (value_at at.point.now)
  pub prices : ArePricesOf at.lp.now at.basis.now (value_at at.prices.now)
  pub point_places : length at.point.now ≡ size at.lp.now.matrix
  pub price_places : length at.prices.now ≡ size at.lp.now.matrix

pub record AreEndsOfRows (at : Optimum) (found : List Ends) : Type 0 where
  pub places : length found ≡ size at.lp.now.matrix
  pub each : AllFound at.lp.now at.basis.now (size at.lp.now.matrix) found

pub record AreEndsOfLimits (at : Optimum) (ends : List Ends) : Type 0 where
  pub places : length ends ≡ size at.lp.now.matrix
  pub each : AllMet at.lp.now at.basis.now (value_at at.point.now) (size at.lp.now.matrix) ends
