-- A row or a direction that is read leaves the workspace that of its basis.
use Rattle.std.proofs.Common.{◌≡◌, List, length, sym, ap, subst, ◌∙◌}
use Rattle.lp_definitions.specs.LinearProgram.{size, value_at}
use Rattle.lp_definitions.specs.Basis.{ArePricesOf, IsPointOf}
use Rattle.lp_definitions.specs.declared.Status.{Status}
use Rattle.parametric_run.specs.Programs.{ParametricProgram}
use Rattle.parametric_run.specs.Standing.{IsWorkspaceOf}
use Rattle.parametric_run.specs.declared.workspace.Workspace.{Workspace}

module _ (m : ParametricProgram) (s : List Status) (old now : Workspace) where
  pub row_kept : IsWorkspaceOf m s old → now ≡ record old { row = now.row } → length now.row.items ≡ length old.row.items → IsWorkspaceOf m s now
  row_kept is same places = record {
    sized = record {
      point = ap (λ (w : Workspace). length w.point.items) same ∙ is.sized.point;
      prices = ap (λ (w : Workspace). length w.prices.items) same ∙ is.sized.prices;
      change = ap (λ (w : Workspace). length w.change.items) same ∙ is.sized.change;
      row = places ∙ is.sized.row;
      direction = ap (λ (w : Workspace). length w.direction) same ∙ is.sized.direction;
    };
    point = subst (λ (w : Workspace). IsPointOf m.program s (value_at w.point.items)) (sym same) is.point;
    prices = subst (λ (w : Workspace). ArePricesOf m.program s (value_at w.prices.items)) (sym same) is.prices;
    change = subst (λ (w : Workspace). m.is_change s (value_at w.change.items)) (sym same) is.change;
  }

  pub direction_kept : IsWorkspaceOf m s old → now ≡ record old { direction = now.direction } → length now.direction ≡ size m.program.matrix →
      IsWorkspaceOf m s now
  direction_kept is same places = record {
    sized = record {
      point = ap (λ (w : Workspace). length w.point.items) same ∙ is.sized.point;
      prices = ap (λ (w : Workspace). length w.prices.items) same ∙ is.sized.prices;
      change = ap (λ (w : Workspace). length w.change.items) same ∙ is.sized.change;
      row = ap (λ (w : Workspace). length w.row.items) same ∙ is.sized.row;
      direction = places;
    };
    point = subst (λ (w : Workspace). IsPointOf m.program s (value_at w.point.items)) (sym same) is.point;
    prices = subst (λ (w : Workspace). ArePricesOf m.program s (value_at w.prices.items)) (sym same) is.prices;
    change = subst (λ (w : Workspace). m.is_change s (value_at w.change.items)) (sym same) is.change;
  }
