use Rattle.std.proofs.Common.{◌∙◌, subst, sym, ap, length, List}
use Rattle.exact_values.specs.Rational.{ℚ}
use Rattle.eta_file.specs.Inverse.{Inverse}
use Rattle.reinversion.specs.Rebuilt.{IsRebuilt}
use Rattle.reinversion.proofs.rebuild.enter_in_order.Goals as goal
use Rattle.reinversion.proofs.rebuild.enter_in_order.Goals.{then-entering-ge1+then-entering-cols+in_ok-enter, else-entering-ge1}

pub loop-entering-preserved : goal.loop-entering-preserved
loop-entering-preserved c =
    elim c.if-entering-ge1.branch [
      | then-entering-ge1+then-entering-cols+in_ok-enter w ↦ record {
        rebuilt =
            subst (λ (g : Inverse). IsRebuilt c.args.old.now.matrix c.args.old.now.basics 0 g) (sym w.new-is)
            (w.in_ok-enter.ensures.keeps 0 c.loop-entering.invariant.rebuilt);
        places = ap (λ (xs : List ℚ). length xs) w.workspace-is ∙ w.in_ok-enter.ensures.places;
        wholes = ap (λ (xs : List ℚ). length xs) w.wholes-is ∙ w.in_ok-enter.ensures.wholes ∙ c.loop-entering.invariant.wholes;
      }
      | else-entering-ge1 w ↦ record {
        rebuilt = subst (λ (g : Inverse). IsRebuilt c.args.old.now.matrix c.args.old.now.basics 0 g) (sym w.new-is) c.loop-entering.invariant.rebuilt;
        places = ap (λ (xs : List ℚ). length xs) w.workspace-is ∙ c.loop-entering.invariant.places;
        wholes = ap (λ (xs : List ℚ). length xs) w.wholes-is ∙ c.loop-entering.invariant.wholes;
      }
    ]
