use Rattle.std.proofs.Common.{sym, ◌∙◌, true, false, subst}
use Rattle.std.specs.Prelude.{Option}
use Rattle.para_rhs.specs.Reach.{IsApproach, IsApproachOf}
use Rattle.para_rhs.specs.declared.reaching.Approach.{Approach}
use Rattle.para_rhs.proofs.Approaches.{leaving_by, leaving_none}
use Rattle.para_rhs.proofs.breaks.leaving_side.Goals as goal

pub returns-in_default-clause-side : goal.returns-in_default-clause-side
returns-in_default-clause-side c =
    sym (leaving_none c.args.lp.now c.args.shift.now c.args.k c.args.value c.args.slope c.args.theta
    (subst (λ (o : Option Approach). IsApproachOf c.args.lp.now c.args.shift.now (λ _. c.args.value)
    (λ _. c.args.slope) c.args.k o) c.in_default.is c.in_ok-approach.ensures.approach))

pub returns-then-is_product-clause-side : goal.returns-then-is_product-clause-side
returns-then-is_product-clause-side c =
    let is : IsApproach c.args.lp.now c.args.shift.now (λ _. c.args.value) (λ _. c.args.slope) c.args.k c.in-Some.approach
    = subst (λ (o : Option Approach). IsApproachOf c.args.lp.now c.args.shift.now (λ _. c.args.value)
    (λ _. c.args.slope) c.args.k o) c.in-Some.is c.in_ok-approach.ensures.approach in
    leaving_by c.args.lp.now c.args.shift.now c.args.k c.args.value c.args.slope c.in-Some.approach is c.args.theta true
    (sym c.if-is_product.true ∙ c.is_product.ensures)

pub returns-clause-side : goal.returns-clause-side
returns-clause-side c =
    let is : IsApproach c.args.lp.now c.args.shift.now (λ _. c.args.value) (λ _. c.args.slope) c.args.k c.in-Some.approach
    = subst (λ (o : Option Approach). IsApproachOf c.args.lp.now c.args.shift.now (λ _. c.args.value)
    (λ _. c.args.slope) c.args.k o) c.in-Some.is c.in_ok-approach.ensures.approach in
    leaving_by c.args.lp.now c.args.shift.now c.args.k c.args.value c.args.slope c.in-Some.approach is c.args.theta false
    (sym c.if-is_product.false ∙ c.is_product.ensures)
