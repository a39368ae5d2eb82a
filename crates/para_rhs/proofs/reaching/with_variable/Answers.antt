use Rattle.std.proofs.Common.{subst}
use Rattle.std.specs.Prelude.{Option}
use Rattle.para_rhs.specs.Reach.{IsApproach, IsApproachOf}
use Rattle.para_rhs.specs.declared.reaching.Approach.{Approach}
use Rattle.para_rhs.proofs.Approaches.{narrowed_none, narrowed_by, approach_moves, approach_closes, bound_refused}
use Rattle.para_rhs.proofs.reaching.with_variable.Goals as goal

pub returns-in_default-clause-narrowed : goal.returns-in_default-clause-narrowed
returns-in_default-clause-narrowed c =
    narrowed_none c.args.lp.now c.args.shift.now c.args.k c.args.value c.args.slope c.args.ends
    (subst (λ (o : Option Approach). IsApproachOf c.args.lp.now c.args.shift.now (λ _. c.args.value)
    (λ _. c.args.slope) c.args.k o) c.in_default.is c.in_ok-approach.ensures.approach)

pub with_bound-requires : goal.with_bound-requires
with_bound-requires c =
    let is : IsApproach c.args.lp.now c.args.shift.now (λ _. c.args.value) (λ _. c.args.slope) c.args.k c.in-Some.approach
    = subst (λ (o : Option Approach). IsApproachOf c.args.lp.now c.args.shift.now (λ _. c.args.value)
    (λ _. c.args.slope) c.args.k o) c.in-Some.is c.in_ok-approach.ensures.approach in
    approach_closes c.args.lp.now c.args.shift.now c.args.k c.args.value c.args.slope c.in-Some.approach is

pub returns-in-Ok-clause-narrowed : goal.returns-in-Ok-clause-narrowed
returns-in-Ok-clause-narrowed c =
    let is : IsApproach c.args.lp.now c.args.shift.now (λ _. c.args.value) (λ _. c.args.slope) c.args.k c.in-Some.approach
    = subst (λ (o : Option Approach). IsApproachOf c.args.lp.now c.args.shift.now (λ _. c.args.value)
    (λ _. c.args.slope) c.args.k o) c.in-Some.is c.in_ok-approach.ensures.approach in
    narrowed_by c.args.lp.now c.args.shift.now c.args.k c.args.value c.args.slope c.in-Some.approach is c.args.ends c.in-Ok.now c.in-Ok.ensures.ends

pub returns-in-Err-clause-moves : goal.returns-in-Err-clause-moves
returns-in-Err-clause-moves c =
    let is : IsApproach c.args.lp.now c.args.shift.now (λ _. c.args.value) (λ _. c.args.slope) c.args.k c.in-Some.approach
    = subst (λ (o : Option Approach). IsApproachOf c.args.lp.now c.args.shift.now (λ _. c.args.value)
    (λ _. c.args.slope) c.args.k o) c.in-Some.is c.in_ok-approach.ensures.approach in
    approach_moves c.args.lp.now c.args.shift.now c.args.k c.args.value c.args.slope c.in-Some.approach is

pub returns-in-Err-clause-refused : goal.returns-in-Err-clause-refused
returns-in-Err-clause-refused c =
    let is : IsApproach c.args.lp.now c.args.shift.now (λ _. c.args.value) (λ _. c.args.slope) c.args.k c.in-Some.approach
    = subst (λ (o : Option Approach). IsApproachOf c.args.lp.now c.args.shift.now (λ _. c.args.value)
    (λ _. c.args.slope) c.args.k o) c.in-Some.is c.in_ok-approach.ensures.approach in
    bound_refused c.args.lp.now c.args.shift.now c.args.k c.args.value c.args.slope c.in-Some.approach is c.in-Err.evidence c.in-Err.ensures.refused
