use Rattle.std.proofs.Common.{◌≡◌, Some, ap, ◌∙◌}
use Rattle.basis_values.specs.Reach.{reach_formula}
use Rattle.basis_values.specs.declared.formula.Formula.{Formula}
use Rattle.ranging.proofs.Distances.{one_distance, refused_quotient}
use Rattle.ranging.proofs.limit_ends.TableauEntry.with_distance.Goals as goal

pub returns-in-Ok-clause-ends : goal.returns-in-Ok-clause-ends
returns-in-Ok-clause-ends c =
    let is : c.args.far ≡ Some c.in-Some.number = cc in
    one_distance c.args.at_most c.args.far c.in-Some.number c.args.self.now.rate c.args.self.now.basic c.args.which c.args.ends c.in-Ok.now is
    c.in-Ok.ensures.tightened

pub returns-in-Err-clause-refused : goal.returns-in-Err-clause-refused
returns-in-Err-clause-refused c =
    let is : c.args.far ≡ Some c.in-Some.number = cc in
    record {
      distance = c.in-Some.number;
      is_distance = is;
      refused =
          refused_quotient
          (record { at_most = c.args.at_most; slope = c.args.self.now.rate; number = c.in-Some.number; by = c.args.self.now.basic; which = c.args.which })
          c.in-Err.refused c.evidence.result (reach_formula 7 c.args.self.now.nonbasic c.args.self.now.basic c.args.which)
          (rw c.length_formula.ensures at c.evidence.ensures.names) c.evidence.ensures.no_way
          (c.evidence.ensures.theta ∙ ap (λ (f : Formula). f.theta) c.length_formula.ensures) c.evidence.ensures.refused c.in-Err.ensures.refused;
    }
