use Rattle.std.proofs.Common.{ap, Some, sym, ◌∙◌}
use Rattle.lp_laws.proofs.Values.{clash}
use Rattle.basis_values.proofs.Skips.{stays_put}
use Rattle.para_rhs.proofs.limits.limit_moved.Goals as goal

pub returns-then-is_zero-clause-value : goal.returns-then-is_zero-clause-value
returns-then-is_zero-clause-value c =
    rw c.in-Some.is (ap (λ l. Some l) (stays_put c.in-Some.number c.args.theta c.args.by (c.is_zero.ensures.0 c.if-is_zero.true)))

pub returns-in-Err-clause-refused : goal.returns-in-Err-clause-refused
returns-in-Err-clause-refused c = record {
  number = c.in-Some.number;
  is_limit = c.in-Some.is;
  moves = λ e. clash (sym (c.is_zero.ensures.1 e) ∙ c.if-is_zero.false);
  refused = c.in-Err.ensures.refused;
}
