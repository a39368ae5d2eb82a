use Rattle.std.proofs.Common.{rules, sym, ◌∙◌, ◌-◌}
use Rattle.std.proofs.lemmas.List.{get_or_default}
use Rattle.exact_values.specs.Rational.{zero_ℚ}
use Rattle.lp_definitions.specs.LinearProgram.{value_at}
use Rattle.lp_laws.proofs.Values.{clash}
use Rattle.solver_tests.proofs.exchanges.enter.Goals as goal

-- the rate was read in the direction, and is not 0
pub exchange-requires-clause-pivot : goal.exchange-requires-clause-pivot
exchange-requires-clause-pivot c =
    rw c.column.ensures.same (
      value_at c.column.new.out,
      c.column.ensures.direction,
      λ zero. clash
          (sym (c.is_zero.ensures.1 (c.index-out-p.is ∙ get_or_default c.column.new.out (c.args.p - 1) c.index-out-p.result zero_ℚ (search rules) ∙ zero))
          ∙ c.if-is_zero.false),
    )
