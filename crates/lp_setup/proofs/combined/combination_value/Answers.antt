use Rattle.std.proofs.Common.{length}
use Rattle.selection_definitions.specs.Combinations.{part_products}
use Rattle.lp_setup.proofs.Sums.{term_refusal}
use Rattle.lp_setup.proofs.combined.combination_value.Goals as goal

pub returns-in-Err-clause-overflow : goal.returns-in-Err-clause-overflow
returns-in-Err-clause-overflow c =
    term_refusal (part_products c.args.parts.now c.args.before.now)
    (length c.args.before.now) c.args.column c.refused_on.result c.in-Err.refused c.in-Err.ensures.refused
    c.refused_on.ensures.names c.refused_on.ensures.refused c.refused_on.ensures.no_way c.refused_on.ensures.no_theta
