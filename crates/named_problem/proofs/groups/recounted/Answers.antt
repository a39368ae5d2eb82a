use Rattle.std.proofs.Common.{◌≤◌, rules, arith}
use Rattle.named_problem.proofs.Counted.{total_fits}
use Rattle.named_problem.proofs.groups.recounted.Goals as goal

pub overflow_add-result : goal.overflow_add-result
overflow_add-result c =
    let names : c.len-names.result ≤ 18446744073709551615 = omega arith in
    let counted = c.requires (search rules) in
    omega (arith, counted.0, counted.1, total_fits c.args.groups.now.entries c.len-names.result counted.2 c.len-names.ensures.len names)

pub overflow_sub-result : goal.overflow_sub-result
overflow_sub-result c = (c.requires (search rules)).1

pub returns-clause-count : goal.returns-clause-count
returns-clause-count c =
    let counted = c.requires (search rules) in
    omega (arith, counted.0, counted.1)
