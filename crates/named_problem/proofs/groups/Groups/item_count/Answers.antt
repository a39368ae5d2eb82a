use Rattle.std.proofs.Common.{◌≤◌, arith}
use Rattle.named_problem.proofs.Counted.{total_fits}
use Rattle.named_problem.proofs.groups.Groups.item_count.Goals as goal

pub returns-clause-few : goal.returns-clause-few
returns-clause-few c =
    let names : c.len-names.result ≤ 18446744073709551615 = omega arith in
    omega (arith, c.self.invariant.1, total_fits c.self.inside.groups.entries c.len-names.result c.self.invariant.2 c.len-names.ensures.len names)
