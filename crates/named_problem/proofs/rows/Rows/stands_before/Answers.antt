use Rattle.std.proofs.Common.{◌&&◌, nat_lt, ap₂, sym, ◌∙◌}
use Rattle.problem_definitions.specs.Names.{same}
use Rattle.named_problem.proofs.NamedRows.{before_limit}
use Rattle.named_problem.proofs.rows.Rows.stands_before.Goals as goal

pub returns : goal.returns
returns c =
    c.is_below.ensures ∙ ap₂ (λ place count. nat_lt place count && nat_lt place c.args.limit) c.place_of-place.ensures c.len-count.ensures
    ∙ sym (before_limit (λ row. same c.args.name.now row.name) c.args.limit c.args.self.now)
