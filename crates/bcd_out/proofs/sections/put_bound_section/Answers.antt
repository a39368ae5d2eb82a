use Rattle.std.proofs.Common.{rules}
use Rattle.problem_definitions.specs.Problem.{group_names}
use Rattle.bcd_out.specs.Lines.{bound_lines}
use Rattle.bcd_out.proofs.sections.put_bound_section.Goals as goal

pub returns : goal.returns
returns g c = c.put_section.ensures (bound_lines (group_names c.args.columns.now)) (λ before x result after met. search rules)
