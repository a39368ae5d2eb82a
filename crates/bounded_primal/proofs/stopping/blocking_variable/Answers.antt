use Rattle.lp_definitions.specs.LinearProgram.{value_at}
use Rattle.basis_values.proofs.TermLaws.{IfErr-map}
use Rattle.bounded_primal.proofs.BlockingVariableFacts.{call_refused}
use Rattle.bounded_primal.proofs.stopping.blocking_variable.Goals as goal

pub returns-clause-refused : goal.returns-clause-refused
returns-clause-refused c =
    IfErr-map c.blocking_variable_from.result
    (λ e some. call_refused c.args.lp.now c.args.basis.now (value_at c.args.point.now)
    (value_at c.args.direction.now) c.args.q c.args.up c.requires.nonsingular c.requires.point c.requires.nonbasic c.requires.direction some.0 some.1 e some.2)
    c.blocking_variable_from.ensures.refused
