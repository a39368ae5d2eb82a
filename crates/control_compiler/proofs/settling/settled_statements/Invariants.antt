-- The statements so far have positions in place of labels.
use Rattle.std.proofs.Common.{◌≡◌, map}
use Rattle.control_verbs.specs.Views.{statement_view}
use Rattle.control_compiler.specs.Settled.{settled}
use Rattle.control_compiler.proofs.settling.settled_statements.Given as goal

abbrev pub invariant-loop-card : goal.invariant-loop-card
invariant-loop-card l = map statement_view l.all.items ≡ map (λ statement. settled l.labels (statement_view statement)) l.yielded
