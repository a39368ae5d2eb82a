-- The statements up to the index have their labels.
use Rattle.std.proofs.Common.{◌≡◌, drop}
use Rattle.std.specs.Prelude.{find}
use Rattle.control_verbs.specs.Views.{viewed}
use Rattle.control_compiler.specs.Settled.{lacks_label}
use Rattle.control_compiler.proofs.settling.missing.Given as goal

abbrev pub invariant-loop-statement : goal.invariant-loop-statement
invariant-loop-statement l =
    find (λ statement. lacks_label l.draft.labels (viewed statement.verb)) l.draft.statements.items ≡ find
    (λ statement. lacks_label l.draft.labels (viewed statement.verb)) (drop l.statement-index l.draft.statements.items)
