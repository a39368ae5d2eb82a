use Rattle.std.proofs.Common.{◌≡◌, List, [], subst}
use Rattle.std.specs.Prelude.{IfOk, IfErr}
use Rattle.exact_values.specs.Rational.{ℚ}
use Rattle.lp_model.specs.RatesCalls.{IfOverflow}
use Rattle.simplex_definitions.specs.Statements.{Pararhs}
use Rattle.simplex_definitions.specs.Evidence.{ShiftHolds}
use Rattle.simplex_definitions.specs.RhsRun.{rhs_family}
use Rattle.verb_answers.proofs.right_hand_side.first_program.Goals as goal

pub returns-clause-program : goal.returns-clause-program
returns-clause-program c =
    subst (λ (xs : List ℚ). IfOk c.program_at.result
    (λ first. first ≡ rhs_family c.args.lp.now xs c.args.run.now.from)) c.deref.ensures.value c.program_at.ensures.program

pub returns-clause-overflow : goal.returns-clause-overflow
returns-clause-overflow c =
    subst (λ (xs : List ℚ). IfErr c.program_at.result
    (λ stop. IfOverflow stop (ShiftHolds (Pararhs c.args.lp.now xs c.args.run.now.from) []))) c.deref.ensures.value c.program_at.ensures.overflow
