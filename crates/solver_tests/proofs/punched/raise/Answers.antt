-- A nonbasic that goes to another limit leaves a basis.
use Rattle.std.proofs.Common.{rules, ◌≢◌, arith}
use Rattle.std.specs.Prelude.{IsSome}
use Rattle.lp_definitions.specs.LinearProgram.{IsVariable, upper_of}
use Rattle.lp_definitions.specs.Basis.{status_of}
use Rattle.lp_definitions.specs.declared.Status.TheVariants.{Bs, Ul}
use Rattle.lp_laws.proofs.Statuses.{IsBasis-flipped}
use Rattle.solver_tests.proofs.punched.raise.Goals as goal

pub returns : goal.returns
returns c =
    let is_q : IsVariable c.args.lp.now.matrix c.args.q = (omega arith, omega arith) in
    let was : status_of c.args.basis.now c.args.q ≢ Bs = search rules in
    let allowed : IsSome (upper_of c.args.lp.now c.args.q) = search rules in
    rw c.flip.ensures (IsBasis-flipped c.args.lp.now c.args.basis.now c.requires c.args.q Ul is_q was (λ e. cc) (λ e. cc) allowed)
