-- A step of a basis leads to a basis.
use Rattle.std.proofs.Common.{rules, ◌≡◌, ◌≢◌, arith}
use Rattle.std.specs.Prelude.{IsSome}
use Rattle.lp_definitions.specs.LinearProgram.{IsVariable, lower_of, upper_of}
use Rattle.lp_definitions.specs.Basis.{status_of}
use Rattle.lp_definitions.specs.declared.Status.TheVariants.{Bs, Ll, Ul}
use Rattle.lp_laws.proofs.Statuses.{IsBasis-replaced}
use Rattle.solver_tests.proofs.engines.exchange.Goals as goal

pub returns-then-is_some : goal.returns-then-is_some
returns-then-is_some c =
    let is_r : IsVariable c.args.lp.now.matrix c.args.r = (omega arith, omega arith) in
    let is_q : IsVariable c.args.lp.now.matrix c.args.q = (omega arith, omega arith) in
    let leaves : status_of c.args.basis.now c.args.r ≡ Bs = search rules in
    let enters : status_of c.args.basis.now c.args.q ≢ Bs = search rules in
    let allowed : IsSome (lower_of c.args.lp.now c.args.r) = search rules in
    rw c.replace.ensures (IsBasis-replaced c.args.lp.now c.args.basis.now c.requires c.args.r c.args.q Ll is_r is_q leaves enters (λ e. cc) (λ e. cc) allowed)

pub returns-then-is_some-2 : goal.returns-then-is_some-2
returns-then-is_some-2 c =
    let is_r : IsVariable c.args.lp.now.matrix c.args.r = (omega arith, omega arith) in
    let is_q : IsVariable c.args.lp.now.matrix c.args.q = (omega arith, omega arith) in
    let leaves : status_of c.args.basis.now c.args.r ≡ Bs = search rules in
    let enters : status_of c.args.basis.now c.args.q ≢ Bs = search rules in
    let allowed : IsSome (upper_of c.args.lp.now c.args.r) = search rules in
    rw c.replace-then-is_some-2.ensures
    (IsBasis-replaced c.args.lp.now c.args.basis.now c.requires c.args.r c.args.q Ul is_r is_q leaves enters (λ e. cc) (λ e. cc) allowed)
