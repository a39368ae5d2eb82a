use Rattle.std.proofs.Common.{rules, Err, ◌≡◌, ℕ, [], ◌∷◌, ◌++◌, ◌∙◌, ap, map, arith}
use Rattle.lp_definitions.specs.LinearProgram.{size, numbers_from}
use Rattle.simplex_definitions.specs.RhsRun.{shift_of}
use Rattle.para_rhs.specs.Limits.{limit_on, moved_by}
use Rattle.lp_model.proofs.Stops.{IfOverflow-map}
use Rattle.para_rhs.proofs.Listed.{one_more}
use Rattle.para_rhs.proofs.ShiftStops.{shift_holds}
use Rattle.para_rhs.proofs.limits.limits_at.Goals as goal

pub loop-k-preserved : goal.loop-k-preserved
loop-k-preserved c =
    let pushed : c.push.new.self.items ≡ c.loop-k.limits.items ++ (c.in_ok-now.now ∷ []) = search rules in
    pushed
    ∙ one_more (λ k. moved_by c.args.theta (shift_of c.args.lp.now.matrix c.args.shift.now k) (limit_on c.args.lp.now c.args.side k))
    c.loop-k.limits.items c.loop-k.k c.in_ok-now.now c.loop-k.invariant c.in_ok-now.ensures.value

pub returns-clause-limits : goal.returns-clause-limits
returns-clause-limits c =
    let all : c.loop-k.k ≡ size c.args.lp.now.matrix = omega arith in
    c.loop-k.invariant
    ∙ ap (λ (n : ℕ). map (λ k. moved_by c.args.theta (shift_of c.args.lp.now.matrix c.args.shift.now k) (limit_on c.args.lp.now c.args.side k))
    (numbers_from 1 n)) all

pub returns-in_err-now-clause-overflow : goal.returns-in_err-now-clause-overflow
returns-in_err-now-clause-overflow c =
    let is_err : c.from_residual.result ≡ Err c.in_err-now.field-0.0 = search rules in
    rw is_err (IfOverflow-map c.in_err-now.field-0.0
    (λ e h. shift_holds c.args.lp.now c.args.shift.now c.args.theta c.number_of_variables-k-end.ensures.lawful c.args.side e h)
    c.in_err-now.ensures.overflow)
