use Rattle.std.proofs.Common.{rules, ◌≡◌, ℕ, [], ◌∷◌, ◌++◌, ◌∙◌, ap, map, arith}
use Rattle.std.specs.Prelude.{option_map}
use Rattle.lp_definitions.specs.LinearProgram.{size, numbers_from}
use Rattle.simplex_definitions.specs.RhsRun.{shift_of}
use Rattle.para_rhs.specs.Limits.{limit_on}
use Rattle.para_rhs.proofs.Listed.{one_more}
use Rattle.para_rhs.proofs.slopes.shifts_of.Goals as goal

pub loop-k-preserved : goal.loop-k-preserved
loop-k-preserved c =
    let pushed : c.push.new.self.items ≡ c.loop-k.shifts.items ++ (c.shift_in_place-by.result ∷ []) = search rules in
    pushed
    ∙ one_more (λ k. option_map (λ x. shift_of c.args.lp.now.matrix c.args.shift.now k) (limit_on c.args.lp.now c.args.side k))
    c.loop-k.shifts.items c.loop-k.k c.shift_in_place-by.result c.loop-k.invariant c.shift_in_place-by.ensures

pub returns-clause-shifts : goal.returns-clause-shifts
returns-clause-shifts c =
    let all : c.loop-k.k ≡ size c.args.lp.now.matrix = omega arith in
    c.loop-k.invariant
    ∙ ap (λ (n : ℕ). map (λ k. option_map (λ x. shift_of c.args.lp.now.matrix c.args.shift.now k) (limit_on c.args.lp.now c.args.side k))
    (numbers_from 1 n)) all
