use Rattle.std.proofs.Common.{◌≡◌, rules, true, false, sym, ◌∙◌, subst₂}
use Rattle.lp_laws.proofs.Values.{clash}
use Rattle.ranging.specs.RowEnds.{rate_bound, IsTightenedIf}
use Rattle.ranging.proofs.Results.{IfOk-map}
use Rattle.ranging.proofs.RateBounds.{no_rate, both_bounds}
use Rattle.ranging.proofs.row_ends.PricedRate.with_bounds.Goals as goal

pub returns-then-is_zero-clause-ends : goal.returns-then-is_zero-clause-ends
returns-then-is_zero-clause-ends c =
    no_rate c.args.lp.now c.args.basis.now c.args.self.now.price c.args.self.now.rate c.args.self.now.nonbasic c.args.ends
    (c.is_zero.ensures.0 c.if-is_zero.true) c.requires.holds

pub returns-clause-ends : goal.returns-clause-ends
returns-clause-ends c =
    let sense : c.lp.inside.sense ≡ c.args.lp.now.sense = search rules in
    IfOk-map c.with_bound-2.result
    (λ now h. both_bounds c.args.lp.now c.args.basis.now c.args.self.now.price c.args.self.now.rate c.args.self.now.nonbasic c.args.ends c.in_ok-risen.risen now
    (λ e. clash (sym (c.is_zero.ensures.1 e) ∙ c.if-is_zero.false))
    (subst₂ (λ m s. IsTightenedIf m c.args.ends
    (rate_bound s true c.args.self.now.price c.args.self.now.rate c.args.self.now.nonbasic) c.in_ok-risen.risen) c.ways_of-ways.ensures.up sense
    c.in_ok-risen.ensures.tightened)
    (subst₂ (λ m s. IsTightenedIf m c.in_ok-risen.risen
    (rate_bound s false c.args.self.now.price c.args.self.now.rate c.args.self.now.nonbasic) now) c.ways_of-ways.ensures.down sense h))
    c.with_bound-2.ensures.tightened
