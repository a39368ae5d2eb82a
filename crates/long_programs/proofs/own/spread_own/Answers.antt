use Rattle.long_programs.specs.Programs.{own_theta}
use Rattle.long_programs.proofs.own.spread_own.Goals as goal

pub returns : goal.returns
returns c = λ values over. c.in_ok-made.ensures values (own_theta c.args.lp.now) c.in_ok-theta.ensures over
