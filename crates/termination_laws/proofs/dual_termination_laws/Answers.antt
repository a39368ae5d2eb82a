use Rattle.termination_laws.proofs.Ending.{dual_apart, dual_short, dual_limited, dual_ends}
use Rattle.termination_laws.proofs.dual_termination_laws.Goals as goal

pub returns : goal.returns
returns c = record {
  apart = λ p s bases lawful none. dual_apart p lawful none s bases;
  short = λ p s bases lawful none. dual_short p lawful none s bases;
  limited = λ p s steps lawful none. dual_limited p lawful none s steps;
  ends = λ p s lawful none. dual_ends p lawful none s;
}
