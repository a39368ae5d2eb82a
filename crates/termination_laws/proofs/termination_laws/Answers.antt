use Rattle.termination_laws.proofs.Ending.{apart, short, limited, ends, opening_ends}
use Rattle.termination_laws.proofs.termination_laws.Goals as goal

pub returns : goal.returns
returns c = record {
  apart = λ p s bases lawful. apart p lawful s bases;
  short = λ p s bases lawful. short p lawful s bases;
  limited = λ p s steps lawful. limited p lawful s steps;
  ends = λ p s lawful. ends p lawful s;
  opening_ends = opening_ends;
}
