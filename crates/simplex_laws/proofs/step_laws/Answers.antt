use Rattle.simplex_laws.proofs.Steps.{step_leads, opening_is}
use Rattle.simplex_laws.proofs.OnePath.{path_leads, one_step, one_end, step_or_end, one_path, not_both}
use Rattle.simplex_laws.proofs.Goes.{opening_has, step_has, ends_or_goes_on}
use Rattle.simplex_laws.proofs.step_laws.Goals as goal

pub returns : goal.returns
returns c = record {
  opening = opening_is;
  step = step_leads;
  path = path_leads;
  one_step = λ p s next other lawful at. one_step p lawful s next other at;
  one_end = λ p s ending other lawful at. one_end p lawful s ending other at;
  step_or_end = λ p s next ending lawful at. step_or_end p lawful s next ending at;
  one_path = λ p s bases others ending other lawful at. one_path p lawful s bases others ending other at;
  opening_has = opening_has;
  step_has = step_has;
  ends_or_goes_on = ends_or_goes_on;
  not_both = λ p steps s lawful at. not_both p lawful steps s at;
}
