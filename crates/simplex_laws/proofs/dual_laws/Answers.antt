use Rattle.simplex_laws.proofs.DualTurns.{keeps_right, dual_end, never_unbounded, not_both_prices, one_wrong}
use Rattle.simplex_laws.proofs.OneDualPath.{dual_leads, dual_path_leads, path_right, right_or_wrong, signs, from_signs, one_step, one_end, step_or_end}
use Rattle.simplex_laws.proofs.OneDualPath.{one_path, ends_or_goes_on, not_both}
use Rattle.simplex_laws.proofs.dual_laws.Goals as goal

pub returns : goal.returns
returns c = record {
  leads = dual_leads;
  keeps_right = keeps_right;
  path_leads = dual_path_leads;
  path_right = λ p s bases lawful no_change. path_right p lawful no_change s bases;
  right_or_wrong = right_or_wrong;
  not_both_prices = not_both_prices;
  one_wrong = one_wrong;
  signs = signs;
  from_signs = from_signs;
  ends = dual_end;
  never_unbounded = never_unbounded;
  one_step = λ p s next other lawful at. one_step p lawful s next other at;
  one_end = λ p s ending other lawful at. one_end p lawful s ending other at;
  step_or_end = λ p s next ending lawful at. step_or_end p lawful s next ending at;
  one_path = λ p s bases others ending other lawful at. one_path p lawful s bases others ending other at;
  ends_or_goes_on = ends_or_goes_on;
  not_both = λ p steps s lawful at. not_both p lawful steps s at;
}
