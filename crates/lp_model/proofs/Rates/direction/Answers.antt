use Rattle.lp_model.proofs.KeptBasics.{keeps_itself}
use Rattle.lp_model.proofs.Rates.direction.Goals as goal

pub returns-in_err-values-clause-kept : goal.returns-in_err-values-clause-kept
returns-in_err-values-clause-kept g c = keeps_itself (g.Self.Rates.state c.args.self.now)
