use Rattle.sensitivity_laws.proofs.Tableaus.{by_tableau}
use Rattle.sensitivity_laws.proofs.tableau_laws.Goals as goal

pub returns : goal.returns
returns c = record { by_tableau = λ p s t basis one rows. by_tableau p s basis one rows t }
