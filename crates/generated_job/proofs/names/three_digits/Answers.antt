use Rattle.std.proofs.Common.{sym, ◌∙◌, ◌∷◌, []}
use Rattle.generated_job.proofs.Digits.{in_three}
use Rattle.generated_job.proofs.names.three_digits.Goals as goal

pub returns : goal.returns
returns c = (λ i. c.digit.ensures i ∷ c.digit-2.ensures i ∷ c.digit-3.ensures i ∷ []) ∙ sym (in_three c.args.number c.requires)
