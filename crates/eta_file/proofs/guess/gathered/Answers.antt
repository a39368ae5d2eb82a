use Rattle.std.proofs.Common.{rules, ◌∙◌, sym, ap}
use Rattle.std.specs.Int.{w128}
use Rattle.std.proofs.lemmas.Int.{to_z-of_z}
use Rattle.exact_values.specs.Rational.{whole}
use Rattle.whole_vectors.proofs.Listed.{whole_apart}
use Rattle.eta_file.proofs.guess.gathered.Goals as goal

pub returns-clause-apart : goal.returns-clause-apart
returns-clause-apart c zero =
    whole_apart c.in_ok-denominator.denominator c.in_ok-denominator.ensures.0
    (sym (ap whole (to_z-of_z w128 c.in_ok-denominator.denominator (search rules))) ∙ sym c.whole.ensures ∙ zero)
