use Rattle.std.proofs.Common.{◌≡◌, ◌∙◌, ℕ, ap, ap₂, map}
use Rattle.exact_values.specs.Rational.{zero_ℚ, ◌+ℚ◌, ◌*ℚ◌}
use Rattle.exact_values.proofs.RingLaws.{zero-add}
use Rattle.lp_definitions.specs.LinearProgram.{value_at}
use Rattle.lp_definitions.specs.RatesEvidence.{sum_from}
use Rattle.eta_file.proofs.FileLaws.{some_map}
use Rattle.price_row.specs.Sums.{weighted}
use Rattle.price_row.proofs.numbers.sum_over_eta.Goals as goal

pub returns-clause-value : goal.returns-clause-value
returns-clause-value g c =
    let xs = map g.N.Numbers.fraction c.args.numbers.now in
    let es = c.args.whole.now.entries.now in
    let lead = value_at xs c.args.q *ℚ c.args.whole.now.scale in
    let first : g.N.Numbers.fraction c.in_ok-first.first ≡ lead =
    c.in_ok-first.ensures.value ∙ ap₂ (λ s x. s +ℚ x *ℚ c.args.whole.now.scale) c.zero.ensures.value c.number_at-lead.ensures.value ∙ zero-add lead in
    some_map c.sum_of_entries.result
    (λ v. (p : ℕ) → value_at xs p ≡ zero_ℚ → g.N.Numbers.fraction v ≡ sum_from (g.N.Numbers.fraction c.in_ok-first.first) (weighted p xs es))
    (λ v. (p : ℕ) → value_at xs p ≡ zero_ℚ → g.N.Numbers.fraction v ≡ sum_from lead (weighted p xs es))
    (λ v total p none. total p none ∙ ap (λ x. sum_from x (weighted p xs es)) first)
    c.sum_of_entries.ensures.value
