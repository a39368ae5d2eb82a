use Rattle.std.proofs.Common.{◌≡◌, ap, sym, ◌∙◌}
use Rattle.exact_values.specs.Rational.{zero_ℚ}
use Rattle.exact_values.specs.Tests.{eq_ℚ}
use Rattle.walk_definitions.specs.Tables.{number_at}
use Rattle.listing_words.specs.Read.{taken, sheet_view}
use Rattle.listing_claims.specs.Numbers.{number_in}
use Rattle.listing_readers.specs.Tables.{of_line}
use Rattle.listing_readers.proofs.Multipliers.{some_line}
use Rattle.listing_readers.proofs.rays.multiplier.Goals as goal

pub returns : goal.returns
returns g c =
    let begins = c.begins_line.ensures in
    let read = c.in_ok-numbers.ensures in
    let value : c.in_ok-numbers.numbers.first ≡ number_at 0 read.0 = ap (λ n. n.first) read.3 in
    of_line read.0 begins.0 (begins.1 ∙ ap (λ b. taken b begins.0) c.if-not-begins_line.false)
    (some_line (number_in g.T.Checks.checker c.args.by) (sheet_view c.args.sheet) c.args.k c.args.cursor.now c.line.new.cursor read.0 read.1
    (ap (λ x. eq_ℚ x zero_ℚ) (sym value) ∙ sym c.is_zero.ensures ∙ c.if-is_zero.false))
    read.2 value
