use Rattle.std.proofs.Common.{Option, ◌∷◌, [], subst, sym, None, Some, ◌≡◌, rules}
use Rattle.std.specs.Prelude.{IfNone}
use Rattle.exact_values.specs.Rational.{ℚ}
use Rattle.walk_definitions.specs.Checkers.{checker_of_128_bits}
use Rattle.walk_definitions.specs.Words.{left_after, fraction_in}
use Rattle.walk_definitions.proofs.Numbers.{great_is_none}
use Rattle.listing_words.proofs.numbers.spelled.Goals as goal

pub returns-in_err-size-clause-none : goal.returns-in_err-size-clause-none
returns-in_err-size-clause-none c =
    let signed : left_after (45 ∷ []) c.args.word.now ≡ Some c.rest.result.now = search rules in
    subst (λ (r : Option ℚ). IfNone r (fraction_in checker_of_128_bits c.args.word.now ≡ None)) (sym c.from_residual.ensures)
    (great_is_none c.args.word.now (λ small. c.in_err-size.ensures (small.signed c.rest.result.now signed)))

pub returns-in_err-size-2-clause-none : goal.returns-in_err-size-2-clause-none
returns-in_err-size-2-clause-none c =
    let plain : left_after (45 ∷ []) c.args.word.now ≡ None = search rules in
    subst (λ (r : Option ℚ). IfNone r (fraction_in checker_of_128_bits c.args.word.now ≡ None)) (sym c.from_residual-in_err-size-2.ensures)
    (great_is_none c.args.word.now (λ small. c.in_err-size-2.ensures (small.plain plain)))
