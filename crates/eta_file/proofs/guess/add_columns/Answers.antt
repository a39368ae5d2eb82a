use Rattle.std.proofs.Common.{◌≤◌, ◌∙◌, sym, ap, subst, All}
use Rattle.exact_values.specs.Rational.{◌+ℚ◌}
use Rattle.exact_values.specs.Sums.{sum_over}
use Rattle.lp_definitions.specs.LinearProgram.{IsVariable, value_at}
use Rattle.eta_file.specs.ColumnSums.{column_part}
use Rattle.eta_file.specs.Listed.{listed_of}
use Rattle.eta_file.proofs.ListedLaws.{listed_within}
use Rattle.eta_file.proofs.ListedSums.{all_parts}
use Rattle.eta_file.proofs.guess.add_columns.Goals as goal

pub add_listed-requires-clause-listed : goal.add_listed-requires-clause-listed
add_listed-requires-clause-listed c =
    subst (All (IsVariable c.args.file.now.matrix)) (sym c.requires.basics)
    (subst (λ n. All (λ k. (1 ≤ k) × (k ≤ n)) (listed_of c.args.file.now.basics)) c.size-size.ensures.nonsingular.counted
    (listed_within c.args.file.now.basics))

pub returns-clause-sums : goal.returns-clause-sums
returns-clause-sums c i row =
    all_parts c.args.file.now.matrix c.args.file.now.basics c.size-size.ensures.nonsingular.counted c.args.j c.requires.nonbasic (value_at c.args.numbers.now)
    c.requires.others i (value_at c.args.sums.now i) (value_at c.add_listed.new.sums i) (value_at c.add_variable.new.sums i) (c.requires.zero i row.0)
    (c.in_ok-add_listed.ensures.added i row.0
    ∙ ap (λ ks. value_at c.args.sums.now i +ℚ sum_over ks (column_part c.args.file.now.matrix (value_at c.args.numbers.now) i)) c.requires.basics)
    (c.in_ok-add_variable.ensures.added i row.0)
