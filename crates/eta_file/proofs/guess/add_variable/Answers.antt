use Rattle.std.proofs.Common.{rules, ◌≡◌, ◌-◌, ◌∙◌, sym, ap, arith, to_z, of_z}
use Rattle.std.specs.Int.{w128}
use Rattle.std.proofs.lemmas.Int.{to_z-of_z}
use Rattle.exact_values.specs.Rational.{ℚ, whole, ◌+ℚ◌, ◌*ℚ◌}
use Rattle.lp_definitions.specs.LinearProgram.{Matrix, value_at, on_row, column}
use Rattle.eta_file.proofs.ListedSums.{row_part, part_of_column, no_part, with_nothing}
use Rattle.eta_file.proofs.guess.add_variable.Goals as goal

pub returns-then-k-rows-clause-added : goal.returns-then-k-rows-clause-added
returns-then-k-rows-clause-added c i low =
    with_nothing (value_at c.args.sums.now i) _
    (row_part c.args.file.now.matrix (value_at c.args.numbers.now) i c.args.k (omega (arith, c.if-k-rows.true, c.rows-rows.ensures)))

pub returns-then-number-eq0-clause-added : goal.returns-then-number-eq0-clause-added
returns-then-number-eq0-clause-added c i low =
    let is_number : whole (to_z w128 (of_z w128 c.whole_at-number.result)) ≡ value_at c.args.numbers.now c.args.k =
    ap whole (to_z-of_z w128 c.whole_at-number.result (search rules)) ∙ c.whole_at-number.ensures.value
    ∙ ap (λ xs. value_at xs c.args.k) c.numbers.ensures.numbers in
    with_nothing (value_at c.args.sums.now i) _
    (no_part c.args.file.now.matrix (value_at c.args.numbers.now) i c.args.k
    (sym is_number ∙ ap (λ n. whole (to_z w128 n)) c.if-number-eq0.true))

pub returns-clause-added : goal.returns-clause-added
returns-clause-added c i low =
    let a : Matrix = c.args.file.now.matrix in
    let rows : c.rows-rows.result ≡ a.rows = c.rows-rows.ensures in
    let number : ℚ = whole (to_z w128 (of_z w128 c.whole_at-number.result)) in
    let is_number : number ≡ value_at c.args.numbers.now c.args.k =
    ap whole (to_z-of_z w128 c.whole_at-number.result (search rules)) ∙ c.whole_at-number.ensures.value
    ∙ ap (λ xs. value_at xs c.args.k) c.numbers.ensures.numbers in
    c.in_ok-add_column.ensures.added i low
    ∙ ap (λ x. value_at c.args.sums.now i +ℚ x)
    (ap (λ x. x *ℚ on_row c.numbers-column.result.now i) is_number
    ∙ ap (λ es. value_at c.args.numbers.now c.args.k *ℚ on_row es i) (c.numbers-column.ensures ∙ ap (λ m. column a (c.args.k - m)) rows)
    ∙ sym (part_of_column a (value_at c.args.numbers.now) i c.args.k (omega (arith, c.if-k-rows.false, rows))))
