use Rattle.std.proofs.Common.{ap, ◌∙◌, arith}
use Rattle.name_table.specs.Numbers.{number_of}
use Rattle.basis_deck.proofs.Variables.{none_or_not, column_missing, column_there, column_few, column_number, column_variable_of}
use Rattle.basis_deck.proofs.draft.BasisDraft.column_variable.Goals as goal

pub returns-in_err-number-clause-missing : goal.returns-in_err-number-clause-missing
returns-in_err-number-clause-missing c =
    none_or_not c.from_residual.result
    (column_missing c.args.self.now.problem.now c.args.self.now.lp.now c.args.self.now.names c.args.name.now
    (c.in_err-number.ensures ∙ ap (number_of c.args.name.now) c.args.self.now.column_names))

pub overflow_add-result : goal.overflow_add-result
overflow_add-result c =
    let few = column_few c.args.self.now.problem.now c.args.self.now.lp.now c.args.self.now.names c.args.name.now c.in_ok-number.number
    (c.in_ok-number.ensures ∙ ap (number_of c.args.name.now) c.args.self.now.column_names) in
    omega (arith, few, c.column_count-few.ensures.count, c.column_count-few.ensures.few, c.row_count.ensures.few)

pub returns-clause-there : goal.returns-clause-there
returns-clause-there c =
    column_there c.args.self.now.problem.now c.args.self.now.lp.now c.args.self.now.names c.args.name.now c.in_ok-number.number
    (c.in_ok-number.ensures ∙ ap (number_of c.args.name.now) c.args.self.now.column_names)

pub returns-clause-number : goal.returns-clause-number
returns-clause-number c =
    column_number c.args.self.now.problem.now c.args.self.now.lp.now c.args.self.now.names c.args.name.now c.in_ok-number.number
    (c.in_ok-number.ensures ∙ ap (number_of c.args.name.now) c.args.self.now.column_names)
    c.row_count.result c.row_count.ensures.count

pub returns-clause-variable : goal.returns-clause-variable
returns-clause-variable c =
    column_variable_of c.args.self.now.problem.now c.args.self.now.lp.now c.args.self.now.names c.args.name.now c.in_ok-number.number
    (c.in_ok-number.ensures ∙ ap (number_of c.args.name.now) c.args.self.now.column_names)
    c.row_count.result c.row_count.ensures.count
