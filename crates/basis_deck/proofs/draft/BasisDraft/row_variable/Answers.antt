use Rattle.std.proofs.Common.{ap, ◌∙◌}
use Rattle.name_table.specs.Numbers.{number_of}
use Rattle.basis_deck.proofs.Variables.{row_missing, row_there, row_number, row_variable_of}
use Rattle.basis_deck.proofs.draft.BasisDraft.row_variable.Goals as goal

pub returns-clause-missing : goal.returns-clause-missing
returns-clause-missing c =
    row_missing c.args.self.now.problem.now c.args.self.now.lp.now c.args.self.now.names c.args.name.now c.find.result
    (c.find.ensures ∙ ap (number_of c.args.name.now) c.args.self.now.row_names)

pub returns-clause-there : goal.returns-clause-there
returns-clause-there c =
    row_there c.args.self.now.problem.now c.args.self.now.lp.now c.args.self.now.names c.args.name.now c.find.result
    (c.find.ensures ∙ ap (number_of c.args.name.now) c.args.self.now.row_names)

pub returns-clause-number : goal.returns-clause-number
returns-clause-number c =
    row_number c.args.self.now.problem.now c.args.self.now.lp.now c.args.self.now.names c.args.name.now c.find.result
    (c.find.ensures ∙ ap (number_of c.args.name.now) c.args.self.now.row_names)

pub returns-clause-variable : goal.returns-clause-variable
returns-clause-variable c =
    row_variable_of c.args.self.now.problem.now c.args.self.now.lp.now c.args.self.now.names c.args.name.now c.find.result
    (c.find.ensures ∙ ap (number_of c.args.name.now) c.args.self.now.row_names)
