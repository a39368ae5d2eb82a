-- A combination is the sum of its parts, in a lawful problem.
use Rattle.selection_laws.proofs.Fields.{columns-of, earlier-parts}
use Rattle.selection_laws.proofs.Activities.{adds-numbers, adds-activities}
use Rattle.selection_laws.proofs.combination_laws.Goals as goal

pub returns-clause-numbers : goal.returns-clause-numbers
returns-clause-numbers c =
    λ problem place column row parts is there combines. adds-numbers problem (columns-of problem is) place column row parts there combines

pub returns-clause-activities : goal.returns-clause-activities
returns-clause-activities c = λ problem place row parts z is there combines keeps.
    adds-activities problem (columns-of problem is) place row parts z there combines (earlier-parts problem.rows is.parts place row parts there combines) keeps
