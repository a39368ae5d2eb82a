use Rattle.std.proofs.Common.{ap, ◌∙◌}
use Rattle.problem_definitions.specs.Numbering.{numbered}
use Rattle.mps_convert.proofs.conversion.problem_of.Goals as goal

pub problem-requires : goal.problem-requires
problem-requires g c = c.requires.lawful c.problem_name-own.result c.problem_name-own.ensures.is_name

pub returns-in-Ok-clause-problem : goal.returns-in-Ok-clause-problem
returns-in-Ok-clause-problem g c = c.in-Ok.ensures ∙ ap (λ own. numbered (g.D.ProblemDraft.problem_under own c.args.draft.now)) c.problem_name-own.ensures.name
