use Rattle.std.proofs.Common.{Option, Some, sym, ap, ◌∙◌}
use Rattle.problem_definitions.specs.Names.{Name}
use Rattle.run_machine.specs.Standing.{named}
use Rattle.setup_verbs.proofs.Setting.{filed_by, not_opened}
use Rattle.setup_verbs.proofs.setup.open.Goals as goal

pub returns-in-Err-clause-refused : goal.returns-in-Err-clause-refused
returns-in-Err-clause-refused g c =
    let is_named = ap (λ (wanted : Option Name). named wanted c.args.file.now) (sym c.name.ensures) ∙ sym c.wanted_name.ensures ∙ c.in-Some.is in
    not_opened c.args.cells.now c.args.file.now c.args.options c.in-Some-get.problem.now
    (filed_by c.args.cells.now.xpbname c.args.file.now c.in-Some.name (Some c.in-Some-get.problem.now) is_named (sym c.in-Some-get.ensures))
    c.in-Err.refusal c.in-Err.ensures.refused
