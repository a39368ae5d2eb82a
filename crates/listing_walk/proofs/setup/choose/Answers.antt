use Rattle.std.proofs.Common.{Option, None, Some, sym, ap, ◌∙◌}
use Rattle.problem_definitions.specs.Names.{Name}
use Rattle.run_machine.specs.Standing.{named}
use Rattle.listing_walk.specs.Choosing.{no_problem, not_selected}
use Rattle.listing_walk.proofs.SettingUp.{filed_by, filed_none}
use Rattle.listing_walk.proofs.setup.choose.Goals as goal

pub returns-in_default-clause-refused : goal.returns-in_default-clause-refused
returns-in_default-clause-refused c =
    no_problem (filed_none c.args.cells.now.xpbname c.args.file.now
    (ap (λ (wanted : Option Name). named wanted c.args.file.now) (sym c.name.ensures) ∙ sym c.wanted_name.ensures ∙ c.in_default.is))

pub returns-in_default-get-clause-refused : goal.returns-in_default-get-clause-refused
returns-in_default-get-clause-refused c =
    let is_named = ap (λ (wanted : Option Name). named wanted c.args.file.now) (sym c.name.ensures) ∙ sym c.wanted_name.ensures ∙ c.in-Some.is in
    no_problem (filed_by c.args.cells.now.xpbname c.args.file.now c.in-Some.name None is_named (sym c.in_default-get.ensures))

pub returns-in-Err-clause-refused : goal.returns-in-Err-clause-refused
returns-in-Err-clause-refused c =
    let is_named = ap (λ (wanted : Option Name). named wanted c.args.file.now) (sym c.name.ensures) ∙ sym c.wanted_name.ensures ∙ c.in-Some.is in
    not_selected c.in-Some-get.problem.now
    (filed_by c.args.cells.now.xpbname c.args.file.now c.in-Some.name (Some c.in-Some-get.problem.now) is_named (sym c.in-Some-get.ensures))
    c.in-Err.ensures.refused
