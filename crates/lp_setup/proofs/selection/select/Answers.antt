-- Each stop reports the first fault, and without a fault the program is the one that the choice selects.
use Rattle.std.proofs.Common.{length, Some, None, true, false, ap, sym, ◌∙◌, subst}
use Rattle.problem_definitions.specs.Valid.{AreEntries, AreBounds}
use Rattle.control_definitions.specs.Program.{SetupOptions}
use Rattle.selection_definitions.specs.Choice.{Choice}
use Rattle.selection_definitions.specs.Programs.{program_with}
use Rattle.selection_laws.proofs.Faults.{missing-objective, limited-objective, missing-rhs, missing-range, missing-bound, faultless}
use Rattle.selection_laws.proofs.Lawful.{free_objective, lawful_program}
use Rattle.lp_setup.proofs.Made.{selection_made}
use Rattle.lp_setup.proofs.Program.{program_selected, refusal_of_program}
use Rattle.lp_setup.proofs.Selecting.{number_found, free_found, miss_found, items_found, rhs_found}
use Rattle.lp_setup.proofs.Sets.{rhs-entries, range-entries, bound-items}
use Rattle.lp_setup.proofs.selection.select.Goals as goal

pub returns-in_default-clause-fault : goal.returns-in_default-clause-fault
returns-in_default-clause-fault c =
    let objective = ap (λ (chosen : Choice). chosen.objective) c.choice.view_is in
    let number =
    number_found c.args.problem.now c.args.choice.now c.rows-rows.result.now c.choice.inside.objective c.rows-rows.ensures.rows objective None
    c.in_default.ensures.number in
    sym (missing-objective c.args.problem.now c.args.choice.now number)

pub returns-then-is_not_free-clause-fault : goal.returns-then-is_not_free-clause-fault
returns-then-is_not_free-clause-fault c =
    let objective = ap (λ (chosen : Choice). chosen.objective) c.choice.view_is in
    let number =
    number_found c.args.problem.now c.args.choice.now c.rows-rows.result.now c.choice.inside.objective c.rows-rows.ensures.rows objective
    (Some c.in-Some.objective) c.in-Some.ensures.number in
    let free =
    free_found c.args.problem.now c.args.choice.now c.rows-rows.result.now c.choice.inside.objective c.rows-rows.ensures.rows objective c.is_not_free.result
    true c.is_not_free.ensures c.if-is_not_free.true in
    sym (limited-objective c.args.problem.now c.args.choice.now c.in-Some.objective number free)

pub returns-in_default-rhs_items-clause-fault : goal.returns-in_default-rhs_items-clause-fault
returns-in_default-rhs_items-clause-fault c =
    let objective = ap (λ (chosen : Choice). chosen.objective) c.choice.view_is in
    let number =
    number_found c.args.problem.now c.args.choice.now c.rows-rows.result.now c.choice.inside.objective c.rows-rows.ensures.rows objective
    (Some c.in-Some.objective) c.in-Some.ensures.number in
    let free =
    free_found c.args.problem.now c.args.choice.now c.rows-rows.result.now c.choice.inside.objective c.rows-rows.ensures.rows objective c.is_not_free.result
    false c.is_not_free.ensures c.if-is_not_free.false in
    let rhs = ap (λ (chosen : Choice). chosen.rhs) c.choice.view_is in
    let no_rhs =
    miss_found c.args.problem.now.rhs c.rhs.result.now c.args.choice.now.rhs c.choice.inside.rhs c.rhs.ensures.rhs rhs true
    c.in_default-rhs_items.ensures.missing in
    sym (missing-rhs c.args.problem.now c.args.choice.now c.in-Some.objective number free no_rhs)

pub returns-in_default-chosen_items-clause-fault : goal.returns-in_default-chosen_items-clause-fault
returns-in_default-chosen_items-clause-fault c =
    let objective = ap (λ (chosen : Choice). chosen.objective) c.choice.view_is in
    let number =
    number_found c.args.problem.now c.args.choice.now c.rows-rows.result.now c.choice.inside.objective c.rows-rows.ensures.rows objective
    (Some c.in-Some.objective) c.in-Some.ensures.number in
    let free =
    free_found c.args.problem.now c.args.choice.now c.rows-rows.result.now c.choice.inside.objective c.rows-rows.ensures.rows objective c.is_not_free.result
    false c.is_not_free.ensures c.if-is_not_free.false in
    let rhs = ap (λ (chosen : Choice). chosen.rhs) c.choice.view_is in
    let no_rhs =
    miss_found c.args.problem.now.rhs c.rhs.result.now c.args.choice.now.rhs c.choice.inside.rhs c.rhs.ensures.rhs rhs false
    c.in-Some-rhs_items.ensures.found.0 in
    let range = ap (λ (options : SetupOptions). options.range) c.options.view_is ∙ ap (λ (chosen : Choice). chosen.options.range) c.choice.view_is in
    let no_range =
    miss_found c.args.problem.now.ranges c.ranges-2.result.now c.args.choice.now.options.range c.options.inside.range c.ranges-2.ensures.ranges range true
    c.in_default-chosen_items.ensures.missing in
    sym (missing-range c.args.problem.now c.args.choice.now c.in-Some.objective number free no_rhs no_range)

pub returns-in_default-chosen_items-2-clause-fault : goal.returns-in_default-chosen_items-2-clause-fault
returns-in_default-chosen_items-2-clause-fault c =
    let objective = ap (λ (chosen : Choice). chosen.objective) c.choice.view_is in
    let number =
    number_found c.args.problem.now c.args.choice.now c.rows-rows.result.now c.choice.inside.objective c.rows-rows.ensures.rows objective
    (Some c.in-Some.objective) c.in-Some.ensures.number in
    let free =
    free_found c.args.problem.now c.args.choice.now c.rows-rows.result.now c.choice.inside.objective c.rows-rows.ensures.rows objective c.is_not_free.result
    false c.is_not_free.ensures c.if-is_not_free.false in
    let rhs = ap (λ (chosen : Choice). chosen.rhs) c.choice.view_is in
    let no_rhs =
    miss_found c.args.problem.now.rhs c.rhs.result.now c.args.choice.now.rhs c.choice.inside.rhs c.rhs.ensures.rhs rhs false
    c.in-Some-rhs_items.ensures.found.0 in
    let range = ap (λ (options : SetupOptions). options.range) c.options.view_is ∙ ap (λ (chosen : Choice). chosen.options.range) c.choice.view_is in
    let no_range =
    miss_found c.args.problem.now.ranges c.ranges-2.result.now c.args.choice.now.options.range c.options.inside.range c.ranges-2.ensures.ranges range false
    c.in-Some-chosen_items.ensures.found.0 in
    let bound = ap (λ (options : SetupOptions). options.bound) c.options.view_is ∙ ap (λ (chosen : Choice). chosen.options.bound) c.choice.view_is in
    let no_bound =
    miss_found c.args.problem.now.bounds c.bounds.result.now c.args.choice.now.options.bound c.options.inside.bound c.bounds.ensures.bounds bound true
    c.in_default-chosen_items-2.ensures.missing in
    sym (missing-bound c.args.problem.now c.args.choice.now c.in-Some.objective number free no_rhs no_range no_bound)

pub program-requires-clause-lawful : goal.program-requires-clause-lawful
program-requires-clause-lawful c =
    let objective = ap (λ (chosen : Choice). chosen.objective) c.choice.view_is in
    let number =
    number_found c.args.problem.now c.args.choice.now c.rows-rows.result.now c.choice.inside.objective c.rows-rows.ensures.rows objective
    (Some c.in-Some.objective) c.in-Some.ensures.number in
    let free =
    free_found c.args.problem.now c.args.choice.now c.rows-rows.result.now c.choice.inside.objective c.rows-rows.ensures.rows objective c.is_not_free.result
    false c.is_not_free.ensures c.if-is_not_free.false in
    lawful_program c.args.problem.now c.rows-rows.ensures.is_problem c.in-Some.objective c.in-Some-rhs_items.rhs.now c.in-Some-chosen_items.ranges.now
    c.in-Some-chosen_items-2.bounds.now c.options.inside.sense
    (free_objective c.args.problem.now.rows c.rows-rows.ensures.is_problem.rows.distinct c.args.choice.now.objective c.in-Some.objective number free)

pub program-requires-clause-side : goal.program-requires-clause-side
program-requires-clause-side c =
    let rhs = ap (λ (chosen : Choice). chosen.rhs) c.choice.view_is in
    let is_rhs =
    rhs_found c.args.problem.now.rhs c.rhs.result.now c.args.choice.now.rhs c.choice.inside.rhs c.rhs.ensures.rhs rhs c.in-Some-rhs_items.rhs.now
    c.in-Some-rhs_items.ensures.found.1 in
    subst (AreEntries (length c.args.problem.now.rows)) (sym is_rhs) (rhs-entries c.args.problem.now c.rows-rows.ensures.is_problem c.args.choice.now.rhs)

pub program-requires-clause-range : goal.program-requires-clause-range
program-requires-clause-range c =
    let range = ap (λ (options : SetupOptions). options.range) c.options.view_is ∙ ap (λ (chosen : Choice). chosen.options.range) c.choice.view_is in
    let is_ranges =
    items_found c.args.problem.now.ranges c.ranges-2.result.now c.args.choice.now.options.range c.options.inside.range c.ranges-2.ensures.ranges range
    c.in-Some-chosen_items.ranges.now c.in-Some-chosen_items.ensures.found.1 in
    subst (AreEntries (length c.args.problem.now.rows)) (sym is_ranges)
    (range-entries c.args.problem.now c.rows-rows.ensures.is_problem c.args.choice.now.options.range)

pub program-requires-clause-bound : goal.program-requires-clause-bound
program-requires-clause-bound c =
    let bound = ap (λ (options : SetupOptions). options.bound) c.options.view_is ∙ ap (λ (chosen : Choice). chosen.options.bound) c.choice.view_is in
    let is_bounds =
    items_found c.args.problem.now.bounds c.bounds.result.now c.args.choice.now.options.bound c.options.inside.bound c.bounds.ensures.bounds bound
    c.in-Some-chosen_items-2.bounds.now c.in-Some-chosen_items-2.ensures.found.1 in
    subst (AreBounds (length c.args.problem.now.columns)) (sym is_bounds)
    (bound-items c.args.problem.now c.rows-rows.ensures.is_problem c.args.choice.now.options.bound)

pub returns-in-Ok-clause-program : goal.returns-in-Ok-clause-program
returns-in-Ok-clause-program c =
    let objective = ap (λ (chosen : Choice). chosen.objective) c.choice.view_is in
    let number =
    number_found c.args.problem.now c.args.choice.now c.rows-rows.result.now c.choice.inside.objective c.rows-rows.ensures.rows objective
    (Some c.in-Some.objective) c.in-Some.ensures.number in
    let free =
    free_found c.args.problem.now c.args.choice.now c.rows-rows.result.now c.choice.inside.objective c.rows-rows.ensures.rows objective c.is_not_free.result
    false c.is_not_free.ensures c.if-is_not_free.false in
    let rhs = ap (λ (chosen : Choice). chosen.rhs) c.choice.view_is in
    let no_rhs =
    miss_found c.args.problem.now.rhs c.rhs.result.now c.args.choice.now.rhs c.choice.inside.rhs c.rhs.ensures.rhs rhs false
    c.in-Some-rhs_items.ensures.found.0 in
    let range = ap (λ (options : SetupOptions). options.range) c.options.view_is ∙ ap (λ (chosen : Choice). chosen.options.range) c.choice.view_is in
    let no_range =
    miss_found c.args.problem.now.ranges c.ranges-2.result.now c.args.choice.now.options.range c.options.inside.range c.ranges-2.ensures.ranges range false
    c.in-Some-chosen_items.ensures.found.0 in
    let bound = ap (λ (options : SetupOptions). options.bound) c.options.view_is ∙ ap (λ (chosen : Choice). chosen.options.bound) c.choice.view_is in
    let no_bound =
    miss_found c.args.problem.now.bounds c.bounds.result.now c.args.choice.now.options.bound c.options.inside.bound c.bounds.ensures.bounds bound false
    c.in-Some-chosen_items-2.ensures.found.0 in
    let is_rhs =
    rhs_found c.args.problem.now.rhs c.rhs.result.now c.args.choice.now.rhs c.choice.inside.rhs c.rhs.ensures.rhs rhs c.in-Some-rhs_items.rhs.now
    c.in-Some-rhs_items.ensures.found.1 in
    let is_ranges =
    items_found c.args.problem.now.ranges c.ranges-2.result.now c.args.choice.now.options.range c.options.inside.range c.ranges-2.ensures.ranges range
    c.in-Some-chosen_items.ranges.now c.in-Some-chosen_items.ensures.found.1 in
    let is_bounds =
    items_found c.args.problem.now.bounds c.bounds.result.now c.args.choice.now.options.bound c.options.inside.bound c.bounds.ensures.bounds bound
    c.in-Some-chosen_items-2.bounds.now c.in-Some-chosen_items-2.ensures.found.1 in
    let sense = ap (λ (options : SetupOptions). options.sense) c.options.view_is ∙ ap (λ (chosen : Choice). chosen.options.sense) c.choice.view_is in
    let is_lp =
    c.in-Ok.ensures.program
    ∙ ap (program_with c.args.problem.now c.in-Some.objective c.in-Some-rhs_items.rhs.now c.in-Some-chosen_items.ranges.now c.in-Some-chosen_items-2.bounds.now)
    sense in
    program_selected c.args.problem.now c.args.choice.now c.in-Some-rhs_items.rhs.now c.in-Some-chosen_items.ranges.now is_rhs is_ranges c.in-Some.objective
    c.in-Some-chosen_items-2.bounds.now c.in-Ok.lp is_bounds number
    (faultless c.args.problem.now c.args.choice.now c.in-Some.objective number free no_rhs no_range no_bound) is_lp

pub returns-in-Ok-clause-made : goal.returns-in-Ok-clause-made
returns-in-Ok-clause-made c =
    let rhs = ap (λ (chosen : Choice). chosen.rhs) c.choice.view_is in
    let range = ap (λ (options : SetupOptions). options.range) c.options.view_is ∙ ap (λ (chosen : Choice). chosen.options.range) c.choice.view_is in
    let is_rhs =
    rhs_found c.args.problem.now.rhs c.rhs.result.now c.args.choice.now.rhs c.choice.inside.rhs c.rhs.ensures.rhs rhs c.in-Some-rhs_items.rhs.now
    c.in-Some-rhs_items.ensures.found.1 in
    let is_ranges =
    items_found c.args.problem.now.ranges c.ranges-2.result.now c.args.choice.now.options.range c.options.inside.range c.ranges-2.ensures.ranges range
    c.in-Some-chosen_items.ranges.now c.in-Some-chosen_items.ensures.found.1 in
    selection_made c.args.problem.now c.args.choice.now c.in-Some-rhs_items.rhs.now c.in-Some-chosen_items.ranges.now is_rhs is_ranges
    c.in-Ok.ensures.limits_made c.in-Ok.ensures.columns_made

pub returns-in-Err-Overflow-clause-fault : goal.returns-in-Err-Overflow-clause-fault
returns-in-Err-Overflow-clause-fault c =
    let objective = ap (λ (chosen : Choice). chosen.objective) c.choice.view_is in
    let number =
    number_found c.args.problem.now c.args.choice.now c.rows-rows.result.now c.choice.inside.objective c.rows-rows.ensures.rows objective
    (Some c.in-Some.objective) c.in-Some.ensures.number in
    let free =
    free_found c.args.problem.now c.args.choice.now c.rows-rows.result.now c.choice.inside.objective c.rows-rows.ensures.rows objective c.is_not_free.result
    false c.is_not_free.ensures c.if-is_not_free.false in
    let rhs = ap (λ (chosen : Choice). chosen.rhs) c.choice.view_is in
    let no_rhs =
    miss_found c.args.problem.now.rhs c.rhs.result.now c.args.choice.now.rhs c.choice.inside.rhs c.rhs.ensures.rhs rhs false
    c.in-Some-rhs_items.ensures.found.0 in
    let range = ap (λ (options : SetupOptions). options.range) c.options.view_is ∙ ap (λ (chosen : Choice). chosen.options.range) c.choice.view_is in
    let no_range =
    miss_found c.args.problem.now.ranges c.ranges-2.result.now c.args.choice.now.options.range c.options.inside.range c.ranges-2.ensures.ranges range false
    c.in-Some-chosen_items.ensures.found.0 in
    let bound = ap (λ (options : SetupOptions). options.bound) c.options.view_is ∙ ap (λ (chosen : Choice). chosen.options.bound) c.choice.view_is in
    let no_bound =
    miss_found c.args.problem.now.bounds c.bounds.result.now c.args.choice.now.options.bound c.options.inside.bound c.bounds.ensures.bounds bound false
    c.in-Some-chosen_items-2.ensures.found.0 in
    sym (faultless c.args.problem.now c.args.choice.now c.in-Some.objective number free no_rhs no_range no_bound)

pub returns-in-Err-Overflow-clause-overflow : goal.returns-in-Err-Overflow-clause-overflow
returns-in-Err-Overflow-clause-overflow c =
    let rhs = ap (λ (chosen : Choice). chosen.rhs) c.choice.view_is in
    let range = ap (λ (options : SetupOptions). options.range) c.options.view_is ∙ ap (λ (chosen : Choice). chosen.options.range) c.choice.view_is in
    let is_rhs =
    rhs_found c.args.problem.now.rhs c.rhs.result.now c.args.choice.now.rhs c.choice.inside.rhs c.rhs.ensures.rhs rhs c.in-Some-rhs_items.rhs.now
    c.in-Some-rhs_items.ensures.found.1 in
    let is_ranges =
    items_found c.args.problem.now.ranges c.ranges-2.result.now c.args.choice.now.options.range c.options.inside.range c.ranges-2.ensures.ranges range
    c.in-Some-chosen_items.ranges.now c.in-Some-chosen_items.ensures.found.1 in
    refusal_of_program c.args.problem.now c.args.choice.now c.in-Some-rhs_items.rhs.now c.in-Some-chosen_items.ranges.now is_rhs is_ranges
    c.in-Err-Overflow.evidence
    (rw c.in-Err-Overflow.field-0-is at c.in-Err-Overflow.ensures.overflow)

pub returns-in-Err-NoMemory-clause-fault : goal.returns-in-Err-NoMemory-clause-fault
returns-in-Err-NoMemory-clause-fault c =
    let objective = ap (λ (chosen : Choice). chosen.objective) c.choice.view_is in
    let number =
    number_found c.args.problem.now c.args.choice.now c.rows-rows.result.now c.choice.inside.objective c.rows-rows.ensures.rows objective
    (Some c.in-Some.objective) c.in-Some.ensures.number in
    let free =
    free_found c.args.problem.now c.args.choice.now c.rows-rows.result.now c.choice.inside.objective c.rows-rows.ensures.rows objective c.is_not_free.result
    false c.is_not_free.ensures c.if-is_not_free.false in
    let rhs = ap (λ (chosen : Choice). chosen.rhs) c.choice.view_is in
    let no_rhs =
    miss_found c.args.problem.now.rhs c.rhs.result.now c.args.choice.now.rhs c.choice.inside.rhs c.rhs.ensures.rhs rhs false
    c.in-Some-rhs_items.ensures.found.0 in
    let range = ap (λ (options : SetupOptions). options.range) c.options.view_is ∙ ap (λ (chosen : Choice). chosen.options.range) c.choice.view_is in
    let no_range =
    miss_found c.args.problem.now.ranges c.ranges-2.result.now c.args.choice.now.options.range c.options.inside.range c.ranges-2.ensures.ranges range false
    c.in-Some-chosen_items.ensures.found.0 in
    let bound = ap (λ (options : SetupOptions). options.bound) c.options.view_is ∙ ap (λ (chosen : Choice). chosen.options.bound) c.choice.view_is in
    let no_bound =
    miss_found c.args.problem.now.bounds c.bounds.result.now c.args.choice.now.options.bound c.options.inside.bound c.bounds.ensures.bounds bound false
    c.in-Some-chosen_items-2.ensures.found.0 in
    sym (faultless c.args.problem.now c.args.choice.now c.in-Some.objective number free no_rhs no_range no_bound)
