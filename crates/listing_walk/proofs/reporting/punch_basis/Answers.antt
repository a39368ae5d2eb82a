-- PUNCH, by what is selected.
use Rattle.std.proofs.Common.{sym, ◌∙◌}
use Rattle.walk_definitions.specs.Forms.{is_punched}
use Rattle.listing_walk.proofs.ReportedWalks.{punch_no_setup, punch_found, punch_refused}
use Rattle.listing_walk.proofs.SolvingWalks.{stays_on_file}
use Rattle.listing_walk.proofs.reporting.punch_basis.Goals as goal

pub problem_on_file-problem-requires : goal.problem_on_file-problem-requires
problem_on_file-problem-requires c =
    stays_on_file c.args.machine.now.file c.args.machine.now.setup c.in-Some.chosen c.in-Some.is c.requires.ready

pub returns-in_default-clause-walks : goal.returns-in_default-clause-walks
returns-in_default-clause-walks c =
    λ C cards. punch_no_setup C c.args.card cards c.args.machine.now c.args.place.now c.fault.new.place c.in_default.is c.fault.result c.fault.ensures.passes

pub returns-in-Ok-clause-walks : goal.returns-in-Ok-clause-walks
returns-in-Ok-clause-walks c = λ C cards.
    punch_found C c.args.card cards c.args.machine.now c.args.place.now c.args.place.now c.in-Some.chosen c.in-Some.is c.problem_on_file-problem.result.now
    c.problem_on_file-problem.ensures c.is_punched-stands.result
    (c.is_punched-stands.ensures
    ∙ (λ i. is_punched (c.name.ensures.name i) (c.left.ensures i))) c.in-Ok._lp c.in-Ok.ensures.made c.reported_here.result c.reported_here.ensures

pub returns-in-Err-clause-walks : goal.returns-in-Err-clause-walks
returns-in-Err-clause-walks c = λ C cards.
    punch_refused C c.args.card cards c.args.machine.now c.args.place.now c.refuse.new.place c.in-Some.chosen c.in-Some.is
    c.problem_on_file-problem.result.now
    c.problem_on_file-problem.ensures c.is_punched-stands.result
    (c.is_punched-stands.ensures
    ∙ (λ i. is_punched (c.name.ensures.name i)
    (c.left.ensures i))) c.reported_here-found.result c.reported_here-found.ensures c.in-Err.refusal
    c.in-Err.ensures.refused c.refuse.result c.refuse.ensures.refuses
