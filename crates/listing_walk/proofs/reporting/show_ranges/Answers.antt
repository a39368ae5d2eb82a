-- RANGE, by what is solved.
use Rattle.std.proofs.Common.{sym, ap, ◌∙◌}
use Rattle.walk_definitions.specs.Forms.{is_ranges}
use Rattle.listing_walk.proofs.ReportedWalks.{ranges_no_setup, ranges_not_solved, ranges_not_optimal, ranges_found}
use Rattle.listing_walk.proofs.reporting.show_ranges.Goals as goal

pub returns-in_default-clause-walks : goal.returns-in_default-clause-walks
returns-in_default-clause-walks c =
    λ C cards. ranges_no_setup C c.args.card cards c.args.machine.now c.args.place.now c.fault.new.place c.in_default.is c.fault.result c.fault.ensures.passes

pub returns-in_default-mark-clause-walks : goal.returns-in_default-mark-clause-walks
returns-in_default-mark-clause-walks c = λ C cards.
    ranges_not_solved C c.args.card cards c.args.machine.now c.args.place.now c.fault-in_default-mark.new.place c.in-Some._chosen c.in-Some.is
    c.in_default-mark.is c.fault-in_default-mark.result c.fault-in_default-mark.ensures.passes

pub returns-then-not-is_optimal-clause-walks : goal.returns-then-not-is_optimal-clause-walks
returns-then-not-is_optimal-clause-walks c = λ C cards.
    ranges_not_optimal C c.args.card cards c.args.machine.now c.args.place.now c.fault-then-not-is_optimal.new.place c.in-Some._chosen c.in-Some.is
    c.in-Some-mark.mark c.in-Some-mark.is (sym c.is_optimal.ensures ∙ c.if-not-is_optimal.true)
    c.fault-then-not-is_optimal.result c.fault-then-not-is_optimal.ensures.passes

pub returns-clause-walks : goal.returns-clause-walks
returns-clause-walks c = λ C cards.
    ranges_found C c.args.card cards c.args.machine.now c.args.place.now c.args.place.now c.in-Some._chosen c.in-Some.is c.in-Some-mark.mark c.in-Some-mark.is
    (sym c.is_optimal.ensures ∙ c.if-not-is_optimal.false) c.requires.ready c.requires.solved
    c.is_ranges-stands.result (c.is_ranges-stands.ensures ∙ ap is_ranges c.left.ensures) c.reported_here.result c.reported_here.ensures
