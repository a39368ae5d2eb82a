-- What is made of a basis, and where its making is stopped.
use Rattle.std.proofs.Common.{subst}
use Rattle.lp_model.specs.RatesCalls.{IfOverflow}
use Rattle.verb_answers.specs.Answers.{sheet_view}
use Rattle.verb_answers.specs.Stops.{SolutionRefused, RangesRefused}
use Rattle.lp_definitions.specs.declared.Evidence.{Evidence}
use Rattle.setup_verbs.specs.Overflows.{IsOverflowAt}
use Rattle.showing_verbs.specs.Shown.{LinesFound, RangesFound}
use Rattle.setup_verbs.proofs.Reporting.{overflow_tells}
use Rattle.showing_verbs.proofs.Showing.{lines_overflow}
use Rattle.showing_verbs.proofs.Ranging.{ranges_overflow}
use Rattle.showing_verbs.proofs.present.show_basis.Goals as goal

-- ---- the lines

pub returns-in-Ok-clause-tells : goal.returns-in-Ok-clause-tells
returns-in-Ok-clause-tells g c = rw c.in-Lines.is (c.print_lines.ensures (g.R.Rates.state c.args.rates.now).waypoints)

pub returns-in-Err-Overflow-clause-tells : goal.returns-in-Err-Overflow-clause-tells
returns-in-Err-Overflow-clause-tells g c =
    let t =
    subst (λ stop. IfOverflow stop
    (SolutionRefused c.args.sheet.lp.now (g.R.Rates.state c.args.rates.now).waypoints c.args.basis.now
    (g.R.Rates.state c.solution_of.new.rates).waypoints)) c.in-Err-Overflow.field-0-is c.in-Err-Overflow.ensures.overflow in
    rw c.in-Lines.is
    (overflow_tells
    (LinesFound (sheet_view c.args.sheet) c.args.basis.now (g.R.Rates.state c.args.rates.now).waypoints c.in-Lines.mark) (g.P.Sink.taken c.args.print.now)
    c.args.basis.now (g.R.Rates.state c.solution_of.new.rates).waypoints c.in-Err-Overflow.evidence c.overflow_at.result
    (subst (λ (e : Evidence). IsOverflowAt c.args.basis.now
    (g.R.Rates.state c.solution_of.new.rates).waypoints e c.overflow_at.result) c.in-Err-Overflow.evidence-is c.overflow_at.ensures)
    (lines_overflow c.args.sheet c.args.basis.now (g.R.Rates.state c.args.rates.now).waypoints
    (g.R.Rates.state c.solution_of.new.rates).waypoints c.in-Lines.mark c.in-Err-Overflow.evidence t))

-- ---- the intervals

pub ranges_of-requires-clause-optimal : goal.ranges_of-requires-clause-optimal
ranges_of-requires-clause-optimal g c = c.requires.optimal c.in-Intervals.is

pub returns-in-Ok-ranges_of-clause-tells : goal.returns-in-Ok-ranges_of-clause-tells
returns-in-Ok-ranges_of-clause-tells g c = rw c.in-Intervals.is (c.print_ranges.ensures (g.R.Rates.state c.args.rates.now).waypoints)

pub returns-in-Err-Overflow-ranges_of-clause-tells : goal.returns-in-Err-Overflow-ranges_of-clause-tells
returns-in-Err-Overflow-ranges_of-clause-tells g c =
    let t =
    subst (λ stop. IfOverflow stop
    (RangesRefused c.args.sheet.lp.now (g.R.Rates.state c.args.rates.now).waypoints c.args.basis.now
    (g.R.Rates.state c.ranges_of.new.rates).waypoints)) c.in-Err-Overflow-ranges_of.field-0-is c.in-Err-Overflow-ranges_of.ensures.overflow in
    rw c.in-Intervals.is
    (overflow_tells
    (RangesFound (sheet_view c.args.sheet) c.args.basis.now (g.R.Rates.state c.args.rates.now).waypoints) (g.P.Sink.taken c.args.print.now)
    c.args.basis.now (g.R.Rates.state c.ranges_of.new.rates).waypoints c.in-Err-Overflow-ranges_of.evidence c.overflow_at-in-Err-Overflow-ranges_of.result
    (subst (λ (e : Evidence). IsOverflowAt c.args.basis.now
    (g.R.Rates.state c.ranges_of.new.rates).waypoints e c.overflow_at-in-Err-Overflow-ranges_of.result) c.in-Err-Overflow-ranges_of.evidence-is
    c.overflow_at-in-Err-Overflow-ranges_of.ensures)
    (ranges_overflow c.args.sheet c.args.basis.now (g.R.Rates.state c.args.rates.now).waypoints
    (g.R.Rates.state c.ranges_of.new.rates).waypoints c.in-Err-Overflow-ranges_of.evidence t))
