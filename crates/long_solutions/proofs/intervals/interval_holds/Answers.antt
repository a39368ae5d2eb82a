use Rattle.std.proofs.Common.{◌∙◌, ap, refl, sym, subst, Bool, Some}
use Rattle.std.specs.Prelude.{◌||◌, ◌&&◌}
use Rattle.std.specs.declared.cmp.Ordering.{Ordering}
use Rattle.exact_values.specs.Tests.{is_less, is_equal, lt_ℚ, eq_ℚ, le_ℚ}
use Rattle.parametric_request.specs.Asking.{changing_of}
use Rattle.walk_definitions.specs.Checkers.{checker_of_any_length}
use Rattle.walk_definitions.specs.Tests.{asked}
use Rattle.listing_words.specs.Read.{sheet_view}
use Rattle.listing_claims.specs.Intervals.{part_verdict}
use Rattle.long_points.specs.Tests.{not_above_by}
use Rattle.long_points.proofs.Orders.{not_above_is}
use Rattle.long_solutions.specs.Answers.{Answers}
use Rattle.long_solutions.specs.Lines.{IsFamily, ends_verdict}
use Rattle.long_solutions.proofs.Answered.{both_answer, asked_answers}
use Rattle.long_solutions.proofs.intervals.interval_holds.Goals as goal

pub ends_hold-requires-clause-change : goal.ends_hold-requires-clause-change
ends_hold-requires-clause-change c =
    let run = c.args.run.now in
    c.change_at.ensures.change run.sheet.problem.now run.sheet.lp.now run.request.now.name c.requires.asked.serves

pub ends_hold-requires-clause-from : goal.ends_hold-requires-clause-from
ends_hold-requires-clause-from c = record { number = c.args.placed.now.from.now; is = c.in_ok-first.ensures }

pub ends_hold-requires-clause-to : goal.ends_hold-requires-clause-to
ends_hold-requires-clause-to c = record { number = c.args.placed.now.part.now.to; is = c.in_ok-last.ensures }

pub returns : goal.returns
returns c =
    let sheet = sheet_view c.args.run.now.sheet in
    let changing = changing_of c.args.run.now.request.now.name c.args.run.now.request.now.change in
    let from = c.args.placed.now.from.now in
    let part = c.args.placed.now.part.now in
    let max = c.args.run.now.request.now.to in
    let family : IsFamily sheet changing c.args.run.now.sheet.lp.now c.change_at.result =
    record { lp = refl; same = c.change_at.ensures.family sheet c.args.run.now.request.now.name c.requires.asked.serves } in
    let goes_is =
    c.goes_on-goes.ensures
    ∙ ap (λ (o : Ordering). is_less o || (c.args.placed.now.is_first && is_equal o))
    (c.in_ok-order.ensures from part.to c.in_ok-first.ensures c.in_ok-last.ensures) in
    let within_is =
    c.is_at_most-within.ensures ∙ ap (λ (o : Ordering). not_above_by (Some o)) (c.in_ok-most.ensures part.to c.in_ok-last.ensures)
    ∙ not_above_is (Some max) part.to in
    let goes = lt_ℚ from part.to || (c.args.placed.now.is_first && eq_ℚ from part.to) in
    let within = le_ℚ part.to max in
    let ends = c.in_ok-ends.ends in
    subst (λ (b : Bool). Answers b (part_verdict checker_of_any_length sheet changing from part.to part.columns c.args.placed.now.is_first max))
    (sym (c.both.ensures ∙ (λ i. goes_is i && (c.both-rest.ensures ∙ ap (λ b. b && ends) within_is) i)))
    (both_answer goes (within && ends) (asked goes) _ (asked_answers goes)
    (both_answer within ends (asked within) (ends_verdict sheet changing from part.to part.columns) (asked_answers within)
    (c.in_ok-ends.ensures sheet changing from part.to part.columns family c.requires.counted c.in_ok-first.ensures c.in_ok-last.ensures c.in_ok-lines.ensures)))
