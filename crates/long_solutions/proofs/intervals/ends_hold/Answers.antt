use Rattle.std.proofs.Common.{Bool, ◌∙◌, ap, sym, subst}
use Rattle.std.specs.Prelude.{◌&&◌}
use Rattle.long_solutions.specs.Answers.{Answers}
use Rattle.long_solutions.specs.Lines.{points_at, ends_verdict}
use Rattle.long_solutions.proofs.Ends.{end_places, ends_answer}
use Rattle.long_solutions.proofs.intervals.ends_hold.Goals as goal

pub optimal-requires-clause-places : goal.optimal-requires-clause-places
optimal-requires-clause-places c =
    let lines = c.requires.lines in
    end_places c.requires.from.number lines.columns c.args.at.now.lp.now lines.counted c.in_ok-start.start
    (c.in_ok-start.ensures c.requires.from.number lines.columns c.requires.from.is lines.over)

pub optimal-requires-2-clause-places : goal.optimal-requires-2-clause-places
optimal-requires-2-clause-places c =
    let lines = c.requires.lines in
    end_places c.requires.to.number lines.columns c.args.at.now.lp.now lines.counted c.in_ok-end.end
    (c.in_ok-end.ensures c.requires.to.number lines.columns c.requires.to.is lines.over)

pub invariant_of-ends-clause-start_places : goal.invariant_of-ends-clause-start_places
invariant_of-ends-clause-start_places c =
    let lines = c.requires.lines in
    end_places c.requires.from.number lines.columns c.args.at.now.lp.now lines.counted c.in_ok-start.start
    (c.in_ok-start.ensures c.requires.from.number lines.columns c.requires.from.is lines.over)

pub invariant_of-ends-clause-end_places : goal.invariant_of-ends-clause-end_places
invariant_of-ends-clause-end_places c =
    let lines = c.requires.lines in
    end_places c.requires.to.number lines.columns c.args.at.now.lp.now lines.counted c.in_ok-end.end
    (c.in_ok-end.ensures c.requires.to.number lines.columns c.requires.to.is lines.over)

pub returns : goal.returns
returns c = λ sheet changing first last columns family counted is also over.
    let begins = c.in_ok-begins.begins in
    let start = c.in_ok-start.ensures first columns is over in
    let end = c.in_ok-end.ensures last columns also over in
    let point = points_at first columns in
    let other = points_at last columns in
    subst (λ (b : Bool). Answers b (ends_verdict sheet changing first last columns)) (sym (c.both.ensures ∙ ap (λ b. begins && b) c.both-rest.ensures))
    (ends_answer sheet changing c.args.at.now.lp.now c.args.at.now.change family columns counted first last begins c.in_ok-closes.closes c.in_ok-keeps.keeps
    (c.in_ok-begins.ensures point first start) (c.in_ok-closes.ensures other last end)
    (c.in_ok-keeps.ensures point other first last start end))
