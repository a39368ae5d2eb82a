use Rattle.std.proofs.Common.{sym, ◌∙◌}
use Rattle.named_problem.proofs.FirstPlaces.{number_at_place}
use Rattle.named_problem.proofs.numbers.stands_at.Goals as goal

pub returns-in-Some-clause-number : goal.returns-in-Some-clause-number
returns-in-Some-clause-number g c =
    λ h. number_at_place c.args.names.now.entries c.args.place c.in-Some.found.now _ c.args.name.now c.len.ensures.unique (sym c.in-Some.ensures.entry)
    (sym c.eq.ensures ∙ h)
