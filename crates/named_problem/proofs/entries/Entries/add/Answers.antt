use Rattle.std.proofs.Common.{[], ◌∷◌, map, not, ap, ◌∙◌}
use Rattle.std.proofs.lemmas.List.{map-append}
use Rattle.problem_definitions.specs.Problem.{has_entry}
use Rattle.named_problem.specs.Views.{entry_at}
use Rattle.named_problem.proofs.Keyed.{entry_is_there}
use Rattle.named_problem.proofs.entries.Entries.add.Goals as goal

pub returns : goal.returns
returns c =
    let absent = entry_is_there c.args.row c.self.inside.values.entries ∙ ap (λ entries. has_entry entries c.args.row) c.self.view_is ∙ c.requires in
    rw (← c.self.view_is)
    (ap (map entry_at) (c.in_ok-_is_new.ensures.added (c.in_ok-_is_new.ensures.is_new ∙ ap not absent))
    ∙ map-append entry_at c.self.inside.values.entries ((c.args.row, c.args.number) ∷ []))
