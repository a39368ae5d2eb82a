use Rattle.named_problem.proofs.Grouped.{group_is_there}
use Rattle.std.proofs.Common.{List, [], ◌∷◌, map, insert, ap, ◌∙◌}
use Rattle.std.proofs.lemmas.List.{map-append}
use Rattle.std.proofs.lemmas.Result.{on_ok_weaker}
use Rattle.problem_definitions.specs.Names.{Name}
use Rattle.problem_definitions.specs.Problem.{Bound, has_group}
use Rattle.named_problem.specs.Views.{group_at}
use Rattle.named_problem.proofs.NamedValues.{at_end}
use Rattle.named_problem.proofs.bound_sets.BoundSets.add.Goals as goal

pub returns : goal.returns
returns c =
    let e : Name × List (Bound Name) = (c.args.name, c.args.bounds) in
    rw (← c.self.view_is)
    (on_ok_weaker c.insert_new.result
    (λ placed. ap (map group_at) (placed ∙ ap (λ place. insert c.self.inside.sets.entries place e) c.len-last.ensures.len ∙ at_end e c.self.inside.sets.entries)
    ∙ map-append group_at c.self.inside.sets.entries (e ∷ []))
    c.insert_new.ensures.placed)

pub insert_new-requires : goal.insert_new-requires
insert_new-requires c = group_is_there c.args.name c.self.inside.sets.entries ∙ ap (λ groups. has_group groups c.args.name) c.self.view_is ∙ c.requires
