use Rattle.std.proofs.Common.{◌+◌, ◌≤◌, map, refl, ap, ◌∙◌, arith}
use Rattle.indexmap.proofs.SetLemmas.{map-insert}
use Rattle.problem_definitions.specs.Problem.{has_group}
use Rattle.named_problem.specs.Views.{group_at}
use Rattle.named_problem.proofs.Grouped.{group_is_there}
use Rattle.named_problem.proofs.Counted.{count_placed, short_placed, total_fits}
use Rattle.named_problem.proofs.groups.Groups.insert.Goals as goal

pub insert_new-requires : goal.insert_new-requires
insert_new-requires c = group_is_there c.args.name c.self.inside.groups.entries ∙ ap (λ groups. has_group groups c.args.name) c.self.view_is ∙ c.requires

pub returns : goal.returns
returns c =
    rw (← c.self.view_is)
    (ap (map group_at) c.in_ok-insert_new.ensures.placed ∙ map-insert group_at c.self.inside.groups.entries c.args.place (c.args.name, c.args.items))

pub overflow_add-self : goal.overflow_add-self
overflow_add-self c =
    let few : c.len-added.result ≤ 18446744073709551615 = omega arith in
    let names : c.len-names.result ≤ 18446744073709551615 = omega arith in
    let counted =
    count_placed c.self.inside.groups.entries c.insert_new.new.values.entries c.args.place c.args.name c.args.items c.self.inside.count
    (c.self.inside.count + c.len-added.result) c.len-added.result c.self.invariant.1 c.in_ok-insert_new.ensures.placed c.len-added.ensures refl in
    let short =
    short_placed c.self.inside.groups.entries c.insert_new.new.values.entries c.args.place c.args.name c.args.items c.len-added.result c.self.invariant.2
    c.in_ok-insert_new.ensures.placed c.len-added.ensures few in
    let fits = total_fits c.insert_new.new.values.entries c.len-names.result short c.len-names.ensures.len names in
    omega (arith, counted, fits)

pub invariant_of-self-2 : goal.invariant_of-self-2
invariant_of-self-2 c =
    let few : c.len-added.result ≤ 18446744073709551615 = omega arith in (
      c.insert_new.ensures.distinct,
      count_placed c.self.inside.groups.entries c.insert_new.new.values.entries c.args.place c.args.name c.args.items c.self.inside.count _ c.len-added.result
          c.self.invariant.1 c.in_ok-insert_new.ensures.placed c.len-added.ensures refl,
      short_placed c.self.inside.groups.entries c.insert_new.new.values.entries c.args.place c.args.name c.args.items c.len-added.result c.self.invariant.2
          c.in_ok-insert_new.ensures.placed c.len-added.ensures few,
    )
