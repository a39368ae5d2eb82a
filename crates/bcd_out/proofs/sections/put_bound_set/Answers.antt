use Rattle.std.proofs.Common.{◌≡◌, ap, rules}
use Rattle.std.specs.List.{flat_map}
use Rattle.problem_definitions.specs.Problem.{group_names}
use Rattle.job_devices.proofs.TextLemmas.{writes_same}
use Rattle.bcd_out.specs.Lines.{bound_line}
use Rattle.bcd_out.proofs.sections.put_bound_set.Goals as goal

pub returns : goal.returns
returns g c =
    let items : c.deref.result.now ≡ c.args.set.now.items = search rules in
    writes_same (ap (flat_map (bound_line (group_names c.args.columns.now) c.args.set.now.name)) items)
    (c.put_in_turn.ensures (bound_line (group_names c.args.columns.now) c.args.set.now.name) (λ before x result after met. search rules))
