-- The set that is found is the only one of its name.
use Rattle.std.proofs.Common.{◌≡◌, Some, sym, ap, ◌∙◌}
use Rattle.std.specs.List.{find}
use Rattle.problem_definitions.specs.Names.{same}
use Rattle.lp_setup.proofs.Sets.{found-there, none-there, found-items}
use Rattle.lp_setup.proofs.chosen.items_named.Goals as goal

pub returns-in_err-set-clause-missing : goal.returns-in_err-set-clause-missing
returns-in_err-set-clause-missing g c = rw c.from_residual.ensures (none-there c.args.name.now c.args.sets.now (sym c.in_err-set.ensures))

pub returns-clause-found : goal.returns-clause-found
returns-clause-found g c =
    let found : find (λ set. same c.args.name.now set.name) c.args.sets.now ≡ Some c.in_ok-set.set.now = sym c.in_ok-set.ensures in (
      found-there c.args.name.now c.args.sets.now c.in_ok-set.set.now found,
      c.deref.ensures.value ∙ ap (λ set. set.items) c.set.view_is ∙ sym (found-items c.args.name.now c.args.sets.now c.in_ok-set.set.now c.requires found),
    )
