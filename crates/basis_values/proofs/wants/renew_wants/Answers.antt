use Rattle.basis_values.proofs.WantLaws.{wants_renewed}
use Rattle.basis_values.proofs.wants.renew_wants.Goals as goal

pub returns : goal.returns
returns c =
    wants_renewed c.args.lp.now c.args.basis.now c.args.p c.args.q c.args.wants.now c.requires.first c.requires.second c.requires.others c.want_of.result
    c.want_of-2.result c.want_of.ensures c.want_of-2.ensures
