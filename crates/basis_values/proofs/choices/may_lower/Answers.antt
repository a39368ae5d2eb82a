use Rattle.std.proofs.Common.{◌∙◌, ap}
use Rattle.lp_model.specs.Wanted.{is_wanted}
use Rattle.lp_model.specs.declared.wanted.Wanted.{Wanted}
use Rattle.basis_values.proofs.WantLaws.{wanted_lowers}
use Rattle.basis_values.proofs.choices.may_lower.Goals as goal

pub returns : goal.returns
returns c =
    c.is_met.ensures ∙ ap (λ (w : Wanted). is_wanted w c.args.rate) c.want_of.ensures ∙ wanted_lowers c.args.lp.now c.args.basis.now c.args.rate c.args.k
