use Rattle.std.proofs.Common.{◌≡◌, ◌∙◌, ap, sym, to_z}
use Rattle.std.specs.Int.{w128}
use Rattle.std.specs.Prelude.{unsigned_abs}
use Rattle.frac128.proofs.Parts.{read_fitting}
use Rattle.basis_values.proofs.Lengths.{whole_less_made}
use Rattle.basis_values.proofs.reach.whole_less.Goals as goal

pub returns : goal.returns
returns c =
    let value = c.terms-num.ensures in
    let one : c.args.limit.denominator ≡ 1 =
    ap unsigned_abs (sym c.den.ensures.value ∙ sym (read_fitting c.den.result c.den.ensures.fits) ∙ ap (to_z w128) c.if-den-ne1.false) in
    c.new.ensures
    ∙ whole_less_made c.args.limit c.args.value.now c.terms-num.result.0 c.terms-num.result.1 c.num.result c.in_ok-scaled.scaled c.in_ok-left.left one
    value.at_least_one value.value value.num_fits value.den_fits c.num.ensures.fits c.num.ensures.value c.in_ok-scaled.ensures c.in_ok-left.ensures
