use Rattle.std.proofs.Common.{◌+◌, sym, ◌∙◌, ap}
use Rattle.lp_definitions.specs.Basis.{basics_of}
use Rattle.basis_values.proofs.PointSums.{count-basic, count-nonbasic}
use Rattle.basis_values.proofs.point.counted_on.Goals as goal

pub returns-then-stands_basic-clause-counted : goal.returns-then-stands_basic-clause-counted
returns-then-stands_basic-clause-counted c =
    c.requires.counted ∙ count-basic (basics_of c.args.basis.now) c.args.k (sym c.stands_basic.ensures ∙ c.if-stands_basic.true)

pub returns-else-stands_basic-clause-counted : goal.returns-else-stands_basic-clause-counted
returns-else-stands_basic-clause-counted c =
    ap (λ n. n + 1) c.requires.counted ∙ count-nonbasic (basics_of c.args.basis.now) c.args.k (sym c.stands_basic.ensures ∙ c.if-stands_basic.false)
