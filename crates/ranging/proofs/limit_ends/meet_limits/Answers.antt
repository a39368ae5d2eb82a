use Rattle.std.proofs.Common.{◌≡◌, ◌+◌, Err, rules, arith, inr, sym, ◌∙◌, ap, subst}
use Rattle.std.proofs.lemmas.List.{length-set}
use Rattle.lp_definitions.specs.LinearProgram.{value_at}
use Rattle.lp_definitions.specs.Basis.{status_of}
use Rattle.simplex_definitions.specs.Ranges.{stands_at_limit}
use Rattle.ranging.specs.LimitEnds.{distances_of, IsWithBasic}
use Rattle.ranging.proofs.Distances.{met, met_next, rate_refused}
use Rattle.ranging.proofs.limit_ends.meet_limits.Goals as goal
use Rattle.lp_laws.proofs.Places.{value_next, value_read}

pub returns-in_err-now-clause-refused : goal.returns-in_err-now-clause-refused
returns-in_err-now-clause-refused c =
    let is_err : c.from_residual-in_err-now.result ≡ Err c.in_err-now.field-0.0 = search rules in
    let value : c.index-point-i.result ≡ value_at c.args.point.now c.args.i =
    value_read c.args.point.now c.args.i c.index-point-i.result (omega arith) c.index-point-i.is in
    rw is_err (inr
    (rate_refused c.args.lp.now (value_at c.args.point.now c.args.i) c.args.i (value_at c.args.row.now)
    (c.loop-k.k + 1) c.index-row-k.result c.in_err-now.field-0.0 c.in_ok-far.far
    (c.in_ok-far.ensures.distances ∙ ap (λ v. distances_of c.args.lp.now v c.args.i) value)
    (omega arith, omega arith)
    (value_next c.args.row.now c.loop-k.k c.index-row-k.result (omega arith) c.index-row-k.is)
    c.in_err-now.ensures.refused))

pub loop-k-preserved : goal.loop-k-preserved
loop-k-preserved c =
    let value : c.index-point-i.result ≡ value_at c.args.point.now c.args.i =
    value_read c.args.point.now c.args.i c.index-point-i.result (omega arith) c.index-point-i.is in
    let rate : value_at c.args.row.now (c.loop-k.k + 1) ≡ c.index-row-k.result =
    value_next c.args.row.now c.loop-k.k c.index-row-k.result (omega arith) c.index-row-k.is in
    record {
      met =
          met_next c.args.lp.now c.args.basis.now (value_at c.args.point.now c.args.i)
          (value_at c.args.row.now) c.args.i c.args.ends.now c.loop-k.k c.loop-k.ends c.index-ends-k.result c.in_ok-now.now (omega arith) c.index-ends-k.is
          (λ stands. met c.args.lp.now (value_at c.args.point.now c.args.i) c.args.i c.requires.low c.requires.high
          (value_at c.args.row.now (c.loop-k.k + 1)) c.in_ok-far.far
          (c.in_ok-far.ensures.distances ∙ ap (λ v. distances_of c.args.lp.now v c.args.i) value)
          (stands_at_limit (status_of c.args.basis.now (c.loop-k.k + 1))) stands c.index-ends-k.result c.in_ok-now.now
          (subst (λ r. IsWithBasic
          (stands_at_limit (status_of c.args.basis.now (c.loop-k.k + 1))) c.in_ok-far.far r c.args.i c.index-ends-k.result c.in_ok-now.now)
          (sym rate) c.in_ok-now.ensures.ends))
          c.loop-k.invariant.met;
      places = length-set c.loop-k.ends c.loop-k.k c.in_ok-now.now ∙ c.loop-k.invariant.places;
    }
