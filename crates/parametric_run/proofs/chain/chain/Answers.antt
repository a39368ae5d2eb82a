use Rattle.std.proofs.Common.{map, sym, subst, ◌∙◌, arith}
use Rattle.std.proofs.lemmas.Result.{err_from_is_err_and}
use Rattle.exact_values.specs.Rational.{◌<ℚ◌}
use Rattle.exact_values.proofs.Order.{le_refl}
use Rattle.exact_values.proofs.TestsLaws.{same_from_test}
use Rattle.lp_model.proofs.Stops.{IfOverflow-map}
use Rattle.bounded_primal.specs.declared.moves.PrimalStop.TheVariants.{NoMemory}
use Rattle.parametric_run.specs.Calls.{part_of}
use Rattle.parametric_run.proofs.Chains.{before_max}
use Rattle.parametric_run.proofs.ChainWalk.{Begins, refused_interval, progress, parts_begin, parts_more, ends_at_max, ends_past, opens_first_any, first_stops}
use Rattle.parametric_run.proofs.ChainWalk.{stops_any, stood_any, follows_any, opens_more, stood_past, faces_stop_any, faces_follow_any}
use Rattle.parametric_run.proofs.chain.chain.Goals as goal

pub returns-in_err-workspace-clause-stops : goal.returns-in_err-workspace-clause-stops
returns-in_err-workspace-clause-stops g c =
    let p = err_from_is_err_and c.from_residual.result c.from_residual.ensures.1 in
    let m = g.M.Parametric.problem c.args.method.now in
    rw (p.1, p.2)
    (first_stops m c.args.span.now c.args.basis.now c.args.opened.now.left (g.R.Rates.state c.args.rates.now).waypoints
    (g.R.Rates.state c.begin.new.rates).waypoints _
    (refused_interval m c.args.basis.now c.args.opened.now.left (g.R.Rates.state c.args.rates.now).waypoints
    (g.R.Rates.state c.begin.new.rates).waypoints c.args.span.now.from c.in_err-workspace.field-0.0 c.in_err-workspace.ensures.overflow))

pub returns-in_err-workspace-clause-waypoints : goal.returns-in_err-workspace-clause-waypoints
returns-in_err-workspace-clause-waypoints g c =
    let m = g.M.Parametric.problem c.args.method.now in
    let before = (g.R.Rates.state c.args.rates.now).waypoints in
    follows_any m c.args.span.now c.args.basis.now c.args.opened.now.left before c.args.span.now.from c.args.basis.now
    (g.R.Rates.state c.begin.new.rates).waypoints c.args.opened.now.left
    (opens_first_any m c.args.span.now c.args.basis.now c.args.opened.now.left before
    (g.R.Rates.state c.begin.new.rates).waypoints c.in_err-workspace.ensures.rates.1) (omega arith)

pub parts-init : goal.parts-init
parts-init g c =
    let m = g.M.Parametric.problem c.args.method.now in
    record {
      rates = c.in_ok-workspace.ensures.rates.0;
      workspace = c.in_ok-workspace.ensures.workspace;
      optimal = c.requires.optimal;
      forward = c.requires.forward;
      within = omega arith;
      begins =
          subst (λ xs. Begins m c.args.span.now c.args.basis.now c.args.opened.now.left
          (map part_of xs) c.args.span.now.from c.args.basis.now c.args.opened.now.left) (sym c.new-parts.ensures.items)
          (parts_begin m c.args.span.now c.args.basis.now c.args.opened.now.left);
      any =
          opens_first_any m c.args.span.now c.args.basis.now c.args.opened.now.left (g.R.Rates.state c.args.rates.now).waypoints
          (g.R.Rates.state c.begin.new.rates).waypoints c.in_ok-workspace.ensures.rates.1;
    }

pub returns-in_err-interval-clause-stops : goal.returns-in_err-interval-clause-stops
returns-in_err-interval-clause-stops g c =
    let p = err_from_is_err_and c.from_residual-in_err-interval.result c.from_residual-in_err-interval.ensures.1 in
    let m = g.M.Parametric.problem c.args.method.now in
    let ways = (g.R.Rates.state c.parts.rates).waypoints in
    rw (p.1, p.2)
    (stops_any m c.args.span.now c.args.basis.now c.args.opened.now.left
    (g.R.Rates.state c.args.rates.now).waypoints c.parts.theta c.parts.basis ways c.parts.left c.parts.invariant.any c.parts.invariant.within _
    (refused_interval m c.parts.basis c.parts.left ways ways c.args.span.now.from c.in_err-interval.field-0.0
    (IfOverflow-map c.in_err-interval.field-0.0
    (λ e h. h (g.R.Rates.state c.parts.rates).waypoints (g.R.Rates.state c.parts.rates).waypoints) c.in_err-interval.ensures.overflow)))

pub returns-in_err-interval-clause-waypoints : goal.returns-in_err-interval-clause-waypoints
returns-in_err-interval-clause-waypoints g c =
    follows_any (g.M.Parametric.problem c.args.method.now) c.args.span.now c.args.basis.now c.args.opened.now.left
    (g.R.Rates.state c.args.rates.now).waypoints c.parts.theta c.parts.basis (g.R.Rates.state c.parts.rates).waypoints c.parts.left
    c.parts.invariant.any c.parts.invariant.within

pub returns-in_err-keep-clause-stops : goal.returns-in_err-keep-clause-stops
returns-in_err-keep-clause-stops g c =
    let p = err_from_is_err_and c.from_residual-in_err-keep.result c.from_residual-in_err-keep.ensures.1 in
    rw (p.1, p.2)
    (stops_any (g.M.Parametric.problem c.args.method.now) c.args.span.now c.args.basis.now c.args.opened.now.left
    (g.R.Rates.state c.args.rates.now).waypoints c.parts.theta c.parts.basis (g.R.Rates.state c.parts.rates).waypoints c.parts.left
    c.parts.invariant.any c.parts.invariant.within NoMemory tt)

pub returns-in_err-keep-clause-waypoints : goal.returns-in_err-keep-clause-waypoints
returns-in_err-keep-clause-waypoints g c =
    follows_any (g.M.Parametric.problem c.args.method.now) c.args.span.now c.args.basis.now c.args.opened.now.left
    (g.R.Rates.state c.args.rates.now).waypoints c.parts.theta c.parts.basis (g.R.Rates.state c.parts.rates).waypoints c.parts.left
    c.parts.invariant.any c.parts.invariant.within

pub returns-then-is_last-clause-ends : goal.returns-then-is_last-clause-ends
returns-then-is_last-clause-ends g c =
    let m = g.M.Parametric.problem c.args.method.now in
    let before = (g.R.Rates.state c.args.rates.now).waypoints in
    rw c.whole_run.ensures
    (ends_at_max m c.args.span.now c.args.basis.now c.args.opened.now.left c.parts.parts.items c.parts.theta c.parts.basis c.parts.left
    c.parts.invariant.begins c.in_ok-interval.interval c.in_ok-interval.ensures.interval
    c.keep.new.parts.items c.in_ok-keep.ensures before (g.R.Rates.state c.parts.rates).waypoints
    (same_from_test c.in_ok-interval.interval.to c.args.span.now.to (sym c.is_last.ensures ∙ c.if-is_last.true))
    (stood_any m c.args.span.now c.args.basis.now c.args.opened.now.left before c.parts.theta c.parts.basis
    (g.R.Rates.state c.parts.rates).waypoints c.parts.left c.parts.invariant.any c.parts.invariant.within))

pub returns-then-is_last-clause-waypoints : goal.returns-then-is_last-clause-waypoints
returns-then-is_last-clause-waypoints g c =
    follows_any (g.M.Parametric.problem c.args.method.now) c.args.span.now c.args.basis.now c.args.opened.now.left
    (g.R.Rates.state c.args.rates.now).waypoints c.parts.theta c.parts.basis (g.R.Rates.state c.parts.rates).waypoints c.parts.left
    c.parts.invariant.any c.parts.invariant.within

pub faces-requires-clause-optimal : goal.faces-requires-clause-optimal
faces-requires-clause-optimal g c =
    c.in_ok-interval.ensures.interval.reaches.optimal c.in_ok-interval.interval.to c.in_ok-interval.ensures.interval.reaches.forward
    (le_refl c.in_ok-interval.interval.to)

pub returns-in_err-after-clause-stops : goal.returns-in_err-after-clause-stops
returns-in_err-after-clause-stops g c =
    let p = err_from_is_err_and c.from_residual-in_err-after.result c.from_residual-in_err-after.ensures.1 in
    let before_end : c.in_ok-interval.interval.to <ℚ c.args.span.now.to =
    before_max c.in_ok-interval.interval.to c.args.span.now.to c.in_ok-interval.ensures.interval.reaches.within (sym c.is_last.ensures ∙ c.if-is_last.false) in
    rw (p.1, p.2)
    (faces_stop_any (g.M.Parametric.problem c.args.method.now) c.args.span.now c.args.basis.now c.args.opened.now.left
    (g.R.Rates.state c.args.rates.now).waypoints c.parts.theta c.parts.basis (g.R.Rates.state c.parts.rates).waypoints c.parts.left
    c.parts.invariant.any c.parts.invariant.within c.in_ok-interval.interval c.in_ok-interval.ensures.interval before_end c.faces.new.basis
    (g.R.Rates.state c.faces.new.rates).waypoints _ c.in_err-after.ensures.found)

pub returns-in_err-after-clause-waypoints : goal.returns-in_err-after-clause-waypoints
returns-in_err-after-clause-waypoints g c =
    let before_end : c.in_ok-interval.interval.to <ℚ c.args.span.now.to =
    before_max c.in_ok-interval.interval.to c.args.span.now.to c.in_ok-interval.ensures.interval.reaches.within (sym c.is_last.ensures ∙ c.if-is_last.false) in
    faces_follow_any (g.M.Parametric.problem c.args.method.now) c.args.span.now c.args.basis.now c.args.opened.now.left
    (g.R.Rates.state c.args.rates.now).waypoints c.parts.theta c.parts.basis (g.R.Rates.state c.parts.rates).waypoints c.parts.left
    c.parts.invariant.any c.parts.invariant.within c.in_ok-interval.interval c.in_ok-interval.ensures.interval before_end c.faces.new.basis
    (g.R.Rates.state c.faces.new.rates).waypoints c.in_err-after.ensures.waypoints

pub returns-in-Ends-clause-ends : goal.returns-in-Ends-clause-ends
returns-in-Ends-clause-ends g c =
    let last = rw c.in-Ends.is at c.in_ok-after.ensures.found in
    let m = g.M.Parametric.problem c.args.method.now in
    let before = (g.R.Rates.state c.args.rates.now).waypoints in
    let before_end : c.in_ok-interval.interval.to <ℚ c.args.span.now.to =
    before_max c.in_ok-interval.interval.to c.args.span.now.to c.in_ok-interval.ensures.interval.reaches.within (sym c.is_last.ensures ∙ c.if-is_last.false) in
    rw c.closed_run.ensures
    (ends_past m c.args.span.now c.args.basis.now c.args.opened.now.left c.parts.parts.items c.parts.theta c.parts.basis c.parts.left c.parts.invariant.begins
    c.in_ok-interval.interval c.in_ok-interval.ensures.interval
    c.keep.new.parts.items c.in_ok-keep.ensures before
    (g.R.Rates.state c.faces.new.rates).waypoints c.faces.new.basis last.left c.in-Ends.end before_end last.reach last.ends
    (stood_past m c.args.span.now c.args.basis.now c.args.opened.now.left before c.parts.theta c.parts.basis
    (g.R.Rates.state c.parts.rates).waypoints c.parts.left c.parts.invariant.any c.parts.invariant.within c.in_ok-interval.interval
    c.in_ok-interval.ensures.interval before_end c.faces.new.basis (g.R.Rates.state c.faces.new.rates).waypoints last.left last.any))

pub returns-in-Ends-clause-waypoints : goal.returns-in-Ends-clause-waypoints
returns-in-Ends-clause-waypoints g c =
    let before_end : c.in_ok-interval.interval.to <ℚ c.args.span.now.to =
    before_max c.in_ok-interval.interval.to c.args.span.now.to c.in_ok-interval.ensures.interval.reaches.within (sym c.is_last.ensures ∙ c.if-is_last.false) in
    faces_follow_any (g.M.Parametric.problem c.args.method.now) c.args.span.now c.args.basis.now c.args.opened.now.left
    (g.R.Rates.state c.args.rates.now).waypoints c.parts.theta c.parts.basis (g.R.Rates.state c.parts.rates).waypoints c.parts.left
    c.parts.invariant.any c.parts.invariant.within c.in_ok-interval.interval c.in_ok-interval.ensures.interval before_end c.faces.new.basis
    (g.R.Rates.state c.faces.new.rates).waypoints c.in_ok-after.ensures.waypoints

pub parts-smaller : goal.parts-smaller
parts-smaller g c =
    let done = rw c.in-Done.is at c.in_ok-after.ensures.found in
    let before_end : c.in_ok-interval.interval.to <ℚ c.args.span.now.to =
    before_max c.in_ok-interval.interval.to c.args.span.now.to c.in_ok-interval.ensures.interval.reaches.within (sym c.is_last.ensures ∙ c.if-is_last.false) in
    progress (g.M.Parametric.problem c.args.method.now) c.requires.parametric c.parts.theta c.args.span.now.to c.parts.basis c.faces.new.basis
    c.in_ok-interval.interval c.parts.left c.in-Done.after
    (record { is_basis = c.parts.invariant.rates.is_basis; nonsingular = c.parts.invariant.rates.nonsingular }) c.in_ok-interval.ensures.interval before_end
    done.reach done.done

pub parts-preserved : goal.parts-preserved
parts-preserved g c =
    let done = rw c.in-Done.is at c.in_ok-after.ensures.found in
    let m = g.M.Parametric.problem c.args.method.now in
    let before_end : c.in_ok-interval.interval.to <ℚ c.args.span.now.to =
    before_max c.in_ok-interval.interval.to c.args.span.now.to c.in_ok-interval.ensures.interval.reaches.within (sym c.is_last.ensures ∙ c.if-is_last.false) in
    record {
      rates = c.in_ok-after.ensures.rates;
      workspace = done.workspace;
      optimal = done.optimal;
      forward = c.in_ok-interval.ensures.interval.reaches.within;
      within = let taken = done.reach.taken in let within = c.parts.invariant.within in omega (arith, taken, within);
      begins =
          parts_more m c.args.span.now c.args.basis.now c.args.opened.now.left c.parts.parts.items c.parts.theta c.parts.basis c.parts.left
          c.parts.invariant.begins c.in_ok-interval.interval c.in_ok-interval.ensures.interval
          c.keep.new.parts.items c.in_ok-keep.ensures c.faces.new.basis c.in-Done.after before_end done.reach done.done;
      any =
          opens_more m c.args.span.now c.args.basis.now c.args.opened.now.left (g.R.Rates.state c.args.rates.now).waypoints c.parts.theta c.parts.basis
          (g.R.Rates.state c.parts.rates).waypoints c.parts.left c.parts.invariant.any
          c.parts.invariant.within c.in_ok-interval.interval c.in_ok-interval.ensures.interval before_end c.faces.new.basis
          (g.R.Rates.state c.faces.new.rates).waypoints c.in-Done.after done.any done.done;
    }
