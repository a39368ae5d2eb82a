use Rattle.std.proofs.Common.{◌≡◌, ◌∙◌, ◌+◌, ◌<◌, ℕ, Bool, List, length, get_or, drop, Err, refl, sym, rules, subst, ap, arith}
use Rattle.std.specs.Prelude.{Option}
use Rattle.exact_values.specs.Rational.{ℚ}
use Rattle.lp_definitions.specs.LinearProgram.{LinearProgram, Vector, value_at}
use Rattle.simplex_definitions.specs.Moves.{step_length}
use Rattle.basis_values.specs.Motions.{motion}
use Rattle.basis_values.specs.declared.reach.Reach.{Reach}
use Rattle.bounded_primal.proofs.AtOnce.{nearest_at_once}
use Rattle.bounded_primal.proofs.LookedAt.{IsDoneUpTo, IsDoneBefore, NearestUpTo, listed_cover, begun, one_more, next_at, end_at, nearest_over, nearest_by}
use Rattle.bounded_primal.proofs.stopping.nearest_by_lengths.Goals as goal

-- what is nearest of the variables before the next one
before : (p : LinearProgram) (z : Vector) (ds : List ℚ) (up : Bool) (nearest : Option Reach) (ks : List ℕ) (i : ℕ) → i < length ks →
    IsDoneUpTo ds (NearestUpTo p z (value_at ds) up nearest) (drop i ks) →
    IsDoneBefore ds (NearestUpTo p z (value_at ds) up nearest) (get_or ks i 0) (drop (i + 1) ks)
before p z ds up nearest ks i below h =
    next_at ds (NearestUpTo p z (value_at ds) up nearest) (nearest_over p z (value_at ds) up nearest) ks i (get_or ks i 0) below refl h

pub loop-k-init : goal.loop-k-init
loop-k-init c =
    begun c.values-values.result.now _ c.nonzero-moving.result.now
    (rw c.values-values.ensures (listed_cover c.args.direction.now 1 c.nonzero-moving.result.now c.nonzero-moving.ensures))
    (λ k low high. absurd (omega (arith, low, high)))

pub is_no_nearer-requires-clause-variable : goal.is_no_nearer-requires-clause-variable
is_no_nearer-requires-clause-variable c =
    let next =
    before c.args.lp.now
    (value_at c.args.point.now) c.values-values.result.now c.args.up c.loop-k.nearest c.nonzero-moving.result.now c.loop-k.k-index c.loop-k-test.true
    c.loop-k.invariant in
    (omega (arith, next.is_next), omega (arith, next.within, ap length c.values-values.ensures, c.requires.direction_places))

pub loop-k-preserved-then-is_no_nearer : goal.loop-k-preserved-then-is_no_nearer
loop-k-preserved-then-is_no_nearer c =
    let k = get_or c.nonzero-moving.result.now c.loop-k.k-index 0 in
    let next =
    before c.args.lp.now
    (value_at c.args.point.now) c.values-values.result.now c.args.up c.loop-k.nearest c.nonzero-moving.result.now c.loop-k.k-index c.loop-k-test.true
    c.loop-k.invariant in
    one_more c.values-values.result.now _ k _ next.within next.left
    (nearest_by c.args.lp.now (value_at c.args.point.now)
    (value_at c.values-values.result.now) c.args.up next.before k c.loop-k.nearest c.loop-k.nearest
    (step_length c.args.lp.now (value_at c.args.point.now) (motion (value_at c.values-values.result.now) c.args.up) k)
    next.is_next next.done refl (sym (c.if-is_no_nearer.ensures refl)))

pub length_to-requires-clause-variable : goal.length_to-requires-clause-variable
length_to-requires-clause-variable c =
    let next =
    before c.args.lp.now
    (value_at c.args.point.now) c.values-values.result.now c.args.up c.loop-k.nearest c.nonzero-moving.result.now c.loop-k.k-index c.loop-k-test.true
    c.loop-k.invariant in
    (omega (arith, next.is_next), omega (arith, next.within, ap length c.values-values.ensures, c.requires.direction_places))

pub returns-in_err-length-clause-refused : goal.returns-in_err-length-clause-refused
returns-in_err-length-clause-refused c =
    let is_err : c.from_residual.result ≡ Err c.in_err-length.field-0.0 = search rules in
    let next =
    before c.args.lp.now
    (value_at c.args.point.now) c.values-values.result.now c.args.up c.loop-k.nearest c.nonzero-moving.result.now c.loop-k.k-index c.loop-k-test.true
    c.loop-k.invariant in
    rw is_err (
      get_or c.nonzero-moving.result.now c.loop-k.k-index 0,
      (
        omega (arith, next.is_next),
        omega
            (arith, next.within, ap length c.values-values.ensures, c.requires.direction_places),
      ),
      rw c.values-values.ensures at c.in_err-length.ensures.refused,
    )

pub returns-then-is_at_once-clause-nearest : goal.returns-then-is_at_once-clause-nearest
returns-then-is_at_once-clause-nearest c =
    let k = get_or c.nonzero-moving.result.now c.loop-k.k-index 0 in
    let next =
    before c.args.lp.now
    (value_at c.args.point.now) c.values-values.result.now c.args.up c.loop-k.nearest c.nonzero-moving.result.now c.loop-k.k-index c.loop-k-test.true
    c.loop-k.invariant in
    rw (← c.values-values.ensures)
    (nearest_at_once c.args.lp.now (value_at c.args.point.now) (motion (value_at c.values-values.result.now) c.args.up) c.requires.within k
    (omega (arith, next.within, ap length c.values-values.ensures, c.requires.direction_places)) c.nearer-nearest.result (c.if-is_at_once.ensures.0 refl)
    (nearest_by c.args.lp.now (value_at c.args.point.now)
    (value_at c.values-values.result.now) c.args.up next.before k c.loop-k.nearest c.nearer-nearest.result c.in_ok-length.length next.is_next next.done
    c.in_ok-length.ensures.length c.nearer-nearest.ensures))

pub loop-k-preserved : goal.loop-k-preserved
loop-k-preserved c =
    let k = get_or c.nonzero-moving.result.now c.loop-k.k-index 0 in
    let next =
    before c.args.lp.now
    (value_at c.args.point.now) c.values-values.result.now c.args.up c.loop-k.nearest c.nonzero-moving.result.now c.loop-k.k-index c.loop-k-test.true
    c.loop-k.invariant in
    one_more c.values-values.result.now _ k _ next.within next.left
    (nearest_by c.args.lp.now (value_at c.args.point.now)
    (value_at c.values-values.result.now) c.args.up next.before k c.loop-k.nearest c.nearer-nearest.result c.in_ok-length.length next.is_next next.done
    c.in_ok-length.ensures.length c.nearer-nearest.ensures)

pub returns-clause-nearest : goal.returns-clause-nearest
returns-clause-nearest c =
    let places : length c.values-values.result.now ≡ length c.args.direction.now = ap length c.values-values.ensures in
    rw (← c.values-values.ensures)
    (subst (NearestUpTo c.args.lp.now (value_at c.args.point.now) (value_at c.values-values.result.now) c.args.up c.loop-k.nearest)
    (places ∙ c.requires.direction_places)
    (end_at c.values-values.result.now (NearestUpTo c.args.lp.now (value_at c.args.point.now) (value_at c.values-values.result.now) c.args.up c.loop-k.nearest)
    (nearest_over c.args.lp.now (value_at c.args.point.now) (value_at c.values-values.result.now) c.args.up c.loop-k.nearest)
    c.nonzero-moving.result.now c.loop-k.k-index (omega (arith, c.loop-k-test.false)) c.loop-k.invariant))
