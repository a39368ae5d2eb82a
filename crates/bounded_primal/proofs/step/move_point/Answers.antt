use Rattle.std.proofs.Common.{◌≡◌, ◌+◌, ◌≤◌, ◌<◌, ℕ, Bool, List, length, get_or, drop, rules, true, false, refl, sym, ◌∙◌, subst, ap, arith}
use Rattle.exact_values.specs.Rational.{ℚ, ◌+ℚ◌, ◌*ℚ◌}
use Rattle.lp_definitions.specs.LinearProgram.{LinearProgram, Vector, value_at}
use Rattle.lp_laws.proofs.Places.{value_read}
use Rattle.bounded_primal.specs.KeptPoints.{has_limit, all_kept, all_needed}
use Rattle.bounded_primal.specs.Steps.{MovedRefused}
use Rattle.bounded_primal.proofs.Agreement.{needed_kept}
use Rattle.bounded_primal.proofs.LookedAt.{IsDoneUpTo, IsDoneBefore, IsMovedUpTo, listed_cover, begun, one_more, next_at, end_at, moved_over, moved_by}
use Rattle.bounded_primal.proofs.LookedAt.{moved_but, or_left, or_right}
use Rattle.bounded_primal.proofs.Still.{no_step}
use Rattle.bounded_primal.proofs.step.move_point.Goals as goal

-- what is moved of the variables before the next one
before : (p : LinearProgram) (t : ℚ) (ds : List ℚ) (z w : Vector) (all : Bool) (ks : List ℕ) (i : ℕ) → i < length ks →
    IsDoneUpTo ds (IsMovedUpTo p t (value_at ds) z w all) (drop i ks) →
    IsDoneBefore ds (IsMovedUpTo p t (value_at ds) z w all) (get_or ks i 0) (drop (i + 1) ks)
before p t ds z w all ks i below h = next_at ds (IsMovedUpTo p t (value_at ds) z w all) (moved_over p t (value_at ds) z w all) ks i (get_or ks i 0) below refl h

pub returns-then-is_zero-clause-limited : goal.returns-then-is_zero-clause-limited
returns-then-is_zero-clause-limited c = λ k low high limited.
    no_step c.args.step.now.by.now.step (value_at c.args.point.now k) (value_at c.args.step.now.direction.now k) (c.if-is_zero.ensures.0 refl)

pub returns-then-is_zero-clause-moved : goal.returns-then-is_zero-clause-moved
returns-then-is_zero-clause-moved c = λ all k low high.
    no_step c.args.step.now.by.now.step (value_at c.args.point.now k) (value_at c.args.step.now.direction.now k) (c.if-is_zero.ensures.0 refl)

pub returns-then-is_zero-clause-needed : goal.returns-then-is_zero-clause-needed
returns-then-is_zero-clause-needed c = needed_kept c.args.kept

pub loop-k-init : goal.loop-k-init
loop-k-init c = record {
  done = begun c.values-direction.result.now _ c.nonzero-moving.result.now
      (rw c.values-direction.ensures (listed_cover c.args.step.now.direction.now 1 c.nonzero-moving.result.now c.nonzero-moving.ensures)) (record {
        limited = λ k low high. absurd (omega (arith, low, high));
        moved = λ kept k low high. absurd (omega (arith, low, high));
        rest = λ k above. refl;
      });
  kept = λ kept. kept;
  needed = needed_kept c.args.kept;
  scaled = c.new-scaled.ensures;
}

pub is_left_out-requires : goal.is_left_out-requires
is_left_out-requires c =
    let next =
    before c.args.lp.now c.args.step.now.by.now.step c.values-direction.result.now (value_at c.args.point.now) (value_at c.loop-k.point)
    (all_kept c.loop-k.still) c.nonzero-moving.result.now c.loop-k.k-index c.loop-k-test.true c.loop-k.invariant.done in
    (omega (arith, next.is_next), omega (arith, next.within, ap length c.values-direction.ensures, c.requires.direction_places))

pub overflow_sub-place : goal.overflow_sub-place
overflow_sub-place c =
    let next = before c.args.lp.now c.args.step.now.by.now.step c.values-direction.result.now (value_at c.args.point.now) (value_at c.loop-k.point)
    (all_kept c.loop-k.still) c.nonzero-moving.result.now c.loop-k.k-index c.loop-k-test.true c.loop-k.invariant.done in omega (arith, next.is_next)

pub bounds-point-place : goal.bounds-point-place
bounds-point-place c =
    let next = before c.args.lp.now c.args.step.now.by.now.step c.values-direction.result.now (value_at c.args.point.now) (value_at c.loop-k.point)
    (all_kept c.loop-k.still) c.nonzero-moving.result.now c.loop-k.k-index c.loop-k-test.true c.loop-k.invariant.done in omega
    (arith, next.is_next, next.within, ap length c.values-direction.ensures, c.requires.direction_places, c.requires.point_places)

pub bounds-direction-place : goal.bounds-direction-place
bounds-direction-place c =
    let next = before c.args.lp.now c.args.step.now.by.now.step c.values-direction.result.now (value_at c.args.point.now) (value_at c.loop-k.point)
    (all_kept c.loop-k.still) c.nonzero-moving.result.now c.loop-k.k-index c.loop-k-test.true c.loop-k.invariant.done in omega
    (arith, next.is_next, next.within)

pub bounds-point-place-in-loop-k : goal.bounds-point-place-in-loop-k
bounds-point-place-in-loop-k c =
    let next = before c.args.lp.now c.args.step.now.by.now.step c.values-direction.result.now (value_at c.args.point.now) (value_at c.loop-k.point)
    (all_kept c.loop-k.still) c.nonzero-moving.result.now c.loop-k.k-index c.loop-k-test.true c.loop-k.invariant.done in omega
    (arith, next.is_next, next.within, ap length c.values-direction.ensures, c.requires.direction_places, c.requires.point_places)

pub loop-k-preserved-then-is_left_out : goal.loop-k-preserved-then-is_left_out
loop-k-preserved-then-is_left_out c =
    let k = get_or c.nonzero-moving.result.now c.loop-k.k-index 0 in
    let next =
    before c.args.lp.now c.args.step.now.by.now.step c.values-direction.result.now (value_at c.args.point.now) (value_at c.loop-k.point)
    (all_kept c.loop-k.still) c.nonzero-moving.result.now c.loop-k.k-index c.loop-k-test.true c.loop-k.invariant.done in
    record {
      done = one_more c.values-direction.result.now _ k _ next.within next.left
          (moved_but c.args.lp.now c.args.step.now.by.now.step (value_at c.values-direction.result.now) (value_at c.args.point.now) (value_at c.loop-k.point)
          (all_kept c.loop-k.still) (all_kept c.loop-k.still) next.before k next.is_next
          (λ h. let e = sym (c.if-is_left_out.ensures.needless refl) ∙ or_right (all_needed c.args.kept) (has_limit c.args.lp.now k) h in
          absurd (let clash : false ≡ true = e in cc))
          (λ all. let e = sym (c.if-is_left_out.ensures.given_up refl) ∙ all in absurd (let clash : false ≡ true = e in cc)) next.done);
      kept = c.loop-k.invariant.kept;
      needed = c.loop-k.invariant.needed;
      scaled = c.loop-k.invariant.scaled;
    }

pub is_needed-requires : goal.is_needed-requires
is_needed-requires c =
    let next =
    before c.args.lp.now c.args.step.now.by.now.step c.values-direction.result.now (value_at c.args.point.now) (value_at c.loop-k.point)
    (all_kept c.loop-k.still) c.nonzero-moving.result.now c.loop-k.k-index c.loop-k-test.true c.loop-k.invariant.done in
    (omega (arith, next.is_next), omega (arith, next.within, ap length c.values-direction.ensures, c.requires.direction_places))

pub returns-then-is_needed-clause-refused : goal.returns-then-is_needed-clause-refused
returns-then-is_needed-clause-refused c =
    let k = get_or c.nonzero-moving.result.now c.loop-k.k-index 0 in
    let next =
    before c.args.lp.now c.args.step.now.by.now.step c.values-direction.result.now (value_at c.args.point.now) (value_at c.loop-k.point)
    (all_kept c.loop-k.still) c.nonzero-moving.result.now c.loop-k.k-index c.loop-k-test.true c.loop-k.invariant.done in
    let places : length c.values-direction.result.now ≡ length c.args.step.now.direction.now = ap length c.values-direction.ensures in
    let value_is =
    value_read c.loop-k.point k c.index-point-place.result
    (omega (arith, next.is_next, next.within, places, c.requires.direction_places, c.requires.point_places)) c.index-point-place.is
    ∙ next.done.rest k (omega (arith, next.is_next)) in
    let rate_is =
    value_read c.values-direction.result.now k c.index-direction-place.result (omega (arith, next.is_next, next.within)) c.index-direction-place.is in
    rw (← c.values-direction.ensures) (record {
      i = k;
      is = (omega (arith, next.is_next), omega (arith, next.within, places, c.requires.direction_places));
      needed = sym c.is_needed.ensures ∙ c.if-is_needed.true;
      moves = λ e. c.in-Err.ensures.moves (rate_is ∙ e);
      refused =
          subst (λ (x : ℚ). MovedRefused c.args.step.now.by.now.step x
          (value_at c.args.point.now k) c.args.step.now.by.now.p c.args.step.now.q k c.in-Err.evidence) rate_is
          (subst (λ (x : ℚ). MovedRefused c.args.step.now.by.now.step c.index-direction-place.result x
          c.args.step.now.by.now.p c.args.step.now.q k c.in-Err.evidence) (sym c.index-point-place.is ∙ value_is) c.in-Err.ensures.refused);
    })

pub loop-k-preserved-in-Err : goal.loop-k-preserved-in-Err
loop-k-preserved-in-Err c =
    let k = get_or c.nonzero-moving.result.now c.loop-k.k-index 0 in
    let next =
    before c.args.lp.now c.args.step.now.by.now.step c.values-direction.result.now (value_at c.args.point.now) (value_at c.loop-k.point)
    (all_kept c.loop-k.still) c.nonzero-moving.result.now c.loop-k.k-index c.loop-k-test.true c.loop-k.invariant.done in
    let never : c.is_needed.result ≡ true → ⊥ = λ h. let e = sym c.if-is_needed.false ∙ h in absurd (let clash : false ≡ true = e in cc) in
    record {
      done = one_more c.values-direction.result.now _ k _ next.within next.left
          (moved_but c.args.lp.now c.args.step.now.by.now.step (value_at c.values-direction.result.now) (value_at c.args.point.now) (value_at c.loop-k.point)
          (all_kept c.loop-k.still) false next.before k next.is_next
          (λ h. never (c.is_needed.ensures ∙ or_right (all_needed c.args.kept) (has_limit c.args.lp.now k) h))
          (λ all. absurd (let clash : false ≡ true = all in cc)) next.done);
      kept = λ all. absurd (let clash : false ≡ true = all in cc);
      needed = λ h. absurd (never (c.is_needed.ensures ∙ or_left (all_needed c.args.kept) (has_limit c.args.lp.now k) h));
      scaled = search rules;
    }

pub loop-k-preserved : goal.loop-k-preserved
loop-k-preserved c =
    let k = get_or c.nonzero-moving.result.now c.loop-k.k-index 0 in
    let next =
    before c.args.lp.now c.args.step.now.by.now.step c.values-direction.result.now (value_at c.args.point.now) (value_at c.loop-k.point)
    (all_kept c.loop-k.still) c.nonzero-moving.result.now c.loop-k.k-index c.loop-k-test.true c.loop-k.invariant.done in
    let places : length c.values-direction.result.now ≡ length c.args.step.now.direction.now = ap length c.values-direction.ensures in
    let fits : k ≤ length c.loop-k.point = omega (arith, next.within, places, c.requires.direction_places, c.requires.point_places) in
    let value_is = value_read c.loop-k.point k c.index-point-place.result (omega (arith, next.is_next, fits)) c.index-point-place.is in
    let rate_is =
    value_read c.values-direction.result.now k c.index-direction-place.result (omega (arith, next.is_next, next.within)) c.index-direction-place.is in
    let value : c.in-Ok.next ≡ c.index-point-place.result +ℚ c.args.step.now.by.now.step *ℚ c.index-direction-place.result = search rules in
    record {
      done = one_more c.values-direction.result.now _ k _ next.within next.left
          (moved_by c.args.lp.now c.args.step.now.by.now.step (value_at c.values-direction.result.now) (value_at c.args.point.now) c.loop-k.point
          (all_kept c.loop-k.still) next.before k c.in-Ok.next c.index-point-place.result c.index-direction-place.result
          next.is_next fits value_is rate_is value next.done);
      kept = c.loop-k.invariant.kept;
      needed = c.loop-k.invariant.needed;
      scaled = search rules;
    }

-- what is moved in the end
at_end : (c : goal.After-loop-k) →
    IsMovedUpTo c.args.lp.now c.args.step.now.by.now.step (value_at c.values-direction.result.now) (value_at c.args.point.now) (value_at c.loop-k.point)
    (all_kept c.loop-k.still) (length c.values-direction.result.now)
at_end c =
    end_at c.values-direction.result.now
    (IsMovedUpTo c.args.lp.now c.args.step.now.by.now.step (value_at c.values-direction.result.now) (value_at c.args.point.now) (value_at c.loop-k.point)
    (all_kept c.loop-k.still))
    (moved_over c.args.lp.now c.args.step.now.by.now.step (value_at c.values-direction.result.now) (value_at c.args.point.now) (value_at c.loop-k.point)
    (all_kept c.loop-k.still))
    c.nonzero-moving.result.now c.loop-k.k-index (omega (arith, c.loop-k-test.false)) c.loop-k.invariant.done

pub returns-clause-limited : goal.returns-clause-limited
returns-clause-limited c =
    rw (← c.values-direction.ensures)
    (λ k low high. (at_end c).limited k low (omega (arith, high, ap length c.values-direction.ensures, c.requires.direction_places)))

pub returns-clause-moved : goal.returns-clause-moved
returns-clause-moved c all =
    rw (← c.values-direction.ensures)
    (λ k low high. (at_end c).moved all k low (omega (arith, high, ap length c.values-direction.ensures, c.requires.direction_places)))
