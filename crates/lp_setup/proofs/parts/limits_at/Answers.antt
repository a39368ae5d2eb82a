-- The row at the place has these limits, or its range sum is refused.
use Rattle.std.proofs.Common.{ℕ, ◌≡◌, Some, sym, ap, ◌∙◌, subst, arith, Option}
use Rattle.exact_values.specs.Rational.{ℚ}
use Rattle.problem_definitions.specs.declared.RowKind.{RowKind}
use Rattle.problem_definitions.specs.Problem.{Row}
use Rattle.selection_definitions.specs.Limits.{row_limits}
use Rattle.lp_setup.specs.Parts.{IsRangeSumRefusal}
use Rattle.lp_setup.proofs.Lists.{limits_at, standing}
use Rattle.check_definitions.specs.declared.Verdict.TheVariants.{Checked}
use Rattle.check_definitions.specs.Steps.{verdict_of}
use Rattle.selection_definitions.specs.Making.{range_steps}
use Rattle.lp_setup.proofs.Made.{row_made}
use Rattle.lp_setup.proofs.parts.limits_at.Goals as goal

pub returns-in-Ok-clause-limits : goal.returns-in-Ok-clause-limits
returns-in-Ok-clause-limits c =
    let row : Row ℕ = c.index-rows-place.result in
    let side : ℚ = c.index-sides-place.result in
    let range : Option ℚ = c.index-ranges-place.result in
    let is_kind : c.row.inside.kind ≡ row.kind = ap (λ (r : Row ℕ). r.kind) c.row.view_is in
    limits_at c.args.rows.now c.args.sides.now c.args.ranges.now c.args.place row side range
    (standing c.args.rows.now c.args.place row c.requires.row c.index-rows-place.is)
    (standing c.args.sides.now c.args.place side (omega (arith, c.requires.side)) c.index-sides-place.is)
    (standing c.args.ranges.now c.args.place range (omega (arith, c.requires.range)) c.index-ranges-place.is)
    ∙ ap Some (sym (c.in-Ok.ensures.limits ∙ ap (λ (kind : RowKind). row_limits kind side range) is_kind))

pub returns-in-Ok-clause-made : goal.returns-in-Ok-clause-made
returns-in-Ok-clause-made c =
    let row : Row ℕ = c.index-rows-place.result in
    let side : ℚ = c.index-sides-place.result in
    let range : Option ℚ = c.index-ranges-place.result in
    let is_kind : c.row.inside.kind ≡ row.kind = ap (λ (r : Row ℕ). r.kind) c.row.view_is in
    row_made c.args.rows.now c.args.sides.now c.args.ranges.now c.args.place row side range
    (standing c.args.rows.now c.args.place row c.requires.row c.index-rows-place.is)
    (standing c.args.sides.now c.args.place side (omega (arith, c.requires.side)) c.index-sides-place.is)
    (standing c.args.ranges.now c.args.place range (omega (arith, c.requires.range)) c.index-ranges-place.is)
    (subst (λ (kind : RowKind). verdict_of (range_steps kind side range) ≡ Checked) is_kind c.in-Ok.ensures.made)

pub returns-in-Err-clause-overflow : goal.returns-in-Err-clause-overflow
returns-in-Err-clause-overflow c =
    let row : Row ℕ = c.index-rows-place.result in
    let side : ℚ = c.index-sides-place.result in
    let range : Option ℚ = c.index-ranges-place.result in
    let is_kind : c.row.inside.kind ≡ row.kind = ap (λ (r : Row ℕ). r.kind) c.row.view_is in
    record {
      place = c.args.place;
      row = row;
      is_row = standing c.args.rows.now c.args.place row c.requires.row c.index-rows-place.is;
      side = side;
      is_side = standing c.args.sides.now c.args.place side (omega (arith, c.requires.side)) c.index-sides-place.is;
      range = range;
      is_range = standing c.args.ranges.now c.args.place range (omega (arith, c.requires.range)) c.index-ranges-place.is;
      refused = subst (λ (kind : RowKind). IsRangeSumRefusal kind side range c.refused_on.result.refused) is_kind
          (subst (IsRangeSumRefusal c.row.inside.kind side range) (sym c.refused_on.ensures.refused) c.in-Err.ensures.refused);
      names = c.refused_on.ensures.names;
      no_way = c.refused_on.ensures.no_way;
      no_theta = c.refused_on.ensures.no_theta;
    }
