use Rattle.std.proofs.Common.{◌+◌, ◌∷◌, [], ◌∙◌, List, ap, length}
use Rattle.std.proofs.lemmas.List.{length-append}
use Rattle.exact_values.specs.Rational.{ℚ, whole, neg_ℚ}
use Rattle.lp_definitions.specs.LinearProgram.{value_at}
use Rattle.long_points.proofs.RowSums.{opposites_go_on}
use Rattle.long_points.proofs.rows.opposites.Goals as goal

pub loop-i-preserved : goal.loop-i-preserved
loop-i-preserved c =
    let items = c.in_ok-push.ensures.items in (
      ap length items ∙ length-append c.loop-i.sums.items (c.in_ok-sum.sum ∷ []) ∙ ap (λ n. n + 1) c.loop-i.invariant.0,
      λ values over k first last.
          ap (λ (xs : List ℚ). value_at xs k) items
          ∙ opposites_go_on values c.loop-i.sums.items (whole c.args.column.now.bottom) c.in_ok-sum.sum c.loop-i.i c.loop-i.invariant.0
          (c.loop-i.invariant.1 values over) (c.in_ok-sum.ensures ∙ ap neg_ℚ (c.top_of.ensures values over)) k first last,
    )
