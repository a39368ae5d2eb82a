use Rattle.std.proofs.Common.{◌||◌, ◌&&◌, ap, sym, ◌∙◌}
use Rattle.std.specs.List.{list_any}
use Rattle.problem_definitions.specs.Kinds.{touches_lower}
use Rattle.named_problem.proofs.Slots.{met_at_ends}
use Rattle.named_problem.specs.declared.ends.ColumnEnd.TheVariants.{Upper, Lower}
use Rattle.named_problem.specs.NotedEnds.{is_at_end}
use Rattle.named_problem.proofs.bounds.Bounds.has_met.Goals as goal

pub returns-then-has_end_if : goal.returns-then-has_end_if
returns-then-has_end_if c =
    c.if-has_end_if.true ∙ ap (λ a. a || touches_lower c.args.kind && list_any (is_at_end Lower c.args.column.now) c.args.self.now)
    (sym c.if-has_end_if.true ∙ c.has_end_if.ensures ∙ ap (λ b. b && list_any (is_at_end Upper c.args.column.now) c.args.self.now) c.touches_top.ensures)
    ∙ sym (met_at_ends c.args.column.now c.args.kind c.args.self.now)

pub returns-else-has_end_if : goal.returns-else-has_end_if
returns-else-has_end_if c =
    c.has_end_if-else-has_end_if.ensures ∙ ap (λ b. b && list_any (is_at_end Lower c.args.column.now) c.args.self.now) c.touches_bottom.ensures
    ∙ ap (λ a. a || touches_lower c.args.kind && list_any (is_at_end Lower c.args.column.now) c.args.self.now)
    (sym c.if-has_end_if.false ∙ c.has_end_if.ensures ∙ ap (λ b. b && list_any (is_at_end Upper c.args.column.now) c.args.self.now) c.touches_top.ensures)
    ∙ sym (met_at_ends c.args.column.now c.args.kind c.args.self.now)
