use Rattle.named_problem.proofs.Slots.{ends_taken}
use Rattle.named_problem.proofs.bounds.Bounds.remove_met.Goals as goal

pub returns : goal.returns
returns c =
    ends_taken c.args.column.now c.args.kind c.touches_top.result c.touches_bottom.result c.args.self.now c.remove_end_if.new.self c.remove_end_if-2.new.self
    c.touches_top.ensures c.touches_bottom.ensures
    c.remove_end_if.ensures c.remove_end_if-2.ensures
