use Rattle.named_problem.proofs.NamedValues.{placed}
use Rattle.named_problem.proofs.named.insert_new.Goals as goal

pub returns-clause-placed : goal.returns-clause-placed
returns-clause-placed g c =
    placed c.args.name c.args.value c.args.values.now.entries c.insert.new.self.entries c.move_index.new.self.entries c.args.place c.len-last.result
    c.min.result
    c.requires c.in_ok-insert.ensures.entries c.len-last.ensures.len c.min.ensures c.move_index.ensures.entries
